use Rattle.mj_words.proofs.LineLaws.{value_found, value_refused}
use Rattle.mj_words.proofs.parsing.value_of.Goals as goal

pub returns-in-Some : goal.returns-in-Some
returns-in-Some c = λ line words says. value_found line c.args.name.now words _ c.in-Some.matches _ c.in-Some.is c.get_str.ensures says

pub returns-in-None : goal.returns-in-None
returns-in-None c = λ line words says. value_refused line c.args.name.now words _ c.in-None.is says
