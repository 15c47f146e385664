use Rattle.std.proofs.Common.{rules}
use Rattle.mj_words.proofs.LineLaws.{parse_found, parse_refused}
use Rattle.mj_words.proofs.parsing.parse.Goals as goal

pub returns-in-Ok : goal.returns-in-Ok
returns-in-Ok c = parse_found _ _ c.in-Ok.matches c.requires (c.in-Ok.ensures.kinds c.requires) c.in-Ok.ensures.matches

pub returns-else-eq : goal.returns-else-eq
returns-else-eq c = parse_refused _ _ c.in-Err.error (search rules) (c.in-Err.ensures.kinds c.requires)
