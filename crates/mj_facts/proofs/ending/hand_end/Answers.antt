use Rattle.mj_facts.proofs.CourseKept.{end_of_draw, end_of_wins}
use Rattle.mj_facts.proofs.ending.hand_end.Goals as goal

pub returns-in-Some : goal.returns-in-Some
returns-in-Some c deeds k won = end_of_draw deeds c.args.dealer c.in-Some.draw c.args.draw c.end_by_draw.result c.in-Some.is k c.end_by_draw.ensures

pub returns-in-None : goal.returns-in-None
returns-in-None c deeds k won = end_of_wins deeds c.args.dealer c.args.draw c.args.dealer_among c.in-None.is k won
