use Rattle.std.proofs.Common.{refl}
use Rattle.mj_deeds.proofs.PointLaws.{said_by}
use Rattle.mj_deeds.proofs.points.points_said.Goals as goal

pub returns-in-ReachAccepted : goal.returns-in-ReachAccepted
returns-in-ReachAccepted c seat low = said_by c.args.before c.args.deed.now _ c.in-ReachAccepted.points seat c.in-ReachAccepted.is refl c.requires low

pub returns-in-Win : goal.returns-in-Win
returns-in-Win c seat low = said_by c.args.before c.args.deed.now _ c.in-Win.points seat c.in-Win.is refl c.requires low

pub returns-in-DrawnHand : goal.returns-in-DrawnHand
returns-in-DrawnHand c seat low = said_by c.args.before c.args.deed.now _ c.in-DrawnHand.points seat c.in-DrawnHand.is refl c.requires low
