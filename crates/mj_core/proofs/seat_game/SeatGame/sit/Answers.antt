use Rattle.mj_core.proofs.NearLaws.{near-sitting, near-caught}
use Rattle.mj_core.proofs.seat_game.SeatGame.sit.Goals as goal

pub catch_up-requires-2 : goal.catch_up-requires-2
catch_up-requires-2 c = near-sitting c.sit-answer.result c.self.inside.seat c.args.author _ _ _ _ c.sit-answer.ensures c.in-Ok.ensures.ok

pub invariant_of-self-2 : goal.invariant_of-self-2
invariant_of-self-2 c =
    near-caught c.catch_up-2.result c.self.inside.seat c.sit-answer.new.self _ _ c.catch_up-2.ensures.ok c.catch_up-2.ensures.err
    (near-sitting c.sit-answer.result c.self.inside.seat c.args.author _ _ _ _ c.sit-answer.ensures c.in-Ok.ensures.ok)
