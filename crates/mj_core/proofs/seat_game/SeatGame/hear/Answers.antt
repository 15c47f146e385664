use Rattle.mj_core.proofs.NearLaws.{near-hearing, near-caught}
use Rattle.mj_core.proofs.seat_game.SeatGame.hear.Goals as goal

pub catch_up-requires-2 : goal.catch_up-requires-2
catch_up-requires-2 c = near-hearing c.hear-heard.result c.self.inside.seat c.args.author c.args.seat _ _ _ _ c.hear-heard.ensures c.in-Ok.ensures.ok

pub invariant_of-self-2 : goal.invariant_of-self-2
invariant_of-self-2 c =
    near-caught c.catch_up-2.result c.self.inside.seat c.hear-heard.new.self _ _ c.catch_up-2.ensures.ok c.catch_up-2.ensures.err
    (near-hearing c.hear-heard.result c.self.inside.seat c.args.author c.args.seat _ _ _ _ c.hear-heard.ensures c.in-Ok.ensures.ok)
