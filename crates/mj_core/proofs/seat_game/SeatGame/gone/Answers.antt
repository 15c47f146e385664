use Rattle.mj_core.proofs.NearLaws.{near-leaving, near-caught}
use Rattle.mj_core.proofs.seat_game.SeatGame.gone.Goals as goal

pub catch_up-requires-2 : goal.catch_up-requires-2
catch_up-requires-2 c = near-leaving c.gone-left.result c.self.inside.seat c.args.author c.args.seat _ _ _ c.gone-left.ensures c.in-Ok.ensures.ok

pub invariant_of-self-2 : goal.invariant_of-self-2
invariant_of-self-2 c =
    near-caught c.catch_up-2.result c.self.inside.seat c.gone-left.new.self _ _ c.catch_up-2.ensures.ok c.catch_up-2.ensures.err
    (near-leaving c.gone-left.result c.self.inside.seat c.args.author c.args.seat _ _ _ c.gone-left.ensures c.in-Ok.ensures.ok)
