use Rattle.mj_core.proofs.NearLaws.{near-expiring, near-caught}
use Rattle.mj_core.proofs.seat_game.SeatGame.expire.Goals as goal

pub catch_up-requires-2 : goal.catch_up-requires-2
catch_up-requires-2 c = near-expiring c.expire-expiry.result c.self.inside.seat c.args.author c.args.window c.args.t1 c.args.t2 _ _ _ c.expire-expiry.ensures c.in-Ok.ensures.ok

pub invariant_of-self-2 : goal.invariant_of-self-2
invariant_of-self-2 c =
    near-caught c.catch_up-2.result c.self.inside.seat c.expire-expiry.new.self _ _ c.catch_up-2.ensures.ok c.catch_up-2.ensures.err
    (near-expiring c.expire-expiry.result c.self.inside.seat c.args.author c.args.window c.args.t1 c.args.t2 _ _ _ c.expire-expiry.ensures c.in-Ok.ensures.ok)
