use Rattle.std.proofs.Common.{refl}
use Rattle.mj_umpire.proofs.Foreseen.{is-stale, is-early, is-closed}
use Rattle.mj_umpire.proofs.umpire.Umpire.expire.Goals as goal

pub close-requires-after_bounds : goal.close-requires-after_bounds
close-requires-after_bounds g c κs within = is-closed c.args.self.now _ _ _ (rw c.in-Closed.is at c.would_expire.ensures)

pub returns-in-Stale : goal.returns-in-Stale
returns-in-Stale g c = (is-stale c.args.self.now _ c.args.t1 c.args.t2 (rw c.in-Stale.is at c.would_expire.ensures), refl)

pub returns-in-Early : goal.returns-in-Early
returns-in-Early g c =
    let early = is-early c.args.self.now _ _ _ (rw c.in-Early.is at c.would_expire.ensures) in
    (early.0, early.1, refl)
