use Rattle.std.proofs.Common.{◌≡◌, true}
use Rattle.mj_history.specs.Legal.{is_open}
use Rattle.mj_umpire.specs.Calls.{after_of}
use Rattle.mj_umpire.proofs.Games.{too-early, too-short, run-out}
use Rattle.mj_umpire.proofs.Readers.{opened, unopened}
use Rattle.mj_umpire.proofs.Foreseen.{foreseen-stale, foreseen-early, foreseen-closed}
use Rattle.mj_umpire.proofs.umpire.Umpire.would_expire.Goals.{then-t2-t1-via-then-t2-t1, then-t2-t1-via-else-t2-t1+then-t2-t1-2}
use Rattle.mj_umpire.proofs.umpire.Umpire.would_expire.Goals as goal

pub returns-then-ne : goal.returns-then-ne
returns-then-ne g c = foreseen-stale c.args.self.now _ _ _ (unopened _ (after_of c.args.self.now).deeds _ c.if-ne.ensures c.open.ensures)

pub returns-then-t2-t1 : goal.returns-then-t2-t1
returns-then-t2-t1 g c =
    foreseen-early c.args.self.now _ _ _ (opened _ (after_of c.args.self.now).deeds _ c.if-ne.ensures c.open.ensures)
    (rw (← c.self.view_is) (elim c.then-t2-t1.branch [
      | then-t2-t1-via-then-t2-t1 w ↦ too-early _ _ _ _ _ w.if-t2-t1.true
      | then-t2-t1-via-else-t2-t1+then-t2-t1-2 w ↦ too-short _ _ _ _ _ (rw c.rules-limit.ensures at w.if-t2-t1-2.true)
    ]))

pub returns : goal.returns
returns g c =
    let open_is : is_open (after_of c.args.self.now).deeds c.args.window ≡ true = opened _ (after_of c.args.self.now).deeds _ c.if-ne.ensures c.open.ensures in
    foreseen-closed c.args.self.now _ _ _ (rw (← c.self.view_is) (run-out _ _ _ _ _ (rw (← c.self.view_is) at open_is) c.if-t2-t1.false (rw c.rules-limit.ensures at c.if-t2-t1-2.false)))
