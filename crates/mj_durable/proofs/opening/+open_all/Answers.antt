use Rattle.std.proofs.Common.{List, [], ◌∷◌, sym, subst, subst₂, ◌∙◌}
use Rattle.std.specs.Prelude.{All}
use Rattle.std.proofs.lemmas.List.Elements.{All-head}
use Rattle.std.proofs.lemmas.Result.{IfOk-weaker, IfErr-weaker}
use Rattle.mj_history.specs.Legal.{Game}
use Rattle.mj_ticker.proofs.Besides.{popped, all_after}
use Rattle.mj_durable.specs.Inner.Steps.{IsUnplayed, AreOpening, AreBack}
use Rattle.mj_durable.proofs.opening.+open_all.Goals as goal

pub open_behind-requires-clause-new : goal.open_behind-requires-clause-new
open_behind-requires-clause-new g t c κs within =
    All-head IsUnplayed c.in-Some.core []
    (all_after IsUnplayed c.pop.new.self.items (c.in-Some.core ∷ []) (subst (All IsUnplayed) (popped _ _ _ _ c.pop.ensures.items c.in-Some.is) c.requires.new))

pub open_behind-requires-clause-empty : goal.open_behind-requires-clause-empty
open_behind-requires-clause-empty g t c κs within = c.open_all-before.ensures.moved

pub returns-clause-opened : goal.returns-clause-opened
returns-clause-opened g t c =
    IfOk-weaker c.open_behind.result _ _
    (λ gs h. subst₂ (λ (cores : List Game)
    (were : List _). AreOpening g.D.Disk.told g.D.Disk.may_leave g.D.Disk.moment g.D.Disk.left_since g.D.Disk.secured_since g.D.Disk.disk_faults c.args.authors cores were gs.items)
    (sym (popped _ _ _ _ c.pop.ensures.items c.in-Some.is)) (sym (popped _ _ _ _ c.pop-2.ensures.items c.unwrap-disk.ensures)) h)
    (c.open_behind.ensures.opened c.pop.new.self.items c.pop-2.new.self.items c.open_all-before.ensures.opened)

pub returns-clause-back : goal.returns-clause-back
returns-clause-back g t c =
    IfErr-weaker c.open_behind.result _ _
    (λ why h. subst₂ (λ (cores : List Game)
    (were : List _). AreBack g.D.Disk.told g.D.Disk.may_leave g.D.Disk.moment g.D.Disk.left_since g.D.Disk.secured_since g.D.Disk.disk_faults c.args.authors why cores were
    c.open_behind.new.disks.items) (sym (popped _ _ _ _ c.pop.ensures.items c.in-Some.is)) (sym (popped _ _ _ _ c.pop-2.ensures.items c.unwrap-disk.ensures)) h)
    (c.open_behind.ensures.back c.pop.new.self.items c.pop-2.new.self.items c.open_all-before.ensures.opened c.open_all-before.ensures.back)

pub returns-clause-room : goal.returns-clause-room
returns-clause-room g t c = c.open_behind.ensures.room _ c.open_all-before.ensures.room

pub returns-clause-moved : goal.returns-clause-moved
returns-clause-moved g t c = c.open_behind.ensures.moved

pub returns-clause-places : goal.returns-clause-places
returns-clause-places g t c = (
  c.open_behind.ensures.places.0 ∙ (c.open_all-before.ensures.places.0 ∙ c.pop.ensures.capacity),
  c.open_behind.ensures.places.1 ∙ (c.open_all-before.ensures.places.1 ∙ c.pop-2.ensures.capacity),
)
