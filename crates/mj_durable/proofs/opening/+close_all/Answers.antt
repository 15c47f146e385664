use Rattle.std.proofs.Common.{sym, subst, ◌∙◌}
use Rattle.std.specs.Prelude.{All}
use Rattle.std.proofs.lemmas.List.Elements.{All-push}
use Rattle.mj_ticker.proofs.Besides.{popped}
use Rattle.mj_durable.specs.Inner.Steps.{IsKept}
use Rattle.mj_durable.proofs.OpeningLaws.{put_back}
use Rattle.mj_durable.proofs.opening.+close_all.Goals as goal

pub returns-clause-kept : goal.returns-clause-kept
returns-clause-kept g t c =
    subst (All (IsKept g.D.Disk.told g.D.Disk.may_leave g.D.Disk.moment g.D.Disk.left_since g.D.Disk.secured_since g.D.Disk.disk_faults))
    (sym (popped _ _ _ _ c.pop.ensures.items c.in-Some.is))
    (All-push (IsKept g.D.Disk.told g.D.Disk.may_leave g.D.Disk.moment g.D.Disk.left_since g.D.Disk.secured_since g.D.Disk.disk_faults) c.pop.new.self.items c.in-Some.game
    c.close_all.ensures.kept c.into_parts-core.ensures.written)

pub returns-clause-cores : goal.returns-clause-cores
returns-clause-cores g t c =
    put_back (λ w. w.game) _ _ _ c.in-Some.game _ _ _ c.pop.ensures.items c.in-Some.is c.close_all.ensures.cores c.into_parts-core.ensures.game c.push_reserved.ensures.items

pub returns-clause-disks : goal.returns-clause-disks
returns-clause-disks g t c =
    put_back (λ w. w.disk) _ _ _ c.in-Some.game _ _ _ c.pop.ensures.items c.in-Some.is c.close_all.ensures.disks c.into_parts-core.ensures.disk c.push_reserved-2.ensures.items

pub returns-clause-places : goal.returns-clause-places
returns-clause-places g t c = (
  c.push_reserved.ensures.capacity ∙ c.close_all.ensures.places.0,
  c.push_reserved-2.ensures.capacity ∙ c.close_all.ensures.places.1,
)
