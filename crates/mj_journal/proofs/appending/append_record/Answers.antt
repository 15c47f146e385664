use Rattle.std.proofs.Common.{arith, subst}
use Rattle.mj_journal.specs.Disks.{SyncsOnly}
use Rattle.mj_journal.specs.Journals.{journal, IsAppended}
use Rattle.mj_journal.specs.declared.disk.Synced.TheVariants.{Done, Failed}
use Rattle.mj_journal.proofs.Moments.{weaker}
use Rattle.mj_journal.proofs.Outliving.{same_open, before_or_with, added_after}
use Rattle.mj_journal.proofs.appending.append_record.Goals as goal

pub returns-in-Done-clause-any_moment : goal.returns-in-Done-clause-any_moment
returns-in-Done-clause-any_moment g c game call es fs sized text enters tag bytes told opened = (
  weaker g.D.Disk.moment g.D.Disk.left_since c.args.disk.now c.append.new.disk _ _ (c.append.ensures.any_moment bytes told)
      (before_or_with game tag call es fs c.args.entry.now sized text bytes c.args.end opened enters (c.requires.ends bytes told).shut),
  weaker g.D.Disk.moment g.D.Disk.secured_since c.args.disk.now c.append.new.disk _ (IsAppended Done (journal bytes) c.args.entry.now)
      (subst (λ r. SyncsOnly g.D.Disk.moment g.D.Disk.secured_since c.args.disk.now c.append.new.disk (IsAppended r (journal bytes) c.args.entry.now)) c.in-Done.is (c.append.ensures.syncs bytes told))
      (before_or_with game tag call es fs c.args.entry.now sized text bytes c.args.end opened enters (c.requires.ends bytes told).shut),
)

pub returns-in-Failed-clause-any_moment : goal.returns-in-Failed-clause-any_moment
returns-in-Failed-clause-any_moment g c game call es fs sized text enters tag bytes told opened = (
  weaker g.D.Disk.moment g.D.Disk.left_since c.args.disk.now c.append.new.disk _ _ (c.append.ensures.any_moment bytes told)
      (before_or_with game tag call es fs c.args.entry.now sized text bytes c.args.end opened enters (c.requires.ends bytes told).shut),
  weaker g.D.Disk.moment g.D.Disk.secured_since c.args.disk.now c.append.new.disk _ (IsAppended Failed (journal bytes) c.args.entry.now)
      (subst (λ r. SyncsOnly g.D.Disk.moment g.D.Disk.secured_since c.args.disk.now c.append.new.disk (IsAppended r (journal bytes) c.args.entry.now)) c.in-Failed.is
      (c.append.ensures.syncs bytes told))
      (λ image before. (c.args.end, same_open game tag bytes es c.args.end opened (c.requires.ends bytes told).shut image before)),
)

pub returns-in-Done-clause-after : goal.returns-in-Done-clause-after
returns-in-Done-clause-after g c game call es fs sized text enters =
    added_after g.D.Disk.told g.D.Disk.may_leave g.D.Disk.moment g.D.Disk.left_since g.D.Disk.secured_since game c.args.disk.now es c.args.end c.requires c.append.new.disk c.args.entry.now
    (g.met.D.Disk.as_read c.append.new.disk) (c.append.ensures.added c.in-Done.is) (c.append.ensures.kept c.in-Done.is) call sized text fs enters
    _ (omega (arith, c.payload_len.ensures.length)) (λ bytes told. c.append.ensures.put c.in-Done.is (g.D.Disk.moment c.args.disk.now) bytes (omega arith) told)
