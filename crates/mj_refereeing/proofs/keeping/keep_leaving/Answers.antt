use Rattle.std.proofs.Common.{◌≡◌, ℕ, subst}
use Rattle.std.specs.Prelude.{Option, None}
use Rattle.mj_history.specs.Legal.{Game}
use Rattle.mj_journal.specs.Keeping.{game_of}
use Rattle.mj_refereeing.specs.Inner.Intake.{present_in}
use Rattle.mj_refereeing.proofs.PlayLaws.{goes-absent}
use Rattle.mj_refereeing.proofs.PlayedLaws.{if-present}
use Rattle.mj_refereeing.proofs.NoteLaws.{none-noted, noted-gone}
use Rattle.mj_refereeing.proofs.keeping.keep_leaving.Goals as goal

pub returns-in_default-clause-notes : goal.returns-in_default-clause-notes
returns-in_default-clause-notes g c = λ tag seat game goes. (
  goes-absent game c.args.who (subst (λ (x : Game). ◌≡◌ {A = Option (ℕ × ℕ)} None (present_in x c.args.who)) goes.core (c.in_default.ensures goes.watched goes.is)),
  none-noted g.D.Disk.told g.D.Disk.may_leave g.D.Disk.moment g.D.Disk.secured_since c.args.kept.now c.args.disk.now (g.met.D.Disk.none_secured c.args.disk.now) tag seat game goes,
)

pub gone-requires-clause-seat : goal.gone-requires-clause-seat
gone-requires-clause-seat g c = λ _ _. (if-present (game_of c.args.kept.now) _ c.args.who c.in-Some.leaver c.in-Some.author c.requires.rest c.in-Some.ensures).0

pub returns-clause-notes : goal.returns-clause-notes
returns-clause-notes g c = λ tag seat game goes.
    noted-gone g.D.Disk.told g.D.Disk.may_leave g.D.Disk.moment g.D.Disk.left_since g.D.Disk.secured_since g.met.D.Disk.counts_now c.args.kept.now c.gone.new.self
    c.args.disk.now c.gone.new.disk tag seat game goes c.gone.ensures.rest c.gone.ensures.after
    c.gone.result c.noted_by.result c.args.who c.in-Some.leaver c.in-Some.author c.noted_by.ensures
    (if-present (game_of c.args.kept.now) _ c.args.who c.in-Some.leaver c.in-Some.author c.requires.rest c.in-Some.ensures).0 c.in-Some.ensures c.gone.ensures.answer c.gone.ensures.any_moment
