use Rattle.std.proofs.Common.{◌≡◌, ℕ, subst}
use Rattle.std.specs.Prelude.{Option, None}
use Rattle.mj_history.specs.Legal.{Game}
use Rattle.mj_journal.specs.Keeping.{game_of}
use Rattle.mj_refereeing.specs.Inner.Keeping.{asked_in}
use Rattle.mj_refereeing.proofs.PlayedLaws.{asked-not, if-asked}
use Rattle.mj_refereeing.proofs.NoteLaws.{none-noted, noted-say}
use Rattle.mj_refereeing.proofs.keeping.keep_saying.Goals as goal

pub returns-in_default-clause-notes : goal.returns-in_default-clause-notes
returns-in_default-clause-notes g c = λ tag seat game goes. (
  asked-not game c.args.who c.args.line.now (subst (λ (x : Game). ◌≡◌ {A = Option (ℕ × ℕ)} None (asked_in x c.args.who)) goes.core (c.in_default.ensures goes.watched goes.is)),
  none-noted g.D.Disk.told g.D.Disk.may_leave g.D.Disk.moment g.D.Disk.secured_since c.args.kept.now c.args.disk.now (g.met.D.Disk.none_secured c.args.disk.now) tag seat game goes,
)

pub said-requires-clause-seat : goal.said-requires-clause-seat
said-requires-clause-seat g c = λ _ _. (if-asked (game_of c.args.kept.now) _ c.args.who c.in-Some.speaker c.in-Some.author c.requires.rest c.in-Some.ensures).0

pub returns-clause-notes : goal.returns-clause-notes
returns-clause-notes g c = λ tag seat game goes.
    noted-say g.D.Disk.told g.D.Disk.may_leave g.D.Disk.moment g.D.Disk.left_since g.D.Disk.secured_since g.met.D.Disk.counts_now c.args.kept.now c.said.new.self
    c.args.disk.now c.said.new.disk tag seat game goes c.said.ensures.rest c.said.ensures.after
    c.said.result c.noted_by.result c.args.who c.in-Some.speaker c.in-Some.author c.args.line.now c.noted_by.ensures c.in-Some.ensures c.said.ensures.answer c.said.ensures.any_moment
