use Rattle.std.proofs.Common.{ℕ, ap, sym, ◌∙◌}
use Rattle.std.proofs.KnownBytes.{Keeps-refl}
use Rattle.mj_journal.specs.Playing.{opens}
use Rattle.mj_journal.specs.declared.not_opened.NotOpened.TheVariants as not_opened
use Rattle.mj_refereeing.specs.Keep.{play_of}
use Rattle.mj_record.proofs.RecordLaws.{writes, bad_as, other_as}
use Rattle.mj_record.proofs.journal.record_core.Goals as goal

pub returns-in-Ok-clause-writes_opened : goal.returns-in-Ok-clause-writes_opened
returns-in-Ok-clause-writes_opened g c =
    writes c.args.core.now.setting (opens (play_of c.args.core.now.setting) c.args.tag.now c.args.journal.now) c.enter_all.new.core _
    c.enter_all.ensures.setting c.in-Ok.ensures.opened
    (g.K.Sink.written c.args.sink.now) (g.K.Sink.written c.write_record.new.sink) c.write_record.result c.write_record.ensures.writes_record

pub returns-in-Err-BadJournal-clause-writes_opened : goal.returns-in-Err-BadJournal-clause-writes_opened
returns-in-Err-BadJournal-clause-writes_opened g c = (
  bad_as _ c.enter_all.new.core.entries c.in-Err-BadJournal.field-0 c.in-Err-BadJournal.ensures.opened _
      (c.in-Err-BadJournal.field-0-is ∙ ap (λ (p : ℕ). not_opened.BadJournal p) (sym c.in-Err-BadJournal.place-is)),
  Keeps-refl (g.K.Sink.written c.args.sink.now),
)

pub unreachable-requires : goal.unreachable-requires
unreachable-requires g c =
    c.requires.own (other_as _ c.enter_all.new.core.entries c.in-Err-OtherGame.field-0 c.in-Err-OtherGame.ensures.opened c.in-Err-OtherGame.field-0-is)
