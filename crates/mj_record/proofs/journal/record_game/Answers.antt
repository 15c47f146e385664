use Rattle.std.proofs.Common.{◌≡◌, ap, sym, subst}
use Rattle.mj_wall.specs.declared.setting.Setting.{Setting}
use Rattle.mj_history.specs.Legal.{Game}
use Rattle.mj_journal.specs.Openings.{Other}
use Rattle.mj_journal.specs.Playing.{opens}
use Rattle.mj_refereeing.specs.Bases.{base_meant}
use Rattle.mj_refereeing.specs.Keep.{play_of}
use Rattle.mj_record.specs.Inner.Recording.{WritesOpened}
use Rattle.mj_record.proofs.RecordLaws.{takes, never_other}
use Rattle.mj_record.proofs.journal.record_game.Goals as goal

pub returns-in-Ok-clause-takes : goal.returns-in-Ok-clause-takes
returns-in-Ok-clause-takes g c =
    takes c.args.journal.now c.args.tag.now c.requires.first (base_meant c.args.base) c.requires.base.is c.requires.alone
    (g.K.Sink.written c.args.sink.now) (g.K.Sink.written c.record_core.new.sink) c.record_core.result
    (subst (λ (s : Setting). WritesOpened c.record_core.result s (opens (play_of s) c.args.base.tag.now c.args.journal.now)
    (g.K.Sink.written c.args.sink.now) (g.K.Sink.written c.record_core.new.sink))
    (ap (λ (game : Game). game.setting) c.in-Ok.ensures) c.record_core.ensures.writes_opened)

pub record_core-requires-clause-own : goal.record_core-requires-clause-own
record_core-requires-clause-own g c =
    subst (λ (s : Setting). opens (play_of s) c.args.base.tag.now c.args.journal.now ≡ Other → ⊥)
    (sym (ap (λ (game : Game). game.setting) c.in-Ok.ensures))
    (never_other c.args.journal.now c.args.tag.now c.requires.first (base_meant c.args.base) c.requires.base.is c.requires.alone)
