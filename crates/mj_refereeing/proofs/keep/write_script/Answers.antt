use Rattle.std.proofs.Common.{refl}
use Rattle.std.specs.Io.KnownBytes.{Appends}
use Rattle.mj_links.specs.Sinks.{WritesPrefix}
use Rattle.mj_journal.specs.Keeping.{game_of}
use Rattle.mj_refereeing.proofs.SafeLaws.{script-told}
use Rattle.mj_refereeing.proofs.keep.write_script.Goals as goal

pub returns-in-Whole-clause-writes_script : goal.returns-in-Whole-clause-writes_script
returns-in-Whole-clause-writes_script g c = λ w is. (
  refl,
  script-told (Appends (g.K.Sink.written c.args.sink.now) (g.K.Sink.written c.write_all.new.sink)) (game_of c.args.kept.now) c.in-Some.game.now w
      c.in-Ok.bytes.items c.in-Some.ensures is c.in-Ok.ensures.legal c.in-Ok.ensures.bytes
      (rw c.as_slice.ensures.value at c.in-Whole.ensures.bytes),
)

pub returns-clause-writes_script : goal.returns-clause-writes_script
returns-clause-writes_script g c = λ w is.
    script-told (WritesPrefix (g.K.Sink.written c.args.sink.now) (g.K.Sink.written c.write_all.new.sink)) (game_of c.args.kept.now) c.in-Some.game.now
    w c.in-Ok.bytes.items c.in-Some.ensures is c.in-Ok.ensures.legal c.in-Ok.ensures.bytes
    (rw c.as_slice.ensures.value at c.in-Failed.ensures.bytes)
