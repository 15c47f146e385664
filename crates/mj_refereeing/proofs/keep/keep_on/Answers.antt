use Rattle.std.proofs.KnownBytes.{Keeps-refl}
use Rattle.mj_refereeing.proofs.SafeLaws.{keeps-whole, keeps-safe}
use Rattle.mj_refereeing.proofs.InputLaws.{counts-script}
use Rattle.mj_refereeing.proofs.keep.keep_on.Goals as goal

pub returns-in-Whole-clause-does : goal.returns-in-Whole-clause-does
returns-in-Whole-clause-does g c = λ base seat input game numbered lines unread setting goes.
    keeps-whole g.D.Disk.told g.D.Disk.may_leave g.D.Disk.moment g.D.Disk.secured_since base seat input c.args.rest.now game c.args.disk.now c.keep_lines.new.disk setting lines unread
    c.args.number numbered
    c.write_script-told.result c.in-Whole.end c.keep_lines.new.kept (g.K.Sink.written c.args.sink.now) (g.K.Sink.written c.write_script-told.new.sink)
    (c.in-Whole.ensures.notes base.tag seat game goes) c.write_script-told.ensures.writes_script

pub returns-in-Whole-clause-disk : goal.returns-in-Whole-clause-disk
returns-in-Whole-clause-disk g c =
    counts-script c.write_script-told.result c.in-Whole.end _ (g.K.Sink.written c.args.sink.now) (g.K.Sink.written c.write_script-told.new.sink) _ _
    c.in-Whole.ensures.played c.write_script-told.ensures.writes_script c.in-Whole.ensures.faults

pub returns-in-DiskFault-clause-does : goal.returns-in-DiskFault-clause-does
returns-in-DiskFault-clause-does g c = λ base seat input game numbered lines unread setting goes. (
  Keeps-refl (g.K.Sink.written c.args.sink.now),
  keeps-safe g.D.Disk.told g.D.Disk.may_leave g.D.Disk.moment g.D.Disk.secured_since base seat input c.args.rest.now game c.args.disk.now c.keep_lines.new.disk setting lines unread
      c.args.number numbered (c.in-DiskFault.ensures.notes base.tag seat game goes),
)

pub returns-in-NoMemory-clause-does : goal.returns-in-NoMemory-clause-does
returns-in-NoMemory-clause-does g c = λ base seat input game numbered lines unread setting goes. (
  Keeps-refl (g.K.Sink.written c.args.sink.now),
  keeps-safe g.D.Disk.told g.D.Disk.may_leave g.D.Disk.moment g.D.Disk.secured_since base seat input c.args.rest.now game c.args.disk.now c.keep_lines.new.disk setting lines unread
      c.args.number numbered (c.in-NoMemory.ensures.notes base.tag seat game goes),
)
