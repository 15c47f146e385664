use Rattle.std.proofs.Common.{List, ℕ, sym, subst}
use Rattle.mj_hosting.specs.Plays.{NotOpened, outside}
use Rattle.mj_durable.specs.Host.{HostsNothing, LosesNone}
use Rattle.mj_durable.proofs.EndLaws.{hosts_nothing, keeps_same, lost_none}
use Rattle.mj_durable.proofs.hosting.host_opened.Goals as goal

pub returns-in-Failed-clause-hosts : goal.returns-in-Failed-clause-hosts
returns-in-Failed-clause-hosts g c = λ s were opened port.
    let old = outside (g.H.Host.ports c.args.host.now) (g.H.Host.open_faults c.args.host.now) (g.H.Host.returned c.args.host.now) (g.C.Clock.readings c.args.clock.now)
    (g.K.Sink.written c.args.sink.now) in
    let new = outside (g.H.Host.ports c.open.new.self) (g.H.Host.open_faults c.open.new.self) (g.H.Host.returned c.open.new.self) (g.C.Clock.readings c.args.clock.now)
    (g.K.Sink.written c.args.sink.now) in
    subst (λ (ds : List g.row.D.Denot). HostsNothing g.H.Link.Link.was_read g.H.Link.Source.left g.H.Link.Sink.written g.H.Link.Source.read_faults g.H.Link.Sink.write_faults
    (g.H.Host.made_by c.open.new.self) g.H.Fault.Numbered.number g.D.Disk.told g.D.Disk.may_leave g.D.Disk.moment g.D.Disk.left_since g.D.Disk.secured_since g.D.Disk.disk_faults
    c.args.rooms s old new were ds) (sym {A = List g.row.D.Denot} c.close_all.ensures.disks)
    (hosts_nothing g.D.Disk.told g.D.Disk.may_leave g.D.Disk.moment g.D.Disk.left_since g.D.Disk.secured_since g.D.Disk.disk_faults c.args.rooms s were c.args.games.items opened
    c.close_all.ensures.kept g.H.Link.Link.was_read g.H.Link.Source.left g.H.Link.Sink.written g.H.Link.Source.read_faults g.H.Link.Sink.write_faults
    (g.H.Host.made_by c.open.new.self) g.H.Fault.Numbered.number old new
    (subst (λ (p : ℕ). NotOpened (g.H.Host.made_by c.open.new.self) g.H.Fault.Numbered.number p old new) (sym port) (record {
      fault = c.in-Failed.field-0;
      made_it = c.in-Failed.ensures.fault.0;
      of_opening = c.in-Failed.ensures.fault.1;
      failed_once = c.in-Failed.ensures.counted;
      tried = c.in-Failed.ensures.ports;
      none_back = c.in-Failed.ensures.returned;
      unwritten = keeps_same (g.K.Sink.written c.args.sink.now);
    })))

pub returns-in-Failed-clause-loses : goal.returns-in-Failed-clause-loses
returns-in-Failed-clause-loses g c = λ s were opened.
    subst (λ (ds : List g.row.D.Denot). LosesNone g.D.Disk.told g.D.Disk.may_leave g.D.Disk.moment g.D.Disk.left_since g.D.Disk.disk_faults s were ds)
    (sym {A = List g.row.D.Denot} c.close_all.ensures.disks)
    (lost_none g.D.Disk.told g.D.Disk.may_leave g.D.Disk.moment g.D.Disk.left_since g.D.Disk.secured_since g.D.Disk.disk_faults c.args.rooms s were c.args.games.items opened
    c.close_all.ensures.kept)
