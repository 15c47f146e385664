use Rattle.std.proofs.Common.{◌≡◌, ◌∷◌, [], List, sym, ap, ◌∙◌, subst, rules}
use Rattle.std.specs.Prelude.{Option, Some}
use Rattle.std.specs.Io.KnownBytes.{Appends, Keeps}
use Rattle.mj_history.specs.Legal.{Game}
use Rattle.mj_handlers.specs.Handlers.{rows}
use Rattle.mj_hosting.specs.Plays.{outside}
use Rattle.mj_hosting.specs.Rooms.{text_for}
use Rattle.mj_hosting.specs.Steps.{WritesGames}
use Rattle.mj_hosting.proofs.PlayLaws.{each_lost, more_lost}
use Rattle.mj_written.specs.declared.stop.Stop.{Stop}
use Rattle.mj_written.specs.declared.stop.Stop.TheVariants as stops
use Rattle.mj_durable.specs.Host.{Hosts, LosesNone, SomeFailed}
use Rattle.mj_durable.specs.Inner.Steps.{stop_in, by_serving, AreOver}
use Rattle.mj_durable.specs.declared.hosting.HostEnd.{HostEnd}
use Rattle.mj_durable.proofs.HostLaws.{opened_below, loses_none, some_failed, hosts_by}
use Rattle.mj_durable.proofs.playing.play_on.Goals as goal

pub play_all-played-requires-clause-below : goal.play_all-played-requires-clause-below
play_all-played-requires-clause-below g c κs within =
    opened_below g.D.Disk.told g.D.Disk.may_leave g.D.Disk.moment g.D.Disk.left_since g.D.Disk.secured_since g.D.Disk.disk_faults c.args.rooms c.requires.opened.0 c.requires.opened.1
    c.args.games.items c.requires.opened.2

pub returns-in-Some-DiskFault-clause-hosts : goal.returns-in-Some-DiskFault-clause-hosts
returns-in-Some-DiskFault-clause-hosts g c = λ s were first opened ports.
    let why : c.stop_of-stop.result ≡ Some stops.DiskFault = search rules in
    let kept : Keeps (g.K.Sink.written c.args.sink.now) (g.K.Sink.written c.args.sink.now) = search rules in (
      kept,
      subst (λ (ds : List g.row.D.Denot). SomeFailed g.D.Disk.told g.D.Disk.disk_faults s were ds) (sym {A = List g.row.D.Denot} c.close_all.ensures.disks)
          (some_failed g.D.Disk.told g.D.Disk.may_leave g.D.Disk.moment g.D.Disk.left_since g.D.Disk.secured_since g.D.Disk.disk_faults c.args.rooms s were c.args.games.items
          c.play_all-played.new.games.items opened
          c.play_all-played.ensures.pages c.close_all.ensures.kept
          (sym {A = Option Stop} (c.stop_of-stop.ensures ∙ ap stop_in c.as_slice.ensures.value) ∙ why)),
    )

pub returns-in-Some-DiskFault-clause-loses : goal.returns-in-Some-DiskFault-clause-loses
returns-in-Some-DiskFault-clause-loses g c = λ s were opened.
    subst (λ (ds : List g.row.D.Denot). LosesNone g.D.Disk.told g.D.Disk.may_leave g.D.Disk.moment g.D.Disk.left_since g.D.Disk.disk_faults s were ds)
    (sym {A = List g.row.D.Denot} c.close_all.ensures.disks)
    (loses_none g.D.Disk.told g.D.Disk.may_leave g.D.Disk.moment g.D.Disk.left_since g.D.Disk.secured_since g.D.Disk.disk_faults c.args.rooms s were c.args.games.items
    c.play_all-played.new.games.items opened
    c.play_all-played.ensures.pages c.close_all.ensures.kept)

pub returns-in-Some-NoMemory-clause-loses : goal.returns-in-Some-NoMemory-clause-loses
returns-in-Some-NoMemory-clause-loses g c = λ s were opened.
    subst (λ (ds : List g.row.D.Denot). LosesNone g.D.Disk.told g.D.Disk.may_leave g.D.Disk.moment g.D.Disk.left_since g.D.Disk.disk_faults s were ds)
    (sym {A = List g.row.D.Denot} c.close_all.ensures.disks)
    (loses_none g.D.Disk.told g.D.Disk.may_leave g.D.Disk.moment g.D.Disk.left_since g.D.Disk.secured_since g.D.Disk.disk_faults c.args.rooms s were c.args.games.items
    c.play_all-played.new.games.items opened
    c.play_all-played.ensures.pages c.close_all.ensures.kept)

pub returns-in_default-clause-loses : goal.returns-in_default-clause-loses
returns-in_default-clause-loses g c = λ s were opened.
    subst (λ (ds : List g.row.D.Denot). LosesNone g.D.Disk.told g.D.Disk.may_leave g.D.Disk.moment g.D.Disk.left_since g.D.Disk.disk_faults s were ds)
    (sym {A = List g.row.D.Denot} c.close_all.ensures.disks)
    (loses_none g.D.Disk.told g.D.Disk.may_leave g.D.Disk.moment g.D.Disk.left_since g.D.Disk.secured_since g.D.Disk.disk_faults c.args.rooms s were c.args.games.items
    c.play_all-played.new.games.items opened
    c.play_all-played.ensures.pages c.close_all.ensures.kept)

pub returns-in-Kept-clause-loses : goal.returns-in-Kept-clause-loses
returns-in-Kept-clause-loses g c = λ s were opened.
    subst (λ (ds : List g.row.D.Denot). LosesNone g.D.Disk.told g.D.Disk.may_leave g.D.Disk.moment g.D.Disk.left_since g.D.Disk.disk_faults s were ds)
    (sym {A = List g.row.D.Denot} c.close_all.ensures.disks)
    (loses_none g.D.Disk.told g.D.Disk.may_leave g.D.Disk.moment g.D.Disk.left_since g.D.Disk.secured_since g.D.Disk.disk_faults c.args.rooms s were c.args.games.items
    c.play_all-played.new.games.items opened
    c.play_all-played.ensures.pages c.close_all.ensures.kept)

pub returns-clause-loses : goal.returns-clause-loses
returns-clause-loses g c = λ s were opened.
    subst (λ (ds : List g.row.D.Denot). LosesNone g.D.Disk.told g.D.Disk.may_leave g.D.Disk.moment g.D.Disk.left_since g.D.Disk.disk_faults s were ds)
    (sym {A = List g.row.D.Denot} c.close_all.ensures.disks)
    (loses_none g.D.Disk.told g.D.Disk.may_leave g.D.Disk.moment g.D.Disk.left_since g.D.Disk.secured_since g.D.Disk.disk_faults c.args.rooms s were c.args.games.items
    c.play_all-played.new.games.items opened
    c.play_all-played.ensures.pages c.close_all.ensures.kept)

pub returns-in-Kept-clause-hosts : goal.returns-in-Kept-clause-hosts
returns-in-Kept-clause-hosts g c = λ s were first opened ports.
    subst (λ (end : HostEnd). Hosts g.H.Link.Link.was_read g.H.Link.Source.left g.H.Link.Sink.written g.H.Link.Source.read_faults g.H.Link.Sink.write_faults (g.H.Host.made_by c.give_all.new.host)
    g.H.Fault.Numbered.number g.D.Disk.told g.D.Disk.may_leave g.D.Disk.moment g.D.Disk.left_since g.D.Disk.secured_since g.D.Disk.disk_faults end c.args.rooms s
    (outside first (g.H.Host.open_faults c.args.host.now) (g.H.Host.returned c.args.host.now) (g.C.Clock.readings c.args.clock.now) (g.K.Sink.written c.args.sink.now))
    (outside (g.H.Host.ports c.give_all.new.host) (g.H.Host.open_faults c.give_all.new.host) (g.H.Host.returned c.give_all.new.host) (g.C.Clock.readings c.play_all-played.new.clock)
    (g.K.Sink.written c.write_games.new.sink)) were c.close_all.new.disks.items) (sym c.by_serving.ensures)
    (subst (λ (ds : List g.row.D.Denot). Hosts g.H.Link.Link.was_read g.H.Link.Source.left g.H.Link.Sink.written g.H.Link.Source.read_faults g.H.Link.Sink.write_faults
    (g.H.Host.made_by c.give_all.new.host)
    g.H.Fault.Numbered.number g.D.Disk.told g.D.Disk.may_leave g.D.Disk.moment g.D.Disk.left_since g.D.Disk.secured_since g.D.Disk.disk_faults (by_serving c.write_games.result) c.args.rooms s
    (outside first (g.H.Host.open_faults c.args.host.now) (g.H.Host.returned c.args.host.now) (g.C.Clock.readings c.args.clock.now) (g.K.Sink.written c.args.sink.now))
    (outside (g.H.Host.ports c.give_all.new.host) (g.H.Host.open_faults c.give_all.new.host) (g.H.Host.returned c.give_all.new.host) (g.C.Clock.readings c.play_all-played.new.clock)
    (g.K.Sink.written c.write_games.new.sink)) were ds) (sym {A = List g.row.D.Denot} c.close_all.ensures.disks)
    (hosts_by g.D.Disk.told g.D.Disk.may_leave g.D.Disk.moment g.D.Disk.left_since g.D.Disk.secured_since g.D.Disk.disk_faults c.args.rooms s were c.args.games.items
    c.play_all-played.new.games.items opened
    c.play_all-played.ensures.pages c.close_all.ensures.kept
    g.H.Link.Link.was_read g.H.Link.Source.left g.H.Link.Sink.written g.H.Link.Source.read_faults g.H.Link.Sink.write_faults (g.H.Host.made_by c.give_all.new.host)
    g.H.Fault.Numbered.number (rows c.in-Ok.played.sessions.items)
    (outside first (g.H.Host.open_faults c.args.host.now) (g.H.Host.returned c.args.host.now) (g.C.Clock.readings c.args.clock.now) (g.K.Sink.written c.args.sink.now))
    (outside (g.H.Host.ports c.give_all.new.host) (g.H.Host.open_faults c.give_all.new.host) (g.H.Host.returned c.give_all.new.host) (g.C.Clock.readings c.play_all-played.new.clock)
    (g.K.Sink.written c.write_games.new.sink))
    (sym {A = Option Stop} (c.stop_of-stop.ensures ∙ ap stop_in c.as_slice.ensures.value) ∙ c.in-None.is)
    c.in-Ok.ensures.played
    (subst (λ (o : Option (List _)). Appends first o (s.port ∷ [])) (sym c.in-Kept.ensures.ports) ports)
    c.in-Kept.ensures.openings c.in-Kept.ensures.back
    (λ go. more_lost (g.H.Host.made_by c.args.host.now) (g.H.Host.made_by c.give_all.new.host) g.H.Fault.Numbered.number _ c.in-Kept.ensures.made
    (each_lost (AreOver c.play_all-played.new.games.items) (g.H.Host.made_by c.args.host.now) g.H.Fault.Numbered.number _ c.in-Ok.played.ends.items go c.in-Ok.ensures.ends))
    c.write_games.result
    (subst (λ (gs : List Game). WritesGames c.write_games.result (text_for c.args.rooms) gs (g.K.Sink.written c.args.sink.now) (g.K.Sink.written c.write_games.new.sink))
    (c.as_slice-in-Kept.ensures.value ∙ c.close_all.ensures.cores) c.write_games.ensures.games)))
