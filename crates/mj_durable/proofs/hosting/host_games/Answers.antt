use Rattle.std.proofs.Common.{ℕ, ◌+◌, refl, sym, ap, subst}
use Rattle.mj_words.specs.Commands.{served_with}
use Rattle.mj_hosting.specs.Plays.{outside}
use Rattle.mj_hosting.specs.Rooms.{count_of}
use Rattle.mj_durable.specs.Host.{Hosts}
use Rattle.mj_durable.specs.declared.hosting.HostEnd.{HostEnd}
use Rattle.mj_durable.proofs.EndLaws.{none_touched, open_for, loses_back, not_hosted}
use Rattle.mj_durable.proofs.TagLaws.{unplayed_all}
use Rattle.mj_durable.proofs.hosting.host_games.Goals as goal

pub returns-then-not-has_thread-clause-loses : goal.returns-then-not-has_thread-clause-loses
returns-then-not-has_thread-clause-loses g c =
    none_touched g.D.Disk.told g.D.Disk.may_leave g.D.Disk.moment g.D.Disk.left_since g.D.Disk.secured_since g.D.Disk.disk_faults c.args.hosted.now.rooms (served_with c.args.hosted.now.serving)
    c.args.disks.now.items (g.met.D.Disk g.world.𝓛 g.world.𝓜 g.world.𝓡 ((λ s x. x), (λ x. x), (λ x. x), λ x. x)).only_now

pub returns-in_default-clause-loses : goal.returns-in_default-clause-loses
returns-in_default-clause-loses g c =
    none_touched g.D.Disk.told g.D.Disk.may_leave g.D.Disk.moment g.D.Disk.left_since g.D.Disk.secured_since g.D.Disk.disk_faults c.args.hosted.now.rooms (served_with c.args.hosted.now.serving)
    c.args.disks.now.items (g.met.D.Disk g.world.𝓛 g.world.𝓜 g.world.𝓡 ((λ s x. x), (λ x. x), (λ x. x), λ x. x)).only_now

pub returns-in_default-with_capacity-clause-loses : goal.returns-in_default-with_capacity-clause-loses
returns-in_default-with_capacity-clause-loses g c =
    none_touched g.D.Disk.told g.D.Disk.may_leave g.D.Disk.moment g.D.Disk.left_since g.D.Disk.secured_since g.D.Disk.disk_faults c.args.hosted.now.rooms (served_with c.args.hosted.now.serving)
    c.args.disks.now.items (g.met.D.Disk g.world.𝓛 g.world.𝓜 g.world.𝓡 ((λ s x. x), (λ x. x), (λ x. x), λ x. x)).only_now

pub open_all-requires-clause-new : goal.open_all-requires-clause-new
open_all-requires-clause-new g c κs within =
    unplayed_all (served_with c.args.hosted.now.serving) (count_of c.args.hosted.now.rooms) c.in-Ok.cores.items c.args.hosted.now.serving.within.1 c.in-Ok.ensures

pub host_opened-requires-clause-opened : goal.host_opened-requires-clause-opened
host_opened-requires-clause-opened g c κs within = (
  served_with c.args.hosted.now.serving,
  c.args.disks.now.items,
  (open_for g.D.Disk.told g.D.Disk.may_leave g.D.Disk.moment g.D.Disk.left_since g.D.Disk.secured_since g.D.Disk.disk_faults c.args.hosted.now.rooms (served_with c.args.hosted.now.serving)
      (c.handlers-authors.result + 1) c.in-Ok.cores.items c.args.disks.now.items c.in-Ok-open_all.games.items (ap (λ (n : ℕ). n + 1) c.handlers-authors.ensures) c.in-Ok.ensures c.requires
      c.in-Ok-open_all.ensures.opened),
)

pub returns-in-Ok-open_all-clause-hosts : goal.returns-in-Ok-open_all-clause-hosts
returns-in-Ok-open_all-clause-hosts g c =
    c.host_opened.ensures.hosts (served_with c.args.hosted.now.serving) c.args.disks.now.items
    (open_for g.D.Disk.told g.D.Disk.may_leave g.D.Disk.moment g.D.Disk.left_since g.D.Disk.secured_since g.D.Disk.disk_faults c.args.hosted.now.rooms (served_with c.args.hosted.now.serving)
    (c.handlers-authors.result + 1) c.in-Ok.cores.items c.args.disks.now.items c.in-Ok-open_all.games.items (ap (λ (n : ℕ). n + 1) c.handlers-authors.ensures) c.in-Ok.ensures c.requires
    c.in-Ok-open_all.ensures.opened)
    refl

pub returns-in-Ok-open_all-clause-loses : goal.returns-in-Ok-open_all-clause-loses
returns-in-Ok-open_all-clause-loses g c =
    c.host_opened.ensures.loses (served_with c.args.hosted.now.serving) c.args.disks.now.items
    (open_for g.D.Disk.told g.D.Disk.may_leave g.D.Disk.moment g.D.Disk.left_since g.D.Disk.secured_since g.D.Disk.disk_faults c.args.hosted.now.rooms (served_with c.args.hosted.now.serving)
    (c.handlers-authors.result + 1) c.in-Ok.cores.items c.args.disks.now.items c.in-Ok-open_all.games.items (ap (λ (n : ℕ). n + 1) c.handlers-authors.ensures) c.in-Ok.ensures c.requires
    c.in-Ok-open_all.ensures.opened)

pub returns-clause-hosts : goal.returns-clause-hosts
returns-clause-hosts g c =
    let old = outside (g.H.Host.ports c.args.host.now) (g.H.Host.open_faults c.args.host.now) (g.H.Host.returned c.args.host.now) (g.C.Clock.readings c.args.clock.now)
    (g.K.Sink.written c.args.sink.now) in
    subst (λ (end : HostEnd). Hosts g.H.Link.Link.was_read g.H.Link.Source.left g.H.Link.Sink.written g.H.Link.Source.read_faults g.H.Link.Sink.write_faults
    (g.H.Host.made_by c.args.host.now) g.H.Fault.Numbered.number g.D.Disk.told g.D.Disk.may_leave g.D.Disk.moment g.D.Disk.left_since g.D.Disk.secured_since g.D.Disk.disk_faults end
    c.args.hosted.now.rooms (served_with c.args.hosted.now.serving) old old c.args.disks.now.items c.open_all.new.disks.items) (sym c.by_reason.ensures)
    (not_hosted g.D.Disk.told g.D.Disk.may_leave g.D.Disk.moment g.D.Disk.left_since g.D.Disk.secured_since g.D.Disk.disk_faults c.args.hosted.now.rooms
    (served_with c.args.hosted.now.serving) (c.handlers-authors.result + 1) c.in-Ok.cores.items c.args.disks.now.items c.open_all.new.disks.items c.in-Err.why
    (ap (λ (n : ℕ). n + 1) c.handlers-authors.ensures) c.in-Ok.ensures c.in-Err.ensures.back
    g.H.Link.Link.was_read g.H.Link.Source.left g.H.Link.Sink.written g.H.Link.Source.read_faults g.H.Link.Sink.write_faults
    (g.H.Host.made_by c.args.host.now) g.H.Fault.Numbered.number old)

pub returns-clause-loses : goal.returns-clause-loses
returns-clause-loses g c =
    loses_back g.D.Disk.told g.D.Disk.may_leave g.D.Disk.moment g.D.Disk.left_since g.D.Disk.secured_since g.D.Disk.disk_faults c.args.hosted.now.rooms
    (served_with c.args.hosted.now.serving) (c.handlers-authors.result + 1) c.in-Ok.cores.items c.args.disks.now.items c.open_all.new.disks.items c.in-Err.why
    (ap (λ (n : ℕ). n + 1) c.handlers-authors.ensures) c.in-Ok.ensures c.in-Err.ensures.back
