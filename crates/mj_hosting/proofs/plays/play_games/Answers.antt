use Rattle.mj_words.specs.Commands.{served_with}
use Rattle.mj_hosting.specs.Plays.{outside, PlaysBy}
use Rattle.mj_hosting.specs.Rooms.{plan_for}
use Rattle.mj_hosting.proofs.PlayLaws.{after_opening}
use Rattle.mj_hosting.proofs.plays.play_games.Goals as goal

pub returns-in-Ready-clause-plays : goal.returns-in-Ready-clause-plays
returns-in-Ready-clause-plays g c =
    after_opening (λ old. PlaysBy g.H.Link.Link.was_read g.H.Link.Source.left g.H.Link.Sink.written g.H.Link.Source.read_faults g.H.Link.Sink.write_faults
    (g.H.Host.made_by c.play.new.host) g.H.Fault.Numbered.number c.play.result (plan_for c.args.rooms (served_with c.args.serving.now)) old
    (outside (g.H.Host.ports c.play.new.host) (g.H.Host.open_faults c.play.new.host) (g.H.Host.returned c.play.new.host) (g.C.Clock.readings c.play.new.clock)
    (g.K.Sink.written c.play.new.sink)))
    (g.H.Host.ports c.args.host.now) _ _ _ _ _ _ c.in-Ready.ensures.counted c.in-Ready.ensures.returned
    (c.play.ensures.plays (served_with c.args.serving.now) (g.H.Host.ports c.args.host.now) c.in-Ok.ensures c.in-Ready.ensures.ports)
