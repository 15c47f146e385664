use Rattle.mj_session.specs.Wires.{at_link}
use Rattle.mj_handlers.specs.Handlers.{rows}
use Rattle.mj_handlers.proofs.Handing.{quiet_handles, handles_quiet}
use Rattle.mj_handlers.proofs.Quiet.{all_idle}
use Rattle.mj_handlers.proofs.hand.serve_link.Goals as goal

pub returns-in-At-clause-idle : goal.returns-in-At-clause-idle
returns-in-At-clause-idle g c = all_idle g.T.Noted.setting c.args.turns.now c.play_link-ended.new.passes c.end_after.new.passes c.play_link-ended.ensures.many.0 c.end_after.ensures.quiet

pub returns-in-At-clause-hand : goal.returns-in-At-clause-hand
returns-in-At-clause-hand g c =
    let at = at_link g.L.Link.was_read g.L.Source.left g.L.Sink.written g.L.Source.read_faults g.L.Sink.write_faults in
    let laws = g.met.T.Seated g.world.𝓛 g.world.𝓜 g.world.𝓡 ((λ s x. x), (λ x. x), (λ x. x), λ x. x) in
    handles_quiet g.T.Seated g.T.Noted.setting at (g.P.Picker.picks c.args.picker.now) laws.legal_before _ _ c.end_after.ensures.excuses c.args.number c.args.turns.now c.args.passes.now
    c.play_link-ended.new.passes c.end_after.new.passes (rows c.args.kept.now) (rows c.play_link-ended.new.kept) c.play_link-ended.ensures.many.0
    (c.play_link-ended.ensures.hand (g.P.Picker.picks c.args.picker.now) (rw (← c.from-t.ensures) at c.in-At.ensures.0)) c.end_after.ensures.quiet

pub returns-in-NoMemory-clause-idle : goal.returns-in-NoMemory-clause-idle
returns-in-NoMemory-clause-idle g c = all_idle g.T.Noted.setting c.args.turns.now c.args.passes.now c.give_up_all.new.passes c.requires.many.0 c.give_up_all.ensures.quiet

pub returns-in-NoMemory-clause-hand : goal.returns-in-NoMemory-clause-hand
returns-in-NoMemory-clause-hand g c =
    let at = at_link g.L.Link.was_read g.L.Source.left g.L.Sink.written g.L.Source.read_faults g.L.Sink.write_faults in
    let laws = g.met.T.Seated g.world.𝓛 g.world.𝓜 g.world.𝓡 ((λ s x. x), (λ x. x), (λ x. x), λ x. x) in
    quiet_handles g.T.Seated g.T.Noted.setting at (g.P.Picker.picks c.args.picker.now) laws.legal_before _ c.args.number c.args.turns.now c.args.passes.now c.give_up_all.new.passes
    (rows c.args.kept.now) c.requires.many.0 c.give_up_all.ensures.quiet
