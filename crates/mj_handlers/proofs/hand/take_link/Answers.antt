use Rattle.mj_session.specs.Wires.{at_link}
use Rattle.mj_handlers.specs.Handlers.{rows}
use Rattle.mj_handlers.proofs.Handing.{quiet_handles}
use Rattle.mj_handlers.proofs.Quiet.{all_idle}
use Rattle.mj_handlers.proofs.hand.take_link.Goals as goal

pub returns-then-lose_all-clause-idle : goal.returns-then-lose_all-clause-idle
returns-then-lose_all-clause-idle g c = all_idle g.T.Noted.setting c.args.turns.now c.args.passes.now c.lose_all.new.passes c.requires.many.0 c.lose_all.ensures.quiet

pub returns-then-lose_all-clause-hand : goal.returns-then-lose_all-clause-hand
returns-then-lose_all-clause-hand g c =
    let at = at_link g.D.Link.Link.was_read g.D.Link.Source.left g.D.Link.Sink.written g.D.Link.Source.read_faults g.D.Link.Sink.write_faults in
    let laws = g.met.T.Seated g.world.𝓛 g.world.𝓜 g.world.𝓡 ((λ s x. x), (λ x. x), (λ x. x), λ x. x) in
    quiet_handles g.T.Seated g.T.Noted.setting at (g.D.Picker.picks c.args.door.now) laws.legal_before _ c.args.number c.args.turns.now c.args.passes.now c.lose_all.new.passes
    (rows c.args.kept.now) c.requires.many.0 c.lose_all.ensures.quiet

pub returns-else-lose_all-clause-idle : goal.returns-else-lose_all-clause-idle
returns-else-lose_all-clause-idle g c = all_idle g.T.Noted.setting c.args.turns.now c.args.passes.now c.lose_all.new.passes c.requires.many.0 c.lose_all.ensures.quiet

pub returns-else-lose_all-clause-hand : goal.returns-else-lose_all-clause-hand
returns-else-lose_all-clause-hand g c =
    let at = at_link g.D.Link.Link.was_read g.D.Link.Source.left g.D.Link.Sink.written g.D.Link.Source.read_faults g.D.Link.Sink.write_faults in
    let laws = g.met.T.Seated g.world.𝓛 g.world.𝓜 g.world.𝓡 ((λ s x. x), (λ x. x), (λ x. x), λ x. x) in
    quiet_handles g.T.Seated g.T.Noted.setting at (g.D.Picker.picks c.args.door.now) laws.legal_before _ c.args.number c.args.turns.now c.args.passes.now c.lose_all.new.passes
    (rows c.args.kept.now) c.requires.many.0 c.lose_all.ensures.quiet
