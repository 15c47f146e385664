use Rattle.std.proofs.Common.{◌∙◌}
use Rattle.mj_session.specs.Wires.{at_link}
use Rattle.mj_handlers.specs.Handlers.{rows}
use Rattle.mj_handlers.proofs.Handing.{quiet_handles, quiet_then}
use Rattle.mj_handlers.proofs.Quiet.{all_idle}
use Rattle.mj_handlers.proofs.hand.handle_once.Goals as goal

pub take_link-requires-clause-idle : goal.take_link-requires-clause-idle
take_link-requires-clause-idle g c κs within = all_idle g.T.Noted.setting c.args.turns.now c.args.passes.now c.ask_all.new.passes c.requires.many.0 c.ask_all.ensures.quiet

pub give_up_all-requires-clause-idle : goal.give_up_all-requires-clause-idle
give_up_all-requires-clause-idle g c κs within = all_idle g.T.Noted.setting c.args.turns.now c.args.passes.now c.ask_all.new.passes c.requires.many.0 c.ask_all.ensures.quiet

pub returns-in-Over-clause-idle : goal.returns-in-Over-clause-idle
returns-in-Over-clause-idle g c = all_idle g.T.Noted.setting c.args.turns.now c.args.passes.now c.ask_all.new.passes c.requires.many.0 c.ask_all.ensures.quiet

pub returns-in-NoMemory-clause-idle : goal.returns-in-NoMemory-clause-idle
returns-in-NoMemory-clause-idle g c = all_idle g.T.Noted.setting c.args.turns.now c.args.passes.now c.ask_all.new.passes c.requires.many.0 c.ask_all.ensures.quiet

pub returns-in-Over-clause-hand : goal.returns-in-Over-clause-hand
returns-in-Over-clause-hand g c =
    let at = at_link g.D.Link.Link.was_read g.D.Link.Source.left g.D.Link.Sink.written g.D.Link.Source.read_faults g.D.Link.Sink.write_faults in
    let laws = g.met.T.Seated g.world.𝓛 g.world.𝓜 g.world.𝓡 ((λ s x. x), (λ x. x), (λ x. x), λ x. x) in
    quiet_handles g.T.Seated g.T.Noted.setting at (g.D.Picker.picks c.args.door.now) laws.legal_before _ c.args.number c.args.turns.now c.args.passes.now c.ask_all.new.passes
    (rows c.args.kept.now) c.requires.many.0 c.ask_all.ensures.quiet

pub returns-in-NoMemory-clause-hand : goal.returns-in-NoMemory-clause-hand
returns-in-NoMemory-clause-hand g c =
    let at = at_link g.D.Link.Link.was_read g.D.Link.Source.left g.D.Link.Sink.written g.D.Link.Source.read_faults g.D.Link.Sink.write_faults in
    let laws = g.met.T.Seated g.world.𝓛 g.world.𝓜 g.world.𝓡 ((λ s x. x), (λ x. x), (λ x. x), λ x. x) in
    quiet_handles g.T.Seated g.T.Noted.setting at (g.D.Picker.picks c.args.door.now) laws.legal_before _ c.args.number c.args.turns.now c.args.passes.now c.ask_all.new.passes
    (rows c.args.kept.now) c.requires.many.0 c.ask_all.ensures.quiet

pub returns-in-Ok-clause-hand : goal.returns-in-Ok-clause-hand
returns-in-Ok-clause-hand g c =
    let at = at_link g.D.Link.Link.was_read g.D.Link.Source.left g.D.Link.Sink.written g.D.Link.Source.read_faults g.D.Link.Sink.write_faults in
    let laws = g.met.T.Seated g.world.𝓛 g.world.𝓜 g.world.𝓡 ((λ s x. x), (λ x. x), (λ x. x), λ x. x) in
    quiet_then g.T.Seated g.T.Noted.setting at (g.D.Picker.picks c.args.door.now) laws.legal_before _ c.args.number c.args.turns.now c.args.passes.now c.ask_all.new.passes c.take_link.new.passes
    (rows c.args.kept.now) (rows c.make_room.new.kept) (rows c.take_link.new.kept) c.requires.many.0 c.ask_all.ensures.quiet c.make_room.ensures.same c.take_link.ensures.hand

pub returns-in-Err-clause-idle : goal.returns-in-Err-clause-idle
returns-in-Err-clause-idle g c =
    all_idle g.T.Noted.setting c.args.turns.now c.ask_all.new.passes c.give_up_all.new.passes (c.ask_all.ensures.quiet.many ∙ c.requires.many.0) c.give_up_all.ensures.quiet

pub returns-in-Err-clause-hand : goal.returns-in-Err-clause-hand
returns-in-Err-clause-hand g c =
    let at = at_link g.D.Link.Link.was_read g.D.Link.Source.left g.D.Link.Sink.written g.D.Link.Source.read_faults g.D.Link.Sink.write_faults in
    let laws = g.met.T.Seated g.world.𝓛 g.world.𝓜 g.world.𝓡 ((λ s x. x), (λ x. x), (λ x. x), λ x. x) in
    quiet_then g.T.Seated g.T.Noted.setting at (g.D.Picker.picks c.args.door.now) laws.legal_before _ c.args.number c.args.turns.now c.args.passes.now c.ask_all.new.passes c.give_up_all.new.passes
    (rows c.args.kept.now) (rows c.make_room.new.kept) (rows c.make_room.new.kept) c.requires.many.0 c.ask_all.ensures.quiet c.make_room.ensures.same
    (quiet_handles g.T.Seated g.T.Noted.setting at (g.D.Picker.picks c.args.door.now) laws.legal_before _ c.args.number c.args.turns.now c.ask_all.new.passes c.give_up_all.new.passes
    (rows c.make_room.new.kept) (c.ask_all.ensures.quiet.many ∙ c.requires.many.0) c.give_up_all.ensures.quiet)
