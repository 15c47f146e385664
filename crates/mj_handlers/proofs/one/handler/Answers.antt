use Rattle.std.proofs.Common.{◌≡◌, ◌++◌, [], map, sym, ◌∙◌, subst}
use Rattle.mj_session.specs.Histories.{places_of}
use Rattle.mj_session.specs.Wires.{at_link}
use Rattle.mj_handlers.specs.Handlers.{WantsMemory}
use Rattle.mj_handlers.proofs.Placing.{handled_places}
use Rattle.mj_handlers.proofs.Alone.{one_idle, hand_one, ends_one, legal_one}
use Rattle.mj_handlers.proofs.one.handler.Goals as goal

pub returns-in_default-clause-places : goal.returns-in_default-clause-places
returns-in_default-clause-places g c =
    let s = g.T.Noted.setting c.args.turn.now.opening in
    let at = at_link g.H.Link.Link.was_read g.H.Link.Source.left g.H.Link.Sink.written g.H.Link.Source.read_faults g.H.Link.Sink.write_faults in
    subst (λ l. places_of c.args.pass.now.number c.lobby_at.new.pass.seen ≡ places_of c.args.pass.now.number c.args.pass.now.seen ++ map (λ s. s.place) l) (sym c.requires.empty)
    (handled_places (g.T.Seated.after s) g.T.Seated.reads g.T.Seated.joins (g.T.Seated.sits s) (g.T.Seated.hears s) g.T.Seated.says at ⊥ c.args.pass.now.number
    c.args.pass.now.seen c.lobby_at.new.pass.seen [] c.lobby_at.ensures.nothing)

pub returns-clause-idle : goal.returns-clause-idle
returns-clause-idle g c =
    let turn = c.args.turn.now in
    let turns = c.from_ref.result.now in
    let p = c.lobby_at.new.pass in
    let new = c.handle.new.passes in
    let many = c.handle.ensures.many in
    let by = c.number-number.ensures ∙ c.lobby_at.ensures.idle.1 in
    let at = at_link g.H.Link.Link.was_read g.H.Link.Source.left g.H.Link.Sink.written g.H.Link.Source.read_faults g.H.Link.Sink.write_faults in
    let one = hand_one g.T.Seated g.T.Noted.setting at (WantsMemory c.handle.result) c.args.pass.now.number turn turns p p c.from_mut.result.now new
    c.from_mut-2.result.now c.handle.new.kept c.args.sessions.now c.args.sessions.now c.args.pass.now.seen c.from_ref.ensures.value c.from_mut.ensures.value
    c.from_mut-2.ensures.value c.requires.empty many.0 many.1 c.lobby_at.ensures.idle.1 c.lobby_at.ensures.nothing (rw by at c.handle.ensures.hand) in
    (one_idle g.T.Noted.setting turn turns new p c.from_ref.ensures.value many.0 c.handle.ensures.idle, one.number_is)

pub returns-clause-handled : goal.returns-clause-handled
returns-clause-handled g c =
    let turn = c.args.turn.now in
    let turns = c.from_ref.result.now in
    let p = c.lobby_at.new.pass in
    let new = c.handle.new.passes in
    let many = c.handle.ensures.many in
    let by = c.number-number.ensures ∙ c.lobby_at.ensures.idle.1 in
    let at = at_link g.H.Link.Link.was_read g.H.Link.Source.left g.H.Link.Sink.written g.H.Link.Source.read_faults g.H.Link.Sink.write_faults in
    let one = hand_one g.T.Seated g.T.Noted.setting at (WantsMemory c.handle.result) c.args.pass.now.number turn turns p p c.from_mut.result.now new
    c.from_mut-2.result.now c.handle.new.kept c.args.sessions.now c.args.sessions.now c.args.pass.now.seen c.from_ref.ensures.value c.from_mut.ensures.value
    c.from_mut-2.ensures.value c.requires.empty many.0 many.1 c.lobby_at.ensures.idle.1 c.lobby_at.ensures.nothing (rw by at c.handle.ensures.hand) in
    one.handled (legal_one g.T.Seated g.T.Noted.setting turn turns new p c.from_ref.ensures.value many.0 c.handle.ensures.legal)

pub returns-clause-places : goal.returns-clause-places
returns-clause-places g c =
    let s = g.T.Noted.setting c.args.turn.now.opening in
    let turn = c.args.turn.now in
    let turns = c.from_ref.result.now in
    let p = c.lobby_at.new.pass in
    let new = c.handle.new.passes in
    let many = c.handle.ensures.many in
    let by = c.number-number.ensures ∙ c.lobby_at.ensures.idle.1 in
    let at = at_link g.H.Link.Link.was_read g.H.Link.Source.left g.H.Link.Sink.written g.H.Link.Source.read_faults g.H.Link.Sink.write_faults in
    let one = hand_one g.T.Seated g.T.Noted.setting at (WantsMemory c.handle.result) c.args.pass.now.number turn turns p p c.from_mut.result.now new
    c.from_mut-2.result.now c.handle.new.kept c.args.sessions.now c.args.sessions.now c.args.pass.now.seen c.from_ref.ensures.value c.from_mut.ensures.value
    c.from_mut-2.ensures.value c.requires.empty many.0 many.1 c.lobby_at.ensures.idle.1 c.lobby_at.ensures.nothing (rw by at c.handle.ensures.hand) in
    handled_places (g.T.Seated.after s) g.T.Seated.reads g.T.Seated.joins (g.T.Seated.sits s) (g.T.Seated.hears s) g.T.Seated.says at (WantsMemory c.handle.result)
    c.args.pass.now.number c.args.pass.now.seen _ _ (one.handled (legal_one g.T.Seated g.T.Noted.setting turn turns new p c.from_ref.ensures.value many.0 c.handle.ensures.legal))

pub returns-clause-ended : goal.returns-clause-ended
returns-clause-ended g c =
    let turn = c.args.turn.now in
    let turns = c.from_ref.result.now in
    let p = c.lobby_at.new.pass in
    let new = c.handle.new.passes in
    let many = c.handle.ensures.many in
    let by = c.number-number.ensures ∙ c.lobby_at.ensures.idle.1 in
    ends_one g.T.Seated g.T.Noted.setting (g.H.Host.made_by c.args.host.now) g.T.Fault.Numbered.number c.handle.result c.args.pass.now.number turn turns p new
    c.from_ref.ensures.value many.0 (rw by at c.handle.ensures.ended)
