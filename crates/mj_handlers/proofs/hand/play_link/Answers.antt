use Rattle.std.proofs.Common.{◌<◌, length, arith, get_or}
use Rattle.std.proofs.lemmas.Option.{slice_get-get_or}
use Rattle.mj_session.specs.Sessions.{IsExcused}
use Rattle.mj_session.specs.Wires.{at_link, at_wire}
use Rattle.mj_handlers.specs.Handlers.{rows}
use Rattle.mj_handlers.proofs.AtTable.{joined_kept, joined_nothing}
use Rattle.mj_ticker.proofs.Besides.{mapped}
use Rattle.mj_handlers.proofs.Handing.{hand_seated, quiet_handles, rows_pushed}
use Rattle.mj_handlers.proofs.Handling.{wire_shut}
use Rattle.mj_ticker.proofs.Idling.{idle_at, idle_set}
use Rattle.mj_handlers.proofs.Quiet.{quiet_start, quiet_more}
use Rattle.mj_handlers.proofs.hand.play_link.Goals as goal

pub serve_joined-served-requires-after_bounds : goal.serve_joined-served-requires-after_bounds
serve_joined-served-requires-after_bounds g c κs within =
    idle_at g.T.Noted.setting c.args.turns.now c.args.passes.now c.args.t _ _ c.requires.table c.requires.many.0 c.index-turns-t.is c.requires.idle

pub returns-in-Some-clause-idle : goal.returns-in-Some-clause-idle
returns-in-Some-clause-idle g c =
    idle_set g.T.Noted.setting c.args.turns.now c.args.passes.now c.args.t _ c.serve_joined-served.new.pass c.requires.table c.index-turns-t.is c.serve_joined-served.ensures.idle.0 c.requires.idle

pub returns-clause-idle : goal.returns-clause-idle
returns-clause-idle g c =
    idle_set g.T.Noted.setting c.args.turns.now c.args.passes.now c.args.t _ c.serve_joined-served.new.pass c.requires.table c.index-turns-t.is c.serve_joined-served.ensures.idle.0 c.requires.idle

pub returns-in-Some-clause-hand : goal.returns-in-Some-clause-hand
returns-in-Some-clause-hand g c = λ picks is.
    let turns = c.args.turns.now in
    let passes = c.args.passes.now in
    let turn = c.index-turns-t.result in
    let p = get_or passes c.args.t c.index-passes-t.result in
    let q = c.serve_joined-served.new.pass in
    let session = rw c.as_slice-first.ensures.value at c.serve_joined-served.ensures.session in
    let s = g.T.Noted.setting turn.opening in
    let at = at_link g.L.Link.was_read g.L.Source.left g.L.Sink.written g.L.Source.read_faults g.L.Sink.write_faults in
    let y = at_wire g.L.Link.was_read g.L.Source.left g.L.Sink.written g.L.Source.read_faults g.L.Sink.write_faults c.args.wire in
    let z = at_wire g.L.Link.was_read g.L.Source.left g.L.Sink.written g.L.Source.read_faults g.L.Sink.write_faults c.serve_joined-served.new.wire in
    let ended = c.serve_joined-served.result.ended in
    let laws = g.met.T.Seated g.world.𝓛 g.world.𝓜 g.world.𝓡 ((λ s x. x), (λ x. x), (λ x. x), λ x. x) in
    let wide : c.args.t < length c.args.kept.now = omega (arith, c.requires.table, c.requires.many.1) in
    let own = get_or c.args.kept.now c.args.t c.index-kept-t.result in
    hand_seated g.T.Seated g.T.Noted.setting at picks laws.legal_before laws.stays laws.closed (IsExcused ended) c.args.number turns passes (rows c.args.kept.now) _ c.args.t turn _ q
    own.items _ c.requires.table c.requires.many.0 c.index-turns-t.is (mapped (λ v. v.items) c.args.kept.now c.args.t own (slice_get-get_or c.args.kept.now c.args.t _ wide))
    (rows_pushed c.args.kept.now c.args.t _ _ _ c.push_reserved.ensures.items) c.serve_joined-served.ensures.idle.1
    (joined_kept (g.T.Seated.after s) g.T.Seated.reads g.T.Seated.joins (g.T.Seated.sits s) (g.T.Seated.hears s) g.T.Seated.says picks c.args.t at (IsExcused ended) p.number p.seen q.seen
    c.requires.received.start y z c.args.line.items ended c.serve_joined-served.result.place c.requires.received.took c.requires.received.told session c.in-Some.place c.shut.new.self
    c.in-Some.is is c.requires.received.is_new
    (wire_shut g.L.Link.was_read g.L.Source.left g.L.Sink.written g.L.Source.read_faults g.L.Sink.write_faults c.serve_joined-served.new.wire
    c.into_link-link.result c.shut.new.self c.into_link-link.ensures c.shut.ensures.reading c.shut.ensures.writing) (λ e. e))

pub returns-clause-hand : goal.returns-clause-hand
returns-clause-hand g c = λ picks is.
    let turns = c.args.turns.now in
    let passes = c.args.passes.now in
    let turn = c.index-turns-t.result in
    let p = get_or passes c.args.t c.index-passes-t.result in
    let q = c.serve_joined-served.new.pass in
    let session = rw c.as_slice-first.ensures.value at c.serve_joined-served.ensures.session in
    let s = g.T.Noted.setting turn.opening in
    let at = at_link g.L.Link.was_read g.L.Source.left g.L.Sink.written g.L.Source.read_faults g.L.Sink.write_faults in
    let y = at_wire g.L.Link.was_read g.L.Source.left g.L.Sink.written g.L.Source.read_faults g.L.Sink.write_faults c.args.wire in
    let z = at_wire g.L.Link.was_read g.L.Source.left g.L.Sink.written g.L.Source.read_faults g.L.Sink.write_faults c.serve_joined-served.new.wire in
    let ended = c.serve_joined-served.result.ended in
    let laws = g.met.T.Seated g.world.𝓛 g.world.𝓜 g.world.𝓡 ((λ s x. x), (λ x. x), (λ x. x), λ x. x) in
    quiet_handles g.T.Seated g.T.Noted.setting at picks laws.legal_before (IsExcused ended) c.args.number turns passes _ (rows c.args.kept.now) c.requires.many.0
    (quiet_more g.T.Noted.setting turns passes passes c.args.t turn _ q c.requires.table c.requires.many.0 c.index-turns-t.is c.serve_joined-served.ensures.idle.0
    c.serve_joined-served.ensures.idle.1 (joined_nothing (g.T.Seated.after s) g.T.Seated.reads g.T.Seated.joins (g.T.Seated.sits s) (g.T.Seated.hears s) g.T.Seated.says picks c.args.t at
    (IsExcused ended) p.number p.seen q.seen c.requires.received.start y z c.args.line.items ended c.serve_joined-served.result.place c.requires.received.took c.requires.received.told
    session c.in-None.is) (quiet_start g.T.Noted.setting turns passes c.requires.idle))
