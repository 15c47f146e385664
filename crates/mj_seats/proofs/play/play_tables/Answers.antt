use Rattle.std.proofs.Common.{◌<◌, ◌+◌, ◌∙◌, sym, subst}
use Rattle.std.specs.Prelude.{All}
use Rattle.std.proofs.lemmas.Result.{IfOk-weaker}
use Rattle.mj_ports.specs.Entries.{author_of}
use Rattle.mj_session.specs.Wires.{at_link}
use Rattle.mj_handlers.specs.Handlers.{rows}
use Rattle.mj_seats.specs.Tables.{ComesBack, IsPlayedAt, IsOver}
use Rattle.mj_handlers.specs.Picks.{IsBelow}
use Rattle.mj_seats.proofs.Gaming.{as_many, to_rooms, to_games, matches_games, beside_games, ends_more}
use Rattle.mj_seats.proofs.Opening.{room_back}
use Rattle.mj_seats.proofs.play.play_tables.Goals as goal

pub run_in-played-requires-clause-below : goal.run_in-played-requires-clause-below
run_in-played-requires-clause-below g c κs within =
    to_rooms (λ r. r.game) (λ x. All (λ e. author_of e < c.args.handlers + 1) (g.G.Seated.history x)) c.in_ok-rooms.rooms.items c.args.games.now.items c.in_ok-rooms.ensures.ok.0
    c.requires.below

pub run_in-played-requires-clause-picks : goal.run_in-played-requires-clause-picks
run_in-played-requires-clause-picks g c κs within = λ line.
    subst (λ n. IsBelow n (g.P.Picker.picks c.args.picker.now line)) (sym (as_many (λ r. r.game) c.in_ok-rooms.rooms.items c.args.games.now.items c.in_ok-rooms.ensures.ok.0))
    (c.requires.picks line)

pub leave-requires-clause-room : goal.leave-requires-clause-room
leave-requires-clause-room g c κs within =
    let many = as_many (λ r. r.game) c.in_ok-rooms.rooms.items c.args.games.now.items c.in_ok-rooms.ensures.ok.0 in
    room_back c.run_in-played.new.tables c.args.games.now c.seat.new.games (c.run_in-played.ensures.tables.many ∙ many) c.seat.ensures.room

pub returns-clause-games : goal.returns-clause-games
returns-clause-games g c =
    matches_games (λ r. r.game) (ComesBack g.G.Seated) c.in_ok-rooms.rooms.items c.run_in-played.new.tables.items c.args.games.now.items c.leave.new.games.items c.in_ok-rooms.ensures.ok.0
    c.leave.ensures.games c.run_in-played.ensures.tables

pub returns-clause-played : goal.returns-clause-played
returns-clause-played g c =
    let at = at_link g.H.Link.Link.was_read g.H.Link.Source.left g.H.Link.Sink.written g.H.Link.Source.read_faults g.H.Link.Sink.write_faults in
    let picks = g.P.Picker.picks c.args.picker.now in
    let r0 = g.C.Clock.readings c.args.clock.now in
    let r1 = g.C.Clock.readings c.run_in-played.new.clock in
    IfOk-weaker c.run_in-played.result _ _ (λ p h.
    beside_games (λ r. r.game) (IsPlayedAt g.G.Seated at picks c.args.handlers r0 r1) c.in_ok-rooms.rooms.items c.run_in-played.new.tables.items c.args.games.now.items
    c.leave.new.games.items (rows p.sessions.items) c.in_ok-rooms.ensures.ok.0 c.leave.ensures.games h) c.run_in-played.ensures.played

pub returns-clause-ends : goal.returns-clause-ends
returns-clause-ends g c =
    let made = g.H.Host.made_by c.args.host.now in
    IfOk-weaker c.run_in-played.result _ _ (λ p h.
    ends_more _ _ (to_games (λ r. r.game) (IsOver g.G.Seated) c.run_in-played.new.tables.items c.leave.new.games.items c.leave.ensures.games) made g.H.Fault.Numbered.number c.args.handlers
    p.ends.items h) c.run_in-played.ensures.ends
