use Rattle.std.proofs.Common.{◌≤◌, ◌<◌, ◌+◌, ℕ, sym, subst, arith}
use Rattle.std.specs.Prelude.{All}
use Rattle.std.proofs.lemmas.Result.{IfOk-weaker}
use Rattle.mj_ports.specs.Entries.{author_of}
use Rattle.mj_session.specs.Wires.{at_link}
use Rattle.mj_handlers.specs.Handlers.{rows}
use Rattle.mj_handlers.specs.Picks.{IsBelow}
use Rattle.mj_seats.specs.Tables.{ComesBack, IsPlayedAt, IsOver}
use Rattle.mj_seats.proofs.Gaming.{as_many, to_rooms, to_games, matches_games, beside_games, ends_more}
use Rattle.mj_durable.proofs.logged.play_logged.Goals as goal

pub play_tables-played-requires-clause-some : goal.play_tables-played-requires-clause-some
play_tables-played-requires-clause-some g c κs within =
    subst (λ (n : ℕ). 1 ≤ n) (sym (as_many (λ l. l.game) c.in_ok-logged.logged.items c.args.games.now.items c.in_ok-logged.ensures.ok.0)) c.requires.some

pub play_tables-played-requires-clause-below : goal.play_tables-played-requires-clause-below
play_tables-played-requires-clause-below g c κs within =
    to_rooms (λ l. l.game) (λ x. All (λ e. author_of e < c.args.handlers + 1) (g.S.Seated.history x)) c.in_ok-logged.logged.items c.args.games.now.items c.in_ok-logged.ensures.ok.0
    c.requires.below

pub play_tables-played-requires-clause-picks : goal.play_tables-played-requires-clause-picks
play_tables-played-requires-clause-picks g c κs within = λ line.
    subst (λ n. IsBelow n (g.P.Picker.picks c.args.picker.now line)) (sym (as_many (λ l. l.game) c.in_ok-logged.logged.items c.args.games.now.items c.in_ok-logged.ensures.ok.0))
    (c.requires.picks line)

pub put_back-requires-clause-room : goal.put_back-requires-clause-room
put_back-requires-clause-room g c =
    let many = as_many (λ l. l.game) c.in_ok-logged.logged.items c.args.games.now.items c.in_ok-logged.ensures.ok.0 in
    omega (arith, c.play_tables-played.new.games.ok.0, c.play_tables-played.ensures.games.many, many, c.args.games.now.ok.0, c.args.games.now.ok.1, c.log_all.ensures.room)

pub returns-clause-games : goal.returns-clause-games
returns-clause-games g c =
    matches_games (λ l. l.game) (ComesBack g.S.Seated) c.in_ok-logged.logged.items c.play_tables-played.new.games.items c.args.games.now.items c.put_back.new.games.items
    c.in_ok-logged.ensures.ok.0 c.put_back.ensures.games c.play_tables-played.ensures.games

pub returns-clause-played : goal.returns-clause-played
returns-clause-played g c =
    let at = at_link g.H.Link.Link.was_read g.H.Link.Source.left g.H.Link.Sink.written g.H.Link.Source.read_faults g.H.Link.Sink.write_faults in
    let picks = g.P.Picker.picks c.args.picker.now in
    let r0 = g.C.Clock.readings c.args.clock.now in
    let r1 = g.C.Clock.readings c.play_tables-played.new.clock in
    IfOk-weaker c.play_tables-played.result _ _ (λ p h.
    beside_games (λ l. l.game) (IsPlayedAt g.S.Seated at picks c.args.handlers r0 r1) c.in_ok-logged.logged.items c.play_tables-played.new.games.items c.args.games.now.items
    c.put_back.new.games.items (rows p.sessions.items) c.in_ok-logged.ensures.ok.0 c.put_back.ensures.games h) c.play_tables-played.ensures.played

pub returns-clause-ends : goal.returns-clause-ends
returns-clause-ends g c =
    let made = g.H.Host.made_by c.args.host.now in
    IfOk-weaker c.play_tables-played.result _ _ (λ p h.
    ends_more _ _ (to_games (λ l. l.game) (IsOver g.S.Seated) c.play_tables-played.new.games.items c.put_back.new.games.items c.put_back.ensures.games) made g.H.Fault.Numbered.number
    c.args.handlers p.ends.items h) c.play_tables-played.ensures.ends
