use denote.Param.{param}
use Rattle.std.proofs.Common.{ℕ, ◌+◌, ◌<◌, ◌≤◌, sym, subst}
use Rattle.std.specs.Prelude.{All, IfOk}
use Rattle.mj_ports.specs.Entries.{author_of}
use Rattle.mj_session.specs.Wires.{at_link}
use Rattle.mj_handlers.specs.Handlers.{rows}
use Rattle.mj_handlers.specs.Picks.{IsBelow}
use Rattle.mj_seats.specs.Tables.{IsOver, ArePlayed, AllEndWith}
use Rattle.mj_hosting.specs.Rooms.{picked_for}
use Rattle.mj_hosting.proofs.RoomLaws.{rooms_below, some_room, few_handlers}
use Rattle.mj_durable.specs.Inner.Steps.{written_as}
use Rattle.mj_durable.proofs.SendLaws.{written_send}
use Rattle.mj_durable.proofs.playing.play_written.Goals as goal

pub play_logged-requires-clause-some : goal.play_logged-requires-clause-some
play_logged-requires-clause-some g c = λ κs o. subst (λ (n : ℕ). 1 ≤ n) (sym c.requires.many) (some_room c.args.rooms c.requires.within)

pub play_logged-requires-clause-few : goal.play_logged-requires-clause-few
play_logged-requires-clause-few g c = λ κs o. subst (λ (n : ℕ). n < 64) (sym c.handlers-handlers.ensures) (few_handlers c.args.rooms c.requires.within)

pub play_logged-requires-clause-below : goal.play_logged-requires-clause-below
play_logged-requires-clause-below g c = λ κs o.
    subst (λ (n : ℕ). All (λ w. All (λ e. author_of e < n + 1) (g.G.Seated.history w.game)) c.args.games.now.items) (sym c.handlers-handlers.ensures) c.requires.below

pub play_logged-requires-clause-picks : goal.play_logged-requires-clause-picks
play_logged-requires-clause-picks g c = λ κs o line. subst (λ (n : ℕ). IsBelow n (picked_for c.args.rooms line)) (sym c.requires.many) (rooms_below c.args.rooms line c.requires.within)

pub returns-clause-played : goal.returns-clause-played
returns-clause-played g c =
    subst (λ (n : ℕ). IfOk c.play_logged.result
    (λ p. ArePlayed (written_as g.G.Seated) (at_link g.H.Link.Link.was_read g.H.Link.Source.left g.H.Link.Sink.written g.H.Link.Source.read_faults g.H.Link.Sink.write_faults)
    (picked_for c.args.rooms) n (g.C.Clock.readings c.args.clock.now)
    (g.C.Clock.readings c.play_logged.new.clock) c.args.games.now.items c.play_logged.new.games.items (rows p.sessions.items))) c.handlers-handlers.ensures c.play_logged.ensures.played

pub returns-clause-ends : goal.returns-clause-ends
returns-clause-ends g c =
    subst (λ (n : ℕ). IfOk c.play_logged.result (λ p. AllEndWith (All (IsOver (written_as g.G.Seated)) c.play_logged.new.games.items) (g.H.Host.made_by c.args.host.now)
    g.H.Fault.Numbered.number n p.ends.items)) c.handlers-handlers.ensures c.play_logged.ensures.ends

pub play_logged-requires-send-S : goal.play_logged-requires-send-S
play_logged-requires-send-S g c κs within =
    written_send (param 0 g.row.G) (param 3 g.row.D) (param 6 g.row.G-Setting) (param 7 g.row.G-Answer) (param 8 g.row.G-Rule) g.G.Seated g.D.Disk
    c.type_bounds.send-G c.type_bounds.send-D 0 _
