use Rattle.std.proofs.Common.{◌≡◌, length}
use Rattle.mj_session.specs.Wires.{at_link}
use Rattle.mj_handlers.specs.Handlers.{rows}
use Rattle.mj_ticker.specs.Idle.{AllIdle}
use Rattle.mj_handlers.specs.Hands.{Handles}
use Rattle.mj_handlers.proofs.hand.handle.Given as goal

abbrev pub invariant-loop : goal.invariant-loop
invariant-loop g l =
    (goal.iterator-loop g).can_next l.iterator' × (goal.iterator-loop g).is_finite l.iterator'
    × ((length l.passes ≡ length l.turns) × (length l.kept ≡ length l.turns)) × AllIdle g.T.Noted.setting l.turns l.passes
    × Handles g.T.Seated g.T.Noted.setting (at_link g.D.Link.Link.was_read g.D.Link.Source.left g.D.Link.Sink.written g.D.Link.Source.read_faults g.D.Link.Sink.write_faults)
    (g.D.Picker.picks l.door) ⊥ l.number l.turns l.fn.passes (rows l.fn.kept) l.passes (rows l.kept)
