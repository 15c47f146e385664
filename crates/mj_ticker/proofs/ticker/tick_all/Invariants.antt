use Rattle.std.proofs.Common.{◌≡◌, ℕ, List, length}
use Rattle.std.specs.Prelude.{Option}
use Rattle.mj_ports.specs.declared.entry.Entry.{Entry}
use Rattle.turn_lock.specs.Passes.{TurnState}
use Rattle.mj_ticker.specs.Idle.{AllIdle}
use Rattle.mj_ticker.specs.Watches.{AreWatched}
use Rattle.mj_ticker.proofs.ticker.tick_all.Given as goal

abbrev pub invariant-loop : goal.invariant-loop
invariant-loop g l =
    (goal.iterator-loop g).can_next l.iterator' × (goal.iterator-loop g).is_finite l.iterator'
    × ((length l.passes ≡ length l.turns) × (length l.sights ≡ length l.turns)) × AllIdle g.T.Noted.setting l.turns l.passes
    × ((by : ℕ) (first : TurnState _ → List (Entry _)) (start : Option (List ℕ)) → AreWatched g.T.Seated g.T.SharedGame.lost l.handlers g.T.Noted.setting by first start
    (g.C.Clock.readings l.fn.clock) l.turns l.fn.passes l.fn.sights → AreWatched g.T.Seated g.T.SharedGame.lost l.handlers g.T.Noted.setting by first start
    (g.C.Clock.readings l.clock) l.turns l.passes l.sights)
