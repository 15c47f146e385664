use Rattle.std.proofs.Common.{◌≡◌, ℕ, true, List, [], ◌∷◌, length}
use Rattle.std.specs.Prelude.{Option}
use Rattle.std.specs.Io.KnownBytes.{Appends}
use Rattle.mj_ports.specs.declared.entry.Entry.{Entry}
use Rattle.turn_lock.specs.Passes.{TurnState}
use Rattle.mj_ticker.specs.Idle.{AllIdle}
use Rattle.mj_ticker.specs.Watches.{AreEnded, AreWatched}
use Rattle.mj_ticker.proofs.Rounds.{AreVisited}
use Rattle.mj_ticker.proofs.ticker.go_round.Given as goal

abbrev pub invariant-loop-t : goal.invariant-loop-t
invariant-loop-t g l = record {
  many : length l.passes ≡ length l.turns;
  wide : length l.sights ≡ length l.turns;
  idle : AllIdle g.T.Noted.setting l.turns l.passes;
  ticks : (by : ℕ) (first : TurnState _ → List (Entry _)) (start read next : Option (List ℕ)) → Appends read next (l.now ∷ []) →
      AreWatched g.T.Seated g.T.SharedGame.lost l.handlers g.T.Noted.setting by first start read l.turns l.fn.passes l.fn.sights →
      AreVisited g.T.Seated g.T.SharedGame.lost l.handlers g.T.Noted.setting by first start read next l.t l.turns l.passes l.sights;
  ended : l.ended ≡ true → AreEnded l.t l.sights;
}
