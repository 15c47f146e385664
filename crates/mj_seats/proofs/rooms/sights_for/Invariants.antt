use Rattle.std.proofs.Common.{◌≡◌, ◌≤◌, length, vec_capacity}
use Rattle.std.specs.Prelude.{All}
use Rattle.mj_ticker.specs.declared.ticker.Sight.TheVariants.{Nothing}
use Rattle.mj_seats.proofs.rooms.sights_for.Given as goal

abbrev pub invariant-loop : goal.invariant-loop
invariant-loop l = record {
  many : length l.sights.items ≡ l.counter;
  all : All (λ s. s ≡ Nothing) l.sights.items;
  room : l.tables ≤ vec_capacity l.sights;
}
