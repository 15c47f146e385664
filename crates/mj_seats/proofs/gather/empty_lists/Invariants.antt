use Rattle.std.proofs.Common.{◌≡◌, ◌≤◌, [], length, vec_capacity}
use Rattle.std.specs.Prelude.{All}
use Rattle.mj_seats.proofs.gather.empty_lists.Given as goal

abbrev pub invariant-loop : goal.invariant-loop
invariant-loop g l = record {
  many : length l.lists.items ≡ l.counter;
  all : All (λ row. row.items ≡ []) l.lists.items;
  room : l.count ≤ vec_capacity l.lists;
}
