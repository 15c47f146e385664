use Rattle.std.proofs.Common.{◌≡◌, ◌≤◌, [], length, vec_capacity}
use Rattle.std.specs.Prelude.{All}
use Rattle.mj_seats.proofs.rooms.rows_for.Given as goal

abbrev pub invariant-loop : goal.invariant-loop
invariant-loop g l = record {
  many : length l.rows.items ≡ l.counter;
  all : All (λ r. (r.items ≡ []) × (l.count ≤ vec_capacity r)) l.rows.items;
  room : l.tables ≤ vec_capacity l.rows;
}
