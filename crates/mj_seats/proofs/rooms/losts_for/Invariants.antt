use Rattle.std.proofs.Common.{◌≡◌, ◌≤◌, length, vec_capacity}
use Rattle.mj_seats.proofs.rooms.losts_for.Given as goal

abbrev pub invariant-loop : goal.invariant-loop
invariant-loop g l = record {
  many : length l.losts.items ≡ l.counter;
  room : l.number ≤ vec_capacity l.losts;
}
