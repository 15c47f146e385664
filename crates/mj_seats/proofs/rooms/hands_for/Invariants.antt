use Rattle.std.proofs.Common.{◌≡◌, ◌≤◌, length, vec_capacity}
use Rattle.std.specs.Prelude.{All}
use Rattle.mj_workers.specs.Staffs.{IsReady}
use Rattle.mj_seats.proofs.rooms.hands_for.Given as goal

abbrev pub invariant-loop : goal.invariant-loop
invariant-loop g l = record {
  many : length l.hands.items ≡ l.counter;
  all : All (IsReady l.tables) l.hands.items;
  room : l.handlers ≤ vec_capacity l.hands;
}
