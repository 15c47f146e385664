use Rattle.std.proofs.Common.{◌≡◌, ◌≤◌, None, replicate, vec_capacity}
use Rattle.mj_session.proofs.lost.Lost.new.Given as goal

abbrev pub invariant-loop : goal.invariant-loop
invariant-loop g l = record {
  so_far : l.empty.items ≡ replicate l.counter None;
  room : l.places ≤ vec_capacity l.empty;
}
