use Rattle.std.proofs.Common.{◌≡◌, ℕ, ◌+◌, ◌<◌, ◌≤◌, length, vec_len, vec_capacity}
use Rattle.std.specs.Prelude.{slice_get, Some, Vec}
use Rattle.std.specs.declared.alloc.Global.{Global}
use Rattle.mj_handlers.specs.Handlers.{rows}
use Rattle.mj_handlers.proofs.hand.make_room.Given as goal

abbrev pub invariant-loop-t : goal.invariant-loop-t
invariant-loop-t g l = record {
  many : length l.kept ≡ length l.fn.kept;
  same : rows l.kept ≡ rows l.fn.kept;
  room : (k : ℕ) (v : Vec _ Global) → k < l.t → slice_get l.kept k ≡ Some v → vec_len v + 1 ≤ vec_capacity v;
}
