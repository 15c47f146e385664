use Rattle.std.proofs.Common.{◌≡◌, drop}
use Rattle.std.specs.Prelude.{filter}
use Rattle.mj_tiles.specs.Counts.{all_kinds}
use Rattle.mj_tiles.specs.Kinds.{set_of}
use Rattle.mj_calls.specs.Shapes.{is_run_of}
use Rattle.mj_calls.proofs.bans.run_kinds.Given as goal

-- The kinds from the number on are looked at.
abbrev pub invariant-loop-number : goal.invariant-loop-number
invariant-loop-number l = l.kinds ≡ set_of (filter (λ kind. is_run_of kind l.a l.b) (drop l.number all_kinds))
