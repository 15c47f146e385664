use Rattle.std.proofs.Common.{ℕ, ◌≡◌, ◌<◌}
use Rattle.mj_forms.specs.Lines.{row_name}
use Rattle.mj_records.proofs.yaku.row_of.Given as goal

abbrev pub invariant-loop-row : goal.invariant-loop-row
invariant-loop-row l = (k : ℕ) → k < l.row → row_name k ≡ l.name → ⊥
