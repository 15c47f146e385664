-- The names of the rows of the table of yaku.
use Rattle.std.proofs.Common.{◌≡◌, ◌≤◌, ℕ, [], ap, sym}
use Rattle.std.proofs.lemmas.Option.{slice_get_past}
use Rattle.std.specs.Option.{option_map_or}
use Rattle.mj_yaku.specs.Han.{table}
use Rattle.mj_forms.specs.Lines.{row_name}

-- a number above those of the table names no row
pub no_row : (row : ℕ) → 45 ≤ row → [] ≡ row_name row
unfolding table
no_row row above = sym (ap (λ found. option_map_or (λ entry. entry.name) found []) (slice_get_past table row above))
