-- Swap calling: which kinds may not be discarded right after a call.
use Rattle.std.specs.Prelude.{ℕ, ◌==◌, Bool, List, [], ◌∷◌, filter}
use Rattle.std.specs.List.{list_any}
use Rattle.mj_tiles.specs.Faces.{kind_of}
use Rattle.mj_tiles.specs.Counts.{all_kinds}
use Rattle.mj_deeds.specs.declared.deed.Deed.{Deed}
use Rattle.mj_deeds.specs.declared.deed.Deed.TheVariants.{Chi, Pon}
use Rattle.mj_calls.specs.Shapes.{is_run_of}

-- The kinds that make a run with two kinds, in whatever order the two stand.
unfoldable pub run_kinds : ℕ → ℕ → List ℕ
run_kinds a b = filter (λ kind. is_run_of kind a b) all_kinds

-- After a chi: the called kind, and every kind that makes a run with the two consumed ones.
unfoldable pub banned_by_chi : ℕ → ℕ → ℕ → List ℕ
banned_by_chi called a b = called ∷ run_kinds a b

-- The kinds that a call bans: a chi the called kind and those that the consumed tiles make a run with, a pon the called kind.
abbrev pub banned_kinds : Deed → List ℕ
banned_kinds (Chi seat target tile a b) = banned_by_chi (kind_of tile) (kind_of a) (kind_of b)
banned_kinds (Pon seat target tile a b) = kind_of tile ∷ []
banned_kinds other = []

-- A kind is among those.
abbrev pub is_banned : List ℕ → ℕ → Bool
is_banned kinds kind = list_any (λ other. other == kind) kinds
