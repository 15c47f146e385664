-- Which tiles make a meld.
use Rattle.std.specs.Prelude.{ℕ, ◌+◌, ◌%◌, ◌==◌, ◌&&◌, ◌||◌, Bool, nat_lt, min}
use Rattle.mj_tiles.specs.Faces.{kind_of}

-- One of three kinds.
abbrev pub is_among : ℕ → ℕ → ℕ → ℕ → Bool
is_among kind x y z = kind == x || kind == y || kind == z

-- Three kinds of one suit in a row, in any order: the lowest is a number from one to seven, and the next two are there.
unfoldable pub is_run_of : ℕ → ℕ → ℕ → Bool
is_run_of x y z =
    let low = min x (min y z) in
    nat_lt low 27 && nat_lt (low % 9) 7 && is_among (low + 1) x y z && is_among (low + 2) x y z

-- Three tiles make a run.
abbrev pub makes_run : ℕ → ℕ → ℕ → Bool
makes_run tile a b = is_run_of (kind_of tile) (kind_of a) (kind_of b)

-- Two tiles are of one kind.
abbrev pub are_alike : ℕ → ℕ → Bool
are_alike a b = kind_of a == kind_of b
