-- The ways to make the counts of concealed tiles into sets in order and a pair, kind by kind.
use Rattle.std.specs.Prelude.{ℕ, ◌+◌, ◌-◌, ◌==◌, Bool, true, false, nat_le, not, ◌&&◌, ◌||◌, if◌then◌else◌, List, [], ◌∷◌, ◌++◌, map, replicate, Option, Some, None, is_none}
use Rattle.mj_readings.specs.declared.reading.Set.{Set}
use Rattle.mj_readings.specs.declared.reading.SetForm.TheVariants.{Run, Triplet}
use Rattle.mj_readings.specs.Sets.{begins_run}

-- Sets of concealed tiles in order, and a pair.
pub record Way : Type 0 where
  pub sets : List Set
  pub pair : ℕ

abbrev pub run_at : ℕ → Set
run_at low = record { form = Run; low = low; shown = false }

abbrev pub triplet_at : ℕ → Set
triplet_at low = record { form = Triplet; low = low; shown = false }

-- So many runs that begin at a kind, and then so many triplets of it.
abbrev pub sets_at : ℕ → ℕ → ℕ → List Set
sets_at kind runs triplets = replicate runs (run_at kind) ++ replicate triplets (triplet_at kind)

abbrev pub put : List Set → Way → Way
put front way = record { sets = front ++ way.sets; pair = way.pair }

-- The ways that begin with so many runs and triplets at a kind, and go on as `next` says.
abbrev pub begin : (ℕ → ℕ → Option ℕ → List Way) → ℕ → ℕ → ℕ → ℕ → Option ℕ → List Way
begin next kind runs triplets left pair =
    if (runs == 0 || begins_run kind) && nat_le (runs + triplets) left
    then map (put (sets_at kind runs triplets)) (next runs (left - (runs + triplets)) pair)
    else []

-- What the free tiles of a kind may be: the first tiles of runs alone, or with a triplet, or with the pair.
abbrev pub at_kind : (ℕ → ℕ → Option ℕ → List Way) → ℕ → ℕ → ℕ → Option ℕ → List Way
at_kind next kind free left pair =
    begin next kind free 0 left pair
    ++ (if nat_le 3 free then begin next kind (free - 3) 1 left pair else [])
    ++ (if nat_le 2 free && is_none pair then begin next kind (free - 2) 0 left (Some kind) else [])

abbrev pub end_of : ℕ → Option ℕ → List Way
end_of left None = []
end_of left (Some pair) = if left == 0 then record { sets = []; pair = pair } ∷ [] else []

-- The ways for the kinds from this one on, where so many runs began two kinds and one kind before, so many sets are
-- left to make, and the pair is made or not.
unfoldable pub ways : List ℕ → ℕ → ℕ → ℕ → ℕ → Option ℕ → List Way
ways [] kind first second left pair = end_of left pair
ways (count ∷ others) kind first second left pair =
    if nat_le (first + second) count
    then at_kind (λ runs left pair. ways others (kind + 1) second runs left pair) kind (count - (first + second)) left pair
    else []

-- The test whether there is a way, which lists none.
abbrev pub begins : (ℕ → ℕ → Bool → Bool) → ℕ → ℕ → ℕ → ℕ → Bool → Bool
begins next kind runs triplets left paired =
    (runs == 0 || begins_run kind) && nat_le (runs + triplets) left && next runs (left - (runs + triplets)) paired

unfoldable pub has_way : List ℕ → ℕ → ℕ → ℕ → ℕ → Bool → Bool
has_way [] kind first second left paired = left == 0 && paired
has_way (count ∷ others) kind first second left paired =
    let next : ℕ → ℕ → Bool → Bool = λ runs left paired. has_way others (kind + 1) second runs left paired in
    let free = count - (first + second) in
    nat_le (first + second) count
    && (begins next kind free 0 left paired
    || nat_le 3 free && begins next kind (free - 3) 1 left paired
    || nat_le 2 free && not paired && begins next kind (free - 2) 0 left true)
