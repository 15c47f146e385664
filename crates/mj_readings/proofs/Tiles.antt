-- How many tiles of a kind stand in sets.
use Rattle.std.proofs.Common.{ℕ, ◌≡◌, ◌<◌, ◌+◌, ◌*◌, ◌++◌, ◌∷◌, [], true, cond, List, refl, ◌∙◌, ap, arith, eqb, leb, replicate, zero, suc}
use Rattle.std.specs.List.{count_by, flat_map, list_all}
use Rattle.std.proofs.lemmas.Bool.{and_parts, leb-true}
use Rattle.std.proofs.lemmas.Bool.Decides.{nat_tests}
use Rattle.std.proofs.lemmas.Grind.{common_steps}
use Rattle.mj_readings.specs.declared.reading.Set.{Set}
use Rattle.mj_readings.specs.declared.reading.SetForm.{SetForm}
use Rattle.mj_readings.specs.declared.reading.SetForm.TheVariants.{Run, Triplet, Kan}
use Rattle.mj_readings.specs.Sets.{tiles_of_set, tiles_of_form}
use Rattle.mj_readings.specs.Inner.Ways.{run_at, triplet_at, sets_at}

-- A kind in a set, as often as it stands there.
abbrev pub in_set : ℕ → Set → ℕ
in_set kind set = count_by (λ tile. eqb tile kind) (tiles_of_set set)

abbrev pub number_at : ℕ → List Set → ℕ
number_at kind [] = 0
number_at kind (set ∷ others) = in_set kind set + number_at kind others

pub number_at-append : (kind : ℕ) (one other : List Set) → number_at kind (one ++ other) ≡ number_at kind one + number_at kind other
number_at-append kind [] other = grind arith
number_at-append kind (set ∷ one) other = grind (arith, number_at-append kind one other)

pub number_at-replicate : (kind n : ℕ) (set : Set) → number_at kind (replicate n set) ≡ n * in_set kind set
number_at-replicate kind zero set = grind arith
number_at-replicate kind (suc n) set = grind (arith, number_at-replicate kind n set)

-- The tiles of the sets, joined, have a kind as often as the sets.
pub count-flat_map : (kind : ℕ) (sets : List Set) (more : List ℕ) →
    count_by (λ tile. eqb tile kind) (flat_map tiles_of_set sets ++ more) ≡ number_at kind sets + count_by (λ tile. eqb tile kind) more
count-flat_map kind [] more = grind arith
count-flat_map kind (set ∷ others) more = grind (arith, common_steps, count-flat_map kind others more)

-- The tiles of a run and of a triplet.
pub in_run : (low kind : ℕ) → in_set kind (run_at low) ≡ cond (eqb low kind) 1 0 + cond (eqb (low + 1) kind) 1 0 + cond (eqb (low + 2) kind) 1 0
in_run low kind = grind arith

pub in_triplet : (low kind : ℕ) → in_set kind (triplet_at low) ≡ 3 * cond (eqb low kind) 1 0
in_triplet low kind = grind arith

-- A set from a kind on has nothing below it.
pub in_later : (kind : ℕ) (set : Set) → kind < set.low → in_set kind set ≡ 0
in_later kind set later = in_form_later set.form set.low kind later
  where
    in_form_later : (form : SetForm) (low kind : ℕ) → kind < low → count_by (λ tile. eqb tile kind) (tiles_of_form form low) ≡ 0
    in_form_later Run low kind later = grind (arith, nat_tests)
    in_form_later Triplet low kind later = grind (arith, nat_tests)
    in_form_later Kan low kind later = grind (arith, nat_tests)

pub number_at-later : (kind : ℕ) (sets : List Set) → list_all (λ set. leb (kind + 1) set.low) sets ≡ true → number_at kind sets ≡ 0
number_at-later kind [] each = refl
number_at-later kind (set ∷ others) each =
    let parts = and_parts (leb (kind + 1) set.low) (list_all (λ set. leb (kind + 1) set.low) others) each in
    let later : kind < set.low = omega (arith, leb-true (kind + 1) set.low parts.0) in
    grind (arith, in_later kind set later, number_at-later kind others parts.1)

-- How many tiles of a run stand j kinds above its lowest.
abbrev pub run_tiles : ℕ → ℕ
run_tiles zero = 1
run_tiles (suc zero) = 1
run_tiles (suc (suc zero)) = 1
run_tiles (suc (suc (suc j))) = 0

abbrev pub triplet_tiles : ℕ → ℕ
triplet_tiles zero = 3
triplet_tiles (suc j) = 0

pub run_at_place : (kind j : ℕ) → in_set (kind + j) (run_at kind) ≡ run_tiles j
run_at_place kind zero = rw in_run (grind (arith, nat_tests))
run_at_place kind (suc zero) = rw in_run (grind (arith, nat_tests))
run_at_place kind (suc (suc zero)) = rw in_run (grind (arith, nat_tests))
run_at_place kind (suc (suc (suc j))) = rw in_run (grind (arith, nat_tests))

triplet_at_place : (kind j : ℕ) → in_set (kind + j) (triplet_at kind) ≡ triplet_tiles j
triplet_at_place kind zero = rw in_triplet (grind (arith, nat_tests))
triplet_at_place kind (suc j) = rw in_triplet (grind (arith, nat_tests))

-- The tiles of the sets that begin at one kind.
pub sets_at_place : (kind runs triplets j : ℕ) →
    number_at (kind + j) (sets_at kind runs triplets) ≡ runs * run_tiles j + triplets * triplet_tiles j
sets_at_place kind runs triplets j =
    number_at-append (kind + j) (replicate runs (run_at kind)) (replicate triplets (triplet_at kind))
    ∙ sum_of _ _ _ _
    (number_at-replicate (kind + j) runs (run_at kind) ∙ ap (λ n. runs * n) (run_at_place kind j))
    (number_at-replicate (kind + j) triplets (triplet_at kind) ∙ ap (λ n. triplets * n) (triplet_at_place kind j))
  where
    sum_of : (a b c d : ℕ) → a ≡ c → b ≡ d → a + b ≡ c + d
    sum_of a b c d e f = cc
