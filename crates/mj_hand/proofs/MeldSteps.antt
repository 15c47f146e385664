-- Tiles that make a meld.
use Rattle.std.proofs.Common.{◌≡◌, ℕ, ◌+◌, ◌<◌, ◌≤◌, ◌%◌, List, [], ◌∷◌, length, get_or, Bool, false, eqb, ltb, ◌&&◌, ap, sym, ◌∙◌, arith, subst, inl, inr}
use Rattle.std.specs.Prelude.{bytes_eq}
use Rattle.std.proofs.lemmas.Bool.{cases_Bool, cases_lt}
use Rattle.std.proofs.lemmas.Bool.Decides.{nat_tests}
use Rattle.std.proofs.lemmas.List.{get_or_past}
use Rattle.std.proofs.lemmas.List.Sums.{count_by-le-length}
use Rattle.std.proofs.lemmas.Slice.Eq.{bytes_eq-Decides}
use Rattle.mj_tiles.specs.Faces.{kind_of}
use Rattle.mj_tiles.specs.Counts.{kind_counts, NoFifth}
use Rattle.mj_tiles.proofs.CountSteps.{length-kind_counts, get_or-kind_counts}
use Rattle.mj_readings.specs.declared.reading.SetForm.TheVariants.{Run}
use Rattle.mj_readings.specs.Sets.{begins_run}
use Rattle.mj_hand.specs.Words.{are_tiles_of}

-- four tiles have no fifth of a kind
pub few_no_fifth : (tiles : List ℕ) → length tiles ≤ 4 → NoFifth (kind_counts tiles)
few_no_fifth tiles few kind = elim (cases_lt kind 34) [
  | inl low ↦ (let a = get_or-kind_counts tiles kind low in let b = count_by-le-length (λ tile. eqb (kind_of tile) kind) tiles in omega arith)
  | inr high ↦ (let a : get_or (kind_counts tiles) kind 0 ≡ 0 = get_or_past (kind_counts tiles) kind 0 (let s = length-kind_counts tiles in omega arith) in omega arith)
]

-- tiles with a fifth of a kind are not those without
pub other_kinds : (set tiles : List ℕ) → NoFifth (kind_counts set) → (NoFifth (kind_counts tiles) → ⊥) → false ≡ bytes_eq (kind_counts set) (kind_counts tiles)
other_kinds set tiles few fifth = elim (cases_Bool (bytes_eq (kind_counts set) (kind_counts tiles))) [
  | inl same ↦ absurd (fifth (subst NoFifth ((bytes_eq-Decides (kind_counts set) (kind_counts tiles)).0 same) few))
  | inr differ ↦ sym differ
]

high : (low : ℕ) (b : Bool) → 27 ≤ low → false ≡ ((ltb low 27 && ltb (low % 9) 7) && b)
high low b h = grind (arith, nat_tests)

late : (low : ℕ) (b : Bool) → 7 ≤ low % 9 → false ≡ ((ltb low 27 && ltb (low % 9) 7) && b)
late low b h = grind (arith, nat_tests)

inside : (low : ℕ) (b : Bool) → low < 27 → low % 9 < 7 → b ≡ ((ltb low 27 && ltb (low % 9) 7) && b)
inside low b h k = grind (arith, nat_tests)

-- no run begins at an honour, an eight or a nine
pub no_run_high : (low : ℕ) (tiles : List ℕ) → 27 ≤ low → false ≡ are_tiles_of Run low tiles
unfolding begins_run
no_run_high low tiles h = high low (bytes_eq (kind_counts (low ∷ (low + 1) ∷ (low + 2) ∷ [])) (kind_counts tiles)) h

pub no_run_late : (low : ℕ) (tiles : List ℕ) → 7 ≤ low % 9 → false ≡ are_tiles_of Run low tiles
unfolding begins_run
no_run_late low tiles h = late low (bytes_eq (kind_counts (low ∷ (low + 1) ∷ (low + 2) ∷ [])) (kind_counts tiles)) h

pub run_is : (low : ℕ) (tiles : List ℕ) (first second third : ℕ) (result : Bool) → low < 27 → low % 9 < 7 → first ≡ low → second ≡ low + 1 → third ≡ low + 2
    → result ≡ bytes_eq (kind_counts (first ∷ second ∷ third ∷ [])) (kind_counts tiles) → result ≡ are_tiles_of Run low tiles
unfolding begins_run
run_is low tiles first second third result h k a b c e =
    let same : first ∷ second ∷ third ∷ [] ≡ low ∷ (low + 1) ∷ (low + 2) ∷ [] = cc in
    e ∙ ap (λ xs. bytes_eq (kind_counts xs) (kind_counts tiles)) same
    ∙ inside low (bytes_eq (kind_counts (low ∷ (low + 1) ∷ (low + 2) ∷ [])) (kind_counts tiles)) h k
