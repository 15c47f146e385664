-- What holds of each of the 34 kinds.
use Rattle.std.proofs.Common.{◌≡◌, ℕ, ◌+◌, ◌-◌, ◌<◌, ◌≤◌, List, ◌∷◌, length, get_or, map, Bool, true, false, leb, ◌&&◌, refl, ap₂, sym, ◌∙◌, arith, zero, suc}
use Rattle.std.specs.List.{list_all, range_with_len}
use Rattle.std.proofs.lemmas.Bool.{le-leb}
use Rattle.std.proofs.lemmas.Bool.Decides.{nat_tests}
use Rattle.std.proofs.lemmas.List.FromFn.{length-map-range_with_len, get_or-map-range_with_len}
use Rattle.std.proofs.lemmas.Grind.{same_number_lists}
use Rattle.mj_tiles.specs.Counts.{all_kinds}
use Rattle.mj_tiles.proofs.EachKind.{all_kinds-pass, all_kinds-fail}
use Rattle.mj_hand.specs.Inner.Gathering.{are_within_four, room_left}

-- ---- no kind stands more than four times

pub too_many : (counts others : List ℕ) (kind number a b : ℕ) → number < 34 → kind ≡ number → a ≡ get_or counts kind 0 → b ≡ get_or others kind 0 → 4 < a + b → false ≡ are_within_four counts others
unfolding are_within_four
too_many counts others kind number a b low is first second many =
    sym (all_kinds-fail (λ k. leb (get_or counts k 0 + get_or others k 0) 4) kind (omega arith) (over (get_or counts kind 0 + get_or others kind 0) (omega arith)))
  where
    over : (n : ℕ) → 4 < n → leb n 4 ≡ false
    over n h = grind (arith, nat_tests)

pub few_enough : (counts others : List ℕ) (number : ℕ) → 34 ≤ number → ((k : ℕ) → k < number → get_or counts k 0 + get_or others k 0 ≤ 4) → true ≡ are_within_four counts others
unfolding are_within_four
few_enough counts others number last each =
    sym (all_kinds-pass (λ k. leb (get_or counts k 0 + get_or others k 0) 4) (λ k low. le-leb (get_or counts k 0 + get_or others k 0) 4 (each k (omega arith))))

-- ---- the room

pub room_is : (melded room : List ℕ) (number : ℕ) → length room ≡ 34 → 34 ≤ number → ((k : ℕ) → k < number → get_or room k 0 ≡ 4 - get_or melded k 0) → room ≡ room_left melded
unfolding room_left all_kinds
room_is melded room number size last each =
    let f : ℕ → ℕ = λ k. 4 - get_or melded k 0 in
    same_number_lists room (map f (range_with_len 0 34)) (size ∙ sym (length-map-range_with_len f 0 34))
    (λ k inside. each k (omega arith) ∙ sym (get_or-map-range_with_len f 0 34 k k 0 (omega arith) (omega arith)))

-- ---- lists over the kinds

pub same_all : (p q : ℕ → Bool) → ((k : ℕ) → k < 34 → p k ≡ q k) → list_all p all_kinds ≡ list_all q all_kinds
unfolding all_kinds
same_all p q each = go p q 0 34 (λ k inside. each k (omega arith))
  where
    go : (p q : ℕ → Bool) (from n : ℕ) → ((k : ℕ) → k < from + n → p k ≡ q k) → list_all p (range_with_len from n) ≡ list_all q (range_with_len from n)
    go p q from zero each = refl
    go p q from (suc n) each = ap₂ (λ a b. a && b) (each from (omega arith)) (go p q (from + 1) n (λ k inside. each k (omega arith)))

pub same_map : (f g : ℕ → ℕ) → ((k : ℕ) → k < 34 → f k ≡ g k) → map f all_kinds ≡ map g all_kinds
unfolding all_kinds
same_map f g each = go f g 0 34 (λ k inside. each k (omega arith))
  where
    go : (f g : ℕ → ℕ) (from n : ℕ) → ((k : ℕ) → k < from + n → f k ≡ g k) → map f (range_with_len from n) ≡ map g (range_with_len from n)
    go f g from zero each = refl
    go f g from (suc n) each = ap₂ (λ a b. a ∷ b) (each from (omega arith)) (go f g (from + 1) n (λ k inside. each k (omega arith)))
