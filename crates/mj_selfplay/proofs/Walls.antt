-- Choices give the same deed from the walls at hand as from all of the game, and those at hand are enough.
use Rattle.std.proofs.Common.{◌≡◌, ℕ, zero, suc, ◌+◌, ◌-◌, ◌<◌, ◌≤◌, ◌%◌, min, true, false, List, [], ◌∷◌, ◌++◌, length, inl, inr, refl, sym, ap, ◌∙◌, subst, arith}
use Rattle.std.specs.List.{list_all, slice_index_or}
use Rattle.std.proofs.Math.Nat.{mod-eq_of_lt}
use Rattle.std.proofs.Math.Seq.{get_or-append_seam}
use Rattle.std.proofs.lemmas.List.{get_or_append_left, length_push}
use Rattle.std.proofs.lemmas.Bool.{cases_eq}
use Rattle.mj_deeds.specs.declared.deed.Deed.{Deed}
use Rattle.mj_deeds.specs.Hand.{hand, hand_number}
use Rattle.mj_wall.specs.declared.setting.Rules.{Rules}
use Rattle.mj_wall.specs.Places.{is_wall}
use Rattle.mj_wall.specs.Shuffle.{shuffled_wall, shuffled_walls}
use Rattle.mj_rules.specs.Outcome.{AreSame, wall_of}
use Rattle.mj_selfplay.specs.SelfGame.{IsChosen}
use Rattle.mj_selfplay.specs.Inner.Supplies.{game_walls, AreAtHand, AreEnough}
use Rattle.mj_rules.proofs.SameWalls.{outcome_same}

pub chosen_same : (rules : Rules) (walls others : List (List ℕ)) (ds : List Deed) (d : Deed) → AreSame walls others (hand_number ds + 1) → IsChosen rules walls ds d → IsChosen rules others ds d
chosen_same rules walls others ds d same h = record { given = h.given; choices = h.choices; gives = sym (outcome_same rules walls others ds h.given same) ∙ h.gives }

-- the walls of a seed

many_first : (seed : List ℕ) (number : ℕ) → length (shuffled_walls seed false number) ≡ number
unfolding shuffled_walls
many_first seed zero = refl
many_first seed (suc n) = length_push (shuffled_walls seed false n) (shuffled_wall seed n false) ∙ next (length (shuffled_walls seed false n)) n (many_first seed n)
  where
    next : (a b : ℕ) → a ≡ b → a + 1 ≡ suc b
    next a b e = omega (arith, e)

-- Wall n of a seed stands at its place in each front that reaches so far.
wall_at : (seed : List ℕ) (number n : ℕ) → n < number → slice_index_or (shuffled_walls seed false number) n [] ≡ shuffled_wall seed n false
unfolding shuffled_walls
wall_at seed zero n low = absurd (omega arith)
wall_at seed (suc m) n low = elim (cases_eq n m) [
  | inl same ↦ ap (λ (k : ℕ). slice_index_or (shuffled_walls seed false m ++ shuffled_wall seed m false ∷ []) k []) (same ∙ sym (many_first seed m))
      ∙ get_or-append_seam (shuffled_walls seed false m) (shuffled_wall seed m false) [] []
      ∙ ap (λ (k : ℕ). shuffled_wall seed k false) (sym same)
  | inr other ↦ get_or_append_left (shuffled_walls seed false m) (shuffled_wall seed m false ∷ []) [] n (below n m (length (shuffled_walls seed false m)) low other (many_first seed m))
      ∙ wall_at seed m n (below n m m low other refl)
]
  where
    below : (a b c : ℕ) → a < suc b → (a ≡ b → ⊥) → c ≡ b → a < c
    below a b c h k e = omega (arith, h, k, e)

-- The hands take them in turn, so that a hand with a number below theirs has the wall of its number.
turn_at : (seed : List ℕ) (number n : ℕ) → n < number → wall_of (shuffled_walls seed false number) n ≡ shuffled_wall seed n false
turn_at seed number n low =
    ap (λ (k : ℕ). slice_index_or (shuffled_walls seed false number) k []) (ap (λ (m : ℕ). n % m) (many_first seed number) ∙ mod-eq_of_lt low)
    ∙ wall_at seed number n low

fronts_same : (seed : List ℕ) (number last : ℕ) → last < number → number ≤ 200 → AreSame (shuffled_walls seed false number) (game_walls seed) last
fronts_same seed number last low few n h = turn_at seed number n (within n last number h low) ∙ sym (turn_at seed 200 n (early n last number h low few))
  where
    within : (a b c : ℕ) → a ≤ b → b < c → a < c
    within a b c h k = omega (arith, h, k)

    early : (a b c : ℕ) → a ≤ b → b < c → c ≤ 200 → a < 200
    early a b c h k l = omega (arith, h, k, l)

-- the walls at hand

-- All of the game are enough.
enough_ever : (seed : List ℕ) (walls : List (List ℕ)) (hand : ℕ) → walls ≡ game_walls seed → AreEnough seed hand walls
enough_ever seed walls hand are number low = ap (λ (w : List (List ℕ)). wall_of w number) are

-- So many walls of a seed may be at hand.
at_hand : (seed : List ℕ) (number : ℕ) (walls : List (List ℕ)) → 2 ≤ number → number ≤ 200 → walls ≡ shuffled_walls seed false number →
    length walls ≡ number → list_all (is_wall false) walls ≡ true → AreAtHand seed walls
at_hand seed number walls some few are many whole = record {
  some = least number (length walls) some many;
  few = most number (length walls) few many;
  first = are ∙ ap (shuffled_walls seed false) (sym many);
  whole = whole;
}
  where
    least : (a b : ℕ) → 2 ≤ a → b ≡ a → 2 ≤ b
    least a b h e = omega (arith, h, e)

    most : (a b : ℕ) → a ≤ 200 → b ≡ a → b ≤ 200
    most a b h e = omega (arith, h, e)

-- And those are that are more than the hands.
pub enough_yet : (seed : List ℕ) (walls : List (List ℕ)) (hands : ℕ) → AreAtHand seed walls → hands < length walls → AreEnough seed (hands - 1) walls
enough_yet seed walls hands at low =
    subst (λ (w : List (List ℕ)). AreSame w (game_walls seed) (hands - 1 + 1)) (sym at.first) (fronts_same seed (length walls) (hands - 1 + 1) (next hands (length walls) low at.some) at.few)
  where
    next : (a b : ℕ) → a < b → 2 ≤ b → a - 1 + 1 < b
    next a b h k = omega (arith, h, k)

-- Where they are not, more are shuffled: sixteen more than hands, or all of the game.
pub at_hand_then : (seed : List ℕ) (walls : List (List ℕ)) (hands number : ℕ) → number ≡ min (hands + 16) 200 →
    walls ≡ shuffled_walls seed false number → length walls ≡ number → list_all (is_wall false) walls ≡ true → AreAtHand seed walls
at_hand_then seed walls hands number is are many whole = at_hand seed number walls (some hands number is) (few hands number is) are many whole
  where
    some : (a b : ℕ) → b ≡ min (a + 16) 200 → 2 ≤ b
    some a b e = omega (arith, e)

    few : (a b : ℕ) → b ≡ min (a + 16) 200 → b ≤ 200
    few a b e = omega (arith, e)

pub enough_then : (seed : List ℕ) (walls : List (List ℕ)) (hands number : ℕ) → number ≡ min (hands + 16) 200 →
    walls ≡ shuffled_walls seed false number → length walls ≡ number → list_all (is_wall false) walls ≡ true →
    AreEnough seed (hands - 1) walls
enough_then seed walls hands number is are many whole = elim (cases_eq number 200) [
  | inl all ↦ enough_ever seed walls (hands - 1) (are ∙ ap (shuffled_walls seed false) all)
  | inr fewer ↦ enough_yet seed walls hands (at_hand_then seed walls hands number is are many whole) (beyond hands number (length walls) is many fewer)
]
  where
    beyond : (a b c : ℕ) → b ≡ min (a + 16) 200 → c ≡ b → (b ≡ 200 → ⊥) → a < c
    beyond a b c e f h = omega (arith, e, f, h)
