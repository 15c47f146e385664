-- The walk over a whole suit.
use Rattle.std.proofs.Common.{◌≡◌, ◌⊎◌, ℕ, zero, suc, ◌+◌, ◌-◌, ◌<◌, ◌≤◌, Bool, true, false, max, List, [], ◌∷◌, length, get_or, refl, sym, subst, ap₂, ◌∙◌, inl, inr, arith}
use Rattle.mj_suits.specs.Rows.{lane, Holds, taken, price, begun, walked, IsFew}
use Rattle.mj_suits.specs.Targets.{missing}
use Rattle.mj_suits.specs.Left.{pairs, LeavesBy, Leaves, LeavesMost}
use Rattle.mj_suits.specs.Inner.Walked.{AreCosts}
use Rattle.mj_suits.specs.declared.walk.Costs.{Costs}
use Rattle.std.proofs.lemmas.Bool.{cases_lt}
use Rattle.mj_suits.proofs.Taken.{taken_in, taken_none, taken_held, taken_few_sets, taken_few_pairs}
use Rattle.mj_suits.proofs.Rows.{walked_at}
use Rattle.mj_suits.specs.Inner.Ends.{Ends}
use Rattle.mj_suits.proofs.Best.{OfFour, walked_bound, walked_few, walked_reached}
use Rattle.mj_suits.proofs.Made.{target_ends, ends_target}

abbrev pub nine_of : List ℕ → List ℕ
nine_of xs = get_or xs 0 0 ∷ get_or xs 1 0 ∷ get_or xs 2 0 ∷ get_or xs 3 0 ∷ get_or xs 4 0 ∷ get_or xs 5 0 ∷ get_or xs 6 0 ∷ get_or xs 7 0 ∷ get_or xs 8 0 ∷ []

pub nine_are : (xs : List ℕ) → length xs ≡ 9 → nine_of xs ≡ xs
nine_are (a ∷ b ∷ c ∷ d ∷ e ∷ f ∷ g ∷ h ∷ i ∷ []) nine = refl
nine_are xs nine = absurd (omega arith)

-- the walk over the nine numbers is the walk over the list
pub holds_whole : (row : List ℕ) (runs : Bool) (after : ℕ → ℕ → ℕ) (room counts : List ℕ) → length room ≡ 9 → length counts ≡ 9
    → Holds row (walked runs after (nine_of room) (nine_of counts) 0 0) → Holds row (walked runs after room counts 0 0)
holds_whole row runs after room counts nine nine_counts holds =
    subst (λ r. Holds row (walked runs after r counts 0 0)) (nine_are room nine)
    (subst (λ c. Holds row (walked runs after (nine_of room) c 0 0)) (nine_are counts nine_counts) holds)

-- one number of honours
pub honours_step : (next triplet pair result : List ℕ) (after : ℕ → ℕ → ℕ) (most have : ℕ) (room held : List ℕ) (costs : Costs) → AreCosts have most costs
    → Holds next (walked false after room held 0 0)
    → ((s p : ℕ) → s < 8 → p < 2 → lane triplet s p ≡ taken 1 0 (lane next) s p - lane costs.three.lanes s p)
    → ((s p : ℕ) → s < 8 → p < 2 → lane pair s p ≡ taken 0 1 (lane next) s p - lane costs.two.lanes s p)
    → ((s p : ℕ) → s < 8 → p < 2 → lane result s p ≡ max (lane next s p) (max (lane pair s p) (lane triplet s p)))
    → Holds result (walked false after (most ∷ room) (have ∷ held) 0 0)
honours_step next triplet pair result after most have room held costs are holds triplet_is pair_is result_is = record {
  at = λ s p few one.
      let now = walked_at false after most have room held 0 0 s p in
      let none : begun (λ begin. walked false after room held begin 0) 0 0 0 s p ≡ lane next s p = taken_none (walked false after room held 0 0) s p ∙ sym (holds.at s p few one) in
      let a : taken 1 0 (lane next) s p ≡ begun (λ begin. walked false after room held begin 0) 0 1 0 s p = taken_held next (walked false after room held 0 0) 1 0 s p holds few one in
      let b : taken 0 1 (lane next) s p ≡ begun (λ begin. walked false after room held begin 0) 0 0 1 s p = taken_held next (walked false after room held 0 0) 0 1 s p holds few one in
      summed _ _ _ _ _ _ _ _ _ _ _ _ _ (result_is s p few one) (pair_is s p few one) (triplet_is s p few one) a b none (are.two.at s p few one) (are.three.at s p few one) ∙ sym now;
}
  where
    summed : (result next pair triplet pair_left triplet_left pair_begun triplet_begun none_begun cost_two cost_three one two : ℕ) → result ≡ max next (max pair triplet)
        → pair ≡ pair_left - cost_two → triplet ≡ triplet_left - cost_three → triplet_left ≡ triplet_begun → pair_left ≡ pair_begun → none_begun ≡ next → cost_two ≡ two → cost_three ≡ one
        → result ≡ max (none_begun - 0) (max (0 - price have most 1) (max (pair_begun - two) (max (triplet_begun - one) 0)))
    summed result next pair triplet pair_left triplet_left pair_begun triplet_begun none_begun cost_two cost_three one two a b c d e f g h = omega arith

-- a number for which there is no room
pub no_room : (next : List ℕ) (after : ℕ → ℕ → ℕ) (have : ℕ) (room held : List ℕ) → IsFew next → Holds next (walked false after room held 0 0)
    → Holds next (walked false after (0 ∷ room) (have ∷ held) 0 0)
no_room next after have room held short holds = record {
  at = λ s p few one.
      let now = walked_at false after 0 have room held 0 0 s p in
      let none : begun (λ begin. walked false after room held begin 0) 0 0 0 s p ≡ lane next s p = taken_none (walked false after room held 0 0) s p ∙ sym (holds.at s p few one) in
      let a : taken 1 0 (lane next) s p ≡ begun (λ begin. walked false after room held begin 0) 0 1 0 s p = taken_held next (walked false after room held 0 0) 1 0 s p holds few one in
      let b : taken 0 1 (lane next) s p ≡ begun (λ begin. walked false after room held begin 0) 0 0 1 s p = taken_held next (walked false after room held 0 0) 0 1 s p holds few one in
      unpaid _ _ _ _ _ _ none a b (short_taken 1 0 s p few one) (short_taken 0 1 s p few one) ∙ sym now;
}
  where
    short_taken : (sets pairs s p : ℕ) → s < 8 → p < 2 → taken sets pairs (lane next) s p ≤ 15
    short_taken sets pairs s p few one = elim (cases_lt s sets) [
      | inl less ↦ (let e = taken_few_sets sets pairs (lane next) s p less in omega arith)
      | inr enough ↦ elim (cases_lt p pairs) [
        | inl less ↦ (let e = taken_few_pairs sets pairs (lane next) s p less in omega arith)
        | inr both ↦ (let e = taken_in sets pairs (lane next) s p enough both in let f = short (s - sets) (p - pairs) (omega arith) (omega arith) in omega arith)
      ]
    ]

    unpaid : (next none_begun pair_begun triplet_begun pair triplet : ℕ) → none_begun ≡ next → triplet ≡ triplet_begun → pair ≡ pair_begun → triplet ≤ 15 → pair ≤ 15
        → next ≡ max (none_begun - 0) (max (0 - price have 0 1) (max (pair_begun - price have 0 2) (max (triplet_begun - price have 0 3) 0)))
    unpaid next none_begun pair_begun triplet_begun pair triplet a b c d e = omega arith

of_four : (room : List ℕ) → ((n : ℕ) → n < length room → get_or room n 0 ≤ 4) → OfFour room
of_four [] each = tt
of_four (most ∷ room) each = (each 0 (omega arith), of_four room (λ n inside. each (suc n) (omega arith)))

-- ---- the tiles from the lowest number on, and the targets

-- what a target leaves, by its tiles from the lowest number on
pub leaves_by : (counts room : List ℕ) (runs : Bool) (after : List ℕ) (s p left : ℕ) (target : List ℕ) (sa pa sets pairs_here : ℕ) → length room ≡ 9 → p < 2
    → Ends runs room 0 0 sets pairs_here target → s ≡ sets + sa → p ≡ pairs_here + pa → lane after sa pa ≡ left + missing target counts → LeavesBy counts room runs after s p left target sa pa
leaves_by counts room runs after s p left target sa pa sets zero nine few ends sets_are pairs_are left_is = record {
  melds = sets;
  paired = false;
  is_target = ends_target room runs sets false target nine ends;
  sets_are = sets_are;
  pairs_are = pairs_are;
  left_is = left_is;
}
leaves_by counts room runs after s p left target sa pa sets (suc zero) nine few ends sets_are pairs_are left_is = record {
  melds = sets;
  paired = true;
  is_target = ends_target room runs sets true target nine ends;
  sets_are = sets_are;
  pairs_are = pairs_are;
  left_is = left_is;
}
leaves_by counts room runs after s p left target sa pa sets (suc (suc many)) nine few ends sets_are pairs_are left_is = absurd (omega arith)

-- the most that the targets leave is what the walk leaves
pub leaves_most_of : (counts room : List ℕ) (runs : Bool) (after : List ℕ) → length room ≡ 9 → length counts ≡ 9 → ((n : ℕ) → n < length room → get_or room n 0 ≤ 4) → IsFew after
    → (s p : ℕ) → s < 8 → p < 2
    → ((left : ℕ) → Leaves counts room runs after s p left → left ≤ walked runs (lane after) room counts 0 0 s p)
    × ((walked runs (lane after) room counts 0 0 s p ≡ 0) ⊎ Leaves counts room runs after s p (walked runs (lane after) room counts 0 0 s p))
leaves_most_of counts room runs after nine nine_counts each few s p few_sets few_pairs = (
  λ left leaves.
      let by = leaves.by in
      let is = target_ends room runs by.melds by.paired leaves.target nine by.is_target in
      let bound = walked_bound runs (lane after) room counts 0 0 by.melds (pairs by.paired) leaves.target (nine ∙ sym nine_counts)
      (of_four room each) is leaves.sets_after leaves.pairs_after (let e = by.pairs_are in omega arith) in
      let same : walked runs (lane after) room counts 0 0 (by.melds + leaves.sets_after) (pairs by.paired + leaves.pairs_after) ≡ walked runs (lane after) room counts 0 0 s p =
      ap₂ (walked runs (lane after) room counts 0 0) (sym by.sets_are) (sym by.pairs_are) in
      bounded _ _ _ _ _ bound same by.left_is,
  elim (walked_reached runs (lane after) few room counts 0 0 s p few_sets few_pairs (nine ∙ sym nine_counts) (of_four room each)) [
    | inl none ↦ inl none
    | inr reached ↦ inr record {
      target = reached.tiles;
      sets_after = reached.sets_left;
      pairs_after = reached.pairs_left;
      by = leaves_by counts room runs after s p
          (walked runs (lane after) room counts 0 0 s p) reached.tiles reached.sets_left reached.pairs_left reached.sets reached.pairs nine few_pairs reached.ends reached.sets_are
          reached.pairs_are reached.left_is;
    }
  ],
)
  where
    bounded : (spare whole whole' missed left : ℕ) → spare ≤ whole + missed → whole ≡ whole' → spare ≡ left + missed → left ≤ whole'
    bounded spare whole whole' missed left a b c = omega arith

-- the walk over a suit leaves the most that its targets leave
pub leaves_most : (counts room : List ℕ) (runs : Bool) (after row : List ℕ) → length room ≡ 9 → length counts ≡ 9 → ((n : ℕ) → n < length room → get_or room n 0 ≤ 4) → IsFew after
    → Holds row (walked runs (lane after) room counts 0 0) → LeavesMost counts room runs after row
leaves_most counts room runs after row nine nine_counts each few holds = record {
  most = λ s p left few_sets few_pairs leaves.
      let here = holds.at s p few_sets few_pairs in
      let bound = (leaves_most_of counts room runs after nine nine_counts each few s p few_sets few_pairs).0 left leaves in
      omega arith;
  some = λ s p few_sets few_pairs.
      let here : lane row s p ≡ walked runs (lane after) room counts 0 0 s p = holds.at s p few_sets few_pairs in
      elim ((leaves_most_of counts room runs after nine nine_counts each few s p few_sets few_pairs).1) [
        | inl none ↦ inl (here ∙ none)
        | inr leaves ↦ inr (subst (Leaves counts room runs after s p) (sym here) leaves)
      ];
  few = λ s p few_sets few_pairs. (let here = holds.at s p few_sets few_pairs in let bound = walked_few runs (lane after) few room counts 0 0 s p few_sets few_pairs in omega arith);
}
