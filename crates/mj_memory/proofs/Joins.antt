-- The join of two rows has the most that both leave.
use Rattle.std.proofs.Common.{◌≡◌, ℕ, zero, suc, ◌+◌, ◌-◌, ◌<◌, ◌≤◌, eqb, ◌&&◌, cond, Bool, max, List, refl, sym, subst, ap, ap₂, ◌∙◌, inl, inr, arith}
use Rattle.std.proofs.lemmas.Bool.{cases_lt, cases_Bool, and_parts, eqb-true}
use Rattle.mj_suits.specs.Rows.{lane, Holds, start_lane, taken}
use Rattle.mj_suits.specs.Left.{pairs, LeavesMost}
use Rattle.mj_suits.specs.Targets.{missing, IsTarget}
use Rattle.mj_suits.proofs.Taken.{taken_in, taken_none, taken_few_sets, taken_few_pairs, taken_again}
use Rattle.mj_shanten.proofs.Joint.{pairs_eqb, eqb_pairs}
use Rattle.mj_memory.specs.Joined.{beside_moved, beside, joined}
use Rattle.mj_memory.specs.Ways.{OfSuit, OfBoth, LeavesBest}

-- ---- the lanes

-- the lanes that are moved by no set, and by one more
none_moved : (other : List ℕ) → Holds other (taken 0 0 (lane other))
none_moved other = record { at = λ s p few one. sym (taken_none (lane other) s p) }

one_moved : (other moved next : List ℕ) (n more : ℕ) → 1 + n ≡ more → Holds moved (taken n 0 (lane other)) → Holds next (taken 1 0 (lane moved)) → Holds next (taken more 0 (lane other))
one_moved other moved next n more is held by = record {
  at = λ s p few one. by.at s p few one ∙ taken_again other moved 1 0 n 0 held s p few one ∙ ap (λ k. taken k 0 (lane other) s p) is;
}

-- what is left beside so many sets
part_is : (first : ℕ → ℕ → ℕ) (other moved part : List ℕ) (n s p : ℕ) → Holds moved (taken n 0 (lane other)) → Holds part (beside_moved first (lane moved) n) → s < 8 → p < 2
    → lane part s p ≡ beside first (lane other) n s p
part_is first other moved part n s p held by few one =
    let none : 0 + n ≡ n = omega arith in
    by.at s p few one
    ∙ ap₂ (λ x y. max (x - (15 - first n 0)) (y - (15 - first n 1))) (held.at s p few one)
    (taken_again other moved 0 1 n 0 held s p few one ∙ ap (λ k. taken k 1 (lane other) s p) none)

pub joined_holds : (self other one two three four first second third fourth fifth few many most row : List ℕ)
    → Holds one (taken 1 0 (lane other)) → Holds two (taken 1 0 (lane one)) → Holds three (taken 1 0 (lane two)) → Holds four (taken 1 0 (lane three))
    → Holds first (beside_moved (lane self) (lane other) 0) → Holds second (beside_moved (lane self) (lane one) 1) → Holds third (beside_moved (lane self) (lane two) 2)
    → Holds fourth (beside_moved (lane self) (lane three) 3) → Holds fifth (beside_moved (lane self) (lane four) 4)
    → Holds few (λ s p. max (lane first s p) (lane second s p)) → Holds many (λ s p. max (lane third s p) (lane fourth s p)) → Holds most (λ s p. max (lane few s p) (lane many s p))
    → Holds row (λ s p. max (lane most s p) (lane fifth s p)) → Holds row (joined (lane self) (lane other))
unfolding joined
joined_holds self other one two three four first second third fourth fifth few many most row a b c d e f g h i j k l m =
    let zeroth = none_moved other in
    let once : Holds one (taken 1 0 (lane other)) = a in
    let twice = one_moved other one two 1 2 refl once b in
    let thrice = one_moved other two three 2 3 refl twice c in
    let last = one_moved other three four 3 4 refl thrice d in
    record {
      at = λ s p small single.
          m.at s p small single
          ∙ ap₂ max
          (l.at s p small single
          ∙ ap₂ max
          (j.at s p small single ∙ ap₂ max (part_is (lane self) other other first 0 s p zeroth e small single) (part_is (lane self) other one second 1 s p once f small single))
          (k.at s p small single ∙ ap₂ max (part_is (lane self) other two third 2 s p twice g small single) (part_is (lane self) other three fourth 3 s p thrice h small single)))
          (part_is (lane self) other four fifth 4 s p last i small single);
    }

-- ---- the greatest of five

below_first : (a b c d e : ℕ) → a ≤ max (max (max a b) (max c d)) e
below_first a b c d e = omega arith

below_second : (a b c d e : ℕ) → b ≤ max (max (max a b) (max c d)) e
below_second a b c d e = omega arith

below_third : (a b c d e : ℕ) → c ≤ max (max (max a b) (max c d)) e
below_third a b c d e = omega arith

below_fourth : (a b c d e : ℕ) → d ≤ max (max (max a b) (max c d)) e
below_fourth a b c d e = omega arith

below_fifth : (a b c d e : ℕ) → e ≤ max (max (max a b) (max c d)) e
below_fifth a b c d e = omega arith

part_below : (f g : ℕ → ℕ → ℕ) (n s p : ℕ) → n < 5 → beside f g n s p ≤ joined f g s p
unfolding joined
part_below f g zero s p few = below_first (beside f g 0 s p) (beside f g 1 s p) (beside f g 2 s p) (beside f g 3 s p) (beside f g 4 s p)
part_below f g (suc zero) s p few = below_second (beside f g 0 s p) (beside f g 1 s p) (beside f g 2 s p) (beside f g 3 s p) (beside f g 4 s p)
part_below f g (suc (suc zero)) s p few = below_third (beside f g 0 s p) (beside f g 1 s p) (beside f g 2 s p) (beside f g 3 s p) (beside f g 4 s p)
part_below f g (suc (suc (suc zero))) s p few = below_fourth (beside f g 0 s p) (beside f g 1 s p) (beside f g 2 s p) (beside f g 3 s p) (beside f g 4 s p)
part_below f g (suc (suc (suc (suc zero)))) s p few = below_fifth (beside f g 0 s p) (beside f g 1 s p) (beside f g 2 s p) (beside f g 3 s p) (beside f g 4 s p)
part_below f g (suc (suc (suc (suc (suc n))))) s p few = absurd (omega arith)

one_of_two : (P : ℕ → Type 0) (x y : ℕ) → P x → P y → P (max x y)
one_of_two P x y a b = elim (cases_lt x y) [
  | inl less ↦ (let e : y ≡ max x y = omega arith in subst P e b)
  | inr more ↦ (let e : x ≡ max x y = omega arith in subst P e a)
]

-- ---- ways of both

-- what a way of both leaves
way_below : (f g : ℕ → ℕ → ℕ) (s p sf pf ss ps : ℕ) → sf < 5 → pf < 2 → s ≡ sf + ss → p ≡ pf + ps → g ss ps - (15 - f sf pf) ≤ joined f g s p
way_below f g s p sf zero ss ps few one sets pairs_are =
    let a : s - sf ≡ ss = omega arith in
    let b : p - 0 ≡ ps = omega arith in
    let t : taken sf 0 g s p ≡ g ss ps = taken_in sf 0 g s p (omega arith) (omega arith) ∙ ap₂ g a b in
    let h = part_below f g sf s p few in
    let i : g ss ps - (15 - f sf 0) ≤ beside f g sf s p = left_below (taken sf 0 g s p) (g ss ps) (15 - f sf 0) (taken sf 1 g s p - (15 - f sf 1)) t in
    (let j : g ss ps - (15 - f sf 0) ≤ joined f g s p = through _ _ _ i h in j)
  where
    left_below : (a b c d : ℕ) → a ≡ b → b - c ≤ max (a - c) d
    left_below a b c d e = omega arith

    through : (a b c : ℕ) → a ≤ b → b ≤ c → a ≤ c
    through a b c d e = omega arith
way_below f g s p sf (suc zero) ss ps few one sets pairs_are =
    let a : s - sf ≡ ss = omega arith in
    let b : p - 1 ≡ ps = omega arith in
    let t : taken sf 1 g s p ≡ g ss ps = taken_in sf 1 g s p (omega arith) (omega arith) ∙ ap₂ g a b in
    let h = part_below f g sf s p few in
    let i : g ss ps - (15 - f sf 1) ≤ beside f g sf s p = right_below (taken sf 1 g s p) (g ss ps) (15 - f sf 1) (taken sf 0 g s p - (15 - f sf 0)) t in
    (let j : g ss ps - (15 - f sf 1) ≤ joined f g s p = through _ _ _ i h in j)
  where
    right_below : (a b c d : ℕ) → a ≡ b → b - c ≤ max d (a - c)
    right_below a b c d e = omega arith

    through : (a b c : ℕ) → a ≤ b → b ≤ c → a ≤ c
    through a b c d e = omega arith
way_below f g s p sf (suc (suc n)) ss ps few one sets pairs_are = absurd (omega arith)

-- the way that leaves so much
record Split (f g : ℕ → ℕ → ℕ) (s p value : ℕ) : Type 0 where
  sets_first : ℕ
  pairs_first : ℕ
  sets_second : ℕ
  pairs_second : ℕ
  few : sets_first < 5
  one : pairs_first < 2
  sets_are : s ≡ sets_first + sets_second
  pairs_are : p ≡ pairs_first + pairs_second
  value_is : value ≡ g sets_second pairs_second - (15 - f sets_first pairs_first)

split_at : (f g : ℕ → ℕ → ℕ) (n q s p : ℕ) → n < 5 → q < 2 → 0 < taken n q g s p - (15 - f n q) → Split f g s p (taken n q g s p - (15 - f n q))
split_at f g n q s p few one some = elim (cases_lt s n) [
  | inl less ↦ absurd (nothing (taken n q g s p) (15 - f n q) (taken_few_sets n q g s p less) some)
  | inr sets ↦ elim (cases_lt p q) [
    | inl less ↦ absurd (nothing (taken n q g s p) (15 - f n q) (taken_few_pairs n q g s p less) some)
    | inr pair ↦ record {
      sets_first = n;
      pairs_first = q;
      sets_second = s - n;
      pairs_second = p - q;
      few = few;
      one = one;
      sets_are = omega arith;
      pairs_are = omega arith;
      value_is = ap (λ x. x - (15 - f n q)) (taken_in n q g s p sets pair);
    }
  ]
]
  where
    nothing : (a b : ℕ) → a ≡ 0 → 0 < a - b → ⊥
    nothing a b none more = omega arith

split_beside : (f g : ℕ → ℕ → ℕ) (n s p : ℕ) → n < 5 → 0 < beside f g n s p → Split f g s p (beside f g n s p)
split_beside f g n s p few =
    one_of_two (λ v. 0 < v → Split f g s p v) (taken n 0 g s p - (15 - f n 0)) (taken n 1 g s p - (15 - f n 1))
    (split_at f g n 0 s p few (omega arith)) (split_at f g n 1 s p few (omega arith))

split_joined : (f g : ℕ → ℕ → ℕ) (s p : ℕ) → 0 < joined f g s p → Split f g s p (joined f g s p)
unfolding joined
split_joined f g s p =
    one_of_two (λ v. 0 < v → Split f g s p v) (max (max (beside f g 0 s p) (beside f g 1 s p)) (max (beside f g 2 s p) (beside f g 3 s p))) (beside f g 4 s p)
    (one_of_two (λ v. 0 < v → Split f g s p v) (max (beside f g 0 s p) (beside f g 1 s p)) (max (beside f g 2 s p) (beside f g 3 s p))
    (one_of_two (λ v. 0 < v → Split f g s p v) (beside f g 0 s p) (beside f g 1 s p) (split_beside f g 0 s p (omega arith)) (split_beside f g 1 s p (omega arith)))
    (one_of_two (λ v. 0 < v → Split f g s p v) (beside f g 2 s p) (beside f g 3 s p) (split_beside f g 2 s p (omega arith)) (split_beside f g 3 s p (omega arith))))
    (split_beside f g 4 s p (omega arith))

-- no way of both leaves more
pub both_most : (V W : ℕ → ℕ → ℕ → Type 0) (a b : List ℕ) → LeavesBest V a → LeavesBest W b → (sets pairs missed : ℕ) → sets < 5 → pairs < 2 → OfBoth V W sets pairs missed
    → 15 ≤ joined (lane a) (lane b) sets pairs + missed
both_most V W a b first second sets pairs missed few one way =
    let s = way.sets_are in
    let p = way.pairs_are in
    let m = way.missed_is in
    let x : 15 ≤ lane a way.sets_first way.pairs_first + way.missed_first = first.most way.sets_first way.pairs_first way.missed_first (omega arith) (omega arith) way.first in
    let y : 15 ≤ lane b way.sets_second way.pairs_second + way.missed_second = second.most way.sets_second way.pairs_second way.missed_second (omega arith) (omega arith) way.second in
    let z : lane b way.sets_second way.pairs_second - (15 - lane a way.sets_first way.pairs_first) ≤ joined (lane a) (lane b) sets pairs =
    way_below (lane a) (lane b) sets pairs way.sets_first way.pairs_first way.sets_second way.pairs_second (omega arith) (omega arith) s p in
    enough (lane a way.sets_first way.pairs_first) (lane b way.sets_second way.pairs_second) way.missed_first way.missed_second (joined (lane a) (lane b) sets pairs) missed x y z m
  where
    enough : (x y m n j missed : ℕ) → 15 ≤ x + m → 15 ≤ y + n → y - (15 - x) ≤ j → missed ≡ m + n → 15 ≤ j + missed
    enough x y m n j missed d e f g = omega arith

-- and where something is left some way of both leaves it
pub both_some : (V W : ℕ → ℕ → ℕ → Type 0) (a b : List ℕ) → LeavesBest V a → LeavesBest W b → (sets pairs : ℕ) → sets < 5 → pairs < 2 → 0 < joined (lane a) (lane b) sets pairs
    → (missed : ℕ) × (OfBoth V W sets pairs missed × (joined (lane a) (lane b) sets pairs + missed ≡ 15))
both_some V W a b first second sets pairs few one some =
    let split = split_joined (lane a) (lane b) sets pairs some in
    let s = split.sets_are in
    let p = split.pairs_are in
    let v = split.value_is in
    let y = second.some split.sets_second split.pairs_second (omega arith) (omega arith) (left_second (joined (lane a) (lane b) sets pairs) (lane a split.sets_first split.pairs_first)
    (lane b split.sets_second split.pairs_second) v some) in
    let x = first.some split.sets_first split.pairs_first split.few split.one (left_first (joined (lane a) (lane b) sets pairs) (lane a split.sets_first split.pairs_first)
    (lane b split.sets_second split.pairs_second) y.0 v some y.1.1) in (
      x.0 + y.0,
      (
        record {
          sets_first = split.sets_first;
          sets_second = split.sets_second;
          pairs_first = split.pairs_first;
          pairs_second = split.pairs_second;
          missed_first = x.0;
          missed_second = y.0;
          first = x.1.0;
          second = y.1.0;
          sets_are = s;
          pairs_are = p;
          missed_is = refl;
        },
        whole (joined (lane a) (lane b) sets pairs) (lane a split.sets_first split.pairs_first) (lane b split.sets_second split.pairs_second) x.0 y.0 v some x.1.1 y.1.1,
      ),
    )
  where
    left_second : (j x y : ℕ) → j ≡ y - (15 - x) → 0 < j → 0 < y
    left_second j x y e more = omega arith

    left_first : (j x y n : ℕ) → j ≡ y - (15 - x) → 0 < j → y + n ≡ 15 → 0 < x
    left_first j x y n e more d = omega arith

    whole : (j x y m n : ℕ) → j ≡ y - (15 - x) → 0 < j → x + m ≡ 15 → y + n ≡ 15 → j + (m + n) ≡ 15
    whole j x y m n e more c d = omega arith

pub both_best : (V W : ℕ → ℕ → ℕ → Type 0) (a b row : List ℕ) → LeavesBest V a → LeavesBest W b → Holds row (joined (lane a) (lane b)) → LeavesBest (OfBoth V W) row
both_best V W a b row first second held = record {
  most = λ sets pairs missed few one way.
      subst (λ n. 15 ≤ n + missed) (sym (held.at sets pairs (omega arith) one)) (both_most V W a b first second sets pairs missed few one way);
  some = λ sets pairs few one some.
      (let e = held.at sets pairs (omega arith) one in
      let found = both_some V W a b first second sets pairs few one (subst (λ n. 0 < n) e some) in
      (found.0, (found.1.0, ap (λ n. n + found.0) e ∙ found.1.1)));
}

-- ---- one suit

-- its row before fifteen tiles
pub suit_best : (counts room : List ℕ) (runs : Bool) (start row : List ℕ) → Holds start start_lane → LeavesMost counts room runs start row → LeavesBest (OfSuit counts room runs) row
suit_best counts room runs start row holds leaves = record {
  most = λ sets pair missed few one way.
      (let m = way.missed_is in
      elim (cases_lt 15 missed) [
        | inl more ↦ far (lane row sets pair) missed more
        | inr within ↦
            (let full : lane start 0 0 ≡ 15 = holds.at 0 0 (omega arith) (omega arith) in
            let left : 15 - missed ≤ lane row sets pair = leaves.most sets pair (15 - missed) (omega arith) one record {
              target = way.target;
              sets_after = 0;
              pairs_after = 0;
              by = record {
                melds = sets;
                paired = eqb pair 1;
                is_target = way.is_target;
                sets_are = omega arith;
                pairs_are = (let q = pairs_eqb pair one in omega arith);
                left_is = rest missed (missing way.target counts) (lane start 0 0) m full within;
              };
            } in
            enough (lane row sets pair) missed left)
      ]);
  some = λ sets pair few one some.
      elim (leaves.some sets pair (omega arith) one) [
        | inl none ↦ absurd (nothing (lane row sets pair) none some)
        | inr found ↦
            (let by = found.by in
            let sets_are = by.sets_are in
            let pairs_are = by.pairs_are in
            let left = by.left_is in
            let after : lane start found.sets_after found.pairs_after ≡ start_lane found.sets_after found.pairs_after =
            holds.at found.sets_after found.pairs_after (omega arith) (omega arith) in
            let pos : 0 < start_lane found.sets_after found.pairs_after =
            positive (lane row sets pair) (missing found.target counts) (lane start found.sets_after found.pairs_after)
            (start_lane found.sets_after found.pairs_after) left after some in
            let none = nothing_after found.sets_after found.pairs_after pos in (
              missing found.target counts,
              (
                record {
                  target = found.target;
                  is_target = subst (λ q. IsTarget room runs sets q found.target)
                      (sym (eqb_pairs by.paired) ∙ (let q : pairs by.paired ≡ pair = (let z = none.1 in omega arith) in ap (λ n. eqb n 1) q))
                      (subst (λ n. IsTarget room runs n by.paired found.target) (let q : by.melds ≡ sets = (let z = none.0 in omega arith) in q) by.is_target);
                  missed_is = refl;
                },
                total (lane row sets pair) (missing found.target counts) (lane start found.sets_after found.pairs_after)
                    (start_lane found.sets_after found.pairs_after) left after (ap₂ start_lane none.0 none.1),
              ),
            ))
      ];
}
  where
    far : (lane missed : ℕ) → 15 < missed → 15 ≤ lane + missed
    far l m more = omega arith

    rest : (missed m full : ℕ) → missed ≡ m → full ≡ 15 → missed ≤ 15 → full ≡ (15 - missed) + m
    rest missed m full a b c = omega arith

    enough : (r m : ℕ) → 15 - m ≤ r → 15 ≤ r + m
    enough r m f = omega arith

    nothing : (r : ℕ) → r ≡ 0 → 0 < r → ⊥
    nothing r f g = omega arith

    positive : (r m a b : ℕ) → a ≡ r + m → a ≡ b → 0 < r → 0 < b
    positive r m a b f g h = omega arith

    total : (r m a b : ℕ) → a ≡ r + m → a ≡ b → b ≡ 15 → r + m ≡ 15
    total r m a b f g h = omega arith

    nothing_after : (s p : ℕ) → 0 < start_lane s p → (s ≡ 0) × (p ≡ 0)
    nothing_after s p some = elim (cases_Bool ((eqb s 0) && (eqb p 0))) [
      | inl none ↦ (let parts = and_parts (eqb s 0) (eqb p 0) none in (eqb-true s 0 parts.0, eqb-true p 0 parts.1))
      | inr more ↦ absurd (let e : start_lane s p ≡ 0 = ap (λ t. cond t 15 0) more in omega arith)
    ]
