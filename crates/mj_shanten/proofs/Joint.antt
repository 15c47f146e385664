-- The suits one after another: what is left is what the best hand of all of them leaves.
use Rattle.std.proofs.Common.{◌≡◌, ◌≢◌, ◌&&◌, eqb, cond, Bool, true, false, ℕ, zero, suc, ◌+◌, ◌-◌, ◌*◌, ◌<◌, ◌≤◌, List, [], ◌∷◌}
use Rattle.std.proofs.Common.{◌++◌, length, refl, sym, subst, ap, ap₂, ◌∙◌, inl, inr, arith, Ordering, Less, Equal, Greater}
use Rattle.std.specs.List.{flat_map}
use Rattle.std.specs.Ordering.{nat_cmp, ordering_then}
use Rattle.std.specs.Cmp.Lexicographic.{slice_cmp}
use Rattle.std.proofs.lemmas.Bool.{cases_Bool, cases_lt, cases_order, and_parts, eqb-true, lt-ltb, le-ltb, ne_eqb}
use Rattle.std.proofs.lemmas.Cmp.{nat_list_cmp_total, tied_itself}
use Rattle.mj_suits.specs.Rows.{lane, Holds, start_lane}
use Rattle.mj_suits.specs.Left.{pairs, LeavesBy, IsChosen}
use Rattle.mj_suits.specs.Targets.{missing, IsTarget, IsNearest}
use Rattle.mj_suits.proofs.Near.{missing-append}
use Rattle.mj_suits.proofs.Whole.{length-counts_of}
use Rattle.mj_suits.proofs.Tables.{same_tiles, few_missing}
use Rattle.mj_shanten.specs.declared.suits.Suit.{Suit}
use Rattle.mj_shanten.specs.Suits.{IsSuit, IsJoint}
use Rattle.mj_shanten.specs.Walked.{IsRow}

-- ---- the order of lists that begin alike

-- lists of one length with the same rest are ordered as they are
pub cmp_before : (xs ys zs : List ℕ) → length xs ≡ length ys → slice_cmp nat_cmp (xs ++ zs) (ys ++ zs) ≡ slice_cmp nat_cmp xs ys
cmp_before [] [] zs same = tied_itself nat_list_cmp_total zs
cmp_before [] (y ∷ ys) zs same = absurd (omega arith)
cmp_before (x ∷ xs) [] zs same = absurd (omega arith)
cmp_before (x ∷ xs) (y ∷ ys) zs same = ap (λ o. ordering_then (nat_cmp x y) o) (cmp_before xs ys zs (omega arith))

-- of lists of one length the prefixes decide, and where they are the same the rests
cmp_parts : (xs ys us vs : List ℕ) → length xs ≡ length ys → slice_cmp nat_cmp (xs ++ us) (ys ++ vs) ≡ ordering_then (slice_cmp nat_cmp xs ys) (slice_cmp nat_cmp us vs)
cmp_parts [] [] us vs same = refl
cmp_parts [] (y ∷ ys) us vs same = absurd (omega arith)
cmp_parts (x ∷ xs) [] us vs same = absurd (omega arith)
cmp_parts (x ∷ xs) (y ∷ ys) us vs same =
    ap (λ o. ordering_then (nat_cmp x y) o) (cmp_parts xs ys us vs (omega arith)) ∙ sym (then_assoc (nat_cmp x y) (slice_cmp nat_cmp xs ys) (slice_cmp nat_cmp us vs))
  where
    then_assoc : (a b c : Ordering) → ordering_then (ordering_then a b) c ≡ ordering_then a (ordering_then b c)
    then_assoc Less b c = refl
    then_assoc Equal b c = refl
    then_assoc Greater b c = refl

then_not_greater : (a b : Ordering) → a ≢ Greater → (a ≡ Equal → b ≢ Greater) → ordering_then a b ≢ Greater
then_not_greater Less b first rest e = absurd (cc)
then_not_greater Equal b first rest e = rest refl e
then_not_greater Greater b first rest e = first refl

then_equal : (a b : Ordering) → ordering_then a b ≡ Equal → (a ≡ Equal) × (b ≡ Equal)
then_equal Less b e = absurd (cc)
then_equal Equal b e = (refl, e)
then_equal Greater b e = absurd (cc)

same_number : (x y : ℕ) → nat_cmp x y ≡ Equal → x ≡ y
same_number x y e = elim (cases_order x y) [
  | inl same ↦ same
  | inr apart ↦ elim apart [
    | inl less ↦ absurd (let l : nat_cmp x y ≡ Less = ap (λ t. cond t Less (cond (eqb x y) Equal Greater)) (lt-ltb x y less) in cc)
    | inr more ↦ absurd (let g : nat_cmp x y ≡ Greater = ap₂ (λ t u. cond t Less (cond u Equal Greater)) (le-ltb x y (omega arith)) (ne_eqb x y (λ same. omega arith)) in cc)
  ]
]

-- lists that are ordered alike are the same
same_list : (xs ys : List ℕ) → slice_cmp nat_cmp xs ys ≡ Equal → xs ≡ ys
same_list [] [] e = refl
same_list [] (y ∷ ys) e = absurd (cc)
same_list (x ∷ xs) [] e = absurd (cc)
same_list (x ∷ xs) (y ∷ ys) e =
    let both = then_equal (nat_cmp x y) (slice_cmp nat_cmp xs ys) e in
    ap₂ (λ z zs. z ∷ zs) (same_number x y both.0) (same_list xs ys both.1)

-- ---- pairs as numbers

pub pairs_eqb : (p : ℕ) → p < 2 → pairs (eqb p 1) ≡ p
pairs_eqb zero few = refl
pairs_eqb (suc zero) few = refl
pairs_eqb (suc (suc p)) few = absurd (omega arith)

pub eqb_pairs : (b : Bool) → eqb (pairs b) 1 ≡ b
eqb_pairs true = refl
eqb_pairs false = refl

pub pairs_few : (b : Bool) → pairs b ≤ 1
pairs_few true = omega arith
pairs_few false = omega arith

-- ---- what the suits leave

abbrev pub counts_in : List Suit → List ℕ
counts_in suits = flat_map (λ (suit : Suit). suit.counts) suits

-- a hand of the suits that leaves what the row says
pub record Joint (suits : List Suit) (row : List ℕ) (s p : ℕ) (tiles : List ℕ) : Type 0 where
  pub is : IsJoint suits s (eqb p 1) tiles
  pub left_is : lane row s p + missing tiles (counts_in suits) ≡ 15

abbrev pub AllSuits : List Suit → Type 0
AllSuits [] = Unit {0}
AllSuits (suit ∷ others) = (IsSuit suit × (length suit.room ≡ 9)) × AllSuits others

-- no hand of the suits leaves more, and where something is left some hand leaves it
pub record JointMost (suits : List Suit) (row : List ℕ) : Type 0 where
  pub most : (s p : ℕ) (tiles : List ℕ) → s < 8 → p < 2 → IsJoint suits s (eqb p 1) tiles → 15 ≤ lane row s p + missing tiles (counts_in suits)
  pub some : (s p : ℕ) → s < 8 → p < 2 → 0 < lane row s p → (tiles : List ℕ) × Joint suits row s p tiles

pub no_suit : (start : List ℕ) → Holds start start_lane → JointMost [] start
no_suit start holds = record {
  most = λ s p tiles few one joint.
      let none : ((eqb s 0) && (eqb p 0)) ≡ true = ap₂ (λ a b. (eqb a 0) && (eqb b 0)) joint.0 (no_pair p one joint.1.0) in
      let e : lane start s p ≡ 15 = holds.at s p few one ∙ ap (λ t. cond t 15 0) none in
      omega arith;
  some = λ s p few one left. elim (cases_Bool ((eqb s 0) && (eqb p 0))) [
    | inl none ↦
        let parts = and_parts (eqb s 0) (eqb p 0) none in
        let no_pairs : p ≡ 0 = eqb-true p 0 parts.1 in
        let e : lane start s p ≡ 15 = holds.at s p few one ∙ ap (λ t. cond t 15 0) none in
        ([], record { is = (eqb-true s 0 parts.0, (ap (λ n. eqb n 1) no_pairs, refl)); left_is = omega arith })
    | inr more ↦ absurd (let e : lane start s p ≡ 0 = holds.at s p few one ∙ ap (λ t. cond t 15 0) more in omega arith)
  ];
}
  where
    no_pair : (p : ℕ) → p < 2 → eqb p 1 ≡ false → p ≡ 0
    no_pair zero few none = refl
    no_pair (suc zero) few none = absurd (cc)
    no_pair (suc (suc p)) few none = absurd (omega arith)

-- a target of the first suit and a hand of the others
pub parts_missing : (suit : Suit) (others : List Suit) (here rest : List ℕ) → length here ≡ length suit.counts
    → missing (here ++ rest) (counts_in (suit ∷ others)) ≡ missing here suit.counts + missing rest (counts_in others)
parts_missing suit others here rest same = missing-append here rest suit.counts (counts_in others) same

pub target_long : (suit : Suit) (melds : ℕ) (paired : Bool) (here : List ℕ) → IsSuit suit → IsTarget suit.room suit.runs melds paired here → length here ≡ length suit.counts
target_long suit melds paired here is target = ap length target.made ∙ length-counts_of _ ∙ sym is.nine

-- what a target of the first suit leaves, if anything
begin_leaves : (suit : Suit) (after row : List ℕ) (s p sl : ℕ) (q r : Bool) (melds : ℕ) (here : List ℕ) → IsRow suit after row → s < 8 → p < 2
    → IsTarget suit.room suit.runs melds q here → s ≡ melds + sl → p ≡ pairs q + pairs r
    → lane after sl (pairs r) ≤ lane row s p + missing here suit.counts
begin_leaves suit after row s p sl q r melds here most few one target sets pairs_are = elim (cases_lt (lane after sl (pairs r)) (missing here suit.counts)) [
  | inl less ↦ omega arith
  | inr enough ↦
      let left : ℕ = lane after sl (pairs r) - missing here suit.counts in
      let bound : left ≤ lane row s p = most.most s p left few one record {
        target = here;
        sets_after = sl;
        pairs_after = pairs r;
        by = record { melds = melds; paired = q; is_target = target; sets_are = sets; pairs_are = pairs_are; left_is = omega arith };
      } in
      omega arith
]

pub suit_more : (suit : Suit) (others : List Suit) (after row : List ℕ) → IsSuit suit → IsRow suit after row → JointMost others after → JointMost (suit ∷ others) row
suit_more suit others after row is most later = record {
  most = λ s p tiles few one joint.
      let q = joint.pair_here in
      let r = joint.pair_left in
      let pair_is : p ≡ pairs q + pairs r = sym (pairs_eqb p one) ∙ joint.pair_is in
      let sets_are = joint.sets_are in
      let rest_is : IsJoint others joint.sets_left (eqb (pairs r) 1) joint.rest = subst (λ b. IsJoint others joint.sets_left b joint.rest) (sym (eqb_pairs r)) joint.more in
      let left : 15 ≤ lane after joint.sets_left (pairs r) + missing joint.rest (counts_in others) =
      later.most joint.sets_left (pairs r) joint.rest (omega arith) (let f = pairs_few r in omega arith) rest_is in
      let here = begin_leaves suit after row s p joint.sets_left q r joint.sets_here joint.here most few one joint.target sets_are pair_is in
      let whole : missing tiles (counts_in (suit ∷ others)) ≡ missing joint.here suit.counts + missing joint.rest (counts_in others) =
      ap (λ t. missing t (counts_in (suit ∷ others))) joint.tiles_are ∙ parts_missing suit others joint.here joint.rest (target_long suit joint.sets_here q joint.here is joint.target) in
      omega arith;
  some = λ s p few one some_left. elim (most.some s p few one) [
    | inl none ↦ absurd (omega arith)
    | inr leaves ↦
        let by = leaves.by in
        let sets_are = by.sets_are in
        let pairs_are = by.pairs_are in
        let left = by.left_is in
        let one_after : leaves.pairs_after < 2 = omega arith in
        let rest = later.some leaves.sets_after leaves.pairs_after (omega arith) one_after (omega arith) in
        let rest_left = rest.1.left_is in
        let whole = parts_missing suit others leaves.target rest.0 (target_long suit by.melds by.paired leaves.target is by.is_target) in (
          leaves.target ++ rest.0,
          record {
            is = record {
              here = leaves.target;
              rest = rest.0;
              sets_here = by.melds;
              sets_left = leaves.sets_after;
              pair_here = by.paired;
              pair_left = eqb leaves.pairs_after 1;
              target = by.is_target;
              more = rest.1.is;
              sets_are = sets_are;
              pair_is = pairs_eqb p one ∙ pairs_are ∙ ap (λ k. pairs by.paired + k) (sym (pairs_eqb leaves.pairs_after one_after));
              tiles_are = refl;
            };
            left_is = omega arith;
          },
        )
  ];
}

-- ---- the greatest of those that leave the most

pub record JointChosen (suits : List Suit) (row : List ℕ) (s p : ℕ) (tiles : List ℕ) : Type 0 where
  pub joint : Joint suits row s p tiles
  pub greatest : (other : List ℕ) → Joint suits row s p other → slice_cmp nat_cmp other tiles ≢ Greater

pub none_chosen : (start : List ℕ) (s p : ℕ) → Holds start start_lane → s < 8 → p < 2 → 0 < lane start s p → JointChosen [] start s p []
none_chosen start s p holds few one some =
    let joint = (no_suit start holds).some s p few one some in
    record {
      joint = subst (λ t. Joint [] start s p t) joint.1.is.1.1 joint.1;
      greatest = λ other o. subst (λ t. slice_cmp nat_cmp t [] ≢ Greater) (sym o.is.1.1) (λ e. absurd (cc));
    }

pub suit_chosen : (suit : Suit) (others : List Suit) (after row : List ℕ) (s p left : ℕ) (here rest : List ℕ) (sa pa : ℕ) → IsSuit suit → length suit.room ≡ 9 → IsRow suit after row
    → JointMost others after → s < 8 → p < 2 → left ≡ lane row s p
    → IsChosen suit.counts suit.room suit.runs after s p left here sa pa → JointChosen others after sa pa rest → JointChosen (suit ∷ others) row s p (here ++ rest)
suit_chosen suit others after row s p left here rest sa pa is nine most later few one left_at chosen rest_chosen =
    let by = chosen.is in
    let sets_are = by.sets_are in
    let pairs_are = by.pairs_are in
    let left_is = by.left_is in
    let rest_left = rest_chosen.joint.left_is in
    let one_after : pa < 2 = omega arith in
    let whole = parts_missing suit others here rest (target_long suit by.melds by.paired here is by.is_target) in
    record {
      joint = record {
        is = record {
          here = here;
          rest = rest;
          sets_here = by.melds;
          sets_left = sa;
          pair_here = by.paired;
          pair_left = eqb pa 1;
          target = by.is_target;
          more = rest_chosen.joint.is;
          sets_are = sets_are;
          pair_is = pairs_eqb p one ∙ pairs_are ∙ ap (λ k. pairs by.paired + k) (sym (pairs_eqb pa one_after));
          tiles_are = refl;
        };
        left_is = omega arith;
      };
      greatest = λ other o. subst (λ t. slice_cmp nat_cmp t (here ++ rest) ≢ Greater) (sym o.is.tiles_are) (not_greater other o);
    }
  where
    not_greater : (other : List ℕ) (o : Joint (suit ∷ others) row s p other) → slice_cmp nat_cmp (o.is.here ++ o.is.rest) (here ++ rest) ≢ Greater
    not_greater other o =
        let by = chosen.is in
        let q = o.is.pair_here in
        let r = o.is.pair_left in
        let pair_is : p ≡ pairs q + pairs r = sym (pairs_eqb p one) ∙ o.is.pair_is in
        let sets_are = o.is.sets_are in
        let rest_is : IsJoint others o.is.sets_left (eqb (pairs r) 1) o.is.rest = subst (λ b. IsJoint others o.is.sets_left b o.is.rest) (sym (eqb_pairs r)) o.is.more in
        let bound : 15 ≤ lane after o.is.sets_left (pairs r) + missing o.is.rest (counts_in others) =
        later.most o.is.sets_left (pairs r) o.is.rest (omega arith) (let f = pairs_few r in omega arith) rest_is in
        let upper = begin_leaves suit after row s p o.is.sets_left q r o.is.sets_here o.is.here most few one o.is.target sets_are pair_is in
        let whole : missing other (counts_in (suit ∷ others)) ≡ missing o.is.here suit.counts + missing o.is.rest (counts_in others) =
        ap (λ t. missing t (counts_in (suit ∷ others))) o.is.tiles_are ∙ parts_missing suit others o.is.here o.is.rest (target_long suit o.is.sets_here q o.is.here is o.is.target) in
        let o_left = o.left_is in
        let o_by : LeavesBy suit.counts suit.room suit.runs after s p left o.is.here o.is.sets_left (pairs r) =
        record { melds = o.is.sets_here; paired = q; is_target = o.is.target; sets_are = sets_are; pairs_are = pair_is; left_is = omega arith } in
        let first : slice_cmp nat_cmp o.is.here here ≢ Greater = chosen.greatest o.is.here o.is.sets_left (pairs r) o_by in
        let long : length o.is.here ≡ length here = target_long suit o.is.sets_here q o.is.here is o.is.target ∙ sym (target_long suit by.melds by.paired here is by.is_target) in
        subst (λ v. v ≢ Greater) (sym (cmp_parts o.is.here here o.is.rest rest long))
        (then_not_greater (slice_cmp nat_cmp o.is.here here) (slice_cmp nat_cmp o.is.rest rest) first (λ equal.
        let same : o.is.here ≡ here = same_list o.is.here here equal in
        let level = same_tiles suit.room suit.runs o.is.sets_here by.melds q by.paired here nine (subst (λ t. IsTarget suit.room suit.runs o.is.sets_here q t) same o.is.target) by.is_target in
        let sets_same : o.is.sets_left ≡ sa = (let m = level.0 in let e = by.sets_are in omega arith) in
        let pairs_same : pairs r ≡ pa = (let m = level.1 in let e = by.pairs_are in omega arith) in
        let missed : missing o.is.here suit.counts ≡ missing here suit.counts = ap (λ t. missing t suit.counts) same in
        let lanes : lane after o.is.sets_left (pairs r) ≡ lane after sa pa = ap₂ (lane after) sets_same pairs_same in
        rest_chosen.greatest o.is.rest record {
          is = subst (λ n. IsJoint others n (eqb pa 1) o.is.rest) sets_same (subst (λ k. IsJoint others o.is.sets_left (eqb k 1) o.is.rest) pairs_same rest_is);
          left_is = (let e = o_by.left_is in omega arith);
        }))

-- ---- the four suits

pub joint_nearest : (suits : List Suit) (row held target : List ℕ) (s : ℕ) → s < 8 → counts_in suits ≡ held → JointMost suits row → JointChosen suits row s 1 target
    → IsNearest held (IsJoint suits s true) (missing target held) target
joint_nearest suits row held target s few held_is most chosen =
    let left = chosen.joint.left_is in
    let same : missing target (counts_in suits) ≡ missing target held = ap (missing target) held_is in
    record {
      is_one = chosen.joint.is;
      number_is = refl;
      least = λ other joint. (let m = most.most s 1 other few (omega arith) joint in let e : missing other (counts_in suits) ≡ missing other held = ap (missing other) held_is in omega arith);
      greatest = λ other joint level. chosen.greatest other record { is = joint; left_is = (let e : missing other (counts_in suits) ≡ missing other held = ap (missing other) held_is in omega arith) };
    }

-- nothing is left where no hand fits, since no hand has more than fourteen tiles
pub joint_none : (suits : List Suit) (row held : List ℕ) (s : ℕ) → s ≤ 4 → counts_in suits ≡ held → JointMost suits row → lane row s 1 ≡ 0 → (target : List ℕ)
    → IsJoint suits s true target → missing target held ≤ 14 → ⊥
joint_none suits row held s few held_is most none target joint bound =
    let m = most.most s 1 target (omega arith) (omega arith) joint in
    let e : missing target (counts_in suits) ≡ missing target held = ap (missing target) held_is in
    omega arith

-- a hand of so many sets and pairs has three tiles for each set and two for each pair
pub joint_tiles : (suits : List Suit) (s : ℕ) (pair : Bool) (target held : List ℕ) → AllSuits suits → IsJoint suits s pair target → counts_in suits ≡ held
    → missing target held ≤ 3 * s + 2 * pairs pair
joint_tiles [] s pair target held are joint held_is = (let e : missing target held ≡ 0 = ap (λ t. missing t held) joint.1.1 in omega arith)
joint_tiles (suit ∷ others) s pair target held are joint held_is =
    let here = few_missing suit.room suit.counts suit.runs joint.sets_here joint.pair_here joint.here are.0.1 joint.target in
    let rest = joint_tiles others joint.sets_left joint.pair_left joint.rest (counts_in others) are.1 joint.more refl in
    let whole : missing target held ≡ missing joint.here suit.counts + missing joint.rest (counts_in others) =
    ap₂ missing joint.tiles_are (sym held_is) ∙ parts_missing suit others joint.here joint.rest (target_long suit joint.sets_here joint.pair_here joint.here are.0.0 joint.target) in
    let sets_are = joint.sets_are in
    let pair_is = joint.pair_is in
    omega arith
