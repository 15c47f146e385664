-- The four suits of a hand, one beside the three others.
use Rattle.std.proofs.Common.{◌≡◌, ℕ, zero, suc, ◌+◌, ◌-◌, ◌*◌, ◌<◌, ◌≤◌, eqb, Bool, true, false, List, [], ◌∷◌, ◌++◌, length, get_or, set, take, drop, refl, sym, subst, ap, ap₂, ◌∙◌, inl, inr, arith}
use Rattle.std.specs.Prelude.{EachIndex}
use Rattle.std.proofs.lemmas.Bool.{cases_lt}
use Rattle.std.proofs.lemmas.List.{drop-set-lt, drop-set-add, take-set-le, set-append_left, get_or-take, get_or-drop, get_or-append_right, length-take-le, length-drop}
use Rattle.mj_lists.proofs.Fronts.{zero_at}
use Rattle.mj_suits.specs.Rows.{lane}
use Rattle.mj_suits.specs.Left.{pairs}
use Rattle.mj_suits.specs.Targets.{missing, IsTarget}
use Rattle.mj_shanten.specs.Exchanges.{one_less}
use Rattle.mj_shanten.specs.Room.{IsWithinRoom}
use Rattle.mj_shanten.specs.Suits.{IsJoint, suit_from, suits_of, with_two}
use Rattle.mj_shanten.specs.Walked.{IsWide, IsLeastOr}
use Rattle.mj_shanten.proofs.Goal.{wide_low, wide_size}
use Rattle.mj_shanten.proofs.Joint.{counts_in, joint_tiles, pairs_eqb, eqb_pairs, parts_missing, target_long}
use Rattle.mj_shanten.proofs.Whole.{four_are, four_nines, new_wide}
use Rattle.mj_memory.specs.Joined.{joined}
use Rattle.mj_memory.specs.Ways.{OfSuit, OfBoth, OfPlace, Beside, LeavesBest}
use Rattle.mj_memory.proofs.Joins.{both_most, both_some}

-- ---- ways in another order

turned : (V W : ℕ → ℕ → ℕ → Type 0) (s p m : ℕ) → OfBoth V W s p m → OfBoth W V s p m
turned V W s p m way = record {
  sets_first = way.sets_second;
  sets_second = way.sets_first;
  pairs_first = way.pairs_second;
  pairs_second = way.pairs_first;
  missed_first = way.missed_second;
  missed_second = way.missed_first;
  first = way.second;
  second = way.first;
  sets_are = (let e = way.sets_are in omega arith);
  pairs_are = (let e = way.pairs_are in omega arith);
  missed_is = (let e = way.missed_is in omega arith);
}

-- the second before the first
swapped : (U V W : ℕ → ℕ → ℕ → Type 0) (s p m : ℕ) → OfBoth U (OfBoth V W) s p m → OfBoth V (OfBoth U W) s p m
swapped U V W s p m way =
    let a = way.sets_are in
    let b = way.second.sets_are in
    let c = way.pairs_are in
    let d = way.second.pairs_are in
    let e = way.missed_is in
    let f = way.second.missed_is in
    record {
      sets_first = way.second.sets_first;
      sets_second = way.sets_first + way.second.sets_second;
      pairs_first = way.second.pairs_first;
      pairs_second = way.pairs_first + way.second.pairs_second;
      missed_first = way.second.missed_first;
      missed_second = way.missed_first + way.second.missed_second;
      first = way.second.first;
      second = record {
        sets_first = way.sets_first;
        sets_second = way.second.sets_second;
        pairs_first = way.pairs_first;
        pairs_second = way.second.pairs_second;
        missed_first = way.missed_first;
        missed_second = way.second.missed_second;
        first = way.first;
        second = way.second.second;
        sets_are = refl;
        pairs_are = refl;
        missed_is = refl;
      };
      sets_are = omega arith;
      pairs_are = omega arith;
      missed_is = omega arith;
    }

-- the rest in another order
behind : (U V W : ℕ → ℕ → ℕ → Type 0) → ((s p m : ℕ) → V s p m → W s p m) → (s p m : ℕ) → OfBoth U V s p m → OfBoth U W s p m
behind U V W to s p m way = record {
  sets_first = way.sets_first;
  sets_second = way.sets_second;
  pairs_first = way.pairs_first;
  pairs_second = way.pairs_second;
  missed_first = way.missed_first;
  missed_second = way.missed_second;
  first = way.first;
  second = to way.sets_second way.pairs_second way.missed_second way.second;
  sets_are = way.sets_are;
  pairs_are = way.pairs_are;
  missed_is = way.missed_is;
}

-- a way of the four suits in their order
abbrev OfFour : List ℕ → List ℕ → ℕ → ℕ → ℕ → Type 0
OfFour held room s p m = OfBoth (OfPlace held room 0) (OfBoth (OfPlace held room 1) (OfBoth (OfPlace held room 2) (OfPlace held room 3))) s p m

in_order : (held room : List ℕ) (suit s p m : ℕ) → suit < 4 → OfBoth (OfPlace held room suit) (Beside held room suit) s p m → OfFour held room s p m
in_order held room zero s p m few way = way
in_order held room (suc zero) s p m few way = swapped (OfPlace held room 1) (OfPlace held room 0) (OfBoth (OfPlace held room 2) (OfPlace held room 3)) s p m way
in_order held room (suc (suc zero)) s p m few way =
    behind (OfPlace held room 0) (OfBoth (OfPlace held room 2) (OfBoth (OfPlace held room 1) (OfPlace held room 3))) (OfBoth (OfPlace held room 1) (OfBoth (OfPlace held room 2) (OfPlace held room 3)))
    (swapped (OfPlace held room 2) (OfPlace held room 1) (OfPlace held room 3)) s p m
    (swapped (OfPlace held room 2) (OfPlace held room 0) (OfBoth (OfPlace held room 1) (OfPlace held room 3)) s p m way)
in_order held room (suc (suc (suc zero))) s p m few way =
    behind (OfPlace held room 0) (OfBoth (OfPlace held room 3) (OfBoth (OfPlace held room 1) (OfPlace held room 2))) (OfBoth (OfPlace held room 1) (OfBoth (OfPlace held room 2) (OfPlace held room 3)))
    (λ t q n w.
    behind (OfPlace held room 1) (OfBoth (OfPlace held room 3) (OfPlace held room 2)) (OfBoth (OfPlace held room 2) (OfPlace held room 3))
    (turned (OfPlace held room 3) (OfPlace held room 2)) t q n
    (swapped (OfPlace held room 3) (OfPlace held room 1) (OfPlace held room 2) t q n w)) s p m
    (swapped (OfPlace held room 3) (OfPlace held room 0) (OfBoth (OfPlace held room 1) (OfPlace held room 2)) s p m way)
in_order held room (suc (suc (suc (suc n)))) s p m few way = absurd (omega arith)

out_of_order : (held room : List ℕ) (suit s p m : ℕ) → suit < 4 → OfFour held room s p m → OfBoth (OfPlace held room suit) (Beside held room suit) s p m
out_of_order held room zero s p m few way = way
out_of_order held room (suc zero) s p m few way = swapped (OfPlace held room 0) (OfPlace held room 1) (OfBoth (OfPlace held room 2) (OfPlace held room 3)) s p m way
out_of_order held room (suc (suc zero)) s p m few way =
    swapped (OfPlace held room 0) (OfPlace held room 2) (OfBoth (OfPlace held room 1) (OfPlace held room 3)) s p m
    (behind (OfPlace held room 0) (OfBoth (OfPlace held room 1) (OfBoth (OfPlace held room 2) (OfPlace held room 3)))
    (OfBoth (OfPlace held room 2) (OfBoth (OfPlace held room 1) (OfPlace held room 3)))
    (swapped (OfPlace held room 1) (OfPlace held room 2) (OfPlace held room 3)) s p m way)
out_of_order held room (suc (suc (suc zero))) s p m few way =
    swapped (OfPlace held room 0) (OfPlace held room 3) (OfBoth (OfPlace held room 1) (OfPlace held room 2)) s p m
    (behind (OfPlace held room 0) (OfBoth (OfPlace held room 1) (OfBoth (OfPlace held room 2) (OfPlace held room 3)))
    (OfBoth (OfPlace held room 3) (OfBoth (OfPlace held room 1) (OfPlace held room 2)))
    (λ t q n w.
    swapped (OfPlace held room 1) (OfPlace held room 3) (OfPlace held room 2) t q n
    (behind (OfPlace held room 1) (OfBoth (OfPlace held room 2) (OfPlace held room 3)) (OfBoth (OfPlace held room 3) (OfPlace held room 2))
    (turned (OfPlace held room 2) (OfPlace held room 3)) t q n w)) s p m way)
out_of_order held room (suc (suc (suc (suc n)))) s p m few way = absurd (omega arith)

-- ---- a hand of the four suits

as_way : (counts room : List ℕ) (runs : Bool) (sets : ℕ) (pair : Bool) (here : List ℕ) → IsTarget room runs sets pair here → OfSuit counts room runs sets (pairs pair) (missing here counts)
as_way counts room runs sets pair here target = record {
  target = here;
  is_target = subst (λ b. IsTarget room runs sets b here) (sym (eqb_pairs pair)) target;
  missed_is = refl;
}

-- the nine numbers of a suit
abbrev pub nine_of : List ℕ → ℕ → List ℕ
nine_of held suit = take 9 (drop (9 * suit) held)

-- the tiles of four suits miss what those of each do
four_missing : (held room one two three four : List ℕ) → length one ≡ length (nine_of held 0) → length two ≡ length (nine_of held 1) → length three ≡ length (nine_of held 2)
    → length four ≡ length (nine_of held 3)
    → missing (one ++ (two ++ (three ++ (four ++ [])))) (counts_in (suits_of held room))
    ≡ missing one (nine_of held 0) + (missing two (nine_of held 1) + (missing three (nine_of held 2) + missing four (nine_of held 3)))
four_missing held room one two three four e f g h =
    let a = suit_from held room 0 true in
    let b = suit_from held room 9 true in
    let c = suit_from held room 18 true in
    let d = suit_from held room 27 false in
    let m = parts_missing a (b ∷ c ∷ d ∷ []) one (two ++ (three ++ (four ++ []))) e in
    let n = parts_missing b (c ∷ d ∷ []) two (three ++ (four ++ [])) f in
    let o = parts_missing c (d ∷ []) three (four ++ []) g in
    let p = parts_missing d [] four [] h in
    omega arith

parted : (held room : List ℕ) (s : ℕ) (tiles : List ℕ) → IsWide held room → IsJoint (suits_of held room) s true tiles → OfFour held room s 1 (missing tiles (counts_in (suits_of held room)))
parted held room s tiles wide first =
    let suits = four_are held room wide in
    let second = first.more in
    let third = second.more in
    let fourth = third.more in
    let none = fourth.more in
    let s1 = first.sets_are in
    let s2 = second.sets_are in
    let s3 = third.sets_are in
    let s4 = fourth.sets_are in
    let s5 = none.0 in
    let p1 = first.pair_is in
    let p2 = second.pair_is in
    let p3 = third.pair_is in
    let p4 = fourth.pair_is in
    let p5 : pairs fourth.pair_left ≡ 0 = ap pairs none.1.0 in
    let l1 = target_long (suit_from held room 0 true) first.sets_here first.pair_here first.here suits.0.0 first.target in
    let l2 = target_long (suit_from held room 9 true) second.sets_here second.pair_here second.here suits.1.0.0 second.target in
    let l3 = target_long (suit_from held room 18 true) third.sets_here third.pair_here third.here suits.1.1.0.0 third.target in
    let l4 = target_long (suit_from held room 27 false) fourth.sets_here fourth.pair_here fourth.here suits.1.1.1.0.0 fourth.target in
    let whole : tiles ≡ first.here ++ (second.here ++ (third.here ++ (fourth.here ++ []))) =
    first.tiles_are ∙ ap (λ r. first.here ++ r)
    (second.tiles_are ∙ ap (λ r. second.here ++ r) (third.tiles_are ∙ ap (λ r. third.here ++ r) (fourth.tiles_are ∙ ap (λ r. fourth.here ++ r) none.1.1))) in
    record {
      sets_first = first.sets_here;
      sets_second = second.sets_here + (third.sets_here + fourth.sets_here);
      pairs_first = pairs first.pair_here;
      pairs_second = pairs second.pair_here + (pairs third.pair_here + pairs fourth.pair_here);
      missed_first = missing first.here (nine_of held 0);
      missed_second = missing second.here (nine_of held 1) + (missing third.here (nine_of held 2) + missing fourth.here (nine_of held 3));
      first = as_way (nine_of held 0) (nine_of room 0) true first.sets_here first.pair_here first.here first.target;
      second = record {
        sets_first = second.sets_here;
        sets_second = third.sets_here + fourth.sets_here;
        pairs_first = pairs second.pair_here;
        pairs_second = pairs third.pair_here + pairs fourth.pair_here;
        missed_first = missing second.here (nine_of held 1);
        missed_second = missing third.here (nine_of held 2) + missing fourth.here (nine_of held 3);
        first = as_way (nine_of held 1) (nine_of room 1) true second.sets_here second.pair_here second.here second.target;
        second = record {
          sets_first = third.sets_here;
          sets_second = fourth.sets_here;
          pairs_first = pairs third.pair_here;
          pairs_second = pairs fourth.pair_here;
          missed_first = missing third.here (nine_of held 2);
          missed_second = missing fourth.here (nine_of held 3);
          first = as_way (nine_of held 2) (nine_of room 2) true third.sets_here third.pair_here third.here third.target;
          second = as_way (nine_of held 3) (nine_of room 3) false fourth.sets_here fourth.pair_here fourth.here fourth.target;
          sets_are = refl;
          pairs_are = refl;
          missed_is = refl;
        };
        sets_are = refl;
        pairs_are = refl;
        missed_is = refl;
      };
      sets_are = omega arith;
      pairs_are = one (pairs first.pair_here) (pairs second.pair_here) (pairs third.pair_here) (pairs fourth.pair_here) (pairs first.pair_left) (pairs second.pair_left)
          (pairs third.pair_left) (pairs fourth.pair_left) p1 p2 p3 p4 p5;
      missed_is = ap (λ t. missing t (counts_in (suits_of held room))) whole ∙ four_missing held room first.here second.here third.here fourth.here l1 l2 l3 l4;
    }
  where
    one : (a b c d w x y z : ℕ) → 1 ≡ a + w → w ≡ b + x → x ≡ c + y → y ≡ d + z → z ≡ 0 → 1 ≡ a + (b + (c + d))
    one a b c d w x y z e f g h i = omega arith

-- a hand of so many sets and a pair that misses so many tiles
record Misses (held room : List ℕ) (s m : ℕ) : Type 0 where
  tiles : List ℕ
  is : IsJoint (suits_of held room) s true tiles
  missed : missing tiles (counts_in (suits_of held room)) ≡ m

put_together : (held room : List ℕ) (s m : ℕ) → IsWide held room → OfFour held room s 1 m → Misses held room s m
put_together held room s m wide way =
    let suits = four_are held room wide in
    let one = way.first in
    let two = way.second.first in
    let three = way.second.second.first in
    let four = way.second.second.second in
    let s1 = way.sets_are in
    let s2 = way.second.sets_are in
    let s3 = way.second.second.sets_are in
    let p1 = way.pairs_are in
    let p2 = way.second.pairs_are in
    let p3 = way.second.second.pairs_are in
    let m1 = way.missed_is in
    let m2 = way.second.missed_is in
    let m3 = way.second.second.missed_is in
    let n1 = one.missed_is in
    let n2 = two.missed_is in
    let n3 = three.missed_is in
    let n4 = four.missed_is in
    let q1 = pairs_eqb way.pairs_first (omega arith) in
    let q2 = pairs_eqb way.second.pairs_first (omega arith) in
    let q3 = pairs_eqb way.second.second.pairs_first (omega arith) in
    let q4 = pairs_eqb way.second.second.pairs_second (omega arith) in
    let r2 = pairs_eqb way.pairs_second (omega arith) in
    let r3 = pairs_eqb way.second.pairs_second (omega arith) in
    let l1 = target_long (suit_from held room 0 true) way.sets_first (eqb way.pairs_first 1) one.target suits.0.0 one.is_target in
    let l2 = target_long (suit_from held room 9 true) way.second.sets_first (eqb way.second.pairs_first 1) two.target suits.1.0.0 two.is_target in
    let l3 = target_long (suit_from held room 18 true) way.second.second.sets_first (eqb way.second.second.pairs_first 1) three.target suits.1.1.0.0 three.is_target in
    let l4 = target_long (suit_from held room 27 false) way.second.second.sets_second (eqb way.second.second.pairs_second 1) four.target suits.1.1.1.0.0 four.is_target in
    let whole = four_missing held room one.target two.target three.target four.target l1 l2 l3 l4 in
    record {
      tiles = one.target ++ (two.target ++ (three.target ++ (four.target ++ [])));
      is = record {
        here = one.target;
        rest = two.target ++ (three.target ++ (four.target ++ []));
        sets_here = way.sets_first;
        sets_left = way.sets_second;
        pair_here = eqb way.pairs_first 1;
        pair_left = eqb way.pairs_second 1;
        target = one.is_target;
        more = record {
          here = two.target;
          rest = three.target ++ (four.target ++ []);
          sets_here = way.second.sets_first;
          sets_left = way.second.sets_second;
          pair_here = eqb way.second.pairs_first 1;
          pair_left = eqb way.second.pairs_second 1;
          target = two.is_target;
          more = record {
            here = three.target;
            rest = four.target ++ [];
            sets_here = way.second.second.sets_first;
            sets_left = way.second.second.sets_second;
            pair_here = eqb way.second.second.pairs_first 1;
            pair_left = eqb way.second.second.pairs_second 1;
            target = three.is_target;
            more = record {
              here = four.target;
              rest = [];
              sets_here = way.second.second.sets_second;
              sets_left = 0;
              pair_here = eqb way.second.second.pairs_second 1;
              pair_left = false;
              target = four.is_target;
              more = (refl, (refl, refl));
              sets_are = omega arith;
              pair_is = (let e : pairs (eqb way.second.second.pairs_second 1) ≡ pairs (eqb way.second.second.pairs_second 1) + 0 = omega arith in e);
              tiles_are = refl;
            };
            sets_are = s3;
            pair_is = r3 ∙ p3 ∙ ap₂ (λ x y. x + y) (sym q3) (sym q4);
            tiles_are = refl;
          };
          sets_are = s2;
          pair_is = r2 ∙ p2 ∙ ap₂ (λ x y. x + y) (sym q2) (sym r3);
          tiles_are = refl;
        };
        sets_are = s1;
        pair_is = p1 ∙ ap₂ (λ x y. x + y) (sym q1) (sym r2);
        tiles_are = refl;
      };
      missed = total _ _ _ _ _ _ _ _ _ _ _ m1 m2 m3 n1 n2 n3 n4 whole;
    }
  where
    total : (m a b c d x y e f g h : ℕ) → m ≡ a + x → x ≡ b + y → y ≡ c + d → a ≡ e → b ≡ f → c ≡ g → d ≡ h → {n : ℕ} → n ≡ e + (f + (g + h)) → n ≡ m
    total m a b c d x y e f g h i j k l o p q r = omega arith

-- What a suit and the others leave says the fewest tiles that a hand of so many sets and a pair misses.
pub least_of_both : (held room own others : List ℕ) (suit s : ℕ) → IsWide held room → suit < 4 → s ≤ 4 → LeavesBest (OfPlace held room suit) own → LeavesBest (Beside held room suit) others
    → IsLeastOr held (IsJoint (suits_of held room) s true) (15 - joined (lane own) (lane others) s 1)
least_of_both held room own others suit s wide small few first second = record {
  least = λ t joint.
      (let way = out_of_order held room suit s 1 (missing t (counts_in (suits_of held room))) small
      (parted held room s t wide joint) in
      let m = both_most (OfPlace held room suit) (Beside held room suit) own others first second s 1 (missing t (counts_in (suits_of held room))) (omega arith) (omega arith) way in
      let e = counted t in
      bound (joined (lane own) (lane others) s 1) (missing t (counts_in (suits_of held room))) (missing t held) m e);
  few = λ t joint. (let b = joint_tiles (suits_of held room) s true t held (four_are held room wide) joint (sym (four_nines held wide.held_size)) in let one : pairs true ≡ 1 = refl in omega arith);
  some = elim (cases_lt 0 (joined (lane own) (lane others) s 1)) [
    | inl some ↦
        (let found = both_some (OfPlace held room suit) (Beside held room suit) own others first second s 1 (omega arith) (omega arith) some in
        let hand = put_together held room s found.0 wide (in_order held room suit s 1 found.0 small found.1.0) in
        inr (hand.tiles, (hand.is, level (joined (lane own) (lane others) s 1) found.0 (missing hand.tiles held) found.1.1 (sym hand.missed ∙ counted hand.tiles))))
    | inr none ↦ inl (nothing (joined (lane own) (lane others) s 1) none)
  ];
}
  where
    counted : (t : List ℕ) → missing t (counts_in (suits_of held room)) ≡ missing t held
    counted t = ap (missing t) (sym (four_nines held wide.held_size))

    bound : (j m n : ℕ) → 15 ≤ j + m → m ≡ n → 15 - j ≤ n
    bound j m n a b = omega arith

    level : (j m n : ℕ) → j + m ≡ 15 → m ≡ n → 15 - j ≡ n
    level j m n a b = omega arith

    nothing : (j : ℕ) → j ≤ 0 → 15 - j ≡ 15
    nothing j a = omega arith

-- ---- one tile less

-- a suit after the kind's has the same tiles, and so has one before it
same_after : (held : List ℕ) (kind number suit : ℕ) → kind < 9 * suit → nine_of held suit ≡ nine_of (set held kind number) suit
same_after held kind number suit before = ap (take 9) (sym (drop-set-lt (9 * suit) held kind number before))

same_before : (held : List ℕ) (kind number suit : ℕ) → 9 * suit + 9 ≤ kind → nine_of held suit ≡ nine_of (set held kind number) suit
same_before held kind number suit past =
    let place : 9 * suit + (kind - 9 * suit) ≡ kind = omega arith in
    sym (ap (λ k. take 9 (drop (9 * suit) (set held k number))) (sym place) ∙ ap (take 9) (drop-set-add (9 * suit) held (kind - 9 * suit) number)
    ∙ take-set-le 9 (drop (9 * suit) held) (kind - 9 * suit) number (omega arith))

-- three suits that have the same tiles leave as much
three_same : (a b c d e f : List ℕ) (ra rb rc : List ℕ) (sa sb sc : Bool) (row : List ℕ) → a ≡ d → b ≡ e → c ≡ f
    → LeavesBest (OfBoth (OfSuit a ra sa) (OfBoth (OfSuit b rb sb) (OfSuit c rc sc))) row → LeavesBest (OfBoth (OfSuit d ra sa) (OfBoth (OfSuit e rb sb) (OfSuit f rc sc))) row
three_same a b c d e f ra rb rc sa sb sc row x y z is =
    subst (λ (k : List ℕ). LeavesBest (OfBoth (OfSuit d ra sa) (OfBoth (OfSuit e rb sb) (OfSuit k rc sc))) row) z
    (subst (λ (k : List ℕ). LeavesBest (OfBoth (OfSuit d ra sa) (OfBoth (OfSuit k rb sb) (OfSuit c rc sc))) row) y
    (subst (λ (k : List ℕ). LeavesBest (OfBoth (OfSuit k ra sa) (OfBoth (OfSuit b rb sb) (OfSuit c rc sc))) row) x is))

-- the others leave as much
others_same : (held room row : List ℕ) (suit kind number : ℕ) → 9 * suit ≤ kind → kind < 9 * suit + 9 → LeavesBest (Beside held room suit) row
    → LeavesBest (Beside (set held kind number) room suit) row
others_same held room row zero kind number low high is =
    three_same _ _ _ _ _ _ _ _ _ _ _ _ row (same_after held kind number 1 (omega arith)) (same_after held kind number 2 (omega arith)) (same_after held kind number 3 (omega arith)) is
others_same held room row (suc zero) kind number low high is =
    three_same _ _ _ _ _ _ _ _ _ _ _ _ row (same_before held kind number 0 (omega arith)) (same_after held kind number 2 (omega arith)) (same_after held kind number 3 (omega arith)) is
others_same held room row (suc (suc zero)) kind number low high is =
    three_same _ _ _ _ _ _ _ _ _ _ _ _ row (same_before held kind number 0 (omega arith)) (same_before held kind number 1 (omega arith)) (same_after held kind number 3 (omega arith)) is
others_same held room row (suc (suc (suc n))) kind number low high is =
    three_same _ _ _ _ _ _ _ _ _ _ _ _ row (same_before held kind number 0 (omega arith)) (same_before held kind number 1 (omega arith)) (same_before held kind number 2 (omega arith)) is

-- of a hand with two numbers more
pub others_less : (counts room row : List ℕ) (suit kind : ℕ) → length counts ≡ 34 → kind < 34 → 9 * suit ≤ kind → kind < 9 * suit + 9 → LeavesBest (Beside (with_two counts) room suit) row
    → LeavesBest (Beside (with_two (one_less counts kind)) room suit) row
others_less counts room row suit kind size small low high is =
    subst (λ (h : List ℕ). LeavesBest (Beside h room suit) row) (set-append_left counts (0 ∷ 0 ∷ []) kind (get_or counts kind 0 - 1) (omega arith))
    (others_same (with_two counts) room row suit kind (get_or counts kind 0 - 1) low high is)

-- the hand with two numbers more
pub wide_of : (counts room : List ℕ) → length counts ≡ 34 → length room ≡ 34 → ((n : ℕ) → get_or room n 0 ≤ 4) → IsWithinRoom counts room → IsWide (with_two counts) (with_two room)
wide_of counts room size room_size of_four within =
    new_wide (with_two counts) (with_two room) counts room (wide_size counts size) (wide_size room room_size) refl refl size room_size of_four within

-- the room of a suit is at most four of each number
pub nine_four : (room : List ℕ) (suit : ℕ) → length room ≡ 34 → suit < 4 → ((n : ℕ) → get_or room n 0 ≤ 4)
    → EachIndex (nine_of (with_two room) suit) (λ n. get_or (nine_of (with_two room) suit) n 0 ≤ 4)
nine_four room suit size small of_four n inside =
    let long : length (nine_of (with_two room) suit) ≡ 9 =
    length-take-le 9 (drop (9 * suit) (with_two room)) (let w = wide_size room size in let d = length-drop (9 * suit) (with_two room) in omega arith) in
    let a : get_or (nine_of (with_two room) suit) n 0 ≡ get_or (with_two room) (9 * suit + n) 0 =
    get_or-take 9 (drop (9 * suit) (with_two room)) n 0 (omega arith) ∙ get_or-drop (9 * suit) (with_two room) n 0 in
    elim (cases_lt (9 * suit + n) 34) [
      | inl low ↦ (let b = wide_low room (9 * suit + n) size low in let f = of_four (9 * suit + n) in omega arith)
      | inr past ↦ (let b : get_or (with_two room) (9 * suit + n) 0 ≡ 0 =
          get_or-append_right room (0 ∷ 0 ∷ []) 34 (9 * suit + n) 0 size past ∙ zero_at 2 (9 * suit + n - 34) in omega arith)
    ]
