-- A hand of four suits is one of the same suits in the other order, which misses as many tiles.
use Rattle.std.proofs.Common.{◌≡◌, eqb, Bool, false, ℕ, ◌+◌, ◌<◌, List, [], ◌∷◌, ◌++◌, length, refl, sym, ap, ◌∙◌, arith}
use Rattle.mj_suits.specs.Left.{pairs}
use Rattle.mj_suits.specs.Targets.{missing}
use Rattle.mj_shanten.specs.declared.suits.Suit.{Suit}
use Rattle.mj_shanten.specs.Suits.{IsSuit, IsJoint}
use Rattle.mj_shanten.proofs.Joint.{pairs_eqb, pairs_few, parts_missing, target_long, counts_in}

-- a hand of the suits that misses so many tiles
pub record Misses (suits : List Suit) (s : ℕ) (pair : Bool) (missing_tiles : ℕ) : Type 0 where
  pub tiles : List ℕ
  pub is : IsJoint suits s pair tiles
  pub missed : missing tiles (counts_in suits) ≡ missing_tiles

-- the tiles of four suits miss what those of each do
four_missing : (a b c d : Suit) (one two three four : List ℕ) → length one ≡ length a.counts → length two ≡ length b.counts → length three ≡ length c.counts → length four ≡ length d.counts
    → missing (one ++ (two ++ (three ++ (four ++ [])))) (counts_in (a ∷ b ∷ c ∷ d ∷ [])) ≡ missing one a.counts + (missing two b.counts + (missing three c.counts + missing four d.counts))
four_missing a b c d one two three four e f g h =
    let m = parts_missing a (b ∷ c ∷ d ∷ []) one (two ++ (three ++ (four ++ []))) e in
    let n = parts_missing b (c ∷ d ∷ []) two (three ++ (four ++ [])) f in
    let o = parts_missing c (d ∷ []) three (four ++ []) g in
    let p = parts_missing d [] four [] h in
    omega arith

-- a hand of the suits in one order, in the other
pub turned : (a b c d : Suit) (s : ℕ) (pair : Bool) (tiles : List ℕ) → IsSuit a → IsSuit b → IsSuit c → IsSuit d → IsJoint (a ∷ b ∷ c ∷ d ∷ []) s pair tiles
    → Misses (d ∷ c ∷ b ∷ a ∷ []) s pair (missing tiles (counts_in (a ∷ b ∷ c ∷ d ∷ [])))
turned a b c d s pair tiles a_is b_is c_is d_is first =
    let second = first.more in
    let third = second.more in
    let fourth = third.more in
    let none = fourth.more in
    let s1 = first.sets_are in
    let s2 = second.sets_are in
    let s3 = third.sets_are in
    let s4 = fourth.sets_are in
    let s5 = none.0 in
    let p1 = first.pair_is in
    let p2 = second.pair_is in
    let p3 = third.pair_is in
    let p4 = fourth.pair_is in
    let p5 : pairs fourth.pair_left ≡ 0 = ap pairs none.1.0 in
    let few = pairs_few pair in
    let one : pairs first.pair_here + 0 < 2 = omega arith in
    let two : pairs second.pair_here + pairs first.pair_here < 2 = omega arith in
    let three : pairs third.pair_here + (pairs second.pair_here + pairs first.pair_here) < 2 = omega arith in
    let q2 = pairs_eqb (pairs second.pair_here + pairs first.pair_here) two in
    let q3 = pairs_eqb (pairs third.pair_here + (pairs second.pair_here + pairs first.pair_here)) three in
    let l1 = target_long a first.sets_here first.pair_here first.here a_is first.target in
    let l2 = target_long b second.sets_here second.pair_here second.here b_is second.target in
    let l3 = target_long c third.sets_here third.pair_here third.here c_is third.target in
    let l4 = target_long d fourth.sets_here fourth.pair_here fourth.here d_is fourth.target in
    let whole : tiles ≡ first.here ++ (second.here ++ (third.here ++ (fourth.here ++ []))) =
    first.tiles_are ∙ ap (λ r. first.here ++ r)
    (second.tiles_are ∙ ap (λ r. second.here ++ r) (third.tiles_are ∙ ap (λ r. third.here ++ r) (fourth.tiles_are ∙ ap (λ r. fourth.here ++ r) none.1.1))) in
    let missed : missing tiles (counts_in (a ∷ b ∷ c ∷ d ∷ [])) ≡ missing first.here a.counts + (missing second.here b.counts + (missing third.here c.counts + missing fourth.here d.counts)) =
    ap (λ t. missing t (counts_in (a ∷ b ∷ c ∷ d ∷ []))) whole ∙ four_missing a b c d first.here second.here third.here fourth.here l1 l2 l3 l4 in
    let back = four_missing d c b a fourth.here third.here second.here first.here l4 l3 l2 l1 in
    record {
      tiles = fourth.here ++ (third.here ++ (second.here ++ (first.here ++ [])));
      is = record {
        here = fourth.here;
        rest = third.here ++ (second.here ++ (first.here ++ []));
        sets_here = fourth.sets_here;
        sets_left = third.sets_here + (second.sets_here + first.sets_here);
        pair_here = fourth.pair_here;
        pair_left = eqb (pairs third.pair_here + (pairs second.pair_here + pairs first.pair_here)) 1;
        target = fourth.target;
        more = record {
          here = third.here;
          rest = second.here ++ (first.here ++ []);
          sets_here = third.sets_here;
          sets_left = second.sets_here + first.sets_here;
          pair_here = third.pair_here;
          pair_left = eqb (pairs second.pair_here + pairs first.pair_here) 1;
          target = third.target;
          more = record {
            here = second.here;
            rest = first.here ++ [];
            sets_here = second.sets_here;
            sets_left = first.sets_here;
            pair_here = second.pair_here;
            pair_left = first.pair_here;
            target = second.target;
            more = record {
              here = first.here;
              rest = [];
              sets_here = first.sets_here;
              sets_left = 0;
              pair_here = first.pair_here;
              pair_left = false;
              target = first.target;
              more = (refl, (refl, refl));
              sets_are = omega arith;
              pair_is = omega arith;
              tiles_are = refl;
            };
            sets_are = refl;
            pair_is = q2;
            tiles_are = refl;
          };
          sets_are = refl;
          pair_is = q3 ∙ ap (λ n. pairs third.pair_here + n) (sym q2);
          tiles_are = refl;
        };
        sets_are = omega arith;
        pair_is = omega arith;
        tiles_are = refl;
      };
      missed = omega arith;
    }
