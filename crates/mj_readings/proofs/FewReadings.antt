-- A hand has few readings: of each kind the free tiles begin in three ways at most, and the winning tile has five
-- places at most.
use Rattle.std.proofs.Common.{ℕ, ◌≡◌, ◌<◌, ◌≤◌, ◌+◌, ◌-◌, ◌*◌, ◌^◌, ◌&&◌, Bool, true, false, List, [], ◌∷◌, ◌++◌, Option, Some, None, arith, suc, subst, length, cond, map, is_none, eqb, leb}
use Rattle.std.specs.List.{filter, flat_map, range_with_len}
use Rattle.std.specs.Option.{option_to_list}
use Rattle.std.proofs.lemmas.List.{length-append, length-map}
use Rattle.std.proofs.Math.Nat.{pow-suc}
use Rattle.mj_tiles.specs.declared.meld.Meld.{Meld}
use Rattle.mj_readings.specs.declared.reading.Set.{Set}
use Rattle.mj_readings.specs.declared.reading.Reading.TheVariants.{Pairs, Orphans}
use Rattle.mj_readings.specs.Complete.{is_seven_pairs}
use Rattle.mj_readings.specs.Readings.{names_winning}
use Rattle.mj_readings.specs.Tests.{orphan_double}
use Rattle.mj_readings.specs.Inner.Ways.{Way, put, sets_at, ways}
use Rattle.mj_readings.specs.Inner.WinningWays.{win_places, winning_ways_of, winning_ways}
use Rattle.mj_readings.specs.Inner.ReadingLists.{standard_of, standard_readings, pair_kinds, pairs_readings, orphans_readings}
use Rattle.mj_readings.specs.AllReadings.{readings_of}

few_if : {X : Type 0} (b : Bool) (xs : List X) (n : ℕ) → length xs ≤ n → length (cond b xs []) ≤ n
few_if true xs n few = few
few_if false xs n few = omega arith

few_put : (b : Bool) (front : List Set) (list : List Way) (n : ℕ) → length list ≤ n → length (cond b (map (put front) list) []) ≤ n
few_put b front list n few = few_if b (map (put front) list) n (omega (arith, length-map list (put front)))

three : (a b c : List Way) (n : ℕ) → length a ≤ n → length b ≤ n → length c ≤ n → length (a ++ b ++ c) ≤ 3 * n
three a b c n p q r = omega (arith, length-append (a ++ b) c, length-append a b)

few_ways : (counts : List ℕ) (kind first second left : ℕ) (pair : Option ℕ) → length (ways counts kind first second left pair) ≤ 3 ^ length counts
unfolding ways
few_ways [] kind first second left None = omega arith
few_ways [] kind first second left (Some pair) = few_if (eqb left 0) (record { sets = []; pair = pair } ∷ []) 1 (omega arith)
few_ways (count ∷ others) kind first second left pair =
    let n : ℕ = 3 ^ length others in
    let free : ℕ = count - (first + second) in
    let next : (runs left : ℕ) (pair : Option ℕ) → length (ways others (kind + 1) second runs left pair) ≤ 3 ^ length others =
    λ runs left pair. few_ways others (kind + 1) second runs left pair in
    let bound : 3 * 3 ^ length others ≡ 3 ^ suc (length others) = omega (arith, pow-suc 3 (length others)) in
    rw (← bound) (few_if (leb (first + second) count) _ (3 * 3 ^ length others)
    (three _ _ _ (3 ^ length others)
    (few_put _ (sets_at kind free 0) _ (3 ^ length others) (next free (left - (free + 0)) pair))
    (few_if (leb 3 free) _ (3 ^ length others) (few_put _ (sets_at kind (free - 3) 1) _ (3 ^ length others) (next (free - 3) (left - (free - 3 + 1)) pair)))
    (few_if (leb 2 free && is_none pair) _ (3 ^ length others) (few_put _ (sets_at kind (free - 2) 0) _ (3 ^ length others) (next (free - 2) (left - (free - 2 + 0)) (Some kind))))))

few_filter : {X : Type 0} (p : X → Bool) (xs : List X) → length (filter p xs) ≤ length xs
few_filter p [] = omega arith
few_filter p (x ∷ xs) = step p x xs (p x) (few_filter p xs)
  where
    step : {X : Type 0} (p : X → Bool) (x : X) (xs : List X) (b : Bool) → length (filter p xs) ≤ length xs → length (cond b (x ∷ filter p xs) (filter p xs)) ≤ length (x ∷ xs)
    step p x xs true h = omega arith
    step p x xs false h = omega arith

few_map : {X Y : Type 0} (f : X → Y) (xs : List X) (n : ℕ) → length xs ≤ n → length (map f xs) ≤ n
few_map f xs n few = omega (arith, length-map xs f)

few_winning_ways : (winning : ℕ) (list : List Way) → length (winning_ways [] winning list) ≤ 5 * length list
unfolding winning_ways win_places
few_winning_ways winning [] = omega arith
few_winning_ways winning (way ∷ list) =
    let rest : length (flat_map (winning_ways_of [] winning) list) ≤ 5 * length list = few_winning_ways winning list in
    let here : length (winning_ways_of [] winning way) ≤ 5 =
    few_map _ (win_places ([] ++ way.sets) way.pair winning) 5 (few_filter (names_winning ([] ++ way.sets) way.pair winning) (range_with_len 0 5)) in
    omega (arith, length-append (winning_ways_of [] winning way) (flat_map (winning_ways_of [] winning) list))

few_standard : (counts : List ℕ) (melds : List Meld) (winning : ℕ) → length counts ≡ 34 → length (standard_readings counts melds winning) ≤ 5 * 3 ^ 34
unfolding standard_readings
few_standard counts melds winning size =
    let way : length (ways counts 0 0 0 (4 - length melds) None) ≤ 3 ^ 34 =
    subst (λ n. length (ways counts 0 0 0 (4 - length melds) None) ≤ 3 ^ n) size (few_ways counts 0 0 0 (4 - length melds) None) in
    few_if (leb (length melds) 4) (map (standard_of melds winning) (winning_ways [] winning (ways counts 0 0 0 (4 - length melds) None))) (5 * 3 ^ 34)
    (omega (
      arith,
      length-map (winning_ways [] winning (ways counts 0 0 0 (4 - length melds) None)) (standard_of melds winning),
      few_winning_ways winning (ways counts 0 0 0 (4 - length melds) None),
    ))

few_orphans : (double : Option ℕ) → length (map Orphans (option_to_list double)) ≤ 1
few_orphans None = omega arith
few_orphans (Some double) = omega arith

few_special : (counts : List ℕ) → length (pairs_readings counts ++ orphans_readings counts) ≤ 2
unfolding pairs_readings orphans_readings
few_special counts =
    omega (
      arith,
      length-append (pairs_readings counts) (orphans_readings counts),
      few_if (is_seven_pairs counts) (Pairs (pair_kinds counts) ∷ []) 1 (omega arith),
      few_orphans (orphan_double counts),
    )

-- Fewer than a machine number.
pub few_readings : (counts : List ℕ) (melds : List Meld) (winning : ℕ) → length counts ≡ 34 → length (readings_of counts melds winning) < 2 ^ 64
unfolding readings_of
few_readings counts melds winning size =
    let standard : length (standard_readings counts melds winning) ≤ 5 * 3 ^ 34 = few_standard counts melds winning size in
    let special : length (cond (eqb (length melds) 0) (pairs_readings counts ++ orphans_readings counts) []) ≤ 2 =
    few_if (eqb (length melds) 0) (pairs_readings counts ++ orphans_readings counts) 2 (few_special counts) in
    omega (arith, length-append (standard_readings counts melds winning) (cond (eqb (length melds) 0) (pairs_readings counts ++ orphans_readings counts) []))
