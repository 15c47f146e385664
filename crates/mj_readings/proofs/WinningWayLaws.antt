-- The winning_ways are all ways with all places of the winning tile, each once.
use Rattle.std.proofs.Common.{ℕ, ◌≡◌, ◌<◌, ◌≤◌, [], true, false, List, length, refl, sym, ◌∙◌, ap, subst, arith, eqb, zero-add, ◌⊎◌, inl, inr, Option, Some, None, ◌&&◌}
use Rattle.std.specs.List.{All, Contains, filter, range_with_len, slice_get}
use Rattle.std.specs.Option.{option_map_or}
use Rattle.std.proofs.lemmas.Bool.{or_cases, and_parts, eqb-true, false≢true}
use Rattle.std.proofs.lemmas.List.Elements.{All-map, All-weaker, filter_passes}
use Rattle.std.proofs.lemmas.Option.{slice_get_within}
use Rattle.mj_tiles.specs.Counts.{IsCounts}
use Rattle.mj_readings.specs.declared.reading.Set.{Set}
use Rattle.mj_readings.specs.declared.winning_way.WinningWay.{WinningWay}
use Rattle.mj_readings.specs.Sets.{in_order}
use Rattle.mj_readings.specs.Complete.{AreSetsAndPair}
use Rattle.mj_readings.specs.Readings.{names_winning, set_has, has_no_equal_before}
use Rattle.mj_readings.specs.Inner.Ways.{Way, ways}
use Rattle.mj_readings.specs.Inner.WinningWays.{win_places, winning_ways, winning_ways_of}
use Rattle.mj_readings.proofs.WayRules.{IsWay, ways_sound}
use Rattle.mj_readings.proofs.WayAll.{ways_complete}
use Rattle.mj_readings.proofs.WayOnce.{ways_once}
use Rattle.mj_readings.proofs.Distinct.{Distinct, Distinct-map}
use Rattle.mj_readings.proofs.Members.{Contains-map, map-member, Contains-filter, Contains-range, Contains-flat_map, All-flat_map, Distinct-filter, Distinct-range, Distinct-flat_map}
use Rattle.mj_readings.proofs.Laws.{way-are, are-way-in_order, none_above}

-- A winning_way that makes up the counts.
pub record IsWinningWay (counts : List ℕ) (number winning : ℕ) (winning_way : WinningWay) : Type 0 where
  pub split : AreSetsAndPair counts number winning_way.sets winning_way.pair
  pub order : in_order winning_way.sets ≡ true
  pub win_place : names_winning winning_way.sets winning_way.pair winning winning_way.win ≡ true

-- The winning tile has one of five places.
win_below : (sets : List Set) (pair winning win : ℕ) → length sets ≤ 4 → names_winning sets pair winning win ≡ true → win < 5
unfolding names_winning
win_below sets pair winning win few names = split (or_cases (eqb win 4 && eqb pair winning) _ names)
  where
    in_set : (o : Option Set) → slice_get sets win ≡ o → option_map_or (λ set. set_has winning set && has_no_equal_before sets win set) o false ≡ true → win < 5
    in_set None is has = absurd (false≢true has)
    in_set (Some set) is has = omega (arith, slice_get_within sets win set is, few)

    split : ((eqb win 4 && eqb pair winning) ≡ true) ⊎ (option_map_or (λ set. set_has winning set && has_no_equal_before sets win set) (slice_get sets win) false ≡ true) → win < 5
    split (inl here) = omega (arith, eqb-true win 4 (and_parts (eqb win 4) (eqb pair winning) here).0)
    split (inr set) = in_set (slice_get sets win) refl set

pub winning_ways_sound : (counts : List ℕ) (number winning : ℕ) → length counts ≡ 34 →
    All (IsWinningWay counts number winning) (winning_ways [] winning (ways counts 0 0 0 number None))
unfolding winning_ways win_places
winning_ways_sound counts number winning size =
    All-flat_map (IsWinningWay counts number winning) (winning_ways_of [] winning) (ways counts 0 0 0 number None)
    (All-weaker (IsWay counts 0 0 0 number None) (λ way. All (IsWinningWay counts number winning) (winning_ways_of [] winning way)) of_way
    (ways counts 0 0 0 number None) (ways_sound counts 0 0 0 number None (omega (arith, size))))
  where
    of_way : (way : Way) → IsWay counts 0 0 0 number None way → All (IsWinningWay counts number winning) (winning_ways_of [] winning way)
    of_way way is =
        let are = way-are counts number way size is in
        All-map (IsWinningWay counts number winning) (λ win. record { sets = way.sets; pair = way.pair; win = win }) (filter (names_winning way.sets way.pair winning) (range_with_len 0 5))
        (All-weaker (λ win. names_winning way.sets way.pair winning win ≡ true) (λ win. IsWinningWay counts number winning (record { sets = way.sets; pair = way.pair; win = win }))
        (λ win names. record { split = are.0; order = are.1; win_place = names })
        (filter (names_winning way.sets way.pair winning) (range_with_len 0 5)) (filter_passes (names_winning way.sets way.pair winning) (range_with_len 0 5)))

pub winning_ways_complete : (counts : List ℕ) (number winning : ℕ) (winning_way : WinningWay) → IsCounts counts → number ≤ 4 → IsWinningWay counts number winning winning_way →
    Contains (winning_ways [] winning (ways counts 0 0 0 number None)) winning_way
unfolding winning_ways win_places
winning_ways_complete counts number winning winning_way counts_are few is =
    Contains-flat_map (winning_ways_of [] winning) (ways counts 0 0 0 number None) (record { sets = winning_way.sets; pair = winning_way.pair }) winning_way
    (ways_complete counts 0 0 0 number None (record { sets = winning_way.sets; pair = winning_way.pair }) (omega (arith, counts_are.size)) (none_above counts counts_are.within)
    (are-way-in_order counts number winning_way.sets winning_way.pair counts_are.size is.split is.order))
    (Contains-map (λ win. record { sets = winning_way.sets; pair = winning_way.pair; win = win })
    (filter (names_winning winning_way.sets winning_way.pair winning) (range_with_len 0 5)) winning_way.win
    (Contains-filter (names_winning winning_way.sets winning_way.pair winning) (range_with_len 0 5) winning_way.win is.win_place
    (subst (Contains (range_with_len 0 5)) (zero-add winning_way.win)
    (Contains-range 0 5 winning_way.win (win_below winning_way.sets winning_way.pair winning winning_way.win (omega (arith, is.split.so_many, few)) is.win_place)))))

pub winning_ways_once : (counts : List ℕ) (number winning : ℕ) → length counts ≡ 34 → Distinct (winning_ways [] winning (ways counts 0 0 0 number None))
unfolding winning_ways win_places
winning_ways_once counts number winning size =
    Distinct-flat_map (winning_ways_of [] winning) (λ way. Unit {0}) (ways counts 0 0 0 number None) (ways_once counts 0 0 0 number None (omega (arith, size)))
    (λ k d inside. tt) (λ way u. of_way way) apart
  where
    of_way : (way : Way) → Distinct (winning_ways_of [] winning way)
    of_way way =
        Distinct-map (λ win. record { sets = way.sets; pair = way.pair; win = win }) (filter (names_winning way.sets way.pair winning) (range_with_len 0 5))
        (λ a b e. ap (λ winning_way. winning_way.win) e) (Distinct-filter (names_winning way.sets way.pair winning) (range_with_len 0 5) (Distinct-range 0 5))

    apart : (one other : Way) (winning_way : WinningWay) → Unit {0} → Unit {0} → Contains (winning_ways_of [] winning one) winning_way
        → Contains (winning_ways_of [] winning other) winning_way → one ≡ other
    apart one other winning_way u v here there =
        let a = map-member (λ win. record { sets = one.sets; pair = one.pair; win = win }) (filter (names_winning one.sets one.pair winning) (range_with_len 0 5)) winning_way here in
        let b = map-member (λ win. record { sets = other.sets; pair = other.pair; win = win }) (filter (names_winning other.sets other.pair winning) (range_with_len 0 5)) winning_way there in
        let sets : one.sets ≡ other.sets = ap (λ winning_way. winning_way.sets) (a.2 ∙ sym b.2) in
        let pair : one.pair ≡ other.pair = ap (λ winning_way. winning_way.pair) (a.2 ∙ sym b.2) in
        λ i. record { sets = sets i; pair = pair i }
