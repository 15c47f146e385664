-- The test of a complete hand says what complete hands are.
use Rattle.std.proofs.Common.{ℕ, ◌≡◌, ◌<◌, ◌≤◌, ◌+◌, ◌-◌, ◌++◌, ◌∷◌, [], Bool, true, false, cond, List, length, get_or, set, length-set, get_or-set_same, get_or-set_other}
use Rattle.std.proofs.Common.{map, refl, sym, ◌∙◌, ap, arith, eqb, leb, zero, suc, zero-add, add-zero, Option, Some, None, ◌⊎◌, inl, inr, ◌&&◌, ◌||◌}
use Rattle.std.specs.List.{list_all, Contains, count_by, flat_map}
use Rattle.std.specs.Option.{is_some, is_none}
use Rattle.std.specs.Prelude.{not}
use Rattle.std.proofs.lemmas.Bool.{and_parts, and_from, or_cases, or_left, or_right, leb-true, le-leb, false≢true, eqb-true, eq-eqb, cases_eq, cases_lt}
use Rattle.std.proofs.lemmas.List.{set_past}
use Rattle.std.proofs.lemmas.List.FromFn.{length-map-range_with_len, get_or-map-range_with_len, fill_by_all}
use Rattle.mj_tiles.specs.Counts.{all_kinds, IsCounts}
use Rattle.mj_readings.specs.declared.reading.Set.{Set}
use Rattle.mj_readings.specs.Sets.{tally, tiles_of_set, is_concealed, begins_run, in_order}
use Rattle.mj_readings.specs.Complete.{AreSetsAndPair, AreOrphans, IsComplete, is_seven_pairs}
use Rattle.mj_readings.specs.Inner.Ways.{Way, sets_at, put, begin, begins, at_kind, ways, has_way}
use Rattle.mj_readings.specs.Tests.{complete, orphan_double}
use Rattle.mj_readings.proofs.Tiles.{number_at, count-flat_map}
use Rattle.mj_readings.proofs.WayRules.{IsWay, pair_tiles, carry, ways_sound}
use Rattle.mj_readings.proofs.WayAll.{ways_complete}
use Rattle.std.proofs.lemmas.List.Elements.{All-contains}
use Rattle.mj_readings.proofs.Sorting.{sorted, number_at-sorted, length-sorted, list_all-sorted, in_order-sorted}
use Rattle.mj_readings.proofs.Orphans.{orphan_double-is, orphan_double-are}

-- There is a way where the list of ways isn't empty.
abbrev pub some_way : List Way → Bool
some_way [] = false
some_way (way ∷ others) = true

some_way-append : (one other : List Way) → some_way (one ++ other) ≡ (some_way one || some_way other)
some_way-append [] other = refl
some_way-append (way ∷ one) other = refl

some_way-map : (f : Way → Way) (list : List Way) → some_way (map f list) ≡ some_way list
some_way-map f [] = refl
some_way-map f (way ∷ list) = refl

some_way-if : (b : Bool) (list : List Way) → some_way (cond b list []) ≡ (b && some_way list)
some_way-if true list = refl
some_way-if false list = refl

abbrev pub is_made : Option ℕ → Bool
is_made None = false
is_made (Some pair) = true

-- The branches as tests.
begins_is : (next : ℕ → ℕ → Option ℕ → List Way) (test : ℕ → ℕ → Bool → Bool) (kind runs triplets left : ℕ) (pair : Option ℕ) (paired : Bool) →
    test runs (left - (runs + triplets)) paired ≡ some_way (next runs (left - (runs + triplets)) pair) →
    begins test kind runs triplets left paired ≡ some_way (begin next kind runs triplets left pair)
begins_is next test kind runs triplets left pair paired same =
    and_assoc (eqb runs 0 || begins_run kind) (leb (runs + triplets) left) (test runs (left - (runs + triplets)) paired)
    ∙ ap (λ b. ((eqb runs 0 || begins_run kind) && leb (runs + triplets) left) && b)
    (same ∙ sym (some_way-map (put (sets_at kind runs triplets)) (next runs (left - (runs + triplets)) pair)))
    ∙ sym (some_way-if ((eqb runs 0 || begins_run kind) && leb (runs + triplets) left) (map (put (sets_at kind runs triplets)) (next runs (left - (runs + triplets)) pair)))
  where
    and_assoc : (a b c : Bool) → ((a && b) && c) ≡ ((a && b) && c)
    and_assoc a b c = refl

at_kind_is : (next : ℕ → ℕ → Option ℕ → List Way) (test : ℕ → ℕ → Bool → Bool) (kind free left : ℕ) (made : Option ℕ) →
    ((runs left : ℕ) (made : Option ℕ) → test runs left (is_made made) ≡ some_way (next runs left made)) →
    (begins test kind free 0 left (is_made made)
    || leb 3 free && begins test kind (free - 3) 1 left (is_made made)
    || leb 2 free && not (is_made made) && begins test kind (free - 2) 0 left true)
    ≡ some_way (at_kind next kind free left made)
at_kind_is next test kind free left made same =
    either _ _ _ _
    (either _ _ _ _
    (begins_is next test kind free 0 left made (is_made made) (same free (left - (free + 0)) made))
    (ap (λ b. leb 3 free && b) (begins_is next test kind (free - 3) 1 left made (is_made made) (same (free - 3) (left - (free - 3 + 1)) made))
    ∙ sym (some_way-if (leb 3 free) triplet))
    ∙ sym (some_way-append plain (cond (leb 3 free) triplet [])))
    (with_pair made)
    ∙ sym (some_way-append (plain ++ cond (leb 3 free) triplet []) (cond (leb 2 free && is_none made) paired []))
  where
    plain : List Way
    plain = begin next kind free 0 left made

    triplet : List Way
    triplet = begin next kind (free - 3) 1 left made

    paired : List Way
    paired = begin next kind (free - 2) 0 left (Some kind)

    either : (a b c d : Bool) → a ≡ c → b ≡ d → (a || b) ≡ (c || d)
    either a b c d e f = cc

    none_made : (made : Option ℕ) → not (is_made made) ≡ is_none made
    none_made None = refl
    none_made (Some pair) = refl

    with_pair : (made : Option ℕ) →
        (leb 2 free && not (is_made made) && begins test kind (free - 2) 0 left true) ≡ some_way (cond (leb 2 free && is_none made) paired [])
    with_pair made =
        ap (λ b. leb 2 free && b && begins test kind (free - 2) 0 left true) (none_made made)
        ∙ ap (λ b. leb 2 free && is_none made && b) (begins_is next test kind (free - 2) 0 left (Some kind) true (same (free - 2) (left - (free - 2 + 0)) (Some kind)))
        ∙ sym (some_way-if (leb 2 free && is_none made) paired)

-- The test says whether there is a way.
pub has_way-is : (counts : List ℕ) (kind first second left : ℕ) (made : Option ℕ) →
    has_way counts kind first second left (is_made made) ≡ some_way (ways counts kind first second left made)
unfolding has_way ways
has_way-is [] kind first second left None = grind arith
has_way-is [] kind first second left (Some pair) = end_is (eqb left 0) pair
  where
    end_is : (b : Bool) (pair : ℕ) → (b && true) ≡ some_way (cond b (record { sets = []; pair = pair } ∷ []) [])
    end_is true pair = refl
    end_is false pair = refl
has_way-is (count ∷ others) kind first second left made =
    ap (λ b. leb (first + second) count && b)
    (at_kind_is (λ runs left pair. ways others (kind + 1) second runs left pair) (λ runs left paired. has_way others (kind + 1) second runs left paired)
    kind (count - (first + second)) left made (λ runs left made. has_way-is others (kind + 1) second runs left made))
    ∙ sym (some_way-if (leb (first + second) count) (at_kind (λ runs left pair. ways others (kind + 1) second runs left pair) kind (count - (first + second)) left made))

-- A list of kinds that is tallied has each kind as often as it stands there.
pub length-tally : (kinds : List ℕ) → length (tally kinds) ≡ 34
unfolding tally all_kinds
length-tally kinds = length-map-range_with_len (λ kind. count_by (λ other. eqb other kind) kinds) 0 34

pub get_or-tally : (kinds : List ℕ) (kind : ℕ) → kind < 34 → get_or (tally kinds) kind 0 ≡ count_by (λ other. eqb other kind) kinds
unfolding tally all_kinds
get_or-tally kinds kind within = get_or-map-range_with_len (λ kind. count_by (λ other. eqb other kind) kinds) 0 34 kind kind 0 within (omega arith)

pub tally-is : (counts kinds : List ℕ) → length counts ≡ 34 → ((kind : ℕ) → kind < 34 → get_or counts kind 0 ≡ count_by (λ other. eqb other kind) kinds) →
    tally kinds ≡ counts
unfolding tally all_kinds
tally-is counts kinds size each = sym (fill_by_all (λ kind. count_by (λ other. eqb other kind) kinds) counts 34 0 size each)

-- The tiles of sets and a pair.
pub sets_and_pair : (sets : List Set) (pair kind : ℕ) →
    count_by (λ other. eqb other kind) (flat_map tiles_of_set sets ++ pair ∷ pair ∷ []) ≡ number_at kind sets + cond (eqb pair kind) 2 0
sets_and_pair sets pair kind = count-flat_map kind sets (pair ∷ pair ∷ []) ∙ ap (λ n. number_at kind sets + n) (two (eqb pair kind))
  where
    two : (b : Bool) → 0 + cond b 1 0 + cond b 1 0 ≡ cond b 2 0
    two true = refl
    two false = refl

-- Before the first kind nothing is under way.
all_tiles : (sets : List Set) (pair kind : ℕ) → number_at (0 + kind) sets + carry 0 0 kind + pair_tiles None pair (0 + kind)
    ≡ count_by (λ other. eqb other kind) (flat_map tiles_of_set sets ++ pair ∷ pair ∷ [])
all_tiles sets pair kind =
    ap (λ k. number_at k sets + carry 0 0 kind + pair_tiles None pair k) (zero-add kind)
    ∙ ap (λ n. number_at kind sets + n + pair_tiles None pair kind) (none kind)
    ∙ ap (λ n. n + pair_tiles None pair kind) (add-zero (number_at kind sets))
    ∙ sym (sets_and_pair sets pair kind)
  where
    none : (j : ℕ) → carry 0 0 j ≡ 0
    none zero = refl
    none (suc zero) = refl
    none (suc (suc j)) = refl

-- A way for all kinds is sets in order and a pair that have the counts.
pub way-are : (counts : List ℕ) (number : ℕ) (way : Way) → length counts ≡ 34 → IsWay counts 0 0 0 number None way →
    AreSetsAndPair counts number way.sets way.pair × (in_order way.sets ≡ true)
way-are counts number way size is = (
  record {
    so_many = is.so_many;
    concealed = is.concealed;
    pair_kind = is.pair_fits.1;
    tiles = tally-is counts (flat_map tiles_of_set way.sets ++ way.pair ∷ way.pair ∷ []) size
        (λ kind within. is.tiles kind (omega (arith, within, size)) ∙ all_tiles way.sets way.pair kind);
  },
  is.order,
)

from_first : (sets : List Set) → list_all (λ set. leb 0 set.low) sets ≡ true
from_first [] = refl
from_first (set ∷ others) = and_from (leb 0 set.low) (list_all (λ set. leb 0 set.low) others) (le-leb 0 set.low (omega arith)) (from_first others)

pub are-way : (counts : List ℕ) (number : ℕ) (sets : List Set) (pair : ℕ) → length counts ≡ 34 → AreSetsAndPair counts number sets pair →
    IsWay counts 0 0 0 number None (record { sets = sorted sets; pair = pair })
are-way counts number sets pair size are = record {
  so_many = length-sorted sets ∙ are.so_many;
  concealed = list_all-sorted is_concealed sets are.concealed;
  later = from_first (sorted sets);
  order = in_order-sorted sets;
  pair_fits = (omega arith, are.pair_kind);
  tiles = λ j inside.
      ap (λ ns. get_or ns j 0) (sym are.tiles)
      ∙ get_or-tally (flat_map tiles_of_set sets ++ pair ∷ pair ∷ []) j (omega (arith, inside, size))
      ∙ sym (all_tiles sets pair j)
      ∙ ap (λ n. n + carry 0 0 j + pair_tiles None pair (0 + j)) (sym (number_at-sorted (0 + j) sets));
}

pub are-way-in_order : (counts : List ℕ) (number : ℕ) (sets : List Set) (pair : ℕ) → length counts ≡ 34 → AreSetsAndPair counts number sets pair →
    in_order sets ≡ true → IsWay counts 0 0 0 number None (record { sets = sets; pair = pair })
are-way-in_order counts number sets pair size are order = record {
  so_many = are.so_many;
  concealed = are.concealed;
  later = from_first sets;
  order = order;
  pair_fits = (omega arith, are.pair_kind);
  tiles = λ j inside.
      ap (λ ns. get_or ns j 0) (sym are.tiles)
      ∙ get_or-tally (flat_map tiles_of_set sets ++ pair ∷ pair ∷ []) j (omega (arith, inside, size))
      ∙ sym (all_tiles sets pair j);
}

-- No count is above four.
pub none_above : (counts : List ℕ) → ((kind : ℕ) → get_or counts kind 0 ≤ 4) → list_all (λ count. leb count 4) counts ≡ true
none_above [] each = refl
none_above (count ∷ others) each = and_from (leb count 4) (list_all (λ count. leb count 4) others) (le-leb count 4 (each 0)) (none_above others (λ kind. each (suc kind)))

some_from : (list : List Way) → some_way list ≡ true → (way : Way) × Contains list way
some_from [] some = absurd (false≢true some)
some_from (way ∷ others) some = (way, (0, omega arith, refl))

some_has : (list : List Way) (way : Way) → Contains list way → some_way list ≡ true
some_has [] way has = absurd (omega (arith, has.1))
some_has (first ∷ others) way has = refl

-- The test of sets and a pair.
pub has_way-are : (counts : List ℕ) (number : ℕ) → length counts ≡ 34 → has_way counts 0 0 0 number false ≡ true →
    (sets : List Set) × (pair : ℕ) × AreSetsAndPair counts number sets pair
has_way-are counts number size has =
    let found = some_from (ways counts 0 0 0 number None) (sym (has_way-is counts 0 0 0 number None) ∙ has) in
    let is = All-contains (IsWay counts 0 0 0 number None) (ways counts 0 0 0 number None) found.0 (ways_sound counts 0 0 0 number None (omega (arith, size))) found.1 in
    (found.0.sets, found.0.pair, (way-are counts number found.0 size is).0)

are-has_way : (counts : List ℕ) (number : ℕ) (sets : List Set) (pair : ℕ) → IsCounts counts → AreSetsAndPair counts number sets pair →
    has_way counts 0 0 0 number false ≡ true
are-has_way counts number sets pair is are =
    has_way-is counts 0 0 0 number None
    ∙ some_has (ways counts 0 0 0 number None) (record { sets = sorted sets; pair = pair })
    (ways_complete counts 0 0 0 number None (record { sets = sorted sets; pair = pair }) (omega (arith, is.size)) (none_above counts is.within)
    (are-way counts number sets pair is.size are))

-- The test of a complete hand.
pub complete-are : (counts : List ℕ) (melds : ℕ) → IsCounts counts → complete counts melds ≡ true → IsComplete counts melds
unfolding complete
complete-are counts melds is test =
    split (or_cases (leb melds 4 && has_way counts 0 0 0 (4 - melds) false) (eqb melds 0 && (is_seven_pairs counts || is_some (orphan_double counts))) test)
  where
    from_double : (double : Option ℕ) → orphan_double counts ≡ double → is_some double ≡ true → (double : ℕ) × AreOrphans counts double
    from_double None is some = absurd (false≢true some)
    from_double (Some double) is some = (double, orphan_double-are counts double is)

    special : melds ≡ 0 → (is_seven_pairs counts ≡ true) ⊎ (is_some (orphan_double counts) ≡ true) → IsComplete counts melds
    special closed (inl pairs) = inr (inl (closed, pairs))
    special closed (inr double) = inr (inr (closed, from_double (orphan_double counts) refl double))

    split : ((leb melds 4 && has_way counts 0 0 0 (4 - melds) false) ≡ true) ⊎ ((eqb melds 0 && (is_seven_pairs counts || is_some (orphan_double counts))) ≡ true) →
        IsComplete counts melds
    split (inl standard) =
        let parts = and_parts (leb melds 4) (has_way counts 0 0 0 (4 - melds) false) standard in
        inl (leb-true melds 4 parts.0, has_way-are counts (4 - melds) is.size parts.1)
    split (inr other) =
        let parts = and_parts (eqb melds 0) (is_seven_pairs counts || is_some (orphan_double counts)) other in
        special (eqb-true melds 0 parts.0) (or_cases (is_seven_pairs counts) (is_some (orphan_double counts)) parts.1)

pub are-complete : (counts : List ℕ) (melds : ℕ) → IsCounts counts → IsComplete counts melds → complete counts melds ≡ true
unfolding complete
are-complete counts melds is (inl standard) =
    or_left (leb melds 4 && has_way counts 0 0 0 (4 - melds) false) (eqb melds 0 && (is_seven_pairs counts || is_some (orphan_double counts)))
    (and_from (leb melds 4) (has_way counts 0 0 0 (4 - melds) false) (le-leb melds 4 standard.0)
    (are-has_way counts (4 - melds) standard.1.0 standard.1.1 is standard.1.2))
are-complete counts melds is (inr (inl pairs)) =
    or_right (leb melds 4 && has_way counts 0 0 0 (4 - melds) false) (eqb melds 0 && (is_seven_pairs counts || is_some (orphan_double counts)))
    (and_from (eqb melds 0) (is_seven_pairs counts || is_some (orphan_double counts)) (eq-eqb melds 0 pairs.0)
    (or_left (is_seven_pairs counts) (is_some (orphan_double counts)) pairs.1))
are-complete counts melds is (inr (inr orphans)) =
    or_right (leb melds 4 && has_way counts 0 0 0 (4 - melds) false) (eqb melds 0 && (is_seven_pairs counts || is_some (orphan_double counts)))
    (and_from (eqb melds 0) (is_seven_pairs counts || is_some (orphan_double counts)) (eq-eqb melds 0 orphans.0)
    (or_right (is_seven_pairs counts) (is_some (orphan_double counts)) (ap is_some (orphan_double-is counts orphans.1.0 orphans.1.1))))

-- One tile more of a kind of which fewer than four are held.
pub counts-one_more : (counts : List ℕ) (kind : ℕ) → IsCounts counts → get_or counts kind 0 < 4 → IsCounts (set counts kind (get_or counts kind 0 + 1))
counts-one_more counts kind are few = record {
  size = length-set counts kind (get_or counts kind 0 + 1) ∙ are.size;
  within = λ k. at k (cases_eq k kind);
}
  where
    here : (kind < length counts) ⊎ (length counts ≤ kind) → get_or (set counts kind (get_or counts kind 0 + 1)) kind 0 ≤ 4
    here (inl inside) = rw (get_or-set_same counts kind (get_or counts kind 0 + 1) 0 inside) (omega arith)
    here (inr past) = rw (set_past counts kind (get_or counts kind 0 + 1) past) (are.within kind)

    at : (k : ℕ) → (k ≡ kind) ⊎ (k ≡ kind → ⊥) → get_or (set counts kind (get_or counts kind 0 + 1)) k 0 ≤ 4
    at k (inl same) = rw same (here (cases_lt kind (length counts)))
    at k (inr differ) = rw (get_or-set_other counts kind k (get_or counts kind 0 + 1) 0 differ) (are.within k)

pub complete_one_more : (counts numbers : List ℕ) (kind place melds : ℕ) (result : Bool) → IsCounts counts → numbers ≡ counts → place ≡ kind → get_or counts kind 0 < 4 →
    result ≡ complete (set numbers place (get_or numbers place 0 + 1)) melds →
    (result ≡ complete (set counts kind (get_or counts kind 0 + 1)) melds)
    × ((result ≡ true → IsComplete (set counts kind (get_or counts kind 0 + 1)) melds) × (IsComplete (set counts kind (get_or counts kind 0 + 1)) melds → result ≡ true))
complete_one_more counts numbers kind place melds result are same here few is =
    let more = counts-one_more counts kind are few in
    let value : result ≡ complete (set counts kind (get_or counts kind 0 + 1)) melds =
    is ∙ ap (λ ns. complete (set ns place (get_or ns place 0 + 1)) melds) same ∙ ap (λ k. complete (set counts k (get_or counts k 0 + 1)) melds) here in (
      value,
      (
        λ test. complete-are (set counts kind (get_or counts kind 0 + 1)) melds more (sym value ∙ test),
        λ hand. value ∙ are-complete (set counts kind (get_or counts kind 0 + 1)) melds more hand,
      ),
    )

pub complete_as : (counts numbers : List ℕ) (melds : ℕ) (result : Bool) → IsCounts counts → numbers ≡ counts → result ≡ complete numbers melds →
    (result ≡ complete counts melds) × ((result ≡ true → IsComplete counts melds) × (IsComplete counts melds → result ≡ true))
complete_as counts numbers melds result are same is =
    let value : result ≡ complete counts melds = is ∙ ap (λ ns. complete ns melds) same in
    (value, (λ test. complete-are counts melds are (sym value ∙ test), λ hand. value ∙ are-complete counts melds are hand))
