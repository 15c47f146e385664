-- Gathering the readings of the parts of a list of ways.
use Rattle.std.proofs.Common.{ℕ, ◌≡◌, ◌<◌, ◌≤◌, ◌+◌, ◌-◌, ◌++◌, ◌∷◌, [], Bool, true, false, cond, List, map, refl, sym, ◌∙◌, ap, subst, arith, Option, Some, None, eqb, leb, ◌&&◌, ◌||◌, append_assoc}
use Rattle.std.specs.List.{filter, range_with_len}
use Rattle.std.specs.Option.{is_none, is_some}
use Rattle.std.proofs.lemmas.List.{append-nil, map-append}
use Rattle.std.proofs.lemmas.Bool.{ne_eqb, lt-leb, le-leb, and_right, false≢true}
use Rattle.mj_tiles.specs.declared.meld.Meld.{Meld}
use Rattle.mj_readings.specs.declared.reading.Set.{Set}
use Rattle.mj_readings.specs.declared.reading.Reading.{Reading}
use Rattle.mj_readings.specs.declared.winning_way.Spot.{Spot}
use Rattle.mj_readings.specs.Sets.{begins_run}
use Rattle.mj_readings.specs.Readings.{names_winning}
use Rattle.mj_readings.specs.Inner.Ways.{Way, sets_at, end_of, ways}
use Rattle.mj_readings.specs.Inner.WinningWays.{win_places, winning_ways}
use Rattle.mj_readings.specs.Inner.Spots.{ways_from, branch_ways, triplet_ways, pair_ways}
use Rattle.mj_readings.specs.Inner.ReadingLists.{standard_of, with_win, readings_past}
use Rattle.mj_readings.proofs.Picking.{begin-on, none-at, parts_of, end-some}
use Rattle.mj_readings.proofs.Places.{passed_on}

-- Where there are no ways, no reading is added.
pub none_more : (old : List Reading) (melds : List Meld) (winning : ℕ) (sets : List Set) (list : List Way) → list ≡ [] → old ≡ old ++ readings_past melds winning sets list
unfolding winning_ways
none_more old melds winning sets list none = sym (ap (λ ws. old ++ readings_past melds winning sets ws) none ∙ append-nil old)

pub few_ways : (numbers : List ℕ) (count : ℕ) (others : List ℕ) (spot : Spot) → numbers ≡ count ∷ others → count < spot.first + spot.second → ways_from numbers spot ≡ []
unfolding ways
few_ways numbers count others spot is few = rw is (rw (lt-leb (spot.first + spot.second) count few) refl)

pub branch_off : (others : List ℕ) (spot : Spot) (runs triplets : ℕ) (pair : Option ℕ) (can : Bool) → can ≡ ((eqb runs 0 || begins_run spot.kind) && leb (runs + triplets) spot.left) → can ≡ false →
    branch_ways others spot runs triplets pair ≡ []
branch_off others spot runs triplets pair can is off = rw (sym is ∙ off) refl

pub triplet_few : (others : List ℕ) (spot : Spot) (free : ℕ) → free < 3 → triplet_ways others spot free ≡ []
triplet_few others spot free few = rw (lt-leb 3 free few) refl

pub pair_few : (others : List ℕ) (spot : Spot) (free : ℕ) → free < 2 → pair_ways others spot free ≡ []
pair_few others spot free few = rw (lt-leb 2 free few) refl

pub pair_made : (others : List ℕ) (spot : Spot) (free : ℕ) → is_some spot.pair ≡ true → pair_ways others spot free ≡ []
pair_made others spot free made = rw (and_right (leb 2 free) (is_none spot.pair) (none_of spot.pair made)) refl
  where
    none_of : (pair : Option ℕ) → is_some pair ≡ true → is_none pair ≡ false
    none_of None h = absurd (false≢true h)
    none_of (Some pair) h = refl

-- The readings of a part of the ways are those of the ways that it is.
pub same_ways : (old new : List Reading) (melds : List Meld) (winning : ℕ) (sets : List Set) (part list : List Way) → part ≡ list →
    new ≡ old ++ readings_past melds winning sets part → new ≡ old ++ readings_past melds winning sets list
same_ways old new melds winning sets part list same adds = adds ∙ ap (λ ws. old ++ readings_past melds winning sets ws) same

pub triplet_on : (others : List ℕ) (spot : Spot) (free : ℕ) → 3 ≤ free → branch_ways others spot (free - 3) 1 spot.pair ≡ triplet_ways others spot free
triplet_on others spot free enough = sym (ap (λ b. cond b (branch_ways others spot (free - 3) 1 spot.pair) []) (le-leb 3 free enough))

pub pair_on : (others : List ℕ) (spot : Spot) (free : ℕ) (made : Option ℕ) → 2 ≤ free → is_some spot.pair ≡ false → made ≡ Some spot.kind →
    branch_ways others spot (free - 2) 0 made ≡ pair_ways others spot free
pair_on others spot free made enough unmade is =
    ap (branch_ways others spot (free - 2) 0) is
    ∙ sym (ap (λ b. cond b (branch_ways others spot (free - 2) 0 (Some spot.kind)) []) (both (leb 2 free) (is_none spot.pair) (le-leb 2 free enough) (none_of spot.pair unmade)))
  where
    both : (a b : Bool) → a ≡ true → b ≡ true → (a && b) ≡ true
    both a b e f = rw e (rw f refl)

    none_of : (pair : Option ℕ) → is_some pair ≡ false → is_none pair ≡ true
    none_of None h = refl
    none_of (Some pair) h = absurd (false≢true (sym h))

-- The readings of a branch are those of the ways after it after the sets that begin at it.
pub branch_on : (others : List ℕ) (spot : Spot) (old new : List Reading) (melds : List Meld) (sets made : List Set) (winning runs triplets : ℕ) (pair : Option ℕ) (can : Bool) →
    can ≡ ((eqb runs 0 || begins_run spot.kind) && leb (runs + triplets) spot.left) → can ≡ true → made ≡ sets ++ sets_at spot.kind runs triplets →
    new ≡ old ++ readings_past melds winning made (ways others (spot.kind + 1) spot.second runs (spot.left - (runs + triplets)) pair) →
    new ≡ old ++ readings_past melds winning sets (branch_ways others spot runs triplets pair)
branch_on others spot old new melds sets made winning runs triplets pair can is on same adds =
    adds
    ∙ ap (λ all. old ++ readings_past melds winning all (ways others (spot.kind + 1) spot.second runs (spot.left - (runs + triplets)) pair)) same
    ∙ ap (λ list. old ++ map (standard_of melds winning) list)
    (sym (begin-on (λ runs left pair. ways others (spot.kind + 1) spot.second runs left pair) sets winning spot.kind runs triplets spot.left pair (sym is ∙ on)))

-- The readings at a kind are those of its three parts.
three_parts : (numbers : List ℕ) (count : ℕ) (others : List ℕ) (spot : Spot) (melds : List Meld) (sets : List Set) (winning : ℕ) → numbers ≡ count ∷ others → spot.first + spot.second ≤ count →
    readings_past melds winning sets (ways_from numbers spot)
    ≡ readings_past melds winning sets (branch_ways others spot (count - (spot.first + spot.second)) 0 spot.pair)
    ++ readings_past melds winning sets (triplet_ways others spot (count - (spot.first + spot.second)))
    ++ readings_past melds winning sets (pair_ways others spot (count - (spot.first + spot.second)))
three_parts numbers count others spot melds sets winning is room =
    let f = standard_of melds winning in
    let one = winning_ways sets winning (branch_ways others spot (count - (spot.first + spot.second)) 0 spot.pair) in
    let two = winning_ways sets winning (triplet_ways others spot (count - (spot.first + spot.second))) in
    let three = winning_ways sets winning (pair_ways others spot (count - (spot.first + spot.second))) in
    ap (map f) (parts_of numbers count others spot sets winning is room)
    ∙ map-append f (one ++ two) three
    ∙ ap (λ list. list ++ map f three) (map-append f one two)

chained : (old first second third a b c : List Reading) → first ≡ old ++ a → second ≡ first ++ b → third ≡ second ++ c → third ≡ old ++ (a ++ b ++ c)
chained old first second third a b c e f g =
    g ∙ ap (λ l. l ++ c) (f ∙ ap (λ l. l ++ b) e ∙ append_assoc old a b) ∙ append_assoc old (a ++ b) c

pub at_kind_three : (numbers : List ℕ) (count : ℕ) (others : List ℕ) (spot : Spot) (old first second third : List Reading) (melds : List Meld) (sets : List Set) (winning free : ℕ) →
    numbers ≡ count ∷ others → spot.first + spot.second ≤ count → free ≡ count - (spot.first + spot.second) →
    first ≡ old ++ readings_past melds winning sets (branch_ways others spot free 0 spot.pair) →
    second ≡ first ++ readings_past melds winning sets (triplet_ways others spot free) →
    third ≡ second ++ readings_past melds winning sets (pair_ways others spot free) →
    third ≡ old ++ readings_past melds winning sets (ways_from numbers spot)
at_kind_three numbers count others spot old first second third melds sets winning free is room free_is e f g =
    subst (λ n. third ≡ old ++ (readings_past melds winning sets (branch_ways others spot n 0 spot.pair) ++ readings_past melds winning sets
    (triplet_ways others spot n) ++ readings_past melds winning sets (pair_ways others spot n)))
    free_is (chained old first second third _ _ _ e f g)
    ∙ ap (λ list. old ++ list) (sym (three_parts numbers count others spot melds sets winning is room))

-- Where no tile of a kind is free, the ways are those after it.
pub at_kind_none : (numbers : List ℕ) (count : ℕ) (others : List ℕ) (spot : Spot) (old new : List Reading) (melds : List Meld) (sets : List Set) (winning free : ℕ) (next : Spot) →
    numbers ≡ count ∷ others → spot.first + spot.second ≤ count → free ≡ count - (spot.first + spot.second) → free ≡ 0 →
    next ≡ record { kind = spot.kind + 1; first = spot.second; second = 0; left = spot.left; pair = spot.pair } →
    new ≡ old ++ readings_past melds winning sets (ways_from others next) →
    new ≡ old ++ readings_past melds winning sets (ways_from numbers spot)
at_kind_none numbers count others spot old new melds sets winning free next is room free_is none next_is adds =
    at_kind_three numbers count others spot old new new new melds sets winning 0 is room (sym none ∙ free_is)
    (branch_on others spot old new melds sets sets winning 0 0 spot.pair true (sym (le-leb (0 + 0) spot.left (omega arith))) refl (none-at sets spot.kind 0 0 refl)
    (adds ∙ ap (λ (s : Spot). old ++ readings_past melds winning sets (ways_from others s)) next_is
    ∙ ap (λ n. old ++ readings_past melds winning sets (ways others (spot.kind + 1) spot.second 0 n spot.pair)) same_left))
    (none_more new melds winning sets (triplet_ways others spot 0) (triplet_few others spot 0 (omega arith)))
    (none_more new melds winning sets (pair_ways others spot 0) (pair_few others spot 0 (omega arith)))
  where
    same_left : spot.left ≡ spot.left - (0 + 0)
    same_left = omega arith

-- At the end.
pub end_none : (left : ℕ) (pair : Option ℕ) → pair ≡ None → end_of left pair ≡ []
end_none left pair none = rw none refl

pub end_left : (left pair : ℕ) (made : Option ℕ) → made ≡ Some pair → 0 < left → end_of left made ≡ []
end_left left pair made is more = rw is (rw (ne_eqb left 0 (λ e. omega (arith, e, more))) refl)

map_map : {X Y Z : Type 0} (f : Y → Z) (g : X → Y) (xs : List X) → map f (map g xs) ≡ map (λ x. f (g x)) xs
map_map f g [] = refl
map_map f g (x ∷ xs) = ap (λ ys. f (g x) ∷ ys) (map_map f g xs)

pub end_wins : (old new : List Reading) (melds : List Meld) (sets : List Set) (winning pair left : ℕ) (made : Option ℕ) → made ≡ Some pair → left ≤ 0 →
    new ≡ old ++ map (with_win melds winning sets pair) (win_places sets pair winning) → new ≡ old ++ readings_past melds winning sets (end_of left made)
end_wins old new melds sets winning pair left made is none adds =
    adds
    ∙ ap (λ list. old ++ list) (sym (map_map (standard_of melds winning) (λ win. record { sets = sets; pair = pair; win = win }) (win_places sets pair winning)))
    ∙ ap (λ list. old ++ map (standard_of melds winning) list) (sym (end-some sets winning pair left made is none))

-- One place more, and all places.
pub win_more : (old items new : List Reading) (melds : List Meld) (sets : List Set) (winning pair win : ℕ) →
    items ≡ old ++ map (with_win melds winning sets pair) (filter (names_winning sets pair winning) (range_with_len 0 win)) →
    new ≡ items ++ cond (names_winning sets pair winning win) (with_win melds winning sets pair win ∷ []) [] →
    new ≡ old ++ map (with_win melds winning sets pair) (filter (names_winning sets pair winning) (range_with_len 0 (win + 1)))
win_more old items new melds sets winning pair win before more =
    let f = with_win melds winning sets pair in
    let past = filter (names_winning sets pair winning) (range_with_len 0 win) in
    more
    ∙ ap (λ l. l ++ cond (names_winning sets pair winning win) (f win ∷ []) []) before
    ∙ append_assoc old (map f past) _
    ∙ ap (λ l. old ++ (map f past ++ l)) (sym (one f win (names_winning sets pair winning win)))
    ∙ ap (λ l. old ++ l) (sym (map-append f past (cond (names_winning sets pair winning win) (win ∷ []) [])))
    ∙ ap (λ l. old ++ map f l) (sym (passed_on (names_winning sets pair winning) win))
  where
    one : (f : ℕ → Reading) (n : ℕ) (b : Bool) → map f (cond b (n ∷ []) []) ≡ cond b (f n ∷ []) []
    one f n true = refl
    one f n false = refl

pub win_all : (old items : List Reading) (melds : List Meld) (sets : List Set) (winning pair win : ℕ) → win ≡ 5 →
    items ≡ old ++ map (with_win melds winning sets pair) (filter (names_winning sets pair winning) (range_with_len 0 win)) →
    items ≡ old ++ map (with_win melds winning sets pair) (win_places sets pair winning)
unfolding win_places
win_all old items melds sets winning pair win last is =
    is ∙ ap (λ n. old ++ map (with_win melds winning sets pair) (filter (names_winning sets pair winning) (range_with_len 0 n))) last
