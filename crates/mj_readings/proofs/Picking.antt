-- Picking an item of a list made of parts.
use Rattle.std.proofs.Common.{ℕ, ◌≡◌, ◌<◌, ◌≤◌, ◌+◌, ◌-◌, ◌++◌, ◌∷◌, [], Bool, true, false, cond, List, length, map, refl, sym, ◌∙◌, ap, subst}
use Rattle.std.proofs.Common.{arith, zero, suc, zero-add, Option, Some, None, Result, Ok, Err, eqb, leb, ◌&&◌, ◌||◌, append_assoc}
use Rattle.std.specs.List.{slice_get, flat_map}
use Rattle.std.specs.Option.{is_none, is_some}
use Rattle.std.proofs.lemmas.List.{length-append, length-map, append-nil}
use Rattle.std.proofs.lemmas.List.Concat.{flat_map-append}
use Rattle.std.proofs.lemmas.Bool.{ne_eqb, lt-leb, le-leb, and_right, and_from, false≢true}
use Rattle.mj_readings.specs.declared.reading.Set.{Set}
use Rattle.mj_readings.specs.declared.winning_way.WinningWay.{WinningWay}
use Rattle.mj_readings.specs.declared.winning_way.Spot.{Spot}
use Rattle.mj_readings.specs.Sets.{begins_run}
use Rattle.mj_readings.specs.Inner.Ways.{Way, sets_at, put, begin, at_kind, end_of, ways}
use Rattle.mj_readings.specs.Inner.WinningWays.{Picks, win_places, winning_ways, winning_ways_of}
use Rattle.mj_readings.specs.Inner.Spots.{ways_from, branch_ways, triplet_ways, pair_ways}

pub slice_get-left : {X : Type 0} (xs ys : List X) (place : ℕ) (x : X) → slice_get xs place ≡ Some x → slice_get (xs ++ ys) place ≡ Some x
slice_get-left [] ys place x is = absurd (none_is x is)
  where
    none_is : {X : Type 0} (x : X) → ◌≡◌ {A = Option X} None (Some x) → ⊥
    none_is x e = cc
slice_get-left (y ∷ xs) ys zero x is = is
slice_get-left (y ∷ xs) ys (suc place) x is = slice_get-left xs ys place x is

pub slice_get-right : {X : Type 0} (xs ys : List X) (rest : ℕ) → slice_get (xs ++ ys) (length xs + rest) ≡ slice_get ys rest
slice_get-right [] ys rest = ap (slice_get ys) (zero-add rest)
slice_get-right (y ∷ xs) ys rest = ap (slice_get (y ∷ xs ++ ys)) (suc_add (length xs) rest) ∙ slice_get-right xs ys rest
  where
    suc_add : (n rest : ℕ) → suc n + rest ≡ suc (n + rest)
    suc_add n rest = omega arith

-- After one list the other goes on.
pub picks-left : {X : Type 0} (xs ys : List X) (place : ℕ) (x : X) → Picks xs place (Ok x) → Picks (xs ++ ys) place (Ok x)
picks-left xs ys place x is = slice_get-left xs ys place x is

pub picks-right : {X : Type 0} (xs ys : List X) (place rest : ℕ) (result : Result X ℕ) → Picks xs place (Err rest) → Picks ys rest result → Picks (xs ++ ys) place result
picks-right xs ys place rest (Ok x) past is = ap (slice_get (xs ++ ys)) past ∙ slice_get-right xs ys rest ∙ is
picks-right xs ys place rest (Err more) past is = past_both _ _ _ _ _ _ past is (length-append xs ys)
  where
    past_both : (p a r b m n : ℕ) → p ≡ a + r → r ≡ b + m → n ≡ a + b → p ≡ n + m
    past_both p a r b m n one other sum = omega arith

pub slice_get-mapped : {X Y : Type 0} (f : X → Y) (xs : List X) (place : ℕ) (x : X) → slice_get xs place ≡ Some x → slice_get (map f xs) place ≡ Some (f x)
slice_get-mapped f [] place x is = absurd (none_is x is)
  where
    none_is : {X : Type 0} (x : X) → ◌≡◌ {A = Option X} None (Some x) → ⊥
    none_is x e = cc
slice_get-mapped f (y ∷ xs) zero x is = ap Some (ap f (same y x is))
  where
    same : {X : Type 0} (y x : X) → Some y ≡ Some x → y ≡ x
    same y x e = cc
slice_get-mapped f (y ∷ xs) (suc place) x is = slice_get-mapped f xs place x is

-- The winning_ways of parts.
pub winning_ways-append : (sets : List Set) (winning : ℕ) (one other : List Way) →
    winning_ways sets winning (one ++ other) ≡ winning_ways sets winning one ++ winning_ways sets winning other
unfolding winning_ways
winning_ways-append sets winning one other = flat_map-append (winning_ways_of sets winning) one other

pub winning_ways-put : (sets front : List Set) (winning : ℕ) (list : List Way) →
    winning_ways sets winning (map (put front) list) ≡ winning_ways (sets ++ front) winning list
unfolding winning_ways
winning_ways-put sets front winning [] = refl
winning_ways-put sets front winning (way ∷ list) =
    both _ _ _ _ (ap (λ all. map (λ win. record { sets = all; pair = way.pair; win = win }) (win_places all way.pair winning)) (sym (append_assoc sets front way.sets)))
    (winning_ways-put sets front winning list)
  where
    both : (a b c d : List WinningWay) → a ≡ c → b ≡ d → a ++ b ≡ c ++ d
    both a b c d e f = cc

-- At the end.
pub end-none : (sets : List Set) (winning left place : ℕ) (pair : Option ℕ) → pair ≡ None → place ≡ length (winning_ways sets winning (end_of left pair)) + place
unfolding winning_ways
end-none sets winning left place pair none = rw none (omega arith)

pub end-left : (sets : List Set) (winning left place pair : ℕ) (made : Option ℕ) → made ≡ Some pair → 0 < left →
    place ≡ length (winning_ways sets winning (end_of left made)) + place
unfolding winning_ways
end-left sets winning left place pair made is more = rw is (rw (ne_eqb left 0 (λ e. omega (arith, e, more))) (omega arith))

pub end-some : (sets : List Set) (winning pair left : ℕ) (made : Option ℕ) → made ≡ Some pair → left ≤ 0 →
    winning_ways sets winning (end_of left made) ≡ map (λ win. record { sets = sets; pair = pair; win = win }) (win_places sets pair winning)
unfolding winning_ways
end-some sets winning pair left made is none =
    let zero_left : left ≡ 0 = omega arith in
    ap (λ o. flat_map (winning_ways_of sets winning) (end_of left o)) is
    ∙ ap (λ n. flat_map (winning_ways_of sets winning) (end_of n (Some pair))) zero_left
    ∙ append-nil (winning_ways_of sets winning (record { sets = []; pair = pair }))
    ∙ ap (λ all. map (λ win. record { sets = all; pair = pair; win = win }) (win_places all pair winning)) (append-nil sets)

pub end-ok : (sets slice : List Set) (winning pair left win place : ℕ) (made : Option ℕ) → made ≡ Some pair → left ≤ 0 → slice ≡ sets →
    slice_get (win_places slice pair winning) place ≡ Some win →
    slice_get (winning_ways sets winning (end_of left made)) place ≡ Some (record { sets = sets; pair = pair; win = win })
end-ok sets slice winning pair left win place made is none same found =
    ap (λ list. slice_get list place) (end-some sets winning pair left made is none)
    ∙ slice_get-mapped (λ win. record { sets = sets; pair = pair; win = win }) (win_places sets pair winning) place win
    (ap (λ all. slice_get (win_places all pair winning) place) (sym same) ∙ found)

pub end-past : (sets slice : List Set) (winning pair left rest place : ℕ) (made : Option ℕ) → made ≡ Some pair → left ≤ 0 → slice ≡ sets →
    place ≡ length (win_places slice pair winning) + rest → place ≡ length (winning_ways sets winning (end_of left made)) + rest
end-past sets slice winning pair left rest place made is none same past =
    past
    ∙ ap (λ all. length (win_places all pair winning) + rest) same
    ∙ ap (λ n. n + rest) (sym (length-map (win_places sets pair winning) (λ win. record { sets = sets; pair = pair; win = win })))
    ∙ ap (λ list. length list + rest) (sym (end-some sets winning pair left made is none))

-- A branch.
pub begin-off : (next : ℕ → ℕ → Option ℕ → List Way) (sets : List Set) (winning kind runs triplets left place : ℕ) (pair : Option ℕ) →
    ((eqb runs 0 || begins_run kind) && leb (runs + triplets) left) ≡ false →
    place ≡ length (winning_ways sets winning (begin next kind runs triplets left pair)) + place
unfolding winning_ways
begin-off next sets winning kind runs triplets left place pair off = rw off (omega arith)

pub begin-on : (next : ℕ → ℕ → Option ℕ → List Way) (sets : List Set) (winning kind runs triplets left : ℕ) (pair : Option ℕ) →
    ((eqb runs 0 || begins_run kind) && leb (runs + triplets) left) ≡ true →
    winning_ways sets winning (begin next kind runs triplets left pair) ≡ winning_ways (sets ++ sets_at kind runs triplets) winning (next runs (left - (runs + triplets)) pair)
begin-on next sets winning kind runs triplets left pair on =
    ap (λ b. winning_ways sets winning (cond b (map (put (sets_at kind runs triplets)) (next runs (left - (runs + triplets)) pair)) [])) on
    ∙ winning_ways-put sets (sets_at kind runs triplets) winning (next runs (left - (runs + triplets)) pair)

-- The branches of a spot.
pub branch-off : (others : List ℕ) (spot : Spot) (sets : List Set) (winning runs triplets place : ℕ) (pair : Option ℕ) (can : Bool) →
    can ≡ ((eqb runs 0 || begins_run spot.kind) && leb (runs + triplets) spot.left) → can ≡ false →
    place ≡ length (winning_ways sets winning (branch_ways others spot runs triplets pair)) + place
branch-off others spot sets winning runs triplets place pair can is off =
    begin-off (λ runs left pair. ways others (spot.kind + 1) spot.second runs left pair) sets winning spot.kind runs triplets spot.left place pair (sym is ∙ off)

pub branch-on : (others : List ℕ) (spot : Spot) (sets made : List Set) (winning runs triplets place : ℕ) (pair : Option ℕ) (can : Bool) (result : Result WinningWay ℕ) →
    can ≡ ((eqb runs 0 || begins_run spot.kind) && leb (runs + triplets) spot.left) → can ≡ true → made ≡ sets ++ sets_at spot.kind runs triplets →
    Picks (winning_ways made winning (ways others (spot.kind + 1) spot.second runs (spot.left - (runs + triplets)) pair)) place result →
    Picks (winning_ways sets winning (branch_ways others spot runs triplets pair)) place result
branch-on others spot sets made winning runs triplets place pair can result is on same picks =
    let list = begin-on (λ runs left pair. ways others (spot.kind + 1) spot.second runs left pair) sets winning spot.kind runs triplets spot.left pair (sym is ∙ on) in
    let as_made = ap (λ all. winning_ways all winning (ways others (spot.kind + 1) spot.second runs (spot.left - (runs + triplets)) pair)) same in
    subst (λ items. Picks items place result) (as_made ∙ sym list) picks

pub none-at : (sets : List Set) (kind runs triplets : ℕ) → runs + triplets ≡ 0 → sets ≡ sets ++ sets_at kind runs triplets
none-at sets kind runs triplets none =
    let no_runs : runs ≡ 0 = omega arith in
    let no_triplets : triplets ≡ 0 = omega arith in
    sym (ap (λ n. sets ++ sets_at kind n triplets) no_runs ∙ ap (λ n. sets ++ sets_at kind 0 n) no_triplets ∙ append-nil sets)

pub triplet-off : (others : List ℕ) (spot : Spot) (sets : List Set) (winning free place : ℕ) → free < 3 →
    place ≡ length (winning_ways sets winning (triplet_ways others spot free)) + place
unfolding winning_ways
triplet-off others spot sets winning free place few = rw (lt-leb 3 free few) (omega arith)

pub triplet-on : (others : List ℕ) (spot : Spot) (sets : List Set) (winning free place : ℕ) (result : Result WinningWay ℕ) → 3 ≤ free →
    Picks (winning_ways sets winning (branch_ways others spot (free - 3) 1 spot.pair)) place result →
    Picks (winning_ways sets winning (triplet_ways others spot free)) place result
triplet-on others spot sets winning free place result enough picks =
    subst (λ b. Picks (winning_ways sets winning (cond b (branch_ways others spot (free - 3) 1 spot.pair) [])) place result) (sym (le-leb 3 free enough)) picks

pub pair-few : (others : List ℕ) (spot : Spot) (sets : List Set) (winning free place : ℕ) → free < 2 →
    place ≡ length (winning_ways sets winning (pair_ways others spot free)) + place
unfolding winning_ways
pair-few others spot sets winning free place few = rw (lt-leb 2 free few) (omega arith)

pub pair-made : (others : List ℕ) (spot : Spot) (sets : List Set) (winning free place : ℕ) → is_some spot.pair ≡ true →
    place ≡ length (winning_ways sets winning (pair_ways others spot free)) + place
unfolding winning_ways
pair-made others spot sets winning free place made =
    rw (and_right (leb 2 free) (is_none spot.pair) (none_of spot.pair made)) (omega arith)
  where
    none_of : (pair : Option ℕ) → is_some pair ≡ true → is_none pair ≡ false
    none_of None h = absurd (false≢true h)
    none_of (Some pair) h = refl

pub pair-on : (others : List ℕ) (spot : Spot) (sets : List Set) (winning free place : ℕ) (made : Option ℕ) (result : Result WinningWay ℕ) → 2 ≤ free →
    is_some spot.pair ≡ false → made ≡ Some spot.kind →
    Picks (winning_ways sets winning (branch_ways others spot (free - 2) 0 made)) place result →
    Picks (winning_ways sets winning (pair_ways others spot free)) place result
pair-on others spot sets winning free place made result enough unmade is picks =
    let on : (leb 2 free && is_none spot.pair) ≡ true = and_from (leb 2 free) (is_none spot.pair) (le-leb 2 free enough) (none_of spot.pair unmade) in
    subst (λ b. Picks (winning_ways sets winning (cond b (branch_ways others spot (free - 2) 0 (Some spot.kind)) [])) place result) (sym on)
    (subst (λ o. Picks (winning_ways sets winning (branch_ways others spot (free - 2) 0 o)) place result) is picks)
  where
    none_of : (pair : Option ℕ) → is_some pair ≡ false → is_none pair ≡ true
    none_of None h = refl
    none_of (Some pair) h = absurd (false≢true (sym h))

-- The three parts at a kind.
parts_of_cons : (count : ℕ) (others : List ℕ) (spot : Spot) (sets : List Set) (winning : ℕ) → spot.first + spot.second ≤ count →
    winning_ways sets winning (ways_from (count ∷ others) spot)
    ≡ winning_ways sets winning (branch_ways others spot (count - (spot.first + spot.second)) 0 spot.pair)
    ++ winning_ways sets winning (triplet_ways others spot (count - (spot.first + spot.second)))
    ++ winning_ways sets winning (pair_ways others spot (count - (spot.first + spot.second)))
unfolding ways
parts_of_cons count others spot sets winning room =
    let free = count - (spot.first + spot.second) in
    ap (λ b. winning_ways sets winning (cond b (at_kind (λ runs left pair. ways others (spot.kind + 1) spot.second runs left pair) spot.kind free spot.left spot.pair) []))
    (le-leb (spot.first + spot.second) count room)
    ∙ winning_ways-append sets winning (branch_ways others spot free 0 spot.pair ++ triplet_ways others spot free) (pair_ways others spot free)
    ∙ ap (λ list. list ++ winning_ways sets winning (pair_ways others spot free)) (winning_ways-append sets winning (branch_ways others spot free 0 spot.pair) (triplet_ways others spot free))

pub parts_of : (numbers : List ℕ) (count : ℕ) (others : List ℕ) (spot : Spot) (sets : List Set) (winning : ℕ) → numbers ≡ count ∷ others → spot.first + spot.second ≤ count →
    winning_ways sets winning (ways_from numbers spot)
    ≡ winning_ways sets winning (branch_ways others spot (count - (spot.first + spot.second)) 0 spot.pair)
    ++ winning_ways sets winning (triplet_ways others spot (count - (spot.first + spot.second)))
    ++ winning_ways sets winning (pair_ways others spot (count - (spot.first + spot.second)))
parts_of numbers count others spot sets winning is room = ap (λ ns. winning_ways sets winning (ways_from ns spot)) is ∙ parts_of_cons count others spot sets winning room

pub kind-few : (numbers : List ℕ) (count : ℕ) (others : List ℕ) (spot : Spot) (sets : List Set) (winning place : ℕ) → numbers ≡ count ∷ others → count < spot.first + spot.second →
    place ≡ length (winning_ways sets winning (ways_from numbers spot)) + place
unfolding ways winning_ways
kind-few numbers count others spot sets winning place is few = rw is (rw (lt-leb (spot.first + spot.second) count few) (omega arith))

pub kind-first : (numbers : List ℕ) (count : ℕ) (others : List ℕ) (spot : Spot) (sets : List Set) (winning place : ℕ) (winning_way : WinningWay) → numbers ≡ count ∷ others
    → spot.first + spot.second ≤ count →
    slice_get (winning_ways sets winning (branch_ways others spot (count - (spot.first + spot.second)) 0 spot.pair)) place ≡ Some winning_way →
    slice_get (winning_ways sets winning (ways_from numbers spot)) place ≡ Some winning_way
kind-first numbers count others spot sets winning place winning_way is room found =
    ap (λ list. slice_get list place) (parts_of numbers count others spot sets winning is room)
    ∙ slice_get-left _ _ place winning_way (slice_get-left _ _ place winning_way found)

pub kind-second : (numbers : List ℕ) (count : ℕ) (others : List ℕ) (spot : Spot) (sets : List Set) (winning place behind : ℕ) (winning_way : WinningWay) → numbers ≡ count ∷ others
    → spot.first + spot.second ≤ count →
    place ≡ length (winning_ways sets winning (branch_ways others spot (count - (spot.first + spot.second)) 0 spot.pair)) + behind →
    slice_get (winning_ways sets winning (triplet_ways others spot (count - (spot.first + spot.second)))) behind ≡ Some winning_way →
    slice_get (winning_ways sets winning (ways_from numbers spot)) place ≡ Some winning_way
kind-second numbers count others spot sets winning place behind winning_way is room past found =
    ap (λ list. slice_get list place) (parts_of numbers count others spot sets winning is room)
    ∙ slice_get-left _ _ place winning_way
    (picks-right (winning_ways sets winning (branch_ways others spot (count - (spot.first + spot.second)) 0 spot.pair))
    (winning_ways sets winning (triplet_ways others spot (count - (spot.first + spot.second)))) place behind (Ok winning_way) past found)

pub kind-third : (numbers : List ℕ) (count : ℕ) (others : List ℕ) (spot : Spot) (sets : List Set) (winning place behind last : ℕ) (result : Result WinningWay ℕ)
    → numbers ≡ count ∷ others → spot.first + spot.second ≤ count →
    place ≡ length (winning_ways sets winning (branch_ways others spot (count - (spot.first + spot.second)) 0 spot.pair)) + behind →
    behind ≡ length (winning_ways sets winning (triplet_ways others spot (count - (spot.first + spot.second)))) + last →
    Picks (winning_ways sets winning (pair_ways others spot (count - (spot.first + spot.second)))) last result →
    Picks (winning_ways sets winning (ways_from numbers spot)) place result
kind-third numbers count others spot sets winning place behind last result is room past further picks =
    let one = winning_ways sets winning (branch_ways others spot (count - (spot.first + spot.second)) 0 spot.pair) in
    let two = winning_ways sets winning (triplet_ways others spot (count - (spot.first + spot.second))) in
    let three = winning_ways sets winning (pair_ways others spot (count - (spot.first + spot.second))) in
    subst (λ items. Picks items place result) (sym (parts_of numbers count others spot sets winning is room))
    (picks-right (one ++ two) three place last result (picks-right one two place behind (Err last) past further) picks)

-- With fewer than two free tiles runs alone begin.
pub kind-alone : (numbers : List ℕ) (count : ℕ) (others : List ℕ) (spot : Spot) (sets : List Set) (winning place : ℕ) (result : Result WinningWay ℕ) → numbers ≡ count ∷ others
    → spot.first + spot.second ≤ count →
    count - (spot.first + spot.second) < 2 →
    Picks (winning_ways sets winning (branch_ways others spot (count - (spot.first + spot.second)) 0 spot.pair)) place result →
    Picks (winning_ways sets winning (ways_from numbers spot)) place result
kind-alone numbers count others spot sets winning place (Ok winning_way) is room few picks =
    kind-first numbers count others spot sets winning place winning_way is room picks
kind-alone numbers count others spot sets winning place (Err rest) is room few picks =
    kind-third numbers count others spot sets winning place rest rest (Err rest) is room picks
    (triplet-off others spot sets winning (count - (spot.first + spot.second)) rest (omega (arith, few)))
    (pair-few others spot sets winning (count - (spot.first + spot.second)) rest few)
