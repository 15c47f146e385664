-- What the ways are: each is sets in order and a pair with the counts, and each such sets and pair are one.
use Rattle.std.proofs.Common.{ℕ, ◌≡◌, ◌<◌, ◌≤◌, ◌+◌, ◌-◌, ◌*◌, ◌++◌, ◌∷◌, [], Bool, true, false, cond, List, length, get_or, refl, sym, ◌∙◌}
use Rattle.std.proofs.Common.{ap, arith, add-zero, eqb, leb, map, replicate, zero, suc, Option, Some, None, ◌⊎◌, inl, inr, ◌&&◌, ◌||◌}
use Rattle.std.specs.List.{list_all, Contains, All}
use Rattle.std.specs.Option.{is_none}
use Rattle.std.proofs.lemmas.Bool.{and_parts, leb-true, eq-eqb, ne_eqb}
use Rattle.std.proofs.lemmas.Bool.{le-leb, or_cases, eqb-true, and_from, or_left, or_right}
use Rattle.std.proofs.lemmas.List.{length-append, length-replicate, length-map, get_or-map}
use Rattle.std.proofs.lemmas.List.Elements.{All-nil, All-cons, All-append, All-map, All-weaker}
use Rattle.mj_readings.proofs.Order.{list_all-replicate, list_all-join, list_all-later, in_order-sets_at, Front}
use Rattle.mj_readings.specs.Sets.{is_concealed, in_order, begins_run}
use Rattle.mj_readings.specs.Inner.Ways.{Way, run_at, triplet_at, sets_at, put, begin, at_kind, ways}
use Rattle.mj_readings.proofs.Tiles.{number_at, run_tiles, triplet_tiles, sets_at_place, number_at-append, number_at-later}

-- The tiles that runs begun two kinds and one kind before have j kinds on.
abbrev pub carry : ℕ → ℕ → ℕ → ℕ
carry first second zero = first + second
carry first second (suc zero) = second
carry first second (suc (suc j)) = 0

pub carry_on : (first second runs triplets j : ℕ) →
    runs * run_tiles (suc j) + triplets * triplet_tiles (suc j) + carry first second (suc j) ≡ carry second runs j
carry_on first second runs triplets zero = grind arith
carry_on first second runs triplets (suc zero) = grind arith
carry_on first second runs triplets (suc (suc j)) = grind arith

-- The tiles of the pair, where it is still to be made.
abbrev pub pair_tiles : Option ℕ → ℕ → ℕ → ℕ
pair_tiles None pair kind = cond (eqb pair kind) 2 0
pair_tiles (Some made) pair kind = 0

abbrev pub PairFits : Option ℕ → ℕ → ℕ → Type 0
PairFits None pair kind = (kind ≤ pair) × (pair < 34)
PairFits (Some made) pair kind = made ≡ pair

-- Sets in order and a pair that have the counts from a kind on.
pub record IsWay (counts : List ℕ) (kind first second left : ℕ) (made : Option ℕ) (way : Way) : Type 0 where
  pub so_many : length way.sets ≡ left
  pub concealed : list_all is_concealed way.sets ≡ true
  pub later : list_all (λ set. leb kind set.low) way.sets ≡ true
  pub order : in_order way.sets ≡ true
  pub pair_fits : PairFits made way.pair kind
  pub tiles : (j : ℕ) → j < length counts →
      get_or counts j 0 ≡ number_at (kind + j) way.sets + carry first second j + pair_tiles made way.pair (kind + j)

-- One kind more before a way: the sets that begin there.
pub way_before : (count : ℕ) (others : List ℕ) (kind first second left runs triplets : ℕ) (made after : Option ℕ) (way : Way) →
    runs + triplets ≤ left → (runs ≡ 0) ⊎ (begins_run kind ≡ true) → kind < 34 →
    count ≡ runs + 3 * triplets + (first + second) + pair_tiles made way.pair (kind + 0) →
    PairFits made way.pair kind →
    ((j : ℕ) → pair_tiles made way.pair (kind + suc j) ≡ pair_tiles after way.pair (kind + 1 + j)) →
    IsWay others (kind + 1) second runs (left - (runs + triplets)) after way →
    IsWay (count ∷ others) kind first second left made (put (sets_at kind runs triplets) way)
way_before count others kind first second left runs triplets made after way few may small here fits far is = record {
  so_many =
      let lengths : length (sets_at kind runs triplets ++ way.sets) ≡ runs + triplets + length way.sets =
      length-append (sets_at kind runs triplets) way.sets
      ∙ ap (λ n. n + length way.sets) (length-append (replicate runs (run_at kind)) (replicate triplets (triplet_at kind))
      ∙ both _ _ _ _ (length-replicate runs (run_at kind)) (length-replicate triplets (triplet_at kind))) in
      let rest : length way.sets ≡ left - (runs + triplets) = is.so_many in
      omega arith;
  concealed = list_all-join is_concealed (sets_at kind runs triplets) way.sets
      (list_all-join is_concealed (replicate runs (run_at kind)) (replicate triplets (triplet_at kind))
      (list_all-replicate is_concealed runs (run_at kind) may)
      (list_all-replicate is_concealed triplets (triplet_at kind) (inr (le-leb (suc kind) 34 small))))
      is.concealed;
  later = list_all-join (λ set. leb kind set.low) (sets_at kind runs triplets) way.sets
      (list_all-join (λ set. leb kind set.low) (replicate runs (run_at kind)) (replicate triplets (triplet_at kind))
      (list_all-replicate (λ set. leb kind set.low) runs (run_at kind) (inr (le-leb kind kind (omega arith))))
      (list_all-replicate (λ set. leb kind set.low) triplets (triplet_at kind) (inr (le-leb kind kind (omega arith)))))
      (list_all-later (λ set. leb (kind + 1) set.low) (λ set. leb kind set.low)
      (λ set h. le-leb kind set.low (omega (arith, leb-true (kind + 1) set.low h))) way.sets is.later);
  order = in_order-sets_at kind runs triplets way.sets is.later is.order;
  pair_fits = fits;
  tiles = tiles_at count others kind first second left runs triplets made after way here far is;
}
  where
    both : (a b c d : ℕ) → a ≡ c → b ≡ d → a + b ≡ c + d
    both a b c d e f = cc

    first_part : (c t f n r s k p : ℕ) → c ≡ r + 3 * s + k + p → t ≡ f + n → f ≡ r * 1 + s * 3 → n ≡ 0 → c ≡ t + k + p
    first_part c t f n r s k p here whole front later = omega arith

    next_part : (c t f n m k l p q : ℕ) → c ≡ m + l + q → t ≡ f + n → n ≡ m → f + k ≡ l → p ≡ q → c ≡ t + k + p
    next_part c t f n m k l p q rest whole same on far = omega arith

    tiles_at : (count : ℕ) (others : List ℕ) (kind first second left runs triplets : ℕ) (made after : Option ℕ) (way : Way) →
        count ≡ runs + 3 * triplets + (first + second) + pair_tiles made way.pair (kind + 0) →
        ((j : ℕ) → pair_tiles made way.pair (kind + suc j) ≡ pair_tiles after way.pair (kind + 1 + j)) →
        IsWay others (kind + 1) second runs (left - (runs + triplets)) after way →
        (j : ℕ) → j < length (count ∷ others) →
        get_or (count ∷ others) j 0 ≡ number_at (kind + j) (sets_at kind runs triplets ++ way.sets) + carry first second j + pair_tiles made way.pair (kind + j)
    tiles_at count others kind first second left runs triplets made after way here far is zero inside =
        let whole = number_at-append (kind + 0) (sets_at kind runs triplets) way.sets in
        let front = sets_at_place kind runs triplets zero in
        let later = ap (λ k. number_at k way.sets) (add-zero kind) ∙ number_at-later kind way.sets is.later in
        first_part _ _ _ _ _ _ _ _ here whole front later
    tiles_at count others kind first second left runs triplets made after way here far is (suc j) inside =
        let whole = number_at-append (kind + suc j) (sets_at kind runs triplets) way.sets in
        let front = sets_at_place kind runs triplets (suc j) in
        let on = ap (λ n. n + carry first second (suc j)) front ∙ carry_on first second runs triplets j in
        let same : kind + suc j ≡ kind + 1 + j = omega arith in
        let rest = is.tiles j (omega (arith, inside)) in
        next_part _ _ _ _ _ _ _ _ _ rest whole (ap (λ k. number_at k way.sets) same) on (far j)

-- Before a way whose pair is made or comes later, a kind with runs and triplets alone.
sound_plain : (count : ℕ) (others : List ℕ) (kind first second left runs triplets : ℕ) (made : Option ℕ) →
    runs + triplets ≤ left → (runs ≡ 0) ⊎ (begins_run kind ≡ true) → kind < 34 → count ≡ runs + 3 * triplets + (first + second) →
    (way : Way) → IsWay others (kind + 1) second runs (left - (runs + triplets)) made way →
    IsWay (count ∷ others) kind first second left made (put (sets_at kind runs triplets) way)
sound_plain count others kind first second left runs triplets None few may small here way is =
    let above : kind + 1 ≤ way.pair = is.pair_fits.0 in
    let none : eqb way.pair (kind + 0) ≡ false = ne_eqb way.pair (kind + 0) (λ e. omega (arith, e)) in
    way_before count others kind first second left runs triplets None None way few may small
    (here ∙ sym (add-zero (runs + 3 * triplets + (first + second))) ∙ ap (λ b. runs + 3 * triplets + (first + second) + cond b 2 0) (sym none))
    (omega arith, is.pair_fits.1)
    (λ j. let same : kind + suc j ≡ kind + 1 + j = omega arith in ap (λ k. cond (eqb way.pair k) 2 0) same) is
sound_plain count others kind first second left runs triplets (Some pair) few may small here way is =
    way_before count others kind first second left runs triplets (Some pair) (Some pair) way few may small
    (here ∙ sym (add-zero (runs + 3 * triplets + (first + second)))) is.pair_fits (λ j. refl) is

-- The pair at this kind.
sound_pair : (count : ℕ) (others : List ℕ) (kind first second left runs : ℕ) →
    runs + 0 ≤ left → (runs ≡ 0) ⊎ (begins_run kind ≡ true) → kind < 34 → count ≡ runs + 2 + (first + second) →
    (way : Way) → IsWay others (kind + 1) second runs (left - (runs + 0)) (Some kind) way →
    IsWay (count ∷ others) kind first second left None (put (sets_at kind runs 0) way)
sound_pair count others kind first second left runs few may small here way is =
    let same : way.pair ≡ kind + 0 = sym is.pair_fits ∙ sym (add-zero kind) in
    let two : ◌≡◌ {A = ℕ} (cond (eqb way.pair (kind + 0)) 2 0) 2 = ap (λ b. cond b 2 0) (eq-eqb way.pair (kind + 0) same) in
    way_before count others kind first second left runs 0 None (Some kind) way few may small
    (omega (arith, here, two))
    (omega (arith, is.pair_fits), omega (arith, is.pair_fits))
    (λ j. ap (λ b. cond b 2 0) (ne_eqb way.pair (kind + suc j) (λ e. omega (arith, e, is.pair_fits)))) is

-- The branches of a kind.
may_cases : (kind runs : ℕ) → (eqb runs 0 || begins_run kind) ≡ true → (runs ≡ 0) ⊎ (begins_run kind ≡ true)
may_cases kind runs h = split (or_cases (eqb runs 0) (begins_run kind) h)
  where
    split : (eqb runs 0 ≡ true) ⊎ (begins_run kind ≡ true) → (runs ≡ 0) ⊎ (begins_run kind ≡ true)
    split (inl none) = inl (eqb-true runs 0 none)
    split (inr may) = inr may

-- What holds of each member of a branch.
pub begin_all : (P : Way → Type 0) (Q : Way → Type 0) (next : ℕ → ℕ → Option ℕ → List Way) (kind runs triplets left : ℕ) (pair : Option ℕ) →
    All Q (next runs (left - (runs + triplets)) pair) →
    (runs + triplets ≤ left → (runs ≡ 0) ⊎ (begins_run kind ≡ true) → (way : Way) → Q way → P (put (sets_at kind runs triplets) way)) →
    All P (begin next kind runs triplets left pair)
begin_all P Q next kind runs triplets left pair each step =
    branch ((eqb runs 0 || begins_run kind) && leb (runs + triplets) left) refl
  where
    branch : (b : Bool) → ((eqb runs 0 || begins_run kind) && leb (runs + triplets) left) ≡ b →
        All P (cond b (map (put (sets_at kind runs triplets)) (next runs (left - (runs + triplets)) pair)) [])
    branch true h =
        let parts = and_parts (eqb runs 0 || begins_run kind) (leb (runs + triplets) left) h in
        All-map P (put (sets_at kind runs triplets)) (next runs (left - (runs + triplets)) pair)
        (All-weaker Q (λ way. P (put (sets_at kind runs triplets) way))
        (step (leb-true (runs + triplets) left parts.1) (may_cases kind runs parts.0)) (next runs (left - (runs + triplets)) pair) each)
    branch false h = All-nil P

-- Each of the ways at a kind is one, where each of the next is.
at_kind_all : (next : ℕ → ℕ → Option ℕ → List Way) (count : ℕ) (others : List ℕ) (kind first second left : ℕ) (made : Option ℕ) →
    ((runs left : ℕ) (pair : Option ℕ) → All (IsWay others (kind + 1) second runs left pair) (next runs left pair)) →
    kind < 34 → first + second ≤ count →
    All (IsWay (count ∷ others) kind first second left made) (at_kind next kind (count - (first + second)) left made)
at_kind_all next count others kind first second left made each small under =
    All-append (IsWay (count ∷ others) kind first second left made) _ _
    (All-append (IsWay (count ∷ others) kind first second left made) _ _
    (begin_all (IsWay (count ∷ others) kind first second left made) (IsWay others (kind + 1) second free (left - (free + 0)) made) next kind free 0 left made
    (each free (left - (free + 0)) made)
    (λ few may way is. sound_plain count others kind first second left free 0 made few may small (omega (arith, under)) way is))
    (with_triplet (leb 3 free) refl))
    (with_pair made)
  where
    free : ℕ
    free = count - (first + second)

    with_triplet : (b : Bool) → leb 3 free ≡ b →
        All (IsWay (count ∷ others) kind first second left made) (cond b (begin next kind (free - 3) 1 left made) [])
    with_triplet true h =
        let enough : 3 ≤ free = leb-true 3 free h in
        begin_all (IsWay (count ∷ others) kind first second left made) (IsWay others (kind + 1) second (free - 3) (left - (free - 3 + 1)) made) next kind (free - 3) 1 left made
        (each (free - 3) (left - (free - 3 + 1)) made)
        (λ few may way is. sound_plain count others kind first second left (free - 3) 1 made few may small (omega (arith, under, enough)) way is)
    with_triplet false h = All-nil (IsWay (count ∷ others) kind first second left made)

    pair_here : (b : Bool) → leb 2 free ≡ b →
        All (IsWay (count ∷ others) kind first second left None) (cond (b && true) (begin next kind (free - 2) 0 left (Some kind)) [])
    pair_here true h =
        let enough : 2 ≤ free = leb-true 2 free h in
        begin_all (IsWay (count ∷ others) kind first second left None) (IsWay others (kind + 1) second (free - 2) (left - (free - 2 + 0)) (Some kind)) next kind (free - 2) 0 left (Some kind)
        (each (free - 2) (left - (free - 2 + 0)) (Some kind))
        (λ few may way is. sound_pair count others kind first second left (free - 2) few may small (omega (arith, under, enough)) way is)
    pair_here false h = All-nil (IsWay (count ∷ others) kind first second left None)

    no_pair : (b : Bool) → (pair : ℕ) → All (IsWay (count ∷ others) kind first second left (Some pair)) (cond (b && false) (begin next kind (free - 2) 0 left (Some kind)) [])
    no_pair true pair = All-nil (IsWay (count ∷ others) kind first second left (Some pair))
    no_pair false pair = All-nil (IsWay (count ∷ others) kind first second left (Some pair))

    with_pair : (made : Option ℕ) →
        All (IsWay (count ∷ others) kind first second left made) (cond (leb 2 free && is_none made) (begin next kind (free - 2) 0 left (Some kind)) [])
    with_pair None = pair_here (leb 2 free) refl
    with_pair (Some pair) = no_pair (leb 2 free) pair

kind_all : (next : ℕ → ℕ → Option ℕ → List Way) (count : ℕ) (others : List ℕ) (kind first second left : ℕ) (made : Option ℕ) →
    ((runs left : ℕ) (pair : Option ℕ) → All (IsWay others (kind + 1) second runs left pair) (next runs left pair)) →
    kind < 34 → (b : Bool) → leb (first + second) count ≡ b →
    All (IsWay (count ∷ others) kind first second left made) (cond b (at_kind next kind (count - (first + second)) left made) [])
kind_all next count others kind first second left made each small true h =
    at_kind_all next count others kind first second left made each small (leb-true (first + second) count h)
kind_all next count others kind first second left made each small false h = All-nil (IsWay (count ∷ others) kind first second left made)

end_all : (kind first second left pair : ℕ) (b : Bool) → eqb left 0 ≡ b →
    All (IsWay [] kind first second left (Some pair)) (cond b (record { sets = []; pair = pair } ∷ []) [])
unfolding in_order
end_all kind first second left pair true h = All-cons (IsWay [] kind first second left (Some pair)) (record { sets = []; pair = pair }) []
    (record { so_many = sym (eqb-true left 0 h); concealed = refl; later = refl; order = refl; pair_fits = refl; tiles = λ j inside. absurd (omega (arith, inside)) })
    (All-nil (IsWay [] kind first second left (Some pair)))
end_all kind first second left pair false h = All-nil (IsWay [] kind first second left (Some pair))

-- Each of the ways is one.
pub ways_sound : (counts : List ℕ) (kind first second left : ℕ) (made : Option ℕ) → kind + length counts ≡ 34 →
    All (IsWay counts kind first second left made) (ways counts kind first second left made)
unfolding ways
ways_sound [] kind first second left None size = All-nil (IsWay [] kind first second left None)
ways_sound [] kind first second left (Some pair) size = end_all kind first second left pair (eqb left 0) refl
ways_sound (count ∷ others) kind first second left made size =
    kind_all (λ runs left pair. ways others (kind + 1) second runs left pair) count others kind first second left made
    (λ runs left pair. ways_sound others (kind + 1) second runs left pair (omega (arith, size))) (omega (arith, size)) (leb (first + second) count) refl

-- The other way round: what stands at a kind, and what is left for the later ones.
pub way_here : (count : ℕ) (others : List ℕ) (kind first second left : ℕ) (made : Option ℕ) (way : Way) →
    IsWay (count ∷ others) kind first second left made way → (front : Front kind way.sets) →
    count ≡ front.runs + 3 * front.triplets + (first + second) + pair_tiles made way.pair (kind + 0)
way_here count others kind first second left made way is front =
    here_of _ _ _ _ _ _ _ _ (is.tiles 0 (omega arith))
    (ap (number_at (kind + 0)) front.is ∙ number_at-append (kind + 0) (sets_at kind front.runs front.triplets) front.rest)
    (sets_at_place kind front.runs front.triplets 0)
    (ap (λ k. number_at k front.rest) (add-zero kind) ∙ number_at-later kind front.rest front.later)
  where
    here_of : (c t f n r s k p : ℕ) → c ≡ t + k + p → t ≡ f + n → f ≡ r * 1 + s * 3 → n ≡ 0 → c ≡ r + 3 * s + k + p
    here_of c t f n r s k p here whole front later = omega arith

pub way_after : (count : ℕ) (others : List ℕ) (kind first second left : ℕ) (made after : Option ℕ) (way : Way) →
    IsWay (count ∷ others) kind first second left made way → (front : Front kind way.sets) → PairFits after way.pair (kind + 1) →
    ((j : ℕ) → pair_tiles made way.pair (kind + suc j) ≡ pair_tiles after way.pair (kind + 1 + j)) →
    IsWay others (kind + 1) second front.runs (left - (front.runs + front.triplets)) after (record { sets = front.rest; pair = way.pair })
way_after count others kind first second left made after way is front fits far = record {
  so_many =
      let lengths : length way.sets ≡ front.runs + front.triplets + length front.rest =
      ap length front.is ∙ length-append (sets_at kind front.runs front.triplets) front.rest
      ∙ ap (λ n. n + length front.rest) (length-append (replicate front.runs (run_at kind)) (replicate front.triplets (triplet_at kind))
      ∙ both _ _ _ _ (length-replicate front.runs (run_at kind)) (length-replicate front.triplets (triplet_at kind))) in
      let all : length way.sets ≡ left = is.so_many in
      omega arith;
  concealed = front.concealed;
  later = front.later;
  order = front.order;
  pair_fits = fits;
  tiles = λ j inside.
      let same : kind + suc j ≡ kind + 1 + j = omega arith in
      next_of _ _ _ _ _ _ _ _ _ (is.tiles (suc j) (omega (arith, inside)))
      (ap (number_at (kind + suc j)) front.is ∙ number_at-append (kind + suc j) (sets_at kind front.runs front.triplets) front.rest)
      (ap (λ k. number_at k front.rest) same)
      (ap (λ n. n + carry first second (suc j)) (sets_at_place kind front.runs front.triplets (suc j)) ∙ carry_on first second front.runs front.triplets j)
      (far j);
}
  where
    both : (a b c d : ℕ) → a ≡ c → b ≡ d → a + b ≡ c + d
    both a b c d e f = cc

    next_of : (c t f n m k l p q : ℕ) → c ≡ t + k + p → t ≡ f + n → n ≡ m → f + k ≡ l → p ≡ q → c ≡ m + l + q
    next_of c t f n m k l p q rest whole same on far = omega arith

-- A member of a branch.
Contains-map : (f : Way → Way) (xs : List Way) (x : Way) → Contains xs x → Contains (map f xs) (f x)
Contains-map f xs x c =
    (c.0, rw length-map c.1, get_or-map f xs c.0 x (f x) c.1 ∙ ap f c.2)

pub begin_has : (next : ℕ → ℕ → Option ℕ → List Way) (kind runs triplets left : ℕ) (pair : Option ℕ) (way : Way) →
    runs + triplets ≤ left → (runs ≡ 0) ⊎ (begins_run kind ≡ true) → Contains (next runs (left - (runs + triplets)) pair) way →
    Contains (begin next kind runs triplets left pair) (put (sets_at kind runs triplets) way)
begin_has next kind runs triplets left pair way few may has =
    rw (and_from (eqb runs 0 || begins_run kind) (leb (runs + triplets) left) (may_of may) (le-leb (runs + triplets) left few))
    (Contains-map (put (sets_at kind runs triplets)) (next runs (left - (runs + triplets)) pair) way has)
  where
    may_of : (runs ≡ 0) ⊎ (begins_run kind ≡ true) → (eqb runs 0 || begins_run kind) ≡ true
    may_of (inl none) = or_left (eqb runs 0) (begins_run kind) (eq-eqb runs 0 none)
    may_of (inr may) = or_right (eqb runs 0) (begins_run kind) may
