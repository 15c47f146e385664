-- Sets in order: the sets that begin at one kind stand first.
use Rattle.std.proofs.Common.{ℕ, ◌≡◌, ◌<◌, ◌≤◌, ◌+◌, ◌*◌, ◌++◌, ◌∷◌, [], Bool, true, false, List, refl, sym, ◌∙◌, ap, arith, leb, replicate, zero, suc, ◌⊎◌, inl, inr, append_assoc}
use Rattle.std.specs.List.{list_all}
use Rattle.std.proofs.lemmas.Bool.{and_parts, and_from, leb-true, le-leb, false≢true, cases_lt}
use Rattle.std.proofs.lemmas.List.Folds.{list_all-append}
use Rattle.mj_readings.specs.declared.reading.Set.{Set}
use Rattle.mj_readings.specs.declared.reading.SetForm.{SetForm}
use Rattle.mj_readings.specs.declared.reading.SetForm.TheVariants.{Run, Triplet, Kan}
use Rattle.mj_readings.specs.Sets.{is_concealed, in_order, begins_run, place_of, place_of_form}
use Rattle.mj_readings.specs.Inner.Ways.{run_at, triplet_at, sets_at}

-- What holds of each of equal sets.
pub list_all-replicate : (p : Set → Bool) (n : ℕ) (set : Set) → (n ≡ 0) ⊎ (p set ≡ true) → list_all p (replicate n set) ≡ true
list_all-replicate p zero set either = refl
list_all-replicate p (suc n) set (inl never) = absurd (omega arith)
list_all-replicate p (suc n) set (inr passes) = and_from (p set) (list_all p (replicate n set)) passes (list_all-replicate p n set (inr passes))

pub list_all-join : (p : Set → Bool) (one other : List Set) → list_all p one ≡ true → list_all p other ≡ true → list_all p (one ++ other) ≡ true
list_all-join p one other f g = list_all-append p one other ∙ and_from (list_all p one) (list_all p other) f g

pub list_all-later : (p q : Set → Bool) → ((set : Set) → p set ≡ true → q set ≡ true) → (sets : List Set) → list_all p sets ≡ true → list_all q sets ≡ true
list_all-later p q weaker [] each = refl
list_all-later p q weaker (set ∷ others) each =
    let parts = and_parts (p set) (list_all p others) each in
    and_from (q set) (list_all q others) (weaker set parts.0) (list_all-later p q weaker others parts.1)

-- The place of a set is at least twice its lowest kind.
pub place_from_low : (set : Set) → 2 * set.low ≤ place_of set
place_from_low set = of_form set.form set.low
  where
    of_form : (form : SetForm) (low : ℕ) → 2 * low ≤ place_of_form form low
    of_form Run low = omega arith
    of_form Triplet low = omega arith
    of_form Kan low = omega arith

-- Equal sets before sets that stand at their place or later.
pub in_order-front : (n : ℕ) (set : Set) (sets : List Set) → list_all (λ other. leb (place_of set) (place_of other)) sets ≡ true →
    in_order sets ≡ true → in_order (replicate n set ++ sets) ≡ true
unfolding in_order
in_order-front zero set sets later order = order
in_order-front (suc n) set sets later order =
    and_from (list_all (λ other. leb (place_of set) (place_of other)) (replicate n set ++ sets)) (in_order (replicate n set ++ sets))
    (list_all-join (λ other. leb (place_of set) (place_of other)) (replicate n set) sets
    (list_all-replicate (λ other. leb (place_of set) (place_of other)) n set (inr (le-leb (place_of set) (place_of set) (omega arith))))
    later)
    (in_order-front n set sets later order)

-- The sets that begin at a kind, before sets of later kinds.
pub in_order-sets_at : (kind runs triplets : ℕ) (sets : List Set) → list_all (λ set. leb (kind + 1) set.low) sets ≡ true →
    in_order sets ≡ true → in_order (sets_at kind runs triplets ++ sets) ≡ true
in_order-sets_at kind runs triplets sets later order =
    rw append_assoc
    (in_order-front runs (run_at kind) (replicate triplets (triplet_at kind) ++ sets)
    (list_all-join (λ other. leb (2 * kind) (place_of other)) (replicate triplets (triplet_at kind)) sets
    (list_all-replicate (λ other. leb (2 * kind) (place_of other)) triplets (triplet_at kind) (inr (le-leb (2 * kind) (2 * kind + 1) (omega arith))))
    (list_all-later (λ set. leb (kind + 1) set.low) (λ other. leb (2 * kind) (place_of other))
    (λ set above. le-leb (2 * kind) (place_of set) (omega (arith, place_from_low set, leb-true (kind + 1) set.low above))) sets later))
    (in_order-front triplets (triplet_at kind) sets
    (list_all-later (λ set. leb (kind + 1) set.low) (λ other. leb (2 * kind + 1) (place_of other))
    (λ set above. le-leb (2 * kind + 1) (place_of set) (omega (arith, place_from_low set, leb-true (kind + 1) set.low above))) sets later)
    order))

-- The sets of a list in order: those that begin at a kind, and later ones.
pub record Front (kind : ℕ) (sets : List Set) : Type 0 where
  pub runs : ℕ
  pub triplets : ℕ
  pub rest : List Set
  pub is : sets ≡ sets_at kind runs triplets ++ rest
  pub concealed : list_all is_concealed rest ≡ true
  pub later : list_all (λ set. leb (kind + 1) set.low) rest ≡ true
  pub order : in_order rest ≡ true
  pub may_run : (runs ≡ 0) ⊎ (begins_run kind ≡ true)

-- A set of concealed tiles is a run or a triplet.
pub concealed_cases : (set : Set) → is_concealed set ≡ true → ((set ≡ run_at set.low) × (begins_run set.low ≡ true)) ⊎ (set ≡ triplet_at set.low)
concealed_cases set concealed =
    of_parts set.form set.low set.shown concealed
  where
    of_parts : (form : SetForm) (low : ℕ) (shown : Bool) → is_concealed (record { form = form; low = low; shown = shown }) ≡ true →
        ((◌≡◌ {A = Set} (record { form = form; low = low; shown = shown }) (run_at low)) × (begins_run low ≡ true))
        ⊎ (◌≡◌ {A = Set} (record { form = form; low = low; shown = shown }) (triplet_at low))
    of_parts Run low false h = inl (refl, h)
    of_parts Triplet low false h = inr refl
    of_parts Kan low false h = absurd (false≢true h)
    of_parts form low true h = absurd (false≢true h)

pub place_to_low : (set : Set) → place_of set ≤ 2 * set.low + 1
place_to_low set = of_form set.form set.low
  where
    of_form : (form : SetForm) (low : ℕ) → place_of_form form low ≤ 2 * low + 1
    of_form Run low = omega arith
    of_form Triplet low = omega arith
    of_form Kan low = omega arith

-- Sets that all stand later than the runs of a kind have none of those.
no_runs : (n kind runs triplets : ℕ) (rest : List Set) → list_all (λ other. leb n (place_of other)) (sets_at kind runs triplets ++ rest) ≡ true →
    2 * kind < n → runs ≡ 0
no_runs n kind zero triplets rest each above = refl
no_runs n kind (suc runs) triplets rest each above =
    let head = and_parts (leb n (2 * kind)) (list_all (λ other. leb n (place_of other)) (sets_at kind runs triplets ++ rest)) each in
    let below : n ≤ 2 * kind = leb-true n (2 * kind) head.0 in
    absurd (omega arith)

first_later : (kind : ℕ) (set : Set) (others : List Set) → is_concealed set ≡ true → list_all is_concealed others ≡ true →
    list_all (λ other. leb (place_of set) (place_of other)) others ≡ true → in_order (set ∷ others) ≡ true → kind < set.low → Front kind (set ∷ others)
first_later kind set others one each places order above = record {
  runs = 0;
  triplets = 0;
  rest = set ∷ others;
  is = refl;
  concealed = and_from (is_concealed set) (list_all is_concealed others) one each;
  later = and_from (leb (kind + 1) set.low) (list_all (λ set. leb (kind + 1) set.low) others) (le-leb (kind + 1) set.low (omega arith))
      (list_all-later (λ other. leb (place_of set) (place_of other)) (λ other. leb (kind + 1) other.low)
      (λ other h. le-leb (kind + 1) other.low (omega (arith, place_from_low set, place_to_low other, leb-true (place_of set) (place_of other) h)))
      others places);
  order = order;
  may_run = inl refl;
}

first_run : (kind : ℕ) (set : Set) (others : List Set) → Front kind others → set ≡ run_at kind → begins_run kind ≡ true → Front kind (set ∷ others)
first_run kind set others front is may = record {
  runs = suc front.runs;
  triplets = front.triplets;
  rest = front.rest;
  is = ap (λ x. x ∷ others) is ∙ ap (λ xs. run_at kind ∷ xs) front.is;
  concealed = front.concealed;
  later = front.later;
  order = front.order;
  may_run = inr may;
}

first_triplet : (kind : ℕ) (set : Set) (others : List Set) → Front kind others → set ≡ triplet_at kind →
    list_all (λ other. leb (place_of set) (place_of other)) others ≡ true → Front kind (set ∷ others)
first_triplet kind set others front is places =
    let here : place_of set ≡ 2 * kind + 1 = ap place_of is in
    let above : 2 * kind < place_of set = omega arith in
    let each : list_all (λ other. leb (place_of set) (place_of other)) (sets_at kind front.runs front.triplets ++ front.rest) ≡ true =
    ap (λ xs. list_all (λ other. leb (place_of set) (place_of other)) xs) (sym front.is) ∙ places in
    let none : front.runs ≡ 0 = no_runs (place_of set) kind front.runs front.triplets front.rest each above in
    record {
      runs = 0;
      triplets = suc front.triplets;
      rest = front.rest;
      is = ap (λ x. x ∷ others) is ∙ ap (λ xs. triplet_at kind ∷ xs) (front.is ∙ ap (λ n. sets_at kind n front.triplets ++ front.rest) none);
      concealed = front.concealed;
      later = front.later;
      order = front.order;
      may_run = inl refl;
    }

pub front_of : (kind : ℕ) (sets : List Set) → list_all is_concealed sets ≡ true → list_all (λ set. leb kind set.low) sets ≡ true →
    in_order sets ≡ true → Front kind sets
unfolding in_order
front_of kind [] concealed later order =
    record { runs = 0; triplets = 0; rest = []; is = refl; concealed = refl; later = refl; order = refl; may_run = inl refl }
front_of kind (set ∷ others) concealed later order =
    let c = and_parts (is_concealed set) (list_all is_concealed others) concealed in
    let l = and_parts (leb kind set.low) (list_all (λ set. leb kind set.low) others) later in
    let o = and_parts (list_all (λ other. leb (place_of set) (place_of other)) others) (in_order others) order in
    first_of kind set others c.0 c.1 o.0 order (leb-true kind set.low l.0) (front_of kind others c.1 l.1 o.1) (cases_lt kind set.low) (concealed_cases set c.0)
  where
    first_of : (kind : ℕ) (set : Set) (others : List Set) → is_concealed set ≡ true → list_all is_concealed others ≡ true →
        list_all (λ other. leb (place_of set) (place_of other)) others ≡ true → in_order (set ∷ others) ≡ true → kind ≤ set.low → Front kind others →
        (kind < set.low) ⊎ (set.low ≤ kind) → ((set ≡ run_at set.low) × (begins_run set.low ≡ true)) ⊎ (set ≡ triplet_at set.low) →
        Front kind (set ∷ others)
    first_of kind set others one each places order from front (inl above) form = first_later kind set others one each places order above
    first_of kind set others one each places order from front (inr here) (inl run) =
        let same : set.low ≡ kind = omega arith in
        first_run kind set others front (run.0 ∙ ap run_at same) (ap begins_run (sym same) ∙ run.1)
    first_of kind set others one each places order from front (inr here) (inr triplet) =
        let same : set.low ≡ kind = omega arith in
        first_triplet kind set others front (triplet ∙ ap triplet_at same) places
