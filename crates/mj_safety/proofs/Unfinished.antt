-- A hand with one tile of a kind, of which all others are seen elsewhere, is not complete by it.
use Rattle.std.proofs.Common.{◌≡◌, ℕ, ◌+◌, ◌<◌, ◌≤◌, ◌⊎◌, inl, inr, Bool, true, false, not, cond, eqb, ltb, ◌&&◌, ◌||◌, List, [], ◌∷◌, ◌++◌, get_or, refl, sym, ap, ◌∙◌, subst, arith}
use Rattle.std.specs.Prelude.{flat_map}
use Rattle.std.specs.List.{list_all, list_any}
use Rattle.std.proofs.lemmas.Bool.{and_parts, and_from, lt-ltb, ltb-true, eq-eqb}
use Rattle.std.proofs.lemmas.Bool.Decides.{nat_tests}
use Rattle.std.proofs.lemmas.List.FromFn.{get_or-map-range_with_len}
use Rattle.mj_tiles.specs.Faces.{number_in}
use Rattle.mj_tiles.specs.Counts.{all_kinds}
use Rattle.mj_tiles.specs.Terminals.{is_terminal_or_honour}
use Rattle.mj_wall.proofs.TileOrder.{number-cons}
use Rattle.mj_deeds.proofs.RealTiles.{member_passes, at_passes}
use Rattle.mj_readings.specs.declared.reading.Set.{Set}
use Rattle.mj_readings.specs.declared.reading.SetForm.{SetForm}
use Rattle.mj_readings.specs.declared.reading.SetForm.TheVariants.{Run, Triplet, Kan}
use Rattle.mj_readings.specs.Sets.{begins_run, tiles_of_form, tiles_of_set, is_concealed_form, is_concealed}
use Rattle.mj_readings.specs.Complete.{AreSetsAndPair, AreOrphans, IsComplete, is_seven_pairs, orphan_number}
use Rattle.mj_readings.proofs.Laws.{get_or-tally}
use Rattle.mj_readings.proofs.Tiles.{in_set, number_at, count-flat_map}
use Rattle.mj_safety.specs.Safe.{run_from, is_run_of}

-- members of a list

-- Some item of a list passes where the list says so.
pub some_member : (p : ℕ → Bool) (xs : List ℕ) → list_any p xs ≡ true → (x : ℕ) × (p x ≡ true) × (0 < number_in xs x)
some_member p [] h = absurd (never h)
  where
    never : false ≡ true → ⊥
    never h = cc
some_member p (y ∷ ys) h = by_test (p y) (λ k. some_member p ys k) refl h
  where
    here : (n a m : ℕ) → n ≡ a + m → a ≡ 1 → 0 < n
    here n a m e f = omega (arith, e, f)

    later : (n a m : ℕ) → n ≡ a + m → 0 < m → 0 < n
    later n a m e f = omega (arith, e, f)

    by_test : (b : Bool) → (list_any p ys ≡ true → (x : ℕ) × (p x ≡ true) × (0 < number_in ys x)) → p y ≡ b → (b || list_any p ys) ≡ true → (x : ℕ) × (p x ≡ true) × (0 < number_in (y ∷ ys) x)
    by_test true rest e k = (y, e, here _ _ _ (number-cons y y ys) (ap {B = ℕ} (λ b. cond b 1 0) (eq-eqb y y refl)))
    by_test false rest e k = let other = rest k in (other.0, other.1, later _ _ _ (number-cons y other.0 ys) other.2)

-- What stands in a list is one of its items.
is_member : (xs : List ℕ) (x : ℕ) → 0 < number_in xs x → list_any (λ other. eqb other x) xs ≡ true
is_member [] x h = absurd (none h)
  where
    none : 0 < 0 → ⊥
    none h = omega arith
is_member (y ∷ ys) x h = by_test (eqb y x) (λ k. is_member ys x k) (number-cons y x ys)
  where
    some : (n m : ℕ) → n ≡ 0 + m → 0 < n → 0 < m
    some n m e k = omega (arith, e, k)

    by_test : (b : Bool) → (0 < number_in ys x → list_any (λ other. eqb other x) ys ≡ true) → number_in (y ∷ ys) x ≡ cond b 1 0 + number_in ys x → (b || list_any (λ other. eqb other x) ys) ≡ true
    by_test true rest e = refl
    by_test false rest e = rest (some _ _ e h)

-- sets and a pair

-- One tile of a kind stands in one set, whose tiles are among all.
record AloneIn (kind : ℕ) (sets : List Set) : Type 0 where
  set : Set
  concealed : is_concealed set ≡ true
  one : in_set kind set ≡ 1
  among : (other : ℕ) → in_set other set ≤ number_at other sets

alone_in : (kind : ℕ) (sets : List Set) → list_all is_concealed sets ≡ true → number_at kind sets ≡ 1 → AloneIn kind sets
alone_in kind [] h e = absurd (never e)
  where
    never : ◌≡◌ {A = ℕ} 0 1 → ⊥
    never e = omega (arith, e)
alone_in kind (set ∷ sets) h e = split (λ k. alone_in kind sets (and_parts (is_concealed set) (list_all is_concealed sets) h).1 k) (in_set kind set) (number_at kind sets) refl refl e
  where
    more : (a b c : ℕ) → a ≤ c → a ≤ b + c
    more a b c h = omega (arith, h)

    first : (n m : ℕ) → n + m ≡ 1 → (n ≡ 1) ⊎ (m ≡ 1)
    first n m e = grind (arith, nat_tests, e)

    split : (number_at kind sets ≡ 1 → AloneIn kind sets) → (n m : ℕ) → in_set kind set ≡ n → number_at kind sets ≡ m → n + m ≡ 1 → AloneIn kind (set ∷ sets)
    split rest n m p q s = elim (first n m s) [
      | inl here ↦ record { set = set; concealed = (and_parts (is_concealed set) (list_all is_concealed sets) h).0; one = p ∙ here; among = λ other. omega arith }
      | inr later ↦ (
          let other_set = rest (q ∙ later) in
          record { set = other_set.set; concealed = other_set.concealed; one = other_set.one; among = λ other. more _ (in_set other set) _ (other_set.among other) })
    ]

-- Such a set is a run.
runs : (kind : ℕ) (form : SetForm) (low : ℕ) → is_concealed_form form low ≡ true → number_in (tiles_of_form form low) kind ≡ 1 → (begins_run low ≡ true) × (tiles_of_form form low ≡ run_from low)
runs kind Run low h e = (h, refl)
runs kind Triplet low h e = absurd (three _ (number-cons low kind (low ∷ low ∷ [])) (number-cons low kind (low ∷ [])) (number-cons low kind []) e)
  where
    three : {n m k : ℕ} (a : ℕ) → n ≡ a + m → m ≡ a + k → k ≡ a + 0 → n ≡ 1 → ⊥
    three a e f g h = omega (arith, e, f, g, h)
runs kind Kan low h e = cc

-- The kinds of a run are kinds.
small_run : (low : ℕ) → begins_run low ≡ true → list_all (λ kind. ltb kind 34) (run_from low) ≡ true
unfolding begins_run
small_run low h =
    let few : low < 27 = ltb-true low 27 (and_parts (ltb low 27) _ h).0 in
    and_from (ltb low 34) _ (lt-ltb low 34 (omega (arith, few))) (and_from (ltb (low + 1) 34) _ (lt-ltb (low + 1) 34 (omega (arith, few)))
    (and_from (ltb (low + 2) 34) true (lt-ltb (low + 2) 34 (omega (arith, few))) refl))

-- What is known of a hand: it has one tile of the kind, and none of those that are wanted beside it.
pub record Alone (counts : List ℕ) (melds kind : ℕ) (empty : ℕ → Bool) : Type 0 where
  pub known : kind < 34
  pub one : get_or counts kind 0 ≡ 1
  pub none : (other : ℕ) → other < 34 → not (eqb other kind) ≡ true → empty other ≡ true → get_or counts other 0 ≡ 0
  pub by_runs : (low : ℕ) → is_run_of kind low ≡ true → list_any (λ other. not (eqb other kind) && empty other) (run_from low) ≡ true
  pub by_orphans : melds ≡ 0 → is_terminal_or_honour kind ≡ true → (other : ℕ) × (other < 34) × (is_terminal_or_honour other ≡ true) × (not (eqb other kind) ≡ true) × (empty other ≡ true)

no_sets : (counts : List ℕ) (melds kind : ℕ) (empty : ℕ → Bool) (number : ℕ) (sets : List Set) (pair : ℕ) → Alone counts melds kind empty → AreSetsAndPair counts number sets pair → ⊥
no_sets counts melds kind empty number sets pair a are = of_run alone.set.form alone.set.low alone.concealed alone.one alone.among
  where
    number_is : (other : ℕ) → other < 34 → get_or counts other 0 ≡ number_at other sets + number_in (pair ∷ pair ∷ []) other
    number_is other low =
        ap (λ (ns : List ℕ). get_or ns other 0) (sym are.tiles) ∙ get_or-tally (flat_map tiles_of_set sets ++ pair ∷ pair ∷ []) other low ∙ count-flat_map other sets (pair ∷ pair ∷ [])

    one_set : (g n c d a : ℕ) → g ≡ n + c → g ≡ 1 → c ≡ a + d → d ≡ a + 0 → n ≡ 1
    one_set g n c d a e f h k = omega (arith, e, f, h, k)

    alone : AloneIn kind sets
    alone = alone_in kind sets are.concealed (one_set _ _ _ _ _ (number_is kind a.known) a.one (number-cons pair kind (pair ∷ [])) (number-cons pair kind []))

    some : (n : ℕ) → n ≡ 1 → 0 < n
    some n e = omega (arith, e)

    never : (n m c g : ℕ) → 0 < n → n ≤ m → g ≡ m + c → g ≡ 0 → ⊥
    never n m c g h k e f = omega (arith, h, k, e, f)

    of_run : (form : SetForm) (low : ℕ) → (not alone.set.shown && is_concealed_form form low) ≡ true → number_in (tiles_of_form form low) kind ≡ 1 →
        ((other : ℕ) → number_in (tiles_of_form form low) other ≤ number_at other sets) → ⊥
    of_run form low h one among =
        let is = runs kind form low (and_parts (not alone.set.shown) (is_concealed_form form low) h).1 one in
        let there : 0 < number_in (run_from low) kind = subst (λ (xs : List ℕ). 0 < number_in xs kind) is.1 (some _ one) in
        let wants = some_member (λ other. not (eqb other kind) && empty other) (run_from low) (a.by_runs low (and_from (begins_run low) _ is.0 (is_member (run_from low) kind there))) in
        let beside = and_parts (not (eqb wants.0 kind)) (empty wants.0) wants.1 in
        let small : wants.0 < 34 = ltb-true wants.0 34 (member_passes (λ k. ltb k 34) (run_from low) wants.0 (small_run low is.0) wants.2) in
        never _ _ _ _ wants.2 (subst (λ (xs : List ℕ). number_in xs wants.0 ≤ number_at wants.0 sets) is.1 (among wants.0)) (number_is wants.0 small) (a.none wants.0 small beside.0 beside.1)

-- pairs and orphans

no_pairs : (counts : List ℕ) (melds kind : ℕ) (empty : ℕ → Bool) → Alone counts melds kind empty → is_seven_pairs counts ≡ true → ⊥
unfolding is_seven_pairs
no_pairs counts melds kind empty a h =
    never (sym (ap (λ n. eqb n 0 || eqb n 2) a.one) ∙ at_passes (λ n. eqb n 0 || eqb n 2) counts kind refl (and_parts (list_all (λ n. eqb n 0 || eqb n 2) counts) _ h).0)
  where
    never : false ≡ true → ⊥
    never e = cc

orphan_at : (counts : List ℕ) (double other : ℕ) → AreOrphans counts double → other < 34 → get_or counts other 0 ≡ orphan_number double other
unfolding all_kinds
orphan_at counts double other are low = ap (λ (ns : List ℕ). get_or ns other 0) are.tiles ∙ get_or-map-range_with_len (orphan_number double) 0 34 other other 0 low (omega arith)

no_orphans : (counts : List ℕ) (melds kind : ℕ) (empty : ℕ → Bool) (double : ℕ) → Alone counts melds kind empty → melds ≡ 0 → AreOrphans counts double → ⊥
no_orphans counts melds kind empty double a closed are =
    let beside = a.by_orphans closed (orphan (is_terminal_or_honour kind) (eqb kind double) (sym (orphan_at counts double kind are a.known) ∙ a.one)) in
    there (is_terminal_or_honour beside.0) (eqb beside.0 double) beside.2 (sym (orphan_at counts double beside.0 are beside.1) ∙ a.none beside.0 beside.1 beside.3 beside.4)
  where
    orphan : (b c : Bool) → ◌≡◌ {A = ℕ} (cond b (cond c 2 1) 0) 1 → b ≡ true
    orphan true c e = refl
    orphan false c e = absurd (never e)
      where
        never : ◌≡◌ {A = ℕ} 0 1 → ⊥
        never e = omega (arith, e)

    there : (b c : Bool) → b ≡ true → ◌≡◌ {A = ℕ} (cond b (cond c 2 1) 0) 0 → ⊥
    there true true h e = omega (arith, e)
    there true false h e = omega (arith, e)
    there false c h e = cc

-- So it is not complete.
pub not_complete : (counts : List ℕ) (melds kind : ℕ) (empty : ℕ → Bool) → Alone counts melds kind empty → IsComplete counts melds → ⊥
not_complete counts melds kind empty a (inl standard) = no_sets counts melds kind empty _ standard.1.0 standard.1.1 a standard.1.2
not_complete counts melds kind empty a (inr (inl pairs)) = no_pairs counts melds kind empty a pairs.1
not_complete counts melds kind empty a (inr (inr orphans)) = no_orphans counts melds kind empty orphans.1.0 a orphans.0 orphans.1.1
