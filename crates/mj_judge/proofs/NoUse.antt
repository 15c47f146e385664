-- A discard that makes nothing with the tiles of a seat: it can neither be called nor won on.
use Rattle.std.proofs.Common.{ℕ, ◌≡◌, ◌<◌, ◌≤◌, ◌+◌, ◌-◌, ◌*◌, ◌%◌, ◌∷◌, [], ◌++◌, ◌⊎◌, inl, inr, ◌&&◌, ◌||◌, ◌==◌, Bool, true, false, not}
use Rattle.std.proofs.Common.{cond, eqb, ltb, min, List, length, get_or, length-set, get_or-set_same, refl, sym, subst, ap, ◌∙◌, arith}
use Rattle.std.specs.Prelude.{Some, None, nat_lt, option_map, flat_map}
use Rattle.std.proofs.lemmas.Bool.{cases_eq, cases_lt, le-ltb, lt-ltb, ltb-true, or_parts, or_cases, and_parts, both_ways, eqb-true, false_from_ne_true, not-false}
use Rattle.mj_tiles.specs.Faces.{kind_of, tile_order}
use Rattle.mj_tiles.specs.Counts.{kind_counts}
use Rattle.mj_tiles.proofs.CountSteps.{kind_counts-push}
use Rattle.mj_readings.specs.Complete.{orphan_number}
use Rattle.mj_readings.specs.Inner.OneMore.{has_company}
use Rattle.mj_readings.specs.Tests.{complete, one_more}
use Rattle.mj_readings.proofs.Company.{lonely_refuse}
use Rattle.mj_calls.specs.Shapes.{is_run_of, is_among, makes_run}
use Rattle.mj_deeds.specs.declared.answer.Pai.TheVariants.{Known}
use Rattle.mj_deeds.specs.declared.answer.Answer.TheVariants.{Pass, Chi, Win}
use Rattle.mj_deeds.specs.declared.deed.Deed.{Deed}
use Rattle.mj_deeds.specs.declared.deed.Deed.TheVariants.{Discard}
use Rattle.mj_deeds.specs.Facts.{newest, concealed_tiles}
use Rattle.mj_deeds.specs.Hand.{hand}
use Rattle.mj_wall.specs.declared.setting.Rules.{Rules}
use Rattle.mj_rules.specs.View.{Discarded, SeatView, view_of, turn_by, turn_in, held_count, concealed}
use Rattle.mj_rules.specs.Broken.{offered_in}
use Rattle.mj_rules.specs.Possible.{is_lawful, faces_of, chis_with, all_chis, pons_of, open_kans_of, all_calls, all_wins, triplets, possible}
use Rattle.mj_rules.proofs.Listed.{lawful_clear}
use Rattle.mj_rules.proofs.ListedOrder.{all_mapped, all_joined}
use Rattle.mj_judge.specs.Inner.Alone.{LacksOrphan}
use Rattle.mj_judge.specs.Inner.Tried.{lawful_among, is_own_draw, is_discarding}
use Rattle.mj_judge.proofs.Alone.{stays, no_pairs, no_orphans, not_complete}
use Rattle.mj_judge.proofs.Counted.{counted}
use Rattle.mj_judge.proofs.FewHeld.{no_same}
use Rattle.mj_judge.proofs.Tried.{Fails, none_pass, one_fails, lawful-append, not_held-chi, other_not_held-chi, not_run-chi, no_discards}
use Rattle.mj_judge.proofs.Tried.{no_closed_kans, no_added_kans, no_reach, no_nine_kinds, pass_lawful, pass_stands, all_tried}

no_company : (counts : List ℕ) (kind : ℕ) → has_company counts kind ≡ false → 0 < get_or counts kind 0 → ⊥
unfolding has_company
no_company counts kind lonely some = both_ways (ltb 0 (get_or counts kind 0)) (or_parts (ltb 0 (get_or counts kind 0)) _ lonely).0 (lt-ltb 0 (get_or counts kind 0) some)

none_held : (counts : List ℕ) (kind : ℕ) → has_company counts kind ≡ false → get_or counts kind 0 ≡ 0
none_held counts kind lonely = at (cases_lt 0 (get_or counts kind 0))
  where
    at : (0 < get_or counts kind 0) ⊎ (get_or counts kind 0 ≤ 0) → get_or counts kind 0 ≡ 0
    at (inl some) = absurd (no_company counts kind lonely some)
    at (inr none) = omega (arith, none)

-- A tile more without company, where an orphan is lacking, completes nothing.
pub apart : (counts : List ℕ) (melds kind : ℕ) → length counts ≡ 34 → kind < 34 → has_company counts kind ≡ false → LacksOrphan counts kind → complete (one_more counts kind) melds ≡ false
apart counts melds kind size within lonely lacks =
    not_complete (one_more counts kind) melds (sym (lonely_refuse counts melds kind false size within (sym lonely) refl))
    (no_pairs (one_more counts kind) kind (omega (arith, within, length-set counts kind (get_or counts kind 0 + 1), size)) once)
    (no_orphans (one_more counts kind) lacks.other lacks.within
    (λ double number. some _ _ number (lacking double) (stays counts kind lacks.other (λ e. lacks.differs (sym e)) ∙ lacks.none)))
  where
    none : get_or counts kind 0 ≡ 0
    none = none_held counts kind lonely

    once : get_or (one_more counts kind) kind 0 ≡ 1
    once = get_or-set_same counts kind (get_or counts kind 0 + 1) 0 (omega (arith, within, size)) ∙ ap (λ n. n + 1) none

    lacking : (double : ℕ) → 0 < orphan_number double lacks.other
    lacking double = rw lacks.outer (by (eqb lacks.other double))
      where
        by : (b : Bool) → 0 < cond b 2 1
        by true = omega arith
        by false = omega arith

    some : (a n : ℕ) → a ≡ n → 0 < n → a ≡ 0 → ⊥
    some a n e f g = omega (arith, e, f, g)

-- A run with a tile of the kind, whose other two are held, is company for it.
run_company : (counts : List ℕ) (x y z : ℕ) → is_run_of x y z ≡ true → (y < 29 → 0 < get_or counts y 0) → (z < 29 → 0 < get_or counts z 0) → has_company counts x ≡ true
unfolding is_run_of has_company
run_company counts x y z run held_y held_z =
    let low = min x (min y z) in
    let last = and_parts (nat_lt low 27 && nat_lt (low % 9) 7 && is_among (low + 1) x y z) (is_among (low + 2) x y z) run in
    let next = and_parts (nat_lt low 27 && nat_lt (low % 9) 7) (is_among (low + 1) x y z) last.0 in
    let begins = and_parts (nat_lt low 27) (nat_lt (low % 9) 7) next.0 in
    by_places low (low + 1) (low + 2) refl refl refl (inside low (ltb-true low 27 begins.0) (ltb-true (low % 9) 7 begins.1)) (among (low + 1) next.1) (among (low + 2) last.1)
  where
    inside : (n : ℕ) → n < 27 → n % 9 < 7 → n + 2 < 27
    inside n h k = omega (arith, h, k)

    among : (kind : ℕ) → is_among kind x y z ≡ true → (kind ≡ x) ⊎ ((kind ≡ y) ⊎ (kind ≡ z))
    among kind h = elim (or_cases (kind == x || kind == y) (kind == z) h) [
      | inl other ↦ elim (or_cases (kind == x) (kind == y) other) [ inl e ↦ inl (eqb-true kind x e) | inr e ↦ inr (inl (eqb-true kind y e)) ]
      | inr e ↦ inr (inr (eqb-true kind z e))
    ]

    held : (k n : ℕ) → n ≡ k → 0 < get_or counts k 0 → ltb 0 (get_or counts n 0) ≡ true
    held k n e some = ap (λ m. ltb 0 (get_or counts m 0)) e ∙ lt-ltb 0 (get_or counts k 0) some

    first : (h k a z b c o d : Bool) → k ≡ true → a ≡ true → c ≡ true → (h || k && (a && (z && b || c) || o && b && d)) ≡ true
    first h k a z b c o d e f g = grind arith

    second : (h k a z b c o d : Bool) → k ≡ true → a ≡ true → z ≡ true → b ≡ true → (h || k && (a && (z && b || c) || o && b && d)) ≡ true
    second h k a z b c o d e f g i = grind arith

    third : (h k a z b c o d : Bool) → k ≡ true → o ≡ true → b ≡ true → d ≡ true → (h || k && (a && (z && b || c) || o && b && d)) ≡ true
    third h k a z b c o d e f g i = grind arith

    Company : Type 0
    Company = (ltb 0 (get_or counts x 0)
        || ltb x 27
        && (ltb 0 (get_or counts (x + 1) 0) && (ltb 0 x && ltb 0 (get_or counts (x - 1) 0) || ltb 0 (get_or counts (x + 2) 0))
        || ltb 1 x && ltb 0 (get_or counts (x - 1) 0) && ltb 0 (get_or counts (x - 2) 0))) ≡ true

    above : (p q : ℕ) → x < 27 → x + 1 ≡ p → x + 2 ≡ q → 0 < get_or counts p 0 → 0 < get_or counts q 0 → Company
    above p q small e f g h =
        first (ltb 0 (get_or counts x 0)) (ltb x 27) (ltb 0 (get_or counts (x + 1) 0)) (ltb 0 x) (ltb 0 (get_or counts (x - 1) 0)) (ltb 0 (get_or counts (x + 2) 0))
        (ltb 1 x) (ltb 0 (get_or counts (x - 2) 0)) (lt-ltb x 27 small) (held p (x + 1) e g) (held q (x + 2) f h)

    around : (p q : ℕ) → x < 27 → x ≡ p + 1 → x + 1 ≡ q → 0 < get_or counts p 0 → 0 < get_or counts q 0 → Company
    around p q small e f g h =
        second (ltb 0 (get_or counts x 0)) (ltb x 27) (ltb 0 (get_or counts (x + 1) 0)) (ltb 0 x) (ltb 0 (get_or counts (x - 1) 0)) (ltb 0 (get_or counts (x + 2) 0))
        (ltb 1 x) (ltb 0 (get_or counts (x - 2) 0)) (lt-ltb x 27 small) (held q (x + 1) f h) (lt-ltb 0 x (omega (arith, e))) (held p (x - 1) (omega (arith, e)) g)

    below : (p q : ℕ) → x < 27 → x ≡ p + 1 → x ≡ q + 2 → 0 < get_or counts p 0 → 0 < get_or counts q 0 → Company
    below p q small e f g h =
        third (ltb 0 (get_or counts x 0)) (ltb x 27) (ltb 0 (get_or counts (x + 1) 0)) (ltb 0 x) (ltb 0 (get_or counts (x - 1) 0)) (ltb 0 (get_or counts (x + 2) 0))
        (ltb 1 x) (ltb 0 (get_or counts (x - 2) 0)) (lt-ltb x 27 small) (lt-ltb 1 x (omega (arith, f))) (held p (x - 1) (omega (arith, e)) g) (held q (x - 2) (omega (arith, f)) h)

    by_places : (low next last : ℕ) → low ≡ min x (min y z) → next ≡ low + 1 → last ≡ low + 2 → low + 2 < 27 → (next ≡ x) ⊎ ((next ≡ y) ⊎ (next ≡ z)) → (last ≡ x) ⊎ ((last ≡ y) ⊎ (last ≡ z)) → Company
    by_places low next last a b c r (inl d) (inl e) = absurd (omega (arith, b, c, d, e))
    by_places low next last a b c r (inl d) (inr (inl e)) =
        around z y (omega (arith, a, b, c, d, e, r)) (omega (arith, a, b, c, d, e)) (omega (arith, a, b, c, d, e)) (held_z (omega (arith, a, b, c, d, e, r))) (held_y (omega (arith, a, b, c, d, e, r)))
    by_places low next last a b c r (inl d) (inr (inr e)) =
        around y z (omega (arith, a, b, c, d, e, r)) (omega (arith, a, b, c, d, e)) (omega (arith, a, b, c, d, e)) (held_y (omega (arith, a, b, c, d, e, r))) (held_z (omega (arith, a, b, c, d, e, r)))
    by_places low next last a b c r (inr (inl d)) (inl e) =
        below y z (omega (arith, a, b, c, d, e, r)) (omega (arith, a, b, c, d, e)) (omega (arith, a, b, c, d, e)) (held_y (omega (arith, a, b, c, d, e, r))) (held_z (omega (arith, a, b, c, d, e, r)))
    by_places low next last a b c r (inr (inl d)) (inr (inl e)) = absurd (omega (arith, b, c, d, e))
    by_places low next last a b c r (inr (inl d)) (inr (inr e)) =
        above y z (omega (arith, a, b, c, d, e, r)) (omega (arith, a, b, c, d, e)) (omega (arith, a, b, c, d, e)) (held_y (omega (arith, a, b, c, d, e, r))) (held_z (omega (arith, a, b, c, d, e, r)))
    by_places low next last a b c r (inr (inr d)) (inl e) =
        below z y (omega (arith, a, b, c, d, e, r)) (omega (arith, a, b, c, d, e)) (omega (arith, a, b, c, d, e)) (held_z (omega (arith, a, b, c, d, e, r))) (held_y (omega (arith, a, b, c, d, e, r)))
    by_places low next last a b c r (inr (inr d)) (inr (inl e)) =
        above z y (omega (arith, a, b, c, d, e, r)) (omega (arith, a, b, c, d, e)) (omega (arith, a, b, c, d, e)) (held_z (omega (arith, a, b, c, d, e, r))) (held_y (omega (arith, a, b, c, d, e, r)))
    by_places low next last a b c r (inr (inr d)) (inr (inr e)) = absurd (omega (arith, b, c, d, e))

-- A face that is held is counted among its kind.
held_counted : (view : SeatView) (face : ℕ) → kind_of face < 29 → 0 < held_count view face → 0 < get_or (kind_counts (concealed view)) (kind_of face) 0
held_counted view face low some = at (cases_lt face 34)
  where
    Counted : ℕ → Type 0
    Counted kind = 0 < get_or (kind_counts (concealed view)) kind 0

    own : (a b n : ℕ) → a + b ≤ n → 0 < a → 0 < n
    own a b n h s = omega (arith, h, s)

    red : (a b n : ℕ) → a + b ≤ n → 0 < b → 0 < n
    red a b n h s = omega (arith, h, s)

    by_red : (cases_of : (face ≡ 34) ⊎ ((face ≡ 35) ⊎ (face ≡ 36))) → Counted (kind_of face)
    by_red (inl e) = subst (λ f. Counted (kind_of f)) (sym e) (red _ _ _ (counted view 4 (omega arith)) (subst (λ f. 0 < held_count view f) e some))
    by_red (inr (inl e)) = subst (λ f. Counted (kind_of f)) (sym e) (red _ _ _ (counted view 13 (omega arith)) (subst (λ f. 0 < held_count view f) e some))
    by_red (inr (inr e)) = subst (λ f. Counted (kind_of f)) (sym e) (red _ _ _ (counted view 22 (omega arith)) (subst (λ f. 0 < held_count view f) e some))

    kind_high : 34 ≤ face → kind_of face ≡ 4 + 9 * (face - 34)
    kind_high high = ap (λ b. cond b face (4 + 9 * (face - 34))) (le-ltb face 34 high)

    reds_of : 34 ≤ face → (face ≡ 34) ⊎ ((face ≡ 35) ⊎ (face ≡ 36))
    reds_of high = elim (cases_eq face 34) [
      | inl e ↦ inl e
      | inr d ↦ elim (cases_eq face 35) [ inl e ↦ inr (inl e) | inr g ↦ inr (inr (last (kind_high high) d g high low)) ]
    ]
      where
        last : {k : ℕ} → k ≡ 4 + 9 * (face - 34) → (face ≡ 34 → ⊥) → (face ≡ 35 → ⊥) → 34 ≤ face → k < 29 → face ≡ 36
        last e d g h l = omega (arith, e, d, g, h, l)

    at : (face < 34) ⊎ (34 ≤ face) → Counted (kind_of face)
    at (inl small) = subst Counted (sym (ap (λ b. cond b face (4 + 9 * (face - 34))) (lt-ltb face 34 small))) (own _ _ _ (counted view face small) some)
    at (inr high) = by_red (reds_of high)

-- No chi, where the tile has no company.
no_run_with : (rules : Rules) (seat : ℕ) (view : SeatView) (who tile a b : ℕ) → has_company (kind_counts (concealed view)) (kind_of tile) ≡ false →
    Fails rules seat view (Chi seat who (Known tile) (Known a) (Known b))
no_run_with rules seat view who tile a b lonely = by_run (makes_run tile a b) refl
  where
    none : (n : ℕ) → n ≤ 0 → n ≡ 0
    none n h = omega (arith, h)

    by_held : makes_run tile a b ≡ true → (0 < held_count view a) ⊎ (held_count view a ≤ 0) → (0 < held_count view b) ⊎ (held_count view b ≤ 0) →
        Fails rules seat view (Chi seat who (Known tile) (Known a) (Known b))
    by_held run (inr few) other = not_held-chi rules seat view who tile a b (none _ few)
    by_held run (inl some) (inr few) = other_not_held-chi rules seat view who tile a b (none _ few)
    by_held run (inl some) (inl more) =
        absurd (both_ways (has_company (kind_counts (concealed view)) (kind_of tile)) lonely
        (run_company (kind_counts (concealed view)) (kind_of tile) (kind_of a) (kind_of b) run (λ low. held_counted view a low some) (λ low. held_counted view b low more)))

    by_run : (run : Bool) → makes_run tile a b ≡ run → Fails rules seat view (Chi seat who (Known tile) (Known a) (Known b))
    by_run false e = not_run-chi rules seat view who tile a b e
    by_run true e = by_held e (cases_lt 0 (held_count view a)) (cases_lt 0 (held_count view b))

no_calls : (rules : Rules) (ds : List Deed) (seat who tile : ℕ) → kind_of tile < 34 → has_company (kind_counts (concealed (view_of ds seat))) (kind_of tile) ≡ false →
    lawful_among rules ds seat (all_chis seat who tile ++ (pons_of seat who tile (faces_of (kind_of tile)) ++ open_kans_of seat who tile (faces_of (kind_of tile)))) ≡ []
unfolding lawful_among all_chis
no_calls rules ds seat who tile low lonely =
    lawful-append rules ds seat (flat_map (chis_with seat who tile) tile_order) (pons_of seat who tile (faces_of (kind_of tile)) ++ open_kans_of seat who tile (faces_of (kind_of tile)))
    ∙ (λ i. chis i ++ same i)
  where
    view : SeatView
    view = view_of ds seat

    chis : lawful_among rules ds seat (flat_map (chis_with seat who tile) tile_order) ≡ []
    chis =
        none_pass (is_lawful rules seat view) (flat_map (chis_with seat who tile) tile_order)
        (all_joined (Fails rules seat view) (chis_with seat who tile) tile_order
        (λ a. all_mapped (Fails rules seat view) (λ b. Chi seat who (Known tile) (Known a) (Known b)) tile_order (λ b. no_run_with rules seat view who tile a b lonely)))

    none : get_or (kind_counts (concealed view)) (kind_of tile) 0 ≡ 0
    none = none_held (kind_counts (concealed view)) (kind_of tile) lonely

    few : (a b n : ℕ) → a + b ≤ n → n ≡ 0 → min a 4 + min b 4 < 2
    few a b n h e = omega (arith, h, e)

    same : lawful_among rules ds seat (pons_of seat who tile (faces_of (kind_of tile)) ++ open_kans_of seat who tile (faces_of (kind_of tile))) ≡ []
    same = no_same rules ds seat who tile (kind_of tile) _ low refl refl (few _ _ _ (counted view (kind_of tile) low) none)

no_win : (rules : Rules) (ds : List Deed) (seat who tile : ℕ) → (view_of ds seat).turn ≡ Discarded who tile → kind_of tile < 34 →
    ((melds : ℕ) → complete (one_more (kind_counts (concealed (view_of ds seat))) (kind_of tile)) melds ≡ false) → lawful_among rules ds seat (Win seat who None ∷ []) ≡ []
no_win rules ds seat who tile turn low apart =
    let view = view_of ds seat in
    one_fails rules ds seat (Win seat who None)
    (false_from_ne_true (is_lawful rules seat view (Win seat who None))
    (λ lawful. both_ways (complete (kind_counts (concealed view ++ offered_in view.turn)) (length view.melds))
    (ap (λ (ts : List ℕ). complete (kind_counts (concealed view ++ ts)) (length view.melds)) (ap offered_in turn)
    ∙ ap (λ (ns : List ℕ). complete ns (length view.melds)) (sym (kind_counts-push (concealed view) tile low)) ∙ apart (length view.melds))
    (not-false (complete (kind_counts (concealed view ++ offered_in view.turn)) (length view.melds))
    (lawful_clear rules seat view (Win seat who None) lawful).1.1.1.1.1.1.1.1.1.1.1.1.1.1.1.1.1.1.1.1.0)))

-- So the seat may pass alone.
no_use : (rules : Rules) (ds : List Deed) (seat who tile : ℕ) (drawn : Bool) (counts : List ℕ) → newest ds ≡ Some (Discard who tile drawn) → kind_of tile < 34 →
    counts ≡ kind_counts (concealed_tiles (hand ds) seat) → has_company counts (kind_of tile) ≡ false → ((melds : ℕ) → complete (one_more counts (kind_of tile)) melds ≡ false) →
    Pass None ∷ [] ≡ possible rules ds seat
unfolding view_of
no_use rules ds seat who tile drawn counts last low is lonely apart =
    all_tried rules ds seat [] [] [] [] [] [] [] [] (Pass None ∷ []) refl (sym (no_discards rules ds seat shut)) (sym calls) (sym (no_closed_kans rules ds seat undrawn))
    (sym (no_added_kans rules ds seat (triplets (view_of ds seat)) undrawn)) (sym (no_reach rules ds seat undrawn)) (sym wins) (sym (no_nine_kinds rules ds seat undrawn))
    (pass_stands rules ds seat [] (pass_lawful rules seat (view_of ds seat) ∙ ap not shut))
  where
    turn : (view_of ds seat).turn ≡ Discarded who tile
    turn = ap (λ d. turn_in (option_map turn_by d)) last

    shut : is_discarding seat (view_of ds seat).turn ≡ false
    shut = ap (is_discarding seat) turn

    undrawn : is_own_draw seat (view_of ds seat).turn ≡ false
    undrawn = ap (is_own_draw seat) turn

    calls : lawful_among rules ds seat (all_calls seat (view_of ds seat).turn) ≡ []
    calls =
        ap (λ t. lawful_among rules ds seat (all_calls seat t)) turn
        ∙ no_calls rules ds seat who tile low (ap (λ ns. has_company ns (kind_of tile)) (sym is) ∙ lonely)

    wins : lawful_among rules ds seat (all_wins seat (view_of ds seat).turn) ≡ []
    wins =
        ap (λ t. lawful_among rules ds seat (all_wins seat t)) turn
        ∙ no_win rules ds seat who tile turn low (λ melds. ap (λ ns. complete (one_more ns (kind_of tile)) melds) (sym is) ∙ apart melds)

pub discard_of_no_use : (rules : Rules) (ds : List Deed) (seat who tile kind : ℕ) (drawn : Bool) (d : Deed) (counts : List ℕ) → Some d ≡ newest ds → d ≡ Discard who tile drawn →
    counts ≡ kind_counts (concealed_tiles (hand ds) seat) → kind ≡ kind_of tile → kind < 34 → has_company counts kind ≡ false → ((melds : ℕ) → complete (one_more counts kind) melds ≡ false) →
    Pass None ∷ [] ≡ possible rules ds seat
discard_of_no_use rules ds seat who tile kind drawn d counts last are is at low lonely apart =
    no_use rules ds seat who tile drawn counts (sym last ∙ ap Some are) (subst (λ k. k < 34) at low) is (ap (has_company counts) (sym at) ∙ lonely)
    (λ melds. ap (λ k. complete (one_more counts k) melds) (sym at) ∙ apart melds)
