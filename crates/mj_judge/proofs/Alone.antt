-- Hands that no exchange of one tile completes, since three of their kinds stand alone.
use Rattle.std.proofs.Common.{ℕ, zero, suc, ◌≡◌, ◌<◌, ◌≤◌, ◌+◌, ◌-◌, ◌∷◌, [], ◌⊎◌, inl, inr, ◌&&◌, ◌||◌, Bool, true, false, cond, eqb, leb, ltb}
use Rattle.std.proofs.Common.{List, length, get_or, set, length-set, get_or-set_same, get_or-set_other, refl, sym, subst, ap, ◌∙◌, arith}
use Rattle.std.specs.Prelude.{Option, Some, None, is_some}
use Rattle.std.proofs.lemmas.Bool.{and_left, and_right, or_from, cases_eq, cases_lt, le-ltb}
use Rattle.std.proofs.lemmas.List.Folds.{list_all_at}
use Rattle.mj_readings.specs.Complete.{is_seven_pairs, orphan_number}
use Rattle.mj_readings.specs.Inner.OneMore.{has_company}
use Rattle.mj_readings.specs.Inner.Ways.{has_way}
use Rattle.mj_readings.specs.Tests.{complete, one_more, orphan_double}
use Rattle.mj_readings.proofs.Company.{lonely_refuse}
use Rattle.mj_readings.proofs.Orphans.{orphan_count, orphan_double-are}
use Rattle.mj_judge.specs.Inner.Alone.{IsAlone, IsInner, AreThree, AreTwo}

-- A tile that is held once, taken away and given back.
given_back : (xs : List ℕ) (k : ℕ) → get_or xs k 0 ≡ 1 → one_more (set xs k 0) k ≡ xs
given_back [] k some = absurd (nothing (get_or [] k 0) refl some)
  where
    nothing : (n : ℕ) → n ≡ 0 → n ≡ 1 → ⊥
    nothing n e f = omega (arith, e, f)
given_back (x ∷ xs) zero some = ap (λ (y : ℕ). y ∷ xs) (sym some)
given_back (x ∷ xs) (suc k) some = ap (λ (ys : List ℕ). x ∷ ys) (given_back xs k some)

-- One tile more takes none away.
grows : (xs : List ℕ) (k x : ℕ) → get_or xs x 0 ≤ get_or (one_more xs k) x 0
grows [] k x = omega arith
grows (n ∷ xs) zero zero = omega arith
grows (n ∷ xs) zero (suc x) = omega arith
grows (n ∷ xs) (suc k) zero = omega arith
grows (n ∷ xs) (suc k) (suc x) = grows xs k x

pub stays : (xs : List ℕ) (k x : ℕ) → (x ≡ k → ⊥) → get_or (one_more xs k) x 0 ≡ get_or xs x 0
stays xs k x differ = get_or-set_other xs k x (get_or xs k 0 + 1) 0 differ

-- The hand without the tile that is exchanged has no more of any kind.
none_left : (counts given : List ℕ) (k x : ℕ) → counts ≡ one_more given k → get_or counts x 0 ≡ 0 → get_or given x 0 ≡ 0
none_left counts given k x is none = none_of _ _ (grows given k x) (sym (ap (λ (ns : List ℕ). get_or ns x 0) is) ∙ none)
  where
    none_of : (a b : ℕ) → a ≤ b → b ≡ 0 → a ≡ 0
    none_of a b h e = omega (arith, h, e)

-- Of two kinds of which none is held an exchange brings one at most.
not_both : (counts given : List ℕ) (k w x y : ℕ) → counts ≡ one_more given k → get_or counts x 0 ≡ 0 → get_or counts y 0 ≡ 0 → (x ≡ y → ⊥) →
    (ltb 0 (get_or (one_more given w) x 0) && ltb 0 (get_or (one_more given w) y 0)) ≡ false
not_both counts given k w x y is no_x no_y differ = at (cases_eq x w)
  where
    gone : (z : ℕ) → get_or counts z 0 ≡ 0 → (z ≡ w → ⊥) → ltb 0 (get_or (one_more given w) z 0) ≡ false
    gone z none other = ap (λ n. ltb 0 n) (stays given w z other ∙ none_left counts given k z is none)

    at : (x ≡ w) ⊎ (x ≡ w → ⊥) → (ltb 0 (get_or (one_more given w) x 0) && ltb 0 (get_or (one_more given w) y 0)) ≡ false
    at (inl same) = and_right (ltb 0 (get_or (one_more given w) x 0)) (ltb 0 (get_or (one_more given w) y 0)) (gone y no_y (λ e. differ (same ∙ sym e)))
    at (inr other) = and_left (ltb 0 (get_or (one_more given w) x 0)) (ltb 0 (get_or (one_more given w) y 0)) (gone x no_x other)

-- A kind that stands alone and isn't exchanged: the hand has it once, and without it no company for it.
still_once : (counts given : List ℕ) (k w t : ℕ) → counts ≡ one_more given k → IsAlone counts t → (t ≡ k → ⊥) → (t ≡ w → ⊥) → get_or (one_more given w) t 0 ≡ 1
still_once counts given k w t is alone kept other =
    stays given w t other ∙ sym (stays given k t kept) ∙ sym (ap (λ (ns : List ℕ). get_or ns t 0) is) ∙ alone.once

lonely : (hand : List ℕ) (t : ℕ) → t < length hand →
    (t < 27 → (ltb 0 (get_or hand (t + 1) 0) && ltb 0 (get_or hand (t + 2) 0)) ≡ false) →
    (t < 27 → 0 < t → (ltb 0 (get_or hand (t + 1) 0) && ltb 0 (get_or hand (t - 1) 0)) ≡ false) →
    (t < 27 → 1 < t → (ltb 0 (get_or hand (t - 1) 0) && ltb 0 (get_or hand (t - 2) 0)) ≡ false) →
    has_company (set hand t 0) t ≡ false
unfolding has_company
lonely hand t within above around below = at (cases_lt t 27)
  where
    rest : List ℕ
    rest = set hand t 0

    held : ℕ → Bool
    held x = ltb 0 (get_or rest x 0)

    own : held t ≡ false
    own = ap (λ n. ltb 0 n) (get_or-set_same hand t 0 0 within)

    same : (x : ℕ) → (x ≡ t → ⊥) → held x ≡ ltb 0 (get_or hand x 0)
    same x differ = ap (λ n. ltb 0 n) (get_or-set_other hand t x 0 0 differ)

    first : t < 27 → (held (t + 1) && held (t + 2)) ≡ false
    first low = (λ i. same (t + 1) (λ e. omega (arith, e)) i && same (t + 2) (λ e. omega (arith, e)) i) ∙ above low

    second : t < 27 → (held (t + 1) && (ltb 0 t && held (t - 1))) ≡ false
    second low = by (cases_lt 0 t)
      where
        by : (0 < t) ⊎ (t ≤ 0) → (held (t + 1) && (ltb 0 t && held (t - 1))) ≡ false
        by (inl some) = mid (held (t + 1)) (ltb 0 t) (held (t - 1)) ((λ i. same (t + 1) (λ e. omega (arith, e)) i && same (t - 1) (λ e. omega (arith, e, some)) i) ∙ around low some)
          where
            mid : (a o b : Bool) → (a && b) ≡ false → (a && (o && b)) ≡ false
            mid true true b h = h
            mid true false b h = refl
            mid false o b h = refl
        by (inr none) = and_right (held (t + 1)) (ltb 0 t && held (t - 1)) (and_left (ltb 0 t) (held (t - 1)) (le-ltb 0 t none))

    third : t < 27 → (ltb 1 t && held (t - 1) && held (t - 2)) ≡ false
    third low = by (cases_lt 1 t)
      where
        by : (1 < t) ⊎ (t ≤ 1) → (ltb 1 t && held (t - 1) && held (t - 2)) ≡ false
        by (inl some) = mid (ltb 1 t) (held (t - 1)) (held (t - 2)) ((λ i. same (t - 1) (λ e. omega (arith, e, some)) i && same (t - 2) (λ e. omega (arith, e, some)) i) ∙ below low some)
          where
            mid : (o a b : Bool) → (a && b) ≡ false → (o && a && b) ≡ false
            mid true a b h = h
            mid false a b h = refl
        by (inr none) = and_left (ltb 1 t && held (t - 1)) (held (t - 2)) (and_left (ltb 1 t) (held (t - 1)) (le-ltb 1 t none))

    joined : (h k a z b c o d : Bool) → h ≡ false → (a && c) ≡ false → (a && (z && b)) ≡ false → (o && b && d) ≡ false → (h || k && (a && (z && b || c) || o && b && d)) ≡ false
    joined true k a z b c o d p q r s = p
    joined false false a z b c o d p q r s = refl
    joined false true true true true c o d p q r s = r
    joined false true true true false c o d p q r s = or_from c (o && false && d) q s
    joined false true true false b c o d p q r s = or_from c (o && b && d) q s
    joined false true false z b c o d p q r s = s

    at : (t < 27) ⊎ (27 ≤ t) → (held t || ltb t 27 && (held (t + 1) && (ltb 0 t && held (t - 1) || held (t + 2)) || ltb 1 t && held (t - 1) && held (t - 2))) ≡ false
    at (inl low) = joined (held t) (ltb t 27) (held (t + 1)) (ltb 0 t) (held (t - 1)) (held (t + 2)) (ltb 1 t) (held (t - 2)) own (first low) (second low) (third low)
    at (inr high) = or_from (held t) _ own (and_left (ltb t 27) _ (le-ltb t 27 high))

-- So it is no sets and a pair, and no seven pairs.
no_sets : (counts given : List ℕ) (melds k w t : ℕ) → length counts ≡ 34 → counts ≡ one_more given k → IsAlone counts t → (t ≡ k → ⊥) → (t ≡ w → ⊥) →
    (leb melds 4 && has_way (one_more given w) 0 0 0 (4 - melds) false) ≡ false
no_sets counts given melds k w t size is alone kept other =
    ap (λ (ns : List ℕ). leb melds 4 && has_way ns 0 0 0 (4 - melds) false) (sym (given_back (one_more given w) t (still_once counts given k w t is alone kept other)))
    ∙ sym (lonely_refuse (set (one_more given w) t 0) melds t false (length-set (one_more given w) t 0 ∙ length_now) alone.within (sym without) refl)
  where
    length_now : length (one_more given w) ≡ 34
    length_now = length-set given w (get_or given w 0 + 1) ∙ sym (ap length is ∙ length-set given k (get_or given k 0 + 1)) ∙ size

    apart : (x y : ℕ) → get_or counts x 0 ≡ 0 → get_or counts y 0 ≡ 0 → (x ≡ y → ⊥) → (ltb 0 (get_or (one_more given w) x 0) && ltb 0 (get_or (one_more given w) y 0)) ≡ false
    apart x y no_x no_y differ = not_both counts given k w x y is no_x no_y differ

    without : has_company (set (one_more given w) t 0) t ≡ false
    without =
        lonely (one_more given w) t (omega (arith, length_now, alone.within))
        (λ low. apart (t + 1) (t + 2) (alone.next low) (alone.after_next low) (λ e. omega (arith, e)))
        (λ low some. apart (t + 1) (t - 1) (alone.next low) (alone.before low some) (λ e. omega (arith, e, some)))
        (λ low some. apart (t - 1) (t - 2) (alone.before low (omega (arith, some))) (alone.two_before low some) (λ e. omega (arith, e, some)))

pub no_pairs : (hand : List ℕ) (t : ℕ) → t < length hand → get_or hand t 0 ≡ 1 → is_seven_pairs hand ≡ false
unfolding is_seven_pairs
no_pairs hand t within once = and_left _ _ (list_all_at (λ n. eqb n 0 || eqb n 2) hand t 0 within (ap (λ n. eqb n 0 || eqb n 2) once))

-- A hand with a tile that is no terminal or honour, or that lacks one of these, is not thirteen orphans.
pub no_orphans : (hand : List ℕ) (kind : ℕ) → kind < 34 → ((double : ℕ) → get_or hand kind 0 ≡ orphan_number double kind → ⊥) → is_some (orphan_double hand) ≡ false
no_orphans hand kind within never = split (orphan_double hand) refl
  where
    split : (double : Option ℕ) → orphan_double hand ≡ double → is_some double ≡ false
    split None is = refl
    split (Some double) is = absurd (never double (orphan_count hand double kind within (orphan_double-are hand double is)))

pub not_complete : (hand : List ℕ) (melds : ℕ) → (leb melds 4 && has_way hand 0 0 0 (4 - melds) false) ≡ false → is_seven_pairs hand ≡ false → is_some (orphan_double hand) ≡ false →
    complete hand melds ≡ false
unfolding complete
not_complete hand melds sets pairs orphans =
    or_from (leb melds 4 && has_way hand 0 0 0 (4 - melds) false) (eqb melds 0 && (is_seven_pairs hand || is_some (orphan_double hand))) sets
    (and_right (eqb melds 0) (is_seven_pairs hand || is_some (orphan_double hand)) (or_from (is_seven_pairs hand) (is_some (orphan_double hand)) pairs orphans))

-- One kind alone and one inner kind that stay.
stays_far : (counts given : List ℕ) (melds k w t s : ℕ) → length counts ≡ 34 → counts ≡ one_more given k → IsAlone counts t → (t ≡ k → ⊥) → (t ≡ w → ⊥) → IsInner counts s → (s ≡ k → ⊥) →
    complete (one_more given w) melds ≡ false
stays_far counts given melds k w t s size is alone kept other inner still =
    not_complete (one_more given w) melds (no_sets counts given melds k w t size is alone kept other)
    (no_pairs (one_more given w) t (omega (arith, length_now, alone.within)) (still_once counts given k w t is alone kept other))
    (no_orphans (one_more given w) s inner.within
    (λ double number. none _ _ _ number (ap (λ b. cond b (cond (eqb s double) 2 1) 0) inner.inner) (grows given w s) some))
  where
    length_now : length (one_more given w) ≡ 34
    length_now = length-set given w (get_or given w 0 + 1) ∙ sym (ap length is ∙ length-set given k (get_or given k 0 + 1)) ∙ size

    some : 0 < get_or given s 0
    some = subst (λ n. 0 < n) (ap (λ (ns : List ℕ). get_or ns s 0) is ∙ stays given k s still) inner.held

    none : (a b n : ℕ) → a ≡ n → n ≡ 0 → b ≤ a → 0 < b → ⊥
    none a b n e f g h = omega (arith, e, f, g, h)

-- Of three kinds one isn't exchanged, and of two.
pub scattered : (counts given : List ℕ) (melds k w : ℕ) → length counts ≡ 34 → counts ≡ one_more given k → AreThree counts → AreTwo counts → complete (one_more given w) melds ≡ false
scattered counts given melds k w size is three two = inner (cases_eq two.first k)
  where
    with : (s : ℕ) → IsInner counts s → (s ≡ k → ⊥) → complete (one_more given w) melds ≡ false
    with s one still = first (cases_eq three.first k) (cases_eq three.first w)
      where
        far : (t : ℕ) → IsAlone counts t → (t ≡ k → ⊥) → (t ≡ w → ⊥) → complete (one_more given w) melds ≡ false
        far t alone kept other = stays_far counts given melds k w t s size is alone kept other one still

        second : (three.second ≡ k) ⊎ (three.second ≡ k → ⊥) → (three.second ≡ w) ⊎ (three.second ≡ w → ⊥) → (three.first ≡ k) ⊎ (three.first ≡ w) → complete (one_more given w) melds ≡ false
        second (inr kept) (inr other) h = far three.second three.second_alone kept other
        second (inl e) (inl f) (inl h) = absurd (omega (arith, e, h, three.then_second))
        second (inl e) (inl f) (inr h) = absurd (omega (arith, f, h, three.then_second))
        second (inl e) (inr other) (inl h) = absurd (omega (arith, e, h, three.then_second))
        second (inl e) (inr other) (inr h) = far three.third three.third_alone (λ g. omega (arith, e, g, three.then_third)) (λ g. omega (arith, h, g, three.then_second, three.then_third))
        second (inr kept) (inl f) (inr h) = absurd (omega (arith, f, h, three.then_second))
        second (inr kept) (inl f) (inl h) = far three.third three.third_alone (λ g. omega (arith, h, g, three.then_second, three.then_third)) (λ g. omega (arith, f, g, three.then_third))

        first : (three.first ≡ k) ⊎ (three.first ≡ k → ⊥) → (three.first ≡ w) ⊎ (three.first ≡ w → ⊥) → complete (one_more given w) melds ≡ false
        first (inr kept) (inr other) = far three.first three.first_alone kept other
        first (inl e) other = second (cases_eq three.second k) (cases_eq three.second w) (inl e)
        first (inr kept) (inl f) = second (cases_eq three.second k) (cases_eq three.second w) (inr f)

    inner : (two.first ≡ k) ⊎ (two.first ≡ k → ⊥) → complete (one_more given w) melds ≡ false
    inner (inr still) = with two.first two.first_inner still
    inner (inl e) = with two.second two.second_inner (λ f. omega (arith, e, f, two.then_second))
