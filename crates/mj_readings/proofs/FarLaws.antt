-- Hands that no exchange of one tile completes, by their sums.
use Rattle.std.proofs.Common.{ℕ, ◌≡◌, ◌<◌, ◌≤◌, ◌+◌, ◌-◌, ◌∷◌, [], true, false, List, length, get_or, set, length-set, sym, ◌∙◌, ap, arith, eqb, leb, ltb, zero, suc, ◌&&◌}
use Rattle.std.specs.List.{count_by}
use Rattle.std.proofs.lemmas.Bool.{and_parts, and_right, or_from, ltb-true}
use Rattle.std.proofs.lemmas.Bool.Decides.{nat_tests}
use Rattle.std.proofs.lemmas.Grind.{common_steps}
use Rattle.mj_readings.specs.Inner.Ways.{has_way}
use Rattle.mj_readings.specs.Tests.{complete, one_more}
use Rattle.mj_readings.specs.Inner.OneMore.{NoSpecial}
use Rattle.mj_readings.specs.Inner.Sums.{singles, tiles_from}
use Rattle.mj_readings.proofs.SumLaws.{not_sets, singles_stay, singles_grow, middle_grows, held_middle}
use Rattle.mj_readings.proofs.OneMore.{no_special, no_special-melds}

-- A hand with one tile more has at most one single kind more.
one_single : (counts : List ℕ) (kind n : ℕ) → count_by (λ m. eqb m 1) (set counts kind n) ≤ count_by (λ m. eqb m 1) counts + 1
one_single [] kind n = omega arith
one_single (count ∷ others) zero n = grind (arith, nat_tests, common_steps)
one_single (count ∷ others) (suc kind) n = grind (arith, nat_tests, common_steps, one_single others kind n)

-- The hand before the tile has as many kinds.
size_before : (counts given : List ℕ) (kind : ℕ) → length counts ≡ 34 → counts ≡ one_more given kind → length given ≡ 34
size_before counts given kind size is = sym (ap length is ∙ length-set given kind (get_or given kind 0 + 1)) ∙ size

-- More than two suits and honours with a single tile over leave more than one when a tile is taken away.
far_sets : (counts given : List ℕ) (number kind other : ℕ) → length counts ≡ 34 → kind < 34 → counts ≡ one_more given kind → other < 34 → 2 < singles counts →
    has_way (one_more given other) 0 0 0 number false ≡ false
far_sets counts given number kind other size within is inside many =
    not_sets (one_more given other) number (length-set given other (get_or given other 0 + 1) ∙ before)
    (λ none total. no (singles counts) (singles (one_more given kind)) (singles given) (singles (one_more given other)) (ap singles is)
    (singles_grow given kind before within) (singles_stay given other before inside) none many)
  where
    before : length given ≡ 34
    before = size_before counts given kind size is

    no : (a b c d : ℕ) → a ≡ b → b ≤ c + 1 → c ≤ d + 1 → d ≡ 0 → 2 < a → ⊥
    no a b c d e f g h l = omega (arith, e, f, g, h, l)

far_special : (counts given : List ℕ) (melds kind : ℕ) → length counts ≡ 34 → kind < 34 → counts ≡ one_more given kind → 2 < count_by (λ n. eqb n 1) counts → 1 < tiles_from counts 1 7 →
    NoSpecial given melds
far_special counts given melds kind size within is many middle =
    no_special given melds held.0 singles_left held.1.0 held.1.1.0 held.1.1.1
  where
    before : length given ≡ 34
    before = size_before counts given kind size is

    some : (a b c : ℕ) → a ≡ b → b ≤ c + 1 → 1 < a → 0 < c
    some a b c e f g = omega (arith, e, f, g)

    held : (held : ℕ) × ((0 < held) × ((held < 8) × (0 < get_or given held 0)))
    held = held_middle given
        (some (tiles_from counts 1 7) (tiles_from (one_more given kind) 1 7) (tiles_from given 1 7) (ap (λ (ns : List ℕ). tiles_from ns 1 7) is) (middle_grows given kind before within) middle)

    left : (a b c : ℕ) → a ≡ b → b ≤ c + 1 → 2 < a → 1 < c
    left a b c e f g = omega (arith, e, f, g)

    singles_left : 1 < count_by (λ n. eqb n 1) given
    singles_left =
        left (count_by (λ n. eqb n 1) counts) (count_by (λ n. eqb n 1) (one_more given kind)) (count_by (λ n. eqb n 1) given)
        (ap (λ (ns : List ℕ). count_by (λ n. eqb n 1) ns) is) (one_single given kind (get_or given kind 0 + 1)) many

-- Neither sets and a pair nor another complete hand.
not_complete : (counts : List ℕ) (melds kind : ℕ) → NoSpecial counts melds → kind < 34 → has_way (one_more counts kind) 0 0 0 (4 - melds) false ≡ false → complete (one_more counts kind) melds ≡ false
unfolding complete
not_complete counts melds kind special within none = or_from _ _ (and_right (leb melds 4) _ none) (special kind within)

pub far_open : (counts given : List ℕ) (melds kind other : ℕ) → length counts ≡ 34 → kind < 34 → counts ≡ one_more given kind → other < 34 → 2 < singles counts → 0 < melds →
    complete (one_more given other) melds ≡ false
far_open counts given melds kind other size within is inside many some =
    not_complete given melds other (no_special-melds given melds some) inside (far_sets counts given (4 - melds) kind other size within is inside many)

pub far_closed : (counts given : List ℕ) (melds kind other : ℕ) → length counts ≡ 34 → kind < 34 → counts ≡ one_more given kind → other < 34 → 2 < singles counts →
    (ltb 2 (count_by (λ n. eqb n 1) counts) && ltb 1 (tiles_from counts 1 7)) ≡ true → complete (one_more given other) melds ≡ false
far_closed counts given melds kind other size within is inside many both =
    let parts = and_parts (ltb 2 (count_by (λ n. eqb n 1) counts)) (ltb 1 (tiles_from counts 1 7)) both in
    not_complete given melds other
    (far_special counts given melds kind size within is (ltb-true 2 (count_by (λ n. eqb n 1) counts) parts.0) (ltb-true 1 (tiles_from counts 1 7) parts.1)) inside
    (far_sets counts given (4 - melds) kind other size within is inside many)
