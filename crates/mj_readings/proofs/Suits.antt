-- Suits that refuse each tile more: what the pair that a suit lacks, and the sum of a suit, say of all its kinds at once.
use Rattle.std.proofs.Common.{ℕ, ◌≡◌, ◌<◌, ◌≤◌, ◌+◌, ◌-◌, ◌*◌, ◌%◌, Bool, true, false, cond, List, length, length-set, get_or}
use Rattle.std.proofs.Common.{get_or-set_other, refl, sym, subst, ◌∙◌, ap, arith, eqb, leb, ltb, ◌⊎◌, inl, inr, ◌&&◌, ◌||◌}
use Rattle.std.specs.Prelude.{not}
use Rattle.std.specs.List.{count_by}
use Rattle.std.proofs.lemmas.Bool.{and_parts, false_from_ne_true, false≢true, cases_lt, eq-eqb, leb-true, ltb-true}
use Rattle.mj_readings.specs.declared.reading.Set.{Set}
use Rattle.mj_readings.specs.declared.sums.Pairless.{Pairless}
use Rattle.mj_readings.specs.Complete.{AreSetsAndPair}
use Rattle.mj_readings.specs.Completing.{is_completing}
use Rattle.mj_readings.specs.Tests.{one_more}
use Rattle.mj_readings.specs.Inner.Ways.{has_way}
use Rattle.mj_readings.specs.Inner.OneMore.{NoSpecial}
use Rattle.mj_readings.specs.Inner.Suits.{NoneIn}
use Rattle.mj_readings.specs.Inner.Sums.{tiles_from, single_over, singles, tiles_beside, LacksPair, ArePairless}
use Rattle.mj_readings.proofs.Laws.{has_way-are}
use Rattle.mj_readings.proofs.Tiles.{number_at}
use Rattle.mj_readings.proofs.SumLaws.{among, suit_whole, tiles_of_sets, more_elsewhere, singles_move, not_sets, beside_characters, beside_dots, beside_bamboos}
use Rattle.mj_readings.proofs.Company.{number_of}
use Rattle.mj_readings.proofs.OneMore.{neither}

-- A suit that is two tiles over its threes has the pair of sets and a pair, and so a kind of it stands twice.
not_lacking : (counts : List ℕ) (number : ℕ) (sets : List Set) (pair from : ℕ) → AreSetsAndPair counts number sets pair →
    from % 9 ≡ 0 → from + 9 ≤ 34 → LacksPair counts from → ⊥
not_lacking counts number sets pair from are suit fits lacks =
    at (among from 9 pair) refl (tiles_of_sets counts number sets pair are from 9 fits (suit_whole from suit))
  where
    over : (tiles n : ℕ) → tiles ≡ 3 * n + 2 * 0 → tiles % 3 ≡ 2 → ⊥
    over tiles n e two = omega (arith, e, two)

    twice : (in_sets held : ℕ) → in_sets + cond (eqb pair pair) 2 0 ≡ held → held < 2 → ⊥
    twice in_sets held e once = let whole : in_sets + 2 ≡ held = ap (λ (b : Bool). in_sets + cond b 2 0) (sym (eq-eqb pair pair refl)) ∙ e in omega (arith, whole, once)

    at : (b : Bool) → among from 9 pair ≡ b → tiles_from counts from 9 ≡ 3 * count_by (λ set. among from 9 set.low) sets + 2 * cond b 1 0 → ⊥
    at false is tiles = over (tiles_from counts from 9) (count_by (λ set. among from 9 set.low) sets) tiles lacks.over
    at true is tiles =
        let parts = and_parts (leb from pair) (ltb pair (from + 9)) is in
        let low : from ≤ pair = leb-true from pair parts.0 in
        let high : pair < from + 9 = ltb-true pair (from + 9) parts.1 in
        let there : from + (pair - from) ≡ pair = omega (arith, low) in
        let once : get_or counts pair 0 < 2 = subst (λ k. get_or counts k 0 < 2) there (lacks.once (pair - from) (omega (arith, low, high))) in
        twice (number_at pair sets) (get_or counts pair 0) (number_of counts number sets pair pair are are.pair_kind) once

lacking_refuses : (counts : List ℕ) (from number : ℕ) → length counts ≡ 34 → from % 9 ≡ 0 → from + 9 ≤ 34 → LacksPair counts from →
    has_way counts 0 0 0 number false ≡ false
lacking_refuses counts from number size suit fits lacks =
    false_from_ne_true (has_way counts 0 0 0 number false)
    (λ has. let found = has_way-are counts number size has in not_lacking counts number found.0 found.1 from found.2 suit fits lacks)

-- A tile more in another suit leaves it so.
still_lacking : (counts : List ℕ) (from kind : ℕ) → (kind < from) ⊎ (from + 9 ≤ kind) → LacksPair counts from → LacksPair (one_more counts kind) from
still_lacking counts from kind apart lacks = record {
  over = ap (λ n. n % 3) (more_elsewhere counts kind from 9 apart) ∙ lacks.over;
  once = λ place inside. subst (λ n. n < 2)
      (sym (get_or-set_other counts kind (from + place) (get_or counts kind 0 + 1) 0 (differ apart place inside))) (lacks.once place inside);
}
  where
    differ : (kind < from) ⊎ (from + 9 ≤ kind) → (place : ℕ) → place < 9 → from + place ≡ kind → ⊥
    differ (inl below) place inside e = omega (arith, e, below, inside)
    differ (inr past) place inside e = omega (arith, e, past, inside)

pub other_refuses : (counts : List ℕ) (from melds kind : ℕ) → length counts ≡ 34 → NoSpecial counts melds → kind < 34 → from % 9 ≡ 0 → from + 9 ≤ 34 →
    (kind < from) ⊎ (from + 9 ≤ kind) → LacksPair counts from → is_completing counts melds kind ≡ false
other_refuses counts from melds kind size special within suit fits apart lacks =
    neither counts melds kind special within
    (lacking_refuses (one_more counts kind) from (4 - melds) (length-set counts kind (get_or counts kind 0 + 1) ∙ size) suit fits (still_lacking counts from kind apart lacks))

-- Where another suit lacks the pair, no kind of this one completes the hand.
pub others_refuse : (counts : List ℕ) (melds suit : ℕ) (pairless : Pairless) (has : Bool) → length counts ≡ 34 → NoSpecial counts melds → ArePairless counts pairless →
    has ≡ (pairless.characters && not (eqb suit 0) || pairless.dots && not (eqb suit 1) || pairless.bamboos && not (eqb suit 2)) → has ≡ true →
    NoneIn suit (is_completing counts melds)
others_refuse counts melds suit pairless has size special are is holds kind within low high =
    which pairless.characters pairless.dots pairless.bamboos (eqb suit 0) (eqb suit 1) (eqb suit 2) refl refl refl refl refl refl (sym is ∙ holds)
  where
    none : (from : ℕ) → from % 9 ≡ 0 → from + 9 ≤ 34 → LacksPair counts from → (kind < from) ⊎ (from + 9 ≤ kind) → is_completing counts melds kind ≡ false
    none from begins fits lacks apart = other_refuses counts from melds kind size special within begins fits apart lacks

    apart : (n : ℕ) → eqb suit n ≡ false → (kind < 9 * n) ⊎ (9 * n + 9 ≤ kind)
    apart n other = beside (cases_lt suit n) (cases_lt n suit)
      where
        beside : (suit < n) ⊎ (n ≤ suit) → (n < suit) ⊎ (suit ≤ n) → (kind < 9 * n) ⊎ (9 * n + 9 ≤ kind)
        beside (inl below) z = inl (omega (arith, below, high))
        beside (inr past) (inl above) = inr (omega (arith, above, low))
        beside (inr past) (inr nor) = absurd (false≢true (sym other ∙ eq-eqb suit n (omega (arith, past, nor))))

    which : (a b c d e f : Bool) → pairless.characters ≡ a → pairless.dots ≡ b → pairless.bamboos ≡ c → eqb suit 0 ≡ d → eqb suit 1 ≡ e → eqb suit 2 ≡ f →
        (a && not d || b && not e || c && not f) ≡ true → is_completing counts melds kind ≡ false
    which true b c false e f one two three first second third any =
        none 0 refl (omega arith) (are.characters one) (apart 0 first)
    which a true c d false f one two three first second third any =
        none 9 refl (omega arith) (are.dots two) (apart 1 second)
    which a b true d e false one two three first second third any =
        none 18 refl (omega arith) (are.bamboos three) (apart 2 third)
    which a b c d e f one two three first second third any = absurd (false≢true any)

-- One tile more of any kind of a suit has the same sums.
beside_same : (counts : List ℕ) (suit kind other : ℕ) → suit < 3 → 9 * suit ≤ kind → kind < 9 * suit + 9 → 9 * suit ≤ other → other < 9 * suit + 9 →
    tiles_beside counts kind ≡ tiles_beside counts other
beside_same counts suit kind other number low high from to = at (cases_lt suit 1) (cases_lt suit 2)
  where
    at : (suit < 1) ⊎ (1 ≤ suit) → (suit < 2) ⊎ (2 ≤ suit) → tiles_beside counts kind ≡ tiles_beside counts other
    at (inl first) z =
        beside_characters counts kind (omega (arith, first, high)) ∙ sym (beside_characters counts other (omega (arith, first, to)))
    at (inr past) (inl second) =
        beside_dots counts kind (omega (arith, past, low)) (omega (arith, second, high))
        ∙ sym (beside_dots counts other (omega (arith, past, from)) (omega (arith, second, to)))
    at (inr past) (inr third) =
        beside_bamboos counts kind (omega (arith, third, low)) (omega (arith, number, high))
        ∙ sym (beside_bamboos counts other (omega (arith, third, from)) (omega (arith, number, to)))

same_singles : (counts : List ℕ) (kind other : ℕ) → length counts ≡ 34 → kind < 34 → other < 34 → tiles_beside counts kind ≡ tiles_beside counts other →
    singles (one_more counts kind) ≡ singles (one_more counts other)
same_singles counts kind other size within inside same =
    equal _ _ _ _ _ _ _ (singles_move counts kind size within) (singles_move counts other size inside) (ap single_over same) (ap (λ n. single_over (n + 1)) same)
  where
    equal : (s a b t u v w : ℕ) → a + t ≡ s + u → b + v ≡ s + w → t ≡ v → u ≡ w → a ≡ b
    equal s a b t u v w e f g h = omega (arith, e, f, g, h)

-- Where the sums refuse its first kind, no kind of a suit completes the hand.
pub sums_refuse_suit : (counts : List ℕ) (melds suit first : ℕ) (takes : Bool) → length counts ≡ 34 → NoSpecial counts melds → suit < 4 → (suit ≡ 3 → ⊥) → first ≡ 9 * suit →
    takes ≡ eqb (singles (one_more counts first)) 0 → takes ≡ false → NoneIn suit (is_completing counts melds)
sums_refuse_suit counts melds suit first takes size special below other begins is off kind within low high =
    neither counts melds kind special within
    (not_sets (one_more counts kind) (4 - melds) (length-set counts kind (get_or counts kind 0 + 1) ∙ size)
    (λ none total. false≢true (sym (sym is ∙ off) ∙ eq-eqb (singles (one_more counts first)) 0 (same ∙ none))))
  where
    same : singles (one_more counts first) ≡ singles (one_more counts kind)
    same =
        same_singles counts first kind size (omega (arith, begins, low, within)) within
        (beside_same counts suit first kind (omega (arith, below, other)) (omega (arith, begins)) (omega (arith, begins)) low high)

-- No kind of the suits up to one more passes a test.
pub suit_passed : (test : ℕ → Bool) (suit : ℕ) → ((k : ℕ) → k < 34 → k < 9 * suit → test k ≡ false) → NoneIn suit test →
    (k : ℕ) → k < 34 → k < 9 * (suit + 1) → test k ≡ false
suit_passed test suit before here k within inside = at (cases_lt k (9 * suit))
  where
    at : (k < 9 * suit) ⊎ (9 * suit ≤ k) → test k ≡ false
    at (inl less) = before k within less
    at (inr from) = here k within from (omega (arith, inside))
