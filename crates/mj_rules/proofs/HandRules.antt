-- The rules that look at a whole hand.
use Rattle.std.proofs.Common.{◌≡◌, ℕ, zero, suc, ◌+◌, ◌-◌, ◌<◌, ◌≤◌, ◌⊎◌, inl, inr, ◌&&◌, ◌||◌, not, Bool, true, false, List, [], ◌∷◌, length}
use Rattle.std.proofs.Common.{get_or, length-set, get_or-set_same, get_or-set_other, refl, sym, ap, ◌∙◌, subst, arith, eqb, leb}
use Rattle.std.specs.Prelude.{flat_map}
use Rattle.std.specs.List.{list_all}
use Rattle.std.proofs.lemmas.Bool.{and_parts, and_from, eqb-true, eq-eqb, leb-true, le-leb, cases_eq, cases_lt}
use Rattle.std.proofs.lemmas.List.{set_past}
use Rattle.std.proofs.lemmas.List.FromFn.{get_or-map-range_with_len}
use Rattle.mj_tiles.specs.Counts.{all_kinds, number_of, kind_counts, room_beside, NoFifth, IsCounts}
use Rattle.mj_tiles.specs.Melds.{tiles_of_meld}
use Rattle.mj_tiles.specs.declared.meld.Meld.{Meld}
use Rattle.mj_tiles.proofs.EachKind.{all_kinds-pass, each_kind}
use Rattle.mj_tiles.proofs.KindSets.{has_kind-kinds_that}
use Rattle.mj_readings.specs.declared.reading.Reading.{Reading}
use Rattle.mj_readings.specs.Tests.{one_more}
use Rattle.mj_readings.specs.Readings.{IsReading}
use Rattle.mj_readings.specs.AllReadings.{readings_of}
use Rattle.mj_readings.proofs.Laws.{counts-one_more}
use Rattle.mj_readings.proofs.ReadingLaws.{list_law}
use Rattle.mj_calls.specs.RiichiKans.{fewer, has_own_triplet, is_same, keeps_wait, reads_as_triplet, is_riichi_kan}
use Rattle.mj_waits.specs.Waits.{IsWait, is_wait}
use Rattle.mj_yaku.specs.SomeYaku.{gives_yaku}
use Rattle.mj_rules.specs.Broken.{won_tiles, waits_of, has_no_yaku}
use Rattle.mj_rules.specs.View.{concealed, room}
use Rattle.mj_rules.specs.Hands.{LeavesHand, KansAreFound, NoYakuIsFound, SeatWaitsAreFound}
use Rattle.mj_rules.proofs.Hands.{waits_are_found}

-- What all of a list pass, one at a place passes; and where all that are so pass, all of a list that are so do.
passes_at : {A : Type 0} (p : A → Bool) (xs : List A) (x : A) (i : ℕ) → i < length xs → get_or xs i x ≡ x → list_all p xs ≡ true → p x ≡ true
passes_at p [] x i inside is h = absurd (omega (arith, inside))
passes_at p (y ∷ ys) x zero inside is h = ap p (sym is) ∙ (and_parts (p y) (list_all p ys) h).0
passes_at p (y ∷ ys) x (suc i) inside is h = passes_at p ys x i (omega (arith, inside)) is (and_parts (p y) (list_all p ys) h).1

all_pass : {A : Type 0} (Q : A → Type 0) (p : A → Bool) (xs : List A) → ((i : ℕ) (other : A) → i < length xs → Q (get_or xs i other)) → ((x : A) → Q x → p x ≡ true) → list_all p xs ≡ true
all_pass Q p [] all each = refl
all_pass Q p (x ∷ xs) all each = and_from (p x) (list_all p xs) (each x (all 0 x (omega arith))) (all_pass Q p xs (λ i other inside. all (suc i) other (omega (arith, inside))) each)

-- All readings of a hand pass a test exactly where all of the list do.
readings_pass : (counts : List ℕ) (melds : List Meld) (winning : ℕ) (p : Reading → Bool) → IsCounts counts →
    ((reading : Reading) → IsReading counts melds winning reading → p reading ≡ true) → list_all p (readings_of counts melds winning) ≡ true
readings_pass counts melds winning p are each =
    all_pass (IsReading counts melds winning) p (readings_of counts melds winning) (λ i other inside. (list_law counts melds winning are).each i other inside) each

reading_passes : (counts : List ℕ) (melds : List Meld) (winning : ℕ) (p : Reading → Bool) → IsCounts counts →
    list_all p (readings_of counts melds winning) ≡ true → (reading : Reading) → IsReading counts melds winning reading → p reading ≡ true
reading_passes counts melds winning p are h reading reads =
    let there = (list_law counts melds winning are).all reading reads in
    passes_at p (readings_of counts melds winning) reading there.0 there.1 there.2 h

pub no_yaku_is_found : NoYakuIsFound
unfolding has_no_yaku
no_yaku_is_found view winning are = (
  λ h reading reads.
      is_turned (gives_yaku view.melds view.case reading)
      (reading_passes (kind_counts (won_tiles view)) view.melds winning (λ r. not (gives_yaku view.melds view.case r)) are h reading reads),
  λ each. readings_pass (kind_counts (won_tiles view)) view.melds winning (λ r. not (gives_yaku view.melds view.case r)) are (λ reading reads. ap not (each reading reads)),
)
  where
    is_turned : (b : Bool) → not b ≡ true → b ≡ false
    is_turned true h = cc
    is_turned false h = refl

-- There is never room for five.
few_room : (tiles : List ℕ) (kind : ℕ) → kind < 34 → get_or (room_beside tiles) kind 0 ≤ 4
unfolding room_beside all_kinds
few_room tiles kind small = less _ _ (get_or-map-range_with_len (λ k. 4 - number_of tiles k) 0 34 kind kind 0 small (omega arith))
  where
    less : (n m : ℕ) → n ≡ 4 - m → n ≤ 4
    less n m e = omega (arith, e)

pub seat_waits_are_found : SeatWaitsAreFound
unfolding waits_of
seat_waits_are_found view kind are small =
    let test = is_wait (kind_counts (concealed view)) (room view) (length view.melds) in
    let both = waits_are_found (kind_counts (concealed view)) (room view) (length view.melds) kind are (few_room (flat_map tiles_of_meld view.melds) kind small) in
    (λ h. both.0 (sym (has_kind-kinds_that test kind small) ∙ h), λ wait. has_kind-kinds_that test kind small ∙ both.1 wait)

-- Fewer tiles of a kind.
few_left : (ns : List ℕ) (kind n : ℕ) → NoFifth ns → NoFifth (fewer ns kind n)
few_left ns kind n few k = at (cases_eq k kind) (cases_lt kind (length ns))
  where
    less : (a b c : ℕ) → a ≡ b - c → b ≤ 4 → a ≤ 4
    less a b c e h = omega (arith, e, h)

    at : (k ≡ kind) ⊎ (k ≡ kind → ⊥) → (kind < length ns) ⊎ (length ns ≤ kind) → get_or (fewer ns kind n) k 0 ≤ 4
    at (inl same) (inl inside) = less _ _ n (ap (λ (j : ℕ). get_or (fewer ns kind n) j 0) same ∙ get_or-set_same ns kind (get_or ns kind 0 - n) 0 inside) (few kind)
    at (inl same) (inr past) = subst (λ (xs : List ℕ). get_or xs k 0 ≤ 4) (sym (set_past ns kind (get_or ns kind 0 - n) past)) (few k)
    at (inr apart) there = subst (λ (m : ℕ). m ≤ 4) (sym (get_or-set_other ns kind k (get_or ns kind 0 - n) 0 apart)) (few k)

counts_left : (counts : List ℕ) (kind n : ℕ) → IsCounts counts → IsCounts (fewer counts kind n)
counts_left counts kind n are = record { size = length-set counts kind (get_or counts kind 0 - n) ∙ are.size; within = few_left counts kind n are.within }

-- Two tests have the same answer exactly where each holds where the other does.
same_both : (a b : Bool) → is_same a b ≡ true → (a ≡ true → b ≡ true) × (b ≡ true → a ≡ true)
same_both true b h = (λ e. h, λ e. refl)
same_both false true h = cc
same_both false false h = (λ e. e, λ e. e)

both_same : (a b : Bool) → (a ≡ true → b ≡ true) → (b ≡ true → a ≡ true) → is_same a b ≡ true
both_same true b f g = f refl
both_same false true f g = g refl
both_same false false f g = refl

unless : (a b : Bool) → (not a || b) ≡ true → a ≡ true → b ≡ true
unless true b h e = h
unless false b h e = cc

unless_it : (a b : Bool) → (a ≡ true → b ≡ true) → (not a || b) ≡ true
unless_it true b f = f refl
unless_it false b f = refl

pub kans_are_found : KansAreFound
unfolding is_riichi_kan
kans_are_found counts room melds drawn kind are few = (found, kept)
  where
    before : (wait : ℕ) → (is_wait counts room (length melds) wait ≡ true → IsWait counts room (length melds) wait) ×
        (IsWait counts room (length melds) wait → is_wait counts room (length melds) wait ≡ true)
    before wait = waits_are_found counts room (length melds) wait are (few wait)

    behind : (wait : ℕ) → (is_wait (fewer counts kind 3) (fewer room kind 4) (length melds + 1) wait ≡ true → IsWait (fewer counts kind 3) (fewer room kind 4) (length melds + 1) wait)
        × (IsWait (fewer counts kind 3) (fewer room kind 4) (length melds + 1) wait → is_wait (fewer counts kind 3) (fewer room kind 4) (length melds + 1) wait ≡ true)
    behind wait = waits_are_found (fewer counts kind 3) (fewer room kind 4) (length melds + 1) wait (counts_left counts kind 3 are) (few_left room kind 4 few wait)

    more : (wait : ℕ) → IsWait counts room (length melds) wait → IsCounts (one_more counts wait)
    more wait is = counts-one_more counts wait are (below _ _ is.0 (few wait))
      where
        below : (held room : ℕ) → held < room → room ≤ 4 → held < 4
        below held room h few = omega (arith, h, few)

    found : is_riichi_kan counts room melds drawn kind ≡ true → (kind ≡ drawn) × ((3 ≤ get_or counts kind 0) × LeavesHand counts room melds kind)
    found h =
        let one = and_parts ((eqb kind drawn && leb 3 (get_or counts kind 0)) && list_all (keeps_wait counts room (length melds) kind) all_kinds)
        (list_all (reads_as_triplet counts room melds kind) all_kinds) h in
        let two = and_parts (eqb kind drawn && leb 3 (get_or counts kind 0)) (list_all (keeps_wait counts room (length melds) kind) all_kinds) one.0 in
        let three = and_parts (eqb kind drawn) (leb 3 (get_or counts kind 0)) two.0 in (
          eqb-true kind drawn three.0,
          (
            leb-true 3 (get_or counts kind 0) three.1,
            record {
              waits = λ wait small.
                  let both = same_both (is_wait counts room (length melds) wait) (is_wait (fewer counts kind 3) (fewer room kind 4) (length melds + 1)
                  wait) (each_kind (keeps_wait counts room (length melds) kind) wait small two.1) in
                  (λ is. (behind wait).0 (both.0 ((before wait).1 is)), λ is. (before wait).0 (both.1 ((behind wait).1 is)));
              read = λ wait small is.
                  reading_passes (one_more counts wait) melds wait (has_own_triplet kind) (more wait is)
                  (unless (is_wait counts room (length melds) wait) _ (each_kind (reads_as_triplet counts room melds kind) wait small one.1) ((before wait).1 is));
            },
          ),
        )

    kept : (kind ≡ drawn) × ((3 ≤ get_or counts kind 0) × LeavesHand counts room melds kind) → is_riichi_kan counts room melds drawn kind ≡ true
    kept h =
        let leaves : LeavesHand counts room melds kind = h.1.1 in
        and_from ((eqb kind drawn && leb 3 (get_or counts kind 0)) && list_all (keeps_wait counts room (length melds) kind) all_kinds) (list_all (reads_as_triplet counts room melds kind) all_kinds)
        (and_from (eqb kind drawn && leb 3 (get_or counts kind 0)) (list_all (keeps_wait counts room (length melds) kind) all_kinds)
        (and_from (eqb kind drawn) (leb 3 (get_or counts kind 0)) (eq-eqb kind drawn h.0) (le-leb 3 (get_or counts kind 0) h.1.0))
        (all_kinds-pass (keeps_wait counts room (length melds) kind) (λ wait small.
        both_same (is_wait counts room (length melds) wait) (is_wait (fewer counts kind 3) (fewer room kind 4) (length melds + 1) wait)
        (λ e. (behind wait).1 ((leaves.waits wait small).0 ((before wait).0 e))) (λ e. (before wait).1 ((leaves.waits wait small).1 ((behind wait).0 e))))))
        (all_kinds-pass (reads_as_triplet counts room melds kind) (λ wait small.
        unless_it (is_wait counts room (length melds) wait) (list_all (has_own_triplet kind) (readings_of (one_more counts wait) melds wait))
        (λ e. readings_pass (one_more counts wait) melds wait (has_own_triplet kind) (more wait ((before wait).0 e)) (leaves.read wait small ((before wait).0 e)))))
