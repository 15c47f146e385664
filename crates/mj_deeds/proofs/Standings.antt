-- How a game of deeds that fit stands, one hand after another.
use Rattle.std.proofs.Common.{◌≡◌, ℕ, suc, ◌+◌, ◌-◌, ◌<◌, ◌≤◌, Bool, true, false, cond, ◌&&◌, ◌||◌, List, [], ◌∷◌, ◌++◌, length, Option, Some, None, refl, sym, ap, ◌∙◌, subst, arith}
use Rattle.std.specs.Prelude.{is_none, ◌==◌, ◌%◌}
use Rattle.std.specs.Option.{option_map_or}
use Rattle.std.proofs.lemmas.Bool.{and_parts, eqb-true}
use Rattle.std.proofs.lemmas.Option.{slice_get-get_or}
use Rattle.mj_rounds.specs.declared.rounds.Standing.{Standing}
use Rattle.mj_rounds.specs.declared.rounds.HandEnd.{HandEnd}
use Rattle.mj_rounds.specs.Rounds.{MayStand, is_round, first_standing, next_standing, is_last, stays, is_draw, round_is_over, dealer_after, honba_after}
use Rattle.mj_deeds.specs.declared.deed.Deed.{Deed}
use Rattle.mj_deeds.specs.declared.deed.Deed.TheVariants.{StartGame, StartHand}
use Rattle.mj_deeds.specs.Facts.{newest}
use Rattle.mj_deeds.specs.Hand.{is_hand_start, hand, starts}
use Rattle.mj_deeds.specs.Points.{deposits}
use Rattle.mj_deeds.specs.Standings.{standing, standing_by}
use Rattle.mj_deeds.specs.Ends.{standing_after, end_of}
use Rattle.mj_deeds.specs.Fits.{ground_of, fits, all_fit, is_in_place, is_after_start, is_after_hand, starts_with}
use Rattle.mj_deeds.proofs.Newest.{newest_more}
use Rattle.mj_deeds.proofs.HandSteps.{starts_more, standing_hand, standing_stays, standing_starts}
use Rattle.mj_deeds.proofs.Fitted.{kept, parts_of, is_past_start, past_of, after_past}

-- A standing of a game: round east or south, dealer 0 to 3, no more honba than hands before, one of 200 hands.
record Stands (now : Standing) : Type 0 where
  round : is_round now.round ≡ true
  dealer : now.dealer ≤ 3
  honba : now.honba ≤ now.hand
  hand : now.hand ≤ 199

-- The hand that follows one.

next_is : (now next : Standing) (end : HandEnd) → next_standing now end ≡ Some next →
    (is_last now end ≡ false) × (next ≡ record { round = cond (round_is_over now end) 28 now.round; dealer = dealer_after now.dealer end; honba = honba_after now.honba end; hand = now.hand + 1 })
unfolding next_standing
next_is now next end e = by_test (is_last now end) refl e
  where
    after : Standing
    after = record { round = cond (round_is_over now end) 28 now.round; dealer = dealer_after now.dealer end; honba = honba_after now.honba end; hand = now.hand + 1 }

    some_is : (a b : Standing) → Some a ≡ Some b → b ≡ a
    some_is a b h = cc

    by_test : (b : Bool) → is_last now end ≡ b → cond b None (Some after) ≡ Some next → (is_last now end ≡ false) × (next ≡ after)
    by_test true h k = cc
    by_test false h k = (h, some_is after next k)

stands_next : (now next : Standing) (end : HandEnd) → Stands now → next_standing now end ≡ Some next → (Stands next) × (next.hand ≡ now.hand + 1)
stands_next now next end s e = whole (next_is now next end e)
  where
    after : Standing
    after = record { round = cond (round_is_over now end) 28 now.round; dealer = dealer_after now.dealer end; honba = honba_after now.honba end; hand = now.hand + 1 }

    round_at : (b : Bool) → is_round (cond b 28 now.round) ≡ true
    round_at true = refl
    round_at false = s.round

    dealer_at : (b : Bool) → cond b now.dealer ((now.dealer + 1) % 4) ≤ 3
    dealer_at true = s.dealer
    dealer_at false = omega arith

    honba_at : (b : Bool) → cond b (now.honba + 1) 0 ≤ now.hand + 1
    honba_at true = omega (arith, s.honba)
    honba_at false = omega arith

    not_last : is_last now end ≡ false → now.hand ≡ 199 → ⊥
    not_last h k = both (now.hand == 199) (round_is_over now end && (now.round == 28)) h (ap (λ n. n == 199) k)
      where
        both : (a b : Bool) → (a || b) ≡ false → a ≡ true → ⊥
        both true b h k = cc
        both false b h k = cc

    within : is_last now end ≡ false → now.hand + 1 ≤ 199
    within h = omega (arith, s.hand, not_last h)

    whole : (is_last now end ≡ false) × (next ≡ after) → (Stands next) × (next.hand ≡ now.hand + 1)
    whole p = (
      subst Stands (sym p.1) (record { round = round_at (round_is_over now end); dealer = dealer_at (stays end); honba = honba_at (is_draw end || stays end); hand = within p.0 }),
      ap (λ (x : Standing). x.hand) p.1,
    )

-- A start of a hand says the standing that it is held against.
start_says : (now : Standing) (lying number : ℕ) (d : Deed) → starts_with now lying d ≡ true →
    standing_by number (Some d) ≡ record { round = now.round; dealer = now.dealer; honba = now.honba; hand = number }
start_says now lying number (StartHand round dealer_number honba deposits dealer indicator hands) h =
    let a = round == now.round in
    let b = dealer_number == now.dealer + 1 in
    let c = honba == now.honba in
    let d = deposits == lying in
    let e = dealer == now.dealer in
    let p4 = and_parts (a && b && c && d) e h in
    let p3 = and_parts (a && b && c) d p4.0 in
    let p2 = and_parts (a && b) c p3.0 in
    let p1 = and_parts a b p2.0 in
    said (eqb-true round now.round p1.0) (eqb-true dealer now.dealer p4.1) (eqb-true honba now.honba p2.1)
  where
    said : round ≡ now.round → dealer ≡ now.dealer → honba ≡ now.honba →
        ◌≡◌ {A = Standing} (record { round = round; dealer = dealer; honba = honba; hand = number }) (record { round = now.round; dealer = now.dealer; honba = now.honba; hand = number })
    said p q r = λ i. record { round = p i; dealer = q i; honba = r i; hand = number }
start_says now lying number other h = cc

-- What deeds that fit come to.
record Kept (ds : List Deed) : Type 0 where
  none : is_after_start (newest ds) ≡ true → length (starts ds) ≡ 0
  some : is_past_start (newest ds) ≡ true → 0 < length (starts ds)
  stands : Stands (standing ds)

-- What a start of a hand is held against.
data Comes (ds : List Deed) (d : Deed) : Type 0 where
  First : is_after_start (newest ds) ≡ true → starts_with first_standing 0 d ≡ true → Comes ds d
  Later : (next : Standing) → is_after_hand (newest ds) ≡ true → standing_after (standing ds) (hand ds) ≡ Some next → starts_with next (deposits ds) d ≡ true → Comes ds d

comes : (ds : List Deed) (d : Deed) → is_hand_start d ≡ true → is_in_place (ground_of ds) d ≡ true → Comes ds d
unfolding ground_of
comes ds (StartHand round number honba lying dealer indicator hands) s h =
    either (is_after_start (newest ds)) (starts_with first_standing 0 d) (is_after_hand (newest ds)) (standing_after (standing ds) (hand ds)) refl refl refl refl h
  where
    d : Deed
    d = StartHand round number honba lying dealer indicator hands

    either : (a b c : Bool) (o : Option Standing) → is_after_start (newest ds) ≡ a → starts_with first_standing 0 d ≡ b → is_after_hand (newest ds) ≡ c → standing_after (standing ds) (hand ds) ≡ o →
        ((a && b) || (c && option_map_or (λ next. starts_with next (deposits ds) d) o false)) ≡ true → Comes ds d
    either true true c o p q r t h = First p q
    either true false true (Some next) p q r t h = Later next r t h
    either true false true None p q r t h = cc
    either true false false o p q r t h = cc
    either false b true (Some next) p q r t h = Later next r t h
    either false b true None p q r t h = cc
    either false b false o p q r t h = cc
comes ds other s h = cc

no_starts : (ds : List Deed) → is_none (newest ds) ≡ true → length (starts ds) ≡ 0
no_starts [] h = refl
no_starts (x ∷ ds) h = absurd (no (sym (ap is_none (slice_get-get_or (x ∷ ds) (length (x ∷ ds) - 1) x (inside (length ds)))) ∙ h))
  where
    no : false ≡ true → ⊥
    no e = cc

    inside : (n : ℕ) → suc n - 1 < suc n
    inside n = omega arith

game_first : (ds : List Deed) (d : Deed) → is_in_place (ground_of ds) d ≡ true → is_after_start (Some d) ≡ true → (is_none (newest ds) ≡ true) × (is_hand_start d ≡ false)
unfolding ground_of
game_first ds (StartGame names) h k = (h, refl)
game_first ds other h k = cc

-- Where no hand was started before, and where one was.

stands_first : (number : ℕ) → number ≡ 0 → Stands (record { round = 27; dealer = 0; honba = 0; hand = number })
stands_first number e = record { round = refl; dealer = omega arith; honba = omega arith; hand = omega (arith, e) }

stands_numbered : (next : Standing) (number : ℕ) → Stands next → next.hand ≡ number → Stands (record { round = next.round; dealer = next.dealer; honba = next.honba; hand = number })
stands_numbered next number s e = record { round = s.round; dealer = s.dealer; honba = omega (arith, s.honba, e); hand = omega (arith, s.hand, e) }

number_next : (ds : List Deed) (next : Standing) → Kept ds → is_after_hand (newest ds) ≡ true → standing_after (standing ds) (hand ds) ≡ Some next → (Stands next) × (next.hand ≡ length (starts ds))
number_next ds next k h e =
    let p = stands_next (standing ds) next (end_of (hand ds) (standing ds).dealer) k.stands e in
    (p.0, plus next.hand (standing ds).hand (length (starts ds)) p.1 (standing_hand ds) (k.some (after_past (newest ds) h)))
  where
    plus : (n m l : ℕ) → n ≡ m + 1 → m ≡ l - 1 → 0 < l → n ≡ l
    plus n m l e h k = omega (arith, e, h, k)

stands_start : (ds : List Deed) (d : Deed) → Kept ds → Comes ds d → Stands (standing_by (length (starts ds)) (Some d))
stands_start ds d k (First a s) = subst Stands (sym (start_says first_standing 0 (length (starts ds)) d s)) (stands_first (length (starts ds)) (k.none a))
stands_start ds d k (Later next a n s) =
    let p = number_next ds next k a n in
    subst Stands (sym (start_says next (deposits ds) (length (starts ds)) d s)) (stands_numbered next (length (starts ds)) p.0 p.1)

kept_step : (red : Bool) (ds : List Deed) (d : Deed) → Kept ds → fits red ds d ≡ true → Kept (ds ++ d ∷ [])
kept_step red ds d k f = record { none = none; some = some; stands = stands (is_hand_start d) refl }
  where
    place : is_in_place (ground_of ds) d ≡ true
    place = (parts_of red ds d f).place

    still : (n m : ℕ) (b : Bool) → n ≡ m + cond b 1 0 → m ≡ 0 → b ≡ false → n ≡ 0
    still n m true e h k = cc
    still n m false e h k = omega (arith, e, h)

    none : is_after_start (newest (ds ++ d ∷ [])) ≡ true → length (starts (ds ++ d ∷ [])) ≡ 0
    none h =
        let p = game_first ds d place (ap is_after_start (sym (newest_more ds d)) ∙ h) in
        still _ (length (starts ds)) (is_hand_start d) (starts_more ds d) (no_starts ds p.0) p.1

    more : (n m : ℕ) (b : Bool) → n ≡ m + cond b 1 0 → (b ≡ false → 0 < m) → 0 < n
    more n m true e h = omega (arith, e)
    more n m false e h = omega (arith, e, h refl)

    some : is_past_start (newest (ds ++ d ∷ [])) ≡ true → 0 < length (starts (ds ++ d ∷ []))
    some h = more _ (length (starts ds)) (is_hand_start d) (starts_more ds d) (λ e. k.some (past_of ds d place e (ap is_past_start (sym (newest_more ds d)) ∙ h)))

    stands : (b : Bool) → is_hand_start d ≡ b → Stands (standing (ds ++ d ∷ []))
    stands true e = subst Stands (sym (standing_starts ds d e)) (stands_start ds d k (comes ds d e place))
    stands false e = subst Stands (sym (standing_stays ds d e)) k.stands

kept_all : (red : Bool) (ds : List Deed) → all_fit red [] ds ≡ true → Kept ds
kept_all red ds fit = kept Kept red [] ds (kept_step red) (record { none = λ h. refl; some = λ h. no h; stands = stands_first 0 refl }) fit
  where
    no : false ≡ true → 0 < 0
    no h = cc

-- Deeds that fit stand as a game may stand.
pub may_stand : (red : Bool) (ds : List Deed) → all_fit red [] ds ≡ true → MayStand (standing ds)
may_stand red ds fit = may (kept_all red ds fit).stands
  where
    may : Stands (standing ds) → MayStand (standing ds)
    may s = record { round = s.round; dealer = s.dealer; honba = omega (arith, s.honba, s.hand); hand = s.hand }

-- A game has at most 200 hands, and one that was started has one.
pub few_hands : (red : Bool) (ds : List Deed) → all_fit red [] ds ≡ true → length (starts ds) ≤ 200
few_hands red ds fit = few (standing ds).hand (length (starts ds)) (standing_hand ds) (kept_all red ds fit).stands.hand
  where
    few : (m l : ℕ) → m ≡ l - 1 → m ≤ 199 → l ≤ 200
    few m l e h = omega (arith, e, h)

pub some_starts : (red : Bool) (ds : List Deed) → all_fit red [] ds ≡ true → is_past_start (newest ds) ≡ true → 0 < length (starts ds)
some_starts red ds fit h = (kept_all red ds fit).some h
