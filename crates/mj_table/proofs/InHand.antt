-- The newest deed, what it comes of and the drawn tile, as the newest hand has them.
use Rattle.std.proofs.Common.{◌≡◌, ℕ, suc, ◌-◌, Bool, true, false, not, cond, ◌||◌, List, [], ◌∷◌, ◌++◌, length, take, refl, sym, ap, ◌∙◌, arith}
use Rattle.std.specs.Prelude.{Some, None, slice_get, option_and_then}
use Rattle.std.specs.List.{list_any}
use Rattle.mj_deeds.specs.declared.deed.Deed.{Deed}
use Rattle.mj_deeds.specs.declared.deed.Deed.TheVariants.{StartGame, StartHand, Discard, Dora, ReachAccepted, Win, EndHand}
use Rattle.mj_deeds.specs.Course.{comes_of, cause, only_if, is_reach, is_offer, before_wins}
use Rattle.mj_deeds.specs.Points.{is_win}
use Rattle.mj_deeds.specs.Facts.{newest, before_newest, holds_drawn, drawn_tile}
use Rattle.mj_deeds.specs.Fits.{fits, all_fit}
use Rattle.mj_deeds.specs.Hand.{is_hand_start, from_last, hand}
use Rattle.mj_deeds.proofs.Newest.{newest_more, before_more}
use Rattle.mj_deeds.proofs.HandSteps.{behind, hand_more}
use Rattle.mj_deeds.proofs.Fitted.{all_fit-append, kept, parts_of, past_of, is_past_start, some_hand}

-- What the newest deed comes of, and the drawn tile, are those of the deed that was added last.
pub cause_more : (xs : List Deed) (d : Deed) → cause (xs ++ d ∷ []) ≡ comes_of xs d
cause_more xs d =
    ap (option_and_then (comes_of (take (length (xs ++ d ∷ []) - 1) (xs ++ d ∷ [])))) (newest_more xs d)
    ∙ ap (λ (ys : List Deed). comes_of ys d) (before_more xs d)

pub drawn_more : (xs : List Deed) (d : Deed) (seat : ℕ) → drawn_tile (xs ++ d ∷ []) seat ≡ holds_drawn seat (newest xs) d
drawn_more xs d seat =
    ap (option_and_then (holds_drawn seat (before_newest (xs ++ d ∷ [])))) (newest_more xs d)
    ∙ ap (λ (ys : List Deed). holds_drawn seat (newest ys) d) (before_more xs d)

one_less : (n : ℕ) → suc n - 1 ≡ n
one_less n = omega arith

-- A deed before others changes neither the newest one nor what it comes of, where these hold a start of a hand.

further : {A : Type 0} (d x : A) (xs : List A) → slice_get (d ∷ x ∷ xs) (length (d ∷ x ∷ xs) - 1) ≡ slice_get (x ∷ xs) (length (x ∷ xs) - 1)
further d x xs = ap (slice_get (d ∷ x ∷ xs)) (one_less (suc (length xs))) ∙ sym (ap (slice_get (x ∷ xs)) (one_less (length xs)))

newest_before : (d : Deed) (ds : List Deed) (x : Deed) (xs : List Deed) → from_last is_hand_start ds ≡ x ∷ xs → newest (d ∷ ds) ≡ newest ds
newest_before d [] x xs e = cc
newest_before d (y ∷ ys) x xs e = further d y ys

-- What a deed before others doesn't change is the same of all deeds and of those from the last start on.
from_start : {A : Type 0} (f : List Deed → A) → ((d : Deed) (ds : List Deed) (x : Deed) (xs : List Deed) → from_last is_hand_start ds ≡ x ∷ xs → f (d ∷ ds) ≡ f ds) →
    (ds : List Deed) (x : Deed) (xs : List Deed) → from_last is_hand_start ds ≡ x ∷ xs → f (x ∷ xs) ≡ f ds
from_start f step [] x xs e = cc
from_start f step (d ∷ ds) x xs e = by_tests (list_any is_hand_start ds) (is_hand_start d) e (λ h. from_start f step ds x xs h ∙ sym (step d ds x xs h))
  where
    by_tests : (a b : Bool) → cond a (from_last is_hand_start ds) (cond b (d ∷ ds) []) ≡ x ∷ xs → (from_last is_hand_start ds ≡ x ∷ xs → f (x ∷ xs) ≡ f (d ∷ ds)) → f (x ∷ xs) ≡ f (d ∷ ds)
    by_tests true b h later = later h
    by_tests false true h later = ap f (sym h)
    by_tests false false h later = cc

-- The newest deed of the newest hand is the newest of all.
pub newest_in_hand : (ds : List Deed) (x : Deed) (xs : List Deed) → hand ds ≡ x ∷ xs → newest (x ∷ xs) ≡ newest ds
unfolding hand
newest_in_hand ds x xs e = from_start newest newest_before ds x xs e

-- The newest of the deeds before the winners are named, as the newest hand has it.

pub has_start : (ds : List Deed) (x : Deed) (xs : List Deed) → from_last is_hand_start ds ≡ x ∷ xs → list_any is_hand_start ds ≡ true
has_start [] x xs e = cc
has_start (d ∷ ds) x xs e = by_tests (list_any is_hand_start ds) (is_hand_start d) e
  where
    by_tests : (a b : Bool) → cond a (from_last is_hand_start ds) (cond b (d ∷ ds) []) ≡ x ∷ xs → (b || a) ≡ true
    by_tests true true h = refl
    by_tests true false h = refl
    by_tests false true h = refl
    by_tests false false h = cc

start_no_win : (d : Deed) → is_hand_start d ≡ true → is_win d ≡ false
start_no_win (StartHand round number honba deposits dealer indicator hands) h = refl
start_no_win other h = cc

some_left : (ds : List Deed) → list_any is_hand_start ds ≡ true → before_wins ds ≡ [] → ⊥
some_left [] h e = cc
some_left (d ∷ ds) h e = by_tests (is_hand_start d) (is_win d) refl refl h e (some_left ds)
  where
    some : (x : Deed) (xs : List Deed) → x ∷ xs ≡ [] → ⊥
    some x xs k = cc

    both : (b : Bool) → b ≡ true → b ≡ false → ⊥
    both b k l = cc

    by_tests : (a b : Bool) → is_hand_start d ≡ a → is_win d ≡ b → (a || list_any is_hand_start ds) ≡ true → cond (not b) (d ∷ before_wins ds) (before_wins ds) ≡ [] →
        (list_any is_hand_start ds ≡ true → before_wins ds ≡ [] → ⊥) → ⊥
    by_tests a false s w h e others = some d (before_wins ds) e
    by_tests true true s w h e others = both (is_win d) w (start_no_win d s)
    by_tests false true s w h e others = others h e

wins_before : (d : Deed) (ds : List Deed) (x : Deed) (xs : List Deed) → from_last is_hand_start ds ≡ x ∷ xs → newest (before_wins (d ∷ ds)) ≡ newest (before_wins ds)
wins_before d ds x xs e = by_list (is_win d) (before_wins ds) (some_left ds (has_start ds x xs e))
  where
    by_list : (b : Bool) (ys : List Deed) → (ys ≡ [] → ⊥) → newest (cond (not b) (d ∷ ys) ys) ≡ newest ys
    by_list b [] some = absurd (some refl)
    by_list true (y ∷ ys) some = refl
    by_list false (y ∷ ys) some = further d y ys

wins_in_hand : (ds : List Deed) (x : Deed) (xs : List Deed) → hand ds ≡ x ∷ xs → newest (before_wins (x ∷ xs)) ≡ newest (before_wins ds)
unfolding hand
wins_in_hand ds x xs e = from_start (λ ds. newest (before_wins ds)) wins_before ds x xs e

-- What the newest deed has, of those before it, as the newest hand has it: a start has the same of all, a deed before the
-- first hand what no deed has, and every other deed the same of its hand.
pub hand_none : hand [] ≡ []
unfolding hand
hand_none = refl

by_newest : {A : Type 0} (F : List Deed → A) (f : List Deed → Deed → A) (red : Bool) (ds : List Deed) →
    ((xs : List Deed) (d : Deed) → F (xs ++ d ∷ []) ≡ f xs d) →
    ((xs : List Deed) (d : Deed) → is_hand_start d ≡ true → f [] d ≡ f xs d) →
    ((xs : List Deed) (d : Deed) → is_past_start (Some d) ≡ false → F [] ≡ f xs d) →
    ((xs : List Deed) (d x : Deed) (ys : List Deed) → hand xs ≡ x ∷ ys → f (x ∷ ys) d ≡ f xs d) →
    all_fit red [] ds ≡ true → F (hand ds) ≡ F ds
by_newest F f red ds more starts out same fit = (kept (λ (xs : List Deed). (all_fit red [] xs ≡ true) × (F (hand xs) ≡ F xs)) red [] ds step (refl, ap F hand_none) fit).1
  where
    by_past : (xs : List Deed) (d : Deed) (b : Bool) → is_past_start (Some d) ≡ b → (b ≡ true → ⊥) → is_past_start (Some d) ≡ false
    by_past xs d true e never = absurd (never refl)
    by_past xs d false e never = e

    by_test : (xs : List Deed) (d : Deed) → all_fit red [] xs ≡ true → fits red xs d ≡ true → (b : Bool) → is_hand_start d ≡ b → (h : List Deed) →
        hand xs ≡ h → F (cond b (d ∷ []) (behind h d)) ≡ f xs d
    by_test xs d all one true e h k = more [] d ∙ starts xs d e
    by_test xs d all one false e (x ∷ ys) k = more (x ∷ ys) d ∙ same xs d x ys k
    by_test xs d all one false e [] k =
        out xs d (by_past xs d (is_past_start (Some d)) refl (λ p. some_hand red xs all (past_of xs d (parts_of red xs d one).place e p) k))

    step : (xs : List Deed) (d : Deed) → (all_fit red [] xs ≡ true) × (F (hand xs) ≡ F xs) → fits red xs d ≡ true →
        (all_fit red [] (xs ++ d ∷ []) ≡ true) × (F (hand (xs ++ d ∷ [])) ≡ F (xs ++ d ∷ []))
    step xs d old one =
        (all_fit-append red [] xs d old.0 one, ap F (hand_more xs d) ∙ by_test xs d old.0 one (is_hand_start d) refl (hand xs) refl ∙ sym (more xs d))

-- Of deeds that fit, what the newest one comes of stands in its hand.
pub cause_in_hand : (red : Bool) (ds : List Deed) → all_fit red [] ds ≡ true → cause (hand ds) ≡ cause ds
cause_in_hand red ds fit = by_newest cause comes_of red ds cause_more starts out same fit
  where
    starts : (xs : List Deed) (d : Deed) → is_hand_start d ≡ true → comes_of [] d ≡ comes_of xs d
    starts xs (StartHand round number honba deposits dealer indicator hands) h = refl
    starts xs other h = cc

    out : (xs : List Deed) (d : Deed) → is_past_start (Some d) ≡ false → None ≡ comes_of xs d
    out xs (StartGame names) h = refl
    out xs other h = cc

    same : (xs : List Deed) (d x : Deed) (ys : List Deed) → hand xs ≡ x ∷ ys → comes_of (x ∷ ys) d ≡ comes_of xs d
    same xs (Discard who tile drawn) x ys e = ap (only_if is_reach) (newest_in_hand xs x ys e)
    same xs (ReachAccepted who points bid) x ys e = newest_in_hand xs x ys e
    same xs (Win who target tile unders hand yaku fu han value deltas points rest) x ys e = ap (only_if is_offer) (wins_in_hand xs x ys e)
    same xs (Dora tile) x ys e = newest_in_hand xs x ys e
    same xs EndHand x ys e = newest_in_hand xs x ys e
    same xs other x ys e = refl

-- Of deeds that fit, the tile that a seat holds as drawn is the one that the newest hand tells.
pub drawn_in_hand : (red : Bool) (ds : List Deed) (seat : ℕ) → all_fit red [] ds ≡ true → drawn_tile (hand ds) seat ≡ drawn_tile ds seat
drawn_in_hand red ds seat fit = by_newest (λ (xs : List Deed). drawn_tile xs seat) (λ (xs : List Deed) d. holds_drawn seat (newest xs) d) red ds (λ xs d. drawn_more xs d seat) starts out same fit
  where
    starts : (xs : List Deed) (d : Deed) → is_hand_start d ≡ true → holds_drawn seat (newest []) d ≡ holds_drawn seat (newest xs) d
    starts xs (StartHand round number honba deposits dealer indicator hands) h = refl
    starts xs other h = cc

    out : (xs : List Deed) (d : Deed) → is_past_start (Some d) ≡ false → None ≡ holds_drawn seat (newest xs) d
    out xs (StartGame names) h = refl
    out xs other h = cc

    same : (xs : List Deed) (d x : Deed) (ys : List Deed) → hand xs ≡ x ∷ ys → holds_drawn seat (newest (x ∷ ys)) d ≡ holds_drawn seat (newest xs) d
    same xs d x ys e = ap (λ o. holds_drawn seat o d) (newest_in_hand xs x ys e)
