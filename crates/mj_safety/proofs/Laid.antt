-- Each tile of a meld lies open once, and beside it the discard that may yet be called.
use Rattle.std.proofs.Common.{◌≡◌, ℕ, ◌+◌, ◌≤◌, ◌==◌, Bool, true, false, cond, eqb, List, [], ◌∷◌, ◌++◌, refl, sym, ap, ◌∙◌, subst, arith}
use Rattle.std.specs.Prelude.{Option, Some, None, flat_map}
use Rattle.std.proofs.lemmas.Bool.{and_parts, eqb-true}
use Rattle.mj_tiles.specs.Counts.{number_of}
use Rattle.mj_tiles.proofs.CountSteps.{number_of-append}
use Rattle.mj_deeds.specs.declared.deed.Deed.{Deed}
use Rattle.mj_deeds.specs.declared.deed.Deed.TheVariants.{StartHand, Discard, Chi, Pon, OpenKan, ClosedKan, AddedKan, ReachAccepted}
use Rattle.mj_deeds.specs.Facts.{newest, of_seat, adds_by}
use Rattle.mj_deeds.specs.Fits.{fits, all_fit, ground_of, is_in_hand, is_discard_of, taken_from, is_in_place}
use Rattle.mj_deeds.specs.Hand.{is_hand_start, hand}
use Rattle.mj_deeds.proofs.HandSteps.{behind, hand_more}
use Rattle.mj_deeds.proofs.Newest.{newest_more, before_more}
use Rattle.mj_deeds.proofs.Fitted.{kept, parts_of}
use Rattle.mj_rules.proofs.Promises.{newest_in}
use Rattle.mj_sights.specs.Seen.{opened_by, open_tiles}
use Rattle.mj_safety.proofs.Quiet.{more_of}

-- The tiles of the meld that a seat makes by a deed, other than a tile added to one.
abbrev pub melded_by : ℕ → Deed → List ℕ
melded_by seat (Chi who target tile a b) = of_seat seat who (tile ∷ a ∷ b ∷ [])
melded_by seat (Pon who target tile a b) = of_seat seat who (tile ∷ a ∷ b ∷ [])
melded_by seat (OpenKan who target tile a b c) = of_seat seat who (tile ∷ a ∷ b ∷ c ∷ [])
melded_by seat (ClosedKan who a b c d) = of_seat seat who (a ∷ b ∷ c ∷ d ∷ [])
melded_by seat other = []

-- The discard that may be called.
abbrev callable : Option Deed → List ℕ
callable (Some (Discard who tile drawn)) = tile ∷ []
callable other = []

-- The tiles of a kind in the melds of a seat, and the discard that may be called, are no more than lie open.
abbrev Laid : ℕ → ℕ → List Deed → Type 0
Laid seat kind hs = number_of (flat_map (melded_by seat) hs) kind + number_of (flat_map (adds_by seat) hs) kind + number_of (callable (taken_from hs (newest hs))) kind ≤ number_of (open_tiles hs) kind

-- A call takes that discard.
abbrev Takes : List Deed → Deed → Type 0
Takes hs (Chi who target tile a b) = is_discard_of (taken_from hs (newest hs)) target tile ≡ true
Takes hs (Pon who target tile a b) = is_discard_of (taken_from hs (newest hs)) target tile ≡ true
Takes hs (OpenKan who target tile a b c) = is_discard_of (taken_from hs (newest hs)) target tile ≡ true
Takes hs other = Unit {0}

callable_is : (o : Option Deed) (target called : ℕ) → is_discard_of o target called ≡ true → callable o ≡ called ∷ []
callable_is None target called h = cc
callable_is (Some (Discard who tile drawn)) target called h = ap (λ t. t ∷ []) (eqb-true tile called (and_parts (who == target) (tile == called) h).1)
callable_is (Some other) target called h = cc

of_call : (seat who tile : ℕ) (own waiting : List ℕ) (kind : ℕ) → waiting ≡ tile ∷ [] → number_of (of_seat seat who (tile ∷ own)) kind + 0 + 0 ≤ number_of waiting kind + number_of own kind
of_call seat who tile own waiting kind e = by_test (eqb who seat) (ap (λ (xs : List ℕ). number_of xs kind) e) (number_of-append (tile ∷ []) own kind)
  where
    all : (n w t o : ℕ) → w ≡ t → n ≡ t + o → n + 0 + 0 ≤ w + o
    all n w t o e f = omega (arith, e, f)

    by_test : (b : Bool) → number_of waiting kind ≡ number_of (tile ∷ []) kind → number_of (tile ∷ own) kind ≡ number_of (tile ∷ []) kind + number_of own kind →
        number_of (cond b (tile ∷ own) []) kind + 0 + 0 ≤ number_of waiting kind + number_of own kind
    by_test true w n = all _ _ _ _ w n
    by_test false w n = omega arith

of_own : (seat who : ℕ) (own : List ℕ) (kind w : ℕ) → number_of (of_seat seat who own) kind ≤ w + number_of own kind
of_own seat who own kind w = by_test (eqb who seat)
  where
    by_test : (b : Bool) → number_of (cond b own []) kind ≤ w + number_of own kind
    by_test true = omega arith
    by_test false = omega arith

accepted : (hs : List Deed) (o : Option Deed) (kind : ℕ) → number_of (callable o) kind ≤ number_of (callable (taken_from hs o)) kind
accepted hs None kind = omega arith
accepted hs (Some (Discard who tile drawn)) kind = omega arith
accepted hs (Some (ReachAccepted who points bid)) kind = omega arith
accepted hs (Some other) kind = omega arith

-- What one deed adds.
adds : (seat kind : ℕ) (hs : List Deed) (d : Deed) → Takes hs d →
    number_of (melded_by seat d) kind + number_of (adds_by seat d) kind + number_of (callable (taken_from (hs ++ d ∷ []) (Some d))) kind ≤ number_of
    (callable (taken_from hs (newest hs))) kind + number_of (opened_by d) kind
adds seat kind hs (Discard who tile drawn) t = omega arith
adds seat kind hs (Chi who target tile a b) t = of_call seat who tile (a ∷ b ∷ []) _ kind (callable_is (taken_from hs (newest hs)) target tile t)
adds seat kind hs (Pon who target tile a b) t = of_call seat who tile (a ∷ b ∷ []) _ kind (callable_is (taken_from hs (newest hs)) target tile t)
adds seat kind hs (OpenKan who target tile a b c) t = of_call seat who tile (a ∷ b ∷ c ∷ []) _ kind (callable_is (taken_from hs (newest hs)) target tile t)
adds seat kind hs (ClosedKan who a b c d) t = plain _ _ (of_own seat who (a ∷ b ∷ c ∷ d ∷ []) kind (number_of (callable (taken_from hs (newest hs))) kind))
  where
    plain : (n m : ℕ) → n ≤ m → n + 0 + 0 ≤ m
    plain n m h = omega (arith, h)
adds seat kind hs (AddedKan who tile a b c) t = plain _ _ (of_own seat who (tile ∷ []) kind (number_of (callable (taken_from hs (newest hs))) kind))
  where
    plain : (n m : ℕ) → n ≤ m → 0 + n + 0 ≤ m
    plain n m h = omega (arith, h)
adds seat kind hs (ReachAccepted who points bid) t =
    plain _ _ _ (ap (λ (xs : List Deed). number_of (callable (newest xs)) kind) (before_more hs (ReachAccepted who points bid))) (accepted hs (newest hs) kind)
  where
    plain : (n m k : ℕ) → n ≡ m → m ≤ k → 0 + 0 + n ≤ k + 0
    plain n m k e h = omega (arith, e, h)
adds seat kind hs other t = omega arith

more : (f : Deed → List ℕ) (hs : List Deed) (d : Deed) (kind : ℕ) → number_of (flat_map f (hs ++ d ∷ [])) kind ≡ number_of (flat_map f hs) kind + number_of (f d) kind
more f hs d kind = ap (λ (xs : List ℕ). number_of xs kind) (more_of f hs d) ∙ number_of-append (flat_map f hs) (f d) kind

laid_more : (seat kind : ℕ) (hs : List Deed) (d : Deed) → Takes hs d → Laid seat kind hs → Laid seat kind (hs ++ d ∷ [])
laid_more seat kind hs d t l =
    sum _ _ _ _ _ _ _ _ _ _ _ (more (melded_by seat) hs d kind) (more (adds_by seat) hs d kind) (more opened_by hs d kind) l
    (subst (λ (o : Option Deed). number_of (melded_by seat d) kind + number_of (adds_by seat d) kind + number_of
    (callable (taken_from (hs ++ d ∷ []) o)) kind ≤ number_of (callable (taken_from hs (newest hs))) kind + number_of (opened_by d) kind)
    (sym (newest_more hs d)) (adds seat kind hs d t))
  where
    sum : (m m' dm a a' da w w' o o' n : ℕ) → m' ≡ m + dm → a' ≡ a + da → o' ≡ o + n → m + a + w ≤ o → dm + da + w' ≤ w + n → m' + a' + w' ≤ o'
    sum m m' dm a a' da w w' o o' n e f g h k = omega (arith, e, f, g, h, k)

taken_begun : (hs : List Deed) (o : Option Deed) (target called : ℕ) → is_discard_of (taken_from hs o) target called ≡ true → is_in_hand o ≡ true
taken_begun hs None target called h = cc
taken_begun hs (Some (Discard who tile drawn)) target called h = refl
taken_begun hs (Some (ReachAccepted who points bid)) target called h = refl
taken_begun hs (Some other) target called h = cc

takes_of : (ds : List Deed) (d : Deed) → (hand ds ≡ [] → ⊥) → is_in_place (ground_of ds) d ≡ true → Takes (hand ds) d
unfolding ground_of
takes_of ds (Chi who target tile a b) some h = ap (λ (o : Option Deed). is_discard_of (taken_from (hand ds) o) target tile) (newest_in ds (taken_begun (hand ds) (newest ds) target tile h) some) ∙ h
takes_of ds (Pon who target tile a b) some h = ap (λ (o : Option Deed). is_discard_of (taken_from (hand ds) o) target tile) (newest_in ds (taken_begun (hand ds) (newest ds) target tile h) some) ∙ h
takes_of ds (OpenKan who target tile a b c) some h = ap (λ (o : Option Deed). is_discard_of (taken_from (hand ds) o) target tile)
    (newest_in ds (taken_begun (hand ds) (newest ds) target tile h) some) ∙ h
takes_of ds other some h = tt

start_laid : (seat kind : ℕ) (d : Deed) → is_hand_start d ≡ true → Laid seat kind (d ∷ [])
start_laid seat kind (StartHand round number honba deposits dealer indicator hands) h = omega arith
start_laid seat kind other h = cc

-- The melds of a seat lie open.
pub laid : (red : Bool) (ds : List Deed) (seat kind : ℕ) → all_fit red [] ds ≡ true → number_of (flat_map (melded_by seat) (hand ds)) kind + number_of
    (flat_map (adds_by seat) (hand ds)) kind ≤ number_of (open_tiles (hand ds)) kind
unfolding hand
laid red ds seat kind fit = less _ _ _ _ (kept (λ xs. Laid seat kind (hand xs)) red [] ds step (omega arith) fit)
  where
    less : (m a w o : ℕ) → m + a + w ≤ o → m + a ≤ o
    less m a w o h = omega (arith, h)

    some : (x : Deed) (h : List Deed) → x ∷ h ≡ [] → ⊥
    some x h e = cc

    by_hand : (xs : List Deed) (d : Deed) (h : List Deed) (b : Bool) → hand xs ≡ h → is_hand_start d ≡ b → is_in_place (ground_of xs) d ≡ true →
        Laid seat kind h → Laid seat kind (cond b (d ∷ []) (behind h d))
    by_hand xs d h true e f p l = start_laid seat kind d f
    by_hand xs d [] false e f p l = l
    by_hand xs d (x ∷ h) false e f p l = laid_more seat kind (x ∷ h) d (subst (λ (hs : List Deed). Takes hs d) e (takes_of xs d (λ empty. some x h (sym e ∙ empty)) p)) l

    step : (xs : List Deed) (d : Deed) → Laid seat kind (hand xs) → fits red xs d ≡ true → Laid seat kind (hand (xs ++ d ∷ []))
    step xs d l f = subst (Laid seat kind) (sym (hand_more xs d)) (by_hand xs d (hand xs) (is_hand_start d) refl refl (parts_of red xs d f).place l)
