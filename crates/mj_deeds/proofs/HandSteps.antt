-- The deeds of the newest hand, one deed further.
use Rattle.std.proofs.Common.{◌≡◌, ℕ, zero, suc, ◌+◌, ◌-◌, ◌<◌, Bool, true, false, cond, ◌||◌, List, [], ◌∷◌, ◌++◌, length, get_or, map, Some, refl, sym, ap, ◌∙◌, subst, arith, append-nil}
use Rattle.std.specs.Prelude.{slice_get, Option}
use Rattle.std.specs.List.{list_any}
use Rattle.std.proofs.lemmas.Option.{slice_get-get_or}
use Rattle.std.proofs.lemmas.List.{length-append}
use Rattle.std.proofs.lemmas.List.Elements.{filter-append}
use Rattle.std.proofs.lemmas.List.Folds.{list_any-append}
use Rattle.mj_deeds.specs.declared.deed.Deed.{Deed}
use Rattle.mj_deeds.specs.Hand.{is_hand_start, from_last, hand, before_in, starts, hand_number}
use Rattle.mj_deeds.specs.declared.deed.Deed.TheVariants.{StartHand}
use Rattle.mj_deeds.specs.Facts.{newest}
use Rattle.mj_deeds.specs.Standings.{standing, standing_by}
use Rattle.mj_deeds.proofs.Newest.{newest_more}

-- After some of a list one more; after nothing nothing.
abbrev pub behind : {A : Type 0} → List A → A → List A
behind [] y = []
behind (x ∷ xs) y = x ∷ (xs ++ y ∷ [])

-- What stands from the last one on that passes, one further.
pub from_last-more : {A : Type 0} (p : A → Bool) (xs : List A) (y : A) → from_last p (xs ++ y ∷ []) ≡ cond (p y) (y ∷ []) (behind (from_last p xs) y)
from_last-more p [] y = refl
from_last-more {A = A} p (x ∷ xs) y =
    ap (λ b. cond b (from_last p (xs ++ y ∷ [])) (cond (p x) (x ∷ (xs ++ y ∷ [])) [])) (list_any-append p xs (y ∷ []))
    ∙ by_tests (list_any p xs) (p x) (p y) (from_last p (xs ++ y ∷ [])) (from_last p xs) (from_last-more p xs y)
  where
    by_tests : (a b c : Bool) (new old : List A) → new ≡ cond c (y ∷ []) (behind old y) →
        cond (a || (c || false)) new (cond b (x ∷ (xs ++ y ∷ [])) []) ≡ cond c (y ∷ []) (behind (cond a old (cond b (x ∷ xs) [])) y)
    by_tests true b true new old e = e
    by_tests false b true new old e = e
    by_tests true b false new old e = e
    by_tests false true false new old e = refl
    by_tests false false false new old e = refl

-- What passes by what an item is turned into stands at the same places.
pub from_last-map : {A B : Type 0} (p : A → Bool) (q : B → Bool) (f : A → B) → ((x : A) → p x ≡ q (f x)) → (xs : List A) → map f (from_last p xs) ≡ from_last q (map f xs)
from_last-map p q f same [] = refl
from_last-map {A = A} {B = B} p q f same (x ∷ xs) =
    by_tests (list_any p xs) (p x)
    ∙ ap (λ (ys : List B). cond (list_any p xs) ys (cond (p x) (f x ∷ map f xs) [])) (from_last-map p q f same xs)
    ∙ ap (λ b. cond b (from_last q (map f xs)) (cond (p x) (f x ∷ map f xs) [])) (any_same xs)
    ∙ ap (λ b. cond (list_any q (map f xs)) (from_last q (map f xs)) (cond b (f x ∷ map f xs) [])) (same x)
  where
    by_tests : (a b : Bool) → map f (cond a (from_last p xs) (cond b (x ∷ xs) [])) ≡ cond a (map f (from_last p xs)) (cond b (f x ∷ map f xs) [])
    by_tests true b = refl
    by_tests false true = refl
    by_tests false false = refl

    any_same : (ys : List A) → list_any p ys ≡ list_any q (map f ys)
    any_same [] = refl
    any_same (y ∷ ys) = ap (λ b. b || list_any p ys) (same y) ∙ ap (λ b. q (f y) || b) (any_same ys)

-- The newest hand with one deed more.
pub hand_more : (ds : List Deed) (d : Deed) → hand (ds ++ d ∷ []) ≡ cond (is_hand_start d) (d ∷ []) (behind (hand ds) d)
unfolding hand
hand_more ds d = from_last-more is_hand_start ds d

-- What holds of the deeds of its hand before a deed and that deed holds of the newest hand with it, as long as it holds of
-- nothing where no hand was started.
pub hand_with : (P : List Deed → Type 0) (ds : List Deed) (d : Deed) → (is_hand_start d ≡ false → hand ds ≡ [] → P []) → P (before_in (hand ds) d ++ d ∷ []) → P (hand (ds ++ d ∷ []))
hand_with P ds d none with = subst P (sym (hand_more ds d)) (by_test (is_hand_start d) (hand ds) none with)
  where
    by_test : (b : Bool) (h : List Deed) → (b ≡ false → h ≡ [] → P []) → P (cond b [] h ++ d ∷ []) → P (cond b (d ∷ []) (behind h d))
    by_test true h n k = k
    by_test false [] n k = n refl refl
    by_test false (x ∷ h) n k = k

-- The deeds of its hand before a deed, and that deed, are the newest hand with it, unless it is none of a hand.
pub hand_is : (ds : List Deed) (d : Deed) → (is_hand_start d ≡ false → hand ds ≡ [] → ⊥) → hand (ds ++ d ∷ []) ≡ before_in (hand ds) d ++ d ∷ []
hand_is ds d some = hand_with (λ (xs : List Deed). xs ≡ before_in (hand ds) d ++ d ∷ []) ds d (λ h k. absurd (some h k)) refl

-- What holds of nothing and of the newest hand holds of the deeds of its hand before a deed.
pub hand_before : (P : List Deed → Type 0) (h : List Deed) (d : Deed) → P [] → P h → P (before_in h d)
hand_before P h d none k = by_test (is_hand_start d)
  where
    by_test : (b : Bool) → P (cond b [] h)
    by_test true = none
    by_test false = k

-- How many hands were started.
pub starts_more : (ds : List Deed) (d : Deed) → length (starts (ds ++ d ∷ [])) ≡ length (starts ds) + cond (is_hand_start d) 1 0
starts_more [] d = one (is_hand_start d)
  where
    one : (b : Bool) → length (cond b (d ∷ []) []) ≡ 0 + cond b 1 0
    one true = refl
    one false = refl
starts_more (x ∷ ds) d = more (is_hand_start x) (starts_more ds d)
  where
    more : (b : Bool) → length (starts (ds ++ d ∷ [])) ≡ length (starts ds) + cond (is_hand_start d) 1 0 →
        length (cond b (x ∷ starts (ds ++ d ∷ [])) (starts (ds ++ d ∷ []))) ≡ length (cond b (x ∷ starts ds) (starts ds)) + cond (is_hand_start d) 1 0
    more true e = omega (arith, e)
    more false e = e

-- The number of the hand that a standing says.

start_says : (number : ℕ) (d : Deed) → is_hand_start d ≡ true → (standing_by number (Some d)).hand ≡ number
start_says number (StartHand round dealer_number honba deposits dealer indicator hands) h = refl
start_says number other h = cc

kept_passes : (ds : List Deed) (i : ℕ) (d : Deed) → slice_get (starts ds) i ≡ Some d → is_hand_start d ≡ true
kept_passes [] i d h = cc
kept_passes (x ∷ ds) i d h = by_test (is_hand_start x) refl (λ k. kept_passes ds k d) i h
  where
    some_is : (a b : Deed) → Some a ≡ Some b → a ≡ b
    some_is a b e = cc

    by_test : (b : Bool) → is_hand_start x ≡ b → ((k : ℕ) → slice_get (starts ds) k ≡ Some d → is_hand_start d ≡ true) → (i : ℕ) →
        slice_get (cond b (x ∷ starts ds) (starts ds)) i ≡ Some d → is_hand_start d ≡ true
    by_test true e others zero k = ap is_hand_start (sym (some_is x d k)) ∙ e
    by_test true e others (suc i) k = others i k
    by_test false e others i k = others i k

pub standing_hand : (ds : List Deed) → (standing ds).hand ≡ hand_number ds
standing_hand ds = by_newest (starts ds) (kept_passes ds)
  where
    last_is : (xs : List Deed) (d : Deed) → 0 < length xs → slice_get xs (length xs - 1) ≡ Some (get_or xs (length xs - 1) d)
    last_is xs d h = slice_get-get_or xs (length xs - 1) d (omega arith)

    some : (n : ℕ) → 0 < suc n
    some n = omega arith

    by_newest : (xs : List Deed) → ((i : ℕ) (d : Deed) → slice_get xs i ≡ Some d → is_hand_start d ≡ true) → (standing_by (length xs - 1) (newest xs)).hand ≡ length xs - 1
    by_newest [] each = refl
    by_newest (x ∷ xs) each =
        let last = last_is (x ∷ xs) x (some (length xs)) in
        ap (λ o. (standing_by (length (x ∷ xs) - 1) o).hand) last ∙ start_says (length (x ∷ xs) - 1) (get_or (x ∷ xs) (length (x ∷ xs) - 1) x) (each (length (x ∷ xs) - 1) _ last)

-- The standing with one deed more: that of a start of a hand is the one that it says, and no other deed changes it.
starts_with : (ds : List Deed) (d : Deed) → starts (ds ++ d ∷ []) ≡ starts ds ++ cond (is_hand_start d) (d ∷ []) []
starts_with ds d = filter-append is_hand_start ds (d ∷ [])

pub standing_stays : (ds : List Deed) (d : Deed) → is_hand_start d ≡ false → standing (ds ++ d ∷ []) ≡ standing ds
standing_stays ds d e =
    let same : starts (ds ++ d ∷ []) ≡ starts ds = starts_with ds d ∙ ap (λ (b : Bool). starts ds ++ cond b (d ∷ []) []) e ∙ append-nil (starts ds) in
    λ i. standing_by (length (same i) - 1) (newest (same i))

pub standing_starts : (ds : List Deed) (d : Deed) → is_hand_start d ≡ true → standing (ds ++ d ∷ []) ≡ standing_by (length (starts ds)) (Some d)
standing_starts ds d e =
    let more : starts (ds ++ d ∷ []) ≡ starts ds ++ d ∷ [] = starts_with ds d ∙ ap (λ (b : Bool). starts ds ++ cond b (d ∷ []) []) e in
    (λ i. standing_by (length (more i) - 1) (newest (more i)))
    ∙ ap (λ (o : Option Deed). standing_by (length (starts ds ++ d ∷ []) - 1) o) (newest_more (starts ds) d)
    ∙ ap (λ (n : ℕ). standing_by n (Some d)) (less (length (starts ds ++ d ∷ [])) (length (starts ds)) (length-append (starts ds) (d ∷ [])))
  where
    less : (n m : ℕ) → n ≡ m + 1 → n - 1 ≡ m
    less n m e = omega arith
