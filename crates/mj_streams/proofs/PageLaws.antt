-- Pages that take a line more, and pages that are turned.
use Rattle.std.proofs.Common.{◌≡◌, ℕ, zero, suc, ◌+◌, ◌<◌, ◌≤◌, inl, inr, List, [], ◌∷◌, ◌++◌, length, map, take, drop, get_or, true, refl, sym, ap, ◌∙◌, subst, arith}
use Rattle.std.specs.Prelude.{Option, Some, None, slice_get, unwrap_or}
use Rattle.std.specs.List.{All}
use Rattle.std.proofs.lemmas.List.Elements.{All-push}
use Rattle.std.proofs.lemmas.List.{take_all, map-append, length-append}
use Rattle.mj_streams.specs.declared.pages.Place.{Place}
use Rattle.mj_streams.specs.Inner.Pages.{page_at, text_at, lines_at, IsWithin, IsPage, IsKept, Fits}

front : (n : ℕ) (xs ys : List ℕ) → n ≤ length xs → take n (xs ++ ys) ≡ take n xs
front zero xs ys h = refl
front (suc n) [] ys h = absurd (omega (arith, h))
front (suc n) (x ∷ xs) ys h = ap (λ r. x ∷ r) (front n xs ys (omega (arith, h)))

back : (xs ys : List ℕ) → drop (length xs) (xs ++ ys) ≡ ys
back [] ys = refl
back (x ∷ xs) ys = back xs ys

longer : (xs ys : List ℕ) → length xs ≤ length (xs ++ ys)
longer [] ys = omega arith
longer (x ∷ xs) ys = omega (arith, longer xs ys)

past : {A : Type 0} (xs : List A) → slice_get xs (length xs) ≡ None
past [] = refl
past (x ∷ xs) = past xs

-- A line more on the newest page changes what no place shows.
newest_longer : (o : Option (List ℕ)) (newest line : List ℕ) (start end : ℕ) → end ≤ length (unwrap_or o newest) →
    drop start (take end (unwrap_or o (newest ++ line))) ≡ drop start (take end (unwrap_or o newest))
newest_longer None newest line start end h = ap (drop start) (front end newest line h)
newest_longer (Some page) newest line start end h = refl

newest_within : (o : Option (List ℕ)) (newest line : List ℕ) (end : ℕ) → end ≤ length (unwrap_or o newest) → end ≤ length (unwrap_or o (newest ++ line))
newest_within None newest line end h = omega (arith, h, longer newest line)
newest_within (Some page) newest line end h = h

-- A page that is turned keeps its number.
turned : (full : List (List ℕ)) (newest : List ℕ) (number : ℕ) → number ≤ length full → page_at (full ++ newest ∷ []) [] number ≡ page_at full newest number
turned [] newest zero h = refl
turned [] newest (suc number) h = absurd (omega (arith, h))
turned (page ∷ full) newest zero h = refl
turned (page ∷ full) newest (suc number) h = turned full newest number (omega (arith, h))

more_pages : (full : List (List ℕ)) (newest : List ℕ) → length full ≤ length (full ++ newest ∷ [])
more_pages [] newest = omega arith
more_pages (page ∷ full) newest = omega (arith, more_pages full newest)

tail : {A : Type 0} (P : A → Type 0) (x : A) (xs : List A) → All P (x ∷ xs) → All P xs
tail P x xs all = λ k d h. all (suc k) d (omega (arith, h))

head : {A : Type 0} (P : A → Type 0) (x : A) (xs : List A) → All P (x ∷ xs) → P x
head P x xs all = all zero x (omega arith)

map_same : {A B : Type 0} (P : A → Type 0) (f g : A → B) → ((x : A) → P x → f x ≡ g x) → (xs : List A) → All P xs → map f xs ≡ map g xs
map_same P f g same [] all = refl
map_same P f g same (x ∷ xs) all =
    ap (λ y. y ∷ map f xs) (same x (head P x xs all)) ∙ ap (λ ys. g x ∷ ys) (map_same P f g same xs (tail P x xs all))

all_same : {A : Type 0} (P Q : A → Type 0) → ((x : A) → P x → Q x) → (xs : List A) → All P xs → All Q xs
all_same P Q each xs all = λ k d h. each _ (all k d h)

all_again : {A : Type 0} (P : A → Type 0) (x : A) (xs : List A) → P x → All P xs → All P (x ∷ xs)
all_again {A} P x xs first all = at
  where
    at : (k : ℕ) (d : A) → k < length (x ∷ xs) → P (get_or (x ∷ xs) k d)
    at zero d h = first
    at (suc k) d h = all k d (omega (arith, h))

all_front : {A : Type 0} (P : A → Type 0) (xs ys : List A) → All P (xs ++ ys) → All P xs
all_front P [] ys all = λ k d h. absurd (omega (arith, h))
all_front P (x ∷ xs) ys all = all_again P x xs (all zero x (omega arith)) (all_front P xs ys (tail P x (xs ++ ys) all))

all_last : {A : Type 0} (P : A → Type 0) (xs : List A) (x : A) → All P (xs ++ x ∷ []) → P x
all_last P [] x all = head P x [] all
all_last P (y ∷ ys) x all = all_last P ys x (tail P y (ys ++ x ∷ []) all)

-- What the places show stays as a line is written after the newest page.
shown_before : (full : List (List ℕ)) (newest line : List ℕ) (places : List Place) → All (IsWithin full newest) places →
    lines_at full (newest ++ line) places ≡ lines_at full newest places
shown_before full newest line places all =
    map_same (IsWithin full newest) (text_at full (newest ++ line)) (text_at full newest)
    (λ place w. newest_longer (slice_get full place.page) newest line place.start place.end w.within) places all

-- A place of the line that is written.
newest_shown : (full : List (List ℕ)) (newest line : List ℕ) (place : Place) → place.page ≡ length full → place.start ≡ length newest → place.end ≡ length (newest ++ line) →
    text_at full (newest ++ line) place ≡ line
newest_shown full newest line place page start end =
    ap (λ n. drop place.start (take place.end (unwrap_or (slice_get full n) (newest ++ line)))) page
    ∙ ap (λ o. drop place.start (take place.end (unwrap_or o (newest ++ line)))) (past full)
    ∙ ap (λ n. drop place.start (take n (newest ++ line))) end
    ∙ ap (drop place.start) (take_all (length (newest ++ line)) (newest ++ line) (omega arith))
    ∙ ap (λ n. drop n (newest ++ line)) start
    ∙ back newest line

pub told_more : (full : List (List ℕ)) (newest line : List ℕ) (places : List Place) (place : Place) → IsKept full newest places →
    place.page ≡ length full → place.start ≡ length newest → place.end ≡ length (newest ++ line) →
    lines_at full (newest ++ line) (places ++ place ∷ []) ≡ lines_at full newest places ++ line ∷ []
told_more full newest line places place kept page start end =
    map-append (text_at full (newest ++ line)) places (place ∷ [])
    ∙ ap (λ xs. xs ++ text_at full (newest ++ line) place ∷ []) (shown_before full newest line places kept.within)
    ∙ ap (λ x. lines_at full newest places ++ x ∷ []) (newest_shown full newest line place page start end)

-- A page of the right size is so among more lines.
page_stays : (lines : List (List ℕ)) (line page : List ℕ) → IsPage lines page → IsPage (lines ++ line ∷ []) page
page_stays lines line page size = λ long test all. size long test (all_front (λ x. test x ≡ true) lines (line ∷ []) all)

newest_stays : (lines : List (List ℕ)) (newest line : List ℕ) → Fits newest (length line) → IsPage (lines ++ line ∷ []) (newest ++ line)
newest_stays lines newest line (inl empty) = λ long test all.
    ap (λ page. test (page ++ line)) empty ∙ all_last (λ x. test x ≡ true) lines line all
newest_stays lines newest line (inr few) = λ long. absurd (few_are_few (length (newest ++ line)) (length newest) (length line) (length-append newest line) few long)
  where
    few_are_few : (n a b : ℕ) → n ≡ a + b → a + b ≤ 65536 → 65536 < n → ⊥
    few_are_few n a b e f g = omega (arith, e, f, g)

place_within : (full : List (List ℕ)) (newest line : List ℕ) (place : Place) → place.page ≡ length full → place.start ≡ length newest → place.end ≡ length (newest ++ line) →
    IsWithin full (newest ++ line) place
place_within full newest line place page start end = record {
  on = omega (arith, page);
  order = omega (arith, start, end, longer newest line);
  within = subst (λ o. place.end ≤ length (unwrap_or o (newest ++ line))) (sym (ap (slice_get full) page ∙ past full)) (omega (arith, end));
}

pub kept_more : (full : List (List ℕ)) (newest line : List ℕ) (places : List Place) (place : Place) → IsKept full newest places → Fits newest (length line) →
    place.page ≡ length full → place.start ≡ length newest → place.end ≡ length (newest ++ line) → IsKept full (newest ++ line) (places ++ place ∷ [])
kept_more full newest line places place kept fits page start end =
    let lines : lines_at full newest places ++ line ∷ [] ≡ lines_at full (newest ++ line) (places ++ place ∷ []) = sym (told_more full newest line places place kept page start end) in
    record {
      within = All-push (IsWithin full (newest ++ line)) places place
          (all_same (IsWithin full newest) (IsWithin full (newest ++ line))
          (λ p w. record { on = w.on; order = w.order; within = newest_within (slice_get full p.page) newest line p.end w.within }) places kept.within)
          (place_within full newest line place page start end);
      sizes = all_same (IsPage (lines_at full newest places)) (IsPage (lines_at full (newest ++ line) (places ++ place ∷ [])))
          (λ p size. subst (λ ls. IsPage ls p) lines (page_stays (lines_at full newest places) line p size)) full kept.sizes;
      size = subst (λ ls. IsPage ls (newest ++ line)) lines (newest_stays (lines_at full newest places) newest line fits);
    }

pub told_turned : (full : List (List ℕ)) (newest : List ℕ) (places : List Place) → IsKept full newest places →
    lines_at (full ++ newest ∷ []) [] places ≡ lines_at full newest places
told_turned full newest places kept =
    map_same (IsWithin full newest) (text_at (full ++ newest ∷ []) []) (text_at full newest)
    (λ place w. ap (λ page. drop place.start (take place.end page)) (turned full newest place.page w.on)) places kept.within

pub kept_turned : (full : List (List ℕ)) (newest : List ℕ) (places : List Place) → IsKept full newest places → IsKept (full ++ newest ∷ []) [] places
kept_turned full newest places kept =
    let lines : lines_at full newest places ≡ lines_at (full ++ newest ∷ []) [] places = sym (told_turned full newest places kept) in
    record {
      within = all_same (IsWithin full newest) (IsWithin (full ++ newest ∷ []) [])
          (λ p w. record {
            on = omega (arith, w.on, more_pages full newest);
            order = w.order;
            within = subst (λ page. p.end ≤ length page) (sym (turned full newest p.page w.on)) w.within;
          }) places kept.within;
      sizes = All-push (IsPage (lines_at (full ++ newest ∷ []) [] places)) full newest
          (all_same (IsPage (lines_at full newest places)) (IsPage (lines_at (full ++ newest ∷ []) [] places)) (λ p size. subst (λ ls. IsPage ls p) lines size) full kept.sizes)
          (subst (λ ls. IsPage ls newest) lines kept.size);
      size = λ long. absurd (omega (arith, long));
    }

-- It is so as the code adds the line.
pub kept_added : (full : List (List ℕ)) (newest line newest' : List ℕ) (places places' : List Place) (place : Place) →
    newest' ≡ newest ++ line → places' ≡ places ++ place ∷ [] → IsKept full newest places → Fits newest (length line) →
    place.page ≡ length full → place.start ≡ length newest → place.end ≡ length newest' → IsKept full newest' places'
kept_added full newest line newest' places places' place e f kept fits page start end =
    subst (λ ps. IsKept full newest' ps) (sym f)
    (subst (λ n. IsKept full n (places ++ place ∷ [])) (sym e) (kept_more full newest line places place kept fits page start (end ∙ ap length e)))

pub told_added : (full : List (List ℕ)) (newest line newest' : List ℕ) (places places' : List Place) (place : Place) →
    newest' ≡ newest ++ line → places' ≡ places ++ place ∷ [] → IsKept full newest places →
    place.page ≡ length full → place.start ≡ length newest → place.end ≡ length newest' → lines_at full newest' places' ≡ lines_at full newest places ++ line ∷ []
told_added full newest line newest' places places' place e f kept page start end =
    ap (λ ps. lines_at full newest' ps) f
    ∙ ap (λ n. lines_at full n (places ++ place ∷ [])) e
    ∙ told_more full newest line places place kept page start (end ∙ ap length e)

pub kept_closed : (full full' full'' : List (List ℕ)) (newest text newest' : List ℕ) (places : List Place) →
    full' ≡ full → full'' ≡ full' ++ text ∷ [] → text ≡ newest → newest' ≡ [] → IsKept full newest places → IsKept full'' newest' places
kept_closed full full' full'' newest text newest' places same more is empty kept =
    subst (λ n. IsKept full'' n places) (sym empty)
    (subst (λ fs. IsKept fs [] places) (sym (more ∙ ap (λ fs. fs ++ text ∷ []) same ∙ ap (λ t. full ++ t ∷ []) is)) (kept_turned full newest places kept))

pub told_closed : (full full' full'' : List (List ℕ)) (newest text newest' : List ℕ) (places : List Place) →
    full' ≡ full → full'' ≡ full' ++ text ∷ [] → text ≡ newest → newest' ≡ [] → IsKept full newest places →
    lines_at full'' newest' places ≡ lines_at full newest places
told_closed full full' full'' newest text newest' places same more is empty kept =
    ap (λ n. lines_at full'' n places) empty
    ∙ ap (λ fs. lines_at fs [] places) (more ∙ ap (λ fs. fs ++ text ∷ []) same ∙ ap (λ t. full ++ t ∷ []) is)
    ∙ told_turned full newest places kept
