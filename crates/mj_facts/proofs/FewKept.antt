-- Up to five tiles that are kept, one more at a time.
use Rattle.std.proofs.Common.{◌≡◌, ℕ, ◌+◌, ◌<◌, ◌≤◌, ◌⊎◌, inl, inr, Bool, true, false, cond, eqb, List, [], ◌∷◌, ◌++◌, length, Option, Some, None, refl, sym, ap, ◌∙◌, subst, arith, append-nil}
use Rattle.std.specs.Prelude.{slice_get, option_to_list, is_some}
use Rattle.std.specs.Option.{option_or}
use Rattle.std.proofs.lemmas.Bool.{cases_eq, cases_lt, eqb-true, eq-eqb, ne_eqb}
use Rattle.std.proofs.lemmas.Bool.Decides.{nat_tests}
use Rattle.std.proofs.lemmas.List.{length-append, get_or_append_left}
use Rattle.std.proofs.lemmas.Option.{slice_get-get_or, slice_get_past}
use Rattle.mj_lists.proofs.Fronts.{at_end}
use Rattle.mj_facts.specs.declared.few_tiles.FewTiles.{FewTiles}
use Rattle.mj_facts.specs.Few.{Lists}

-- What stands at a place of a list with one item more, where there is one.
pub grown : {A : Type 0} (xs : List A) (more : Option A) (place : ℕ) →
    slice_get (xs ++ option_to_list more) place ≡ cond (eqb (length xs) place) (option_or more (slice_get xs place)) (slice_get xs place)
grown {A = A} xs None place = ap (λ (ys : List A). slice_get ys place) (append-nil xs) ∙ by_test (eqb (length xs) place) (slice_get xs place)
  where
    by_test : (b : Bool) (o : Option A) → o ≡ cond b o o
    by_test true o = refl
    by_test false o = refl
grown {A = A} xs (Some x) place = at (cases_eq (length xs) place)
  where
    longer : length (xs ++ x ∷ []) ≡ length xs + 1
    longer = length-append xs (x ∷ [])

    before : place < length xs → slice_get (xs ++ x ∷ []) place ≡ slice_get xs place
    before h =
        slice_get-get_or (xs ++ x ∷ []) place x (omega (arith, h, longer)) ∙ ap Some (get_or_append_left xs (x ∷ []) x place h) ∙ sym (slice_get-get_or xs place x h)

    behind : length xs ≤ place → (length xs ≡ place → ⊥) → slice_get (xs ++ x ∷ []) place ≡ slice_get xs place
    behind h ne =
        let past : length xs < place = apart (length xs) place h ne in
        slice_get_past (xs ++ x ∷ []) place (omega (arith, past, longer)) ∙ sym (slice_get_past xs place h)
      where
        apart : (n m : ℕ) → n ≤ m → (n ≡ m → ⊥) → n < m
        apart n m k differ = grind (arith, k, differ)

    elsewhere : (length xs ≡ place → ⊥) → (place < length xs) ⊎ (length xs ≤ place) → slice_get (xs ++ x ∷ []) place ≡ slice_get xs place
    elsewhere ne (inl low) = before low
    elsewhere ne (inr high) = behind high ne

    at : (length xs ≡ place) ⊎ (length xs ≡ place → ⊥) → slice_get (xs ++ x ∷ []) place ≡ cond (eqb (length xs) place) (option_or (Some x) (slice_get xs place)) (slice_get xs place)
    at (inl e) =
        ap (slice_get (xs ++ x ∷ [])) (sym e) ∙ at_end xs x ∙ ap (λ b. cond b (Some x) (slice_get xs place)) (sym (eq-eqb (length xs) place e))
    at (inr ne) = elsewhere ne (cases_lt place (length xs)) ∙ ap (λ b. cond b (Some x) (slice_get xs place)) (sym (ne_eqb (length xs) place ne))

-- The first of a list with one item more.
pub first_grown : {A : Type 0} (xs : List A) (more : Option A) → slice_get (xs ++ option_to_list more) 0 ≡ option_or (slice_get xs 0) more
first_grown [] None = refl
first_grown [] (Some x) = refl
first_grown (x ∷ xs) more = refl

pub longer_by : {A : Type 0} (xs : List A) (more : Option A) → length (xs ++ option_to_list more) ≡ length xs + cond (is_some more) 1 0
longer_by xs None = length-append xs []
longer_by xs (Some x) = length-append xs (x ∷ [])

-- The tiles with one more, where there is one.
pub lists_more : (few : FewTiles) (tiles : List ℕ) (more : Option ℕ) (number : ℕ) (some : Bool) (a b c d e : Option ℕ) →
    length (tiles ++ option_to_list more) ≤ 5 → Lists few tiles → some ≡ is_some more →
    (few.number + cond some 1 0 ≤ 255 → number ≡ few.number + cond some 1 0) → a ≡ cond (eqb few.number 0) (option_or more few.first) few.first →
    b ≡ cond (eqb few.number 1) (option_or more few.second) few.second → c ≡ cond (eqb few.number 2) (option_or more few.third) few.third →
    d ≡ cond (eqb few.number 3) (option_or more few.fourth) few.fourth → e ≡ cond (eqb few.number 4) (option_or more few.fifth) few.fifth →
    Lists (record { number = number; first = a; second = b; third = c; fourth = d; fifth = e }) (tiles ++ option_to_list more)
lists_more few tiles more number some a b c d e within k is counted pa pb pc pd pe = record {
  number = total number few.number (length tiles) _ _ _ k.number (longer_by tiles more) (ap (λ t. cond t 1 0) is) within counted;
  at = λ place. by_tests place (eqb place 0) (eqb place 1) (eqb place 2) (eqb place 3) (eqb place 4) refl refl refl refl refl;
}
  where
    total : (n kept l m x y : ℕ) → kept ≡ l → m ≡ l + y → x ≡ y → m ≤ 5 → (kept + x ≤ 255 → n ≡ kept + x) → n ≡ m
    total n kept l m x y p q r few told =
        let now : n ≡ kept + x = told (omega (arith, p, q, r, few)) in
        omega (arith, p, q, r, now)

    one : (place : ℕ) (new old : Option ℕ) → old ≡ slice_get tiles place → new ≡ cond (eqb few.number place) (option_or more old) old → new ≡ slice_get (tiles ++ option_to_list more) place
    one place new old was now = now ∙ (λ i. cond (eqb (k.number i) place) (option_or more (was i)) (was i)) ∙ sym (grown tiles more place)

    at : (place p : ℕ) (new : Option ℕ) → eqb place p ≡ true → new ≡ slice_get (tiles ++ option_to_list more) p → new ≡ slice_get (tiles ++ option_to_list more) place
    at place p new same now = now ∙ ap (slice_get (tiles ++ option_to_list more)) (sym (eqb-true place p same))

    past : (place : ℕ) → eqb place 0 ≡ false → eqb place 1 ≡ false → eqb place 2 ≡ false → eqb place 3 ≡ false → eqb place 4 ≡ false → 5 ≤ place
    past place p q r s t = grind (arith, nat_tests, p, q, r, s, t)

    far : (place n : ℕ) → 5 ≤ place → n ≤ 5 → n ≤ place
    far place n p q = omega (arith, p, q)

    by_tests : (place : ℕ) (p q r s t : Bool) → eqb place 0 ≡ p → eqb place 1 ≡ q → eqb place 2 ≡ r → eqb place 3 ≡ s → eqb place 4 ≡ t →
        cond p a (cond q b (cond r c (cond s d (cond t e None)))) ≡ slice_get (tiles ++ option_to_list more) place
    by_tests place true q r s t p0 p1 p2 p3 p4 = at place 0 a p0 (one 0 a few.first (k.at 0) pa)
    by_tests place false true r s t p0 p1 p2 p3 p4 = at place 1 b p1 (one 1 b few.second (k.at 1) pb)
    by_tests place false false true s t p0 p1 p2 p3 p4 = at place 2 c p2 (one 2 c few.third (k.at 2) pc)
    by_tests place false false false true t p0 p1 p2 p3 p4 = at place 3 d p3 (one 3 d few.fourth (k.at 3) pd)
    by_tests place false false false false true p0 p1 p2 p3 p4 = at place 4 e p4 (one 4 e few.fifth (k.at 4) pe)
    by_tests place false false false false false p0 p1 p2 p3 p4 = sym (slice_get_past (tiles ++ option_to_list more) place (far place _ (past place p0 p1 p2 p3 p4) within))

-- No tile.
pub lists_none : Lists (record { number = 0; first = None; second = None; third = None; fourth = None; fifth = None }) []
lists_none = record { number = refl; at = λ place. none (eqb place 0) (eqb place 1) (eqb place 2) (eqb place 3) (eqb place 4) }
  where
    none : (p q r s t : Bool) → ◌≡◌ {A = Option ℕ} (cond p None (cond q None (cond r None (cond s None (cond t None None))))) None
    none true q r s t = refl
    none false true r s t = refl
    none false false true s t = refl
    none false false false true t = refl
    none false false false false true = refl
    none false false false false false = refl

-- What is listed of other tiles that are the same.
pub lists_same : (few : FewTiles) (xs ys : List ℕ) → xs ≡ ys → Lists few xs → Lists few ys
lists_same few xs ys e k = subst (λ (zs : List ℕ). Lists few zs) e k

-- With a tile that is added, and with none.
pub lists_added : (few : FewTiles) (tiles : List ℕ) (more : Option ℕ) (tile : ℕ) → more ≡ Some tile → length (tiles ++ option_to_list more) ≤ 5 →
    (length (tiles ++ tile ∷ []) ≤ 5 → Lists few (tiles ++ tile ∷ [])) → Lists few (tiles ++ option_to_list more)
lists_added few tiles more tile is within step = subst (λ (o : Option ℕ). length (tiles ++ option_to_list o) ≤ 5 → Lists few (tiles ++ option_to_list o)) (sym is) step within

pub lists_stay : (few : FewTiles) (tiles : List ℕ) (more : Option ℕ) → more ≡ None → Lists few tiles → Lists few (tiles ++ option_to_list more)
lists_stay few tiles more is k = lists_same few _ _ (sym (append-nil tiles) ∙ ap (λ (o : Option ℕ). tiles ++ option_to_list o) (sym is)) k
