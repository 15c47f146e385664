-- The places of all connections are those of the authors' connections, one author after the other.
use Rattle.std.proofs.Common.{◌≡◌, ℕ, zero, suc, ◌+◌, ◌<◌, Bool, true, false, if◌then◌else◌, nat_lt, List, [], ◌∷◌, ◌++◌, ◌==◌, ◌&&◌, refl, true≢false, sym, ap, ◌∙◌, subst, arith}
use Rattle.std.specs.Prelude.{IsPermutation, All}
use Rattle.std.proofs.lemmas.Bool.Decides.{nat_tests}
use Rattle.std.proofs.lemmas.List.Sorted.{IsPermutation-refl, IsPermutation-sym, IsPermutation-cons, IsPermutation-middle, IsPermutation-append_left, IsPermutation-trans}
use Rattle.std.proofs.lemmas.List.Elements.{All-nil, All-cons, All-head, All-tail}
use mathlib.Core.Bool.{cond}
use Rattle.turn_lock.specs.Notes.{notes_of}
use Rattle.mj_connection.specs.Seating.{Entry}
use Rattle.mj_ports.specs.declared.entry.Entry.TheVariants.{Sat, Back, Said, Gone, Expired}
use Rattle.mj_ports.specs.Entries.{author_of}
use Rattle.mj_session.specs.Histories.{begins_one, places_from}
use Rattle.mj_seats.specs.Workers.{begun_from, ExpiresBy}

-- an author below the next number is below this one, or is this one
abbrev Split : Bool → Bool → Bool → Type 0
Split true true false = Unit {0}
Split true false true = Unit {0}
Split false false false = Unit {0}
Split true true true = ⊥
Split true false false = ⊥
Split false true true = ⊥
Split false true false = ⊥
Split false false true = ⊥

split : (author n : ℕ) → Split (nat_lt author (suc n)) (nat_lt author n) (author == n)
split author n = by (nat_lt author (suc n)) (nat_lt author n) (author == n) refl refl refl
  where
    by : (a b c : Bool) → nat_lt author (suc n) ≡ a → nat_lt author n ≡ b → (author == n) ≡ c → Split a b c
    by true true false e f g = tt
    by true false true e f g = tt
    by false false false e f g = tt
    by true true true e f g = grind (arith, nat_tests, f, g)
    by true false false e f g = grind (arith, nat_tests, e, f, g)
    by false true true e f g = grind (arith, nat_tests, e, f)
    by false true false e f g = grind (arith, nat_tests, e, f)
    by false false true e f g = grind (arith, nat_tests, e, g)

module _ {A : Type 0} where
  -- the places of the connections of so many authors
  abbrev pub parts_from : ℕ → ℕ → List (Entry A) → List ℕ
  parts_from from zero es = []
  parts_from from (suc n) es = parts_from from n es ++ places_from from n es

  -- the places of all connections of authors below a number
  abbrev below_from : ℕ → ℕ → List (Entry A) → List ℕ
  below_from from n [] = []
  below_from from n (e ∷ es) = if begins_one e && nat_lt (author_of e) n then from ∷ below_from (from + 1) n es else below_from (from + 1) n es

  none_below : (from : ℕ) (es : List (Entry A)) → below_from from 0 es ≡ []
  none_below from [] = refl
  none_below from (e ∷ es) = by (begins_one e) (nat_lt (author_of e) 0) (never (author_of e)) ∙ none_below (from + 1) es
    where
      never : (n : ℕ) → nat_lt n 0 ≡ false
      never n = grind (arith, nat_tests)

      by : (a b : Bool) → b ≡ false → (if (a && b) then from ∷ below_from (from + 1) 0 es else below_from (from + 1) 0 es) ≡ below_from (from + 1) 0 es
      by a true f = absurd (true≢false f)
      by true false f = refl
      by false false f = refl

  one_author : (from n : ℕ) (es : List (Entry A)) → IsPermutation (below_from from (suc n) es) (below_from from n es ++ places_from from n es)
  one_author from n [] = IsPermutation-refl []
  one_author from n (e ∷ es) = by (begins_one e) (nat_lt (author_of e) (suc n)) (nat_lt (author_of e) n) (author_of e == n) (split (author_of e) n) (one_author (from + 1) n es)
    where
      by : (begins more less here : Bool) → Split more less here → IsPermutation (below_from (from + 1) (suc n) es) (below_from (from + 1) n es ++ places_from (from + 1) n es)
          → IsPermutation (if (begins && more) then from ∷ below_from (from + 1) (suc n) es else below_from (from + 1) (suc n) es)
          ((if (begins && less) then from ∷ below_from (from + 1) n es else below_from (from + 1) n es) ++
          (if (begins && here) then from ∷ places_from (from + 1) n es else places_from (from + 1) n es))
      by false more less here w rest = rest
      by true true true false w rest = IsPermutation-cons from (below_from (from + 1) (suc n) es) (below_from (from + 1) n es ++ places_from (from + 1) n es) rest
      by true true false true w rest =
          IsPermutation-trans (from ∷ below_from (from + 1) (suc n) es) (from ∷ (below_from (from + 1) n es ++ places_from (from + 1) n es))
          (below_from (from + 1) n es ++ from ∷ places_from (from + 1) n es)
          (IsPermutation-cons from (below_from (from + 1) (suc n) es) (below_from (from + 1) n es ++ places_from (from + 1) n es) rest)
          (IsPermutation-sym (below_from (from + 1) n es ++ from ∷ places_from (from + 1) n es)
          (from ∷ (below_from (from + 1) n es ++ places_from (from + 1) n es)) (IsPermutation-middle (below_from (from + 1) n es) from
          (places_from (from + 1) n es)))
      by true false false false w rest = rest
      by true true true true w rest = absurd w
      by true true false false w rest = absurd w
      by true false true true w rest = absurd w
      by true false true false w rest = absurd w
      by true false false true w rest = absurd w

  all_authors : (from n : ℕ) (es : List (Entry A)) → IsPermutation (below_from from n es) (parts_from from n es)
  all_authors from zero es = subst (λ (l : List ℕ). IsPermutation l []) (sym (none_below from es)) (IsPermutation-refl [])
  all_authors from (suc n) es =
      IsPermutation-trans (below_from from (suc n) es) (below_from from n es ++ places_from from n es) (parts_from from n es ++ places_from from n es) (one_author from n es)
      (IsPermutation-append_left (places_from from n es) (below_from from n es) (parts_from from n es) (all_authors from n es))

  -- those who begin connections have numbers below this one
  abbrev pub BeginsBelow : ℕ → Entry A → Type 0
  BeginsBelow n e = begins_one e ≡ true → author_of e < n

  all_below : (from n : ℕ) (es : List (Entry A)) → All (BeginsBelow n) es → begun_from from es ≡ below_from from n es
  all_below from n [] h = refl
  all_below from n (e ∷ es) h = by (begins_one e) (nat_lt (author_of e) n) refl refl (all_below (from + 1) n es (All-tail (BeginsBelow n) e es h))
    where
      by : (a b : Bool) → begins_one e ≡ a → nat_lt (author_of e) n ≡ b → begun_from (from + 1) es ≡ below_from (from + 1) n es
          → (if a then from ∷ begun_from (from + 1) es else begun_from (from + 1) es) ≡ (if (a && b) then from ∷ below_from (from + 1) n es else below_from (from + 1) n es)
      by true true f g ih = ap (λ (l : List ℕ). from ∷ l) ih
      by false b f g ih = ih
      by true false f g ih = let near : author_of e < n = All-head (BeginsBelow n) e es h f in absurd (grind (arith, nat_tests, near, g))

  pub begun_is : (from n : ℕ) (es : List (Entry A)) → All (BeginsBelow n) es → IsPermutation (begun_from from es) (parts_from from n es)
  begun_is from n es h = subst (λ (l : List ℕ). IsPermutation l (parts_from from n es)) (sym (all_below from n es h)) (all_authors from n es)

  -- what each author enters is of one kind
  abbrev pub is_expiry : Entry A → Bool
  is_expiry (Sat author name key) = false
  is_expiry (Back author seat) = false
  is_expiry (Said author seat answer) = false
  is_expiry (Gone author seat) = false
  is_expiry (Expired author window t1 t2) = true

  abbrev pub NoExpiry : Entry A → Type 0
  NoExpiry e = is_expiry e ≡ false

  abbrev pub AnExpiry : Entry A → Type 0
  AnExpiry e = is_expiry e ≡ true

  -- what is so of the notes of an author is so of each of its entries
  own_note : (P : Entry A → Type 0) (n : ℕ) (e : Entry A) (es : List (Entry A)) → author_of e ≡ n → All P (notes_of author_of n (e ∷ es)) → P e
  own_note P n e es own h =
      let mine : (author_of e == n) ≡ true = grind (arith, nat_tests, own) in
      All-head P e (notes_of author_of n es) (subst (λ (b : Bool). All P (cond b (e ∷ notes_of author_of n es) (notes_of author_of n es))) mine h)

  later_notes : (P : Entry A → Type 0) (n : ℕ) (e : Entry A) (es : List (Entry A)) → All P (notes_of author_of n (e ∷ es)) → All P (notes_of author_of n es)
  later_notes P n e es h = by (author_of e == n) h
    where
      by : (b : Bool) → All P (cond b (e ∷ notes_of author_of n es) (notes_of author_of n es)) → All P (notes_of author_of n es)
      by true k = All-tail P e (notes_of author_of n es) k
      by false k = k

  expiry_by : (last : ℕ) (e : Entry A) → (author_of e < last → NoExpiry e) → author_of e < last + 1 → ExpiresBy last e
  expiry_by last (Sat author name key) h k = tt
  expiry_by last (Back author seat) h k = tt
  expiry_by last (Said author seat answer) h k = tt
  expiry_by last (Gone author seat) h k = tt
  expiry_by last (Expired author window t1 t2) h k = by (nat_lt author last) refl
    where
      by : (b : Bool) → nat_lt author last ≡ b → author ≡ last
      by true e = let near : author < last = grind (arith, nat_tests, e) in absurd (true≢false (h near))
      by false e = grind (arith, nat_tests, e, k)

  pub all_expiries : (last : ℕ) (es : List (Entry A)) → All (λ (e : Entry A). author_of e < last + 1) es → ((n : ℕ) → n < last → All NoExpiry (notes_of author_of n es)) → All (ExpiresBy last) es
  all_expiries last [] few h = All-nil (ExpiresBy last)
  all_expiries last (e ∷ es) few h =
      All-cons (ExpiresBy last) e es
      (expiry_by last e (λ near. own_note NoExpiry (author_of e) e es refl (h (author_of e) near)) (All-head (λ (x : Entry A). author_of x < last + 1) e es few))
      (all_expiries last es (All-tail (λ (x : Entry A). author_of x < last + 1) e es few) (λ n near. later_notes NoExpiry n e es (h n near)))

  begins_by : (last : ℕ) (e : Entry A) → (author_of e ≡ last → AnExpiry e) → author_of e < last + 1 → BeginsBelow last e
  begins_by last e h k begins = by (nat_lt (author_of e) last) refl
    where
      apart : (x : Entry A) → begins_one x ≡ true → is_expiry x ≡ true → ⊥
      apart (Sat author name key) b f = true≢false (sym f)
      apart (Back author seat) b f = true≢false (sym f)
      apart (Said author seat answer) b f = true≢false (sym f)
      apart (Gone author seat) b f = true≢false (sym f)
      apart (Expired author window t1 t2) b f = true≢false (sym b)

      by : (b : Bool) → nat_lt (author_of e) last ≡ b → author_of e < last
      by true t = grind (arith, nat_tests, t)
      by false t = let same : author_of e ≡ last = grind (arith, nat_tests, t, k) in absurd (apart e begins (h same))

  pub all_begin_below : (last : ℕ) (es : List (Entry A)) → All (λ (e : Entry A). author_of e < last + 1) es → All AnExpiry (notes_of author_of last es) → All (BeginsBelow last) es
  all_begin_below last [] few h = All-nil (BeginsBelow last)
  all_begin_below last (e ∷ es) few h =
      All-cons (BeginsBelow last) e es
      (begins_by last e (λ own. own_note AnExpiry last e es own h) (All-head (λ (x : Entry A). author_of x < last + 1) e es few))
      (all_begin_below last es (All-tail (λ (x : Entry A). author_of x < last + 1) e es few) (later_notes AnExpiry last e es h))
