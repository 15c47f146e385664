-- Rows and columns, one of them more or less.
use Rattle.std.proofs.Common.{◌≡◌, inl, inr, ℕ, zero, suc, ◌+◌, ◌<◌, ◌≤◌, List, [], ◌∷◌, ◌++◌, length, map, refl, sym, ap, ◌∙◌, subst, arith}
use Rattle.std.specs.Prelude.{All, Some, slice_get, Vec, vec_len, vec_capacity}
use Rattle.std.specs.declared.alloc.Global.{Global}
use Rattle.std.proofs.lemmas.Option.{slice_get_within}
use Rattle.std.proofs.lemmas.List.{length-append, length-map}
use Rattle.mj_workers.specs.Columns.{IsTaken, AreColumns, AreRows, items_of}
use Rattle.mj_ticker.proofs.Besides.{at_snoc, snoc_left, snoc_last, found, all_from, all_at, mapped}

-- two lists come to the same, place by place
pub map_same : {X Y Z : Type 0} (f : X → Z) (h : Y → Z) (xs : List X) (ys : List Y) → length ys ≡ length xs
    → ((t : ℕ) (x : X) (y : Y) → slice_get xs t ≡ Some x → slice_get ys t ≡ Some y → f x ≡ h y) → map f xs ≡ map h ys
map_same f h [] [] long same = refl
map_same f h [] (y ∷ ys) long same = absurd (omega (arith, long))
map_same f h (x ∷ xs) [] long same = absurd (omega (arith, long))
map_same f h (x ∷ xs) (y ∷ ys) long same =
    let first = same zero x y refl refl in
    let rest = map_same f h xs ys (omega (arith, long)) (λ t a b ea eb. same (suc t) a b ea eb) in
    (λ i. first i ∷ rest i)

module _ {X : Type 0} where
  -- columns of which a row was taken
  pub columns_less : (n : ℕ) (olds mids : List (List X)) (row : List X) → IsTaken olds mids row → AreColumns (n + 1) olds → AreColumns n mids
  columns_less n olds mids row taken all = all_from (λ (c : List X). length c ≡ n) mids (λ t c e. one t c e (slice_get_within mids t c e))
    where
      one : (t : ℕ) (c : List X) → slice_get mids t ≡ Some c → t < length mids → length c ≡ n
      one t c e near =
          let old = found olds t (omega (arith, near, taken.second)) in
          let x = found row t (omega (arith, near, taken.second, taken.third)) in
          let is : length old.0 ≡ length (c ++ x.0 ∷ []) = ap length (taken.each t old.0 c x.0 old.1 e x.1) in
          let long : length old.0 ≡ n + 1 = all_at (λ (c : List X). length c ≡ n + 1) olds t old.0 all old.1 in
          omega (arith, is, long, length-append c (x.0 ∷ []))

  -- one row more
  pub rows_fill : (n : ℕ) (olds mids rows : List (List X)) (row : List X) → IsTaken olds mids row → AreColumns n mids → AreRows n mids rows → AreRows (n + 1) olds (rows ++ row ∷ [])
  rows_fill n olds mids rows row taken all are = record {
    many_are = length-append rows (row ∷ []) ∙ ap (λ (k : ℕ). k + 1) are.many_are;
    each = λ t r e. elim (at_snoc rows row t r e) [
      | inl h ↦ before t r h (slice_get_within rows t r h)
      | inr h ↦ subst (λ (k : ℕ). map Some r ≡ map (λ (c : List X). slice_get c k) olds) (sym (h.0 ∙ are.many_are))
          (subst (λ (l : List X). map Some l ≡ map (λ (c : List X). slice_get c n) olds) h.1 last)
    ];
  }
    where
      long_at : (t : ℕ) (c : List X) → slice_get mids t ≡ Some c → length c ≡ n
      long_at t c e = all_at (λ (c : List X). length c ≡ n) mids t c all e

      in_left : (t : ℕ) (c : List X) (x : X) → t < length c → slice_get (c ++ x ∷ []) t ≡ slice_get c t
      in_left t c x near = let y = found c t near in snoc_left c x t y.0 y.1 ∙ sym y.1

      before : (t : ℕ) (r : List X) → slice_get rows t ≡ Some r → t < length rows → map Some r ≡ map (λ (c : List X). slice_get c t) olds
      before t r e near = are.each t r e ∙ sym (map_same (λ (c : List X). slice_get c t) (λ (c : List X). slice_get c t) olds mids taken.second (λ k old mid eo em.
          let x = found row k (omega (arith, slice_get_within mids k mid em, taken.second, taken.third)) in
          let is = taken.each k old mid x.0 eo em x.1 in
          ap (λ (l : List X). slice_get l t) is ∙ in_left t mid x.0 (omega (arith, near, are.many_are, long_at k mid em))))

      last : map Some row ≡ map (λ (c : List X). slice_get c n) olds
      last = map_same Some (λ (c : List X). slice_get c n) row olds (sym taken.third) (λ k x old ex eo.
          let mid = found mids k (omega (arith, slice_get_within olds k old eo, taken.second)) in
          let is = taken.each k old mid.0 x eo mid.1 ex in
          sym (ap (λ (l : List X). slice_get l n) is ∙ (ap (λ (m : ℕ). slice_get (mid.0 ++ x ∷ []) m) (sym (long_at k mid.0 mid.1)) ∙ snoc_last mid.0 x)))

  -- without rows nothing is put back
  pub rows_none : (columns : List (List X)) → AreRows 0 columns []
  rows_none columns = record { many_are = refl; each = λ t r e. absurd (omega (arith, slice_get_within [] t r e)) }

  -- columns that have a value
  pub columns_some : (n : ℕ) (columns : List (Vec X Global)) → AreColumns (n + 1) (items_of columns) → All (λ (v : Vec X Global). 0 < vec_len v) columns
  columns_some n columns all = all_from (λ (v : Vec X Global). 0 < vec_len v) columns
      (λ t v e. one v (all_at (λ (c : List X). length c ≡ n + 1) (items_of columns) t v.items all (mapped (λ (v : Vec X Global). v.items) columns t v e)))
    where
      one : (v : Vec X Global) → length v.items ≡ n + 1 → 0 < vec_len v
      one v long = let len : v.len ≡ length v.items = v.ok.0 in omega (arith, long, len)

-- rows have room for as many columns as before, where a row was taken of each column
module _ {X : Type 0} where
  abbrev Fits : ℕ → Vec X Global → Type 0
  Fits n row = (row.items ≡ []) × (n ≤ vec_capacity row)

  pub room_as : (olds mids : Vec (Vec X Global) Global) (row : List X) (rows : List (Vec X Global)) → IsTaken (items_of olds.items) (items_of mids.items) row →
      All (Fits (vec_len olds)) rows → All (Fits (vec_len mids)) rows
  room_as olds mids row rows taken all = subst (λ (n : ℕ). All (Fits n) rows) same all
    where
      items : Vec X Global → List X
      items v = v.items

      same : vec_len olds ≡ vec_len mids
      same =
          let a : olds.len ≡ length olds.items = olds.ok.0 in
          let b : mids.len ≡ length mids.items = mids.ok.0 in
          omega (arith, a, b, taken.second, length-map olds.items items, length-map mids.items items)
