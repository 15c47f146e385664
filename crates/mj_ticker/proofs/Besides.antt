-- Lists beside each other: one element more of each, one less, or one place changed.
use Rattle.std.proofs.Common.{◌≡◌, ◌⊎◌, inl, inr, ℕ, zero, suc, ◌+◌, ◌<◌, List, [], ◌∷◌, ◌++◌, length, map, refl, sym, ap, ◌∙◌, subst, subst₂, arith, set, get_or}
use Rattle.std.specs.Prelude.{All, Option, Some, None, slice_get}
use Rattle.std.specs.Option.{option_to_list}
use Rattle.std.proofs.lemmas.Bool.Decides.{eqb_tells}
use Rattle.std.proofs.lemmas.List.{length-append, length-map, map-append, length-set, get_or-set_same, get_or-set_other}
use Rattle.std.proofs.lemmas.List.Elements.{All-nil, All-cons, All-tail, All-get_or}
use Rattle.std.proofs.lemmas.Option.{slice_get_read, slice_get_within, get_or_from_slice_get}
use Rattle.mj_ticker.specs.Beside.{Matches, Beside}

module _ {X : Type 0} where
  pub same_some : (x y : X) → Some x ≡ Some y → x ≡ y
  same_some x y e = cc

  pub no_some : {B : Type 0} (x : X) → None ≡ Some x → B
  no_some x e = absurd cc

  -- what stands in a list with one element more
  pub at_snoc : (xs : List X) (x : X) (t : ℕ) (y : X) → slice_get (xs ++ x ∷ []) t ≡ Some y → (slice_get xs t ≡ Some y) ⊎ ((t ≡ length xs) × (x ≡ y))
  at_snoc [] x zero y e = inr (refl, same_some x y e)
  at_snoc [] x (suc t) y e = no_some y e
  at_snoc (a ∷ xs) x zero y e = inl e
  at_snoc (a ∷ xs) x (suc t) y e = elim (at_snoc xs x t y e) [ inl h ↦ inl h | inr h ↦ inr (ap suc h.0, h.1) ]

  pub snoc_left : (xs : List X) (x : X) (t : ℕ) (y : X) → slice_get xs t ≡ Some y → slice_get (xs ++ x ∷ []) t ≡ Some y
  snoc_left [] x t y e = no_some y e
  snoc_left (a ∷ xs) x zero y e = e
  snoc_left (a ∷ xs) x (suc t) y e = snoc_left xs x t y e

  pub snoc_last : (xs : List X) (x : X) → slice_get (xs ++ x ∷ []) (length xs) ≡ Some x
  snoc_last [] x = refl
  snoc_last (a ∷ xs) x = snoc_last xs x

  pub found : (xs : List X) (t : ℕ) → t < length xs → (x : X) × (slice_get xs t ≡ Some x)
  found [] t near = absurd (omega (arith, near))
  found (x ∷ xs) zero near = (x, refl)
  found (x ∷ xs) (suc t) near = found xs t (omega (arith, near))

  none_in : {B : Type 0} (xs : List X) (t : ℕ) (x : X) → length xs ≡ 0 → slice_get xs t ≡ Some x → B
  none_in xs t x none e = absurd (omega (arith, none, slice_get_within xs t x e))

  -- what stands in each place stands everywhere, and the other way round
  pub all_from : (P : X → Type 0) (xs : List X) → ((t : ℕ) (x : X) → slice_get xs t ≡ Some x → P x) → All P xs
  all_from P [] f = All-nil P
  all_from P (x ∷ xs) f = All-cons P x xs (f zero x refl) (all_from P xs (λ t y e. f (suc t) y e))

  pub all_at : (P : X → Type 0) (xs : List X) (t : ℕ) (x : X) → All P xs → slice_get xs t ≡ Some x → P x
  all_at P xs t x h e = subst P (get_or_from_slice_get xs t x x e) (All-get_or P xs t x (slice_get_within xs t x e) h)

  -- what holds of all holds of those after the first ones
  pub all_after : (P : X → Type 0) (xs ys : List X) → All P (xs ++ ys) → All P ys
  all_after P [] ys h = h
  all_after P (x ∷ xs) ys h = all_after P xs ys (All-tail P x (xs ++ ys) h)

  -- the last one, as it was popped
  pub popped : (xs rest : List X) (r : Option X) (x : X) → xs ≡ rest ++ option_to_list r → r ≡ Some x → xs ≡ rest ++ x ∷ []
  popped xs rest r x items this = items ∙ ap (λ (o : Option X). rest ++ option_to_list o) this

  pub one_less : (xs rest : List X) (r : Option X) (x : X) → xs ≡ rest ++ option_to_list r → r ≡ Some x → length xs ≡ length rest + 1
  one_less xs rest r x items this = ap length (popped xs rest r x items this) ∙ length-append rest (x ∷ [])

module _ {X Y : Type 0} (f : X → Y) where
  pub mapped : (xs : List X) (t : ℕ) (x : X) → slice_get xs t ≡ Some x → slice_get (map f xs) t ≡ Some (f x)
  mapped [] t x e = absurd (omega (arith, slice_get_within [] t x e))
  mapped (y ∷ xs) zero x e = ap (λ (z : X). Some (f z)) (same_some y x e)
  mapped (y ∷ xs) (suc t) x e = mapped xs t x e

  pub unmapped : (xs : List X) (t : ℕ) (y : Y) → slice_get (map f xs) t ≡ Some y → (x : X) × (slice_get xs t ≡ Some x) × (f x ≡ y)
  unmapped xs t y e =
      let near : t < length xs = subst (λ (n : ℕ). t < n) (length-map xs f) (slice_get_within (map f xs) t y e) in
      let x = found xs t near in
      (x.0, x.1, same_some (f x.0) y (sym (mapped xs t x.0 x.1) ∙ e))

  -- the last one of a mapped list
  pub map_snoc : (xs rest : List X) (x : X) → xs ≡ rest ++ x ∷ [] → map f xs ≡ map f rest ++ f x ∷ []
  map_snoc xs rest x e = ap (map f) e ∙ map-append f rest (x ∷ [])

module _ {X Y : Type 0} (P : X → Y → Type 0) where
  pub matches_nil : (xs : List X) (ys : List Y) → xs ≡ [] → ys ≡ [] → Matches P xs ys
  matches_nil xs ys a b = record { many = ap length b ∙ sym (ap length a); each = λ t x y e k. none_in xs t x (ap length a) e }

  pub matches_snoc : (xs : List X) (ys : List Y) (x : X) (y : Y) → Matches P xs ys → P x y → Matches P (xs ++ x ∷ []) (ys ++ y ∷ [])
  matches_snoc xs ys x y m p = record {
    many = length-append ys (y ∷ []) ∙ (ap (λ (n : ℕ). n + 1) m.many ∙ sym (length-append xs (x ∷ [])));
    each = λ t a b ea eb. elim (at_snoc xs x t a ea) [
      | inl h ↦ elim (at_snoc ys y t b eb) [ inl k ↦ m.each t a b h k | inr k ↦ past t a h k.0 ]
      | inr h ↦ elim (at_snoc ys y t b eb) [ inl k ↦ early t b h.0 k | inr k ↦ subst₂ P h.1 k.1 p ]
    ];
  }
    where
      past : {B : Type 0} (t : ℕ) (a : X) → slice_get xs t ≡ Some a → t ≡ length ys → B
      past t a h k = absurd (omega (arith, slice_get_within xs t a h, k, m.many))

      early : {B : Type 0} (t : ℕ) (b : Y) → t ≡ length xs → slice_get ys t ≡ Some b → B
      early t b h k = absurd (omega (arith, slice_get_within ys t b k, h, m.many))

  pub matches_more : (xs xs' : List X) (ys ys' : List Y) (x : X) (y : Y) → xs' ≡ xs ++ x ∷ [] → ys' ≡ ys ++ y ∷ [] → Matches P xs ys → P x y → Matches P xs' ys'
  matches_more xs xs' ys ys' x y a b m p = subst₂ (λ (l : List X) (k : List Y). Matches P l k) (sym a) (sym b) (matches_snoc xs ys x y m p)

  -- one element less
  pub matches_pop : (xs : List X) (ys : List Y) (x : X) (y : Y) → Matches P (xs ++ x ∷ []) (ys ++ y ∷ []) → Matches P xs ys × P x y
  matches_pop xs ys x y m =
      let long : length ys ≡ length xs = omega (arith, m.many, length-append ys (y ∷ []), length-append xs (x ∷ [])) in (
        record { many = long; each = λ t a b ea eb. m.each t a b (snoc_left xs x t a ea) (snoc_left ys y t b eb) },
        m.each (length xs) x y (snoc_last xs x) (subst (λ (n : ℕ). slice_get (ys ++ y ∷ []) n ≡ Some y) long (snoc_last ys y)),
      )

  pub matches_popped : (xs xs' : List X) (ys ys' : List Y) (x : X) (y : Y) → xs' ≡ xs ++ x ∷ [] → ys' ≡ ys ++ y ∷ [] → Matches P xs' ys' → Matches P xs ys × P x y
  matches_popped xs xs' ys ys' x y a b m = matches_pop xs ys x y (subst₂ (λ (l : List X) (k : List Y). Matches P l k) a b m)

module _ {X Y Z : Type 0} (P : ℕ → X → Y → Z → Type 0) where
  pub beside_nil : (xs : List X) (ys : List Y) (zs : List Z) → xs ≡ [] → ys ≡ [] → zs ≡ [] → Beside P xs ys zs
  beside_nil xs ys zs a b c = record { second = ap length b ∙ sym (ap length a); third = ap length c ∙ sym (ap length a); each = λ t x y z ex ey ez. none_in xs t x (ap length a) ex }

  pub beside_snoc : (xs : List X) (ys : List Y) (zs : List Z) (x : X) (y : Y) (z : Z) → Beside P xs ys zs → P (length xs) x y z → Beside P (xs ++ x ∷ []) (ys ++ y ∷ []) (zs ++ z ∷ [])
  beside_snoc xs ys zs x y z m p = record {
    second = length-append ys (y ∷ []) ∙ (ap (λ (n : ℕ). n + 1) m.second ∙ sym (length-append xs (x ∷ [])));
    third = length-append zs (z ∷ []) ∙ (ap (λ (n : ℕ). n + 1) m.third ∙ sym (length-append xs (x ∷ [])));
    each = λ t a b c ea eb ec. elim (at_snoc xs x t a ea) [
      | inl h ↦ before t a b c h (slice_get_within xs t a h) eb ec
      | inr h ↦ here t a b c h.0 h.1 eb ec
    ];
  }
    where
      before : (t : ℕ) (a : X) (b : Y) (c : Z) → slice_get xs t ≡ Some a → t < length xs → slice_get (ys ++ y ∷ []) t ≡ Some b → slice_get (zs ++ z ∷ []) t ≡ Some c → P t a b c
      before t a b c h near eb ec = elim (at_snoc ys y t b eb) [
        | inl k ↦ elim (at_snoc zs z t c ec) [
          | inl j ↦ m.each t a b c h k j
          | inr j ↦ absurd (omega (arith, near, j.0, m.third))
        ]
        | inr k ↦ absurd (omega (arith, near, k.0, m.second))
      ]

      here : (t : ℕ) (a : X) (b : Y) (c : Z) → t ≡ length xs → x ≡ a → slice_get (ys ++ y ∷ []) t ≡ Some b → slice_get (zs ++ z ∷ []) t ≡ Some c → P t a b c
      here t a b c end same eb ec = elim (at_snoc ys y t b eb) [
        | inl k ↦ absurd (omega (arith, slice_get_within ys t b k, end, m.second))
        | inr k ↦ elim (at_snoc zs z t c ec) [
          | inl j ↦ absurd (omega (arith, slice_get_within zs t c j, end, m.third))
          | inr j ↦ subst (λ (n : ℕ). P n a b c) (sym end)
              (subst (λ (u : X). P (length xs) u b c) same (subst₂ (λ (v : Y) (w : Z). P (length xs) x v w) k.1 j.1 p))
        ]
      ]

  pub beside_more : (xs xs' : List X) (ys ys' : List Y) (zs zs' : List Z) (x : X) (y : Y) (z : Z) → xs' ≡ xs ++ x ∷ [] → ys' ≡ ys ++ y ∷ [] → zs' ≡ zs ++ z ∷ []
      → Beside P xs ys zs → P (length xs) x y z → Beside P xs' ys' zs'
  beside_more xs xs' ys ys' zs zs' x y z a b c m p =
      subst (λ (l : List X). Beside P l ys' zs') (sym a)
      (subst₂ (λ (k : List Y) (j : List Z). Beside P (xs ++ x ∷ []) k j) (sym b) (sym c) (beside_snoc xs ys zs x y z m p))

module _ {Y : Type 0} (ys : List Y) (i : ℕ) (y : Y) where
  within_set : (t : ℕ) (b : Y) → slice_get (set ys i y) t ≡ Some b → t < length ys
  within_set t b e = subst (λ (n : ℕ). t < n) (length-set ys i y) (slice_get_within (set ys i y) t b e)

  pub set_here : (t : ℕ) (b : Y) → t ≡ i → slice_get (set ys i y) t ≡ Some b → b ≡ y
  set_here t b is e =
      let near : i < length ys = subst (λ (n : ℕ). n < length ys) is (within_set t b e) in
      let e' : slice_get (set ys i y) i ≡ Some b = subst (λ (n : ℕ). slice_get (set ys i y) n ≡ Some b) is e in
      sym (get_or_from_slice_get (set ys i y) i b y e') ∙ get_or-set_same ys i y y near

  pub set_there : (t : ℕ) (b : Y) → (t ≡ i → ⊥) → slice_get (set ys i y) t ≡ Some b → slice_get ys t ≡ Some b
  set_there t b other e =
      slice_get_read ys (length ys) t b refl (within_set t b e) (sym (get_or_from_slice_get (set ys i y) t b b e) ∙ get_or-set_other ys i t y b other)

module _ {X Y : Type 0} (P Q : ℕ → X → Y → Type 0) (xs : List X) (ys : List Y) (i : ℕ) (x : X) (y : Y) where
  -- what holds at the place that was changed, and stays elsewhere, holds everywhere
  pub at_set : i < length xs → x ≡ get_or xs i x → Q i x y → ((t : ℕ) (a : X) (b : Y) → (t ≡ i → ⊥) → P t a b → Q t a b)
      → ((t : ℕ) (a : X) (b : Y) → slice_get xs t ≡ Some a → slice_get ys t ≡ Some b → P t a b)
      → (t : ℕ) (a : X) (b : Y) → slice_get xs t ≡ Some a → slice_get (set ys i y) t ≡ Some b → Q t a b
  at_set near this here stays before t a b ga gb = elim (eqb_tells t i) [ inl s ↦ same s.1 | inr s ↦ stays t a b s.1 (before t a b ga (set_there ys i y t b s.1 gb)) ]
    where
      same : t ≡ i → Q t a b
      same is =
          let there : slice_get xs i ≡ Some x = slice_get_read xs (length xs) i x refl near this in
          let ax : x ≡ a = same_some x a (sym there ∙ (ap (λ (n : ℕ). slice_get xs n) (sym is) ∙ ga)) in
          subst (λ (n : ℕ). Q n a b) (sym is) (subst (λ (u : X). Q i u b) ax (subst (λ (v : Y). Q i x v) (sym (set_here ys i y t b is gb)) here))
