-- Games before their first entries.
use Rattle.std.proofs.Common.{◌≡◌, ◌⊎◌, ℕ, zero, suc, ◌+◌, List, [], ◌∷◌, ◌++◌, length, get_or, refl, ap, sym, subst, ◌∙◌, inl, inr, arith}
use Rattle.std.specs.Prelude.{Some, All, slice_get}
use Rattle.std.proofs.lemmas.Option.{slice_get-get_or, slice_get_within}
use Rattle.std.proofs.lemmas.List.{length_push}
use Rattle.std.proofs.lemmas.List.Elements.{All-nil, All-from_get_or}
use Rattle.mj_words.specs.Asked.{ServedWith}
use Rattle.mj_ports.specs.declared.entry.Entry.{Entry}
use Rattle.mj_deeds.specs.declared.answer.Answer.{Answer}
use Rattle.mj_history.specs.Legal.{Game}
use Rattle.mj_hosting.specs.Plans.{table_setting}
use Rattle.mj_hosting.specs.Steps.{AreNew}

module _ {X : Type 0} where
  pub in_none : (t : ℕ) (x : X) → slice_get {X = X} [] t ≡ Some x → ⊥
  in_none t x e = omega (arith, slice_get_within {A = X} [] t x e)

  -- A value of it is one of the list, or the one more.
  of_more : (xs : List X) (y : X) (t : ℕ) (x : X) → slice_get (xs ++ y ∷ []) t ≡ Some x → (slice_get xs t ≡ Some x) ⊎ ((t ≡ length xs) × (x ≡ y))
  of_more [] y zero x h = inr (refl, cc)
  of_more [] y (suc t) x h = absurd (in_none t x h)
  of_more (z ∷ xs) y zero x h = inl h
  of_more (z ∷ xs) y (suc t) x h = elim (of_more xs y t x h) [
    | inl k ↦ inl k
    | inr k ↦ inr (ap (λ n. suc n) k.0, k.1)
  ]

  -- Of a list of the same length there is a value at the same place.
  pub beside : (xs ys : List X) (t : ℕ) (x : X) → length ys ≡ length xs → slice_get xs t ≡ Some x → (y : X) × (slice_get ys t ≡ Some y)
  beside xs ys t x size at = (get_or ys t x, slice_get-get_or ys t x (omega (arith, size, slice_get_within xs t x at)))

-- games before their first entries

pub none_new : (s : ServedWith) (games : List Game) → games ≡ [] → AreNew s 0 games
none_new s games e = record {
  many = ap length e;
  each = λ t game at. absurd (in_none t game (subst (λ (gs : List Game). slice_get gs t ≡ Some game) e at));
}

pub one_new : (s : ServedWith) (rooms next : ℕ) (games more : List Game) (game : Game) → next ≡ rooms + 1 → game ≡ record { setting = table_setting s rooms; entries = [] }
    → more ≡ games ++ game ∷ [] → AreNew s rooms games → AreNew s next more
one_new s rooms next games more game n is e old = record {
  many = ap length e ∙ length_push games game ∙ ap (λ k. k + 1) old.many ∙ sym n;
  each = λ t g at. elim (of_more games game t g (subst (λ (gs : List Game). slice_get gs t ≡ Some g) e at)) [
    | inl h ↦ old.each t g h
    | inr h ↦ h.1 ∙ is ∙ ap (λ (k : ℕ). record { setting = table_setting s k; entries = [] }) (sym (h.0 ∙ old.many))
  ];
}

pub none_entered : (P : Entry Answer → Type 0) (s : ServedWith) (count : ℕ) (games : List Game) → AreNew s count games → All (λ (g : Game). All P g.entries) games
none_entered P s count games new = All-from_get_or (λ (g : Game). All P g.entries) games (record { setting = table_setting s 0; entries = [] })
    (λ t inside. subst (λ (g : Game). All P g.entries) (sym (new.each t _ (slice_get-get_or games t (record { setting = table_setting s 0; entries = [] }) inside))) (All-nil P))
