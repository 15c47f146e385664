-- Sets that are gathered kind by kind.
use Rattle.std.proofs.Common.{◌≡◌, ℕ, ◌+◌, ◌<◌, ◌≤◌, Bool, true, false, eqb, ◌||◌, sym, ap, ◌∙◌, arith, eq-eqb, inl, inr}
use Rattle.std.proofs.lemmas.Bool.{cases_eq, ne_eqb}
use Rattle.mj_tiles.specs.Kinds.{has_kind, with_kind, no_kinds}
use Rattle.mj_tiles.proofs.KindSets.{has_kind-none, has_kind-with}

-- The kinds below a number are in a set as they are in another, and the later ones aren't.
pub record Gathered (set : ℕ) (other : ℕ → Bool) (number : ℕ) : Type 0 where
  pub below : (kind : ℕ) → kind < number → has_kind set kind ≡ other kind
  pub above : (kind : ℕ) → number ≤ kind → has_kind set kind ≡ false

pub none_gathered : (set : ℕ) (other : ℕ → Bool) → set ≡ no_kinds → Gathered set other 0
none_gathered set other is = record { below = λ kind low. absurd (omega arith); above = λ kind high. ap (λ s. has_kind s kind) is ∙ has_kind-none kind }

apart : (kind other : ℕ) → (kind ≡ other → ⊥) → eqb kind other ≡ false
apart kind other not = ne_eqb kind other not

-- A kind is added, which the other has.
pub one_more : (set next number kind : ℕ) (other : ℕ → Bool) → Gathered set other number → kind ≡ number → next ≡ with_kind set kind → other number ≡ true → Gathered next other (number + 1)
one_more set next number kind other before at is has = record {
  below = λ k low. ap (λ s. has_kind s k) is ∙ has_kind-with set kind k ∙ elim (cases_eq kind k) [
    | inl same ↦ ap (λ b. b || has_kind set k) (eq-eqb kind k same) ∙ sym (ap other (sym same ∙ at) ∙ has)
    | inr not ↦ ap (λ b. b || has_kind set k) (apart kind k not) ∙ before.below k (let apart_too : number ≡ k → ⊥ = λ e. not (at ∙ e) in omega (arith, low, apart_too))
  ];
  above = λ k high. ap (λ s. has_kind s k) is ∙ has_kind-with set kind k
      ∙ ap (λ b. b || has_kind set k) (apart kind k (λ e. (let less : k ≡ number = sym e ∙ at in absurd (omega (arith, high, less)))))
      ∙ before.above k (omega (arith, high));
}

-- The other doesn't have the next kind.
pub none_more : (set next number : ℕ) (other : ℕ → Bool) → Gathered set other number → next ≡ set → other number ≡ false → Gathered next other (number + 1)
none_more set next number other before is lacks = record {
  below = λ k low. ap (λ s. has_kind s k) is ∙ elim (cases_eq number k) [
    | inl same ↦ before.above k (omega (arith, same)) ∙ sym (ap other (sym same) ∙ lacks)
    | inr not ↦ before.below k (omega (arith, low, not))
  ];
  above = λ k high. ap (λ s. has_kind s k) is ∙ before.above k (omega (arith, high));
}
