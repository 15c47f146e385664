-- The numbers of new passes, and of passes that are gathered.
use Rattle.std.proofs.Common.{◌≡◌, ℕ, zero, suc, ◌+◌, ◌-◌, ◌<◌, false, List, [], ◌∷◌, ◌++◌, length, All, Option, Some, IfSome, refl, ap, sym, ◌∙◌, subst, arith, append_assoc, length-append}
use Rattle.std.proofs.lemmas.List.Elements.{All-pop}
use Rattle.std.specs.Option.{option_to_list}
use Rattle.atomic_table.specs.Seated.{TableId}
use Rattle.turn_lock.specs.declared.view.Own.{Own}
use Rattle.turn_lock.specs.Passes.{PassState}
use Rattle.turn_lock.specs.Turns.{pass_from, passes_from, IsPassOf}
use Rattle.turn_lock.specs.Inner.Views.{own_of, fresh, gathered}

module _ {S N : Type 0} where
  pub fresh_next : (fixed : S) (seen : List N) (from count : ℕ) → 0 < count → fresh fixed seen from count ≡ own_of from fixed seen ∷ fresh fixed seen (from + 1) (count - 1)
  fresh_next fixed seen from zero some_left = absurd (omega arith)
  fresh_next fixed seen from (suc count) some_left = ap (λ (k : ℕ). own_of from fixed seen ∷ fresh fixed seen (from + 1) k) (omega arith)

module _ {S N : Type 0} (T : Type 0) where
  passes_next : (turn : TableId) (fixed : S) (seen : List N) (count : ℕ) → passes_from {T = T} turn fixed seen (count + 1) ≡ passes_from turn fixed seen count ++ pass_from turn fixed seen count ∷ []
  passes_next turn fixed seen count = ap (λ (k : ℕ). passes_from {T = T} turn fixed seen k) {x = count + 1} {y = suc count} (omega arith)

module _ {T S N : Type 0} where
  pub pushed_pass : (turn : TableId) (fixed : S) (seen : List N) (count : ℕ) (passes : List (PassState T S N)) (p : PassState T S N) → passes ≡ passes_from turn fixed seen count
      → p ≡ pass_from turn fixed seen count
      → passes ++ p ∷ [] ≡ passes_from turn fixed seen (count + 1)
  pushed_pass turn fixed seen count passes p is this = (λ i. is i ++ this i ∷ []) ∙ sym (passes_next T turn fixed seen count)

pub one_pushed : {A : Type 0} → (xs ys : List A) (x : A) → xs ≡ [] → ys ≡ xs ++ x ∷ [] → ys ≡ x ∷ []
one_pushed {A} xs ys x empty pushed = pushed ∙ ap (λ (l : List A). l ++ x ∷ []) empty

module _ {T S N : Type 0} where
  pub gathered_snoc : (fixed : S) (ps : List (PassState T S N)) (p : PassState T S N) → gathered fixed (ps ++ p ∷ []) ≡ own_of p.number fixed p.seen ∷ gathered fixed ps
  gathered_snoc fixed [] p = refl
  gathered_snoc fixed (q ∷ ps) p = ap (λ (l : List (Own S N)). l ++ own_of q.number fixed q.seen ∷ []) (gathered_snoc fixed ps p)

  pub length_gathered : (fixed : S) (ps : List (PassState T S N)) → length (gathered fixed ps) ≡ length ps
  length_gathered fixed [] = refl
  length_gathered fixed (p ∷ ps) = let e : length (gathered fixed ps) ≡ length ps = length_gathered fixed ps in omega (arith, length-append (gathered fixed ps) (own_of p.number fixed p.seen ∷ []))

  -- what the last of the passes leaves behind
  pub record Popped (turn : TableId) (fixed : S) (passes rest : List (PassState T S N)) (p : PassState T S N) : Type 0 where
    pub this : IsPassOf turn fixed false p
    pub idle : All (IsPassOf turn fixed false) rest
    pub own : own_of p.number fixed p.seen ∷ gathered fixed rest ≡ gathered fixed passes

  pub popped : (turn : TableId) (fixed : S) (passes rest : List (PassState T S N)) (r : Option (PassState T S N)) (p : PassState T S N) → passes ≡ rest ++ option_to_list r → r ≡ Some p
      → All (IsPassOf turn fixed false) passes → Popped turn fixed passes rest p
  popped turn fixed passes rest r p items this all =
      let a = All-pop (IsPassOf turn fixed false) passes rest r items all in
      record {
        this = subst (λ (x : Option (PassState T S N)). IfSome x (IsPassOf turn fixed false)) this a.1;
        idle = a.0;
        own = sym (gathered_snoc fixed rest p)
            ∙ sym (ap (λ (l : List (PassState T S N)). gathered fixed l) items ∙ ap (λ (x : Option (PassState T S N)). gathered fixed (rest ++ option_to_list x)) this);
      }

  -- one more is gathered
  pub gathered_more : (own all : List (Own S N)) (turn : TableId) (fixed : S) (passes rest : List (PassState T S N)) (p : PassState T S N) → Popped turn fixed passes rest p
      → own ++ gathered fixed passes ≡ all
      → (own ++ own_of p.number fixed p.seen ∷ []) ++ gathered fixed rest ≡ all
  gathered_more own all turn fixed passes rest p pop is = append_assoc own (own_of p.number fixed p.seen ∷ []) (gathered fixed rest) ∙ (ap (λ (l : List (Own S N)). own ++ l) pop.own ∙ is)
