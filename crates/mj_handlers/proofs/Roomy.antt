-- Lists in which there is room for one more.
use Rattle.std.proofs.Common.{◌≡◌, inl, inr, ℕ, zero, suc, ◌+◌, ◌<◌, ◌≤◌, List, [], ◌∷◌, length, refl, sym, ap, subst, arith, set, get_or, vec_len, vec_capacity}
use Rattle.std.specs.Prelude.{Some, slice_get, Vec}
use Rattle.std.specs.declared.alloc.Global.{Global}
use Rattle.std.proofs.lemmas.Bool.Decides.{eqb_tells}
use Rattle.mj_handlers.specs.declared.visit.Session.{Session}
use Rattle.mj_ticker.proofs.Besides.{set_here, set_there}
use Rattle.mj_handlers.specs.Handlers.{rows}

module _ {L : Type 0} where
  pub rows_set : (kept : List (Vec (Session L) Global)) (i : ℕ) (d v : Vec (Session L) Global) → v.items ≡ (get_or kept i d).items → rows (set kept i v) ≡ rows kept
  rows_set [] i d v e = refl
  rows_set (x ∷ xs) zero d v e = ap (λ (h : List (Session L)). h ∷ rows xs) e
  rows_set (x ∷ xs) (suc i) d v e = ap (λ (l : List (List (Session L))). x.items ∷ l) (rows_set xs i d v e)

  pub room_more : (kept : List (Vec (Session L) Global)) (i : ℕ) (w : Vec (Session L) Global) → vec_len w + 1 ≤ vec_capacity w
      → ((k : ℕ) (v : Vec (Session L) Global) → k < i → slice_get kept k ≡ Some v → vec_len v + 1 ≤ vec_capacity v)
      → (k : ℕ) (v : Vec (Session L) Global) → k < i + 1 → slice_get (set kept i w) k ≡ Some v → vec_len v + 1 ≤ vec_capacity v
  room_more kept i w here before k v low e =
      elim (eqb_tells k i) [
        | inl s ↦ subst (λ (x : Vec (Session L) Global). vec_len x + 1 ≤ vec_capacity x) (sym (set_here kept i w k v s.1 e)) here
        | inr s ↦ before k v (less s.1)
            (set_there kept i w k v s.1 e)
      ]
    where
      less : (k ≡ i → ⊥) → k < i
      less ne = omega (arith, low, ne)

module _ {X : Type 0} where
  -- in lists that have room there is room in one
  pub room_at : (kept : List (Vec X Global)) (i : ℕ) (d : Vec X Global) → i < length kept
      → ((k : ℕ) (e : Vec X Global) → k < length kept → vec_len (get_or kept k e) + 1 ≤ vec_capacity (get_or kept k e)) →
      vec_len (get_or kept i d) + 1 ≤ vec_capacity (get_or kept i d)
  room_at kept i d near all = all i d near
