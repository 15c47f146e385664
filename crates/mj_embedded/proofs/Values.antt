-- The machine values of `Held` and `Loose`: each has one field, a pointer.
use Rattle.std.proofs.Common.{◌≡◌, List, [], ◌∷◌, ◌++◌, ℕ, refl, sym, subst, true≢false}
use Rattle.std.specs.Prelude.{Option, None, Some, is_some, IsTrue}
use mir.Val.{Val, vstruct, vcons, vnil, of_list}
use mir.Raw.{raw as bare}
use base.Logic.{never, fst∗}
use seplogic.Ra.Ura.{Ura}
use types.Logic.{Logic, sem}
use types.Kit.{Item, Goal, Seq, Step, step, ‵, ◌$◌, drop, fsplit, fjoin, fpick, fpack, feq_i, feq_l}
use denote.RattleType.{RattleType, Valss}
use denote.Builtin.{RawPtr}
use denote.Memory.{lone}
use denote.RawPtr.{Ptr, block_ptr, null_ptr, ptr_val, in_a_block}
use denote.Steps.{nothing}
use denote.Struct.Struct.{within}
use denote.Struct.Owning.{shape}
use Rattle.libc.specs.Heap.{chunk}
use Rattle.mj_embedded.specs.Owned.{held_owns, loose_owns}
use Rattle.mj_embedded.specs.contracts.handle.Held as held
use Rattle.mj_embedded.specs.contracts.handle.Loose as loose
use Rattle.mj_stepped.specs.contracts.stepped.Stepped.{the_row}

abbrev pub word : Ptr → Val
word p = vstruct (vcons (ptr_val p) vnil)

module _ {M : Type 1} {𝓤 : Ura M} {𝓛 : Logic 𝓤} {K : Type 0} {Γ : List (Item 𝓤)} {G : Goal 𝓤 𝓛.H} where
  -- What is behind a pointer that holds something lies in a block.
  pub held_lies : K → (R : RattleType) (p : Ptr) (x : Option R.Denot) → IsTrue (is_some x)
      → ((b o : ℕ) (y : R.Denot) → p ≡ block_ptr b o → x ≡ Some y → Seq K 𝓛 (‵ (loose_owns R (block_ptr b o) y) ∷ Γ) G)
      → Seq K 𝓛 (‵ (held_owns R p x) ∷ Γ) G
  held_lies t R p (Some y) is k = in_a_block t p (λ q. loose_owns R q y) (fst∗ 𝓤 (never 𝓤) (sem 𝓛 (chunk (bare (lone R.mir)) null_ptr))) (λ b o e. k b o y e refl)
  held_lies t R p None is k = absurd (true≢false (sym is))

  pub held_in : K → (p : Ptr) (x : Option the_row.Denot)
      → Step K 𝓛 (‵ (held.the_row.own_val (record { at = p; game = x }) (word p ∷ [])) ∷ Γ) G (‵ (held_owns the_row p x) ∷ Γ) G
  held_in t p x = step (λ s.
      nothing t $ feq_i t (List Val) (ptr_val p ∷ []) (ptr_val p ∷ []) refl $ fjoin t $ feq_i t (List Val) (word p ∷ []) (word p ∷ []) refl $ fjoin t $
      fpack t (Valss (RawPtr ∷ [])) (within (shape held.the_type) (p, tt) (word p ∷ [])) (ptr_val p ∷ [], tt) $ fjoin t $ s)

  pub held_out : K → (d : held.the_row.Denot) (vs : List Val)
      → (vs ≡ word d.at ∷ [] → Seq K 𝓛 (‵ (held_owns the_row d.at d.game) ∷ Γ) G)
      → Seq K 𝓛 (‵ (held.the_row.own_val d vs) ∷ Γ) G
  held_out t d vs k =
      fsplit t $ fpick t (λ vss. fsplit t $ feq_l t (λ ev. fsplit t $ feq_l t (λ ep. drop t $
      k (subst (λ (ws : List Val). vs ≡ vstruct (of_list (ws ++ [])) ∷ []) ep ev))))

  module _ (R : RattleType) where
    pub loose_in : K → (p : Ptr) (x : R.Denot)
        → Step K 𝓛 (‵ ((loose.the_row R).own_val (record { at = p; value = x }) (word p ∷ [])) ∷ Γ) G (‵ (loose_owns R p x) ∷ Γ) G
    loose_in t p x = step (λ s.
        nothing t $ feq_i t (List Val) (ptr_val p ∷ []) (ptr_val p ∷ []) refl $ fjoin t $ feq_i t (List Val) (word p ∷ []) (word p ∷ []) refl $ fjoin t $
        fpack t (Valss (RawPtr ∷ [])) (within (shape (loose.the_type R)) (p, tt) (word p ∷ [])) (ptr_val p ∷ [], tt) $ fjoin t $ s)

    pub loose_out : K → (d : (loose.the_row R).Denot) (vs : List Val)
        → ((b o : ℕ) → d.at ≡ block_ptr b o → vs ≡ word (block_ptr b o) ∷ [] → Seq K 𝓛 (‵ (loose_owns R (block_ptr b o) d.value) ∷ Γ) G)
        → Seq K 𝓛 (‵ ((loose.the_row R).own_val d vs) ∷ Γ) G
    loose_out t d vs k =
        fsplit t $ fpick t (λ vss. fsplit t $ feq_l t (λ ev. fsplit t $ feq_l t (λ ep. drop t $
        in_a_block t d.at (λ q. loose_owns R q d.value) (fst∗ 𝓤 (never 𝓤) (sem 𝓛 (chunk (bare (lone R.mir)) null_ptr))) (λ b o e. k b o e
        (subst (λ (q : Ptr). vs ≡ word q ∷ []) e (subst (λ (ws : List Val). vs ≡ vstruct (of_list (ws ++ [])) ∷ []) ep ev))))))
