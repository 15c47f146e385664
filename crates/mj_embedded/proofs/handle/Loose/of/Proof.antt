-- `of` takes the box apart, and the pointer owns what it owned: a walk of its MIR.
use Rattle.std.proofs.Common.{◌≡◌, List, [], ◌∷◌, ◌++◌, refl, ap, ◌∙◌}
use mir.Syntax.{Args, a_type, dcons, dnil}
use mir.Raw.{raw as bare}
use mir.Val.{Val}
use mir.MapTy.{inst_fn}
use base.Fraction.{full_share}
use base.Logic.{emp, never, fst∗, id⊢}
use base.Fml.{ftrue, flft}
use prog.Wp.{WpFn}
use types.Logic.{sem}
use contract.BorrowLft.{◌⊑◌, ⊑_static}
use contract.Monad.{fact, fact_i}
use contract.Running.{tables, tables_of}
use types.Kit.{‵, raw, ◌⊛◌, some, later, prop, ◌$◌, ◌∵◌, !, qed, by, move, drop, split, join, fsplit, fjoin, pick, use0, use1, await, regoal, feq_l}
use types.Run.{of_opd, no_more, and_then, returns, enter}
use types.ByLocal.{alloc_all, pass_all, free_all, look_at, get, lands_as, sets}
use types.Part.{agg}
use denote.Exit.{no}
use denote.RattleType.{RattleType, owns}
use denote.Param.{param, bounded}
use denote.Param.NoDrop as undropping
use denote.RawPtr.{Ptr, RawPtr, block_ptr, null_ptr, ptr_val, in_a_block}
use denote.Signature.{types_at, plain}
use denote.Memory.{lone}
use denote.Steps.{nothing, only}
use denote.Triple.Call.{calls_at}
use denote.Triple.Clauses.{Lasts, lasts}
use denote.Triple.Spec.{triple_of}
use denote.Triple.Table.{framed}
use denote.Triple.Walked.{Stays, stay_dropped, walk_of}
use Rattle.libc.specs.Heap.{chunk}
use Rattle.std.proofs.alloc.Calls.{Goes-blank}
use Rattle.std.proofs.raw_atomic.Walks.{proved_at, leaves}
use Rattle.std.proofs.impls.GlobalAllocator.TheImpl.Met.{passed}
use Rattle.std.specs.contracts.impls.GlobalAllocator.TheImpl.{ghosts, dict}
use Rattle.std_alloc.proofs.BoxSteps.Form as box
use Rattle.std_alloc.proofs.BoxSteps.Steps.{box_out, box_in}
use Rattle.std.specs.contracts.alloc.Global as heap
use Rattle.std_alloc.specs.contracts.boxed.Box as boxed
use Rattle.std_alloc.specs.contracts.boxed.Box.into_raw as g
use Rattle.std_alloc.proofs.boxed.Box.into_raw.Met.{met}
use Rattle.mj_embedded.specs.Owned.{loose_owns}
use Rattle.mj_embedded.specs.contracts.handle.Loose as loose
use Rattle.mj_embedded.specs.contracts.handle.Loose.of as f
use Rattle.mj_embedded.proofs.Destruct++none.drop.Code as undropped_code
use Rattle.mj_embedded.proofs.Heap.{Heap, heap_is, heap_al, undropped}
use Rattle.mj_embedded.proofs.Values.{word, loose_in}
use Rattle.mj_embedded.proofs.handle.Loose.of.Statement.{statement}
use Rattle.mj_embedded.proofs.handle.Loose.of.Code as code

module _ {M : Type 1} where
  pub of_spec : statement M
  unfolding tables_of undropped_code.code
  of_spec 𝓤 𝓛 𝓜 𝓡 wired T L drops dropped =
      let H = 𝓛.H in let 𝓣 = tables 𝓤 H 𝓜 𝓡 𝓡.env in let R : RattleType = param 0 T in let E : box.Bx = record { row = T; laws = L; al = heap_al } in
      let args : Args = bounded (a_type ∷ []) (T, tt) (dcons drops dnil) in let fn = inst_fn args code.function in
      let En = f.ended T drops in let c = f.clauses T drops 𝓛 𝓜.mem 𝓡.returns in
      let hs : Stays En.signature.params En.kept = (stay_dropped (plain (λ _. boxed.the_row R heap.the_row ghosts)) no, tt) in let W = walk_of 𝓛 En hs c in
      let G = triple_of 𝓛 (g.signature T Heap ghosts dict undropped drops) (g.spec T Heap ghosts dict undropped drops 𝓛 𝓜.mem 𝓡.returns) in
      let known = met 𝓤 𝓛 𝓜 𝓡 (code.calls-std_alloc::boxed::Box::into_raw 𝓡.env wired) T Heap L heap_is ghosts dict undropped drops
      (passed 𝓡.env (code.calls-std_heap::GlobalAllocator::allocate 𝓡.env wired) (code.calls-std_heap::GlobalAllocator::deallocate 𝓡.env wired)
      (code.calls-std_heap::GlobalAllocator::grow 𝓡.env wired) (code.calls-std_heap::GlobalAllocator::shrink 𝓡.env wired) M 𝓤 𝓛 𝓜 𝓡)
      (undropping.glues "mj_embedded::Destruct++none::drop" 𝓡.env (code.calls-mj_embedded::Destruct++none::drop 𝓡.env wired) Heap heap_is M 𝓤 𝓛 𝓜 𝓡) dropped in
      proved_at 𝓛 En hs c 𝓜 𝓡 (Goes-blank 𝓛 1 (plain (λ _. boxed.the_row R heap.the_row ghosts)) no (λ κs x w. tt), tt) (f.Key.name args) fn (code.unfolded 𝓤 H 𝓜 𝓡 wired (T, tt) drops) (λ z are.
      let κ = z.0.0.0 in let q = z.0.1.0 in let v = z.0.3.0 in let inT = κ ⊑ T.lives in let static = [] ⊑ Heap.lives in
      qed 𝓛 (((‵ (flft κ q) ⊛ ‵ ftrue) ⊛ ‵ (owns (types_at En.signature.params z.0.0) z.0.3 z.0.4)) ∷ (raw (fact 𝓤 inT) ⊛ ‵ ftrue) ∷ []) ∵ split ! $ move ! (1 ∷ []) $ fsplit ! $
      use1 𝓛 (‵ ((box.B E).own_val v z.0.4.0)) (id⊢ 𝓤 _) $ box_out E ! v z.0.4.0 (λ b o hv e is fits. box_in E ! v b o v.value e refl $
      let w : Val = box.word E hv b o in let typed = box.box_typed E hv b o fits in
      let y : G.Ghost = (((κ, ([], tt)), (q, (full_share, tt)), tt, (v, tt), (w ∷ [], tt)), tt) in
      regoal ! (λ (us : List Val). prop (WpFn 𝓤 H 𝓣.C 𝓣.Λ fn (us ++ []) (W.post z))) is refl $
      -- [the box; nothing; the token; the fact]
      fjoin ! $ move ! (1 ∷ []) $ split ! $ move ! (1 ∷ []) $ use0 𝓛 (‵ (flft [] full_share)) (𝓛.lfts.lft-nil full_share) $ join ! $ move ! (1 ∷ []) $ join ! $ join ! $
      move ! (1 ∷ []) $ split ! $ move ! (1 ∷ []) $ use0 𝓛 (raw (fact 𝓤 static)) (fact_i 𝓤 static (emp 𝓤) (⊑_static [])) $ join ! $ move ! (1 ∷ []) $ join ! $ move ! (1 ∷ []) $ join ! $
      use1 𝓛 (raw (G.pre y)) (id⊢ 𝓤 _) $
      enter ! 𝓣.C 𝓣.Λ fn (w ∷ []) (W.post z) $ alloc_all ! (λ l. pass_all ! refl (typed, tt) $ sets ! (of_opd ! (get ! refl)) refl typed $
      calls_at ! (framed 𝓤 H 𝓜 𝓣) G known y (and_then ! (get ! refl) (no_more !)) (λ u.
      use1 𝓛 (later (some (λ (r : Ptr). ((‵ (flft κ q) ⊛ ‵ (flft [] full_share) ⊛ ‵ ftrue) ⊛ ‵ (RawPtr.own_val r (u ∷ []))) ⊛
      some (λ (ls : Lasts (g.ended T Heap ghosts dict undropped drops) y.0.0 y.0.3). ‵ (lasts (g.ended T Heap ghosts dict undropped drops) y.0.0 y.0.3 ls) ⊛ ‵ (loose_owns R r v.value))))) (id⊢ 𝓤 _) $
      await ! tt $ pick ! (λ r. split ! $ move ! (1 ∷ []) $ pick ! (λ ls. split ! $ drop ! $
      in_a_block ! r (λ p. loose_owns R p v.value) (fst∗ 𝓤 (never 𝓤) (sem 𝓛 (chunk (bare (lone R.mir)) null_ptr))) (λ b' o' e'.
      move ! (1 ∷ []) $ split ! $ move ! (1 ∷ []) $ feq_l ! (λ eu.
      lands_as ! (ap only (eu ∙ ap (λ (p : Ptr). ptr_val p ∷ []) e')) refl (tt, tt) $ sets ! (agg ! (and_then ! (get ! refl) (no_more !))) refl (tt, (tt, tt)) $
      let made : (loose.the_row R).Denot = record { at = block_ptr b' o'; value = v.value } in
      returns ! (look_at ! 0 refl) $ free_all ! refl $
      -- [the tokens; what the pointer owns]
      split ! $ move ! (1 ∷ []) $ drop ! $ nothing ! $ move ! (1 ∷ []) $ join ! $ move ! (1 ∷ []) $ loose_in R ! (block_ptr b' o') v.value $
      use0 𝓛 (raw (fact 𝓤 (made.value ≡ v.value))) (fact_i 𝓤 (made.value ≡ v.value) (emp 𝓤) refl) $ nothing ! $ nothing ! $ fjoin ! $ move ! (3 ∷ 0 ∷ 2 ∷ 1 ∷ []) $
      by ! (leaves 𝓛 En hs c z (word (block_ptr b' o')) made (tt, tt) (tt, tt))))))))))
