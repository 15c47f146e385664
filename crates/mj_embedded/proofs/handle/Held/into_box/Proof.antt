-- `into_box` makes the box again: a walk of its MIR.
use Rattle.std.proofs.Common.{◌≡◌, List, [], ◌∷◌, ◌++◌, refl, sym, ap, subst, ◌∙◌}
use Rattle.std.specs.Prelude.{Some, is_some, IsTrue}
use mir.Val.{Val, vptr}
use base.Fraction.{full_share}
use base.Logic.{emp, id⊢}
use base.Fml.{ftrue, flft}
use prog.Wp.{WpFn}
use contract.BorrowLft.{◌⊑◌, ⊑_static}
use contract.Monad.{fact, fact_i}
use contract.Running.{tables, tables_of}
use types.Kit.{‵, raw, ◌⊛◌, some, later, prop, at_ret, ◌$◌, ◌∵◌, !, qed, by, move, keep, drop, split, split3, join, fsplit, fjoin, pick, use0, use1, await, regoal, rewrite, feq_i}
use types.Run.{stop, fld, of_opd, no_more, and_then, first, blocks, exec, returns, enter}
use types.ByLocal.{alloc_all, pass_all, free_all, look_at, get, get_in, lands_last, sets, env}
use types.Part.{sub, whole}
use denote.Exit.{yes}
use denote.RattleType.{owns}
use denote.Param.NoDrop as undropping
use denote.RawPtr.{block_ptr}
use denote.Signature.{types_at, plain}
use denote.Steps.{nothing, only, heard}
use denote.Triple.Call.{calls_at_last}
use denote.Triple.Clauses.{Lasts, lasts}
use denote.Triple.Spec.{triple_of}
use denote.Triple.Table.{framed}
use denote.Triple.Walked.{Stays, stay_dropped, walk_of}
use Rattle.std.proofs.alloc.Calls.{Goes-blank, handle_tells}
use Rattle.std.proofs.VecSteps.Shapes.{after}
use Rattle.std.proofs.raw_atomic.Walks.{proved_at, leaves}
use Rattle.std.proofs.impls.GlobalAllocator.TheImpl.Met.{passed}
use Rattle.std.specs.contracts.impls.GlobalAllocator.TheImpl.{ghosts, dict}
use Rattle.std.specs.contracts.alloc.Global as heap
use Rattle.std_alloc.proofs.BoxSteps.Form as box
use Rattle.std_alloc.proofs.BoxSteps.Steps.{box_out, box_in}
use Rattle.std_alloc.specs.contracts.boxed.Box.from_raw as g
use Rattle.std_alloc.proofs.boxed.Box.from_raw.Met.{met}
use Rattle.mj_embedded.specs.contracts.handle.Held.{the_row as Held}
use Rattle.mj_embedded.specs.contracts.handle.Held.into_box as f
use Rattle.mj_embedded.proofs.Destruct++none.drop.Code as undropped_code
use Rattle.mj_embedded.proofs.Heap.{Heap, heap_is, heap_al, Game, game_is, undropped}
use Rattle.mj_embedded.proofs.Values.{word, held_out, held_lies}
use Rattle.mj_embedded.proofs.handle.Held.into_box.Statement.{statement}
use Rattle.mj_embedded.proofs.handle.Held.into_box.Code as code
use Rattle.mj_stepped.specs.contracts.stepped.Stepped.{the_row as Stepped}

abbrev stayed : Stays f.ended.signature.params f.ended.kept
stayed = (stay_dropped (plain (λ _. Held)) yes, (stay_dropped (plain (λ _. heap.the_row)) yes, tt))

module _ {M : Type 1} where
  pub into_box_spec : statement M
  unfolding tables_of undropped_code.code
  into_box_spec 𝓤 𝓛 𝓜 𝓡 wired =
      let H = 𝓛.H in let 𝓣 = tables 𝓤 H 𝓜 𝓡 𝓡.env in let fn = code.function in let c = f.clauses 𝓛 𝓜.mem 𝓡.returns in let W = walk_of 𝓛 f.ended stayed c in
      let E : box.Bx = record { row = Game; laws = game_is; al = heap_al } in
      let G = triple_of 𝓛 (g.signature Game Heap ghosts dict undropped) (g.spec Game Heap ghosts dict undropped 𝓛 𝓜.mem 𝓡.returns) in
      let known = met 𝓤 𝓛 𝓜 𝓡 (code.calls-std_alloc::boxed::Box::from_raw 𝓡.env wired) Game Heap game_is heap_is ghosts dict undropped
      (passed 𝓡.env (code.calls-std_heap::GlobalAllocator::allocate 𝓡.env wired) (code.calls-std_heap::GlobalAllocator::deallocate 𝓡.env wired)
      (code.calls-std_heap::GlobalAllocator::grow 𝓡.env wired) (code.calls-std_heap::GlobalAllocator::shrink 𝓡.env wired) M 𝓤 𝓛 𝓜 𝓡)
      (undropping.glues "mj_embedded::Destruct++none::drop" 𝓡.env (code.calls-mj_embedded::Destruct++none::drop 𝓡.env wired) Heap heap_is M 𝓤 𝓛 𝓜 𝓡) in
      proved_at 𝓛 f.ended stayed c 𝓜 𝓡 (Goes-blank 𝓛 0 (plain (λ _. Held)) yes (λ κs x w. tt), (Goes-blank 𝓛 0 (plain (λ _. heap.the_row)) yes (λ κs x w. tt), tt)) f.Key.name fn
      (code.unfolded 𝓤 H 𝓜 𝓡 wired) (λ z are.
      let d = z.0.3.0 in let a = z.0.3.1.0 in let inGame = [] ⊑ Game.lives in let inHeap = [] ⊑ Heap.lives in
      qed 𝓛 ((‵ ftrue ⊛ ‵ (owns (types_at f.signature.params z.0.0) z.0.3 z.0.4)) ∷ raw (fact 𝓤 (IsTrue (is_some d.game))) ∷ []) ∵ move ! (1 ∷ []) $ heard ! (IsTrue (is_some d.game))
      (λ full. split ! $ drop ! $ fsplit ! $
      held_out ! d z.0.4.0 (λ is. held_lies ! Stepped d.at d.game full (λ b o x e same. move ! (1 ∷ []) $ fsplit ! $
      handle_tells heap_al ! a z.0.4.1.0 (λ hv isHeap fits.
      -- [the handle; nothing; what the pointer owns]
      regoal ! (λ (us : List Val). prop (WpFn 𝓤 H 𝓣.C 𝓣.Λ fn (us ++ (z.0.4.1.0 ++ [])) (W.post z))) (subst (λ p. z.0.4.0 ≡ word p ∷ []) e is) refl $
      regoal ! (λ (us : List Val). prop (WpFn 𝓤 H 𝓣.C 𝓣.Λ fn (word (block_ptr b o) ∷ (us ++ [])) (W.post z))) isHeap refl $
      let y : G.Ghost = ((([], ([], tt)), (full_share, (full_share, tt)), tt, (a, (block_ptr b o, tt)), (hv ∷ [], (vptr b o ∷ [], tt))), x) in
      move ! (1 ∷ []) $ feq_i ! (List Val) (vptr b o ∷ []) (vptr b o ∷ []) refl $ fjoin ! $ move ! (1 ∷ 0 ∷ []) $ fjoin ! $
      nothing ! $ use0 𝓛 (‵ (flft [] full_share)) (𝓛.lfts.lft-nil full_share) $ join ! $ use0 𝓛 (‵ (flft [] full_share)) (𝓛.lfts.lft-nil full_share) $ join ! $ join ! $
      move ! (1 ∷ []) $ use0 𝓛 (raw (fact 𝓤 inHeap)) (fact_i 𝓤 inHeap (emp 𝓤) (⊑_static [])) $ join ! $ use0 𝓛 (raw (fact 𝓤 inGame))
      (fact_i 𝓤 inGame (emp 𝓤) (⊑_static [])) $ join ! $ move ! (1 ∷ []) $ join ! $
      use1 𝓛 (raw (G.pre y)) (id⊢ 𝓤 _) $
      enter ! 𝓣.C 𝓣.Λ fn (word (block_ptr b o) ∷ hv ∷ []) (W.post z) $ alloc_all ! (λ l. pass_all ! refl ((tt, (tt, tt)), (fits, tt)) $
      sets ! (of_opd ! (get_in ! (fld ! refl (stop !)) (sub ! 0 refl (whole !)))) refl (tt, tt) $ first ! $ blocks ! $
      calls_at_last ! (framed 𝓤 H 𝓜 𝓣) G known y (and_then ! (get ! refl) (and_then ! (get ! refl) (no_more !))) (λ u.
      use1 𝓛 (later (some (λ (r : (box.B E).Denot). ((‵ (flft [] full_share) ⊛ ‵ (flft [] full_share) ⊛ ‵ ftrue) ⊛ ‵ ((box.B E).own_val r (u ∷ []))) ⊛
      some (λ (ls : Lasts (g.ended Game Heap ghosts dict undropped) y.0.0 y.0.3). ‵ (lasts (g.ended Game Heap ghosts dict undropped) y.0.0 y.0.3 ls) ⊛
      (raw (fact 𝓤 (r.value ≡ x)) ⊛ raw (fact 𝓤 (r.alloc ≡ a))))))) (id⊢ 𝓤 _) $
      await ! tt $ pick ! (λ r. split ! $ move ! (1 ∷ []) $ pick ! (λ ls. split3 ! $ drop ! $ heard ! (r.value ≡ x) (λ value. drop ! $ split ! $ drop ! $
      box_out E ! r (u ∷ []) (λ b' o' hv' e' us fits'. box_in E ! r b' o' r.value e' refl $ rewrite ! 0 (λ (xs : List Val). ‵ ((box.B E).own_val r xs)) (sym us) refl $
      let typed = subst (λ (s : Val). lib.Dec.T (mir.Val.has_ty (box.box_ty E) s) × mir.Val.WT s) (sym (ap only us)) (box.box_typed E hv' b' o' fits') in
      lands_last ! refl typed $ exec ! 𝓣.C 𝓣.Λ (env fn.locals l) (after 2 fn.body) (at_ret (env fn.locals l) (W.post z)) $ sets ! (of_opd ! (get ! refl)) refl typed $
      returns ! (look_at ! 0 refl) $ free_all ! refl $ let told : Some r.value ≡ d.game = ap Some value ∙ sym same in
      use0 𝓛 (raw (fact 𝓤 (Some r.value ≡ d.game))) (fact_i 𝓤 (Some r.value ≡ d.game) (emp 𝓤) told) $ nothing ! $ nothing ! $ fjoin ! $ nothing ! $ fjoin ! $ nothing ! $ keep ! (0 ∷ 1 ∷ 3 ∷ 2 ∷ []) $
      by ! (leaves 𝓛 f.ended stayed c z u r (tt, (tt, tt)) (tt, (tt, tt))))))))))))))
