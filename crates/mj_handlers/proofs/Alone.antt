-- A handler at one table.
use Rattle.std.proofs.Common.{◌≡◌, ℕ, zero, suc, ◌<◌, false, List, [], ◌∷◌, length, refl, sym, ap, ◌∙◌, subst, arith, get_or}
use Rattle.std.specs.Prelude.{Some, slice_get, Vec}
use Rattle.std.specs.declared.alloc.Global.{Global}
use Rattle.std.proofs.lemmas.Option.{slice_get-get_or}
use Rattle.turn_lock.specs.Passes.{TurnState, PassState}
use Rattle.turn_lock.specs.Turns.{IsIdle}
use Rattle.mj_ports.specs.declared.entry.Entry.{Entry}
use Rattle.mj_ports.specs.declared.picking.Picked.TheVariants.{Table}
use Rattle.mj_ports.specs.declared.seated.Seated.{Ghosts}
use Rattle.mj_handlers.specs.declared.visit.Session.{Session}
use Rattle.mj_handlers.specs.declared.visit.HandlerEnd.{HandlerEnd}
use Rattle.mj_handlers.specs.declared.visit.HandlerEnd.TheVariants.{Over, Host, NoMemory}
use Rattle.mj_handlers.specs.Handlers.{HandlerEnds, rows}
use Rattle.mj_session.specs.Histories.{Enters}
use Rattle.mj_session.specs.Wires.{WireState}
use Rattle.mj_ticker.specs.Idle.{AllIdle}
use Rattle.mj_handlers.specs.Hands.{IsLegalAt, AllLegal, IsAtTable, IsHand, Handles, HandEnds}
use Rattle.mj_ticker.proofs.Besides.{same_some, no_some}

module _ {T S A : Type 0} (setting : T → S) where
  pub idle_one : (turn : TurnState T) (p : PassState T S (Entry A)) → IsIdle setting turn p → AllIdle setting (turn ∷ []) (p ∷ [])
  idle_one turn p idle zero a b ga gb = subst (λ (x : TurnState T). IsIdle setting x b) (same_some turn a ga) (subst (λ (y : PassState T S (Entry A)). IsIdle setting turn y) (same_some p b gb) idle)
  idle_one turn p idle (suc t) a b ga gb = no_some a ga

  pub one_idle : (turn : TurnState T) (turns : List (TurnState T)) (passes : List (PassState T S (Entry A))) (d : PassState T S (Entry A)) → turns ≡ turn ∷ []
      → length passes ≡ length turns → AllIdle setting turns passes → IsIdle setting turn (get_or passes 0 d)
  one_idle turn turns passes d is many idle =
      let one : length turns ≡ 1 = ap length is in
      idle 0 turn (get_or passes 0 d) (ap (λ (l : List (TurnState T)). slice_get l 0) is) (slice_get-get_or passes 0 d (omega (arith, one, many)))

module _ {T S A R L : Type 0} (g : Ghosts T S A R) (setting : T → S) (at : List ℕ → L → WireState) where
  -- all that one table comes to
  pub hand_one : (excuse : Type 0) (by : ℕ) (turn : TurnState T) (turns : List (TurnState T)) (p d : PassState T S (Entry A)) (old new : List (PassState T S (Entry A)))
      (kept kept' : List (Vec (Session L) Global)) (v w : Vec (Session L) Global) (first : List (Entry A))
      → turns ≡ turn ∷ [] → old ≡ p ∷ [] → kept ≡ v ∷ [] → v.items ≡ [] → length new ≡ length turns → length kept' ≡ length turns → p.number ≡ by → Enters by first p.seen []
      → Handles g setting at (λ line. Table 0) excuse by turns old (rows kept) new (rows kept')
      → IsAtTable g setting at (λ line. Table 0) excuse by 0 first turn (get_or new 0 d) ((get_or kept' 0 w).items)
  hand_one excuse by turn turns p d old new kept kept' v w first is was room none many wide number start h =
      let one : length turns ≡ 1 = ap length is in
      h (λ t. first) begun 0 turn (get_or new 0 d) ((get_or kept' 0 w).items) (ap (λ (l : List (TurnState T)). slice_get l 0) is) (slice_get-get_or new 0 d (omega (arith, one, many)))
      (row kept' (omega (arith, one, wide)))
    where
      row : (k : List (Vec (Session L) Global)) → 0 < length k → slice_get (rows k) 0 ≡ Some ((get_or k 0 w).items)
      row [] low = absurd (omega (arith, low))
      row (x ∷ k) low = refl

      empty : (turn' : TurnState T) (q : PassState T S (Entry A)) (ss : List (Session L)) → p ≡ q → [] ≡ ss → IsAtTable g setting at (λ line. Table 0) ⊥ by 0 first turn' q ss
      empty turn' q ss same nil = subst (λ (x : PassState T S (Entry A)). IsAtTable g setting at (λ line. Table 0) ⊥ by 0 first turn' x ss) same
          (subst (λ (l : List (Session L)). IsAtTable g setting at (λ line. Table 0) ⊥ by 0 first turn' p l) nil (record { number_is = number; handled = λ legal. start }))

      begun : IsHand g setting at (λ line. Table 0) ⊥ by (λ t. first) turns old (rows kept)
      begun t a q ss ga gq gs = at_first t (ap (λ (l : List (TurnState T)). slice_get l t) (sym is) ∙ ga) (ap (λ (l : List (PassState T S (Entry A))). slice_get l t) (sym was) ∙ gq)
          (ap (λ (l : List (Vec (Session L) Global)). slice_get (rows l) t) (sym room) ∙ gs)
        where
          at_first : (t : ℕ) → slice_get (turn ∷ []) t ≡ Some a → slice_get (p ∷ []) t ≡ Some q → slice_get (v.items ∷ []) t ≡ Some ss → IsAtTable g setting at (λ line. Table 0) ⊥ by t first a q ss
          at_first zero ea eq es = empty a q ss (same_some p q eq) (sym none ∙ same_some v.items ss es)
          at_first (suc t) ea eq es = no_some a ea

module _ {T S A R : Type 0} (g : Ghosts T S A R) (setting : T → S) where
  pub legal_one : (turn : TurnState T) (turns : List (TurnState T)) (new : List (PassState T S (Entry A))) (d : PassState T S (Entry A)) → turns ≡ turn ∷ [] →
      length new ≡ length turns → AllLegal g setting turns new → IsLegalAt g setting turn (get_or new 0 d)
  legal_one turn turns new d is many legal =
      let one : length turns ≡ 1 = ap length is in
      legal 0 turn (get_or new 0 d) (omega (arith, one)) (ap (λ (l : List (TurnState T)). slice_get l 0) is) (slice_get-get_or new 0 d (omega (arith, one, many)))

module _ {T S A R F : Type 0} (g : Ghosts T S A R) (setting : T → S) (made : F → Type 0) (number : F → ℕ) where
  -- how a handler ends there
  pub ends_one : (end : HandlerEnd F) (by : ℕ) (turn : TurnState T) (turns : List (TurnState T)) (d : PassState T S (Entry A)) (new : List (PassState T S (Entry A)))
      → turns ≡ turn ∷ [] → length new ≡ length turns → HandEnds g setting turns made number end by new → HandlerEnds (g.after (setting turn.opening)) made number end by (get_or new 0 d).seen
  ends_one Over by turn turns d new is many h =
      let one : length turns ≡ 1 = ap length is in
      h 0 turn (get_or new 0 d) (omega (arith, one)) (ap (λ (l : List (TurnState T)). slice_get l 0) is) (slice_get-get_or new 0 d (omega (arith, one, many)))
  ends_one (Host fault) by turn turns d new is many h =
      let one : length turns ≡ 1 = ap length is in
      let on = h.2 in
      let first : on.table ≡ 0 = omega (arith, one, on.below) in
      let t : on.turn ≡ turn = same_some on.turn turn (sym on.turn_is ∙ (ap (λ (n : ℕ). slice_get turns n) first ∙ ap (λ (l : List (TurnState T)). slice_get l 0) is)) in
      let p : on.pass ≡ get_or new 0 d = same_some on.pass (get_or new 0 d) (sym on.pass_is ∙ (ap (λ (n : ℕ). slice_get new n) first ∙ slice_get-get_or new 0 d (omega (arith, one, many)))) in (
        h.0,
        h.1,
        subst (λ (x : PassState T S (Entry A)). (g.after (setting turn.opening) x.seen).over ≡ false) p
            (subst (λ (x : TurnState T). (g.after (setting x.opening) on.pass.seen).over ≡ false) t on.on),
      )
  ends_one NoMemory by turn turns d new is many h = tt
