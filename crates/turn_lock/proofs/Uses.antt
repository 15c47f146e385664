-- The steps at seats that are known by an equation.
use Rattle.std.proofs.Common.{◌≡◌, ℕ, ◌+◌, ◌-◌, ◌%◌, ◌^◌, ◌<◌, ◌==◌, Bool, true, false, MatchBool, List, [], ◌∷◌, ◌++◌}
use Rattle.std.proofs.Common.{length, Option, Some, None, unwrap_or, refl, true≢false, ap, sym, subst, subst₂, arith}
use Rattle.std.proofs.lemmas.Bool.Decides.{nat_tests}
use Rattle.atomic_table.specs.Table.{State, Me, rest, Allows, Splits, Joins}
use Rattle.atomic_table.specs.Seated.{TableId}
use Rattle.turn_lock.specs.declared.view.Stage.{Stage}
use Rattle.turn_lock.specs.declared.view.Stage.TheVariants.{Idle, Waits, Serves}
use Rattle.turn_lock.specs.declared.view.Own.{Own}
use Rattle.turn_lock.specs.declared.view.View.{View}
use Rattle.turn_lock.specs.Notes.{Follows}
use Rattle.turn_lock.specs.Inner.Views.{view, own_of, fresh, others, first_own, seen_in, setting_in, is_serving, StandsAt, HasOne, IsPass}
use Rattle.turn_lock.specs.Inner.Rule.{Holds}
use Rattle.turn_lock.specs.Inner.Plays.{Drew, Granted, Looked, Served}
use Rattle.turn_lock.specs.Turns.{pass_from}
use Rattle.turn_lock.proofs.Gathered.{fresh_next}
use Rattle.turn_lock.proofs.Steps.{draws, looks, serves, splits, joins}

module _ {T S N : Type 0} (setting : T → S) (notes : T → List N) (author : N → ℕ) (fixed : S) (count : ℕ) where
  abbrev H : State (Option T) (View S N) → Type 0
  H s = Holds setting notes author fixed count s

  pub draws_at : (slots id : ℕ) (me : Me (Option T) (View S N)) (own : List (Own S N)) → 0 < length own → me ≡ (view Idle own, [])
      → Allows H slots id me 1 (λ n. (n + 1) % 2 ^ 64) (λ n w. Drew me n w)
  draws_at slots id me own some_own is =
      subst (λ (m : Me (Option T) (View S N)). Allows H slots id m 1 (λ n. (n + 1) % 2 ^ 64) (λ n w. Drew m n w)) (sym is) (draws setting notes author fixed count slots id own some_own)

  pub looks_at : (slots id t : ℕ) (o : Own S N) (me : Me (Option T) (View S N)) → me ≡ (view (Waits t) (o ∷ []), [])
      → Allows H slots id me 0 (λ n. n) (λ n w. Looked setting notes author me n w)
  looks_at slots id t o me is =
      subst (λ (m : Me (Option T) (View S N)). Allows H slots id m 0 (λ n. n) (λ n w. Looked setting notes author m n w)) (sym is) (looks setting notes author fixed count slots id t o)

  pub serves_at : (slots id t new : ℕ) (o : Own S N) (x : T) (me : Me (Option T) (View S N)) → me ≡ (view (Serves t) (o ∷ []), (0, Some x) ∷ [])
      → 0 < slots → new ≡ (t + 1) % 2 ^ 64 → setting x ≡ o.setting → Follows author o.number o.seen (notes x)
      → Allows H slots id me 0 (λ _. new) (λ _ w. Served notes me w)
  serves_at slots id t new o x me is room next same follows =
      subst (λ (m : Me (Option T) (View S N)). Allows H slots id m 0 (λ _. new) (λ _ w. Served notes m w)) (sym is) (serves setting notes author fixed count slots id t new o x room next same follows)

  pub splits_at : (id : ℕ) (v : View S N) → v ≡ view Idle v.own → Splits H id v (view Idle (others v.own)) (view Idle (first_own v.own))
  splits_at id v is =
      subst (λ (w : View S N). Splits H id w (view Idle (others w.own)) (view Idle (first_own w.own))) (sym is) (splits setting notes author fixed count id v.own)

  pub joins_at : (id other : ℕ) (v w : View S N) → v ≡ view Idle v.own → w ≡ view Idle w.own → Joins H id v other w (view Idle (v.own ++ w.own)) (view Idle [])
  joins_at id other v w is is' =
      subst₂ (λ (a b : View S N). Joins H id a other b (view Idle (a.own ++ b.own)) (view Idle [])) (sym is) (sym is') (joins setting notes author fixed count id other v.own w.own)

module _ {T S N : Type 0} (setting : T → S) (notes : T → List N) (author : N → ℕ) where
  -- what a look tells that found the own ticket
  pub granted_at : (t n : ℕ) (o : Own S N) (me w : Me (Option T) (View S N)) → me ≡ (view (Waits t) (o ∷ []), []) → n ≡ t % 2 ^ 64 → Looked setting notes author me n w
      → Granted setting notes author t o w
  granted_at t n o me w is hit look =
      let m : Me (Option T) (View S N) = (view (Waits t) (o ∷ []), []) in
      let yes : (n == t % 2 ^ 64) ≡ true = grind (arith, nat_tests) in
      subst (λ (b : Bool). MatchBool b (Granted setting notes author t o w) (w ≡ m)) yes (subst (λ (m : Me (Option T) (View S N)). Looked setting notes author m n w) is look)

module _ {T : Type 0} where
  stage_idle : (stage : Stage) (ticket : ℕ) (carried : List (ℕ × Option T)) → StandsAt ticket stage carried → is_serving stage ≡ false → (stage ≡ Idle) × (carried ≡ [])
  stage_idle Idle ticket carried stands idle = (refl, stands)
  stage_idle (Waits t) ticket carried stands idle = absurd stands
  stage_idle (Serves t) ticket carried stands idle = absurd (true≢false idle)

  stage_busy : (stage : Stage) (ticket : ℕ) (carried : List (ℕ × Option T)) → StandsAt ticket stage carried → is_serving stage ≡ true
      → (t : ℕ) × (stage ≡ Serves t) × (ticket ≡ t % 2 ^ 64) × (carried ≡ (0, None) ∷ [])
  stage_busy Idle ticket carried stands busy = absurd (true≢false (sym busy))
  stage_busy (Waits t) ticket carried stands busy = absurd stands
  stage_busy (Serves t) ticket carried stands busy = (t, refl, stands.0, stands.1)

module _ {S N : Type 0} where
  own_is : (own : List (Own S N)) (number : ℕ) (fixed : S) → HasOne number own → setting_in own ≡ Some fixed → own ≡ own_of number fixed (seen_in own) ∷ []
  own_is [] number fixed one known = absurd one
  own_is (o ∷ []) number fixed one known = let e : o.setting ≡ fixed = ap (λ (x : Option S). unwrap_or x fixed) known in λ i. record { number = one i; setting = e i; seen = o.seen } ∷ []
  own_is (o ∷ p ∷ os) number fixed one known = absurd one

module _ {T S N : Type 0} where
  -- what a draw tells of a seat without a ticket
  pub drew_at : (me w : Me (Option T) (View S N)) (n : ℕ) (own : List (Own S N)) → me ≡ (view Idle own, []) → Drew me n w → (t : ℕ) × (w ≡ (view (Waits t) own, [])) × (n ≡ t % 2 ^ 64)
  drew_at me w n own is drew = subst (λ (m : Me (Option T) (View S N)). Drew m n w) is drew

  -- the slot that a seat holds alone
  pub holding_at : (me : Me (Option T) (View S N)) (x : Option T) → me.1 ≡ (0, x) ∷ [] → me.1 ≡ (0, x) ∷ rest me.1
  holding_at me x is = subst (λ (cs : List (ℕ × Option T)). cs ≡ (0, x) ∷ rest cs) (sym is) refl

  pub filled_at : (me w : Me (Option T) (View S N)) (v : View S N) (x y : Option T) → me ≡ (v, (0, x) ∷ []) → w ≡ (me.0, (0, y) ∷ rest me.1) → w ≡ (v, (0, y) ∷ [])
  filled_at me w v x y is fills = subst (λ (m : Me (Option T) (View S N)). w ≡ (m.0, (0, y) ∷ rest m.1)) is fills

  -- the seat of a pass that is not busy
  pub idle_me : (number ticket : ℕ) (fixed : S) (me : Me (Option T) (View S N)) → IsPass number ticket me → setting_in me.0.own ≡ Some fixed → is_serving me.0.stage ≡ false
      → me ≡ (view Idle (own_of number fixed (seen_in me.0.own) ∷ []), [])
  idle_me number ticket fixed me p known idle =
      let e = stage_idle me.0.stage ticket me.1 p.stands idle in let own = own_is me.0.own number fixed p.own known in λ i. (record { stage = e.0 i; own = own i }, e.1 i)

  -- the seat of a busy pass
  pub busy_me : (number ticket : ℕ) (fixed : S) (me : Me (Option T) (View S N)) → IsPass number ticket me → setting_in me.0.own ≡ Some fixed → is_serving me.0.stage ≡ true
      → (t : ℕ) × (ticket ≡ t % 2 ^ 64) × (me ≡ (view (Serves t) (own_of number fixed (seen_in me.0.own) ∷ []), (0, None) ∷ []))
  busy_me number ticket fixed me p known busy =
      let e = stage_busy me.0.stage ticket me.1 p.stands busy in let own = own_is me.0.own number fixed p.own known in (e.0, e.2, λ i. (record { stage = e.1 i; own = own i }, e.3 i))

  -- the view of a seat without a ticket
  pub view_at : (me : Me (Option T) (View S N)) (own : List (Own S N)) → me ≡ (view Idle own, []) → me.0 ≡ view Idle me.0.own
  view_at me own is = subst (λ (m : Me (Option T) (View S N)). m.0 ≡ view Idle m.0.own) (sym is) refl

  pub idle_at : (me : Me (Option T) (View S N)) (own : List (Own S N)) → me ≡ (view Idle own, []) → me ≡ (view Idle me.0.own, [])
  idle_at me own is = subst (λ (m : Me (Option T) (View S N)). m ≡ (view Idle m.0.own, [])) (sym is) refl

  -- the seat that has dealt one number
  pub dealt_left : (me w : Me (Option T) (View S N)) (fixed : S) (seen : List N) (from left : ℕ) → me ≡ (view Idle (fresh fixed seen from left), []) → 0 < left
      → w ≡ (view Idle (others me.0.own), me.1)
      → w ≡ (view Idle (fresh fixed seen (from + 1) (left - 1)), [])
  dealt_left me w fixed seen from left is some_left left_is =
      subst (λ (own : List (Own S N)). w ≡ (view Idle (others own), [])) (fresh_next fixed seen from left some_left)
      (subst (λ (m : Me (Option T) (View S N)). w ≡ (view Idle (others m.0.own), m.1)) is left_is)

  -- the seat that was dealt a number
  pub dealt_right : (me w : Me (Option T) (View S N)) (fixed : S) (seen : List N) (from left : ℕ) → me ≡ (view Idle (fresh fixed seen from left), []) → 0 < left
      → w ≡ (view Idle (first_own me.0.own), [])
      → w ≡ (view Idle (own_of from fixed seen ∷ []), [])
  dealt_right me w fixed seen from left is some_left right_is =
      subst (λ (own : List (Own S N)). w ≡ (view Idle (first_own own), [])) (fresh_next fixed seen from left some_left)
      (subst (λ (m : Me (Option T) (View S N)). w ≡ (view Idle (first_own m.0.own), [])) is right_is)

  pub dealt_is_pass : (me : Me (Option T) (View S N)) (fixed : S) (seen : List N) (number ticket : ℕ) → me ≡ (view Idle (own_of number fixed seen ∷ []), []) → IsPass number ticket me
  dealt_is_pass me fixed seen number ticket is = subst (λ (m : Me (Option T) (View S N)). IsPass number ticket m) (sym is) (record { own = refl; stands = refl })

  pub dealt_state : {U : Type 0} → (id turn : TableId) (fixed : S) (seen : List N) (number : ℕ) (me : Me (Option T) (View S N)) (last : Option U) → id ≡ turn
      → me ≡ (view Idle (own_of number fixed seen ∷ []), []) → last ≡ None
      → record { turn = id; setting = setting_in me.0.own; number = number; seen = seen_in me.0.own; busy = is_serving me.0.stage; last = last } ≡ pass_from {T = U} turn fixed seen number
  dealt_state {U} id turn fixed seen number me last a c e =
      λ i. record { turn = a i; setting = setting_in (c i).0.own; number = number; seen = seen_in (c i).0.own; busy = is_serving (c i).0.stage; last = e i }

  -- the seat that has taken in another
  pub gathered_me : (me w u : Me (Option T) (View S N)) (own : List (Own S N)) (o : Own S N) → me ≡ (view Idle own, []) → w ≡ (view Idle (o ∷ []), []) → u ≡ (view Idle (me.0.own ++ w.0.own), me.1)
      → u ≡ (view Idle (own ++ o ∷ []), [])
  gathered_me me w u own o is is' joined = subst₂ (λ (m n : Me (Option T) (View S N)). u ≡ (view Idle (m.0.own ++ n.0.own), m.1)) is is' joined
