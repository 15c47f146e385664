-- Turns of a handler at tables, in which it enters nothing.
use Rattle.std.proofs.Common.{◌≡◌, ℕ, zero, suc, ◌+◌, ◌<◌, ◌≤◌, Bool, true, false, ◌&&◌, true≢false, List, [], ◌∷◌, length, refl, sym, ◌∙◌, subst, arith, set, get_or}
use Rattle.std.specs.Prelude.{Some, slice_get}
use Rattle.std.proofs.lemmas.List.{length-set}
use Rattle.std.proofs.lemmas.Option.{slice_get_read, slice_get_within, slice_get-get_or}
use Rattle.turn_lock.specs.Passes.{TurnState, PassState}
use Rattle.turn_lock.specs.Turns.{IsIdle}
use Rattle.mj_ports.specs.declared.entry.Entry.{Entry}
use Rattle.mj_ports.specs.declared.seated.Seated.{Ghosts}
use Rattle.mj_session.specs.Histories.{Enters}
use Rattle.mj_connection.proofs.Growing.{enters_chain, enters_nothing}
use Rattle.mj_ticker.specs.Idle.{AllIdle}
use Rattle.mj_handlers.specs.Hands.{AllBelow, SomeGoesOn}
use Rattle.mj_handlers.specs.Inner.Steps.{IsQuiet, AllQuiet}
use Rattle.mj_ticker.proofs.Besides.{same_some, found, at_set}

module _ {T S A : Type 0} (setting : T → S) (turns : List (TurnState T)) where
  -- passes that took no turn
  pub quiet_start : (passes : List (PassState T S (Entry A))) → AllIdle setting turns passes → AllQuiet setting turns passes passes
  quiet_start passes idle = record {
    many = refl;
    each = λ t turn p q gt gp gq.
        subst (λ (x : PassState T S (Entry A)). IsQuiet setting turns turn p x) (same_some p q (sym gp ∙ gq))
        (record { idle = idle t turn p gt gp; number_is = refl; nothing = enters_nothing p.number p.seen });
  }

  pub all_idle : (old new : List (PassState T S (Entry A))) → length old ≡ length turns → AllQuiet setting turns old new → AllIdle setting turns new
  all_idle old new many all t turn q gt gq =
      let p = found old t (omega (arith, many, slice_get_within turns t turn gt)) in
      (all.each t turn p.0 q gt p.1 gq).idle

  -- one turn more
  pub quiet_more : (old now : List (PassState T S (Entry A))) (i : ℕ) (turn : TurnState T) (d q : PassState T S (Entry A)) → i < length turns →
      length now ≡ length turns → turn ≡ get_or turns i turn → IsIdle setting turn q → q.number ≡ (get_or now i d).number →
      Enters (get_or now i d).number (get_or now i d).seen q.seen [] → AllQuiet setting turns old now → AllQuiet setting turns old (set now i q)
  quiet_more old now i turn d q near many this idle same nothing all = record {
    many = length-set now i q ∙ all.many;
    each = λ t a b c ga gb gc. at_set Was Was turns now i turn q near this on (λ t a c other h. h) (λ t a c ga gc b gb. all.each t a b c ga gb gc) t a c ga gc b gb;
  }
    where
      Was : ℕ → TurnState T → PassState T S (Entry A) → Type 0
      Was t a c = (b : PassState T S (Entry A)) → slice_get old t ≡ Some b → IsQuiet setting turns a b c

      on : Was i turn q
      on b gb =
          let p = get_or now i d in
          let was = all.each i turn b p (slice_get_read turns (length turns) i turn refl near this) gb (slice_get-get_or now i d (omega (arith, near, many))) in
          record {
            idle = idle;
            number_is = same ∙ was.number_is;
            nothing = enters_chain b.number b.seen p.seen q.seen [] [] was.nothing (subst (λ (n : ℕ). Enters n p.seen q.seen []) was.number_is nothing);
          }

pub no_false : {B : Type 0} → true ≡ false → B
no_false e = absurd (true≢false e)

module _ {T S N : Type 0} (turns : List (TurnState T)) (P : TurnState T → PassState T S N → Type 0) where
  pub below_none : (passes : List (PassState T S N)) → AllBelow turns P 0 passes
  below_none passes t turn p low gt gp = absurd (omega (arith, low))

  pub below_more : (passes : List (PassState T S N)) (i : ℕ) (turn : TurnState T) (q : PassState T S N) → i < length turns → turn ≡ get_or turns i turn →
      P turn q → AllBelow turns P i passes → AllBelow turns P (i + 1) (set passes i q)
  below_more passes i turn q near this now before t a b low ga gb =
      at_set (λ t a b. t < i → P a b) (λ t a b. t < i + 1 → P a b) turns passes i turn q near this (λ l. now) (λ t a b other h l. h (less t l other))
      (λ t a b ga gb l. before t a b l ga gb) t a b ga gb low
    where
      less : (t : ℕ) → t < i + 1 → (t ≡ i → ⊥) → t < i
      less t l other = omega (arith, l, other)

  pub below_all : (passes : List (PassState T S N)) (i : ℕ) → length turns ≤ i → AllBelow turns P i passes → AllBelow turns P (length turns) passes
  below_all passes i long before t a b low ga gb = before t a b (omega (arith, low, long)) ga gb

module _ {T S A R : Type 0} (g : Ghosts T S A R) (setting : T → S) (turns : List (TurnState T)) where
  abbrev is_over : TurnState T → PassState T S (Entry A) → Bool
  is_over turn p = (g.after (setting turn.opening) p.seen).over

  set_apart : (xs : List (PassState T S (Entry A))) (i : ℕ) (q : PassState T S (Entry A)) (k : ℕ) (x : PassState T S (Entry A)) → k < i → slice_get xs k ≡ Some x → slice_get (set xs i q) k ≡ Some x
  set_apart [] i q k x low e = e
  set_apart (y ∷ ys) zero q k x low e = absurd (omega (arith, low))
  set_apart (y ∷ ys) (suc i) q zero x low e = e
  set_apart (y ∷ ys) (suc i) q (suc k) x low e = set_apart ys i q k x (omega (arith, low)) e

  set_at : (xs : List (PassState T S (Entry A))) (i : ℕ) (q : PassState T S (Entry A)) → i < length xs → slice_get (set xs i q) i ≡ Some q
  set_at [] i q l = absurd (omega (arith, l))
  set_at (x ∷ xs) zero q l = refl
  set_at (x ∷ xs) (suc i) q l = set_at xs i q (omega (arith, l))

  -- the other games stay as they are
  on_more : (passes : List (PassState T S (Entry A))) (i : ℕ) (q : PassState T S (Entry A)) → SomeGoesOn g setting turns i passes → SomeGoesOn g setting turns (i + 1) (set passes i q)
  on_more passes i q h = record {
    table = h.table;
    turn = h.turn;
    pass = h.pass;
    below = omega (arith, h.below);
    turn_is = h.turn_is;
    pass_is = set_apart passes i q h.table h.pass h.below h.pass_is;
    on = h.on;
  }

  on_here : (passes : List (PassState T S (Entry A))) (i : ℕ) (turn : TurnState T) (q : PassState T S (Entry A)) → i < length turns → length passes ≡ length turns →
      turn ≡ get_or turns i turn → is_over turn q ≡ false → SomeGoesOn g setting turns (i + 1) (set passes i q)
  on_here passes i turn q near many this on = record {
    table = i;
    turn = turn;
    pass = q;
    below = omega arith;
    turn_is = slice_get_read turns (length turns) i turn refl near this;
    pass_is = set_at passes i q (omega (arith, near, many));
    on = on;
  }

  -- one more game: whether some so far goes on
  pub tells_on : (passes : List (PassState T S (Entry A))) (i : ℕ) (turn : TurnState T) (q : PassState T S (Entry A)) (a b : Bool) → i < length turns →
      length passes ≡ length turns → turn ≡ get_or turns i turn → b ≡ is_over turn q → (a ≡ false → SomeGoesOn g setting turns i passes)
      → (a && b) ≡ false → SomeGoesOn g setting turns (i + 1) (set passes i q)
  tells_on passes i turn q true b near many this is before e = on_here passes i turn q near many this (sym is ∙ e)
  tells_on passes i turn q false b near many this is before e = on_more passes i q (before refl)

  pub on_all : (passes : List (PassState T S (Entry A))) (i : ℕ) → SomeGoesOn g setting turns i passes → SomeGoesOn g setting turns (length turns) passes
  on_all passes i h = record { table = h.table; turn = h.turn; pass = h.pass; below = slice_get_within turns h.table h.turn h.turn_is; turn_is = h.turn_is; pass_is = h.pass_is; on = h.on }
