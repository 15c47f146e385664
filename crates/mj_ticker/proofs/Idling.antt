-- Passes of several tables, read in their places and put there.
use Rattle.std.proofs.Common.{◌≡◌, ℕ, ◌<◌, List, length, refl, sym, arith, set, get_or}
use Rattle.std.proofs.lemmas.Option.{slice_get_read, slice_get-get_or}
use Rattle.turn_lock.specs.Passes.{TurnState, PassState}
use Rattle.turn_lock.specs.Turns.{IsIdle}
use Rattle.mj_ticker.specs.Idle.{AllIdle}
use Rattle.mj_ticker.proofs.Besides.{at_set}

module _ {T S N : Type 0} (setting : T → S) (turns : List (TurnState T)) where
  pub idle_read : (passes : List (PassState T S N)) (i : ℕ) (turn : TurnState T) (p : PassState T S N) → i < length turns → length passes ≡ length turns →
      turn ≡ get_or turns i turn → p ≡ get_or passes i p → AllIdle setting turns passes → IsIdle setting turn p
  idle_read passes i turn p near many this here idle = idle i turn p (slice_get_read turns (length turns) i turn refl near this) (slice_get_read passes (length turns) i p (sym many) near here)

  pub idle_at : (passes : List (PassState T S N)) (i : ℕ) (turn : TurnState T) (d : PassState T S N) → i < length turns → length passes ≡ length turns →
      turn ≡ get_or turns i turn → AllIdle setting turns passes → IsIdle setting turn (get_or passes i d)
  idle_at passes i turn d near many this idle = idle i turn (get_or passes i d) (slice_get_read turns (length turns) i turn refl near this) (slice_get-get_or passes i d (omega (arith, near, many)))

  -- passes that are not busy stay so where one is put in place of another
  pub idle_set : (passes : List (PassState T S N)) (i : ℕ) (turn : TurnState T) (q : PassState T S N) → i < length turns → turn ≡ get_or turns i turn →
      IsIdle setting turn q → AllIdle setting turns passes → AllIdle setting turns (set passes i q)
  idle_set passes i turn q near this idle all = at_set (λ t a b. IsIdle setting a b) (λ t a b. IsIdle setting a b) turns passes i turn q near this idle (λ t a b other h. h) all
