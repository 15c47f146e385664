-- What the command `safe` writes.
use Rattle.std.specs.Prelude.{◌≡◌, ℕ, ◌<◌, Bool, true, List}
use Rattle.mj_deeds.specs.declared.answer.Answer.{Answer}
use Rattle.mj_rules.specs.Broken.{is_win}
use Rattle.mj_rules.specs.Played.{IsLawful, IsPlayed}
use Rattle.mj_safety.specs.declared.reason.Reason.{Reason}
use Rattle.mj_history.specs.After.{after}
use Rattle.mj_history.specs.Legal.{Game, IsLegal}
use Rattle.mj_secrecy.specs.Trace.{Agree}
use Rattle.mj_secrecy.specs.Safe.{GoesOnSafely}
pub use Rattle.mj_safe.specs.Text.{safe_text}

-- What is written of the kinds that are safe for a seat in a game, whole or in part, as `IsWritten` says.
pub record IsSafeTold (IsWritten : List ℕ → Type 0) (seat : ℕ) (game : Game) : Type 0 where
  -- the bytes are the lines on the three others, or that the seat has not to discard
  pub bytes : IsWritten (safe_text (after game.setting game.entries).deeds seat)
  -- every game that agrees with it for the seat has the same lines, whatever the other seats hold and do
  pub same :
      (other : Game) → Agree seat game other →
      safe_text (after other.setting other.entries).deeds seat ≡ safe_text (after game.setting game.entries).deeds seat
  -- and in whichever legal game goes on from one that agrees, once the seat discards a tile of a kind that has a reason, no win of
  -- that other seat is lawful in the window on it
  pub safe :
      (against : ℕ) (reason : Reason) (other later : Game) (tile : ℕ) (drawn : Bool) (answer : Answer) → against < 4 →
      GoesOnSafely seat against reason game other later tile drawn → is_win answer ≡ true →
      IsLawful later.setting.rules (after later.setting later.entries).deeds against answer → ⊥
  -- the game goes by the rules: it is legal, and its deeds are played, each given by four lawful answers
  pub legal : IsLegal game.setting game.entries
  pub played : IsPlayed game.setting.rules game.setting.walls (after game.setting game.entries).deeds
