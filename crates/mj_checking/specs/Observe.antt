-- What the command `observe` reads and writes.
use Rattle.std.specs.Prelude.{◌≡◌, ℕ, List, Option}
use Rattle.mj_deeds.specs.declared.deed.Deed.{Deed}
use Rattle.mj_observe.specs.Views.{public_view}
use Rattle.mj_observe.specs.Traces.{public_trace, ArePlayed}
use Rattle.mj_replay.specs.Checks.{IsRecordOf}
use Rattle.mj_checking.specs.declared.replay.ReplayEnd.{ReplayEnd}
use Rattle.mj_checking.specs.Replay.{TakesRecord}

-- An input is the record of played deeds, and their public view is written, whole or in part, as `IsWritten` says. It is that of all
-- played deeds with the same public trace, under whatever rules and with whatever walls.
pub record IsObserved (IsWritten : List ℕ → Type 0) (input : List ℕ) : Type 0 where
  pub deeds : List Deed
  pub record_is : IsRecordOf input deeds
  pub bytes : IsWritten (public_view deeds)
  pub same : (others : List Deed) → ArePlayed others → public_trace others ≡ public_trace deeds → IsWritten (public_view others)

-- What the command does.
abbrev pub Observes : ReplayEnd → Option (List ℕ) → Option (List ℕ) → Option (List ℕ) → Option (List ℕ) → Type 0
Observes end old_left new_left old_written new_written = TakesRecord IsObserved end old_left new_left old_written new_written
