-- What a run does by what its words ask for.
use Rattle.std.specs.Prelude.{◌≡◌, ℕ, ◌<◌, ◌≤◌, Bool, false, List, [], ◌∷◌, ◌||◌, codes, bytes_eq, Option}
use Rattle.std.specs.Io.KnownBytes.{Keeps}
pub use Rattle.mj_words.specs.Asked.{Asked, ServedWith, RefereeOf, ServingOf, SummaryOfRecord, HandOf, SelfPlayOf, ViewOfRecord, KeepOf, SafeOf, TablesOf, Nothing, asked_by}
use Rattle.mj_front.specs.declared.hand.HandLinesEnd.{HandLinesEnd}
use Rattle.mj_refereeing.specs.declared.keep.KeepEnd.{KeepEnd}
use Rattle.mj_refereeing.specs.declared.referee.RefereeEnd.{RefereeEnd}
use Rattle.mj_checking.specs.declared.replay.ReplayEnd.{ReplayEnd}
use Rattle.mj_front.specs.declared.self_game.SelfPlayEnd.{SelfPlayEnd}
use Rattle.mj_hosting.specs.declared.plays.ServeEnd.{ServeEnd}
use Rattle.mj_runs.specs.declared.status.Status.{Status}
use Rattle.mj_runs.specs.declared.status.Status.TheVariants as statuses
use Rattle.mj_refereeing.specs.Statuses.{referee_status, keep_status}
use Rattle.mj_checking.specs.Statuses.{replay_status}
use Rattle.mj_hosting.specs.Statuses.{serve_status}
use Rattle.mj_front.specs.Statuses.{hand_status, self_play_status}
use Rattle.mj_history.specs.Legal.{Game}
use Rattle.mj_refereeing.specs.Referee.{IsTold, Referees}
use Rattle.mj_refereeing.specs.Keep.{KeepsAll}
use Rattle.mj_runs.specs.Faults.{CountsDiskFaults}
use Rattle.mj_refereeing.specs.Safe.{IsSafeTold}
use Rattle.mj_checking.specs.Replay.{Replays}
use Rattle.mj_checking.specs.Observe.{Observes}
use Rattle.mj_front.specs.Hand.{WritesHand}
use Rattle.mj_front.specs.SelfPlay.{WritesSelfPlay}

-- Words are refused, unless memory is wanting.
abbrev pub IsRefusal : Status → Type 0
IsRefusal statuses.Words = Unit {0}
IsRefusal statuses.NoMemory = Unit {0}
IsRefusal status = ⊥

-- Words that ask for nothing change nothing.
pub record IsUnheard (status : Status) (old_left new_left old_written new_written : Option (List ℕ)) : Type 0 where
  pub words : IsRefusal status
  pub unread : Keeps old_left new_left
  pub unwritten : Keeps old_written new_written

-- Arrivals were read and what is asked of their game for a seat was written, as `Says` has it; and the end gives the status.
pub record RunsReferee (Says : (List ℕ → Type 0) → ℕ → Game → Type 0) (status : Status) (seat : ℕ) (old_left new_left old_written new_written : Option (List ℕ)) : Type 0 where
  pub end : RefereeEnd
  pub gives : status ≡ referee_status end
  pub does : Referees Says end seat old_left new_left old_written new_written

-- The summary of the record was written, and its end gives the status.
pub record RunsReplay (status : Status) (old_left new_left old_written new_written : Option (List ℕ)) : Type 0 where
  pub end : ReplayEnd
  pub gives : status ≡ replay_status end
  pub does : Replays end old_left new_left old_written new_written

-- The public view of the record was written, and its end gives the status.
pub record RunsObserve (status : Status) (old_left new_left old_written new_written : Option (List ℕ)) : Type 0 where
  pub end : ReplayEnd
  pub gives : status ≡ replay_status end
  pub does : Observes end old_left new_left old_written new_written

-- The hand that words name was written, its end gives the status, and nothing is read.
pub record RunsHand (status : Status) (words : List (List ℕ)) (old_left new_left old_written new_written : Option (List ℕ)) : Type 0 where
  pub end : HandLinesEnd
  pub gives : status ≡ hand_status end
  pub unread : Keeps old_left new_left
  pub does : WritesHand end words old_written new_written

-- The game of a number was played and its summary written, its end gives the status, and nothing is read.
pub record RunsSelfPlay (status : Status) (number : ℕ) (old_left new_left old_written new_written : Option (List ℕ)) : Type 0 where
  pub end : SelfPlayEnd
  pub gives : status ≡ self_play_status end
  pub unread : Keeps old_left new_left
  pub does : WritesSelfPlay end number old_written new_written

-- A game was served, or many, which gives the status by its end, and nothing is read. What was served stands under `does`.
pub record RunsServe (Does : ServeEnd → Type 0) (status : Status) (old_left new_left : Option (List ℕ)) : Type 0 where
  pub end : ServeEnd
  pub gives : status ≡ serve_status end
  pub unread : Keeps old_left new_left
  pub does : Does end

-- The game of a seat was kept, which gives the status by its end.
pub record RunsKeep {D : Type 0} (told : D → Option (List ℕ)) (may_leave : D → List ℕ → Type 0) (moment : D → ℕ) (secured_since : D → ℕ → List ℕ → Type 0) (faults : D → ℕ) (status : Status) (seat : ℕ)
    (old_left new_left old_written new_written : Option (List ℕ)) (old new : D) : Type 0 where
  pub end : KeepEnd
  pub gives : status ≡ keep_status end
  pub does : KeepsAll told may_leave moment secured_since end seat old_left new_left old_written new_written old new
  pub counts : CountsDiskFaults status (faults old) (faults new)

-- What a run does to the disk and by it: a kept game goes by `RunsKeep`, and nothing else touches the disk.
abbrev pub RunsDisk : {D : Type 0} → (D → Option (List ℕ)) → (D → List ℕ → Type 0) → (D → ℕ) → (D → ℕ → List ℕ → Type 0) → (D → ℕ) → Asked → Status → Option (List ℕ) → Option (List ℕ)
    → Option (List ℕ) → Option (List ℕ) → D → D → Type 0
RunsDisk told may_leave moment secured_since faults (KeepOf seat) status old_left new_left old_written new_written old new =
    RunsKeep told may_leave moment secured_since faults status seat old_left new_left old_written new_written old new
RunsDisk told may_leave moment secured_since faults asked status old_left new_left old_written new_written old new = new ≡ old

-- The first word is this one.
abbrev pub begins_with : List ℕ → List (List ℕ) → Bool
begins_with word [] = false
begins_with word (command ∷ words) = bytes_eq command word

-- It is that of a command that waits for others.
abbrev pub is_waiting : List (List ℕ) → Bool
is_waiting words = begins_with (codes "serve") words || begins_with (codes "tables") words

-- No game is to be served, no tables either, and a seat that is asked of is one of the four.
abbrev pub IsAlone : Asked → Type 0
IsAlone (ServingOf s) = ⊥
IsAlone (TablesOf rooms s) = ⊥
IsAlone (RefereeOf seat) = seat < 4
IsAlone (SafeOf seat) = seat < 4
IsAlone asked = Unit {0}

-- What a run does that waits for nobody, by what its words ask for. Of a kept game `RunsDisk` says it.
abbrev pub Runs : Asked → Status → Option (List ℕ) → Option (List ℕ) → Option (List ℕ) → Option (List ℕ) → Type 0
Runs Nothing status old_left new_left old_written new_written = IsUnheard status old_left new_left old_written new_written
Runs (RefereeOf seat) status old_left new_left old_written new_written = RunsReferee IsTold status seat old_left new_left old_written new_written
Runs (ServingOf s) status old_left new_left old_written new_written = ⊥
Runs (TablesOf rooms s) status old_left new_left old_written new_written = ⊥
Runs SummaryOfRecord status old_left new_left old_written new_written = RunsReplay status old_left new_left old_written new_written
Runs (HandOf words) status old_left new_left old_written new_written = RunsHand status words old_left new_left old_written new_written
Runs (SelfPlayOf number) status old_left new_left old_written new_written = RunsSelfPlay status number old_left new_left old_written new_written
Runs ViewOfRecord status old_left new_left old_written new_written = RunsObserve status old_left new_left old_written new_written
Runs (KeepOf seat) status old_left new_left old_written new_written = Unit {0}
Runs (SafeOf seat) status old_left new_left old_written new_written = RunsReferee IsSafeTold status seat old_left new_left old_written new_written

-- Read faults are met by the referee, where safe kinds are asked, where a game is kept and where a record is summed up or shown,
-- for nothing else reads.
abbrev pub MeetsReadFaults : Asked → ℕ → ℕ → Type 0
MeetsReadFaults Nothing old new = old ≡ new
MeetsReadFaults (RefereeOf seat) old new = old ≤ new
MeetsReadFaults (ServingOf s) old new = old ≡ new
MeetsReadFaults (TablesOf rooms s) old new = old ≡ new
MeetsReadFaults SummaryOfRecord old new = old ≤ new
MeetsReadFaults (HandOf words) old new = old ≡ new
MeetsReadFaults (SelfPlayOf number) old new = old ≡ new
MeetsReadFaults ViewOfRecord old new = old ≤ new
MeetsReadFaults (KeepOf seat) old new = old ≤ new
MeetsReadFaults (SafeOf seat) old new = old ≤ new

-- What any run does: a game that is served goes by `Does`, many tables by `DoesAll`, and all else as where nobody is waited for.
abbrev pub RunsAny : (ServeEnd → ServedWith → Type 0) → (ServeEnd → ℕ → ServedWith → Type 0) → Asked → Status → Option (List ℕ) → Option (List ℕ) → Option (List ℕ) → Option (List ℕ) → Type 0
RunsAny Does DoesAll (ServingOf s) status old_left new_left old_written new_written = RunsServe (λ end. Does end s) status old_left new_left
RunsAny Does DoesAll (TablesOf rooms s) status old_left new_left old_written new_written = RunsServe (λ end. DoesAll end rooms s) status old_left new_left
RunsAny Does DoesAll asked status old_left new_left old_written new_written = Runs asked status old_left new_left old_written new_written

-- A run that serves no game leaves the host and the clock as they were.
abbrev pub LeavesAlone : Asked → Type 0 → Type 0
LeavesAlone (ServingOf s) Same = Unit {0}
LeavesAlone (TablesOf rooms s) Same = Unit {0}
LeavesAlone asked Same = Same
