-- A run that ends before its command begins.
use Rattle.std.proofs.Common.{ℕ, List, refl, arith, inl}
use Rattle.std.specs.Prelude.{Option}
use Rattle.std.proofs.KnownBytes.{Keeps-refl}
use Rattle.mj_front.specs.declared.hand.HandLinesEnd.TheVariants as hands
use Rattle.mj_refereeing.specs.declared.keep.KeepEnd.TheVariants as keeps
use Rattle.mj_refereeing.specs.declared.referee.RefereeEnd.TheVariants as referees
use Rattle.mj_checking.specs.declared.replay.ReplayEnd.TheVariants as replays
use Rattle.mj_front.specs.declared.self_game.SelfPlayEnd.TheVariants as games
use Rattle.mj_runs.specs.declared.status.Status.TheVariants as statuses
use Rattle.mj_front.specs.Run.{Asked, RefereeOf, ServingOf, SummaryOfRecord, HandOf, SelfPlayOf, ViewOfRecord, KeepOf, SafeOf, TablesOf, Nothing, Runs, RunsDisk, MeetsReadFaults, IsAlone}

-- Where memory is wanting before the words were read, nothing is read or written, whatever they ask for.
pub unheard : (asked : Asked) (left written : Option (List ℕ)) → IsAlone asked → Runs asked statuses.NoMemory left left written written
unheard (RefereeOf seat) left written alone = record { end = referees.NoMemory; gives = refl; does = Keeps-refl written }
unheard (ServingOf s) left written alone = absurd alone
unheard (TablesOf rooms s) left written alone = absurd alone
unheard SummaryOfRecord left written alone = record { end = replays.NoMemory; gives = refl; does = Keeps-refl written }
unheard (HandOf words) left written alone = record { end = hands.NoMemory; gives = refl; unread = Keeps-refl left; does = Keeps-refl written }
unheard (SelfPlayOf number) left written alone = record { end = games.NoMemory; gives = refl; unread = Keeps-refl left; does = Keeps-refl written }
unheard ViewOfRecord left written alone = record { end = replays.NoMemory; gives = refl; does = Keeps-refl written }
unheard (KeepOf seat) left written alone = record {}
unheard (SafeOf seat) left written alone = record { end = referees.NoMemory; gives = refl; does = Keeps-refl written }
unheard Nothing left written alone = record { words = tt; unread = Keeps-refl left; unwritten = Keeps-refl written }

-- And the disk isn't touched.
pub untouched : {D : Type 0} (told : D → Option (List ℕ)) (may_leave : D → List ℕ → Type 0) (moment : D → ℕ) (secured_since : D → ℕ → List ℕ → Type 0) (faults : D → ℕ) (disk : D) (asked : Asked)
    (left written : Option (List ℕ)) → RunsDisk told may_leave moment secured_since faults asked statuses.NoMemory left left written written disk disk
untouched told may_leave moment secured_since faults disk (RefereeOf seat) left written = refl
untouched told may_leave moment secured_since faults disk (ServingOf s) left written = refl
untouched told may_leave moment secured_since faults disk (TablesOf rooms s) left written = refl
untouched told may_leave moment secured_since faults disk SummaryOfRecord left written = refl
untouched told may_leave moment secured_since faults disk (HandOf words) left written = refl
untouched told may_leave moment secured_since faults disk (SelfPlayOf number) left written = refl
untouched told may_leave moment secured_since faults disk ViewOfRecord left written = refl
untouched told may_leave moment secured_since faults disk (KeepOf seat) left written = record { end = keeps.NoMemory; gives = refl; does = inl (Keeps-refl written, refl); counts = omega arith }
untouched told may_leave moment secured_since faults disk (SafeOf seat) left written = refl
untouched told may_leave moment secured_since faults disk Nothing left written = refl

pub unread : (asked : Asked) (count : ℕ) → MeetsReadFaults asked count count
unread (RefereeOf seat) count = omega arith
unread (ServingOf s) count = refl
unread (TablesOf rooms s) count = refl
unread SummaryOfRecord count = omega arith
unread (HandOf words) count = refl
unread (SelfPlayOf number) count = refl
unread ViewOfRecord count = omega arith
unread (KeepOf seat) count = omega arith
unread (SafeOf seat) count = omega arith
unread Nothing count = refl
