-- After the end of a game no deed follows.
use Rattle.std.proofs.Common.{◌≡◌, ℕ, ◌==◌, not, List, length, Bool, true, false, refl}
use Rattle.std.specs.Prelude.{if◌then◌else◌, Option, Some, None, option_and_then}
use Rattle.std.proofs.lemmas.Bool.{and_parts, not-true}
use Rattle.mj_ports.specs.declared.entry.Entry.{Entry}
use Rattle.mj_deeds.specs.declared.four.Four.{Four}
use Rattle.mj_deeds.specs.declared.answer.Answer.{Answer}
use Rattle.mj_deeds.specs.declared.deed.Deed.{Deed}
use Rattle.mj_deeds.specs.declared.deed.Deed.TheVariants.{StartGame, StartHand, Draw, Discard, Chi, Pon, OpenKan, ClosedKan, AddedKan, Dora, Reach, ReachAccepted, Win, DrawnHand, EndHand, EndGame}
use Rattle.mj_deeds.specs.Facts.{newest}
use Rattle.mj_wall.specs.declared.setting.Rules.{Rules}
use Rattle.mj_wall.specs.declared.setting.Setting.{Setting}
use Rattle.mj_window.specs.Decided.{decision_by}
use Rattle.mj_rules.specs.Outcome.{follows, outcome, goes_on}
use Rattle.mj_history.specs.After.{After, names_of, answers_in, is_window_closed, next_deed}
use Rattle.mj_history.specs.Legal.{is_over}

nothing_follows : (rules : Rules) (walls : List (List ℕ)) (deeds : List Deed) (given : Four Answer) (newest_is : Option Deed) →
    goes_on newest_is ≡ false → option_and_then (λ last. follows rules walls deeds last (decision_by last given)) newest_is ≡ None
nothing_follows rules walls deeds given None h = refl
nothing_follows rules walls deeds given (Some (StartGame names)) h = cc
nothing_follows rules walls deeds given (Some (StartHand round number honba lying dealer indicator hands)) h = cc
nothing_follows rules walls deeds given (Some (Draw seat tile replacement)) h = cc
nothing_follows rules walls deeds given (Some (Discard seat tile drawn)) h = cc
nothing_follows rules walls deeds given (Some (Chi seat target tile a b)) h = cc
nothing_follows rules walls deeds given (Some (Pon seat target tile a b)) h = cc
nothing_follows rules walls deeds given (Some (OpenKan seat target tile a b c)) h = cc
nothing_follows rules walls deeds given (Some (ClosedKan seat a b c d)) h = cc
nothing_follows rules walls deeds given (Some (AddedKan seat tile a b c)) h = cc
nothing_follows rules walls deeds given (Some (Dora tile)) h = cc
nothing_follows rules walls deeds given (Some (Reach seat)) h = cc
nothing_follows rules walls deeds given (Some (ReachAccepted seat said bid)) h = cc
nothing_follows rules walls deeds given (Some (Win seat target tile unders own yaku fu han value deltas said rest)) h = cc
nothing_follows rules walls deeds given (Some (DrawnHand reason hands ready deltas said)) h = cc
nothing_follows rules walls deeds given (Some EndHand) h = cc
nothing_follows rules walls deeds given (Some (EndGame said lying)) h = refl

pub no_outcome : (rules : Rules) (walls : List (List ℕ)) (deeds : List Deed) (given : Four Answer) → goes_on (newest deeds) ≡ false → outcome rules walls deeds given ≡ None
unfolding outcome
no_outcome rules walls deeds given h = nothing_follows rules walls deeds given (newest deeds) h

-- So no entry adds one to a game that has ended.
pub no_more : (setting : Setting) (now : After) (entry : Entry Answer) → is_over now.deeds ≡ true → next_deed setting now entry ≡ None
unfolding next_deed
no_more setting now entry h =
    let parts = and_parts (not (length now.deeds == 0)) (not (goes_on (newest now.deeds))) h in
    by (length now.deeds == 0) (is_window_closed now entry) (not-true (length now.deeds == 0) parts.0)
    (no_outcome setting.rules setting.walls now.deeds (answers_in setting.rules now.deeds now.slots)
    (not-true (goes_on (newest now.deeds)) parts.1))
  where
    by : (none closed : Bool) → none ≡ false → outcome setting.rules setting.walls now.deeds (answers_in setting.rules now.deeds now.slots) ≡ None
        → (if none then (if length now.chairs == 4 then Some (StartGame (names_of now.chairs)) else None) else (if closed then outcome setting.rules
        setting.walls now.deeds (answers_in setting.rules now.deeds now.slots) else None)) ≡ None
    by true closed e o = cc
    by false true e o = o
    by false false e o = refl
