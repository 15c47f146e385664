-- The laws of arrivals: an entry adds one deed at most, and nothing that is lawful is turned away.
use Rattle.std.specs.Prelude.{◌≡◌, ◌≤◌, ◌⊎◌, ℕ, ◌+◌, ◌-◌, List, [], ◌∷◌, ◌++◌, length, true, false, Some}
use Rattle.mj_ports.specs.declared.entry.Entry.{Entry}
use Rattle.mj_ports.specs.declared.sitting.JoinLine.{JoinLine}
use Rattle.mj_ports.specs.declared.answers.Heard.TheVariants as heard
use Rattle.mj_ports.specs.declared.answers.Expiry.TheVariants as expiry
use Rattle.mj_seating.specs.declared.desk.Placed.TheVariants as places
use Rattle.mj_deeds.specs.declared.answer.Answer.{Answer}
use Rattle.mj_deeds.specs.declared.deed.Deed.{Deed}
use Rattle.mj_wall.specs.declared.setting.Setting.{Setting}
use Rattle.mj_rules.specs.Played.{IsLawful}
use Rattle.mj_history.specs.After.{after}
use Rattle.mj_history.specs.Legal.{is_over, is_open, can_sit, can_say}
use Rattle.mj_history.specs.Sitting.{placing}
use Rattle.mj_history.specs.Shown.{due_at, hears_of, expires_of}

-- The others are the deeds, or the deeds and one more after them.
abbrev pub HasOneMore : List Deed → List Deed → Type 0
HasOneMore deeds others = (others ≡ deeds) ⊎ ((deed : Deed) × (others ≡ deeds ++ deed ∷ []))

-- An entry adds at most one deed.
abbrev pub OneDeedAnEntry : Type 0
OneDeedAnEntry = (setting : Setting) (entries : List (Entry Answer)) (entry : Entry Answer) → HasOneMore (after setting entries).deeds (after setting (entries ++ entry ∷ [])).deeds

-- Every lawful answer of a present seat to the prompt of the newest deed is taken. That `said` of a core answers by this
-- verdict, unless memory is wanting, is its clause.
abbrev pub LawfulAnswersAreTaken : Type 0
LawfulAnswersAreTaken =
    (setting : Setting) (entries : List (Entry Answer)) (author seat : ℕ) (answer : Answer) → can_say (after setting entries) author seat ≡ true →
    due_at (after setting entries) seat + 1 ≡ length (after setting entries).deeds → IsLawful setting.rules (after setting entries).deeds seat answer
    → hears_of setting entries seat answer ≡ heard.Taken

-- Every join under a new name is given the next seat, as long as there is one and the game goes on. That `sit` of a core
-- gives it, unless memory is wanting, is its clause.
abbrev pub NewNamesAreSeated : Type 0
NewNamesAreSeated =
    (setting : Setting) (entries : List (Entry Answer)) (join : JoinLine) → is_over (after setting entries).deeds ≡ false → can_sit (after setting entries).chairs join.name ≡ true →
    placing (after setting entries) (Some join) ≡ places.Sat (length (after setting entries).chairs)

-- Every expiry of the open window with at least the limit between its readings closes it. That `expire` of a core closes it,
-- unless memory is wanting, is its clause.
abbrev pub ExpiriesClose : Type 0
ExpiriesClose =
    (setting : Setting) (entries : List (Entry Answer)) (window t1 t2 : ℕ) → is_open (after setting entries).deeds window ≡ true → t1 ≤ t2 → setting.rules.limit ≤ t2 - t1 →
    expires_of setting entries window t1 t2 ≡ expiry.Closed
