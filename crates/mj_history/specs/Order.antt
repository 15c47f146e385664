-- The law of order: in one window, the order in which the seats answer makes no difference.
use Rattle.std.specs.Prelude.{◌≡◌, ℕ, ◌==◌, ◌&&◌, not, Bool, true, false, if◌then◌else◌, List, [], ◌∷◌, ◌++◌}
use Rattle.std.specs.Option.{option_map_or}
use Rattle.mj_ports.specs.declared.entry.Entry.{Entry}
use Rattle.mj_ports.specs.declared.entry.Entry.TheVariants.{Said}
use Rattle.mj_deeds.specs.declared.answer.Answer.{Answer}
use Rattle.mj_wall.specs.declared.setting.Setting.{Setting}
use Rattle.mj_history.specs.After.{After, Verdict, Taken, Late, Refused, Closing, step, after}
use Rattle.mj_history.specs.Legal.{IsLegal, is_open, is_permitted}
use Rattle.mj_history.specs.Sitting.{author_at}
use Rattle.mj_history.specs.Shown.{due_at, verdict_at}

-- An answer is accepted where it is taken or comes late; it is refused otherwise.
abbrev pub is_acceptance : Verdict → Bool
is_acceptance Taken = true
is_acceptance Late = true
is_acceptance (Refused rule) = false
is_acceptance (Closing rule) = false

-- It is refused for good where its seat goes by it.
abbrev pub is_closing : Verdict → Bool
is_closing (Closing rule) = true
is_closing other = false

-- The answer of a seat that an entry says, where it is accepted.
abbrev pub accepted : Setting → ℕ → After → Entry Answer → List Answer
accepted setting seat now (Said author who answer) = if who == seat && option_map_or is_acceptance (verdict_at setting.rules now who answer) false then answer ∷ [] else []
accepted setting seat now other = []

-- The accepted answers of a seat, from some point on, in the order in which the seat says them.
abbrev pub accepted_from : Setting → ℕ → After → List (Entry Answer) → List Answer
accepted_from setting seat now [] = []
accepted_from setting seat now (entry ∷ entries) = accepted setting seat now entry ++ accepted_from setting seat (step setting now entry) entries

-- An entry answers in a window: it is an answer that is permitted where it stands, the window is the open one there, and no
-- seat goes by it.
abbrev pub answers_in_window : Setting → ℕ → After → Entry Answer → Bool
answers_in_window setting window now (Said author seat answer) =
    is_permitted setting now (Said author seat answer) && is_open now.deeds window && not (option_map_or is_closing (verdict_at setting.rules now seat answer) false)
answers_in_window setting window now other = false

-- So does each of these entries, so nobody comes, goes or runs out of time by them, and each is said before the window's next deed.
abbrev pub all_answer : Setting → ℕ → After → List (Entry Answer) → Bool
all_answer setting window now [] = true
all_answer setting window now (entry ∷ entries) = answers_in_window setting window now entry && all_answer setting window (step setting now entry) entries

-- What entries came to is the same, but for what refused answers were told: the deeds, the slots, and for each seat its due
-- prompt and the author by whom it is present.
pub record IsSameGame (now other : After) : Type 0 where
  pub deeds : now.deeds ≡ other.deeds
  pub slots : now.slots ≡ other.slots
  pub due : (seat : ℕ) → due_at now seat ≡ due_at other seat
  pub present : (seat : ℕ) → author_at now seat ≡ author_at other seat

-- In one window in which nobody comes, goes or runs out of time, any two orders of the same accepted answers, with any
-- refused ones between, come to the same. The deed that follows is the outcome of the newest deed and of the four slots,
-- which have no order (`next_deed`, and `decision_by` of mj_window): so two rons are both paid, a ron stands before a pon or
-- kan, and these before a chi, whoever spoke first.
abbrev pub OrderIsFree : Type 0
OrderIsFree =
    (setting : Setting) (entries some others : List (Entry Answer)) (window : ℕ) → IsLegal setting entries →
    all_answer setting window (after setting entries) some ≡ true → all_answer setting window (after setting entries) others ≡ true →
    ((seat : ℕ) → accepted_from setting seat (after setting entries) some ≡ accepted_from setting seat (after setting entries) others) →
    IsSameGame (after setting (entries ++ some)) (after setting (entries ++ others))
