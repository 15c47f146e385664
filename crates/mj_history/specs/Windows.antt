-- The laws of windows: what is in a slot, by what a window is decided, and that any order of its answers lies in it.
use Rattle.std.specs.Prelude.{◌≡◌, ℕ, ◌+◌, ◌<◌, ◌≤◌, ◌==◌, ◌&&◌, not, Bool, true, false, nat_lt, if◌then◌else◌, List, [], ◌∷◌, ◌++◌, length, flat_map, Some, option_to_list, unwrap_or, slice_get}
use Rattle.std.specs.Option.{option_map_or}
use Rattle.std.specs.List.{list_all}
use Rattle.mj_ports.specs.declared.entry.Entry.{Entry}
use Rattle.mj_ports.specs.declared.entry.Entry.TheVariants.{Said}
use Rattle.mj_deeds.specs.declared.four.Four.{Four}
use Rattle.mj_deeds.specs.declared.answer.Answer.{Answer}
use Rattle.mj_deeds.specs.Answers.{is_in_form}
use Rattle.mj_deeds.specs.declared.deed.Deed.{Deed}
use Rattle.mj_deeds.specs.Four.{at_seat, for_each_seat}
use Rattle.mj_wall.specs.declared.setting.Rules.{Rules}
use Rattle.mj_wall.specs.declared.setting.Setting.{Setting}
use Rattle.mj_rules.specs.Broken.{broken_rule}
use Rattle.mj_rules.specs.Default.{default_answer}
use Rattle.mj_rules.specs.Outcome.{outcome}
use Rattle.mj_history.specs.After.{After, Chair, Verdict, Taken, verdict, before_all, step, after}
use Rattle.mj_history.specs.Legal.{IsLegal, is_present_by, is_open}
use Rattle.mj_history.specs.Shown.{due_at, verdict_at}
use Rattle.mj_history.specs.Order.{IsSameGame, is_acceptance, is_closing, accepted_from, all_answer}

-- An answer is taken.
abbrev pub is_taken : Verdict → Bool
is_taken Taken = true
is_taken other = false

-- The answer of a seat that an entry says, where it is taken while there are so many deeds: in the window on the last of them.
abbrev pub taken : Setting → ℕ → ℕ → After → Entry Answer → List Answer
taken setting number seat now (Said author who answer) =
    if who == seat && length now.deeds == number && option_map_or is_taken (verdict_at setting.rules now who answer) false then answer ∷ [] else []
taken setting number seat now other = []

-- All answers of the seat that are taken in that window, from some point on, in the order in which the seat says them.
abbrev pub taken_from : Setting → ℕ → ℕ → After → List (Entry Answer) → List Answer
taken_from setting number seat now [] = []
taken_from setting number seat now (entry ∷ entries) = taken setting number seat now entry ++ taken_from setting number seat (step setting now entry) entries

abbrev pub taken_in : Setting → List (Entry Answer) → ℕ → ℕ → List Answer
taken_in setting entries number seat = taken_from setting number seat before_all entries

-- In a legal game the slot of a seat holds exactly the answer of the seat that was taken since the newest deed: there is one
-- at most, and the slot is empty where there is none.
abbrev pub SlotsHoldTheTaken : Type 0
SlotsHoldTheTaken =
    (setting : Setting) (entries : List (Entry Answer)) (seat : ℕ) → IsLegal setting entries → seat < 4 →
    option_to_list (at_seat (after setting entries).slots seat) ≡ taken_in setting entries (length (after setting entries).deeds) seat

-- What a seat answered in the window on the last of these deeds: the answer that was taken there, and where none was the default.
abbrev pub answer_behind : Setting → List (Entry Answer) → List Deed → ℕ → Answer
answer_behind setting entries deeds seat = unwrap_or (slice_get (taken_in setting entries (length deeds) seat) 0) (default_answer setting.rules deeds seat)

abbrev pub answers_behind : Setting → List (Entry Answer) → List Deed → Four Answer
answers_behind setting entries deeds = for_each_seat (answer_behind setting entries deeds)

-- Each deed but the first is what the answers to its window come to.
abbrev pub EachIsDecided : Setting → List (Entry Answer) → Type 0
EachIsDecided setting entries =
    (before later : List Deed) (deed : Deed) → 1 ≤ length before → (after setting entries).deeds ≡ before ++ deed ∷ later →
    outcome setting.rules setting.walls before (answers_behind setting entries before) ≡ Some deed

-- So it is in a legal game: each window is decided by its own answers.
abbrev pub WindowsDecide : Type 0
WindowsDecide = (setting : Setting) (entries : List (Entry Answer)) → IsLegal setting entries → EachIsDecided setting entries

-- What a seat says in some entries, in their order.
abbrev pub said_in : ℕ → Entry Answer → List Answer
said_in seat (Said author who answer) = if who == seat then answer ∷ [] else []
said_in seat other = []

abbrev pub said_by : ℕ → List (Entry Answer) → List Answer
said_by seat entries = flat_map (said_in seat) entries

-- An entry is said, in form, by the author by whom its seat is present.
abbrev pub is_said_by_present : After → Entry Answer → Bool
is_said_by_present now (Said author seat answer) = is_in_form answer && option_map_or (is_present_by author) (slice_get now.chairs seat) false
is_said_by_present now other = false

-- How many answers to its due prompt a seat had refused; 0 where the seat isn't held.
abbrev pub refused_at : After → ℕ → ℕ
refused_at now seat = option_map_or (λ (chair : Chair). chair.progress.refused) (slice_get now.chairs seat) 0

-- What a seat says alone, while no deed is added, by the number of its due deed and how often it was refused there: an answer is
-- judged as it comes, and one that is accepted goes on to the next prompt.
module _ (rules : Rules) (deeds : List Deed) (seat : ℕ) where
  abbrev pub judged : ℕ → ℕ → Answer → Verdict
  judged due refused answer = verdict due refused (length deeds) (broken_rule rules deeds seat answer)

  -- The answers that are accepted.
  abbrev pub accepted_alone : ℕ → ℕ → List Answer → List Answer
  accepted_alone due refused [] = []
  accepted_alone due refused (answer ∷ answers) =
      if is_acceptance (judged due refused answer) then answer ∷ accepted_alone (due + 1) 0 answers else accepted_alone due (refused + 1) answers

  -- Each answers a prompt that is there, and fewer than sixteen are refused at one prompt.
  abbrev pub are_heard : ℕ → ℕ → List Answer → Bool
  are_heard due refused [] = true
  are_heard due refused (answer ∷ answers) =
      nat_lt due (length deeds) && not (is_closing (judged due refused answer))
      && (if is_acceptance (judged due refused answer) then are_heard (due + 1) 0 answers else are_heard due (refused + 1) answers)

-- Entries could be said in the window from here on, seat by seat and whatever their order: each is said by a present seat, and what
-- a seat says is heard.
pub record CanBeSaid (setting : Setting) (now : After) (entries : List (Entry Answer)) : Type 0 where
  pub present : list_all (is_said_by_present now) entries ≡ true
  pub heard : (seat : ℕ) → are_heard setting.rules now.deeds seat (due_at now seat) (refused_at now seat) (said_by seat entries) ≡ true

-- What a seat has accepted of such entries, by itself.
abbrev pub accepted_of : Setting → After → ℕ → List (Entry Answer) → List Answer
accepted_of setting now seat entries = accepted_alone setting.rules now.deeds seat (due_at now seat) (refused_at now seat) (said_by seat entries)

-- Any order lies in the window: entries that could be said in the open window seat by seat are answers in it in whatever order they
-- come, and accepted as each seat by itself would have them.
pub record LieIn (setting : Setting) (window : ℕ) (now : After) (entries : List (Entry Answer)) : Type 0 where
  pub all : all_answer setting window now entries ≡ true
  pub accepted : (seat : ℕ) → accepted_from setting seat now entries ≡ accepted_of setting now seat entries

abbrev pub AnyOrderLiesIn : Type 0
AnyOrderLiesIn =
    (setting : Setting) (entries others : List (Entry Answer)) (window : ℕ) → IsLegal setting entries → is_open (after setting entries).deeds window ≡ true →
    CanBeSaid setting (after setting entries) others → LieIn setting window (after setting entries) others

-- So the order of answers is free: of entries that answer in one window and of any others that could be said in it with the same
-- accepted answers of each seat, the others answer in it too, and come to the same.
pub record ComesToTheSame (setting : Setting) (entries some others : List (Entry Answer)) (window : ℕ) : Type 0 where
  pub all : all_answer setting window (after setting entries) others ≡ true
  pub same : IsSameGame (after setting (entries ++ some)) (after setting (entries ++ others))

abbrev pub AnyOrderIsFree : Type 0
AnyOrderIsFree =
    (setting : Setting) (entries some others : List (Entry Answer)) (window : ℕ) → IsLegal setting entries → is_open (after setting entries).deeds window ≡ true →
    all_answer setting window (after setting entries) some ≡ true → CanBeSaid setting (after setting entries) others →
    ((seat : ℕ) → accepted_from setting seat (after setting entries) some ≡ accepted_of setting (after setting entries) seat others) →
    ComesToTheSame setting entries some others window
