-- What is kept of an input while its lines are heard.
use Rattle.std.specs.Prelude.{◌≡◌, ℕ, ◌==◌, ◌≤◌, Bool, true, false, if◌then◌else◌, List, [], ◌∷◌, ◌++◌, codes, length, flat_map, Option, Some, option_map, slice_get}
use Rattle.std.specs.Option.{option_map_or}
use Rattle.mj_forms.specs.Lines.{hello_line}
use Rattle.mj_history.specs.After.{After, Chair, Connection, lines_for, told_again, scripts}
use Rattle.mj_history.specs.Legal.{Game}
use Rattle.mj_history.specs.Arrivals.{form_of, Intake, Arrival, Leads, Bad, Input, game_of}
use Rattle.mj_core.specs.Calls.{after_of, author_of_seat, due_of, pending_at}
use Rattle.mj_safe.specs.Text.{safe_text}
use Rattle.mj_refereeing.specs.declared.arriving.Arrived.{Arrived}
use Rattle.mj_refereeing.specs.declared.arriving.Arrived.TheVariants as steps
use Rattle.mj_refereeing.specs.declared.intake.End.{End}
use Rattle.mj_refereeing.specs.declared.intake.Question.{Question}
use Rattle.mj_refereeing.specs.declared.intake.Question.TheVariants as questions
use Rattle.mj_refereeing.specs.Referee.{ending}
pub use Rattle.mj_refereeing.specs.Keep.{is_wall_form, intake_with_walls}

-- What was read, where a game is in play: no wall may stand here any more.
abbrev pub intake_of : Game → Intake
intake_of game = record { rules = Some game.setting.rules; walls = game.setting.walls; begun = true; entries = game.entries }

-- Lines begin with a wall.
abbrev pub begin_with_wall : List (List ℕ) → Bool
begin_with_wall [] = false
begin_with_wall (text ∷ texts) = is_wall_form (form_of text)

-- What all connections of a held seat were told by the seat's own entries, one after the other.
abbrev pub told_of : Chair → List ℕ
told_of chair = flat_map (λ (c : Connection). c.told) chair.earlier ++ chair.progress.told

-- So for a seat of a game; nothing where it isn't held.
abbrev pub told_in : ℕ → After → List ℕ
told_in seat now = option_map_or told_of (slice_get now.chairs seat) []

-- The greeting of a seat, where it is the one that was taken.
abbrev pub greeting : ℕ → ℕ → List ℕ
greeting taken seat = if taken == seat then hello_line else []

-- What a seat that is back is told again: the lines before its due deed.
abbrev pub told_again_in : ℕ → Game → List ℕ
told_again_in seat game = told_again (lines_for game.setting.rules seat (after_of game).deeds) (due_of game seat)

-- So where it is the seat that was taken back.
abbrev pub greeting_again : ℕ → ℕ → Game → List ℕ
greeting_again taken seat game = if taken == seat then told_again_in seat game else []

-- A seat with the author by whom it is present, where it is.
abbrev pub present_in : Game → ℕ → Option (ℕ × ℕ)
present_in game who = option_map (λ author. (who, author)) (author_of_seat game who)

-- What is pending for a seat, where it is the one that leaves.
abbrev pub last_lines : ℕ → ℕ → Game → List ℕ
last_lines who seat game = if who == seat then pending_at game seat else []

-- A game is in play: there is a wall, four seats at most are held, and the bytes are what the connections of the seat were
-- told by its own entries. What is pending for the seat besides makes them its scripts.
pub record InPlay (seat : ℕ) (game : Game) (told : List ℕ) : Type 0 where
  pub wall : (length game.setting.walls == 0) ≡ false
  pub few : length (after_of game).chairs ≤ 4
  pub bytes : told ≡ told_in seat (after_of game)

-- What a line does to a game in play and to what the seat was told.
abbrev pub Does : Arrived → ℕ → Game → Game → List ℕ → List ℕ → Arrival → Type 0
Does steps.Leads seat old new old_told new_told arrival = (arrival ≡ Leads (intake_of new)) × InPlay seat new new_told
Does steps.Bad seat old new old_told new_told arrival = (arrival ≡ Bad) × (new ≡ old) × (new_told ≡ old_told)

-- All lines were heard, from some point on.
pub record HearsAll (input : Input) (seat : ℕ) (end : End) (game : Game) (told : List ℕ) : Type 0 where
  pub reading : input.reading ≡ intake_of game
  pub ends : input.ending ≡ ending end
  pub play : InPlay seat game told

-- What answers a question of a game, for a seat.
abbrev pub answer_to : Question → ℕ → Game → List ℕ
answer_to questions.Script seat game = scripts seat game.setting game.entries
answer_to questions.SafeKinds seat game = safe_text (after_of game).deeds seat

-- The seat of a question is told what comes, where its script is asked for.
abbrev pub TellsSeat : Question → ℕ → ℕ → Type 0
TellsSeat questions.Script seat told = told ≡ seat
TellsSeat questions.SafeKinds seat told = Unit {0}

-- What answers it before the first entry.
abbrev pub first_answer : Question → List ℕ
first_answer questions.Script = []
first_answer questions.SafeKinds = codes "not to discard\n"

-- How an input ends, and what answers the question of its game for the seat.
pub record Tells (question : Question) (input : Input) (seat : ℕ) (end : End) (bytes : List ℕ) : Type 0 where
  pub ends : input.ending ≡ ending end
  pub told : bytes ≡ answer_to question seat (game_of input.reading)

-- An input ends so before an entry.
pub record HasNothing (input : Input) (end : End) : Type 0 where
  pub ends : input.ending ≡ ending end
  pub nothing : input.reading.entries ≡ []
