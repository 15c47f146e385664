-- The command lines that clap reads: the first word is the command, and stands where clap has the name of a program; each has
-- exactly the arguments that stand here, and each value is text.
use Rattle.std.specs.Prelude.{ℕ, Bool, true, false, if◌then◌else◌, List, [], ◌∷◌, codes, Option, Some, None}
use Rattle.clap.specs.Lexer.{usize_max}
use Rattle.clap.specs.declared.builder.action.ArgAction.TheVariants.{SetTrue}
use Rattle.clap.specs.Words.{App, Kinds, Rule, all_of, fault_of, first_of, matches_of, new_app, new_rule, with_rule}

-- An argument without a name before it, which must be there.
abbrev pub wanted : List ℕ → Rule
wanted name = record (new_rule name) { required = true }

-- It has one value or more.
abbrev pub wanted_often : List ℕ → Rule
wanted_often name = record (wanted name) { range = Some (record { start_inclusive = 1; end_inclusive = usize_max }) }

-- An option with one value after its name, which must be there; or which has a value of its own where it is left out.
abbrev pub option_wanted : List ℕ → Rule
option_wanted name = record (wanted name) { long = Some name }

abbrev pub option_or : List ℕ → List ℕ → Rule
option_or name value = record (new_rule name) { long = Some name; defaults = value ∷ [] }

-- A name that has no value after it; where it is there its value is `true`, else `false`.
abbrev pub flag : List ℕ → Rule
flag name = record (new_rule name) { long = Some name; action = Some SetTrue }

-- One seat.
abbrev pub seat_line : List ℕ → App
seat_line command = with_rule (new_app command) (wanted (codes "seat"))

unfoldable pub referee_line : App
referee_line = seat_line (codes "referee")

unfoldable pub keep_line : App
keep_line = seat_line (codes "keep")

unfoldable pub safe_line : App
safe_line = seat_line (codes "safe")

-- Nothing after `replay` and after `observe`.
unfoldable pub replay_line : App
replay_line = new_app (codes "replay")

unfoldable pub observe_line : App
observe_line = new_app (codes "observe")

-- One word or more.
unfoldable pub hand_line : App
hand_line = with_rule (new_app (codes "hand")) (wanted_often (codes "words"))

-- One number.
unfoldable pub self_play_line : App
self_play_line = with_rule (new_app (codes "selfplay")) (wanted (codes "n"))

-- A seed, the limit of a window, a port, whether the draw reasons are in force, and whether there are red fives.
unfoldable pub serve_line : App
serve_line =
    with_rule (with_rule (with_rule (with_rule (with_rule (new_app (codes "serve"))
    (option_wanted (codes "seed"))) (option_or (codes "limit") (codes "10000"))) (option_or (codes "port") (codes "11600"))) (flag (codes "draws"))) (flag (codes "red"))

-- A seed, how many rooms there are, and the rest of what stands after `serve`.
unfoldable pub tables_line : App
tables_line =
    with_rule (with_rule (with_rule (with_rule (with_rule (with_rule (new_app (codes "tables"))
    (option_wanted (codes "seed"))) (option_wanted (codes "rooms"))) (option_or (codes "limit") (codes "10000"))) (option_or (codes "port") (codes "11600"))) (flag (codes "draws")))
    (flag (codes "red"))

-- Clap finds no fault in words; a request for help is one.
abbrev pub are_none : Kinds → Bool
are_none [] = true
are_none (kind ∷ kinds) = false

unfoldable pub is_taken : App → List (List ℕ) → Bool
is_taken line words = are_none (fault_of line words)

-- The value, or the values, of an argument, where it takes them.
unfoldable pub value_in : App → List ℕ → List (List ℕ) → Option (List ℕ)
value_in line name words = if is_taken line words then first_of name (matches_of line words) else None

unfoldable pub values_in : App → List ℕ → List (List ℕ) → Option (List (List ℕ))
values_in line name words = if is_taken line words then all_of name (matches_of line words) else None
