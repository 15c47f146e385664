-- What an input says, line by line: a header, a wall, and then what arrives.
use Rattle.std.specs.Prelude.{ℕ, ◌+◌, ◌^◌, ◌==◌, ◌&&◌, not, Bool, true, false, nat_lt, nat_le, if◌then◌else◌, List, [], ◌∷◌, ◌++◌}
use Rattle.std.specs.Prelude.{length, codes, bytes_eq, Option, Some, None, is_some, unwrap_or, option_and_then, option_map}
use Rattle.std.specs.Option.{option_map_or}
use Rattle.mj_bytes.specs.Numbers.{decimal_of}
use Rattle.mj_bytes.specs.Parts.{whole_lines, unfinished, fields, parted}
use Rattle.mj_ports.specs.declared.entry.Entry.{Entry}
use Rattle.mj_ports.specs.declared.entry.Entry.TheVariants.{Said, Gone, Expired}
use Rattle.mj_deeds.specs.declared.answer.Answer.{Answer}
use Rattle.mj_wall.specs.declared.setting.Rules.{Rules}
use Rattle.mj_wall.specs.declared.setting.Setting.{Setting}
use Rattle.mj_wall.specs.Places.{is_wall}
use Rattle.mj_forms.specs.AnswerForms.{answer_of, join_of}
use Rattle.mj_history.specs.After.{After, after}
use Rattle.mj_history.specs.Legal.{Game, can_say, can_expire}
use Rattle.mj_history.specs.Sitting.{placing, entries_of_placing, author_at}
use Rattle.mj_forms.specs.Headers.{rules_of, tiles_in}

-- The forms of a line that arrives.
pub data ArrivalForm : Type 0 where
  Header : Rules → ArrivalForm
  WallOf : List ℕ → ArrivalForm
  Sit : (text : List ℕ) → ArrivalForm
  Say : (seat : ℕ) (text : List ℕ) → ArrivalForm
  Leave : (seat : ℕ) → ArrivalForm
  Expire : (window t1 t2 : ℕ) → ArrivalForm
  NoForm : ArrivalForm

-- The line of a player has at most 4,095 bytes.
abbrev pub is_short : List ℕ → Bool
is_short text = nat_le (length text) 4095

abbrev pub sit_form : List ℕ → ArrivalForm
sit_form text = if is_short text then Sit text else NoForm

abbrev pub say_form : Option (List ℕ × List ℕ) → ArrivalForm
say_form None = NoForm
say_form (Some parts) = option_map_or (λ seat. if is_short parts.1 then Say seat parts.1 else NoForm) (decimal_of parts.0) NoForm

-- The numbers of fields, where each is one.
abbrev pub numbers_in : List (List ℕ) → Option (List ℕ)
numbers_in [] = Some []
numbers_in (text ∷ texts) = option_and_then (λ number. option_map (λ numbers. number ∷ numbers) (numbers_in texts)) (decimal_of text)

-- A window is below 2^32.
abbrev pub expire_form : Option (List ℕ) → ArrivalForm
expire_form (Some (window ∷ t1 ∷ t2 ∷ [])) = if nat_lt window (2 ^ 32) then Expire window t1 t2 else NoForm
expire_form numbers = NoForm

-- The form of a line, by its first word and what follows it.
unfoldable pub form_by : List ℕ → List ℕ → ArrivalForm
form_by word text =
    if bytes_eq word (codes "game") then option_map_or Header (rules_of (fields text)) NoForm else
    (if bytes_eq word (codes "wall") then option_map_or WallOf (tiles_in (fields text)) NoForm else
    (if bytes_eq word (codes "sit") then sit_form text else
    (if bytes_eq word (codes "say") then say_form (parted text) else
    (if bytes_eq word (codes "gone") then option_map_or Leave (decimal_of text) NoForm else
    (if bytes_eq word (codes "expire") then expire_form (numbers_in (fields text)) else NoForm)))))

unfoldable pub form_of : List ℕ → ArrivalForm
form_of text = option_map_or (λ parts. form_by parts.0 parts.1) (parted text) NoForm

-- What was read so far: the header, the walls, whether an arrival came after these, and the entries.
pub record Intake : Type 0 where
  pub rules : Option Rules
  pub walls : List (List ℕ)
  pub begun : Bool
  pub entries : List (Entry Answer)

-- Where no header was read, these rules stand.
abbrev pub no_rules : Rules
no_rules = record { limit = 1; draws = false; red = false }

abbrev pub setting_of : Intake → Setting
setting_of reading = record { walls = reading.walls; rules = unwrap_or reading.rules no_rules }

-- What the entries read so far come to.
abbrev pub now_of : Intake → After
now_of reading = after (setting_of reading) reading.entries

-- The game that was read.
abbrev pub game_of : Intake → Game
game_of reading = record { setting = setting_of reading; entries = reading.entries }

-- What a line does: it is an arrival in its place and leads on, or it is none.
pub data Arrival : Type 0 where
  Leads : Intake → Arrival
  Bad : Arrival

-- A header stands first.
unfoldable pub header_arrives : Intake → Rules → Arrival
header_arrives reading rules = Leads (record reading { rules = Some rules })

-- Walls stand after the header and before all else, 200 at most, with red fives exactly where the header has them.
unfoldable pub wall_arrives : Intake → List ℕ → Arrival
wall_arrives reading tiles =
    if is_wall (setting_of reading).rules.red tiles && not reading.begun && nat_lt (length reading.walls) 200
    then Leads (record reading { walls = reading.walls ++ tiles ∷ [] })
    else Bad

-- An arrival that adds these entries, one or none.
abbrev pub with_entries : Intake → List (Entry Answer) → Intake
with_entries reading entries = record reading { begun = true; entries = reading.entries ++ entries }

-- Somebody wants a seat, by author 1; a refused join adds no entry.
unfoldable pub sit_arrives : Intake → List ℕ → Arrival
sit_arrives reading text =
    if length reading.walls == 0 then Bad else Leads (with_entries reading (entries_of_placing 1 (join_of text) (placing (now_of reading) (join_of text))))

-- A present seat says a line once its due deed exists; it is entered by the author by whom it is present.
unfoldable pub say_arrives : Intake → ℕ → List ℕ → Arrival
say_arrives reading seat text =
    option_map_or (λ author. if can_say (now_of reading) author seat then Leads (with_entries reading (Said author seat (answer_of text) ∷ [])) else Bad)
    (author_at (now_of reading) seat) Bad

-- A present seat leaves.
unfoldable pub gone_arrives : Intake → ℕ → Arrival
gone_arrives reading seat = option_map_or (λ author. Leads (with_entries reading (Gone author seat ∷ []))) (author_at (now_of reading) seat) Bad

-- The time of a window may have run out; an expiry of another window, or too early, adds no entry. The author is 0.
unfoldable pub expiry_arrives : Intake → ℕ → ℕ → ℕ → Arrival
expiry_arrives reading window t1 t2 =
    if length reading.walls == 0 then Bad
    else Leads (with_entries reading (if can_expire (setting_of reading).rules.limit (now_of reading).deeds window t1 t2 then Expired 0 window t1 t2 ∷ [] else []))

-- A line of the arrivals after the header.
abbrev pub behind_header : Intake → ArrivalForm → Arrival
behind_header reading (Header rules) = Bad
behind_header reading (WallOf tiles) = wall_arrives reading tiles
behind_header reading (Sit text) = sit_arrives reading text
behind_header reading (Say seat text) = say_arrives reading seat text
behind_header reading (Leave seat) = gone_arrives reading seat
behind_header reading (Expire window t1 t2) = expiry_arrives reading window t1 t2
behind_header reading NoForm = Bad

-- The first line.
abbrev pub first_line : Intake → ArrivalForm → Arrival
first_line reading (Header rules) = header_arrives reading rules
first_line reading (WallOf tiles) = Bad
first_line reading (Sit text) = Bad
first_line reading (Say seat text) = Bad
first_line reading (Leave seat) = Bad
first_line reading (Expire window t1 t2) = Bad
first_line reading NoForm = Bad

-- What a line does where it stands.
unfoldable pub arrives : Intake → List ℕ → Arrival
arrives reading text = if is_some reading.rules then behind_header reading (form_of text) else first_line reading (form_of text)

-- How an input ends: with all its lines, or at the first line, counted from 1, that is no arrival in its place.
pub data Ending : Type 0 where
  Whole : Ending
  BadAt : ℕ → Ending

-- What an input gives, and how it ends.
pub record Input : Type 0 where
  pub reading : Intake
  pub ending : Ending

-- After the last whole line nothing may stand.
abbrev pub at_end : Intake → ℕ → List ℕ → Input
at_end reading number [] = record { reading = reading; ending = Whole }
at_end reading number (byte ∷ bytes) = record { reading = reading; ending = BadAt number }

-- Where a line leads, and what is heard from there on.
abbrev pub intake_on : Arrival → (Intake → Input) → Intake → ℕ → Input
intake_on (Leads next) onwards reading number = onwards next
intake_on Bad onwards reading number = record { reading = reading; ending = BadAt number }

-- The lines from some point on: the number of the next, and what stands after the last newline.
abbrev pub intake_from : Intake → ℕ → List (List ℕ) → List ℕ → Input
intake_from reading number [] rest = at_end reading number rest
intake_from reading number (text ∷ texts) rest = intake_on (arrives reading text) (λ next. intake_from next (number + 1) texts rest) reading number

abbrev pub nothing_read : Intake
nothing_read = record { rules = None; walls = []; begun = false; entries = [] }

-- The game that an input gives, and how the input ends.
abbrev pub input_of : List ℕ → Input
input_of input = intake_from nothing_read 1 (whole_lines input) (unfinished input)
