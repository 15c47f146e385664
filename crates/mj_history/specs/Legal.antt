-- Which entries a game permits, and which games are legal.
use Rattle.std.specs.Prelude.{ℕ, ◌+◌, ◌-◌, ◌==◌, ◌&&◌, ◌≤◌, not, nat_le, Bool, true, false, nat_lt, IsTrue, List, [], ◌∷◌, length, bytes_eq, is_some, slice_get}
use Rattle.std.specs.Option.{option_map_or}
use Rattle.std.specs.List.{list_any, list_all}
use Rattle.mj_ports.specs.Names.{is_name}
use Rattle.mj_ports.specs.declared.entry.Entry.{Entry}
use Rattle.mj_ports.specs.declared.entry.Entry.TheVariants.{Sat, Back, Said, Gone, Expired}
use Rattle.mj_deeds.specs.declared.answer.Answer.{Answer}
use Rattle.mj_deeds.specs.Answers.{is_in_form}
use Rattle.mj_deeds.specs.declared.deed.Deed.{Deed}
use Rattle.mj_wall.specs.declared.setting.Setting.{Setting}
use Rattle.mj_wall.specs.Places.{is_wall}
use Rattle.mj_deeds.specs.Facts.{newest}
use Rattle.mj_rules.specs.Outcome.{goes_on}
use Rattle.mj_history.specs.After.{After, Chair, before_all, is_present, step}

-- A seat has this name.
abbrev pub has_name : List ℕ → Chair → Bool
has_name name chair = bytes_eq chair.name name

-- The game has ended.
abbrev pub is_over : List Deed → Bool
is_over deeds = not (length deeds == 0) && not (goes_on (newest deeds))

-- A seat can be taken under a name: fewer than four are held, and none has the name.
unfoldable pub can_sit : List Chair → List ℕ → Bool
can_sit chairs name = nat_lt (length chairs) 4 && not (list_any (has_name name) chairs)

-- A seat can be taken back: it is gone, was taken with a key, has come back fewer than 64 times, and the game goes on.
unfoldable pub can_return : After → Chair → Bool
can_return now chair = not (is_present chair) && is_some chair.key && nat_lt chair.returns 64 && not (is_over now.deeds)

-- A seat is present by an author.
abbrev pub is_present_by : ℕ → Chair → Bool
is_present_by author chair = option_map_or (λ by. by == author) chair.author false

-- A line of a seat may be entered by an author: the seat is present by that author, and its due deed exists.
unfoldable pub may_say : After → ℕ → Chair → Bool
may_say now author chair = is_present_by author chair && nat_lt chair.progress.due (length now.deeds)

abbrev pub can_say : After → ℕ → ℕ → Bool
can_say now author seat = option_map_or (may_say now author) (slice_get now.chairs seat) false

-- The open window: that of the newest deed, until the game has ended.
abbrev pub is_open : List Deed → ℕ → Bool
is_open deeds window = not (length deeds == 0) && not (is_over deeds) && window + 1 == length deeds

-- The time of a window may have run out: it is the open one, and so much time lies between the two readings.
unfoldable pub can_expire : ℕ → List Deed → ℕ → ℕ → ℕ → Bool
can_expire limit deeds window t1 t2 = is_open deeds window && nat_le t1 t2 && nat_le limit (t2 - t1)

-- What an entry says is in form.
abbrev pub says_in_form : Entry Answer → Bool
says_in_form (Said author seat answer) = is_in_form answer
says_in_form other = true

-- An entry is permitted where it stands: a seat is taken under a good name that no seat has, while fewer than four are
-- held; a seat that may return is taken back; an answer in form is said by the author by whom the seat is present, once the
-- due deed exists; a present seat leaves; and the open window expires once its time has run out.
abbrev pub is_permitted : Setting → After → Entry Answer → Bool
is_permitted setting now (Sat author name key) = is_name name && can_sit now.chairs name
is_permitted setting now (Back author seat) = option_map_or (can_return now) (slice_get now.chairs seat) false
is_permitted setting now (Said author seat answer) = is_in_form answer && can_say now author seat
is_permitted setting now (Gone author seat) = option_map_or (is_present_by author) (slice_get now.chairs seat) false
is_permitted setting now (Expired author window t1 t2) = can_expire setting.rules.limit now.deeds window t1 t2

-- Every entry is permitted where it stands.
abbrev pub all_permitted : Setting → After → List (Entry Answer) → Bool
all_permitted setting now [] = true
all_permitted setting now (entry ∷ entries) = is_permitted setting now entry && all_permitted setting (step setting now entry) entries

-- There is a wall.
abbrev pub has_wall : List (List ℕ) → Bool
has_wall [] = false
has_wall (wall ∷ walls) = true

-- There is no entry without a wall.
abbrev pub has_ground : List (List ℕ) → List (Entry Answer) → Bool
has_ground walls [] = true
has_ground walls (entry ∷ entries) = has_wall walls

-- A game is legal: at most 200 walls, each of them whole and with red fives exactly where the rules have them, at least
-- one where there is an entry, and every entry permitted where it stands.
pub record IsLegal (setting : Setting) (entries : List (Entry Answer)) : Type 0 where
  pub few : length setting.walls ≤ 200
  pub whole : IsTrue (list_all (is_wall setting.rules.red) setting.walls)
  pub ground : IsTrue (has_ground setting.walls entries)
  pub permitted : IsTrue (all_permitted setting before_all entries)

-- A setting and entries.
pub record Game : Type 0 where
  pub setting : Setting
  pub entries : List (Entry Answer)
