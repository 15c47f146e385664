-- What founds a kept game, as it is read.
use Rattle.std.specs.Prelude.{◌≡◌, ℕ, ◌+◌, ◌^◌, ◌<◌, ◌≤◌, true, List, length, Some, None}
use Rattle.std.specs.List.{list_all}
use Rattle.mj_bytes.specs.Parts.{whole_lines, unfinished}
use Rattle.mj_wall.specs.Places.{is_wall}
use Rattle.mj_history.specs.Arrivals.{input_of}
use Rattle.mj_refereeing.specs.declared.base.Base.{Base as Read}
use Rattle.mj_refereeing.specs.declared.base.Founded.{Founded}
use Rattle.mj_refereeing.specs.declared.base.Founded.TheVariants as founded
use Rattle.mj_refereeing.specs.Keep.{Base, base_of}
use Rattle.mj_refereeing.specs.Referee.{ending}

-- What the value that was read stands for.
abbrev pub base_meant : Read → Base
base_meant g = record { setting = record { walls = g.walls.items; rules = g.rules }; tag = g.tag.now; number = g.number; lines = whole_lines g.rest.now }

-- The sizes of what was read are those that a game and its journal may have.
pub record IsFit (g : Read) : Type 0 where
  pub few : length g.walls.items ≤ 200
  pub whole : list_all (is_wall g.rules.red) g.walls.items ≡ true
  pub shortest : 1 ≤ g.rules.limit
  pub longest : g.rules.limit ≤ 3600000
  pub tagged : 0 < length g.tag.now
  pub tag_short : length g.tag.now < 2 ^ 32
  pub fits : g.number + length g.rest.now < 2 ^ 32

-- The base of an input.
pub record IsBase (g : Read) (input : List ℕ) : Type 0 where
  pub fit : IsFit g
  pub some : 1 ≤ length g.walls.items
  pub is : base_of input ≡ Some (base_meant g)
  pub unread : unfinished input ≡ unfinished g.rest.now

-- What an input founds, and how it ends where that is nothing.
abbrev pub IsFounded : Founded → List ℕ → Type 0
IsFounded (founded.Nothing end) input = (base_of input ≡ None) × ((input_of input).ending ≡ ending end)
IsFounded (founded.Game base) input = IsBase base input
