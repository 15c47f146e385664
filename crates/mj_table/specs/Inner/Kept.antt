-- What a table keeps of the deeds that it stands for, and what a deed more makes of it.
use Rattle.std.specs.Prelude.{◌≡◌, ◌≤◌, ◌+◌, ◌-◌, IsTrue, if◌then◌else◌, List, [], flat_map, replicate, slice_index, Option, ℕ, ℤ}
use Rattle.mj_tiles.specs.Faces.{number_in, tile_order}
use Rattle.mj_rounds.specs.declared.rounds.Standing.{Standing}
use Rattle.mj_deeds.specs.declared.deed.Deed.{Deed}
use Rattle.mj_deeds.specs.declared.four.Four.{Four}
use Rattle.mj_deeds.specs.Four.{at_seat}
use Rattle.mj_deeds.specs.Facts.{newest, gains_by, losses_by}
use Rattle.mj_deeds.specs.Fits.{all_fit}
use Rattle.mj_deeds.specs.Hand.{is_hand_start, hand}
use Rattle.mj_deeds.specs.Points.{points, deposits}
use Rattle.mj_deeds.specs.Standings.{standing}
use Rattle.mj_wall.specs.declared.setting.Rules.{Rules}
use Rattle.mj_facts.specs.declared.hand_facts.HandFacts.{HandFacts}
use Rattle.mj_facts.specs.Hands.{Knows}
use Rattle.mj_facts.specs.Holding.{Holds}
use Rattle.mj_table.specs.Inner.Latest.{previous}

-- How many tiles of each face each seat holds in the newest hand.
abbrev pub AllHold : List Deed → Four (List ℕ) → Type 0
AllHold deeds tiles = (seat : ℕ) → seat ≤ 3 → Holds (hand deeds) seat (at_seat tiles seat)

-- The deed that stands beside the newest one, which is of the newest hand.
abbrev pub beside : List Deed → Option Deed
beside deeds = previous (hand deeds)

-- What is kept of the newest hand says its facts.
abbrev pub KnowsNewest : List Deed → HandFacts → Type 0
KnowsNewest deeds facts = Knows (hand deeds) facts

-- What is kept stands for the deeds: each of them fits after those before it, and kept are the newest one and the one beside
-- it, the standing, the points, the deposits, how many tiles of each face each seat holds, and the facts of the newest hand.
pub record Stands (rules : Rules) (deeds : List Deed) (last before : Option Deed) (now : Standing) (held : List ℤ) (lying : ℕ) (tiles : Four (List ℕ)) (known : HandFacts) : Type 0 where
  pub fit : IsTrue (all_fit rules.red [] deeds)
  pub latest : last ≡ newest deeds
  pub previous : before ≡ beside deeds
  pub standing : now ≡ standing deeds
  pub points : held ≡ points deeds
  pub deposits : lying ≡ deposits deeds
  pub concealed : AllHold deeds tiles
  pub facts : KnowsNewest deeds known

-- The tiles of which there are so many of each face, in tile order.
abbrev pub tiles_held : List ℕ → List ℕ
tiles_held held = flat_map (λ face. replicate (slice_index held face) face) tile_order

-- How many tiles of a face a seat held before a deed in its own hand: none before a start.
abbrev pub held_before : Deed → List ℕ → ℕ → ℕ
held_before deed held face = if is_hand_start deed then 0 else slice_index held face

-- By a deed a seat holds more tiles by those that it gains, and fewer by those that it puts down, as long as it holds at
-- most 255 of the face.
abbrev pub Moves : Deed → ℕ → List ℕ → List ℕ → Type 0
Moves deed seat held now =
    (face : ℕ) → held_before deed held face + number_in (gains_by seat deed) face ≤ 255 →
    slice_index now face ≡ held_before deed held face + number_in (gains_by seat deed) face - number_in (losses_by seat deed) face
