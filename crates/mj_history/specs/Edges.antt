-- The laws of the edges of a game: when it starts, and that who may come back does.
use Rattle.std.specs.Prelude.{◌≡◌, ℕ, ◌==◌, true, not, List, [], ◌∷◌, ◌++◌, length, flat_map, Option, Some, slice_get}
use Rattle.mj_ports.specs.declared.entry.Entry.{Entry}
use Rattle.mj_ports.specs.declared.entry.Entry.TheVariants.{Sat}
use Rattle.mj_ports.specs.declared.sitting.JoinLine.{JoinLine}
use Rattle.mj_seating.specs.declared.desk.Placed.TheVariants as places
use Rattle.mj_deeds.specs.declared.four.Four.{Four}
use Rattle.mj_deeds.specs.declared.answer.Answer.{Answer}
use Rattle.mj_deeds.specs.declared.deed.Deed.{Deed}
use Rattle.mj_deeds.specs.declared.deed.Deed.TheVariants.{StartGame}
use Rattle.mj_wall.specs.declared.setting.Setting.{Setting}
use Rattle.mj_history.specs.After.{Chair, after}
use Rattle.mj_history.specs.Legal.{IsLegal, can_return}
use Rattle.mj_history.specs.Sitting.{placing}

-- The name under which an entry takes a seat.
abbrev pub sits_as : Entry Answer → List (List ℕ)
sits_as (Sat author name key) = name ∷ []
sits_as other = []

-- The names of those who sat down, in order.
abbrev pub seated_names : List (Entry Answer) → List (List ℕ)
seated_names entries = flat_map sits_as entries

-- A legal game has a deed exactly where four have sat down.
abbrev pub FourStart : Type 0
FourStart = (setting : Setting) (entries : List (Entry Answer)) → IsLegal setting entries → not (length (after setting entries).deeds == 0) ≡ (length (seated_names entries) == 4)

-- Deeds are the one start of a game with these four names.
pub record IsJustStarted (deeds : List Deed) (names : List (List ℕ)) : Type 0 where
  pub four : Four (List ℕ)
  pub in_order : names ≡ four.first ∷ four.second ∷ four.third ∷ four.fourth ∷ []
  pub started : deeds ≡ StartGame four ∷ []

-- Who sits down as the fourth starts the game, with the four names in order; that no other entry does is said by the law above.
abbrev pub TheFourthStarts : Type 0
TheFourthStarts =
    (setting : Setting) (entries : List (Entry Answer)) (author : ℕ) (name : List ℕ) (key : Option (List ℕ)) → IsLegal setting (entries ++ Sat author name key ∷ []) →
    length (seated_names (entries ++ Sat author name key ∷ [])) ≡ 4 → IsJustStarted (after setting (entries ++ Sat author name key ∷ [])).deeds (seated_names (entries ++ Sat author name key ∷ []))

-- Every join under the name and the key of a seat that may be taken back is given that seat. That `sit` of a core gives it, unless
-- memory is wanting, is its clause.
abbrev pub ReturnsAreSeated : Type 0
ReturnsAreSeated =
    (setting : Setting) (entries : List (Entry Answer)) (seat : ℕ) (chair : Chair) (join : JoinLine) → IsLegal setting entries → slice_get (after setting entries).chairs seat ≡ Some chair →
    can_return (after setting entries) chair ≡ true → join.name ≡ chair.name → join.key ≡ chair.key → placing (after setting entries) (Some join) ≡ places.Back seat
