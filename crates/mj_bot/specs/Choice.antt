-- What the built-in player answers.
use Rattle.std.specs.Prelude.{ℕ, ◌≡◌, ◌==◌, if◌then◌else◌, List, [], ◌∷◌, ◌++◌, length, map, filter, Option, Some, None, is_none, option_to_list, unwrap_or, MatchOption, MatchBool}
use Rattle.mj_tiles.specs.Faces.{kind_of}
use Rattle.mj_tiles.specs.Counts.{kind_counts}
use Rattle.mj_tiles.specs.Kinds.{set_of}
use Rattle.mj_readings.specs.Sets.{set_of_meld}
use Rattle.mj_fu.specs.Forms.{has_value}
use Rattle.mj_shanten.specs.Discards.{IsBestDiscard}
use Rattle.mj_deeds.specs.declared.answer.Pai.TheVariants.{Known}
use Rattle.mj_deeds.specs.declared.answer.Answer.{Answer}
use Rattle.mj_deeds.specs.declared.answer.Answer.TheVariants.{Pass, Pon, Reach, Win}
use Rattle.mj_deeds.specs.declared.deed.Deed.{Deed}
use Rattle.mj_wall.specs.declared.setting.Rules.{Rules}
use Rattle.mj_rules.specs.Broken.{broken_by}
use Rattle.mj_rules.specs.Default.{discard_of, lawful_faces, last_face}
use Rattle.mj_rules.specs.View.{SeatView, view_of, WindowTurn, Drew, Discarded, Added, concealed, room}
use Rattle.mj_judge.specs.Measured.{is_measured}

-- The win that a seat would answer: on the tile that it has drawn, or on the one that another discards or adds, with that
-- seat as the target.
abbrev pub win_in : ℕ → SeatView → WindowTurn → List Answer
win_in seat view (Drew who) = map (λ tile. Win seat seat (Some (Known tile))) (option_to_list view.drawn)
win_in seat view (Discarded who tile) = Win seat who (Some (Known tile)) ∷ []
win_in seat view (Added who tile) = Win seat who (Some (Known tile)) ∷ []
win_in seat view other = []

-- The pon that it would answer: of a discarded dragon, its own wind or the round wind, with two held tiles of the kind.
-- These kinds have one face each.
abbrev pub pon_in : ℕ → SeatView → WindowTurn → List Answer
pon_in seat view (Discarded who tile) = if has_value view.case (kind_of tile) then Pon seat who (Known tile) (Known tile) (Known tile) ∷ [] else []
pon_in seat view other = []

-- The first of these answers that breaks no rule.
abbrev pub first_lawful : Rules → ℕ → SeatView → List Answer → Option Answer
first_lawful rules seat view [] = None
first_lawful rules seat view (answer ∷ others) = if is_none (broken_by rules seat view answer) then Some answer else first_lawful rules seat view others

-- The answers that the player would give, in the order in which it wants them: a win, a reach, the best discard where there
-- is one, and a pon.
abbrev pub wanted : ℕ → SeatView → Option ℕ → List Answer
wanted seat view best = win_in seat view view.turn ++ (Reach seat ∷ (map (discard_of seat view) (option_to_list best) ++ pon_in seat view view.turn))

-- The first of them that is lawful, and a pass where none is.
abbrev pub chosen : Rules → ℕ → SeatView → Option ℕ → Answer
chosen rules seat view best = unwrap_or (first_lawful rules seat view (wanted seat view best)) (Pass None)

-- The lawful discards of a kind, in tile order: a red five stands after a plain one.
abbrev pub lawful_of : Rules → ℕ → SeatView → ℕ → List ℕ
lawful_of rules seat view kind = filter (λ face. kind_of face == kind) (lawful_faces rules seat view)

-- Of the lawful discards the one that leaves the least shanten, and of several the last in tile order: no other kind leaves
-- less, or as much and stands later, and of its kind it is the last.
pub record IsBestLawful (rules : Rules) (seat : ℕ) (view : SeatView) (face : ℕ) : Type 0 where
  pub kind_is : IsBestDiscard (kind_counts (concealed view)) (room view) (length view.melds) (set_of (map kind_of (lawful_faces rules seat view))) (kind_of face)
  pub face_is : last_face (lawful_of rules seat view (kind_of face)) ≡ Some face

-- It is the best where shanten is said of the hand, and else the last in tile order.
abbrev pub IsBest : Rules → ℕ → SeatView → ℕ → Type 0
IsBest rules seat view face =
    MatchBool (is_measured (kind_counts (concealed view)) (room view) (map set_of_meld view.melds))
    (IsBestLawful rules seat view face)
    (last_face (lawful_faces rules seat view) ≡ Some face)

-- What the player answers in the window on the newest deed: a win that is lawful; else a reach that is; else of the lawful
-- discards the best; else a lawful pon of a dragon, its own wind or the round wind; else a pass.
pub record IsChoice (rules : Rules) (deeds : List Deed) (seat : ℕ) (answer : Answer) : Type 0 where
  pub best : Option ℕ
  pub best_is : MatchOption best (lawful_faces rules seat (view_of deeds seat) ≡ []) (IsBest rules seat (view_of deeds seat))
  pub chosen_is : answer ≡ chosen rules seat (view_of deeds seat) best
