-- Which answers are in form: the own tiles that they name together stand in tile order.
use Rattle.std.specs.Prelude.{ℕ, ◌+◌, ◌*◌, ◌&&◌, Bool, true, nat_le, if◌then◌else◌, List, [], ◌∷◌}
use Rattle.mj_tiles.specs.Faces.{kind_of, is_red}
use Rattle.mj_deeds.specs.declared.answer.Pai.{Pai}
use Rattle.mj_deeds.specs.declared.answer.Pai.TheVariants.{Known, Hidden}
use Rattle.mj_deeds.specs.declared.answer.Answer.{Answer}
use Rattle.mj_deeds.specs.declared.answer.Answer.TheVariants.{Chi, Pon, OpenKan, ClosedKan, AddedKan}

-- The place of a tile in tile order: by kind, 0 to 33, a plain tile before a red one; a hidden one stands after all.
abbrev pub place_of : Pai → ℕ
place_of (Known tile) = 2 * kind_of tile + (if is_red tile then 1 else 0)
place_of Hidden = 68

-- Tiles stand in tile order: none stands before one of an earlier place.
abbrev pub are_in_order : List Pai → Bool
are_in_order [] = true
are_in_order (pai ∷ []) = true
are_in_order (pai ∷ next ∷ pais) = nat_le (place_of pai) (place_of next) && are_in_order (next ∷ pais)

-- The own tiles that an answer names together: those of a chi, a pon or a kan, and of an added kan its triplet.
abbrev pub consumed : Answer → List Pai
consumed (Chi actor target tile a b) = a ∷ b ∷ []
consumed (Pon actor target tile a b) = a ∷ b ∷ []
consumed (OpenKan actor target tile a b c) = a ∷ b ∷ c ∷ []
consumed (ClosedKan actor a b c d) = a ∷ b ∷ c ∷ d ∷ []
consumed (AddedKan actor tile a b c) = a ∷ b ∷ c ∷ []
consumed other = []

-- An answer is in form: the own tiles that it names together stand in tile order, hidden ones last.
abbrev pub is_in_form : Answer → Bool
is_in_form answer = are_in_order (consumed answer)
