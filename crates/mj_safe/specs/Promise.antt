-- What a reason promises.
use Rattle.std.specs.Prelude.{◌≡◌, ℕ, Bool, true, List, [], ◌∷◌, ◌++◌}
use Rattle.mj_tiles.specs.Faces.{kind_of}
use Rattle.mj_deeds.specs.declared.answer.Answer.{Answer}
use Rattle.mj_deeds.specs.declared.deed.Deed.{Deed}
use Rattle.mj_deeds.specs.declared.deed.Deed.TheVariants.{Discard}
use Rattle.mj_wall.specs.declared.setting.Rules.{Rules}
use Rattle.mj_wall.specs.Places.{is_wall}
use Rattle.mj_rules.specs.Broken.{is_win}
use Rattle.mj_rules.specs.Outcome.{wall_of}
use Rattle.mj_rules.specs.Played.{IsLawful, IsPlayed}

-- Whatever the walls are, where a seat discards a tile of the kind after these deeds, and the deeds are played, no win of the other
-- seat is lawful in the window on the discard.
abbrev pub IsNeverWonOn : Rules → List Deed → ℕ → ℕ → ℕ → Type 0
IsNeverWonOn rules deeds seat against kind =
    (walls : List (List ℕ)) (tile : ℕ) (drawn : Bool) (answer : Answer) → kind_of tile ≡ kind →
    ((number : ℕ) → is_wall rules.red (wall_of walls number) ≡ true) → IsPlayed rules walls (deeds ++ Discard seat tile drawn ∷ []) →
    is_win answer ≡ true → IsLawful rules (deeds ++ Discard seat tile drawn ∷ []) against answer → ⊥
