-- The lines of deeds as a seat is told them: each with the answers that it may give once all deeds up to this one are there.
use Rattle.std.specs.Prelude.{ℕ, List, [], ◌∷◌, ◌++◌}
use Rattle.mj_deeds.specs.declared.deed.Deed.{Deed}
use Rattle.mj_deeds.specs.declared.deed.Viewer.TheVariants.{Seat}
use Rattle.mj_wall.specs.declared.setting.Rules.{Rules}
use Rattle.mj_rules.specs.Possible.{possible}
use Rattle.mj_forms.specs.Lines.{line}
use Rattle.mj_forms.specs.Choices.{line_with}

-- The line of a deed, the newest of these, for a seat.
abbrev pub seat_line : Rules → List Deed → ℕ → Deed → List ℕ
seat_line rules deeds seat deed = line_with (possible rules deeds seat) (line (Seat seat) deed)

-- The lines of deeds that come after others.
abbrev pub lines_from : Rules → ℕ → List Deed → List Deed → List (List ℕ)
lines_from rules seat before [] = []
lines_from rules seat before (deed ∷ deeds) =
    seat_line rules (before ++ deed ∷ []) seat deed ∷ lines_from rules seat (before ++ deed ∷ []) deeds

-- The lines of the deeds for a seat.
abbrev pub lines_for : Rules → ℕ → List Deed → List (List ℕ)
lines_for rules seat deeds = lines_from rules seat [] deeds
