-- What the command `safe` writes.
use Rattle.std.specs.Prelude.{ℕ, ◌==◌, if◌then◌else◌, List, [], ◌∷◌, ◌++◌, flat_map, codes}
use Rattle.mj_bytes.specs.Numbers.{number_text}
use Rattle.mj_deeds.specs.declared.deed.Deed.{Deed}
use Rattle.mj_safety.specs.Safe.{has_to_discard, safe_kinds}
use Rattle.mj_hand.specs.Text.{kinds_or_dash}

-- `against`, the number of another seat, and the kinds that the seat holds and that are safe against it, or a dash.
abbrev pub against_line : List Deed → ℕ → ℕ → List ℕ
against_line deeds seat against =
    codes "against " ++ (number_text against ++ (kinds_or_dash (safe_kinds deeds seat against) ++ codes "\n"))

-- The line on a seat; none on the one that has to discard.
abbrev pub line_on : List Deed → ℕ → ℕ → List ℕ
line_on deeds seat against = if against == seat then [] else against_line deeds seat against

-- The lines on the three others in order of their numbers, where the seat has to discard.
abbrev pub safe_text : List Deed → ℕ → List ℕ
safe_text deeds seat =
    if has_to_discard deeds seat then flat_map (line_on deeds seat) (0 ∷ 1 ∷ 2 ∷ 3 ∷ []) else codes "not to discard\n"
