-- What the seats are told of the deeds of a game: for each seat its lines, in order.
use Rattle.std.specs.Prelude.{ℕ, List, [], ◌∷◌, ◌++◌}
use Rattle.mj_deeds.specs.declared.answer.Answer.{Answer}
use Rattle.mj_deeds.specs.declared.deed.Deed.{Deed}
use Rattle.mj_deeds.specs.declared.deed.Viewer.TheVariants.{Seat}
use Rattle.mj_deeds.specs.declared.four.Four.{Four}
use Rattle.mj_forms.specs.Lines.{line}
use Rattle.mj_forms.specs.Choices.{line_with}

-- Before the first deed.
abbrev pub no_lines : Four (List (List ℕ))
no_lines = record { first = []; second = []; third = []; fourth = [] }

-- With one deed more: each seat has its line of it, with the answers that are given for the seat.
abbrev pub with_deed : Four (List (List ℕ)) → Deed → Four (List Answer) → Four (List (List ℕ))
with_deed lines deed possible = record {
  first = lines.first ++ line_with possible.first (line (Seat 0) deed) ∷ [];
  second = lines.second ++ line_with possible.second (line (Seat 1) deed) ∷ [];
  third = lines.third ++ line_with possible.third (line (Seat 2) deed) ∷ [];
  fourth = lines.fourth ++ line_with possible.fourth (line (Seat 3) deed) ∷ [];
}
