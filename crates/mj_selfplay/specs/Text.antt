-- What is written of a self-played game.
use Rattle.std.specs.Prelude.{ℕ, List, ◌++◌, codes}
use Rattle.mj_runs.specs.Results.{number_line, result_text}
use Rattle.mj_selfplay.specs.declared.tally.Summary.{Summary}

-- The six lines of a summary: the hands, the wins and the drawn hands, and what is left.
abbrev pub summary_text : Summary → List ℕ
summary_text summary =
    number_line (codes "hands") summary.hands ++ (number_line (codes "wins") summary.wins
    ++ (number_line (codes "draws") summary.draws ++ result_text summary.deeds summary.points summary.deposits))
