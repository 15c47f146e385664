use Rattle.mj_words.specs.Commands.{served_with}
use Rattle.mj_hosting.specs.Steps.{AreNew}
use Rattle.mj_hosting.proofs.plays.new_games.Given as goal

abbrev pub invariant-loop-table : goal.invariant-loop-table
invariant-loop-table l = AreNew (served_with l.serving) l.table l.games.items
