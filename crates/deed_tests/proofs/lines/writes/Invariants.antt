use Rattle.deed_tests.proofs.lines.writes.Given as goal

abbrev pub ghosts-writes_on : goal.ghosts-writes_on
ghosts-writes_on a = record { name = a.blank.name; parts = a.blank.parts }
