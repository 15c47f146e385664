use Rattle.mj_observe.proofs.rendering.write_over.Given as goal

abbrev pub ghosts-write_on : goal.ghosts-write_on
ghosts-write_on a = record { name = a.blank.name; parts = a.blank.parts }
