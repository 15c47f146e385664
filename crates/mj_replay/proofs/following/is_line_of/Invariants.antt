use Rattle.mj_replay.proofs.following.is_line_of.Given as goal

abbrev pub ghosts-write_over : goal.ghosts-write_over
ghosts-write_over a = record { name = a.blank.name; parts = a.blank.parts }
