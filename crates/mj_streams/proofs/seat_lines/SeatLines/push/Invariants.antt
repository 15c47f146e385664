use Rattle.mj_streams.proofs.seat_lines.SeatLines.push.Given as goal

abbrev pub ghosts-push_on : goal.ghosts-push_on
ghosts-push_on a = record { name = a.blank.name; parts = a.blank.parts }
