use Rattle.mj_umpire.proofs.umpire.Umpire.record.Given as goal

abbrev pub ghosts-record_on : goal.ghosts-record_on
ghosts-record_on g a = record { name = a.blank.name; parts = a.blank.parts }
