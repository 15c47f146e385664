-- What of a game those who wait for a change wait for.
use Rattle.mj_ports.specs.Seats.{Showing}
use Rattle.mj_session.specs.declared.hold.Progress.{Progress}

-- They see the number of deeds, the open window, and whether the game is over.
abbrev pub progress_of : Showing → Progress
progress_of w = record { deeds = w.deeds; window = w.window; over = w.over }
