use Rattle.std.proofs.Common.{◌≡◌, List}
use Rattle.mj_deeds.specs.declared.deed.Deed.{Deed}
use Rattle.mj_table.specs.Plays.{Play}
use Rattle.mj_umpire.proofs.state.State.told.Goals as goal

play_of : (play : Play) (deeds : List Deed) → play.deeds ≡ deeds → play ≡ record { rules = play.rules; deeds = deeds }
play_of play deeds same = λ i. record { rules = play.rules; deeds = same i }

pub returns : goal.returns
returns g c = rw (← c.self.view_is) (play_of (g.T.Telling.play c.self.inside.told) c.self.inside.deeds.items c.self.invariant.same)
