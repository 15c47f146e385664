use Rattle.std.proofs.Common.{◌∙◌}
use Rattle.mj_umpire.proofs.Pieces.{player-at}
use Rattle.mj_umpire.proofs.state.State.seat.Goals as goal

pub returns : goal.returns
returns g c = c.chair.ensures ∙ rw (← c.self.view_is) (player-at c.self.inside.desk c.self.inside.chairs.items c.args.seat c.self.invariant.seated.many)
