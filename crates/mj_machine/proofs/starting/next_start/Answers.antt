use Rattle.std.proofs.Common.{sym, subst}
use Rattle.mj_rounds.specs.Rounds.{MayStand}
use Rattle.mj_deeds.proofs.Standings.{may_stand}
use Rattle.mj_machine.proofs.starting.next_start.Goals as goal

pub next_hand-requires : goal.next_hand-requires
next_hand-requires c = subst MayStand (sym c.standing.ensures) (may_stand c.requires.small.red c.args.table.now.deeds c.requires.small.fit)
