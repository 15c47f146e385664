use Rattle.mj_umpire.specs.Calls.{after_of}
use Rattle.mj_core.proofs.KeptLines.{kept-line}
use Rattle.mj_core.proofs.game.Core.line.Goals as goal

pub returns : goal.returns
returns c =
    rw (← c.self.view_is)
    (kept-line c.self.inside.umpire.setting.rules (after_of c.self.inside.umpire).deeds c.args.seat c.args.k c.line.result (rw c.told.ensures at c.line.ensures))
