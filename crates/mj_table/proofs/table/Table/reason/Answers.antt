use Rattle.std.proofs.Common.{◌∙◌, ap}
use Rattle.mj_deeds.specs.Hand.{hand}
use Rattle.mj_deeds.specs.Reasons.{reason}
use Rattle.mj_table.specs.Plays.{Play}
use Rattle.mj_table.proofs.NewestHand.{known_of}
use Rattle.mj_table.proofs.table.Table.reason.Goals as goal

pub returns : goal.returns
returns c =
    c.reason.ensures (hand c.args.self.now.deeds) (known_of c.self.inside.rules c.self.inside.past.items c.args.self.now c.self.inside.facts
    c.self.invariant.facts c.self.view_is).kans (known_of c.self.inside.rules c.self.inside.past.items c.args.self.now c.self.inside.facts
    c.self.invariant.facts c.self.view_is).course
    ∙ ap (λ (play : Play). reason play.rules.draws (hand c.args.self.now.deeds)) c.self.view_is
