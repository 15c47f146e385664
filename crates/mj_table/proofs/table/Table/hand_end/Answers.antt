use Rattle.std.proofs.Common.{◌∙◌, ◌≤◌, ap, sym, subst}
use Rattle.mj_deeds.specs.Ends.{end_of}
use Rattle.mj_rounds.specs.declared.rounds.Standing.{Standing}
use Rattle.mj_deeds.specs.Hand.{hand}
use Rattle.mj_deeds.specs.Standings.{standing}
use Rattle.mj_deeds.proofs.Standings.{may_stand}
use Rattle.mj_table.specs.Plays.{Play}
use Rattle.mj_table.proofs.NewestHand.{known_of}
use Rattle.mj_table.proofs.table.Table.hand_end.Goals as goal

pub kept-requires : goal.kept-requires
kept-requires c = subst (λ (now : Standing). now.dealer ≤ 3) (sym c.self.invariant.standing) (may_stand c.self.inside.rules.red c.self.inside.past.items c.self.invariant.fit).dealer

pub returns : goal.returns
returns c =
    c.hand_end.ensures (hand c.args.self.now.deeds) (known_of c.self.inside.rules c.self.inside.past.items c.args.self.now c.self.inside.facts
    c.self.invariant.facts c.self.view_is).course.draw c.kept.ensures.won
    ∙ ap (λ (now : Standing). end_of (hand c.args.self.now.deeds) now.dealer) (c.self.invariant.standing ∙ ap (λ (play : Play). standing play.deeds) c.self.view_is)
