use Rattle.std.proofs.Common.{ap, ◌∙◌, arith}
use Rattle.mj_deeds.specs.Standings.{standing}
use Rattle.mj_table.specs.Plays.{Play}
use Rattle.mj_table.proofs.NewestHand.{known_of}
use Rattle.mj_table.proofs.Readers.{none_numbered, next_numbered, few_numbers}
use Rattle.mj_table.proofs.table.Table.next_number.Goals as goal

pub overflow_add-result : goal.overflow_add-result
overflow_add-result c = omega (arith, few_numbers c.self.inside.rules.red c.self.inside.past.items c.self.inside.standing c.self.invariant.fit c.self.invariant.standing)

pub returns-then-self : goal.returns-then-self
returns-then-self c =
    next_numbered c.args.self.now.deeds c.self.inside.facts.begun c.self.inside.standing (known_of c.self.inside.rules c.self.inside.past.items
    c.args.self.now c.self.inside.facts c.self.invariant.facts c.self.view_is).begun c.if-self.true
    (c.self.invariant.standing ∙ ap (λ (p : Play). standing p.deeds) c.self.view_is)

pub returns : goal.returns
returns c = none_numbered c.args.self.now.deeds c.self.inside.facts.begun (known_of c.self.inside.rules c.self.inside.past.items c.args.self.now
    c.self.inside.facts c.self.invariant.facts c.self.view_is).begun c.if-self.false
