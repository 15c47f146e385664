use Rattle.std.proofs.Common.{length, sym, ap, ◌∙◌}
use Rattle.mj_deeds.specs.Hand.{starts}
use Rattle.mj_table.specs.Plays.{Play}
use Rattle.mj_deeds.specs.Four.{at_seat}
use Rattle.mj_table.proofs.FacesHeld.{holds_more}
use Rattle.mj_table.proofs.NewestHand.{facts_more}
use Rattle.mj_table.proofs.Readers.{stands_more, stands_for, fit_within, few_lie, points_fit}
use Rattle.mj_table.specs.Inner.Latest.{newest_of, previous_of}
use Rattle.mj_table.proofs.table.Table.push.Goals as goal

pub points_after-self-inside-requires : goal.points_after-self-inside-requires
points_after-self-inside-requires c =
    points_fit c.self.inside.rules.red c.self.inside.past.items c.self.inside.points c.args.deed.now
    (fit_within c.self.inside.rules c.self.inside.past.items c.args.self.now c.args.deed.now c.self.view_is c.requires) c.self.invariant.points

pub deposits_after-self-inside-requires : goal.deposits_after-self-inside-requires
deposits_after-self-inside-requires c = few_lie c.self.inside.rules.red c.self.inside.past.items c.self.inside.deposits c.self.invariant.fit c.self.invariant.deposits

pub invariant_of-self-2 : goal.invariant_of-self-2
invariant_of-self-2 c =
    let one = fit_within c.self.inside.rules c.self.inside.past.items c.args.self.now c.args.deed.now c.self.view_is c.requires in
    stands_for c.self.inside.rules _ c.and-self-inside.result.items _ (newest_of c.add.new.self) _ (previous_of c.add.new.self) _ c.stand.new.standing
    _ c.points_after-self-inside.result _ c.deposits_after-self-inside.result c.move_tiles.new.held c.learn.new.facts
    (stands_more c.self.inside.rules c.self.inside.past.items (newest_of c.self.inside.latest) (previous_of c.self.inside.latest) c.self.inside.standing c.self.inside.points c.self.inside.deposits
    c.next_number-number.result c.self.inside.held c.move_tiles.new.held c.self.inside.facts c.learn.new.facts c.args.deed.now c.self.invariant
    one
    (c.next_number-number.ensures ∙ ap (λ (p : Play). length (starts p.deeds)) (sym c.self.view_is))
    (λ seat low.
    holds_more c.self.inside.rules.red c.self.inside.past.items c.args.deed.now seat (at_seat c.self.inside.held seat)
    (at_seat c.move_tiles.new.held seat) low c.self.invariant.fit one (c.self.invariant.concealed seat low)
    (c.move_tiles.ensures seat low))
    (facts_more c.self.inside.rules.red c.self.inside.past.items c.args.deed.now c.self.inside.facts c.learn.new.facts c.self.invariant.fit one c.learn.ensures c.self.invariant.facts))
    c.and-self-inside.ensures c.in_ok-add.ensures.last c.in_ok-add.ensures.beside c.stand.ensures c.points_after-self-inside.ensures
    c.deposits_after-self-inside.ensures
