use Rattle.mj_core.proofs.ByEntries.{sit-enters}
use Rattle.mj_refereeing.proofs.WatchLaws.{below-four, few-sitting, sitting-told, of-seat}
use Rattle.mj_refereeing.proofs.watched.WatchedEntering.sit.Goals as goal

pub tell_sitting-done-requires : goal.tell_sitting-done-requires
tell_sitting-done-requires c = below-four c.sit-answer.result c.args.author c.args.self.now.core.game _ c.args.line.now c.sit-answer.ensures.sits c.args.self.now.few

pub invariant_of-self : goal.invariant_of-self
invariant_of-self c = record {
  few = few-sitting c.sit-answer.result c.args.author c.args.self.now.core.game _ c.args.line.now c.sit-answer.ensures.sits c.args.self.now.few;
  same = λ e.
      sitting-told c.sit-answer.new.self.seat c.args.self.now.core.game c.sit-answer.new.self.game c.args.self.now.told.items c.args.self.now.whole c.args.self.now.few
      (λ w. of-seat c.args.self.now.core.seat _ c.args.self.now.core.game c.args.self.now.told.items c.sit-answer.ensures.seat (c.args.self.now.same w))
      c.sit-answer.result c.args.author c.args.line.now c.tell_sitting-done.new.told.items c.tell_sitting-done.result c.is_told-self.result
      c.sit-answer.ensures.sits c.tell_sitting-done.ensures c.is_told-self.ensures e;
}

pub returns-clause-entries : goal.returns-clause-entries
returns-clause-entries c = sit-enters c.sit-answer.result c.args.self.now.core.game _ c.args.author c.args.line.now c.sit-answer.ensures.sits
