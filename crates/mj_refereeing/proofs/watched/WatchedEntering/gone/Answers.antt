use Rattle.mj_refereeing.proofs.WatchLaws.{few-going, going-told, of-seat}
use Rattle.mj_refereeing.proofs.watched.WatchedEntering.gone.Goals as goal

pub invariant_of-self : goal.invariant_of-self
invariant_of-self c = record {
  few = few-going c.gone-answer.result c.args.author c.args.seat c.args.self.now.core.game _ c.gone-answer.ensures.leaves c.requires.present c.args.self.now.few;
  same = λ e.
      of-seat c.args.self.now.core.seat _ c.gone-answer.new.self.game c.tell_last-first.new.told.items c.gone-answer.ensures.seat
      (going-told c.args.self.now.core.seat c.args.self.now.core.game c.gone-answer.new.self.game c.args.self.now.told.items c.args.self.now.whole c.args.self.now.few c.args.self.now.same
      c.gone-answer.result c.args.author c.args.seat c.tell_last-first.new.told.items c.tell_last-first.result c.is_told-before.result
      c.is_gone-self.result c.gone-answer.ensures.leaves c.requires.present c.tell_last-first.ensures
      c.is_told-before.ensures c.is_gone-self.ensures e);
}
