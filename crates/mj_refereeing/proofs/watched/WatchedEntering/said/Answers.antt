use Rattle.mj_core.proofs.ByEntries.{said-can}
use Rattle.mj_refereeing.proofs.WatchLaws.{few-hearing, hearing-told, of-seat}
use Rattle.mj_refereeing.proofs.watched.WatchedEntering.said.Goals as goal

pub said-answer-requires : goal.said-answer-requires
said-answer-requires c = said-can c.args.self.now.core.game c.args.author c.args.seat c.requires.present c.requires.due

pub invariant_of-self : goal.invariant_of-self
invariant_of-self c = record {
  few = few-hearing c.said-answer.result c.args.author c.args.seat c.args.self.now.core.game _ _ c.said-answer.ensures.hears c.requires.present c.args.self.now.few;
  same = λ e.
      of-seat c.args.self.now.core.seat _ c.said-answer.new.self.game c.tell_verdict-then.new.told.items c.said-answer.ensures.seat
      (hearing-told c.args.self.now.core.seat c.args.self.now.core.game c.said-answer.new.self.game c.args.self.now.told.items c.args.self.now.whole c.args.self.now.few c.args.self.now.same
      c.said-answer.result c.args.author c.args.seat _ c.tell_last-first.new.told.items c.tell_verdict-then.new.told.items c.tell_last-first.result
      c.tell_verdict-then.result c.is_told-before.result c.is_told-self.result
      c.said-answer.ensures.hears c.requires.present c.tell_last-first.ensures (rw c.seat-watched.ensures at c.tell_verdict-then.ensures) c.is_told-before.ensures c.is_told-self.ensures e);
}
