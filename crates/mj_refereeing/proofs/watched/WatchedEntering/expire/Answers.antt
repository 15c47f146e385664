use Rattle.mj_core.proofs.ByEntries.{expire-enters}
use Rattle.mj_refereeing.proofs.WatchLaws.{few-expiry, expiry-told, of-seat}
use Rattle.mj_refereeing.proofs.watched.WatchedEntering.expire.Goals as goal

pub invariant_of-self : goal.invariant_of-self
invariant_of-self c = record {
  few = few-expiry c.expire.result c.args.author c.args.window c.args.t1 c.args.t2 c.args.self.now.core.game _ c.expire.ensures.expires c.args.self.now.few;
  same = λ e.
      of-seat c.args.self.now.core.seat _ c.expire.new.self.game c.args.self.now.told.items c.expire.ensures.seat
      (expiry-told c.args.self.now.core.seat c.args.self.now.core.game c.expire.new.self.game c.args.self.now.told.items c.args.self.now.whole c.args.self.now.few c.args.self.now.same
      c.expire.result c.args.author c.args.window c.args.t1 c.args.t2 c.expire.ensures.expires e);
}

pub returns-clause-entries : goal.returns-clause-entries
returns-clause-entries c = expire-enters c.expire.result c.args.self.now.core.game _ c.args.author c.args.window c.args.t1 c.args.t2 c.expire.ensures.expires
