use Rattle.std.proofs.Common.{sym, subst}
use Rattle.mj_suits.specs.Tables.{IsLeast}
use Rattle.mj_shanten.specs.Shanten.{IsGoal}
use Rattle.mj_shanten.proofs.BestDiscard.{best_of_all, others_answer}
use Rattle.mj_memory.proofs.ways.Ways.best_discard_of.Goals as goal

pub returns-in-Some : goal.returns-in-Some
returns-in-Some c =
    best_of_all c.args.self.now.counts c.args.self.now.room c.args.melds c.args.kinds c.from-least.result c.in-Some.kind c.requires.size
    (subst (λ n. IsLeast c.args.self.now.counts (IsGoal c.args.self.now.room c.args.melds) n) (sym c.from-least.ensures) c.requires.missing)
    c.in-Some.ensures.0 c.in-Some.ensures.1 c.in-Some.ensures.2

pub returns-in-None : goal.returns-in-None
returns-in-None c =
    others_answer c.args.self.now.counts c.args.self.now.room c.args.melds c.args.kinds c.from-least.result c.last_within-in-None.result c.requires.size
    (subst (λ n. IsLeast c.args.self.now.counts (IsGoal c.args.self.now.room c.args.melds) n) (sym c.from-least.ensures) c.requires.missing)
    c.in-None.ensures c.last_within-in-None.ensures
