use Rattle.std.proofs.Common.{arith, ◌-◌, subst, sym}
use Rattle.mj_shanten.specs.Shanten.{IsShanten}
use Rattle.mj_shanten.proofs.Goal.{answer_says, never_none}
use Rattle.mj_shanten.proofs.Least.{least_exchanges}
use Rattle.mj_shanten.proofs.nearest_hand.nearest_of.Goals as goal

pub overflow_sub-result : goal.overflow_sub-result
overflow_sub-result c = (answer_says _ _ _ _ c.in-Some.answer _ _ c.requires c.held.ensures.size c.held.ensures.room_size c.held.ensures.held c.take_sets.ensures c.take_special.ensures
    c.in-Some.is).some

pub overflow_cast-result : goal.overflow_cast-result
overflow_cast-result c = (let s = answer_says _ _ _ _ c.in-Some.answer _ _ c.requires c.held.ensures.size c.held.ensures.room_size c.held.ensures.held c.take_sets.ensures
    c.take_special.ensures c.in-Some.is in let f = s.few in omega arith)

pub counts_among-requires : goal.counts_among-requires
counts_among-requires c = (answer_says _ _ _ _ c.in-Some.answer _ _ c.requires c.held.ensures.size c.held.ensures.room_size c.held.ensures.held c.take_sets.ensures
    c.take_special.ensures c.in-Some.is).are_counts

pub unreachable-requires : goal.unreachable-requires
unreachable-requires c = never_none _ _ _ _ _ _ c.requires c.held.ensures.room_size c.held.ensures.held c.take_sets.ensures c.take_special.ensures c.in-None.is

pub returns : goal.returns
returns c = record {
  nearest = nearest;
  exchanges = least_exchanges c.args.hand.now.counts c.args.hand.now.room _ c.args.melds (c.in-Some.answer.0 - 1) c.held.ensures.size c.requires nearest;
}
  where
    nearest : IsShanten c.args.hand.now.counts c.args.hand.now.room c.args.melds (c.in-Some.answer.0 - 1) c.counts_among.result
    nearest = (let s = answer_says _ _ _ _ c.in-Some.answer _ _ c.requires c.held.ensures.size c.held.ensures.room_size c.held.ensures.held c.take_sets.ensures c.take_special.ensures
        c.in-Some.is in subst (λ t. IsShanten c.args.hand.now.counts c.args.hand.now.room c.args.melds (c.in-Some.answer.0 - 1) t) (sym c.counts_among.ensures) s.shanten)
