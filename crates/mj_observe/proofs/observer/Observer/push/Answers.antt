use Rattle.std.proofs.Common.{arith}
use Rattle.mj_observe.proofs.Keeping.{count_small}
use Rattle.mj_observe.proofs.observer.Observer.push.Goals as goal

pub keep-requires-clause-count : goal.keep-requires-clause-count
keep-requires-clause-count c =
    let few = count_small _ _ _ c.self.invariant in
    let long = c.self.inside.kept.ok in
    let small = c.self.inside.kept.small in
    omega (arith, few, long, small)

pub invariant_of-self-2 : goal.invariant_of-self-2
invariant_of-self-2 c = rw c.and.ensures (c.in_ok-count.ensures.kept c.self.inside.past.items c.self.invariant)

pub returns-clause-told : goal.returns-clause-told
returns-clause-told c = rw (← c.self.view_is) (c.in_ok-count.ensures.told c.self.inside.past.items c.self.invariant)
