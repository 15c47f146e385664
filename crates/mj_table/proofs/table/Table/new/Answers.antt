use Rattle.std.proofs.Common.{refl}
use Rattle.mj_table.proofs.Readers.{stands_at_first, stands_for}
use Rattle.mj_table.specs.Inner.Latest.{newest_of, previous_of}
use Rattle.mj_table.proofs.table.Table.new.Goals as goal

pub invariant_of-result : goal.invariant_of-result
invariant_of-result c =
    stands_for c.args.rules _ c.new.result.items _ (newest_of c.none.result) _ (previous_of c.none.result) _ c.first.result _ _ _ 0 c.nothing_held.result c.no_facts.result
    (stands_at_first c.args.rules c.new.result.items _ c.no_facts.result c.new.ensures c.nothing_held.ensures c.no_facts.ensures) refl
    c.none.ensures.newest c.none.ensures.previous c.first.ensures refl refl
