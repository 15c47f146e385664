use Rattle.std.proofs.Common.{◌≡◌, ◌++◌, ◌∷◌, []}
use Rattle.mj_ticker.proofs.Besides.{beside_more, map_snoc, popped}
use Rattle.mj_workers.proofs.columns.+take_column.Goals as goal

pub returns-clause-taken : goal.returns-clause-taken
returns-clause-taken g t c =
    beside_more (λ t row left x. row ≡ left ++ x ∷ []) _ _ _ _ _ _ c.in-Some.row.items c.pop-2.new.self.items c.unwrap.result
    (map_snoc (λ v. v.items) c.args.rows.now.items c.pop.new.self.items c.in-Some.row (popped _ _ _ _ c.pop.ensures.items c.in-Some.is))
    (map_snoc (λ v. v.items) c.push_reserved-2.new.self.items c.take_column-column.new.rows.items c.pop-2.new.self c.push_reserved-2.ensures.items)
    c.push_reserved.ensures.items c.take_column-column.ensures.taken (popped _ _ _ _ c.pop-2.ensures.items c.unwrap.ensures)
