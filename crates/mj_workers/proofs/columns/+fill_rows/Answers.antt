use Rattle.std.proofs.Common.{◌≡◌, ◌≤◌, ◌+◌, [], length, sym, subst, vec_len, vec_capacity, rules}
use Rattle.std.proofs.lemmas.List.Elements.{All-pop}
use Rattle.mj_workers.specs.Columns.{AreColumns, AreRows, items_of}
use Rattle.mj_ticker.proofs.Besides.{one_less, map_snoc}
use Rattle.mj_workers.proofs.Columning.{columns_some, columns_less, rows_fill, room_as}
use Rattle.mj_workers.proofs.columns.+fill_rows.Goals as goal

pub take_column-row-requires-clause-some : goal.take_column-row-requires-clause-some
take_column-row-requires-clause-some g t c =
    columns_some (length c.pop.new.self.items) c.args.columns.now.items
    (subst (λ n. AreColumns n (items_of c.args.columns.now.items)) (one_less _ _ _ _ c.pop.ensures.items c.in-Some.is) c.requires.columns)

pub returns-clause-filled : goal.returns-clause-filled
returns-clause-filled g t c =
    let less = one_less c.args.rows.now.items c.pop.new.self.items _ _ c.pop.ensures.items c.in-Some.is in
    let before = subst (λ n. AreColumns n (items_of c.args.columns.now.items)) less c.requires.columns in
    let mids = columns_less (length c.pop.new.self.items) (items_of c.args.columns.now.items) (items_of c.take_column-row.new.rows.items) c.take_column-row.result.items
    c.take_column-row.ensures.taken before in
    subst (λ n. AreRows n (items_of c.args.columns.now.items) (items_of c.push_reserved.new.self.items)) (sym less)
    (subst (λ l. AreRows (length c.pop.new.self.items + 1) (items_of c.args.columns.now.items) l)
    (sym (map_snoc (λ v. v.items) c.push_reserved.new.self.items c.fill_rows.new.rows.items c.take_column-row.result c.push_reserved.ensures.items))
    (rows_fill (length c.pop.new.self.items) (items_of c.args.columns.now.items) (items_of c.take_column-row.new.rows.items) (items_of c.fill_rows.new.rows.items)
    c.take_column-row.result.items c.take_column-row.ensures.taken mids c.fill_rows.ensures.filled))

pub fill_rows-requires : goal.fill_rows-requires
fill_rows-requires g t c κs within =
    let less = one_less c.args.rows.now.items c.pop.new.self.items _ _ c.pop.ensures.items c.in-Some.is in
    let before = subst (λ n. AreColumns n (items_of c.args.columns.now.items)) less c.requires.columns in
    let columns =
    columns_less (length c.pop.new.self.items) (items_of c.args.columns.now.items)
    (items_of c.take_column-row.new.rows.items) c.take_column-row.result.items c.take_column-row.ensures.taken before in
    let rows = room_as c.args.columns.now c.take_column-row.new.rows c.take_column-row.result.items c.pop.new.self.items c.take_column-row.ensures.taken
    (All-pop (λ row. (row.items ≡ []) × (vec_len c.args.columns.now ≤ vec_capacity row)) c.args.rows.now.items c.pop.new.self.items c.pop.result c.pop.ensures.items c.requires.rows).0 in
    (search rules, (search rules, (columns, rows)))
