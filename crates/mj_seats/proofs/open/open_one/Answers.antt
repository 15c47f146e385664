use Rattle.std.proofs.Common.{◌++◌, ◌∷◌, [], refl, sym, subst}
use Rattle.mj_seats.specs.Tables.{ComesBack}
use Rattle.mj_workers.specs.Columns.{items_of}
use Rattle.mj_workers.specs.Staffs.{IsNewRow}
use Rattle.mj_ticker.proofs.Besides.{matches_more, map_snoc}
use Rattle.mj_seats.proofs.Opening.{new_row, full_all, back_one, back_new}
use Rattle.mj_seats.proofs.open.open_one.Goals as goal

pub close_all-requires-clause-rows : goal.close_all-requires-clause-rows
close_all-requires-clause-rows g c κs within =
    full_all g.T.Noted.setting g.T.Seated.history c.args.passes c.args.opened.turns.items (items_of c.args.opened.rows.items) c.requires.made c.requires.rows

pub returns-in-Ok-clause-rows : goal.returns-in-Ok-clause-rows
returns-in-Ok-clause-rows g c =
    let table = g.met.T.SharedGame g.world.𝓛 g.world.𝓜 g.world.𝓡 ((λ s x. x), (λ x. x), (λ x. x), λ x. x) in
    matches_more (IsNewRow g.T.Noted.setting g.T.Seated.history c.args.passes) c.args.opened.turns.items c.push_reserved.new.self.items
    (items_of c.args.opened.rows.items) (items_of c.push_reserved-in-Ok.new.self.items) c.in-Ok.turn c.in-Ok.row.items c.push_reserved.ensures.items
    (map_snoc (λ v. v.items) c.push_reserved-in-Ok.new.self.items c.args.opened.rows.items c.in-Ok.row c.push_reserved-in-Ok.ensures.items) c.requires.rows
    (new_row g.T.Noted.setting g.T.Seated.history c.args.passes c.args.table g.T.Noted.notes c.in-Ok.turn c.in-Ok.row.items c.in-Ok.ensures.turn.0
    (table.same_notes c.args.table) c.in-Ok.ensures.passes)

pub returns-in-Err-clause-err : goal.returns-in-Err-clause-err
returns-in-Err-clause-err g c before opened =
    let table = g.met.T.SharedGame g.world.𝓛 g.world.𝓜 g.world.𝓡 ((λ s x. x), (λ x. x), (λ x. x), λ x. x) in
    matches_more (ComesBack g.T.Seated) before (before ++ c.args.table ∷ []) c.close_all.new.tables.items c.push_reserved-in-Err.new.self.items c.args.table c.in-Err.table
    refl c.push_reserved-in-Err.ensures.items
    (back_new g.T.Seated g.T.Noted.setting table.same_setting c.args.passes c.close_all.new.tables.items before c.args.opened.turns.items (items_of c.args.opened.rows.items)
    c.requires.passes.0 opened c.requires.rows c.close_all.ensures.closed)
    (subst (λ x. ComesBack g.T.Seated c.args.table x) (sym c.in-Err.ensures.err) (back_one g.T.Seated c.args.table))
