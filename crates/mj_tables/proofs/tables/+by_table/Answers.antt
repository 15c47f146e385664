use Rattle.std.proofs.Common.{◌≡◌, ◌<◌, length, vec_len, sym, ◌∙◌, subst}
use Rattle.std.specs.Prelude.{All}
use Rattle.std.proofs.lemmas.List.{length-map}
use Rattle.mj_handlers.specs.Handlers.{rows}
use Rattle.mj_ticker.proofs.Besides.{map_snoc, popped}
use Rattle.mj_tables.proofs.Sitting.{table_more}
use Rattle.mj_tables.proofs.tables.+by_table.Goals as goal

pub returns-in_ok-add-in-Some-clause-each : goal.returns-in_ok-add-in-Some-clause-each
returns-in_ok-add-in-Some-clause-each g t c =
    let many : length (rows c.pop.new.self.items) ≡ length c.pop.new.self.items = length-map c.pop.new.self.items (λ v. v.items) in
    let size : vec_len c.pop.new.self ≡ length c.pop.new.self.items = c.pop.new.self.ok.0 in
    table_more (rows c.pop.new.self.items) (rows c.args.tables.items) c.in-Some.sessions.items c.len-table.result c.in_ok-all-in-Some.all.items c.add.new.all.items
    (map_snoc (λ v. v.items) c.args.tables.items c.pop.new.self.items c.in-Some.sessions
    (popped c.args.tables.items c.pop.new.self.items c.pop.result c.in-Some.sessions c.pop.ensures.items c.in-Some.is))
    (c.len-table.ensures ∙ (size ∙ sym many)) c.in_ok-all-in-Some.ensures.each
    (subst (λ n. All (λ s. s.table < n) c.in_ok-all-in-Some.all.items) (sym many) c.in_ok-all-in-Some.ensures.rooms) c.in_ok-add-in-Some.ensures.each
