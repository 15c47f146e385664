use Rattle.std.proofs.Common.{sym, subst}
use Rattle.std.proofs.lemmas.Result.{IfOk-weaker, IfErr-weaker}
use Rattle.mj_ticker.specs.Beside.{Matches}
use Rattle.mj_seats.specs.Tables.{ComesBack}
use Rattle.mj_seats.specs.Inner.Opened.{IsOpened}
use Rattle.mj_ticker.proofs.Besides.{matches_more, popped}
use Rattle.mj_seats.proofs.Opening.{passes_of_all, back_one}
use Rattle.mj_seats.proofs.open.+open_all.Goals as goal

pub open_one-requires-clause-made : goal.open_one-requires-clause-made
open_one-requires-clause-made g t c κs within = passes_of_all c.args.passes c.pop.new.self.items c.in-Ok.opened.turns.items c.in-Ok.ensures.turns

pub returns-in-Ok-clause-turns : goal.returns-in-Ok-clause-turns
returns-in-Ok-clause-turns g t c =
    IfOk-weaker c.open_one.result _ _ (λ x h. matches_more (IsOpened c.args.passes) c.pop.new.self.items c.args.tables.now.items c.in-Ok.opened.turns.items x.turns.items c.in-Some.table h.0
    (popped c.args.tables.now.items c.pop.new.self.items c.pop.result c.in-Some.table c.pop.ensures.items c.in-Some.is) h.1 c.in-Ok.ensures.turns h.2) c.open_one.ensures.turns

pub returns-in-Ok-clause-err : goal.returns-in-Ok-clause-err
returns-in-Ok-clause-err g t c =
    IfErr-weaker c.open_one.result _ _ (λ e h. subst (λ l. Matches (ComesBack g.T.Seated) l c.open_one.new.tables.items)
    (sym (popped c.args.tables.now.items c.pop.new.self.items c.pop.result c.in-Some.table c.pop.ensures.items c.in-Some.is))
    (h c.pop.new.self.items c.in-Ok.ensures.turns)) c.open_one.ensures.err

pub returns-in-Err-clause-err : goal.returns-in-Err-clause-err
returns-in-Err-clause-err g t c =
    matches_more (ComesBack g.T.Seated) c.pop.new.self.items c.args.tables.now.items c.open_all.new.tables.items c.push_reserved.new.self.items c.in-Some.table c.in-Some.table
    (popped c.args.tables.now.items c.pop.new.self.items c.pop.result c.in-Some.table c.pop.ensures.items c.in-Some.is) c.push_reserved.ensures.items c.in-Err.ensures.err
    (back_one g.T.Seated c.in-Some.table)
