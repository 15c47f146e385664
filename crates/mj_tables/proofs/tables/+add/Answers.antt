use Rattle.std.proofs.Common.{◌<◌, sym, subst}
use Rattle.std.specs.Prelude.{All}
use Rattle.std.proofs.lemmas.List.Elements.{All-push}
use Rattle.mj_ticker.proofs.Besides.{popped}
use Rattle.mj_tables.proofs.Sitting.{sessions_last}
use Rattle.mj_tables.proofs.tables.+add.Goals as goal

pub returns-clause-each : goal.returns-clause-each
returns-clause-each g t c k =
    sessions_last k c.args.table c.args.all.now.items c.add.new.all.items c.push.new.self.items c.pop.new.self.items c.in-Some.session c.args.sessions.items
    (popped c.args.sessions.items c.pop.new.self.items c.pop.result c.in-Some.session c.pop.ensures.items c.in-Some.is) c.in_ok-push.ensures.items (c.in_ok-add.ensures.each k)

pub returns-clause-rooms : goal.returns-clause-rooms
returns-clause-rooms g t c n near before =
    subst (λ l. All (λ s. s.table < n) l) (sym c.in_ok-push.ensures.items)
    (All-push (λ s. s.table < n) c.add.new.all.items (record { table = c.args.table; session = c.in-Some.session }) (c.in_ok-add.ensures.rooms n near before) near)
