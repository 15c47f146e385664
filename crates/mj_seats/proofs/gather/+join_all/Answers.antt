use Rattle.std.proofs.Common.{◌≡◌, [], rules}
use Rattle.mj_seats.proofs.Joining.{joined_new, joined_more}
use Rattle.mj_ticker.proofs.Besides.{popped}
use Rattle.mj_seats.proofs.gather.+join_all.Goals as goal

pub returns-in-None : goal.returns-in-None
returns-in-None g t c =
    let none : c.args.kept.items ≡ [] = search rules in
    joined_new c.args.tables c.args.kept.items c.empty_lists.result none c.empty_lists.ensures.many c.empty_lists.ensures.empty

pub returns-in_ok-append_each-in-Some : goal.returns-in_ok-append_each-in-Some
returns-in_ok-append_each-in-Some g t c =
    joined_more c.args.tables c.pop.new.self.items c.args.kept.items c.in-Some.own c.in_ok-all-in-Some.all.items c.append_each.new.all.items
    (popped _ _ _ _ c.pop.ensures.items c.in-Some.is) c.in_ok-all-in-Some.ensures c.in_ok-append_each-in-Some.ensures
