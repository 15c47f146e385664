use Rattle.std.proofs.Common.{◌≡◌, ◌++◌}
use Rattle.mj_ticker.proofs.Besides.{beside_more, map_snoc, popped}
use Rattle.mj_seats.proofs.gather.+append_each.Goals as goal

pub returns : goal.returns
returns g t c =
    beside_more (λ k before mine after. after ≡ before ++ mine) _ _ _ _ _ _ c.unwrap-row.result.items c.in-Some.mine.items c.append.new.self.items
    (map_snoc (λ v. v.items) c.args.all.now.items c.pop-2.new.self.items c.unwrap-row.result (popped _ _ _ _ c.pop-2.ensures.items c.unwrap-row.ensures))
    (map_snoc (λ v. v.items) c.args.own.items c.pop.new.self.items c.in-Some.mine (popped _ _ _ _ c.pop.ensures.items c.in-Some.is))
    (map_snoc (λ v. v.items) c.push.new.self.items c.append_each.new.all.items c.append.new.self c.in_ok-push.ensures.items)
    c.in_ok-append_each.ensures c.in_ok-append.ensures.items
