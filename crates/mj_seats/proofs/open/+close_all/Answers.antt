use Rattle.mj_seats.specs.Inner.Opened.{IsFullRow, IsClosed}
use Rattle.mj_ticker.proofs.Besides.{matches_popped, beside_more, map_snoc, popped}
use Rattle.mj_seats.proofs.open.+close_all.Goals as goal

pub close_all-requires-clause-rows : goal.close_all-requires-clause-rows
close_all-requires-clause-rows g t c κs within =
    (matches_popped (IsFullRow g.T.Noted.setting) c.pop.new.self.items c.args.turns.items _ _ c.in-Some.turn c.unwrap-row.result.items
    (popped _ _ _ _ c.pop.ensures.items c.in-Some.is)
    (map_snoc (λ v. v.items) c.args.rows.items c.pop-2.new.self.items c.unwrap-row.result (popped _ _ _ _ c.pop-2.ensures.items c.unwrap-row.ensures)) c.requires.rows).0

pub close-requires-clause-all : goal.close-requires-clause-all
close-requires-clause-all g t c κs within =
    (matches_popped (IsFullRow g.T.Noted.setting) c.pop.new.self.items c.args.turns.items _ _ c.in-Some.turn c.unwrap-row.result.items
    (popped _ _ _ _ c.pop.ensures.items c.in-Some.is)
    (map_snoc (λ v. v.items) c.args.rows.items c.pop-2.new.self.items c.unwrap-row.result (popped _ _ _ _ c.pop-2.ensures.items c.unwrap-row.ensures)) c.requires.rows).1.all

pub close-requires-clause-idle : goal.close-requires-clause-idle
close-requires-clause-idle g t c κs within =
    (matches_popped (IsFullRow g.T.Noted.setting) c.pop.new.self.items c.args.turns.items _ _ c.in-Some.turn c.unwrap-row.result.items
    (popped _ _ _ _ c.pop.ensures.items c.in-Some.is)
    (map_snoc (λ v. v.items) c.args.rows.items c.pop-2.new.self.items c.unwrap-row.result (popped _ _ _ _ c.pop-2.ensures.items c.unwrap-row.ensures)) c.requires.rows).1.idle

pub returns-clause-closed : goal.returns-clause-closed
returns-clause-closed g t c =
    let one : IsClosed g.T.Seated g.T.Noted.setting c.in-Some.turn c.unwrap-row.result.items c.close.result =
    record { setting_is = c.close.ensures.setting; legal = c.close.ensures.legal; seen = c.close.ensures.seen; below = c.close.ensures.below } in
    beside_more (λ t turn row table. IsClosed g.T.Seated g.T.Noted.setting turn row table) _ _ _ _ _ _ c.in-Some.turn c.unwrap-row.result.items c.close.result
    (popped _ _ _ _ c.pop.ensures.items c.in-Some.is)
    (map_snoc (λ v. v.items) c.args.rows.items c.pop-2.new.self.items c.unwrap-row.result (popped _ _ _ _ c.pop-2.ensures.items c.unwrap-row.ensures))
    c.push_reserved.ensures.items c.close_all.ensures.closed one
