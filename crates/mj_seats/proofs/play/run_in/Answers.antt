use Rattle.std.proofs.Common.{◌≡◌, ◌+◌, ◌≤◌, ◌∙◌, length, refl, sym, subst, vec_capacity}
use Rattle.std.specs.Prelude.{All}
use Rattle.mj_session.specs.Wires.{at_link}
use Rattle.mj_handlers.specs.Handlers.{rows}
use Rattle.mj_seats.specs.Tables.{AllEndWith, IsOver}
use Rattle.mj_handlers.specs.Picks.{IsBelow}
use Rattle.mj_workers.specs.Columns.{items_of}
use Rattle.mj_seats.specs.Inner.Joined.{AreJoined}
use Rattle.mj_workers.specs.Staffs.{IsReady, sessions_of}
use Rattle.mj_seats.proofs.Gaming.{ok_both}
use Rattle.mj_seats.proofs.Leaving.{back_ended, played_all, ends_are}
use Rattle.mj_seats.proofs.Opening.{passes_of_all, back_itself, passes_some, passes_few, room_back}
use Rattle.mj_workers.proofs.Rows.{some_new}
use Rattle.mj_workers.proofs.Staffing.{taken_last, rows_room, desk_new, done_columns, kept_long}
use Rattle.mj_seats.proofs.play.run_in.Goals as goal

pub open_all-requires-clause-passes : goal.open_all-requires-clause-passes
open_all-requires-clause-passes g c κs within = (passes_some c.args.handlers, passes_few c.args.handlers c.requires.few)

pub open_all-requires-clause-room : goal.open_all-requires-clause-room
open_all-requires-clause-room g c κs within =
    let opened = c.in_ok-reserved.reserved.opened in
    subst (λ n. (n ≤ vec_capacity opened.turns) × (n ≤ vec_capacity opened.rows)) c.len-number.ensures c.in_ok-reserved.ensures.turns

pub take_column-passes-requires-clause-room : goal.take_column-passes-requires-clause-room
take_column-passes-requires-clause-room g c =
    let opened = c.in_ok-opened.opened in
    let number : c.len-number.result ≡ length opened.turns.items = c.len-number.ensures ∙ (c.args.tables.now.ok.0 ∙ sym c.in_ok-opened.ensures.turns.many) in
    rows_room c.len-number.result opened.rows c.in_ok-reserved.reserved.desk.passes (c.in_ok-opened.ensures.rows.many ∙ sym number) c.in_ok-reserved.ensures.desk.1

pub take_column-passes-requires-clause-some : goal.take_column-passes-requires-clause-some
take_column-passes-requires-clause-some g c =
    let opened = c.in_ok-opened.opened in
    some_new g.T.Noted.setting g.T.Seated.history (c.args.handlers + 1) opened.turns.items opened.rows.items c.in_ok-opened.ensures.rows
    (passes_some c.args.handlers)

pub run_turns-kept-requires-clause-picks : goal.run_turns-kept-requires-clause-picks
run_turns-kept-requires-clause-picks g c κs within = λ line.
    subst (λ n. IsBelow n (g.P.Picker.picks c.args.picker.now line)) (sym c.in_ok-opened.ensures.turns.many) (c.requires.picks line)

pub run_turns-kept-requires-clause-rows : goal.run_turns-kept-requires-clause-rows
run_turns-kept-requires-clause-rows g c κs within =
    let opened = c.in_ok-opened.opened in
    let turns = opened.turns.items in
    let taken = taken_last g.T.Noted.setting g.T.Seated.history turns c.args.handlers (c.args.handlers + 1) (items_of opened.rows.items) (items_of c.take_column-passes.new.rows.items)
    c.take_column-passes.result.items refl c.take_column-passes.ensures.taken c.in_ok-opened.ensures.rows in
    taken.0

pub run_turns-kept-requires-clause-hands : goal.run_turns-kept-requires-clause-hands
run_turns-kept-requires-clause-hands g c κs within =
    let opened = c.in_ok-opened.opened in
    let turns = opened.turns.items in
    let number : c.len-number.result ≡ length turns = c.len-number.ensures ∙ (c.args.tables.now.ok.0 ∙ sym c.in_ok-opened.ensures.turns.many) in
    let hands = c.in_ok-reserved.ensures.hands in
    (hands.0, subst (λ n. All (IsReady n) c.in_ok-reserved.reserved.hands.items) number hands.1)

pub run_turns-kept-requires-clause-desk : goal.run_turns-kept-requires-clause-desk
run_turns-kept-requires-clause-desk g c κs within =
    let opened = c.in_ok-opened.opened in
    let turns = opened.turns.items in
    let number : c.len-number.result ≡ length turns = c.len-number.ensures ∙ (c.args.tables.now.ok.0 ∙ sym c.in_ok-opened.ensures.turns.many) in
    let taken = taken_last g.T.Noted.setting g.T.Seated.history turns c.args.handlers (c.args.handlers + 1) (items_of opened.rows.items) (items_of c.take_column-passes.new.rows.items)
    c.take_column-passes.result.items refl c.take_column-passes.ensures.taken c.in_ok-opened.ensures.rows in
    let desk = c.in_ok-reserved.ensures.desk in
    desk_new g.T.Seated g.T.SharedGame.lost c.args.handlers g.T.Noted.setting turns c.args.handlers (g.C.Clock.readings c.args.clock.now) c.take_column-passes.result.items
    c.in_ok-reserved.reserved.desk.sights.items taken.1 (desk.2 ∙ number) desk.3

pub run_turns-kept-requires-clause-room : goal.run_turns-kept-requires-clause-room
run_turns-kept-requires-clause-room g c κs within =
    let opened = c.in_ok-opened.opened in
    let turns = opened.turns.items in
    let number : c.len-number.result ≡ length turns = c.len-number.ensures ∙ (c.args.tables.now.ok.0 ∙ sym c.in_ok-opened.ensures.turns.many) in
    (c.in_ok-reserved.ensures.rows.0 ∙ number, c.in_ok-reserved.ensures.rows.1)

pub run_turns-kept-requires-clause-passes : goal.run_turns-kept-requires-clause-passes
run_turns-kept-requires-clause-passes g c κs within = passes_of_all (c.args.handlers + 1) c.args.tables.now.items c.in_ok-opened.opened.turns.items c.in_ok-opened.ensures.turns

pub run_turns-kept-requires-clause-tables : goal.run_turns-kept-requires-clause-tables
run_turns-kept-requires-clause-tables g c κs within =
    let opened = c.in_ok-opened.opened in (
      c.in_ok-opened.ensures.ok,
      room_back opened.turns c.args.tables.now c.open_all.new.tables c.in_ok-opened.ensures.turns.many c.open_all.ensures.tables,
    )

pub gather-requires : goal.gather-requires
gather-requires g c =
    let at = at_link g.H.Link.Link.was_read g.H.Link.Source.left g.H.Link.Sink.written g.H.Link.Source.read_faults g.H.Link.Sink.write_faults in
    let picks = g.P.Picker.picks c.args.picker.now in
    let made = g.H.Host.made_by c.args.host.now in
    let opened = c.in_ok-opened.opened in
    let turns = opened.turns.items in
    let number : c.len-number.result ≡ length turns = c.len-number.ensures ∙ (c.args.tables.now.ok.0 ∙ sym c.in_ok-opened.ensures.turns.many) in
    let kept = sessions_of c.run_turns-kept.result.0.items in
    let ends = c.run_turns-kept.result.1.items in
    let h = c.run_turns-kept.ensures in
    kept_long (length turns) c.len-number.result c.run_turns-kept.result.0.items number
    (done_columns g.T.Seated g.T.Noted.setting at picks made g.T.Fault.Numbered.number turns c.args.handlers h.columns kept ends h.done).1

pub returns-in_err-reserved-clause-tables : goal.returns-in_err-reserved-clause-tables
returns-in_err-reserved-clause-tables g c = back_itself g.T.Seated c.args.tables.now.items

pub returns-clause-tables : goal.returns-clause-tables
returns-clause-tables g c =
    let at = at_link g.H.Link.Link.was_read g.H.Link.Source.left g.H.Link.Sink.written g.H.Link.Source.read_faults g.H.Link.Sink.write_faults in
    let picks = g.P.Picker.picks c.args.picker.now in
    let made = g.H.Host.made_by c.args.host.now in
    let opened = c.in_ok-opened.opened in
    let turns = opened.turns.items in
    let table = g.met.T.SharedGame g.world.𝓛 g.world.𝓜 g.world.𝓡 ((λ s x. x), (λ x. x), (λ x. x), λ x. x) in
    let r0 = g.C.Clock.readings c.args.clock.now in
    let r1 = g.C.Clock.readings c.run_turns-kept.new.clock in
    let kept = sessions_of c.run_turns-kept.result.0.items in
    let ends = c.run_turns-kept.result.1.items in
    back_ended g.T.Seated g.T.SharedGame.lost g.T.Noted.setting at picks made g.T.Fault.Numbered.number c.args.handlers turns r0 r1 c.args.tables.now.items c.run_turns-kept.new.tables.items
    kept ends c.run_turns-kept.ensures c.in_ok-opened.ensures.turns table.same_setting

pub returns-clause-played : goal.returns-clause-played
returns-clause-played g c =
    let at = at_link g.H.Link.Link.was_read g.H.Link.Source.left g.H.Link.Sink.written g.H.Link.Source.read_faults g.H.Link.Sink.write_faults in
    let picks = g.P.Picker.picks c.args.picker.now in
    let made = g.H.Host.made_by c.args.host.now in
    let opened = c.in_ok-opened.opened in
    let turns = opened.turns.items in
    let number : c.len-number.result ≡ length turns = c.len-number.ensures ∙ (c.args.tables.now.ok.0 ∙ sym c.in_ok-opened.ensures.turns.many) in
    let table = g.met.T.SharedGame g.world.𝓛 g.world.𝓜 g.world.𝓡 ((λ s x. x), (λ x. x), (λ x. x), λ x. x) in
    let laws = g.met.T.Seated g.world.𝓛 g.world.𝓜 g.world.𝓡 ((λ s x. x), (λ x. x), (λ x. x), λ x. x) in
    let r0 = g.C.Clock.readings c.args.clock.now in
    let r1 = g.C.Clock.readings c.run_turns-kept.new.clock in
    let kept = sessions_of c.run_turns-kept.result.0.items in
    let ends = c.run_turns-kept.result.1.items in
    ok_both c.gather.result _ _ _ (λ p joined memory.
    played_all g.T.Seated g.T.SharedGame.lost g.T.Noted.setting at picks made g.T.Fault.Numbered.number c.args.handlers turns r0 r1 c.args.tables.now.items c.run_turns-kept.new.tables.items
    kept ends c.run_turns-kept.ensures c.in_ok-opened.ensures.turns table.same_setting laws.legal_before laws.stays memory laws.ended laws.others laws.answers laws.leaves (rows p.sessions.items)
    (subst (λ n. AreJoined n kept (rows p.sessions.items)) number joined)) c.gather.ensures.sessions c.gather.ensures.memory

pub returns-clause-ends : goal.returns-clause-ends
returns-clause-ends g c =
    let at = at_link g.H.Link.Link.was_read g.H.Link.Source.left g.H.Link.Sink.written g.H.Link.Source.read_faults g.H.Link.Sink.write_faults in
    let picks = g.P.Picker.picks c.args.picker.now in
    let made = g.H.Host.made_by c.args.host.now in
    let opened = c.in_ok-opened.opened in
    let turns = opened.turns.items in
    let table = g.met.T.SharedGame g.world.𝓛 g.world.𝓜 g.world.𝓡 ((λ s x. x), (λ x. x), (λ x. x), λ x. x) in
    let laws = g.met.T.Seated g.world.𝓛 g.world.𝓜 g.world.𝓡 ((λ s x. x), (λ x. x), (λ x. x), λ x. x) in
    let r0 = g.C.Clock.readings c.args.clock.now in
    let r1 = g.C.Clock.readings c.run_turns-kept.new.clock in
    let kept = sessions_of c.run_turns-kept.result.0.items in
    let ends = c.run_turns-kept.result.1.items in
    ok_both c.gather.result _ _ _ (λ p same memory.
    subst (λ es. AllEndWith (All (IsOver g.T.Seated) c.run_turns-kept.new.tables.items) made g.T.Fault.Numbered.number c.args.handlers es) (sym same)
    (ends_are g.T.Seated g.T.SharedGame.lost g.T.Noted.setting at picks made g.T.Fault.Numbered.number c.args.handlers turns r0 r1 c.args.tables.now.items c.run_turns-kept.new.tables.items
    kept ends c.run_turns-kept.ensures c.in_ok-opened.ensures.turns table.same_setting laws.legal_before laws.stays memory)) c.gather.ensures.ends c.gather.ensures.memory
