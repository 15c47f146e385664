use Rattle.std.proofs.Common.{◌≡◌, ◌+◌, ◌∙◌, length, refl, sym, subst, vec_len, vec_capacity}
use Rattle.std.proofs.lemmas.List.{length-map}
use Rattle.mj_session.specs.Wires.{at_link}
use Rattle.mj_workers.specs.Columns.{items_of}
use Rattle.mj_workers.specs.Staffs.{AreNewRows, AllDone, sessions_of}
use Rattle.mj_seats.proofs.Leaving.{full_rows}
use Rattle.mj_seats.proofs.Opening.{no_more, one_after}
use Rattle.mj_workers.proofs.Staffing.{done_count, done_columns, room_less, room_for, columns_more, rows_wide, rows_put}
use Rattle.mj_seats.proofs.play.run_turns.Goals as goal

pub work-back-requires-clause-rows : goal.work-back-requires-clause-rows
work-back-requires-clause-rows g c κs within =
    subst (λ n. AreNewRows g.T.Noted.setting g.T.Seated.history c.args.turns.items n (items_of c.args.staff.rows.items)) (sym c.requires.hands.0) c.requires.rows

pub work-back-requires-clause-back : goal.work-back-requires-clause-back
work-back-requires-clause-back g c κs within =
    let count = c.requires.hands.0 in
    room_less (length c.args.staff.hands.items) (c.args.handlers + 1) c.args.staff.back (no_more _ c.args.handlers count) c.requires.back

pub push_reserved-requires : goal.push_reserved-requires
push_reserved-requires g c =
    let at = at_link g.D.Link.Link.was_read g.D.Link.Source.left g.D.Link.Sink.written g.D.Link.Source.read_faults g.D.Link.Sink.write_faults in
    let picks = g.D.Picker.picks c.args.door.now in
    let made = g.D.Door.made_by c.args.door.now in
    let number = g.T.Fault.Numbered.number in
    let turns = c.args.turns.items in
    let back = c.work-back.result.0 in
    let ks = sessions_of back.kept.items in
    let es = back.ends.items in
    let done = subst (λ n. AllDone g.T.Seated g.T.Noted.setting at picks made number turns n (items_of back.columns.items) ks es) c.requires.hands.0 c.work-back.ensures.done in
    let counts = done_count g.T.Seated g.T.Noted.setting at picks made number turns c.args.handlers (items_of back.columns.items) ks es done in
    let long : length back.columns.items ≡ c.args.handlers = sym (length-map back.columns.items (λ v. v.items)) ∙ counts.0 in
    room_for c.args.handlers (c.args.handlers + 1) back.columns (vec_capacity c.args.staff.back.columns) long refl c.work-back.ensures.room.columns c.requires.back.columns

pub fill_rows-requires-clause-columns : goal.fill_rows-requires-clause-columns
fill_rows-requires-clause-columns g c =
    let at = at_link g.D.Link.Link.was_read g.D.Link.Source.left g.D.Link.Sink.written g.D.Link.Source.read_faults g.D.Link.Sink.write_faults in
    let picks = g.D.Picker.picks c.args.door.now in
    let made = g.D.Door.made_by c.args.door.now in
    let number = g.T.Fault.Numbered.number in
    let turns = c.args.turns.items in
    let back = c.work-back.result.0 in
    let ks = sessions_of back.kept.items in
    let es = back.ends.items in
    let done = subst (λ n. AllDone g.T.Seated g.T.Noted.setting at picks made number turns n (items_of back.columns.items) ks es) c.requires.hands.0 c.work-back.ensures.done in
    let all = done_columns g.T.Seated g.T.Noted.setting at picks made number turns c.args.handlers (items_of back.columns.items) ks es done in
    columns_more (length turns) (length c.args.rows.items) back.columns.items c.push_reserved.new.self.items c.work-back.result.1.passes c.requires.room.0 c.push_reserved.ensures.items
    all.0 c.work-back.ensures.ticks.second

pub fill_rows-requires-clause-rows : goal.fill_rows-requires-clause-rows
fill_rows-requires-clause-rows g c =
    let at = at_link g.D.Link.Link.was_read g.D.Link.Source.left g.D.Link.Sink.written g.D.Link.Source.read_faults g.D.Link.Sink.write_faults in
    let picks = g.D.Picker.picks c.args.door.now in
    let made = g.D.Door.made_by c.args.door.now in
    let number = g.T.Fault.Numbered.number in
    let turns = c.args.turns.items in
    let back = c.work-back.result.0 in
    let ks = sessions_of back.kept.items in
    let es = back.ends.items in
    let done = subst (λ n. AllDone g.T.Seated g.T.Noted.setting at picks made number turns n (items_of back.columns.items) ks es) c.requires.hands.0 c.work-back.ensures.done in
    let counts = done_count g.T.Seated g.T.Noted.setting at picks made number turns c.args.handlers (items_of back.columns.items) ks es done in
    let long : length back.columns.items ≡ c.args.handlers = sym (length-map back.columns.items (λ v. v.items)) ∙ counts.0 in
    let len = one_after c.args.handlers back.columns c.push_reserved.new.self long c.push_reserved.ensures.len in
    rows_wide (c.args.handlers + 1) (vec_len c.push_reserved.new.self) c.args.rows.items len c.requires.room.1

pub close_all-requires-clause-rows : goal.close_all-requires-clause-rows
close_all-requires-clause-rows g c κs within =
    let at = at_link g.D.Link.Link.was_read g.D.Link.Source.left g.D.Link.Sink.written g.D.Link.Source.read_faults g.D.Link.Sink.write_faults in
    let picks = g.D.Picker.picks c.args.door.now in
    let made = g.D.Door.made_by c.args.door.now in
    let number = g.T.Fault.Numbered.number in
    let turns = c.args.turns.items in
    let back = c.work-back.result.0 in
    let ks = sessions_of back.kept.items in
    let es = back.ends.items in
    let done = subst (λ n. AllDone g.T.Seated g.T.Noted.setting at picks made number turns n (items_of back.columns.items) ks es) c.requires.hands.0 c.work-back.ensures.done in
    let are = rows_put (length c.args.rows.items) (length turns) back.columns.items c.push_reserved.new.self.items c.work-back.result.1.passes (items_of c.fill_rows.new.rows.items)
    c.requires.room.0 c.push_reserved.ensures.items c.fill_rows.ensures.filled in
    full_rows g.T.Seated g.T.Noted.setting at picks made number turns g.T.SharedGame.lost c.args.handlers c.args.handlers (items_of back.columns.items) ks es
    (λ t. g.T.Seated.history t.opening) (g.C.Clock.readings c.args.clock.now) (g.C.Clock.readings c.work-back.new.clock) c.work-back.result.1.passes.items c.work-back.result.1.sights.items
    (items_of c.fill_rows.new.rows.items) done c.work-back.ensures.ticks are c.requires.passes

pub returns : goal.returns
returns g c =
    let at = at_link g.D.Link.Link.was_read g.D.Link.Source.left g.D.Link.Sink.written g.D.Link.Source.read_faults g.D.Link.Sink.write_faults in
    let picks = g.D.Picker.picks c.args.door.now in
    let made = g.D.Door.made_by c.args.door.now in
    let number = g.T.Fault.Numbered.number in
    let turns = c.args.turns.items in
    let back = c.work-back.result.0 in
    let ks = sessions_of back.kept.items in
    let es = back.ends.items in
    let done = subst (λ n. AllDone g.T.Seated g.T.Noted.setting at picks made number turns n (items_of back.columns.items) ks es) c.requires.hands.0 c.work-back.ensures.done in
    let are = rows_put (length c.args.rows.items) (length turns) back.columns.items c.push_reserved.new.self.items c.work-back.result.1.passes (items_of c.fill_rows.new.rows.items)
    c.requires.room.0 c.push_reserved.ensures.items c.fill_rows.ensures.filled in
    record {
      columns = items_of back.columns.items;
      passes = c.work-back.result.1.passes.items;
      sights = c.work-back.result.1.sights.items;
      rows = items_of c.fill_rows.new.rows.items;
      done = done;
      watched = c.work-back.ensures.ticks;
      are = are;
      closed = c.close_all.ensures.closed;
    }
