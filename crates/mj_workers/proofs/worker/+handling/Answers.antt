use Rattle.std.proofs.Common.{◌≡◌, ◌+◌, ◌∙◌, length, map, sym, ap, subst, rules}
use Rattle.std.specs.Prelude.{vec_capacity}
use Rattle.std.proofs.lemmas.List.{length-map}
use Rattle.mj_session.specs.Wires.{at_link}
use Rattle.mj_handlers.specs.Handlers.{rows}
use Rattle.mj_workers.specs.Columns.{items_of}
use Rattle.mj_workers.specs.Staffs.{AreNewPasses, sessions_of}
use Rattle.mj_ticker.proofs.Besides.{one_less, popped, map_snoc}
use Rattle.mj_workers.proofs.Rows.{some_new}
use Rattle.mj_workers.proofs.Staffing.{some_were, fewer_left, few_left, falls_by, none_popped, rows_room, taken_last, done_none}
use Rattle.mj_workers.proofs.Staffing.{done_more, done_count, last_ready, room_less, room_for, room_then, room_same}
use Rattle.mj_workers.proofs.Told.{eight_and, each_and, same_and}
use Rattle.mj_workers.proofs.worker.+handling.Goals as goal

-- what the function was told of its type parameters holds in the thread too
pub fn::handle_all::join+arg2+FnOnce::call_once-join+arg2-requires :
    goal.fn::handle_all::join+arg2+FnOnce::call_once-join+arg2-requires
fn::handle_all::join+arg2+FnOnce::call_once-join+arg2-requires g t c κs within =
    let h = c.requires.1.1.1.1.1.1.1.1 in
    (c.decreases, eight_and within (each_and h.1 h.0))

pub returns-in_default-clause-done : goal.returns-in_default-clause-done
returns-in_default-clause-done g t c =
    let at = at_link g.D.Link.Link.was_read g.D.Link.Source.left g.D.Link.Sink.written g.D.Link.Source.read_faults g.D.Link.Sink.write_faults in
    let picks = g.D.Picker.picks c.args.door.now in
    let made = g.D.Door.made_by c.args.door.now in
    let b = c.args.staff.back in
    let none = none_popped c.args.staff.hands c.pop.result c.pop.ensures.variant c.in_default.not-Some in
    done_none g.T.Seated g.T.Noted.setting at picks made g.T.Fault.Numbered.number c.args.turns.now.items (length c.args.staff.hands.items) (items_of b.columns.items) (sessions_of b.kept.items)
    b.ends.items none (ap (map (λ v. v.items)) {x = b.columns.items} c.requires.back.no_columns) (ap (map (λ k. rows k.items)) {x = b.kept.items} c.requires.back.no_kept) c.requires.back.no_ends

pub returns-in_default-clause-room : goal.returns-in_default-clause-room
returns-in_default-clause-room g t c = room_same c.args.staff.back

pub take_column-passes-requires-clause-empty : goal.take_column-passes-requires-clause-empty
take_column-passes-requires-clause-empty g t c =
    let last = popped c.args.staff.hands.items c.pop.new.self.items c.pop.result c.in-Some.hand c.pop.ensures.items c.in-Some.is in
    (last_ready (length c.args.turns.now.items) c.args.staff.hands.items c.pop.new.self.items c.in-Some.hand last c.requires.hands).1.none

pub take_column-passes-requires-clause-room : goal.take_column-passes-requires-clause-room
take_column-passes-requires-clause-room g t c =
    let last = popped c.args.staff.hands.items c.pop.new.self.items c.pop.result c.in-Some.hand c.pop.ensures.items c.in-Some.is in
    let ready = (last_ready (length c.args.turns.now.items) c.args.staff.hands.items c.pop.new.self.items c.in-Some.hand last c.requires.hands).1 in
    rows_room (length c.args.turns.now.items) c.args.staff.rows c.in-Some.hand.passes c.requires.rows.many ready.room

pub take_column-passes-requires-clause-some : goal.take_column-passes-requires-clause-some
take_column-passes-requires-clause-some g t c =
    let less = one_less c.args.staff.hands.items c.pop.new.self.items c.pop.result c.in-Some.hand c.pop.ensures.items c.in-Some.is in
    some_new g.T.Noted.setting g.T.Seated.history (length c.args.staff.hands.items) c.args.turns.now.items c.args.staff.rows.items c.requires.rows
    (some_were (length c.pop.new.self.items) (length c.args.staff.hands.items) less)

pub join-back-requires-after_bounds : goal.join-back-requires-after_bounds
join-back-requires-after_bounds g t c κs within =
    let less : length c.args.staff.hands.items ≡ length c.pop.new.self.items + 1 =
    one_less c.args.staff.hands.items c.pop.new.self.items c.pop.result c.in-Some.hand c.pop.ensures.items c.in-Some.is in
    let new = taken_last g.T.Noted.setting g.T.Seated.history c.args.turns.now.items (length c.pop.new.self.items) (length c.args.staff.hands.items) (items_of c.args.staff.rows.items)
    (items_of c.take_column-passes.new.rows.items) c.take_column-passes.result.items less
    c.take_column-passes.ensures.taken c.requires.rows in
    let last = popped c.args.staff.hands.items c.pop.new.self.items c.pop.result c.in-Some.hand c.pop.ensures.items c.in-Some.is in
    let ready = last_ready (length c.args.turns.now.items) c.args.staff.hands.items c.pop.new.self.items c.in-Some.hand last c.requires.hands in
    let number : c.len-number.result ≡ length c.pop.new.self.items = c.len-number.ensures ∙ c.pop.new.self.ok.0 in
    let few = few_left (length c.pop.new.self.items) (length c.args.staff.hands.items) less c.requires.few in
    let fewer = fewer_left (length c.pop.new.self.items) (length c.args.staff.hands.items) less in
    let room = room_less (length c.pop.new.self.items) (length c.args.staff.hands.items) c.args.staff.back fewer c.requires.back in
    let falls = falls_by (length c.pop.new.self.items) (length c.args.staff.hands.items) less t c.decreases in
    let passes = subst (λ n. AreNewPasses g.T.Noted.setting g.T.Seated.history c.args.turns.now.items n c.take_column-passes.result.items) (sym number) new.1 in (
      (
        falls,
        same_and (
          (c.requires.lobby, c.requires.picks, new.0, ready.0, few, room, search rules),
          (search rules, search rules, search rules, search rules, search rules, search rules, search rules, search rules),
        ),
      ),
      (
        (c.requires.lobby, c.requires.picks, passes, ready.1.kept, search rules),
        (search rules, search rules, search rules, search rules, search rules, search rules, search rules, search rules),
      ),
    )

pub add_done-requires-clause-columns : goal.add_done-requires-clause-columns
add_done-requires-clause-columns g t c =
    let at = at_link g.D.Link.Link.was_read g.D.Link.Source.left g.D.Link.Sink.written g.D.Link.Source.read_faults g.D.Link.Sink.write_faults in
    let picks = g.D.Picker.picks c.args.door.now in
    let made = g.D.Door.made_by c.args.door.now in
    let less = one_less c.args.staff.hands.items c.pop.new.self.items c.pop.result c.in-Some.hand c.pop.ensures.items c.in-Some.is in
    let left = c.join-back.result.0 in
    let counts = done_count g.T.Seated g.T.Noted.setting at picks made g.T.Fault.Numbered.number c.args.turns.now.items (length c.pop.new.self.items) (items_of left.columns.items)
    (sessions_of left.kept.items) left.ends.items c.join-back.ensures.first.0 in
    room_for (length c.pop.new.self.items) (length c.args.staff.hands.items) left.columns (vec_capacity c.args.staff.back.columns)
    (sym (length-map left.columns.items (λ v. v.items)) ∙ counts.0) less c.join-back.ensures.first.1.columns c.requires.back.columns

pub add_done-requires-clause-kept : goal.add_done-requires-clause-kept
add_done-requires-clause-kept g t c =
    let at = at_link g.D.Link.Link.was_read g.D.Link.Source.left g.D.Link.Sink.written g.D.Link.Source.read_faults g.D.Link.Sink.write_faults in
    let picks = g.D.Picker.picks c.args.door.now in
    let made = g.D.Door.made_by c.args.door.now in
    let less = one_less c.args.staff.hands.items c.pop.new.self.items c.pop.result c.in-Some.hand c.pop.ensures.items c.in-Some.is in
    let left = c.join-back.result.0 in
    let counts = done_count g.T.Seated g.T.Noted.setting at picks made g.T.Fault.Numbered.number c.args.turns.now.items (length c.pop.new.self.items) (items_of left.columns.items)
    (sessions_of left.kept.items) left.ends.items c.join-back.ensures.first.0 in
    room_for (length c.pop.new.self.items) (length c.args.staff.hands.items) left.kept (vec_capacity c.args.staff.back.kept)
    (sym (length-map left.kept.items (λ k. rows k.items)) ∙ counts.1) less c.join-back.ensures.first.1.kept c.requires.back.kept

pub add_done-requires-clause-ends : goal.add_done-requires-clause-ends
add_done-requires-clause-ends g t c =
    let at = at_link g.D.Link.Link.was_read g.D.Link.Source.left g.D.Link.Sink.written g.D.Link.Source.read_faults g.D.Link.Sink.write_faults in
    let picks = g.D.Picker.picks c.args.door.now in
    let made = g.D.Door.made_by c.args.door.now in
    let less = one_less c.args.staff.hands.items c.pop.new.self.items c.pop.result c.in-Some.hand c.pop.ensures.items c.in-Some.is in
    let left = c.join-back.result.0 in
    let counts = done_count g.T.Seated g.T.Noted.setting at picks made g.T.Fault.Numbered.number c.args.turns.now.items (length c.pop.new.self.items) (items_of left.columns.items)
    (sessions_of left.kept.items) left.ends.items c.join-back.ensures.first.0 in
    room_for (length c.pop.new.self.items) (length c.args.staff.hands.items) left.ends (vec_capacity c.args.staff.back.ends) counts.2 less c.join-back.ensures.first.1.ends c.requires.back.ends

pub returns-clause-done : goal.returns-clause-done
returns-clause-done g t c =
    let at = at_link g.D.Link.Link.was_read g.D.Link.Source.left g.D.Link.Sink.written g.D.Link.Source.read_faults g.D.Link.Sink.write_faults in
    let picks = g.D.Picker.picks c.args.door.now in
    let made = g.D.Door.made_by c.args.door.now in
    let less = one_less c.args.staff.hands.items c.pop.new.self.items c.pop.result c.in-Some.hand c.pop.ensures.items c.in-Some.is in
    let left = c.join-back.result.0 in
    let done = c.join-back.result.1 in
    let new = c.add_done.new.back in
    done_more g.T.Seated g.T.Noted.setting at picks made g.T.Fault.Numbered.number c.args.turns.now.items (length c.pop.new.self.items) c.len-number.result (length c.args.staff.hands.items)
    (items_of left.columns.items) (items_of new.columns.items) done.0.passes.items (sessions_of left.kept.items) (sessions_of new.kept.items) (rows done.0.kept.items)
    left.ends.items new.ends.items done.1 less (c.len-number.ensures ∙ c.pop.new.self.ok.0)
    (map_snoc (λ v. v.items) new.columns.items left.columns.items done.0.passes c.add_done.ensures.columns)
    (map_snoc (λ k. rows k.items) new.kept.items left.kept.items done.0.kept c.add_done.ensures.kept) c.add_done.ensures.ends c.join-back.ensures.first.0 c.join-back.ensures.second

pub returns-clause-room : goal.returns-clause-room
returns-clause-room g t c = room_then c.args.staff.back c.join-back.result.0 c.add_done.new.back c.join-back.ensures.first.1 c.add_done.ensures.room
