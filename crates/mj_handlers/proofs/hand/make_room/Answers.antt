use Rattle.std.proofs.Common.{◌+◌, ◌≤◌, ◌∙◌, rules, arith, get_or, vec_len, vec_capacity}
use Rattle.std.proofs.lemmas.List.{length-set}
use Rattle.std.proofs.lemmas.Option.{slice_get-get_or}
use Rattle.mj_handlers.proofs.Roomy.{rows_set, room_more}
use Rattle.mj_handlers.proofs.hand.make_room.Goals as goal

pub returns-in_err-reserve-clause-same : goal.returns-in_err-reserve-clause-same
returns-in_err-reserve-clause-same g c = rows_set c.loop-t.kept c.loop-t.t c.index-kept-t.result c.reserve.new.self c.reserve.ensures.items ∙ c.loop-t.invariant.same

pub loop-t-preserved : goal.loop-t-preserved
loop-t-preserved g c =
    let room : vec_len c.reserve.new.self + 1 ≤ vec_capacity c.reserve.new.self = search (rules, arith) in
    record {
      many = length-set c.loop-t.kept c.loop-t.t c.reserve.new.self ∙ c.loop-t.invariant.many;
      same = rows_set c.loop-t.kept c.loop-t.t c.index-kept-t.result c.reserve.new.self c.reserve.ensures.items ∙ c.loop-t.invariant.same;
      room = room_more c.loop-t.kept c.loop-t.t c.reserve.new.self room c.loop-t.invariant.room;
    }

pub returns-clause-room : goal.returns-clause-room
returns-clause-room g c = λ k d near. c.loop-t.invariant.room k (get_or c.loop-t.kept k d) (omega (arith, near, c.loop-t-test.false, c.loop-t.invariant.many)) (slice_get-get_or c.loop-t.kept k d near)
