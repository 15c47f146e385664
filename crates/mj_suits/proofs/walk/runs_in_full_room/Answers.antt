use Rattle.std.proofs.Common.{[], true, refl, replicate, arith}
use Rattle.mj_suits.proofs.Nine.{holds_whole}
use Rattle.mj_suits.specs.Rows.{lane}
use Rattle.mj_suits.proofs.walk.runs_in_full_room.Goals as goal

pub returns : goal.returns
returns c =
    let after = lane c.args.after.lanes in
    let ninth = c.rows_in_full_room-ninth.ensures after [] [] c.rows_past-past.ensures in
    let eighth = c.rows_in_full_room-eighth.ensures after _ _ ninth in
    let seventh = c.rows_in_full_room-seventh.ensures after _ _ eighth in
    let sixth = c.rows_in_full_room-sixth.ensures after _ _ seventh in
    let fifth = c.rows_in_full_room-fifth.ensures after _ _ sixth in
    let fourth = c.rows_in_full_room-fourth.ensures after _ _ fifth in
    let third = c.rows_in_full_room-third.ensures after _ _ fourth in
    let second = c.rows_in_full_room-second.ensures after _ _ third in
    let first = c.rows_in_full_room-first.ensures after _ _ second in
    holds_whole _ true after (replicate 9 4) c.args.counts.now refl (omega arith) (first.at 0 0 (omega arith) (omega arith))
