use Rattle.std.proofs.Common.{[], true, arith}
use Rattle.mj_suits.proofs.Nine.{holds_whole}
use Rattle.mj_suits.specs.Rows.{lane}
use Rattle.mj_suits.proofs.walk.runs_within.Goals as goal

pub returns : goal.returns
returns c =
    let after = lane c.args.after.lanes in
    let ninth = c.rows_before-ninth.ensures after [] [] c.rows_past-past.ensures in
    let eighth = c.rows_before-eighth.ensures after _ _ ninth in
    let seventh = c.rows_before-seventh.ensures after _ _ eighth in
    let sixth = c.rows_before-sixth.ensures after _ _ seventh in
    let fifth = c.rows_before-fifth.ensures after _ _ sixth in
    let fourth = c.rows_before-fourth.ensures after _ _ fifth in
    let third = c.rows_before-third.ensures after _ _ fourth in
    let second = c.rows_before-second.ensures after _ _ third in
    let first = c.rows_before-first.ensures after _ _ second in
    holds_whole _ true after c.args.room.now c.args.counts.now (omega arith) (omega arith) (first.at 0 0 (omega arith) (omega arith))
