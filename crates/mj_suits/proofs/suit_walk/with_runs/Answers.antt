use Rattle.std.proofs.Common.{[], true, arith}
use Rattle.mj_suits.specs.Rows.{lane}
use Rattle.mj_suits.proofs.Choices.{number_of_runs, no_numbers, nine_numbers}
use Rattle.mj_suits.proofs.Nine.{holds_whole}
use Rattle.mj_suits.proofs.Walks.{first_holds}
use Rattle.mj_suits.proofs.suit_walk.with_runs.Goals as goal

pub returns-clause-levels : goal.returns-clause-levels
returns-clause-levels c =
    let aim = c.args.aim.now in
    let after = lane c.args.aim.now.after.lanes in
    let runs = c.requires.runs in
    let four = c.requires.room in
    let ninth = c.rows_before-ninth.ensures after [] [] c.rows_past-past.ensures in
    let eighth = c.rows_before-eighth.ensures after _ _ ninth in
    let seventh = c.rows_before-seventh.ensures after _ _ eighth in
    let sixth = c.rows_before-sixth.ensures after _ _ seventh in
    let fifth = c.rows_before-fifth.ensures after _ _ sixth in
    let fourth = c.rows_before-fourth.ensures after _ _ fifth in
    let third = c.rows_before-third.ensures after _ _ fourth in
    let second = c.rows_before-second.ensures after _ _ third in
    nine_numbers aim _ _ _ (omega arith) (omega arith)
    (number_of_runs aim _ _ _ _ _ _ _ c.level_of.ensures runs (four 0 (omega arith)) second
    (number_of_runs aim _ _ _ _ _ _ _ c.level_of-2.ensures runs (four 1 (omega arith)) third
    (number_of_runs aim _ _ _ _ _ _ _ c.level_of-3.ensures runs (four 2 (omega arith)) fourth
    (number_of_runs aim _ _ _ _ _ _ _ c.level_of-4.ensures runs (four 3 (omega arith)) fifth
    (number_of_runs aim _ _ _ _ _ _ _ c.level_of-5.ensures runs (four 4 (omega arith)) sixth
    (number_of_runs aim _ _ _ _ _ _ _ c.level_of-6.ensures runs (four 5 (omega arith)) seventh
    (number_of_runs aim _ _ _ _ _ _ _ c.level_of-7.ensures runs (four 6 (omega arith)) eighth
    (number_of_runs aim _ _ _ _ _ _ _ c.level_of-8.ensures runs (four 7 (omega arith)) ninth
    (number_of_runs aim _ _ _ _ _ _ _ c.level_of-9.ensures runs (four 8 (omega arith)) c.rows_past-past.ensures (no_numbers aim))))))))))

pub returns-clause-row : goal.returns-clause-row
returns-clause-row c =
    let after = lane c.args.aim.now.after.lanes in
    let ninth = c.rows_before-ninth.ensures after [] [] c.rows_past-past.ensures in
    let eighth = c.rows_before-eighth.ensures after _ _ ninth in
    let seventh = c.rows_before-seventh.ensures after _ _ eighth in
    let sixth = c.rows_before-sixth.ensures after _ _ seventh in
    let fifth = c.rows_before-fifth.ensures after _ _ sixth in
    let fourth = c.rows_before-fourth.ensures after _ _ fifth in
    let third = c.rows_before-third.ensures after _ _ fourth in
    let second = c.rows_before-second.ensures after _ _ third in
    let first = c.rows_before.ensures after _ _ second in
    holds_whole _ true after c.args.room.now c.args.counts.now (omega arith) (omega arith) (first_holds _ _ _ c.at-row.ensures (first.at 0 0 (omega arith) (omega arith)))
