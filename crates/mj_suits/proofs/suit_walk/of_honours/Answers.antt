use Rattle.std.proofs.Common.{[], arith, false, sym}
use Rattle.mj_suits.specs.Rows.{lane, Holds, walked}
use Rattle.mj_suits.proofs.Rows.{walked_past}
use Rattle.mj_suits.proofs.Nine.{holds_whole}
use Rattle.mj_suits.proofs.Choices.{number_of_honours, no_numbers, nine_numbers, alone_holds}
use Rattle.mj_suits.proofs.suit_walk.of_honours.Goals as goal

pub returns-clause-levels : goal.returns-clause-levels
returns-clause-levels c =
    let aim = c.args.aim.now in
    let after = lane c.args.aim.now.after.lanes in
    let runs = c.requires.runs in
    let four = c.requires.room in
    let past : Holds c.args.aim.now.after.lanes (walked false after [] [] 0 0) = record { at = λ s p few one. sym (walked_past false after [] 0 0 s p) } in
    let ninth = c.honours_before-ninth.ensures after [] [] past in
    let eighth = c.honours_before-eighth.ensures after _ _ ninth in
    let seventh = c.honours_before-seventh.ensures after _ _ eighth in
    let sixth = c.honours_before-sixth.ensures after _ _ seventh in
    let fifth = c.honours_before-fifth.ensures after _ _ sixth in
    let fourth = c.honours_before-fourth.ensures after _ _ fifth in
    let third = c.honours_before-third.ensures after _ _ fourth in
    let second = c.honours_before-second.ensures after _ _ third in
    nine_numbers aim _ _ _ (omega arith) (omega arith)
    (number_of_honours aim _ _ _ _ _ _ _ c.level_of.ensures runs (four 0 (omega arith)) (alone_holds c.rows_of.result _ _ c.rows_of.ensures.alone second)
    (number_of_honours aim _ _ _ _ _ _ _ c.level_of-2.ensures runs (four 1 (omega arith)) (alone_holds c.rows_of-2.result _ _ c.rows_of-2.ensures.alone third)
    (number_of_honours aim _ _ _ _ _ _ _ c.level_of-3.ensures runs (four 2 (omega arith)) (alone_holds c.rows_of-3.result _ _ c.rows_of-3.ensures.alone fourth)
    (number_of_honours aim _ _ _ _ _ _ _ c.level_of-4.ensures runs (four 3 (omega arith)) (alone_holds c.rows_of-4.result _ _ c.rows_of-4.ensures.alone fifth)
    (number_of_honours aim _ _ _ _ _ _ _ c.level_of-5.ensures runs (four 4 (omega arith)) (alone_holds c.rows_of-5.result _ _ c.rows_of-5.ensures.alone sixth)
    (number_of_honours aim _ _ _ _ _ _ _ c.level_of-6.ensures runs (four 5 (omega arith)) (alone_holds c.rows_of-6.result _ _ c.rows_of-6.ensures.alone seventh)
    (number_of_honours aim _ _ _ _ _ _ _ c.level_of-7.ensures runs (four 6 (omega arith)) (alone_holds c.rows_of-7.result _ _ c.rows_of-7.ensures.alone eighth)
    (number_of_honours aim _ _ _ _ _ _ _ c.level_of-8.ensures runs (four 7 (omega arith)) (alone_holds c.rows_of-8.result _ _ c.rows_of-8.ensures.alone ninth)
    (number_of_honours aim _ _ _ _ _ _ _ c.level_of-9.ensures runs (four 8 (omega arith)) (alone_holds c.rows_of-9.result _ _ c.rows_of-9.ensures.alone past) (no_numbers aim))))))))))

pub returns-clause-row : goal.returns-clause-row
returns-clause-row c =
    let after = lane c.args.aim.now.after.lanes in
    let past : Holds c.args.aim.now.after.lanes (walked false after [] [] 0 0) = record { at = λ s p few one. sym (walked_past false after [] 0 0 s p) } in
    let ninth = c.honours_before-ninth.ensures after [] [] past in
    let eighth = c.honours_before-eighth.ensures after _ _ ninth in
    let seventh = c.honours_before-seventh.ensures after _ _ eighth in
    let sixth = c.honours_before-sixth.ensures after _ _ seventh in
    let fifth = c.honours_before-fifth.ensures after _ _ sixth in
    let fourth = c.honours_before-fourth.ensures after _ _ fifth in
    let third = c.honours_before-third.ensures after _ _ fourth in
    let second = c.honours_before-second.ensures after _ _ third in
    let first = c.honours_before-row.ensures after _ _ second in
    holds_whole _ false after c.args.room.now c.args.counts.now (omega arith) (omega arith) first
