use Rattle.std.proofs.Common.{[], false, sym, arith}
use Rattle.mj_suits.specs.Rows.{lane}
use Rattle.mj_suits.proofs.Rows.{walked_past}
use Rattle.mj_suits.proofs.Nine.{holds_whole}
use Rattle.mj_suits.proofs.walk.honours_within.Goals as goal

pub returns : goal.returns
returns c =
    let after = lane c.args.after.lanes in
    let ninth = c.honours_before-ninth.ensures after [] [] (record { at = λ s p few one. sym (walked_past false after [] 0 0 s p) }) in
    let eighth = c.honours_before-eighth.ensures after _ _ ninth in
    let seventh = c.honours_before-seventh.ensures after _ _ eighth in
    let sixth = c.honours_before-sixth.ensures after _ _ seventh in
    let fifth = c.honours_before-fifth.ensures after _ _ sixth in
    let fourth = c.honours_before-fourth.ensures after _ _ fifth in
    let third = c.honours_before-third.ensures after _ _ fourth in
    let second = c.honours_before-second.ensures after _ _ third in
    let first = c.honours_before.ensures after _ _ second in
    holds_whole _ false after c.args.room.now c.args.counts.now (omega arith) (omega arith) first
