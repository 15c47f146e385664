use Rattle.std.proofs.Common.{[], ◌∷◌, get_or, false, refl, sym, arith}
use Rattle.mj_suits.specs.Rows.{lane}
use Rattle.mj_suits.specs.Inner.Walked.{seven_full}
use Rattle.mj_suits.proofs.Rows.{walked_past}
use Rattle.mj_suits.proofs.Nine.{holds_whole, no_room}
use Rattle.mj_suits.proofs.walk.seven_in_full_room.Goals as goal

pub returns : goal.returns
returns c =
    let after = lane c.args.after.lanes in
    let ninth = no_room c.args.after.lanes after (get_or c.args.counts.now 8 0) [] [] c.requires (record { at = λ s p few one. sym (walked_past false after [] 0 0 s p) }) in
    let eighth = no_room c.args.after.lanes after (get_or c.args.counts.now 7 0) (0 ∷ []) (get_or c.args.counts.now 8 0 ∷ []) c.requires ninth in
    let seventh = c.honours_in_full_room-seventh.ensures after _ _ eighth in
    let sixth = c.honours_in_full_room-sixth.ensures after _ _ seventh in
    let fifth = c.honours_in_full_room-fifth.ensures after _ _ sixth in
    let fourth = c.honours_in_full_room-fourth.ensures after _ _ fifth in
    let third = c.honours_in_full_room-third.ensures after _ _ fourth in
    let second = c.honours_in_full_room-second.ensures after _ _ third in
    let first = c.honours_in_full_room.ensures after _ _ second in
    holds_whole _ false after seven_full c.args.counts.now refl (omega arith) first
