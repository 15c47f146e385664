use Rattle.std.proofs.Common.{◌≡◌, false, rules}
use Rattle.mj_deeds.specs.declared.deed.Deed.TheVariants.{Draw}
use Rattle.mj_facts.proofs.SeatTurns.{draw_offers, all_keep_deed}
use Rattle.mj_deeds.specs.Facts.{is_discard}
use Rattle.mj_facts.proofs.seat_facts.keep_each.Goals as goal

pub returns-in-Draw : goal.returns-in-Draw
returns-in-Draw c before few k =
    all_keep_deed before c.args.deed.now _ c.let_all_pass.new.facts c.in-Draw.is
    (c.let_all_pass.ensures before (Draw c.in-Draw.seat c.in-Draw.tile c.in-Draw.replacement) (λ seat. draw_offers c.in-Draw.seat seat c.in-Draw.tile c.in-Draw.replacement) k)

pub returns-in-Discard : goal.returns-in-Discard
returns-in-Discard c before few k =
    all_keep_deed before c.args.deed.now _ c.discard_among.new.facts c.in-Discard.is
    (c.discard_among.ensures before c.in-Discard.drawn k)

pub returns-in_default : goal.returns-in_default
returns-in_default c before few k =
    let none : is_discard c.args.deed.now ≡ false = search rules in
    c.keep_others.ensures before none few k
