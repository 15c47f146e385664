use Rattle.mj_facts.proofs.HandsKept.{drawn_with, kans_with, brought_with, some_deeds}
use Rattle.mj_facts.proofs.hand_facts.learn_more.Goals as goal

pub returns : goal.returns
returns c before few k = record {
  begun = some_deeds before c.args.deed.now;
  drawn = drawn_with before c.args.deed.now c.args.facts.now.drawn _ c.is_live_draw.result few.drawn k.drawn c.is_live_draw.ensures c.counted-facts.ensures.few;
  kans = kans_with before c.args.deed.now c.args.facts.now.kans _ c.is_kan.result few.kans k.kans c.is_kan.ensures c.counted-facts-2.ensures.few;
  brought = brought_with before c.args.deed.now c.args.facts.now.brought _ few.brought k.brought c.bring.ensures;
  course = c.follow.ensures before few.shown k.course;
  seats = c.keep_each.ensures before few k.seats;
}
