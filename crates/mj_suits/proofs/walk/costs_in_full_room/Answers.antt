use Rattle.std.proofs.Common.{arith}
use Rattle.mj_suits.proofs.walk.costs_in_full_room.Goals as goal

pub returns : goal.returns
returns c = record {
  one = record { at = λ s p few one. (let a = c.less.ensures.at s p few one in let b = c.all.ensures.at s p few one in let h = c.all-held.ensures.at s p few one in omega arith) };
  two = record { at = λ s p few one. (let a = c.less-2.ensures.at s p few one in let b = c.all-2.ensures.at s p few one in let h = c.all-held.ensures.at s p few one in omega arith) };
  three = record { at = λ s p few one. (let a = c.less-3.ensures.at s p few one in let b = c.all-3.ensures.at s p few one in let h = c.all-held.ensures.at s p few one in omega arith) };
  four = record { at = λ s p few one. (let a = c.less-4.ensures.at s p few one in let b = c.all-4.ensures.at s p few one in let h = c.all-held.ensures.at s p few one in omega arith) };
}
