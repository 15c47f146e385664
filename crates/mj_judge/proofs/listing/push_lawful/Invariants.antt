use Rattle.std.proofs.Common.{◌≡◌, ◌++◌, take}
use Rattle.mj_judge.specs.Inner.Tried.{lawful_among}
use Rattle.mj_judge.proofs.listing.push_lawful.Given as goal

abbrev pub invariant-loop-answer : goal.invariant-loop-answer
invariant-loop-answer l = l.items.items ≡ l.initial.items.items ++ lawful_among l.table.rules l.table.deeds l.seat (take l.answer-index l.tried)
