use Rattle.std.proofs.Common.{◌≡◌, ◌-◌, length, take}
use Rattle.mj_observe.specs.Views.{public_view}
use Rattle.mj_checking.proofs.observe.view_of.Given as goal

abbrev pub invariant-loop-deed : goal.invariant-loop-deed
invariant-loop-deed l = record {
  given : l.observer ≡ take l.number l.fn.deeds;
  told : l.text.items ≡ public_view l.observer;
}

abbrev pub decreases-loop-deed : goal.decreases-loop-deed
decreases-loop-deed l = length l.fn.deeds - l.number
