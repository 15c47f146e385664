use Rattle.std.proofs.Common.{◌≡◌, take}
use Rattle.mj_deeds.proofs.yaku_list.YakuList.of.Given as goal

abbrev pub invariant-loop-row : goal.invariant-loop-row
invariant-loop-row l = l.list ≡ take l.row-index l.rows
