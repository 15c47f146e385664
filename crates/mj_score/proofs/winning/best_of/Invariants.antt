use Rattle.std.proofs.Common.{◌≡◌, take}
use Rattle.mj_score.specs.Inner.BestAmong.{best_among}
use Rattle.mj_score.proofs.winning.best_of.Given as goal

-- the best of the readings taken so far
abbrev pub invariant-loop-reading : goal.invariant-loop-reading
invariant-loop-reading l = l.best ≡ best_among l.melds l.case l.extra (take l.reading-index l.readings)
