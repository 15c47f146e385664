use Rattle.std.proofs.Common.{◌≡◌, ◌+◌, length}
use Rattle.std.specs.List.{filter, range_with_len}
use Rattle.mj_readings.specs.Readings.{names_winning}
use Rattle.mj_readings.proofs.winning_way.win_at.Given as goal

abbrev pub invariant-loop-win : goal.invariant-loop-win
invariant-loop-win l = l.initial.index ≡ length (filter (names_winning l.sets l.pair l.winning) (range_with_len 0 l.win)) + l.index
