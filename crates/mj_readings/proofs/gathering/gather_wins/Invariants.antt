-- The readings of the places gone through stand after those found before.
use Rattle.std.proofs.Common.{◌≡◌, ◌++◌, map}
use Rattle.std.specs.List.{filter, range_with_len}
use Rattle.mj_readings.specs.Readings.{names_winning}
use Rattle.mj_readings.specs.Inner.ReadingLists.{with_win}
use Rattle.mj_readings.proofs.gathering.gather_wins.Given as goal

abbrev pub invariant-loop-win : goal.invariant-loop-win
invariant-loop-win l =
    l.found.items ≡ l.initial.found.items ++ map (with_win l.melds l.winning l.sets l.pair) (filter (names_winning l.sets l.pair l.winning) (range_with_len 0 l.win))
