-- Yaku of the numbers in the sets: equal runs, sets alike in three suits, straights, and ends in each set.
use Rattle.std.specs.Prelude.{ℕ, ◌+◌, ◌==◌, Bool, not, ◌&&◌, ◌||◌, nat_le, List, count_by}
use Rattle.std.specs.List.{list_all, list_any}
use Rattle.mj_tiles.specs.Terminals.{is_terminal, is_terminal_or_honour}
use Rattle.mj_readings.specs.declared.reading.Set.{Set}
use Rattle.mj_readings.specs.declared.reading.Case.{Case}
use Rattle.mj_readings.specs.declared.reading.Reading.{Reading}
use Rattle.mj_readings.specs.Sets.{tiles_of_set}
use Rattle.mj_fu.specs.Forms.{is_run}
use Rattle.mj_yaku.specs.Hands.{in_standard, has_triple, has_run, suits, numbers}
use Rattle.mj_yaku.specs.WholeHand.{no_honour}

-- How often a run with this low tile stands in the hand.
abbrev pub number_of_runs : ℕ → List Set → ℕ
number_of_runs low sets = count_by (λ set. is_run set && set.low == low) sets

-- Two runs are equal.
abbrev pub has_equal_runs : List Set → Bool
has_equal_runs sets = list_any (λ set. is_run set && nat_le 2 (number_of_runs set.low sets)) sets

-- The four sets are two pairs of equal runs: each is a run that stands twice, or all four are one run.
abbrev pub are_equal_runs : List Set → Bool
are_equal_runs sets =
    list_all (λ set. is_run set && (number_of_runs set.low sets == 2 || number_of_runs set.low sets == 4)) sets

-- ryanpeikou: two pairs of equal runs in a closed hand.
unfoldable pub ryanpeikou : Reading → Case → Bool
ryanpeikou reading case = case.closed && in_standard (λ sets pair. are_equal_runs sets) reading

-- iipeikou: two equal runs in a closed hand, where it isn't ryanpeikou.
unfoldable pub iipeikou : Reading → Case → Bool
iipeikou reading case =
    case.closed && in_standard (λ sets pair. has_equal_runs sets && not (are_equal_runs sets)) reading

-- sanshoku_doukou: triplets or kans of one number in the three suits.
unfoldable pub sanshoku_doukou : Reading → Bool
sanshoku_doukou reading =
    in_standard
    (λ sets pair. list_any (λ number. list_all (λ suit. has_triple (suit + number) sets) suits) numbers)
    reading

-- sanshoku_doujun: runs with one low number in the three suits.
unfoldable pub sanshoku_doujun : Reading → Bool
sanshoku_doujun reading =
    in_standard
    (λ sets pair. list_any (λ number. list_all (λ suit. has_run (suit + number) sets) suits) numbers)
    reading

-- ittsu: the runs 123, 456 and 789 of one suit.
unfoldable pub ittsu : Reading → Bool
ittsu reading =
    in_standard
    (λ sets pair. list_any
    (λ suit. has_run suit sets && has_run (suit + 3) sets && has_run (suit + 6) sets)
    suits)
    reading

-- Each set and the pair has a tile that passes a test, and some set is a run.
abbrev pub in_each_set : (ℕ → Bool) → Reading → Bool
in_each_set test reading =
    in_standard
    (λ sets pair. list_all (λ set. list_any test (tiles_of_set set)) sets && test pair && list_any is_run sets)
    reading

-- chanta: a terminal or honour in each set and the pair, some run, some honour.
unfoldable pub chanta : Reading → Bool
chanta reading = in_each_set is_terminal_or_honour reading && not (no_honour reading)

-- junchan: a terminal in each set and the pair, some run, no honour.
unfoldable pub junchan : Reading → Bool
junchan reading = in_each_set is_terminal reading && no_honour reading
