-- What a clock in memory tells.
use Rattle.std.specs.Prelude.{ℕ, ◌+◌, ◌*◌, ◌%◌, ◌^◌, List, map}
use Rattle.std.specs.List.{range_with_len}
use Rattle.mj_links.specs.declared.clock.MemClock.{MemClock}

-- reading k of a clock that begins at `first` and goes on by `step`
abbrev pub clock_reading : ℕ → ℕ → ℕ → ℕ
clock_reading first step k = (first + k * step) % 2 ^ 64

-- the first reading
abbrev pub clock_first : MemClock → ℕ
clock_first c = c.first

-- how far the clock goes on from one reading to the next
abbrev pub clock_step : MemClock → ℕ
clock_step c = c.step

-- how many readings were made
abbrev pub clock_made : MemClock → ℕ
clock_made c = c.made.count

-- all readings, oldest first
abbrev pub clock_readings : MemClock → List ℕ
clock_readings c = map (clock_reading c.first c.step) (range_with_len 0 c.made.count)
