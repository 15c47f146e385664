-- The readings of a hand in a list.
use Rattle.std.specs.Prelude.{ℕ, ◌==◌, if◌then◌else◌, List, [], ◌++◌, length}
use Rattle.mj_tiles.specs.declared.meld.Meld.{Meld}
use Rattle.mj_readings.specs.declared.reading.Reading.{Reading}
use Rattle.mj_readings.specs.Inner.ReadingLists.{standard_readings, pairs_readings, orphans_readings}

-- All readings of a hand, standard ones first, and without melds seven pairs and thirteen orphans. That they are all readings, no
-- others, and each once (`AreReadings`), is a clause of `readings` and of `reading_at`.
unfoldable pub readings_of : List ℕ → List Meld → ℕ → List Reading
readings_of counts melds winning =
    standard_readings counts melds winning
    ++ (if length melds == 0 then pairs_readings counts ++ orphans_readings counts else [])
