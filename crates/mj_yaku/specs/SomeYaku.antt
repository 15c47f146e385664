-- Hands that have a yaku.
use Rattle.std.specs.Prelude.{ℕ, ◌==◌, Bool, not, List, IsTrue}
use Rattle.mj_tiles.specs.declared.meld.Meld.{Meld}
use Rattle.mj_readings.specs.declared.reading.Case.{Case}
use Rattle.mj_readings.specs.declared.reading.Reading.{Reading}
use Rattle.mj_readings.specs.Readings.{IsReading}
use Rattle.mj_yaku.specs.Rows.{no_rows}
use Rattle.mj_yaku.specs.Yaku.{yaku_of}

-- The reading has a yaku.
abbrev pub gives_yaku : List Meld → Case → Reading → Bool
gives_yaku melds case reading = not (yaku_of reading melds case == no_rows)

-- Some reading of the hand has a yaku.
abbrev pub HasYaku : List ℕ → List Meld → ℕ → Case → Type 0
HasYaku counts melds winning case =
    (reading : Reading) × (IsReading counts melds winning reading × IsTrue (gives_yaku melds case reading))
