-- The worth of a hand: the best score of its readings.
use Rattle.std.specs.Prelude.{ℕ, ◌≡◌, false, List, Option, None, Some, IsTrue}
use Rattle.mj_tiles.specs.declared.meld.Meld.{Meld}
use Rattle.mj_readings.specs.declared.reading.Case.{Case}
use Rattle.mj_readings.specs.declared.reading.Reading.{Reading}
use Rattle.mj_readings.specs.Readings.{IsReading}
use Rattle.mj_readings.specs.AllReadings.{readings_of}
use Rattle.mj_yaku.specs.SomeYaku.{gives_yaku}
use Rattle.mj_score.specs.declared.score.Extra.{Extra}
use Rattle.mj_score.specs.declared.score.Score.{Score}
use Rattle.mj_score.specs.Scores.{score_of, is_better}
use Rattle.mj_score.specs.Inner.BestAmong.{best_among}

-- The score is that of a reading that has a yaku, and no such reading has a better one.
pub record IsGreatest (counts : List ℕ) (melds : List Meld) (winning : ℕ) (case : Case) (extra : Extra) (score : Score) : Type 0 where
  pub of_reading : (reading : Reading) × (IsReading counts melds winning reading × IsTrue (gives_yaku melds case reading) × (score ≡ score_of melds case extra reading))
  pub no_better : (reading : Reading) → IsReading counts melds winning reading → IsTrue (gives_yaku melds case reading) → is_better (score_of melds case extra reading) score ≡ false

-- The worth of a hand: the greatest score of its readings that have a yaku, and none where no reading has one.
abbrev pub IsWorth : List ℕ → List Meld → ℕ → Case → Extra → Option Score → Type 0
IsWorth counts melds winning case extra None =
    (reading : Reading) → IsReading counts melds winning reading → gives_yaku melds case reading ≡ false
IsWorth counts melds winning case extra (Some score) = IsGreatest counts melds winning case extra score

-- The worth of a hand as a function: that it is the greatest score (`IsWorth`) is a clause of `worth`.
unfoldable pub worth_of : List ℕ → List Meld → ℕ → Case → Extra → Option Score
worth_of counts melds winning case extra = best_among melds case extra (readings_of counts melds winning)
