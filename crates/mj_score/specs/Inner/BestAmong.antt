-- The best score of a list of readings.
use Rattle.std.specs.Prelude.{if◌then◌else◌, List, Option, None, Some, fold}
use Rattle.mj_tiles.specs.declared.meld.Meld.{Meld}
use Rattle.mj_readings.specs.declared.reading.Case.{Case}
use Rattle.mj_readings.specs.declared.reading.Reading.{Reading}
use Rattle.mj_yaku.specs.SomeYaku.{gives_yaku}
use Rattle.mj_score.specs.declared.score.Extra.{Extra}
use Rattle.mj_score.specs.declared.score.Score.{Score}
use Rattle.mj_score.specs.Scores.{score_of, is_better}

-- The better of a best score, where there is one, and another.
abbrev pub better_of : Option Score → Score → Option Score
better_of None score = Some score
better_of (Some best) score = Some (if is_better score best then score else best)

-- The best score once a reading is looked at too.
abbrev pub with_reading : List Meld → Case → Extra → Option Score → Reading → Option Score
with_reading melds case extra best reading =
    if gives_yaku melds case reading then better_of best (score_of melds case extra reading) else best

-- The best score of the readings of a list that have a yaku.
unfoldable pub best_among : List Meld → Case → Extra → List Reading → Option Score
best_among melds case extra readings = fold (with_reading melds case extra) None readings
