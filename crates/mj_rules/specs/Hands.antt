-- The laws of the walks over the counts of a hand: what they find is what the sentences on hands say.
use Rattle.std.specs.Prelude.{◌≡◌, ◌↔◌, ◌<◌, ◌≤◌, ◌+◌, ℕ, true, false, List, length, slice_index, Some, IsTrue}
use Rattle.mj_tiles.specs.declared.meld.Meld.{Meld}
use Rattle.mj_tiles.specs.Faces.{kind_of}
use Rattle.mj_tiles.specs.Counts.{kind_counts, NoFifth, IsCounts}
use Rattle.mj_readings.specs.declared.reading.Case.{Case}
use Rattle.mj_readings.specs.Complete.{IsComplete}
use Rattle.mj_readings.specs.Tests.{complete, one_more}
use Rattle.mj_readings.specs.declared.reading.Reading.{Reading}
use Rattle.mj_readings.specs.Readings.{IsReading, AreReadings}
use Rattle.mj_readings.specs.AllReadings.{readings_of}
use Rattle.mj_calls.specs.RiichiKans.{fewer, has_own_triplet, is_riichi_kan}
use Rattle.mj_yaku.specs.SomeYaku.{gives_yaku}
use Rattle.mj_tiles.specs.Kinds.{has_kind}
use Rattle.mj_waits.specs.Waits.{IsWait, is_wait, is_ready}
use Rattle.mj_score.specs.declared.score.Extra.{Extra}
use Rattle.mj_score.specs.declared.score.Score.{Score}
use Rattle.mj_score.specs.Worth.{IsGreatest, IsWorth, worth_of}
use Rattle.mj_deeds.specs.declared.answer.Answer.{Answer}
use Rattle.mj_deeds.specs.declared.deed.Deed.{Deed}
use Rattle.mj_deeds.specs.Facts.{newest}
use Rattle.mj_wall.specs.Places.{is_wall}
use Rattle.mj_wall.specs.declared.setting.Rules.{Rules}
use Rattle.mj_rules.specs.Broken.{is_win, won_tiles, waits_of, has_no_yaku}
use Rattle.mj_rules.specs.Outcome.{won_tile, wall_of}
use Rattle.mj_rules.specs.Paid.{worth_by}
use Rattle.mj_rules.specs.Played.{IsLawful, IsPlayed}
use Rattle.mj_rules.specs.View.{SeatView, concealed, room, view_of}

-- The walk over the counts finds a hand complete exactly where it is four sets and a pair, seven pairs or thirteen orphans.
abbrev pub CompleteIsFound : Type 0
CompleteIsFound = (counts : List ℕ) (melds : ℕ) → IsCounts counts → IsTrue (complete counts melds) ↔ IsComplete counts melds

-- It finds a kind to be a wait exactly where one more of it has room and completes the hand.
abbrev pub WaitsAreFound : Type 0
WaitsAreFound = (counts room : List ℕ) (melds kind : ℕ) → IsCounts counts → slice_index room kind ≤ 4 →
    IsTrue (is_wait counts room melds kind) ↔ IsWait counts room melds kind

-- It finds a hand ready exactly where some kind is a wait.
abbrev pub ReadyIsFound : Type 0
ReadyIsFound =
    (counts room : List ℕ) (melds : ℕ) → IsCounts counts → NoFifth room →
    IsTrue (is_ready counts room melds) ↔ ((kind : ℕ) × ((kind < 34) × IsWait counts room melds kind))

-- The list of readings has all readings of the hand and no others, each once.
abbrev pub ReadingsAreFound : Type 0
ReadingsAreFound = (counts : List ℕ) (melds : List Meld) (winning : ℕ) → IsCounts counts →
    AreReadings counts melds winning (readings_of counts melds winning)

-- The best score of that list is the greatest of the readings that have a yaku, and none where no reading has one.
abbrev pub WorthIsFound : Type 0
WorthIsFound =
    (counts : List ℕ) (melds : List Meld) (winning : ℕ) (case : Case) (extra : Extra) → IsCounts counts →
    IsWorth counts melds winning case extra (worth_of counts melds winning case extra)

-- A concealed kan of a kind leaves the hand what it was: the same kinds are waits, and in every reading of each hand that was waited
-- for three tiles of the kind are a triplet.
pub record LeavesHand (counts room : List ℕ) (melds : List Meld) (kind : ℕ) : Type 0 where
  pub waits : (wait : ℕ) → wait < 34 → IsWait counts room (length melds) wait ↔
      IsWait (fewer counts kind 3) (fewer room kind 4) (length melds + 1) wait
  pub read : (wait : ℕ) → wait < 34 → IsWait counts room (length melds) wait → (reading : Reading) →
      IsReading (one_more counts wait) melds wait reading → has_own_triplet kind reading ≡ true

-- A concealed kan in riichi is found lawful exactly where it is of the drawn kind, of which three were held, and leaves the hand so.
abbrev pub KansAreFound : Type 0
KansAreFound =
    (counts room : List ℕ) (melds : List Meld) (drawn kind : ℕ) → IsCounts counts → NoFifth room →
    IsTrue (is_riichi_kan counts room melds drawn kind) ↔
    ((kind ≡ drawn) × ((3 ≤ slice_index counts kind) × LeavesHand counts room melds kind))

-- A win is found to have no yaku exactly where no reading of its tiles has one.
abbrev pub NoYakuIsFound : Type 0
NoYakuIsFound =
    (view : SeatView) (winning : ℕ) → IsCounts (kind_counts (won_tiles view)) →
    IsTrue (has_no_yaku view winning) ↔
    ((reading : Reading) → IsReading (kind_counts (won_tiles view)) view.melds winning reading →
    gives_yaku view.melds view.case reading ≡ false)

-- A kind is found to be a wait of a seat exactly where it is one of its concealed tiles, beside its melds.
abbrev pub SeatWaitsAreFound : Type 0
SeatWaitsAreFound =
    (view : SeatView) (kind : ℕ) → IsCounts (kind_counts (concealed view)) → kind < 34 →
    IsTrue (has_kind (waits_of view) kind) ↔ IsWait (kind_counts (concealed view)) (room view) (length view.melds) kind

-- By what its seat may know, a win on a tile is of a complete hand; and whatever the dora, its worth is the greatest score of the
-- readings of its tiles that have a yaku.
pub record IsGreatestWin (view : SeatView) (tile : ℕ) : Type 0 where
  pub complete : IsComplete (kind_counts (won_tiles view)) (length view.melds)
  pub greatest : (extra : Extra) → (score : Score) × ((worth_by view tile extra ≡ Some score) ×
      IsGreatest (kind_counts (won_tiles view)) view.melds (kind_of tile) view.case extra score)

-- So is every lawful win, after played deeds.
abbrev pub LawfulWinsAreGreatest : Type 0
LawfulWinsAreGreatest =
    (rules : Rules) (walls : List (List ℕ)) (deeds : List Deed) (last : Deed) (seat : ℕ) (answer : Answer) →
    ((number : ℕ) → is_wall rules.red (wall_of walls number) ≡ true) → IsPlayed rules walls deeds →
    newest deeds ≡ Some last → seat < 4 → is_win answer ≡ true → IsLawful rules deeds seat answer →
    IsGreatestWin (view_of deeds seat) (won_tile last)
