-- What is counted of the deeds so far.
use Rattle.std.specs.Prelude.{◌+◌, if◌then◌else◌, List, length, count_by}
use Rattle.mj_deeds.specs.declared.deed.Deed.{Deed}
use Rattle.mj_deeds.specs.Hand.{is_hand_start}
use Rattle.mj_deeds.specs.Points.{is_win}
use Rattle.mj_selfplay.specs.declared.tally.Tally.{Tally}
use Rattle.mj_selfplay.specs.SelfGame.{is_drawn_hand}

-- How many starts of hands, wins, drawn hands and deeds there are.
unfoldable pub tally_of : List Deed → Tally
tally_of deeds = record { hands = count_by is_hand_start deeds; wins = count_by is_win deeds; draws = count_by is_drawn_hand deeds; deeds = length deeds }

-- With one deed more.
unfoldable pub with_one : Tally → Deed → Tally
with_one tally deed = record {
  hands = tally.hands + (if is_hand_start deed then 1 else 0);
  wins = tally.wins + (if is_win deed then 1 else 0);
  draws = tally.draws + (if is_drawn_hand deed then 1 else 0);
  deeds = tally.deeds + 1;
}
