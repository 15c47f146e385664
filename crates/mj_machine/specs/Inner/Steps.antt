-- What is known of the deeds of a game, and of who wins after them.
use Rattle.std.specs.Prelude.{ℕ, ◌≡◌, ◌≢◌, ◌≤◌, Bool, true, false, List, [], ◌∷◌, ◌++◌, length, All, flat_map, unsigned_abs}
use Rattle.mj_tiles.specs.Counts.{NoFifth, kind_counts}
use Rattle.mj_tiles.specs.Melds.{tiles_of_meld}
use Rattle.mj_tiles.specs.declared.meld.Meld.{Meld}
use Rattle.mj_deeds.specs.declared.answer.Answer.{Answer}
use Rattle.mj_deeds.specs.declared.answer.Answer.TheVariants as answers
use Rattle.mj_deeds.specs.declared.deed.Deed.{Deed}
use Rattle.mj_deeds.specs.declared.deed.Deed.TheVariants.{Win}
use Rattle.mj_deeds.specs.Course.{before_wins}
use Rattle.mj_deeds.specs.Facts.{newest, concealed_tiles, seat_melds, indicators}
use Rattle.mj_deeds.specs.Fits.{all_fit}
use Rattle.mj_deeds.specs.Hand.{hand}
use Rattle.mj_deeds.specs.Shown.{Shown}
use Rattle.mj_deeds.specs.declared.four.Four.{Four}
use Rattle.mj_rules.specs.Draws.{is_shown}
use Rattle.mj_deeds.specs.Points.{points, deposits}
use Rattle.mj_deeds.specs.Standings.{standing}
use Rattle.mj_window.specs.declared.decision.Decision.{Decision}
use Rattle.mj_window.specs.declared.decision.Decision.TheVariants.{Rons, Call, Act, Pass}
use Rattle.mj_rules.specs.Outcome.{won_tile, seat_of}
use Rattle.mj_rules.specs.Wins.{is_draw, own_tiles_of}

-- All tiles of a winner: its concealed ones, the winning one, and those of its melds.
abbrev pub all_tiles : List ℕ → ℕ → List Meld → List ℕ
all_tiles own tile melds = own ++ tile ∷ flat_map tiles_of_meld melds

-- No kind stands more than four times among the concealed tiles of a winner with the winning one, and it has at most eighteen
-- tiles in all.
pub record AreFew (own : List ℕ) (tile : ℕ) (melds : List Meld) : Type 0 where
  pub kinds : NoFifth (kind_counts (own ++ tile ∷ []))
  pub all : length (all_tiles own tile melds) ≤ 18

-- The numbers of a game, whose deeds fit, are small.
pub record AreSmall (deeds : List Deed) : Type 0 where
  pub red : Bool
  pub fit : all_fit red [] deeds ≡ true
  pub dealer : (standing deeds).dealer ≤ 3
  pub honba : (standing deeds).honba ≤ 200
  pub deposits : deposits deeds ≤ 800
  pub points : All (λ held. unsigned_abs held ≤ 100000000) (points deeds)
  pub shown : length (indicators (hand deeds)) ≤ 5
  pub held : (seat : ℕ) → length (concealed_tiles (hand deeds) seat) ≤ 14

-- A seat wins on a tile of the target: two seats, which are one only at a draw of its own, and few tiles.
pub record CanWin (deeds : List Deed) (seat target tile : ℕ) : Type 0 where
  pub winner : seat ≤ 3
  pub giver : target ≤ 3
  pub others : is_draw (newest (before_wins (hand deeds))) ≡ false → seat ≢ target
  pub few : AreFew (own_tiles_of (before_wins (hand deeds)) seat tile) tile (seat_melds (before_wins (hand deeds)) seat)

-- So does the first of the seats that win next, where there is one.
abbrev pub NextCanWin : List Deed → ℕ → ℕ → List ℕ → Type 0
NextCanWin deeds target tile [] = Unit {0}
NextCanWin deeds target tile (seat ∷ rest) = CanWin deeds seat target tile

abbrev pub CanWinAfter : List Deed → Deed → Type 0
CanWinAfter deeds (Win who target tile unders own yaku fu han value deltas points rest) = NextCanWin deeds target tile rest
CanWinAfter deeds other = Unit {0}

-- So does a seat that wins by its answer to its own draw.
abbrev pub CanWinBy : List Deed → Deed → ℕ → Answer → Type 0
CanWinBy deeds last seat (answers.Win actor target tile) = CanWin deeds seat seat (won_tile last)
CanWinBy deeds last seat other = Unit {0}

-- Whoever wins by what is decided after the newest deed does so.
abbrev pub CanFollow : List Deed → Deed → Decision → Type 0
CanFollow deeds last (Rons seats) = CanWin deeds seats.first (seat_of last) (won_tile last)
CanFollow deeds last (Call bid) = Unit {0}
CanFollow deeds last (Act seat answer) = CanWinBy deeds last seat answer
CanFollow deeds last Pass = CanWinAfter deeds last

-- Which of four hands are shown.
abbrev pub are_shown : Four Shown → List Bool
are_shown hands = is_shown hands.first ∷ is_shown hands.second ∷ is_shown hands.third ∷ is_shown hands.fourth ∷ []
