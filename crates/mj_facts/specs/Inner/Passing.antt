-- Deeds that do nothing of a seat but offer it tiles.
use Rattle.std.specs.Prelude.{◌≡◌, ◌==◌, ℕ, false, List, []}
use Rattle.std.specs.List.{list_any}
use Rattle.mj_deeds.specs.declared.deed.Deed.{Deed}
use Rattle.mj_deeds.specs.Ends.{winners_by}
use Rattle.mj_deeds.specs.Facts.{discards_by, is_discard_by, makes_by, adds_by}
use Rattle.mj_deeds.specs.Firsts.{ends_first}
use Rattle.mj_deeds.specs.Hand.{is_hand_start}
use Rattle.mj_deeds.specs.Passed.{offers_to}
use Rattle.mj_deeds.specs.Points.{is_win}
use Rattle.mj_deeds.specs.Riichi.{is_reach_by, is_accepted_by}
use Rattle.mj_deeds.proofs.RiichiLaws.{is_added}

-- A deed offers these tiles to a seat, and else changes nothing of what is kept of the seat: it starts no hand, is no win and
-- no added kan, and the seat neither discards, makes or adds to a meld, reaches, is in riichi nor wins by it, and its first turn
-- goes on.
pub record OnlyOffers (deed : Deed) (seat : ℕ) (tiles : List ℕ) : Type 0 where
  pub offers : offers_to seat deed ≡ tiles
  pub starts : is_hand_start deed ≡ false
  pub win : is_win deed ≡ false
  pub added : is_added deed ≡ false
  pub discards : discards_by seat deed ≡ []
  pub discarded : is_discard_by seat deed ≡ false
  pub makes : makes_by seat deed ≡ []
  pub adds : adds_by seat deed ≡ []
  pub ends : ends_first seat deed ≡ false
  pub reaches : is_reach_by seat deed ≡ false
  pub accepts : is_accepted_by seat deed ≡ false
  pub wins : list_any (λ who. who == seat) (winners_by deed) ≡ false
