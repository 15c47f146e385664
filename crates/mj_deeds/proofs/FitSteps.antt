-- Steps of the tests whether a deed fits.
use Rattle.std.proofs.Common.{◌≡◌, ℕ, ◌+◌, Bool, true, List, ◌++◌, ap, ◌∙◌}
use Rattle.mj_tiles.specs.Counts.{number_of}
use Rattle.mj_tiles.proofs.CountSteps.{number_of-append}
use Rattle.mj_deeds.specs.declared.deed.Deed.{Deed}
use Rattle.mj_deeds.specs.declared.deed.Deed.TheVariants.{StartHand}
use Rattle.mj_deeds.specs.Hand.{is_hand_start}
use Rattle.mj_deeds.specs.Fits.{Ground, is_in_place, starts_hand}

-- The parts of a deal.
pub number_of_four : (a b c d : List ℕ) (kind : ℕ) →
    number_of (a ++ b ++ c ++ d) kind ≡ number_of a kind + number_of b kind + number_of c kind + number_of d kind
number_of_four a b c d kind =
    number_of-append (a ++ b ++ c) d kind
    ∙ ap (λ n. n + number_of d kind) (number_of-append (a ++ b) c kind)
    ∙ ap (λ n. n + number_of c kind + number_of d kind) (number_of-append a b kind)

-- The place of a start of a hand.
pub place_start : (past : Ground) (d : Deed) (starts : Bool) → is_hand_start d ≡ true → starts ≡ starts_hand past d → starts ≡ is_in_place past d
place_start past (StartHand round number honba deposits dealer indicator hands) starts h e = e
place_start past other starts h e = cc
