-- How a hand ended, and how the game stands after it.
use Rattle.std.specs.Prelude.{ℕ, ◌==◌, Bool, false, List, [], ◌∷◌, Option, unwrap_or, flat_map, slice_get}
use Rattle.std.specs.List.{list_any, slice_index_or}
use Rattle.mj_rounds.specs.declared.rounds.Standing.{Standing}
use Rattle.mj_rounds.specs.declared.rounds.HandEnd.{HandEnd}
use Rattle.mj_rounds.specs.declared.rounds.HandEnd.TheVariants.{Won, Drawn, Aborted}
use Rattle.mj_rounds.specs.Rounds.{next_standing}
use Rattle.mj_deeds.specs.declared.reason.Reason.{Reason}
use Rattle.mj_deeds.specs.declared.reason.Reason.TheVariants.{Fanpai}
use Rattle.mj_deeds.specs.declared.deed.Deed.{Deed}
use Rattle.mj_deeds.specs.declared.deed.Deed.TheVariants.{Win, DrawnHand}

-- The seat that wins by a deed.
abbrev pub winners_by : Deed → List ℕ
winners_by (Win who target tile unders hand yaku fu han value deltas points rest) = who ∷ []
winners_by other = []

-- The winners of a hand, in order.
abbrev pub winners : List Deed → List ℕ
winners deeds = flat_map winners_by deeds

-- The dealer is among the winners of the hand.
abbrev pub dealer_won : List Deed → ℕ → Bool
dealer_won deeds dealer = list_any (λ seat. seat == dealer) (winners deeds)

-- How a hand that was drawn ended: at an exhaustive draw by whether the dealer was ready, and by any other reason it was
-- broken off.
abbrev pub drawn_by_reason : Reason → Bool → HandEnd
drawn_by_reason Fanpai dealer_ready = Drawn dealer_ready
drawn_by_reason other dealer_ready = Aborted

abbrev pub draws_by : ℕ → Deed → List HandEnd
draws_by dealer (DrawnHand reason hands ready deltas points) = drawn_by_reason reason (slice_index_or ready dealer false) ∷ []
draws_by dealer other = []

-- How a hand ended: it was drawn, or else it was won.
abbrev pub end_of : List Deed → ℕ → HandEnd
end_of deeds dealer = unwrap_or (slice_get (flat_map (draws_by dealer) deeds) 0) (Won (dealer_won deeds dealer))

-- The standing of the hand that follows one with these deeds; none where the game ends.
abbrev pub standing_after : Standing → List Deed → Option Standing
standing_after now deeds = next_standing now (end_of deeds now.dealer)
