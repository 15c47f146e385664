-- The tiles that a seat sees in a hand, each once.
use Rattle.std.specs.Prelude.{ℕ, List, [], ◌∷◌, ◌++◌, flat_map}
use Rattle.mj_deeds.specs.declared.deed.Deed.{Deed}
use Rattle.mj_deeds.specs.declared.deed.Deed.TheVariants.{StartHand, Discard, Chi, Pon, OpenKan, ClosedKan, AddedKan, Dora}
use Rattle.mj_deeds.specs.Facts.{concealed_tiles}

-- The tiles that a deed lays open: an indicator, a discard, and those that a seat puts down of its own for a meld. The discard
-- that a call takes lies open already.
abbrev pub opened_by : Deed → List ℕ
opened_by (StartHand round number honba deposits dealer indicator hands) = indicator ∷ []
opened_by (Discard who tile drawn) = tile ∷ []
opened_by (Chi who target tile a b) = a ∷ b ∷ []
opened_by (Pon who target tile a b) = a ∷ b ∷ []
opened_by (OpenKan who target tile a b c) = a ∷ b ∷ c ∷ []
opened_by (ClosedKan who a b c d) = a ∷ b ∷ c ∷ d ∷ []
opened_by (AddedKan who tile a b c) = tile ∷ []
opened_by (Dora tile) = tile ∷ []
opened_by other = []

-- The tiles that lie open: those of all melds, the discards that weren't called, and the indicators.
abbrev pub open_tiles : List Deed → List ℕ
open_tiles deeds = flat_map opened_by deeds

-- The tiles that a seat sees: its concealed ones, and those that lie open.
abbrev pub seen_tiles : List Deed → ℕ → List ℕ
seen_tiles deeds seat = concealed_tiles deeds seat ++ open_tiles deeds
