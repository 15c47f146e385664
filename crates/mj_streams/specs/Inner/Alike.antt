-- Whether two seats are told the same of a deed.
use Rattle.std.specs.Prelude.{ℕ, ◌==◌, ◌&&◌, not, Bool, true, false}
use Rattle.mj_deeds.specs.declared.deed.Deed.{Deed}
use Rattle.mj_deeds.specs.declared.deed.Deed.TheVariants.{StartGame, StartHand, Draw}

-- The start of a game tells each seat its number, that of a hand its tiles, and a draw is seen by its seat alone. All else hides
-- nothing from a seat that another sees.
abbrev pub are_told_alike : ℕ → ℕ → Deed → Bool
are_told_alike seat other (StartGame names) = false
are_told_alike seat other (StartHand round number honba deposits dealer indicator hands) = false
are_told_alike seat other (Draw who tile replacement) = not (who == seat) && not (who == other)
are_told_alike seat other deed = true
