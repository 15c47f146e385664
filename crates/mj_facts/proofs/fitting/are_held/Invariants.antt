use Rattle.std.proofs.Common.{◌≡◌, ◌+◌, ◌-◌, ◌<◌, ℕ, List, drop, get_or}
use Rattle.std.specs.Prelude.{nat_le}
use Rattle.std.specs.List.{list_all}
use Rattle.mj_tiles.specs.Faces.{number_in}
use Rattle.mj_deeds.specs.Fits.{are_held}
use Rattle.mj_facts.proofs.fitting.are_held.Given as goal

abbrev pub invariant-loop-tile : goal.invariant-loop-tile
invariant-loop-tile l =
    (got gone : List ℕ) → ((face : ℕ) → face < 37 → get_or l.held face 0 + number_in gone face ≡ number_in got face) →
    list_all (λ face. nat_le (number_in l.tiles face) (number_in got face - number_in gone face)) (drop l.tile-index l.tiles) ≡ are_held got gone l.tiles
