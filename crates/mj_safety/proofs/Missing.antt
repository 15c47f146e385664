-- A seat that let a kind pass, or discarded it, is furiten where it would be complete by it.
use Rattle.std.proofs.Common.{◌≡◌, ℕ, ◌<◌, ◌||◌, true, ltb, List, [], ◌∷◌, ◌++◌, get_or, ap, ◌∙◌}
use Rattle.std.proofs.lemmas.Bool.{and_from, lt-ltb}
use Rattle.mj_tiles.specs.Faces.{kind_of}
use Rattle.mj_tiles.specs.Counts.{kind_counts}
use Rattle.mj_tiles.specs.Kinds.{has_kind, kinds_that}
use Rattle.mj_tiles.proofs.CountSteps.{kind_counts-push}
use Rattle.mj_tiles.proofs.EachKind.{any_kind}
use Rattle.mj_tiles.proofs.KindSets.{has_kind-kinds_that}
use Rattle.mj_readings.specs.Tests.{complete}
use Rattle.mj_waits.specs.Waits.{is_wait}
use Rattle.mj_waits.specs.Furiten.{is_missed, is_furiten}

-- The kind of a tile that completes the hand is a wait where there is room for it.
waits_for : (held : List ℕ) (room : List ℕ) (melds tile : ℕ) → kind_of tile < 34 → get_or (kind_counts held) (kind_of tile) 0 < get_or room
    (kind_of tile) 0 → complete (kind_counts (held ++ tile ∷ [])) melds ≡ true →
    is_wait (kind_counts held) room melds (kind_of tile) ≡ true
waits_for held room melds tile known less done =
    and_from (ltb (get_or (kind_counts held) (kind_of tile) 0) (get_or room (kind_of tile) 0)) _ (lt-ltb _ _ less)
    (ap (λ (counts : List ℕ). complete counts melds) (kind_counts-push held tile known) ∙ done)

-- So a seat that missed it is furiten.
pub missed : (held room : List ℕ) (melds tile own passed since : ℕ) → kind_of tile < 34 → get_or (kind_counts held) (kind_of tile) 0 < get_or room
    (kind_of tile) 0 → complete (kind_counts (held ++ tile ∷ [])) melds ≡ true →
    (has_kind own (kind_of tile) || has_kind passed (kind_of tile) || has_kind since (kind_of tile)) ≡ true →
    is_furiten (record { waits = kinds_that (is_wait (kind_counts held) room melds); own = own; passed = passed; passed_in_riichi = since }) ≡ true
unfolding is_furiten
missed held room melds tile own passed since known less done some =
    any_kind (is_missed (record { waits = kinds_that (is_wait (kind_counts held) room melds); own = own; passed = passed; passed_in_riichi = since })) (kind_of tile) known
    (and_from (has_kind (kinds_that (is_wait (kind_counts held) room melds)) (kind_of tile)) _
    (has_kind-kinds_that (is_wait (kind_counts held) room melds) (kind_of tile) known ∙ waits_for held room melds tile known less done) some)
