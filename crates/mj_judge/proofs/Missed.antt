-- What decides whether a seat is furiten, as it is read.
use Rattle.std.proofs.Common.{◌≡◌, ℕ, List, false, length, refl, sym, ap, ◌∙◌}
use Rattle.std.specs.List.{flat_map}
use Rattle.mj_tiles.specs.Counts.{NoFifth, kind_counts}
use Rattle.mj_tiles.specs.Kinds.{kinds_that}
use Rattle.mj_tiles.specs.Melds.{tiles_of_meld}
use Rattle.mj_table.proofs.RoomSteps.{room_within}
use Rattle.mj_waits.specs.Waits.{is_wait}
use Rattle.mj_waits.specs.Furiten.{is_furiten}
use Rattle.mj_rules.specs.Broken.{waits_of}
use Rattle.mj_rules.specs.View.{SeatView, concealed, room}
use Rattle.mj_judge.specs.Inner.Missed.{facts_of}

-- The facts that are read of a seat are those that it knows.
pub facts_are : (view : SeatView) (waits own passed since : ℕ) (counts left : List ℕ) (melds : ℕ) → waits ≡ kinds_that (is_wait counts left melds) → own ≡ view.own → passed ≡ view.passed →
    since ≡ view.passed_in_riichi → counts ≡ kind_counts (concealed view) → left ≡ room view → melds ≡ length view.melds →
    is_furiten (record { waits = waits; own = own; passed = passed; passed_in_riichi = since }) ≡ is_furiten (facts_of view)
unfolding waits_of
facts_are view waits own passed since counts left melds e f g h k l m =
    ap is_furiten (λ i. record { waits = same i; own = f i; passed = g i; passed_in_riichi = h i })
  where
    same : waits ≡ waits_of view
    same = e ∙ (λ i. kinds_that (is_wait (k i) (l i) (m i)))

-- Where no kind that it missed completes its hand, a seat isn't furiten.
pub not_missing : (view : SeatView) (own passed since : ℕ) (counts : List ℕ) (melds : ℕ) → own ≡ view.own → passed ≡ view.passed → since ≡ view.passed_in_riichi →
    counts ≡ kind_counts (concealed view) → melds ≡ length view.melds →
    ((left : List ℕ) → NoFifth left → is_furiten (record { waits = kinds_that (is_wait counts left melds); own = own; passed = passed; passed_in_riichi = since }) ≡ false) →
    false ≡ is_furiten (facts_of view)
not_missing view own passed since counts melds e f g k m none =
    sym (none (room view) (room_within (flat_map tiles_of_meld view.melds)))
    ∙ facts_are view (kinds_that (is_wait counts (room view) melds)) own passed since counts (room view) melds refl e f g k refl m
