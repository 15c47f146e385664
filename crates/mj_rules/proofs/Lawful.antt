-- Answers that break no rule: a pass where it is open, and a discard of a tile that is held_count, is marked as it is, and is free.
use Rattle.std.proofs.Common.{◌≡◌, ℕ, ◌<◌, ◌&&◌, ◌||◌, not, Bool, true, false, ltb, [], ◌∷◌, None, refl, ap, arith}
use Rattle.std.proofs.lemmas.Bool.{eq-eqb, le-ltb}
use Rattle.mj_tiles.specs.Faces.{number_in}
use Rattle.mj_deeds.specs.declared.answer.Pai.TheVariants.{Known}
use Rattle.mj_deeds.specs.declared.answer.Answer.TheVariants.{Pass, Discard}
use Rattle.mj_wall.specs.declared.setting.Rules.{Rules}
use Rattle.mj_rules.specs.Broken.{discards_unready, is_open, is_no_tile, is_wrongly_marked, is_banned_tile, banned_in, questions, broken_by}
use Rattle.mj_rules.specs.View.{SeatView, held_count}
use Rattle.mj_rules.proofs.Questions.{AllNo, none_broken}

-- A pass breaks no rule where it is open.
pub pass_lawful : (rules : Rules) (seat : ℕ) (view : SeatView) → is_open rules seat view.turn view.accepted (Pass None) ≡ true → broken_by rules seat view (Pass None) ≡ None
unfolding broken_by
pass_lawful rules seat view opens =
    let each : AllNo (questions rules seat view (Pass None)) = (
      refl,
      (
        refl,
        (
          ap not opens,
          (
            refl,
            (refl, (refl, (refl, (refl, (never view.accepted, (refl, (refl, (refl, (refl, (refl, (refl, (refl, (refl, (refl, (refl, (refl, (refl, (refl, (refl, (refl, tt)))))))))))))))))))),
          ),
        ),
      ),
    ) in
    none_broken (questions rules seat view (Pass None)) each
  where
    never : (b : Bool) → (b && false) ≡ false
    never true = refl
    never false = refl

one_of : (tile : ℕ) → number_in (tile ∷ []) tile ≡ 1
one_of tile = rw (eq-eqb tile tile refl) refl

-- So does a discard.
pub discard_lawful : (rules : Rules) (seat tile : ℕ) (drawn : Bool) (view : SeatView) →
    is_open rules seat view.turn view.accepted (Discard seat (Known tile) drawn) ≡ true → is_no_tile rules.red (Known tile) ≡ false → 0 < held_count view tile →
    is_wrongly_marked view (Known tile) drawn ≡ false → is_banned_tile (banned_in view.turn) (Known tile) ≡ false →
    (view.accepted && not drawn) ≡ false → discards_unready view view.turn (Known tile) ≡ false →
    broken_by rules seat view (Discard seat (Known tile) drawn) ≡ None
unfolding broken_by
discard_lawful rules seat tile drawn view opens real some marked free unlocked ready =
    let enough : ltb (held_count view tile) (number_in (tile ∷ []) tile) ≡ false = le-ltb (held_count view tile) (number_in (tile ∷ []) tile) (omega (arith, some, one_of tile)) in
    let each : AllNo (questions rules seat view (Discard seat (Known tile) drawn)) = (
      refl,
      (
        ap not (eq-eqb seat seat refl),
        (
          ap not opens,
          (
            ap (λ b. b || false) real,
            (
              refl,
              (
                refl,
                (
                  ap (λ b. b || false) enough,
                  (marked, (unlocked, (refl, (refl, (free, (refl, (refl, (refl, (refl, (refl, (refl, (refl, (ready, (refl, (refl, (refl, (refl, tt))))))))))))))))),
                ),
              ),
            ),
          ),
        ),
      ),
    ) in
    none_broken (questions rules seat view (Discard seat (Known tile) drawn)) each
