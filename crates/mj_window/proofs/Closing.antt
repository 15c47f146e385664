-- When a window closes at which all seats are present.
use Rattle.std.proofs.Common.{◌≡◌, ◌&&◌, ◌||◌, not, Bool, true, false, [], ◌∷◌, refl}
use Rattle.std.specs.Prelude.{Option, is_some}
use Rattle.mj_deeds.specs.declared.four.Four.{Four}
use Rattle.mj_deeds.specs.declared.answer.Answer.{Answer}
use Rattle.mj_window.specs.Slots.{closes}

-- Each of them has answered.
pub all_answered : (slots : Four (Option Answer)) → closes slots (true ∷ true ∷ true ∷ true ∷ []) ≡ true →
    (is_some slots.first && is_some slots.second && is_some slots.third && is_some slots.fourth) ≡ true
all_answered slots h = all (is_some slots.first) (is_some slots.second) (is_some slots.third) (is_some slots.fourth) h
  where
    all : (a b c d : Bool) → not (not a || not b || not c || not d) ≡ true → (a && b && c && d) ≡ true
    all true true true true h = refl
    all false b c d h = cc
    all true false c d h = cc
    all true true false d h = cc
    all true true true false h = cc
