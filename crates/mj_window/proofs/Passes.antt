-- Four passes decide nothing on a discard.
use Rattle.std.proofs.Common.{◌≡◌, ◌==◌, ◌+◌, ◌%◌, ℕ, Bool, true, false, cond, refl, sym, subst, arith}
use Rattle.std.specs.Prelude.{Option}
use Rattle.mj_deeds.specs.declared.four.Four.{Four}
use Rattle.mj_deeds.specs.declared.answer.Answer.{Answer}
use Rattle.mj_deeds.specs.declared.answer.Answer.TheVariants as answers
use Rattle.mj_deeds.specs.Four.{at_seat}
use Rattle.mj_window.specs.declared.decision.Decision.TheVariants.{Pass}
use Rattle.mj_window.specs.Decided.{rons_or, rons_on, call_or_pass, best_bid, is_win}
use Rattle.mj_window.specs.Inner.Passes.{ArePasses}

-- These four passes, by their actors.
abbrev four_passes : Option ℕ → Option ℕ → Option ℕ → Option ℕ → Four Answer
four_passes a b c d = record { first = answers.Pass a; second = answers.Pass b; third = answers.Pass c; fourth = answers.Pass d }

no_win : (a b c d : Option ℕ) (seat : ℕ) → is_win (at_seat (four_passes a b c d) seat) ≡ false
no_win a b c d seat = by (seat == 0) (seat == 1) (seat == 2)
  where
    by : (x y z : Bool) → is_win (cond x (answers.Pass a) (cond y (answers.Pass b) (cond z (answers.Pass c) (answers.Pass d)))) ≡ false
    by true y z = refl
    by false true z = refl
    by false false true = refl
    by false false false = refl

nothing : (a b c d : Option ℕ) (seat : ℕ) → rons_or (rons_on seat (four_passes a b c d)) (call_or_pass (best_bid (four_passes a b c d))) ≡ Pass
unfolding best_bid
nothing a b c d seat = rw (no_win a b c d ((seat + 1) % 4), no_win a b c d ((seat + 2) % 4), no_win a b c d ((seat + 3) % 4)) refl

are_these : (given : Four Answer) (passes : ArePasses given)
    → record { first = answers.Pass passes.first.actor; second = answers.Pass passes.second.actor; third = answers.Pass passes.third.actor; fourth = answers.Pass passes.fourth.actor } ≡ given
are_these given passes = grind (arith, passes.first.is, passes.second.is, passes.third.is, passes.fourth.is)

-- Whoever has discarded.
pub passes_decide_nothing : (given : Four Answer) (seat : ℕ) → ArePasses given → Pass ≡ rons_or (rons_on seat given) (call_or_pass (best_bid given))
passes_decide_nothing given seat are = subst (λ g. Pass ≡ rons_or (rons_on seat g) (call_or_pass (best_bid g))) (are_these given are)
    (sym (nothing are.first.actor are.second.actor are.third.actor are.fourth.actor seat))
