-- Seats that can only pass pass one after another, and what is looked up between leaves the game as it is.
use Rattle.std.proofs.Common.{◌≡◌, ℕ, zero, suc, ◌+◌, ◌<◌, ◌≤◌, inl, inr, ◌&&◌, not, Bool, true, false, length, refl, sym, ◌∙◌, subst, arith}
use Rattle.std.specs.Prelude.{Result, Ok, Err, IfOk, nat_lt}
use Rattle.std.specs.declared.alloc.AllocError.{AllocError}
use Rattle.std.proofs.lemmas.Bool.{lt-ltb}
use Rattle.mj_deeds.specs.Four.{next_seat}
use Rattle.mj_history.specs.Legal.{Game}
use Rattle.mj_history.specs.Shown.{line_at}
use Rattle.mj_core.specs.Calls.{after_of, due_of, may_say_at, line_of}
use Rattle.mj_embedded.specs.Answers.{done, late, no_memory}
use Rattle.mj_embedded.specs.Turns.{HavePassed, Stays, Passes, Passed, PassesOn, Rests, NotPassed, NotListed, GoesOn, can_only_pass, is_at_rest, shows_pass}
use Rattle.mj_embedded.specs.Inner.Looks.{seat_before, CanElse, LooksAt}

-- Those who have passed, one after another, and then others.
have_both : (old mid new : Game) → HavePassed old mid → HavePassed mid new → HavePassed old new
have_both old mid new before Stays = before
have_both old mid new before (Passes late_mid last seat answer have may passed) = Passes late_mid last seat answer (have_both old mid late_mid before have) may passed

pub goes_on : (old mid new : Game) (answer : ℕ) → HavePassed old mid → PassesOn mid new answer → PassesOn old new answer
goes_on old mid new answer before (Rests is have rest) = Rests is (have_both old mid new before have) rest
goes_on old mid new answer before (NotPassed late_mid seat have may passed not_done not_late) =
    NotPassed late_mid seat (have_both old mid late_mid before have) may passed not_done not_late
goes_on old mid new answer before (NotListed is have) = NotListed is (have_both old mid new before have)
goes_on old mid new answer before (GoesOn is have) = GoesOn is (have_both old mid new before have)

-- Memory is wanting for a look.
pub not_listed : (old new : Game) → new ≡ old → PassesOn old new no_memory
not_listed old new is = NotListed refl (subst (λ (g : Game). HavePassed old g) (sym is) Stays)

-- A seat that can only pass passes, or its pass isn't taken.
pub one_passes : (old new : Game) (seat answer : ℕ) → can_only_pass old seat ≡ true → Passed seat old new answer → HavePassed old new
one_passes old new seat answer may passed = Passes old new seat answer Stays may passed

pub one_stops : (old new : Game) (seat answer : ℕ) → can_only_pass old seat ≡ true → Passed seat old new answer → (answer ≡ done → ⊥) → (answer ≡ late → ⊥) → PassesOn old new answer
one_stops old new seat answer may passed not_done not_late = NotPassed old seat Stays may passed not_done not_late

all_rest : (p q r s : Bool) → p ≡ false → q ≡ false → r ≡ false → s ≡ false → (not p && (not q && (not r && not s))) ≡ true
all_rest p q r s e f g h = cc

-- A seat comes after the one before it.
before_next : (seat : ℕ) → seat ≤ 3 → seat_before (next_seat seat) ≡ seat
before_next zero low = refl
before_next (suc zero) low = refl
before_next (suc (suc zero)) low = refl
before_next (suc (suc (suc zero))) low = refl
before_next (suc (suc (suc (suc seat)))) low = absurd (omega (arith, low))

pub next_low : (seat : ℕ) → seat ≤ 3 → next_seat seat ≤ 3
next_low zero low = omega arith
next_low (suc zero) low = omega arith
next_low (suc (suc zero)) low = omega arith
next_low (suc (suc (suc zero))) low = omega arith
next_low (suc (suc (suc (suc seat)))) low = absurd (omega (arith, low))

-- After a look.
pub looked_on : (seat still : ℕ) (old game new : Game) (number : ℕ) → seat ≤ 3 → HavePassed old game → CanElse still seat game → LooksAt seat still game new (Ok number) →
    HavePassed old new × CanElse number (next_seat seat) new
looked_on seat still old game new number low have can (inl passed) =
    (have_both old game new have passed.1, subst (λ (n : ℕ). CanElse n (next_seat seat) new) (sym passed.0) tt)
looked_on seat still old game new number low have can (inr same) = (
  subst (λ (g : Game). HavePassed old g) (sym same.1.0) have,
  subst (λ (g : Game). CanElse number (next_seat seat) g) (sym same.1.0)
      (subst (λ (n : ℕ). CanElse n (next_seat seat) game) (sym (one_more still) ∙ sym same.0)
      (subst (λ (s : ℕ). (can_only_pass game s ≡ false) × CanElse still s game) (sym (before_next seat low)) (same.1.1, can))),
)
  where
    one_more : (n : ℕ) → n + 1 ≡ suc n
    one_more n = omega arith

pub still_few : (seat still : ℕ) (game new : Game) (number : ℕ) → still ≤ 3 → LooksAt seat still game new (Ok number) → (number ≡ 4 → ⊥) → number ≤ 3
still_few seat still game new number few (inl passed) not_four = omega (arith, passed.0)
still_few seat still game new number few (inr same) not_four = omega (arith, few, same.0, not_four)

-- Four in a row are all.
at_rest : (seat : ℕ) (game : Game) → seat ≤ 3 → CanElse 4 seat game → is_at_rest game ≡ true
at_rest zero game low can = all_rest _ _ _ _ can.1.1.1.0 can.1.1.0 can.1.0 can.0
at_rest (suc zero) game low can = all_rest _ _ _ _ can.0 can.1.1.1.0 can.1.1.0 can.1.0
at_rest (suc (suc zero)) game low can = all_rest _ _ _ _ can.1.0 can.0 can.1.1.1.0 can.1.1.0
at_rest (suc (suc (suc zero))) game low can = all_rest _ _ _ _ can.1.1.0 can.1.0 can.0 can.1.1.1.0
at_rest (suc (suc (suc (suc seat)))) game low can = absurd (omega (arith, low))

pub rests : (seat still : ℕ) (old game new : Game) (number : ℕ) → seat ≤ 3 → HavePassed old game → CanElse still seat game → LooksAt seat still game new (Ok number) → number ≡ 4 →
    PassesOn old new done
rests seat still old game new number low have can looks four =
    let after = looked_on seat still old game new number low have can looks in
    Rests refl after.0 (at_rest (next_seat seat) new (next_low seat low) (subst (λ (n : ℕ). CanElse n (next_seat seat) new) four after.1))

-- What a seat can do is what it could before a look.
pub looked : (old same : Game) (seat : ℕ) (is : Bool) → same ≡ old → is ≡ can_only_pass same seat → is ≡ can_only_pass old seat
looked old same seat is unchanged e = subst (λ (g : Game). is ≡ can_only_pass g seat) unchanged e

-- A seat that may say a line to a deed can only pass where the line of that shows it.
whole : (a b c : Bool) → true ≡ a → b ≡ true → c ≡ (a && (b && c))
whole a b c e f = subst (λ (x : Bool). c ≡ (x && (b && c))) e (subst (λ (y : Bool). c ≡ (true && (y && c))) (sym f) refl)

pub passes_by : (found : Result Bool AllocError) (game : Game) (seat due : ℕ) → true ≡ may_say_at game seat → due ≡ due_of game seat → due < length (after_of game).deeds
    → IfOk found (λ (is : Bool). is ≡ shows_pass (line_of game seat due)) → IfOk found (λ (is : Bool). is ≡ can_only_pass game seat)
passes_by (Ok is) game seat due may at low e =
    subst (λ (d : ℕ). is ≡ (may_say_at game seat && (nat_lt d (length (after_of game).deeds) && shows_pass (line_at game.setting.rules (after_of game).deeds seat d)))) at
    (e ∙ whole (may_say_at game seat) (nat_lt due (length (after_of game).deeds)) (shows_pass (line_of game seat due)) may (lt-ltb due (length (after_of game).deeds) low))
passes_by (Err error) game seat due may at low e = e
