-- Answers that a deed tells of: what stands at each seat, and the ones that are lawful, a pass where a window lets it, the own
-- answer of a seat, and a win that names no tile.
use Rattle.std.proofs.Common.{◌≡◌, ℕ, zero, suc, ◌<◌, ◌==◌, inl, inr, ◌&&◌, ◌||◌, not, Bool, true, false, cond, List, refl, ap, sym, ◌∙◌, subst, arith}
use Rattle.std.specs.Prelude.{Option, Some, None}
use Rattle.std.specs.Option.{option_map_or}
use Rattle.std.proofs.lemmas.Bool.{cases_eq, ne_eqb, eq-eqb, eqb-true, or_parts, not-false}
use Rattle.mj_deeds.specs.declared.four.Four.{Four}
use Rattle.mj_deeds.specs.declared.answer.Pai.{Pai}
use Rattle.mj_deeds.specs.declared.answer.Answer.{Answer}
use Rattle.mj_deeds.specs.declared.answer.Answer.TheVariants as answers
use Rattle.mj_deeds.specs.declared.deed.Deed.{Deed}
use Rattle.mj_deeds.specs.Four.{at_seat, for_each_seat}
use Rattle.mj_deeds.specs.Facts.{newest}
use Rattle.mj_window.specs.Decided.{is_win, decision_by}
use Rattle.mj_wall.specs.declared.setting.Rules.{Rules}
use Rattle.mj_rules.specs.View.{WindowTurn, Drew, Discarded, Added, Reached, Called, Nobodys, SeatView, view_of, turn_by}
use Rattle.mj_rules.specs.Broken.{actor_of, is_another, is_open, is_other_tile, misses_winning, questions, broken_by}
use Rattle.mj_rules.specs.Outcome.{follows}
use Rattle.mj_rules.specs.Played.{IsLawful, AllLawful}
use Rattle.mj_rules.proofs.Questions.{AllNo, none_broken, all_no}
use Rattle.mj_rules.proofs.Lawful.{pass_lawful}
use Rattle.mj_rules.proofs.Turns.{turn_is}
use Rattle.mj_history.specs.Told.{only_of, told_of}

-- What a deed tells after the newest one: the answers are lawful, and give it.
pub record Tells (rules : Rules) (walls : List (List ℕ)) (ds : List Deed) (n d : Deed) : Type 0 where
  pub lawful : (seat : ℕ) → seat < 4 → IsLawful rules ds seat (told_of (Some n) d seat)
  pub gives : follows rules walls ds n (decision_by n (for_each_seat (told_of (Some n) d))) ≡ Some d

-- One deed is the other where some deed is.
pub some_is : (a b : Deed) → Some a ≡ Some b → a ≡ b
some_is a b e = cc

-- at each seat

pub at_each : {A : Type 0} (f : ℕ → A) (seat : ℕ) → seat < 4 → at_seat (for_each_seat f) seat ≡ f seat
at_each f zero h = refl
at_each f (suc zero) h = refl
at_each f (suc (suc zero)) h = refl
at_each f (suc (suc (suc zero))) h = refl
at_each f (suc (suc (suc (suc n)))) h = absurd (omega (arith, h))

pub lawful_at : (rules : Rules) (ds : List Deed) (given : Four Answer) (seat : ℕ) → seat < 4 → AllLawful rules ds given → IsLawful rules ds seat (at_seat given seat)
lawful_at rules ds given zero h c = c.first
lawful_at rules ds given (suc zero) h c = c.second
lawful_at rules ds given (suc (suc zero)) h c = c.third
lawful_at rules ds given (suc (suc (suc zero))) h c = c.fourth
lawful_at rules ds given (suc (suc (suc (suc n)))) h c = absurd (omega (arith, h))

pub all_lawful : (rules : Rules) (ds : List Deed) (f : ℕ → Answer) → ((seat : ℕ) → seat < 4 → IsLawful rules ds seat (f seat)) → AllLawful rules ds (for_each_seat f)
all_lawful rules ds f h = record { first = h 0 (omega arith); second = h 1 (omega arith); third = h 2 (omega arith); fourth = h 3 (omega arith) }

-- The one seat that does something, and the others.
pub only_own : (who : ℕ) (answer : Answer) → only_of who answer who ≡ answer
only_own who answer = ap (λ b. cond b answer (answers.Pass None)) (eq-eqb who who refl)

pub only_other : (who seat : ℕ) (answer : Answer) → (who ≡ seat → ⊥) → only_of who answer seat ≡ answers.Pass None
only_other who seat answer ne = ap (λ b. cond b answer (answers.Pass None)) (ne_eqb who seat ne)

-- passes

-- A pass is lawful where the window lets it.
pub pass_is_lawful : (rules : Rules) (ds : List Deed) (n : Deed) (seat : ℕ) → newest ds ≡ Some n → ((accepted : Bool) → is_open rules seat (turn_by n) accepted (answers.Pass None) ≡ true) →
    IsLawful rules ds seat (answers.Pass None)
pass_is_lawful rules ds n seat e opens = record {
  form = refl;
  clean = pass_lawful rules seat (view_of ds seat) (ap (λ t. is_open rules seat t (view_of ds seat).accepted (answers.Pass None)) (turn_is ds seat n e) ∙ opens (view_of ds seat).accepted);
}

-- The answer of one seat alone is lawful where it is lawful for that and the others may pass.
pub only_lawful : (rules : Rules) (ds : List Deed) (who : ℕ) (answer : Answer) (seat : ℕ) → IsLawful rules ds who answer →
    ((who ≡ seat → ⊥) → IsLawful rules ds seat (answers.Pass None)) → IsLawful rules ds seat (only_of who answer seat)
only_lawful rules ds who answer seat own other = elim (cases_eq who seat) [
  | inl e ↦ subst (λ s. IsLawful rules ds s (only_of who answer s)) e (subst (IsLawful rules ds who) (sym (only_own who answer)) own)
  | inr ne ↦ subst (IsLawful rules ds seat) (sym (only_other who seat answer ne)) (other ne)
]

-- own answers

-- A lawful answer names its own seat.
pub actor_is : (rules : Rules) (seat : ℕ) (view : SeatView) (answer : Answer) (actor : ℕ) → broken_by rules seat view answer ≡ None → actor_of answer ≡ Some actor → actor ≡ seat
unfolding broken_by
actor_is rules seat view answer actor h e =
    let mine : is_another seat (actor_of answer) ≡ false = (all_no (questions rules seat view answer) h).1.0 in
    eqb-true actor seat (not-false (actor == seat) (ap (is_another seat) (sym e) ∙ mine))

-- So it is lawful with its seat as the actor.
pub as_own : (rules : Rules) (ds : List Deed) (seat : ℕ) (f : ℕ → Answer) (actor : ℕ) → IsLawful rules ds seat (f actor) → actor_of (f actor) ≡ Some actor → IsLawful rules ds seat (f seat)
as_own rules ds seat f actor l e = subst (λ a. IsLawful rules ds seat (f a)) (actor_is rules seat (view_of ds seat) (f actor) actor l.clean e) l

-- wins

-- The seat that a win of a seat names as its target.
abbrev pub target_in : ℕ → WindowTurn → ℕ
target_in seat (Discarded who tile) = who
target_in seat (Added who tile) = who
target_in seat other = seat

hits_unnamed : (seat : ℕ) (view : SeatView) (target : ℕ) (tile : Option Pai) (turn : WindowTurn) → misses_winning seat view target tile turn ≡ false →
    misses_winning seat view (target_in seat turn) None turn ≡ false
hits_unnamed seat view target tile (Drew who) h =
    ap (λ b. not b || option_map_or (λ drawn. is_other_tile drawn None) view.drawn true) (eq-eqb seat seat refl) ∙ some view.drawn (or_parts (not (target == seat)) _ h).1
  where
    some : (o : Option ℕ) → option_map_or (λ drawn. is_other_tile drawn tile) o true ≡ false → option_map_or (λ drawn. is_other_tile drawn None) o true ≡ false
    some None h = cc
    some (Some drawn) h = refl
hits_unnamed seat view target tile (Discarded who discarded) h = ap (λ b. not b || false) (eq-eqb who who refl)
hits_unnamed seat view target tile (Added who added) h = ap (λ b. not b || false) (eq-eqb who who refl)
hits_unnamed seat view target tile (Reached who) h = cc
hits_unnamed seat view target tile (Called who banned) h = cc
hits_unnamed seat view target tile Nobodys h = cc

win_opens : (rules : Rules) (seat : ℕ) (turn : WindowTurn) (accepted : Bool) (a t b u : ℕ) (p q : Option Pai) →
    is_open rules seat turn accepted (answers.Win a t p) ≡ is_open rules seat turn accepted (answers.Win b u q)
win_opens rules seat (Drew who) accepted a t b u p q = refl
win_opens rules seat (Discarded who tile) accepted a t b u p q = refl
win_opens rules seat (Added who tile) accepted a t b u p q = refl
win_opens rules seat (Reached who) accepted a t b u p q = refl
win_opens rules seat (Called who banned) accepted a t b u p q = refl
win_opens rules seat Nobodys accepted a t b u p q = refl

unnamed : (rules : Rules) (seat : ℕ) (view : SeatView) (actor target : ℕ) (tile : Option Pai) → broken_by rules seat view (answers.Win actor target tile) ≡ None →
    broken_by rules seat view (answers.Win seat (target_in seat view.turn) None) ≡ None
unfolding broken_by
unnamed rules seat view actor target tile h =
    let u = all_no (questions rules seat view (answers.Win actor target tile)) h in
    let last = u.1.1.1.1.1.1.1.1.1.1.1.1.1.1.1.1.1.1.1.1 in
    let opens : not (is_open rules seat view.turn view.accepted (answers.Win seat (target_in seat view.turn) None)) ≡ false =
    ap not (win_opens rules seat view.turn view.accepted seat (target_in seat view.turn) actor target None tile) ∙ u.1.1.0 in
    let each : AllNo (questions rules seat view (answers.Win seat (target_in seat view.turn) None)) = (
      refl,
      (
        ap not (eq-eqb seat seat refl),
        (
          opens,
          (
            refl,
            (
              hits_unnamed seat view target tile view.turn u.1.1.1.1.0,
              (
                refl,
                (
                  refl,
                  (
                    refl,
                    (
                      never view.accepted,
                      (
                        refl,
                        (
                          refl,
                          (
                            refl,
                            (
                              refl,
                              (
                                refl,
                                (
                                  refl,
                                  (refl, (refl, (refl, (refl, (refl, (last.0, (last.1.0, (last.1.1.0, (refl, tt))))))))),
                                ),
                              ),
                            ),
                          ),
                        ),
                      ),
                    ),
                  ),
                ),
              ),
            ),
          ),
        ),
      ),
    ) in
    none_broken (questions rules seat view (answers.Win seat (target_in seat view.turn) None)) each
  where
    never : (b : Bool) → (b && false) ≡ false
    never true = refl
    never false = refl

-- A lawful win is lawful with its tile left unnamed.
pub win_is_lawful : (rules : Rules) (ds : List Deed) (seat : ℕ) (answer : Answer) → IsLawful rules ds seat answer → is_win answer ≡ true →
    IsLawful rules ds seat (answers.Win seat (target_in seat (view_of ds seat).turn) None)
win_is_lawful rules ds seat (answers.Win actor target tile) l h = record { form = refl; clean = unnamed rules seat (view_of ds seat) actor target tile l.clean }
win_is_lawful rules ds seat other l h = cc

-- In a window whose deed is known, a lawful win is lawful at its target with the tile left unnamed.
pub win_in : (rules : Rules) (ds : List Deed) (n : Deed) (seat target : ℕ) (answer : Answer) → newest ds ≡ Some n →
    target_in seat (turn_by n) ≡ target → IsLawful rules ds seat answer → is_win answer ≡ true →
    IsLawful rules ds seat (answers.Win seat target None)
win_in rules ds n seat target answer e there l h =
    subst (λ t. IsLawful rules ds seat (answers.Win seat t None)) (ap (target_in seat) (turn_is ds seat n e) ∙ there) (win_is_lawful rules ds seat answer l h)
