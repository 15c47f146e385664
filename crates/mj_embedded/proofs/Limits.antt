-- A seat within the four, and a line within its limit, are heard.
use Rattle.std.proofs.Common.{◌≤◌, ℕ, Bool, false, List, length, sym, subst}
use Rattle.std.specs.Prelude.{nat_lt}
use Rattle.std.proofs.lemmas.Bool.{le-ltb}
use Rattle.mj_forms.specs.AnswerForms.{answer_of}
use Rattle.mj_history.specs.Legal.{Game}
use Rattle.mj_embedded.specs.Calls.{Sits, SitsBy, SitsWithin, Says, SaysBy, Gives, Leaves, LeavesBy, LeavesOne}

pub sits_short : (line : List ℕ) (old_seat seat : ℕ) (old new : Game) (answer : ℕ) → length line ≤ 4095
    → SitsWithin line old_seat seat old new answer → Sits line old_seat seat old new answer
sits_short line old_seat seat old new answer short does =
    subst (λ (b : Bool). SitsBy b line old_seat seat old new answer) (sym (le-ltb 4095 (length line) short)) does

pub says_short : (seat : ℕ) (line : List ℕ) (old_rule rule : ℕ) (old new : Game) (answer : ℕ) → seat ≤ 3 → length line ≤ 4095
    → Gives seat (answer_of line) old_rule rule old new answer → Says seat line old_rule rule old new answer
says_short seat line old_rule rule old new answer four short does =
    subst (λ (a : Bool). SaysBy a (nat_lt 4095 (length line)) seat line old_rule rule old new answer) (sym (le-ltb 3 seat four))
    (subst (λ (b : Bool). SaysBy false b seat line old_rule rule old new answer) (sym (le-ltb 4095 (length line) short)) does)

pub leaves_four : (seat : ℕ) (old new : Game) (answer : ℕ) → seat ≤ 3 → LeavesOne seat old new answer → Leaves seat old new answer
leaves_four seat old new answer four does = subst (λ (b : Bool). LeavesBy b seat old new answer) (sym (le-ltb 3 seat four)) does
