-- The lines that a seat is told again.
use Rattle.std.proofs.Common.{◌≡◌, ℕ, zero, suc, ◌+◌, ◌-◌, ◌≤◌, List, [], ◌++◌, sym, ap, ◌∙◌, subst, arith, append_assoc, append-nil}
use Rattle.std.specs.Prelude.{◌∷◌, length}
use Rattle.mj_connection.specs.Seating.{Entry, Control, Showing}
use Rattle.mj_ports.specs.declared.entry.Entry.TheVariants.{Back}
use Rattle.mj_ports.specs.declared.answers.Control.TheVariants as control
use Rattle.mj_ports.specs.Seats.{Begins, lines_to, pending, script, hello, replay}
use Rattle.mj_connection.proofs.Scripts.{script_at}

-- one line more of a seat
lines_more : (w : Showing) (seat k : ℕ) → lines_to w seat (k + 1) ≡ lines_to w seat k ++ w.text seat k
lines_more w seat k = let e : k + 1 ≡ suc k = omega arith in ap (lines_to w seat) e

pub replay_start : (w : Showing) (seat : ℕ) (before head told : List ℕ) → told ≡ before ++ head → told ≡ before ++ (head ++ lines_to w seat 0)
replay_start w seat before head told e = e ∙ ap (λ (l : List ℕ). before ++ l) (sym (append-nil head))

pub replay_more : (w : Showing) (seat k : ℕ) (before head told text told' : List ℕ) → told ≡ before ++ (head ++ lines_to w seat k) →
    text ≡ w.text seat k → told' ≡ told ++ text → told' ≡ before ++ (head ++ lines_to w seat (k + 1))
replay_more w seat k before head told text told' e t f =
    f
    ∙ (ap (λ (l : List ℕ). l ++ text) e
    ∙ (append_assoc before (head ++ lines_to w seat k) text
    ∙ ap (λ (l : List ℕ). before ++ l) (append_assoc head (lines_to w seat k) text ∙ ap (λ (l : List ℕ). head ++ l) (ap (λ (l : List ℕ). lines_to w seat k ++ l) t ∙ sym (lines_more w seat k)))))

-- the first lines of a seat are a beginning of more of them
lines_begin : (w : Showing) (seat k more : ℕ) → (rest : List ℕ) × (lines_to w seat (more + k) ≡ lines_to w seat k ++ rest)
lines_begin w seat k zero = let e : zero + k ≡ k = omega arith in ([], ap (lines_to w seat) e ∙ sym (append-nil (lines_to w seat k)))
lines_begin w seat k (suc more) =
    let before = lines_begin w seat k more in
    let e : suc more + k ≡ suc (more + k) = omega arith in
    (before.0 ++ w.text seat (more + k), ap (lines_to w seat) e ∙ (ap (λ (l : List ℕ). l ++ w.text seat (more + k)) before.1 ∙ append_assoc (lines_to w seat k) before.0 (w.text seat (more + k))))

-- what was told behind the hello line
behind : (first head lines rest before old new : List ℕ) → before ++ old ≡ first → new ≡ old ++ (head ++ lines) → first ++ head ++ (lines ++ rest) ≡ (before ++ new) ++ rest
behind first head lines rest before old new is e =
    sym (append_assoc (first ++ head) lines rest)
    ∙ ap (λ (l : List ℕ). l ++ rest) (append_assoc first head lines ∙ (ap (λ (l : List ℕ). l ++ (head ++ lines)) (sym is)
    ∙ (append_assoc before old (head ++ lines) ∙ ap (λ (l : List ℕ). before ++ l) (sym e))))

module _ {R : Type 0} (says : Control R → List ℕ) (w : Showing) (seat : ℕ) where
  -- what of the script of a connection a text is that was told behind another one
  abbrev pub IsBegun : List ℕ → List ℕ → Type 0
  IsBegun old new = (before : List ℕ) → before ++ old ≡ hello says → (more : List ℕ) × (replay says w seat ≡ (before ++ new) ++ more)

  pub replay_whole : (old new : List ℕ) → new ≡ old ++ (says (control.Head (w.due seat)) ++ lines_to w seat (w.due seat)) → (before : List ℕ) →
      before ++ old ≡ hello says → before ++ new ≡ replay says w seat
  replay_whole old new e before is =
      let lines : List ℕ = lines_to w seat (w.due seat) in
      sym (append-nil (before ++ new)) ∙ (sym (behind (hello says) (says (control.Head (w.due seat))) lines [] before old new is e)
      ∙ ap (λ (l : List ℕ). hello says ++ says (control.Head (w.due seat)) ++ l) (append-nil lines))

  pub replay_none : (old new : List ℕ) → new ≡ old → IsBegun old new
  replay_none old new e before is =
      let head : List ℕ = says (control.Head (w.due seat)) in
      let lines : List ℕ = lines_to w seat (w.due seat) in
      (head ++ lines, append_assoc (hello says) head lines ∙ ap (λ (l : List ℕ). l ++ (head ++ lines)) (sym is ∙ ap (λ (l : List ℕ). before ++ l) (sym e)))

  pub replay_part : (k : ℕ) (old mid new : List ℕ) → k ≤ w.due seat → mid ≡ old ++ (says (control.Head (w.due seat)) ++ lines_to w seat k) → new ≡ mid → IsBegun old new
  replay_part k old mid new near told same before is =
      let whole : (w.due seat - k) + k ≡ w.due seat = omega (arith, near) in
      let begin = lines_begin w seat k (w.due seat - k) in
      let head : List ℕ = says (control.Head (w.due seat)) in
      (begin.0, ap (λ (l : List ℕ). hello says ++ head ++ l) (sym (ap (lines_to w seat) whole) ∙ begin.1) ∙ behind (hello says) head (lines_to w seat k) begin.0 before old new is (same ∙ told))

-- what a connection was told that was told a part of what it is told again is a beginning of its script
pub told_back : {A R : Type 0} → (says : Control R → List ℕ) (after : List (Entry A) → Showing) (author seat place : ℕ) (es es' : List (Entry A))
    (told : List ℕ) → es' ≡ es ++ Back author seat ∷ [] → place ≡ length es
    → Begins author seat (length es) ((after (es ++ Back author seat ∷ [])).due seat) (replay says (after (es ++ Back author seat ∷ [])) seat) (after (es ++ Back author seat ∷ []))
    → (more : List ℕ) × (replay says (after es') seat ≡ told ++ more) → (more : List ℕ) × (script (after es') place ≡ told ++ more)
told_back {A} says after author seat place es es' told added at begins (more, is) =
    let b : Begins author seat place ((after es').due seat) (replay says (after es') seat) (after es') =
    subst (λ (n : ℕ). Begins author seat n ((after es').due seat) (replay says (after es') seat) (after es')) (sym at)
    (subst (λ (l : List (Entry A)). Begins author seat (length es) ((after l).due seat) (replay says (after l) seat) (after l)) (sym added) begins) in (
      more ++ pending (after es') seat,
      script_at (after es') place seat b.seat_of ∙ (ap (λ (l : List ℕ). l ++ pending (after es') seat) (b.told ∙ is)
          ∙ append_assoc told more (pending (after es') seat)),
    )
