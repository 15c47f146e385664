-- A slot that was empty, and is emptied again.
use Rattle.std.proofs.Common.{◌≡◌, ◌==◌, ℕ, Bool, true, false, cond, sym, ap, ◌∙◌}
use Rattle.std.specs.Prelude.{Option, Some, None}
use Rattle.mj_deeds.specs.declared.four.Four.{Four}
use Rattle.mj_deeds.specs.declared.answer.Answer.{Answer}
use Rattle.mj_deeds.specs.Four.{at_seat}
use Rattle.mj_window.specs.Slots.{put_at, emptied_at}

abbrev put : Bool → Bool → Bool → Four (Option Answer) → Answer → Four (Option Answer)
put a b c slots answer =
    cond a (record slots { first = Some answer }) (cond b (record slots { second = Some answer }) (cond c (record slots { third = Some answer }) (record slots { fourth = Some answer })))

abbrev emptied : Bool → Bool → Bool → Four (Option Answer) → Four (Option Answer)
emptied a b c slots = cond a (record slots { first = None }) (cond b (record slots { second = None }) (cond c (record slots { third = None }) (record slots { fourth = None })))

by : (a b c : Bool) (slots : Four (Option Answer)) (answer : Answer) → cond a slots.first (cond b slots.second (cond c slots.third slots.fourth)) ≡ None →
    emptied a b c (put a b c slots answer) ≡ slots
by true b c slots answer none = ap (λ slot. record slots { first = slot }) (sym none)
by false true c slots answer none = ap (λ slot. record slots { second = slot }) (sym none)
by false false true slots answer none = ap (λ slot. record slots { third = slot }) (sym none)
by false false false slots answer none = ap (λ slot. record slots { fourth = slot }) (sym none)

-- Its answer leaves the slots as they were before it came.
pub emptied_again : (slots filled : Four (Option Answer)) (answer : Answer) (seat : ℕ) → at_seat slots seat ≡ None → filled ≡ put_at slots seat answer → emptied_at filled seat ≡ slots
emptied_again slots filled answer seat none is = ap (λ s. emptied_at s seat) is ∙ by (seat == 0) (seat == 1) (seat == 2) slots answer none
