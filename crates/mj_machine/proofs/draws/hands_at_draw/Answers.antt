use Rattle.std.proofs.Common.{◌≤◌, ℕ, List, length, sym, subst}
use Rattle.mj_machine.proofs.draws.hands_at_draw.Goals as goal

pub number_hidden-requires : goal.number_hidden-requires
number_hidden-requires c = subst (λ (xs : List ℕ). length xs ≤ 14) (sym c.in_ok-first.ensures) (c.requires.held 0)

pub number_hidden-requires-2 : goal.number_hidden-requires-2
number_hidden-requires-2 c = subst (λ (xs : List ℕ). length xs ≤ 14) (sym c.in_ok-second.ensures) (c.requires.held 1)

pub number_hidden-requires-3 : goal.number_hidden-requires-3
number_hidden-requires-3 c = subst (λ (xs : List ℕ). length xs ≤ 14) (sym c.in_ok-third.ensures) (c.requires.held 2)

pub number_hidden-requires-4 : goal.number_hidden-requires-4
number_hidden-requires-4 c = subst (λ (xs : List ℕ). length xs ≤ 14) (sym c.in_ok-fourth.ensures) (c.requires.held 3)
