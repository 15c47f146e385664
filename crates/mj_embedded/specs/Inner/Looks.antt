-- Seats that are looked at in turn, each of which passes where it can only pass.
use Rattle.std.specs.Prelude.{ℕ, suc, zero, ◌≡◌, ◌+◌, ◌%◌, ◌⊎◌, false, Result, Ok, Err}
use Rattle.mj_history.specs.Legal.{Game}
use Rattle.mj_embedded.specs.Turns.{HavePassed, PassesOn, can_only_pass}

-- The seat before one.
abbrev pub seat_before : ℕ → ℕ
seat_before seat = (seat + 3) % 4

-- So many seats in a row before one can do something else.
abbrev pub CanElse : ℕ → ℕ → Game → Type 0
CanElse zero seat game = Unit {0}
CanElse (suc number) seat game = (can_only_pass game (seat_before seat) ≡ false) × CanElse number (seat_before seat) game

-- A seat has passed, so that none is known to; or the call ends.
abbrev pub HasPassed : Game → Game → Result ℕ ℕ → Type 0
HasPassed old new (Ok number) = (number ≡ 0) × HavePassed old new
HasPassed old new (Err answer) = PassesOn old new answer

-- A seat has passed; or it can do something else, as so many before it, and nothing has changed; or the call ends.
abbrev pub LooksAt : ℕ → ℕ → Game → Game → Result ℕ ℕ → Type 0
LooksAt seat still old new (Ok number) =
    ((number ≡ 0) × HavePassed old new) ⊎ ((number ≡ still + 1) × ((new ≡ old) × (can_only_pass old seat ≡ false)))
LooksAt seat still old new (Err answer) = PassesOn old new answer
