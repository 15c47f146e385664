use Rattle.std.specs.Prelude.{ℕ, ◌+◌, ◌%◌, ◌==◌, if◌then◌else◌}
use Rattle.mj_deeds.specs.declared.four.Four.{Four}

-- what stands at a seat
abbrev pub at_seat : {A : Type 0} → Four A → ℕ → A
at_seat four seat = if seat == 0 then four.first else (if seat == 1 then four.second else (if seat == 2 then four.third else four.fourth))

-- f of each seat
abbrev pub for_each_seat : {A : Type 0} → (ℕ → A) → Four A
for_each_seat f = record { first = f 0; second = f 1; third = f 2; fourth = f 3 }

-- the seat whose turn comes after that of a seat: after seat 3 comes seat 0
abbrev pub next_seat : ℕ → ℕ
next_seat seat = (seat + 1) % 4
