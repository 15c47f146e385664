-- What the value that a line was read as stands for.
use Rattle.std.specs.Prelude.{ℕ, ◌+◌, ◌<◌, List, ◌∷◌, ◌++◌, codes, Option, Some, None}
use Rattle.mjai_answers.specs.Settings.{IsLimited}
use Rattle.mj_refereeing.specs.declared.form.ArrivalForm.{ArrivalForm}
use Rattle.mj_refereeing.specs.declared.form.ArrivalForm.TheVariants as read
use Rattle.mj_refereeing.specs.declared.form.FirstLine.{FirstLine}
use Rattle.mj_refereeing.specs.declared.form.FirstLine.TheVariants as firsts
use Rattle.mj_history.specs.Arrivals.{ArrivalForm as Meaning}
use Rattle.mj_history.specs.Arrivals as arrivals

-- The form of a line, as it was read.
abbrev pub meaning : ArrivalForm → Meaning
meaning (read.Header rules) = arrivals.Header rules
meaning (read.Wall tiles) = arrivals.WallOf tiles.items
meaning (read.Sit line) = arrivals.Sit line.now
meaning (read.Say seat line) = arrivals.Say seat line.now
meaning (read.Leave seat) = arrivals.Leave seat
meaning (read.Expire window t1 t2) = arrivals.Expire window t1 t2
meaning read.NoForm = arrivals.NoForm

-- The form of a line on the end of a window, as its three numbers were read.
abbrev pub expiry_meant : Option (ℕ × ℕ × ℕ) → Meaning
expiry_meant None = arrivals.NoForm
expiry_meant (Some (window, t1, t2)) = arrivals.Expire window t1 t2

-- A header has such a limit.
abbrev pub HasLimit : ArrivalForm → Type 0
HasLimit (read.Header rules) = IsLimited rules
HasLimit (read.Wall tiles) = Unit {0}
HasLimit (read.Sit line) = Unit {0}
HasLimit (read.Say seat line) = Unit {0}
HasLimit (read.Leave seat) = Unit {0}
HasLimit (read.Expire window t1 t2) = Unit {0}
HasLimit read.NoForm = Unit {0}

-- What a seat says that passes, in its usual spelling, and the line of such a seat.
abbrev pub pass_text : List ℕ
pass_text = codes "{\"type\":\"none\"}"

abbrev pub pass_line : ℕ → List ℕ
pass_line seat = codes "say " ++ (48 + seat) ∷ 32 ∷ pass_text

-- The first line, as it was seen. A seat that passes is one of the four.
abbrev pub line_of : FirstLine → List ℕ
line_of (firsts.Pass seat) = pass_line seat
line_of (firsts.Other line) = line.now

abbrev pub IsOfSeat : FirstLine → Type 0
IsOfSeat (firsts.Pass seat) = seat < 4
IsOfSeat (firsts.Other line) = Unit {0}
