-- A toy game of one seat, by which a test shows that the laws of seated games can be met. Its seat is taken by the first
-- entry, each expiry adds a deed, and the answer 0 is refused.
use Rattle.std.specs.Prelude.{◌≡◌, ℕ, zero, suc, ◌+◌, ◌<◌, ◌==◌, Bool, true, false, if◌then◌else◌, List, [], ◌∷◌, ◌++◌, Option, Some, None}
use Rattle.mj_ports.specs.declared.entry.Entry.{Entry}
use Rattle.mj_ports.specs.declared.entry.Entry.TheVariants.{Sat, Back, Said, Gone, Expired}
use Rattle.mj_ports.specs.declared.answers.Heard.{Heard}
use Rattle.mj_ports.specs.declared.answers.Heard.TheVariants.{Taken, Refused}
use Rattle.mj_ports.specs.declared.answers.Control.{Control}
use Rattle.mj_ports.specs.declared.answers.Control.TheVariants as control
use Rattle.mj_ports.specs.Seats.{Showing, pending}

-- Who sits, whether the game has begun, and how far the seat has come.
pub record Toy : Type 0 where
  pub author : Option ℕ
  pub begun : Bool
  pub due : ℕ
  pub is_told : Bool
  pub deeds : ℕ
  pub told : List ℕ

abbrev pub first : Toy
first = record { author = None; begun = false; due = 0; is_told = false; deeds = 0; told = [] }

abbrev pub at_zero : {A : Type 0} → A → A → ℕ → A
at_zero x y zero = x
at_zero x y (suc k) = y

abbrev pub zero_if : Option ℕ → Option ℕ
zero_if None = None
zero_if (Some author) = Some 0

-- What shows of a toy: its seat and its connection have the number 0, and each line is its own number.
abbrev pub shown : Toy → Showing
shown t = record {
  present = at_zero t.author None;
  due = λ _. t.due;
  is_told = λ _. t.is_told;
  deeds = t.deeds;
  text = λ _ k. k ∷ [];
  seat_of = at_zero (zero_if t.author) None;
  told = at_zero t.told [];
  window = None;
  over = false;
}

-- Each control line is one byte.
abbrev pub toy_says : Control ℕ → List ℕ
toy_says control.Hello = 1 ∷ []
toy_says (control.Head n) = 2 ∷ []
toy_says (control.Refused rule) = rule ∷ []
toy_says (control.SitRefused why) = 3 ∷ []

-- What was told and what was pending.
abbrev pub told_all : Toy → List ℕ
told_all t = t.told ++ pending (shown t) 0

abbrev pub toy_hears : ℕ → Heard ℕ
toy_hears answer = if answer == 0 then Refused 7 else Taken

abbrev pub answered : Heard ℕ → Toy → Toy
answered (Refused rule) t = record t { is_told = true; told = told_all t ++ rule ∷ [] }
answered v t = record t { due = t.due + 1; is_told = false; told = told_all t }

abbrev pub toy_step : Toy → Entry ℕ → Toy
toy_step t (Sat author name key) = record { author = Some author; begun = true; due = 0; is_told = false; deeds = t.deeds; told = 1 ∷ [] }
toy_step t (Back author seat) = t
toy_step t (Said author seat answer) = answered (toy_hears answer) t
toy_step t (Gone author seat) = record t { author = None; told = told_all t }
toy_step t (Expired author window t1 t2) = record t { deeds = t.deeds + 1 }

abbrev pub played : Toy → List (Entry ℕ) → Toy
played t [] = t
played t (e ∷ es) = played (toy_step t e) es

abbrev pub IsPermitted : Toy → Entry ℕ → Type 0
IsPermitted t (Sat author name key) = t.begun ≡ false
IsPermitted t (Back author seat) = ⊥
IsPermitted t (Said author seat answer) = (seat ≡ 0) × (t.author ≡ Some author) × (t.due < t.deeds)
IsPermitted t (Gone author seat) = (seat ≡ 0) × (t.author ≡ Some author)
IsPermitted t (Expired author window t1 t2) = t.begun ≡ true

abbrev pub IsLegalFrom : Toy → List (Entry ℕ) → Type 0
IsLegalFrom t [] = Unit {0}
IsLegalFrom t (e ∷ es) = IsPermitted t e × IsLegalFrom (toy_step t e) es
