-- What the calls of a seated game enter.
use Rattle.std.specs.Prelude.{◌≡◌, ℕ, List, [], ◌∷◌, ◌++◌, Option, Some, None}
use Rattle.mj_ports.specs.declared.entry.Entry.{Entry}
use Rattle.mj_ports.specs.declared.entry.Entry.TheVariants as entry
use Rattle.mj_ports.specs.declared.sitting.JoinLine.{JoinLine}
use Rattle.mj_ports.specs.declared.answers.SitAnswer.{SitAnswer}
use Rattle.mj_ports.specs.declared.answers.SitAnswer.TheVariants as sits
use Rattle.mj_ports.specs.declared.answers.Heard.{Heard}
use Rattle.mj_ports.specs.declared.answers.Heard.TheVariants as heard
use Rattle.mj_ports.specs.declared.answers.Left.{Left}
use Rattle.mj_ports.specs.declared.answers.Left.TheVariants as left
use Rattle.mj_ports.specs.declared.answers.Expiry.{Expiry}
use Rattle.mj_ports.specs.declared.answers.Expiry.TheVariants as expiry
use Rattle.mj_ports.specs.Entries.{next_seat}

-- A line that wants a seat is refused.
abbrev pub IsRefused : SitAnswer → Type 0
IsRefused (sits.Sat seat) = ⊥
IsRefused (sits.Back seat) = ⊥
IsRefused (sits.Refused why) = Unit {0}
IsRefused sits.NoMemory = ⊥

module _ {A : Type 0} (old new : List (Entry A)) where
  -- One entry was added.
  abbrev pub Adding : Entry A → Type 0
  Adding e = new ≡ old ++ e ∷ []

  -- The next seat was taken under the name and key of the join.
  abbrev pub TakesSeat : ℕ → ℕ → Option JoinLine → Type 0
  TakesSeat author seat None = ⊥
  TakesSeat author seat (Some join) = (seat ≡ next_seat old) × Adding (entry.Sat author join.name join.key)

  -- A line that wants a seat is answered as is right, unless memory is wanting, and a seat that is given is entered.
  abbrev pub AnswersSit : SitAnswer → SitAnswer → ℕ → Option JoinLine → Type 0
  AnswersSit (sits.Sat seat) right author join = (right ≡ sits.Sat seat) × TakesSeat author seat join
  AnswersSit (sits.Back seat) right author join = (right ≡ sits.Back seat) × Adding (entry.Back author seat)
  AnswersSit (sits.Refused why) right author join = (right ≡ sits.Refused why) × (new ≡ old)
  AnswersSit sits.NoMemory right author join = new ≡ old

  -- A line of a seat is entered with what it reads as, with the verdict that is right, unless memory is wanting.
  abbrev pub AnswersSaid : {R : Type 0} → Heard R → Heard R → ℕ → ℕ → A → Type 0
  AnswersSaid heard.Taken right author seat answer = (right ≡ heard.Taken) × Adding (entry.Said author seat answer)
  AnswersSaid heard.Late right author seat answer = (right ≡ heard.Late) × Adding (entry.Said author seat answer)
  AnswersSaid (heard.Refused rule) right author seat answer = (right ≡ heard.Refused rule) × Adding (entry.Said author seat answer)
  AnswersSaid (heard.Closing rule) right author seat answer = (right ≡ heard.Closing rule) × Adding (entry.Said author seat answer)
  AnswersSaid heard.NoMemory right author seat answer = new ≡ old

  -- A seat that leaves is entered as gone, unless memory is wanting.
  abbrev pub AnswersGone : Left → ℕ → ℕ → Type 0
  AnswersGone left.Gone author seat = Adding (entry.Gone author seat)
  AnswersGone left.NoMemory author seat = new ≡ old

  -- A window that has run out is entered, unless memory is wanting.
  abbrev pub AnswersExpiry : Expiry → Expiry → ℕ → ℕ → ℕ → ℕ → Type 0
  AnswersExpiry expiry.Closed right author window t1 t2 = (right ≡ expiry.Closed) × Adding (entry.Expired author window t1 t2)
  AnswersExpiry expiry.Stale right author window t1 t2 = (right ≡ expiry.Stale) × (new ≡ old)
  AnswersExpiry expiry.Early right author window t1 t2 = (right ≡ expiry.Early) × (new ≡ old)
  AnswersExpiry expiry.NoMemory right author window t1 t2 = new ≡ old
