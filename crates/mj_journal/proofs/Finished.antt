-- What a call on a kept game answers once it is finished.
use Rattle.std.proofs.Common.{◌≡◌, ℕ, List, Option, Some, None, refl, sym, ◌∙◌, subst}
use Rattle.mj_ports.specs.declared.entry.Entry.{Entry}
use Rattle.mj_ports.specs.declared.sitting.JoinLine.{JoinLine}
use Rattle.mj_ports.specs.declared.answers.SitAnswer.{SitAnswer}
use Rattle.mj_ports.specs.declared.answers.SitAnswer.TheVariants as sits
use Rattle.mj_ports.specs.declared.answers.Heard.{Heard}
use Rattle.mj_ports.specs.declared.answers.Heard.TheVariants as heard
use Rattle.mj_ports.specs.declared.answers.Left.{Left}
use Rattle.mj_ports.specs.declared.answers.Left.TheVariants as left
use Rattle.mj_ports.specs.declared.answers.Expiry.{Expiry}
use Rattle.mj_ports.specs.declared.answers.Expiry.TheVariants as expiry
use Rattle.mj_ports.specs.SeatCalls.{AnswersSit, AnswersSaid, AnswersGone, AnswersExpiry}
use Rattle.mj_journal.specs.Finishing.{Finishes, IsAnswered}
use Rattle.mj_journal.specs.Keeping.{IfKept, Goes, Answers, HadMemory, SparedBy, Spares}
use Rattle.mj_journal.specs.Outcomes.{of_sit, of_said, of_gone, of_expiry}
use Rattle.mj_journal.specs.declared.answered.Answered.{Answered}
use Rattle.mj_journal.specs.declared.answered.Answered.TheVariants.{Done, DiskFault, Stopped, NoMemory as AnsweredNoMemory}
use Rattle.mj_journal.specs.declared.outcome.Outcome.{Outcome}
use Rattle.mj_journal.specs.declared.outcome.Outcome.TheVariants.{NoMemory}

-- the game's own answer is given, and nothing was added where memory was wanting
pub answers : {G S E T : Type 0} (setting : G → S) (history : G → List E) (result : Answered T) (o : Outcome) (of : T → Outcome) (answer : T) (a b : Option G) (old new : G)
    (P : T → S → List E → List E → Type 0) → a ≡ Some old → o ≡ of answer → Finishes result o answer (Some new) b → setting new ≡ setting old
    → P answer (setting old) (history old) (history new) → (of answer ≡ NoMemory → history new ≡ history old)
    → Answers setting history result (λ t s es fs. HadMemory (of t) × P t s es fs) a b
answers {G = G} {T = T} setting history (Done given) o of answer a b old new P is same ends stays holds nothing =
    subst (λ (x : Option G). Goes setting history (λ s es fs. HadMemory (of given) × P given s es fs) x b) (sym is)
    (subst (λ (y : Option G). Goes setting history (λ s es fs. HadMemory (of given) × P given s es fs) (Some old) y) (sym ends.2)
    (stays, subst (λ (t : T). HadMemory (of t) × P t (setting old) (history old) (history new)) (sym ends.0) (subst HadMemory same ends.1, holds)))
answers {G = G} setting history DiskFault o of answer a b old new P is same ends stays holds nothing =
    subst (λ (x : Option G). Answers setting history DiskFault (λ t s es fs. HadMemory (of t) × P t s es fs) x b) (sym is) ends
answers setting history Stopped o of answer a b old new P is same ends stays holds nothing = absurd ends
answers {G = G} setting history AnsweredNoMemory o of answer a b old new P is same ends stays holds nothing =
    subst (λ (x : Option G). Goes setting history (λ s es fs. fs ≡ es) x b) (sym is)
    (subst (λ (y : Option G). Goes setting history (λ s es fs. fs ≡ es) (Some old) y) (sym ends.1) (stays, nothing (sym same ∙ ends.0)))

-- a game on which nothing was called
pub goes_same : {G S E : Type 0} (setting : G → S) (history : G → List E) (a : Option G) (old : G) → a ≡ Some old → Goes setting history (λ s es fs. fs ≡ es) a (Some old)
goes_same {G = G} setting history a old is = subst (λ (x : Option G). Goes setting history (λ s es fs. fs ≡ es) x (Some old)) (sym is) (refl, refl)

-- a disk isn't touched where no entry was added
pub spares_so : {G T D : Type 0} (result : Answered T) (o : Outcome) (of : T → Outcome) (answer : T) (a b : Option G) (old new : D) → o ≡ of answer → Finishes result o answer a b
    → Spares result (λ t. o) old new → Spares result of old new
spares_so {T = T} (Done given) o of answer a b old new same ends spares =
    subst (λ (t : T). SparedBy (of t) old new) (sym ends.0) (subst (λ (x : Outcome). SparedBy x old new) same spares)
spares_so DiskFault o of answer a b old new same ends spares = record {}
spares_so Stopped o of answer a b old new same ends spares = absurd ends
spares_so AnsweredNoMemory o of answer a b old new same ends spares = spares

if_kept : {G : Type 0} (b : Option G) (R : Type 0) → R → IfKept b (λ game. R)
if_kept None R rest = record {}
if_kept (Some game) R rest = rest

-- what holds where the disk didn't fail, of a game that isn't stopped
pub rest_so : {G T : Type 0} (result : Answered T) (o : Outcome) (answer : T) (a b : Option G) (R : Type 0) → Finishes result o answer a b → (IsAnswered result → R) → IfKept b (λ game. R)
rest_so (Done given) o answer a b R ends rest = if_kept b R (rest (record {}))
rest_so {G = G} DiskFault o answer a b R ends rest = subst (λ (x : Option G). IfKept x (λ game. R)) (sym ends) (record {})
rest_so Stopped o answer a b R ends rest = absurd ends
rest_so AnsweredNoMemory o answer a b R ends rest = if_kept b R (rest (record {}))

-- where memory was wanting no entry was added
module _ {A : Type 0} (old new : List (Entry A)) where
  pub sit_stays : (answer right : SitAnswer) (author : ℕ) (join : Option JoinLine) → AnswersSit old new answer right author join → of_sit answer ≡ NoMemory → new ≡ old
  sit_stays (sits.Sat seat) right author join is wanting = absurd (cc wanting)
  sit_stays (sits.Back seat) right author join is wanting = absurd (cc wanting)
  sit_stays (sits.Refused why) right author join is wanting = is.1
  sit_stays sits.NoMemory right author join is wanting = is

  pub said_stays : {R : Type 0} (answer right : Heard R) (author seat : ℕ) (reads : A) → AnswersSaid old new answer right author seat reads → of_said answer ≡ NoMemory → new ≡ old
  said_stays heard.Taken right author seat reads is wanting = absurd (cc wanting)
  said_stays heard.Late right author seat reads is wanting = absurd (cc wanting)
  said_stays (heard.Refused rule) right author seat reads is wanting = absurd (cc wanting)
  said_stays (heard.Closing rule) right author seat reads is wanting = absurd (cc wanting)
  said_stays heard.NoMemory right author seat reads is wanting = is

  pub gone_stays : (answer : Left) (author seat : ℕ) → AnswersGone old new answer author seat → of_gone answer ≡ NoMemory → new ≡ old
  gone_stays left.Gone author seat is wanting = absurd (cc wanting)
  gone_stays left.NoMemory author seat is wanting = is

  pub expiry_stays : (answer right : Expiry) (author window t1 t2 : ℕ) → AnswersExpiry old new answer right author window t1 t2 → of_expiry answer ≡ NoMemory → new ≡ old
  expiry_stays expiry.Closed right author window t1 t2 is wanting = absurd (cc wanting)
  expiry_stays expiry.Stale right author window t1 t2 is wanting = is.1
  expiry_stays expiry.Early right author window t1 t2 is wanting = is.1
  expiry_stays expiry.NoMemory right author window t1 t2 is wanting = is
