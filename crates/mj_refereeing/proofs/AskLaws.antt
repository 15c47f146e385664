-- What answers a question of a game.
use Rattle.std.proofs.Common.{◌≡◌, ℕ, List, [], ◌++◌, refl, ap, sym, ◌∙◌}
use Rattle.std.specs.Prelude.{Result, Ok, Err, IfOk}
use Rattle.std.specs.declared.alloc.AllocError.{AllocError}
use Rattle.mj_bytes.specs.Adds.{Adds}
use Rattle.mj_ports.specs.declared.entry.Entry.{Entry}
use Rattle.mj_deeds.specs.declared.answer.Answer.{Answer}
use Rattle.mj_history.specs.After.{scripts}
use Rattle.mj_history.specs.Legal.{Game}
use Rattle.mj_history.specs.Arrivals.{Input, Intake, at_end, intake_from, setting_of}
use Rattle.mj_core.specs.Calls.{pending_at}
use Rattle.mj_refereeing.specs.declared.intake.End.{End}
use Rattle.mj_refereeing.specs.declared.intake.Question.{Question}
use Rattle.mj_refereeing.specs.declared.intake.Question.TheVariants.{Script, SafeKinds}
use Rattle.mj_refereeing.specs.declared.intake.Told.{Told}
use Rattle.mj_refereeing.specs.Referee.{ending}
use Rattle.mj_refereeing.specs.Inner.Intake.{answer_to, first_answer, HasNothing, InPlay, Tells}
use Rattle.mj_refereeing.proofs.Telling.{script-parts}

-- before the first entry

pub nothing_begun : (question : Question) (input : Input) (seat : ℕ) (end : End) (bytes : List ℕ) → bytes ≡ first_answer question → HasNothing input end → Tells question input seat end bytes
nothing_begun question input seat end bytes is h = record {
  ends = h.ends;
  told = is ∙ by_question question ∙ ap (λ (entries : List (Entry Answer)). answer_to question seat (record { setting = setting_of input.reading; entries = entries })) (sym h.nothing);
}
  where
    by_question : (q : Question) → first_answer q ≡ answer_to q seat (record { setting = setting_of input.reading; entries = [] })
    by_question Script = refl
    by_question SafeKinds = refl

pub told_nothing : (question : Question) (end : End) (input : Input) (seat : ℕ) (result : Result Told AllocError) →
    IfOk result (λ told. (i : Input) (s : ℕ) → HasNothing i end → Tells question i s told.end told.bytes.items) → HasNothing input end →
    IfOk result (λ told. Tells question input seat told.end told.bytes.items)
told_nothing question end input seat (Ok told) k h = k input seat h
told_nothing question end input seat (Err e) k h = k

-- An input that ends after its last whole line, of which nothing was entered.
pub nothing_at_end : (input : Input) (reading : Intake) (number : ℕ) (lines : List (List ℕ)) (unread rest : List ℕ) (end : End) →
    input ≡ intake_from reading number lines unread → lines ≡ [] → unread ≡ rest →
    at_end reading number rest ≡ record { reading = reading; ending = ending end } → reading.entries ≡ [] → HasNothing input end
nothing_at_end input reading number lines unread rest end is none same at empty =
    let all : input ≡ record { reading = reading; ending = ending end } =
    is ∙ ap (λ (ls : List (List ℕ)). intake_from reading number ls unread) none ∙ ap (at_end reading number) same ∙ at in
    record {
      ends = ap (λ (i : Input). i.ending) all;
      nothing = ap (λ (i : Input). i.reading.entries) all ∙ empty;
    }

-- of a game in play

pub script_is : (seat : ℕ) (game : Game) (told all : List ℕ) → InPlay seat game told → Adds told all (pending_at game seat) → all ≡ scripts seat game.setting game.entries
script_is seat game told all play adds = adds.is ∙ ap (λ (xs : List ℕ). xs ++ pending_at game seat) play.bytes ∙ sym (script-parts seat game)
