-- A seat that passes in the usual spelling, which is seen before its line is split; and an answer, whatever line reads so.
use Rattle.std.proofs.Common.{◌≡◌, ℕ, zero, suc, ◌+◌, ◌<◌, false, List, ◌∷◌, ◌++◌, refl, ap, sym, ◌∙◌, subst, arith}
use Rattle.std.specs.Prelude.{codes}
use Rattle.mj_bytes.specs.Parts.{has_byte, BeginsWithLine}
use Rattle.mj_bytes.proofs.PartLaws.{begins_with_line}
use Rattle.mj_deeds.specs.declared.answer.Answer.{Answer}
use Rattle.mj_forms.specs.AnswerForms.{answer_of}
use Rattle.mj_history.specs.After.{Verdict}
use Rattle.mj_history.specs.Legal.{Game}
use Rattle.mj_history.specs.Arrivals.{Arrival, Say, arrives, say_arrives}
use Rattle.mj_core.specs.Calls.{Answers}
use Rattle.mj_refereeing.specs.declared.arriving.Arrived.{Arrived}
use Rattle.mj_refereeing.specs.declared.form.FirstLine.{FirstLine}
use Rattle.mj_refereeing.specs.declared.form.FirstLine.TheVariants as firsts
use Rattle.mj_refereeing.specs.Inner.Forms.{pass_text, pass_line, line_of, IsOfSeat}
use Rattle.mj_refereeing.specs.Inner.Intake.{intake_of, Does}
use Rattle.mj_refereeing.proofs.FieldLaws.{say_is}
use Rattle.mj_refereeing.proofs.PlayLaws.{arrives-by}

-- The line of a pass has no newline, so where a text begins with it and a newline, it is the first line.
plain-pass : (seat : ℕ) → seat < 4 → has_byte 10 (pass_line seat) ≡ false
plain-pass zero few = refl
plain-pass (suc zero) few = refl
plain-pass (suc (suc zero)) few = refl
plain-pass (suc (suc (suc zero))) few = refl
plain-pass (suc (suc (suc (suc n)))) few = absurd (omega (arith, few))

pub first-pass : (text rest : List ℕ) (seat : ℕ) → seat < 4 → text ≡ codes "say " ++ (48 + seat) ∷ codes " {\"type\":\"none\"}\n" ++ rest
    → BeginsWithLine text (pass_line seat) rest
first-pass text rest seat few is = begins_with_line text (pass_line seat) rest (record { parts = is; plain = plain-pass seat few })

-- It arrives as a pass that its seat says.
pass-arrives : (game : Game) (seat : ℕ) → seat < 4 → arrives (intake_of game) (pass_line seat) ≡ say_arrives (intake_of game) seat pass_text
pass-arrives game seat few = arrives-by game (pass_line seat) (Say seat pass_text) (say_is (pass_line seat) pass_text seat few refl refl)

-- So it does what its answer does.
pub does-pass : (step : Arrived) (seat speaker who : ℕ) (first : FirstLine) (old new : Game) (told more : List ℕ) (answer : Answer) → first ≡ firsts.Pass who → IsOfSeat first →
    speaker ≡ who → answer ≡ answer_of pass_text → ((text : List ℕ) → answer ≡ answer_of text → Does step seat old new told more (say_arrives (intake_of old) speaker text))
    → Does step seat old new told more (arrives (intake_of old) (line_of first))
does-pass step seat speaker who first old new told more answer is of_seat same reads does =
    subst (λ (arrival : Arrival). Does step seat old new told more arrival)
    (ap (λ (n : ℕ). say_arrives (intake_of old) n pass_text) same ∙ sym (pass-arrives old who (subst IsOfSeat is of_seat))
    ∙ ap (λ (line : FirstLine). arrives (intake_of old) (line_of line)) (sym is))
    (does pass_text reads)

-- An answer is entered as what a line says that reads so.
pub said-as : (text : List ℕ) (answer : Answer) (old new : Game) (author seat : ℕ) (verdict : Verdict) → answer ≡ answer_of text →
    Answers answer old new author seat verdict → Answers (answer_of text) old new author seat verdict
said-as text answer old new author seat verdict reads h = subst (λ (said : Answer). Answers said old new author seat verdict) reads h
