-- The laws over the forms of lines.
use Rattle.std.specs.Prelude.{◌≡◌, ℕ, ◌-◌, List, [], ◌∷◌, ◌++◌, length, take, codes, true, None}
use Rattle.mj_deeds.specs.declared.deed.Deed.{Deed}
use Rattle.mj_deeds.specs.declared.deed.Viewer.{Viewer}
use Rattle.mj_deeds.specs.Answers.{is_in_form}
use Rattle.mj_deeds.specs.declared.answer.Pai.TheVariants.{Known}
use Rattle.mj_deeds.specs.declared.answer.Answer.TheVariants.{Pass, Chi, Win}
use Rattle.mj_view.specs.Masks.{mask}
use Rattle.mj_forms.specs.AnswerForms.{answer_of}
use Rattle.mj_forms.specs.Choices.{possible_text}
use Rattle.mj_forms.specs.Lines.{line, masked_line}

-- Whatever a line says, it reads as an answer in form.
abbrev pub AnswersThatAreReadAreInForm : Type 0
AnswersThatAreReadAreInForm = (line : List ℕ) → is_in_form (answer_of line) ≡ true

-- The line of a deed for a viewer is made of nothing but what the viewer sees of the deed.
abbrev pub LinesAreOfMasks : Type 0
LinesAreOfMasks = (viewer : Viewer) (d : Deed) → line viewer d ≡ masked_line viewer (mask viewer d)

-- The line of a deed ends with a brace and a newline, so a field can be written before these two.
abbrev pub LinesClose : Type 0
LinesClose = (viewer : Viewer) (d : Deed) → line viewer d ≡ take (length (line viewer d) - 2) (line viewer d) ++ codes "}\n"

-- A list as it is written: a pass, a chi of a 4 with a 3 and a red five, and a win.
abbrev pub ListsAreWritten : Type 0
ListsAreWritten =
    possible_text (Pass None ∷ Chi 1 0 (Known 3) (Known 2) (Known 34) ∷ Win 1 0 None ∷ [])
    ≡ codes "[{\"type\":\"none\"},{\"type\":\"chi\",\"actor\":1,\"target\":0,\"pai\":\"4m\",\"consumed\":[\"3m\",\"5mr\"]},{\"type\":\"hora\",\"actor\":1,\"target\":0}]"
