use Rattle.std.proofs.Common.{◌≡◌, [], ◌∷◌, ◌++◌, refl}
use Rattle.std.specs.Prelude.{codes, None}
use Rattle.mj_deeds.specs.declared.answer.Answer.TheVariants.{Pass}
use Rattle.mj_forms.specs.Choices.{possible_text, type_field}
use Rattle.mj_forms.specs.Lines.{bracketed}
use Rattle.mjai_lines.proofs.Chains.{as_piece}
use Rattle.mjai_lines.proofs.choices.push_pass_alone.Goals as goal

-- The text of the field with a pass alone.
pass_alone : codes ",\"possible_actions\":[{\"type\":\"none\"}]}\n" ≡ codes ",\"possible_actions\":" ++ possible_text (Pass None ∷ []) ++ codes "}\n"
unfolding possible_text type_field bracketed
pass_alone = refl

pub returns : goal.returns
returns c = as_piece pass_alone c.in_ok-push_all.ensures.ok
