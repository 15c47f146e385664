-- The number of a rule is its place, and is told of an answer that breaks it.
use Rattle.std.proofs.Common.{◌≡◌, ℕ, ◌+◌, refl, sym, subst}
use denote.Enum.Declared.{tag_of}
use Rattle.mj_ports.specs.declared.answers.Heard.{Heard}
use Rattle.mj_ports.specs.declared.answers.Heard.TheVariants as heard
use Rattle.mj_deeds.specs.declared.rule.Rule.{Rule}
use Rattle.mj_deeds.specs.declared.rule.Rule.TheVariants as rules
use Rattle.mj_deeds.specs.contracts.rule.Rule.{the_type}
use Rattle.mj_forms.specs.Lines.{rule_number}
use Rattle.mj_embedded.specs.Answers.{refused, closing}
use Rattle.mj_embedded.specs.Calls.{Tells}

pub tag_is : (rule : Rule) → tag_of the_type rule + 1 ≡ rule_number rule
tag_is rules.Unreadable = refl
tag_is rules.NotYours = refl
tag_is rules.NotNow = refl
tag_is rules.NoSuchTile = refl
tag_is rules.WrongTarget = refl
tag_is rules.LastTile = refl
tag_is rules.NotHeld = refl
tag_is rules.NotDrawn = refl
tag_is rules.Locked = refl
tag_is rules.BadSet = refl
tag_is rules.NotLeft = refl
tag_is rules.SwapCall = refl
tag_is rules.StuckCall = refl
tag_is rules.KanFull = refl
tag_is rules.KanDry = refl
tag_is rules.RiichiKan = refl
tag_is rules.ReachOpen = refl
tag_is rules.ReachPoor = refl
tag_is rules.ReachLate = refl
tag_is rules.ReachUnready = refl
tag_is rules.NotComplete = refl
tag_is rules.Furiten = refl
tag_is rules.NoYaku = refl
tag_is rules.NotNine = refl

pub refused_told : (what : Heard Rule) (broken : Rule) (old_rule rule : ℕ) → what ≡ heard.Refused broken → rule ≡ rule_number broken → Tells what old_rule rule refused
refused_told what broken old_rule rule is e = subst (λ (w : Heard Rule). Tells w old_rule rule refused) (sym is) (refl, e)

pub closing_told : (what : Heard Rule) (broken : Rule) (old_rule rule : ℕ) → what ≡ heard.Closing broken → rule ≡ rule_number broken → Tells what old_rule rule closing
closing_told what broken old_rule rule is e = subst (λ (w : Heard Rule). Tells w old_rule rule closing) (sym is) (refl, e)
