-- The questions of the rules where all are answered by no.
use Rattle.std.proofs.Common.{◌≡◌, Bool, true, false, cond, List, [], ◌∷◌, Some, None, refl, ap, ◌∙◌}
use Rattle.mj_deeds.specs.declared.rule.Rule.{Rule}
use Rattle.mj_rules.specs.Broken.{first_broken}

-- Each question of a list is answered by no.
abbrev pub AllNo : List (Bool × Rule) → Type 0
AllNo [] = Unit {0}
AllNo (rule ∷ others) = (rule.0 ≡ false) × AllNo others

-- Then no rule of it is broken.
pub none_broken : (list : List (Bool × Rule)) → AllNo list → first_broken list ≡ None
none_broken [] each = refl
none_broken (rule ∷ others) each = ap (λ b. cond b (Some rule.1) (first_broken others)) each.0 ∙ none_broken others each.1

-- And only then.
pub all_no : (list : List (Bool × Rule)) → first_broken list ≡ None → AllNo list
all_no [] h = tt
all_no (rule ∷ others) h = by_test rule.0 refl h (λ k. all_no others k)
  where
    by_test : (b : Bool) → rule.0 ≡ b → cond b (Some rule.1) (first_broken others) ≡ None → (first_broken others ≡ None → AllNo others) → (rule.0 ≡ false) × AllNo others
    by_test true e k f = cc
    by_test false e k f = (e, f k)
