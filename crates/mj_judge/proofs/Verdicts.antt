-- Questions of the rules, one list after another.
use Rattle.std.proofs.Common.{◌≡◌, Bool, true, false, cond, List, [], ◌∷◌, ◌++◌, Option, Some, None, refl, sym, ap, ◌∙◌}
use Rattle.mj_deeds.specs.declared.rule.Rule.{Rule}
use Rattle.mj_rules.specs.Broken.{first_broken}
use Rattle.mj_rules.proofs.Questions.{AllNo, all_no}

-- Where all of the one list are answered by no, the others decide.
pub others_decide : (list others : List (Bool × Rule)) → AllNo list → first_broken (list ++ others) ≡ first_broken others
others_decide [] others each = refl
others_decide (rule ∷ list) others each = ap (λ b. cond b (Some rule.1) (first_broken (list ++ others))) each.0 ∙ others_decide list others each.1

pub none_of_list : (list others : List (Bool × Rule)) → first_broken list ≡ None → first_broken (list ++ others) ≡ first_broken others
none_of_list list others h = others_decide list others (all_no list h)

-- A rule of the one list that is broken is the first.
pub one_of_list : (list others : List (Bool × Rule)) (broken : Rule) → first_broken list ≡ Some broken → first_broken (list ++ others) ≡ Some broken
one_of_list [] others broken h = cc
one_of_list (rule ∷ list) others broken h = by_test rule.0 h (one_of_list list others broken)
  where
    by_test : (b : Bool) → cond b (Some rule.1) (first_broken list) ≡ Some broken → (first_broken list ≡ Some broken → first_broken (list ++ others) ≡ Some broken) →
        cond b (Some rule.1) (first_broken (list ++ others)) ≡ Some broken
    by_test true k later = k
    by_test false k later = later k

-- One question more after a list.
pub broken_before : (list : List (Bool × Rule)) (last : Bool × Rule) (refused : Option Rule) (broken : Rule) → refused ≡ Some broken →
    Some broken ≡ first_broken list → refused ≡ first_broken (list ++ last ∷ [])
broken_before list last refused broken is first = is ∙ sym (one_of_list list (last ∷ []) broken (sym first))

pub last_decides : (list : List (Bool × Rule)) (last : Bool × Rule) (refused : Option Rule) → None ≡ first_broken list →
    refused ≡ cond last.0 (Some last.1) None → refused ≡ first_broken (list ++ last ∷ [])
last_decides list last refused none is = is ∙ sym (none_of_list list (last ∷ []) (sym none))

-- What was not refused is answered by no.
pub not_refused : (is_broken question : Bool) (rule : Rule) → is_broken ≡ question → None ≡ cond is_broken (Some rule) None → question ≡ false
not_refused true question rule e h = cc
not_refused false question rule e h = sym e
