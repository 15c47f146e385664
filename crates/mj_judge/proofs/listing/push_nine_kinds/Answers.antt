use Rattle.std.proofs.Common.{◌≡◌, false, true, [], ◌∷◌, rules, sym, ◌∙◌}
use Rattle.mj_deeds.specs.declared.answer.Answer.TheVariants.{NineKinds}
use Rattle.mj_rules.specs.View.{view_of}
use Rattle.mj_judge.proofs.Tried.{none_added, no_nine_kinds, not_nine}
use Rattle.mj_judge.proofs.listing.push_nine_kinds.Goals as goal

pub returns-then-not-is_own_draw : goal.returns-then-not-is_own_draw
unfolding view_of
returns-then-not-is_own_draw c =
    let shut : c.is_own_draw.result ≡ false = search rules in
    none_added c.args.table.now.rules c.args.table.now.deeds c.args.seat (NineKinds c.args.seat ∷ []) _
    (no_nine_kinds c.args.table.now.rules c.args.table.now.deeds c.args.seat (sym c.is_own_draw.ensures ∙ shut))

pub returns-then-is_not_nine : goal.returns-then-is_not_nine
returns-then-is_not_nine c =
    let refused : c.is_not_nine.result ≡ true = search rules in
    none_added c.args.table.now.rules c.args.table.now.deeds c.args.seat (NineKinds c.args.seat ∷ []) _
    (not_nine c.args.table.now.rules c.args.table.now.deeds c.args.seat (sym c.is_not_nine.ensures ∙ refused))
