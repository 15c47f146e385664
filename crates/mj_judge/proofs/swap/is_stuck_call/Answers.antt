use Rattle.std.proofs.Common.{sym, ap, ◌∙◌}
use Rattle.mj_rules.specs.Broken.{is_stuck_call}
use Rattle.mj_rules.specs.View.{view_of}
use Rattle.mj_judge.proofs.Swaps.{stuck_is}
use Rattle.mj_judge.proofs.swap.is_stuck_call.Goals as goal

pub returns-in-Chi : goal.returns-in-Chi
unfolding view_of
returns-in-Chi c =
    stuck_is (view_of c.args.table.now.deeds c.args.seat) _ _ c.banned_by_chi.result c.has_nothing_else.result c.has_nothing_else.ensures c.banned_by_chi.ensures
    ∙ ap (is_stuck_call (view_of c.args.table.now.deeds c.args.seat)) (sym c.in-Chi.is)

pub returns-in-Pon : goal.returns-in-Pon
unfolding view_of
returns-in-Pon c =
    stuck_is (view_of c.args.table.now.deeds c.args.seat) _ _ c.banned_by_pon.result c.has_nothing_else-in-Pon.result c.has_nothing_else-in-Pon.ensures c.banned_by_pon.ensures
    ∙ ap (is_stuck_call (view_of c.args.table.now.deeds c.args.seat)) (sym c.in-Pon.is)
