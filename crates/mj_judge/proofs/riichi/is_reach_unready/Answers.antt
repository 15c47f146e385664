use Rattle.std.proofs.Common.{sym, ap, ◌∙◌}
use Rattle.mj_rules.specs.Broken.{is_reach_unready}
use Rattle.mj_rules.specs.View.{view_of}
use Rattle.mj_judge.proofs.riichi.is_reach_unready.Goals as goal

pub returns-in-Discard : goal.returns-in-Discard
unfolding view_of
returns-in-Discard c = c.discards_unready.ensures ∙ ap (is_reach_unready (view_of c.args.table.now.deeds c.args.seat)) (sym c.in-Discard.is)
