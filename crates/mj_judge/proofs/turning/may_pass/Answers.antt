use Rattle.std.proofs.Common.{not, sym, ap, ◌∙◌}
use Rattle.mj_rules.specs.View.{view_of}
use Rattle.mj_judge.proofs.Tried.{pass_lawful}
use Rattle.mj_judge.proofs.turning.may_pass.Goals as goal

pub returns : goal.returns
unfolding view_of
returns c = ap not c.is_discarding.ensures ∙ sym (pass_lawful c.args.table.now.rules c.args.seat (view_of c.args.table.now.deeds c.args.seat))
