use Rattle.std.proofs.Common.{◌≡◌, cond, eqb}
use Rattle.mj_deeds.specs.Reasons.{is_turn, discarded_kind}
use Rattle.mj_facts.proofs.CourseKept.{at_each}
use Rattle.mj_facts.proofs.course_facts.put_kind.Goals as goal

pub returns : goal.returns
returns c =
    at_each (λ place old new. new ≡ cond (eqb c.args.turns place) (cond (is_turn c.args.deed.now) (discarded_kind c.args.deed.now) old) old)
    c.args.kinds.now _ _ _ _ c.put_at.ensures c.put_at-2.ensures
    c.put_at-3.ensures c.put_at-4.ensures
