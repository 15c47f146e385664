use Rattle.std.proofs.Common.{ap, sym, ◌∙◌}
use Rattle.mj_refereeing.specs.Inner.Forms.{meaning}
use Rattle.mj_refereeing.proofs.BaseLaws.{founded-as, no-header}
use Rattle.mj_refereeing.proofs.base.read_base.Goals.{in-Header+in_ok-base-in-Header, in_default-2}
use Rattle.mj_refereeing.proofs.base.read_base.Goals as goal

pub returns : goal.returns
returns c = elim c.match-branch-2.branch [
  | in-Header+in_ok-base-in-Header w ↦
      founded-as c.match-branch-2.result w.founded_by.result c.args.input.now w.result-is
      (w.founded_by.ensures c.args.input.now c.in-Some.line.now c.in-Some.others.now w.in-Header.rules c.in-Some.ensures.lines c.in-Some.ensures.ending
      (sym c.in_ok-rules.ensures.form ∙ ap meaning w.in-Header.is) (w.in_ok-base-in-Header.ensures c.in-Some.line.now c.in-Some.ensures.parts))
  | in_default-2 w ↦
      founded-as c.match-branch-2.result _ c.args.input.now w.result-is
      (no-header c.in_ok-rules.field-0 c.args.input.now c.in-Some.line.now c.in-Some.others.now w.in_default-2.not-Header c.in_ok-rules.ensures.form c.in-Some.ensures.lines)
]
