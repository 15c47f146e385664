use Rattle.std.proofs.Common.{◌≡◌, true, length, rules, ap, ◌∙◌}
use Rattle.std.specs.Prelude.{nat_le}
use Rattle.mj_history.specs.Arrivals.{Say}
use Rattle.mj_refereeing.proofs.FieldLaws.{say_is}
use Rattle.mj_refereeing.proofs.form.read_form.Goals as goal

pub returns-then-said-le-LINE_LIMIT-clause-form : goal.returns-then-said-le-LINE_LIMIT-clause-form
returns-then-said-le-LINE_LIMIT-clause-form c =
    let short : nat_le (length c.in-Some.said.now) 4095 ≡ true = search rules in
    ap (λ seat. Say seat c.in-Some.said.now) c.from-seat.ensures ∙ say_is c.args.line.now c.in-Some.said.now c.in-Some.seat c.in-Some.ensures.within c.in-Some.ensures.parts short
