use Rattle.std.proofs.Common.{rules, ◌≡◌, ◌∙◌, ap, Some, None}
use Rattle.std.specs.Prelude.{codes}
use Rattle.mj_records.specs.Inner.Lists.{tiles_field}
use Rattle.mj_records.proofs.StepLaws.{hands_steps, hands_stop, hands_stop_last}
use Rattle.mj_records.proofs.hands.hands_behind.Goals as goal

pub returns : goal.returns
unfolding tiles_field
returns c = λ whole rest h1 h2.
    let h3 : Some (c.as_slice.result.now, c.in-Some.rest.now) ≡ tiles_field (codes ",") c.args.text.now = search rules in
    let h4 : Some (c.as_slice-2.result.now, c.in-Some-2.field-0.now) ≡ tiles_field (codes ",") c.in-Some.rest.now = search rules in
    ap Some c.in_ok-hands.ensures ∙ hands_steps _ _ _ _ _ _ _ _ _ h1 h2 h3 h4

pub returns-in_default : goal.returns-in_default
unfolding tiles_field
returns-in_default c = λ whole rest h1 h2.
    let h3 : None ≡ tiles_field (codes ",") c.args.text.now = search rules in
    hands_stop _ _ _ _ _ h1 h2 h3

pub returns-in_default-2 : goal.returns-in_default-2
unfolding tiles_field
returns-in_default-2 c = λ whole rest h1 h2.
    let h3 : Some (c.tiles_field.new.tiles.items, c.in-Some.rest.now) ≡ tiles_field (codes ",") c.args.text.now = search rules in
    let h4 : None ≡ tiles_field (codes ",") c.in-Some.rest.now = search rules in
    hands_stop_last _ _ _ _ _ _ _ h1 h2 h3 h4
