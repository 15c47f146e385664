use Rattle.std.proofs.Common.{rules, ◌≡◌, Some}
use Rattle.std.specs.Prelude.{codes}
use Rattle.std.proofs.lemmas.Result.{IfOk-weaker}
use Rattle.mj_records.specs.Inner.Lists.{tiles_field}
use Rattle.mj_records.proofs.hands.hands_at.Goals as goal

pub returns : goal.returns
unfolding tiles_field
returns c =
    let h1 : Some (c.as_slice.result.now, c.in-Some.rest.now) ≡ tiles_field (codes ",\"tehais\":[") c.args.text.now = search rules in
    let h2 : Some (c.as_slice-2.result.now, c.in-Some-2.rest.now) ≡ tiles_field (codes ",") c.in-Some.rest.now = search rules in
    IfOk-weaker c.hands_behind.result _ _ (λ hands h. h _ _ h1 h2) c.hands_behind.ensures
