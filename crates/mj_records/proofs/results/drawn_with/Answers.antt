use Rattle.std.proofs.Common.{rules, ◌≡◌, Some}
use Rattle.std.specs.Prelude.{codes}
use Rattle.std.proofs.lemmas.Result.{IfOk-weaker}
use Rattle.mj_deeds.specs.Shown.{shown_or_hidden}
use Rattle.mj_records.specs.Deeds.{shown_field}
use Rattle.mj_records.proofs.results.drawn_with.Goals as goal

pub returns : goal.returns
unfolding shown_field
returns c =
    let h1 : Some (shown_or_hidden c.in-Some.a c.as_slice.result.now, c.in-Some.rest.now) ≡ shown_field (codes ",\"tehais\":[") c.args.text.now = search rules in
    let h2 : Some (shown_or_hidden c.in-Some-2.b c.as_slice-2.result.now, c.in-Some-2.rest.now) ≡ shown_field (codes ",") c.in-Some.rest.now = search rules in
    IfOk-weaker c.drawn_behind.result _ _ (λ deed h. h _ _ h1 h2) c.drawn_behind.ensures
