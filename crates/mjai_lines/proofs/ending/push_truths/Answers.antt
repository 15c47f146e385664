use Rattle.std.proofs.Common.{◌≡◌, length, rules, sym}
use Rattle.std.specs.Prelude.{false}
use Rattle.mj_forms.specs.Lines.{truth}
use Rattle.mjai_lines.proofs.Chains.{◌▸◌, as_piece}
use Rattle.mjai_lines.proofs.Lists.{bracketed_items}
use Rattle.mjai_lines.proofs.ending.push_truths.Goals as goal

pub returns : goal.returns
returns c =
    let four : length c.args.truths ≡ 4 = search rules in
    as_piece (sym (bracketed_items truth c.args.truths false four))
    (c.in_ok-push_all.ensures.ok
    ▸ c.in_ok-push_truth.ensures
    ▸ c.in_ok-push_all-2.ensures.ok
    ▸ c.in_ok-push_truth-2.ensures
    ▸ c.in_ok-push_all-3.ensures.ok
    ▸ c.in_ok-push_truth-3.ensures
    ▸ c.in_ok-push_all-4.ensures.ok
    ▸ c.in_ok-push_truth-4.ensures
    ▸ c.in_ok-push_all-5.ensures.ok)
