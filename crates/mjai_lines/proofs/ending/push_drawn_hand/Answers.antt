use Rattle.std.proofs.Common.{ap}
use Rattle.mj_forms.specs.Lines.{quoted, drawn_hand_line}
use Rattle.mjai_lines.proofs.Chains.{◌▸◌, as_piece}
use Rattle.mjai_lines.proofs.ending.push_drawn_hand.Goals as goal

pub returns : goal.returns
unfolding drawn_hand_line
returns c =
    c.in_ok-push_all.ensures.ok
    ▸ as_piece (ap quoted c.reason_name.ensures) c.in_ok-push_quoted.ensures
    ▸ c.in_ok-push_all-2.ensures.ok
    ▸ c.in_ok-push_hands.ensures
    ▸ c.in_ok-push_all-3.ensures.ok
    ▸ c.in_ok-push_truths.ensures
    ▸ c.in_ok-push_all-4.ensures.ok
    ▸ c.in_ok-push_points.ensures
    ▸ c.in_ok-push_all-5.ensures.ok
    ▸ c.in_ok-push_points-2.ensures
    ▸ c.in_ok-push_all-6.ensures.ok
