use Rattle.std.proofs.Common.{ap, sym, ◌∙◌}
use Rattle.mj_forms.specs.Lines.{start_hand_line}
use Rattle.mj_observe.specs.Views.{public_line}
use Rattle.mjai_lines.proofs.Chains.{◌▸◌}
use Rattle.mj_observe.proofs.Pieces.{alone}
use Rattle.mj_observe.proofs.public.write_public.Goals as goal

pub returns-in_ok-push_all-in-StartHand-3 : goal.returns-in_ok-push_all-in-StartHand-3
unfolding start_hand_line
returns-in_ok-push_all-in-StartHand-3 c =
    alone c.clear-in-StartHand.ensures.items
    (c.in_ok-push_place-in-StartHand.ensures
    ▸ c.in_ok-push_all-in-StartHand.ensures.ok
    ▸ c.in_ok-push_tile-in-StartHand.ensures
    ▸ c.in_ok-push_all-in-StartHand-2.ensures.ok
    ▸ c.in_ok-push_hidden_hands-in-StartHand.ensures
    ▸ c.in_ok-push_all-in-StartHand-3.ensures.ok)
    ∙ sym (ap public_line c.in-StartHand.is)
