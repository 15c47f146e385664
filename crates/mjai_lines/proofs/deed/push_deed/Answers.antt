use Rattle.std.proofs.Common.{ap, sym}
use Rattle.mj_forms.specs.Lines.{line, end_hand_line}
use Rattle.mjai_lines.proofs.Chains.{◌▸◌, as_piece}
use Rattle.mjai_lines.proofs.Dealt.{start_in_pieces}
use Rattle.mjai_lines.proofs.Wins.{win_in_pieces}
use Rattle.mjai_lines.proofs.deed.push_deed.Goals as goal

pub returns-in_ok-push_dealt-in-StartHand : goal.returns-in_ok-push_dealt-in-StartHand
returns-in_ok-push_dealt-in-StartHand c = as_piece (sym (ap (line c.args.viewer) c.in-StartHand.is))
    (as_piece (start_in_pieces _ _ _ _ _ _ _) (c.in_ok-push_place-in-StartHand.ensures ▸ c.in_ok-push_dealt-in-StartHand.ensures))

pub returns-in_ok-push_changes-in-Win : goal.returns-in_ok-push_changes-in-Win
returns-in_ok-push_changes-in-Win c = as_piece (sym (ap (line c.args.viewer) c.in-Win.is))
    (as_piece (win_in_pieces _ _ _ _ _ _ _ _ _ _ _ _ _)
    (c.in_ok-push_winner-in-Win.ensures ▸ c.in_ok-push_worth-in-Win.ensures ▸ c.in_ok-push_changes-in-Win.ensures))

pub returns-in-EndHand : goal.returns-in-EndHand
unfolding end_hand_line
returns-in-EndHand c = rw c.in-EndHand.is c.push_all.ensures.ok
