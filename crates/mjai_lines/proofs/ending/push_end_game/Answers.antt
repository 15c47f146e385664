use Rattle.std.proofs.Common.{ap}
use Rattle.std.specs.Prelude.{decimal}
use Rattle.mj_forms.specs.Lines.{end_game_line}
use Rattle.mjai_lines.proofs.Chains.{◌▸◌, as_piece}
use Rattle.mjai_lines.proofs.ending.push_end_game.Goals as goal

pub returns : goal.returns
unfolding end_game_line
returns c =
    c.in_ok-push_all.ensures.ok
    ▸ c.in_ok-push_points.ensures
    ▸ c.in_ok-push_all-2.ensures.ok
    ▸ as_piece (ap decimal c.from.ensures) c.in_ok-push_number.ensures.ok
    ▸ c.in_ok-push_all-3.ensures.ok
