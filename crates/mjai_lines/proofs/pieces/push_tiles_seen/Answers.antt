use Rattle.std.proofs.Common.{ap, sym}
use Rattle.mj_forms.specs.Lines.{bracketed}
use Rattle.mjai_lines.proofs.Chains.{◌▸◌, as_piece}
use Rattle.mjai_lines.proofs.Lists.{shown_is_map}
use Rattle.mjai_lines.proofs.pieces.push_tiles_seen.Goals as goal

pub returns : goal.returns
unfolding bracketed
returns c = as_piece (ap bracketed (sym (shown_is_map c.args.seen c.args.tiles.now)))
    (c.in_ok-push_all.ensures.ok ▸ c.in_ok-push_joined.ensures ▸ c.in_ok-push_all-2.ensures.ok)
