use Rattle.std.proofs.Common.{ℕ, List, ◌++◌, append_assoc, sym, ◌∙◌}
use Rattle.std.specs.Prelude.{codes, decimal}
use Rattle.mj_forms.specs.Lines.{discard_line, quoted_tile, truth}
use Rattle.mjai_lines.proofs.Chains.{◌▸◌, as_piece}
use Rattle.mjai_lines.proofs.deed.push_discard.Goals as goal

pub returns : goal.returns
unfolding discard_line
returns c =
    let front : List ℕ = codes "{\"type\":\"dahai\",\"actor\":" ++ decimal c.args.seat ++ codes ",\"pai\":" ++ quoted_tile c.args.tile in
    as_piece
    (sym (append_assoc (front ++ codes ",\"tsumogiri\":") (truth c.args.drawn) (codes "}\n")
    ∙ append_assoc front (codes ",\"tsumogiri\":") (truth c.args.drawn ++ codes "}\n")))
    (c.in_ok-push_discard_front.ensures ▸ c.in_ok-push_tile.ensures ▸ c.in_ok-push_mark.ensures)
