use Rattle.std.proofs.Common.{◌≡◌, ℕ, Bool, List, ap, sym, ◌∙◌}
use Rattle.mj_bytes.specs.Adds.{Adds}
use Rattle.mj_forms.specs.Lines.{bracketed, shown_tiles}
use Rattle.mjai_lines.proofs.Chains.{◌▸◌, as_piece}
use Rattle.mjai_lines.proofs.Lists.{bracketed_four}
use Rattle.mjai_lines.proofs.deed.push_hands.Goals as goal

hand : {a b : List ℕ} {seen seen' : Bool} {tiles tiles' : List ℕ} → seen ≡ seen' → tiles ≡ tiles' →
    Adds a b (bracketed (shown_tiles seen tiles)) → Adds a b (bracketed (shown_tiles seen' tiles'))
hand {a} {b} {seen} {seen'} {tiles} {tiles'} s t p =
    as_piece (ap (λ x. bracketed (shown_tiles x tiles)) s ∙ ap (λ x. bracketed (shown_tiles seen' x)) t) p

pub returns : goal.returns
returns c = as_piece (sym (bracketed_four _ _ _ _))
    (c.in_ok-push_all.ensures.ok
    ▸ hand c.sees.ensures c.at.ensures c.in_ok-push_tiles_seen.ensures
    ▸ c.in_ok-push_all-2.ensures.ok
    ▸ hand c.sees-2.ensures c.at-2.ensures c.in_ok-push_tiles_seen-2.ensures
    ▸ c.in_ok-push_all-3.ensures.ok
    ▸ hand c.sees-3.ensures c.at-3.ensures c.in_ok-push_tiles_seen-3.ensures
    ▸ c.in_ok-push_all-4.ensures.ok
    ▸ hand c.sees-4.ensures c.at-4.ensures c.in_ok-push_tiles_seen-4.ensures
    ▸ c.in_ok-push_all-5.ensures.ok)
