use Rattle.std.proofs.Common.{◌≡◌, ℕ, List, length, replicate, ap, sym}
use Rattle.mj_bytes.specs.Adds.{Adds}
use Rattle.mj_forms.specs.Lines.{bracketed, hidden_tile}
use Rattle.mjai_lines.proofs.Chains.{◌▸◌, as_piece}
use Rattle.mjai_lines.proofs.Lists.{bracketed_four}
use Rattle.mj_observe.proofs.public.push_hidden_hands.Goals as goal

hand : {a b : List ℕ} {tiles dealt : List ℕ} → tiles ≡ dealt → Adds a b (bracketed (replicate (length tiles) hidden_tile)) → Adds a b (bracketed (replicate (length dealt) hidden_tile))
hand t p = as_piece (ap (λ (tiles : List ℕ). bracketed (replicate (length tiles) hidden_tile)) t) p

pub returns : goal.returns
returns c = as_piece (sym (bracketed_four _ _ _ _))
    (c.in_ok-push_all.ensures.ok
    ▸ hand c.at.ensures c.in_ok-push_hidden.ensures
    ▸ c.in_ok-push_all-2.ensures.ok
    ▸ hand c.at-2.ensures c.in_ok-push_hidden-2.ensures
    ▸ c.in_ok-push_all-3.ensures.ok
    ▸ hand c.at-3.ensures c.in_ok-push_hidden-3.ensures
    ▸ c.in_ok-push_all-4.ensures.ok
    ▸ hand c.at-4.ensures c.in_ok-push_hidden-4.ensures
    ▸ c.in_ok-push_all-5.ensures.ok)
