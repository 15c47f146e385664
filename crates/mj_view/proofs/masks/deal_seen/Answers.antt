use Rattle.std.proofs.Common.{◌≡◌, ℕ, List, refl, ◌∙◌}
use Rattle.std.specs.Prelude.{Option}
use Rattle.mj_deeds.specs.declared.four.Four.{Four}
use Rattle.mj_deeds.specs.Shown.{Shown, Tiles, Hidden, shown_or_hidden, tiles_shown, number_hidden}
use Rattle.mj_view.proofs.masks.deal_seen.Goals as goal

whole : (s : Shown) → shown_or_hidden (number_hidden s) (tiles_shown s) ≡ s
whole (Tiles tiles) = refl
whole (Hidden number) = refl

of_parts : (s : Shown) (number : Option ℕ) (tiles told : List ℕ) → tiles ≡ told → told ≡ tiles_shown s → number ≡ number_hidden s → shown_or_hidden number tiles ≡ s
of_parts s number tiles told p q r = (λ i. shown_or_hidden (r i) ((p ∙ q) i)) ∙ whole s

four_of_parts : (result : Four Shown) (a b c d e f g h : Shown) → result ≡ record { first = a; second = b; third = c; fourth = d } → a ≡ e → b ≡ f → c ≡ g → d ≡ h →
    result ≡ record { first = e; second = f; third = g; fourth = h }
four_of_parts result a b c d e f g h is p q r s = is ∙ (λ i. record { first = p i; second = q i; third = r i; fourth = s i })

pub returns : goal.returns
returns c = four_of_parts _ _ _ _ _ _ _ _ _ c.of-2.ensures
    (of_parts _ _ _ _ (λ i. (c.in_ok-tiles.ensures i).first) c.tiles_seen.ensures c.number_hidden.ensures)
    (of_parts _ _ _ _ (λ i. (c.in_ok-tiles.ensures i).second) c.tiles_seen-2.ensures c.number_hidden-2.ensures)
    (of_parts _ _ _ _ (λ i. (c.in_ok-tiles.ensures i).third) c.tiles_seen-3.ensures c.number_hidden-3.ensures)
    (of_parts _ _ _ _ (λ i. (c.in_ok-tiles.ensures i).fourth) c.tiles_seen-4.ensures c.number_hidden-4.ensures)
