-- The kinds of which there are two tiles, one kind after another.
use Rattle.std.proofs.Common.{ℕ, ◌≡◌, ◌<◌, ◌+◌, List, get_or, eqb, sym, ◌∙◌, ap}
use Rattle.std.proofs.lemmas.Bool.{eq-eqb, ne_eqb}
use Rattle.mj_tiles.specs.Kinds.{with_kind}
use Rattle.mj_readings.proofs.KindsBelow.{kinds_below, kinds_below-yes, kinds_below-no}

pub pairs_with : (numbers counts : List ℕ) (n kinds next kind : ℕ) → numbers ≡ counts → get_or numbers n 0 ≡ 2 →
    kinds ≡ kinds_below (λ kind. eqb (get_or counts kind 0) 2) n → n < 34 → kind ≡ n → next ≡ with_kind kinds kind →
    next ≡ kinds_below (λ kind. eqb (get_or counts kind 0) 2) (n + 1)
pairs_with numbers counts n kinds next kind same two below within here more =
    more ∙ ap (λ k. with_kind kinds k) here ∙ ap (λ ks. with_kind ks n) below
    ∙ kinds_below-yes (λ kind. eqb (get_or counts kind 0) 2) n within (eq-eqb (get_or counts n 0) 2 (ap (λ ns. get_or ns n 0) (sym same) ∙ two))

pub pairs_without : (numbers counts : List ℕ) (n kinds next : ℕ) → numbers ≡ counts → (get_or numbers n 0 ≡ 2 → ⊥) →
    kinds ≡ kinds_below (λ kind. eqb (get_or counts kind 0) 2) n → next ≡ kinds →
    next ≡ kinds_below (λ kind. eqb (get_or counts kind 0) 2) (n + 1)
pairs_without numbers counts n kinds next same other below more =
    more ∙ below
    ∙ kinds_below-no (λ kind. eqb (get_or counts kind 0) 2) n (ne_eqb (get_or counts n 0) 2 (λ e. other (ap (λ ns. get_or ns n 0) same ∙ e)))
