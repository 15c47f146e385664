-- One amount more is written.
use Rattle.std.proofs.Common.{◌≡◌, ℕ, ℤ, ◌+◌, ◌<◌, List, [], ◌∷◌, ◌++◌, append-nil, length, take, get_or, flat_map, sym, ap, ◌∙◌, subst}
use Rattle.std.proofs.lemmas.Grind.{flat_map-append}
use Rattle.std.proofs.lemmas.List.{take_more}
use Rattle.mj_bytes.specs.Adds.{Adds}
use Rattle.mj_bytes.specs.Numbers.{signed_text}
use Rattle.mj_bytes.proofs.AddLaws.{adds_more}
use Rattle.mj_runs.specs.Results.{amounts_text}

pub one_more : (amounts : List ℤ) (amount : ℤ) (i : ℕ) (a b c : List ℕ) → i < length amounts → amount ≡ get_or amounts i amount →
    Adds a b (amounts_text (take i amounts)) → Adds b c (32 ∷ signed_text amount) → Adds a c (amounts_text (take (i + 1) amounts))
one_more amounts amount i a b c low is before more =
    let piece : ℤ → List ℕ = λ x. 32 ∷ signed_text x in
    subst (Adds a c)
    (ap (λ xs. amounts_text (take i amounts) ++ xs) (sym (append-nil (piece amount)))
    ∙ sym (flat_map-append piece (take i amounts) (amount ∷ []))
    ∙ ap (flat_map piece) (ap (λ x. take i amounts ++ x ∷ []) is ∙ sym (take_more amounts i amount low)))
    (adds_more _ _ _ _ _ before more)
