-- Pieces that are written one after the other, and lists of them.
use Rattle.std.proofs.Common.{◌≡◌, ℕ, ◌+◌, ◌-◌, ◌≤◌, zero, suc, List, [], ◌∷◌, ◌++◌, flat_map, replicate, sym, ap, ◌∙◌, arith}
use Rattle.std.proofs.lemmas.Grind.{flat_map-append}
use Rattle.std.proofs.lemmas.List.{replicate-append-replicate}
use Rattle.std.specs.Prelude.{codes}
use Rattle.mj_bytes.specs.Adds.{Adds}
use Rattle.mj_forms.specs.Lines.{bracketed, hidden_tile}

-- what is written after nothing
pub alone : {a b x : List ℕ} → a ≡ [] → Adds a b x → b ≡ x
alone {b = b} {x = x} e p = p.is ∙ ap (λ (front : List ℕ). front ++ x) e

-- so many hidden tiles in brackets, the first and then the others, each after a comma
first_hidden : (number : ℕ) → 1 ≤ number → replicate number hidden_tile ≡ hidden_tile ∷ replicate (number - 1) hidden_tile
first_hidden (suc number) some = ap (λ k. hidden_tile ∷ replicate k hidden_tile) (omega arith)
first_hidden zero some = absurd (omega (arith, some))

pub bracketed_hidden : (number : ℕ) → 1 ≤ number →
    bracketed (replicate number hidden_tile) ≡ codes "[\"?\"" ++ flat_map (λ other. 44 ∷ other) (replicate (number - 1) hidden_tile) ++ codes "]"
unfolding bracketed hidden_tile
bracketed_hidden number some = ap bracketed (first_hidden number some)

-- one more hidden tile after a comma
pub one_more_hidden : (number : ℕ) →
    flat_map (λ other. 44 ∷ other) (replicate number hidden_tile) ++ codes ",\"?\"" ≡ flat_map (λ other. 44 ∷ other) (replicate (number + 1) hidden_tile)
unfolding hidden_tile
one_more_hidden number =
    sym (flat_map-append (λ other. 44 ∷ other) (replicate number hidden_tile) (replicate 1 hidden_tile))
    ∙ ap (flat_map (λ other. 44 ∷ other)) (replicate-append-replicate number 1 hidden_tile)
