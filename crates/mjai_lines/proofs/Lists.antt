-- Lists of pieces as they are written.
use Rattle.std.proofs.Common.{◌≡◌, ℕ, ◌+◌, ◌-◌, ◌≤◌, zero, suc, Bool, true, false, List, [], ◌∷◌, ◌++◌, length, get_or, map, flat_map, replicate, refl, sym, ap, ◌∙◌, append_assoc, arith}
use Rattle.std.proofs.lemmas.Grind.{flat_map-append}
use Rattle.std.proofs.lemmas.List.{replicate-append-replicate}
use Rattle.std.specs.Prelude.{codes, Some, None}
use Rattle.mj_deeds.specs.Shown.{Shown, Tiles, Hidden, number_hidden, tiles_shown}
use Rattle.mj_forms.specs.Lines.{bracketed, shown_tiles, tile_seen, hidden_tile, hand_at_draw, quoted_tile}

-- the tiles of a hand are written each as it is seen
pub shown_is_map : (seen : Bool) (tiles : List ℕ) → shown_tiles seen tiles ≡ map (tile_seen seen) tiles
shown_is_map true tiles = refl
shown_is_map false [] = refl
shown_is_map false (tile ∷ tiles) = ap (λ rest. hidden_tile ∷ rest) (shown_is_map false tiles)

-- four pieces in brackets, as they are written one after the other
pub bracketed_four : (a b c d : List ℕ) →
    bracketed (a ∷ b ∷ c ∷ d ∷ []) ≡ codes "[" ++ a ++ codes "," ++ b ++ codes "," ++ c ++ codes "," ++ d ++ codes "]"
unfolding bracketed
bracketed_four a b c d = simp append_assoc refl

-- four items in brackets, by their places, as they are written one after the other
pub bracketed_items : {A : Type 0} (f : A → List ℕ) (items : List A) (other : A) → length items ≡ 4 →
    bracketed (map f items) ≡ codes "[" ++ f (get_or items 0 other) ++ codes "," ++ f (get_or items 1 other) ++ codes ","
    ++ f (get_or items 2 other) ++ codes "," ++ f (get_or items 3 other) ++ codes "]"
bracketed_items f (a ∷ b ∷ c ∷ d ∷ []) other four = bracketed_four (f a) (f b) (f c) (f d)
bracketed_items f [] other four = absurd (omega (arith, four))
bracketed_items f (a ∷ []) other four = absurd (omega (arith, four))
bracketed_items f (a ∷ b ∷ []) other four = absurd (omega (arith, four))
bracketed_items f (a ∷ b ∷ c ∷ []) other four = absurd (omega (arith, four))
bracketed_items f (a ∷ b ∷ c ∷ d ∷ e ∷ items) other four = absurd (omega (arith, four))

-- the first of some hidden tiles stands in front
pub first_hidden : (number : ℕ) → 1 ≤ number → replicate number hidden_tile ≡ hidden_tile ∷ replicate (number - 1) hidden_tile
first_hidden (suc number) some = ap (λ k. hidden_tile ∷ replicate k hidden_tile) (omega arith)
first_hidden zero some = absurd (omega (arith, some))

-- so many hidden tiles in brackets, the first and then the others, each after a comma
pub bracketed_hidden : (number : ℕ) → 1 ≤ number →
    bracketed (replicate number hidden_tile) ≡ codes "[\"?\"" ++ flat_map (λ other. 44 ∷ other) (replicate (number - 1) hidden_tile) ++ codes "]"
unfolding bracketed hidden_tile
bracketed_hidden number some = ap bracketed (first_hidden number some)

-- one more hidden tile after a comma
pub one_more_hidden : (number : ℕ) →
    flat_map (λ other. 44 ∷ other) (replicate number hidden_tile) ++ codes ",\"?\"" ≡ flat_map (λ other. 44 ∷ other) (replicate (number + 1) hidden_tile)
unfolding hidden_tile
one_more_hidden number =
    sym (flat_map-append (λ other. 44 ∷ other) (replicate number hidden_tile) (replicate 1 hidden_tile))
    ∙ ap (flat_map (λ other. 44 ∷ other)) (replicate-append-replicate number 1 hidden_tile)

-- a hand that stays hidden at a draw
pub hidden_hand : (hand : Shown) (number : ℕ) → number_hidden hand ≡ Some number → hand_at_draw hand ≡ replicate number hidden_tile
hidden_hand (Tiles tiles) number hidden = cc
hidden_hand (Hidden many) number hidden = cc

-- a hand that is shown at a draw
pub shown_hand : (hand : Shown) → number_hidden hand ≡ None → hand_at_draw hand ≡ map quoted_tile (tiles_shown hand)
shown_hand (Tiles tiles) shown = refl
shown_hand (Hidden many) shown = cc
