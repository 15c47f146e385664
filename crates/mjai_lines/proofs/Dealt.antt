-- The line of the start of a hand in the pieces in which it is written.
use Rattle.std.proofs.Common.{◌≡◌, ℕ, List, [], ◌∷◌, ◌++◌, append_assoc, refl}
use Rattle.std.specs.Prelude.{codes, decimal}
use Rattle.mj_deeds.specs.declared.four.Four.{Four}
use Rattle.mj_forms.specs.Lines.{start_hand_line, bracketed, quoted_tile}

-- up to its dealer
abbrev pub place_piece : ℕ → ℕ → ℕ → ℕ → ℕ → List ℕ
place_piece round number honba deposits dealer =
    codes "{\"type\":\"start_kyoku\",\"bakaze\":" ++ quoted_tile round ++ codes ",\"kyoku\":" ++ decimal number
    ++ codes ",\"honba\":" ++ decimal honba ++ codes ",\"kyotaku\":" ++ decimal deposits ++ codes ",\"oya\":" ++ decimal dealer

-- its indicator, the hands and the end
abbrev pub dealt_piece : ℕ → Four (List (List ℕ)) → List ℕ
dealt_piece indicator hands =
    codes ",\"dora_marker\":" ++ quoted_tile indicator ++ codes ",\"tehais\":"
    ++ bracketed (bracketed hands.first ∷ bracketed hands.second ∷ bracketed hands.third ∷ bracketed hands.fourth ∷ [])
    ++ codes "}\n"

five : (w a b c d e : List ℕ) → w ++ (a ++ b ++ c ++ d ++ e) ≡ w ++ a ++ b ++ c ++ d ++ e
five w a b c d e = simp append_assoc refl

-- both are the line
pub start_in_pieces : (round number honba deposits dealer indicator : ℕ) (hands : Four (List (List ℕ))) →
    place_piece round number honba deposits dealer ++ dealt_piece indicator hands ≡ start_hand_line round number honba deposits dealer indicator hands
unfolding start_hand_line
start_in_pieces round number honba deposits dealer indicator hands =
    five (place_piece round number honba deposits dealer) (codes ",\"dora_marker\":") (quoted_tile indicator) (codes ",\"tehais\":")
    (bracketed (bracketed hands.first ∷ bracketed hands.second ∷ bracketed hands.third ∷ bracketed hands.fourth ∷ [])) (codes "}\n")
