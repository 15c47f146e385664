-- The line of a win in the pieces in which it is written.
use Rattle.std.proofs.Common.{◌≡◌, ℕ, List, ◌++◌, map, ap, refl, ℤ, ◌∙◌, append_assoc}
use Rattle.std.specs.Prelude.{codes, decimal}
use Rattle.mj_deeds.specs.declared.deed.Viewer.{Viewer}
use Rattle.mj_forms.specs.Lines.{win_line, bracketed, quoted_tile, row_text, points_text, in_record}

-- who wins on which tile of whom, and what it shows
abbrev pub winner_piece : ℕ → ℕ → ℕ → List ℕ → List ℕ → List ℕ
winner_piece seat target tile unders hand =
    codes "{\"type\":\"hora\",\"actor\":" ++ decimal seat ++ codes ",\"target\":" ++ decimal target ++ codes ",\"pai\":" ++ quoted_tile tile
    ++ codes ",\"uradora_markers\":" ++ bracketed (map quoted_tile unders) ++ codes ",\"hora_tehais\":" ++ bracketed (map quoted_tile hand)

-- what the win is worth
abbrev pub worth_piece : List (ℕ × ℕ) → ℕ → ℕ → ℕ → List ℕ
worth_piece yaku fu han value =
    codes ",\"yakus\":" ++ bracketed (map row_text yaku) ++ codes ",\"fu\":" ++ decimal fu ++ codes ",\"fan\":" ++ decimal han
    ++ codes ",\"hora_points\":" ++ decimal value

-- what each seat gains, and the points after it
abbrev pub changes_piece : List ℤ → List ℤ → List ℕ
changes_piece deltas points = codes ",\"deltas\":" ++ points_text deltas ++ codes ",\"scores\":" ++ points_text points

-- the seats that win next, in the record alone, and the end
abbrev pub rest_piece : Viewer → List ℕ → List ℕ
rest_piece viewer rest = in_record viewer (codes ",\"rest\":" ++ bracketed (map decimal rest)) ++ codes "}\n"

two : (w a b : List ℕ) → w ++ (a ++ b) ≡ w ++ a ++ b
two w a b = simp append_assoc refl

four : (w a b c d : List ℕ) → w ++ (a ++ b ++ c ++ d) ≡ w ++ a ++ b ++ c ++ d
four w a b c d = simp append_assoc refl

eight : (w a b c d e f g h : List ℕ) → w ++ (a ++ b ++ c ++ d ++ e ++ f ++ g ++ h) ≡ w ++ a ++ b ++ c ++ d ++ e ++ f ++ g ++ h
eight w a b c d e f g h = simp append_assoc refl

-- the pieces one after the other are the line
pub win_in_pieces : (viewer : Viewer) (seat target tile : ℕ) (unders hand : List ℕ) (yaku : List (ℕ × ℕ)) (fu han value : ℕ)
    (deltas points : List ℤ) (rest : List ℕ) →
    winner_piece seat target tile unders hand ++ worth_piece yaku fu han value ++ (changes_piece deltas points ++ rest_piece viewer rest)
    ≡ win_line viewer seat target tile unders hand yaku fu han value deltas points rest
unfolding win_line
win_in_pieces viewer seat target tile unders hand yaku fu han value deltas points rest =
    let won : List ℕ = winner_piece seat target tile unders hand in
    let told : List ℕ = in_record viewer (codes ",\"rest\":" ++ bracketed (map decimal rest)) in
    two (won ++ worth_piece yaku fu han value) (changes_piece deltas points) (rest_piece viewer rest)
    ∙ two (won ++ worth_piece yaku fu han value ++ changes_piece deltas points) told (codes "}\n")
    ∙ ap (λ front. front ++ told ++ codes "}\n")
    (four (won ++ worth_piece yaku fu han value) (codes ",\"deltas\":") (points_text deltas) (codes ",\"scores\":") (points_text points)
    ∙ ap (λ front. front ++ codes ",\"deltas\":" ++ points_text deltas ++ codes ",\"scores\":" ++ points_text points)
    (eight won (codes ",\"yakus\":") (bracketed (map row_text yaku)) (codes ",\"fu\":") (decimal fu) (codes ",\"fan\":") (decimal han)
    (codes ",\"hora_points\":") (decimal value)))
