-- The line of a win is read again.
use Rattle.std.proofs.Common.{◌≡◌, ℕ, ◌<◌, List, ◌++◌, length, true, refl, ap, ◌∙◌, append_assoc}
use Rattle.std.specs.Prelude.{Some, ℤ, nat_le, codes, decimal, map}
use Rattle.std.specs.List.{list_all}
use Rattle.mj_deeds.specs.declared.deed.Deed.TheVariants.{Win}
use Rattle.mj_deeds.specs.declared.deed.Viewer.TheVariants.{Record}
use Rattle.mj_forms.specs.Lines.{line, quoted_tile, bracketed, row_text, points_text, win_line}
use Rattle.mj_history.specs.Records.{is_byte, is_tile, is_row, are_points}
use Rattle.mj_records.specs.Inner.Fields.{quoted_at}
use Rattle.mj_records.specs.Deeds.{deed_in, deed_by, worth_at, win_by, win_with, win_in}
use Rattle.mj_records.specs.Laws.{WinsAreRead}
use Rattle.mj_records.proofs.Shapes.{group24}
use Rattle.mj_records.proofs.FieldLaws.{byte_read, word_read, tile_field_read}
use Rattle.mj_records.proofs.PointLaws.{points_field_read}
use Rattle.mj_records.proofs.ListLaws.{tiles_field_read}
use Rattle.mj_records.proofs.RowLaws.{rows_field_read, seats_field_read}

worth : (seat target tile : ℕ) (unders hand : List ℕ) (yaku : List (ℕ × ℕ)) (fu han value : ℕ) (deltas points : List ℤ) (others rest : List ℕ) →
    fu < 256 → han < 256 → value < 4294967296 → are_points deltas ≡ true → are_points points ≡ true → nat_le (length others) 2 ≡ true →
    list_all is_byte others ≡ true →
    win_by seat target tile unders hand yaku
    (codes ",\"fu\":" ++ (decimal fu ++ (codes ",\"fan\":" ++
    (decimal han ++ (codes ",\"hora_points\":" ++
    (decimal value ++ (codes ",\"deltas\":" ++
    (points_text deltas ++ (codes ",\"scores\":" ++
    (points_text points ++ (codes ",\"rest\":" ++ (bracketed (map decimal others) ++ (rest))))))))))))) ≡ Some
    (Win seat target tile unders hand yaku fu han value deltas points others)
unfolding win_by worth_at
worth seat target tile unders hand yaku fu han value deltas points others rest hf ha hv hd hp hw ho =
    rw (
      byte_read (codes ",\"fu\":") (codes ",\"fan\":" ++
          (decimal han ++ (codes ",\"hora_points\":" ++
          (decimal value ++ (codes ",\"deltas\":" ++
          (points_text deltas ++ (codes ",\"scores\":" ++
          (points_text points ++ (codes ",\"rest\":" ++ (bracketed (map decimal others) ++ (rest))))))))))) fu hf refl,
      byte_read (codes ",\"fan\":") (codes ",\"hora_points\":" ++
          (decimal value ++ (codes ",\"deltas\":" ++
          (points_text deltas ++ (codes ",\"scores\":" ++
          (points_text points ++ (codes ",\"rest\":" ++ (bracketed (map decimal others) ++ (rest))))))))) han ha refl,
      word_read (codes ",\"hora_points\":") (codes ",\"deltas\":" ++
          (points_text deltas ++ (codes ",\"scores\":" ++
          (points_text points ++ (codes ",\"rest\":" ++ (bracketed (map decimal others) ++ (rest))))))) value hv refl,
      points_field_read (codes ",\"deltas\":") (codes ",\"scores\":" ++ (points_text points ++ (codes ",\"rest\":" ++ (bracketed (map decimal others) ++ (rest))))) deltas hd,
      points_field_read (codes ",\"scores\":") (codes ",\"rest\":" ++ (bracketed (map decimal others) ++ (rest))) points hp,
      seats_field_read (codes ",\"rest\":") rest others hw ho,
    )

winner : (seat target tile : ℕ) (unders hand : List ℕ) (yaku : List (ℕ × ℕ)) (rest : List ℕ) → seat < 256 → target < 256 → tile < 37 →
    list_all is_tile unders ≡ true → list_all is_tile hand ≡ true → list_all is_row yaku ≡ true →
    win_in (codes ",\"actor\":" ++ (decimal seat ++
    (codes ",\"target\":" ++ (decimal target ++
    (codes ",\"pai\":" ++ (quoted_tile tile ++
    (codes ",\"uradora_markers\":" ++ (bracketed (map quoted_tile unders) ++
    (codes ",\"hora_tehais\":" ++ (bracketed (map quoted_tile hand) ++
    (codes ",\"yakus\":" ++ (bracketed (map row_text yaku) ++ (rest))))))))))))) ≡ win_by seat target tile unders hand yaku rest
unfolding win_in win_with
winner seat target tile unders hand yaku rest hs hg ht hu hh hy =
    rw (
      byte_read (codes ",\"actor\":") (codes ",\"target\":" ++
          (decimal target ++ (codes ",\"pai\":" ++
          (quoted_tile tile ++ (codes ",\"uradora_markers\":" ++
          (bracketed (map quoted_tile unders) ++ (codes ",\"hora_tehais\":" ++
          (bracketed (map quoted_tile hand) ++ (codes ",\"yakus\":" ++ (bracketed (map row_text yaku) ++ (rest))))))))))) seat hs refl,
      byte_read (codes ",\"target\":") (codes ",\"pai\":" ++
          (quoted_tile tile ++ (codes ",\"uradora_markers\":" ++
          (bracketed (map quoted_tile unders) ++ (codes ",\"hora_tehais\":" ++
          (bracketed (map quoted_tile hand) ++ (codes ",\"yakus\":" ++ (bracketed (map row_text yaku) ++ (rest))))))))) target hg refl,
      tile_field_read (codes ",\"pai\":") (codes ",\"uradora_markers\":" ++
          (bracketed (map quoted_tile unders) ++ (codes ",\"hora_tehais\":" ++
          (bracketed (map quoted_tile hand) ++ (codes ",\"yakus\":" ++ (bracketed (map row_text yaku) ++ (rest))))))) tile ht,
      tiles_field_read (codes ",\"uradora_markers\":")
          (codes ",\"hora_tehais\":" ++ (bracketed (map quoted_tile hand) ++ (codes ",\"yakus\":" ++ (bracketed (map row_text yaku) ++ (rest)))))
          unders hu,
      tiles_field_read (codes ",\"hora_tehais\":") (codes ",\"yakus\":" ++ (bracketed (map row_text yaku) ++ (rest))) hand hh,
      rows_field_read (codes ",\"yakus\":") (rest) yaku hy,
    )

wins : (seat target tile : ℕ) (unders hand : List ℕ) (yaku : List (ℕ × ℕ)) (fu han value : ℕ) (deltas points : List ℤ) (others : List ℕ) →
    seat < 256 → target < 256 → tile < 37 → list_all is_tile unders ≡ true → list_all is_tile hand ≡ true → list_all is_row yaku ≡ true → fu < 256 →
    han < 256 → value < 4294967296 → are_points deltas ≡ true → are_points points ≡ true → nat_le (length others) 2 ≡ true →
    list_all is_byte others ≡ true →
    deed_in (line Record (Win seat target tile unders hand yaku fu han value deltas points others)) ≡ Some (Win seat target tile unders hand yaku fu han value deltas points others)
unfolding win_line deed_in deed_by quoted_at
wins seat target tile unders hand yaku fu han value deltas points others hs hg ht hu hh hy hf ha hv hd hp hw ho =
    ap deed_in (group24 (codes "{\"type\":\"hora\",\"actor\":") (decimal seat) (codes ",\"target\":") (decimal target) (codes ",\"pai\":")
    (quoted_tile tile) (codes ",\"uradora_markers\":") (bracketed (map quoted_tile unders)) (codes ",\"hora_tehais\":")
    (bracketed (map quoted_tile hand)) (codes ",\"yakus\":") (bracketed (map row_text yaku)) (codes ",\"fu\":") (decimal fu) (codes ",\"fan\":")
    (decimal han) (codes ",\"hora_points\":") (decimal value) (codes ",\"deltas\":") (points_text deltas) (codes ",\"scores\":")
    (points_text points) (codes ",\"rest\":" ++ bracketed (map decimal others)) (codes "}\n"))
    ∙ winner seat target tile unders hand yaku
    (codes ",\"fu\":" ++ (decimal fu ++ (codes ",\"fan\":" ++
    (decimal han ++ (codes ",\"hora_points\":" ++
    (decimal value ++ (codes ",\"deltas\":" ++
    (points_text deltas ++ (codes ",\"scores\":" ++ (points_text points ++ (codes ",\"rest\":" ++ bracketed (map decimal others) ++ codes
    "}\n"))))))))))) hs hg ht hu hh hy
    ∙ ap (λ t. win_by seat target tile unders hand yaku
    (codes ",\"fu\":" ++ (decimal fu ++ (codes ",\"fan\":" ++
    (decimal han ++ (codes ",\"hora_points\":" ++
    (decimal value ++ (codes ",\"deltas\":" ++ (points_text deltas ++ (codes ",\"scores\":" ++ (points_text points ++ (t))))))))))))
    (append_assoc (codes ",\"rest\":") (bracketed (map decimal others)) (codes "}\n"))
    ∙ worth seat target tile unders hand yaku fu han value deltas points others (codes "}\n") hf ha hv hd hp hw ho

pub wins_are_read : WinsAreRead
wins_are_read = record { wins = wins }
