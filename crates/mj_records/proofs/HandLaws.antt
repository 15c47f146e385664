-- The line of a start of a hand is read again.
use Rattle.std.proofs.Common.{◌≡◌, ℕ, ◌<◌, List, [], ◌∷◌, ◌++◌, true, refl, ap, ◌∙◌, arith}
use Rattle.std.specs.Prelude.{Some, nat_lt, option_and_then, codes, decimal, map}
use Rattle.std.specs.List.{list_all}
use Rattle.std.proofs.lemmas.Bool.Decides.{nat_tests}
use Rattle.mj_deeds.specs.declared.deed.Deed.TheVariants.{StartHand}
use Rattle.mj_deeds.specs.declared.deed.Viewer.TheVariants.{Record}
use Rattle.mj_forms.specs.Lines.{line, quoted_tile, bracketed, start_hand_line}
use Rattle.mj_history.specs.Records.{is_tile}
use Rattle.mj_records.specs.Inner.Fields.{and_rest, below, quoted_at}
use Rattle.mj_records.specs.Deeds.{deed_in, deed_by, hands_at, start_by, kind_field, start_hand_in}
use Rattle.mj_records.specs.Laws.{HandStartsAreRead}
use Rattle.mj_records.proofs.Shapes.{group15, four_shape}
use Rattle.mj_records.proofs.FieldLaws.{byte_read, word_read, tile_field_read}
use Rattle.mj_records.proofs.ListLaws.{tiles_field_read}

behind_deposits : (round number honba deposits dealer indicator : ℕ) (a b c d rest : List ℕ) → dealer < 256 → indicator < 37 →
    list_all is_tile a ≡ true → list_all is_tile b ≡ true → list_all is_tile c ≡ true → list_all is_tile d ≡ true →
    start_by round number honba deposits (codes ",\"oya\":" ++
    (decimal dealer ++ (codes ",\"dora_marker\":" ++
    (quoted_tile indicator ++ (codes ",\"tehais\":[" ++
    (bracketed (map quoted_tile a) ++ (codes "," ++
    (bracketed (map quoted_tile b) ++ (codes "," ++
    (bracketed (map quoted_tile c) ++ (codes "," ++ (bracketed (map quoted_tile d) ++ rest))))))))))))
    ≡ Some (StartHand round number honba deposits dealer indicator (record { first = a; second = b; third = c; fourth = d }))
unfolding start_by hands_at
behind_deposits round number honba deposits dealer indicator a b c d rest ho hi ha hb hc hd =
    rw (
      byte_read (codes ",\"oya\":") (codes ",\"dora_marker\":" ++
          (quoted_tile indicator ++ (codes ",\"tehais\":[" ++
          (bracketed (map quoted_tile a) ++ (codes "," ++
          (bracketed (map quoted_tile b) ++ (codes "," ++
          (bracketed (map quoted_tile c) ++ (codes "," ++ (bracketed (map quoted_tile d) ++ rest)))))))))) dealer ho refl,
      tile_field_read (codes ",\"dora_marker\":")
          (codes ",\"tehais\":[" ++ (bracketed (map quoted_tile a) ++
          (codes "," ++ (bracketed (map quoted_tile b) ++
          (codes "," ++ (bracketed (map quoted_tile c) ++ (codes "," ++ (bracketed (map quoted_tile d) ++ rest)))))))) indicator hi,
      tiles_field_read (codes ",\"tehais\":[")
          (codes "," ++ (bracketed (map quoted_tile b) ++
          (codes "," ++ (bracketed (map quoted_tile c) ++ (codes "," ++ (bracketed (map quoted_tile d) ++ rest)))))) a ha,
      tiles_field_read (codes ",") (codes "," ++ (bracketed (map quoted_tile c) ++ (codes "," ++ (bracketed (map quoted_tile d) ++ rest)))) b hb,
      tiles_field_read (codes ",") (codes "," ++ (bracketed (map quoted_tile d) ++ rest)) c hc,
      tiles_field_read (codes ",") rest d hd,
    )

kinds : (round : ℕ) (rest : List ℕ) → round < 34 → and_rest (below 34) (round, rest) ≡ Some (round, rest)
kinds round rest hr = let kind : nat_lt round 34 ≡ true = grind (arith, nat_tests) in rw kind

kind_read : (key rest : List ℕ) (round : ℕ) → round < 34 → kind_field key (key ++ (quoted_tile round ++ rest)) ≡ Some (round, rest)
unfolding kind_field
kind_read key rest round hr = ap (option_and_then (and_rest (below 34))) (tile_field_read key rest round (omega arith)) ∙ kinds round rest hr

front : (round number honba deposits : ℕ) (rest : List ℕ) → round < 34 → number < 256 → honba < 4294967296 → deposits < 4294967296 →
    start_hand_in (codes ",\"bakaze\":" ++ (quoted_tile round ++
    (codes ",\"kyoku\":" ++ (decimal number ++
    (codes ",\"honba\":" ++ (decimal honba ++ (codes ",\"kyotaku\":" ++ (decimal deposits ++ (codes ",\"oya\":" ++ rest)))))))))
    ≡ start_by round number honba deposits (codes ",\"oya\":" ++ rest)
unfolding start_hand_in
front round number honba deposits rest hr hn hh hd =
    rw (
      kind_read (codes ",\"bakaze\":") (codes ",\"kyoku\":" ++
          (decimal number ++ (codes ",\"honba\":" ++
          (decimal honba ++ (codes ",\"kyotaku\":" ++ (decimal deposits ++ (codes ",\"oya\":" ++ rest))))))) round hr,
      byte_read (codes ",\"kyoku\":") (codes ",\"honba\":" ++ (decimal honba ++ (codes ",\"kyotaku\":" ++ (decimal deposits ++ (codes ",\"oya\":" ++ rest))))) number hn refl,
      word_read (codes ",\"honba\":") (codes ",\"kyotaku\":" ++ (decimal deposits ++ (codes ",\"oya\":" ++ rest))) honba hh refl,
      word_read (codes ",\"kyotaku\":") (codes ",\"oya\":" ++ rest) deposits hd refl,
    )

starts : (round number honba deposits dealer indicator : ℕ) (a b c d : List ℕ) → round < 34 → number < 256 → honba < 4294967296 →
    deposits < 4294967296 → dealer < 256 → indicator < 37 → list_all is_tile a ≡ true → list_all is_tile b ≡ true → list_all is_tile c ≡ true →
    list_all is_tile d ≡ true →
    deed_in (line Record (StartHand round number honba deposits dealer indicator (record { first = a; second = b; third = c; fourth = d }))) ≡ Some
    (StartHand round number honba deposits dealer indicator (record { first = a; second = b; third = c; fourth = d }))
unfolding start_hand_line deed_in deed_by quoted_at
starts round number honba deposits dealer indicator a b c d hr hn hh hd ho hi ha hb hc he =
    ap deed_in (group15 (codes "{\"type\":\"start_kyoku\",\"bakaze\":") (quoted_tile round) (codes ",\"kyoku\":") (decimal number)
    (codes ",\"honba\":") (decimal honba) (codes ",\"kyotaku\":") (decimal deposits) (codes ",\"oya\":") (decimal dealer)
    (codes ",\"dora_marker\":") (quoted_tile indicator) (codes ",\"tehais\":")
    (bracketed (bracketed (map quoted_tile a) ∷ bracketed (map quoted_tile b) ∷ bracketed (map quoted_tile c) ∷ bracketed (map quoted_tile d) ∷
    [])) (codes "}\n"))
    ∙ front round number honba deposits (decimal dealer ++
    (codes ",\"dora_marker\":" ++ (quoted_tile indicator ++
    (codes ",\"tehais\":" ++ (bracketed (bracketed (map quoted_tile a) ∷ bracketed (map quoted_tile b) ∷ bracketed (map quoted_tile c) ∷ bracketed
    (map quoted_tile d) ∷ []) ++ codes "}\n"))))) hr hn hh hd
    ∙ ap (λ hands. start_by round number honba deposits (codes ",\"oya\":" ++ (decimal dealer ++ (codes ",\"dora_marker\":" ++ (quoted_tile indicator ++ (codes ",\"tehais\":" ++ hands))))))
    (four_shape (bracketed (map quoted_tile a)) (bracketed (map quoted_tile b)) (bracketed (map quoted_tile c)) (bracketed (map quoted_tile d)) (codes "}\n"))
    ∙ behind_deposits round number honba deposits dealer indicator a b c d (93 ∷ codes "}\n") ho hi ha hb hc he

pub hand_starts_are_read : HandStartsAreRead
hand_starts_are_read = record { starts = starts }
