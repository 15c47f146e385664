-- The line of what a seat does is read again.
use Rattle.std.proofs.Common.{◌≡◌, ℕ, ◌<◌, List, ◌++◌, Bool, false, refl, ap, ◌∙◌}
use Rattle.std.specs.Prelude.{Some, option_map, option_and_then, codes, decimal}
use Rattle.mj_deeds.specs.declared.deed.Deed.TheVariants.{Draw, Discard, Dora, Reach, EndHand}
use Rattle.mj_deeds.specs.declared.deed.Viewer.TheVariants.{Record}
use Rattle.mj_forms.specs.Lines.{line, quoted_tile, truth, draw_line, discard_line, dora_line, reach_line, end_hand_line}
use Rattle.mj_records.specs.Inner.Fields.{quoted_at, tile_field, truth_field}
use Rattle.mj_records.specs.Deeds.{deed_in, deed_by, small_by, draw_in, discard_in, dora_in, reach_in}
use Rattle.mj_records.specs.Laws.{ActsAreRead}
use Rattle.mj_records.proofs.Shapes.{group3, group5, group7}
use Rattle.mj_records.proofs.FieldLaws.{byte_read, tile_field_read, truth_field_read}

draw_fields : (seat tile : ℕ) → seat < 256 → tile < 37 → draw_in (codes ",\"actor\":" ++ (decimal seat ++ (codes ",\"pai\":" ++ (quoted_tile tile ++ codes "}\n")))) ≡ Some (Draw seat tile false)
unfolding draw_in
draw_fields seat tile hs ht =
    rw (byte_read (codes ",\"actor\":") (codes ",\"pai\":" ++ (quoted_tile tile ++ codes "}\n")) seat hs refl, tile_field_read (codes ",\"pai\":") (codes "}\n") tile ht)

draws : (seat tile : ℕ) (replacement : Bool) → seat < 256 → tile < 37 → deed_in (line Record (Draw seat tile replacement)) ≡ Some (Draw seat tile false)
unfolding draw_line deed_in deed_by small_by quoted_at
draws seat tile replacement hs ht =
    ap deed_in (group5 (codes "{\"type\":\"tsumo\",\"actor\":") (decimal seat) (codes ",\"pai\":") (quoted_tile tile) (codes "}\n")) ∙ draw_fields seat tile hs ht

discard_fields : (seat tile : ℕ) (drawn : Bool) → seat < 256 → tile < 37 →
    discard_in (codes ",\"actor\":" ++ (decimal seat ++
    (codes ",\"pai\":" ++ (quoted_tile tile ++ (codes ",\"tsumogiri\":" ++ (truth drawn ++ codes "}\n")))))) ≡ Some (Discard seat tile drawn)
unfolding discard_in
discard_fields seat tile drawn hs ht =
    ap (option_and_then (λ (s : ℕ × List ℕ). option_and_then (λ (t : ℕ × List ℕ). option_map (λ (d : Bool × List ℕ). Discard s.0 t.0 d.0)
    (truth_field (codes ",\"tsumogiri\":") t.1)) (tile_field (codes ",\"pai\":") s.1)))
    (byte_read (codes ",\"actor\":") (codes ",\"pai\":" ++ (quoted_tile tile ++ (codes ",\"tsumogiri\":" ++ (truth drawn ++ codes "}\n")))) seat hs refl)
    ∙ ap (option_and_then (λ (t : ℕ × List ℕ). option_map (λ (d : Bool × List ℕ). Discard seat t.0 d.0) (truth_field (codes ",\"tsumogiri\":") t.1)))
    (tile_field_read (codes ",\"pai\":") (codes ",\"tsumogiri\":" ++ (truth drawn ++ codes "}\n")) tile ht)
    ∙ ap (option_map (λ (d : Bool × List ℕ). Discard seat tile d.0)) (truth_field_read (codes ",\"tsumogiri\":") (codes "}\n") drawn)

discards : (seat tile : ℕ) (drawn : Bool) → seat < 256 → tile < 37 → deed_in (line Record (Discard seat tile drawn)) ≡ Some (Discard seat tile drawn)
unfolding discard_line deed_in deed_by small_by quoted_at
discards seat tile drawn hs ht =
    ap deed_in (group7 (codes "{\"type\":\"dahai\",\"actor\":") (decimal seat) (codes ",\"pai\":") (quoted_tile tile) (codes ",\"tsumogiri\":") (truth drawn) (codes "}\n"))
    ∙ discard_fields seat tile drawn hs ht

dora_fields : (tile : ℕ) → tile < 37 → dora_in (codes ",\"dora_marker\":" ++ (quoted_tile tile ++ codes "}\n")) ≡ Some (Dora tile)
unfolding dora_in
dora_fields tile ht = rw (tile_field_read (codes ",\"dora_marker\":") (codes "}\n") tile ht)

doras : (tile : ℕ) → tile < 37 → deed_in (line Record (Dora tile)) ≡ Some (Dora tile)
unfolding dora_line deed_in deed_by small_by quoted_at
doras tile ht = ap deed_in (group3 (codes "{\"type\":\"dora\",\"dora_marker\":") (quoted_tile tile) (codes "}\n")) ∙ dora_fields tile ht

reach_fields : (seat : ℕ) → seat < 256 → reach_in (codes ",\"actor\":" ++ (decimal seat ++ codes "}\n")) ≡ Some (Reach seat)
unfolding reach_in
reach_fields seat hs = rw (byte_read (codes ",\"actor\":") (codes "}\n") seat hs refl)

reaches : (seat : ℕ) → seat < 256 → deed_in (line Record (Reach seat)) ≡ Some (Reach seat)
unfolding reach_line deed_in deed_by small_by quoted_at
reaches seat hs = ap deed_in (group3 (codes "{\"type\":\"reach\",\"actor\":") (decimal seat) (codes "}\n")) ∙ reach_fields seat hs

ends : deed_in (line Record EndHand) ≡ Some EndHand
unfolding end_hand_line deed_in deed_by small_by quoted_at
ends = refl

pub acts_are_read : ActsAreRead
acts_are_read = record { draws = draws; discards = discards; doras = doras; reaches = reaches; ends = ends }
