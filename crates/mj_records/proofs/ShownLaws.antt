-- The line of a drawn hand is read again: a hand that shows no tile and hides none is read as one that shows none.
use Rattle.std.proofs.Common.{◌≡◌, ℕ, ◌+◌, ◌<◌, List, [], ◌∷◌, ◌++◌, Bool, true, false, refl, ap, ◌∙◌, arith, zero, suc, append_assoc}
use Rattle.std.specs.Prelude.{Some, None, not, ◌==◌, ℤ, option_and_then, codes, map, flat_map, replicate}
use Rattle.std.specs.List.{list_all}
use Rattle.std.proofs.lemmas.Bool.{false≢true, ltb-true}
use Rattle.mj_lists.proofs.Ranges.{passes}
use Rattle.mj_bytes.specs.Parts.{behind}
use Rattle.mj_tiles.specs.Faces.{text_of, texts}
use Rattle.mj_deeds.specs.declared.four.Four.{Four}
use Rattle.mj_deeds.specs.Shown.{Shown, Tiles, Hidden}
use Rattle.mj_deeds.specs.declared.reason.Reason.{Reason}
use Rattle.mj_deeds.specs.declared.reason.Reason.TheVariants as reasons
use Rattle.mj_deeds.specs.declared.deed.Deed.TheVariants.{DrawnHand}
use Rattle.mj_deeds.specs.declared.deed.Viewer.TheVariants.{Record}
use Rattle.mj_forms.specs.Lines.{line, quoted, quoted_tile, hidden_tile, bracketed, truth, points_text, hand_at_draw, reason_name, drawn_hand_line}
use Rattle.mj_history.specs.Records.{is_tile, is_shown, are_points}
use Rattle.mj_records.specs.Inner.Fields.{quoted_at, and_rest}
use Rattle.mj_records.specs.Inner.Lists.{marks_from, marks_at, hidden_at}
use Rattle.mj_records.specs.Deeds.{deed_in, deed_by, reason_of, reason_at, shown_at, shown_field, drawn_by, drawn_with, drawn_hand_in}
use Rattle.mj_records.specs.Laws.{shown_read, DrawnHandsAreRead}
use Rattle.mj_records.proofs.Shapes.{group11, four_shape, list_shape}
use Rattle.mj_records.proofs.FieldLaws.{not_true, behind_key, truth_field_read}
use Rattle.mj_records.proofs.PointLaws.{and-parts, points_field_read}
use Rattle.mj_records.proofs.ListLaws.{tiles_read, later}

-- question marks after the first
marks : (more before most : ℕ) (rest : List ℕ) → more < most → marks_from most before (flat_map (λ other. 44 ∷ other) (replicate more hidden_tile) ++ (93 ∷ rest)) ≡ Some (before + more, rest)
unfolding hidden_tile
marks more before zero rest small = absurd (omega arith)
marks zero before (suc most) rest small = let e : before ≡ before + 0 = omega arith in ap (λ n. Some (n, rest)) e
marks (suc more) before (suc most) rest small =
    let e : suc before + more ≡ before + suc more = omega arith in
    marks more (suc before) most rest (omega arith) ∙ ap (λ n. Some (n, rest)) e

some_hidden : (more : ℕ) (rest : List ℕ) → suc more < 256 → hidden_at (bracketed (replicate (suc more) hidden_tile) ++ rest) ≡ Some (suc more, rest)
unfolding marks_at hidden_at bracketed hidden_tile
some_hidden more rest small =
    let others = flat_map (λ other. 44 ∷ other) (replicate more hidden_tile) in
    ap hidden_at (list_shape (hidden_tile ++ others) rest (hidden_tile ++ (others ++ (93 ∷ rest))) (append_assoc hidden_tile others (93 ∷ rest))) ∙ marks more 1 255 rest (omega arith)
    ∙ (let e : 1 + more ≡ suc more = omega arith in ap (λ n. Some (n, rest)) e)

-- no tile's text begins with a question mark
begins_otherwise : ℕ → List ℕ → Bool
begins_otherwise c [] = false
begins_otherwise c (b ∷ bs) = not (c == b)

other_begin : (c : ℕ) (ks text rest : List ℕ) → begins_otherwise c text ≡ true → behind (c ∷ ks) (text ++ rest) ≡ None
unfolding begins_otherwise
other_begin c ks [] rest h = absurd (false≢true h)
other_begin c ks (b ∷ bs) rest h = rw (not_true (c == b) h)

no_mark : (tile : ℕ) (rest : List ℕ) → tile < 37 → behind (codes "?\"") (text_of tile ++ rest) ≡ None
unfolding text_of texts begins_otherwise
no_mark tile rest small = other_begin 63 (34 ∷ []) (text_of tile) rest (passes (λ face. begins_otherwise 63 (text_of face)) 37 tile refl small)

no_hidden : (tiles rest : List ℕ) → list_all is_tile tiles ≡ true → hidden_at (bracketed (map quoted_tile tiles) ++ rest) ≡ None
unfolding marks_at hidden_at bracketed quoted_tile
no_hidden [] rest h = refl
no_hidden (tile ∷ tiles) rest h =
    let p = and-parts (is_tile tile) (list_all is_tile tiles) h in
    ap hidden_at (list_shape (quoted_tile tile ++ later quoted_tile tiles) rest (quoted_tile tile ++ (later quoted_tile tiles ++ (93 ∷ rest)))
    (append_assoc (quoted_tile tile) (later quoted_tile tiles) (93 ∷ rest)))
    ∙ ap (λ t. hidden_at (91 ∷ 34 ∷ t)) (append_assoc (text_of tile) (34 ∷ []) (later quoted_tile tiles ++ (93 ∷ rest)))
    ∙ ap (option_and_then (marks_from 255 1)) (no_mark tile (34 ∷ (later quoted_tile tiles ++ (93 ∷ rest))) (ltb-true tile 37 p.0))

with_tiles : (tiles rest : List ℕ) → list_all is_tile tiles ≡ true → shown_at (bracketed (map quoted_tile tiles) ++ rest) ≡ Some (Tiles tiles, rest)
unfolding shown_at
with_tiles tiles rest h = rw (no_hidden tiles rest h, tiles_read tiles rest h)

hand_read : (hand : Shown) (rest : List ℕ) → is_shown hand ≡ true → shown_at (bracketed (hand_at_draw hand) ++ rest) ≡ Some (shown_read hand, rest)
unfolding shown_at
hand_read (Tiles tiles) rest h = with_tiles tiles rest h
hand_read (Hidden zero) rest h = with_tiles [] rest refl
hand_read (Hidden (suc more)) rest h = rw (some_hidden more rest (ltb-true (suc more) 256 h))

shown_field_read : (key rest : List ℕ) (hand : Shown) → is_shown hand ≡ true → shown_field key (key ++ (bracketed (hand_at_draw hand) ++ rest)) ≡ Some (shown_read hand, rest)
unfolding shown_field
shown_field_read key rest hand h = ap (option_and_then shown_at) (behind_key key (bracketed (hand_at_draw hand) ++ rest)) ∙ hand_read hand rest h

reason_read : (reason : Reason) (rest : List ℕ) → option_and_then (and_rest reason_of)
    (option_and_then quoted_at (behind (codes ",\"reason\":") (codes ",\"reason\":" ++ (quoted (reason_name reason) ++ rest)))) ≡ Some (reason, rest)
unfolding quoted_at
reason_read reasons.Fanpai rest = refl
reason_read reasons.Kyushukyuhai rest = refl
reason_read reasons.Suufonrenta rest = refl
reason_read reasons.Suuchareach rest = refl
reason_read reasons.Suukaikan rest = refl

ends : (reason : Reason) (hands : Four Shown) (a b c d : Bool) (deltas points : List ℤ) (rest : List ℕ) → are_points deltas ≡ true → are_points points ≡ true →
    drawn_by reason hands (codes "],\"tenpais\":[" ++
    (truth a ++ (codes "," ++ (truth b ++ (codes "," ++
    (truth c ++ (codes "," ++ (truth d ++ (codes "],\"deltas\":" ++
    (points_text deltas ++ (codes ",\"scores\":" ++ (points_text points ++ rest))))))))))))
    ≡ Some (DrawnHand reason hands (a ∷ b ∷ c ∷ d ∷ []) deltas points)
unfolding drawn_by
ends reason hands a b c d deltas points rest hd hp =
    rw (
      truth_field_read (codes "],\"tenpais\":[")
          (codes "," ++ (truth b ++ (codes "," ++ (truth c ++
          (codes "," ++ (truth d ++ (codes "],\"deltas\":" ++ (points_text deltas ++ (codes ",\"scores\":" ++ (points_text points ++ rest)))))))))) a,
      truth_field_read (codes ",") (codes "," ++ (truth c ++ (codes "," ++ (truth d ++ (codes "],\"deltas\":" ++ (points_text deltas ++ (codes ",\"scores\":" ++ (points_text points ++ rest)))))))) b,
      truth_field_read (codes ",") (codes "," ++ (truth d ++ (codes "],\"deltas\":" ++ (points_text deltas ++ (codes ",\"scores\":" ++ (points_text points ++ rest)))))) c,
      truth_field_read (codes ",") (codes "],\"deltas\":" ++ (points_text deltas ++ (codes ",\"scores\":" ++ (points_text points ++ rest)))) d,
      points_field_read (codes "],\"deltas\":") (codes ",\"scores\":" ++ (points_text points ++ rest)) deltas hd,
      points_field_read (codes ",\"scores\":") rest points hp,
    )

fronts : (reason : Reason) (a b c d : Shown) (rest : List ℕ) → is_shown a ≡ true → is_shown b ≡ true → is_shown c ≡ true → is_shown d ≡ true →
    drawn_hand_in (codes ",\"reason\":" ++ (quoted (reason_name reason) ++
    (codes ",\"tehais\":[" ++ (bracketed (hand_at_draw a) ++
    (codes "," ++ (bracketed (hand_at_draw b) ++
    (codes "," ++ (bracketed (hand_at_draw c) ++ (codes "," ++ (bracketed (hand_at_draw d) ++ rest))))))))))
    ≡ drawn_by reason (record { first = shown_read a; second = shown_read b; third = shown_read c; fourth = shown_read d }) rest
unfolding drawn_hand_in drawn_with reason_at
fronts reason a b c d rest ha hb hc hd =
    rw (
      reason_read reason (codes ",\"tehais\":[" ++
          (bracketed (hand_at_draw a) ++ (codes "," ++
          (bracketed (hand_at_draw b) ++ (codes "," ++ (bracketed (hand_at_draw c) ++ (codes "," ++ (bracketed (hand_at_draw d) ++ rest)))))))),
      shown_field_read (codes ",\"tehais\":[") (codes "," ++ (bracketed (hand_at_draw b) ++ (codes "," ++ (bracketed (hand_at_draw c) ++ (codes "," ++ (bracketed (hand_at_draw d) ++ rest)))))) a ha,
      shown_field_read (codes ",") (codes "," ++ (bracketed (hand_at_draw c) ++ (codes "," ++ (bracketed (hand_at_draw d) ++ rest)))) b hb,
      shown_field_read (codes ",") (codes "," ++ (bracketed (hand_at_draw d) ++ rest)) c hc,
      shown_field_read (codes ",") rest d hd,
    )

drawn : (reason : Reason) (a b c d : Shown) (p q r s : Bool) (deltas points : List ℤ) → is_shown a ≡ true → is_shown b ≡ true → is_shown c ≡ true →
    is_shown d ≡ true → are_points deltas ≡ true → are_points points ≡ true →
    deed_in (line Record (DrawnHand reason (record { first = a; second = b; third = c; fourth = d }) (p ∷ q ∷ r ∷ s ∷ []) deltas points))
    ≡ Some (DrawnHand reason (record { first = shown_read a; second = shown_read b; third = shown_read c; fourth = shown_read d }) (p ∷ q ∷ r ∷ s ∷ []) deltas points)
unfolding drawn_hand_line deed_in deed_by quoted_at
drawn reason a b c d p q r s deltas points ha hb hc hd hx hy =
    let tail = codes ",\"deltas\":" ++ (points_text deltas ++ (codes ",\"scores\":" ++ (points_text points ++ codes "}\n"))) in
    let shown : Four Shown = record { first = shown_read a; second = shown_read b; third = shown_read c; fourth = shown_read d } in
    ap deed_in (group11 (codes "{\"type\":\"ryukyoku\",\"reason\":") (quoted (reason_name reason)) (codes ",\"tehais\":")
    (bracketed (bracketed (hand_at_draw a) ∷ bracketed (hand_at_draw b) ∷ bracketed (hand_at_draw c) ∷ bracketed (hand_at_draw d) ∷ []))
    (codes ",\"tenpais\":") (bracketed (truth p ∷ truth q ∷ truth r ∷ truth s ∷ [])) (codes ",\"deltas\":") (points_text deltas) (codes ",\"scores\":") (points_text points) (codes "}\n"))
    ∙ ap (λ hands. drawn_hand_in (codes ",\"reason\":" ++ (quoted (reason_name reason) ++ (codes ",\"tehais\":" ++ hands))))
    (four_shape (bracketed (hand_at_draw a)) (bracketed (hand_at_draw b)) (bracketed (hand_at_draw c)) (bracketed (hand_at_draw d))
    (codes ",\"tenpais\":" ++ (bracketed (truth p ∷ truth q ∷ truth r ∷ truth s ∷ []) ++ tail)))
    ∙ fronts reason a b c d (93 ∷ (codes ",\"tenpais\":" ++ (bracketed (truth p ∷ truth q ∷ truth r ∷ truth s ∷ []) ++ tail))) ha hb hc hd
    ∙ ap (λ ready. drawn_by reason shown (93 ∷ (codes ",\"tenpais\":" ++ ready))) (four_shape (truth p) (truth q) (truth r) (truth s) tail)
    ∙ ends reason shown p q r s deltas points (codes "}\n") hx hy

pub drawn_hands_are_read : DrawnHandsAreRead
drawn_hands_are_read = record { drawn = drawn }
