-- Draws and discards that are read whole.
use Rattle.std.proofs.Common.{◌≡◌, ℕ, ◌+◌, ◌<◌, Bool, true, false, List, [], ◌∷◌, ◌++◌, append_assoc, refl, sym, ap, subst, ◌∙◌, arith}
use Rattle.std.specs.Prelude.{Some, bytes_eq, codes, decimal, nat_lt, not, ◌==◌}
use Rattle.std.proofs.lemmas.Slice.Eq.{bytes_eq-Decides}
use Rattle.std.proofs.lemmas.Bool.{and_from, lt-ltb}
use Rattle.std.proofs.lemmas.Bool.Decides.{nat_tests}
use Rattle.std.proofs.lemmas.Fmt.{decimal_digit}
use Rattle.mj_lists.proofs.Ranges.{passes}
use Rattle.mj_bytes.specs.Parts.{has_byte, BeginsWithLine}
use Rattle.mj_bytes.proofs.PartLaws.{has_byte-head, begins_with_line}
use Rattle.mj_tiles.specs.Faces.{text_of, texts}
use Rattle.mj_deeds.specs.declared.deed.Deed.{Deed}
use Rattle.mj_deeds.specs.declared.deed.Deed.TheVariants.{Draw, Discard}
use Rattle.mj_deeds.specs.declared.deed.Viewer.TheVariants.{Record}
use Rattle.mj_forms.specs.Lines.{line, quoted_tile, truth, draw_line, discard_line}
use Rattle.mj_history.specs.Records.{IsLineOf}
use Rattle.mj_records.specs.Deeds.{deed_in}
use Rattle.mj_records.specs.declared.usual.Act.TheVariants as acts
use Rattle.mj_records.specs.Usual.{IsActOf, BeginsWithAct}
use Rattle.mj_records.proofs.FieldLaws.{not_true}
use Rattle.mj_records.proofs.Shapes.{group5, group7}
use Rattle.mj_records.proofs.ActLaws.{acts_are_read}

-- the tile behind its key

tile_shape : (tile : ℕ) (end : List ℕ) → codes ",\"pai\":" ++ (quoted_tile tile ++ end) ≡ codes ",\"pai\":\"" ++ (text_of tile ++ 34 ∷ end)
unfolding quoted_tile
tile_shape tile end = ap (λ t. codes ",\"pai\":\"" ++ t) (append_assoc (text_of tile) (34 ∷ []) end)

act_shape : (front : List ℕ) (seat tile : ℕ) (end : List ℕ) → seat < 4 → front ++ (decimal seat ++ (codes ",\"pai\":" ++ (quoted_tile tile ++ end))) ≡
    front ++ ((48 + seat) ∷ (codes ",\"pai\":\"" ++ (text_of tile ++ 34 ∷ end)))
act_shape front seat tile end few =
    ap (λ d. front ++ (d ++ (codes ",\"pai\":" ++ (quoted_tile tile ++ end)))) (decimal_digit seat (omega (arith, few)))
    ∙ ap (λ t. front ++ ((48 + seat) ∷ t)) (tile_shape tile end)

-- a draw

draw_is : (text act end : List ℕ) (seat tile : ℕ) → text ≡ codes "{\"type\":\"tsumo\",\"actor\":" ++ act → IsActOf act seat tile end → end ≡ codes "}\n" → IsLineOf text (Draw seat tile false)
unfolding draw_line
draw_is text act end seat tile is parts last = record {
  fits = and_from (nat_lt seat 256) (nat_lt tile 37) (lt-ltb seat 256 (let f = parts.seat_few in omega arith)) (lt-ltb tile 37 parts.tile_few);
  is =
      group5 (codes "{\"type\":\"tsumo\",\"actor\":") (decimal seat) (codes ",\"pai\":") (quoted_tile tile) (codes "}\n")
      ∙ act_shape (codes "{\"type\":\"tsumo\",\"actor\":") seat tile (codes "}\n") parts.seat_few
      ∙ sym (is ∙ ap (λ t. codes "{\"type\":\"tsumo\",\"actor\":" ++ t) (parts.parts ∙ ap (λ e. (48 + seat) ∷ (codes ",\"pai\":\"" ++ (text_of tile ++ 34 ∷ e))) last));
}

draw_read : (text : List ℕ) (seat tile : ℕ) → seat < 4 → tile < 37 → IsLineOf text (Draw seat tile false) → deed_in text ≡ Some (Draw seat tile false)
draw_read text seat tile few small l = ap deed_in (sym l.is) ∙ acts_are_read.draws seat tile false (omega (arith, few)) small

-- a discard

discard_is : (text act end : List ℕ) (seat tile : ℕ) (drawn : Bool) → text ≡ codes "{\"type\":\"dahai\",\"actor\":" ++ act →
    IsActOf act seat tile end → end ≡ codes ",\"tsumogiri\":" ++ (truth drawn ++ codes "}\n") → IsLineOf text (Discard seat tile drawn)
unfolding discard_line
discard_is text act end seat tile drawn is parts last = record {
  fits = and_from (nat_lt seat 256) (nat_lt tile 37) (lt-ltb seat 256 (let f = parts.seat_few in omega arith)) (lt-ltb tile 37 parts.tile_few);
  is =
      group7 (codes "{\"type\":\"dahai\",\"actor\":") (decimal seat) (codes ",\"pai\":") (quoted_tile tile) (codes ",\"tsumogiri\":") (truth drawn) (codes "}\n")
      ∙ act_shape (codes "{\"type\":\"dahai\",\"actor\":") seat tile (codes ",\"tsumogiri\":" ++ (truth drawn ++ codes "}\n")) parts.seat_few
      ∙ sym (is ∙ ap (λ t. codes "{\"type\":\"dahai\",\"actor\":" ++ t) (parts.parts ∙ ap (λ e. (48 + seat) ∷ (codes ",\"pai\":\"" ++ (text_of tile ++ 34 ∷ e))) last));
}

discard_read : (text : List ℕ) (seat tile : ℕ) (drawn : Bool) → seat < 4 → tile < 37 → IsLineOf text (Discard seat tile drawn) → deed_in text ≡ Some (Discard seat tile drawn)
discard_read text seat tile drawn few small l = ap deed_in (sym l.is) ∙ acts_are_read.discards seat tile drawn (omega (arith, few)) small

-- a text that begins with an act's line

act_text : List ℕ → ℕ → ℕ → List ℕ → List ℕ
act_text front seat tile end = front ++ ((48 + seat) ∷ (codes ",\"pai\":\"" ++ (text_of tile ++ 34 ∷ end)))

act_more : (front : List ℕ) (seat tile : ℕ) (end rest : List ℕ) → act_text front seat tile end ++ rest ≡ act_text front seat tile (end ++ rest)
unfolding act_text
act_more front seat tile end rest =
    append_assoc front ((48 + seat) ∷ (codes ",\"pai\":\"" ++ (text_of tile ++ 34 ∷ end))) rest
    ∙ ap (λ t. front ++ ((48 + seat) ∷ (codes ",\"pai\":\"" ++ t))) (append_assoc (text_of tile) (34 ∷ end) rest)

act_parts : (front text act end more : List ℕ) (seat tile : ℕ) → text ≡ front ++ act → IsActOf act seat tile end → end ≡ more → text ≡ act_text front seat tile more
unfolding act_text
act_parts front text act end more seat tile is parts last = is ∙ ap (λ t. front ++ t) (parts.parts ∙ ap (λ e. (48 + seat) ∷ (codes ",\"pai\":\"" ++ (text_of tile ++ 34 ∷ e))) last)

-- no newline stands in it but its last byte
plain_both : (xs ys : List ℕ) → has_byte 10 xs ≡ false → has_byte 10 ys ≡ false → has_byte 10 (xs ++ ys) ≡ false
plain_both [] ys h k = k
plain_both (b ∷ bs) ys h k = let e = has_byte-head 10 b bs h in rw (e.0, plain_both bs ys e.1 k)

plain_tile : (tile : ℕ) → tile < 37 → has_byte 10 (text_of tile) ≡ false
unfolding text_of texts
plain_tile tile small = not_true (has_byte 10 (text_of tile)) (passes (λ face. not (has_byte 10 (text_of face))) 37 tile refl small)

plain_seat : (seat : ℕ) → (48 + seat == 10) ≡ false
plain_seat seat = grind (arith, nat_tests)

plain_act : (front end : List ℕ) (seat tile : ℕ) → has_byte 10 front ≡ false → has_byte 10 end ≡ false → tile < 37 → has_byte 10 (act_text front seat tile end) ≡ false
unfolding act_text
plain_act front end seat tile f e small =
    plain_both front ((48 + seat) ∷ (codes ",\"pai\":\"" ++ (text_of tile ++ 34 ∷ end))) f
    (rw (plain_seat seat) (plain_both (text_of tile) (34 ∷ end) (plain_tile tile small) e))

act_begins : (front text act end tail rest : List ℕ) (seat tile : ℕ) → text ≡ front ++ act → IsActOf act seat tile end → end ≡ tail ++ 10 ∷ rest →
    has_byte 10 front ≡ false → has_byte 10 tail ≡ false → BeginsWithLine text (act_text front seat tile tail) rest
act_begins front text act end tail rest seat tile is parts last f e =
    begins_with_line text (act_text front seat tile tail) rest (record {
      parts = act_parts front text act end (tail ++ 10 ∷ rest) seat tile is parts last ∙ sym (act_more front seat tile tail (10 ∷ rest));
      plain = plain_act front tail seat tile f e parts.tile_few;
    })

own_act : (seat tile : ℕ) (end : List ℕ) → seat < 4 → tile < 37 → IsActOf ((48 + seat) ∷ (codes ",\"pai\":\"" ++ (text_of tile ++ 34 ∷ end))) seat tile end
own_act seat tile end few small = record { seat_few = few; tile_few = small; parts = refl }

draw_whole : (seat tile : ℕ) → seat < 4 → tile < 37 → IsLineOf (act_text (codes "{\"type\":\"tsumo\",\"actor\":") seat tile (codes "}\n")) (Draw seat tile false)
unfolding act_text
draw_whole seat tile few small = draw_is _ _ (codes "}\n") seat tile refl (own_act seat tile (codes "}\n") few small) refl

pub draw_begins : (text act end rest : List ℕ) (seat tile : ℕ) → text ≡ codes "{\"type\":\"tsumo\",\"actor\":" ++ act → IsActOf act seat tile end →
    end ≡ codes "}\n" ++ rest → BeginsWithAct text (acts.Draw seat tile) rest
draw_begins text act end rest seat tile is parts last =
    let key = codes "{\"type\":\"tsumo\",\"actor\":" in
    let whole = subst (λ (t : List ℕ). IsLineOf t (Draw seat tile false)) (sym (act_more key seat tile (codes "}") (10 ∷ []))) (draw_whole seat tile parts.seat_few parts.tile_few) in
    record {
      front = act_text key seat tile (codes "}");
      begins = act_begins key text act end (codes "}") rest seat tile is parts last refl refl;
      line_of = whole;
      read = draw_read (act_text key seat tile (codes "}") ++ 10 ∷ []) seat tile parts.seat_few parts.tile_few whole;
    }

mark_text : Bool → List ℕ
mark_text drawn = codes ",\"tsumogiri\":" ++ (truth drawn ++ codes "}")

mark_more : (drawn : Bool) (rest : List ℕ) → mark_text drawn ++ 10 ∷ rest ≡ codes ",\"tsumogiri\":" ++ (truth drawn ++ (codes "}\n" ++ rest))
unfolding mark_text
mark_more true rest = refl
mark_more false rest = refl

plain_mark : (drawn : Bool) → has_byte 10 (mark_text drawn) ≡ false
unfolding mark_text
plain_mark true = refl
plain_mark false = refl

discard_whole : (seat tile : ℕ) (drawn : Bool) → seat < 4 → tile < 37 →
    IsLineOf (act_text (codes "{\"type\":\"dahai\",\"actor\":") seat tile (codes ",\"tsumogiri\":" ++ (truth drawn ++ codes "}\n"))) (Discard seat tile drawn)
unfolding act_text
discard_whole seat tile drawn few small =
    discard_is _ _ (codes ",\"tsumogiri\":" ++ (truth drawn ++ codes "}\n")) seat tile drawn refl (own_act seat tile (codes ",\"tsumogiri\":" ++ (truth drawn ++ codes "}\n")) few small) refl

pub discard_begins : (text act end rest : List ℕ) (seat tile : ℕ) (drawn : Bool) → text ≡ codes "{\"type\":\"dahai\",\"actor\":" ++ act → IsActOf act seat tile end →
    end ≡ codes ",\"tsumogiri\":" ++ (truth drawn ++ (codes "}\n" ++ rest)) → BeginsWithAct text (acts.Discard seat tile drawn) rest
discard_begins text act end rest seat tile drawn is parts last =
    let key = codes "{\"type\":\"dahai\",\"actor\":" in
    let same = act_more key seat tile (mark_text drawn) (10 ∷ []) ∙ ap (act_text key seat tile) (mark_more drawn []) in
    let whole = subst (λ (t : List ℕ). IsLineOf t (Discard seat tile drawn)) (sym same) (discard_whole seat tile drawn parts.seat_few parts.tile_few) in
    record {
      front = act_text key seat tile (mark_text drawn);
      begins = act_begins key text act end (mark_text drawn) rest seat tile is parts (last ∙ sym (mark_more drawn rest)) refl (plain_mark drawn);
      line_of = whole;
      read = discard_read (act_text key seat tile (mark_text drawn) ++ 10 ∷ []) seat tile drawn parts.seat_few parts.tile_few whole;
    }

-- two deeds of one line

pub same_line : (text : List ℕ) (one other : Deed) → line Record one ≡ line Record other → line Record other ≡ text → true ≡ bytes_eq (line Record one) text
same_line text one other same is = sym ((bytes_eq-Decides (line Record one) text).1 (same ∙ is))
