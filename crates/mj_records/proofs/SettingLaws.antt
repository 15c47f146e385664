-- The header and the walls: what is read of their lines has just these lines.
use Rattle.std.proofs.Common.{◌≡◌, ℕ, ◌<◌, ◌^◌, List, [], ◌∷◌, ◌++◌, Bool, true, false, refl, ap, sym, ◌∙◌, arith, cond, append_assoc, rules}
use Rattle.std.specs.Prelude.{Option, Some, None, MatchOption, ◌==◌, ◌&&◌, not, nat_le, bytes_eq, codes, decimal, flat_map, map, option_map, option_and_then}
use Rattle.std.proofs.lemmas.Bool.{false≢true}
use Rattle.std.proofs.lemmas.Bool.Decides.{nat_tests, Decides-eqb}
use Rattle.std.proofs.lemmas.Fmt.{digits_decimal}
use Rattle.std.specs.List.{All}
use Rattle.std.proofs.lemmas.List.Elements.{All-head, All-tail}
use Rattle.std.proofs.lemmas.Slice.Eq.{bytes_eq-Decides}
use Rattle.mj_wall.proofs.WallFaces.{wall_faces}
use Rattle.std.specs.Char.{is_ascii_digit}
use Rattle.mj_bytes.specs.Numbers.{decimal_of, all_digits}
use Rattle.mj_bytes.specs.Parts.{fields, behind, has_byte, onto_first}
use Rattle.mj_bytes.proofs.NumberLaws.{number_text-decimal_of, decimal_of-number_text}
use Rattle.mj_bytes.proofs.PartLaws.{parts_by-at, parts_by-none}
use Rattle.mj_bytes.proofs.DigitLaws.{all_digits-head}
use Rattle.mj_tiles.specs.Faces.{text_of, texts, face_of}
use Rattle.mj_tiles.proofs.Texts.{face_of-text_of, text_of-face_of}
use Rattle.mj_lists.proofs.Ranges.{passes}
use Rattle.mj_wall.specs.declared.setting.Rules.{Rules}
use Rattle.mj_wall.specs.Places.{is_wall}
use Rattle.mj_records.proofs.FieldLaws.{own, not_true, behind_key}
use Rattle.mj_forms.specs.Headers.{limit_of, switch_of, rules_of, tiles_in}
use Rattle.mj_forms.specs.Headers.{switch_text, header_line, wall_line}
use Rattle.mj_history.specs.Records.{are_rules}
use Rattle.mj_records.specs.Settings.{IsHeader, IsNoHeader, IsWallLine, IsNoWallLine}

-- a text that begins so
pub behind-is : (key text rest : List ℕ) → Some rest ≡ behind key text → text ≡ key ++ rest
behind-is [] text rest h = cc h
behind-is (k ∷ ks) [] rest h = cc h
behind-is (k ∷ ks) (b ∷ bs) rest h = either (k == b) refl h (behind-is ks bs rest)
  where
    either : (t : Bool) → (k == b) ≡ t → Some rest ≡ cond t (behind ks bs) None → (Some rest ≡ behind ks bs → bs ≡ ks ++ rest) → b ∷ bs ≡ k ∷ ks ++ rest
    either true e g more = let same : k ≡ b = (Decides-eqb k b).0 e in rw same (ap (λ xs. b ∷ xs) (more g))
    either false e g more = cc g

-- a text is its fields, with a space before each, but the first space
spaced : (text : List ℕ) → flat_map (λ field. 32 ∷ field) (fields text) ≡ 32 ∷ text
spaced [] = refl
spaced (b ∷ bs) = either (b == 32) refl (fields bs) (spaced bs)
  where
    tail_of : List ℕ → List ℕ
    tail_of [] = []
    tail_of (x ∷ xs) = xs

    either : (t : Bool) → (b == 32) ≡ t → (parts : List (List ℕ)) → flat_map (λ field. 32 ∷ field) parts ≡ 32 ∷ bs →
        flat_map (λ field. 32 ∷ field) (cond t ([] ∷ parts) (onto_first b parts)) ≡ 32 ∷ b ∷ bs
    either true e parts h = let same : b ≡ 32 = (Decides-eqb b 32).0 e in rw same (ap (λ xs. 32 ∷ xs) h)
    either false e [] h = cc h
    either false e (x ∷ xs) h = ap (λ ys. 32 ∷ b ∷ tail_of ys) h

-- the fields of a header
limit_field : (field : List ℕ) (ms : ℕ) → Some ms ≡ option_and_then limit_of (option_and_then decimal_of (behind (codes "limit=") field)) →
    (field ≡ codes "limit=" ++ decimal ms) × (nat_le 1 ms && nat_le ms 3600000) ≡ true
limit_field field ms h = by_key (behind (codes "limit=") field) refl h
  where
    by_bound : (n : ℕ) (t : Bool) → (nat_le 1 n && nat_le n 3600000) ≡ t → Some ms ≡ cond t (Some n) None → (n ≡ ms) × (nat_le 1 ms && nat_le ms 3600000) ≡ true
    by_bound n true e g = let same : n ≡ ms = cc g in (same, rw (← same) e)
    by_bound n false e g = cc g

    by_number : (text : List ℕ) (o : Option ℕ) → decimal_of text ≡ o → Some ms ≡ option_and_then limit_of o → (text ≡ decimal ms) × (nat_le 1 ms && nat_le ms 3600000) ≡ true
    by_number text None e g = cc g
    by_number text (Some n) e g = let b = by_bound n _ refl g in (number_text-decimal_of text n e ∙ ap decimal b.0, b.1)

    by_key : (o : Option (List ℕ)) → behind (codes "limit=") field ≡ o → Some ms ≡ option_and_then limit_of (option_and_then decimal_of o) →
        (field ≡ codes "limit=" ++ decimal ms) × (nat_le 1 ms && nat_le ms 3600000) ≡ true
    by_key None e g = cc g
    by_key (Some text) e g = let b = by_number text (decimal_of text) refl g in (behind-is (codes "limit=") field text (sym e) ∙ ap (λ xs. codes "limit=" ++ xs) b.0, b.1)

pub bytes-same : (xs ys : List ℕ) → bytes_eq xs ys ≡ true → xs ≡ ys
bytes-same xs ys h = (bytes_eq-Decides xs ys).0 h

switch_field : (key field : List ℕ) (on : Bool) → Some on ≡ option_and_then switch_of (behind key field) → field ≡ key ++ switch_text on
switch_field key field on h = by_key (behind key field) refl h
  where
    by_text : (text : List ℕ) (off up : Bool) → bytes_eq text (codes "0") ≡ off → bytes_eq text (codes "1") ≡ up → Some on ≡ cond off (Some false) (cond up (Some true) None) → text ≡ switch_text on
    by_text text true up e f g = let same : false ≡ on = cc g in bytes-same text (codes "0") e ∙ ap switch_text same
    by_text text false true e f g = let same : true ≡ on = cc g in bytes-same text (codes "1") f ∙ ap switch_text same
    by_text text false false e f g = cc g

    by_key : (o : Option (List ℕ)) → behind key field ≡ o → Some on ≡ option_and_then switch_of o → field ≡ key ++ switch_text on
    by_key None e g = cc g
    by_key (Some text) e g = behind-is key field text (sym e) ∙ ap (λ xs. key ++ xs) (by_text text _ _ refl refl g)

-- what the fields of a header say
record Says (texts : List (List ℕ)) (rules : Rules) : Type 0 where
  bounds : (nat_le 1 rules.limit && nat_le rules.limit 3600000) ≡ true
  texts_are : texts ≡ (codes "limit=" ++ decimal rules.limit) ∷ (codes "draws=" ++ switch_text rules.draws) ∷ (codes "red=" ++ switch_text rules.red) ∷ []

three_say : (a b c : List ℕ) (rules : Rules) (o : Option ℕ) (p q : Option Bool) →
    option_and_then limit_of (option_and_then decimal_of (behind (codes "limit=") a)) ≡ o → option_and_then switch_of (behind (codes "draws=") b) ≡ p
    → option_and_then switch_of (behind (codes "red=") c) ≡ q →
    Some rules ≡ option_and_then (λ ms. option_and_then (λ d. option_map (λ r. record { limit = ms; draws = d; red = r }) q) p) o → Says (a ∷ b ∷ c ∷ []) rules
three_say a b c rules None p q e f g h = cc h
three_say a b c rules (Some ms) None q e f g h = cc h
three_say a b c rules (Some ms) (Some d) None e f g h = cc h
three_say a b c rules (Some ms) (Some d) (Some r) e f g h =
    let l = limit_field a ms (sym e) in
    let same : record { limit = ms; draws = d; red = r } ≡ rules = cc h in
    rw (← same) (record {
      bounds = l.1;
      texts_are = rw (l.0, switch_field (codes "draws=") b d (sym f), switch_field (codes "red=") c r (sym g)) refl;
    })

fields_say : (texts : List (List ℕ)) (rules : Rules) → Some rules ≡ rules_of texts → Says texts rules
unfolding rules_of
fields_say [] rules h = cc h
fields_say (a ∷ []) rules h = cc h
fields_say (a ∷ b ∷ []) rules h = cc h
fields_say (a ∷ b ∷ c ∷ []) rules h = three_say a b c rules _ _ _ refl refl refl h
fields_say (a ∷ b ∷ c ∷ d ∷ ds) rules h = cc h

-- a header's line in its fields
nothing_more : (xs : List ℕ) → xs ++ [] ≡ xs
nothing_more [] = refl
nothing_more (x ∷ xs) = ap (λ ys. x ∷ ys) (nothing_more xs)

nested : (a b c d e f : List ℕ) → a ++ b ++ c ++ d ++ e ++ f ≡ a ++ (b ++ (c ++ (d ++ (e ++ f))))
nested a b c d e f = append_assoc (a ++ b ++ c ++ d) e f ∙ append_assoc (a ++ b ++ c) d (e ++ f) ∙ append_assoc (a ++ b) c (d ++ (e ++ f)) ∙ append_assoc a b (c ++ (d ++ (e ++ f)))

body : List ℕ → List ℕ → List ℕ → List ℕ
body limit draws red = codes "game limit=" ++ limit ++ codes " draws=" ++ draws ++ codes " red=" ++ red

header_text : List ℕ → List ℕ → List ℕ → List ℕ
header_text limit draws red = codes "limit=" ++ (limit ++ (codes " draws=" ++ (draws ++ (codes " red=" ++ red))))

body_is : (limit draws red : List ℕ) → body limit draws red ≡ codes "game " ++ header_text limit draws red
unfolding body header_text
body_is limit draws red = nested (codes "game limit=") limit (codes " draws=") draws (codes " red=") red

header_fields : (limit draws red : List ℕ) → flat_map (λ field. 32 ∷ field) ((codes "limit=" ++ limit) ∷ (codes "draws=" ++ draws) ∷ (codes "red=" ++ red) ∷ []) ≡ 32 ∷ header_text limit draws red
unfolding header_text
header_fields limit draws red = ap (λ ys. codes " limit=" ++ (limit ++ (codes " draws=" ++ (draws ++ (codes " red=" ++ ys))))) (nothing_more red)

line_is : (rules : Rules) → header_line rules ≡ body (decimal rules.limit) (switch_text rules.draws) (switch_text rules.red) ++ 10 ∷ []
unfolding header_line body
line_is rules = refl

tail_of : List ℕ → List ℕ
tail_of [] = []
tail_of (x ∷ xs) = xs

text_says : (text : List ℕ) (rules : Rules) → Says (fields text) rules → text ≡ header_text (decimal rules.limit) (switch_text rules.draws) (switch_text rules.red)
unfolding tail_of
text_says text rules s = ap tail_of (sym (spaced text) ∙ ap (flat_map (λ field. 32 ∷ field)) s.texts_are ∙ header_fields (decimal rules.limit) (switch_text rules.draws) (switch_text rules.red))

pub header_is : (line text : List ℕ) (rules : Rules) → Some text ≡ behind (codes "game ") line → Some rules ≡ rules_of (fields text) → IsHeader line rules
header_is line text rules b r =
    let s = fields_say (fields text) rules r in
    record {
      fits = s.bounds;
      is = line_is rules ∙ ap (λ xs. xs ++ 10 ∷ []) (body_is (decimal rules.limit) (switch_text rules.draws) (switch_text rules.red)
          ∙ ap (λ xs. codes "game " ++ xs) (sym (text_says text rules s)) ∙ sym (behind-is (codes "game ") line text b));
    }

-- what stands before the last byte
but_last : List ℕ → List ℕ
but_last [] = []
but_last (x ∷ []) = []
but_last (x ∷ y ∷ ys) = x ∷ but_last (y ∷ ys)

but_last-of : (xs : List ℕ) (y : ℕ) → but_last (xs ++ y ∷ []) ≡ xs
unfolding but_last
but_last-of [] y = refl
but_last-of (x ∷ []) y = refl
but_last-of (x ∷ z ∷ zs) y = ap (λ ys. x ∷ ys) (but_last-of (z ∷ zs) y)

same-before : (xs ys : List ℕ) → xs ++ 10 ∷ [] ≡ ys ++ 10 ∷ [] → xs ≡ ys
same-before xs ys h = sym (but_last-of xs 10) ∙ ap but_last h ∙ but_last-of ys 10

-- no space stands in a number, and none in a field of a header
digit-no-space : (b : ℕ) → is_ascii_digit b ≡ true → (b == 32) ≡ false
digit-no-space b h = grind (arith, nat_tests)

digits-no-space : (ds : List ℕ) → all_digits ds ≡ true → has_byte 32 ds ≡ false
digits-no-space [] h = refl
digits-no-space (b ∷ bs) h = let k = all_digits-head (is_ascii_digit b) (all_digits bs) h in rw (digit-no-space b k.0, digits-no-space bs k.1)

switch-no-space : (on : Bool) → has_byte 32 (switch_text on) ≡ false
switch-no-space true = refl
switch-no-space false = refl

-- and the other way round
record Reads (line : List ℕ) (rules : Rules) : Type 0 where
  text : List ℕ
  key : behind (codes "game ") line ≡ Some text
  says : rules_of (fields text) ≡ Some rules

limit_reads : (ms : ℕ) → (nat_le 1 ms && nat_le ms 3600000) ≡ true → option_and_then limit_of (option_and_then decimal_of (behind (codes "limit=") (codes "limit=" ++ decimal ms))) ≡ Some ms
limit_reads ms h =
    let small : ms < 2 ^ 64 = grind (arith, nat_tests) in
    ap (λ o. option_and_then limit_of (option_and_then decimal_of o)) (behind_key (codes "limit=") (decimal ms))
    ∙ ap (option_and_then limit_of) (decimal_of-number_text ms small) ∙ ap (λ t. cond t (Some ms) None) h

switch_reads : (key : List ℕ) (on : Bool) → option_and_then switch_of (behind key (key ++ switch_text on)) ≡ Some on
switch_reads key true = ap (option_and_then switch_of) (behind_key key (codes "1"))
switch_reads key false = ap (option_and_then switch_of) (behind_key key (codes "0"))

three_read : (rules : Rules) → (nat_le 1 rules.limit && nat_le rules.limit 3600000) ≡ true →
    rules_of ((codes "limit=" ++ decimal rules.limit) ∷ (codes "draws=" ++ switch_text rules.draws) ∷ (codes "red=" ++ switch_text rules.red) ∷ []) ≡
    Some rules
unfolding rules_of
three_read rules h = rw (limit_reads rules.limit h, switch_reads (codes "draws=") rules.draws, switch_reads (codes "red=") rules.red) refl

fields_are : (limit draws red : List ℕ) → has_byte 32 limit ≡ false → has_byte 32 draws ≡ false → has_byte 32 red ≡ false →
    fields (header_text limit draws red) ≡ (codes "limit=" ++ limit) ∷ (codes "draws=" ++ draws) ∷ (codes "red=" ++ red) ∷ []
unfolding header_text
fields_are limit draws red l d r =
    parts_by-at 32 (codes "limit=" ++ limit) (codes "draws=" ++ (draws ++ (codes " red=" ++ red))) l
    ∙ ap (λ ys. (codes "limit=" ++ limit) ∷ ys) (parts_by-at 32 (codes "draws=" ++ draws) (codes "red=" ++ red) d
    ∙ ap (λ ys. (codes "draws=" ++ draws) ∷ ys) (parts_by-none 32 (codes "red=" ++ red) r))

header_reads : (line : List ℕ) (rules : Rules) → are_rules rules ≡ true → header_line rules ≡ line ++ 10 ∷ [] → Reads line rules
header_reads line rules h e =
    let small : rules.limit < 2 ^ 64 = grind (arith, nat_tests) in
    let limit = decimal rules.limit in
    let draws = switch_text rules.draws in
    let red = switch_text rules.red in
    let is : line ≡ codes "game " ++ header_text limit draws red = same-before line (body limit draws red) (sym e ∙ line_is rules) ∙ body_is limit draws red in
    record {
      text = header_text limit draws red;
      key = ap (behind (codes "game ")) is ∙ behind_key (codes "game ") (header_text limit draws red);
      says = ap rules_of (fields_are limit draws red (digits-no-space limit (digits_decimal own rules.limit small)) (switch-no-space rules.draws) (switch-no-space rules.red)) ∙ three_read rules h;
    }

-- so a line without them is no header
pub no_header : (line : List ℕ) → None ≡ behind (codes "game ") line → IsNoHeader line
no_header line b rules h e = let r = header_reads line rules h e in cc (b, r.key)

same_text : (line text : List ℕ) (rules : Rules) → Some text ≡ behind (codes "game ") line → (r : Reads line rules) → rules_of (fields text) ≡ Some rules
same_text line text rules b r = let e : text ≡ r.text = cc (b, r.key) in ap (λ xs. rules_of (fields xs)) e ∙ r.says

pub no_rules : (line text : List ℕ) → Some text ≡ behind (codes "game ") line → None ≡ rules_of (fields text) → IsNoHeader line
no_rules line text b n rules h e = let s = same_text line text rules b (header_reads line rules h e) in cc (n, s)

-- The rules of the fields after the word are just what a header line says.
pub header_says : (line text : List ℕ) (answer : Option Rules) → Some text ≡ behind (codes "game ") line → answer ≡ rules_of (fields text) →
    MatchOption answer (IsNoHeader line) (λ rules. IsHeader line rules)
header_says line text None b r = no_rules line text b r
header_says line text (Some rules) b r = header_is line text rules b r

-- A header says one list of rules.
pub one_header : (line : List ℕ) (rules other : Rules) → are_rules rules ≡ true → are_rules other ≡ true → header_line rules ≡ line ++ 10 ∷ [] → header_line other ≡ line ++ 10 ∷ [] → rules ≡ other
one_header line rules other h k e f =
    let r = header_reads line rules h e in
    let s = same_text line r.text other (sym r.key) (header_reads line other k f) in
    let t = r.says in
    cc (t, s)

-- the tiles of a wall
named : (texts : List (List ℕ)) (tiles : List ℕ) → Some tiles ≡ tiles_in texts → flat_map (λ tile. 32 ∷ text_of tile) tiles ≡ flat_map (λ field. 32 ∷ field) texts
named [] tiles h = let e : tiles ≡ [] = cc h in rw e refl
named (text ∷ texts) tiles h = by_tile (face_of text) (tiles_in texts) refl refl h (named texts)
  where
    by_tile : (o : Option ℕ) (p : Option (List ℕ)) → face_of text ≡ o → tiles_in texts ≡ p → Some tiles ≡ option_and_then (λ tile. option_map (λ ts. tile ∷ ts) p) o
        → ((others : List ℕ) → Some others ≡ tiles_in texts → flat_map (λ tile. 32 ∷ text_of tile) others ≡ flat_map (λ field. 32 ∷ field) texts)
        → flat_map (λ tile. 32 ∷ text_of tile) tiles ≡ flat_map (λ field. 32 ∷ field) (text ∷ texts)
    by_tile None p e f g more = cc g
    by_tile (Some tile) None e f g more = cc g
    by_tile (Some tile) (Some others) e f g more =
        let is : tiles ≡ tile ∷ others = cc g in
        let back = text_of-face_of text tile e in
        rw (is, ← back.1) (ap (λ ys. 32 ∷ (text ++ ys)) (more others (sym f)))

wall_parts : (tiles : List ℕ) → wall_line tiles ≡ codes "wall" ++ flat_map (λ tile. 32 ∷ text_of tile) tiles ++ 10 ∷ []
unfolding wall_line
wall_parts tiles = refl

pub wall_is : (red : Bool) (line text tiles : List ℕ) → Some text ≡ behind (codes "wall ") line → Some tiles ≡ tiles_in (fields text) → is_wall red tiles ≡ true → IsWallLine red line tiles
wall_is red line text tiles b t whole = record {
  whole = whole;
  is = wall_parts tiles ∙ ap (λ xs. codes "wall" ++ xs ++ 10 ∷ []) (named (fields text) tiles t ∙ spaced text) ∙ ap (λ xs. xs ++ 10 ∷ []) (sym (behind-is (codes "wall ") line text b));
}

-- and the other way round
no_space : (tile : ℕ) → tile < 37 → has_byte 32 (text_of tile) ≡ false
unfolding text_of texts
no_space tile small = not_true (has_byte 32 (text_of tile)) (passes (λ face. not (has_byte 32 (text_of face))) 37 tile refl small)

tile_fields : (tile : ℕ) (tiles : List ℕ) → All (λ t. t < 37) (tile ∷ tiles) → fields (text_of tile ++ flat_map (λ t. 32 ∷ text_of t) tiles) ≡ map text_of (tile ∷ tiles)
tile_fields tile [] h = ap fields (nothing_more (text_of tile)) ∙ parts_by-none 32 (text_of tile) (no_space tile (All-head (λ t. t < 37) tile [] h))
tile_fields tile (next ∷ tiles) h =
    parts_by-at 32 (text_of tile) (text_of next ++ flat_map (λ t. 32 ∷ text_of t) tiles) (no_space tile (All-head (λ t. t < 37) tile (next ∷ tiles) h))
    ∙ ap (λ ys. text_of tile ∷ ys) (tile_fields next tiles (All-tail (λ t. t < 37) tile (next ∷ tiles) h))

tiles_read : (tiles : List ℕ) → All (λ t. t < 37) tiles → tiles_in (map text_of tiles) ≡ Some tiles
tiles_read [] h = refl
tiles_read (tile ∷ tiles) h = rw (face_of-text_of tile (All-head (λ t. t < 37) tile tiles h), tiles_read tiles (All-tail (λ t. t < 37) tile tiles h))

record ReadsTiles (line tiles : List ℕ) : Type 0 where
  text : List ℕ
  key : behind (codes "wall ") line ≡ Some text
  says : tiles_in (fields text) ≡ Some tiles

some_tiles : (red : Bool) → is_wall red [] ≡ true → ⊥
unfolding is_wall
some_tiles red h = absurd (false≢true h)

wall_reads : (red : Bool) (line tiles : List ℕ) → is_wall red tiles ≡ true → wall_line tiles ≡ line ++ 10 ∷ [] → ReadsTiles line tiles
wall_reads red line [] whole e = absurd (some_tiles red whole)
wall_reads red line (tile ∷ tiles) whole e =
    let within = wall_faces red (tile ∷ tiles) whole in
    let text = text_of tile ++ flat_map (λ t. 32 ∷ text_of t) tiles in
    let is : line ≡ codes "wall " ++ text = same-before line (codes "wall" ++ flat_map (λ t. 32 ∷ text_of t) (tile ∷ tiles)) (sym e ∙ wall_parts (tile ∷ tiles)) in
    record {
      text = text;
      key = ap (behind (codes "wall ")) is ∙ behind_key (codes "wall ") text;
      says = ap tiles_in (tile_fields tile tiles within) ∙ tiles_read (tile ∷ tiles) within;
    }

pub no_wall : (red : Bool) (line : List ℕ) → None ≡ behind (codes "wall ") line → IsNoWallLine red line
no_wall red line b tiles whole e = let r = wall_reads red line tiles whole e in cc (b, r.key)

same_tiles : (line text tiles : List ℕ) → Some text ≡ behind (codes "wall ") line → (r : ReadsTiles line tiles) → tiles_in (fields text) ≡ Some tiles
same_tiles line text tiles b r = let e : text ≡ r.text = cc (b, r.key) in ap (λ xs. tiles_in (fields xs)) e ∙ r.says

pub no_tiles : (red : Bool) (line text : List ℕ) → Some text ≡ behind (codes "wall ") line → None ≡ tiles_in (fields text) → IsNoWallLine red line
no_tiles red line text b n tiles whole e = let s = same_tiles line text tiles b (wall_reads red line tiles whole e) in cc (n, s)

-- A line names the tiles of one wall.
pub one_wall : (red : Bool) (line tiles other : List ℕ) → is_wall red tiles ≡ true → is_wall red other ≡ true → wall_line tiles ≡ line ++ 10 ∷ [] → wall_line other ≡ line ++ 10 ∷ [] → tiles ≡ other
one_wall red line tiles other h k e f =
    let r = wall_reads red line tiles h e in
    let s = same_tiles line r.text other (sym r.key) (wall_reads red line other k f) in
    let t = r.says in
    cc (t, s)

pub other_tiles : (red : Bool) (line text tiles : List ℕ) → Some text ≡ behind (codes "wall ") line → Some tiles ≡ tiles_in (fields text) → is_wall red tiles ≡ false → IsNoWallLine red line
other_tiles red line text tiles b t broken other whole e =
    let s = same_tiles line text other b (wall_reads red line other whole e) in
    let is : tiles ≡ other = cc (t, s) in
    absurd (false≢true (sym broken ∙ ap (is_wall red) is ∙ whole))

pub ruleset headers = (header_is, no_header, no_rules)

pub ruleset walls = (wall_is, no_wall, no_tiles, other_tiles)
