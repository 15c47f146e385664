-- What is written of a field is read again, whatever stands after it; and what the steps of reading say.
use Rattle.std.proofs.Common.{◌≡◌, ℕ, ◌^◌, ◌<◌, ◌≤◌, List, [], ◌∷◌, ◌++◌, length, Bool, true, false, refl, ap, sym, ◌∙◌, arith, take, drop, get_or, rules, zero, suc, append_assoc}
use Rattle.std.specs.Prelude.{Some, None, not, nat_lt, ◌==◌, option_map, option_and_then}
use Rattle.std.specs.Fmt.{decimal}
use Rattle.std.specs.Char.{is_ascii_digit}
use Rattle.std.proofs.lemmas.Bool.{false≢true}
use Rattle.std.proofs.lemmas.Bool.Decides.{nat_tests}
use Rattle.std.proofs.lemmas.Str.Parse.{IsNumeralModel, numerals_by_weight}
use Rattle.std.proofs.lemmas.Fmt.{digits_decimal}
use Rattle.mj_lists.proofs.Ranges.{passes}
use Rattle.mj_bytes.specs.Numbers.{all_digits, digits_value}
use Rattle.mj_bytes.specs.Parts.{has_byte, behind}
use Rattle.mj_bytes.proofs.NumberLaws.{decimal_of-number_text}
use Rattle.mj_bytes.proofs.PartLaws.{has_byte-head}
use Rattle.mj_bytes.proofs.DigitLaws.{all_digits-head, all_digits-step}
use Rattle.std.proofs.lemmas.List.{take-append-drop}
use Rattle.mj_tiles.specs.Faces.{text_of, texts, face_of}
use Rattle.mj_tiles.proofs.Texts.{face_of-text_of}
use Rattle.mj_forms.specs.Lines.{quoted, quoted_tile, truth}
use Rattle.mj_records.specs.Inner.Fields.{digits_front, behind_digits, below, and_rest, number_at, below_at, until, quoted_at, tile_at, truth_at, byte_field, word_field, tile_field, truth_field}
use Rattle.mj_records.specs.Laws.{is_plain, FieldsAreRead}

-- the digits of a number and what they are worth
pub own : IsNumeralModel (λ ds. all_digits ds ≡ true) digits_value
own = numerals_by_weight _ (search rules) digits_value (search rules)

pub not_true : (t : Bool) → not t ≡ true → t ≡ false
not_true true h = absurd (false≢true h)
not_true false h = refl

-- digits end where no digit stands
front_stops : (rest : List ℕ) → is_plain rest ≡ true → digits_front rest ≡ []
front_stops [] h = refl
front_stops (b ∷ bs) h = rw (not_true (is_ascii_digit b) h)

behind_stops : (rest : List ℕ) → is_plain rest ≡ true → behind_digits rest ≡ rest
behind_stops [] h = refl
behind_stops (b ∷ bs) h = rw (not_true (is_ascii_digit b) h)

front_of : (ds rest : List ℕ) → all_digits ds ≡ true → is_plain rest ≡ true → digits_front (ds ++ rest) ≡ ds
front_of [] rest d h = front_stops rest h
front_of (b ∷ bs) rest d h = let k = all_digits-head (is_ascii_digit b) (all_digits bs) d in rw (k.0, front_of bs rest k.1 h)

behind_of : (ds rest : List ℕ) → all_digits ds ≡ true → is_plain rest ≡ true → behind_digits (ds ++ rest) ≡ rest
behind_of [] rest d h = behind_stops rest h
behind_of (b ∷ bs) rest d h = let k = all_digits-head (is_ascii_digit b) (all_digits bs) d in rw (k.0, behind_of bs rest k.1 h)

-- a number
pub number_read : (number : ℕ) (rest : List ℕ) → number < 2 ^ 64 → is_plain rest ≡ true → number_at (decimal number ++ rest) ≡ Some (number, rest)
unfolding number_at
number_read number rest small h =
    let d = digits_decimal own number small in
    rw (front_of (decimal number) rest d h, behind_of (decimal number) rest d h, decimal_of-number_text number small)

within : (limit number : ℕ) (rest : List ℕ) → number < limit → and_rest (below limit) (number, rest) ≡ Some (number, rest)
within limit number rest h = let small : nat_lt number limit ≡ true = grind (arith, nat_tests) in rw small

pub below_read : (limit number : ℕ) (rest : List ℕ) → number < limit → limit ≤ 2 ^ 64 → is_plain rest ≡ true → below_at limit (decimal number ++ rest) ≡ Some (number, rest)
unfolding below_at
below_read limit number rest small bound h = ap (option_and_then (and_rest (below limit))) (number_read number rest (omega arith) h) ∙ within limit number rest small

-- what stands after a beginning
same : (c : ℕ) → (c == c) ≡ true
same c = grind arith

pub behind_key : (key rest : List ℕ) → behind key (key ++ rest) ≡ Some rest
behind_key [] rest = refl
behind_key (k ∷ ks) rest = rw (same k, behind_key ks rest)

-- a text up to a byte
pub until_read : (c : ℕ) (text rest : List ℕ) → has_byte c text ≡ false → until c (text ++ c ∷ rest) ≡ Some (text, rest)
until_read c [] rest h = rw (same c)
until_read c (b ∷ bs) rest h = let k = has_byte-head c b bs h in rw (k.0, until_read c bs rest k.1)

pub until-none : (c : ℕ) (text : List ℕ) → has_byte c text ≡ false → None ≡ until c text
until-none c [] h = refl
until-none c (b ∷ bs) h = let k = has_byte-head c b bs h in rw (k.0, ← until-none c bs k.1)

pub until-some : (c : ℕ) (text first rest : List ℕ) → text ≡ first ++ c ∷ rest → has_byte c first ≡ false → Some (first, rest) ≡ until c text
until-some c text first rest e h = rw e (sym (until_read c first rest h))

pub ruleset quotes = (until-none, until-some)

pub quoted_read : (text rest : List ℕ) → has_byte 34 text ≡ false → quoted_at (quoted text ++ rest) ≡ Some (text, rest)
unfolding quoted_at
quoted_read text rest h = ap (until 34) (append_assoc text (34 ∷ []) rest) ∙ until_read 34 text rest h

-- a tile
no_quote : (tile : ℕ) → tile < 37 → has_byte 34 (text_of tile) ≡ false
unfolding text_of texts
no_quote tile small = not_true (has_byte 34 (text_of tile)) (passes (λ face. not (has_byte 34 (text_of face))) 37 tile refl small)

pub tile_read : (tile : ℕ) (rest : List ℕ) → tile < 37 → tile_at (quoted_tile tile ++ rest) ≡ Some (tile, rest)
unfolding tile_at quoted_tile
tile_read tile rest small =
    ap (option_and_then (and_rest face_of)) (quoted_read (text_of tile) rest (no_quote tile small)) ∙ ap (option_map (λ x. (x, rest))) (face_of-text_of tile small)

pub truth_read : (value : Bool) (rest : List ℕ) → truth_at (truth value ++ rest) ≡ Some (value, rest)
unfolding truth_at
truth_read true rest = refl
truth_read false rest = refl

-- fields after their keys
pub byte_read : (key rest : List ℕ) (number : ℕ) → number < 256 → is_plain rest ≡ true → byte_field key (key ++ (decimal number ++ rest)) ≡ Some (number, rest)
unfolding byte_field
byte_read key rest number small h = ap (option_and_then (below_at (2 ^ 8))) (behind_key key (decimal number ++ rest)) ∙ below_read (2 ^ 8) number rest small (omega arith) h

pub word_read : (key rest : List ℕ) (number : ℕ) → number < 4294967296 → is_plain rest ≡ true → word_field key (key ++ (decimal number ++ rest)) ≡ Some (number, rest)
unfolding word_field
word_read key rest number small h = ap (option_and_then (below_at (2 ^ 32))) (behind_key key (decimal number ++ rest)) ∙ below_read (2 ^ 32) number rest small (omega arith) h

pub tile_field_read : (key rest : List ℕ) (tile : ℕ) → tile < 37 → tile_field key (key ++ (quoted_tile tile ++ rest)) ≡ Some (tile, rest)
unfolding tile_field
tile_field_read key rest tile small = ap (option_and_then tile_at) (behind_key key (quoted_tile tile ++ rest)) ∙ tile_read tile rest small

pub truth_field_read : (key rest : List ℕ) (value : Bool) → truth_field key (key ++ (truth value ++ rest)) ≡ Some (value, rest)
unfolding truth_field
truth_field_read key rest value = ap (option_and_then truth_at) (behind_key key (truth value ++ rest)) ∙ truth_read value rest

pub fields_are_read : FieldsAreRead
fields_are_read = record { bytes = byte_read; words = word_read; tiles = tile_field_read; truths = truth_field_read }

-- the digits that a text begins with end at the first byte that is none, or with the text
plain-at : (text : List ℕ) (at : ℕ) → at < length text → is_ascii_digit (get_or text at 0) ≡ false → is_plain (drop at text) ≡ true
plain-at [] at h d = absurd (omega arith)
plain-at (b ∷ bs) zero h d = rw d
plain-at (b ∷ bs) (suc at) h d = plain-at bs at (omega arith) d

plain-end : (text : List ℕ) → is_plain (drop (length text) text) ≡ true
plain-end [] = refl
plain-end (b ∷ bs) = plain-end bs

front-by : (text : List ℕ) (at : ℕ) → all_digits (take at text) ≡ true → is_plain (drop at text) ≡ true → take at text ≡ digits_front text
front-by text at d p = sym (ap digits_front (sym (take-append-drop at text)) ∙ front_of (take at text) (drop at text) d p)

behind-by : (text : List ℕ) (at : ℕ) → all_digits (take at text) ≡ true → is_plain (drop at text) ≡ true → drop at text ≡ behind_digits text
behind-by text at d p = sym (ap behind_digits (sym (take-append-drop at text)) ∙ behind_of (take at text) (drop at text) d p)

pub stop-front : (text : List ℕ) (at : ℕ) → at < length text → all_digits (take at text) ≡ true → is_ascii_digit (get_or text at 0) ≡ false → take at text ≡ digits_front text
stop-front text at h d n = front-by text at d (plain-at text at h n)

pub stop-behind : (text : List ℕ) (at : ℕ) → at < length text → all_digits (take at text) ≡ true → is_ascii_digit (get_or text at 0) ≡ false → drop at text ≡ behind_digits text
stop-behind text at h d n = behind-by text at d (plain-at text at h n)

pub whole-front : (text : List ℕ) → all_digits (take (length text) text) ≡ true → take (length text) text ≡ digits_front text
whole-front text d = front-by text (length text) d (plain-end text)

pub whole-behind : (text : List ℕ) → all_digits (take (length text) text) ≡ true → drop (length text) text ≡ behind_digits text
whole-behind text d = behind-by text (length text) d (plain-end text)

pub ruleset digit_steps = (all_digits-step, stop-front, stop-behind, whole-front, whole-behind)
