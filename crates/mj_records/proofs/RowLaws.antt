-- Rows of the table of yaku with their numbers, and lists of seats, are read again.
use Rattle.std.proofs.Common.{◌≡◌, ℕ, ◌^◌, ◌<◌, ◌≤◌, List, [], ◌∷◌, ◌++◌, length, Bool, true, false, refl, ap, sym, subst, ◌∙◌, arith, append_assoc, eqb, get_or}
use Rattle.std.specs.Prelude.{Option, Some, None, not, nat_lt, nat_le, ◌==◌, option_map, option_and_then, codes, map, bytes_eq, slice_get, decimal}
use Rattle.std.specs.List.{list_all}
use Rattle.std.specs.Option.{option_map_or}
use Rattle.std.specs.Char.{is_ascii_digit}
use Rattle.std.proofs.lemmas.Bool.{false≢true, ltb-true, leb-true}
use Rattle.std.proofs.lemmas.Bool.Decides.{Decides-eqb}
use Rattle.std.proofs.lemmas.List.Quantifiers.{position-Some}
use Rattle.std.proofs.lemmas.Option.{slice_get-get_or}
use Rattle.std.proofs.lemmas.Slice.Eq.{bytes_eq-Decides}
use Rattle.std.proofs.lemmas.Fmt.{digits_decimal, decimal_nonempty}
use Rattle.mj_lists.proofs.Ranges.{passes}
use Rattle.mj_bytes.specs.Numbers.{all_digits}
use Rattle.mj_bytes.specs.Parts.{has_byte, behind}
use Rattle.mj_bytes.proofs.DigitLaws.{all_digits-head}
use Rattle.mj_yaku.specs.Han.{Row, table}
use Rattle.mj_forms.specs.Lines.{bracketed, quoted, row_name, row_text}
use Rattle.mj_history.specs.Records.{is_byte, is_row}
use Rattle.mj_records.specs.Inner.Fields.{quoted_at, byte_field, and_rest}
use Rattle.mj_records.specs.Inner.Lists.{items_from, items_in, list_at, row_of, row_at, rows_field, seats_by, seats_with, seats_field}
use Rattle.mj_records.proofs.FieldLaws.{own, not_true, behind_key, quoted_read, byte_read}
use Rattle.mj_records.proofs.PointLaws.{and-parts}
use Rattle.mj_records.proofs.ListLaws.{list_read}
use Rattle.mj_records.proofs.Shapes.{one_shape, two_shape}

-- a row has its name for itself, without a quotation mark
is_at : Option ℕ → ℕ → Bool
is_at None row = false
is_at (Some other) row = eqb other row

is_at_says : (o : Option ℕ) (row : ℕ) → is_at o row ≡ true → o ≡ Some row
unfolding is_at
is_at_says None row h = absurd (false≢true h)
is_at_says (Some other) row h = ap Some ((Decides-eqb other row).0 h)

pub row_named : (row : ℕ) → row < 45 → row_of (row_name row) ≡ Some row
unfolding row_of table is_at
row_named row small = is_at_says (row_of (row_name row)) row (passes (λ r. is_at (row_of (row_name r)) r) 45 row refl small)

-- a name that has a row is that row's
name_at : (rows : List Row) (row : ℕ) → row < length rows → option_map_or (λ entry. entry.name) (slice_get rows row) [] ≡ (get_or rows row (record { name = []; in_closed = 0; in_open = 0 })).name
name_at rows row small = ap (λ entry. option_map_or (λ (r : Row). r.name) entry []) (slice_get-get_or rows row (record { name = []; in_closed = 0; in_open = 0 }) small)

name_of_row : (name : List ℕ) (row : ℕ) → row_of name ≡ Some row → (row < 45) × (row_name row ≡ name)
unfolding row_of table
name_of_row name row named =
    let found = position-Some (λ (entry : Row). bytes_eq entry.name name) table row (record { name = []; in_closed = 0; in_open = 0 }) named in
    (found.0, name_at table row found.0 ∙ (bytes_eq-Decides (get_or table row (record { name = []; in_closed = 0; in_open = 0 })).name name).0 found.1)

pub row_of-none : (name : List ℕ) → ((row : ℕ) → row < 45 → row_name row ≡ name → ⊥) → row_of name ≡ None
row_of-none name other = none_unless (row_of name) (λ row named. let back = name_of_row name row named in other row back.0 back.1)
  where
    none_unless : (o : Option ℕ) → ((n : ℕ) → o ≡ Some n → ⊥) → o ≡ None
    none_unless None never = refl
    none_unless (Some n) never = absurd (never n refl)

row_plain : (row : ℕ) → row < 45 → has_byte 34 (row_name row) ≡ false
unfolding table
row_plain row small = not_true (has_byte 34 (row_name row)) (passes (λ r. not (has_byte 34 (row_name r))) 45 row refl small)

row_part : (row : ℕ) (rest : List ℕ) → row < 45 → option_and_then (and_rest row_of) (quoted_at (quoted (row_name row) ++ rest)) ≡ Some (row, rest)
row_part row rest small =
    ap (option_and_then (and_rest row_of)) (quoted_read (row_name row) rest (row_plain row small)) ∙ ap (option_map (λ x. (x, rest))) (row_named row small)

row_shape : (q d rest : List ℕ) → (91 ∷ q ++ 44 ∷ d ++ 93 ∷ []) ++ rest ≡ 91 ∷ (q ++ (44 ∷ (d ++ (93 ∷ rest))))
row_shape q d rest = ap (λ t. 91 ∷ t) (append_assoc (q ++ (44 ∷ d)) (93 ∷ []) rest ∙ append_assoc q (44 ∷ d) (93 ∷ rest))

row_fields : (row number : ℕ) (rest : List ℕ) → row < 45 → number < 256 → row_at (91 ∷ (quoted (row_name row) ++ (44 ∷ (decimal number ++ (93 ∷ rest))))) ≡ Some ((row, number), rest)
unfolding row_at
row_fields row number rest hr hn =
    ap (option_and_then (λ (r : ℕ × List ℕ). option_and_then (λ (n : ℕ × List ℕ). option_map (λ (others : List ℕ). ((r.0, n.0), others)) (behind (codes "]") n.1)) (byte_field (codes ",") r.1)))
    (row_part row (44 ∷ (decimal number ++ (93 ∷ rest))) hr)
    ∙ ap (option_and_then (λ (n : ℕ × List ℕ). option_map (λ (others : List ℕ). ((row, n.0), others)) (behind (codes "]") n.1))) (byte_read (codes ",") (93 ∷ rest) number hn refl)

row_read : (item : ℕ × ℕ) (rest : List ℕ) → is_row item ≡ true → row_at (row_text item ++ rest) ≡ Some (item, rest)
row_read item rest h =
    let p = and-parts (nat_lt item.0 45) (is_byte item.1) h in
    ap row_at (row_shape (quoted (row_name item.0)) (decimal item.1) rest) ∙ row_fields item.0 item.1 rest (ltb-true item.0 45 p.0) (ltb-true item.1 256 p.1)

row_starts : (item : ℕ × ℕ) (rest : List ℕ) → items_in row_at (row_text item ++ rest) ≡ items_from row_at (length (row_text item ++ rest)) (row_text item ++ rest)
row_starts item rest = refl

pub rows_field_read : (key rest : List ℕ) (rows : List (ℕ × ℕ)) → list_all is_row rows ≡ true → rows_field key (key ++ (bracketed (map row_text rows) ++ rest)) ≡ Some (rows, rest)
unfolding rows_field
rows_field_read key rest rows h = ap (option_and_then (list_at row_at)) (behind_key key (bracketed (map row_text rows) ++ rest)) ∙ list_read row_at row_text is_row row_read row_starts rows rest h

-- a number begins with a digit, and not with a bracket
no_bracket : (b : ℕ) → is_ascii_digit b ≡ true → (93 == b) ≡ false
no_bracket b h = either (93 == b) refl
  where
    either : (t : Bool) → (93 == b) ≡ t → (93 == b) ≡ false
    either false e = e
    either true e = absurd (false≢true (subst (λ n. is_ascii_digit n ≡ true) (sym ((Decides-eqb 93 b).0 e)) h))

no_end : (ds rest : List ℕ) → all_digits ds ≡ true → 0 < length ds → behind (codes "[]") (91 ∷ (ds ++ rest)) ≡ None
no_end [] rest d some = absurd (omega arith)
no_end (b ∷ bs) rest d some = let k = all_digits-head (is_ascii_digit b) (all_digits bs) d in rw (no_bracket b k.0)

some_seat : (seat : ℕ) (rest : List ℕ) → seat < 256 → behind (codes "[]") (91 ∷ (decimal seat ++ rest)) ≡ None
some_seat seat rest small = let wide : seat < 2 ^ 64 = omega arith in no_end (decimal seat) rest (digits_decimal own seat wide) (decimal_nonempty seat wide)

one_seat : (a : ℕ) (rest : List ℕ) → a < 256 → seats_by (behind (codes "[]") (91 ∷ (decimal a ++ (93 ∷ rest)))) (91 ∷ (decimal a ++ (93 ∷ rest))) ≡ Some (a ∷ [])
unfolding byte_field
one_seat a rest ha =
    ap (λ o. seats_by o (91 ∷ (decimal a ++ (93 ∷ rest)))) (some_seat a (93 ∷ rest) ha)
    ∙ ap (option_map (λ (first : ℕ × List ℕ). seats_with first.0 (byte_field (codes ",") first.1))) (byte_read (codes "[") (93 ∷ rest) a ha refl)

two_seats : (a b : ℕ) (rest : List ℕ) → a < 256 → b < 256 →
    seats_by (behind (codes "[]") (91 ∷ (decimal a ++ (44 ∷ (decimal b ++ (93 ∷ rest)))))) (91 ∷ (decimal a ++ (44 ∷ (decimal b ++ (93 ∷ rest))))) ≡ Some (a ∷ b ∷ [])
two_seats a b rest ha hb =
    ap (λ o. seats_by o (91 ∷ (decimal a ++ (44 ∷ (decimal b ++ (93 ∷ rest)))))) (some_seat a (44 ∷ (decimal b ++ (93 ∷ rest))) ha)
    ∙ ap (option_map (λ (first : ℕ × List ℕ). seats_with first.0 (byte_field (codes ",") first.1))) (byte_read (codes "[") (44 ∷ (decimal b ++ (93 ∷ rest))) a ha refl)
    ∙ ap (λ o. Some (seats_with a o)) (byte_read (codes ",") (93 ∷ rest) b hb refl)

in_brackets : (seats rest : List ℕ) → nat_le (length seats) 2 ≡ true → list_all is_byte seats ≡ true →
    option_and_then (λ list. seats_by (behind (codes "[]") list) list) (Some (bracketed (map decimal seats) ++ rest)) ≡ Some seats
unfolding bracketed
in_brackets [] rest few h = refl
in_brackets (a ∷ []) rest few h =
    let p = and-parts (is_byte a) true h in
    ap (λ list. seats_by (behind (codes "[]") list) list) (one_shape (decimal a) rest) ∙ one_seat a rest (ltb-true a 256 p.0)
in_brackets (a ∷ b ∷ []) rest few h =
    let p = and-parts (is_byte a) (list_all is_byte (b ∷ [])) h in
    let q = and-parts (is_byte b) true p.1 in
    ap (λ list. seats_by (behind (codes "[]") list) list) (two_shape (decimal a) (decimal b) rest) ∙ two_seats a b rest (ltb-true a 256 p.0) (ltb-true b 256 q.0)
in_brackets (a ∷ b ∷ c ∷ cs) rest few h = absurd (let q : length (a ∷ b ∷ c ∷ cs) ≤ 2 = leb-true (length (a ∷ b ∷ c ∷ cs)) 2 few in omega arith)

pub seats_field_read : (key rest seats : List ℕ) → nat_le (length seats) 2 ≡ true → list_all is_byte seats ≡ true → seats_field key (key ++ (bracketed (map decimal seats) ++ rest)) ≡ Some seats
unfolding seats_field
seats_field_read key rest seats few h = ap (option_and_then (λ list. seats_by (behind (codes "[]") list) list)) (behind_key key (bracketed (map decimal seats) ++ rest)) ∙ in_brackets seats rest few h
