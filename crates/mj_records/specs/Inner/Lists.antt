-- Lists in brackets at the beginning of a text, with commas between.
use Rattle.std.specs.Prelude.{ℕ, zero, suc, ◌==◌, if◌then◌else◌, List, [], ◌∷◌, length, codes, bytes_eq, position, Option, Some, None, option_map, option_and_then}
use Rattle.mj_bytes.specs.Parts.{behind}
use Rattle.mj_yaku.specs.Han.{table}
use Rattle.mj_records.specs.Inner.Fields.{quoted_at, tile_at, byte_field, and_rest}

-- After an item stand a comma and more items, or the bracket that ends the list.
abbrev pub behind_item : {A : Type 0} → A → (List ℕ → Option (List A × List ℕ)) → List ℕ → Option (List A × List ℕ)
behind_item item others [] = None
behind_item item others (b ∷ bs) =
    if b == 44 then option_map (λ more. (item ∷ more.0, more.1)) (others bs) else (if b == 93 then Some (item ∷ [], bs) else None)

-- Items with commas between, up to the bracket after them, so many at most.
abbrev pub items_from : {A : Type 0} → (List ℕ → Option (A × List ℕ)) → ℕ → List ℕ → Option (List A × List ℕ)
items_from item zero text = None
items_from item (suc most) text = option_and_then (λ x. behind_item x.0 (items_from item most) x.1) (item text)

-- What follows the bracket that begins a list.
abbrev pub items_in : {A : Type 0} → (List ℕ → Option (A × List ℕ)) → List ℕ → Option (List A × List ℕ)
items_in item [] = None
items_in item (b ∷ bs) = if b == 93 then Some ([], bs) else items_from item (length (b ∷ bs)) (b ∷ bs)

abbrev pub list_at : {A : Type 0} → (List ℕ → Option (A × List ℕ)) → List ℕ → Option (List A × List ℕ)
list_at item text = option_and_then (items_in item) (behind (codes "[") text)

unfoldable pub tiles_at : List ℕ → Option (List ℕ × List ℕ)
tiles_at text = list_at tile_at text

unfoldable pub tiles_field : List ℕ → List ℕ → Option (List ℕ × List ℕ)
tiles_field key text = option_and_then tiles_at (behind key text)

-- The row of the table of yaku that has a name.
unfoldable pub row_of : List ℕ → Option ℕ
row_of name = position (λ entry. bytes_eq entry.name name) table

-- A row with its number, in brackets.
unfoldable pub row_at : List ℕ → Option ((ℕ × ℕ) × List ℕ)
row_at text =
    option_and_then (λ row.
    option_and_then (λ number.
    option_map (λ rest. ((row.0, number.0), rest))
    (behind (codes "]") number.1))
    (byte_field (codes ",") row.1))
    (option_and_then (and_rest row_of) (option_and_then quoted_at (behind (codes "[") text)))

unfoldable pub rows_field : List ℕ → List ℕ → Option (List (ℕ × ℕ) × List ℕ)
rows_field key text = option_and_then (list_at row_at) (behind key text)

-- Question marks with commas before them, up to the bracket after them, so many at most.
abbrev pub marks_by : ℕ → (List ℕ → Option (ℕ × List ℕ)) → Option (List ℕ) → Option (List ℕ) → Option (ℕ × List ℕ)
marks_by before others (Some rest) more = Some (before, rest)
marks_by before others None more = option_and_then others more

abbrev pub marks_from : ℕ → ℕ → List ℕ → Option (ℕ × List ℕ)
marks_from zero before text = None
marks_from (suc most) before text = marks_by before (marks_from most (suc before)) (behind (codes "]") text) (behind (codes ",\"?\"") text)

-- Question marks after the first, 255 with it at most.
unfoldable pub marks_at : List ℕ → Option (ℕ × List ℕ)
marks_at text = marks_from 255 1 text

-- A list of 1 to 255 question marks.
unfoldable pub hidden_at : List ℕ → Option (ℕ × List ℕ)
hidden_at text = option_and_then marks_at (behind (codes "[\"?\"") text)

-- A list of at most two seats.
abbrev pub seats_with : ℕ → Option (ℕ × List ℕ) → List ℕ
seats_with first None = first ∷ []
seats_with first (Some second) = first ∷ second.0 ∷ []

abbrev pub seats_by : Option (List ℕ) → List ℕ → Option (List ℕ)
seats_by (Some rest) text = Some []
seats_by None text = option_map (λ first. seats_with first.0 (byte_field (codes ",") first.1)) (byte_field (codes "[") text)

unfoldable pub seats_field : List ℕ → List ℕ → Option (List ℕ)
seats_field key text = option_and_then (λ list. seats_by (behind (codes "[]") list) list) (behind key text)
