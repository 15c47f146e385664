-- Fields that begin a text: each gives its value and what stands after it.
use Rattle.std.specs.Prelude.{ℕ, ℤ, pos, negsuc, zero, suc, ◌^◌, ◌==◌, Bool, true, false, nat_lt, if◌then◌else◌, List, [], ◌∷◌, codes, Option, Some, None, option_map, option_and_then}
use Rattle.std.specs.Option.{option_or}
use Rattle.std.specs.Char.{is_ascii_digit}
use Rattle.mj_bytes.specs.Numbers.{decimal_of}
use Rattle.mj_bytes.specs.Parts.{behind, onto_front}
use Rattle.mj_tiles.specs.Faces.{face_of}

-- The decimal digits that a text begins with, and what stands after them.
abbrev pub digits_front : List ℕ → List ℕ
digits_front [] = []
digits_front (b ∷ bs) = if is_ascii_digit b then b ∷ digits_front bs else []

abbrev pub behind_digits : List ℕ → List ℕ
behind_digits [] = []
behind_digits (b ∷ bs) = if is_ascii_digit b then behind_digits bs else b ∷ bs

-- The value, where it is below a limit.
abbrev pub below : ℕ → ℕ → Option ℕ
below limit number = if nat_lt number limit then Some number else None

-- What is read, changed where it can be.
abbrev pub and_rest : {A B : Type 0} → (A → Option B) → A × List ℕ → Option (B × List ℕ)
and_rest f read = option_map (λ x. (x, read.1)) (f read.0)

-- A number in decimal digits.
unfoldable pub number_at : List ℕ → Option (ℕ × List ℕ)
number_at text = option_map (λ number. (number, behind_digits text)) (decimal_of (digits_front text))

unfoldable pub below_at : ℕ → List ℕ → Option (ℕ × List ℕ)
below_at limit text = option_and_then (and_rest (below limit)) (number_at text)

-- The parts of a text round the first place of a byte.
abbrev pub until : ℕ → List ℕ → Option (List ℕ × List ℕ)
until c [] = None
until c (b ∷ bs) = if b == c then Some ([], bs) else option_map (onto_front b) (until c bs)

-- A text in quotation marks.
unfoldable pub quoted_at : List ℕ → Option (List ℕ × List ℕ)
quoted_at text = option_and_then (until 34) (behind (codes "\"") text)

-- A tile in quotation marks.
unfoldable pub tile_at : List ℕ → Option (ℕ × List ℕ)
tile_at text = option_and_then (and_rest face_of) (quoted_at text)

-- `true` or `false`.
unfoldable pub truth_at : List ℕ → Option (Bool × List ℕ)
truth_at text = option_or (option_map (λ rest. (true, rest)) (behind (codes "true") text)) (option_map (λ rest. (false, rest)) (behind (codes "false") text))

-- The negative number of a size.
abbrev pub negative_of : ℕ → Option ℤ
negative_of zero = None
negative_of (suc n) = option_map negsuc (below (2 ^ 31) n)

-- A signed number, with `-` before a negative one, from -2^31 to 2^31 - 1.
abbrev pub signed_by : List ℕ → Option (List ℕ) → Option (ℤ × List ℕ)
signed_by text None = option_and_then (and_rest (λ n. option_map pos (below (2 ^ 31) n))) (number_at text)
signed_by text (Some size) = option_and_then (and_rest negative_of) (number_at size)

unfoldable pub signed_at : List ℕ → Option (ℤ × List ℕ)
signed_at text = signed_by text (behind (codes "-") text)

-- Fields after a key.
unfoldable pub byte_field : List ℕ → List ℕ → Option (ℕ × List ℕ)
byte_field key text = option_and_then (below_at (2 ^ 8)) (behind key text)

unfoldable pub word_field : List ℕ → List ℕ → Option (ℕ × List ℕ)
word_field key text = option_and_then (below_at (2 ^ 32)) (behind key text)

unfoldable pub tile_field : List ℕ → List ℕ → Option (ℕ × List ℕ)
tile_field key text = option_and_then tile_at (behind key text)

unfoldable pub truth_field : List ℕ → List ℕ → Option (Bool × List ℕ)
truth_field key text = option_and_then truth_at (behind key text)

unfoldable pub signed_field : List ℕ → List ℕ → Option (ℤ × List ℕ)
signed_field key text = option_and_then signed_at (behind key text)

-- Points of the four seats, in brackets.
unfoldable pub points_at : List ℕ → Option (List ℤ × List ℕ)
points_at text =
    option_and_then (λ a.
    option_and_then (λ b.
    option_and_then (λ c.
    option_and_then (λ d.
    option_map (λ rest. (a.0 ∷ b.0 ∷ c.0 ∷ d.0 ∷ [], rest))
    (behind (codes "]") d.1))
    (signed_field (codes ",") c.1))
    (signed_field (codes ",") b.1))
    (signed_field (codes ",") a.1))
    (signed_field (codes "[") text)

unfoldable pub points_field : List ℕ → List ℕ → Option (List ℤ × List ℕ)
points_field key text = option_and_then points_at (behind key text)
