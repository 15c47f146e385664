-- Lines, which each end with a newline, and fields, which single spaces part.
use Rattle.std.specs.Prelude.{◌≡◌, ℕ, ◌<◌, List, [], ◌∷◌, ◌++◌, length, Bool, true, false, Option, Some, None, option_map, ◌==◌, if◌then◌else◌}

-- whether a text has the byte
abbrev pub has_byte : ℕ → List ℕ → Bool
has_byte c [] = false
has_byte c (b ∷ bs) = if b == c then true else has_byte c bs

-- the texts with the byte before the first of them
abbrev pub onto_first : ℕ → List (List ℕ) → List (List ℕ)
onto_first b [] = []
onto_first b (text ∷ texts) = (b ∷ text) ∷ texts

-- the parts of a text by a byte: what stands before, between and after the places of the byte, with an empty part where
-- two of them meet
abbrev pub parts_by : ℕ → List ℕ → List (List ℕ)
parts_by c [] = [] ∷ []
parts_by c (b ∷ bs) = if b == c then [] ∷ parts_by c bs else onto_first b (parts_by c bs)

-- all texts but the last
abbrev pub all_but_last : List (List ℕ) → List (List ℕ)
all_but_last [] = []
all_but_last (text ∷ []) = []
all_but_last (text ∷ other ∷ others) = text ∷ all_but_last (other ∷ others)

-- the last text
abbrev pub last_of : List (List ℕ) → List ℕ
last_of [] = []
last_of (text ∷ []) = text
last_of (text ∷ other ∷ others) = last_of (other ∷ others)

-- newlines part a text: the lines are all parts but the last, each with its newline after it
abbrev pub whole_lines : List ℕ → List (List ℕ)
whole_lines text = all_but_last (parts_by 10 text)

-- what follows the last newline of a text, or all of it where there is none
abbrev pub unfinished : List ℕ → List ℕ
unfinished text = last_of (parts_by 10 text)

-- the fields of a text are parted by spaces
abbrev pub fields : List ℕ → List (List ℕ)
fields text = parts_by 32 text

-- the text's first such byte stands between the first part and the rest
pub record PartsAtFirst (c : ℕ) (text first rest : List ℕ) : Type 0 where
  pub parts : text ≡ first ++ c ∷ rest
  pub plain : has_byte c first ≡ false

-- the text begins with a part, and the rest follows the byte after it
pub record BeginsWithPart (c : ℕ) (text first rest : List ℕ) : Type 0 where
  pub parts : text ≡ first ++ c ∷ rest
  pub plain : has_byte c first ≡ false
  pub all : parts_by c text ≡ first ∷ parts_by c rest
  pub shorter : length rest < length text

-- the text is its one part
pub record IsOnePart (c : ℕ) (text : List ℕ) : Type 0 where
  pub plain : has_byte c text ≡ false
  pub all : parts_by c text ≡ text ∷ []

-- the text begins with a whole line, and the rest follows its newline
pub record BeginsWithLine (text line rest : List ℕ) : Type 0 where
  pub parts : text ≡ line ++ 10 ∷ rest
  pub plain : has_byte 10 line ≡ false
  pub lines : whole_lines text ≡ line ∷ whole_lines rest
  pub ending : unfinished text ≡ unfinished rest
  pub shorter : length rest < length text

-- the text has no whole line
pub record HasNoLine (text : List ℕ) : Type 0 where
  pub plain : has_byte 10 text ≡ false
  pub lines : whole_lines text ≡ []
  pub ending : unfinished text ≡ text

-- the text begins with a field, and the rest follows its space
abbrev pub BeginsWithField : List ℕ → List ℕ → List ℕ → Type 0
BeginsWithField text field rest = BeginsWithPart 32 text field rest

-- the text is its one field
abbrev pub IsOneField : List ℕ → Type 0
IsOneField text = IsOnePart 32 text

-- a byte before the first of two parts
abbrev pub onto_front : ℕ → List ℕ × List ℕ → List ℕ × List ℕ
onto_front b parts = (b ∷ parts.0, parts.1)

-- the parts of a text round its first space, where it has one
abbrev pub parted : List ℕ → Option (List ℕ × List ℕ)
parted [] = None
parted (b ∷ bs) = if b == 32 then Some ([], bs) else option_map (onto_front b) (parted bs)

-- what stands after a beginning of a text, where the text begins so
abbrev pub behind : List ℕ → List ℕ → Option (List ℕ)
behind [] text = Some text
behind (p ∷ ps) [] = None
behind (p ∷ ps) (b ∷ bs) = if p == b then behind ps bs else None
