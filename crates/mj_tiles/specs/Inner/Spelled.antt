-- The faces by the bytes of their texts.
use Rattle.std.specs.Prelude.{ℕ, ◌+◌, ◌-◌, ◌*◌, ◌==◌, ◌&&◌, nat_le, if◌then◌else◌, List, [], ◌∷◌, Option, Some, None, option_map}

-- The suit of a letter: `m`, `p` and `s` in this order.
abbrev pub suit_of : ℕ → Option ℕ
suit_of letter = if letter == 109 then Some 0 else (if letter == 112 then Some 1 else (if letter == 115 then Some 2 else None))

-- The honour of a letter: `E`, `S`, `W`, `N`, `P`, `F` and `C` in this order.
abbrev pub honour_of : ℕ → Option ℕ
honour_of letter =
    if letter == 69 then Some 27 else (if letter == 83 then Some 28 else (if letter == 87 then Some 29 else (if letter == 78 then Some 30 else
    (if letter == 80 then Some 31 else (if letter == 70 then Some 32 else (if letter == 67 then Some 33 else None))))))

-- The face of a digit from 1 to 9 with the letter of a suit.
abbrev pub plain_of : ℕ → ℕ → Option ℕ
plain_of digit letter = if nat_le 49 digit && nat_le digit 57 then option_map (λ suit. 9 * suit + (digit - 49)) (suit_of letter) else None

-- The red five of a 5 with the letter of a suit and an `r`.
abbrev pub red_of : ℕ → ℕ → ℕ → Option ℕ
red_of digit letter mark = if digit == 53 && mark == 114 then option_map (λ suit. 34 + suit) (suit_of letter) else None

-- The face of a text of one, two or three bytes.
abbrev pub face_spelled : List ℕ → Option ℕ
face_spelled [] = None
face_spelled (letter ∷ []) = honour_of letter
face_spelled (digit ∷ letter ∷ []) = plain_of digit letter
face_spelled (digit ∷ letter ∷ mark ∷ []) = red_of digit letter mark
face_spelled (a ∷ b ∷ c ∷ d ∷ rest) = None
