-- What deeds come to, in lines.
use Rattle.std.specs.Prelude.{ℕ, ℤ, List, ◌∷◌, ◌++◌, flat_map, codes}
use Rattle.mj_bytes.specs.Numbers.{number_text, signed_text}

-- A name and a number.
abbrev pub number_line : List ℕ → ℕ → List ℕ
number_line name number = name ++ (codes " " ++ (number_text number ++ codes "\n"))

-- Points, each after a space.
abbrev pub amounts_text : List ℤ → List ℕ
amounts_text amounts = flat_map (λ amount. 32 ∷ signed_text amount) amounts

-- `points` and the points of the four seats.
abbrev pub points_line : List ℤ → List ℕ
points_line points = codes "points" ++ (amounts_text points ++ codes "\n")

-- How many deeds there are, and the points and the deposits that are left.
abbrev pub result_text : ℕ → List ℤ → ℕ → List ℕ
result_text deeds points deposits = number_line (codes "deeds") deeds ++ (points_line points ++ number_line (codes "deposits") deposits)
