-- No point is made or lost: the changes of all seats add up to what comes from the table.
use Rattle.std.proofs.Common.{◌≡◌, ◌≢◌, ℕ, ◌*◌, ◌≤◌, Bool, true, false, List, [], ◌∷◌, length, get_or, count_by, ℤ, pos, refl, ap, ◌∙◌, zero, suc, arith}
use Rattle.std.proofs.lemmas.Int.{ints}
use Rattle.mj_pay.specs.Payments.{ron_change, ron_changes, drawn_gain, drawn_change, drawn_changes, draw_change, draw_changes, total_change}

pub ron_total : (winner target dealer base honba deposits : ℕ) → winner ≢ target → winner ≤ 3 → target ≤ 3
    → total_change (ron_changes winner target dealer base honba deposits) ≡ pos (1000 * deposits)
unfolding ron_changes ron_change
ron_total zero target dealer base honba deposits ne w t = grind (arith, ints)
ron_total (suc zero) target dealer base honba deposits ne w t = grind (arith, ints)
ron_total (suc (suc zero)) target dealer base honba deposits ne w t = grind (arith, ints)
ron_total (suc (suc (suc zero))) target dealer base honba deposits ne w t = grind (arith, ints)
ron_total (suc (suc (suc (suc n)))) target dealer base honba deposits ne w t = absurd (omega (arith, w))

pub drawn_total : (winner dealer base honba deposits : ℕ) → winner ≤ 3
    → total_change (drawn_changes winner dealer base honba deposits) ≡ pos (1000 * deposits)
unfolding drawn_changes drawn_change drawn_gain
drawn_total zero dealer base honba deposits w = omega (arith, ints)
drawn_total (suc zero) dealer base honba deposits w = omega (arith, ints)
drawn_total (suc (suc zero)) dealer base honba deposits w = omega (arith, ints)
drawn_total (suc (suc (suc zero))) dealer base honba deposits w = omega (arith, ints)
drawn_total (suc (suc (suc (suc n)))) dealer base honba deposits w = absurd (omega (arith, w))

-- the sum of the shares, where the four seats are ready or not as the arguments say
of_seats : (a b c d : Bool) → total_change (draw_changes (a ∷ b ∷ c ∷ d ∷ [])) ≡ pos 0
unfolding draw_changes draw_change
of_seats true true true true = refl
of_seats true true true false = refl
of_seats true true false true = refl
of_seats true true false false = refl
of_seats true false true true = refl
of_seats true false true false = refl
of_seats true false false true = refl
of_seats true false false false = refl
of_seats false true true true = refl
of_seats false true true false = refl
of_seats false true false true = refl
of_seats false true false false = refl
of_seats false false true true = refl
of_seats false false true false = refl
of_seats false false false true = refl
of_seats false false false false = refl

pub draw_total : (ready : List Bool) → length ready ≡ 4 → total_change (draw_changes ready) ≡ pos 0
draw_total (a ∷ b ∷ c ∷ d ∷ []) e = of_seats a b c d
draw_total [] e = absurd (omega (arith, e))
draw_total (a ∷ []) e = absurd (omega (arith, e))
draw_total (a ∷ b ∷ []) e = absurd (omega (arith, e))
draw_total (a ∷ b ∷ c ∷ []) e = absurd (omega (arith, e))
draw_total (a ∷ b ∷ c ∷ d ∷ x ∷ rest) e = absurd (omega (arith, e))

-- an array of four items that is one of these lists has its sum
pub summed : (a b c d : ℤ) (changes : List ℤ) (t : ℤ) → (a ∷ b ∷ c ∷ d ∷ []) ≡ changes → total_change changes ≡ t
    → total_change (a ∷ b ∷ c ∷ d ∷ []) ≡ t
summed a b c d changes t e h = ap (λ xs. total_change xs) e ∙ h

-- the array of the four seats' changes is the list of them
pub shared : (ready : List Bool) (n : ℕ) (a b c d : ℤ) → length ready ≡ 4 → n ≡ count_by (λ is_ready. is_ready) ready
    → a ≡ draw_change n (get_or ready 0 false) → b ≡ draw_change n (get_or ready 1 false)
    → c ≡ draw_change n (get_or ready 2 false) → d ≡ draw_change n (get_or ready 3 false)
    → (a ∷ b ∷ c ∷ d ∷ []) ≡ draw_changes ready
unfolding draw_changes
shared (p ∷ q ∷ r ∷ s ∷ []) n a b c d e k ea eb ec ed = cc
shared [] n a b c d e k ea eb ec ed = absurd (omega (arith, e))
shared (p ∷ []) n a b c d e k ea eb ec ed = absurd (omega (arith, e))
shared (p ∷ q ∷ []) n a b c d e k ea eb ec ed = absurd (omega (arith, e))
shared (p ∷ q ∷ r ∷ []) n a b c d e k ea eb ec ed = absurd (omega (arith, e))
shared (p ∷ q ∷ r ∷ s ∷ x ∷ rest) n a b c d e k ea eb ec ed = absurd (omega (arith, e))
