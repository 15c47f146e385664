-- What a hand is worth in base points, and how many points each seat gains or pays.
use Rattle.std.specs.Prelude.{ℕ, ◌+◌, ◌-◌, ◌*◌, ◌/◌, ◌^◌, min, Bool, ◌||◌, if◌then◌else◌, ◌==◌, nat_le, List, [], ◌∷◌, map, sum_by, count_by, fold, ℤ, pos, neg_ℤ, ◌+ℤ◌}

-- Base points: from 13 han on 8,000, from 11 on 6,000, from 8 on 4,000, from 6 on 3,000, with 5 han 2,000,
-- and below that the fu times 2 to the power of 2 more than the han, but at most 2,000.
unfoldable pub base_of : ℕ → ℕ → ℕ
base_of han fu =
    if nat_le 13 han then 8000
    else if nat_le 11 han then 6000
    else if nat_le 8 han then 4000
    else if nat_le 6 han then 3000
    else if nat_le 5 han then 2000
    else min (fu * 2 ^ (2 + han)) 2000

-- A payment is rounded up to whole hundreds.
unfoldable pub rounded_up : ℕ → ℕ
rounded_up points = (points + 99) / 100 * 100

-- By ron the seat that gave the tile pays 4 times the base, or 6 times to a dealer, rounded up, and 300 for each honba.
unfoldable pub ron_payment : ℕ → ℕ → ℕ → ℕ → ℕ
ron_payment winner dealer base honba =
    rounded_up ((if winner == dealer then 6 else 4) * base) + 300 * honba

-- To a self-drawn win every other seat pays the base, or 2 times the base where the winner or the payer is the dealer,
-- rounded up, and 100 for each honba.
unfoldable pub drawn_payment : ℕ → ℕ → ℕ → ℕ → ℕ → ℕ
drawn_payment winner payer dealer base honba =
    rounded_up ((if winner == dealer || payer == dealer then 2 else 1) * base) + 100 * honba

-- The four seats in turn order.
abbrev pub seats : List ℕ
seats = 0 ∷ 1 ∷ 2 ∷ 3 ∷ []

-- By ron the winner gains the payment and 1,000 for each deposit, the seat that gave the tile loses the payment, and no
-- other seat's points change.
unfoldable pub ron_change : ℕ → ℕ → ℕ → ℕ → ℕ → ℕ → ℕ → ℤ
ron_change winner target dealer base honba deposits seat =
    if seat == winner then pos (ron_payment winner dealer base honba + 1000 * deposits)
    else if seat == target then neg_ℤ (pos (ron_payment winner dealer base honba))
    else pos 0

-- The changes of the seats 0 to 3 by a ron.
unfoldable pub ron_changes : ℕ → ℕ → ℕ → ℕ → ℕ → ℕ → List ℤ
ron_changes winner target dealer base honba deposits =
    map (ron_change winner target dealer base honba deposits) seats

-- What a self-drawn win brings in: the payments of all seats but the winner.
unfoldable pub drawn_gain : ℕ → ℕ → ℕ → ℕ → ℕ
drawn_gain winner dealer base honba =
    sum_by (λ payer. if payer == winner then 0 else drawn_payment winner payer dealer base honba) seats

-- By a self-drawn win the winner gains all payments and 1,000 for each deposit, and every other seat loses its payment.
unfoldable pub drawn_change : ℕ → ℕ → ℕ → ℕ → ℕ → ℕ → ℤ
drawn_change winner dealer base honba deposits seat =
    if seat == winner then pos (drawn_gain winner dealer base honba + 1000 * deposits)
    else neg_ℤ (pos (drawn_payment winner seat dealer base honba))

-- The changes of the seats 0 to 3 by a self-drawn win.
unfoldable pub drawn_changes : ℕ → ℕ → ℕ → ℕ → ℕ → List ℤ
drawn_changes winner dealer base honba deposits =
    map (drawn_change winner dealer base honba deposits) seats

-- At an exhaustive draw 3,000 points pass in equal shares from the unready seats to the ready ones, and nothing passes
-- where none or all four are ready.
unfoldable pub draw_change : ℕ → Bool → ℤ
draw_change ready_seats is_ready =
    if ready_seats == 0 || ready_seats == 4 then pos 0
    else if is_ready then pos (3000 / ready_seats)
    else neg_ℤ (pos (3000 / (4 - ready_seats)))

-- The changes of the seats at an exhaustive draw, where the list says of each seat in turn order whether it is ready.
unfoldable pub draw_changes : List Bool → List ℤ
draw_changes ready = map (draw_change (count_by (λ is_ready. is_ready) ready)) ready

-- A seat that declares riichi puts 1,000 points on the table.
unfoldable pub deposit_changes : ℕ → List ℤ
deposit_changes depositor = map (λ seat. if seat == depositor then neg_ℤ (pos 1000) else pos 0) seats

-- What all seats together gain, less what they lose.
abbrev pub total_change : List ℤ → ℤ
total_change changes = fold ◌+ℤ◌ (pos 0) changes
