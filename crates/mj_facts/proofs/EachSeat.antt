-- What is said of each of four.
use Rattle.std.proofs.Common.{ℕ, zero, suc, ◌≤◌, arith}
use Rattle.mj_deeds.specs.Four.{at_seat}

-- What holds of each of the four seats holds of every seat.
pub each_seat : {A : Type 0} (P : ℕ → A → Type 0) (a b c d : A) → P 0 a → P 1 b → P 2 c → P 3 d → (seat : ℕ) → seat ≤ 3 →
    P seat (at_seat (record { first = a; second = b; third = c; fourth = d }) seat)
each_seat P a b c d pa pb pc pd zero low = pa
each_seat P a b c d pa pb pc pd (suc zero) low = pb
each_seat P a b c d pa pb pc pd (suc (suc zero)) low = pc
each_seat P a b c d pa pb pc pd (suc (suc (suc zero))) low = pd
each_seat P a b c d pa pb pc pd (suc (suc (suc (suc n)))) low = absurd (omega (arith, low))
