-- Lists of sixteen lanes: half for no pair and half for one, in each half a lane for each number of sets.
use Rattle.std.proofs.Common.{◌≡◌, ℕ, zero, suc, ◌-◌, ◌<◌, Bool, true, false, cond, ltb, max, List, ◌++◌, length, get_or, replicate, refl, ap, ◌∙◌, arith, ltb-true, ltb-false}
use Rattle.std.proofs.lemmas.List.{get_or_append_left}
use Rattle.std.proofs.Math.Seq.{get_or-append_right}
use Rattle.mj_suits.specs.Rows.{lane, Holds, taken, set_places}

-- what holds for each of the sixteen lanes
pub each_lane : (P : ℕ → ℕ → Type 0) → ((s : ℕ) → s < 8 → P s 0) → ((s : ℕ) → s < 8 → P s 1) → (s p : ℕ) → s < 8 → p < 2 → P s p
each_lane P low high s zero few one = low s few
each_lane P low high s (suc zero) few one = high s few
each_lane P low high s (suc (suc p)) few one = absurd (omega arith)

pub each_below_8 : (P : ℕ → Type 0) → P 0 → P 1 → P 2 → P 3 → P 4 → P 5 → P 6 → P 7 → (i : ℕ) → i < 8 → P i
each_below_8 P a b c d e f g h zero i = a
each_below_8 P a b c d e f g h (suc zero) i = b
each_below_8 P a b c d e f g h (suc (suc zero)) i = c
each_below_8 P a b c d e f g h (suc (suc (suc zero))) i = d
each_below_8 P a b c d e f g h (suc (suc (suc (suc zero)))) i = e
each_below_8 P a b c d e f g h (suc (suc (suc (suc (suc zero))))) i = f
each_below_8 P a b c d e f g h (suc (suc (suc (suc (suc (suc zero)))))) i = g
each_below_8 P a b c d e f g h (suc (suc (suc (suc (suc (suc (suc zero))))))) i = h
each_below_8 P a b c d e f g h (suc (suc (suc (suc (suc (suc (suc (suc n)))))))) i = absurd (omega arith)

pub greater_is_max : (a b : ℕ) → cond (ltb a b) b a ≡ max a b
greater_is_max a b = go (ltb a b) refl
  where
    go : (t : Bool) → ltb a b ≡ t → cond t b a ≡ max a b
    go true e = omega (arith, ltb-true _ _ e)
    go false e = omega (arith, ltb-false _ _ e)

-- the lanes that are moved to one set more
pub holds_by_set : (row a : List ℕ) → length a ≡ 16 → ((i : ℕ) → i < 16 → get_or row i 0 ≡ get_or (a ++ replicate 16 0) (get_or set_places i 0) 0) → Holds row (taken 1 0 (lane a))
holds_by_set row a long is = record {
  at = each_lane (λ s p. lane row s p ≡ taken 1 0 (lane a) s p)
      (each_below_8 (λ s. lane row s 0 ≡ taken 1 0 (lane a) s 0)
      (is 0 (omega arith) ∙ none) (moved 1 (omega arith) 0 refl (omega arith)) (moved 2 (omega arith) 1 refl (omega arith)) (moved 3 (omega arith) 2 refl (omega arith))
      (moved 4 (omega arith) 3 refl (omega arith)) (moved 5 (omega arith) 4 refl (omega arith)) (moved 6 (omega arith) 5 refl (omega arith)) (moved 7 (omega arith) 6 refl (omega arith)))
      (each_below_8 (λ s. lane row s 1 ≡ taken 1 0 (lane a) s 1)
      (is 8 (omega arith) ∙ none) (moved 9 (omega arith) 8 refl (omega arith)) (moved 10 (omega arith) 9 refl (omega arith)) (moved 11 (omega arith) 10 refl (omega arith))
      (moved 12 (omega arith) 11 refl (omega arith)) (moved 13 (omega arith) 12 refl (omega arith)) (moved 14 (omega arith) 13 refl (omega arith)) (moved 15 (omega arith) 14 refl (omega arith)));
}
  where
    none : get_or (a ++ replicate 16 0) 16 0 ≡ 0
    none = get_or-append_right a (replicate 16 0) 16 0 (omega arith) ∙ ap (λ n. get_or (replicate 16 0) (16 - n) 0) long

    moved : (i : ℕ) → i < 16 → (j : ℕ) → get_or set_places i 0 ≡ j → j < 16 → get_or row i 0 ≡ get_or a j 0
    moved i few j same below = is i few ∙ ap (λ k. get_or (a ++ replicate 16 0) k 0) same ∙ get_or_append_left a (replicate 16 0) 0 j (omega arith)
