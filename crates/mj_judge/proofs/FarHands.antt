-- A hand that no exchange of one tile completes is ready once no tile is discarded.
use Rattle.std.proofs.Common.{ℕ, zero, suc, ◌≡◌, ◌<◌, ◌≤◌, ◌+◌, ◌-◌, ◌∷◌, [], ◌⊎◌, inl, inr, false, ltb, List, get_or, sym, ap, arith}
use Rattle.std.proofs.lemmas.Bool.{and_left, and_right, cases_lt, le-ltb}
use Rattle.mj_tiles.proofs.EachKind.{no_kind}
use Rattle.mj_readings.specs.Tests.{complete, one_more}
use Rattle.mj_waits.specs.Waits.{is_wait, is_ready}
use Rattle.mj_calls.specs.RiichiKans.{fewer}
use Rattle.mj_judge.specs.Inner.Ready.{leaves_ready}

-- A tile that is held, taken away and given back.
given_back : (xs : List ℕ) (k : ℕ) → 0 < get_or xs k 0 → one_more (fewer xs k 1) k ≡ xs
given_back [] k some = absurd (nothing some)
  where
    nothing : 0 < 0 → ⊥
    nothing h = omega (arith, h)
given_back (x ∷ xs) zero some = ap (λ (y : ℕ). y ∷ xs) (again x some)
  where
    again : (n : ℕ) → 0 < n → n - 1 + 1 ≡ n
    again n h = omega (arith, h)
given_back (x ∷ xs) (suc k) some = ap (λ (ys : List ℕ). x ∷ ys) (given_back xs k some)

pub far_unready : (counts room : List ℕ) (melds kind : ℕ) →
    ((given : List ℕ) (k : ℕ) → k < 34 → counts ≡ one_more given k → (other : ℕ) → other < 34 → complete (one_more given other) melds ≡ false) →
    kind < 34 → leaves_ready counts room melds kind ≡ false
unfolding is_ready
far_unready counts room melds kind far low = at (cases_lt 0 (get_or counts kind 0))
  where
    at : (0 < get_or counts kind 0) ⊎ (get_or counts kind 0 ≤ 0) → leaves_ready counts room melds kind ≡ false
    at (inl held) =
        and_right (ltb 0 (get_or counts kind 0)) (is_ready (fewer counts kind 1) room melds)
        (no_kind (is_wait (fewer counts kind 1) room melds)
        (λ other inside. and_right (ltb (get_or (fewer counts kind 1) other 0) (get_or room other 0)) (complete (one_more (fewer counts kind 1) other) melds)
        (far (fewer counts kind 1) kind low (sym (given_back counts kind held)) other inside)))
    at (inr none) = and_left (ltb 0 (get_or counts kind 0)) (is_ready (fewer counts kind 1) room melds) (le-ltb 0 (get_or counts kind 0) none)
