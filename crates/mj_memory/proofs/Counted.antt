-- What seven pairs and thirteen orphans miss of counts.
use Rattle.std.proofs.Common.{◌≡◌, ℕ, ◌+◌, ◌-◌, ◌≤◌, List, [], ◌∷◌, min, length, take, Some, refl, sym, subst, ap, ◌∙◌, arith}
use Rattle.mj_suits.specs.Targets.{missing}
use Rattle.mj_suits.specs.Tables.{IsLeast}
use Rattle.mj_shanten.specs.Suits.{Padded, with_two}
use Rattle.mj_shanten.specs.Inner.Special.{IsPairs, IsSpecial, IsLeastWith, so_often}
use Rattle.mj_shanten.proofs.Goal.{wide_missing, wide_size}
use Rattle.mj_shanten.proofs.Pairs.{pairs_least}
use Rattle.mj_shanten.proofs.Special.{orphans_no_less}
use Rattle.mj_shanten.proofs.Whole.{front_two}

pub pairs_of : (counts : List ℕ) (number : ℕ) → length counts ≡ 34 → (twice once : ℕ) (some others : List ℕ) → some ≡ counts → others ≡ counts
    → twice ≡ so_often 2 some → once ≡ so_often 1 others → number ≡ (7 - twice) + (7 - once) → IsLeast (with_two counts) (Padded IsPairs) number
pairs_of counts number size twice once some others is also a b e =
    let front : take 34 (with_two counts) ≡ counts = (front_two (with_two counts) counts refl size).0 in
    let c : so_often 2 some ≡ so_often 2 (take 34 (with_two counts)) = ap (so_often 2) (is ∙ sym front) in
    let d : so_often 1 others ≡ so_often 1 (take 34 (with_two counts)) = ap (so_often 1) (also ∙ sym front) in
    pairs_least (with_two counts) number (wide_size counts size) (ap length front ∙ size) (omega arith)

pub pairs_nearest : (counts numbers : List ℕ) (sets pairs nearest singles number : ℕ) → nearest ≡ min sets pairs → IsLeast (with_two counts) (Padded IsPairs) pairs → nearest ≤ singles
    → singles ≡ missing (1 ∷ 0 ∷ 0 ∷ 0 ∷ 0 ∷ 0 ∷ 0 ∷ 0 ∷ 1 ∷ 1 ∷ 0 ∷ 0 ∷ 0 ∷ 0 ∷ 0 ∷ 0 ∷ 0 ∷ 1 ∷ 1 ∷ 0 ∷ 0 ∷ 0 ∷ 0 ∷ 0 ∷ 0 ∷ 0 ∷ 1 ∷ 1 ∷ 1 ∷ 1 ∷ 1 ∷ 1 ∷ 1 ∷ 1 ∷ []) numbers
    → numbers ≡ counts → length counts ≡ 34
    → Some nearest ≡ Some number → IsLeastWith (with_two counts) (IsSpecial 0) sets number
pairs_nearest counts numbers sets pairs nearest singles number is pairs_are few singles_is numbers_are size some =
    let same : nearest ≡ number = cc in
    let wide = wide_missing (1 ∷ 0 ∷ 0 ∷ 0 ∷ 0 ∷ 0 ∷ 0 ∷ 0 ∷ 1 ∷ 1 ∷ 0 ∷ 0 ∷ 0 ∷ 0 ∷ 0 ∷ 0 ∷ 0 ∷ 1 ∷ 1 ∷ 0 ∷ 0 ∷ 0 ∷ 0 ∷ 0 ∷ 0 ∷ 0 ∷ 1 ∷ 1 ∷ 1 ∷ 1 ∷ 1 ∷ 1 ∷ 1 ∷ 1 ∷ []) counts refl size in
    subst (λ n. IsLeastWith (with_two counts) (IsSpecial 0) sets n) same (orphans_no_less (with_two counts) sets pairs nearest singles is pairs_are few
    (singles_is ∙ ap (λ ns. missing (1 ∷ 0 ∷ 0 ∷ 0 ∷ 0 ∷ 0 ∷ 0 ∷ 0 ∷ 1 ∷ 1 ∷ 0 ∷ 0 ∷ 0 ∷ 0 ∷ 0 ∷ 0 ∷ 0 ∷ 1 ∷ 1 ∷ 0 ∷ 0 ∷ 0 ∷ 0 ∷ 0 ∷ 0 ∷ 0 ∷ 1 ∷ 1 ∷ 1 ∷ 1 ∷ 1 ∷ 1 ∷ 1 ∷ 1 ∷ []) ns)
    numbers_are ∙ sym wide))
