use Rattle.std.proofs.Common.{◌≡◌, ℕ, zero, suc, ◌<◌, List, get_or, refl, ap, ◌∙◌, subst, arith}
use Rattle.mj_tiles.specs.Counts.{kind_counts}
use Rattle.mj_tiles.proofs.CountSteps.{get_or-kind_counts}
use Rattle.mj_deeds.specs.Facts.{concealed_tiles}
use Rattle.mj_deeds.specs.Hand.{hand}
use Rattle.play_tests.proofs.safety.why.Goals as goal

some : (n m : ℕ) → n ≡ m → (n ≡ 0 → ⊥) → 0 < m
some zero m e h = absurd (h refl)
some (suc n) m e h = omega (arith, e)

pub safe-requires-clause-held : goal.safe-requires-clause-held
safe-requires-clause-held c =
    some _ _
    (ap (λ (xs : List ℕ). get_or xs c.from.result 0) (c.numbers.ensures.value ∙ c.holds-held.ensures.value)
    ∙ ap (λ n. get_or (kind_counts (concealed_tiles (hand c.args.table.now.deeds) c.args.seat)) n 0) (c.from.ensures ∙ c.number.ensures.value)
    ∙ get_or-kind_counts (concealed_tiles (hand c.args.table.now.deeds) c.args.seat) c.args.kind (subst (λ n. n < 34) c.number.ensures.value c.number.ensures.within))
    c.if-numbers-from-eq0.false
