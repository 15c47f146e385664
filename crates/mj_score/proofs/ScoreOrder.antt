-- Scores are ordered: of two, neither is better than the other both ways, and what isn't better than one that isn't
-- better than a third isn't better than the third.
use Rattle.std.proofs.Common.{ℕ, ◌≡◌, Bool, true, false, refl, sym, ◌∙◌, arith}
use Rattle.std.proofs.lemmas.Bool.Decides.{nat_tests}
use Rattle.mj_score.specs.declared.score.Score.{Score}
use Rattle.mj_score.specs.Scores.{greater_or, rows_of, is_better}
use Rattle.mj_score.proofs.RowOrder.{before_asym, before_not, clash}

greater_asym : (one other : ℕ) (a b : Bool) → (a ≡ true → b ≡ false) → greater_or one other a ≡ true → greater_or other one b ≡ false
greater_asym one other true b rest h = let no : b ≡ false = rest refl in rw no (grind (arith, nat_tests))
greater_asym one other false b rest h = grind (arith, nat_tests)

greater_not : (one two three : ℕ) (a b c : Bool) → (a ≡ false → b ≡ false → c ≡ false) →
    greater_or one two a ≡ false → greater_or two three b ≡ false → greater_or one three c ≡ false
greater_not one two three a b false rest p q = grind (arith, nat_tests)
greater_not one two three true b true rest p q = grind (arith, nat_tests)
greater_not one two three false true true rest p q = grind (arith, nat_tests)
greater_not one two three false false true rest p q = absurd (clash true refl (rest refl refl))

-- Of two scores one at most is better than the other.
pub better_asym : (one other : Score) → is_better one other ≡ true → is_better other one ≡ false
unfolding is_better
better_asym one other h =
    greater_asym one.base other.base _ _
    (greater_asym one.han other.han _ _
    (greater_asym one.fu other.fu _ _ (before_asym (rows_of one.yaku) (rows_of other.yaku))))
    h

-- What isn't better than a score that isn't better than a third isn't better than the third.
pub better_not : (one two three : Score) → is_better one two ≡ false → is_better two three ≡ false → is_better one three ≡ false
unfolding is_better
better_not one two three p q =
    greater_not one.base two.base three.base _ _ _
    (greater_not one.han two.han three.han _ _ _
    (greater_not one.fu two.fu three.fu _ _ _ (before_not (rows_of one.yaku) (rows_of two.yaku) (rows_of three.yaku))))
    p q

-- A score better than another that some score isn't better than: that score isn't better than the other either.
pub better_through : (new best last : Score) → is_better new best ≡ true → is_better new last ≡ false → is_better best last ≡ false
better_through new best last above p = choose new best last (is_better best last) refl above p
  where
    choose : (new best last : Score) (b : Bool) → is_better best last ≡ b → is_better new best ≡ true → is_better new last ≡ false → b ≡ false
    choose new best last false is above p = refl
    choose new best last true is above p =
        absurd (clash (is_better new best) above (better_not new last best p (better_asym best last is)))

-- No score is better than itself.
pub better_self : (score : Score) → is_better score score ≡ false
better_self score = choose score (is_better score score) refl
  where
    choose : (score : Score) (b : Bool) → is_better score score ≡ b → b ≡ false
    choose score false is = refl
    choose score true is = sym is ∙ better_asym score score is
