use Rattle.std.proofs.Common.{ℕ, ◌≡◌, ◌+◌, ◌-◌, cond, length, sym, ◌∙◌, ap, arith}
use Rattle.std.specs.List.{filter, range_with_len}
use Rattle.mj_readings.specs.Readings.{names_winning}
use Rattle.mj_readings.specs.Inner.WinningWays.{win_places}
use Rattle.mj_readings.proofs.Places.{passed-more, found_at, win_places-end}
use Rattle.mj_readings.proofs.winning_way.win_at.Goals as goal
use Rattle.mj_readings.proofs.winning_way.win_at.Goals.{then-has_winning+else-index-eq0, else-has_winning}

one_less : (i n rest fewer more : ℕ) → i ≡ n + rest → fewer ≡ rest - 1 → (rest ≡ 0 → ⊥) → more ≡ n + 1 → i ≡ more + fewer
one_less i n rest fewer more before less some step = omega arith

the_same : (i n rest same more : ℕ) → i ≡ n + rest → same ≡ rest → more ≡ n + 0 → i ≡ more + same
the_same i n rest same more before is step = omega arith

pub returns-then-index-eq0 : goal.returns-then-index-eq0
unfolding win_places
returns-then-index-eq0 c =
    found_at (names_winning c.args.sets.now c.args.pair c.args.winning) 5 _ _ c.loop-win-test.true
    (omega (arith, c.loop-win.invariant, c.if-index-eq0.true)) (sym c.has_winning.ensures ∙ c.if-has_winning.true)

pub loop-win-preserved : goal.loop-win-preserved
loop-win-preserved c =
    let more = passed-more (names_winning c.args.sets.now c.args.pair c.args.winning) c.loop-win.win in
    elim c.if-has_winning.branch [
      | then-has_winning+else-index-eq0 w ↦
          one_less _ _ _ _ _ c.loop-win.invariant w.index-is w.if-index-eq0.false
          (more ∙ ap (λ b. length (filter (names_winning c.args.sets.now c.args.pair c.args.winning) (range_with_len 0 c.loop-win.win)) + cond b 1 0)
          (sym c.has_winning.ensures ∙ w.if-has_winning.true))
      | else-has_winning w ↦
          the_same _ _ _ _ _ c.loop-win.invariant w.index-is
          (more ∙ ap (λ b. length (filter (names_winning c.args.sets.now c.args.pair c.args.winning) (range_with_len 0 c.loop-win.win)) + cond b 1 0)
          (sym c.has_winning.ensures ∙ w.if-has_winning.false))
    ]

pub returns : goal.returns
returns c = win_places-end _ _ _ _ _ c.loop-win.win (omega (arith, c.loop-win-test.false, c.loop-win.auto.win-end)) c.loop-win.invariant
