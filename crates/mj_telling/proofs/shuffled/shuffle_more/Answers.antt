use Rattle.std.proofs.Common.{◌≡◌, ℕ, ◌+◌, ◌<◌, ◌≤◌, arith, ap, ◌∙◌}
use Rattle.mj_telling.proofs.Supplies.{more_first}
use Rattle.mj_telling.proofs.shuffled.shuffle_more.Goals as goal

within : (a b c d : ℕ) → a ≡ b → a < c → c ≤ d → b < d
within a b c d e h k = omega (arith, e, h, k)

pub loop-seed-preserved : goal.loop-seed-preserved
loop-seed-preserved c =
    more_first c.args.seed c.args.red c.args.first c.args.number _ c.shuffled.result c.loop-seed.there.items _ c.loop-seed.invariant
    (within c.len.result _ c.args.needed c.args.number (c.len.ensures ∙ c.loop-seed.there.ok.0) c.loop-seed-test.true c.requires.needed)
    (ap (λ (n : ℕ). c.args.first + n) (c.len-in-loop-seed.ensures ∙ c.loop-seed.there.ok.0))
    c.shuffled.ensures.value c.in_ok-push.ensures.items
