use Rattle.std.proofs.Common.{◌++◌, List, ℕ, replicate, ap, ◌∙◌, arith}
use Rattle.mj_hand.proofs.TextSteps.{passing_start, passing_step}
use Rattle.mj_safe.specs.Inner.Listing.{is_held_and_safe}
use Rattle.mj_safe.proofs.Pieces.{once_or_not}
use Rattle.mj_safe.proofs.lines.safe_kinds.Goals as goal

pub loop-number-init : goal.loop-number-init
loop-number-init c = passing_start (is_held_and_safe c.args.table.now.deeds c.args.seat c.args.against) c.new-kinds.result.items c.new-kinds.ensures.items

pub loop-number-preserved : goal.loop-number-preserved
loop-number-preserved c =
    passing_step (is_held_and_safe c.args.table.now.deeds c.args.seat c.args.against) c.loop-number.kinds.items _ _ c.loop-number.number c.at-kind.result c.is_held_and_safe-stands.result (omega arith)
    c.loop-number.invariant
    (c.in_ok-push_times.ensures
    ∙ ap (λ (xs : List ℕ). c.loop-number.kinds.items ++ xs) (ap (λ n. replicate n c.at-kind.result) c.from.ensures ∙ once_or_not c.is_held_and_safe-stands.result c.at-kind.result))
    c.at-kind.ensures c.is_held_and_safe-stands.ensures
