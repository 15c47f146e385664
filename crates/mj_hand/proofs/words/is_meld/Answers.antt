use Rattle.std.proofs.Common.{sym, ◌∙◌, arith}
use Rattle.mj_tiles.proofs.EachKind.{any_kind, no_kind}
use Rattle.mj_hand.specs.Words.{make_meld_from, make_meld}
use Rattle.mj_hand.proofs.words.is_meld.Goals as goal

pub returns-then-is_meld_from : goal.returns-then-is_meld_from
unfolding make_meld
returns-then-is_meld_from c =
    sym (any_kind (make_meld_from c.args.tiles.now) c.loop-low.low (omega arith) (sym c.is_meld_from.ensures ∙ c.if-is_meld_from.true))

pub returns : goal.returns
unfolding make_meld
returns c =
    sym (no_kind (make_meld_from c.args.tiles.now) (λ k within. c.loop-low.invariant k (omega (arith, within, c.loop-low-test.false))))
