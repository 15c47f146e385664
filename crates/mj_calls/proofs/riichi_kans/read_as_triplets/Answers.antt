use Rattle.std.proofs.Common.{sym, ap, ◌∙◌, arith}
use Rattle.mj_tiles.proofs.EachKind.{all_kinds-pass, all_kinds-fail}
use Rattle.mj_calls.specs.RiichiKans.{reads_as_triplet}
use Rattle.mj_calls.proofs.riichi_kans.read_as_triplets.Goals as goal

pub returns-then-not-reads_as_triplet : goal.returns-then-not-reads_as_triplet
returns-then-not-reads_as_triplet c =
    sym (all_kinds-fail (reads_as_triplet c.args.before.now c.args.room.now c.args.melds.now c.args.kind) c.loop-number.number c.loop-number-test.true
    (ap (reads_as_triplet c.args.before.now c.args.room.now c.args.melds.now c.args.kind) (sym c.at-wait.ensures) ∙ sym c.reads_as_triplet.ensures ∙ c.if-not-reads_as_triplet.true))

pub returns : goal.returns
returns c =
    sym (all_kinds-pass (reads_as_triplet c.args.before.now c.args.room.now c.args.melds.now c.args.kind)
    (λ k small. c.loop-number.invariant k (omega (arith, small, c.loop-number-test.false, c.loop-number.auto.number-end))))
