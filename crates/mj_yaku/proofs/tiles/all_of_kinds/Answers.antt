use Rattle.std.proofs.Common.{◌||◌, not, sym, arith, ◌∙◌}
use Rattle.mj_tiles.specs.Kinds.{has_kind}
use Rattle.mj_yaku.specs.Inner.Classes.{in_class}
use Rattle.mj_tiles.proofs.EachKind.{all_kinds-pass, all_kinds-fail}
use Rattle.mj_yaku.proofs.TileTests.{misses}
use Rattle.mj_yaku.proofs.tiles.all_of_kinds.Goals as goal

pub returns-then-not-is_in : goal.returns-then-not-is_in
returns-then-not-is_in c =
    sym (all_kinds-fail (λ kind. not (has_kind c.args.kinds kind) || in_class c.args.class kind) c.loop-number.number c.loop-number-test.true
    (misses (has_kind c.args.kinds c.loop-number.number) (in_class c.args.class c.loop-number.number) (sym (c.has_number.ensures c.loop-number-test.true) ∙ c.if-has_number.true)
    (sym c.is_in.ensures ∙ c.if-not-is_in.true)))

pub returns : goal.returns
returns c = sym (all_kinds-pass (λ kind. not (has_kind c.args.kinds kind) || in_class c.args.class kind) (λ kind within. c.loop-number.invariant kind (omega arith)))
