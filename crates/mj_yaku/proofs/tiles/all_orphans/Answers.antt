use Rattle.std.proofs.Common.{◌||◌, not, sym, arith, ◌∙◌}
use Rattle.mj_tiles.specs.Terminals.{is_terminal_or_honour}
use Rattle.mj_yaku.specs.Inner.Classes.{in_class}
use Rattle.mj_tiles.proofs.EachKind.{all_kinds-pass, all_kinds-fail}
use Rattle.mj_yaku.proofs.TileTests.{misses}
use Rattle.mj_yaku.proofs.tiles.all_orphans.Goals as goal

pub returns-then-not-is_in : goal.returns-then-not-is_in
returns-then-not-is_in c =
    sym (all_kinds-fail (λ kind. not (is_terminal_or_honour kind) || in_class c.args.class kind) c.loop-number.number c.loop-number-test.true
    (misses (is_terminal_or_honour c.loop-number.number) (in_class c.args.class c.loop-number.number) (sym c.is_in.ensures ∙ c.if-is_in.true) (sym c.is_in-then-is_in.ensures ∙ c.if-not-is_in.true)))

pub returns : goal.returns
returns c = sym (all_kinds-pass (λ kind. not (is_terminal_or_honour kind) || in_class c.args.class kind) (λ kind within. c.loop-number.invariant kind (omega arith)))
