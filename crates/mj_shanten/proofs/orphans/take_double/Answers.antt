use Rattle.std.proofs.Common.{◌∙◌, sym}
use Rattle.mj_shanten.proofs.Doubles.{double_kept, double_off}
use Rattle.mj_shanten.proofs.orphans.take_double.Goals as goal

pub returns-then-not-is_terminal_or_honour : goal.returns-then-not-is_terminal_or_honour
returns-then-not-is_terminal_or_honour c = double_off _ _ _ (sym c.is_terminal_or_honour.ensures ∙ c.if-not-is_terminal_or_honour.true)

pub returns : goal.returns
returns c = double_kept _ _ _ _ _ (sym c.is_terminal_or_honour.ensures ∙ c.if-not-is_terminal_or_honour.false) c.with_double.ensures c.keep_nearer.ensures
