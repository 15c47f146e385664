-- The classes of kinds that the code tests, each the test of a definition.
use Rattle.std.specs.Prelude.{ℕ, Bool, not, ◌||◌}
use Rattle.mj_tiles.specs.Terminals.{is_honour, is_terminal, is_terminal_or_honour}
use Rattle.mj_yaku.specs.WholeHand.{is_of_suit, is_green}
use Rattle.mj_yaku.specs.declared.tiles.Class.{Class}
use Rattle.mj_yaku.specs.declared.tiles.Class.TheVariants.{Simple, Outside, Terminal, Honour, Number, Green, Suit, SuitOrHonour}

abbrev pub in_class : Class → ℕ → Bool
in_class Simple kind = not (is_terminal_or_honour kind)
in_class Outside kind = is_terminal_or_honour kind
in_class Terminal kind = is_terminal kind
in_class Honour kind = is_honour kind
in_class Number kind = not (is_honour kind)
in_class Green kind = is_green kind
in_class (Suit suit) kind = is_of_suit suit kind
in_class (SuitOrHonour suit) kind = is_of_suit suit kind || is_honour kind
