use Rattle.mj_tiles.proofs.CountSteps.{counts_none}
use Rattle.test_words.proofs.words.none_held.Goals as goal

pub from_numbers-requires : goal.from_numbers-requires
from_numbers-requires c = counts_none.1
