-- The tiles so far and those of the parts that are left are the tiles of the word.
use Rattle.std.proofs.Common.{◌≡◌, length}
use Rattle.mj_hand.specs.Words.{parts, tiles_of}
use Rattle.mj_lists.proofs.Onto.{onto}
use Rattle.mj_hand.proofs.words.read_tiles.Given as goal

abbrev pub invariant-loop-part : goal.invariant-loop-part
invariant-loop-part l = tiles_of (parts l.word) ≡ onto l.tiles.items (tiles_of (parts l.rest))

abbrev pub decreases-loop-part : goal.decreases-loop-part
decreases-loop-part l = length l.rest
