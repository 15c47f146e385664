use Rattle.std.proofs.Common.{◌∙◌, arith, sym}
use Rattle.mj_tiles.proofs.Spelled.{one_read, two_read, three_read, none_read}
use Rattle.mj_tiles.proofs.tile.Tile.read.Goals as goal

-- src/tile.rt:65:5
pub returns-in-len1 : goal.returns-in-len1
returns-in-len1 c = c.honour.ensures ∙ one_read _ (omega arith)

-- src/tile.rt:65:5
pub returns-in-len2 : goal.returns-in-len2
returns-in-len2 c = c.plain.ensures ∙ two_read _ (omega arith)

-- src/tile.rt:65:5
pub returns-in-len3 : goal.returns-in-len3
returns-in-len3 c = c.red.ensures ∙ three_read _ (omega arith)

-- src/tile.rt:65:5
pub returns-in-empty : goal.returns-in-empty
returns-in-empty c = sym (none_read _ (λ h. omega (arith, c.in-empty.len_below, h)) (λ h. omega (arith, c.in-empty.len_below, h)) (λ h. omega (arith, c.in-empty.len_below, h)))

-- src/tile.rt:65:5
pub returns-in-len4-up : goal.returns-in-len4-up
returns-in-len4-up c = sym (none_read _ (λ h. omega (arith, c.in-len4-up.len_at_least, h)) (λ h. omega (arith, c.in-len4-up.len_at_least, h)) (λ h. omega (arith, c.in-len4-up.len_at_least, h)))
