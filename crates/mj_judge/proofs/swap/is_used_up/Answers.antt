use Rattle.std.proofs.Common.{ℕ, ◌≡◌, ◌≤◌, sym, arith}
use Rattle.std.proofs.lemmas.Bool.{le-leb, or_left}
use Rattle.mj_tiles.specs.Faces.{number_in}
use Rattle.mj_deeds.specs.Facts.{tiles_gained, tiles_lost}
use Rattle.mj_deeds.specs.Hand.{hand}
use Rattle.mj_judge.proofs.Tried.{none_held}
use Rattle.mj_judge.proofs.swap.is_used_up.Goals as goal

no_more : (n m : ℕ) → n ≡ 0 → n ≤ m
no_more n m e = omega (arith, e)

pub returns-then-held-eq0 : goal.returns-then-held-eq0
returns-then-held-eq0 c =
    let none = none_held (number_in (tiles_gained (hand c.args.table.now.deeds) c.args.seat) c.args.tile)
    (number_in (tiles_lost (hand c.args.table.now.deeds) c.args.seat) c.args.tile) c.held_count-held.result c.held_count-held.ensures c.if-held-eq0.true
    in
    sym (or_left _ _ (le-leb _ _ (no_more _ _ none)))
