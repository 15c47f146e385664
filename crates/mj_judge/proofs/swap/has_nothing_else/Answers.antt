use Rattle.std.proofs.Common.{◌≡◌, false, true, rules, sym, ◌∙◌}
use Rattle.std.specs.Prelude.{flat_map}
use Rattle.mj_deeds.specs.Facts.{tiles_gained, tiles_lost}
use Rattle.mj_deeds.specs.Hand.{hand}
use Rattle.mj_deeds.specs.Pais.{face_in}
use Rattle.mj_judge.specs.Inner.Free.{is_used_up}
use Rattle.mj_judge.proofs.Places.{all_pass, one_fails, none_left}
use Rattle.mj_judge.proofs.swap.has_nothing_else.Goals as goal

pub returns-then-not-is_used_up : goal.returns-then-not-is_used_up
returns-then-not-is_used_up c =
    let failed : c.is_used_up.result ≡ false = search rules in
    sym (one_fails (is_used_up (tiles_gained (hand c.args.table.now.deeds) c.args.seat) (tiles_lost (hand c.args.table.now.deeds) c.args.seat) (flat_map face_in c.args.used.now) c.args.bans)
    c.loop-place.place c.ordered-tile.result c.loop-place-test.true c.ordered-tile.ensures (sym c.is_used_up.ensures ∙ failed)) ∙ c.loop-place.invariant

pub loop-place-preserved : goal.loop-place-preserved
loop-place-preserved c =
    let passed : c.is_used_up.result ≡ true = search rules in
    all_pass (is_used_up (tiles_gained (hand c.args.table.now.deeds) c.args.seat) (tiles_lost (hand c.args.table.now.deeds) c.args.seat) (flat_map face_in c.args.used.now) c.args.bans)
    c.loop-place.place c.ordered-tile.result c.loop-place-test.true c.ordered-tile.ensures (sym c.is_used_up.ensures ∙ passed) ∙ c.loop-place.invariant

pub returns : goal.returns
returns c =
    sym (none_left (is_used_up (tiles_gained (hand c.args.table.now.deeds) c.args.seat) (tiles_lost (hand c.args.table.now.deeds) c.args.seat) (flat_map face_in c.args.used.now) c.args.bans)
    c.loop-place.place c.loop-place-test.false) ∙ c.loop-place.invariant
