use Rattle.std.proofs.Common.{◌<◌, ◌++◌, rules}
use Rattle.mj_tiles.specs.Faces.{kind_of}
use Rattle.mj_rules.specs.Possible.{faces_of, pons_of, open_kans_of}
use Rattle.mj_judge.proofs.FewHeld.{no_same}
use Rattle.mj_judge.proofs.Tried.{none_added, added_after}
use Rattle.mj_judge.proofs.calling.push_same.Goals as goal

pub returns-then-held_of-lt2 : goal.returns-then-held_of-lt2
returns-then-held_of-lt2 c =
    let low : kind_of c.args.tile < 34 = search rules in
    none_added c.args.table.now.rules c.args.table.now.deeds c.args.seat
    (pons_of c.args.seat c.args.who c.args.tile (faces_of (kind_of c.args.tile)) ++ open_kans_of c.args.seat c.args.who c.args.tile (faces_of (kind_of c.args.tile))) _
    (no_same c.args.table.now.rules c.args.table.now.deeds c.args.seat c.args.who c.args.tile c.kind.result c.held_of.result low c.kind.ensures c.held_of.ensures c.if-held_of-lt2.true)

pub returns : goal.returns
returns c =
    added_after c.args.table.now.rules c.args.table.now.deeds c.args.seat (pons_of c.args.seat c.args.who c.args.tile (faces_of (kind_of c.args.tile)))
    (open_kans_of c.args.seat c.args.who c.args.tile (faces_of (kind_of c.args.tile))) _ _ _ c.in_ok-push_pons.ensures c.in_ok-push_open_kans.ensures
