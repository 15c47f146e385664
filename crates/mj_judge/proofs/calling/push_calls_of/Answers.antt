use Rattle.std.proofs.Common.{◌≡◌, false, ◌++◌, rules, sym, ◌∙◌}
use Rattle.mj_tiles.specs.Faces.{kind_of}
use Rattle.mj_rules.specs.Possible.{faces_of, all_chis, pons_of, open_kans_of}
use Rattle.mj_judge.proofs.Calls.{no_calls}
use Rattle.mj_judge.proofs.Tried.{none_added, added_after}
use Rattle.mj_judge.proofs.calling.push_calls_of.Goals as goal

pub returns-then-not-may_call : goal.returns-then-not-may_call
returns-then-not-may_call c =
    let shut : c.may_call.result ≡ false = search rules in
    none_added c.args.table.now.rules c.args.table.now.deeds c.args.seat
    (all_chis c.args.seat c.args.who c.args.tile ++ (pons_of c.args.seat c.args.who c.args.tile (faces_of (kind_of c.args.tile)) ++ open_kans_of
    c.args.seat c.args.who c.args.tile (faces_of (kind_of c.args.tile)))) _
    (no_calls c.args.table.now.rules c.args.table.now.deeds c.args.seat c.args.who c.args.tile (sym c.may_call.ensures ∙ shut))

pub returns : goal.returns
returns c =
    added_after c.args.table.now.rules c.args.table.now.deeds c.args.seat (all_chis c.args.seat c.args.who c.args.tile)
    _ _ _ _ c.in_ok-push_chis.ensures c.in_ok-push_same.ensures
