use Rattle.std.proofs.Common.{List, [], ◌∷◌, ◌++◌, ap, ◌∙◌}
use Rattle.mj_deeds.specs.declared.deed.Deed.{Deed}
use Rattle.mj_table.specs.Plays.{Play}
use Rattle.mj_umpire.specs.Inner.States.{desk_names}
use Rattle.mj_umpire.proofs.Pieces.{start-fits}
use Rattle.mj_umpire.proofs.state.start_game.Goals as goal

pub push-requires : goal.push-requires
push-requires g c =
    let now : Play = g.T.Telling.play c.args.told.now in
    rw c.in_ok-deed.ensures (start-fits now.rules.red now.deeds (desk_names c.args.desk.now) c.requires)

pub returns-clause-told : goal.returns-clause-told
returns-clause-told g c =
    let now : Play = g.T.Telling.play c.args.told.now in
    c.in_ok-push.ensures.ok
    ∙ ap (λ (deed : Deed). let after : Play = record { rules = now.rules; deeds = now.deeds ++ deed ∷ [] } in after) c.in_ok-deed.ensures

pub returns-clause-added : goal.returns-clause-added
returns-clause-added g c =
    c.push_reserved.ensures.items ∙ ap (λ (ds : List Deed). ds ++ c.in_ok-deed.deed ∷ []) c.reserve.ensures.items
    ∙ ap (λ (deed : Deed). c.args.deeds.now.items ++ deed ∷ []) c.in_ok-deed.ensures
