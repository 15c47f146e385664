use Rattle.std.proofs.Common.{◌<◌, [], ◌∷◌, rules, ap, ◌∙◌}
use Rattle.mj_tiles.specs.Faces.{kind_of}
use Rattle.mj_rules.specs.Possible.{open_kans_of}
use Rattle.mj_judge.specs.Inner.Tried.{red_of}
use Rattle.mj_judge.proofs.Tried.{of_plain, of_both}
use Rattle.mj_judge.proofs.calling.push_open_kans.Goals as goal

pub returns-in_ok-push_lawful-in-None : goal.returns-in_ok-push_lawful-in-None
returns-in_ok-push_lawful-in-None c =
    let low : kind_of c.args.tile < 34 = search rules in
    of_plain c.args.table.now.rules c.args.table.now.deeds c.args.seat (open_kans_of c.args.seat c.args.who c.args.tile) (kind_of c.args.tile)
    c.plain_of-plain.result c.red_of.result _ _ _ low (c.plain_of-plain.ensures ∙ c.kind.ensures) (c.red_of.ensures ∙ ap red_of c.kind-2.ensures)
    c.in-None.is
    (λ i. c.open_kan-kan.ensures i ∷ []) c.in_ok-push_lawful-in-None.ensures

pub returns-in_ok-push_lawful-in-Some : goal.returns-in_ok-push_lawful-in-Some
returns-in_ok-push_lawful-in-Some c =
    let low : kind_of c.args.tile < 34 = search rules in
    of_both c.args.table.now.rules c.args.table.now.deeds c.args.seat (open_kans_of c.args.seat c.args.who c.args.tile) (kind_of c.args.tile)
    c.plain_of-plain.result c.in-Some.red c.red_of.result _ _ _ low (c.plain_of-plain.ensures ∙ c.kind.ensures) (c.red_of.ensures
    ∙ ap red_of c.kind-2.ensures) c.in-Some.is
    (λ i. c.open_kan.ensures i ∷ c.open_kan-in-Some.ensures i ∷ c.open_kan-in-Some-2.ensures i ∷ c.open_kan-in-Some-3.ensures i ∷
    c.open_kan-in-Some-4.ensures i ∷ c.open_kan-in-Some-5.ensures i ∷ c.open_kan-in-Some-6.ensures i ∷ c.open_kan-in-Some-7.ensures i ∷ [])
    c.in_ok-push_lawful-in-Some.ensures
