use Rattle.std.proofs.Common.{◌<◌, [], ◌∷◌, rules, refl, ap, ◌∙◌}
use Rattle.mj_deeds.specs.Facts.{tiles_gained, tiles_lost}
use Rattle.mj_deeds.specs.Hand.{hand}
use Rattle.mj_rules.specs.View.{view_of}
use Rattle.mj_tiles.specs.Faces.{number_in, kind_of}
use Rattle.mj_rules.specs.Possible.{faces_of, closed_kans_of}
use Rattle.mj_judge.specs.Inner.Tried.{red_of}
use Rattle.mj_judge.proofs.FewHeld.{no_four}
use Rattle.mj_judge.proofs.Tried.{none_held, none_added, no_closed_kans_of, of_plain, of_both}
use Rattle.mj_judge.proofs.turning.push_closed_kans_of.Goals as goal

pub returns-then-held_count-eq0 : goal.returns-then-held_count-eq0
unfolding view_of
returns-then-held_count-eq0 c =
    let none = none_held (number_in (tiles_gained (hand c.args.table.now.deeds) c.args.seat) c.args.a)
    (number_in (tiles_lost (hand c.args.table.now.deeds) c.args.seat) c.args.a) c.held_count.result c.held_count.ensures c.if-held_count-eq0.true
    in
    none_added c.args.table.now.rules c.args.table.now.deeds c.args.seat (closed_kans_of c.args.seat c.args.a (faces_of (kind_of c.args.a))) _
    (no_closed_kans_of c.args.table.now.rules c.args.table.now.deeds c.args.seat c.args.a (faces_of (kind_of c.args.a)) none)

pub returns-then-held_of-lt3 : goal.returns-then-held_of-lt3
returns-then-held_of-lt3 c =
    let low : kind_of c.args.a < 34 = search rules in
    none_added c.args.table.now.rules c.args.table.now.deeds c.args.seat (closed_kans_of c.args.seat c.args.a (faces_of (kind_of c.args.a))) _
    (no_four c.args.table.now.rules c.args.table.now.deeds c.args.seat c.args.a c.kind.result c.held_of.result low c.kind.ensures c.held_of.ensures c.if-held_of-lt3.true)

pub returns-in_ok-push_plain_kan-in-None : goal.returns-in_ok-push_plain_kan-in-None
returns-in_ok-push_plain_kan-in-None c =
    let low : kind_of c.args.a < 34 = search rules in
    of_plain c.args.table.now.rules c.args.table.now.deeds c.args.seat (closed_kans_of c.args.seat c.args.a) (kind_of c.args.a)
    c.plain_of-plain.result c.red_of.result _ _ _ low (c.plain_of-plain.ensures ∙ c.kind-2.ensures) (c.red_of.ensures
    ∙ ap red_of c.kind-3.ensures) c.in-None.is
    refl c.in_ok-push_plain_kan-in-None.ensures

pub returns-in_ok-push_lawful-in-Some : goal.returns-in_ok-push_lawful-in-Some
returns-in_ok-push_lawful-in-Some c =
    let low : kind_of c.args.a < 34 = search rules in
    of_both c.args.table.now.rules c.args.table.now.deeds c.args.seat (closed_kans_of c.args.seat c.args.a) (kind_of c.args.a) c.plain_of-plain.result
    c.in-Some.red c.red_of.result _ _ _ low (c.plain_of-plain.ensures ∙ c.kind-2.ensures) (c.red_of.ensures ∙ ap red_of c.kind-3.ensures)
    c.in-Some.is
    (λ i. c.closed_kan.ensures i ∷ c.closed_kan-in-Some.ensures i ∷ c.closed_kan-in-Some-2.ensures i ∷ c.closed_kan-in-Some-3.ensures i ∷
    c.closed_kan-in-Some-4.ensures i ∷ c.closed_kan-in-Some-5.ensures i ∷ c.closed_kan-in-Some-6.ensures i ∷ c.closed_kan-in-Some-7.ensures i ∷
    []) c.in_ok-push_lawful-in-Some.ensures
