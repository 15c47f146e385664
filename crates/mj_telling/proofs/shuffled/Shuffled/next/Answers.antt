use Rattle.std.proofs.Common.{◌≡◌, ◌∙◌, Option, Some, ap, sym, subst}
use Rattle.std.specs.Prelude.{IfOk}
use Rattle.mj_deeds.specs.declared.deed.Deed.{Deed}
use Rattle.mj_deeds.specs.Standings.{standing}
use Rattle.mj_deeds.proofs.HandSteps.{standing_hand}
use Rattle.mj_table.specs.Plays.{Play}
use Rattle.mj_rules.proofs.SameWalls.{outcome_same}
use Rattle.mj_telling.proofs.Supplies.{stand_by}
use Rattle.mj_telling.proofs.shuffled.Shuffled.next.Goals as goal

pub next-requires-clause-few : goal.next-requires-clause-few
next-requires-clause-few g c =
    let at = (λ i. (c.standing.ensures i).hand) ∙ ap (λ (p : Play). (standing p.deeds).hand) c.table.ensures ∙ standing_hand (g.T.Telling.play c.args.told.now).deeds in
    (stand_by _ _ _ _ _ _ _ _ _ (g.T.Telling.play c.args.told.now).rules _ c.self.view_is c.as_slice.ensures.value c.shuffle_more.ensures.first at c.needed-needed.ensures
    c.in_ok-shuffle_more.ensures.enough c.requires.some c.requires.few c.requires.whole c.requires.played).few

pub next-requires-clause-whole : goal.next-requires-clause-whole
next-requires-clause-whole g c =
    let at = (λ i. (c.standing.ensures i).hand) ∙ ap (λ (p : Play). (standing p.deeds).hand) c.table.ensures ∙ standing_hand (g.T.Telling.play c.args.told.now).deeds in
    (stand_by _ _ _ _ _ _ _ _ _ (g.T.Telling.play c.args.told.now).rules _ c.self.view_is c.as_slice.ensures.value c.shuffle_more.ensures.first at c.needed-needed.ensures
    c.in_ok-shuffle_more.ensures.enough c.requires.some c.requires.few c.requires.whole c.requires.played).whole

pub next-requires-clause-played : goal.next-requires-clause-played
next-requires-clause-played g c =
    let at = (λ i. (c.standing.ensures i).hand) ∙ ap (λ (p : Play). (standing p.deeds).hand) c.table.ensures ∙ standing_hand (g.T.Telling.play c.args.told.now).deeds in
    (stand_by _ _ _ _ _ _ _ _ _ (g.T.Telling.play c.args.told.now).rules _ c.self.view_is c.as_slice.ensures.value c.shuffle_more.ensures.first at c.needed-needed.ensures
    c.in_ok-shuffle_more.ensures.enough c.requires.some c.requires.few c.requires.whole c.requires.played).played

pub returns-clause-follows : goal.returns-clause-follows
returns-clause-follows g c =
    let at = (λ i. (c.standing.ensures i).hand) ∙ ap (λ (p : Play). (standing p.deeds).hand) c.table.ensures ∙ standing_hand (g.T.Telling.play c.args.told.now).deeds in
    let stands = stand_by _ _ _ _ _ _ _ _ _ (g.T.Telling.play c.args.told.now).rules _ c.self.view_is c.as_slice.ensures.value c.shuffle_more.ensures.first at c.needed-needed.ensures
    c.in_ok-shuffle_more.ensures.enough c.requires.some c.requires.few c.requires.whole c.requires.played in
    subst (λ (d : Option Deed). IfOk c.next.result (λ x. Some x ≡ d))
    (sym (outcome_same (g.T.Telling.play c.args.told.now).rules _ _ (g.T.Telling.play c.args.told.now).deeds c.args.answers.now stands.same))
    c.next.ensures.follows
