use Rattle.std.proofs.Common.{rules, ◌≡◌, ◌∙◌, Some, None}
use Rattle.std.specs.Prelude.{codes}
use Rattle.mj_records.specs.Inner.Lists.{rows_field}
use Rattle.mj_records.specs.Deeds.{win_by}
use Rattle.mj_records.proofs.StepLaws.{win_steps, win_stop}
use Rattle.mj_records.proofs.results.win_behind.Goals as goal

pub returns : goal.returns
unfolding rows_field
returns c = λ whole rest h1 h2.
    let h3 : Some (c.in_ok-yaku.yaku, c.in-Some.rest.now) ≡ rows_field (codes ",\"yakus\":") c.args.text.now = search rules in
    c.win_by.ensures
    ∙ (λ i. win_by c.args.seat c.args.target c.args.tile (c.in_ok-unders.ensures i) (c.in_ok-hand.ensures i) c.in_ok-yaku.yaku c.in-Some.rest.now)
    ∙ win_steps _ _ _ _ _ _ _ _ _ _ h1 h2 h3

pub returns-in_default : goal.returns-in_default
unfolding rows_field
returns-in_default c = λ whole rest h1 h2.
    let h3 : None ≡ rows_field (codes ",\"yakus\":") c.args.text.now = search rules in
    win_stop _ _ _ _ _ _ _ _ h1 h2 h3
