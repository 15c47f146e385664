use Rattle.std.proofs.Common.{rules, ◌≡◌, ◌∙◌, ap, Some, None, ℕ, List}
use Rattle.std.specs.Prelude.{codes}
use Rattle.mj_deeds.specs.declared.four.Four.{Four}
use Rattle.mj_deeds.specs.Shown.{Shown, shown_or_hidden}
use Rattle.mj_records.specs.Deeds.{shown_field, drawn_by}
use Rattle.mj_records.proofs.StepLaws.{shown_steps, shown_stop, shown_stop_last}
use Rattle.mj_records.proofs.results.drawn_behind.Goals as goal

pub returns : goal.returns
unfolding shown_field
returns c = λ whole rest h1 h2.
    let h3 : Some (shown_or_hidden c.in-Some.c c.as_slice.result.now, c.in-Some.rest.now) ≡ shown_field (codes ",") c.args.text.now = search rules in
    let h4 : Some (shown_or_hidden c.in-Some-2.d c.as_slice-2.result.now, c.in-Some-2.rest.now) ≡ shown_field (codes ",") c.in-Some.rest.now = search rules in
    let of_tiles : Four (List ℕ) → Four Shown = λ t. record {
      first = shown_or_hidden c.args.a t.first;
      second = shown_or_hidden c.args.b t.second;
      third = shown_or_hidden c.in-Some.c t.third;
      fourth = shown_or_hidden c.in-Some-2.d t.fourth;
    } in
    c.drawn_by.ensures ∙ ap (λ hands. drawn_by c.args.reason hands c.in-Some-2.rest.now) (c.in_ok-hands.ensures ∙ ap of_tiles c.in_ok-tiles.ensures)
    ∙ shown_steps _ _ _ _ _ _ _ _ _ _ h1 h2 h3 h4

pub returns-in_default : goal.returns-in_default
unfolding shown_field
returns-in_default c = λ whole rest h1 h2.
    let h3 : None ≡ shown_field (codes ",") c.args.text.now = search rules in
    shown_stop _ _ _ _ _ _ h1 h2 h3

pub returns-in_default-2 : goal.returns-in_default-2
unfolding shown_field
returns-in_default-2 c = λ whole rest h1 h2.
    let h3 : Some (shown_or_hidden c.in-Some.c c.shown_field.new.tiles.items, c.in-Some.rest.now) ≡ shown_field (codes ",") c.args.text.now = search rules in
    let h4 : None ≡ shown_field (codes ",") c.in-Some.rest.now = search rules in
    shown_stop_last _ _ _ _ _ _ _ _ h1 h2 h3 h4
