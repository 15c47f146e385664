use Rattle.std.proofs.Common.{rules, ◌≡◌, ◌++◌, ◌∷◌, [], ap, sym, ◌∙◌, arith}
use Rattle.std.specs.Prelude.{Some, None, slice_get}
use Rattle.mj_observe.specs.Views.{public_view, public_part}
use Rattle.mj_observe.proofs.Growing.{views_grow}
use Rattle.std.proofs.lemmas.Option.{slice_get_within}
use Rattle.mj_checking.proofs.ObserveLaws.{taken_more, taken_all}
use Rattle.mj_checking.proofs.observe.view_of.Goals as goal

pub loop-deed-init : goal.loop-deed-init
loop-deed-init c = record {
  given = c.in_ok-observer.ensures;
  told = c.new-text.ensures.items ∙ sym (ap public_view c.in_ok-observer.ensures);
}

pub loop-deed-smaller : goal.loop-deed-smaller
loop-deed-smaller c =
    let at : slice_get c.args.deeds.now c.loop-deed.number ≡ Some c.in-Some.deed.now = search rules in
    let within = slice_get_within c.args.deeds.now c.loop-deed.number c.in-Some.deed.now at in
    omega (arith, within)

pub loop-deed-preserved : goal.loop-deed-preserved
loop-deed-preserved c =
    let at : slice_get c.args.deeds.now c.loop-deed.number ≡ Some c.in-Some.deed.now = search rules in
    let more = c.in_ok-push.ensures.given in
    record {
      given = more ∙ ap (λ ds. ds ++ c.in-Some.deed.now ∷ []) c.loop-deed.invariant.given ∙ sym (taken_more c.args.deeds.now c.loop-deed.number c.in-Some.deed.now at);
      told =
          c.in_ok-push.ensures.told.is
          ∙ ap (λ text. text ++ public_part c.loop-deed.observer c.in-Some.deed.now) c.loop-deed.invariant.told
          ∙ sym (views_grow c.loop-deed.observer c.in-Some.deed.now)
          ∙ sym (ap public_view more);
    }

pub returns : goal.returns
returns c =
    let none : slice_get c.args.deeds.now c.loop-deed.number ≡ None = search rules in
    c.loop-deed.invariant.told ∙ ap public_view (c.loop-deed.invariant.given ∙ taken_all c.args.deeds.now c.loop-deed.number none)
