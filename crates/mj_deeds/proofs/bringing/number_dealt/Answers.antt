use Rattle.std.proofs.Common.{◌≡◌, ℕ, List, ap, ◌∙◌, arith}
use Rattle.mj_tiles.specs.Counts.{number_of}
use Rattle.mj_deeds.proofs.FitSteps.{number_of_four}
use Rattle.mj_deeds.proofs.bringing.number_dealt.Goals as goal

pub returns : goal.returns
returns c =
    let first : c.number_of.result ≡ number_of c.args.hands.now.first c.args.kind = c.number_of.ensures ∙ ap (λ (xs : List ℕ). number_of xs c.args.kind) c.at.ensures in
    let second : c.number_of-2.result ≡ number_of c.args.hands.now.second c.args.kind = c.number_of-2.ensures ∙ ap (λ (xs : List ℕ). number_of xs c.args.kind) c.at-2.ensures in
    let third : c.number_of-3.result ≡ number_of c.args.hands.now.third c.args.kind = c.number_of-3.ensures ∙ ap (λ (xs : List ℕ). number_of xs c.args.kind) c.at-3.ensures in
    let fourth : c.number_of-4.result ≡ number_of c.args.hands.now.fourth c.args.kind = c.number_of-4.ensures ∙ ap (λ (xs : List ℕ). number_of xs c.args.kind) c.at-4.ensures in
    omega (
      arith,
      first,
      second,
      third,
      fourth,
      c.saturating_add.ensures,
      c.saturating_add-2.ensures,
      c.saturating_add-3.ensures,
      number_of_four c.args.hands.now.first c.args.hands.now.second c.args.hands.now.third c.args.hands.now.fourth c.args.kind,
    )
