use Rattle.std.proofs.Common.{◌≡◌, ◌∙◌}
use Rattle.std.specs.Prelude.{codes}
use Rattle.std.proofs.lemmas.Slice.Eq.{slice_eq-Decides}
use Rattle.std.proofs.lemmas.Bool.Decides.{Decides-eqb}
use Rattle.mjai_answers.specs.Inner.Spellings.{reach_front}
use Rattle.mjai_answers.proofs.Spellings.{reach_read}
use Rattle.mjai_answers.proofs.Texts.{begun}
use Rattle.mjai_answers.proofs.usual.usual_reach.Goals as goal

pub returns-then-eq : goal.returns-then-eq
returns-then-eq c =
    let same : c.in_ok-actor.rest.now ≡ codes "}" = (slice_eq-Decides Decides-eqb _ _ c.eq.result c.eq.ensures).0 c.if-eq.true ∙ c.as_slice.ensures in
    reach_read _ _ _ _ (begun _ reach_front _ c.in_ok-rest.ensures.cases) c.in_ok-actor.ensures same
