use Rattle.std.proofs.Common.{◌≡◌, ◌∙◌}
use Rattle.std.specs.Prelude.{codes}
use Rattle.std.proofs.lemmas.Slice.Eq.{slice_eq-Decides}
use Rattle.std.proofs.lemmas.Bool.Decides.{Decides-eqb}
use Rattle.mjai_answers.specs.Inner.Spellings.{pon_front, target_front, tile_front, own_front}
use Rattle.mjai_answers.proofs.Spellings.{pon_read}
use Rattle.mjai_answers.proofs.Texts.{begun}
use Rattle.mjai_answers.proofs.usual.usual_pon.Goals as goal

pub returns-then-eq-2 : goal.returns-then-eq-2
returns-then-eq-2 c =
    let same : c.in_ok-second.second.now ≡ c.in_ok-first.first.now = (slice_eq-Decides Decides-eqb _ _ c.eq.result c.eq.ensures).0 c.if-eq.true in
    let closes : c.in_ok-second.rest.now ≡ codes "]}" = (slice_eq-Decides Decides-eqb _ _ c.eq-then-eq.result c.eq-then-eq.ensures).0 c.if-eq-2.true ∙ c.as_slice.ensures in
    pon_read _ _ _ _ _ _ _ _ _ _ _ _ _ _ _ _ _ _ (begun _ pon_front _ c.in_ok-rest.ensures.cases) c.in_ok-actor.ensures
    (begun _ target_front _ c.in_ok-rest-2.ensures.cases) c.in_ok-target.ensures (begun _ tile_front _ c.in_ok-rest-3.ensures.cases) c.in_ok-text.ensures
    (begun _ own_front _ c.in_ok-rest-4.ensures.cases) c.in_ok-first.ensures (begun _ (codes ",\"") _ c.in_ok-rest-5.ensures.cases) c.in_ok-second.ensures
    same closes c.in_ok-tile.ensures c.in_ok-own.ensures
