use Rattle.std.specs.Prelude.{codes}
use Rattle.mjai_answers.proofs.Spellings.{discard_read}
use Rattle.mjai_answers.proofs.Texts.{typed}
use Rattle.mjai_answers.proofs.usual.usual_discard.Goals as goal

pub returns : goal.returns
returns c =
    discard_read _ _ _ _ _ _ _ _ (typed _ _ _ _ (codes "dahai\"") c.in_ok-rest.ensures c.in_ok-rest-2.ensures c.in_ok-rest-3.ensures) c.in_ok-actor.ensures
    c.in_ok-rest-4.ensures c.in_ok-text.ensures c.in_ok-tile.ensures
