use Rattle.std.specs.Prelude.{codes}
use Rattle.mjai_answers.specs.Inner.Spellings.{win_front, target_front, tile_front}
use Rattle.mjai_answers.proofs.Spellings.{win_read}
use Rattle.mjai_answers.proofs.Texts.{begun, ended}
use Rattle.mjai_answers.proofs.usual.usual_win.Goals as goal

pub returns : goal.returns
returns c =
    win_read _ _ _ _ _ _ _ _ _ _ (begun _ win_front _ c.in_ok-rest.ensures.cases) c.in_ok-actor.ensures
    (begun _ target_front _ c.in_ok-rest-2.ensures.cases) c.in_ok-target.ensures
    (begun _ tile_front _ c.in_ok-rest-3.ensures.cases) (ended _ (codes "\"}") _ c.in_ok-text.ensures.cases) c.in_ok-tile.ensures
