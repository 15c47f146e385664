use Rattle.mj_suits.proofs.Rows.{past_are}
use Rattle.mj_suits.proofs.walk.rows_past.Goals as goal

pub returns : goal.returns
returns c = past_are _ _ c.rows_of.ensures.alone c.rows_of.ensures.none
