use Rattle.mj_streams.proofs.PageLaws.{kept_closed, told_closed}
use Rattle.mj_streams.proofs.pages.Stream.turn_page.Goals as goal

pub invariant_of-self-2 : goal.invariant_of-self-2
invariant_of-self-2 c = record {
  kept = kept_closed _ _ _ _ _ _ _ c.reserve.ensures.items c.push_reserved.ensures.items c.close.ensures.text c.close.ensures.empty c.args.self.now.kept;
}

pub returns-clause-lines : goal.returns-clause-lines
returns-clause-lines c = told_closed _ _ _ _ _ _ _ c.reserve.ensures.items c.push_reserved.ensures.items c.close.ensures.text c.close.ensures.empty c.args.self.now.kept
