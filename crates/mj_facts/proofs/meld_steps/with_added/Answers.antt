use Rattle.mj_facts.proofs.MeldsKept.{all_added}
use Rattle.mj_facts.proofs.meld_steps.with_added.Goals as goal

pub returns : goal.returns
returns c added few k =
    all_added c.args.tiles.now added c.args.meld _ _ _ _ _ few k c.with_some_added-meld.ensures c.with_some_added-meld-2.ensures c.with_some_added-meld-3.ensures c.with_some_added-meld-4.ensures
    c.with_some_added.ensures
