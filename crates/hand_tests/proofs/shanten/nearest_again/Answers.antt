use Rattle.hand_tests.proofs.Again.{more_held, same_hand}
use Rattle.hand_tests.proofs.shanten.nearest_again.Goals as goal

pub without-again-requires : goal.without-again-requires
without-again-requires c =
    more_held c.args.counts.now _ c.args.kind _ c.tiles_among.ensures.size c.with_one_more.ensures.within c.in-Some.ensures.value c.in-Some-walked_closed.ensures

pub number-requires : goal.number-requires
number-requires c =
    same_hand c.args.counts.now _ c.args.kind c.tiles_among.result _ _ c.tiles_among.ensures.total c.if-tiles_among-ne13.false c.tiles_among.ensures.size c.tiles_among.ensures.few
    c.with_one_more.ensures.within c.in-Some.ensures.value c.in-Some-walked_closed.ensures c.without-again.ensures

pub shanten-requires : goal.shanten-requires
shanten-requires c =
    same_hand c.args.counts.now _ c.args.kind c.tiles_among.result _ _ c.tiles_among.ensures.total c.if-tiles_among-ne13.false c.tiles_among.ensures.size c.tiles_among.ensures.few
    c.with_one_more.ensures.within c.in-Some.ensures.value c.in-Some-walked_closed.ensures c.without-again.ensures
