use Rattle.std.proofs.Common.{ap}
use Rattle.std.specs.Prelude.{option_copied}
use Rattle.mj_deeds.specs.Fits.{Ground}
use Rattle.mj_deeds.specs.Hand.{is_hand_start}
use Rattle.mj_deeds.proofs.FitSteps.{place_start}
use Rattle.mj_deeds.proofs.placing.is_in_place.Goals as goal

pub returns-in-StartHand : goal.returns-in-StartHand
returns-in-StartHand c hand points taken end =
    let past : Ground = record { newest = option_copied c.args.newest; hand = hand; standing = c.args.standing.now; points = points; deposits = c.args.deposits } in
    place_start past c.args.deed.now c.starts_hand.result (ap is_hand_start c.in-StartHand.is) (c.starts_hand.ensures hand points end)
