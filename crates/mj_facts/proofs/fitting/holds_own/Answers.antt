use Rattle.std.proofs.Common.{[], ◌∷◌, ap}
use Rattle.mj_deeds.specs.Facts.{losses_by}
use Rattle.mj_facts.proofs.FitsKept.{own_held}
use Rattle.mj_facts.proofs.fitting.holds_own.Goals as goal

pub returns-in-Discard : goal.returns-in-Discard
returns-in-Discard c =
    own_held c.args.deed.now c.args.held.now c.in-Discard.who c.args.seat (c.in-Discard.tile ∷ []) c.are_held.result (ap (losses_by c.args.seat) c.in-Discard.is) c.if-who-seat.true c.are_held.ensures

pub returns-in-Chi : goal.returns-in-Chi
returns-in-Chi c =
    own_held c.args.deed.now c.args.held.now c.in-Chi.who c.args.seat (c.in-Chi.a ∷ c.in-Chi.b ∷ []) c.are_held-in-Chi.result
    (ap (losses_by c.args.seat) c.in-Chi.is) c.if-who-seat-2.true c.are_held-in-Chi.ensures

pub returns-in-Pon : goal.returns-in-Pon
returns-in-Pon c =
    own_held c.args.deed.now c.args.held.now c.in-Pon.who c.args.seat (c.in-Pon.a ∷ c.in-Pon.b ∷ []) c.are_held-in-Pon.result
    (ap (losses_by c.args.seat) c.in-Pon.is) c.if-who-seat-3.true c.are_held-in-Pon.ensures

pub returns-in-OpenKan : goal.returns-in-OpenKan
returns-in-OpenKan c =
    own_held c.args.deed.now c.args.held.now c.in-OpenKan.who c.args.seat (c.in-OpenKan.a ∷ c.in-OpenKan.b ∷ c.in-OpenKan.c ∷ [])
    c.are_held-in-OpenKan.result (ap (losses_by c.args.seat) c.in-OpenKan.is) c.if-who-seat-4.true c.are_held-in-OpenKan.ensures

pub returns-in-ClosedKan : goal.returns-in-ClosedKan
returns-in-ClosedKan c =
    own_held c.args.deed.now c.args.held.now c.in-ClosedKan.who c.args.seat (c.in-ClosedKan.a ∷ c.in-ClosedKan.b ∷ c.in-ClosedKan.c ∷ c.in-ClosedKan.d
    ∷ []) c.are_held-in-ClosedKan.result (ap (losses_by c.args.seat) c.in-ClosedKan.is) c.if-who-seat-5.true c.are_held-in-ClosedKan.ensures

pub returns-in-AddedKan : goal.returns-in-AddedKan
returns-in-AddedKan c =
    own_held c.args.deed.now c.args.held.now c.in-AddedKan.who c.args.seat (c.in-AddedKan.tile ∷ []) c.are_held-in-AddedKan.result
    (ap (losses_by c.args.seat) c.in-AddedKan.is) c.if-who-seat-6.true c.are_held-in-AddedKan.ensures
