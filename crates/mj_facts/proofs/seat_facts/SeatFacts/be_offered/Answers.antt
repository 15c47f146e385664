use Rattle.std.specs.Prelude.{flat_map}
use Rattle.mj_deeds.specs.Passed.{offers_to, offered_tiles}
use Rattle.mj_deeds.specs.Riichi.{is_reach_by, behind_first}
use Rattle.mj_facts.proofs.SeatTurns.{only_offered}
use Rattle.mj_facts.proofs.seat_facts.SeatFacts.be_offered.Goals as goal

pub returns : goal.returns
returns c before deed who o k =
    only_offered before deed who _ c.args.self.now c.with_tile-self.result c.since_reach-self.result c.go_on.new.self o k (c.with_tile-self.ensures (offered_tiles before who) k.offered)
    (c.since_reach-self.ensures (flat_map (offers_to who) (behind_first (is_reach_by who) before)) k.offered_in_riichi) c.go_on.ensures
