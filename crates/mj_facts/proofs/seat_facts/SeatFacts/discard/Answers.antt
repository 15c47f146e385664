use Rattle.mj_deeds.specs.Facts.{river_tiles}
use Rattle.mj_facts.proofs.SeatTurns.{own_discarded}
use Rattle.mj_facts.proofs.seat_facts.SeatFacts.discard.Goals as goal

pub returns : goal.returns
returns c before from who drawn same k =
    own_discarded before from who c.args.tile drawn c.args.self.now c.with_tile-self.result c.none-none.result c.discard.new.self same k (c.with_tile-self.ensures (river_tiles before who) k.own)
    c.none-none.ensures c.discard.ensures
