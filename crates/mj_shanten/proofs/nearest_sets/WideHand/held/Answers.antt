use Rattle.mj_shanten.proofs.Whole.{held_of, sizes_of}
use Rattle.mj_shanten.proofs.nearest_sets.WideHand.held.Goals as goal

pub returns : goal.returns
returns c = record {
  held = held_of _ _ _ c.self.view_is c.self.invariant.held_is;
  size = (sizes_of _ _ _ c.self.view_is c.self.invariant.held_size c.self.invariant.room_size).0;
  room_size = (sizes_of _ _ _ c.self.view_is c.self.invariant.held_size c.self.invariant.room_size).1;
}
