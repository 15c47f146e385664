-- What an umpire keeps of what its entries come to: all but their number and what the connections were told, where they began
-- and which there were before.
use Rattle.std.specs.Prelude.{[], map}
use Rattle.mj_history.specs.After.{After, Chair}

-- A seat that is held, without its connections.
abbrev pub untold_chair : Chair → Chair
untold_chair chair = record {
  author = chair.author;
  name = chair.name;
  key = chair.key;
  returns = chair.returns;
  place = 0;
  progress = record { due = chair.progress.due; refused = chair.progress.refused; told = [] };
  earlier = [];
}

-- What entries come to, without the connections of the seats.
abbrev pub untold : After → After
untold now = record { entered = 0; deeds = now.deeds; chairs = map untold_chair now.chairs; slots = now.slots }
