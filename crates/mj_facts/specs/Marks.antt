-- The marks of a seat, read off a list of deeds.
use Rattle.std.specs.Prelude.{ℕ, List}
use Rattle.mj_deeds.specs.declared.deed.Deed.{Deed}
use Rattle.mj_deeds.specs.Firsts.{is_first}
use Rattle.mj_deeds.specs.Riichi.{has_reached, is_in_riichi, is_double, is_ippatsu}
use Rattle.mj_facts.specs.declared.marks.Marks.{Marks}

-- A seat is marked by its reach, by the acceptance of it, by whether its riichi is double and within one turn, and by its
-- first turn.
abbrev pub marks : List Deed → ℕ → Marks
marks deeds seat = record {
  reached = has_reached deeds seat;
  accepted = is_in_riichi deeds seat;
  double = is_double deeds seat;
  ippatsu = is_ippatsu deeds seat;
  first = is_first deeds seat;
}
