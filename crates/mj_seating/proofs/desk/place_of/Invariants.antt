-- What is left gives the same answer.
use Rattle.std.proofs.Common.{◌≡◌, ℕ, List, drop}
use Rattle.mj_ports.specs.declared.sitting.JoinLine.{JoinLine}
use Rattle.mj_seating.specs.Sitting.{Occupant, placed_from}
use Rattle.mj_seating.proofs.desk.place_of.Given as goal

pub record NoneBefore (taken : List Occupant) (join : JoinLine) (seat at : ℕ) : Type 0 where
  pub place : seat ≡ at
  pub same : placed_from at (drop at taken) join ≡ placed_from 0 taken join

abbrev pub invariant-loop-held : goal.invariant-loop-held
invariant-loop-held l = NoneBefore l.taken l.join l.seat l.held-index
