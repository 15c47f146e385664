-- A written game may go to another thread where its game and its disk may.
use denote.RattleType.{RattleType}
use denote.Exit.{no}
use Prim.Native.Nat.{ℕ}
use mir.Syntax.{Ty}
use denote.Param.{param, arg}
use denote.Param.Send.{IsSend, sendable, param_send, arg_send, view_send, recorded_send, struct_send}
use denote.Struct.Declared.{shape}
use Rattle.mj_ports.specs.declared.seated.Seated as seated
use Rattle.mj_journal.specs.declared.disk.Disk as disks
use Rattle.mj_written.specs.contracts.written.Written.{the_row}
use Rattle.mj_written.specs.contracts.written.Written.TheInside as inside

module _ (G D S A R : RattleType) (g : seated.Ghosts G.Denot S.Denot A.Denot R.Denot) (d : disks.Ghosts D.Denot) (game : IsSend G) (disk : IsSend D) where
  inside_send : IsSend (inside.the_row G D S A R g d)
  inside_send =
      recorded_send (inside.the_field G D S A R g d).row _ _ (inside.the_type G D S A R g d).to_one (struct_send (shape (inside.the_type G D S A R g d))
      (game, (disk, (search sendable, (search sendable depth 12, (search sendable, (search sendable, (search sendable, tt))))))))

  row_send : IsSend (the_row G D S A R g d)
  row_send = view_send (inside.the_row G D S A R g d) _ _ _ _ inside_send

  pub written_send : (i : ℕ) (τ : Ty) → IsSend (param i (arg τ no (the_row G D S A R g d)))
  written_send i τ = param_send i (arg τ no (the_row G D S A R g d)) (arg_send τ no (the_row G D S A R g d) row_send)
