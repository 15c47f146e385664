use Rattle.std.proofs.Common.{◌≤◌, arith}
use Rattle.std.specs.Prelude.{OnErr}
use Rattle.std.specs.declared.result.Result.{Result}
use Rattle.std.specs.declared.result.Result.TheVariants.{Ok, Err}
use Rattle.mj_connection.proofs.Replays.{replay_none, replay_part}
use Rattle.mj_connection.proofs.seat.tell_again.Goals as goal

on_err : {T E : Type 0} → (r : Result T E) (P : Type 0) → P → OnErr r P
on_err (Ok x) P p = tt
on_err (Err e) P p = p

pub returns-in_err-control-clause-err : goal.returns-in_err-control-clause-err
returns-in_err-control-clause-err g c =
    let w = g.G.Seated.after (g.G.Seated.setting c.args.game.now) (g.G.Seated.history c.args.game.now) in
    let begun = replay_none g.G.Seated.says w c.args.seat c.args.into.now.items c.control.new.into.items c.in_err-control.ensures.err in
    on_err c.from_residual.result _ begun

pub returns-in_err-extend_from_slice-clause-err : goal.returns-in_err-extend_from_slice-clause-err
returns-in_err-extend_from_slice-clause-err g c =
    let w = g.G.Seated.after (g.G.Seated.setting c.args.game.now) (g.G.Seated.history c.args.game.now) in
    let near : c.loop-k.k ≤ w.due c.args.seat = omega (arith, c.loop-k.auto.k-end, c.due-due.ensures) in
    let begun = replay_part g.G.Seated.says w c.args.seat c.loop-k.k c.args.into.now.items _ c.extend_from_slice.new.self.items near c.loop-k.invariant c.in_err-extend_from_slice.ensures.items in
    on_err c.from_residual-in_err-extend_from_slice.result _ begun
