use Rattle.std.proofs.Common.{◌≡◌, ◌++◌}
use Rattle.mj_ports.specs.declared.answers.Control.TheVariants.{Head}
use Rattle.mj_ports.specs.Seats.{lines_to}
use Rattle.mj_connection.proofs.seat.tell_again.Given as goal

abbrev pub invariant-loop-k : goal.invariant-loop-k
invariant-loop-k g l =
    let w = g.G.Seated.after (g.G.Seated.setting l.game) (g.G.Seated.history l.game) in
    l.into.items ≡ l.fn.into.items ++ (g.G.Seated.says (Head (w.due l.seat)) ++ lines_to w l.seat l.k)
