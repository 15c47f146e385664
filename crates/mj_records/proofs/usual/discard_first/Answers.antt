use Rattle.std.proofs.Common.{ℕ, sym, subst}
use Rattle.mj_records.specs.Usual.{IsActOf}
use Rattle.mj_records.proofs.UsualLaws.{discard_begins}
use Rattle.mj_records.proofs.usual.discard_first.Goals as goal

pub returns : goal.returns
returns c =
    discard_begins c.args.text.now c.in-Some.act.now c.in-Some-seat_and_face.end.now c.in-Some-mark_first.rest.now c.in-Some-seat_and_face.seat c.at-tile.result
    c.in-Some-mark_first.drawn c.in-Some.ensures
    (subst (λ (t : ℕ). IsActOf c.in-Some.act.now c.in-Some-seat_and_face.seat t c.in-Some-seat_and_face.end.now) (sym c.at-tile.ensures) c.in-Some-seat_and_face.ensures)
    c.in-Some-mark_first.ensures
