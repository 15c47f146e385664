use Rattle.std.proofs.Common.{arith, sym}
use Rattle.mj_links.specs.LineBuffers.{held_bytes}
use Rattle.mj_links.proofs.HeldLaws.{found, none_found, held_length, room_left}
use Rattle.mj_links.proofs.WireLaws.{reading_line-line, reading_line-ended, reading_line-failed, still_no_line, still_short}
use Rattle.mj_links.proofs.wire.Wire.read_line.Goals as goal

pub returns-in-Ok-clause-bytes : goal.returns-in-Ok-clause-bytes
returns-in-Ok-clause-bytes g c =
    let held = c.loop-end.self.held in
    let long = held_length held.bytes held.count held.room held.within in
    reading_line-line _ _ _ _ _ _ _ _ _ _ _ _ _ _ c.in-Some.end _ _ c.loop-end.invariant.0
    (found _ c.in-Some.end (sym c.in-Some.ensures)) (omega (arith, long, held.within)) c.in-Ok.ensures.ok.0 c.in-Ok.ensures.ok.1

pub returns-in-End-clause-bytes : goal.returns-in-End-clause-bytes
returns-in-End-clause-bytes g c =
    let held = c.loop-end.self.held in
    let short = room_left held.bytes held.count c.is_full.result c.is_full.ensures c.if-is_full.false held.room held.within in
    let ended = reading_line-ended _ _ _ _ _ _ _ _ _ _ _ _ _ _ _ _ _ _ 0 _ c.loop-end.invariant.0 c.in-End.ensures.writing _ c.in-End.ensures.bytes
    (none_found (held_bytes held) (sym c.in_default.ensures)) short c.clear.ensures in
    (ended.0, c.loop-end.invariant.0.line)

pub returns-in-Failed-clause-bytes : goal.returns-in-Failed-clause-bytes
returns-in-Failed-clause-bytes g c =
    let held = c.loop-end.self.held in
    let short = room_left held.bytes held.count c.is_full.result c.is_full.ensures c.if-is_full.false held.room held.within in
    let none = none_found (held_bytes held) (sym c.in_default.ensures) in
    let failed = reading_line-failed _ _ _ _ _ _ _ _ _ _ _ _ _ _ _ _ _ _ 0 _ c.loop-end.invariant.0 c.in-Failed.ensures.writing c.in-Failed.ensures.bytes in
    (failed.0, still_no_line _ _ _ _ _ _ c.in-Failed.ensures.bytes none, still_short _ _ _ _ _ _ c.in-Failed.ensures.bytes short)

pub returns-in-End-clause-ends : goal.returns-in-End-clause-ends
returns-in-End-clause-ends g c = λ none at. (tt, (c.in-End.ensures.ends (c.loop-end.invariant.1 none at).1).1)

pub returns-in-Failed-clause-ends : goal.returns-in-Failed-clause-ends
returns-in-Failed-clause-ends g c = λ none at. (tt, (c.in-Failed.ensures.ends (c.loop-end.invariant.1 none at).1).1)
