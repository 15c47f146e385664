-- What is held of the bytes that were read, and what a wire holds.
use Rattle.std.specs.Prelude.{ℕ, List, take}
use Rattle.mj_links.specs.declared.line_buffer.LineBuffer.{LineBuffer}
use Rattle.mj_links.specs.declared.wire.Wire.{Wire}

-- the bytes that are held, oldest first
abbrev pub held_bytes : LineBuffer → List ℕ
held_bytes h = take h.count h.bytes

-- the bytes that a wire read and did not hand out yet
abbrev pub wire_held : {L : Type 0} → Wire L → List ℕ
wire_held w = held_bytes w.held

-- the link of a wire
abbrev pub wire_link : {L : Type 0} → Wire L → L
wire_link w = w.link
