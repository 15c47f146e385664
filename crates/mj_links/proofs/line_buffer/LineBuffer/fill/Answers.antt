use Rattle.std.proofs.Common.{arith}
use Rattle.mj_links.proofs.HeldLaws.{filled}
use Rattle.mj_links.proofs.line_buffer.LineBuffer.fill.Goals as goal

pub returns-in-Bytes-clause-bytes : goal.returns-in-Bytes-clause-bytes
returns-in-Bytes-clause-bytes g c = record {
  into = c.read.new.into;
  reads = c.in-Bytes.ensures.bytes;
  others = c.in-Bytes.ensures.also;
  added = filled c.args.self.now.bytes c.read.new.into _ c.args.self.now.count c.in-Bytes.n (omega arith) c.in-Bytes.ensures.bytes.1;
}
