use Rattle.mj_served.proofs.Serving.{served}
use Rattle.mj_served.proofs.played_is_served.Goals as goal

pub returns : goal.returns
returns g c = served g.L.Link.was_read g.L.Source.left g.L.Sink.written g.L.Source.read_faults g.L.Sink.write_faults
