use Rattle.mj_links.proofs.wire.pull.Goals as goal

pub returns-clause-ends : goal.returns-clause-ends
returns-clause-ends g c = λ at.
    let ends = g.met.L.Link.ends _ _ _ _ c.fill.ensures.bytes.others at in
    (ends.0, g.met.L.Link.untold _ ends.1)
