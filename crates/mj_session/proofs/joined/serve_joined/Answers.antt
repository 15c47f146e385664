use Rattle.mj_session.proofs.Ending.{ends_session}
use Rattle.mj_session.proofs.joined.serve_joined.Goals as goal

pub returns-clause-session : goal.returns-clause-session
returns-clause-session g c = λ x took told. ends_session _ _ _ _ _ _ _ c.join_on-ended.result _ _ c.place.ensures (c.join_on-ended.ensures.ends x took told)
