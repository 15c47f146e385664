use Rattle.std.proofs.Common.{refl}
use Rattle.mj_session.proofs.Ending.{ends_session}
use Rattle.mj_session.proofs.Talking.{goes_first}
use Rattle.mj_session.proofs.serve.serve_seat.Goals as goal

pub returns-clause-session : goal.returns-clause-session
returns-clause-session g c = ends_session _ _ _ _ _ _ _ c.play-ended.result _ _ c.place.ensures
    (c.play-ended.ensures.goes _ _ (goes_first g.T.Seated (g.T.Noted.setting c.args.turn.now.opening) _ _ _ _ refl))
