use Rattle.std.proofs.Common.{rules}
use Rattle.mj_connection.proofs.Scripts.{told_begins}
use Rattle.mj_connection.proofs.seat.look_for.Goals as goal

pub returns-in-Err-clause-takes : goal.returns-in-Err-clause-takes
returns-in-Err-clause-takes g c = λ author f.
    record {
      fits = tt;
      hears = search rules;
      tells = λ out t. told_begins (g.G.Seated.after (g.G.Seated.setting c.args.game.now) (g.G.Seated.history c.args.game.now)) c.args.at.place
          c.args.at.seat _ _ _ f.0.mine c.in-Err.ensures.err t;
    }
