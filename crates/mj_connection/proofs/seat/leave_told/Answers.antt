use Rattle.std.proofs.Common.{rules}
use Rattle.mj_connection.proofs.Scripts.{told_begins}
use Rattle.mj_connection.proofs.Taking.{takes_parted, told_due}
use Rattle.mj_connection.proofs.seat.leave_told.Goals as goal

pub returns-in-Ok-true-clause-takes : goal.returns-in-Ok-true-clause-takes
returns-in-Ok-true-clause-takes g c = takes_parted _ _ _ _ _ _ _ _ _ c.leave.ensures.takes (λ out t. told_due _ _ _ _ _ _ _ c.requires c.in-Ok-true.ensures.ok t)

pub returns-in-Ok-false-clause-takes : goal.returns-in-Ok-false-clause-takes
returns-in-Ok-false-clause-takes g c = takes_parted _ _ _ _ _ _ _ _ _ c.leave-in-Ok-false.ensures.takes (λ out t. told_due _ _ _ _ _ _ _ c.requires c.in-Ok-false.ensures.ok t)

pub returns-in-Err-clause-takes : goal.returns-in-Err-clause-takes
returns-in-Err-clause-takes g c =
    record {
      fits = tt;
      hears = search rules;
      tells = λ out t. told_begins (g.G.Seated.after (g.G.Seated.setting c.args.game.now) (g.G.Seated.history c.args.game.now)) c.args.at.place
          c.args.at.seat _ _ _ c.requires.0.mine c.in-Err.ensures.err t;
    }
