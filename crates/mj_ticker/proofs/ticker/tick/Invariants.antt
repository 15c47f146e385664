use Rattle.mj_ticker.specs.Watches.{IsWatched}
use Rattle.mj_ticker.proofs.ticker.tick.Given as goal

abbrev pub invariant-loop : goal.invariant-loop
invariant-loop g l =
    (goal.iterator-loop g).can_next l.iterator' × (goal.iterator-loop g).is_finite l.iterator'
    × IsWatched g.T.Seated g.T.SharedGame.lost 8 g.T.Noted.setting l.initial.pass.number l.initial.pass.seen (g.C.Clock.readings l.initial.clock) (g.C.Clock.readings l.clock) l.turn l.pass l.sight
