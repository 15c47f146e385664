use Rattle.std.proofs.Common.{◌<◌, ◌≤◌, length, ◌∙◌, arith}
use Rattle.std.proofs.lemmas.List.{length-set}
use Rattle.mj_ticker.proofs.Idling.{idle_at, idle_set}
use Rattle.mj_ticker.proofs.Rounds.{visited_none, visited_more, visited_all, ended_none, ended_more, ended_all}
use Rattle.mj_ticker.proofs.ticker.go_round.Goals as goal

pub loop-t-init : goal.loop-t-init
loop-t-init g c = record {
  many = c.requires.many.0;
  wide = c.requires.many.1;
  idle = c.requires.idle;
  ticks = λ by first start read next more h. visited_none g.T.Seated g.T.SharedGame.lost c.args.handlers g.T.Noted.setting by first start read next c.args.turns.now c.args.passes.now
      c.args.sights.now h;
  ended = λ e. ended_none c.args.sights.now;
}

pub returns-clause-ticks : goal.returns-clause-ticks
returns-clause-ticks g c = λ by first start read next more h.
    let long : length c.args.turns.now ≤ c.loop-t.t = omega (arith, c.loop-t-test.false) in
    visited_all g.T.Seated g.T.SharedGame.lost c.args.handlers g.T.Noted.setting by first start read next c.loop-t.t c.args.turns.now c.loop-t.passes c.loop-t.sights long
    c.loop-t.invariant.many c.loop-t.invariant.wide (c.loop-t.invariant.ticks by first start read next more h)

pub returns-clause-ended : goal.returns-clause-ended
returns-clause-ended g c = λ e.
    let long : length c.args.turns.now ≤ c.loop-t.t = omega (arith, c.loop-t-test.false) in
    ended_all (length c.args.turns.now) c.loop-t.t c.loop-t.sights long (c.loop-t.invariant.ended e)

pub visit-sight-requires-clause-idle : goal.visit-sight-requires-clause-idle
visit-sight-requires-clause-idle g c κs within =
    let near : c.loop-t.t < length c.args.turns.now = omega (arith, c.loop-t-test.true) in
    idle_at g.T.Noted.setting c.args.turns.now c.loop-t.passes c.loop-t.t _ _ near c.loop-t.invariant.many c.index-turns-t.is c.loop-t.invariant.idle

pub loop-t-preserved : goal.loop-t-preserved
loop-t-preserved g c =
    let near : c.loop-t.t < length c.args.turns.now = omega (arith, c.loop-t-test.true) in
    record {
      many = length-set _ _ _ ∙ c.loop-t.invariant.many;
      wide = length-set _ _ _ ∙ c.loop-t.invariant.wide;
      idle = idle_set g.T.Noted.setting c.args.turns.now c.loop-t.passes c.loop-t.t _ c.visit-sight.new.pass near c.index-turns-t.is c.visit-sight.ensures.idle.0 c.loop-t.invariant.idle;
      ticks = λ by first start read next more h.
          visited_more g.T.Seated g.T.SharedGame.lost c.args.handlers g.T.Noted.setting by first start read next c.loop-t.t c.args.turns.now c.loop-t.passes c.loop-t.sights _ _
          c.visit-sight.new.pass _ c.visit-sight.result near c.loop-t.invariant.many c.loop-t.invariant.wide c.index-turns-t.is
          (c.visit-sight.ensures.visits by _ start read next more) (c.loop-t.invariant.ticks by first start read next more h);
      ended = ended_more c.loop-t.sights c.loop-t.t c.visit-sight.result c.loop-t.ended c.has_ended-ended.result c.has_ended-ended.ensures c.loop-t.invariant.ended;
    }
