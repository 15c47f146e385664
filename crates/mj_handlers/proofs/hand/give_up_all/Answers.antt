use Rattle.std.proofs.Common.{◌<◌, ◌≤◌, length, ◌∙◌, arith}
use Rattle.mj_handlers.specs.Hands.{IsLegalAt}
use Rattle.mj_ticker.proofs.Idling.{idle_at}
use Rattle.mj_handlers.proofs.Quiet.{quiet_start, quiet_more, all_idle, below_none, below_more, below_all}
use Rattle.mj_handlers.proofs.hand.give_up_all.Goals as goal

pub loop-t-init : goal.loop-t-init
loop-t-init g c = record {
  quiet = quiet_start g.T.Noted.setting c.args.turns.now c.args.passes.now c.requires.idle;
  legal = below_none c.args.turns.now (IsLegalAt g.T.Seated g.T.Noted.setting) c.args.passes.now;
}

pub give_up-requires-after_bounds : goal.give_up-requires-after_bounds
give_up-requires-after_bounds g c κs within =
    let near : c.loop-t.t < length c.args.turns.now = omega (arith, c.loop-t-test.true) in
    idle_at g.T.Noted.setting c.args.turns.now c.loop-t.passes c.loop-t.t _ _ near (c.loop-t.invariant.quiet.many ∙ c.requires.many) c.index-turns-t.is
    (all_idle g.T.Noted.setting c.args.turns.now c.args.passes.now c.loop-t.passes c.requires.many c.loop-t.invariant.quiet)

pub loop-t-preserved : goal.loop-t-preserved
loop-t-preserved g c =
    let near : c.loop-t.t < length c.args.turns.now = omega (arith, c.loop-t-test.true) in
    record {
      quiet = quiet_more g.T.Noted.setting c.args.turns.now c.args.passes.now c.loop-t.passes c.loop-t.t _ _ c.give_up.new.pass near (c.loop-t.invariant.quiet.many ∙ c.requires.many)
          c.index-turns-t.is c.give_up.ensures.idle.0 c.give_up.ensures.idle.1 c.give_up.ensures.nothing c.loop-t.invariant.quiet;
      legal = below_more c.args.turns.now (IsLegalAt g.T.Seated g.T.Noted.setting) c.loop-t.passes c.loop-t.t _ c.give_up.new.pass near c.index-turns-t.is
          c.give_up.ensures.legal c.loop-t.invariant.legal;
    }

pub returns-clause-legal : goal.returns-clause-legal
returns-clause-legal g c =
    let long : length c.args.turns.now ≤ c.loop-t.t = omega (arith, c.loop-t-test.false) in
    below_all c.args.turns.now (IsLegalAt g.T.Seated g.T.Noted.setting) c.loop-t.passes c.loop-t.t long c.loop-t.invariant.legal
