use Rattle.std.proofs.Common.{◌<◌, ◌≤◌, length, ◌∙◌, arith}
use Rattle.mj_handlers.specs.Hands.{IsLegalAt, IsOverAt}
use Rattle.mj_ticker.proofs.Idling.{idle_at}
use Rattle.mj_handlers.proofs.Quiet.{quiet_start, quiet_more, all_idle, below_none, below_more, below_all}
use Rattle.mj_handlers.proofs.hand.ask_all.Goals as goal

pub loop-t-init : goal.loop-t-init
loop-t-init g c = record {
  quiet = quiet_start g.T.Noted.setting c.args.turns.now c.args.passes.now c.requires.idle;
  legal = below_none c.args.turns.now (IsLegalAt g.T.Seated g.T.Noted.setting) c.args.passes.now;
  over = λ e. below_none c.args.turns.now (IsOverAt g.T.Seated g.T.Noted.setting) c.args.passes.now;
}

pub ask-found-requires-after_bounds : goal.ask-found-requires-after_bounds
ask-found-requires-after_bounds g c κs within =
    let near : c.loop-t.t < length c.args.turns.now = omega (arith, c.loop-t-test.true) in
    idle_at g.T.Noted.setting c.args.turns.now c.loop-t.passes c.loop-t.t _ _ near (c.loop-t.invariant.quiet.many ∙ c.requires.many) c.index-turns-t.is
    (all_idle g.T.Noted.setting c.args.turns.now c.args.passes.now c.loop-t.passes c.requires.many c.loop-t.invariant.quiet)

pub loop-t-preserved : goal.loop-t-preserved
loop-t-preserved g c =
    let near : c.loop-t.t < length c.args.turns.now = omega (arith, c.loop-t-test.true) in
    let many = c.loop-t.invariant.quiet.many ∙ c.requires.many in
    record {
      quiet = quiet_more g.T.Noted.setting c.args.turns.now c.args.passes.now c.loop-t.passes c.loop-t.t _ _ c.ask-found.new.pass near many c.index-turns-t.is
          c.ask-found.ensures.idle.0 c.ask-found.ensures.idle.1 c.ask-found.ensures.nothing c.loop-t.invariant.quiet;
      legal = below_more c.args.turns.now (IsLegalAt g.T.Seated g.T.Noted.setting) c.loop-t.passes c.loop-t.t _ c.ask-found.new.pass near c.index-turns-t.is
          c.ask-found.ensures.legal c.loop-t.invariant.legal;
      over = λ e.
          let both = c.and_also-all.ensures e in
          below_more c.args.turns.now (IsOverAt g.T.Seated g.T.Noted.setting) c.loop-t.passes c.loop-t.t _ c.ask-found.new.pass near c.index-turns-t.is
          (c.ask-found.ensures.over both.1) (c.loop-t.invariant.over both.0);
    }

pub returns-clause-legal : goal.returns-clause-legal
returns-clause-legal g c =
    let long : length c.args.turns.now ≤ c.loop-t.t = omega (arith, c.loop-t-test.false) in
    below_all c.args.turns.now (IsLegalAt g.T.Seated g.T.Noted.setting) c.loop-t.passes c.loop-t.t long c.loop-t.invariant.legal

pub returns-clause-over : goal.returns-clause-over
returns-clause-over g c = λ e.
    let long : length c.args.turns.now ≤ c.loop-t.t = omega (arith, c.loop-t-test.false) in
    below_all c.args.turns.now (IsOverAt g.T.Seated g.T.Noted.setting) c.loop-t.passes c.loop-t.t long (c.loop-t.invariant.over e)
