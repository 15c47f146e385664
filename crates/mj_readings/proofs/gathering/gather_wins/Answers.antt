use Rattle.std.proofs.Common.{arith}
use Rattle.mj_readings.proofs.Gathered.{win_more, win_all}
use Rattle.mj_readings.proofs.gathering.gather_wins.Goals as goal

pub loop-win-preserved : goal.loop-win-preserved
loop-win-preserved c = win_more c.args.found.now.items c.loop-win.found.items c.gather_win.new.found.items c.args.melds.now c.args.sets.now c.args.winning c.args.pair c.loop-win.win
    c.loop-win.invariant c.in_ok-gather_win.ensures

pub returns : goal.returns
returns c = win_all c.args.found.now.items c.loop-win.found.items c.args.melds.now c.args.sets.now c.args.winning c.args.pair c.loop-win.win
    (omega (arith, c.loop-win-test.false, c.loop-win.auto.win-end)) c.loop-win.invariant
