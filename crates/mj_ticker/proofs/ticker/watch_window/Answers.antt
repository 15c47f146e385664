use Rattle.mj_ticker.proofs.Visiting.{watched_ended, watched_open, watched_nothing, watched_early, watched_stale, watched_gone, watched_closed}
use Rattle.mj_ticker.proofs.ticker.watch_window.Goals as goal

pub returns-in-Ended-clause-visits : goal.returns-in-Ended-clause-visits
returns-in-Ended-clause-visits g c =
    λ by first start read next more w. watched_ended g.T.Seated g.T.SharedGame.lost c.args.handlers g.T.Noted.setting by first start read next _ more c.args.turn.now c.args.pass.now
    c.args.pass.now c.args.sight w c.in-Ended.ticked c.in-Ended.is

pub returns-in-Open-clause-visits : goal.returns-in-Open-clause-visits
returns-in-Open-clause-visits g c = λ by first start read next more w. watched_open g.T.Seated g.T.SharedGame.lost c.args.handlers g.T.Noted.setting by first start read next _ more
    c.args.turn.now c.args.pass.now c.args.pass.now c.args.sight w c.in-Open.window c.in-Open.is

pub returns-in-Nothing-clause-visits : goal.returns-in-Nothing-clause-visits
returns-in-Nothing-clause-visits g c =
    λ by first start read next more w. watched_nothing g.T.Seated g.T.SharedGame.lost c.args.handlers g.T.Noted.setting by first start read next _ more c.args.turn.now c.args.pass.now
    c.args.pass.now c.args.sight w c.in-Nothing.is

pub returns-in-Ends-clause-visits : goal.returns-in-Ends-clause-visits
returns-in-Ends-clause-visits g c = λ by first start read next more w.
    watched_gone g.T.Seated g.T.SharedGame.lost c.args.handlers g.T.Noted.setting by first start read next _ more c.args.turn.now c.args.pass.now c.close.new.pass c.args.sight w
    c.close.ensures.idle.0 c.close.ensures.idle.1 c.in-Since.watch c.in-Since.is c.in-Ends.ticked c.in-Ends.ensures.closes

pub returns-in-Early-clause-visits : goal.returns-in-Early-clause-visits
returns-in-Early-clause-visits g c = λ by first start read next more w.
    watched_early g.T.Seated g.T.SharedGame.lost c.args.handlers g.T.Noted.setting by first start read next _ more c.args.turn.now c.args.pass.now c.close.new.pass c.args.sight w
    c.close.ensures.idle.0 c.close.ensures.idle.1 c.in-Since.watch c.in-Since.is c.in-Early.ensures.closes

pub returns-in-Stale-clause-visits : goal.returns-in-Stale-clause-visits
returns-in-Stale-clause-visits g c = λ by first start read next more w.
    watched_stale g.T.Seated g.T.SharedGame.lost c.args.handlers g.T.Noted.setting by first start read next _ more c.args.turn.now c.args.pass.now c.close.new.pass c.args.sight w
    c.close.ensures.idle.0 c.close.ensures.idle.1 c.in-Since.watch c.in-Since.is c.in-Stale.ensures.closes

pub returns-in-Closed-clause-visits : goal.returns-in-Closed-clause-visits
returns-in-Closed-clause-visits g c = λ by first start read next more w.
    watched_closed g.T.Seated g.T.SharedGame.lost c.args.handlers g.T.Noted.setting by first start read next _ more c.args.turn.now c.args.pass.now c.close.new.pass c.args.sight w
    c.close.ensures.idle.0 c.close.ensures.idle.1 c.in-Since.watch c.in-Since.is c.in-Closed.ensures.closes
