use Rattle.mj_handlers.proofs.Quiet.{quiet_start}
use Rattle.mj_handlers.proofs.hand.end_after.Goals as goal

pub returns-in-GameOver-clause-quiet : goal.returns-in-GameOver-clause-quiet
returns-in-GameOver-clause-quiet g c = quiet_start g.T.Noted.setting c.args.turns.now c.args.passes.now c.requires.idle

pub returns-in-PeerEnded-clause-quiet : goal.returns-in-PeerEnded-clause-quiet
returns-in-PeerEnded-clause-quiet g c = quiet_start g.T.Noted.setting c.args.turns.now c.args.passes.now c.requires.idle

pub returns-in-LinkFault-clause-quiet : goal.returns-in-LinkFault-clause-quiet
returns-in-LinkFault-clause-quiet g c = quiet_start g.T.Noted.setting c.args.turns.now c.args.passes.now c.requires.idle

pub returns-in-LineTooLong-clause-quiet : goal.returns-in-LineTooLong-clause-quiet
returns-in-LineTooLong-clause-quiet g c = quiet_start g.T.Noted.setting c.args.turns.now c.args.passes.now c.requires.idle

pub returns-in-TooManyRefusals-clause-quiet : goal.returns-in-TooManyRefusals-clause-quiet
returns-in-TooManyRefusals-clause-quiet g c = quiet_start g.T.Noted.setting c.args.turns.now c.args.passes.now c.requires.idle

pub returns-in-NotSeated-clause-quiet : goal.returns-in-NotSeated-clause-quiet
returns-in-NotSeated-clause-quiet g c = quiet_start g.T.Noted.setting c.args.turns.now c.args.passes.now c.requires.idle
