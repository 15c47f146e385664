use Rattle.mj_ticker.proofs.Besides.{popped}
use Rattle.mj_durable.proofs.GoingLaws.{one_more, one_waits}
use Rattle.mj_durable.proofs.resuming.+resume_all.Goals as goal

pub returns-in-Gone-clause-games : goal.returns-in-Gone-clause-games
returns-in-Gone-clause-games g t c =
    one_more c.resume-left.result c.pop.new.self.items c.resume_all.new.games.items c.args.games.now.items c.push_reserved.new.self.items c.in-Some.game c.resume-left.new.game
    (popped _ _ _ _ c.pop.ensures.items c.in-Some.is) c.push_reserved.ensures.items c.in-Gone.ensures.games c.resume-left.ensures

pub returns-in-NoMemory-clause-games : goal.returns-in-NoMemory-clause-games
returns-in-NoMemory-clause-games g t c =
    one_waits c.pop.new.self.items c.resume_all.new.games.items c.args.games.now.items c.push_reserved-in-NoMemory.new.self.items c.in-Some.game
    (popped _ _ _ _ c.pop.ensures.items c.in-Some.is) c.push_reserved-in-NoMemory.ensures.items c.in-NoMemory.ensures.games
