use Rattle.mj_session.proofs.Turning.{takes_turn}
use Rattle.mj_session.proofs.talk.turn_with.Goals as goal

pub returns-clause-takes : goal.returns-clause-takes
returns-clause-takes g c =
    let numbered = rw c.number-number.ensures at c.act.ensures.takes in
    let second = rw c.value-2.ensures.shows at numbered in
    let held = rw c.value.ensures.shows at second in
    let takes = rw c.take-held.ensures.setting at held in
    rw (c.give_back.ensures, c.value-3.ensures.shows) (takes_turn g.T.Seated (g.T.Noted.setting c.args.turn.now.opening) c.args.pass.now.number c.args.doing _ _ _ _ _ _ _ _
    c.take-held.ensures.others c.requires.can c.clear.ensures.items takes)
