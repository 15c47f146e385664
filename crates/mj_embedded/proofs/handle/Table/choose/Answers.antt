use Rattle.std.proofs.Common.{Some, sym, ap, ◌∙◌}
use Rattle.mj_embedded.specs.Turns.{Plays}
use Rattle.mj_embedded.proofs.OnGames.{on_game}
use Rattle.mj_embedded.proofs.handle.Table.choose.Goals as goal

pub returns-clause-told : goal.returns-clause-told
returns-clause-told c = on_game (Plays c.args.seat c.args.k c.args.rule.now c.play-answer.new.rule c.args.turn.now c.play-answer.new.turn) c.args.self.now.held.game c.put.new.self.held.game
    c.deref_mut.result.now c.play-answer.new.game c.play-answer.result (c.in-Some.ensures.game ∙ ap Some (sym c.deref_mut.ensures.value)) c.put.ensures c.play-answer.ensures
