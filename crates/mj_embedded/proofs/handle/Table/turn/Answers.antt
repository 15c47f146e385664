use Rattle.std.proofs.Common.{Some, sym, ap, ◌∙◌}
use Rattle.mj_embedded.specs.Turns.{Turns}
use Rattle.mj_embedded.proofs.OnGames.{on_game}
use Rattle.mj_embedded.proofs.handle.Table.turn.Goals as goal

pub returns-clause-told : goal.returns-clause-told
returns-clause-told c = on_game (Turns c.go_on-answer.new.turn) c.args.self.now.held.game c.put.new.self.held.game
    c.deref_mut.result.now c.go_on-answer.new.game c.go_on-answer.result (c.in-Some.ensures.game ∙ ap Some (sym c.deref_mut.ensures.value)) c.put.ensures c.go_on-answer.ensures
