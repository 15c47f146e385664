use Rattle.std.proofs.Common.{◌<◌, All, sym, subst}
use Rattle.std.proofs.lemmas.List.Elements.{All-nil}
use Rattle.turn_lock.proofs.turn.Turn.new.Goals as goal

pub resume-requires-clause-below : goal.resume-requires-clause-below
resume-requires-clause-below g c κs within =
    let k = g.T.Noted in
    subst (λ l. All (λ n. k.author n < c.args.passes) l) (sym c.requires.notes) (All-nil _)
