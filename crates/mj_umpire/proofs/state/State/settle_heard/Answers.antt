use Rattle.mj_umpire.proofs.state.State.settle_heard.Goals as goal

pub settle_filled-requires-clause-can : goal.settle_filled-requires-clause-can
settle_filled-requires-clause-can g c κs within = rw (c.is_taken.ensures.taken c.if-is_taken.true) at c.requires.can

pub returns-then-is_taken-clause-ok : goal.returns-then-is_taken-clause-ok
returns-then-is_taken-clause-ok g c = rw (c.is_taken.ensures.taken c.if-is_taken.true) c.settle_filled.ensures.ok

pub settle_closing-requires-clause-can : goal.settle_closing-requires-clause-can
settle_closing-requires-clause-can g c κs within = rw (← c.is_taken.ensures.other c.if-is_taken.false c.args.self.now.slots c.args.seat c.args.answer.now) at c.requires.can

pub returns-then-is_closing-clause-ok : goal.returns-then-is_closing-clause-ok
returns-then-is_closing-clause-ok g c = rw (← c.is_taken.ensures.other c.if-is_taken.false c.args.self.now.slots c.args.seat c.args.answer.now) c.settle_closing.ensures.ok

pub settle_here-requires-after_bounds : goal.settle_here-requires-after_bounds
settle_here-requires-after_bounds g c κs within =
    rw (
      ← c.is_taken.ensures.other c.if-is_taken.false c.args.self.now.slots c.args.seat c.args.answer.now,
      ← c.is_closing.ensures c.if-is_closing.false c.args.self.now.desk c.args.seat,
    ) at c.requires.can

pub returns-clause-ok : goal.returns-clause-ok
returns-clause-ok g c =
    rw (
      ← c.is_taken.ensures.other c.if-is_taken.false c.args.self.now.slots c.args.seat c.args.answer.now,
      ← c.is_closing.ensures c.if-is_closing.false c.args.self.now.desk c.args.seat,
    ) c.settle_here.ensures.ok
