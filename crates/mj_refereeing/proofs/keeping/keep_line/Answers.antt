use Rattle.std.proofs.Common.{sym, subst, ◌∙◌}
use Rattle.mj_history.specs.Arrivals.{Header, WallOf, Sit, Say, Leave, Expire, NoForm, Arrival}
use Rattle.mj_refereeing.specs.Inner.Keeping.{Notes}
use Rattle.mj_refereeing.proofs.KeepLaws.{HasLine, line-has}
use Rattle.mj_refereeing.proofs.PlayLaws.{arrives-by, wall-late}
use Rattle.mj_refereeing.proofs.NoteLaws.{bad-noted, noted-sit, noted-expiry}
use Rattle.mj_refereeing.proofs.keeping.keep_line.Goals as goal

pub sit-requires-clause-line : goal.sit-requires-clause-line
sit-requires-clause-line g c = λ _ _. subst HasLine (sym (rw c.in-Sit.is at c.in-Ok.ensures.form)) (line-has c.args.line.now c.requires.plain)

pub keep_saying-requires-clause-line : goal.keep_saying-requires-clause-line
keep_saying-requires-clause-line g c = subst HasLine (sym (rw c.in-Say.is at c.in-Ok.ensures.form)) (line-has c.args.line.now c.requires.plain)

pub returns-in-Header-clause-notes : goal.returns-in-Header-clause-notes
returns-in-Header-clause-notes g c = λ tag seat game goes.
    bad-noted g.D.Disk.told g.D.Disk.may_leave g.D.Disk.moment g.D.Disk.secured_since c.args.kept.now c.args.disk.now (g.met.D.Disk.none_secured c.args.disk.now) tag seat game goes _
    (arrives-by game c.args.line.now (Header c.in-Header.field-0) (rw c.in-Header.is at c.in-Ok.ensures.form))

pub returns-in-Wall-clause-notes : goal.returns-in-Wall-clause-notes
returns-in-Wall-clause-notes g c = λ tag seat game goes.
    bad-noted g.D.Disk.told g.D.Disk.may_leave g.D.Disk.moment g.D.Disk.secured_since c.args.kept.now c.args.disk.now (g.met.D.Disk.none_secured c.args.disk.now) tag seat game goes _
    (arrives-by game c.args.line.now (WallOf c.in-Wall.field-0.items) (rw c.in-Wall.is at c.in-Ok.ensures.form)
    ∙ wall-late game c.in-Wall.field-0.items)

pub returns-in-Sit-clause-notes : goal.returns-in-Sit-clause-notes
returns-in-Sit-clause-notes g c = λ tag seat game goes.
    subst (λ (a : Arrival). Notes g.D.Disk.told g.D.Disk.may_leave g.D.Disk.moment g.D.Disk.secured_since c.noted_by.result tag seat game c.sit.new.self c.args.disk.now c.sit.new.disk a)
    (sym (arrives-by game c.args.line.now (Sit c.in-Sit.line.now) (rw c.in-Sit.is at c.in-Ok.ensures.form)))
    (noted-sit g.D.Disk.told g.D.Disk.may_leave g.D.Disk.moment g.D.Disk.left_since g.D.Disk.secured_since g.met.D.Disk.counts_now c.args.kept.now c.sit.new.self
    c.args.disk.now c.sit.new.disk tag seat game goes c.sit.ensures.rest c.sit.ensures.after
    c.sit.result c.noted_by.result c.in-Sit.line.now c.noted_by.ensures c.sit.ensures.answer c.sit.ensures.any_moment)

pub returns-in-Say-clause-notes : goal.returns-in-Say-clause-notes
returns-in-Say-clause-notes g c = λ tag seat game goes.
    subst (λ (a : Arrival). Notes g.D.Disk.told g.D.Disk.may_leave g.D.Disk.moment g.D.Disk.secured_since c.keep_saying.result tag seat game c.keep_saying.new.kept c.args.disk.now
    c.keep_saying.new.disk a)
    (sym (arrives-by game c.args.line.now (Say c.in-Say.seat c.in-Say.line.now) (rw c.in-Say.is at c.in-Ok.ensures.form))) (c.keep_saying.ensures.notes tag seat game goes)

pub returns-in-Leave-clause-notes : goal.returns-in-Leave-clause-notes
returns-in-Leave-clause-notes g c = λ tag seat game goes.
    subst (λ (a : Arrival). Notes g.D.Disk.told g.D.Disk.may_leave g.D.Disk.moment g.D.Disk.secured_since c.keep_leaving.result tag seat game c.keep_leaving.new.kept c.args.disk.now
    c.keep_leaving.new.disk a)
    (sym (arrives-by game c.args.line.now (Leave c.in-Leave.seat) (rw c.in-Leave.is at c.in-Ok.ensures.form))) (c.keep_leaving.ensures.notes tag seat game goes)

pub returns-in-Expire-clause-notes : goal.returns-in-Expire-clause-notes
returns-in-Expire-clause-notes g c = λ tag seat game goes.
    subst (λ (a : Arrival). Notes g.D.Disk.told g.D.Disk.may_leave g.D.Disk.moment g.D.Disk.secured_since c.noted_by-in-Expire.result tag seat game c.expire.new.self c.args.disk.now
    c.expire.new.disk a)
    (sym (arrives-by game c.args.line.now (Expire c.in-Expire.window c.in-Expire.t1 c.in-Expire.t2) (rw c.in-Expire.is at c.in-Ok.ensures.form)))
    (noted-expiry g.D.Disk.told g.D.Disk.may_leave g.D.Disk.moment g.D.Disk.left_since g.D.Disk.secured_since g.met.D.Disk.counts_now c.args.kept.now c.expire.new.self
    c.args.disk.now c.expire.new.disk tag seat game goes c.expire.ensures.rest c.expire.ensures.after
    c.expire.result c.noted_by-in-Expire.result c.in-Expire.window c.in-Expire.t1 c.in-Expire.t2 c.noted_by-in-Expire.ensures c.expire.ensures.answer c.expire.ensures.any_moment)

pub returns-in-NoForm-clause-notes : goal.returns-in-NoForm-clause-notes
returns-in-NoForm-clause-notes g c = λ tag seat game goes.
    bad-noted g.D.Disk.told g.D.Disk.may_leave g.D.Disk.moment g.D.Disk.secured_since c.args.kept.now c.args.disk.now (g.met.D.Disk.none_secured c.args.disk.now) tag seat game goes _
    (arrives-by game c.args.line.now NoForm (rw c.in-NoForm.is at c.in-Ok.ensures.form))
