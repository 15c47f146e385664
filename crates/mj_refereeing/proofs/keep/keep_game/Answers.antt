use Rattle.std.proofs.Common.{refl, length, ℕ, ap, sym, ◌∙◌}
use Rattle.mj_journal.specs.declared.not_opened.NotOpened.TheVariants as not_opened
use Rattle.mj_core.specs.Told.{ToldGame}
use Rattle.mj_refereeing.specs.Bases.{base_meant}
use Rattle.mj_refereeing.proofs.InputLaws.{failed_open, wanting_open, other_open, bad_open, keeps-opened, other-as, bad-as, some-wall}
use Rattle.mj_refereeing.proofs.SafeLaws.{opening-syncs}
use Rattle.mj_refereeing.proofs.keep.keep_game.Goals as goal

pub returns-in-Ok-open-clause-does : goal.returns-in-Ok-open-clause-does
returns-in-Ok-open-clause-does g c = λ input is.
    keeps-opened g.D.Disk.told g.D.Disk.may_leave g.D.Disk.moment g.D.Disk.secured_since c.args.seat (base_meant c.args.base) input is.is c.args.disk.now c.open.new.disk c.keep_on.new.disk
    c.in-Ok-open.kept (g.K.Sink.written c.args.sink.now) (g.K.Sink.written c.keep_on.new.sink)
    c.new-2.result (ap (λ (t : ToldGame). t.game) (c.new-2.ensures ∙ c.in-Ok.ensures)) (ap (λ (t : ToldGame). t.seat) (c.new-2.ensures ∙ c.in-Ok.ensures))
    (some-wall (length c.args.base.walls.items) c.requires.some)
    c.in-Ok-open.ensures.game c.in-Ok-open.ensures.opened c.in-Ok-open.ensures.on
    (opening-syncs g.D.Disk.told g.D.Disk.may_leave g.D.Disk.moment g.D.Disk.left_since g.D.Disk.secured_since g.met.D.Disk.counts_now (base_meant c.args.base) input c.args.disk.now c.open.new.disk
    c.open.ensures.looks c.open.ensures.any_moment c.open.ensures.syncs)
    c.in-Ok-open.ensures.rest c.in-Ok-open.ensures.tells c.keep_on.result
    (λ game same goes. c.keep_on.ensures.does (base_meant c.args.base) c.args.seat input game refl refl is.unread same goes)

pub returns-in-Err-DiskFault-clause-does : goal.returns-in-Err-DiskFault-clause-does
returns-in-Err-DiskFault-clause-does g c = λ input is.
    failed_open g.D.Disk.told g.D.Disk.may_leave g.D.Disk.moment g.D.Disk.secured_since c.args.seat (base_meant c.args.base) input is.is c.args.disk.now g.D.Disk.left_since
    g.met.D.Disk.counts_now (g.K.Sink.written c.args.sink.now) c.open.new.disk c.open.ensures.looks c.open.ensures.any_moment c.open.ensures.syncs

pub returns-in-Err-OtherGame-clause-does : goal.returns-in-Err-OtherGame-clause-does
returns-in-Err-OtherGame-clause-does g c = λ input is.
    other_open g.D.Disk.told g.D.Disk.may_leave g.D.Disk.moment g.D.Disk.secured_since c.args.seat (base_meant c.args.base) input is.is c.args.disk.now g.D.Disk.left_since
    g.met.D.Disk.counts_now (g.K.Sink.written c.args.sink.now) c.open.new.disk c.open.ensures.looks c.open.ensures.any_moment c.open.ensures.syncs
    (λ bytes found.
    other-as c.new-2.result (base_meant c.args.base).setting c.args.base.tag.now bytes c.open.result c.in-Err-OtherGame.field-0
    (ap (λ (t : ToldGame). t.game) (c.new-2.ensures ∙ c.in-Ok.ensures)) c.in-Err-OtherGame.is (c.open.ensures.opened bytes found) c.in-Err-OtherGame.field-0-is)

pub returns-in-Err-BadJournal-clause-does : goal.returns-in-Err-BadJournal-clause-does
returns-in-Err-BadJournal-clause-does g c = λ input is.
    bad_open g.D.Disk.told g.D.Disk.may_leave g.D.Disk.moment g.D.Disk.secured_since c.args.seat (base_meant c.args.base) input is.is c.args.disk.now g.D.Disk.left_since
    g.met.D.Disk.counts_now (g.K.Sink.written c.args.sink.now) c.open.new.disk c.open.ensures.looks c.open.ensures.any_moment c.open.ensures.syncs _
    (λ bytes found.
    bad-as c.new-2.result (base_meant c.args.base).setting c.args.base.tag.now bytes c.open.result c.in-Err-BadJournal.field-0
    (ap (λ (t : ToldGame). t.game) (c.new-2.ensures ∙ c.in-Ok.ensures)) c.in-Err-BadJournal.is (c.open.ensures.opened bytes found) _ (c.in-Err-BadJournal.field-0-is
    ∙ ap (λ (p : ℕ). not_opened.BadJournal p) (sym c.in-Err-BadJournal.place-is)))

pub returns-in-Err-NoMemory-clause-does : goal.returns-in-Err-NoMemory-clause-does
returns-in-Err-NoMemory-clause-does g c = λ input is.
    wanting_open g.D.Disk.told g.D.Disk.may_leave g.D.Disk.moment g.D.Disk.secured_since c.args.seat (base_meant c.args.base) input is.is c.args.disk.now g.D.Disk.left_since
    g.met.D.Disk.counts_now (g.K.Sink.written c.args.sink.now) c.open.new.disk c.open.ensures.looks c.open.ensures.any_moment c.open.ensures.syncs
