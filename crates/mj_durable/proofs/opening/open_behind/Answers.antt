use Rattle.std.proofs.Common.{◌≡◌, refl, ◌∙◌}
use Rattle.std.specs.Prelude.{vec_capacity}
use Rattle.std.proofs.lemmas.Result.{IfOk-weaker}
use Rattle.mj_durable.specs.Inner.Steps.{AreOpening, AreBack}
use Rattle.mj_durable.proofs.OpeningLaws.{of_ok, of_err, back_more}
use Rattle.mj_durable.proofs.JournalLaws.{untouched}
use Rattle.mj_durable.proofs.opening.open_behind.Goals as goal

pub returns-in-Ok-clause-opened : goal.returns-in-Ok-clause-opened
returns-in-Ok-clause-opened g c others were opening =
    c.open_next.ensures.opened others were
    (of_ok (λ gs. AreOpening g.D.Disk.told g.D.Disk.may_leave g.D.Disk.moment g.D.Disk.left_since g.D.Disk.secured_since g.D.Disk.disk_faults c.args.authors
    others were gs.items) c.args.before c.in-Ok.games opening c.in-Ok.is)

pub returns-in-Ok-clause-back : goal.returns-in-Ok-clause-back
returns-in-Ok-clause-back g c others were opening back =
    c.open_next.ensures.back others were
    (of_ok (λ gs. AreOpening g.D.Disk.told g.D.Disk.may_leave g.D.Disk.moment g.D.Disk.left_since g.D.Disk.secured_since g.D.Disk.disk_faults c.args.authors
    others were gs.items) c.args.before c.in-Ok.games opening c.in-Ok.is)

pub returns-in-Ok-clause-room : goal.returns-in-Ok-clause-room
returns-in-Ok-clause-room g c room is =
    IfOk-weaker c.open_next.result _ _ (λ gs same. same ∙ of_ok (λ v. vec_capacity v ≡ room) c.args.before c.in-Ok.games is c.in-Ok.is) c.open_next.ensures.room

pub returns-in-Err-clause-opened : goal.returns-in-Err-clause-opened
returns-in-Err-clause-opened g c others were opening = tt

pub returns-in-Err-clause-room : goal.returns-in-Err-clause-room
returns-in-Err-clause-room g c room is = tt

pub returns-in-Err-clause-back : goal.returns-in-Err-clause-back
returns-in-Err-clause-back g c others were opening back =
    back_more g.D.Disk.told g.D.Disk.may_leave g.D.Disk.moment g.D.Disk.left_since g.D.Disk.secured_since g.D.Disk.disk_faults c.args.authors others _ were _
    c.args.disks.now.items c.push_reserved.new.self.items c.args.core c.args.disk c.in-Err.why refl refl c.push_reserved.ensures.items
    (of_err (λ why. AreBack g.D.Disk.told g.D.Disk.may_leave g.D.Disk.moment g.D.Disk.left_since g.D.Disk.secured_since g.D.Disk.disk_faults c.args.authors
    why others were c.args.disks.now.items) c.args.before c.in-Err.why back c.in-Err.is)
    (untouched g.D.Disk.told g.D.Disk.may_leave g.D.Disk.moment g.D.Disk.left_since g.D.Disk.secured_since g.D.Disk.disk_faults c.args.core.setting c.args.disk
    ((g.met.D.Disk g.world.𝓛 g.world.𝓜 g.world.𝓡 ((λ s x. x), (λ x. x), (λ x. x), λ x. x)).only_now c.args.disk))
