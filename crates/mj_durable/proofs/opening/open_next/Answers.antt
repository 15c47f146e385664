use Rattle.std.proofs.Common.{refl}
use Rattle.mj_durable.proofs.OpeningLaws.{opens_more, closes}
use Rattle.mj_durable.proofs.opening.open_next.Goals as goal

pub returns-in-Ok-clause-opened : goal.returns-in-Ok-clause-opened
returns-in-Ok-clause-opened g c others were opening =
    opens_more g.D.Disk.told g.D.Disk.may_leave g.D.Disk.moment g.D.Disk.left_since g.D.Disk.secured_since g.D.Disk.disk_faults c.args.authors
    others _ were _ c.args.games.items c.push_reserved.new.self.items c.args.core c.args.disk c.in-Ok.game refl refl c.push_reserved.ensures.items opening c.in-Ok.ensures.opened

pub returns-in-Err-clause-back : goal.returns-in-Err-clause-back
returns-in-Err-clause-back g c others were opening =
    closes g.D.Disk.told g.D.Disk.may_leave g.D.Disk.moment g.D.Disk.left_since g.D.Disk.secured_since g.D.Disk.disk_faults c.args.authors
    others were c.close_all.new.disks.items c.push_reserved-in-Err.new.self.items c.args.games.items c.args.core c.args.disk c.in-Err.disk c.in-Err.why
    c.close_all.ensures.disks c.push_reserved-in-Err.ensures.items opening c.close_all.ensures.kept c.in-Err.ensures.back c.in-Err.ensures.right
