use Rattle.mj_durable.proofs.JournalLaws.{opens_one, comes_back, is_right, untouched}
use Rattle.mj_durable.proofs.opening.open_game.Goals as goal

pub returns-in-Err-clause-back : goal.returns-in-Err-clause-back
returns-in-Err-clause-back g c =
    untouched g.D.Disk.told g.D.Disk.may_leave g.D.Disk.moment g.D.Disk.left_since g.D.Disk.secured_since g.D.Disk.disk_faults c.args.core.setting c.args.disk
    ((g.met.D.Disk g.world.𝓛 g.world.𝓜 g.world.𝓡 ((λ s x. x), (λ x. x), (λ x. x), λ x. x)).only_now c.args.disk)

pub returns-in-Ok-clause-opened : goal.returns-in-Ok-clause-opened
returns-in-Ok-clause-opened g c =
    opens_one g.D.Disk.told g.D.Disk.may_leave g.D.Disk.moment g.D.Disk.left_since g.D.Disk.secured_since g.D.Disk.disk_faults c.args.authors c.args.core.setting c.in-Ok.tag.items
    c.in-Ok.ensures c.args.disk c.open.result
    c.open.ensures.setting c.open.ensures.front c.open.ensures.opened c.open.ensures.authors c.open.ensures.on c.open.ensures.looks c.open.ensures.any_moment c.open.ensures.syncs
    c.open.ensures.faults (g.met.D.Disk g.world.𝓛 g.world.𝓜 g.world.𝓡 ((λ s x. x), (λ x. x), (λ x. x), λ x. x)).counts_now

pub returns-in-Ok-clause-back : goal.returns-in-Ok-clause-back
returns-in-Ok-clause-back g c =
    comes_back g.D.Disk.told g.D.Disk.may_leave g.D.Disk.moment g.D.Disk.left_since g.D.Disk.secured_since g.D.Disk.disk_faults c.args.authors c.args.core.setting c.in-Ok.tag.items
    c.in-Ok.ensures c.args.disk c.open.result
    c.open.ensures.setting c.open.ensures.front c.open.ensures.opened c.open.ensures.authors c.open.ensures.on c.open.ensures.looks c.open.ensures.any_moment c.open.ensures.syncs
    c.open.ensures.faults (g.met.D.Disk g.world.𝓛 g.world.𝓜 g.world.𝓡 ((λ s x. x), (λ x. x), (λ x. x), λ x. x)).counts_now

pub returns-in-Ok-clause-right : goal.returns-in-Ok-clause-right
returns-in-Ok-clause-right g c =
    is_right g.D.Disk.told g.D.Disk.may_leave g.D.Disk.moment g.D.Disk.left_since g.D.Disk.secured_since g.D.Disk.disk_faults c.args.authors c.args.core.setting c.in-Ok.tag.items
    c.in-Ok.ensures c.args.disk c.open.result
    c.open.ensures.setting c.open.ensures.front c.open.ensures.opened c.open.ensures.authors c.open.ensures.on c.open.ensures.looks c.open.ensures.any_moment c.open.ensures.syncs
    c.open.ensures.faults (g.met.D.Disk g.world.𝓛 g.world.𝓜 g.world.𝓡 ((λ s x. x), (λ x. x), (λ x. x), λ x. x)).counts_now
