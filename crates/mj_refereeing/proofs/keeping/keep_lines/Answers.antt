use Rattle.std.proofs.Common.{refl}
use Rattle.mj_refereeing.proofs.WallLaws.{counted}
use Rattle.mj_refereeing.proofs.WalkLaws.{walks-on, walks-bad, walks-fail, walks-want, walks-end, no-fewer}
use Rattle.mj_refereeing.proofs.keeping.keep_lines.Goals as goal

pub loop-line-preserved : goal.loop-line-preserved
loop-line-preserved g c = record {
  walks = λ tag seat game goes.
      let w = c.loop-line.invariant.walks tag seat game goes in
      walks-on g.D.Disk.told g.D.Disk.may_leave g.D.Disk.moment g.D.Disk.secured_since tag seat game c.args.disk.now c.loop-line.kept c.loop-line.disk c.loop-line.number
      c.loop-line.rest.now c.in-Some.line.now c.in-Some.others.now _ w c.in-Some.ensures
      c.keep_line.new.kept c.keep_line.new.disk (c.in-Leads.ensures.notes tag seat w.at w.goes);
  played = c.in-Leads.ensures.rest;
  faults = no-fewer _ _ _ c.loop-line.invariant.faults c.in-Leads.ensures.faults;
  count = counted _ _ _ _ c.loop-line.invariant.count c.in-Some.ensures.shorter;
}

pub returns-in-Bad-clause-notes : goal.returns-in-Bad-clause-notes
returns-in-Bad-clause-notes g c = λ tag seat game goes.
    let w = c.loop-line.invariant.walks tag seat game goes in
    walks-bad g.D.Disk.told g.D.Disk.may_leave g.D.Disk.moment g.D.Disk.secured_since tag seat game c.args.disk.now c.loop-line.kept c.loop-line.disk c.loop-line.number c.loop-line.rest.now
    c.in-Some.line.now c.in-Some.others.now _ w c.in-Some.ensures
    c.keep_line.new.kept c.keep_line.new.disk _ refl (c.in-Bad.ensures.notes tag seat w.at w.goes)

pub returns-in-DiskFault-clause-notes : goal.returns-in-DiskFault-clause-notes
returns-in-DiskFault-clause-notes g c = λ tag seat game goes.
    let w = c.loop-line.invariant.walks tag seat game goes in
    walks-fail g.D.Disk.told g.D.Disk.may_leave g.D.Disk.moment g.D.Disk.secured_since tag seat game c.args.disk.now c.loop-line.kept c.loop-line.disk c.loop-line.number
    c.loop-line.rest.now c.in-Some.line.now c.in-Some.others.now _ w c.in-Some.ensures
    c.keep_line.new.kept c.keep_line.new.disk (c.in-DiskFault.ensures.notes tag seat w.at w.goes)

pub returns-in-NoMemory-clause-notes : goal.returns-in-NoMemory-clause-notes
returns-in-NoMemory-clause-notes g c = λ tag seat game goes.
    let w = c.loop-line.invariant.walks tag seat game goes in
    walks-want g.D.Disk.told g.D.Disk.may_leave g.D.Disk.moment g.D.Disk.secured_since tag seat game c.args.disk.now c.loop-line.kept c.loop-line.disk c.loop-line.number
    c.loop-line.rest.now c.in-Some.line.now c.in-Some.others.now _ w c.in-Some.ensures
    c.keep_line.new.kept c.keep_line.new.disk (c.in-NoMemory.ensures.notes tag seat w.at w.goes)

pub returns-clause-notes : goal.returns-clause-notes
returns-clause-notes g c = λ tag seat game goes.
    walks-end g.D.Disk.told g.D.Disk.may_leave g.D.Disk.moment g.D.Disk.secured_since tag seat game c.args.disk.now c.loop-line.kept c.loop-line.disk c.loop-line.number c.loop-line.rest.now
    _ c.end_at.result (c.loop-line.invariant.walks tag seat game goes) c.in_default.ensures c.end_at.ensures
