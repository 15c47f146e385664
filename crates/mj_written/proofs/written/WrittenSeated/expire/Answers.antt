use Rattle.std.proofs.Common.{ap, sym, ◌∙◌}
use Rattle.mj_ports.specs.declared.entry.Entry.TheVariants as entry
use Rattle.mj_journal.specs.Calls.{Expire}
use Rattle.mj_journal.specs.Playing.{play, expired}
use Rattle.mj_journal.proofs.Enterings.{expiry_enters}
use Rattle.mj_written.proofs.Writings.{goes_on_if, stops, lags, goes}
use Rattle.mj_written.proofs.written.WrittenSeated.expire.Goals as goal

pub invariant_of-self : goal.invariant_of-self
invariant_of-self g c =
    let s = g.G.Seated.setting c.self.inside.game in
    let game = play g.G.Seated.after g.G.Seated.sits g.G.Seated.hears g.G.Seated.expires g.G.Seated.reads g.G.Seated.joins s in
    let es = g.G.Seated.history c.self.inside.game in
    let going = goes_on_if c.self.inside.stop (sym c.is_some.ensures ∙ c.if-is_some.false) in
    let right = g.G.Seated.expires s es c.args.window c.args.t1 c.args.t2 in
    let one = entry.Expired c.args.author c.args.window c.args.t1 c.args.t2 in
    let is = ap (λ r. expired r c.args.author c.args.window c.args.t1 c.args.t2) (sym c.would_expire.ensures ∙ c.in-Closed.is) in
    stops g.D.Disk.told g.D.Disk.may_leave g.D.Disk.moment g.D.Disk.left_since g.D.Disk.secured_since g.D.Disk.disk_faults game c.self.inside.tag.value.items _ es
    c.self.inside.opened.value c.self.inside.disk c.append_record.new.disk c.self.inside.end c.self.inside.stop going c.self.invariant
    (Expire c.args.author c.args.window c.args.t1 c.args.t2) (c.ranges.author.fits, c.ranges.window.fits, c.ranges.t1.fits, c.ranges.t2.fits) _ c.in-Ok.ensures one is c.append_record.result
    c.append_record.ensures.any_moment c.append_record.ensures.faults (λ image later left. g.met.D.Disk.counts_now c.append_record.new.disk _ image later left)
    c.in_default-append_record.ensures.faults

pub invariant_of-self-in-Entered : goal.invariant_of-self-in-Entered
invariant_of-self-in-Entered g c =
    let s = g.G.Seated.setting c.self.inside.game in
    let game = play g.G.Seated.after g.G.Seated.sits g.G.Seated.hears g.G.Seated.expires g.G.Seated.reads g.G.Seated.joins s in
    let es = g.G.Seated.history c.self.inside.game in
    let going = goes_on_if c.self.inside.stop (sym c.is_some.ensures ∙ c.if-is_some.false) in
    let fs = g.G.Seated.history c.expire-expiry.new.self in
    let same = ap (λ x. play g.G.Seated.after g.G.Seated.sits g.G.Seated.hears g.G.Seated.expires g.G.Seated.reads g.G.Seated.joins x) c.expire-expiry.ensures.setting in
    let right = g.G.Seated.expires s es c.args.window c.args.t1 c.args.t2 in
    let one = entry.Expired c.args.author c.args.window c.args.t1 c.args.t2 in
    let is = ap (λ r. expired r c.args.author c.args.window c.args.t1 c.args.t2) (sym c.would_expire.ensures ∙ c.in-Closed.is) in
    goes g.D.Disk.told g.D.Disk.may_leave g.D.Disk.moment g.D.Disk.left_since g.D.Disk.secured_since g.D.Disk.disk_faults game c.self.inside.tag.value.items _ es
    c.self.inside.opened.value c.self.inside.disk c.append_record.new.disk c.self.inside.end c.self.inside.stop going c.self.invariant
    (Expire c.args.author c.args.window c.args.t1 c.args.t2) (c.ranges.author.fits, c.ranges.window.fits, c.ranges.t1.fits, c.ranges.t2.fits) _ c.in-Ok.ensures one is c.append_record.result
    c.append_record.ensures.any_moment c.append_record.ensures.faults (λ image later left. g.met.D.Disk.counts_now c.append_record.new.disk _ image later left)
    _ fs _ c.in-Some.place same (sym c.in-Entered.ensures)
    (expiry_enters es fs c.expire-expiry.result right c.args.author c.args.window c.args.t1 c.args.t2 c.expire-expiry.ensures.entries)
    c.in-Some.ensures.rest c.in-Some.ensures.after c.in-Some.ensures.put

pub invariant_of-self-in-NoMemory-expiry_outcome : goal.invariant_of-self-in-NoMemory-expiry_outcome
invariant_of-self-in-NoMemory-expiry_outcome g c =
    let s = g.G.Seated.setting c.self.inside.game in
    let game = play g.G.Seated.after g.G.Seated.sits g.G.Seated.hears g.G.Seated.expires g.G.Seated.reads g.G.Seated.joins s in
    let es = g.G.Seated.history c.self.inside.game in
    let going = goes_on_if c.self.inside.stop (sym c.is_some.ensures ∙ c.if-is_some.false) in
    let fs = g.G.Seated.history c.expire-expiry.new.self in
    let same = ap (λ x. play g.G.Seated.after g.G.Seated.sits g.G.Seated.hears g.G.Seated.expires g.G.Seated.reads g.G.Seated.joins x) c.expire-expiry.ensures.setting in
    let right = g.G.Seated.expires s es c.args.window c.args.t1 c.args.t2 in
    let one = entry.Expired c.args.author c.args.window c.args.t1 c.args.t2 in
    let is = ap (λ r. expired r c.args.author c.args.window c.args.t1 c.args.t2) (sym c.would_expire.ensures ∙ c.in-Closed.is) in
    lags g.D.Disk.told g.D.Disk.may_leave g.D.Disk.moment g.D.Disk.left_since g.D.Disk.secured_since g.D.Disk.disk_faults game c.self.inside.tag.value.items _ es
    c.self.inside.opened.value c.self.inside.disk c.append_record.new.disk c.self.inside.end c.self.inside.stop going c.self.invariant
    (Expire c.args.author c.args.window c.args.t1 c.args.t2) (c.ranges.author.fits, c.ranges.window.fits, c.ranges.t1.fits, c.ranges.t2.fits) _ c.in-Ok.ensures one is c.append_record.result
    c.append_record.ensures.any_moment c.append_record.ensures.faults (λ image later left. g.met.D.Disk.counts_now c.append_record.new.disk _ image later left)
    _ fs _ same (sym c.in-NoMemory-expiry_outcome.ensures)
    (expiry_enters es fs c.expire-expiry.result right c.args.author c.args.window c.args.t1 c.args.t2 c.expire-expiry.ensures.entries)
