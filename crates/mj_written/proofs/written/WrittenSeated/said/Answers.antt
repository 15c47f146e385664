use Rattle.std.proofs.Common.{None, ap, sym, ◌∙◌}
use Rattle.std.specs.Prelude.{if◌then◌else◌}
use Rattle.mj_ports.specs.declared.entry.Entry.TheVariants as entry
use Rattle.mj_journal.specs.Calls.{Say}
use Rattle.mj_journal.specs.Playing.{play, said, is_asked}
use Rattle.mj_journal.proofs.Enterings.{said_enters, asked_of}
use Rattle.mj_written.proofs.Writings.{goes_on_if, stops, lags, goes, said_some}
use Rattle.mj_written.proofs.written.WrittenSeated.said.Goals as goal

pub invariant_of-self : goal.invariant_of-self
invariant_of-self g c =
    let s = g.G.Seated.setting c.self.inside.game in
    let game = play g.G.Seated.after g.G.Seated.sits g.G.Seated.hears g.G.Seated.expires g.G.Seated.reads g.G.Seated.joins s in
    let es = g.G.Seated.history c.self.inside.game in
    let going = goes_on_if c.self.inside.stop (sym c.is_some.ensures ∙ c.if-is_some.false) in
    let answer = g.G.Seated.reads c.args.line.now in
    let right = g.G.Seated.hears s es c.args.author c.args.seat answer in
    let present = rw (← c.self.view_is) at c.requires.present in
    let due = rw (← c.self.view_is) at c.requires.due in
    let asked = asked_of (g.G.Seated.after s es) c.args.author c.args.seat c.requires.seat present due in
    let never = g.met.G.Foreseen.is_heard s es c.args.author c.args.seat answer present in
    let is = ap (λ b. if b then said right c.args.author c.args.seat answer else None) asked ∙ said_some right c.args.author c.args.seat answer never in
    stops g.D.Disk.told g.D.Disk.may_leave g.D.Disk.moment g.D.Disk.left_since g.D.Disk.secured_since g.D.Disk.disk_faults game c.self.inside.tag.value.items _ es
    c.self.inside.opened.value c.self.inside.disk c.append_record.new.disk c.self.inside.end c.self.inside.stop going c.self.invariant
    (Say c.args.author c.args.seat c.args.line.now) (c.ranges.author.fits, c.requires.seat, c.is_line.ensures.0 c.if-not-is_line.false) _ c.in-Ok.ensures
    (entry.Said c.args.author c.args.seat answer) is c.append_record.result
    c.append_record.ensures.any_moment c.append_record.ensures.faults (λ image later left. g.met.D.Disk.counts_now c.append_record.new.disk _ image later left)
    c.in_default-append_record.ensures.faults

pub invariant_of-self-in-Entered : goal.invariant_of-self-in-Entered
invariant_of-self-in-Entered g c =
    let s = g.G.Seated.setting c.self.inside.game in
    let game = play g.G.Seated.after g.G.Seated.sits g.G.Seated.hears g.G.Seated.expires g.G.Seated.reads g.G.Seated.joins s in
    let es = g.G.Seated.history c.self.inside.game in
    let going = goes_on_if c.self.inside.stop (sym c.is_some.ensures ∙ c.if-is_some.false) in
    let fs = g.G.Seated.history c.said-heard.new.self in
    let same = ap (λ x. play g.G.Seated.after g.G.Seated.sits g.G.Seated.hears g.G.Seated.expires g.G.Seated.reads g.G.Seated.joins x) c.said-heard.ensures.setting in
    let answer = g.G.Seated.reads c.args.line.now in
    let right = g.G.Seated.hears s es c.args.author c.args.seat answer in
    let present = rw (← c.self.view_is) at c.requires.present in
    let due = rw (← c.self.view_is) at c.requires.due in
    let asked = asked_of (g.G.Seated.after s es) c.args.author c.args.seat c.requires.seat present due in
    let never = g.met.G.Foreseen.is_heard s es c.args.author c.args.seat answer present in
    let is = ap (λ b. if b then said right c.args.author c.args.seat answer else None) asked ∙ said_some right c.args.author c.args.seat answer never in
    goes g.D.Disk.told g.D.Disk.may_leave g.D.Disk.moment g.D.Disk.left_since g.D.Disk.secured_since g.D.Disk.disk_faults game c.self.inside.tag.value.items _ es
    c.self.inside.opened.value c.self.inside.disk c.append_record.new.disk c.self.inside.end c.self.inside.stop going c.self.invariant
    (Say c.args.author c.args.seat c.args.line.now) (c.ranges.author.fits, c.requires.seat, c.is_line.ensures.0 c.if-not-is_line.false) _ c.in-Ok.ensures
    (entry.Said c.args.author c.args.seat answer) is c.append_record.result
    c.append_record.ensures.any_moment c.append_record.ensures.faults (λ image later left. g.met.D.Disk.counts_now c.append_record.new.disk _ image later left)
    _ fs _ c.in-Some.place same (sym c.in-Entered.ensures)
    (said_enters es fs c.said-heard.result right c.args.author c.args.seat answer (is_asked (g.G.Seated.after s es) c.args.author c.args.seat) asked c.said-heard.ensures.entries)
    c.in-Some.ensures.rest c.in-Some.ensures.after c.in-Some.ensures.put

pub invariant_of-self-in-NoMemory : goal.invariant_of-self-in-NoMemory
invariant_of-self-in-NoMemory g c =
    let s = g.G.Seated.setting c.self.inside.game in
    let game = play g.G.Seated.after g.G.Seated.sits g.G.Seated.hears g.G.Seated.expires g.G.Seated.reads g.G.Seated.joins s in
    let es = g.G.Seated.history c.self.inside.game in
    let going = goes_on_if c.self.inside.stop (sym c.is_some.ensures ∙ c.if-is_some.false) in
    let fs = g.G.Seated.history c.said-heard.new.self in
    let same = ap (λ x. play g.G.Seated.after g.G.Seated.sits g.G.Seated.hears g.G.Seated.expires g.G.Seated.reads g.G.Seated.joins x) c.said-heard.ensures.setting in
    let answer = g.G.Seated.reads c.args.line.now in
    let right = g.G.Seated.hears s es c.args.author c.args.seat answer in
    let present = rw (← c.self.view_is) at c.requires.present in
    let due = rw (← c.self.view_is) at c.requires.due in
    let asked = asked_of (g.G.Seated.after s es) c.args.author c.args.seat c.requires.seat present due in
    let never = g.met.G.Foreseen.is_heard s es c.args.author c.args.seat answer present in
    let is = ap (λ b. if b then said right c.args.author c.args.seat answer else None) asked ∙ said_some right c.args.author c.args.seat answer never in
    lags g.D.Disk.told g.D.Disk.may_leave g.D.Disk.moment g.D.Disk.left_since g.D.Disk.secured_since g.D.Disk.disk_faults game c.self.inside.tag.value.items _ es
    c.self.inside.opened.value c.self.inside.disk c.append_record.new.disk c.self.inside.end c.self.inside.stop going c.self.invariant
    (Say c.args.author c.args.seat c.args.line.now) (c.ranges.author.fits, c.requires.seat, c.is_line.ensures.0 c.if-not-is_line.false) _ c.in-Ok.ensures
    (entry.Said c.args.author c.args.seat answer) is c.append_record.result
    c.append_record.ensures.any_moment c.append_record.ensures.faults (λ image later left. g.met.D.Disk.counts_now c.append_record.new.disk _ image later left)
    _ fs _ same (sym c.in-NoMemory.ensures)
    (said_enters es fs c.said-heard.result right c.args.author c.args.seat answer (is_asked (g.G.Seated.after s es) c.args.author c.args.seat) asked c.said-heard.ensures.entries)
