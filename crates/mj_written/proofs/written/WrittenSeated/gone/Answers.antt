use Rattle.std.proofs.Common.{Some, None, ap, sym, ◌∙◌}
use Rattle.std.specs.Prelude.{if◌then◌else◌}
use Rattle.mj_ports.specs.declared.entry.Entry.TheVariants as entry
use Rattle.mj_journal.specs.Calls.{Leave}
use Rattle.mj_journal.specs.Playing.{play, is_by}
use Rattle.mj_journal.proofs.Enterings.{gone_enters, by_of}
use Rattle.mj_written.proofs.Writings.{goes_on_if, stops, lags, goes}
use Rattle.mj_written.proofs.written.WrittenSeated.gone.Goals as goal

pub invariant_of-self : goal.invariant_of-self
invariant_of-self g c =
    let s = g.G.Seated.setting c.self.inside.game in
    let game = play g.G.Seated.after g.G.Seated.sits g.G.Seated.hears g.G.Seated.expires g.G.Seated.reads g.G.Seated.joins s in
    let es = g.G.Seated.history c.self.inside.game in
    let going = goes_on_if c.self.inside.stop (sym c.is_some.ensures ∙ c.if-is_some.false) in
    let here = by_of (g.G.Seated.after s es) c.args.author c.args.seat c.requires.seat (rw (← c.self.view_is) at c.requires.present) in
    let one = entry.Gone c.args.author c.args.seat in
    let is = ap (λ b. if b then Some one else None) here in
    stops g.D.Disk.told g.D.Disk.may_leave g.D.Disk.moment g.D.Disk.left_since g.D.Disk.secured_since g.D.Disk.disk_faults game c.self.inside.tag.value.items _ es
    c.self.inside.opened.value c.self.inside.disk c.append_record.new.disk c.self.inside.end c.self.inside.stop going c.self.invariant
    (Leave c.args.author c.args.seat) (c.ranges.author.fits, c.requires.seat) _ c.in-Ok.ensures one is c.append_record.result
    c.append_record.ensures.any_moment c.append_record.ensures.faults (λ image later left. g.met.D.Disk.counts_now c.append_record.new.disk _ image later left)
    c.in_default-append_record.ensures.faults

pub invariant_of-self-in-Entered : goal.invariant_of-self-in-Entered
invariant_of-self-in-Entered g c =
    let s = g.G.Seated.setting c.self.inside.game in
    let game = play g.G.Seated.after g.G.Seated.sits g.G.Seated.hears g.G.Seated.expires g.G.Seated.reads g.G.Seated.joins s in
    let es = g.G.Seated.history c.self.inside.game in
    let going = goes_on_if c.self.inside.stop (sym c.is_some.ensures ∙ c.if-is_some.false) in
    let fs = g.G.Seated.history c.gone-left.new.self in
    let same = ap (λ x. play g.G.Seated.after g.G.Seated.sits g.G.Seated.hears g.G.Seated.expires g.G.Seated.reads g.G.Seated.joins x) c.gone-left.ensures.setting in
    let here = by_of (g.G.Seated.after s es) c.args.author c.args.seat c.requires.seat (rw (← c.self.view_is) at c.requires.present) in
    let one = entry.Gone c.args.author c.args.seat in
    let is = ap (λ b. if b then Some one else None) here in
    goes g.D.Disk.told g.D.Disk.may_leave g.D.Disk.moment g.D.Disk.left_since g.D.Disk.secured_since g.D.Disk.disk_faults game c.self.inside.tag.value.items _ es
    c.self.inside.opened.value c.self.inside.disk c.append_record.new.disk c.self.inside.end c.self.inside.stop going c.self.invariant
    (Leave c.args.author c.args.seat) (c.ranges.author.fits, c.requires.seat) _ c.in-Ok.ensures one is c.append_record.result
    c.append_record.ensures.any_moment c.append_record.ensures.faults (λ image later left. g.met.D.Disk.counts_now c.append_record.new.disk _ image later left)
    _ fs _ c.in-Some.place same (sym c.in-Entered.ensures)
    (gone_enters es fs c.gone-left.result c.args.author c.args.seat (is_by (g.G.Seated.after s es) c.args.author c.args.seat) here c.gone-left.ensures.entries)
    c.in-Some.ensures.rest c.in-Some.ensures.after c.in-Some.ensures.put

pub invariant_of-self-in-NoMemory : goal.invariant_of-self-in-NoMemory
invariant_of-self-in-NoMemory g c =
    let s = g.G.Seated.setting c.self.inside.game in
    let game = play g.G.Seated.after g.G.Seated.sits g.G.Seated.hears g.G.Seated.expires g.G.Seated.reads g.G.Seated.joins s in
    let es = g.G.Seated.history c.self.inside.game in
    let going = goes_on_if c.self.inside.stop (sym c.is_some.ensures ∙ c.if-is_some.false) in
    let fs = g.G.Seated.history c.gone-left.new.self in
    let same = ap (λ x. play g.G.Seated.after g.G.Seated.sits g.G.Seated.hears g.G.Seated.expires g.G.Seated.reads g.G.Seated.joins x) c.gone-left.ensures.setting in
    let here = by_of (g.G.Seated.after s es) c.args.author c.args.seat c.requires.seat (rw (← c.self.view_is) at c.requires.present) in
    let one = entry.Gone c.args.author c.args.seat in
    let is = ap (λ b. if b then Some one else None) here in
    lags g.D.Disk.told g.D.Disk.may_leave g.D.Disk.moment g.D.Disk.left_since g.D.Disk.secured_since g.D.Disk.disk_faults game c.self.inside.tag.value.items _ es
    c.self.inside.opened.value c.self.inside.disk c.append_record.new.disk c.self.inside.end c.self.inside.stop going c.self.invariant
    (Leave c.args.author c.args.seat) (c.ranges.author.fits, c.requires.seat) _ c.in-Ok.ensures one is c.append_record.result
    c.append_record.ensures.any_moment c.append_record.ensures.faults (λ image later left. g.met.D.Disk.counts_now c.append_record.new.disk _ image later left)
    _ fs _ same (sym c.in-NoMemory.ensures)
    (gone_enters es fs c.gone-left.result c.args.author c.args.seat (is_by (g.G.Seated.after s es) c.args.author c.args.seat) here c.gone-left.ensures.entries)
