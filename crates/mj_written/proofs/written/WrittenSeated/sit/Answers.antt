use Rattle.std.proofs.Common.{ap, sym, ◌∙◌}
use Rattle.mj_journal.specs.Calls.{Sit}
use Rattle.mj_journal.specs.Playing.{play}
use Rattle.mj_journal.proofs.Enterings.{sit_enters}
use Rattle.mj_written.proofs.Writings.{goes_on_if, stops, lags, goes, seat_some}
use Rattle.mj_written.proofs.written.WrittenSeated.sit.Goals as goal

pub invariant_of-self : goal.invariant_of-self
invariant_of-self g c =
    let s = g.G.Seated.setting c.self.inside.game in
    let game = play g.G.Seated.after g.G.Seated.sits g.G.Seated.hears g.G.Seated.expires g.G.Seated.reads g.G.Seated.joins s in
    let es = g.G.Seated.history c.self.inside.game in
    let going = goes_on_if c.self.inside.stop (sym c.is_some.ensures ∙ c.if-is_some.false) in
    let right = g.G.Seated.sits s es c.args.line.now in
    let joins = g.G.Seated.joins c.args.line.now in
    let gives = sym c.gives_seat.ensures ∙ c.if-not-gives_seat.false in
    let one = seat_some {A = g.row.G-Answer.Denot} c.would_sit-would.result right c.args.author joins c.would_sit-would.ensures gives in
    stops g.D.Disk.told g.D.Disk.may_leave g.D.Disk.moment g.D.Disk.left_since g.D.Disk.secured_since g.D.Disk.disk_faults game c.self.inside.tag.value.items _ es
    c.self.inside.opened.value c.self.inside.disk c.append_record.new.disk c.self.inside.end c.self.inside.stop going c.self.invariant
    (Sit c.args.author c.args.line.now) (c.ranges.author.fits, c.is_line.ensures.0 c.if-not-is_line.false) _ c.in-Ok.ensures one.0 one.1 c.append_record.result
    c.append_record.ensures.any_moment c.append_record.ensures.faults (λ image later left. g.met.D.Disk.counts_now c.append_record.new.disk _ image later left)
    c.in_default-append_record.ensures.faults

pub invariant_of-self-in-Entered : goal.invariant_of-self-in-Entered
invariant_of-self-in-Entered g c =
    let s = g.G.Seated.setting c.self.inside.game in
    let game = play g.G.Seated.after g.G.Seated.sits g.G.Seated.hears g.G.Seated.expires g.G.Seated.reads g.G.Seated.joins s in
    let es = g.G.Seated.history c.self.inside.game in
    let going = goes_on_if c.self.inside.stop (sym c.is_some.ensures ∙ c.if-is_some.false) in
    let fs = g.G.Seated.history c.sit-answer.new.self in
    let same = ap (λ x. play g.G.Seated.after g.G.Seated.sits g.G.Seated.hears g.G.Seated.expires g.G.Seated.reads g.G.Seated.joins x) c.sit-answer.ensures.setting in
    let right = g.G.Seated.sits s es c.args.line.now in
    let joins = g.G.Seated.joins c.args.line.now in
    let gives = sym c.gives_seat.ensures ∙ c.if-not-gives_seat.false in
    let one = seat_some {A = g.row.G-Answer.Denot} c.would_sit-would.result right c.args.author joins c.would_sit-would.ensures gives in
    goes g.D.Disk.told g.D.Disk.may_leave g.D.Disk.moment g.D.Disk.left_since g.D.Disk.secured_since g.D.Disk.disk_faults game c.self.inside.tag.value.items _ es
    c.self.inside.opened.value c.self.inside.disk c.append_record.new.disk c.self.inside.end c.self.inside.stop going c.self.invariant
    (Sit c.args.author c.args.line.now) (c.ranges.author.fits, c.is_line.ensures.0 c.if-not-is_line.false) _ c.in-Ok.ensures one.0 one.1 c.append_record.result
    c.append_record.ensures.any_moment c.append_record.ensures.faults (λ image later left. g.met.D.Disk.counts_now c.append_record.new.disk _ image later left)
    _ fs _ c.in-Some.place same (sym c.in-Entered.ensures)
    (sit_enters es fs c.sit-answer.result right c.args.author joins c.sit-answer.ensures.entries)
    c.in-Some.ensures.rest c.in-Some.ensures.after c.in-Some.ensures.put

pub invariant_of-self-in-NoMemory : goal.invariant_of-self-in-NoMemory
invariant_of-self-in-NoMemory g c =
    let s = g.G.Seated.setting c.self.inside.game in
    let game = play g.G.Seated.after g.G.Seated.sits g.G.Seated.hears g.G.Seated.expires g.G.Seated.reads g.G.Seated.joins s in
    let es = g.G.Seated.history c.self.inside.game in
    let going = goes_on_if c.self.inside.stop (sym c.is_some.ensures ∙ c.if-is_some.false) in
    let fs = g.G.Seated.history c.sit-answer.new.self in
    let same = ap (λ x. play g.G.Seated.after g.G.Seated.sits g.G.Seated.hears g.G.Seated.expires g.G.Seated.reads g.G.Seated.joins x) c.sit-answer.ensures.setting in
    let right = g.G.Seated.sits s es c.args.line.now in
    let joins = g.G.Seated.joins c.args.line.now in
    let gives = sym c.gives_seat.ensures ∙ c.if-not-gives_seat.false in
    let one = seat_some {A = g.row.G-Answer.Denot} c.would_sit-would.result right c.args.author joins c.would_sit-would.ensures gives in
    lags g.D.Disk.told g.D.Disk.may_leave g.D.Disk.moment g.D.Disk.left_since g.D.Disk.secured_since g.D.Disk.disk_faults game c.self.inside.tag.value.items _ es
    c.self.inside.opened.value c.self.inside.disk c.append_record.new.disk c.self.inside.end c.self.inside.stop going c.self.invariant
    (Sit c.args.author c.args.line.now) (c.ranges.author.fits, c.is_line.ensures.0 c.if-not-is_line.false) _ c.in-Ok.ensures one.0 one.1 c.append_record.result
    c.append_record.ensures.any_moment c.append_record.ensures.faults (λ image later left. g.met.D.Disk.counts_now c.append_record.new.disk _ image later left)
    _ fs _ same (sym c.in-NoMemory.ensures)
    (sit_enters es fs c.sit-answer.result right c.args.author joins c.sit-answer.ensures.entries)
