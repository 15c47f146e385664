use Rattle.std.proofs.Common.{◌<◌, ℕ, subst, ◌∙◌, sym, ap}
use Rattle.std.specs.Prelude.{All}
use Rattle.mj_ports.specs.Entries.{author_of}
use Rattle.mj_journal.specs.Keeping.{TellsGame}
use Rattle.mj_journal.specs.Playing.{play, opens}
use Rattle.mj_written.specs.Authors.{are_below}
use Rattle.mj_written.proofs.Authoring.{all_below, other_if}
use Rattle.mj_written.proofs.Writings.{written_new}
use Rattle.mj_written.proofs.written.Written.open.Goals as goal

pub invariant_of-result : goal.invariant_of-result
invariant_of-result g c =
    let signed = c.open_entries.new.game in
    let game = play g.G.Seated.after g.G.Seated.sits g.G.Seated.hears g.G.Seated.expires g.G.Seated.reads g.G.Seated.joins (g.G.Seated.setting signed.game) in
    let es = g.G.Seated.history signed.game in
    let stays = ap (λ (p : g.row.G-Setting.Denot × ℕ). p.0) c.open_entries.ensures.setting in
    let tells = subst (λ x. TellsGame (opens (play g.G.Seated.after g.G.Seated.sits g.G.Seated.hears g.G.Seated.expires g.G.Seated.reads g.G.Seated.joins x) c.as_slice.result.now)
    (g.D.Disk.told c.open_entries.new.disk) es c.in-Ok.end) (sym stays) c.in-Ok.ensures.tells in
    rw (c.of-began.ensures, c.of-opened.ensures, c.of-tag.ensures, ← c.as_slice.ensures.value, c.into_parts-game.ensures.game)
    (written_new g.D.Disk.told g.D.Disk.may_leave g.D.Disk.moment g.D.Disk.left_since g.D.Disk.secured_since g.D.Disk.disk_faults game c.as_slice.result.now es c.open_entries.new.disk
    c.in-Ok.end (g.met.D.Disk.only_now c.open_entries.new.disk) (g.met.D.Disk.none_secured c.open_entries.new.disk) c.in-Ok.ensures.rest tells)

pub returns-else-not-below-clause-authors : goal.returns-else-not-below-clause-authors
returns-else-not-below-clause-authors g c =
    let signed = c.open_entries.new.game in
    let bound = ap (λ (p : g.row.G-Setting.Denot × ℕ). p.1) c.open_entries.ensures.setting ∙ c.new-signed.ensures.authors in
    let es = g.G.Seated.history signed.game in
    let all = all_below c.args.authors es (ap (λ (n : ℕ). are_below n es) (sym bound) ∙ sym c.into_parts-game.ensures.below ∙ c.if-not-below.false) in
    subst (λ x. All (λ e. author_of e < c.args.authors) (g.G.Seated.history x)) (sym c.into_parts-game.ensures.game) all

pub returns-then-not-below-clause-opened : goal.returns-then-not-below-clause-opened
returns-then-not-below-clause-opened g c bytes told =
    let signed = c.open_entries.new.game in
    let bound = ap (λ (p : g.row.G-Setting.Denot × ℕ). p.1) c.open_entries.ensures.setting ∙ c.new-signed.ensures.authors in
    let es = g.G.Seated.history signed.game in
    let opening = opens (play g.G.Seated.after g.G.Seated.sits g.G.Seated.hears g.G.Seated.expires g.G.Seated.reads g.G.Seated.joins (g.G.Seated.setting c.new-signed.result.game))
    c.as_slice.result.now bytes in
    rw (← c.as_slice.ensures.value, ← c.new-signed.ensures.game)
    (other_if opening es c.in-Ok.end c.args.authors (c.in-Ok.ensures.opened bytes told)
    (ap (λ (n : ℕ). are_below n es) (sym bound) ∙ sym c.into_parts-game.ensures.below ∙ c.if-not-below.true))
