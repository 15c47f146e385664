use Rattle.std.proofs.Common.{List, ap, sym, arith, ◌∙◌}
use Rattle.mj_ports.specs.declared.entry.Entry.{Entry}
use Rattle.mj_journal.specs.Openings.{Open}
use Rattle.mj_journal.specs.Playing.{play, taken}
use Rattle.mj_journal.specs.Replays.{entries_at}
use Rattle.mj_journal.proofs.Looks.{looks_on}
use Rattle.mj_journal.proofs.replaying.replay.Goals as goal

pub loop-next-preserved : goal.loop-next-preserved
loop-next-preserved g c =
    let before = c.loop-next.invariant in record {
      setting = c.replay_one.ensures.setting ∙ before.setting;
      entries = λ bytes is. before.entries bytes is ∙ (c.in-Next.ensures.entries bytes (before.looks.reads ∙ is)
          ∙ ap (λ s. entries_at (taken (play g.G.Entering.after g.G.Entering.sits g.G.Entering.hears g.G.Entering.expires g.G.Entering.reads g.G.Entering.joins s))
          (g.G.Entering.history c.replay_one.new.game) c.in-Next.next bytes)
          (sym c.replay_one.ensures.setting));
      within = c.in-Next.ensures.on.1;
      looks = looks_on g.D.Disk.told g.D.Disk.may_leave g.D.Disk.moment g.D.Disk.left_since g.D.Disk.secured_since c.args.disk.now c.loop-next.disk c.replay_one.new.disk before.looks
          c.replay_one.ensures.looks;
      faults = omega (arith, before.faults, c.in-Next.ensures.faults);
    }

pub returns-in-End-clause-entries : goal.returns-in-End-clause-entries
returns-in-End-clause-entries g c bytes is =
    let before = c.loop-next.invariant in
    let ends = c.in-End.ensures.entries bytes (before.looks.reads ∙ is) in
    before.entries bytes is ∙ (ends.0 ∙ ap (λ (es : List (Entry g.row.G-Answer.Denot)). Open es c.loop-next.place) (sym ends.1))

pub returns-in-Torn-clause-entries : goal.returns-in-Torn-clause-entries
returns-in-Torn-clause-entries g c bytes is =
    let before = c.loop-next.invariant in
    before.entries bytes is ∙ c.in-Torn.ensures.entries bytes (before.looks.reads ∙ is)

pub returns-in-End-clause-looks : goal.returns-in-End-clause-looks
returns-in-End-clause-looks g c =
    looks_on g.D.Disk.told g.D.Disk.may_leave g.D.Disk.moment g.D.Disk.left_since g.D.Disk.secured_since c.args.disk.now c.loop-next.disk c.replay_one.new.disk
    c.loop-next.invariant.looks c.replay_one.ensures.looks

pub returns-in-Torn-clause-looks : goal.returns-in-Torn-clause-looks
returns-in-Torn-clause-looks g c =
    looks_on g.D.Disk.told g.D.Disk.may_leave g.D.Disk.moment g.D.Disk.left_since g.D.Disk.secured_since c.args.disk.now c.loop-next.disk c.replay_one.new.disk
    c.loop-next.invariant.looks c.replay_one.ensures.looks

pub returns-in-Failed-clause-looks : goal.returns-in-Failed-clause-looks
returns-in-Failed-clause-looks g c =
    looks_on g.D.Disk.told g.D.Disk.may_leave g.D.Disk.moment g.D.Disk.left_since g.D.Disk.secured_since c.args.disk.now c.loop-next.disk c.replay_one.new.disk
    c.loop-next.invariant.looks c.replay_one.ensures.looks

pub returns-in-NoMemory-clause-looks : goal.returns-in-NoMemory-clause-looks
returns-in-NoMemory-clause-looks g c =
    looks_on g.D.Disk.told g.D.Disk.may_leave g.D.Disk.moment g.D.Disk.left_since g.D.Disk.secured_since c.args.disk.now c.loop-next.disk c.replay_one.new.disk
    c.loop-next.invariant.looks c.replay_one.ensures.looks
