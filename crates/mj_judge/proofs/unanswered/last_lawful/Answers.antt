use Rattle.std.proofs.Common.{sym, ◌∙◌}
use Rattle.std.specs.Prelude.{is_none}
use Rattle.mj_rules.specs.Broken.{broken_by}
use Rattle.mj_rules.specs.View.{view_of}
use Rattle.mj_rules.specs.Default.{discard_of, lawful_faces}
use Rattle.mj_judge.proofs.Places.{last_passes, last_stays, all_seen}
use Rattle.mj_judge.proofs.unanswered.last_lawful.Goals as goal
use Rattle.mj_judge.proofs.unanswered.last_lawful.Goals.{then-is_lawful_discard, else-is_lawful_discard}

pub loop-place-preserved : goal.loop-place-preserved
loop-place-preserved c = elim c.if-is_lawful_discard.branch [
  | then-is_lawful_discard w ↦
      w.last-is ∙ last_passes (λ face. is_none (broken_by c.args.table.now.rules c.args.seat (view_of c.args.table.now.deeds c.args.seat)
      (discard_of c.args.seat (view_of c.args.table.now.deeds c.args.seat) face)))
      c.loop-place.place c.ordered-tile.result c.loop-place-test.true c.ordered-tile.ensures (sym c.is_lawful_discard.ensures ∙ w.if-is_lawful_discard.true)
  | else-is_lawful_discard w ↦
      w.last-is ∙ c.loop-place.invariant ∙ last_stays
      (λ face. is_none (broken_by c.args.table.now.rules c.args.seat (view_of c.args.table.now.deeds c.args.seat)
      (discard_of c.args.seat (view_of c.args.table.now.deeds c.args.seat) face)))
      c.loop-place.place c.ordered-tile.result c.loop-place-test.true c.ordered-tile.ensures (sym c.is_lawful_discard.ensures ∙ w.if-is_lawful_discard.false)
]

pub returns : goal.returns
unfolding lawful_faces
returns c =
    c.loop-place.invariant ∙ all_seen (λ face. is_none (broken_by c.args.table.now.rules c.args.seat (view_of c.args.table.now.deeds c.args.seat)
    (discard_of c.args.seat (view_of c.args.table.now.deeds c.args.seat) face)))
    c.loop-place.place c.loop-place-test.false
