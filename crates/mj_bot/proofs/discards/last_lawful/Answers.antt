use Rattle.std.proofs.Common.{◌&&◌, ℕ, Bool, sym, ap, ◌∙◌}
use Rattle.mj_tiles.specs.Faces.{tile_order}
use Rattle.mj_rules.specs.View.{view_of}
use Rattle.mj_rules.specs.Default.{lawful_faces, last_face}
use Rattle.mj_judge.proofs.Places.{last_passes, last_stays, all_seen}
use Rattle.mj_bot.specs.Inner.Turns.{is_among}
use Rattle.mj_bot.proofs.Lawful.{passes, both_filters}
use Rattle.mj_bot.proofs.discards.last_lawful.Goals as goal
use Rattle.mj_bot.proofs.discards.last_lawful.Goals.{then-is_wanted, else-is_wanted}

pub loop-place-preserved : goal.loop-place-preserved
loop-place-preserved c =
    let p : ℕ → Bool = λ face. is_among c.args.kinds face && passes c.args.table.now.rules c.args.seat (view_of c.args.table.now.deeds c.args.seat) face in
    elim c.if-is_wanted.branch [
      | then-is_wanted w ↦ w.last-is ∙ last_passes p c.loop-place.place c.ordered-tile.result c.loop-place-test.true c.ordered-tile.ensures (sym c.is_wanted.ensures ∙ w.if-is_wanted.true)
      | else-is_wanted w ↦ w.last-is ∙ c.loop-place.invariant ∙ last_stays p c.loop-place.place c.ordered-tile.result c.loop-place-test.true
          c.ordered-tile.ensures (sym c.is_wanted.ensures ∙ w.if-is_wanted.false)
    ]

pub returns : goal.returns
unfolding lawful_faces
returns c =
    let p : ℕ → Bool = passes c.args.table.now.rules c.args.seat (view_of c.args.table.now.deeds c.args.seat) in
    c.loop-place.invariant ∙ all_seen (λ face. is_among c.args.kinds face && p face) c.loop-place.place c.loop-place-test.false ∙ ap last_face (both_filters p (is_among c.args.kinds) tile_order)
