use Rattle.std.proofs.Common.{◌≡◌, ℕ, true, false, cond, [], ◌∷◌, ◌++◌, rules, refl, sym, ap, ◌∙◌}
use Rattle.std.specs.Prelude.{Option}
use Rattle.mj_rules.specs.Broken.{is_that, is_no_tile}
use Rattle.mj_deeds.specs.Facts.{tiles_gained, tiles_lost}
use Rattle.mj_deeds.specs.Hand.{hand}
use Rattle.mj_rules.specs.View.{view_of}
use Rattle.mj_tiles.specs.Faces.{number_in}
use Rattle.mj_rules.specs.Possible.{discards_of}
use Rattle.mj_wall.specs.declared.setting.Rules.{Rules}
use Rattle.mj_deeds.specs.declared.answer.Pai.TheVariants.{Known}
use Rattle.mj_judge.proofs.Tried.{none_held, none_added, no_discards_of}
use Rattle.mj_judge.proofs.Drawn.{no_such_discards, added_where, left_where, drawn_pushed}
use Rattle.mj_deeds.specs.declared.answer.Answer.TheVariants.{Discard}
use Rattle.mj_judge.proofs.drawing.push_drawn_discards_of.Goals as goal
use Rattle.mj_judge.proofs.drawing.push_drawn_discards_of.Goals.{then-may_be_unmarked+in_ok-push, else-may_be_unmarked}

pub returns-then-held-eq0 : goal.returns-then-held-eq0
unfolding view_of
returns-then-held-eq0 c =
    let none = none_held (number_in (tiles_gained (hand c.args.table.now.deeds) c.args.seat) c.args.tile)
    (number_in (tiles_lost (hand c.args.table.now.deeds) c.args.seat) c.args.tile) c.held_count-held.result c.held_count-held.ensures
    c.if-held-eq0.true in
    none_added c.args.table.now.rules c.args.table.now.deeds c.args.seat (discards_of c.args.seat c.args.tile) _
    (no_discards_of c.args.table.now.rules c.args.table.now.deeds c.args.seat c.args.tile none)

pub returns-then-is_no_tile : goal.returns-then-is_no_tile
returns-then-is_no_tile c =
    none_added c.args.table.now.rules c.args.table.now.deeds c.args.seat (discards_of c.args.seat c.args.tile) _
    (no_such_discards c.args.table.now.rules c.args.table.now.deeds c.args.seat c.args.tile (search rules))

pub returns-in_ok-push-2 : goal.returns-in_ok-push-2
unfolding view_of
returns-in_ok-push-2 c =
    let first : c.if-may_be_unmarked.items.items ≡ c.args.items.now.items ++ cond c.may_be_unmarked.result (Discard c.args.seat (Known c.args.tile) false ∷ []) [] =
    elim c.if-may_be_unmarked.branch [
      | then-may_be_unmarked+in_ok-push w ↦
          added_where c.may_be_unmarked.result (Discard c.args.seat (Known c.args.tile) false) c.args.items.now.items c.if-may_be_unmarked.items.items w.if-may_be_unmarked.true
          (cc (w.items-is, w.in_ok-push.ensures.items, w.discard.ensures))
      | else-may_be_unmarked w ↦ left_where c.may_be_unmarked.result (Discard c.args.seat (Known c.args.tile) false) c.args.items.now.items
          c.if-may_be_unmarked.items.items w.if-may_be_unmarked.false (cc w.items-is)
    ] in
    drawn_pushed c.args.table.now.rules c.args.table.now.deeds c.args.seat c.args.tile c.held_count-held.result c.is_that-is_drawn.result c.args.locked c.may_be_unmarked.result _ _ _ c.requires.draws
    c.held_count-held.ensures c.if-held-eq0.false (ap (λ (r : Rules). is_no_tile r.red (Known c.args.tile)) (sym c.rules.ensures) ∙ sym c.is_no_tile.ensures ∙ c.if-is_no_tile.false)
    (c.is_that-is_drawn.ensures ∙ ap (λ (o : Option ℕ). is_that o c.args.tile) c.requires.drawn) c.requires.locked c.may_be_unmarked.ensures first
    (added_where c.is_that-is_drawn.result (Discard c.args.seat (Known c.args.tile) true) c.if-may_be_unmarked.items.items _ c.if-is_drawn.true
    (cc (c.in_ok-push-2.ensures.items, c.discard-then-is_drawn.ensures)))

pub returns-else-is_drawn : goal.returns-else-is_drawn
unfolding view_of
returns-else-is_drawn c =
    let first : c.if-may_be_unmarked.items.items ≡ c.args.items.now.items ++ cond c.may_be_unmarked.result (Discard c.args.seat (Known c.args.tile) false ∷ []) [] =
    elim c.if-may_be_unmarked.branch [
      | then-may_be_unmarked+in_ok-push w ↦
          added_where c.may_be_unmarked.result (Discard c.args.seat (Known c.args.tile) false) c.args.items.now.items c.if-may_be_unmarked.items.items w.if-may_be_unmarked.true
          (cc (w.items-is, w.in_ok-push.ensures.items, w.discard.ensures))
      | else-may_be_unmarked w ↦ left_where c.may_be_unmarked.result (Discard c.args.seat (Known c.args.tile) false) c.args.items.now.items
          c.if-may_be_unmarked.items.items w.if-may_be_unmarked.false (cc w.items-is)
    ] in
    drawn_pushed c.args.table.now.rules c.args.table.now.deeds c.args.seat c.args.tile c.held_count-held.result c.is_that-is_drawn.result c.args.locked c.may_be_unmarked.result _ _ _ c.requires.draws
    c.held_count-held.ensures c.if-held-eq0.false (ap (λ (r : Rules). is_no_tile r.red (Known c.args.tile)) (sym c.rules.ensures) ∙ sym c.is_no_tile.ensures ∙ c.if-is_no_tile.false)
    (c.is_that-is_drawn.ensures ∙ ap (λ (o : Option ℕ). is_that o c.args.tile) c.requires.drawn) c.requires.locked c.may_be_unmarked.ensures first
    (left_where c.is_that-is_drawn.result (Discard c.args.seat (Known c.args.tile) true) c.if-may_be_unmarked.items.items _ c.if-is_drawn.false refl)
