use Rattle.std.proofs.Common.{ℕ, List, [], ◌++◌, cond, sym, ap, ◌∙◌}
use Rattle.std.specs.Prelude.{flat_map}
use Rattle.mj_deeds.specs.Facts.{adds_by}
use Rattle.mj_deeds.specs.Passed.{kinds_among, offers_to, offered_tiles}
use Rattle.mj_deeds.specs.Riichi.{is_reach_by, behind_first}
use Rattle.mj_deeds.proofs.RiichiLaws.{passed_in_riichi-more}
use Rattle.mj_facts.proofs.SeatsKept.{since_more, few_added, fewer_added, added_more, won_with}
use Rattle.mj_facts.proofs.SeatTurns.{marks_other, own_other, offers_other, passed_other}
use Rattle.mj_facts.proofs.seat_facts.keep.Goals as goal

pub returns : goal.returns
returns c before none few k = record {
  own = own_other before c.args.deed.now c.args.seat c.args.facts.now.own none k.own;
  offered =
      offers_other before c.args.deed.now c.args.seat _ c.offered_by.result none (c.offered_by.ensures none) (c.with_tile-facts.ensures (offered_tiles before c.args.seat) k.offered);
  passed = passed_other before c.args.deed.now c.args.seat c.args.facts.now.offered none k.offered;
  offered_in_riichi =
      since_more before c.args.deed.now c.args.seat _ c.args.facts.now.marks.reached k.marks.reached
      (c.since_reach-facts.ensures (flat_map (offers_to c.args.seat) (behind_first (is_reach_by c.args.seat) before)) k.offered_in_riichi
      ∙ ap (λ (xs : List ℕ). kinds_among (cond c.args.facts.now.marks.reached
      (flat_map (offers_to c.args.seat) (behind_first (is_reach_by c.args.seat) before) ++ xs) [])) (c.offered_by-2.ensures none));
  passed_in_riichi = k.offered_in_riichi ∙ sym (passed_in_riichi-more before c.args.deed.now c.args.seat);
  melds = c.meld.ensures before (few.melds c.args.seat) (fewer_added before c.args.deed.now c.args.seat (few.added c.args.seat)) k.added k.melds;
  added =
      added_more _ before c.args.deed.now c.args.seat c.added.result c.added.ensures
      (c.add.ensures (flat_map (adds_by c.args.seat) before) (few_added before c.args.deed.now c.args.seat c.added.result c.added.ensures (few.added c.args.seat)) k.added);
  marks =
      marks_other before c.args.deed.now c.args.seat c.args.facts.now.marks c.mark.new.marks none k.marks c.mark.ensures.begun c.mark.ensures.ended c.mark.ensures.reached
      c.mark.ensures.accepted c.mark.ensures.double c.mark.ensures.declared c.mark.ensures.broken c.mark.ensures.ippatsu c.mark.ensures.given;
  won = won_with before c.args.deed.now c.args.seat c.args.facts.now.won _ k.won c.has_won-facts.ensures;
}
