use Rattle.std.proofs.Common.{◌≡◌, [], None, sym, subst, ◌∙◌}
use Rattle.std.specs.Prelude.{MatchOption}
use Rattle.mj_rules.specs.Default.{lawful_faces}
use Rattle.mj_bot.specs.Choice.{IsBest}
use Rattle.mj_rules.specs.View.{view_of}
use Rattle.mj_bot.proofs.Chosen.{discard_chosen}
use Rattle.mj_bot.proofs.Lawful.{best_passes, none_lawful}
use Rattle.mj_bot.proofs.Silent.{not_own, silent}
use Rattle.mj_bot.proofs.choosing.choose.Goals as goal

pub returns-in-Some-tile : goal.returns-in-Some-tile
returns-in-Some-tile c = record {
  best = c.best_discard-best.result.tile;
  best_is = c.best_discard-best.ensures.tile;
  chosen_is =
      discard_chosen c.args.table.now.rules c.args.seat c.in-Some-tile.tile (view_of c.args.table.now.deeds c.args.seat) c.best_discard-best.result.tile c.discard.result
      (sym c.lawful_win.ensures ∙ c.in_default.is) (sym c.lawful_reach.ensures ∙ c.in_default-lawful_reach.is) c.in-Some-tile.is
      (best_passes c.args.table.now.rules c.args.seat (view_of c.args.table.now.deeds c.args.seat) c.in-Some-tile.tile
      (subst (λ o. MatchOption o (lawful_faces c.args.table.now.rules c.args.seat (view_of c.args.table.now.deeds c.args.seat) ≡ [])
      (IsBest c.args.table.now.rules c.args.seat (view_of c.args.table.now.deeds c.args.seat))) c.in-Some-tile.is
      c.best_discard-best.ensures.tile)) c.discard.ensures;
}

pub returns-then-not-has_say : goal.returns-then-not-has_say
returns-then-not-has_say c =
    let none = sym c.has_say.ensures ∙ c.if-not-has_say.true in
    record {
      best = None;
      best_is = none_lawful c.args.table.now.rules c.args.seat (view_of c.args.table.now.deeds c.args.seat)
          (not_own c.args.seat (view_of c.args.table.now.deeds c.args.seat).turn none);
      chosen_is = silent c.args.table.now.rules c.args.seat (view_of c.args.table.now.deeds c.args.seat) none;
    }
