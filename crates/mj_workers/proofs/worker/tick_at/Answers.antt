use Rattle.std.proofs.Common.{◌∙◌, length, refl, sym, ap}
use Rattle.std.proofs.lemmas.List.{with_items_is}
use Rattle.mj_workers.proofs.Staffing.{idle_watched, watched_same, watched_lent}
use Rattle.mj_workers.proofs.worker.tick_at.Goals as goal

pub tick_all-requires-clause-idle : goal.tick_all-requires-clause-idle
tick_all-requires-clause-idle g c κs within =
    let r = g.C.Clock.readings c.args.clock.now in
    let first = λ (t : _). g.T.Seated.history t.opening in
    idle_watched g.T.Seated g.T.SharedGame.lost c.args.handlers g.T.Noted.setting c.as_slice.result.now c.args.handlers first r r c.as_mut_slice.result.now c.as_mut_slice-2.result.now
    (watched_lent g.T.Seated g.T.SharedGame.lost c.args.handlers g.T.Noted.setting c.args.turns.now.items c.args.handlers first r r c.as_slice.result.now c.as_mut_slice.result.now
    c.args.desk.passes.items c.as_mut_slice-2.result.now c.args.desk.sights.items c.as_slice.ensures.value c.as_mut_slice.ensures.value c.as_mut_slice-2.ensures.value c.requires)

pub returns : goal.returns
returns g c =
    let r = g.C.Clock.readings c.args.clock.now in
    let first = λ (t : _). g.T.Seated.history t.opening in
    let turns = ap length c.as_slice.ensures.value in
    let lent = watched_lent g.T.Seated g.T.SharedGame.lost c.args.handlers g.T.Noted.setting c.args.turns.now.items c.args.handlers first r r c.as_slice.result.now c.as_mut_slice.result.now
    c.args.desk.passes.items c.as_mut_slice-2.result.now c.args.desk.sights.items c.as_slice.ensures.value c.as_mut_slice.ensures.value c.as_mut_slice-2.ensures.value c.requires in
    let all = c.tick_all.ensures.ticks c.args.handlers first r lent in
    let passes = with_items_is c.args.desk.passes c.tick_all.new.passes (all.second ∙ (turns ∙ (sym c.requires.second ∙ sym c.args.desk.passes.ok.0))) in
    let sights = with_items_is c.args.desk.sights c.tick_all.new.sights (all.third ∙ (turns ∙ (sym c.requires.third ∙ sym c.args.desk.sights.ok.0))) in (
      refl,
      watched_same g.T.Seated g.T.SharedGame.lost c.args.handlers g.T.Noted.setting c.args.turns.now.items c.args.handlers first r _ c.as_slice.result.now c.tick_all.new.passes _
          c.tick_all.new.sights _ c.as_slice.ensures.value (sym passes) (sym sights) all,
    )
