use Rattle.std.proofs.Common.{sym, ap, ◌∙◌}
use Rattle.std.specs.Prelude.{flat_map, option_to_list}
use Rattle.mj_deeds.specs.Facts.{adds_by}
use Rattle.mj_facts.proofs.MeldsKept.{melds_made, melds_added, melds_stay}
use Rattle.mj_facts.proofs.meld_steps.meld.Goals as goal

pub returns-in-Some : goal.returns-in-Some
returns-in-Some c before few small k was =
    melds_made before c.args.deed.now c.args.seat c.in-Some.meld c.with_added.result c.args.melds.now c.with_meld.result (ap option_to_list (sym c.in-Some.is) ∙ c.made.ensures)
    (c.with_added.ensures (flat_map (adds_by c.args.seat) before) small k) was few c.with_meld.ensures

pub returns-in-Some-added : goal.returns-in-Some-added
returns-in-Some-added c before few small k was =
    melds_added before c.args.deed.now c.args.seat c.in-Some-added.tile c.args.melds.now c.each_with.result (ap option_to_list (sym c.in-None.is) ∙ c.made.ensures)
    (ap option_to_list (sym c.in-Some-added.is) ∙ c.added.ensures) was c.each_with.ensures

pub returns-in-None-added : goal.returns-in-None-added
returns-in-None-added c before few small k was =
    melds_stay before c.args.deed.now c.args.seat c.args.melds.now (ap option_to_list (sym c.in-None.is) ∙ c.made.ensures) (ap option_to_list (sym c.in-None-added.is) ∙ c.added.ensures) was
