use Rattle.mj_facts.proofs.FitsKept.{few_brought, few_melds, fits_kept, kinds_kept, places_kept}
use Rattle.mj_facts.proofs.fitting.fits_in.Goals as goal

pub returns : goal.returns
returns c hand holds few known =
    fits_kept c.args.red c.has_held-held.result c.keeps_kinds-kinds.result c.has_places-places.result c.fits_by.result hand c.args.facts.now c.args.deed.now known (c.has_held-held.ensures hand holds)
    (kinds_kept hand c.args.facts.now c.args.deed.now c.keeps_kinds-kinds.result known (c.keeps_kinds-kinds.ensures (few_brought hand c.args.facts.now few known)))
    (places_kept hand c.args.facts.now c.args.deed.now c.has_places-places.result known (c.has_places-places.ensures (few_melds hand c.args.facts.now few known))) c.fits_by.ensures
