use Rattle.std.proofs.Common.{◌∙◌, ap, sym}
use Rattle.mj_lists.proofs.Fronts.{first_and_others}
use Rattle.mj_readings.specs.Inner.Ways.{has_way}
use Rattle.mj_readings.proofs.complete.+completes.Goals as goal

pub completes-returns : goal.completes-returns
completes-returns t c =
    c.completes_at.ensures
    ∙ ap (λ ns. has_way ns c.args.kind c.args.first c.args.second c.args.left.sets c.args.left.paired)
    (sym (first_and_others 0 c.args.numbers.now c.in-len1-up.len_at_least))
