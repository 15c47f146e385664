use Rattle.std.proofs.Common.{◌≡◌, subst, sym}
use Rattle.mj_shanten.specs.Exchanges.{LeadsToReady, path_to}
use Rattle.mj_shanten.proofs.Path.{path_leads, path_from}
use Rattle.mj_shanten.proofs.exchanges.exchange_path.Goals as goal

pub returns-clause-law : goal.returns-clause-law
returns-clause-law c =
    let value : c.in_ok-path.path.items ≡ path_to c.args.counts.now c.args.nearest.now.target =
    path_from _ _ _ _ _ _ _ c.in_ok-path.ensures c.as_slice.ensures.value c.as_slice-2.ensures.value c.in_ok-surplus.ensures.value c.in_ok-missing.ensures.value in
    λ room melds hand is. subst (λ p. LeadsToReady c.args.counts.now room melds c.args.nearest.now.number p) (sym value)
    (path_leads c.args.counts.now room c.args.nearest.now.target melds c.args.nearest.now.number c.kinds_more.ensures.size hand is)
