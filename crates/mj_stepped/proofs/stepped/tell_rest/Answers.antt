use Rattle.std.proofs.Common.{length, ap, sym, refl, ◌∙◌}
use Rattle.std.proofs.lemmas.Option.{slice_get_read}
use Rattle.mj_table.specs.Plays.{Play}
use Rattle.mj_stepped.proofs.Told.{next-fits, next-front, fit-by}
use Rattle.mj_stepped.proofs.stepped.tell_rest.Goals as goal

pub push-requires : goal.push-requires
push-requires c =
    let at = slice_get_read c.args.deeds.now (length c.args.deeds.now) c.loop-deed.number c.in-Some.deed.now refl c.in-Some.ensures.lookup.3.0 c.in-Some.ensures.lookup.1 in
    next-fits _ _ _ _ _ c.loop-deed.invariant.1 (sym at) (fit-by _ _ _ c.loop-deed.invariant.0 c.requires.fit)

pub loop-deed-preserved : goal.loop-deed-preserved
loop-deed-preserved c =
    let at = slice_get_read c.args.deeds.now (length c.args.deeds.now) c.loop-deed.number c.in-Some.deed.now refl c.in-Some.ensures.lookup.3.0 c.in-Some.ensures.lookup.1 in (
      ap (λ (p : Play). p.rules) c.in_ok-push.ensures.ok ∙ c.loop-deed.invariant.0,
      next-front _ _ _ _ _ _ c.loop-deed.invariant.1 (sym at) (ap (λ (p : Play). p.deeds) c.in_ok-push.ensures.ok) refl,
    )
