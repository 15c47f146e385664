use Rattle.std.proofs.Common.{List, [], ◌∷◌, ◌++◌, ap, ◌∙◌, sym}
use Rattle.mj_deeds.specs.declared.deed.Deed.{Deed}
use Rattle.mj_table.specs.Plays.{Play}
use Rattle.mj_umpire.proofs.state.State.advance.Goals as goal

pub invariant_of-self-2 : goal.invariant_of-self-2
invariant_of-self-2 g c = record {
  same =
      ap (λ (p : Play). p.deeds) c.in_ok-deed.ensures.pushed
      ∙ ap (λ (ds : List Deed). ds ++ c.in_ok-deed.deed ∷ []) (c.self.invariant.same ∙ sym c.reserve.ensures.items)
      ∙ sym c.push_reserved.ensures.items;
  seated = c.self.invariant.seated;
}
