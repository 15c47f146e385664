-- The public view one deed further, and the lines that each seat is told.
use Rattle.std.proofs.Common.{◌≡◌, ℕ, List, [], ◌∷◌, ◌++◌, refl, ap, sym, ◌∙◌, append-nil, append_assoc}
use Rattle.mj_deeds.specs.declared.deed.Deed.{Deed}
use Rattle.mj_deeds.specs.declared.deed.Deed.TheVariants as deeds
use Rattle.mj_forms.specs.Lines.{reach_accepted_line, win_line}
use Rattle.mj_observe.specs.Views.{public_part, view_from}
use Rattle.mj_observe.specs.Laws.{ViewsGrow, OthersAreToldAll}

grows_from : (before ds : List Deed) (d : Deed) → view_from before (ds ++ d ∷ []) ≡ view_from before ds ++ public_part (before ++ ds) d
grows_from before [] d = append-nil (public_part before d) ∙ ap (λ (xs : List Deed). public_part xs d) (sym (append-nil before))
grows_from before (x ∷ ds) d =
    ap (λ (text : List ℕ). public_part before x ++ text) (grows_from (before ++ x ∷ []) ds d
    ∙ ap (λ (xs : List Deed). view_from (before ++ x ∷ []) ds ++ public_part xs d) (append_assoc before (x ∷ []) ds))
    ∙ sym (append_assoc (public_part before x) (view_from (before ++ x ∷ []) ds) (public_part (before ++ x ∷ ds) d))

pub views_grow : ViewsGrow
views_grow ds d = grows_from [] ds d

pub others_are_told_all : OthersAreToldAll
unfolding reach_accepted_line win_line
others_are_told_all seat (deeds.StartGame names) h = cc
others_are_told_all seat (deeds.StartHand round number honba deposits dealer indicator hands) h = cc
others_are_told_all seat (deeds.Draw who tile replacement) h = cc
others_are_told_all seat other h = refl
