-- What everybody sees of deeds and their secrets together are the deeds.
use Rattle.std.proofs.Common.{◌≡◌, List, [], ◌∷◌, refl, ap, sym, ◌∙◌}
use Rattle.mj_deeds.specs.declared.deed.Deed.{Deed}
use Rattle.mj_deeds.specs.declared.deed.Deed.TheVariants as deeds
use Rattle.mj_observe.specs.Traces.{Secrets, secrets}
use Rattle.mj_observe.proofs.Bare.{all_bare}

-- the first of a list, and what follows it
abbrev first_or : {A : Type 0} → List A → A → A
first_or [] other = other
first_or (x ∷ xs) other = x

abbrev others : {A : Type 0} → List A → List A
others [] = []
others (x ∷ xs) = xs

-- The deeds with their secrets put in.
abbrev filled : Secrets → List Deed → List Deed
filled s [] = []
filled s (deeds.StartHand round number honba lying dealer indicator hands ∷ ds) =
    deeds.StartHand round number honba lying dealer indicator (first_or s.dealt hands) ∷ filled (record { dealt = others s.dealt; drawn = s.drawn; calls = s.calls; winners = s.winners }) ds
filled s (deeds.Draw who tile replacement ∷ ds) =
    deeds.Draw who (first_or s.drawn tile) replacement ∷ filled (record { dealt = s.dealt; drawn = others s.drawn; calls = s.calls; winners = s.winners }) ds
filled s (deeds.ReachAccepted who points bid ∷ ds) =
    deeds.ReachAccepted who points (first_or s.calls bid) ∷ filled (record { dealt = s.dealt; drawn = s.drawn; calls = others s.calls; winners = s.winners }) ds
filled s (deeds.Win who target tile unders own yaku fu han value deltas points rest ∷ ds) =
    deeds.Win who target tile unders own yaku fu han value deltas points (first_or s.winners rest) ∷ filled (record {
      dealt = s.dealt;
      drawn = s.drawn;
      calls = s.calls;
      winners = others s.winners;
    }) ds
filled s (other ∷ ds) = other ∷ filled s ds

are_filled : (ds : List Deed) → ds ≡ filled (secrets ds) (all_bare ds)
are_filled [] = refl
are_filled (deeds.StartHand round number honba lying dealer indicator hands ∷ ds) = ap (λ (xs : List Deed). deeds.StartHand round number honba lying dealer indicator hands ∷ xs) (are_filled ds)
are_filled (deeds.Draw who tile replacement ∷ ds) = ap (λ (xs : List Deed). deeds.Draw who tile replacement ∷ xs) (are_filled ds)
are_filled (deeds.ReachAccepted who points bid ∷ ds) = ap (λ (xs : List Deed). deeds.ReachAccepted who points bid ∷ xs) (are_filled ds)
are_filled (deeds.Win who target tile unders own yaku fu han value deltas points rest ∷ ds) =
    ap (λ (xs : List Deed). deeds.Win who target tile unders own yaku fu han value deltas points rest ∷ xs) (are_filled ds)
are_filled (other ∷ ds) = ap (λ (xs : List Deed). other ∷ xs) (are_filled ds)

pub same_deeds : (ds es : List Deed) → all_bare ds ≡ all_bare es → secrets ds ≡ secrets es → ds ≡ es
same_deeds ds es b s = are_filled ds ∙ (λ i. filled (s i) (b i)) ∙ sym (are_filled es)
