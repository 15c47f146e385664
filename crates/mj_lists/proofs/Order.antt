-- The lexicographic order of lists of numbers.
use Rattle.std.proofs.Common.{ℕ, ◌≡◌, false, List, ◌∙◌, ap}
use Rattle.std.specs.Ordering.{nat_cmp, is_gt, ordering_reverse}
use Rattle.std.specs.Cmp.Lexicographic.{slice_cmp}
use Rattle.std.specs.declared.cmp.Ordering.TheVariants.{Greater}
use Rattle.std.proofs.lemmas.Cmp.{nat_list_cmp_total}

-- Where one list is greater than another, the other isn't greater than the one.
pub not_less_back : (xs ys : List ℕ) → slice_cmp nat_cmp xs ys ≡ Greater → is_gt (slice_cmp nat_cmp ys xs) ≡ false
not_less_back xs ys greater = ap is_gt (nat_list_cmp_total.antisymm ys xs ∙ ap ordering_reverse greater)
