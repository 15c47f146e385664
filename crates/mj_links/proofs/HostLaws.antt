-- Links that come off the front of those that wait.
use Rattle.std.proofs.Common.{◌≡◌, List, ◌++◌, subst}
use Rattle.std.specs.Prelude.{All, IfSome, Option, None, Some}
use Rattle.std.specs.Option.{option_to_list}
use Rattle.std.proofs.lemmas.List.Elements.{All-head, All-tail}

module _ {X : Type 0} (P : X → Type 0) where
  -- what holds of each element holds of the one that comes off the front, and of those that are left
  pub comes_off : (r : Option X) (xs ys : List X) → xs ≡ option_to_list r ++ ys → All P xs → IfSome r P × All P ys
  comes_off None xs ys e all = (tt, subst (All P) e all)
  comes_off (Some x) xs ys e all =
      let whole = subst (All P) e all in
      (All-head P x ys whole, All-tail P x ys whole)
