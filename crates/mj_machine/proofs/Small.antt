-- The numbers of a played game are small.
use Rattle.std.proofs.Common.{◌≡◌, ℕ, ◌+◌, ◌*◌, ◌≤◌, ◌==◌, Bool, true, false, cond, List, arith}
use Rattle.std.specs.Prelude.{[], ◌∷◌, ℤ, pos, nat_abs}
use Rattle.std.specs.List.{slice_index_or}
use Rattle.std.proofs.lemmas.List.Elements.{All-cons, All-nil}
use Rattle.mj_deeds.specs.declared.deed.Deed.{Deed}
use Rattle.mj_deeds.specs.Fits.{all_fit}
use Rattle.mj_deeds.specs.Hand.{hand}
use Rattle.mj_deeds.specs.Points.{points_of, points, deposits}
use Rattle.mj_deeds.specs.Standings.{standing}
use Rattle.mj_deeds.proofs.Deposits.{few_deposits}
use Rattle.mj_deeds.proofs.Standings.{may_stand}
use Rattle.mj_rules.proofs.Stages.{Stage, Acts, holds_more, StandsAt}
use Rattle.mj_rules.proofs.Winners.{few_tiles, few_shown}
use Rattle.mj_rules.proofs.Winning.{Fair}
use Rattle.mj_machine.specs.Inner.Steps.{AreSmall}

few_held : (n m o : ℕ) → n + 3 * m ≤ 13 + o → o ≤ 1 → n ≤ 14
few_held n m o h e = omega (arith, h, e)

few_more : (stage : Stage) (seat : ℕ) → holds_more stage seat ≤ 1
few_more (Acts who) seat = at_most (who == seat)
  where
    at_most : (b : Bool) → cond b 1 0 ≤ 1
    at_most true = omega arith
    at_most false = omega arith
few_more other seat = omega arith

less : (n m : ℕ) → n + m ≤ 90000000 → n ≤ 100000000
less n m h = omega arith

pub all_small : (red : Bool) (walls : List (List ℕ)) (wall : List ℕ) (stage : Stage) (ds : List Deed) → all_fit red [] ds ≡ true → Fair red walls ds → StandsAt wall (hand ds) stage → AreSmall ds
all_small red walls wall stage ds fit fair s = record {
  red = red;
  fit = fit;
  dealer = (may_stand red ds fit).dealer;
  honba = one_more (standing ds).honba (may_stand red ds fit).honba;
  deposits = few_deposits red ds fit;
  points = All-cons small (points_of ds 0) (points_of ds 1 ∷ points_of ds 2 ∷ points_of ds 3 ∷ []) (at 0)
      (All-cons small (points_of ds 1) (points_of ds 2 ∷ points_of ds 3 ∷ []) (at 1) (All-cons small (points_of ds 2) (points_of ds 3 ∷ []) (at 2)
      (All-cons small (points_of ds 3) [] (at 3) (All-nil small))));
  shown = few_shown wall (hand ds) stage s;
  held = λ seat. few_held _ _ _ (few_tiles wall (hand ds) stage seat s) (few_more stage seat);
}
  where
    small : ℤ → Type 0
    small held = nat_abs held ≤ 100000000

    at : (seat : ℕ) → nat_abs (slice_index_or (points ds) seat (pos 0)) ≤ 100000000
    at seat = less (nat_abs (slice_index_or (points ds) seat (pos 0))) (1000 * deposits ds) (fair.rich seat)

    one_more : (n : ℕ) → n ≤ 199 → n ≤ 200
    one_more n h = omega arith
