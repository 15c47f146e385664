-- The kinds gone through, and what the others add.
use Rattle.std.proofs.Common.{◌≡◌, ◌++◌, ◌≤◌, ℕ, get_or, length, take, drop}
use Rattle.mj_shanten.specs.Inner.Special.{so_often, nearest_pairs}
use Rattle.mj_shanten.proofs.seven_pairs.pairs_of.Given as goal

abbrev pub invariant-loop-kind : goal.invariant-loop-kind
invariant-loop-kind l = record {
  size : length l.target ≡ 36;
  whole : take l.kind l.target ++ nearest_pairs (drop l.kind (take 34 l.held)) l.left ≡ nearest_pairs (take 34 l.held) 7;
  twice : l.twice ≡ so_often 2 (drop l.kind (take 34 l.held));
  once : l.once ≡ so_often 1 (drop l.kind (take 34 l.held));
  later : (k : ℕ) → l.kind ≤ k → get_or l.target k 0 ≡ 0;
}
