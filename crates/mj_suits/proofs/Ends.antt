-- The tiles of the numbers from one on, and how many of fifteen are left when the best of them are paid for.
use Rattle.std.proofs.Common.{◌≡◌, ℕ, ◌+◌, ◌-◌, ◌≤◌, Bool, List, [], ◌∷◌, subst, ap, ◌∙◌, arith}
use Rattle.mj_suits.specs.Inner.Ends.{Goes, Ends}

-- ---- three equal runs are three triplets

swapped_earlier : (runs : Bool) (room : List ℕ) (before earlier sets pairs : ℕ) (tiles : List ℕ) → Ends runs room before (earlier + 3) sets pairs tiles
    → Ends runs room before earlier (sets + 1) pairs tiles
swapped_earlier runs [] before earlier sets pairs tiles ends = absurd (let e : earlier + 3 ≡ 0 = ends.1.0 in omega arith)
swapped_earlier runs (most ∷ room) before earlier sets pairs tiles goes = record {
  begin = goes.begin;
  triplets = goes.triplets + 1;
  pairs_here = goes.pairs_here;
  sets_later = goes.sets_later;
  pairs_later = goes.pairs_later;
  rest = goes.rest;
  more = goes.more;
  only = goes.only;
  sets_are = (let e : sets ≡ goes.begin + goes.triplets + goes.sets_later = goes.sets_are in omega arith);
  pairs_are = goes.pairs_are;
  tiles_are = goes.tiles_are ∙ ap (λ n. n ∷ goes.rest) (omega arith);
  within = (let w = goes.within in omega arith);
}

swapped_before : (runs : Bool) (room : List ℕ) (before earlier sets pairs : ℕ) (tiles : List ℕ) → Ends runs room (before + 3) earlier sets pairs tiles
    → Ends runs room before earlier (sets + 2) pairs tiles
swapped_before runs [] before earlier sets pairs tiles ends = absurd (let e : before + 3 ≡ 0 = ends.0 in omega arith)
swapped_before runs (most ∷ room) before earlier sets pairs tiles goes = record {
  begin = goes.begin;
  triplets = goes.triplets + 1;
  pairs_here = goes.pairs_here;
  sets_later = goes.sets_later + 1;
  pairs_later = goes.pairs_later;
  rest = goes.rest;
  more = swapped_earlier runs room goes.begin before goes.sets_later goes.pairs_later goes.rest goes.more;
  only = goes.only;
  sets_are = (let e : sets ≡ goes.begin + goes.triplets + goes.sets_later = goes.sets_are in omega arith);
  pairs_are = goes.pairs_are;
  tiles_are = goes.tiles_are ∙ ap (λ n. n ∷ goes.rest) (omega arith);
  within = (let w = goes.within in omega arith);
}

-- where a triplet and three runs or more begin, as well none does: fewer than three runs, and no more than one triplet or pair
pub fewer_runs : (runs : Bool) (room : List ℕ) (most before earlier sets pairs : ℕ) (tiles : List ℕ) (goes : Goes runs (Ends runs room) most before earlier sets pairs tiles)
    → 3 ≤ goes.begin → (fewer : Goes runs (Ends runs room) most before earlier sets pairs tiles) × (fewer.begin + 3 ≡ goes.begin)
fewer_runs runs room most before earlier sets pairs tiles goes three =
    let k = goes.begin - 3 in
    let is : goes.begin ≡ k + 3 = omega arith in (
      record {
        begin = k;
        triplets = goes.triplets + 1;
        pairs_here = goes.pairs_here;
        sets_later = goes.sets_later + 2;
        pairs_later = goes.pairs_later;
        rest = goes.rest;
        more = swapped_before runs room k before goes.sets_later goes.pairs_later goes.rest (subst (λ n. Ends runs room n before goes.sets_later goes.pairs_later goes.rest) is goes.more);
        only = λ honours. absurd (let none : goes.begin ≡ 0 = goes.only honours in omega arith);
        sets_are = (let e : sets ≡ goes.begin + goes.triplets + goes.sets_later = goes.sets_are in omega arith);
        pairs_are = goes.pairs_are;
        tiles_are = goes.tiles_are ∙ ap (λ n. n ∷ goes.rest) (omega arith);
        within = (let w = goes.within in omega arith);
      },
      omega arith,
    )
