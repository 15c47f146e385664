-- The rows of the walk, from number to number.
use Rattle.std.proofs.Common.{◌≡◌, ◌&&◌, eqb, cond, ℕ, zero, suc, ◌+◌, ◌<◌, Bool, true, false, max, List, [], ◌∷◌, drop, refl, sym, ap, ap₂, ◌∙◌, arith}
use Rattle.mj_suits.specs.Rows.{lane, Holds, prices, most_left, begun, begun_by_tiles, stepped, walked}
use Rattle.mj_suits.specs.Inner.Walked.{AreCosts, AreBegun, begun_lanes, cost_lanes, row_at, AreRows}
use Rattle.mj_suits.specs.declared.walk.Costs.{Costs}
use Rattle.mj_suits.specs.declared.walk.Begun.{Begun}
use Rattle.mj_suits.specs.declared.walk.Rows.{Rows}
use Rattle.mj_suits.specs.declared.row.Row.{Row}
use Rattle.mj_suits.proofs.Taken.{taken_none, taken_held}

pub each_below_3 : (P : ℕ → Type 0) → P 0 → P 1 → P 2 → (n : ℕ) → n < 3 → P n
each_below_3 P a b c zero few = a
each_below_3 P a b c (suc zero) few = b
each_below_3 P a b c (suc (suc zero)) few = c
each_below_3 P a b c (suc (suc (suc n))) few = absurd (omega arith)

-- what begins at a number, by the rows after it
pub begun_are : (none one two : List ℕ) (all : Begun) (next : ℕ → ℕ → ℕ → ℕ) → AreBegun none one two all → Holds none (next 0) → Holds one (next 1) → Holds two (next 2)
    → (s p : ℕ) → s < 8 → p < 2 → begun_lanes all s p ≡ begun_by_tiles true next s p
begun_are none one two all next are zero_runs one_run two_runs s p few single =
    let a : lane all.none.lanes s p ≡ begun next 0 0 0 s p = are.none_is.at s p few single ∙ zero_runs.at s p few single ∙ sym (taken_none (next 0) s p) in
    let b : lane all.one.lanes s p ≡ begun next 1 0 0 s p = are.one_is.at s p few single ∙ taken_held one (next 1) 1 0 s p one_run few single in
    let c : lane all.two.lanes s p ≡ max (begun next 2 0 0 s p) (begun next 0 0 1 s p) =
    are.two_is.at s p few single ∙ ap₂ max (taken_held two (next 2) 2 0 s p two_runs few single) (taken_held none (next 0) 0 1 s p zero_runs few single) in
    let d : lane all.three.lanes s p ≡ max (begun next 0 1 0 s p) (begun next 1 0 1 s p) =
    are.three_is.at s p few single ∙ ap₂ max (taken_held none (next 0) 1 0 s p zero_runs few single) (taken_held one (next 1) 1 1 s p one_run few single) in
    let e : lane all.four.lanes s p ≡ max (begun next 1 1 0 s p) (begun next 2 0 1 s p) =
    are.four_is.at s p few single ∙ ap₂ max (taken_held one (next 1) 2 0 s p one_run few single) (taken_held two (next 2) 2 1 s p two_runs few single) in
    cc

pub costs_are : (held room : ℕ) (costs : Costs) → AreCosts held room costs → (s p : ℕ) → s < 8 → p < 2 → cost_lanes costs s p ≡ prices held room
costs_are held room costs are s p few single =
    let a = are.one.at s p few single in
    let b = are.two.at s p few single in
    let c = are.three.at s p few single in
    let d = are.four.at s p few single in
    cc

-- the row of a state is the most that is left where so many tiles of earlier runs stand at the number
abbrev pub Sums : Rows → Begun → Costs → ℕ → ℕ → ℕ → Type 0
Sums rows all costs before earlier many = Holds (row_at rows before earlier) (λ s p. most_left (begun_lanes all s p) (drop many (cost_lanes costs s p)))

-- one state of a number
state_holds : (result : List ℕ) (all : Begun) (costs : Costs) (next : ℕ → ℕ → ℕ → ℕ → ℕ) (held room many before earlier : ℕ) → before + earlier ≡ many
    → ((s p : ℕ) → s < 8 → p < 2 → begun_lanes all s p ≡ begun_by_tiles true (λ begin. next begin before) s p) → AreCosts held room costs
    → Holds result (λ s p. most_left (begun_lanes all s p) (drop many (cost_lanes costs s p))) → Holds result (stepped true held room next before earlier)
state_holds result all costs next held room many before earlier together begun_is costs_is holds = record {
  at = λ s p few single. holds.at s p few single
      ∙ ap₂ (λ lefts costs. most_left lefts (drop many costs)) (begun_is s p few single) (costs_are held room costs costs_is s p few single)
      ∙ ap (λ n. most_left (begun_by_tiles true (λ begin. next begin before) s p) (drop n (prices held room))) (sym together);
}

-- the walk at a number, and past the highest one
pub walked_at : (runs : Bool) (after : ℕ → ℕ → ℕ) (most have : ℕ) (room held : List ℕ) (before earlier s p : ℕ)
    → walked runs after (most ∷ room) (have ∷ held) before earlier s p ≡ stepped runs have most (walked runs after room held) before earlier s p
unfolding walked
walked_at runs after most have room held before earlier s p = refl

pub walked_past : (runs : Bool) (after : ℕ → ℕ → ℕ) (held : List ℕ) (before earlier s p : ℕ) → walked runs after [] held before earlier s p ≡ cond ((eqb before 0) && (eqb earlier 0)) (after s p) 0
unfolding walked
walked_past runs after held before earlier s p = refl

pub walked_none : (runs : Bool) (after : ℕ → ℕ → ℕ) (most : ℕ) (room : List ℕ) (before earlier s p : ℕ) → walked runs after (most ∷ room) [] before earlier s p ≡ 0
unfolding walked
walked_none runs after most room before earlier s p = refl

-- what holds in each of the nine states
nine_states : (P : ℕ → ℕ → Type 0) → P 0 0 → P 1 0 → P 2 0 → P 0 1 → P 1 1 → P 2 1 → P 0 2 → P 1 2 → P 2 2 → (before earlier : ℕ) → before < 3 → earlier < 3 → P before earlier
nine_states P a b c d e f g h i before earlier few few_earlier =
    each_below_3 (λ earlier. P before earlier)
    (each_below_3 (λ before. P before 0) a b c before few)
    (each_below_3 (λ before. P before 1) d e f before few)
    (each_below_3 (λ before. P before 2) g h i before few)
    earlier few_earlier

-- past the highest number
pub past_are : (after : Row) (rows : Rows) → rows.none.none ≡ after → ((before earlier : ℕ) → (before ≡ 0 → earlier ≡ 0 → ⊥) → Holds (row_at rows before earlier) (λ s p. 0))
    → AreRows (lane after.lanes) [] [] rows
past_are after rows alone none = record {
  at = nine_states (λ before earlier. Holds (row_at rows before earlier) (walked true (lane after.lanes) [] [] before earlier))
      record { at = λ s p few single. ap (λ row. lane row.lanes s p) alone ∙ sym (walked_past true (lane after.lanes) [] 0 0 s p) }
      (no 1 0 (λ b e. omega arith) refl) (no 2 0 (λ b e. omega arith) refl) (no 0 1 (λ b e. omega arith) refl) (no 1 1 (λ b e. omega arith) refl)
      (no 2 1 (λ b e. omega arith) refl) (no 0 2 (λ b e. omega arith) refl) (no 1 2 (λ b e. omega arith) refl) (no 2 2 (λ b e. omega arith) refl);
}
  where
    no : (before earlier : ℕ) → (before ≡ 0 → earlier ≡ 0 → ⊥) → ((eqb before 0) && (eqb earlier 0)) ≡ false → Holds (row_at rows before earlier) (walked true (lane after.lanes) [] [] before earlier)
    no before earlier apart under_way = record {
      at = λ s p few single. (none before earlier apart).at s p few single
          ∙ sym (walked_past true (lane after.lanes) [] before earlier s p ∙ ap (λ t. cond t (lane after.lanes s p) 0) under_way);
    }

-- the row of a step at a number is that of the walk from it on
walked_holds : (result : List ℕ) (after : ℕ → ℕ → ℕ) (most have : ℕ) (room held : List ℕ) (before earlier : ℕ)
    → Holds result (stepped true have most (walked true after room held) before earlier) → Holds result (walked true after (most ∷ room) (have ∷ held) before earlier)
walked_holds result after most have room held before earlier holds = record {
  at = λ s p few single. holds.at s p few single ∙ sym (walked_at true after most have room held before earlier s p);
}

-- the rows from a number on, by what begins there
pub before_are : (after : ℕ → ℕ → ℕ) (most have : ℕ) (room held : List ℕ) (next rows : Rows) (none one two : Begun) (costs : Costs) → AreRows after room held next → AreCosts have most costs
    → AreBegun (row_at next 0 0) (row_at next 1 0) (row_at next 2 0) none → AreBegun (row_at next 0 1) (row_at next 1 1) (row_at next 2 1) one
    → AreBegun (row_at next 0 2) (row_at next 1 2) (row_at next 2 2) two
    → Sums rows none costs 0 0 0 → Sums rows one costs 1 0 1 → Sums rows two costs 2 0 2 → Sums rows none costs 0 1 1 → Sums rows one costs 1 1 2 → Sums rows two costs 2 1 3
    → Sums rows none costs 0 2 2 → Sums rows one costs 1 2 3 → Sums rows two costs 2 2 4
    → AreRows after (most ∷ room) (have ∷ held) rows
before_are after most have room held next rows none one two costs are costs_is none_is one_is two_is a b c d e f g h i = record {
  at = nine_states (λ before earlier. Holds (row_at rows before earlier) (walked true after (most ∷ room) (have ∷ held) before earlier))
      (state 0 0 0 none refl (by 0 (omega arith) none none_is) a) (state 1 0 1 one refl (by 1 (omega arith) one one_is) b) (state 2 0 2 two refl (by 2 (omega arith) two two_is) c)
      (state 0 1 1 none refl (by 0 (omega arith) none none_is) d) (state 1 1 2 one refl (by 1 (omega arith) one one_is) e) (state 2 1 3 two refl (by 2 (omega arith) two two_is) f)
      (state 0 2 2 none refl (by 0 (omega arith) none none_is) g) (state 1 2 3 one refl (by 1 (omega arith) one one_is) h) (state 2 2 4 two refl (by 2 (omega arith) two two_is) i);
}
  where
    by : (before : ℕ) → before < 3 → (all : Begun) → AreBegun (row_at next 0 before) (row_at next 1 before) (row_at next 2 before) all
        → (s p : ℕ) → s < 8 → p < 2 → begun_lanes all s p ≡ begun_by_tiles true (λ begin. walked true after room held begin before) s p
    by before few all is = begun_are _ _ _ all (λ begin. walked true after room held begin before) is (are.at 0 before (omega arith) few) (are.at 1 before (omega arith) few)
        (are.at 2 before (omega arith) few)

    state : (before earlier many : ℕ) (all : Begun) → before + earlier ≡ many
        → ((s p : ℕ) → s < 8 → p < 2 → begun_lanes all s p ≡ begun_by_tiles true (λ begin. walked true after room held begin before) s p)
        → Sums rows all costs before earlier many → Holds (row_at rows before earlier) (walked true after (most ∷ room) (have ∷ held) before earlier)
    state before earlier many all together begun_is sums = walked_holds (row_at rows before earlier) after most have room held before earlier
        (state_holds (row_at rows before earlier) all costs (walked true after room held) have most many before earlier together begun_is costs_is sums)
