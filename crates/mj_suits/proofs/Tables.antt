-- What a suit's row says of its targets alone.
use Rattle.std.proofs.Common.{◌≡◌, ◌≢◌, ◌&&◌, eqb, cond, ℕ, ◌+◌, ◌-◌, ◌*◌, ◌<◌, ◌≤◌, Bool, true, false, Option, List, [], ◌∷◌, length, refl, sym, subst, ap, ◌∙◌, inl, inr, arith}
use Rattle.std.specs.Prelude.{MatchOption}
use Rattle.std.proofs.lemmas.Bool.{cases_Bool, and_parts, eqb-true}
use Rattle.mj_suits.specs.Rows.{lane, Holds, IsFew, start_lane}
use Rattle.mj_suits.specs.Targets.{missing, IsTarget, IsNearest}
use Rattle.mj_suits.specs.Inner.Ends.{Ends}
use Rattle.mj_suits.specs.Left.{pairs, LeavesBy, IsChosen}
use Rattle.mj_suits.specs.Tables.{Suit, IsTable, IsLeast}
use Rattle.mj_suits.proofs.Made.{target_ends}

abbrev pub suit_of : List ℕ → List ℕ → Bool → Suit
suit_of counts room runs = record { counts = counts; room = room; runs = runs }

-- nothing is left where something is still to be made
pub start_few : (start : List ℕ) → Holds start start_lane → IsFew start
start_few start holds s p few one = elim (cases_Bool ((eqb s 0) && (eqb p 0))) [
  | inl none ↦ (let e : lane start s p ≡ 15 = holds.at s p few one ∙ ap (λ t. cond t 15 0) none in omega arith)
  | inr some ↦ (let e : lane start s p ≡ 0 = holds.at s p few one ∙ ap (λ t. cond t 15 0) some in omega arith)
]

-- a target misses at most its tiles
ends_missing : (runs : Bool) (room held : List ℕ) (before earlier s p : ℕ) (tiles : List ℕ) → Ends runs room before earlier s p tiles → missing tiles held ≤ 3 * s + 2 * p + 2 * before + earlier
ends_missing runs [] held before earlier s p tiles ends = (let e : missing tiles held ≡ 0 = ap (λ t. missing t held) ends.1.1.1.1 in omega arith)
ends_missing runs (most ∷ room) [] before earlier s p tiles goes =
    let rest = ends_missing runs room [] goes.begin before goes.sets_later goes.pairs_later goes.rest goes.more in
    let e : missing tiles [] ≡ (before + earlier + (goes.begin + 3 * goes.triplets + 2 * goes.pairs_here)) + missing goes.rest [] = ap (λ t. missing t []) goes.tiles_are in
    let sets = goes.sets_are in
    let pairs_are = goes.pairs_are in
    omega arith
ends_missing runs (most ∷ room) (have ∷ held) before earlier s p tiles goes =
    let rest = ends_missing runs room held goes.begin before goes.sets_later goes.pairs_later goes.rest goes.more in
    let e : missing tiles (have ∷ held) ≡ (before + earlier + (goes.begin + 3 * goes.triplets + 2 * goes.pairs_here) - have) + missing goes.rest held =
    ap (λ t. missing t (have ∷ held)) goes.tiles_are in
    let sets = goes.sets_are in
    let pairs_are = goes.pairs_are in
    omega arith

pub few_missing : (room held : List ℕ) (runs : Bool) (melds : ℕ) (paired : Bool) (target : List ℕ) → length room ≡ 9 → IsTarget room runs melds paired target
    → missing target held ≤ 3 * melds + 2 * pairs paired
few_missing room held runs melds paired target nine is = (let b = ends_missing runs room held 0 0 melds (pairs paired) target (target_ends room runs melds paired target nine is) in omega arith)

pairs_few : (paired : Bool) → pairs paired ≤ 1
pairs_few true = omega arith
pairs_few false = omega arith

same_pairs : (a b : Bool) → pairs a ≡ pairs b → a ≡ b
same_pairs true true e = refl
same_pairs false false e = refl
same_pairs true false e = absurd (omega arith)
same_pairs false true e = absurd (omega arith)

-- a target leaves of fifteen tiles what it does not miss
pub target_leaves : (counts room : List ℕ) (runs : Bool) (start : List ℕ) (melds : ℕ) (paired : Bool) (target : List ℕ) → Holds start start_lane → length room ≡ 9 → melds ≤ 4
    → IsTarget room runs melds paired target → LeavesBy counts room runs start melds (pairs paired) (15 - missing target counts) target 0 0
target_leaves counts room runs start melds paired target holds nine few is =
    let bound = few_missing room counts runs melds paired target nine is in
    let one = pairs_few paired in
    let fifteen : lane start 0 0 ≡ 15 = holds.at 0 0 (omega arith) (omega arith) in
    record {
      melds = melds;
      paired = paired;
      is_target = is;
      sets_are = omega arith;
      pairs_are = omega arith;
      left_is = omega arith;
    }

-- what leaves something is a target, and leaves what it does not miss
pub record IsWhole (counts room : List ℕ) (runs : Bool) (melds : ℕ) (paired : Bool) (left : ℕ) (target : List ℕ) : Type 0 where
  pub is_target : IsTarget room runs melds paired target
  pub left_is : left + missing target counts ≡ 15

pub leaves_target : (counts room : List ℕ) (runs : Bool) (start : List ℕ) (melds : ℕ) (paired : Bool) (left : ℕ) (target : List ℕ) (s p : ℕ) → Holds start start_lane → melds ≤ 4
    → 0 < left → LeavesBy counts room runs start melds (pairs paired) left target s p → IsWhole counts room runs melds paired left target
leaves_target counts room runs start melds paired left target s p holds few some by =
    let one = pairs_few paired in
    let sets_are = by.sets_are in
    let pairs_are = by.pairs_are in
    let is = holds.at s p (omega arith) (omega arith) in
    let left_is = by.left_is in
    elim (cases_Bool ((eqb s 0) && (eqb p 0))) [
      | inl none ↦
          let parts = and_parts (eqb s 0) (eqb p 0) none in
          let no_sets : s ≡ 0 = eqb-true s 0 parts.0 in
          let no_pairs : p ≡ 0 = eqb-true p 0 parts.1 in
          let fifteen : lane start s p ≡ 15 = is ∙ ap (λ t. cond t 15 0) none in
          let melds_are : by.melds ≡ melds = omega arith in
          let paired_is : by.paired ≡ paired = same_pairs by.paired paired (omega arith) in
          record {
            is_target = subst (λ m. IsTarget room runs m paired target) melds_are (subst (λ q. IsTarget room runs by.melds q target) paired_is by.is_target);
            left_is = omega arith;
          }
      | inr more ↦ absurd (let nothing : lane start s p ≡ 0 = is ∙ ap (λ t. cond t 15 0) more in omega arith)
    ]

-- none fits where nothing is left
pub none_fits : (counts room : List ℕ) (runs : Bool) (start row : List ℕ) (melds : ℕ) (paired : Bool) → IsTable counts room runs start row → melds ≤ 4
    → lane row melds (pairs paired) ≡ 0 → (target : List ℕ) → IsTarget room runs melds paired target → ⊥
none_fits counts room runs start row melds paired is few none target fits =
    let by = target_leaves counts room runs start melds paired target is.is_start is.nine few fits in
    let one = pairs_few paired in
    let most = is.most.most melds (pairs paired) (15 - missing target counts) (omega arith) (omega arith) record { target = target; sets_after = 0; pairs_after = 0; by = by } in
    let bound = few_missing room counts runs melds paired target is.nine fits in
    omega arith

-- the fewest that a target misses
pub fewest : (counts room : List ℕ) (runs : Bool) (start row : List ℕ) (melds number : ℕ) (paired : Bool) → IsTable counts room runs start row → melds ≤ 4
    → lane row melds (pairs paired) ≢ 0 → number ≡ 15 - lane row melds (pairs paired) → IsLeast counts (IsTarget room runs melds paired) number
fewest counts room runs start row melds number paired is few some number_is =
    let one = pairs_few paired in
    record {
      some = elim (is.most.some melds (pairs paired) (omega arith) (omega arith)) [
        | inl none ↦ absurd (some none)
        | inr leaves ↦
            let whole = leaves_target counts room runs start melds paired (lane row melds (pairs paired)) leaves.target leaves.sets_after leaves.pairs_after is.is_start few (omega arith) leaves.by in
            (leaves.target, (whole.is_target, (let e = whole.left_is in omega arith)))
      ];
      least = λ other fits.
          let by = target_leaves counts room runs start melds paired other is.is_start is.nine few fits in
          let most = is.most.most melds (pairs paired) (15 - missing other counts) (omega arith) (omega arith) record { target = other; sets_after = 0; pairs_after = 0; by = by } in
          omega arith;
    }

-- the choice is the nearest target
pub nearest_chosen : (counts room : List ℕ) (runs : Bool) (start row : List ℕ) (melds number : ℕ) (paired : Bool) (target : List ℕ) (s p : ℕ) → IsTable counts room runs start row
    → melds ≤ 4 → lane row melds (pairs paired) ≢ 0 → number ≡ 15 - lane row melds (pairs paired)
    → IsChosen counts room runs start melds (pairs paired) (lane row melds (pairs paired)) target s p → IsNearest counts (IsTarget room runs melds paired) number target
nearest_chosen counts room runs start row melds number paired target s p is few some number_is chosen =
    let whole = leaves_target counts room runs start melds paired (lane row melds (pairs paired)) target s p is.is_start few (omega arith) chosen.is in
    record {
      is_one = whole.is_target;
      number_is = (let e = whole.left_is in omega arith);
      least = (fewest counts room runs start row melds number paired is few some number_is).least;
      greatest = λ other fits level.
          let by = target_leaves counts room runs start melds paired other is.is_start is.nine few fits in
          let left : 15 - missing other counts ≡ lane row melds (pairs paired) = (let e = whole.left_is in omega arith) in
          chosen.greatest other 0 0 (subst (λ l. LeavesBy counts room runs start melds (pairs paired) l other 0 0) left by);
    }

-- that none fits, the fewest and the nearest target, by the lane that is read
pub none_read : (suit : Suit) (counts room : List ℕ) (runs : Bool) (start row : List ℕ) (melds p left : ℕ) (paired : Bool) → suit_of counts room runs ≡ suit
    → IsTable counts room runs start row → melds ≤ 4 → p ≡ pairs paired → left ≡ lane row melds p → left ≡ 0 → (target : List ℕ) → IsTarget suit.room suit.runs melds paired target → ⊥
none_read suit counts room runs start row melds p left paired same is few pair read none =
    subst (λ s. (target : List ℕ) → IsTarget s.room s.runs melds paired target → ⊥) same
    (none_fits counts room runs start row melds paired is few (ap (lane row melds) (sym pair) ∙ sym read ∙ none))

pub fewest_read : (suit : Suit) (counts room : List ℕ) (runs : Bool) (start row : List ℕ) (melds p left : ℕ) (paired : Bool) → suit_of counts room runs ≡ suit
    → IsTable counts room runs start row → melds ≤ 4 → p ≡ pairs paired → left ≡ lane row melds p → left ≢ 0 → IsLeast suit.counts (IsTarget suit.room suit.runs melds paired) (15 - left)
fewest_read suit counts room runs start row melds p left paired same is few pair read some =
    let lane_is : left ≡ lane row melds (pairs paired) = read ∙ ap (lane row melds) pair in
    subst (λ s. IsLeast s.counts (IsTarget s.room s.runs melds paired) (15 - left)) same
    (fewest counts room runs start row melds (15 - left) paired is few (λ none. some (lane_is ∙ none)) (ap (λ l. 15 - l) lane_is))

pub nearest_read : (suit : Suit) (counts room : List ℕ) (runs : Bool) (start row : List ℕ) (melds p left : ℕ) (paired : Bool) (target : List ℕ) (s q : ℕ)
    → suit_of counts room runs ≡ suit → IsTable counts room runs start row → melds ≤ 4 → p ≡ pairs paired → left ≡ lane row melds p
    → (0 < lane row melds p) × IsChosen counts room runs start melds p (lane row melds p) target s q → IsNearest suit.counts (IsTarget suit.room suit.runs melds paired) (15 - left) target
nearest_read suit counts room runs start row melds p left paired target s q same is few pair read chosen =
    let lane_is : left ≡ lane row melds (pairs paired) = read ∙ ap (lane row melds) pair in
    let some : lane row melds (pairs paired) ≢ 0 = λ none. (let c = chosen.0 in let e : lane row melds p ≡ lane row melds (pairs paired) = ap (lane row melds) pair in omega arith) in
    subst (λ s. IsNearest s.counts (IsTarget s.room s.runs melds paired) (15 - left) target) same
    (nearest_chosen counts room runs start row melds (15 - left) paired target s q is few some (ap (λ l. 15 - l) lane_is)
    (subst (λ p. IsChosen counts room runs start melds p (lane row melds p) target s q) pair chosen.1))

-- an answer for a suit is one for its counts, its room and its runs
pub same_suit : (suit : Suit) (counts room : List ℕ) (runs : Bool) (melds : ℕ) (paired : Bool) (best : Option (ℕ × List ℕ)) → suit ≡ suit_of counts room runs
    → MatchOption best ((target : List ℕ) → IsTarget suit.room suit.runs melds paired target → ⊥) (λ answer. IsNearest suit.counts (IsTarget suit.room suit.runs melds paired) answer.0 answer.1)
    → MatchOption best ((target : List ℕ) → IsTarget room runs melds paired target → ⊥) (λ answer. IsNearest counts (IsTarget room runs melds paired) answer.0 answer.1)
same_suit suit counts room runs melds paired best same is =
    subst (λ s. MatchOption best ((target : List ℕ) → IsTarget s.room s.runs melds paired target → ⊥) (λ answer. IsNearest s.counts (IsTarget s.room s.runs melds paired) answer.0 answer.1)) same is

-- ---- how many tiles a target has

ends_tiles : (runs : Bool) (room : List ℕ) (before earlier s p : ℕ) (tiles : List ℕ) → Ends runs room before earlier s p tiles → missing tiles [] ≡ 3 * s + 2 * p + 2 * before + earlier
ends_tiles runs [] before earlier s p tiles ends =
    (let e : missing tiles [] ≡ 0 = ap (λ t. missing t []) ends.1.1.1.1 in let a = ends.0 in let b = ends.1.0 in let c = ends.1.1.0 in let d = ends.1.1.1.0 in omega arith)
ends_tiles runs (most ∷ room) before earlier s p tiles goes =
    let rest = ends_tiles runs room goes.begin before goes.sets_later goes.pairs_later goes.rest goes.more in
    let e : missing tiles [] ≡ (before + earlier + (goes.begin + 3 * goes.triplets + 2 * goes.pairs_here)) + missing goes.rest [] = ap (λ t. missing t []) goes.tiles_are in
    let sets = goes.sets_are in
    let pairs_are = goes.pairs_are in
    omega arith

-- the tiles of a target say how many sets and pairs it has
pub same_tiles : (room : List ℕ) (runs : Bool) (melds others : ℕ) (paired other : Bool) (target : List ℕ) → length room ≡ 9 → IsTarget room runs melds paired target
    → IsTarget room runs others other target → (melds ≡ others) × (pairs paired ≡ pairs other)
same_tiles room runs melds others paired other target nine first second =
    let a = ends_tiles runs room 0 0 melds (pairs paired) target (target_ends room runs melds paired target nine first) in
    let b = ends_tiles runs room 0 0 others (pairs other) target (target_ends room runs others other target nine second) in
    let c = pairs_few paired in
    let d = pairs_few other in
    (omega arith, omega arith)
