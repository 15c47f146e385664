-- The choice from number to number.
use Rattle.std.proofs.Common.{◌≡◌, ◌≢◌, ◌⊎◌, ◌&&◌, eqb, cond, ℕ, suc, ◌+◌, ◌-◌, ◌*◌, ◌/◌, ◌%◌, ◌<◌, ◌≤◌, Bool, true, false, Option, None, Some, List, [], ◌∷◌}
use Rattle.std.proofs.Common.{◌++◌, take, drop, set, length, get_or, refl, sym, subst, ap, ap₂, ◌∙◌, inl, inr, arith, append_assoc, append-nil, Greater}
use Rattle.std.specs.Prelude.{MatchOption}
use Rattle.std.specs.Ordering.{nat_cmp}
use Rattle.std.specs.Cmp.Lexicographic.{slice_cmp}
use Rattle.std.proofs.lemmas.Bool.{cases_lt, cases_eq, cases_Bool, cases_order, and_parts, eqb-true}
use Rattle.std.proofs.lemmas.List.{length-set}
use Rattle.std.proofs.Math.Seq.{take-suc-set}
use Rattle.mj_suits.specs.Rows.{lane, Holds, stepped, walked, IsFew}
use Rattle.mj_suits.specs.Inner.Walked.{row_at, AreRows}
use Rattle.std.specs.Prelude.{is_some}
use Rattle.mj_suits.specs.Targets.{missing, IsTarget}
use Rattle.mj_suits.specs.Sets.{counts_of, tiles_of_sets, tiles_of_pair}
use Rattle.mj_suits.specs.declared.sets.SuitSet.{SuitSet}
use Rattle.mj_suits.specs.Inner.Ends.{Goes, Ends}
use Rattle.mj_suits.specs.Inner.Choosing.{rooms, helds, IsState, AreLevels, AreNumbers, Goes_on, By, ByBegin, ByTiles, tiles_at, IsBegin, MayBegin, LeavesAsMany}
use Rattle.mj_suits.specs.Inner.Choosing.{sets_alone, with_pair, IsTooMany, IsWay, InWays, NoWay, AreWays, AreMostWays, next_of, IsPlan, IsGreatest, GreaterOf}
use Rattle.mj_suits.specs.declared.choosing.Aim.{Aim}
use Rattle.mj_suits.specs.declared.choosing.Level.{Level}
use Rattle.mj_suits.specs.declared.choosing.Plan.{Plan}
use Rattle.mj_suits.specs.declared.choosing.Begin.{Begin}
use Rattle.mj_suits.specs.declared.choosing.Ways.{Ways}
use Rattle.mj_suits.specs.declared.choosing.Choice.{Choice}
use Rattle.mj_suits.specs.declared.walk.Rows.{Rows}
use Rattle.mj_suits.specs.declared.row.Row.{Row}
use Rattle.mj_suits.proofs.Rows.{walked_at, walked_past}
use Rattle.mj_suits.proofs.Ends.{fewer_runs}
use Rattle.mj_suits.proofs.Best.{OfFour, step_bound, walked_bound, walked_few, walked_reached}
use Rattle.mj_suits.proofs.Comparing.{cmp_after, cmp_head, cmp_lesser, not_greater-trans, not_greater-less, not_greater-same}
use Rattle.mj_suits.specs.Left.{pairs, LeavesBy, LeavesMost, IsChosen}
use Rattle.mj_suits.proofs.Made.{target_ends}
use Rattle.mj_suits.proofs.Nine.{nine_of, nine_are, leaves_by, leaves_most_of}

-- ---- past the highest number

pub nothing_more : (aim : Aim) (plan : Plan) (chosen : List ℕ) (choice : Choice) → length chosen ≡ 9 → IsPlan aim [] plan → choice.target ≡ chosen → choice.sets ≡ plan.sets
    → choice.pairs ≡ plan.pairs → IsGreatest (By aim [] plan) (take plan.number chosen) choice
nothing_more aim plan chosen choice nine is target sets pairs =
    let at_end : plan.number ≡ 9 = (let e = is.number_is in omega arith) in
    let whole : take plan.number chosen ≡ chosen = ap (λ n. take n chosen) (at_end ∙ sym nine) ∙ take-all chosen in
    elim (cases_Bool ((eqb plan.before 0) && (eqb plan.earlier 0))) [
      | inl none ↦
          let parts : (eqb plan.before 0 ≡ true) × (eqb plan.earlier 0 ≡ true) = and_parts (eqb plan.before 0) (eqb plan.earlier 0) none in
          let left : lane aim.after.lanes plan.sets plan.pairs ≡ plan.left =
          sym (walked_past aim.runs (lane aim.after.lanes) [] plan.before plan.earlier plan.sets plan.pairs ∙ ap (λ t. cond t (lane aim.after.lanes plan.sets plan.pairs) 0) none) ∙ is.left_is in
          record {
            rest = [];
            target_is = target ∙ sym whole ∙ sym (append-nil (take plan.number chosen));
            is = record {
              sets_here = 0;
              pairs_here = 0;
              ends = (eqb-true plan.before 0 parts.0, (eqb-true plan.earlier 0 parts.1, (refl, (refl, refl))));
              sets_are = sym sets ∙ omega arith;
              pairs_are = sym pairs ∙ omega arith;
              left_is = ap₂ (lane aim.after.lanes) sets pairs ∙ left ∙ omega arith;
            };
            greatest = λ other s p by. subst (λ t. slice_cmp nat_cmp t [] ≢ Greater) (sym by.ends.1.1.1.1) (not_greater-same []);
          }
      | inr under_way ↦ absurd (let zero_left : walked aim.runs (lane aim.after.lanes) [] [] plan.before plan.earlier plan.sets plan.pairs ≡ 0 =
          walked_past aim.runs (lane aim.after.lanes) [] plan.before plan.earlier plan.sets plan.pairs ∙ ap (λ t. cond t (lane aim.after.lanes plan.sets plan.pairs) 0) under_way in
          let l = is.left_is in let s = is.some in omega arith)
    ]
  where
    take-all : (xs : List ℕ) → take (length xs) xs ≡ xs
    take-all [] = refl
    take-all (x ∷ xs) = ap (λ ys. x ∷ ys) (take-all xs)

-- ---- what begins at a number

of_four : (aim : Aim) (levels : List Level) → AreLevels aim levels → OfFour (rooms levels)
of_four aim [] are = tt
of_four aim (level ∷ levels) are = (are.0, of_four aim levels are.1.1)

pub same_rooms : (levels : List Level) → length (rooms levels) ≡ length levels
same_rooms [] = refl
same_rooms (level ∷ levels) = ap suc (same_rooms levels)

pub same_length : (levels : List Level) → length (rooms levels) ≡ length (helds levels)
same_length [] = refl
same_length (level ∷ levels) = ap suc (same_length levels)

state_next : (runs : Bool) (before earlier begin : ℕ) → IsState runs before earlier → begin < 3 → (runs ≡ false → begin ≡ 0) → IsState runs begin before
state_next true before earlier begin state few only = (few, state.0)
state_next false before earlier begin state few only = (only refl, state.0)

-- the plan where these begin is a plan for the numbers after
pub next_is : (aim : Aim) (level : Level) (others : List Level) (plan next : Plan) (begin : Begin) (row : List ℕ) → IsPlan aim (level ∷ others) plan → IsBegin begin
    → MayBegin aim level plan begin → row ≡ row_at level.rows begin.runs plan.before
    → next.number ≡ plan.number + 1 → next.before ≡ begin.runs → next.earlier ≡ plan.before → next.sets ≡ plan.sets - (begin.runs + begin.triplets)
    → next.pairs ≡ plan.pairs - begin.pairs → next.left ≡ lane row next.sets next.pairs → next.left ≡ plan.left + (tiles_at plan begin - level.held) → IsPlan aim others next
next_is aim level others plan next begin row is begins may row_is number before earlier sets pairs left enough =
    let runs_few : begin.runs < 3 = (let r = begins.runs_few in omega arith) in
    let state : IsState aim.runs begin.runs plan.before = state_next aim.runs plan.before plan.earlier begin.runs is.state runs_few may.only in
    let sets_few : next.sets < 8 = (let s = is.sets_few in omega arith) in
    let pairs_few : next.pairs < 2 = (let s = is.pairs_few in omega arith) in
    let held : lane row next.sets next.pairs ≡ walked aim.runs (lane aim.after.lanes) (rooms others) (helds others) begin.runs plan.before next.sets next.pairs =
    subst (λ r. lane r next.sets next.pairs ≡ walked aim.runs (lane aim.after.lanes) (rooms others) (helds others) begin.runs plan.before next.sets next.pairs) (sym row_is)
    ((is.levels_are.1.0 begin.runs plan.before state).at next.sets next.pairs sets_few pairs_few) in
    let few : walked aim.runs (lane aim.after.lanes) (rooms others) (helds others) begin.runs plan.before next.sets next.pairs ≤ 15 =
    walked_few aim.runs (lane aim.after.lanes) is.few (rooms others) (helds others) begin.runs plan.before next.sets next.pairs sets_few pairs_few in
    record {
      levels_are = is.levels_are.1.1;
      few = is.few;
      state = subst (λ b. IsState aim.runs b next.earlier) (sym before) (subst (λ e. IsState aim.runs begin.runs e) (sym earlier) state);
      number_is = (let n = is.number_is in omega arith);
      sets_few = sets_few;
      pairs_few = pairs_few;
      left_is = ap₂ (λ b e. walked aim.runs (lane aim.after.lanes) (rooms others) (helds others) b e next.sets next.pairs) before earlier ∙ sym held ∙ sym left;
      some = (let s = is.some in omega arith);
      left_few = omega arith;
      before_few = omega arith;
      earlier_few = (let b = is.before_few in omega arith);
    }

-- where these begin the rows leave as many
pub begins_leave : (aim : Aim) (level : Level) (others : List Level) (plan : Plan) (begin : Begin) → IsPlan aim (level ∷ others) plan → IsBegin begin
    → (tiles : List ℕ) (sets pairs : ℕ) → ByBegin aim level others plan begin tiles sets pairs → LeavesAsMany aim level plan begin
begins_leave aim level others plan begin is begins tiles sets pairs by =
    let more = by.more in
    let may = by.may in
    let runs_few : begin.runs < 3 = (let r = begins.runs_few in omega arith) in
    let state : IsState aim.runs begin.runs plan.before = state_next aim.runs plan.before plan.earlier begin.runs is.state runs_few may.only in
    let s : ℕ = plan.sets - (begin.runs + begin.triplets) in
    let p : ℕ = plan.pairs - begin.pairs in
    let held : lane (row_at level.rows begin.runs plan.before) s p ≡ walked aim.runs (lane aim.after.lanes) (rooms others) (helds others) begin.runs plan.before s p =
    (is.levels_are.1.0 begin.runs plan.before state).at s p (let f = is.sets_few in omega arith) (let f = is.pairs_few in omega arith) in
    let bound : lane aim.after.lanes sets pairs ≤ walked aim.runs (lane aim.after.lanes) (rooms others) (helds others) begin.runs plan.before (more.sets_here + sets)
    (more.pairs_here + pairs) + missing by.rest (helds others) =
    walked_bound aim.runs (lane aim.after.lanes) (rooms others) (helds others) begin.runs plan.before more.sets_here more.pairs_here by.rest (same_length others)
    (of_four aim others is.levels_are.1.1) more.ends sets pairs (let e = more.pairs_are in let f = is.pairs_few in omega arith) in
    let same : walked aim.runs (lane aim.after.lanes) (rooms others) (helds others) begin.runs plan.before (more.sets_here + sets) (more.pairs_here + pairs) ≡ walked aim.runs
    (lane aim.after.lanes) (rooms others) (helds others) begin.runs plan.before s p =
    ap₂ (walked aim.runs (lane aim.after.lanes) (rooms others) (helds others) begin.runs plan.before) (sym more.sets_are) (sym more.pairs_are) in
    let step : walked aim.runs (lane aim.after.lanes) (rooms others) (helds others) begin.runs plan.before s p ≤ stepped aim.runs level.held level.room
    (walked aim.runs (lane aim.after.lanes) (rooms others) (helds others)) plan.before plan.earlier plan.sets plan.pairs + (tiles_at plan begin - level.held) =
    step_bound aim.runs (walked aim.runs (lane aim.after.lanes) (rooms others) (helds others)) level.held level.room plan.before plan.earlier plan.sets plan.pairs begin.runs
    begin.triplets begin.pairs is.levels_are.0 begins.runs_few begins.one may.within may.only may.sets may.pairs in
    let whole : stepped aim.runs level.held level.room (walked aim.runs (lane aim.after.lanes) (rooms others) (helds others)) plan.before plan.earlier plan.sets plan.pairs ≡ plan.left =
    sym (walked_at aim.runs (lane aim.after.lanes) level.room level.held (rooms others) (helds others) plan.before plan.earlier plan.sets plan.pairs) ∙ is.left_is in
    record {
      may = may;
      left_is = equal _ _ _ _ _ _ _ _ refl held bound same step whole more.left_is;
    }
  where
    equal : (left row here here' spare missed whole cost : ℕ) → left ≡ row → row ≡ here' → spare ≤ here + missed → here ≡ here' → here' ≤ whole + cost → whole ≡ plan.left
        → spare ≡ (plan.left + cost) + missed → left ≡ plan.left + cost
    equal left row here here' spare missed whole cost a b c d e f g = omega arith

-- the choice for the numbers after, with the tiles that begin here
pub begins_greatest : (aim : Aim) (level : Level) (others : List Level) (plan next : Plan) (chosen later : List ℕ) (begin : Begin) (choice : Choice) → length chosen ≡ 9
    → IsPlan aim (level ∷ others) plan → MayBegin aim level plan begin
    → later ≡ set chosen plan.number (tiles_at plan begin) → next.number ≡ plan.number + 1 → next.before ≡ begin.runs → next.earlier ≡ plan.before
    → next.sets ≡ plan.sets - (begin.runs + begin.triplets) → next.pairs ≡ plan.pairs - begin.pairs → next.left ≡ plan.left + (tiles_at plan begin - level.held)
    → IsGreatest (By aim others next) (take next.number later) choice → IsGreatest (ByBegin aim level others plan begin) (take plan.number chosen) choice
begins_greatest aim level others plan next chosen later begin choice nine is may target number before earlier sets pairs left greatest = record {
  rest = tiles_at plan begin ∷ greatest.rest;
  target_is = greatest.target_is ∙ ap (λ front. front ++ greatest.rest) front_is ∙ append_assoc (take plan.number chosen) (tiles_at plan begin ∷ []) greatest.rest;
  is = record {
    rest = greatest.rest;
    tiles_are = refl;
    may = may;
    more = to greatest.rest choice.sets choice.pairs greatest.is;
  };
  greatest = λ other s p by. subst (λ t. slice_cmp nat_cmp t (tiles_at plan begin ∷ greatest.rest) ≢ Greater) (sym by.tiles_are)
      (subst (λ o. o ≢ Greater) (sym (cmp_head (tiles_at plan begin) by.rest greatest.rest)) (greatest.greatest by.rest s p (from by.rest s p by.more)));
}
  where
    Here : ℕ → ℕ → ℕ → ℕ → ℕ → List ℕ → ℕ → ℕ → Type 0
    Here b e s p l = Goes_on aim others b e s p l

    front_is : take next.number later ≡ take plan.number chosen ++ tiles_at plan begin ∷ []
    front_is = (let after : next.number ≡ suc plan.number = number ∙ omega arith in ap₂ take after target) ∙ take-suc-set chosen plan.number (tiles_at plan begin) (let n = is.number_is in omega arith)

    to : (t : List ℕ) (s p : ℕ) → By aim others next t s p
        → Goes_on aim others begin.runs plan.before (plan.sets - (begin.runs + begin.triplets)) (plan.pairs - begin.pairs) (plan.left + (tiles_at plan begin - level.held)) t s p
    to t s p by = record {
      sets_here = by.sets_here;
      pairs_here = by.pairs_here;
      ends = subst (λ b. Ends aim.runs (rooms others) b plan.before by.sets_here by.pairs_here t) before
          (subst (λ e. Ends aim.runs (rooms others) next.before e by.sets_here by.pairs_here t) earlier by.ends);
      sets_are = sym sets ∙ by.sets_are;
      pairs_are = sym pairs ∙ by.pairs_are;
      left_is = by.left_is ∙ ap (λ l. l + missing t (helds others)) left;
    }

    from : (t : List ℕ) (s p : ℕ) → Goes_on aim others begin.runs plan.before (plan.sets - (begin.runs + begin.triplets)) (plan.pairs - begin.pairs)
        (plan.left + (tiles_at plan begin - level.held)) t s p → By aim others next t s p
    from t s p by = record {
      sets_here = by.sets_here;
      pairs_here = by.pairs_here;
      ends = subst (λ b. Ends aim.runs (rooms others) b next.earlier by.sets_here by.pairs_here t) (sym before)
          (subst (λ e. Ends aim.runs (rooms others) begin.runs e by.sets_here by.pairs_here t) (sym earlier) by.ends);
      sets_are = sets ∙ by.sets_are;
      pairs_are = pairs ∙ by.pairs_are;
      left_is = by.left_is ∙ ap (λ l. l + missing t (helds others)) (sym left);
    }

-- ---- the choices for so many tiles

-- runs and a pair
pub pair_begins : (tiles : ℕ) → 2 ≤ tiles → tiles ≤ 4 → IsBegin (with_pair tiles)
pair_begins tiles two four = record { runs_few = omega arith; one = omega arith; four = omega arith }

merged : (P Q R : List ℕ → ℕ → ℕ → Type 0) (front : List ℕ) (one other : Choice) → ((t : List ℕ) (s p : ℕ) → P t s p → R t s p) → ((t : List ℕ) (s p : ℕ) → R t s p → P t s p ⊎ Q t s p)
    → IsGreatest P front one → IsGreatest Q front other → slice_cmp nat_cmp other.target one.target ≢ Greater → IsGreatest R front one
merged P Q R front one other to cases first second order =
    let rests : slice_cmp nat_cmp second.rest first.rest ≢ Greater =
    subst (λ o. o ≢ Greater) (ap₂ (slice_cmp nat_cmp) second.target_is first.target_is ∙ cmp_after (front) second.rest first.rest) order in
    record {
      rest = first.rest;
      target_is = first.target_is;
      is = to first.rest one.sets one.pairs first.is;
      greatest = λ t s p r. elim (cases t s p r) [
        | inl left ↦ first.greatest t s p left
        | inr right ↦ not_greater-trans t second.rest first.rest (second.greatest t s p right) rests
      ];
    }

-- the greatest of a property is the greatest of one that holds of as much
same_greatest : (P R : List ℕ → ℕ → ℕ → Type 0) (front : List ℕ) (choice : Choice) → ((t : List ℕ) (s p : ℕ) → P t s p → R t s p) → ((t : List ℕ) (s p : ℕ) → R t s p → P t s p)
    → IsGreatest P front choice → IsGreatest R front choice
same_greatest P R front choice to from is = record {
  rest = is.rest;
  target_is = is.target_is;
  is = to is.rest choice.sets choice.pairs is.is;
  greatest = λ t s p r. is.greatest t s p (from t s p r);
}

-- the greater of the choices by two properties
pub greater_choice : (P Q : List ℕ → ℕ → ℕ → Type 0) (front : List ℕ) (one other result : Choice) → IsGreatest P front one → IsGreatest Q front other → GreaterOf one other result
    → IsGreatest (λ t s p. P t s p ⊎ Q t s p) front result
greater_choice P Q front one other result a b (inl kept) = subst (λ c. IsGreatest (λ t s p. P t s p ⊎ Q t s p) front c) (sym kept.0)
    (merged P Q (λ t s p. P t s p ⊎ Q t s p) front one other (λ t s p by. inl by) (λ t s p by. by) a b kept.1)
greater_choice P Q front one other result a b (inr kept) = subst (λ c. IsGreatest (λ t s p. P t s p ⊎ Q t s p) front c) (sym kept.0)
    (merged Q P (λ t s p. P t s p ⊎ Q t s p) front other one (λ t s p by. inr by) (λ t s p by. elim by [ inl x ↦ inr x | inr y ↦ inl y ]) b a kept.1)

-- ---- the ways with so many tiles

pub alone_begins : (tiles : ℕ) → tiles ≤ 4 → IsBegin (sets_alone tiles)
alone_begins tiles four = record { runs_few = omega arith; one = omega arith; four = omega arith }

-- the sets alone, where a pair does not leave as many or has no room
pub alone_ways : (aim : Aim) (level : Level) (others : List Level) (plan : Plan) (tiles : ℕ) → tiles ≤ 4 → (2 ≤ tiles → LeavesAsMany aim level plan (with_pair tiles) → ⊥)
    → IsPlan aim (level ∷ others) plan → LeavesAsMany aim level plan (sets_alone tiles)
    → AreWays aim level others plan tiles (record { first = sets_alone tiles; second = None })
alone_ways aim level others plan tiles four no_pair is leaves = record {
  first = record { is_begin = alone_begins tiles four; leaves = leaves };
  second = tt;
  all = λ t s p by. elim by [
    | inl alone ↦ alone
    | inr pair ↦ absurd (no_pair pair.0 (begins_leave aim level others plan (with_pair tiles) is (pair_begins tiles pair.0 four) t s p pair.1))
  ];
  each = λ t s p by. inl by;
}

pub pair_ways : (aim : Aim) (level : Level) (others : List Level) (plan : Plan) (tiles : ℕ) → 2 ≤ tiles → tiles ≤ 4 → (LeavesAsMany aim level plan (sets_alone tiles) → ⊥)
    → IsPlan aim (level ∷ others) plan → LeavesAsMany aim level plan (with_pair tiles)
    → AreWays aim level others plan tiles (record { first = with_pair tiles; second = None })
pair_ways aim level others plan tiles two four not_alone is leaves = record {
  first = record { is_begin = pair_begins tiles two four; leaves = leaves };
  second = tt;
  all = λ t s p by. elim by [
    | inl alone ↦ absurd (not_alone (begins_leave aim level others plan (sets_alone tiles) is (alone_begins tiles four) t s p alone))
    | inr pair ↦ pair.1
  ];
  each = λ t s p by. inr (two, by);
}

pub both_ways : (aim : Aim) (level : Level) (others : List Level) (plan : Plan) (tiles : ℕ) → 2 ≤ tiles → tiles ≤ 4 → LeavesAsMany aim level plan (sets_alone tiles)
    → LeavesAsMany aim level plan (with_pair tiles)
    → AreWays aim level others plan tiles (record { first = sets_alone tiles; second = Some (with_pair tiles) })
both_ways aim level others plan tiles two four alone_leaves pair_leaves = record {
  first = record { is_begin = alone_begins tiles four; leaves = alone_leaves };
  second = record { is_begin = pair_begins tiles two four; leaves = pair_leaves };
  all = λ t s p by. elim by [ inl alone ↦ inl alone | inr pair ↦ inr pair.1 ];
  each = λ t s p by. elim by [ inl alone ↦ inl alone | inr pair ↦ inr (two, pair) ];
}

-- neither leaves as many
pub no_ways : (aim : Aim) (level : Level) (others : List Level) (plan : Plan) (tiles : ℕ) → tiles ≤ 4 → (2 ≤ tiles → LeavesAsMany aim level plan (with_pair tiles) → ⊥)
    → (LeavesAsMany aim level plan (sets_alone tiles) → ⊥) → IsPlan aim (level ∷ others) plan → NoWay aim level others plan tiles
no_ways aim level others plan tiles four no_pair not_alone is t s p by = elim by [
  | inl alone ↦ not_alone (begins_leave aim level others plan (sets_alone tiles) is (alone_begins tiles four) t s p alone)
  | inr pair ↦ no_pair pair.0 (begins_leave aim level others plan (with_pair tiles) is (pair_begins tiles pair.0 four) t s p pair.1)
]

-- with so many tiles there is none, and with more there is none
pub no_more : (P : ℕ → Type 0) (tiles : ℕ) → P (tiles + 1) → ((more : ℕ) → tiles + 2 ≤ more → more ≤ 4 → P more) → (more : ℕ) → tiles + 1 ≤ more → more ≤ 4 → P more
no_more P tiles here above more least few = elim (cases_eq more (tiles + 1)) [
  | inl same ↦ subst P (sym same) here
  | inr other ↦ above more (omega arith) few
]

-- what is answered where the sets alone are asked last
pub alone_answer : (aim : Aim) (level : Level) (others : List Level) (plan : Plan) (tiles : ℕ) (begin : Begin) (result : Option Ways) → tiles ≤ 4 → begin ≡ sets_alone tiles
    → (2 ≤ tiles → LeavesAsMany aim level plan (with_pair tiles) → ⊥) → IsPlan aim (level ∷ others) plan
    → MatchOption result (LeavesAsMany aim level plan begin → ⊥) (λ ways. (ways ≡ record { first = begin; second = None }) × LeavesAsMany aim level plan begin)
    → MatchOption result (NoWay aim level others plan tiles) (AreWays aim level others plan tiles)
alone_answer aim level others plan tiles begin None four begin_is no_pair is none = no_ways aim level others plan tiles four no_pair (subst (λ b. LeavesAsMany aim level plan b → ⊥) begin_is none) is
alone_answer aim level others plan tiles begin (Some ways) four begin_is no_pair is some =
    subst (AreWays aim level others plan tiles) (sym (some.0 ∙ ap (λ b. let w : Ways = record { first = b; second = None } in w) begin_is))
    (alone_ways aim level others plan tiles four no_pair is (subst (LeavesAsMany aim level plan) begin_is some.1))

-- ---- all choices at a number

-- with so many tiles more than fifteen would have been there, or more sets and pairs are made than are still to be
pub too_many : (aim : Aim) (level : Level) (others : List Level) (plan : Plan) → IsPlan aim (level ∷ others) plan → (many : ℕ) → IsTooMany level plan many
    → (tiles : List ℕ) (sets pairs : ℕ) → ByTiles aim level others plan many tiles sets pairs → ⊥
too_many aim level others plan is many costs tiles sets pairs by = elim by [
  | inl alone ↦ past (sets_alone many) (omega arith) (omega arith) alone
  | inr pair ↦ past (with_pair many) (let two : 2 ≤ many = pair.0 in omega arith) (let two : 2 ≤ many = pair.0 in omega arith) pair.1
]
  where
    past : (begin : Begin) → tiles_at plan begin ≡ plan.before + plan.earlier + many → many ≤ 3 * (begin.runs + begin.triplets) + 2 * begin.pairs
        → ByBegin aim level others plan begin tiles sets pairs → ⊥
    past begin at made h =
        let more = h.more in
        let few : lane aim.after.lanes sets pairs ≤ 15 =
        is.few sets pairs (let a = more.sets_are in let f = is.sets_few in omega arith) (let a = more.pairs_are in let f = is.pairs_few in omega arith) in
        let left = more.left_is in
        let may_sets = h.may.sets in
        let may_pairs = h.may.pairs in
        elim costs [
          | inl none_left ↦ omega arith
          | inr none_wanted ↦ omega arith
        ]

-- so many tiles begin, and the choice is one for so many
record ForSome (aim : Aim) (level : Level) (others : List Level) (plan : Plan) (tiles : List ℕ) (sets pairs : ℕ) : Type 0 where
  pub many : ℕ
  pub few : many ≤ 4
  pub by : ByTiles aim level others plan many tiles sets pairs

-- what goes on from the number, by what begins there
by_goes : (aim : Aim) (level : Level) (others : List Level) (plan : Plan) (tiles : List ℕ) (sets pairs : ℕ) → IsPlan aim (level ∷ others) plan → (sets_here pairs_here : ℕ)
    → plan.sets ≡ sets_here + sets → plan.pairs ≡ pairs_here + pairs → lane aim.after.lanes sets pairs ≡ plan.left + missing tiles (level.held ∷ helds others)
    → (goes : Goes aim.runs (Ends aim.runs (rooms others)) level.room plan.before plan.earlier sets_here pairs_here tiles) → goes.begin ≤ 2 → ForSome aim level others plan tiles sets pairs
by_goes aim level others plan tiles sets pairs is sets_here pairs_here sets_are pairs_are left_is goes runs_few =
    let within : plan.before + plan.earlier + (goes.begin + 3 * goes.triplets + 2 * goes.pairs_here) ≤ level.room = goes.within in
    let of_four : level.room ≤ 4 = is.levels_are.0 in
    let sets_goes : sets_here ≡ goes.begin + goes.triplets + goes.sets_later = goes.sets_are in
    let pairs_goes : pairs_here ≡ goes.pairs_here + goes.pairs_later = goes.pairs_are in
    let one : plan.pairs < 2 = is.pairs_few in
    elim (cases_eq goes.pairs_here 0) [
      | inl none ↦ record {
        many = goes.begin + 3 * goes.triplets;
        few = omega arith;
        by = inl (subst (λ b. ByBegin aim level others plan b tiles sets pairs)
            (same_begin goes.begin goes.triplets goes.pairs_here ((goes.begin + 3 * goes.triplets) % 3) ((goes.begin + 3 * goes.triplets) / 3) 0 (omega arith) (omega arith) none) here);
      }
      | inr some ↦ record {
        many = goes.begin + 2;
        few = omega arith;
        by = inr (
          omega arith,
          subst (λ b. ByBegin aim level others plan b tiles sets pairs)
              (same_begin goes.begin goes.triplets goes.pairs_here (goes.begin + 2 - 2) 0 1 (omega arith) (omega arith) (omega arith)) here,
        );
      }
    ]
  where
    same_begin : (r t e r' t' e' : ℕ) → r ≡ r' → t ≡ t' → e ≡ e'
        → (let b : Begin = record { runs = r; triplets = t; pairs = e } in b) ≡ (let b : Begin = record { runs = r'; triplets = t'; pairs = e' } in b)
    same_begin r t e r' t' e' a b c = ap₂ (λ (x : ℕ) (y : ℕ × ℕ). let b : Begin = record { runs = x; triplets = y.0; pairs = y.1 } in b) a (ap₂ (λ y z. let p : ℕ × ℕ = (y, z) in p) b c)

    here : ByBegin aim level others plan (record { runs = goes.begin; triplets = goes.triplets; pairs = goes.pairs_here }) tiles sets pairs
    here =
        let sets_goes : sets_here ≡ goes.begin + goes.triplets + goes.sets_later = goes.sets_are in
        let pairs_goes : pairs_here ≡ goes.pairs_here + goes.pairs_later = goes.pairs_are in
        let missed : missing tiles (level.held ∷ helds others) ≡ (plan.before + plan.earlier + (goes.begin + 3 * goes.triplets + 2 * goes.pairs_here) - level.held) + missing goes.rest
        (helds others) = ap (λ t. missing t (level.held ∷ helds others)) goes.tiles_are in
        record {
          rest = goes.rest;
          tiles_are = goes.tiles_are;
          may = record { only = goes.only; sets = omega arith; pairs = omega arith; within = goes.within };
          more = record {
            sets_here = goes.sets_later;
            pairs_here = goes.pairs_later;
            ends = goes.more;
            sets_are = omega arith;
            pairs_are = omega arith;
            left_is = omega arith;
          };
        }

by_some : (aim : Aim) (level : Level) (others : List Level) (plan : Plan) → IsPlan aim (level ∷ others) plan → (tiles : List ℕ) (sets pairs : ℕ)
    → By aim (level ∷ others) plan tiles sets pairs → ForSome aim level others plan tiles sets pairs
by_some aim level others plan is tiles sets pairs by = elim (cases_lt by.ends.begin 3) [
  | inl few ↦ by_goes aim level others plan tiles sets pairs is by.sets_here by.pairs_here by.sets_are by.pairs_are by.left_is by.ends (omega arith)
  | inr many ↦
      let swapped = fewer_runs aim.runs (rooms others) level.room plan.before plan.earlier by.sets_here by.pairs_here tiles by.ends many in
      let three : swapped.0.begin + 3 ≡ by.ends.begin = swapped.1 in
      by_goes aim level others plan tiles sets pairs is by.sets_here by.pairs_here by.sets_are by.pairs_are by.left_is swapped.0 (let w = by.ends.within in let f = is.levels_are.0 in omega arith)
]

-- what begins at a number goes on from it
begin_by : (aim : Aim) (level : Level) (others : List Level) (plan : Plan) (begin : Begin) (tiles : List ℕ) (sets pairs : ℕ) → ByBegin aim level others plan begin tiles sets pairs
    → By aim (level ∷ others) plan tiles sets pairs
begin_by aim level others plan begin tiles sets pairs by =
    let s = by.may.sets in
    let p = by.may.pairs in
    let sets_are = by.more.sets_are in
    let pairs_are = by.more.pairs_are in
    let left = by.more.left_is in
    let missed : missing tiles (level.held ∷ helds others) ≡ (tiles_at plan begin - level.held) + missing by.rest (helds others) = ap (λ t. missing t (level.held ∷ helds others)) by.tiles_are in
    record {
      sets_here = begin.runs + begin.triplets + by.more.sets_here;
      pairs_here = begin.pairs + by.more.pairs_here;
      ends = record {
        begin = begin.runs;
        triplets = begin.triplets;
        pairs_here = begin.pairs;
        sets_later = by.more.sets_here;
        pairs_later = by.more.pairs_here;
        rest = by.rest;
        more = by.more.ends;
        only = by.may.only;
        sets_are = refl;
        pairs_are = refl;
        tiles_are = by.tiles_are;
        within = by.may.within;
      };
      sets_are = omega arith;
      pairs_are = omega arith;
      left_is = omega arith;
    }

tiles_by : (aim : Aim) (level : Level) (others : List Level) (plan : Plan) (many : ℕ) (tiles : List ℕ) (sets pairs : ℕ) → ByTiles aim level others plan many tiles sets pairs
    → By aim (level ∷ others) plan tiles sets pairs
tiles_by aim level others plan many tiles sets pairs (inl alone) = begin_by aim level others plan (sets_alone many) tiles sets pairs alone
tiles_by aim level others plan many tiles sets pairs (inr pair) = begin_by aim level others plan (with_pair many) tiles sets pairs pair.1

-- so many tiles stand at the number
record Head (tiles : List ℕ) (first : ℕ) : Type 0 where
  pub rest : List ℕ
  pub is : tiles ≡ first ∷ rest

head_of : (aim : Aim) (level : Level) (others : List Level) (plan : Plan) (many : ℕ) (tiles : List ℕ) (sets pairs : ℕ) → ByTiles aim level others plan many tiles sets pairs
    → Head tiles (plan.before + plan.earlier + many)
head_of aim level others plan many tiles sets pairs (inl alone) =
    record {
      rest = alone.rest;
      is =
          alone.tiles_are ∙ ap (λ n. n ∷ alone.rest) (let e : plan.before + plan.earlier + (many % 3 + 3 * (many / 3) + 2 * 0) ≡ plan.before + plan.earlier + many = omega arith in e);
    }
head_of aim level others plan many tiles sets pairs (inr pair) =
    record {
      rest = pair.1.rest;
      is =
          pair.1.tiles_are ∙ ap (λ n. n ∷ pair.1.rest)
          (let two : 2 ≤ many = pair.0 in let e : plan.before + plan.earlier + (many - 2 + 3 * 0 + 2 * 1) ≡ plan.before + plan.earlier + many = omega arith in e);
    }

-- the greatest for so many tiles, where none goes on from the number with more
pub most_tiles : (aim : Aim) (level : Level) (others : List Level) (plan : Plan) (many : ℕ) (front : List ℕ) (choice : Choice) → IsPlan aim (level ∷ others) plan
    → ((more : ℕ) → many + 1 ≤ more → more ≤ 4 → (t : List ℕ) (s p : ℕ) → ByTiles aim level others plan more t s p → ⊥)
    → IsGreatest (ByTiles aim level others plan many) front choice → IsGreatest (By aim (level ∷ others) plan) front choice
most_tiles aim level others plan many front choice is none greatest = record {
  rest = greatest.rest;
  target_is = greatest.target_is;
  is = tiles_by aim level others plan many greatest.rest choice.sets choice.pairs greatest.is;
  greatest = λ other s p by.
      let some = by_some aim level others plan is other s p by in
      elim (cases_order some.many many) [
        | inl same ↦ greatest.greatest other s p (subst (λ n. ByTiles aim level others plan n other s p) same some.by)
        | inr apart ↦ elim apart [
          | inl fewer ↦
              let mine = head_of aim level others plan many greatest.rest choice.sets choice.pairs greatest.is in
              let its = head_of aim level others plan some.many other s p some.by in
              not_greater-less other greatest.rest
              (ap₂ (slice_cmp nat_cmp) its.is mine.is ∙ cmp_lesser (plan.before + plan.earlier + some.many) (plan.before + plan.earlier + many) its.rest mine.rest (omega arith))
          | inr more ↦ absurd (none some.many (omega arith) some.few other s p some.by)
        ]
      ];
}

-- the greatest by the ways with the most tiles is the greatest of all
pub ways_greatest : (aim : Aim) (level : Level) (others : List Level) (plan : Plan) (front : List ℕ) (ways : Ways) (choice : Choice) → IsPlan aim (level ∷ others) plan
    → AreMostWays aim level others plan ways → IsGreatest (InWays aim level others plan ways.first ways.second) front choice → IsGreatest (By aim (level ∷ others) plan) front choice
ways_greatest aim level others plan front ways choice is most greatest = most_tiles aim level others plan most.tiles front choice is most.most
    (same_greatest (InWays aim level others plan ways.first ways.second) (ByTiles aim level others plan most.tiles) front choice most.are.each most.are.all greatest)

-- the plan after a way
pub next_plan_is : (aim : Aim) (level : Level) (others : List Level) (plan next : Plan) (begin : Begin) → IsPlan aim (level ∷ others) plan → IsWay aim level plan begin
    → next ≡ next_of level plan begin → IsPlan aim others next
next_plan_is aim level others plan next begin is way next_is_of = subst (IsPlan aim others) (sym next_is_of)
    (next_is aim level others plan (next_of level plan begin) begin (row_at level.rows begin.runs plan.before) is way.is_begin way.leaves.may refl refl refl refl refl refl
    (sym way.leaves.left_is) refl)

-- the greatest choice after a way is the greatest by it
pub way_greatest : (aim : Aim) (level : Level) (others : List Level) (plan next : Plan) (chosen later : List ℕ) (begin : Begin) (choice : Choice) → length chosen ≡ 9
    → IsPlan aim (level ∷ others) plan → IsWay aim level plan begin → next ≡ next_of level plan begin → later ≡ set chosen plan.number (tiles_at plan begin)
    → IsGreatest (By aim others next) (take next.number later) choice → IsGreatest (ByBegin aim level others plan begin) (take plan.number chosen) choice
way_greatest aim level others plan next chosen later begin choice nine is way next_is_of later_is greatest =
    begins_greatest aim level others plan (next_of level plan begin) chosen later begin choice nine is way.leaves.may later_is refl refl refl refl refl refl
    (subst (λ (n : Plan). IsGreatest (By aim others n) (take n.number later) choice) next_is_of greatest)

-- the greatest choice after the only way is the greatest of all
only_greatest : (aim : Aim) (level : Level) (others : List Level) (plan next : Plan) (chosen later : List ℕ) (ways : Ways) (choice : Choice) → length chosen ≡ 9
    → IsPlan aim (level ∷ others) plan → AreMostWays aim level others plan ways → ways.second ≡ None → next ≡ next_of level plan ways.first → later ≡ set chosen plan.number (tiles_at plan ways.first)
    → IsGreatest (By aim others next) (take next.number later) choice → IsGreatest (By aim (level ∷ others) plan) (take plan.number chosen) choice
only_greatest aim level others plan next chosen later ways choice nine is most only next_is_of later_is greatest = ways_greatest aim level others plan (take plan.number chosen) ways choice is most
    (subst (λ w. IsGreatest (InWays aim level others plan ways.first w) (take plan.number chosen) choice) (sym only)
    (way_greatest aim level others plan next chosen later ways.first choice nine is most.are.first next_is_of later_is greatest))

-- the first number and those after it
pub first_and_others : (levels : List Level) (none : Level) → 1 ≤ length levels → get_or levels 0 none ∷ take (length levels - 1) (drop 1 levels) ≡ levels
first_and_others [] none some = absurd (omega arith)
first_and_others (level ∷ levels) none some = ap (λ n. level ∷ take n levels) (let e : length (level ∷ levels) - 1 ≡ length levels = omega arith in e) ∙ ap (λ ls. level ∷ ls) (take-all levels)
  where
    take-all : (xs : List Level) → take (length xs) xs ≡ xs
    take-all [] = refl
    take-all (x ∷ xs) = ap (λ ys. x ∷ ys) (take-all xs)

-- what is chosen from the numbers that are left is what is chosen from the first one on
abbrev pub GoesOn : Aim → List Level → Plan → List ℕ → List Level → Plan → List ℕ → Type 0
GoesOn aim left next chosen levels plan target = (choice : Choice) → IsGreatest (By aim left next) (take next.number chosen) choice → IsGreatest (By aim levels plan) (take plan.number target) choice

-- after the only way at the first of them
pub only_goes_on : (aim : Aim) (level : Level) (others left levels : List Level) (plan next after : Plan) (target chosen later : List ℕ) (ways : Ways) → level ∷ others ≡ left
    → length chosen ≡ 9 → IsPlan aim left next → AreMostWays aim level others next ways → ways.second ≡ None → after ≡ next_of level next ways.first
    → later ≡ set chosen next.number (tiles_at next ways.first)
    → length left ≤ length levels → GoesOn aim left next chosen levels plan target
    → IsPlan aim others after × ((length later ≡ 9) × ((length others ≤ length levels) × GoesOn aim others after later levels plan target))
only_goes_on aim level others left levels plan next after target chosen later ways is nine plan_is most only after_is later_is few goes_on = (
  next_plan_is aim level others next after ways.first here most.are.first after_is,
  (
    ap length later_is ∙ length-set chosen next.number (tiles_at next ways.first) ∙ nine,
    (
      (let e : length left ≡ suc (length others) = ap length (sym is) in omega arith),
      λ choice greatest. goes_on choice (subst (λ ls. IsGreatest (By aim ls next) (take next.number chosen) choice) is
          (only_greatest aim level others next after chosen later ways choice nine here most only after_is later_is greatest)),
    ),
  ),
)
  where
    here : IsPlan aim (level ∷ others) next
    here = subst (λ ls. IsPlan aim ls next) (sym is) plan_is

-- by either of two ways at it
pub both_go_on : (aim : Aim) (level : Level) (others left levels : List Level) (plan next : Plan) (target chosen : List ℕ) (ways : Ways) (second : Begin) (choice : Choice)
    → level ∷ others ≡ left → IsPlan aim left next → AreMostWays aim level others next ways → ways.second ≡ Some second
    → GoesOn aim left next chosen levels plan target → IsGreatest (InWays aim level others next ways.first (Some second)) (take next.number chosen) choice
    → IsGreatest (By aim levels plan) (take plan.number target) choice
both_go_on aim level others left levels plan next target chosen ways second choice is plan_is most both goes_on greatest =
    goes_on choice (subst (λ ls. IsGreatest (By aim ls next) (take next.number chosen) choice) is
    (ways_greatest aim level others next (take next.number chosen) ways choice (subst (λ ls. IsPlan aim ls next) (sym is) plan_is) most
    (subst (λ w. IsGreatest (InWays aim level others next ways.first w) (take next.number chosen) choice) (sym both) greatest)))

-- some tiles go on from the number
pub some_tiles : (aim : Aim) (level : Level) (others : List Level) (plan : Plan) → IsPlan aim (level ∷ others) plan → NoWay aim level others plan 0
    → ((more : ℕ) → 1 ≤ more → more ≤ 4 → NoWay aim level others plan more) → ⊥
some_tiles aim level others plan is here above =
    elim (walked_reached aim.runs (lane aim.after.lanes) is.few (rooms (level ∷ others)) (helds (level ∷ others)) plan.before plan.earlier plan.sets plan.pairs is.sets_few is.pairs_few
    (same_length (level ∷ others)) (of_four aim (level ∷ others) is.levels_are)) [
      | inl zero_left ↦ (let l = is.left_is in let s = is.some in omega arith)
      | inr reached ↦
          let some = by_some aim level others plan is reached.tiles reached.sets_left reached.pairs_left record {
            sets_here = reached.sets;
            pairs_here = reached.pairs;
            ends = reached.ends;
            sets_are = reached.sets_are;
            pairs_are = reached.pairs_are;
            left_is = reached.left_is ∙ ap (λ l. l + missing reached.tiles (helds (level ∷ others))) is.left_is;
          } in
          none some.many some.few reached.tiles reached.sets_left reached.pairs_left some.by
    ]
  where
    none : (more : ℕ) → more ≤ 4 → NoWay aim level others plan more
    none more few = elim (cases_eq more 0) [
      | inl same ↦ subst (NoWay aim level others plan) (sym same) here
      | inr other ↦ above more (omega arith) few
    ]

-- no number is left
pub past_end : (aim : Aim) (levels : List Level) (plan : Plan) (chosen : List ℕ) (choice : Choice) → length levels < 1 → length chosen ≡ 9 → IsPlan aim levels plan
    → choice.target ≡ chosen → choice.sets ≡ plan.sets → choice.pairs ≡ plan.pairs → IsGreatest (By aim levels plan) (take plan.number chosen) choice
past_end aim [] plan chosen choice none nine is target sets pairs = nothing_more aim plan chosen choice nine is target sets pairs
past_end aim (level ∷ levels) plan chosen choice none nine is target sets pairs = absurd (omega arith)

-- ---- a whole suit

state_of_runs : (rows : Rows) (after : ℕ → ℕ → ℕ) (room held : List ℕ) → AreRows after room held rows → (before earlier : ℕ) → IsState true before earlier
    → Holds (row_at rows before earlier) (walked true after room held before earlier)
state_of_runs rows after room held are before earlier state = are.at before earlier state.0 state.1

-- a number of a suit with runs before others
pub number_of_runs : (aim : Aim) (level : Level) (others : List Level) (held most : ℕ) (rows : Rows) (room counts : List ℕ) → level ≡ record { held = held; room = most; rows = rows }
    → aim.runs ≡ true → most ≤ 4 → AreRows (lane aim.after.lanes) room counts rows
    → AreNumbers aim others room counts → AreNumbers aim (level ∷ others) (most ∷ room) (held ∷ counts)
number_of_runs aim level others held most rows room counts is runs four are numbers = subst (λ l. AreNumbers aim (l ∷ others) (most ∷ room) (held ∷ counts)) (sym is) record {
  are = (four, (λ before earlier state. state_is before earlier state, numbers.are));
  rooms_are = ap (λ r. most ∷ r) numbers.rooms_are;
  helds_are = ap (λ h. held ∷ h) numbers.helds_are;
}
  where
    state_is : (before earlier : ℕ) → IsState aim.runs before earlier → Holds (row_at rows before earlier) (walked aim.runs (lane aim.after.lanes) (rooms others) (helds others) before earlier)
    state_is before earlier state =
        subst (λ r. Holds (row_at rows before earlier) (walked r (lane aim.after.lanes) (rooms others) (helds others) before earlier)) (sym runs)
        (subst (λ r. Holds (row_at rows before earlier) (walked true (lane aim.after.lanes) r (helds others) before earlier)) (sym numbers.rooms_are)
        (subst (λ h. Holds (row_at rows before earlier) (walked true (lane aim.after.lanes) room h before earlier)) (sym numbers.helds_are)
        (state_of_runs rows (lane aim.after.lanes) room counts are before earlier (subst (λ r. IsState r before earlier) runs state))))

-- a kind of honours before others
pub number_of_honours : (aim : Aim) (level : Level) (others : List Level) (held most : ℕ) (rows : Rows) (room counts : List ℕ)
    → level ≡ record { held = held; room = most; rows = rows } → aim.runs ≡ false → most ≤ 4 → Holds (row_at rows 0 0) (walked false (lane aim.after.lanes) room counts 0 0)
    → AreNumbers aim others room counts → AreNumbers aim (level ∷ others) (most ∷ room) (held ∷ counts)
number_of_honours aim level others held most rows room counts is runs four holds numbers = subst (λ l. AreNumbers aim (l ∷ others) (most ∷ room) (held ∷ counts)) (sym is) record {
  are = (four, (λ before earlier state. state_is before earlier state, numbers.are));
  rooms_are = ap (λ r. most ∷ r) numbers.rooms_are;
  helds_are = ap (λ h. held ∷ h) numbers.helds_are;
}
  where
    state_is : (before earlier : ℕ) → IsState aim.runs before earlier → Holds (row_at rows before earlier) (walked aim.runs (lane aim.after.lanes) (rooms others) (helds others) before earlier)
    state_is before earlier state =
        let none : IsState false before earlier = subst (λ r. IsState r before earlier) runs state in
        subst (λ r. Holds (row_at rows before earlier) (walked r (lane aim.after.lanes) (rooms others) (helds others) before earlier)) (sym runs)
        (subst (λ b. Holds (row_at rows b earlier) (walked false (lane aim.after.lanes) (rooms others) (helds others) b earlier)) (sym none.0)
        (subst (λ e. Holds (row_at rows 0 e) (walked false (lane aim.after.lanes) (rooms others) (helds others) 0 e)) (sym none.1)
        (subst (λ r. Holds (row_at rows 0 0) (walked false (lane aim.after.lanes) r (helds others) 0 0)) (sym numbers.rooms_are)
        (subst (λ h. Holds (row_at rows 0 0) (walked false (lane aim.after.lanes) room h 0 0)) (sym numbers.helds_are) holds))))

-- the row where no run is under way
pub alone_holds : (rows : Rows) (row : Row) (numbers : ℕ → ℕ → ℕ) → rows.none.none ≡ row → Holds row.lanes numbers → Holds (row_at rows 0 0) numbers
alone_holds rows row numbers alone holds = subst (λ r. Holds r.lanes numbers) (sym alone) holds

pub no_numbers : (aim : Aim) → AreNumbers aim [] [] []
no_numbers aim = record { are = tt; rooms_are = refl; helds_are = refl }

pub nine_numbers : (aim : Aim) (levels : List Level) (room counts : List ℕ) → length room ≡ 9 → length counts ≡ 9 → AreNumbers aim levels (nine_of room) (nine_of counts)
    → AreNumbers aim levels room counts
nine_numbers aim levels room counts nine nine_counts numbers = record {
  are = numbers.are;
  rooms_are = numbers.rooms_are ∙ nine_are room nine;
  helds_are = numbers.helds_are ∙ nine_are counts nine_counts;
}

-- the most that a suit's targets leave is what the walk leaves
most_is_walked : (counts room : List ℕ) (runs : Bool) (after row : List ℕ) (s p : ℕ) → length room ≡ 9 → length counts ≡ 9 → ((n : ℕ) → n < length room → get_or room n 0 ≤ 4)
    → IsFew after → LeavesMost counts room runs after row → s < 8 → p < 2 → walked runs (lane after) room counts 0 0 s p ≡ lane row s p
most_is_walked counts room runs after row s p nine nine_counts each few most few_sets few_pairs =
    let same = leaves_most_of counts room runs after nine nine_counts each few s p few_sets few_pairs in
    let upper : walked runs (lane after) room counts 0 0 s p ≤ lane row s p =
    elim same.1 [ inl none ↦ omega arith | inr leaves ↦ most.most s p (walked runs (lane after) room counts 0 0 s p) few_sets few_pairs leaves ] in
    let lower : lane row s p ≤ walked runs (lane after) room counts 0 0 s p = elim (most.some s p few_sets few_pairs) [ inl none ↦ omega arith | inr leaves ↦ same.0 (lane row s p) leaves ] in
    omega arith

-- the plan before the lowest number
pub first_is_plan : (counts room : List ℕ) (aim : Aim) (row : List ℕ) (levels : List Level) (plan : Plan) → length room ≡ 9 → length counts ≡ 9
    → ((n : ℕ) → n < length room → get_or room n 0 ≤ 4) → IsFew aim.after.lanes → LeavesMost counts room aim.runs aim.after.lanes row → AreNumbers aim levels room counts
    → plan.number ≡ 0 → plan.before ≡ 0 → plan.earlier ≡ 0 → plan.sets < 8 → plan.pairs < 2 → plan.left ≡ lane row plan.sets plan.pairs → plan.left ≢ 0 → IsPlan aim levels plan
first_is_plan counts room aim row levels plan nine nine_counts each few most numbers number before earlier few_sets few_pairs left some =
    let is : walked aim.runs (lane aim.after.lanes) room counts 0 0 plan.sets plan.pairs ≡ lane row plan.sets plan.pairs =
    most_is_walked counts room aim.runs aim.after.lanes row plan.sets plan.pairs nine nine_counts each few most few_sets few_pairs in
    let bound : lane row plan.sets plan.pairs ≤ 15 = most.few plan.sets plan.pairs few_sets few_pairs in
    record {
      levels_are = numbers.are;
      few = few;
      state = subst (λ b. IsState aim.runs b plan.earlier) (sym before) (subst (λ e. IsState aim.runs 0 e) (sym earlier) (first_state aim.runs));
      number_is = ap₂ (λ n l. n + l) number (sym (same_rooms levels) ∙ ap length numbers.rooms_are ∙ nine);
      sets_few = few_sets;
      pairs_few = few_pairs;
      left_is = ap₂ (λ r h. walked aim.runs (lane aim.after.lanes) r h plan.before plan.earlier plan.sets plan.pairs) numbers.rooms_are numbers.helds_are
          ∙ ap₂ (λ b e. walked aim.runs (lane aim.after.lanes) room counts b e plan.sets plan.pairs) before earlier ∙ is ∙ sym left;
      some = omega arith;
      left_few = omega arith;
      before_few = omega arith;
      earlier_few = omega arith;
    }
  where
    first_state : (runs : Bool) → IsState runs 0 0
    first_state true = (omega arith, omega arith)
    first_state false = (refl, refl)

leaves_of : (counts room : List ℕ) (aim : Aim) (levels : List Level) (plan : Plan) (target : List ℕ) (s p : ℕ) (row : List ℕ) → length room ≡ 9 → AreNumbers aim levels room counts
    → plan.before ≡ 0 → plan.earlier ≡ 0 → plan.pairs < 2 → plan.left ≡ lane row plan.sets plan.pairs
    → By aim levels plan target s p → LeavesBy counts room aim.runs aim.after.lanes plan.sets plan.pairs (lane row plan.sets plan.pairs) target s p
leaves_of counts room aim levels plan target s p row nine numbers before earlier few left by =
    leaves_by counts room aim.runs aim.after.lanes plan.sets plan.pairs (lane row plan.sets plan.pairs) target s p by.sets_here by.pairs_here nine few
    (subst (λ r. Ends aim.runs r 0 0 by.sets_here by.pairs_here target) numbers.rooms_are
    (subst (λ b. Ends aim.runs (rooms levels) b 0 by.sets_here by.pairs_here target) before
    (subst (λ e. Ends aim.runs (rooms levels) plan.before e by.sets_here by.pairs_here target) earlier by.ends)))
    by.sets_are by.pairs_are (by.left_is ∙ ap₂ (λ l h. l + missing target h) left numbers.helds_are)

goes_of : (counts room : List ℕ) (aim : Aim) (levels : List Level) (plan : Plan) (target : List ℕ) (s p : ℕ) (row : List ℕ) → length room ≡ 9 → AreNumbers aim levels room counts
    → plan.before ≡ 0 → plan.earlier ≡ 0 → plan.left ≡ lane row plan.sets plan.pairs
    → LeavesBy counts room aim.runs aim.after.lanes plan.sets plan.pairs (lane row plan.sets plan.pairs) target s p → By aim levels plan target s p
goes_of counts room aim levels plan target s p row nine numbers before earlier left by = record {
  sets_here = by.melds;
  pairs_here = pairs by.paired;
  ends = subst (λ b. Ends aim.runs (rooms levels) b plan.earlier by.melds (pairs by.paired) target) (sym before)
      (subst (λ e. Ends aim.runs (rooms levels) 0 e by.melds (pairs by.paired) target) (sym earlier)
      (subst (λ r. Ends aim.runs r 0 0 by.melds (pairs by.paired) target) (sym numbers.rooms_are) (target_ends room aim.runs by.melds by.paired target nine by.is_target)));
  sets_are = by.sets_are;
  pairs_are = by.pairs_are;
  left_is = by.left_is ∙ sym (ap₂ (λ l h. l + missing target h) left numbers.helds_are);
}

-- the greatest choice from the lowest number on is the suit's
pub suit_chosen : (counts room : List ℕ) (aim : Aim) (row : List ℕ) (levels : List Level) (plan : Plan) (chosen : List ℕ) (choice : Choice) → length room ≡ 9
    → LeavesMost counts room aim.runs aim.after.lanes row → AreNumbers aim levels room counts
    → plan.number ≡ 0 → plan.before ≡ 0 → plan.earlier ≡ 0 → plan.sets < 8 → plan.pairs < 2 → plan.left ≡ lane row plan.sets plan.pairs
    → IsGreatest (By aim levels plan) (take plan.number chosen) choice
    → IsChosen counts room aim.runs aim.after.lanes plan.sets plan.pairs (lane row plan.sets plan.pairs) choice.target choice.sets choice.pairs
suit_chosen counts room aim row levels plan chosen choice nine most numbers number before earlier few_sets few_pairs left greatest =
    let whole : choice.target ≡ greatest.rest = greatest.target_is ∙ ap (λ n. take n chosen ++ greatest.rest) number in
    record {
      is = leaves_of counts room aim levels plan choice.target choice.sets choice.pairs row nine numbers before earlier few_pairs left
          (subst (λ t. By aim levels plan t choice.sets choice.pairs) (sym whole) greatest.is);
      most = λ more leaves. most.most plan.sets plan.pairs more few_sets few_pairs leaves;
      greatest = λ other s p by. subst (λ t. slice_cmp nat_cmp other t ≢ Greater) (sym whole)
          (greatest.greatest other s p (goes_of counts room aim levels plan other s p row nine numbers before earlier left by));
    }

-- ---- nothing to choose

no_pairs : (paired : Bool) → pairs paired ≡ 0 → paired ≡ false
no_pairs true none = absurd (omega arith)
no_pairs false none = refl

abbrev pub nine_zeros : List ℕ
nine_zeros = 0 ∷ 0 ∷ 0 ∷ 0 ∷ 0 ∷ 0 ∷ 0 ∷ 0 ∷ 0 ∷ []

counts_of_none : counts_of [] ≡ nine_zeros
unfolding counts_of
counts_of_none = refl

-- a target of no set and no pair has no tile
no_tiles : (room : List ℕ) (runs : Bool) (melds : ℕ) (paired : Bool) (target : List ℕ) → IsTarget room runs melds paired target → melds ≡ 0 → paired ≡ false → target ≡ nine_zeros
no_tiles room runs melds paired target is no_melds no_pair =
    is.made ∙ ap₂ (λ s p. counts_of (tiles_of_sets s ++ tiles_of_pair p)) (no_sets is.sets (is.many ∙ no_melds)) (no_number is.pair (is.has_pair ∙ no_pair)) ∙ counts_of_none
  where
    no_sets : (sets : List SuitSet) → length sets ≡ 0 → sets ≡ []
    no_sets [] none = refl
    no_sets (set ∷ sets) none = absurd (omega arith)

    no_number : (pair : Option ℕ) → is_some pair ≡ false → pair ≡ None
    no_number None none = refl
    no_number (Some number) none = absurd (cc)

-- no tile is what leaves the most where no set and no pair is to be made
pub no_tiles_chosen : (counts room : List ℕ) (runs : Bool) (after row target : List ℕ) (s p sa pa : ℕ) → LeavesMost counts room runs after row → s + p ≡ 0 → lane row s p ≢ 0
    → target ≡ nine_zeros → sa ≡ 0 → pa ≡ 0 → IsChosen counts room runs after s p (lane row s p) target sa pa
no_tiles_chosen counts room runs after row target s p sa pa most none some target_is sa_is pa_is = record {
  is = elim (most.some s p (omega arith) (omega arith)) [
    | inl nothing ↦ absurd (some nothing)
    | inr leaves ↦
        let sets = leaves.by.sets_are in
        let pairs_are = leaves.by.pairs_are in
        subst (λ n. LeavesBy counts room runs after s p (lane row s p) target n pa) (let e : leaves.sets_after ≡ sa = omega arith in e)
        (subst (λ n. LeavesBy counts room runs after s p (lane row s p) target leaves.sets_after n) (let e : leaves.pairs_after ≡ pa = omega arith in e)
        (subst (λ t. LeavesBy counts room runs after s p (lane row s p) t leaves.sets_after leaves.pairs_after) (alone leaves.target leaves.sets_after leaves.pairs_after leaves.by) leaves.by))
  ];
  most = λ more leaves. most.most s p more (omega arith) (omega arith) leaves;
  greatest = λ other other_sets other_pairs by. subst (λ t. slice_cmp nat_cmp t target ≢ Greater) (sym (alone other other_sets other_pairs by)) (not_greater-same target);
}
  where
    alone : (other : List ℕ) (other_sets other_pairs : ℕ) → LeavesBy counts room runs after s p (lane row s p) other other_sets other_pairs → other ≡ target
    alone other other_sets other_pairs by =
        let sets = by.sets_are in
        let pairs_are = by.pairs_are in
        no_tiles room runs by.melds by.paired other by.is_target (omega arith) (no_pairs by.paired (omega arith)) ∙ sym target_is
