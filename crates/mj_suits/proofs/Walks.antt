-- A suit that is walked once.
use Rattle.std.proofs.Common.{◌≡◌, ◌≢◌, ℕ, ◌+◌, ◌≤◌, ◌<◌, Bool, zero, suc, Option, List, [], ◌∷◌, length, get_or, refl, sym, subst, ap₂, replicate, ◌∙◌, inl, inr, arith}
use Rattle.std.specs.Prelude.{MatchOption}
use Rattle.mj_suits.specs.Rows.{lane, Holds, walked, IsFew}
use Rattle.mj_suits.specs.Left.{LeavesMost, IsChosen}
use Rattle.mj_suits.specs.Tables.{Suit}
use Rattle.mj_suits.specs.Inner.Choosing.{rooms, helds, AreLevels, AreNumbers, By, IsPlan, IsGreatest, first_plan}
use Rattle.mj_suits.specs.SuitWalks.{Walk, IsWalk}
use Rattle.mj_suits.specs.declared.choosing.Aim.{Aim}
use Rattle.mj_suits.specs.declared.choosing.Level.{Level}
use Rattle.mj_suits.specs.declared.choosing.Choice.{Choice}
use Rattle.mj_suits.proofs.Nine.{leaves_most}
use Rattle.mj_suits.proofs.Choices.{same_rooms, same_length, first_is_plan, suit_chosen, no_tiles_chosen}
use Rattle.mj_suits.proofs.Tables.{suit_of}

abbrev pub walk_of : Aim → List Level → List ℕ → Walk
walk_of aim levels row = record { suit = suit_of (helds levels) (rooms levels) aim.runs; after = aim.after.lanes; row = row }

-- the numbers and the row of the whole walk
pub walk_is : (counts room : List ℕ) (aim : Aim) (levels : List Level) (row : List ℕ) → length levels ≡ 9 → length room ≡ 9 → length counts ≡ 9
    → ((n : ℕ) → n < length room → get_or room n 0 ≤ 4) → IsFew aim.after.lanes
    → AreNumbers aim levels room counts → Holds row (walked aim.runs (lane aim.after.lanes) room counts 0 0) → IsWalk aim levels row
walk_is counts room aim levels row nine nine_room nine_counts each few numbers holds = record {
  nine = nine;
  few = few;
  are = numbers.are;
  most = subst (λ h. LeavesMost h (rooms levels) aim.runs aim.after.lanes row) (sym numbers.helds_are)
      (subst (λ r. LeavesMost counts r aim.runs aim.after.lanes row) (sym numbers.rooms_are) (leaves_most counts room aim.runs aim.after.lanes row nine_room nine_counts each few holds));
}

pub walked_suit : (counts room : List ℕ) (aim : Aim) (levels : List Level) → AreNumbers aim levels room counts → suit_of (helds levels) (rooms levels) aim.runs ≡ suit_of counts room aim.runs
walked_suit counts room aim levels numbers = ap₂ (λ h r. suit_of h r aim.runs) numbers.helds_are numbers.rooms_are

-- there is room for at most four of each number
room_few : (aim : Aim) (levels : List Level) → AreLevels aim levels → (n : ℕ) → n < length (rooms levels) → get_or (rooms levels) n 0 ≤ 4
room_few aim [] are n inside = absurd (omega arith)
room_few aim (level ∷ levels) are zero inside = are.0
room_few aim (level ∷ levels) are (suc n) inside = room_few aim levels are.1.1 n (omega arith)

-- the plan at the lowest number
pub plan_is : (aim : Aim) (levels : List Level) (row : List ℕ) (s p left : ℕ) → IsWalk aim levels row → s < 8 → p < 2 → left ≡ lane row s p → left ≢ 0 → IsPlan aim levels (first_plan s p left)
plan_is aim levels row s p left is few one read some =
    first_is_plan (helds levels) (rooms levels) aim row levels (first_plan s p left) (same_rooms levels ∙ is.nine) (same_helds levels ∙ is.nine) (room_few aim levels is.are) is.few is.most
    record { are = is.are; rooms_are = refl; helds_are = refl } refl refl refl few one read some
  where
    same_helds : (levels : List Level) → length (helds levels) ≡ length levels
    same_helds levels = sym (same_length levels) ∙ same_rooms levels

-- what is chosen of the walk
abbrev pub ChosenBy : Walk → ℕ → ℕ → Choice → Type 0
ChosenBy walk s p choice = (0 < lane walk.row s p) × IsChosen walk.suit.counts walk.suit.room walk.suit.runs walk.after s p (lane walk.row s p) choice.target choice.sets choice.pairs

pub none_chosen : (walk : Walk) (aim : Aim) (levels : List Level) (row : List ℕ) (s p left : ℕ) → walk_of aim levels row ≡ walk → left ≡ lane row s p → left ≡ 0 → lane walk.row s p ≡ 0
none_chosen walk aim levels row s p left same read none = subst (λ (w : Walk). lane w.row s p ≡ 0) same (sym read ∙ none)

pub no_tiles : (walk : Walk) (aim : Aim) (levels : List Level) (row : List ℕ) (s p left : ℕ) (choice : Choice) → walk_of aim levels row ≡ walk → IsWalk aim levels row
    → left ≡ lane row s p → left ≢ 0 → s + p ≡ 0 → choice ≡ record { target = replicate 9 0; sets = 0; pairs = 0 } → ChosenBy walk s p choice
no_tiles walk aim levels row s p left choice same is read some none choice_is =
    subst (λ (w : Walk). ChosenBy w s p choice) same (subst (λ (c : Choice). ChosenBy (walk_of aim levels row) s p c) (sym choice_is) (
      (let e = read in omega arith),
      no_tiles_chosen (helds levels) (rooms levels) aim.runs aim.after.lanes row (replicate 9 0) s p 0 0 is.most none
          (λ zero_left. some (read ∙ zero_left)) refl refl refl,
    ))

pub all_chosen : (walk : Walk) (aim : Aim) (levels : List Level) (row : List ℕ) (s p left : ℕ) (choice : Choice) → walk_of aim levels row ≡ walk → IsWalk aim levels row → s < 8 → p < 2
    → left ≡ lane row s p → left ≢ 0
    → IsGreatest (By aim levels (first_plan s p left)) [] choice → ChosenBy walk s p choice
all_chosen walk aim levels row s p left choice same is few one read some greatest = subst (λ (w : Walk). ChosenBy w s p choice) same (
  (let e = read in omega arith),
  suit_chosen (helds levels) (rooms levels) aim row levels (first_plan s p left) (replicate 9 0) choice (same_rooms levels ∙ is.nine) is.most
      (record { are = is.are; rooms_are = refl; helds_are = refl }) refl refl refl few one read greatest,
)

-- what a walk chose for a suit is chosen by each row that leaves the most of it
pub same_chosen : (walk : Walk) (counts room : List ℕ) (runs : Bool) (after row : List ℕ) (s p : ℕ) (choice : Option Choice) → walk.suit ≡ suit_of counts room runs → walk.after ≡ after
    → LeavesMost counts room runs after walk.row → LeavesMost counts room runs after row → s < 8 → p < 2
    → MatchOption choice (lane walk.row s p ≡ 0) (ChosenBy walk s p)
    → MatchOption choice (lane row s p ≡ 0) (λ c. (0 < lane row s p) × IsChosen counts room runs after s p (lane row s p) c.target c.sets c.pairs)
same_chosen walk counts room runs after row s p choice suit_is after_is mine most few one chosen =
    subst (λ l. MatchOption choice (l ≡ 0) (λ c. (0 < l) × IsChosen counts room runs after s p l c.target c.sets c.pairs)) (equal (lane walk.row s p) (lane row s p) upper lower)
    (subst (λ a. MatchOption choice (lane walk.row s p ≡ 0) (λ c. (0 < lane walk.row s p) × IsChosen counts room runs a s p (lane walk.row s p) c.target c.sets c.pairs)) after_is
    (subst (λ (u : Suit). MatchOption choice (lane walk.row s p ≡ 0)
    (λ c. (0 < lane walk.row s p) × IsChosen u.counts u.room u.runs walk.after s p (lane walk.row s p) c.target c.sets c.pairs)) suit_is chosen))
  where
    below : (these those : List ℕ) → LeavesMost counts room runs after these → LeavesMost counts room runs after those → lane these s p ≤ lane those s p
    below these those a b = elim (a.some s p few one) [
      | inl none ↦ omega arith
      | inr leaves ↦ b.most s p (lane these s p) few one leaves
    ]

    upper : lane walk.row s p ≤ lane row s p
    upper = below walk.row row mine most

    lower : lane row s p ≤ lane walk.row s p
    lower = below row walk.row most mine

    equal : (a b : ℕ) → a ≤ b → b ≤ a → a ≡ b
    equal a b x y = omega arith

-- a row that is read
pub first_holds : (row lanes : List ℕ) (numbers : ℕ → ℕ → ℕ) → row ≡ lanes → Holds lanes numbers → Holds row numbers
first_holds row lanes numbers same holds = subst (λ r. Holds r numbers) (sym same) holds
