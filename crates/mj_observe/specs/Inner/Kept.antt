-- What an observer keeps of the newest hand.
use Rattle.std.specs.Prelude.{◌≡◌, ℕ, ◌+◌, ◌==◌, if◌then◌else◌, List, [], ◌++◌, length, flat_map}
use Rattle.mj_deeds.specs.declared.deed.Viewer.TheVariants.{Record}
use Rattle.mj_deeds.specs.declared.deed.Deed.{Deed}
use Rattle.mj_deeds.specs.Hand.{hand}
use Rattle.mj_forms.specs.Lines.{line}
use Rattle.mj_observe.specs.Views.{is_hand_end, hand_shown_line}

-- The record's lines of the newest hand, and their number; none where no hand has started.
pub record KeepsHand (lines : List ℕ) (count : ℕ) (deeds : List Deed) : Type 0 where
  pub lines_are : lines ≡ flat_map (line Record) (hand deeds)
  pub count_is : count ≡ length (hand deeds)

-- The number of lines with one more, and that line: none where no hand has started.
abbrev pub one_more : ℕ → ℕ
one_more count = if count == 0 then 0 else count + 1

abbrev pub of_hand : ℕ → List ℕ → List ℕ
of_hand count text = if count == 0 then [] else text

-- What is shown at a deed: where it ends a hand, so many lines, and these.
abbrev pub shown_at : Deed → ℕ → List ℕ → List ℕ
shown_at deed number lines = if is_hand_end deed then hand_shown_line number ++ lines else []
