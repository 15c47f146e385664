-- What is written of a hand.
use Rattle.std.specs.Prelude.{ℕ, ◌≡◌, ◌<◌, ◌↔◌, IsTrue, List, [], ◌∷◌, ◌++◌, flat_map, filter, codes, Some}
use Rattle.mj_tiles.specs.Counts.{all_kinds}
use Rattle.mj_tiles.specs.Faces.{text_of}
use Rattle.mj_bytes.specs.Numbers.{number_text}
use Rattle.mj_tiles.specs.Kinds.{has_kind}
use Rattle.mj_waits.specs.Waits.{IsWait}
use Rattle.mj_shanten.specs.Shanten.{sorted_kinds, IsShanten}
use Rattle.mj_hand.specs.declared.hand.Hand.{Hand}
use Rattle.mj_hand.specs.Hands.{hand_of}

-- Kinds are written by their texts, each after a space.
abbrev pub kinds_text : List ℕ → List ℕ
kinds_text kinds = flat_map (λ kind. 32 ∷ text_of kind) kinds

-- `shanten` and the number.
abbrev pub shanten_line : ℕ → List ℕ
shanten_line number = codes "shanten " ++ (number_text number ++ codes "\n")

-- `target` and the concealed tiles of the target, in tile order.
abbrev pub target_line : List ℕ → List ℕ
target_line target = codes "target" ++ (kinds_text (sorted_kinds target) ++ codes "\n")

-- Kinds, or a dash where there are none.
abbrev pub kinds_or_dash : List ℕ → List ℕ
kinds_or_dash [] = codes " -"
kinds_or_dash (kind ∷ kinds) = kinds_text (kind ∷ kinds)

-- `waits` and the waits.
abbrev pub waits_line : List ℕ → List ℕ
waits_line kinds = codes "waits" ++ (kinds_or_dash kinds ++ codes "\n")

-- The three lines of a hand: its shanten, the concealed tiles of its target, and its waits.
abbrev pub hand_text : ℕ → List ℕ → List ℕ → List ℕ
hand_text number target waits = shanten_line number ++ (target_line target ++ waits_line waits)

-- A text is that of a hand: its shanten, its target and all its waits, in tile order.
pub record IsTextOf (hand : Hand) (text : List ℕ) : Type 0 where
  pub number : ℕ
  pub target : List ℕ
  pub waits : ℕ
  pub is : IsShanten hand.counts hand.room hand.melds number target
  pub waits_are : (kind : ℕ) → kind < 34 → (IsTrue (has_kind waits kind) ↔ IsWait hand.counts hand.room hand.melds kind)
  pub text_is : text ≡ hand_text number target (filter (has_kind waits) all_kinds)

-- Words name a hand, and the text is that of this hand.
pub record IsHandText (words : List (List ℕ)) (text : List ℕ) : Type 0 where
  pub hand : Hand
  pub named : hand_of words ≡ Some hand
  pub text_of_hand : IsTextOf hand text
