-- What is kept of words while they are read.
use Rattle.std.specs.Prelude.{ℕ, ◌≡◌, ◌+◌, ◌-◌, Bool, true, false, nat_le, List, ◌++◌, map, slice_index, Option, Some, None}
use Rattle.std.specs.List.{list_all}
use Rattle.mj_tiles.specs.Counts.{all_kinds}
use Rattle.mj_hand.specs.declared.hand.Gathered.{Gathered}
use Rattle.mj_hand.specs.Words.{Word, words_of}
use Rattle.mj_hand.specs.Hands.{held_in, melded_in, is_meld, held_tiles, melded_tiles, meld_count}

-- Texts were read: these are the concealed tiles of their words, the tiles of their melds, and the number of these.
pub record Gathers (texts : List (List ℕ)) (tiles others : List ℕ) (number : ℕ) : Type 0 where
  pub words : List Word
  pub read : words_of texts ≡ Some words
  pub held_are : tiles ≡ held_tiles words
  pub melded_are : others ≡ melded_tiles words
  pub melds_are : number ≡ meld_count words

-- One meld where the word is one, and else none.
abbrev pub one_if : Bool → ℕ
one_if true = 1
one_if false = 0

-- A word was taken.
pub record TakesWord (word : Word) (old new : Gathered) : Type 0 where
  pub held_are : new.held.items ≡ old.held.items ++ held_in word
  pub melded_are : new.melded.items ≡ old.melded.items ++ melded_in word
  pub melds_are : new.melds ≡ old.melds + one_if (is_meld word)

-- Tiles are taken where they are a word.
abbrev pub Takes : Option Word → Bool → Gathered → Gathered → Type 0
Takes None taken old new = taken ≡ false
Takes (Some word) taken old new = (taken ≡ true) × TakesWord word old new

-- No number exceeds four together with the other one of its kind.
unfoldable pub are_within_four : List ℕ → List ℕ → Bool
are_within_four counts others = list_all (λ kind. nat_le (slice_index counts kind + slice_index others kind) 4) all_kinds

-- Four of each kind less the numbers.
unfoldable pub room_left : List ℕ → List ℕ
room_left counts = map (λ kind. 4 - slice_index counts kind) all_kinds
