-- What a word of a hand stands for: a tile or a meld.
use Rattle.std.specs.Prelude.{ℕ, Bool, ◌&&◌, ◌||◌, if◌then◌else◌, List, [], ◌∷◌, bytes_eq, Option, Some, None, option_and_then, option_map}
use Rattle.std.specs.List.{list_any}
use Rattle.mj_tiles.specs.Faces.{face_of}
use Rattle.mj_tiles.specs.Counts.{all_kinds, kind_counts}
use Rattle.mj_bytes.specs.Parts.{parts_by}
use Rattle.mj_readings.specs.declared.reading.SetForm.{SetForm}
use Rattle.mj_readings.specs.declared.reading.SetForm.TheVariants.{Run, Triplet, Kan}
use Rattle.mj_readings.specs.Sets.{tiles_of_form}
use Rattle.mj_shanten.specs.Room.{is_meld_form}

-- The parts of a word are what stands between its plus signs, with an empty part where two of them meet.
abbrev pub parts : List ℕ → List (List ℕ)
parts word = parts_by 43 word

-- The tiles that texts name, where each names one.
abbrev pub tiles_of : List (List ℕ) → Option (List ℕ)
tiles_of [] = Some []
tiles_of (text ∷ texts) = option_and_then (λ tile. option_map (λ tiles. tile ∷ tiles) (tiles_of texts)) (face_of text)

-- Tiles are those of a run, a triplet or four of a kind with this lowest kind, in any order.
abbrev pub are_tiles_of : SetForm → ℕ → List ℕ → Bool
are_tiles_of form low tiles = is_meld_form form low && bytes_eq (kind_counts (tiles_of_form form low)) (kind_counts tiles)

-- Tiles make a meld with this lowest kind.
abbrev pub make_meld_from : List ℕ → ℕ → Bool
make_meld_from tiles low = are_tiles_of Run low tiles || (are_tiles_of Triplet low tiles || are_tiles_of Kan low tiles)

-- Tiles make a meld: a run, a triplet or four of a kind.
unfoldable pub make_meld : List ℕ → Bool
make_meld tiles = list_any (make_meld_from tiles) all_kinds

-- What a word stands for: a concealed tile, or the tiles of a meld.
pub data Word : Type 0 where
  Tile : ℕ → Word
  Meld : List ℕ → Word

-- One tile is a concealed tile, and several make a meld or are no word.
abbrev pub word_with : List ℕ → Option Word
word_with (tile ∷ []) = Some (Tile tile)
word_with tiles = if make_meld tiles then Some (Meld tiles) else None

-- What a word stands for, where its parts are tiles and it is one tile or a meld.
abbrev pub word_of : List ℕ → Option Word
word_of text = option_and_then word_with (tiles_of (parts text))

-- What words stand for, where each stands for something.
abbrev pub words_of : List (List ℕ) → Option (List Word)
words_of [] = Some []
words_of (text ∷ texts) = option_and_then (λ word. option_map (λ words. word ∷ words) (words_of texts)) (word_of text)
