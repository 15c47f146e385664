-- The hand that words name.
use Rattle.std.specs.Prelude.{ℕ, ◌+◌, ◌-◌, ◌*◌, ◌==◌, Bool, true, false, ◌&&◌, nat_le, if◌then◌else◌, List, [], ◌∷◌, ◌++◌, length, map, flat_map, count_by, Option, Some, None, option_and_then}
use Rattle.mj_tiles.specs.Faces.{number_in}
use Rattle.mj_tiles.specs.Counts.{all_kinds, number_of, kind_counts, has_no_fifth}
use Rattle.mj_hand.specs.declared.hand.Hand.{Hand}
use Rattle.mj_hand.specs.Words.{Word, Tile, Meld, words_of}

-- The concealed tiles of a word.
abbrev pub held_in : Word → List ℕ
held_in (Tile tile) = tile ∷ []
held_in (Meld tiles) = []

-- The tiles that a word puts into a meld.
abbrev pub melded_in : Word → List ℕ
melded_in (Tile tile) = []
melded_in (Meld tiles) = tiles

abbrev pub is_meld : Word → Bool
is_meld (Tile tile) = false
is_meld (Meld tiles) = true

-- The concealed tiles, those of the melds, and how many melds there are.
abbrev pub held_tiles : List Word → List ℕ
held_tiles words = flat_map held_in words

abbrev pub melded_tiles : List Word → List ℕ
melded_tiles words = flat_map melded_in words

abbrev pub meld_count : List Word → ℕ
meld_count words = count_by is_meld words

-- The room is four of each kind less the tiles of the melds.
unfoldable pub room_beside : List ℕ → List ℕ
room_beside tiles = map (λ kind. 4 - number_of tiles kind) all_kinds

-- A face stands once at most.
unfoldable pub stands_once : List ℕ → ℕ → Bool
stands_once tiles face = nat_le (number_in tiles face) 1

-- Each red five stands once at most.
abbrev pub has_each_red_once : List ℕ → Bool
has_each_red_once tiles = stands_once tiles 34 && stands_once tiles 35 && stands_once tiles 36

-- The hand of concealed tiles and of tiles in so many melds: the counts of its concealed tiles, the room that its melds
-- leave, and how many melds it has. There is one where the concealed tiles and three for each meld are thirteen, no kind
-- stands more than four times, and no red five twice, the tiles of melds included.
abbrev pub hand_among : List ℕ → List ℕ → ℕ → Option Hand
hand_among tiles others number =
    if length tiles + 3 * number == 13 && has_no_fifth (tiles ++ others) && has_each_red_once (tiles ++ others)
    then Some (record { counts = kind_counts tiles; room = room_beside others; melds = number })
    else None

-- The hand of words.
abbrev pub hand_with : List Word → Option Hand
hand_with words = hand_among (held_tiles words) (melded_tiles words) (meld_count words)

-- The hand that texts name, where they name one.
abbrev pub hand_of : List (List ℕ) → Option Hand
hand_of texts = option_and_then hand_with (words_of texts)
