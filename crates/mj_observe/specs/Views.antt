-- What a watcher without tiles is told of deeds.
use Rattle.std.specs.Prelude.{ℕ, Bool, true, false, if◌then◌else◌, List, [], ◌∷◌, ◌++◌, length, codes, decimal, flat_map}
use Rattle.mj_deeds.specs.declared.four.Four.{Four}
use Rattle.mj_deeds.specs.declared.deed.Viewer.TheVariants.{Seat, Record}
use Rattle.mj_deeds.specs.declared.deed.Deed.{Deed}
use Rattle.mj_deeds.specs.declared.deed.Deed.TheVariants.{StartGame, StartHand, Draw, EndHand}
use Rattle.mj_deeds.specs.Hand.{hand}
use Rattle.mj_forms.specs.Lines.{line, quoted, bracketed, shown_tiles, hidden_tile, start_hand_line, draw_line}

-- The start of a game for nobody: no seat is named as the reader's own.
unfoldable pub names_line : Four (List ℕ) → List ℕ
names_line names =
    codes "{\"type\":\"start_game\",\"names\":"
    ++ bracketed (quoted names.first ∷ quoted names.second ∷ quoted names.third ∷ quoted names.fourth ∷ []) ++ codes "}\n"

-- Four hands, each as so many hidden tiles.
abbrev pub all_hidden : Four (List ℕ) → Four (List (List ℕ))
all_hidden hands = record {
  first = shown_tiles false hands.first;
  second = shown_tiles false hands.second;
  third = shown_tiles false hands.third;
  fourth = shown_tiles false hands.fourth;
}

-- The public line of a deed: a start of a game names no own seat, all hands of a start of a hand are hidden, and so is the tile of
-- every draw. Any other line is the one that each seat is told.
abbrev pub public_line : Deed → List ℕ
public_line (StartGame names) = names_line names
public_line (StartHand round number honba deposits dealer indicator hands) = start_hand_line round number honba deposits dealer indicator (all_hidden hands)
public_line (Draw seat tile replacement) = draw_line seat hidden_tile
public_line other = line (Seat 0) other

-- How many lines of a hand follow.
unfoldable pub hand_shown_line : ℕ → List ℕ
hand_shown_line count = codes "{\"type\":\"hand_shown\",\"count\":" ++ decimal count ++ codes "}\n"

-- A hand in full: the number of its deeds, and the record's line of each.
abbrev pub in_full : List Deed → List ℕ
in_full deeds = hand_shown_line (length deeds) ++ flat_map (line Record) deeds

-- The end of a hand.
abbrev pub is_hand_end : Deed → Bool
is_hand_end EndHand = true
is_hand_end other = false

-- What a deed adds after others: its public line, and where it ends a hand, that hand in full, from its start to this end.
abbrev pub public_part : List Deed → Deed → List ℕ
public_part before deed = public_line deed ++ (if is_hand_end deed then in_full (hand (before ++ deed ∷ [])) else [])

-- What deeds add after others, one after the other.
abbrev pub view_from : List Deed → List Deed → List ℕ
view_from before [] = []
view_from before (deed ∷ deeds) = public_part before deed ++ view_from (before ++ deed ∷ []) deeds

-- The public view of deeds.
abbrev pub public_view : List Deed → List ℕ
public_view deeds = view_from [] deeds
