-- The record of a game: its header, its walls, and the record's line of each deed. What a text is that may be one.
use Rattle.std.specs.Prelude.{◌≡◌, ℕ, ◌+◌, ◌==◌, ◌&&◌, Bool, true, false, nat_lt, nat_le, List, [], ◌∷◌, ◌++◌, length, codes, bytes_eq, take, ℤ, pos, negsuc}
use Rattle.std.specs.List.{list_all}
use Rattle.mj_bytes.specs.Parts.{whole_lines, unfinished}
use Rattle.mj_ports.specs.Names.{is_name}
use Rattle.mj_deeds.specs.declared.four.Four.{Four}
use Rattle.mj_deeds.specs.declared.bid.Bid.{Bid}
use Rattle.mj_deeds.specs.declared.bid.Bid.TheVariants as bids
use Rattle.mj_deeds.specs.Shown.{Shown, Tiles, Hidden}
use Rattle.mj_deeds.specs.declared.deed.Viewer.TheVariants.{Record}
use Rattle.mj_deeds.specs.declared.deed.Deed.{Deed}
use Rattle.mj_deeds.specs.declared.deed.Deed.TheVariants.{StartGame, StartHand, Draw, Discard, Chi, Pon, OpenKan, ClosedKan, AddedKan, Dora, Reach, ReachAccepted, Win, DrawnHand, EndHand, EndGame}
use Rattle.mj_wall.specs.declared.setting.Rules.{Rules}
use Rattle.mj_wall.specs.Places.{is_wall}
use Rattle.mj_rules.specs.Played.{IsPlayed, IsPlayedBehind}
use Rattle.mj_forms.specs.Lines.{line}
use Rattle.mj_history.specs.Told.{Summary, summary_of}
use Rattle.mj_forms.specs.Headers.{header_line, wall_line}
use Rattle.mj_forms.specs.RecordTexts.{record_text}

-- Rules of a record have a limit of 1 to 3600000 milliseconds.
abbrev pub are_rules : Rules → Bool
are_rules rules = nat_le 1 rules.limit && nat_le rules.limit 3600000

-- A record has 1 to 200 walls.
abbrev pub are_walls : Rules → List (List ℕ) → Bool
are_walls rules walls = nat_le 1 (length walls) && nat_le (length walls) 200 && list_all (is_wall rules.red) walls

-- A text is the record of played deeds, with their summary.
pub record IsRecord (text : List ℕ) (summary : Summary) : Type 0 where
  pub rules : Rules
  pub walls : List (List ℕ)
  pub deeds : List Deed
  pub rules_fit : are_rules rules ≡ true
  pub walls_fit : are_walls rules walls ≡ true
  pub played : IsPlayed rules walls deeds
  pub is : text ≡ record_text rules walls deeds
  pub comes_to : summary ≡ summary_of deeds

-- What a field of a deed may hold, whether or not it fits the other fields: a number of 8 or 32 bits, signed or not, a tile,
-- a kind, and a seat of a list is a number of 8 bits.
abbrev pub is_byte : ℕ → Bool
is_byte number = nat_lt number 256

abbrev pub is_word : ℕ → Bool
is_word number = nat_lt number 4294967296

abbrev pub is_signed_word : ℤ → Bool
is_signed_word (pos number) = nat_lt number 2147483648
is_signed_word (negsuc number) = nat_lt number 2147483648

abbrev pub is_tile : ℕ → Bool
is_tile tile = nat_lt tile 37

abbrev pub are_points : List ℤ → Bool
are_points points = length points == 4 && list_all is_signed_word points

abbrev pub are_hands : Four (List ℕ) → Bool
are_hands hands = list_all is_tile hands.first && list_all is_tile hands.second && list_all is_tile hands.third && list_all is_tile hands.fourth

abbrev pub is_shown : Shown → Bool
is_shown (Tiles tiles) = list_all is_tile tiles
is_shown (Hidden number) = is_byte number

abbrev pub are_shown : Four Shown → Bool
are_shown hands = is_shown hands.first && is_shown hands.second && is_shown hands.third && is_shown hands.fourth

abbrev pub is_bid : Bid → Bool
is_bid bids.NoBid = true
is_bid (bids.Chi seat target tile a b) = is_byte seat && is_byte target && is_tile tile && is_tile a && is_tile b
is_bid (bids.Pon seat target tile a b) = is_byte seat && is_byte target && is_tile tile && is_tile a && is_tile b
is_bid (bids.OpenKan seat target tile a b c) = is_byte seat && is_byte target && is_tile tile && is_tile a && is_tile b && is_tile c

-- A row of the table of yaku, 0 to 44, with a number of 8 bits.
abbrev pub is_row : ℕ × ℕ → Bool
is_row item = nat_lt item.0 45 && is_byte item.1

-- A value of the type of deeds: names are those that a join may give, and every other field holds any value of its type.
abbrev pub is_deed : Deed → Bool
is_deed (StartGame names) = is_name names.first && is_name names.second && is_name names.third && is_name names.fourth
is_deed (StartHand round number honba deposits dealer indicator hands) =
    nat_lt round 34 && is_byte number && is_word honba && is_word deposits && is_byte dealer && is_tile indicator && are_hands hands
is_deed (Draw seat tile replacement) = is_byte seat && is_tile tile
is_deed (Discard seat tile drawn) = is_byte seat && is_tile tile
is_deed (Chi seat target tile a b) = is_bid (bids.Chi seat target tile a b)
is_deed (Pon seat target tile a b) = is_bid (bids.Pon seat target tile a b)
is_deed (OpenKan seat target tile a b c) = is_bid (bids.OpenKan seat target tile a b c)
is_deed (ClosedKan seat a b c d) = is_byte seat && is_tile a && is_tile b && is_tile c && is_tile d
is_deed (AddedKan seat tile a b c) = is_byte seat && is_tile tile && is_tile a && is_tile b && is_tile c
is_deed (Dora tile) = is_tile tile
is_deed (Reach seat) = is_byte seat
is_deed (ReachAccepted seat points bid) = is_byte seat && are_points points && is_bid bid
is_deed (Win seat target tile unders hand yaku fu han value deltas points rest) =
    is_byte seat && is_byte target && is_tile tile && list_all is_tile unders && list_all is_tile hand && list_all is_row yaku && is_byte fu && is_byte han
    && is_word value && are_points deltas && are_points points && nat_le (length rest) 2 && list_all is_byte rest
is_deed (DrawnHand reason hands ready deltas points) = are_shown hands && length ready == 4 && are_points deltas && are_points points
is_deed EndHand = true
is_deed (EndGame points deposits) = are_points points && is_word deposits

-- A line is the record's line of a value of the type of deeds.
pub record IsLineOf (text : List ℕ) (deed : Deed) : Type 0 where
  pub fits : is_deed deed ≡ true
  pub is : line Record deed ≡ text

-- What is wrong with the first line that breaks the form of a record.
pub data Fault : Type 0 where
  HeaderFault : Fault
  WallFault : Fault
  LineFault : Fault
  NextFault : Fault
  CutFault : Fault

-- The lines of a record before some line: none, or its header, walls and deeds.
pub data Before : Type 0 where
  Nothing : Before
  Lines : Rules → List (List ℕ) → List Deed → Before

abbrev pub text_before : Before → List ℕ
text_before Nothing = []
text_before (Lines rules walls deeds) = record_text rules walls deeds

-- How many lines they are.
abbrev pub number_before : Before → ℕ
number_before Nothing = 0
number_before (Lines rules walls deeds) = 1 + length walls + length deeds

-- They may stand before a line: the rules fit, the walls are walls, 200 at most, and no deed comes before a wall; the deeds are played.
abbrev pub are_first_walls : Rules → List (List ℕ) → List Deed → Bool
are_first_walls rules walls [] = nat_le (length walls) 200 && list_all (is_wall rules.red) walls
are_first_walls rules walls (deed ∷ deeds) = are_walls rules walls

pub record AreLines (rules : Rules) (walls : List (List ℕ)) (deeds : List Deed) : Type 0 where
  pub rules_fit : are_rules rules ≡ true
  pub walls_fit : are_first_walls rules walls deeds ≡ true
  pub played : IsPlayed rules walls deeds

abbrev pub IsSound : Before → Type 0
IsSound Nothing = Unit {0}
IsSound (Lines rules walls deeds) = AreLines rules walls deeds

-- A wall must stand after the header, and each line that begins with `wall` before all deeds must be one.
abbrev pub needs_wall : List (List ℕ) → List Deed → List ℕ → Bool
needs_wall [] deeds text = true
needs_wall walls [] text = bytes_eq (take 4 text) (codes "wall")
needs_wall walls deeds text = false

-- A line that stands where a wall must is a wall, and not the 201st.
pub record IsNextWall (rules : Rules) (walls : List (List ℕ)) (text : List ℕ) : Type 0 where
  pub tiles : List ℕ
  pub fits : is_wall rules.red tiles ≡ true
  pub few : nat_lt (length walls) 200 ≡ true
  pub is : text ≡ wall_line tiles

-- Some value of the type of deeds has the line, and no value that has it is played there.
pub record IsOfNoNext (rules : Rules) (walls : List (List ℕ)) (deeds : List Deed) (text : List ℕ) : Type 0 where
  pub deed : Deed
  pub line_of : IsLineOf text deed
  pub never : (other : Deed) → IsLineOf text other → IsPlayedBehind rules walls deeds other → ⊥

-- A line, with its newline, that breaks the form of a record where it stands.
abbrev pub BreaksByWall : Bool → Rules → List (List ℕ) → List Deed → List ℕ → Fault → Type 0
BreaksByWall true rules walls deeds text WallFault = IsNextWall rules walls text → ⊥
BreaksByWall false rules walls deeds text LineFault = (deed : Deed) → IsLineOf text deed → ⊥
BreaksByWall false rules walls deeds text NextFault = IsOfNoNext rules walls deeds text
BreaksByWall needed rules walls deeds text fault = ⊥

abbrev pub LineBreaks : Before → List ℕ → Fault → Type 0
LineBreaks Nothing text HeaderFault = (rules : Rules) → are_rules rules ≡ true → header_line rules ≡ text → ⊥
LineBreaks Nothing text fault = ⊥
LineBreaks (Lines rules walls deeds) text fault = BreaksByWall (needs_wall walls deeds text) rules walls deeds text fault

-- A text that ends where a header or the first wall must stand lacks it.
abbrev pub EndBreaks : Before → Fault → Type 0
EndBreaks Nothing HeaderFault = Unit {0}
EndBreaks (Lines rules [] deeds) WallFault = Unit {0}
EndBreaks before fault = ⊥

-- What follows breaks the form of a record: its first line; or where it has none, what is left without a newline; or its end.
abbrev pub Breaks : Before → List (List ℕ) → List ℕ → Fault → Type 0
Breaks before (text ∷ texts) rest fault = LineBreaks before (text ++ 10 ∷ []) fault
Breaks before [] (byte ∷ bytes) CutFault = Unit {0}
Breaks before [] (byte ∷ bytes) fault = ⊥
Breaks before [] [] fault = EndBreaks before fault

-- A text is no record, and the line, counted from 1, is the first that breaks its form.
pub record IsNoRecord (text : List ℕ) (number : ℕ) (fault : Fault) : Type 0 where
  pub before : Before
  pub rest : List ℕ
  pub sound : IsSound before
  pub is : text ≡ text_before before ++ rest
  pub place : number ≡ number_before before + 1
  pub breaks : Breaks before (whole_lines rest) (unfinished rest) fault
