-- The lines that are written. Each is compact JSON and ends with one newline.
use Rattle.std.specs.Prelude.{ℕ, Bool, true, false, List, [], ◌∷◌, ◌++◌, length, map, codes, decimal, flat_map, replicate, slice_get, Option, Some, None, ℤ}
use Rattle.std.specs.Fmt.{signed_decimal}
use Rattle.std.specs.Option.{option_map_or}
use Rattle.mj_tiles.specs.Faces.{text_of}
use Rattle.mj_yaku.specs.Han.{table}
use Rattle.mj_pay.specs.Payments.{deposit_changes}
use Rattle.mj_ports.specs.declared.sitting.SitRefused.{SitRefused}
use Rattle.mj_ports.specs.declared.sitting.SitRefused.TheVariants as refusals
use Rattle.mj_deeds.specs.declared.four.Four.{Four}
use Rattle.mj_deeds.specs.declared.bid.Bid.{Bid}
use Rattle.mj_deeds.specs.declared.bid.Bid.TheVariants as bids
use Rattle.mj_deeds.specs.declared.reason.Reason.{Reason}
use Rattle.mj_deeds.specs.declared.reason.Reason.TheVariants as reasons
use Rattle.mj_deeds.specs.Shown.{Shown, Tiles, Hidden}
use Rattle.mj_deeds.specs.declared.rule.Rule.{Rule}
use Rattle.mj_deeds.specs.declared.rule.Rule.TheVariants as rules
use Rattle.mj_deeds.specs.declared.deed.Viewer.{Viewer}
use Rattle.mj_deeds.specs.declared.deed.Viewer.TheVariants.{Seat, Record}
use Rattle.mj_deeds.specs.declared.deed.Deed.{Deed}
use Rattle.mj_view.specs.declared.masked.Masked.{Masked}
use Rattle.mj_view.specs.declared.masked.Masked.TheVariants as masks
use Rattle.mj_view.specs.Seen.{sees}
use Rattle.mj_deeds.specs.declared.deed.Deed.TheVariants.{StartGame, StartHand, Draw, Discard, Chi, Pon, OpenKan, ClosedKan, AddedKan, Dora, Reach, ReachAccepted, Win, DrawnHand, EndHand, EndGame}

-- A text between quotation marks.
abbrev pub quoted : List ℕ → List ℕ
quoted text = 34 ∷ text ++ 34 ∷ []

-- The pieces with commas between.
abbrev pub joined : List (List ℕ) → List ℕ
joined [] = []
joined (piece ∷ pieces) = piece ++ flat_map (λ other. 44 ∷ other) pieces

-- The pieces as a list in brackets.
unfoldable pub bracketed : List (List ℕ) → List ℕ
bracketed pieces = 91 ∷ joined pieces ++ 93 ∷ []

-- true or false.
abbrev pub truth : Bool → List ℕ
truth true = codes "true"
truth false = codes "false"

-- A tile as a line names it.
unfoldable pub quoted_tile : ℕ → List ℕ
quoted_tile tile = quoted (text_of tile)

-- A hidden tile.
unfoldable pub hidden_tile : List ℕ
hidden_tile = quoted (codes "?")

-- The tiles of a hand that is seen, or as many hidden ones.
abbrev pub shown_tiles : Bool → List ℕ → List (List ℕ)
shown_tiles true tiles = map quoted_tile tiles
shown_tiles false tiles = replicate (length tiles) hidden_tile

-- The seat that a line is written for; in the record it is 0.
abbrev pub seat_in_line : Viewer → ℕ
seat_in_line (Seat seat) = seat
seat_in_line Record = 0

-- The start of a game.
unfoldable pub start_game_line : ℕ → Four (List ℕ) → List ℕ
start_game_line id names =
    codes "{\"type\":\"start_game\",\"id\":" ++ decimal id ++ codes ",\"names\":"
    ++ bracketed (quoted names.first ∷ quoted names.second ∷ quoted names.third ∷ quoted names.fourth ∷ []) ++ codes "}\n"

-- The start of a hand, with the hands as they are seen.
unfoldable pub start_hand_line : ℕ → ℕ → ℕ → ℕ → ℕ → ℕ → Four (List (List ℕ)) → List ℕ
start_hand_line round number honba deposits dealer indicator hands =
    codes "{\"type\":\"start_kyoku\",\"bakaze\":" ++ quoted_tile round ++ codes ",\"kyoku\":" ++ decimal number
    ++ codes ",\"honba\":" ++ decimal honba ++ codes ",\"kyotaku\":" ++ decimal deposits ++ codes ",\"oya\":" ++ decimal dealer
    ++ codes ",\"dora_marker\":" ++ quoted_tile indicator ++ codes ",\"tehais\":"
    ++ bracketed (bracketed hands.first ∷ bracketed hands.second ∷ bracketed hands.third ∷ bracketed hands.fourth ∷ [])
    ++ codes "}\n"

-- A draw, with the tile as it is seen.
unfoldable pub draw_line : ℕ → List ℕ → List ℕ
draw_line seat tile = codes "{\"type\":\"tsumo\",\"actor\":" ++ decimal seat ++ codes ",\"pai\":" ++ tile ++ codes "}\n"

-- A discard.
unfoldable pub discard_line : ℕ → ℕ → Bool → List ℕ
discard_line seat tile drawn =
    codes "{\"type\":\"dahai\",\"actor\":" ++ decimal seat ++ codes ",\"pai\":" ++ quoted_tile tile
    ++ codes ",\"tsumogiri\":" ++ truth drawn ++ codes "}\n"

-- A call of a discard as an object, under its type, with the own tiles that it takes.
unfoldable pub call_object : List ℕ → ℕ → ℕ → ℕ → List ℕ → List ℕ
call_object type seat target tile own =
    codes "{\"type\":" ++ quoted type ++ codes ",\"actor\":" ++ decimal seat ++ codes ",\"target\":" ++ decimal target
    ++ codes ",\"pai\":" ++ quoted_tile tile ++ codes ",\"consumed\":" ++ bracketed (map quoted_tile own) ++ codes "}"

abbrev pub call_line : List ℕ → ℕ → ℕ → ℕ → List ℕ → List ℕ
call_line type seat target tile own = call_object type seat target tile own ++ codes "\n"

-- A kan of four concealed tiles.
unfoldable pub closed_kan_line : ℕ → List ℕ → List ℕ
closed_kan_line seat own =
    codes "{\"type\":\"ankan\",\"actor\":" ++ decimal seat ++ codes ",\"consumed\":" ++ bracketed (map quoted_tile own) ++ codes "}\n"

-- A tile that is added to a triplet.
unfoldable pub added_kan_line : ℕ → ℕ → List ℕ → List ℕ
added_kan_line seat tile triplet =
    codes "{\"type\":\"kakan\",\"actor\":" ++ decimal seat ++ codes ",\"pai\":" ++ quoted_tile tile
    ++ codes ",\"consumed\":" ++ bracketed (map quoted_tile triplet) ++ codes "}\n"

-- A new indicator.
unfoldable pub dora_line : ℕ → List ℕ
dora_line tile = codes "{\"type\":\"dora\",\"dora_marker\":" ++ quoted_tile tile ++ codes "}\n"

-- A reach.
unfoldable pub reach_line : ℕ → List ℕ
reach_line seat = codes "{\"type\":\"reach\",\"actor\":" ++ decimal seat ++ codes "}\n"

-- Points, of each seat.
abbrev pub points_text : List ℤ → List ℕ
points_text points = bracketed (map signed_decimal points)

-- A field that the record alone has, after all others.
abbrev pub in_record : Viewer → List ℕ → List ℕ
in_record (Seat seat) text = []
in_record Record text = text

-- The call that is kept at an accepted reach, or null.
abbrev pub bid_text : Bid → List ℕ
bid_text bids.NoBid = codes "null"
bid_text (bids.Chi seat target tile a b) = call_object (codes "chi") seat target tile (a ∷ b ∷ [])
bid_text (bids.Pon seat target tile a b) = call_object (codes "pon") seat target tile (a ∷ b ∷ [])
bid_text (bids.OpenKan seat target tile a b c) = call_object (codes "daiminkan") seat target tile (a ∷ b ∷ c ∷ [])

-- An accepted reach: its deposit, and the points after it.
unfoldable pub reach_accepted_line : Viewer → ℕ → List ℤ → Bid → List ℕ
reach_accepted_line viewer seat points bid =
    codes "{\"type\":\"reach_accepted\",\"actor\":" ++ decimal seat ++ codes ",\"deltas\":" ++ points_text (deposit_changes seat)
    ++ codes ",\"scores\":" ++ points_text points ++ in_record viewer (codes ",\"then\":" ++ bid_text bid) ++ codes "}\n"

-- The name of a row of the table of yaku.
abbrev pub row_name : ℕ → List ℕ
row_name row = option_map_or (λ entry. entry.name) (slice_get table row) []

-- A row of the table of yaku with its number.
abbrev pub row_text : ℕ × ℕ → List ℕ
row_text item = 91 ∷ quoted (row_name item.0) ++ 44 ∷ decimal item.1 ++ 93 ∷ []

-- A win.
unfoldable pub win_line : Viewer → ℕ → ℕ → ℕ → List ℕ → List ℕ → List (ℕ × ℕ) → ℕ → ℕ → ℕ → List ℤ → List ℤ → List ℕ → List ℕ
win_line viewer seat target tile unders hand yaku fu han value deltas points rest =
    codes "{\"type\":\"hora\",\"actor\":" ++ decimal seat ++ codes ",\"target\":" ++ decimal target ++ codes ",\"pai\":" ++ quoted_tile tile
    ++ codes ",\"uradora_markers\":" ++ bracketed (map quoted_tile unders) ++ codes ",\"hora_tehais\":" ++ bracketed (map quoted_tile hand)
    ++ codes ",\"yakus\":" ++ bracketed (map row_text yaku) ++ codes ",\"fu\":" ++ decimal fu ++ codes ",\"fan\":" ++ decimal han
    ++ codes ",\"hora_points\":" ++ decimal value ++ codes ",\"deltas\":" ++ points_text deltas ++ codes ",\"scores\":" ++ points_text points
    ++ in_record viewer (codes ",\"rest\":" ++ bracketed (map decimal rest)) ++ codes "}\n"

-- The name of a reason of a draw.
abbrev pub reason_name : Reason → List ℕ
reason_name reasons.Fanpai = codes "fanpai"
reason_name reasons.Kyushukyuhai = codes "kyushukyuhai"
reason_name reasons.Suufonrenta = codes "suufonrenta"
reason_name reasons.Suuchareach = codes "suuchareach"
reason_name reasons.Suukaikan = codes "suukaikan"

-- A hand at a draw: its tiles where it is shown, else as many hidden ones.
abbrev pub hand_at_draw : Shown → List (List ℕ)
hand_at_draw (Tiles tiles) = map quoted_tile tiles
hand_at_draw (Hidden number) = replicate number hidden_tile

-- A hand that is drawn.
unfoldable pub drawn_hand_line : Reason → Four Shown → List Bool → List ℤ → List ℤ → List ℕ
drawn_hand_line reason hands ready deltas points =
    codes "{\"type\":\"ryukyoku\",\"reason\":" ++ quoted (reason_name reason) ++ codes ",\"tehais\":"
    ++ bracketed (bracketed (hand_at_draw hands.first) ∷ bracketed (hand_at_draw hands.second) ∷ bracketed (hand_at_draw hands.third) ∷ bracketed (hand_at_draw hands.fourth) ∷ [])
    ++ codes ",\"tenpais\":" ++ bracketed (map truth ready) ++ codes ",\"deltas\":" ++ points_text deltas ++ codes ",\"scores\":" ++ points_text points ++ codes "}\n"

-- The end of a hand, and of a game.
unfoldable pub end_hand_line : List ℕ
end_hand_line = codes "{\"type\":\"end_kyoku\"}\n"

unfoldable pub end_game_line : List ℤ → ℕ → List ℕ
end_game_line points deposits =
    codes "{\"type\":\"end_game\",\"scores\":" ++ points_text points ++ codes ",\"kyotaku\":" ++ decimal deposits ++ codes "}\n"

-- The hands as a viewer sees them.
abbrev pub hands_seen : Viewer → Four (List ℕ) → Four (List (List ℕ))
hands_seen viewer hands = record {
  first = shown_tiles (sees viewer 0) hands.first;
  second = shown_tiles (sees viewer 1) hands.second;
  third = shown_tiles (sees viewer 2) hands.third;
  fourth = shown_tiles (sees viewer 3) hands.fourth;
}

-- The drawn tile as it is seen.
abbrev pub tile_seen : Bool → ℕ → List ℕ
tile_seen true tile = quoted_tile tile
tile_seen false tile = hidden_tile

-- The line of a deed for a viewer.
abbrev pub line : Viewer → Deed → List ℕ
line viewer (StartGame names) = start_game_line (seat_in_line viewer) names
line viewer (StartHand round number honba deposits dealer indicator hands) = start_hand_line round number honba deposits dealer indicator (hands_seen viewer hands)
line viewer (Draw seat tile replacement) = draw_line seat (tile_seen (sees viewer seat) tile)
line viewer (Discard seat tile drawn) = discard_line seat tile drawn
line viewer (Chi seat target tile a b) = call_line (codes "chi") seat target tile (a ∷ b ∷ [])
line viewer (Pon seat target tile a b) = call_line (codes "pon") seat target tile (a ∷ b ∷ [])
line viewer (OpenKan seat target tile a b c) = call_line (codes "daiminkan") seat target tile (a ∷ b ∷ c ∷ [])
line viewer (ClosedKan seat a b c d) = closed_kan_line seat (a ∷ b ∷ c ∷ d ∷ [])
line viewer (AddedKan seat tile a b c) = added_kan_line seat tile (a ∷ b ∷ c ∷ [])
line viewer (Dora tile) = dora_line tile
line viewer (Reach seat) = reach_line seat
line viewer (ReachAccepted seat points bid) = reach_accepted_line viewer seat points bid
line viewer (Win seat target tile unders hand yaku fu han value deltas points rest) = win_line viewer seat target tile unders hand yaku fu han value deltas points rest
line viewer (DrawnHand reason hands ready deltas points) = drawn_hand_line reason hands ready deltas points
line viewer EndHand = end_hand_line
line viewer (EndGame points deposits) = end_game_line points deposits

-- The drawn tile, or a hidden one.
abbrev pub tile_or_hidden : Option ℕ → List ℕ
tile_or_hidden None = hidden_tile
tile_or_hidden (Some tile) = quoted_tile tile

-- The dealt hands with as many hidden tiles as stand for them.
abbrev pub hands_or_hidden : Four Shown → Four (List (List ℕ))
hands_or_hidden hands = record {
  first = hand_at_draw hands.first;
  second = hand_at_draw hands.second;
  third = hand_at_draw hands.third;
  fourth = hand_at_draw hands.fourth;
}

-- The line of a deed as a viewer sees it. The viewer counts for the start of a game alone, which tells it its seat; what the
-- record alone is told is written where it is there.
abbrev pub masked_line : Viewer → Masked → List ℕ
masked_line viewer (masks.StartGame names) = start_game_line (seat_in_line viewer) names
masked_line viewer (masks.StartHand round number honba deposits dealer indicator hands) = start_hand_line round number honba deposits dealer indicator (hands_or_hidden hands)
masked_line viewer (masks.Draw seat tile replacement) = draw_line seat (tile_or_hidden tile)
masked_line viewer (masks.Discard seat tile drawn) = discard_line seat tile drawn
masked_line viewer (masks.Chi seat target tile a b) = call_line (codes "chi") seat target tile (a ∷ b ∷ [])
masked_line viewer (masks.Pon seat target tile a b) = call_line (codes "pon") seat target tile (a ∷ b ∷ [])
masked_line viewer (masks.OpenKan seat target tile a b c) = call_line (codes "daiminkan") seat target tile (a ∷ b ∷ c ∷ [])
masked_line viewer (masks.ClosedKan seat a b c d) = closed_kan_line seat (a ∷ b ∷ c ∷ d ∷ [])
masked_line viewer (masks.AddedKan seat tile a b c) = added_kan_line seat tile (a ∷ b ∷ c ∷ [])
masked_line viewer (masks.Dora tile) = dora_line tile
masked_line viewer (masks.Reach seat) = reach_line seat
masked_line viewer (masks.ReachAccepted seat points None) = reach_accepted_line (Seat 0) seat points bids.NoBid
masked_line viewer (masks.ReachAccepted seat points (Some bid)) = reach_accepted_line Record seat points bid
masked_line viewer (masks.Win seat target tile unders hand yaku fu han value deltas points None) = win_line (Seat 0) seat target tile unders hand yaku fu han value deltas points []
masked_line viewer (masks.Win seat target tile unders hand yaku fu han value deltas points (Some rest)) = win_line Record seat target tile unders hand yaku fu han value deltas points rest
masked_line viewer (masks.DrawnHand reason hands ready deltas points) = drawn_hand_line reason hands ready deltas points
masked_line viewer masks.EndHand = end_hand_line
masked_line viewer (masks.EndGame points deposits) = end_game_line points deposits

-- The number of a rule, by its place in the order of refusal, and its name.
abbrev pub rule_number : Rule → ℕ
rule_number rules.Unreadable = 1
rule_number rules.NotYours = 2
rule_number rules.NotNow = 3
rule_number rules.NoSuchTile = 4
rule_number rules.WrongTarget = 5
rule_number rules.LastTile = 6
rule_number rules.NotHeld = 7
rule_number rules.NotDrawn = 8
rule_number rules.Locked = 9
rule_number rules.BadSet = 10
rule_number rules.NotLeft = 11
rule_number rules.SwapCall = 12
rule_number rules.StuckCall = 13
rule_number rules.KanFull = 14
rule_number rules.KanDry = 15
rule_number rules.RiichiKan = 16
rule_number rules.ReachOpen = 17
rule_number rules.ReachPoor = 18
rule_number rules.ReachLate = 19
rule_number rules.ReachUnready = 20
rule_number rules.NotComplete = 21
rule_number rules.Furiten = 22
rule_number rules.NoYaku = 23
rule_number rules.NotNine = 24

abbrev pub rule_name : Rule → List ℕ
rule_name rules.Unreadable = codes "Unreadable"
rule_name rules.NotYours = codes "NotYours"
rule_name rules.NotNow = codes "NotNow"
rule_name rules.NoSuchTile = codes "NoSuchTile"
rule_name rules.WrongTarget = codes "WrongTarget"
rule_name rules.LastTile = codes "LastTile"
rule_name rules.NotHeld = codes "NotHeld"
rule_name rules.NotDrawn = codes "NotDrawn"
rule_name rules.Locked = codes "Locked"
rule_name rules.BadSet = codes "BadSet"
rule_name rules.NotLeft = codes "NotLeft"
rule_name rules.SwapCall = codes "SwapCall"
rule_name rules.StuckCall = codes "StuckCall"
rule_name rules.KanFull = codes "KanFull"
rule_name rules.KanDry = codes "KanDry"
rule_name rules.RiichiKan = codes "RiichiKan"
rule_name rules.ReachOpen = codes "ReachOpen"
rule_name rules.ReachPoor = codes "ReachPoor"
rule_name rules.ReachLate = codes "ReachLate"
rule_name rules.ReachUnready = codes "ReachUnready"
rule_name rules.NotComplete = codes "NotComplete"
rule_name rules.Furiten = codes "Furiten"
rule_name rules.NoYaku = codes "NoYaku"
rule_name rules.NotNine = codes "NotNine"

-- The line that a refused answer gets.
unfoldable pub error_text : Rule → List ℕ
error_text rule = codes "{\"type\":\"error\",\"rule\":" ++ decimal (rule_number rule) ++ codes ",\"message\":" ++ quoted (rule_name rule) ++ codes "}\n"

-- The number of a refusal of a seat, and its name.
abbrev pub refusal_number : SitRefused → ℕ
refusal_number refusals.Full = 1
refusal_number refusals.NameTaken = 2
refusal_number refusals.WrongKey = 3
refusal_number refusals.NoKey = 4
refusal_number refusals.TooOften = 5
refusal_number refusals.Over = 6
refusal_number refusals.BadName = 7
refusal_number refusals.NoRoom = 8

abbrev pub refusal_name : SitRefused → List ℕ
refusal_name refusals.Full = codes "Full"
refusal_name refusals.NameTaken = codes "NameTaken"
refusal_name refusals.WrongKey = codes "WrongKey"
refusal_name refusals.NoKey = codes "NoKey"
refusal_name refusals.TooOften = codes "TooOften"
refusal_name refusals.Over = codes "Over"
refusal_name refusals.BadName = codes "BadName"
refusal_name refusals.NoRoom = codes "NoRoom"

-- The line that a refused join gets.
unfoldable pub refusal_line : SitRefused → List ℕ
refusal_line cause = codes "{\"type\":\"error\",\"sit\":" ++ decimal (refusal_number cause) ++ codes ",\"message\":" ++ quoted (refusal_name cause) ++ codes "}\n"

-- The first line of each connection.
unfoldable pub hello_line : List ℕ
hello_line = codes "{\"type\":\"hello\",\"protocol\":\"mjsonp\",\"protocol_version\":3}\n"

-- The line after it after a return: how many lines are told again.
unfoldable pub replay_line : ℕ → List ℕ
replay_line count = codes "{\"type\":\"replay\",\"count\":" ++ decimal count ++ codes "}\n"
