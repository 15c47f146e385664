-- The deeds of lines, read from what stands after their kind.
use Rattle.std.specs.Prelude.{ℕ, false, if◌then◌else◌, List, [], ◌∷◌, codes, bytes_eq, Option, Some, None, option_map, option_and_then}
use Rattle.std.specs.Option.{option_or}
use Rattle.mj_bytes.specs.Parts.{behind}
use Rattle.mj_ports.specs.Names.{is_name}
use Rattle.mj_deeds.specs.declared.four.Four.{Four}
use Rattle.mj_deeds.specs.declared.bid.Bid.{Bid}
use Rattle.mj_deeds.specs.declared.bid.Bid.TheVariants as bids
use Rattle.mj_deeds.specs.declared.reason.Reason.{Reason}
use Rattle.mj_deeds.specs.declared.reason.Reason.TheVariants as reasons
use Rattle.mj_deeds.specs.Bids.{call_of_bid}
use Rattle.mj_deeds.specs.Shown.{Shown, Tiles, Hidden}
use Rattle.mj_deeds.specs.declared.deed.Deed.{Deed}
use Rattle.mj_deeds.specs.declared.deed.Deed.TheVariants.{StartGame, StartHand, Draw, Discard, ClosedKan, AddedKan, Dora, Reach, ReachAccepted, Win, DrawnHand, EndHand, EndGame}
use Rattle.mj_records.specs.declared.results.Worth.{Worth}
use Rattle.mj_records.specs.Inner.Fields.{and_rest, below, quoted_at, byte_field, word_field, tile_field, truth_field, points_field}
use Rattle.mj_records.specs.Inner.Lists.{tiles_at, tiles_field, rows_field, hidden_at, seats_field}

unfoldable pub draw_in : List ℕ → Option Deed
draw_in text =
    option_and_then (λ seat.
    option_map (λ tile. Draw seat.0 tile.0 false)
    (tile_field (codes ",\"pai\":") seat.1))
    (byte_field (codes ",\"actor\":") text)

unfoldable pub discard_in : List ℕ → Option Deed
discard_in text =
    option_and_then (λ seat.
    option_and_then (λ tile.
    option_map (λ drawn. Discard seat.0 tile.0 drawn.0)
    (truth_field (codes ",\"tsumogiri\":") tile.1))
    (tile_field (codes ",\"pai\":") seat.1))
    (byte_field (codes ",\"actor\":") text)

unfoldable pub dora_in : List ℕ → Option Deed
dora_in text = option_map (λ tile. Dora tile.0) (tile_field (codes ",\"dora_marker\":") text)

unfoldable pub reach_in : List ℕ → Option Deed
reach_in text = option_map (λ seat. Reach seat.0) (byte_field (codes ",\"actor\":") text)

unfoldable pub end_game_in : List ℕ → Option Deed
end_game_in text =
    option_and_then (λ points.
    option_map (λ deposits. EndGame points.0 deposits.0)
    (word_field (codes ",\"kyotaku\":") points.1))
    (points_field (codes ",\"scores\":") text)

-- A call of a discard by its type, with two own tiles and what stands after them.
abbrev pub call_by : List ℕ → ℕ → ℕ → ℕ → ℕ → ℕ → List ℕ → Option Bid
call_by kind seat target tile a b rest =
    if bytes_eq kind (codes "chi") then Some (bids.Chi seat target tile a b) else
    (if bytes_eq kind (codes "pon") then Some (bids.Pon seat target tile a b) else
    (if bytes_eq kind (codes "daiminkan") then option_map (λ c. bids.OpenKan seat target tile a b c.0) (tile_field (codes ",") rest) else None))

unfoldable pub call_in : List ℕ → List ℕ → Option Bid
call_in kind text =
    option_and_then (λ seat.
    option_and_then (λ target.
    option_and_then (λ tile.
    option_and_then (λ a.
    option_and_then (λ b. call_by kind seat.0 target.0 tile.0 a.0 b.0 b.1)
    (tile_field (codes ",") a.1))
    (tile_field (codes ",\"consumed\":[") tile.1))
    (tile_field (codes ",\"pai\":") target.1))
    (byte_field (codes ",\"target\":") seat.1))
    (byte_field (codes ",\"actor\":") text)

unfoldable pub closed_kan_in : List ℕ → Option Deed
closed_kan_in text =
    option_and_then (λ seat.
    option_and_then (λ a.
    option_and_then (λ b.
    option_and_then (λ c.
    option_map (λ d. ClosedKan seat.0 a.0 b.0 c.0 d.0)
    (tile_field (codes ",") c.1))
    (tile_field (codes ",") b.1))
    (tile_field (codes ",") a.1))
    (tile_field (codes ",\"consumed\":[") seat.1))
    (byte_field (codes ",\"actor\":") text)

unfoldable pub added_kan_in : List ℕ → Option Deed
added_kan_in text =
    option_and_then (λ seat.
    option_and_then (λ tile.
    option_and_then (λ a.
    option_and_then (λ b.
    option_map (λ c. AddedKan seat.0 tile.0 a.0 b.0 c.0)
    (tile_field (codes ",") b.1))
    (tile_field (codes ",") a.1))
    (tile_field (codes ",\"consumed\":[") tile.1))
    (tile_field (codes ",\"pai\":") seat.1))
    (byte_field (codes ",\"actor\":") text)

-- A name between quotation marks after a key.
abbrev pub name_of : List ℕ → Option (List ℕ)
name_of text = if is_name text then Some text else None

unfoldable pub name_field : List ℕ → List ℕ → Option (List ℕ × List ℕ)
name_field key text = option_and_then (and_rest name_of) (option_and_then quoted_at (behind key text))

unfoldable pub start_game_in : List ℕ → Option Deed
start_game_in text =
    option_and_then (λ a.
    option_and_then (λ b.
    option_and_then (λ c.
    option_map (λ d. StartGame (record { first = a.0; second = b.0; third = c.0; fourth = d.0 }))
    (name_field (codes ",") c.1))
    (name_field (codes ",") b.1))
    (name_field (codes ",") a.1))
    (name_field (codes ",\"id\":0,\"names\":[") text)

-- The call that is kept at an accepted reach, or null.
abbrev pub bid_by : Option (List ℕ) → List ℕ → Option Bid
bid_by (Some rest) text = Some bids.NoBid
bid_by None text = option_and_then (λ kind. call_in kind.0 kind.1) (option_and_then quoted_at (behind (codes "{\"type\":") text))

unfoldable pub bid_in : List ℕ → Option Bid
bid_in text = bid_by (behind (codes "null") text) text

unfoldable pub reach_accepted_in : List ℕ → Option Deed
reach_accepted_in text =
    option_and_then (λ seat.
    option_and_then (λ deltas.
    option_and_then (λ points.
    option_map (λ bid. ReachAccepted seat.0 points.0 bid)
    (option_and_then bid_in (behind (codes ",\"then\":") points.1)))
    (points_field (codes ",\"scores\":") deltas.1))
    (points_field (codes ",\"deltas\":") seat.1))
    (byte_field (codes ",\"actor\":") text)

-- The hands of a start of a hand.
unfoldable pub hands_at : List ℕ → Option (Four (List ℕ))
hands_at text =
    option_and_then (λ a.
    option_and_then (λ b.
    option_and_then (λ c.
    option_map (λ d. record { first = a.0; second = b.0; third = c.0; fourth = d.0 })
    (tiles_field (codes ",") c.1))
    (tiles_field (codes ",") b.1))
    (tiles_field (codes ",") a.1))
    (tiles_field (codes ",\"tehais\":[") text)

-- The round, the number, the honba, the deposits, the dealer and the indicator of a start of a hand.
unfoldable pub start_by : ℕ → ℕ → ℕ → ℕ → List ℕ → Option Deed
start_by round number honba deposits text =
    option_and_then (λ dealer.
    option_and_then (λ indicator.
    option_map (λ hands. StartHand round number honba deposits dealer.0 indicator.0 hands)
    (hands_at indicator.1))
    (tile_field (codes ",\"dora_marker\":") dealer.1))
    (byte_field (codes ",\"oya\":") text)

-- A kind of tile after a key.
unfoldable pub kind_field : List ℕ → List ℕ → Option (ℕ × List ℕ)
kind_field key text = option_and_then (and_rest (below 34)) (tile_field key text)

unfoldable pub start_hand_in : List ℕ → Option Deed
start_hand_in text =
    option_and_then (λ round.
    option_and_then (λ number.
    option_and_then (λ honba.
    option_and_then (λ deposits. start_by round.0 number.0 honba.0 deposits.0 deposits.1)
    (word_field (codes ",\"kyotaku\":") honba.1))
    (word_field (codes ",\"honba\":") number.1))
    (byte_field (codes ",\"kyoku\":") round.1))
    (kind_field (codes ",\"bakaze\":") text)

-- What a win is worth, what each seat gains by it and has then, and who wins after it.
unfoldable pub worth_at : List ℕ → Option Worth
worth_at text =
    option_and_then (λ fu.
    option_and_then (λ han.
    option_and_then (λ value.
    option_and_then (λ deltas.
    option_and_then (λ points.
    option_map (λ rest. record { fu = fu.0; han = han.0; value = value.0; deltas = deltas.0; points = points.0; rest = rest })
    (seats_field (codes ",\"rest\":") points.1))
    (points_field (codes ",\"scores\":") deltas.1))
    (points_field (codes ",\"deltas\":") value.1))
    (word_field (codes ",\"hora_points\":") han.1))
    (byte_field (codes ",\"fan\":") fu.1))
    (byte_field (codes ",\"fu\":") text)

-- What a win comes to.
unfoldable pub win_by : ℕ → ℕ → ℕ → List ℕ → List ℕ → List (ℕ × ℕ) → List ℕ → Option Deed
win_by seat target tile unders hand yaku text = option_map (λ w. Win seat target tile unders hand yaku w.fu w.han w.value w.deltas w.points w.rest) (worth_at text)

-- The tiles and the yaku of a win.
unfoldable pub win_with : ℕ → ℕ → ℕ → List ℕ → Option Deed
win_with seat target tile text =
    option_and_then (λ unders.
    option_and_then (λ hand.
    option_and_then (λ yaku. win_by seat target tile unders.0 hand.0 yaku.0 yaku.1)
    (rows_field (codes ",\"yakus\":") hand.1))
    (tiles_field (codes ",\"hora_tehais\":") unders.1))
    (tiles_field (codes ",\"uradora_markers\":") text)

unfoldable pub win_in : List ℕ → Option Deed
win_in text =
    option_and_then (λ seat.
    option_and_then (λ target.
    option_and_then (λ tile. win_with seat.0 target.0 tile.0 tile.1)
    (tile_field (codes ",\"pai\":") target.1))
    (byte_field (codes ",\"target\":") seat.1))
    (byte_field (codes ",\"actor\":") text)

-- The reason of a draw that has a name.
abbrev pub reason_of : List ℕ → Option Reason
reason_of name =
    if bytes_eq name (codes "fanpai") then Some reasons.Fanpai else
    (if bytes_eq name (codes "kyushukyuhai") then Some reasons.Kyushukyuhai else
    (if bytes_eq name (codes "suufonrenta") then Some reasons.Suufonrenta else
    (if bytes_eq name (codes "suuchareach") then Some reasons.Suuchareach else
    (if bytes_eq name (codes "suukaikan") then Some reasons.Suukaikan else None))))

unfoldable pub reason_at : List ℕ → Option (Reason × List ℕ)
reason_at text = option_and_then (and_rest reason_of) (option_and_then quoted_at (behind (codes ",\"reason\":") text))

-- A hand at a draw: question marks that stand for hidden tiles, or its tiles.
unfoldable pub shown_at : List ℕ → Option (Shown × List ℕ)
shown_at text =
    option_or (option_map (λ hidden. (Hidden hidden.0, hidden.1)) (hidden_at text)) (option_map (λ tiles. (Tiles tiles.0, tiles.1)) (tiles_at text))

unfoldable pub shown_field : List ℕ → List ℕ → Option (Shown × List ℕ)
shown_field key text = option_and_then shown_at (behind key text)

unfoldable pub drawn_by : Reason → Four Shown → List ℕ → Option Deed
drawn_by reason hands text =
    option_and_then (λ a.
    option_and_then (λ b.
    option_and_then (λ c.
    option_and_then (λ d.
    option_and_then (λ deltas.
    option_map (λ points. DrawnHand reason hands (a.0 ∷ b.0 ∷ c.0 ∷ d.0 ∷ []) deltas.0 points.0)
    (points_field (codes ",\"scores\":") deltas.1))
    (points_field (codes "],\"deltas\":") d.1))
    (truth_field (codes ",") c.1))
    (truth_field (codes ",") b.1))
    (truth_field (codes ",") a.1))
    (truth_field (codes "],\"tenpais\":[") text)

-- What is shown of the four hands at a draw.
unfoldable pub drawn_with : Reason → List ℕ → Option Deed
drawn_with reason text =
    option_and_then (λ a.
    option_and_then (λ b.
    option_and_then (λ c.
    option_and_then (λ d. drawn_by reason (record { first = a.0; second = b.0; third = c.0; fourth = d.0 }) d.1)
    (shown_field (codes ",") c.1))
    (shown_field (codes ",") b.1))
    (shown_field (codes ",") a.1))
    (shown_field (codes ",\"tehais\":[") text)

unfoldable pub drawn_hand_in : List ℕ → Option Deed
drawn_hand_in text = option_and_then (λ reason. drawn_with reason.0 reason.1) (reason_at text)

-- The deed of a kind that takes no memory.
unfoldable pub small_by : List ℕ → List ℕ → Option Deed
small_by kind text =
    if bytes_eq kind (codes "tsumo") then draw_in text else
    (if bytes_eq kind (codes "dahai") then discard_in text else
    (if bytes_eq kind (codes "chi") then option_and_then call_of_bid (call_in kind text) else
    (if bytes_eq kind (codes "pon") then option_and_then call_of_bid (call_in kind text) else
    (if bytes_eq kind (codes "daiminkan") then option_and_then call_of_bid (call_in kind text) else
    (if bytes_eq kind (codes "ankan") then closed_kan_in text else
    (if bytes_eq kind (codes "kakan") then added_kan_in text else
    (if bytes_eq kind (codes "dora") then dora_in text else
    (if bytes_eq kind (codes "reach") then reach_in text else
    (if bytes_eq kind (codes "reach_accepted") then reach_accepted_in text else
    (if bytes_eq kind (codes "end_kyoku") then Some EndHand else
    (if bytes_eq kind (codes "end_game") then end_game_in text else None)))))))))))

-- The deed of a kind.
unfoldable pub deed_by : List ℕ → List ℕ → Option Deed
deed_by kind text =
    if bytes_eq kind (codes "start_kyoku") then start_hand_in text else
    (if bytes_eq kind (codes "hora") then win_in text else
    (if bytes_eq kind (codes "ryukyoku") then drawn_hand_in text else
    (if bytes_eq kind (codes "start_game") then start_game_in text else small_by kind text)))

-- The deed that a line tells, where it tells one.
unfoldable pub deed_in : List ℕ → Option Deed
deed_in text = option_and_then (λ kind. deed_by kind.0 kind.1) (option_and_then quoted_at (behind (codes "{\"type\":") text))
