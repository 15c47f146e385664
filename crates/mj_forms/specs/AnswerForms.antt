-- What a line that is said reads as, and what a line asks that wants a seat. A line is one JSON value.
use Rattle.std.specs.Prelude.{ℕ, ◌==◌, Bool, false, nat_lt, nat_le, if◌then◌else◌, List, [], ◌∷◌, length, codes, bytes_eq, Option}
use Rattle.std.specs.Prelude.{Some, None, unwrap_or, option_and_then, option_map, ◌++◌, map, flat_map, replicate, count_by, true}
use Rattle.std.specs.Option.{option_map_or}
use Rattle.std.specs.Str.Lossy.{utf8_valid_len}
use Rattle.serde_json.specs.Data.{Data, Items, no_items, item}
use Rattle.serde_json.specs.Find.{get, as_array, as_str, as_bool, as_number, as_u64}
use Rattle.serde_json.specs.Read.{read}
use Rattle.mj_tiles.specs.Faces.{face_of, in_tile_order}
use Rattle.mj_ports.specs.Names.{is_name}
use Rattle.mj_ports.specs.declared.sitting.JoinLine.{JoinLine}
use Rattle.mj_ports.specs.declared.picking.Picked.{Picked}
use Rattle.mj_ports.specs.declared.picking.Picked.TheVariants.{Table, BadName, NoRoom}
use Rattle.mj_deeds.specs.declared.answer.Pai.{Pai}
use Rattle.mj_deeds.specs.declared.answer.Pai.TheVariants.{Known, Hidden}
use Rattle.mj_deeds.specs.Pais.{face_in}
use Rattle.mj_deeds.specs.declared.answer.Answer.{Answer}
use Rattle.mj_deeds.specs.declared.answer.Answer.TheVariants.{Unread, Pass, Discard, Chi, Pon, OpenKan, ClosedKan, AddedKan, Reach, Win, NineKinds}

-- The JSON value that a line is, where it is one: its bytes are UTF-8.
unfoldable pub value_of : List ℕ → Option Data
value_of bytes = if utf8_valid_len bytes == length bytes then read bytes else None

-- A text.
unfoldable pub text_in : List ℕ → Data → Option (List ℕ)
text_in name value = option_and_then as_str (get name value)

-- A seat is a whole number from 0 to 3.
abbrev pub seat_of : ℕ → Option ℕ
seat_of number = if nat_lt number 4 then Some number else None

unfoldable pub seat_as : Data → Option ℕ
seat_as value = option_and_then seat_of (option_and_then as_u64 (option_and_then as_number (Some value)))

unfoldable pub seat_in : List ℕ → Data → Option ℕ
seat_in name value = option_and_then seat_as (get name value)

-- A tile is one of the 37 texts, or a question mark.
unfoldable pub pai_of : List ℕ → Option Pai
pai_of text = if bytes_eq text (codes "?") then Some Hidden else option_map Known (face_of text)

unfoldable pub pai_in : List ℕ → Data → Option Pai
pai_in name value = option_and_then pai_of (text_in name value)

-- A pass may name its actor, and then by a seat.
abbrev pub pass_by : Option Data → Option Answer
pass_by None = Some (Pass None)
pass_by (Some value) = option_map (λ actor. Pass (Some actor)) (seat_as value)

unfoldable pub pass_in : Data → Option Answer
pass_in value = pass_by (get (codes "actor") value)

-- A discard names its actor, the tile, and whether it is the drawn one.
unfoldable pub discard_in : Data → Option Answer
discard_in value =
    option_and_then (λ actor.
    option_and_then (λ tile.
    option_map (λ drawn. Discard actor tile drawn)
    (option_and_then as_bool (get (codes "tsumogiri") value)))
    (pai_in (codes "pai") value))
    (seat_in (codes "actor") value)

-- The texts of a list, where each item is one.
abbrev pub texts_in : Items → Option (List (List ℕ))
texts_in no_items = Some []
texts_in (item value values) = option_and_then (λ text. option_map (λ texts. text ∷ texts) (texts_in values)) (as_str value)

-- The tiles of texts, where each names one.
abbrev pub pais_of : List (List ℕ) → Option (List Pai)
pais_of [] = Some []
pais_of (text ∷ texts) = option_and_then (λ pai. option_map (λ pais. pai ∷ pais) (pais_of texts)) (pai_of text)

abbrev pub is_hidden : Pai → Bool
is_hidden Hidden = true
is_hidden (Known tile) = false

-- Tiles that are named together, in tile order, hidden ones last.
unfoldable pub pais_in_order : List Pai → List Pai
pais_in_order pais = map Known (in_tile_order (flat_map face_in pais)) ++ replicate (count_by is_hidden pais) Hidden

-- The own tiles that a value names.
unfoldable pub own_in : Data → Option (List Pai)
own_in value = option_map pais_in_order (option_and_then pais_of (option_and_then texts_in (option_and_then as_array (get (codes "consumed") value))))

-- An answer with two, three or four own tiles, and none with another number of them.
abbrev pub with_two_tiles : (Pai → Pai → Answer) → List Pai → Option Answer
with_two_tiles make (a ∷ b ∷ []) = Some (make a b)
with_two_tiles make pais = None

abbrev pub with_three_tiles : (Pai → Pai → Pai → Answer) → List Pai → Option Answer
with_three_tiles make (a ∷ b ∷ c ∷ []) = Some (make a b c)
with_three_tiles make pais = None

abbrev pub with_four_tiles : (Pai → Pai → Pai → Pai → Answer) → List Pai → Option Answer
with_four_tiles make (a ∷ b ∷ c ∷ d ∷ []) = Some (make a b c d)
with_four_tiles make pais = None

-- A call names its actor, the target, the tile, and its own tiles.
unfoldable pub call_in : (ℕ → ℕ → Pai → List Pai → Option Answer) → Data → Option Answer
call_in make value =
    option_and_then (λ actor.
    option_and_then (λ target.
    option_and_then (λ tile.
    option_and_then (make actor target tile)
    (own_in value))
    (pai_in (codes "pai") value))
    (seat_in (codes "target") value))
    (seat_in (codes "actor") value)

abbrev pub chi_by : ℕ → ℕ → Pai → List Pai → Option Answer
chi_by actor target tile own = with_two_tiles (λ a b. Chi actor target tile a b) own

abbrev pub pon_by : ℕ → ℕ → Pai → List Pai → Option Answer
pon_by actor target tile own = with_two_tiles (λ a b. Pon actor target tile a b) own

abbrev pub open_kan_by : ℕ → ℕ → Pai → List Pai → Option Answer
open_kan_by actor target tile own = with_three_tiles (λ a b c. OpenKan actor target tile a b c) own

-- A kan of concealed tiles names its actor and four own tiles.
unfoldable pub closed_kan_in : Data → Option Answer
closed_kan_in value =
    option_and_then (λ actor. option_and_then (with_four_tiles (λ a b c d. ClosedKan actor a b c d)) (own_in value))
    (seat_in (codes "actor") value)

-- An added kan names its actor, the added tile, and the triplet.
unfoldable pub added_kan_in : Data → Option Answer
added_kan_in value =
    option_and_then (λ actor.
    option_and_then (λ tile. option_and_then (with_three_tiles (λ a b c. AddedKan actor tile a b c)) (own_in value))
    (pai_in (codes "pai") value))
    (seat_in (codes "actor") value)

-- A reach names its actor.
unfoldable pub reach_in : Data → Option Answer
reach_in value = option_map (λ actor. Reach actor) (seat_in (codes "actor") value)

-- A tile that need not be named.
abbrev pub optional_pai : Option Data → Option (Option Pai)
optional_pai None = Some None
optional_pai (Some value) = option_map Some (option_and_then pai_of (as_str value))

-- A win names its actor and the target, and may name the tile.
unfoldable pub win_in : Data → Option Answer
win_in value =
    option_and_then (λ actor.
    option_and_then (λ target.
    option_map (λ tile. Win actor target tile)
    (optional_pai (get (codes "pai") value)))
    (seat_in (codes "target") value))
    (seat_in (codes "actor") value)

-- Nine kinds are shown by their actor; a reason that is named is that one.
abbrev pub is_nine_kinds : Option Data → Bool
is_nine_kinds None = true
is_nine_kinds (Some value) = option_map_or (λ text. bytes_eq text (codes "kyushukyuhai")) (as_str value) false

unfoldable pub nine_kinds_in : Data → Option Answer
nine_kinds_in value = option_and_then (λ actor. if is_nine_kinds (get (codes "reason") value) then Some (NineKinds actor) else None) (seat_in (codes "actor") value)

-- The answer of a value, by its type.
abbrev pub answer_by : List ℕ → Data → Option Answer
answer_by type value =
    if bytes_eq type (codes "none") then pass_in value else
    (if bytes_eq type (codes "dahai") then discard_in value else
    (if bytes_eq type (codes "chi") then call_in chi_by value else
    (if bytes_eq type (codes "pon") then call_in pon_by value else
    (if bytes_eq type (codes "daiminkan") then call_in open_kan_by value else
    (if bytes_eq type (codes "ankan") then closed_kan_in value else
    (if bytes_eq type (codes "kakan") then added_kan_in value else
    (if bytes_eq type (codes "reach") then reach_in value else
    (if bytes_eq type (codes "hora") then win_in value else
    (if bytes_eq type (codes "ryukyoku") then nine_kinds_in value else None)))))))))

unfoldable pub answer_in : Data → Option Answer
answer_in value = option_and_then (λ type. answer_by type value) (text_in (codes "type") value)

-- What a line reads as: a line that is no answer is unread.
unfoldable pub answer_of : List ℕ → Answer
answer_of bytes = unwrap_or (option_and_then answer_in (value_of bytes)) Unread

abbrev pub name_of : List ℕ → Option (List ℕ)
name_of text = if is_name text then Some text else None

-- A key is a text of at most 64 bytes.
abbrev pub key_of : List ℕ → Option (List ℕ)
key_of text = if nat_le (length text) 64 then Some text else None

-- A join may have a key.
abbrev pub key_by : Option Data → Option (Option (List ℕ))
key_by None = Some None
key_by (Some value) = option_map Some (option_and_then key_of (as_str value))

unfoldable pub join_in : Data → Option JoinLine
join_in value =
    option_and_then (λ type. if bytes_eq type (codes "join") then
    option_and_then (λ name. option_map (λ key. record { name = name; key = key }) (key_by (get (codes "key") value)))
    (option_and_then name_of (text_in (codes "name") value))
    else None)
    (text_in (codes "type") value)

-- What a line asks that wants a seat, where it is a join with a name and a key of the right form.
unfoldable pub join_of : List ℕ → Option JoinLine
join_of bytes = option_and_then join_in (value_of bytes)

-- The table that a room's text names; tables are numbered from 0.
abbrev pub room_number : List ℕ → Option ℕ
room_number text =
    if bytes_eq text (codes "default") then Some 0 else
    (if bytes_eq text (codes "room1") then Some 0 else
    (if bytes_eq text (codes "room2") then Some 1 else
    (if bytes_eq text (codes "room3") then Some 2 else
    (if bytes_eq text (codes "room4") then Some 3 else
    (if bytes_eq text (codes "room5") then Some 4 else
    (if bytes_eq text (codes "room6") then Some 5 else
    (if bytes_eq text (codes "room7") then Some 6 else
    (if bytes_eq text (codes "room8") then Some 7 else None))))))))

abbrev pub room_below : ℕ → ℕ → Option ℕ
room_below rooms number = if nat_lt number rooms then Some number else None

-- A join may name its room, which is one of so many; else it is for the first one.
abbrev pub room_by : ℕ → Option Data → Option ℕ
room_by rooms None = Some 0
room_by rooms (Some value) = option_and_then (room_below rooms) (option_and_then room_number (as_str value))

abbrev pub picked_by : Option JoinLine → Option ℕ → Picked
picked_by None room = BadName
picked_by (Some join) None = NoRoom
picked_by (Some join) (Some table) = Table table

abbrev pub picked_in : ℕ → Data → Picked
picked_in rooms value = picked_by (join_in value) (room_by rooms (get (codes "room") value))

-- For which of so many tables a line is that wants a seat, where it is a join with a name and a key of the right form.
unfoldable pub picked_of : ℕ → List ℕ → Picked
picked_of rooms bytes = option_map_or (picked_in rooms) (value_of bytes) BadName
