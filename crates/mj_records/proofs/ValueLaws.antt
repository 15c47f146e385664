-- What is read of a line is a value of the type of deeds: each field is read within its bounds.
use Rattle.std.proofs.Common.{◌≡◌, ℕ, ◌+◌, ◌<◌, subst, ◌^◌, List, [], ◌∷◌, ◌++◌, Bool, true, false, refl, ap, sym, ◌∙◌, arith, cond, zero, suc}
use Rattle.std.specs.Prelude.{Option, Some, None, ℤ, pos, negsuc, ◌==◌, ◌&&◌, nat_lt, nat_le, length, codes, bytes_eq, option_map, option_and_then}
use Rattle.std.specs.Option.{option_or}
use Rattle.std.specs.List.{list_all}
use Rattle.std.proofs.lemmas.Bool.Decides.{nat_tests}
use Rattle.std.proofs.lemmas.List.Quantifiers.{position-Some}
use Rattle.mj_bytes.specs.Parts.{behind}
use Rattle.mj_ports.specs.Names.{is_name}
use Rattle.mj_tiles.specs.Faces.{face_of}
use Rattle.mj_tiles.proofs.Texts.{text_of-face_of}
use Rattle.mj_yaku.specs.Han.{table, Row}
use Rattle.mj_deeds.specs.declared.four.Four.{Four}
use Rattle.mj_deeds.specs.declared.bid.Bid.{Bid}
use Rattle.mj_deeds.specs.declared.bid.Bid.TheVariants as bids
use Rattle.mj_deeds.specs.declared.reason.Reason.{Reason}
use Rattle.mj_deeds.specs.Bids.{call_of_bid}
use Rattle.mj_deeds.specs.Hand.{is_hand_start}
use Rattle.mj_deeds.specs.Shown.{Shown}
use Rattle.mj_deeds.specs.declared.deed.Deed.{Deed}
use Rattle.mj_deeds.specs.declared.deed.Deed.TheVariants.{Chi, Pon, OpenKan, EndHand}
use Rattle.mj_history.specs.Records.{is_byte, is_word, is_signed_word, is_tile, are_points, are_hands, is_shown, are_shown, is_bid, is_row, is_deed}
use Rattle.mj_records.specs.Inner.Fields.{and_rest, below, number_at, below_at, quoted_at, tile_at, negative_of, signed_by, signed_at}
use Rattle.mj_records.specs.Inner.Fields.{points_at, byte_field, word_field, tile_field, truth_field, signed_field, points_field}
use Rattle.mj_records.specs.Inner.Lists.{behind_item, items_from, items_in, list_at, tiles_at, tiles_field, row_of, row_at, rows_field}
use Rattle.mj_records.specs.Inner.Lists.{marks_by, marks_from, marks_at, hidden_at, seats_with, seats_by, seats_field}
use Rattle.mj_records.specs.declared.results.Worth.{Worth}
use Rattle.mj_records.specs.Deeds.{draw_in, discard_in, dora_in, reach_in, end_game_in, call_by, call_in, closed_kan_in, added_kan_in, name_of, name_field}
use Rattle.mj_records.specs.Deeds.{start_game_in, bid_by, bid_in, reach_accepted_in, hands_at, start_by, kind_field, start_hand_in, worth_at, win_by}
use Rattle.mj_records.specs.Deeds.{win_with, win_in, reason_at, shown_at, shown_field, drawn_by, drawn_with, drawn_hand_in, small_by, deed_by, deed_in}

-- what is read, if anything, has a property
unfoldable IfRead : {A : Type 0} → Option A → (A → Type 0) → Type 0
IfRead None P = Unit {0}
IfRead (Some x) P = P x

nothing : {A : Type 0} (P : A → Type 0) → IfRead None P
unfolding IfRead
nothing P = tt

something : {A : Type 0} (P : A → Type 0) (x : A) → P x → IfRead (Some x) P
unfolding IfRead
something P x h = h

-- one step of reading after another
onward : {A B : Type 0} (P : A → Type 0) (Q : B → Type 0) (f : A → Option B) (o : Option A) → IfRead o P → ((x : A) → P x → IfRead (f x) Q) → IfRead (option_and_then f o) Q
unfolding IfRead
onward P Q f None h k = tt
onward P Q f (Some x) h k = k x h

onward-any : {A B : Type 0} (Q : B → Type 0) (f : A → Option B) (o : Option A) → ((x : A) → IfRead (f x) Q) → IfRead (option_and_then f o) Q
unfolding IfRead
onward-any Q f None k = tt
onward-any Q f (Some x) k = k x

last : {A B : Type 0} (P : A → Type 0) (Q : B → Type 0) (f : A → B) (o : Option A) → IfRead o P → ((x : A) → P x → Q (f x)) → IfRead (option_map f o) Q
unfolding IfRead
last P Q f None h k = tt
last P Q f (Some x) h k = k x h

last-any : {A B : Type 0} (Q : B → Type 0) (f : A → B) (o : Option A) → ((x : A) → Q (f x)) → IfRead (option_map f o) Q
unfolding IfRead
last-any Q f None k = tt
last-any Q f (Some x) k = k x

choose : {A : Type 0} (P : A → Type 0) (t : Bool) (a b : Option A) → IfRead a P → IfRead b P → IfRead (cond t a b) P
choose P true a b h k = h
choose P false a b h k = k

both : (a b : Bool) → a ≡ true → b ≡ true → (a && b) ≡ true
both true b h k = k
both false b h k = h

-- fields within their bounds
abbrev Byte : ℕ × List ℕ → Type 0
Byte x = is_byte x.0 ≡ true

abbrev Word : ℕ × List ℕ → Type 0
Word x = is_word x.0 ≡ true

abbrev Tile : ℕ × List ℕ → Type 0
Tile x = is_tile x.0 ≡ true

abbrev Points : List ℤ × List ℕ → Type 0
Points x = are_points x.0 ≡ true

abbrev Signed : ℤ × List ℕ → Type 0
Signed x = is_signed_word x.0 ≡ true

abbrev Name : List ℕ × List ℕ → Type 0
Name x = is_name x.0 ≡ true

abbrev Faces : List ℕ × List ℕ → Type 0
Faces x = list_all is_tile x.0 ≡ true

abbrev Rows : List (ℕ × ℕ) × List ℕ → Type 0
Rows x = list_all is_row x.0 ≡ true

abbrev Hand : Shown × List ℕ → Type 0
Hand x = is_shown x.0 ≡ true

abbrev Value : Deed → Type 0
Value deed = is_deed deed ≡ true

abbrev Called : Bid → Type 0
Called bid = is_bid bid ≡ true

below_ok : (limit number : ℕ) → IfRead (below limit number) (λ n. nat_lt n limit ≡ true)
below_ok limit number = by_test (nat_lt number limit) refl
  where
    by_test : (t : Bool) → nat_lt number limit ≡ t → IfRead (cond t (Some number) None) (λ n. nat_lt n limit ≡ true)
    by_test true e = something (λ n. nat_lt n limit ≡ true) number e
    by_test false e = nothing (λ n. nat_lt n limit ≡ true)

rest_ok : {A B : Type 0} (P : B → Type 0) (f : A → Option B) (read : A × List ℕ) → IfRead (f read.0) P → IfRead (and_rest f read) (λ x. P x.0)
rest_ok P f read h = last P (λ x. P x.0) (λ x. (x, read.1)) (f read.0) h (λ x k. k)

below_at_ok : (limit : ℕ) (text : List ℕ) → IfRead (below_at limit text) (λ x. nat_lt x.0 limit ≡ true)
unfolding below_at
below_at_ok limit text = onward-any (λ x. nat_lt x.0 limit ≡ true) (and_rest (below limit)) (number_at text) (λ x. rest_ok (λ n. nat_lt n limit ≡ true) (below limit) x (below_ok limit x.0))

byte_ok : (key text : List ℕ) → IfRead (byte_field key text) Byte
unfolding byte_field
byte_ok key text = onward-any Byte (below_at (2 ^ 8)) (behind key text) (λ t. below_at_ok (2 ^ 8) t)

word_ok : (key text : List ℕ) → IfRead (word_field key text) Word
unfolding word_field
word_ok key text = onward-any Word (below_at (2 ^ 32)) (behind key text) (λ t. below_at_ok (2 ^ 32) t)

face_ok : (text : List ℕ) → IfRead (face_of text) (λ t. is_tile t ≡ true)
face_ok text = by_face (face_of text) refl
  where
    by_face : (o : Option ℕ) → face_of text ≡ o → IfRead o (λ t. is_tile t ≡ true)
    by_face None e = nothing (λ t. is_tile t ≡ true)
    by_face (Some t) e = let b = (text_of-face_of text t e).0 in something (λ f. is_tile f ≡ true) t (grind (arith, nat_tests))

tile_at_ok : (text : List ℕ) → IfRead (tile_at text) Tile
unfolding tile_at
tile_at_ok text = onward-any Tile (and_rest face_of) (quoted_at text) (λ x. rest_ok (λ t. is_tile t ≡ true) face_of x (face_ok x.0))

tile_ok : (key text : List ℕ) → IfRead (tile_field key text) Tile
unfolding tile_field
tile_ok key text = onward-any Tile tile_at (behind key text) (λ t. tile_at_ok t)

negative_ok : (n : ℕ) → IfRead (negative_of n) (λ z. is_signed_word z ≡ true)
negative_ok zero = nothing (λ z. is_signed_word z ≡ true)
negative_ok (suc n) = last (λ m. nat_lt m (2 ^ 31) ≡ true) (λ z. is_signed_word z ≡ true) negsuc (below (2 ^ 31) n) (below_ok (2 ^ 31) n) (λ m h. h)

signed_by_ok : (text : List ℕ) (o : Option (List ℕ)) → IfRead (signed_by text o) Signed
signed_by_ok text None = onward-any Signed _ (number_at text) (λ x. rest_ok (λ z. is_signed_word z ≡ true) (λ n. option_map pos (below (2 ^ 31) n)) x
    (last (λ m. nat_lt m (2 ^ 31) ≡ true) (λ z. is_signed_word z ≡ true) pos (below (2 ^ 31) x.0) (below_ok (2 ^ 31) x.0) (λ m h. h)))
signed_by_ok text (Some size) = onward-any Signed (and_rest negative_of) (number_at size) (λ x. rest_ok (λ z. is_signed_word z ≡ true) negative_of x (negative_ok x.0))

signed_ok : (key text : List ℕ) → IfRead (signed_field key text) Signed
unfolding signed_field signed_at
signed_ok key text = onward-any Signed signed_at (behind key text) (λ t. signed_by_ok t (behind (codes "-") t))

points_at_ok : (text : List ℕ) → IfRead (points_at text) Points
unfolding points_at
points_at_ok text =
    onward Signed Points _ _ (signed_ok (codes "[") text) (λ a ha.
    onward Signed Points _ _ (signed_ok (codes ",") a.1) (λ b hb.
    onward Signed Points _ _ (signed_ok (codes ",") b.1) (λ c hc.
    onward Signed Points _ _ (signed_ok (codes ",") c.1) (λ d hd.
    last-any Points _ (behind (codes "]") d.1) (λ rest.
    both (is_signed_word a.0) _ ha (both (is_signed_word b.0) _ hb (both (is_signed_word c.0) _ hc (both (is_signed_word d.0) true hd refl))))))))

points_ok : (key text : List ℕ) → IfRead (points_field key text) Points
unfolding points_field
points_ok key text = onward-any Points points_at (behind key text) (λ t. points_at_ok t)

name_ok : (key text : List ℕ) → IfRead (name_field key text) Name
unfolding name_field
name_ok key text = onward-any Name (and_rest name_of) _ (λ x. rest_ok (λ n. is_name n ≡ true) name_of x (by_test x.0 (is_name x.0) refl))
  where
    by_test : (n : List ℕ) (t : Bool) → is_name n ≡ t → IfRead (cond t (Some n) None) (λ m. is_name m ≡ true)
    by_test n true e = something (λ m. is_name m ≡ true) n e
    by_test n false e = nothing (λ m. is_name m ≡ true)

-- lists
items_ok : {A : Type 0} (q : A → Bool) (item : List ℕ → Option (A × List ℕ)) → ((text : List ℕ) → IfRead (item text) (λ x. q x.0 ≡ true)) →
    (most : ℕ) (text : List ℕ) → IfRead (items_from item most text) (λ x. list_all q x.0 ≡ true)
items_ok q item h zero text = nothing (λ x. list_all q x.0 ≡ true)
items_ok {A} q item h (suc most) text = onward (λ x. q x.0 ≡ true) (λ x. list_all q x.0 ≡ true) _ (item text) (h text) (λ x k. behind_ok x.0 k x.1 (items_ok q item h most))
  where
    behind_ok : (x : A) → q x ≡ true → (rest : List ℕ) → ((t : List ℕ) → IfRead (items_from item most t) (λ x. list_all q x.0 ≡ true)) →
        IfRead (behind_item x (items_from item most) rest) (λ x. list_all q x.0 ≡ true)
    behind_ok x k [] more = nothing (λ x. list_all q x.0 ≡ true)
    behind_ok x k (b ∷ bs) more =
        choose (λ x. list_all q x.0 ≡ true) (b == 44) _ _
        (last (λ x. list_all q x.0 ≡ true) (λ x. list_all q x.0 ≡ true) _ (items_from item most bs) (more bs) (λ y m. both (q x) (list_all q y.0) k m))
        (choose (λ x. list_all q x.0 ≡ true) (b == 93) (Some (x ∷ [], bs)) None (something (λ x. list_all q x.0 ≡ true) (x ∷ [], bs) (both (q x) true k refl)) (nothing (λ x. list_all q x.0 ≡ true)))

in_ok : {A : Type 0} (q : A → Bool) (item : List ℕ → Option (A × List ℕ)) → ((text : List ℕ) → IfRead (item text) (λ x. q x.0 ≡ true)) →
    (text : List ℕ) → IfRead (items_in item text) (λ x. list_all q x.0 ≡ true)
in_ok q item h [] = nothing (λ x. list_all q x.0 ≡ true)
in_ok q item h (b ∷ bs) = choose (λ x. list_all q x.0 ≡ true) (b == 93) (Some ([], bs)) _ (something (λ x. list_all q x.0 ≡ true) ([], bs) refl) (items_ok q item h (length (b ∷ bs)) (b ∷ bs))

list_ok : {A : Type 0} (q : A → Bool) (item : List ℕ → Option (A × List ℕ)) → ((text : List ℕ) → IfRead (item text) (λ x. q x.0 ≡ true)) →
    (text : List ℕ) → IfRead (list_at item text) (λ x. list_all q x.0 ≡ true)
list_ok q item h text = onward-any (λ x. list_all q x.0 ≡ true) (items_in item) (behind (codes "[") text) (in_ok q item h)

tiles_at_ok : (text : List ℕ) → IfRead (tiles_at text) Faces
unfolding tiles_at
tiles_at_ok text = list_ok is_tile tile_at tile_at_ok text

tiles_ok : (key text : List ℕ) → IfRead (tiles_field key text) Faces
unfolding tiles_field
tiles_ok key text = onward-any Faces tiles_at (behind key text) tiles_at_ok

rows_are : length table ≡ 45
unfolding table
rows_are = refl

row_within : (name : List ℕ) (row : ℕ) → row_of name ≡ Some row → row < 45
unfolding row_of
row_within name row e =
    let w = (position-Some (λ (entry : Row). bytes_eq entry.name name) table row (record { name = []; in_closed = 0; in_open = 0 }) e).0 in omega (arith, rows_are, w)

row_ok : (name : List ℕ) → IfRead (row_of name) (λ row. nat_lt row 45 ≡ true)
row_ok name = by_row (row_of name) refl
  where
    by_row : (o : Option ℕ) → row_of name ≡ o → IfRead o (λ row. nat_lt row 45 ≡ true)
    by_row None e = nothing (λ row. nat_lt row 45 ≡ true)
    by_row (Some row) e = let w = row_within name row e in something (λ r. nat_lt r 45 ≡ true) row (grind (arith, nat_tests))

row_at_ok : (text : List ℕ) → IfRead (row_at text) (λ x. is_row x.0 ≡ true)
unfolding row_at
row_at_ok text =
    onward (λ x. nat_lt x.0 45 ≡ true) (λ x. is_row x.0 ≡ true) _ _ (onward-any (λ x. nat_lt x.0 45 ≡ true) (and_rest row_of) _
    (λ x. rest_ok (λ row. nat_lt row 45 ≡ true) row_of x (row_ok x.0))) (λ row hr.
    onward Byte (λ x. is_row x.0 ≡ true) _ _ (byte_ok (codes ",") row.1) (λ number hn.
    last-any (λ x. is_row x.0 ≡ true) _ (behind (codes "]") number.1) (λ rest. both (nat_lt row.0 45) (is_byte number.0) hr hn)))

rows_ok : (key text : List ℕ) → IfRead (rows_field key text) Rows
unfolding rows_field
rows_ok key text = onward-any Rows (list_at row_at) (behind key text) (list_ok is_row row_at row_at_ok)

marks_by_ok : (before : ℕ) (others : List ℕ → Option (ℕ × List ℕ)) (o p : Option (List ℕ)) → is_byte before ≡ true → ((t : List ℕ) → IfRead (others t) Byte) → IfRead (marks_by before others o p) Byte
marks_by_ok before others (Some rest) p h k = something Byte (before, rest) h
marks_by_ok before others None p h k = onward-any Byte others p k

marks_ok : (most before : ℕ) (text : List ℕ) → most + before ≡ 256 → 0 < before → IfRead (marks_from most before text) Byte
marks_ok zero before text e some = nothing Byte
marks_ok (suc most) before text e some =
    let small : is_byte before ≡ true = grind (arith, nat_tests) in
    marks_by_ok before (marks_from most (suc before)) (behind (codes "]") text) (behind (codes ",\"?\"") text) small (λ t. marks_ok most (suc before) t (omega arith) (omega arith))

hidden_ok : (text : List ℕ) → IfRead (hidden_at text) Byte
unfolding hidden_at marks_at
hidden_ok text = onward-any Byte marks_at (behind (codes "[\"?\"") text) (λ t. marks_ok 255 1 t refl (omega arith))

abbrev Seats : List ℕ → Type 0
Seats rest = (nat_le (length rest) 2 && list_all is_byte rest) ≡ true

seats_with_ok : (first : ℕ) (o : Option (ℕ × List ℕ)) → is_byte first ≡ true → IfRead o Byte → Seats (seats_with first o)
unfolding IfRead
seats_with_ok first None h k = both (is_byte first) true h refl
seats_with_ok first (Some second) h k = both (is_byte first) _ h (both (is_byte second.0) true k refl)

seats_by_ok : (o : Option (List ℕ)) (text : List ℕ) → IfRead (seats_by o text) Seats
seats_by_ok (Some rest) text = something Seats [] refl
seats_by_ok None text = last Byte Seats _ (byte_field (codes "[") text) (byte_ok (codes "[") text) (λ first h. seats_with_ok first.0 (byte_field (codes ",") first.1) h (byte_ok (codes ",") first.1))

seats_ok : (key text : List ℕ) → IfRead (seats_field key text) Seats
unfolding seats_field
seats_ok key text = onward-any Seats _ (behind key text) (λ list. seats_by_ok (behind (codes "[]") list) list)

shown_at_ok : (text : List ℕ) → IfRead (shown_at text) Hand
unfolding shown_at IfRead
shown_at_ok text = either _ _ (last Byte Hand _ (hidden_at text) (hidden_ok text) (λ x h. h)) (last Faces Hand _ (tiles_at text) (tiles_at_ok text) (λ x h. h))
  where
    either : (a b : Option (Shown × List ℕ)) → IfRead a Hand → IfRead b Hand → IfRead (option_or a b) Hand
    either None b h k = k
    either (Some x) b h k = h

shown_ok : (key text : List ℕ) → IfRead (shown_field key text) Hand
unfolding shown_field
shown_ok key text = onward-any Hand shown_at (behind key text) shown_at_ok

-- deeds of few fields
draw_ok : (text : List ℕ) → IfRead (draw_in text) Value
unfolding draw_in
draw_ok text =
    onward Byte Value _ _ (byte_ok (codes ",\"actor\":") text) (λ seat h.
    last Tile Value _ _ (tile_ok (codes ",\"pai\":") seat.1) (λ tile k. both (is_byte seat.0) (is_tile tile.0) h k))

discard_ok : (text : List ℕ) → IfRead (discard_in text) Value
unfolding discard_in
discard_ok text =
    onward Byte Value _ _ (byte_ok (codes ",\"actor\":") text) (λ seat h.
    onward Tile Value _ _ (tile_ok (codes ",\"pai\":") seat.1) (λ tile k.
    last-any Value _ (truth_field (codes ",\"tsumogiri\":") tile.1) (λ drawn. both (is_byte seat.0) (is_tile tile.0) h k)))

dora_ok : (text : List ℕ) → IfRead (dora_in text) Value
unfolding dora_in
dora_ok text = last Tile Value _ _ (tile_ok (codes ",\"dora_marker\":") text) (λ tile k. k)

reach_ok : (text : List ℕ) → IfRead (reach_in text) Value
unfolding reach_in
reach_ok text = last Byte Value _ _ (byte_ok (codes ",\"actor\":") text) (λ seat k. k)

end_game_ok : (text : List ℕ) → IfRead (end_game_in text) Value
unfolding end_game_in
end_game_ok text =
    onward Points Value _ _ (points_ok (codes ",\"scores\":") text) (λ points h.
    last Word Value _ _ (word_ok (codes ",\"kyotaku\":") points.1) (λ deposits k. both (are_points points.0) (is_word deposits.0) h k))

-- calls and kans
call_by_ok : (kind : List ℕ) (seat target tile a b : ℕ) (rest : List ℕ) → (is_byte seat && is_byte target && is_tile tile && is_tile a && is_tile b) ≡
    true → IfRead (call_by kind seat target tile a b rest) Called
call_by_ok kind seat target tile a b rest h =
    choose Called (bytes_eq kind (codes "chi")) _ _ (something Called (bids.Chi seat target tile a b) h)
    (choose Called (bytes_eq kind (codes "pon")) _ _ (something Called (bids.Pon seat target tile a b) h)
    (choose Called (bytes_eq kind (codes "daiminkan")) _ _ (last Tile Called _ _ (tile_ok (codes ",") rest)
    (λ c k. both (is_byte seat && is_byte target && is_tile tile && is_tile a && is_tile b) (is_tile c.0) h k)) (nothing Called)))

call_ok : (kind text : List ℕ) → IfRead (call_in kind text) Called
unfolding call_in
call_ok kind text =
    onward Byte Called _ _ (byte_ok (codes ",\"actor\":") text) (λ seat hs.
    onward Byte Called _ _ (byte_ok (codes ",\"target\":") seat.1) (λ target ht.
    onward Tile Called _ _ (tile_ok (codes ",\"pai\":") target.1) (λ tile hp.
    onward Tile Called _ _ (tile_ok (codes ",\"consumed\":[") tile.1) (λ a ha.
    onward Tile Called _ _ (tile_ok (codes ",") a.1) (λ b hb.
    call_by_ok kind seat.0 target.0 tile.0 a.0 b.0 b.1
    (both _ (is_tile b.0) (both _ (is_tile a.0) (both _ (is_tile tile.0) (both (is_byte seat.0) (is_byte target.0) hs ht) hp) ha) hb))))))

call_value : (bid : Bid) → is_bid bid ≡ true → IfRead (call_of_bid bid) Value
call_value bids.NoBid h = nothing Value
call_value (bids.Chi seat target tile a b) h = something Value (Chi seat target tile a b) h
call_value (bids.Pon seat target tile a b) h = something Value (Pon seat target tile a b) h
call_value (bids.OpenKan seat target tile a b c) h = something Value (OpenKan seat target tile a b c) h

closed_kan_ok : (text : List ℕ) → IfRead (closed_kan_in text) Value
unfolding closed_kan_in
closed_kan_ok text =
    onward Byte Value _ _ (byte_ok (codes ",\"actor\":") text) (λ seat hs.
    onward Tile Value _ _ (tile_ok (codes ",\"consumed\":[") seat.1) (λ a ha.
    onward Tile Value _ _ (tile_ok (codes ",") a.1) (λ b hb.
    onward Tile Value _ _ (tile_ok (codes ",") b.1) (λ c hc.
    last Tile Value _ _ (tile_ok (codes ",") c.1) (λ d hd.
    both _ (is_tile d.0) (both _ (is_tile c.0) (both _ (is_tile b.0) (both (is_byte seat.0) (is_tile a.0) hs ha) hb) hc) hd)))))

added_kan_ok : (text : List ℕ) → IfRead (added_kan_in text) Value
unfolding added_kan_in
added_kan_ok text =
    onward Byte Value _ _ (byte_ok (codes ",\"actor\":") text) (λ seat hs.
    onward Tile Value _ _ (tile_ok (codes ",\"pai\":") seat.1) (λ tile ht.
    onward Tile Value _ _ (tile_ok (codes ",\"consumed\":[") tile.1) (λ a ha.
    onward Tile Value _ _ (tile_ok (codes ",") a.1) (λ b hb.
    last Tile Value _ _ (tile_ok (codes ",") b.1) (λ c hc.
    both _ (is_tile c.0) (both _ (is_tile b.0) (both _ (is_tile a.0) (both (is_byte seat.0) (is_tile tile.0) hs ht) ha) hb) hc)))))

start_game_ok : (text : List ℕ) → IfRead (start_game_in text) Value
unfolding start_game_in
start_game_ok text =
    onward Name Value _ _ (name_ok (codes ",\"id\":0,\"names\":[") text) (λ a ha.
    onward Name Value _ _ (name_ok (codes ",") a.1) (λ b hb.
    onward Name Value _ _ (name_ok (codes ",") b.1) (λ c hc.
    last Name Value _ _ (name_ok (codes ",") c.1) (λ d hd.
    both _ (is_name d.0) (both _ (is_name c.0) (both (is_name a.0) (is_name b.0) ha hb) hc) hd))))

-- an accepted reach
bid_by_ok : (o : Option (List ℕ)) (text : List ℕ) → IfRead (bid_by o text) Called
bid_by_ok (Some rest) text = something Called bids.NoBid refl
bid_by_ok None text = onward-any Called _ _ (λ kind. call_ok kind.0 kind.1)

bid_ok : (text : List ℕ) → IfRead (bid_in text) Called
unfolding bid_in
bid_ok text = bid_by_ok (behind (codes "null") text) text

reach_accepted_ok : (text : List ℕ) → IfRead (reach_accepted_in text) Value
unfolding reach_accepted_in
reach_accepted_ok text =
    onward Byte Value _ _ (byte_ok (codes ",\"actor\":") text) (λ seat hs.
    onward-any Value _ (points_field (codes ",\"deltas\":") seat.1) (λ deltas.
    onward Points Value _ _ (points_ok (codes ",\"scores\":") deltas.1) (λ points hp.
    last Called Value _ _ (onward-any Called bid_in (behind (codes ",\"then\":") points.1) bid_ok) (λ bid hb.
    both _ (is_bid bid) (both (is_byte seat.0) (are_points points.0) hs hp) hb))))

-- a start of a hand
hands_ok : (text : List ℕ) → IfRead (hands_at text) (λ hands. are_hands hands ≡ true)
unfolding hands_at
hands_ok text =
    onward Faces (λ hands. are_hands hands ≡ true) _ _ (tiles_ok (codes ",\"tehais\":[") text) (λ a ha.
    onward Faces (λ hands. are_hands hands ≡ true) _ _ (tiles_ok (codes ",") a.1) (λ b hb.
    onward Faces (λ hands. are_hands hands ≡ true) _ _ (tiles_ok (codes ",") b.1) (λ c hc.
    last Faces (λ hands. are_hands hands ≡ true) _ _ (tiles_ok (codes ",") c.1) (λ d hd.
    both _ (list_all is_tile d.0) (both _ (list_all is_tile c.0) (both (list_all is_tile a.0) (list_all is_tile b.0) ha hb) hc) hd))))

kind_ok : (key text : List ℕ) → IfRead (kind_field key text) (λ x. nat_lt x.0 34 ≡ true)
unfolding kind_field
kind_ok key text = onward-any (λ x. nat_lt x.0 34 ≡ true) (and_rest (below 34)) (tile_field key text) (λ x. rest_ok (λ k. nat_lt k 34 ≡ true) (below 34) x (below_ok 34 x.0))

start_by_ok : (round number honba deposits : ℕ) (text : List ℕ) → (nat_lt round 34 && is_byte number && is_word honba && is_word deposits) ≡ true →
    IfRead (start_by round number honba deposits text) Value
unfolding start_by
start_by_ok round number honba deposits text h =
    onward Byte Value _ _ (byte_ok (codes ",\"oya\":") text) (λ dealer hd.
    onward Tile Value _ _ (tile_ok (codes ",\"dora_marker\":") dealer.1) (λ indicator hi.
    last (λ hands. are_hands hands ≡ true) Value _ _ (hands_ok indicator.1) (λ hands hh.
    both _ (are_hands hands) (both _ (is_tile indicator.0) (both (nat_lt round 34 && is_byte number && is_word honba && is_word deposits) (is_byte dealer.0) h hd) hi) hh)))

start_hand_ok : (text : List ℕ) → IfRead (start_hand_in text) Value
unfolding start_hand_in
start_hand_ok text =
    onward (λ x. nat_lt x.0 34 ≡ true) Value _ _ (kind_ok (codes ",\"bakaze\":") text) (λ round hr.
    onward Byte Value _ _ (byte_ok (codes ",\"kyoku\":") round.1) (λ number hn.
    onward Word Value _ _ (word_ok (codes ",\"honba\":") number.1) (λ honba hh.
    onward Word Value _ _ (word_ok (codes ",\"kyotaku\":") honba.1) (λ deposits hd.
    start_by_ok round.0 number.0 honba.0 deposits.0 deposits.1 (both _ (is_word deposits.0) (both _ (is_word honba.0) (both (nat_lt round.0 34) (is_byte number.0) hr hn) hh) hd)))))

-- a win
abbrev begun : ℕ → ℕ → ℕ → List ℕ → List ℕ → List (ℕ × ℕ) → Bool
begun seat target tile unders hand yaku = is_byte seat && is_byte target && is_tile tile && list_all is_tile unders && list_all is_tile hand && list_all is_row yaku

joined : (a b c : Bool) → a ≡ true → (b && c) ≡ true → (a && b && c) ≡ true
joined true b c h k = k
joined false b c h k = h

record FitsWin (w : Worth) : Type 0 where
  fu : is_byte w.fu ≡ true
  han : is_byte w.han ≡ true
  value : is_word w.value ≡ true
  deltas : are_points w.deltas ≡ true
  points : are_points w.points ≡ true
  rest : Seats w.rest

worth_ok : (text : List ℕ) → IfRead (worth_at text) FitsWin
unfolding worth_at
worth_ok text =
    onward Byte FitsWin _ _ (byte_ok (codes ",\"fu\":") text) (λ fu hf.
    onward Byte FitsWin _ _ (byte_ok (codes ",\"fan\":") fu.1) (λ han hh.
    onward Word FitsWin _ _ (word_ok (codes ",\"hora_points\":") han.1) (λ value hv.
    onward Points FitsWin _ _ (points_ok (codes ",\"deltas\":") value.1) (λ deltas hd.
    onward Points FitsWin _ _ (points_ok (codes ",\"scores\":") deltas.1) (λ points hp.
    last Seats FitsWin _ _ (seats_ok (codes ",\"rest\":") points.1) (λ rest hr. record { fu = hf; han = hh; value = hv; deltas = hd; points = hp; rest = hr }))))))

win_by_ok : (seat target tile : ℕ) (unders hand : List ℕ) (yaku : List (ℕ × ℕ)) (text : List ℕ) → begun seat target tile unders hand yaku ≡ true →
    IfRead (win_by seat target tile unders hand yaku text) Value
unfolding win_by
win_by_ok seat target tile unders hand yaku text h =
    last FitsWin Value _ _ (worth_ok text) (λ w f.
    joined _ (nat_le (length w.rest) 2) (list_all is_byte w.rest)
    (both _ (are_points w.points) (both _ (are_points w.deltas)
    (both _ (is_word w.value) (both _ (is_byte w.han) (both (begun seat target tile unders hand yaku) (is_byte w.fu) h f.fu) f.han) f.value)
    f.deltas) f.points) f.rest)

win_with_ok : (seat target tile : ℕ) (text : List ℕ) → (is_byte seat && is_byte target && is_tile tile) ≡ true → IfRead (win_with seat target tile text) Value
unfolding win_with
win_with_ok seat target tile text h =
    onward Faces Value _ _ (tiles_ok (codes ",\"uradora_markers\":") text) (λ unders hu.
    onward Faces Value _ _ (tiles_ok (codes ",\"hora_tehais\":") unders.1) (λ hand hh.
    onward Rows Value _ _ (rows_ok (codes ",\"yakus\":") hand.1) (λ yaku hy.
    win_by_ok seat target tile unders.0 hand.0 yaku.0 yaku.1
    (both _ (list_all is_row yaku.0) (both _ (list_all is_tile hand.0) (both (is_byte seat && is_byte target && is_tile tile)
    (list_all is_tile unders.0) h hu) hh) hy))))

win_ok : (text : List ℕ) → IfRead (win_in text) Value
unfolding win_in
win_ok text =
    onward Byte Value _ _ (byte_ok (codes ",\"actor\":") text) (λ seat hs.
    onward Byte Value _ _ (byte_ok (codes ",\"target\":") seat.1) (λ target ht.
    onward Tile Value _ _ (tile_ok (codes ",\"pai\":") target.1) (λ tile hp.
    win_with_ok seat.0 target.0 tile.0 tile.1 (both _ (is_tile tile.0) (both (is_byte seat.0) (is_byte target.0) hs ht) hp))))

-- a drawn hand
drawn_by_ok : (reason : Reason) (hands : Four Shown) (text : List ℕ) → are_shown hands ≡ true → IfRead (drawn_by reason hands text) Value
unfolding drawn_by
drawn_by_ok reason hands text h =
    onward-any Value _ (truth_field (codes "],\"tenpais\":[") text) (λ a.
    onward-any Value _ (truth_field (codes ",") a.1) (λ b.
    onward-any Value _ (truth_field (codes ",") b.1) (λ c.
    onward-any Value _ (truth_field (codes ",") c.1) (λ d.
    onward Points Value _ _ (points_ok (codes "],\"deltas\":") d.1) (λ deltas hd.
    last Points Value _ _ (points_ok (codes ",\"scores\":") deltas.1) (λ points hp.
    both _ (are_points points.0) (both _ (are_points deltas.0) (both (are_shown hands) true h refl) hd) hp))))))

drawn_with_ok : (reason : Reason) (text : List ℕ) → IfRead (drawn_with reason text) Value
unfolding drawn_with
drawn_with_ok reason text =
    onward Hand Value _ _ (shown_ok (codes ",\"tehais\":[") text) (λ a ha.
    onward Hand Value _ _ (shown_ok (codes ",") a.1) (λ b hb.
    onward Hand Value _ _ (shown_ok (codes ",") b.1) (λ c hc.
    onward Hand Value _ _ (shown_ok (codes ",") c.1) (λ d hd.
    drawn_by_ok reason (record { first = a.0; second = b.0; third = c.0; fourth = d.0 }) d.1 (both _ (is_shown d.0) (both _ (is_shown c.0) (both (is_shown a.0) (is_shown b.0) ha hb) hc) hd)))))

drawn_hand_ok : (text : List ℕ) → IfRead (drawn_hand_in text) Value
unfolding drawn_hand_in
drawn_hand_ok text = onward-any Value _ (reason_at text) (λ reason. drawn_with_ok reason.0 reason.1)

-- all kinds
call_deed_ok : (kind text : List ℕ) → IfRead (option_and_then call_of_bid (call_in kind text)) Value
call_deed_ok kind text = onward Called Value call_of_bid (call_in kind text) (call_ok kind text) call_value

small_ok : (kind text : List ℕ) → IfRead (small_by kind text) Value
unfolding small_by
small_ok kind text =
    choose Value (bytes_eq kind (codes "tsumo")) _ _ (draw_ok text)
    (choose Value (bytes_eq kind (codes "dahai")) _ _ (discard_ok text)
    (choose Value (bytes_eq kind (codes "chi")) _ _ (call_deed_ok kind text)
    (choose Value (bytes_eq kind (codes "pon")) _ _ (call_deed_ok kind text)
    (choose Value (bytes_eq kind (codes "daiminkan")) _ _ (call_deed_ok kind text)
    (choose Value (bytes_eq kind (codes "ankan")) _ _ (closed_kan_ok text)
    (choose Value (bytes_eq kind (codes "kakan")) _ _ (added_kan_ok text)
    (choose Value (bytes_eq kind (codes "dora")) _ _ (dora_ok text)
    (choose Value (bytes_eq kind (codes "reach")) _ _ (reach_ok text)
    (choose Value (bytes_eq kind (codes "reach_accepted")) _ _ (reach_accepted_ok text)
    (choose Value (bytes_eq kind (codes "end_kyoku")) _ _ (something Value EndHand refl)
    (choose Value (bytes_eq kind (codes "end_game")) _ _ (end_game_ok text) (nothing Value))))))))))))

deed_by_ok : (kind text : List ℕ) → IfRead (deed_by kind text) Value
unfolding deed_by
deed_by_ok kind text =
    choose Value (bytes_eq kind (codes "start_kyoku")) _ _ (start_hand_ok text)
    (choose Value (bytes_eq kind (codes "hora")) _ _ (win_ok text)
    (choose Value (bytes_eq kind (codes "ryukyoku")) _ _ (drawn_hand_ok text)
    (choose Value (bytes_eq kind (codes "start_game")) _ _ (start_game_ok text) (small_ok kind text))))

deed_ok : (text : List ℕ) → IfRead (deed_in text) Value
unfolding deed_in
deed_ok text = onward-any Value _ _ (λ kind. deed_by_ok kind.0 kind.1)

pub read_is_value : (text : List ℕ) (deed : Deed) → Some deed ≡ deed_in text → is_deed deed ≡ true
unfolding IfRead
read_is_value text deed e = subst (λ (o : Option Deed). IfRead o Value) (sym e) (deed_ok text)

-- of a line that begins as that of a start of a hand nothing else is read
abbrev Starts : Deed → Type 0
Starts deed = is_hand_start deed ≡ true

start_by_starts : (round number honba deposits : ℕ) (text : List ℕ) → IfRead (start_by round number honba deposits text) Starts
unfolding start_by
start_by_starts round number honba deposits text =
    onward-any Starts _ (byte_field (codes ",\"oya\":") text) (λ dealer.
    onward-any Starts _ (tile_field (codes ",\"dora_marker\":") dealer.1) (λ indicator.
    last-any Starts _ (hands_at indicator.1) (λ hands. refl)))

start_hand_starts : (text : List ℕ) → IfRead (start_hand_in text) Starts
unfolding start_hand_in
start_hand_starts text =
    onward-any Starts _ (kind_field (codes ",\"bakaze\":") text) (λ round.
    onward-any Starts _ (byte_field (codes ",\"kyoku\":") round.1) (λ number.
    onward-any Starts _ (word_field (codes ",\"honba\":") number.1) (λ honba.
    onward-any Starts _ (word_field (codes ",\"kyotaku\":") honba.1) (λ deposits. start_by_starts round.0 number.0 honba.0 deposits.0 deposits.1))))

begun_starts : (rest : List ℕ) → IfRead (deed_in (codes "{\"type\":\"start_kyoku\"" ++ rest)) Starts
unfolding deed_in deed_by quoted_at
begun_starts rest = start_hand_starts rest

pub read_start : (text rest : List ℕ) (deed : Deed) → text ≡ codes "{\"type\":\"start_kyoku\"" ++ rest → deed_in text ≡ Some deed → is_hand_start deed ≡ true
unfolding IfRead
read_start text rest deed e r = subst (λ (o : Option Deed). IfRead o Starts) (sym (ap deed_in e) ∙ r) (begun_starts rest)
