-- What the usual spellings of answers read as: each is what is printed for its tokens, and these have one value.
use Rattle.std.proofs.Common.{◌≡◌, ℕ, zero, suc, ◌+◌, ◌<◌, ◌≤◌, Bool, true, false, cond, List, [], ◌∷◌, ◌++◌, append_assoc, refl, sym, ap, ◌∙◌, arith}
use Rattle.std.specs.Prelude.{Option, Some, None, option_and_then, option_map, unwrap_or, map, codes, bytes_eq, nat_le, nat_lt, not, ◌&&◌, ◌==◌, IsAscii}
use Rattle.std.specs.List.{list_all}
use Rattle.std.proofs.lemmas.Bool.{and_parts, ltb-true, lt-ltb}
use Rattle.std.proofs.lemmas.Bool.Decides.{nat_tests}
use Rattle.std.proofs.lemmas.Str.{IsUtf8-from_ascii, IsAscii-append}
use Rattle.std.proofs.lemmas.Str.Ascii.{IsAscii-nil, IsAscii-cons}
use Rattle.std.proofs.lemmas.Slice.Eq.{bytes_eq-Decides}
use Rattle.json.specs.Token.{Token, begin_object, end_object, begin_array, end_array, key, string, number, boolean}
use Rattle.json.specs.Lex.{tokens}
use Rattle.json.specs.Json as json
use Rattle.json.specs.Print.{escape, print, print_from, escape_byte, ArePrintable}
use Rattle.json.specs.Word.{after_number}
use Rattle.json.proofs.Printed.Strings.{escape_byte_plain}
use Rattle.json.proofs.Printed.Tokens.{tokens-print}
use Rattle.serde_json.specs.Data.{Data, unsigned, object, no_members, member, no_items, item}
use Rattle.serde_json.specs.Data as value
use Rattle.serde_json.specs.Read.{of_json, max_depth, number_of}
use Rattle.serde_json.proofs.OnLiterals.{serde_json_on_literals}
use Rattle.mj_lists.proofs.Ranges.{passes}
use Rattle.mj_tiles.specs.Faces.{texts, text_of, face_of, tile_order, less, in_tile_order}
use Rattle.mj_tiles.proofs.Texts.{text_of-face_of}
use Rattle.mj_deeds.specs.declared.answer.Pai.{Pai}
use Rattle.mj_deeds.specs.declared.answer.Pai.TheVariants.{Known, Hidden}
use Rattle.mj_deeds.specs.declared.answer.Answer.{Answer}
use Rattle.mj_deeds.specs.declared.answer.Answer.TheVariants.{Pass, Discard, Pon, Reach, Win, Unread}
use Rattle.mj_forms.specs.AnswerForms.{value_of, pai_of, seat_as, seat_in, text_in, pai_in, pass_in, discard_in, reach_in, win_in, own_in, call_in, pais_in_order, answer_in, answer_of}
use Rattle.mjai_answers.specs.Fronts.{BeginsWithSeat}
use Rattle.mjai_answers.specs.Inner.Spellings.{pass_front, pass_text, discard_front, tile_front, mark_text, discard_text, reach_front}
use Rattle.mjai_answers.specs.Inner.Spellings.{reach_text, win_front, target_front, win_text, pon_front, own_front, pon_text}
use Rattle.mjai_answers.proofs.Texts.{value_of_text}

-- plain texts

-- A byte that a line shows as it is.
abbrev is_plain : ℕ → Bool
is_plain byte = nat_le 32 byte && nat_lt byte 128 && not (byte == 34) && not (byte == 92)

abbrev all_plain : List ℕ → Bool
all_plain = list_all is_plain

-- What that says of the byte.
record IsShown (byte : ℕ) : Type 0 where
  above : 32 ≤ byte
  below : byte < 128
  no_quote : byte ≡ 34 → ⊥
  no_backslash : byte ≡ 92 → ⊥

shown_byte : (byte : ℕ) → is_plain byte ≡ true → IsShown byte
shown_byte byte h = grind (arith, nat_tests)

-- The texts of the tiles are plain.
tiles_are_plain : (face : ℕ) → face < 37 → all_plain (text_of face) ≡ true
unfolding text_of texts
tiles_are_plain face within = passes (λ other. all_plain (text_of other)) 37 face refl within

-- So is each text that names one, or a hidden one.
named_is_plain : (text : List ℕ) (pai : Pai) → pai_of text ≡ Some pai → all_plain text ≡ true
unfolding pai_of
named_is_plain text pai named = by_mark (bytes_eq text (codes "?")) refl named
  where
    by_face : (o : Option ℕ) → face_of text ≡ o → option_map Known o ≡ Some pai → all_plain text ≡ true
    by_face None is h = absurd (cc)
    by_face (Some face) is h = let back = text_of-face_of text face is in ap all_plain back.1 ∙ tiles_are_plain face back.0

    by_mark : (b : Bool) → bytes_eq text (codes "?") ≡ b → cond b (Some Hidden) (option_map Known (face_of text)) ≡ Some pai → all_plain text ≡ true
    by_mark true is h = ap all_plain ((bytes_eq-Decides text (codes "?")).0 is)
    by_mark false is h = by_face (face_of text) refl h

-- A plain text is printed as it is, and is ASCII.
escape_plain : (text : List ℕ) → all_plain text ≡ true → escape text ≡ text
escape_plain [] h = refl
escape_plain (byte ∷ bytes) h =
    let parts = and_parts (is_plain byte) (all_plain bytes) h in
    let shown = shown_byte byte parts.0 in
    ap (λ front. front ++ escape bytes) (escape_byte_plain byte shown.no_quote shown.no_backslash shown.above) ∙ ap (λ rest. byte ∷ rest) (escape_plain bytes parts.1)

ascii_plain : (text : List ℕ) → all_plain text ≡ true → IsAscii text
ascii_plain [] h = IsAscii-nil
ascii_plain (byte ∷ bytes) h =
    let parts = and_parts (is_plain byte) (all_plain bytes) h in
    IsAscii-cons byte bytes (shown_byte byte parts.0).below (ascii_plain bytes parts.1)

-- seats

-- The digit of a seat is a number of JSON, with the seat as its value.
abbrev IsSeatNumber : ℕ → Type 0
IsSeatNumber actor = (after_number ((48 + actor) ∷ []) ≡ Some []) × (number_of ((48 + actor) ∷ []) ≡ Some (unsigned actor))

seat_number : (actor : ℕ) → actor < 4 → IsSeatNumber actor
unfolding serde_json_on_literals
seat_number zero h = (refl, refl)
seat_number (suc zero) h = (refl, refl)
seat_number (suc (suc zero)) h = (refl, refl)
seat_number (suc (suc (suc zero))) h = (refl, refl)
seat_number (suc (suc (suc (suc n)))) h = absurd (omega arith)

-- lines

-- The value of tokens.
abbrev value_of_tokens : List Token → Option Data
value_of_tokens ts = option_and_then of_json (option_and_then (λ p. json.if_last p.0 p.1) (json.value max_depth ts))

-- A line that is printed for tokens has their value, and reads as the answer of that.
answer_of_tokens : (line : List ℕ) (ts : List Token) (found : Data) (answer : Answer) →
    IsAscii line → ArePrintable ts → print ts ≡ line → value_of_tokens ts ≡ Some found → answer_in found ≡ Some answer → answer ≡ answer_of line
unfolding answer_of
answer_of_tokens line ts found answer ascii printable printed valued is =
    let back : tokens line ≡ ts = ap tokens (sym printed) ∙ tokens-print ts printable in
    let whole : value_of line ≡ Some found = value_of_text line (IsUtf8-from_ascii line ascii) ∙ ap value_of_tokens back ∙ valued in
    sym (ap (λ o. unwrap_or (option_and_then answer_in o) Unread) whole ∙ ap (λ o. unwrap_or o Unread) is)

-- A text is ASCII where all its bytes are.
ascii_from : (text : List ℕ) → list_all (λ byte. nat_lt byte 128) text ≡ true → IsAscii text
ascii_from [] h = IsAscii-nil
ascii_from (byte ∷ bytes) h =
    let parts = and_parts (nat_lt byte 128) (list_all (λ other. nat_lt other 128) bytes) h in
    IsAscii-cons byte bytes (ltb-true byte 128 parts.0) (ascii_from bytes parts.1)

ascii_with_seat : (front rest : List ℕ) (actor : ℕ) → list_all (λ byte. nat_lt byte 128) front ≡ true → actor < 4 → IsAscii rest → IsAscii (front ++ (48 + actor) ∷ rest)
ascii_with_seat front rest actor h within ascii =
    IsAscii-append front ((48 + actor) ∷ rest) (ascii_from front h) (IsAscii-cons (48 + actor) rest (omega arith) ascii)

-- passes

-- A pass without its actor.
pub pass_read : Pass None ≡ answer_of (codes "{\"type\":\"none\"}")
unfolding print_from escape_byte ArePrintable json.items json.members json.value answer_in text_in pass_in
pass_read =
    let line = codes "{\"type\":\"none\"}" in
    let ts = begin_object ∷ key (codes "type") ∷ string (codes "none") ∷ end_object ∷ [] in
    let found = object (member (codes "type") (value.string (codes "none")) no_members) in
    answer_of_tokens line ts found (Pass None) (ascii_from line refl) (tt, (tt, (tt, (tt, tt)))) refl refl refl

abbrev pass_tokens : ℕ → List Token
pass_tokens actor = begin_object ∷ key (codes "type") ∷ string (codes "none") ∷ key (codes "actor") ∷ number ((48 + actor) ∷ []) ∷ end_object ∷ []

abbrev pass_value : ℕ → Data
pass_value actor = object (member (codes "actor") (value.number (unsigned actor)) (member (codes "type") (value.string (codes "none")) no_members))

pass_printed : (actor : ℕ) → print (pass_tokens actor) ≡ pass_text actor
unfolding print_from escape_byte pass_text
pass_printed actor = refl

pass_valued : (actor : ℕ) → number_of ((48 + actor) ∷ []) ≡ Some (unsigned actor) → value_of_tokens (pass_tokens actor) ≡ Some (pass_value actor)
unfolding json.items json.members json.value
pass_valued actor is = rw is refl

pass_answer : (actor : ℕ) → actor < 4 → answer_in (pass_value actor) ≡ Some (Pass (Some actor))
unfolding answer_in text_in pass_in seat_as
pass_answer actor within = rw (lt-ltb actor 4 within) refl

-- A pass with its actor.
pass_of_seat : (actor : ℕ) → actor < 4 → Pass (Some actor) ≡ answer_of (pass_text actor)
unfolding ArePrintable pass_text
pass_of_seat actor within =
    let seat = seat_number actor within in
    answer_of_tokens (pass_text actor) (pass_tokens actor) (pass_value actor) (Pass (Some actor))
    (ascii_with_seat pass_front (codes "}") actor refl within (ascii_from (codes "}") refl))
    (tt, (tt, (tt, (tt, (seat.0, (tt, tt)))))) (pass_printed actor) (pass_valued actor seat.1) (pass_answer actor within)

-- So is a line that is read part by part.
pub pass_of_actor_read : (line after rest : List ℕ) (actor : ℕ) →
    line ≡ pass_front ++ after → BeginsWithSeat after actor rest → rest ≡ codes "}" → Pass (Some actor) ≡ answer_of line
unfolding pass_text
pass_of_actor_read line after rest actor begins seat ends =
    let whole : line ≡ pass_text actor = begins ∙ ap (λ t. pass_front ++ t) (seat.parts ∙ ap (λ t. (48 + actor) ∷ t) ends) in
    pass_of_seat actor seat.within ∙ ap answer_of (sym whole)

-- discards

abbrev discard_tokens : ℕ → List ℕ → Bool → List Token
discard_tokens actor tile drawn =
    begin_object ∷ key (codes "type") ∷ string (codes "dahai") ∷ key (codes "actor") ∷ number ((48 + actor) ∷ [])
    ∷ key (codes "pai") ∷ string tile ∷ key (codes "tsumogiri") ∷ boolean drawn ∷ end_object ∷ []

abbrev discard_value : ℕ → List ℕ → Bool → Data
discard_value actor tile drawn =
    object (member (codes "actor") (value.number (unsigned actor)) (member (codes "pai") (value.string tile)
    (member (codes "tsumogiri") (value.boolean drawn) (member (codes "type") (value.string (codes "dahai")) no_members))))

-- What follows the seat, where the tile's text is printed as it is.
tile_printed : (tile behind : List ℕ) → escape tile ≡ tile → (escape tile ++ 34 ∷ []) ++ behind ≡ tile ++ 34 ∷ behind
tile_printed tile behind same = ap (λ t. (t ++ 34 ∷ []) ++ behind) same ∙ append_assoc tile (34 ∷ []) behind

discard_printed : (actor : ℕ) (tile : List ℕ) (drawn : Bool) → escape tile ≡ tile → print (discard_tokens actor tile drawn) ≡ discard_text actor tile drawn
unfolding print_from escape_byte discard_text
discard_printed actor tile true same =
    ap (λ t. discard_front ++ (48 + actor) ∷ (tile_front ++ t)) (tile_printed tile (codes ",\"tsumogiri\":true}") same)
discard_printed actor tile false same =
    ap (λ t. discard_front ++ (48 + actor) ∷ (tile_front ++ t)) (tile_printed tile (codes ",\"tsumogiri\":false}") same)

discard_valued : (actor : ℕ) (tile : List ℕ) (drawn : Bool) →
    number_of ((48 + actor) ∷ []) ≡ Some (unsigned actor) → value_of_tokens (discard_tokens actor tile drawn) ≡ Some (discard_value actor tile drawn)
unfolding json.items json.members json.value
discard_valued actor tile drawn is = rw is refl

discard_answer : (actor : ℕ) (tile : List ℕ) (drawn : Bool) (pai : Pai) →
    actor < 4 → pai_of tile ≡ Some pai → answer_in (discard_value actor tile drawn) ≡ Some (Discard actor pai drawn)
unfolding answer_in text_in discard_in seat_in pai_in seat_as
discard_answer actor tile drawn pai within named = rw (lt-ltb actor 4 within, named) refl

ascii_mark : (drawn : Bool) → IsAscii (mark_text drawn)
ascii_mark true = ascii_from (mark_text true) refl
ascii_mark false = ascii_from (mark_text false) refl

-- A discard of a tile that its text names.
discard_of_tile : (actor : ℕ) (tile : List ℕ) (drawn : Bool) (pai : Pai) →
    actor < 4 → pai_of tile ≡ Some pai → Discard actor pai drawn ≡ answer_of (discard_text actor tile drawn)
unfolding ArePrintable discard_text
discard_of_tile actor tile drawn pai within named =
    let plain = named_is_plain tile pai named in
    let seat = seat_number actor within in
    let behind = IsAscii-append tile (mark_text drawn) (ascii_plain tile plain) (ascii_mark drawn) in
    let rest = IsAscii-append tile_front (tile ++ mark_text drawn) (ascii_from tile_front refl) behind in
    answer_of_tokens (discard_text actor tile drawn) (discard_tokens actor tile drawn) (discard_value actor tile drawn) (Discard actor pai drawn)
    (ascii_with_seat discard_front (tile_front ++ (tile ++ mark_text drawn)) actor refl within rest)
    (tt, (tt, (tt, (tt, (seat.0, (tt, (tt, (tt, (tt, (tt, tt))))))))))
    (discard_printed actor tile drawn (escape_plain tile plain)) (discard_valued actor tile drawn seat.1) (discard_answer actor tile drawn pai within named)

-- So is a line that is read part by part.
pub discard_read : (line after rest behind : List ℕ) (actor : ℕ) (tile : List ℕ) (drawn : Bool) (pai : Pai) →
    line ≡ discard_front ++ after → BeginsWithSeat after actor rest → rest ≡ tile_front ++ behind → behind ≡ tile ++ mark_text drawn →
    Some pai ≡ pai_of tile → Discard actor pai drawn ≡ answer_of line
unfolding discard_text
discard_read line after rest behind actor tile drawn pai begins seat middle ends named =
    let whole : line ≡ discard_text actor tile drawn =
    begins ∙ ap (λ t. discard_front ++ t) (seat.parts ∙ ap (λ t. (48 + actor) ∷ t) (middle ∙ ap (λ t. tile_front ++ t) ends)) in
    discard_of_tile actor tile drawn pai seat.within (sym named) ∙ ap answer_of (sym whole)

-- reaches

abbrev reach_tokens : ℕ → List Token
reach_tokens actor = begin_object ∷ key (codes "type") ∷ string (codes "reach") ∷ key (codes "actor") ∷ number ((48 + actor) ∷ []) ∷ end_object ∷ []

abbrev reach_value : ℕ → Data
reach_value actor = object (member (codes "actor") (value.number (unsigned actor)) (member (codes "type") (value.string (codes "reach")) no_members))

reach_printed : (actor : ℕ) → print (reach_tokens actor) ≡ reach_text actor
unfolding print_from escape_byte reach_text
reach_printed actor = refl

reach_valued : (actor : ℕ) → number_of ((48 + actor) ∷ []) ≡ Some (unsigned actor) → value_of_tokens (reach_tokens actor) ≡ Some (reach_value actor)
unfolding json.items json.members json.value
reach_valued actor is = rw is refl

reach_answer : (actor : ℕ) → actor < 4 → answer_in (reach_value actor) ≡ Some (Reach actor)
unfolding answer_in text_in reach_in seat_in seat_as
reach_answer actor within = rw (lt-ltb actor 4 within) refl

reach_of_seat : (actor : ℕ) → actor < 4 → Reach actor ≡ answer_of (reach_text actor)
unfolding ArePrintable reach_text
reach_of_seat actor within =
    let seat = seat_number actor within in
    answer_of_tokens (reach_text actor) (reach_tokens actor) (reach_value actor) (Reach actor)
    (ascii_with_seat reach_front (codes "}") actor refl within (ascii_from (codes "}") refl))
    (tt, (tt, (tt, (tt, (seat.0, (tt, tt)))))) (reach_printed actor) (reach_valued actor seat.1) (reach_answer actor within)

-- A line that is read part by part.
pub reach_read : (line after rest : List ℕ) (actor : ℕ) →
    line ≡ reach_front ++ after → BeginsWithSeat after actor rest → rest ≡ codes "}" → Reach actor ≡ answer_of line
unfolding reach_text
reach_read line after rest actor begins seat ends =
    let whole : line ≡ reach_text actor = begins ∙ ap (λ t. reach_front ++ t) (seat.parts ∙ ap (λ t. (48 + actor) ∷ t) ends) in
    reach_of_seat actor seat.within ∙ ap answer_of (sym whole)

-- wins

abbrev win_tokens : ℕ → ℕ → List ℕ → List Token
win_tokens actor target tile =
    begin_object ∷ key (codes "type") ∷ string (codes "hora") ∷ key (codes "actor") ∷ number ((48 + actor) ∷ [])
    ∷ key (codes "target") ∷ number ((48 + target) ∷ []) ∷ key (codes "pai") ∷ string tile ∷ end_object ∷ []

abbrev win_value : ℕ → ℕ → List ℕ → Data
win_value actor target tile =
    object (member (codes "actor") (value.number (unsigned actor)) (member (codes "pai") (value.string tile)
    (member (codes "target") (value.number (unsigned target)) (member (codes "type") (value.string (codes "hora")) no_members))))

win_printed : (actor target : ℕ) (tile : List ℕ) → escape tile ≡ tile → print (win_tokens actor target tile) ≡ win_text actor target tile
unfolding print_from escape_byte win_text
win_printed actor target tile same =
    ap (λ t. win_front ++ (48 + actor) ∷ (target_front ++ (48 + target) ∷ (tile_front ++ t))) (tile_printed tile (codes "}") same)

win_valued : (actor target : ℕ) (tile : List ℕ) → number_of ((48 + actor) ∷ []) ≡ Some (unsigned actor) → number_of ((48 + target) ∷ []) ≡ Some (unsigned target) →
    value_of_tokens (win_tokens actor target tile) ≡ Some (win_value actor target tile)
unfolding json.items json.members json.value
win_valued actor target tile is at = rw (is, at) refl

win_answer : (actor target : ℕ) (tile : List ℕ) (pai : Pai) →
    actor < 4 → target < 4 → pai_of tile ≡ Some pai → answer_in (win_value actor target tile) ≡ Some (Win actor target (Some pai))
unfolding answer_in text_in win_in seat_in seat_as
win_answer actor target tile pai within at named = rw (lt-ltb actor 4 within, lt-ltb target 4 at, named) refl

win_of_tile : (actor target : ℕ) (tile : List ℕ) (pai : Pai) →
    actor < 4 → target < 4 → pai_of tile ≡ Some pai → Win actor target (Some pai) ≡ answer_of (win_text actor target tile)
unfolding ArePrintable win_text
win_of_tile actor target tile pai within at named =
    let plain = named_is_plain tile pai named in
    let seat = seat_number actor within in
    let other = seat_number target at in
    let behind = IsAscii-append tile (codes "\"}") (ascii_plain tile plain) (ascii_from (codes "\"}") refl) in
    let rest = IsAscii-append tile_front (tile ++ codes "\"}") (ascii_from tile_front refl) behind in
    let middle = ascii_with_seat target_front (tile_front ++ (tile ++ codes "\"}")) target refl at rest in
    answer_of_tokens (win_text actor target tile) (win_tokens actor target tile) (win_value actor target tile) (Win actor target (Some pai))
    (ascii_with_seat win_front (target_front ++ (48 + target) ∷ (tile_front ++ (tile ++ codes "\"}"))) actor refl within middle)
    (tt, (tt, (tt, (tt, (seat.0, (tt, (other.0, (tt, (tt, (tt, tt))))))))))
    (win_printed actor target tile (escape_plain tile plain)) (win_valued actor target tile seat.1 other.1) (win_answer actor target tile pai within at named)

-- A line that is read part by part.
pub win_read : (line after middle rest tail behind : List ℕ) (actor target : ℕ) (tile : List ℕ) (pai : Pai) →
    line ≡ win_front ++ after → BeginsWithSeat after actor middle → middle ≡ target_front ++ rest → BeginsWithSeat rest target tail →
    tail ≡ tile_front ++ behind → behind ≡ tile ++ codes "\"}" → Some pai ≡ pai_of tile → Win actor target (Some pai) ≡ answer_of line
unfolding win_text
win_read line after middle rest tail behind actor target tile pai begins seat between other front ends named =
    let last : tail ≡ tile_front ++ (tile ++ codes "\"}") = front ∙ ap (λ t. tile_front ++ t) ends in
    let second : middle ≡ target_front ++ (48 + target) ∷ (tile_front ++ (tile ++ codes "\"}")) =
    between ∙ ap (λ t. target_front ++ t) (other.parts ∙ ap (λ t. (48 + target) ∷ t) last) in
    let whole : line ≡ win_text actor target tile = begins ∙ ap (λ t. win_front ++ t) (seat.parts ∙ ap (λ t. (48 + actor) ∷ t) second) in
    win_of_tile actor target tile pai seat.within other.within (sym named) ∙ ap answer_of (sym whole)

-- pons

abbrev pon_tokens : ℕ → ℕ → List ℕ → List ℕ → List Token
pon_tokens actor target tile own =
    begin_object ∷ key (codes "type") ∷ string (codes "pon") ∷ key (codes "actor") ∷ number ((48 + actor) ∷ [])
    ∷ key (codes "target") ∷ number ((48 + target) ∷ []) ∷ key (codes "pai") ∷ string tile
    ∷ key (codes "consumed") ∷ begin_array ∷ string own ∷ string own ∷ end_array ∷ end_object ∷ []

abbrev pon_value : ℕ → ℕ → List ℕ → List ℕ → Data
pon_value actor target tile own =
    object (member (codes "actor") (value.number (unsigned actor))
    (member (codes "consumed") (value.array (item (value.string own) (item (value.string own) no_items)))
    (member (codes "pai") (value.string tile)
    (member (codes "target") (value.number (unsigned target)) (member (codes "type") (value.string (codes "pon")) no_members)))))

pon_printed : (actor target : ℕ) (tile own : List ℕ) → escape tile ≡ tile → escape own ≡ own → print (pon_tokens actor target tile own) ≡ pon_text actor target tile own
unfolding print_from escape_byte pon_text
pon_printed actor target tile own same plain =
    ap (λ t. pon_front ++ (48 + actor) ∷ (target_front ++ (48 + target) ∷ (tile_front ++ t)))
    (ap (λ t. (escape tile ++ 34 ∷ []) ++ (own_front ++ ((escape own ++ 34 ∷ []) ++ (codes ",\"" ++ t)))) (tile_printed own (codes "]}") plain)
    ∙ ap (λ t. (escape tile ++ 34 ∷ []) ++ (own_front ++ t)) (tile_printed own (codes ",\"" ++ (own ++ codes "\"]}")) plain)
    ∙ tile_printed tile (own_front ++ (own ++ 34 ∷ (codes ",\"" ++ (own ++ codes "\"]}")))) same)

pon_valued : (actor target : ℕ) (tile own : List ℕ) → number_of ((48 + actor) ∷ []) ≡ Some (unsigned actor) → number_of ((48 + target) ∷ []) ≡ Some (unsigned target) →
    value_of_tokens (pon_tokens actor target tile own) ≡ Some (pon_value actor target tile own)
unfolding json.items json.members json.value
pon_valued actor target tile own is at = rw (is, at) refl

-- Two tiles of one face are in tile order.
twin_tiles : (face : ℕ) → face < 37 → in_tile_order (face ∷ face ∷ []) ≡ face ∷ face ∷ []
unfolding in_tile_order less tile_order
twin_tiles face within =
    (bytes_eq-Decides (in_tile_order (face ∷ face ∷ [])) (face ∷ face ∷ [])).0
    (passes (λ other. bytes_eq (in_tile_order (other ∷ other ∷ [])) (other ∷ other ∷ [])) 37 face refl within)

twins : (text : List ℕ) (pai : Pai) → pai_of text ≡ Some pai → pais_in_order (pai ∷ pai ∷ []) ≡ pai ∷ pai ∷ []
unfolding pai_of pais_in_order in_tile_order less tile_order
twins text pai named = by_mark (bytes_eq text (codes "?")) named
  where
    of_some : (a b : Pai) → Some a ≡ Some b → pais_in_order (a ∷ a ∷ []) ≡ a ∷ a ∷ [] → pais_in_order (b ∷ b ∷ []) ≡ b ∷ b ∷ []
    of_some a b e is = let same : a ≡ b = cc in rw same at is

    by_face : (o : Option ℕ) → face_of text ≡ o → option_map Known o ≡ Some pai → pais_in_order (pai ∷ pai ∷ []) ≡ pai ∷ pai ∷ []
    by_face None is h = absurd (cc)
    by_face (Some face) is h = of_some (Known face) pai h (ap (λ tiles. map Known tiles ++ []) (twin_tiles face (text_of-face_of text face is).0))

    by_mark : (b : Bool) → cond b (Some Hidden) (option_map Known (face_of text)) ≡ Some pai → pais_in_order (pai ∷ pai ∷ []) ≡ pai ∷ pai ∷ []
    by_mark true h = of_some Hidden pai h refl
    by_mark false h = by_face (face_of text) refl h

pon_answer : (actor target : ℕ) (tile own : List ℕ) (pai pair : Pai) →
    actor < 4 → target < 4 → pai_of tile ≡ Some pai → pai_of own ≡ Some pair → answer_in (pon_value actor target tile own) ≡ Some (Pon actor target pai pair pair)
unfolding answer_in text_in call_in own_in seat_in pai_in seat_as
pon_answer actor target tile own pai pair within at named paired =
    rw (lt-ltb actor 4 within, lt-ltb target 4 at, named, paired, twins own pair paired) refl

pon_of_texts : (actor target : ℕ) (tile own : List ℕ) (pai pair : Pai) →
    actor < 4 → target < 4 → pai_of tile ≡ Some pai → pai_of own ≡ Some pair → Pon actor target pai pair pair ≡ answer_of (pon_text actor target tile own)
unfolding ArePrintable pon_text
pon_of_texts actor target tile own pai pair within at named paired =
    let plain = named_is_plain tile pai named in
    let clear = named_is_plain own pair paired in
    let seat = seat_number actor within in
    let other = seat_number target at in
    let ending = IsAscii-append own (codes "\"]}") (ascii_plain own clear) (ascii_from (codes "\"]}") refl) in
    let second = IsAscii-append (codes "\",\"") (own ++ codes "\"]}") (ascii_from (codes "\",\"") refl) ending in
    let first = IsAscii-append own (codes "\",\"" ++ (own ++ codes "\"]}")) (ascii_plain own clear) second in
    let owned = IsAscii-append (34 ∷ own_front) (own ++ (codes "\",\"" ++ (own ++ codes "\"]}"))) (ascii_from (34 ∷ own_front) refl) first in
    let tiled = IsAscii-append tile ((34 ∷ own_front) ++ (own ++ (codes "\",\"" ++ (own ++ codes "\"]}")))) (ascii_plain tile plain) owned in
    let rest = IsAscii-append tile_front (tile ++ ((34 ∷ own_front) ++ (own ++ (codes "\",\"" ++ (own ++ codes "\"]}"))))) (ascii_from tile_front refl) tiled in
    let middle = ascii_with_seat target_front (tile_front ++ (tile ++ ((34 ∷ own_front) ++ (own ++ (codes "\",\"" ++ (own ++ codes "\"]}")))))) target refl at rest in
    answer_of_tokens (pon_text actor target tile own) (pon_tokens actor target tile own) (pon_value actor target tile own) (Pon actor target pai pair pair)
    (ascii_with_seat pon_front (target_front ++ (48 + target) ∷ (tile_front ++ (tile ++ ((34 ∷ own_front) ++ (own ++ (codes "\",\"" ++ (own ++ codes "\"]}"))))))) actor refl within middle)
    (tt, (tt, (tt, (tt, (seat.0, (tt, (other.0, (tt, (tt, (tt, (tt, (tt, (tt, (tt, (tt, tt)))))))))))))))
    (pon_printed actor target tile own (escape_plain tile plain) (escape_plain own clear)) (pon_valued actor target tile own seat.1 other.1)
    (pon_answer actor target tile own pai pair within at named paired)

-- A line that is read part by part.
pub pon_read : (line after middle rest tail behind third inner fourth last ends : List ℕ) (actor target : ℕ) (tile own twin : List ℕ) (pai pair : Pai) →
    line ≡ pon_front ++ after → BeginsWithSeat after actor middle → middle ≡ target_front ++ rest → BeginsWithSeat rest target tail →
    tail ≡ tile_front ++ behind → behind ≡ tile ++ 34 ∷ third → third ≡ own_front ++ inner → inner ≡ own ++ 34 ∷ fourth → fourth ≡ codes ",\"" ++ last → last ≡ twin ++ 34 ∷ ends →
    twin ≡ own → ends ≡ codes "]}" → Some pai ≡ pai_of tile → Some pair ≡ pai_of own → Pon actor target pai pair pair ≡ answer_of line
unfolding pon_text
pon_read line after middle rest tail behind third inner fourth last ends actor target tile own twin pai pair begins seat between other front text owns first parted second same closes named paired =
    let closing : last ≡ own ++ codes "\"]}" = second ∙ ap (λ t. t ++ 34 ∷ ends) same ∙ ap (λ t. own ++ 34 ∷ t) closes in
    let pair_is : third ≡ own_front ++ (own ++ 34 ∷ (codes ",\"" ++ (own ++ codes "\"]}"))) =
    owns ∙ ap (λ t. own_front ++ t) (first ∙ ap (λ t. own ++ 34 ∷ t) (parted ∙ ap (λ t. codes ",\"" ++ t) closing)) in
    let tile_is : tail ≡ tile_front ++ (tile ++ 34 ∷ (own_front ++ (own ++ 34 ∷ (codes ",\"" ++ (own ++ codes "\"]}"))))) =
    front ∙ ap (λ t. tile_front ++ t) (text ∙ ap (λ t. tile ++ 34 ∷ t) pair_is) in
    let whole : line ≡ pon_text actor target tile own =
    begins ∙ ap (λ t. pon_front ++ t) (seat.parts ∙ ap (λ t. (48 + actor) ∷ t) (between ∙ ap (λ t. target_front ++ t) (other.parts ∙ ap (λ t. (48 + target) ∷ t) tile_is))) in
    pon_of_texts actor target tile own pai pair seat.within other.within (sym named) (sym paired) ∙ ap answer_of (sym whole)
