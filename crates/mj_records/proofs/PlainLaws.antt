-- Each line of a record has one newline, at its end.
use Rattle.std.proofs.Common.{◌≡◌, ℕ, ◌<◌, ◌^◌, List, [], ◌∷◌, ◌++◌, Bool, true, false, refl, sym, ◌∙◌, arith, append_assoc, suc, zero, length}
use Rattle.std.specs.Prelude.{ℤ, pos, negsuc, ◌==◌, ◌&&◌, not, nat_lt, nat_le, codes, decimal, flat_map, map, replicate}
use Rattle.std.specs.List.{list_all}
use Rattle.std.specs.Fmt.{signed_decimal}
use Rattle.std.specs.Str.{is_utf8}
use Rattle.std.specs.Char.{is_ascii_digit}
use Rattle.std.proofs.lemmas.Bool.{and_from, and_parts, ltb-true}
use Rattle.std.proofs.lemmas.Bool.Decides.{nat_tests}
use Rattle.std.proofs.lemmas.Fmt.{digits_decimal}
use Rattle.std.proofs.lemmas.List.Folds.{list_all-append}
use Rattle.mj_bytes.specs.Numbers.{all_digits}
use Rattle.mj_bytes.specs.Parts.{has_byte}
use Rattle.mj_bytes.proofs.DigitLaws.{all_digits-head}
use Rattle.mj_lists.proofs.Ranges.{passes}
use Rattle.mj_tiles.specs.Faces.{text_of, texts}
use Rattle.mj_yaku.specs.Han.{table}
use Rattle.mj_pay.specs.Payments.{deposit_changes}
use Rattle.mj_ports.specs.Names.{is_name}
use Rattle.mj_deeds.specs.declared.bid.Bid.{Bid}
use Rattle.mj_deeds.specs.declared.bid.Bid.TheVariants as bids
use Rattle.mj_deeds.specs.declared.reason.Reason.{Reason}
use Rattle.mj_deeds.specs.declared.reason.Reason.TheVariants as reasons
use Rattle.mj_deeds.specs.Shown.{Shown, Tiles, Hidden}
use Rattle.mj_deeds.specs.declared.deed.Viewer.TheVariants.{Record}
use Rattle.mj_deeds.specs.declared.deed.Deed.{Deed}
use Rattle.mj_deeds.specs.declared.deed.Deed.TheVariants.{StartGame, StartHand, Draw, Discard, Chi, Pon, OpenKan, ClosedKan, AddedKan, Dora, Reach, ReachAccepted, Win, DrawnHand, EndHand, EndGame}
use Rattle.mj_wall.specs.declared.setting.Rules.{Rules}
use Rattle.mj_wall.specs.Places.{is_wall}
use Rattle.mj_wall.proofs.WallFaces.{wall_faces}
use Rattle.std.specs.List.{All}
use Rattle.std.proofs.lemmas.List.Elements.{All-head, All-tail}
use Rattle.mj_forms.specs.Lines.{quoted, bracketed, truth, quoted_tile, hidden_tile, points_text, call_object, bid_text, row_name, row_text, reason_name}
use Rattle.mj_forms.specs.Lines.{hand_at_draw, line, start_game_line, start_hand_line, draw_line, discard_line, closed_kan_line, added_kan_line}
use Rattle.mj_forms.specs.Lines.{dora_line, reach_line, reach_accepted_line, win_line, drawn_hand_line, end_hand_line, end_game_line}
use Rattle.mj_forms.specs.Headers.{switch_text, header_line, wall_line}
use Rattle.mj_history.specs.Records.{are_rules, is_byte, is_word, is_signed_word, is_tile, are_points, are_hands, is_shown, are_shown, is_bid, is_row, is_deed}
use Rattle.mj_records.proofs.FieldLaws.{own}
use Rattle.mj_records.proofs.ReachLaws.{changes_fit}

-- a text of printed bytes alone, none of which is a newline
record Printed (text : List ℕ) : Type 0 where
  all : list_all (λ byte. nat_le 32 byte) text ≡ true

written : (text : List ℕ) → list_all (λ byte. nat_le 32 byte) text ≡ true → Printed text
written text h = record { all = h }

both : {a b : List ℕ} → Printed a → Printed b → Printed (a ++ b)
both {a = a} {b = b} p q = record { all = list_all-append (λ byte. nat_le 32 byte) a b ∙ and_from (list_all (λ byte. nat_le 32 byte) a) _ p.all q.all }

no_newline : (text : List ℕ) → list_all (λ byte. nat_le 32 byte) text ≡ true → has_byte 10 text ≡ false
no_newline [] h = refl
no_newline (b ∷ bs) h =
    let p = and_parts (nat_le 32 b) (list_all (λ byte. nat_le 32 byte) bs) h in
    rw (other p.0, no_newline bs p.1)
  where
    other : nat_le 32 b ≡ true → (b == 10) ≡ false
    other k = grind (arith, nat_tests)

-- a text with one newline, at its end
pub record Ended (text : List ℕ) : Type 0 where
  pub body : List ℕ
  pub plain : has_byte 10 body ≡ false
  pub is : text ≡ body ++ 10 ∷ []

ended : (text : List ℕ) → Printed text → Ended (text ++ 10 ∷ [])
ended text p = record { body = text; plain = no_newline text p.all; is = refl }

closed : (text : List ℕ) → Printed text → Ended (text ++ codes "}\n")
closed text p = record { body = text ++ codes "}"; plain = no_newline (text ++ codes "}") (both p (written (codes "}") refl)).all; is = sym (append_assoc text (codes "}") (10 ∷ [])) }

-- the pieces of a line
digits : (ds : List ℕ) → all_digits ds ≡ true → Printed ds
digits [] h = record { all = refl }
digits (b ∷ bs) h =
    let k = all_digits-head (is_ascii_digit b) (all_digits bs) h in
    record { all = and_from (nat_le 32 b) _ (printed k.0) (digits bs k.1).all }
  where
    printed : is_ascii_digit b ≡ true → nat_le 32 b ≡ true
    printed k = grind (arith, nat_tests)

numeral : (n : ℕ) → n < 2 ^ 64 → Printed (decimal n)
numeral n small = digits (decimal n) (digits_decimal own n small)

byte : (n : ℕ) → is_byte n ≡ true → Printed (decimal n)
byte n h = let small = ltb-true n 256 h in numeral n (omega (arith, small))

word : (n : ℕ) → is_word n ≡ true → Printed (decimal n)
word n h = let small = ltb-true n 4294967296 h in numeral n (omega (arith, small))

signed : (value : ℤ) → is_signed_word value ≡ true → Printed (signed_decimal value)
signed (pos n) h = let small = ltb-true n 2147483648 h in numeral n (omega (arith, small))
signed (negsuc n) h = let small = ltb-true n 2147483648 h in both (written (codes "-") refl) (numeral (suc n) (omega (arith, small)))

tile : (t : ℕ) → is_tile t ≡ true → Printed (quoted_tile t)
unfolding quoted_tile text_of texts
tile t h = record { all = passes (λ face. list_all (λ byte. nat_le 32 byte) (quoted_tile face)) 37 t refl (ltb-true t 37 h) }

true_or_false : (b : Bool) → Printed (truth b)
true_or_false true = record { all = refl }
true_or_false false = record { all = refl }

data Each : List (List ℕ) → Type 0 where
  None : Each []
  More : {text : List ℕ} {texts : List (List ℕ)} → Printed text → Each texts → Each (text ∷ texts)

later : (texts : List (List ℕ)) → Each texts → Printed (flat_map (λ other. 44 ∷ other) texts)
later [] None = record { all = refl }
later (text ∷ texts) (More p ps) = both (both (written (44 ∷ []) refl) p) (later texts ps)

in_brackets : (texts : List (List ℕ)) → Each texts → Printed (bracketed texts)
unfolding bracketed
in_brackets [] None = record { all = refl }
in_brackets (text ∷ texts) (More p ps) = both (both (written (91 ∷ []) refl) (both p (later texts ps))) (written (93 ∷ []) refl)

each : {A : Type 0} (test : A → Bool) (w : A → List ℕ) → ((x : A) → test x ≡ true → Printed (w x)) → (xs : List A) → list_all test xs ≡ true → Each (map w xs)
each test w one [] h = None
each test w one (x ∷ xs) h = let p = and_parts (test x) (list_all test xs) h in More (one x p.0) (each test w one xs p.1)

tiles : (xs : List ℕ) → list_all is_tile xs ≡ true → Printed (bracketed (map quoted_tile xs))
tiles xs h = in_brackets (map quoted_tile xs) (each is_tile quoted_tile tile xs h)

points : (xs : List ℤ) → are_points xs ≡ true → Printed (points_text xs)
points xs h = in_brackets (map signed_decimal xs) (each is_signed_word signed_decimal signed xs (and_parts (length xs == 4) (list_all is_signed_word xs) h).1)

row_printed : (item : ℕ × ℕ) → is_row item ≡ true → Printed (row_text item)
unfolding table
row_printed item h =
    let p = and_parts (nat_lt item.0 45) (is_byte item.1) h in
    both (both (both (written (91 ∷ []) refl)
    (written (quoted (row_name item.0)) (passes (λ row. list_all (λ byte. nat_le 32 byte) (quoted (row_name row))) 45 item.0 refl
    (ltb-true item.0 45 p.0)))) (both (written (44 ∷ []) refl) (byte item.1 p.1))) (written (93 ∷ []) refl)

hidden : (n : ℕ) → Each (replicate n hidden_tile)
unfolding hidden_tile
hidden zero = None
hidden (suc n) = More (record { all = refl }) (hidden n)

shown : (hand : Shown) → is_shown hand ≡ true → Printed (bracketed (hand_at_draw hand))
shown (Tiles xs) h = tiles xs h
shown (Hidden n) h = in_brackets (hand_at_draw (Hidden n)) (hidden n)

name : (text : List ℕ) → is_name text ≡ true → Printed (quoted text)
unfolding is_name
name text h =
    let p = and_parts (nat_lt 0 (length text) && nat_le (length text) 64 && list_all (λ byte. nat_le 32 byte && not (byte == 34) && not (byte == 92)) text) (is_utf8 text) h in
    let q = and_parts (nat_lt 0 (length text) && nat_le (length text) 64) (list_all (λ byte. nat_le 32 byte && not (byte == 34) && not (byte == 92)) text) p.0 in
    both (both (written (34 ∷ []) refl) (record { all = go text q.1 })) (written (34 ∷ []) refl)
  where
    go : (bytes : List ℕ) → list_all (λ byte. nat_le 32 byte && not (byte == 34) && not (byte == 92)) bytes ≡ true → list_all (λ byte. nat_le 32 byte) bytes ≡ true
    go [] k = refl
    go (b ∷ bs) k =
        let p = and_parts (nat_le 32 b && not (b == 34) && not (b == 92)) (list_all (λ byte. nat_le 32 byte && not (byte == 34) && not (byte == 92)) bs) k in
        let q = and_parts (nat_le 32 b && not (b == 34)) (not (b == 92)) p.0 in
        and_from (nat_le 32 b) _ (and_parts (nat_le 32 b) (not (b == 34)) q.0).0 (go bs p.1)

reason_printed : (why : Reason) → Printed (quoted (reason_name why))
reason_printed reasons.Fanpai = record { all = refl }
reason_printed reasons.Kyushukyuhai = record { all = refl }
reason_printed reasons.Suufonrenta = record { all = refl }
reason_printed reasons.Suuchareach = record { all = refl }
reason_printed reasons.Suukaikan = record { all = refl }

-- a call
call_printed : (type : List ℕ) (seat target t : ℕ) (taken : List ℕ) → Printed (quoted type) → is_byte seat ≡ true → is_byte target ≡ true →
    is_tile t ≡ true → list_all is_tile taken ≡ true → Printed (call_object type seat target t taken)
unfolding call_object
call_printed type seat target t taken k s g h o =
    both (both (both (both (both (both (both (both (both (both (written (codes "{\"type\":") refl) k) (written (codes ",\"actor\":") refl))
    (byte seat s)) (written (codes ",\"target\":") refl)) (byte target g)) (written (codes ",\"pai\":") refl)) (tile t h))
    (written (codes ",\"consumed\":") refl)) (tiles taken o)) (written (codes "}") refl)

bid_printed : (bid : Bid) → is_bid bid ≡ true → Printed (bid_text bid)
bid_printed bids.NoBid h = record { all = refl }
bid_printed (bids.Chi seat target t a b) h =
    let p = and_parts (is_byte seat && is_byte target && is_tile t && is_tile a) (is_tile b) h in
    let q = and_parts (is_byte seat && is_byte target && is_tile t) (is_tile a) p.0 in
    let r = and_parts (is_byte seat && is_byte target) (is_tile t) q.0 in
    let s = and_parts (is_byte seat) (is_byte target) r.0 in
    call_printed (codes "chi") seat target t (a ∷ b ∷ []) (record { all = refl }) s.0 s.1 r.1 (and_from (is_tile a) _ q.1 (and_from (is_tile b) true p.1 refl))
bid_printed (bids.Pon seat target t a b) h =
    let p = and_parts (is_byte seat && is_byte target && is_tile t && is_tile a) (is_tile b) h in
    let q = and_parts (is_byte seat && is_byte target && is_tile t) (is_tile a) p.0 in
    let r = and_parts (is_byte seat && is_byte target) (is_tile t) q.0 in
    let s = and_parts (is_byte seat) (is_byte target) r.0 in
    call_printed (codes "pon") seat target t (a ∷ b ∷ []) (record { all = refl }) s.0 s.1 r.1 (and_from (is_tile a) _ q.1 (and_from (is_tile b) true p.1 refl))
bid_printed (bids.OpenKan seat target t a b c) h =
    let o = and_parts (is_byte seat && is_byte target && is_tile t && is_tile a && is_tile b) (is_tile c) h in
    let p = and_parts (is_byte seat && is_byte target && is_tile t && is_tile a) (is_tile b) o.0 in
    let q = and_parts (is_byte seat && is_byte target && is_tile t) (is_tile a) p.0 in
    let r = and_parts (is_byte seat && is_byte target) (is_tile t) q.0 in
    let s = and_parts (is_byte seat) (is_byte target) r.0 in
    call_printed (codes "daiminkan") seat target t (a ∷ b ∷ c ∷ []) (record { all = refl }) s.0 s.1 r.1 (and_from (is_tile a) _ q.1 (and_from (is_tile b) _ p.1 (and_from (is_tile c) true o.1 refl)))

called : (bid : Bid) → is_bid bid ≡ true → Ended (bid_text bid ++ codes "\n")
called bid h = ended (bid_text bid) (bid_printed bid h)

-- the header and the walls
switch_printed : (on : Bool) → Printed (switch_text on)
switch_printed true = record { all = refl }
switch_printed false = record { all = refl }

pub header_ends : (rules : Rules) → are_rules rules ≡ true → Ended (header_line rules)
unfolding header_line
header_ends rules h =
    let small : rules.limit < 2 ^ 64 = grind (arith, nat_tests) in
    ended _ (both (both (both (both (both (written (codes "game limit=") refl) (numeral rules.limit small)) (written (codes " draws=") refl))
    (switch_printed rules.draws)) (written (codes " red=") refl)) (switch_printed rules.red))

named : (t : ℕ) → t < 37 → Printed (32 ∷ text_of t)
unfolding text_of texts
named t h = record { all = passes (λ face. list_all (λ byte. nat_le 32 byte) (32 ∷ text_of face)) 37 t refl h }

names : (xs : List ℕ) → All (λ t. t < 37) xs → Printed (flat_map (λ t. 32 ∷ text_of t) xs)
names [] h = record { all = refl }
names (x ∷ xs) h = both (named x (All-head (λ t. t < 37) x xs h)) (names xs (All-tail (λ t. t < 37) x xs h))

pub wall_ends : (red : Bool) (wall : List ℕ) → is_wall red wall ≡ true → Ended (wall_line wall)
unfolding wall_line
wall_ends red wall h = ended _ (both (written (codes "wall") refl) (names wall (wall_faces red wall h)))

-- the deeds
wind : (round : ℕ) → nat_lt round 34 ≡ true → is_tile round ≡ true
wind round h = grind (arith, nat_tests)

all_truths : (values : List Bool) → Each (map truth values)
all_truths [] = None
all_truths (value ∷ values) = More (true_or_false value) (all_truths values)

pub deed_ends : (deed : Deed) → is_deed deed ≡ true → Ended (line Record deed)
unfolding start_game_line start_hand_line draw_line discard_line closed_kan_line added_kan_line dora_line reach_line reach_accepted_line win_line drawn_hand_line end_hand_line end_game_line
deed_ends (StartGame four) h =
    let p3 = and_parts (is_name four.first && is_name four.second && is_name four.third) (is_name four.fourth) h in
    let p2 = and_parts (is_name four.first && is_name four.second) (is_name four.third) p3.0 in
    let p1 = and_parts (is_name four.first) (is_name four.second) p2.0 in
    closed _ (both (both (both (written (codes "{\"type\":\"start_game\",\"id\":") refl) (numeral 0 (omega arith))) (written (codes ",\"names\":") refl))
    (in_brackets (quoted four.first ∷ quoted four.second ∷ quoted four.third ∷ quoted four.fourth ∷ [])
    (More (name four.first p1.0) (More (name four.second p1.1) (More (name four.third p2.1) (More (name four.fourth p3.1) None))))))
deed_ends (StartHand round number honba deposits dealer indicator hands) h =
    let p6 = and_parts (nat_lt round 34 && is_byte number && is_word honba && is_word deposits && is_byte dealer && is_tile indicator) (are_hands hands) h in
    let p5 = and_parts (nat_lt round 34 && is_byte number && is_word honba && is_word deposits && is_byte dealer) (is_tile indicator) p6.0 in
    let p4 = and_parts (nat_lt round 34 && is_byte number && is_word honba && is_word deposits) (is_byte dealer) p5.0 in
    let p3 = and_parts (nat_lt round 34 && is_byte number && is_word honba) (is_word deposits) p4.0 in
    let p2 = and_parts (nat_lt round 34 && is_byte number) (is_word honba) p3.0 in
    let p1 = and_parts (nat_lt round 34) (is_byte number) p2.0 in
    let q3 = and_parts (list_all is_tile hands.first && list_all is_tile hands.second && list_all is_tile hands.third) (list_all is_tile hands.fourth) p6.1 in
    let q2 = and_parts (list_all is_tile hands.first && list_all is_tile hands.second) (list_all is_tile hands.third) q3.0 in
    let q1 = and_parts (list_all is_tile hands.first) (list_all is_tile hands.second) q2.0 in
    closed _ (both (both (both (both (both (both
    (both (both (both (both (both (both (both (written (codes "{\"type\":\"start_kyoku\",\"bakaze\":") refl) (tile round (wind round p1.0)))
    (written (codes ",\"kyoku\":") refl)) (byte number p1.1)) (written (codes ",\"honba\":") refl)) (word honba p2.1))
    (written (codes ",\"kyotaku\":") refl)) (word deposits p3.1))
    (written (codes ",\"oya\":") refl)) (byte dealer p4.1)) (written (codes ",\"dora_marker\":") refl)) (tile indicator p5.1)) (written (codes ",\"tehais\":") refl))
    (in_brackets (bracketed (map quoted_tile hands.first) ∷ bracketed (map quoted_tile hands.second) ∷ bracketed (map quoted_tile hands.third) ∷ bracketed (map quoted_tile hands.fourth) ∷ [])
    (More (tiles hands.first q1.0) (More (tiles hands.second q1.1) (More (tiles hands.third q2.1) (More (tiles hands.fourth q3.1) None))))))
deed_ends (Draw seat t replacement) h =
    let p = and_parts (is_byte seat) (is_tile t) h in
    closed _ (both (both (both (written (codes "{\"type\":\"tsumo\",\"actor\":") refl) (byte seat p.0)) (written (codes ",\"pai\":") refl)) (tile t p.1))
deed_ends (Discard seat t drawn) h =
    let p = and_parts (is_byte seat) (is_tile t) h in
    closed _ (both (both (both (both (both (written (codes "{\"type\":\"dahai\",\"actor\":") refl) (byte seat p.0))
    (written (codes ",\"pai\":") refl)) (tile t p.1)) (written (codes ",\"tsumogiri\":") refl)) (true_or_false drawn))
deed_ends (Chi seat target t a b) h = called (bids.Chi seat target t a b) h
deed_ends (Pon seat target t a b) h = called (bids.Pon seat target t a b) h
deed_ends (OpenKan seat target t a b c) h = called (bids.OpenKan seat target t a b c) h
deed_ends (ClosedKan seat a b c d) h =
    let p4 = and_parts (is_byte seat && is_tile a && is_tile b && is_tile c) (is_tile d) h in
    let p3 = and_parts (is_byte seat && is_tile a && is_tile b) (is_tile c) p4.0 in
    let p2 = and_parts (is_byte seat && is_tile a) (is_tile b) p3.0 in
    let p1 = and_parts (is_byte seat) (is_tile a) p2.0 in
    closed _ (both (both (both (written (codes "{\"type\":\"ankan\",\"actor\":") refl) (byte seat p1.0)) (written (codes ",\"consumed\":") refl))
    (tiles (a ∷ b ∷ c ∷ d ∷ []) (and_from (is_tile a) _ p1.1 (and_from (is_tile b) _ p2.1 (and_from (is_tile c) _ p3.1 (and_from (is_tile d) true p4.1 refl))))))
deed_ends (AddedKan seat t a b c) h =
    let p4 = and_parts (is_byte seat && is_tile t && is_tile a && is_tile b) (is_tile c) h in
    let p3 = and_parts (is_byte seat && is_tile t && is_tile a) (is_tile b) p4.0 in
    let p2 = and_parts (is_byte seat && is_tile t) (is_tile a) p3.0 in
    let p1 = and_parts (is_byte seat) (is_tile t) p2.0 in
    closed _ (both (both (both (both (both (written (codes "{\"type\":\"kakan\",\"actor\":") refl) (byte seat p1.0))
    (written (codes ",\"pai\":") refl)) (tile t p1.1)) (written (codes ",\"consumed\":") refl))
    (tiles (a ∷ b ∷ c ∷ []) (and_from (is_tile a) _ p2.1 (and_from (is_tile b) _ p3.1 (and_from (is_tile c) true p4.1 refl)))))
deed_ends (Dora t) h = closed _ (both (written (codes "{\"type\":\"dora\",\"dora_marker\":") refl) (tile t h))
deed_ends (Reach seat) h = closed _ (both (written (codes "{\"type\":\"reach\",\"actor\":") refl) (byte seat h))
deed_ends (ReachAccepted seat said bid) h =
    let p2 = and_parts (is_byte seat && are_points said) (is_bid bid) h in
    let p1 = and_parts (is_byte seat) (are_points said) p2.0 in
    closed _ (both (both (both (both (both (both (written (codes "{\"type\":\"reach_accepted\",\"actor\":") refl) (byte seat p1.0))
    (written (codes ",\"deltas\":") refl)) (points (deposit_changes seat) (changes_fit seat))) (written (codes ",\"scores\":") refl))
    (points said p1.1)) (both (written (codes ",\"then\":") refl) (bid_printed bid p2.1)))
deed_ends (Win seat target t unders held yaku fu han value deltas said rest) h =
    let p12 = and_parts (is_byte seat && is_byte target && is_tile t && list_all is_tile unders && list_all is_tile held && list_all is_row yaku &&
    is_byte fu && is_byte han && is_word value && are_points deltas && are_points said && nat_le (length rest) 2) (list_all is_byte rest) h in
    let p11 = and_parts (is_byte seat && is_byte target && is_tile t && list_all is_tile unders && list_all is_tile held && list_all is_row yaku &&
    is_byte fu && is_byte han && is_word value && are_points deltas && are_points said) (nat_le (length rest) 2) p12.0 in
    let p10 = and_parts (is_byte seat && is_byte target && is_tile t && list_all is_tile unders && list_all is_tile held && list_all is_row yaku &&
    is_byte fu && is_byte han && is_word value && are_points deltas) (are_points said) p11.0 in
    let p9 = and_parts (is_byte seat && is_byte target && is_tile t && list_all is_tile unders && list_all is_tile held && list_all is_row yaku &&
    is_byte fu && is_byte han && is_word value) (are_points deltas) p10.0 in
    let p8 = and_parts (is_byte seat && is_byte target && is_tile t && list_all is_tile unders && list_all is_tile held && list_all is_row yaku && is_byte fu && is_byte han) (is_word value) p9.0 in
    let p7 = and_parts (is_byte seat && is_byte target && is_tile t && list_all is_tile unders && list_all is_tile held && list_all is_row yaku && is_byte fu) (is_byte han) p8.0 in
    let p6 = and_parts (is_byte seat && is_byte target && is_tile t && list_all is_tile unders && list_all is_tile held && list_all is_row yaku) (is_byte fu) p7.0 in
    let p5 = and_parts (is_byte seat && is_byte target && is_tile t && list_all is_tile unders && list_all is_tile held) (list_all is_row yaku) p6.0 in
    let p4 = and_parts (is_byte seat && is_byte target && is_tile t && list_all is_tile unders) (list_all is_tile held) p5.0 in
    let p3 = and_parts (is_byte seat && is_byte target && is_tile t) (list_all is_tile unders) p4.0 in
    let p2 = and_parts (is_byte seat && is_byte target) (is_tile t) p3.0 in
    let p1 = and_parts (is_byte seat) (is_byte target) p2.0 in
    closed _ (both (both (both (both (both (both
    (both (both (both (both (both (both (both
    (both (both (both (both (both (both (both (both (both (written (codes "{\"type\":\"hora\",\"actor\":") refl) (byte seat p1.0))
    (written (codes ",\"target\":") refl)) (byte target p1.1)) (written (codes ",\"pai\":") refl)) (tile t p2.1))
    (written (codes ",\"uradora_markers\":") refl)) (tiles unders p3.1)) (written (codes ",\"hora_tehais\":") refl)) (tiles held p4.1))
    (written (codes ",\"yakus\":") refl)) (in_brackets (map row_text yaku) (each is_row row_text row_printed yaku p5.1)))
    (written (codes ",\"fu\":") refl)) (byte fu p6.1)) (written (codes ",\"fan\":") refl)) (byte han p7.1))
    (written (codes ",\"hora_points\":") refl)) (word value p8.1)) (written (codes ",\"deltas\":") refl)) (points deltas p9.1)) (written (codes ",\"scores\":") refl)) (points said p10.1))
    (both (written (codes ",\"rest\":") refl) (in_brackets (map decimal rest) (each is_byte decimal byte rest p12.1))))
deed_ends (DrawnHand why hands ready deltas said) h =
    let p3 = and_parts (are_shown hands && length ready == 4 && are_points deltas) (are_points said) h in
    let p2 = and_parts (are_shown hands && length ready == 4) (are_points deltas) p3.0 in
    let p1 = and_parts (are_shown hands) (length ready == 4) p2.0 in
    let q3 = and_parts (is_shown hands.first && is_shown hands.second && is_shown hands.third) (is_shown hands.fourth) p1.0 in
    let q2 = and_parts (is_shown hands.first && is_shown hands.second) (is_shown hands.third) q3.0 in
    let q1 = and_parts (is_shown hands.first) (is_shown hands.second) q2.0 in
    closed _ (both (both (both (both (both (both (both (both (both (written (codes "{\"type\":\"ryukyoku\",\"reason\":") refl) (reason_printed why)) (written (codes ",\"tehais\":") refl))
    (in_brackets (bracketed (hand_at_draw hands.first) ∷ bracketed (hand_at_draw hands.second) ∷ bracketed (hand_at_draw hands.third) ∷ bracketed (hand_at_draw hands.fourth) ∷ [])
    (More (shown hands.first q1.0) (More (shown hands.second q1.1) (More (shown hands.third q2.1) (More (shown hands.fourth q3.1) None))))))
    (written (codes ",\"tenpais\":") refl)) (in_brackets (map truth ready) (all_truths ready))) (written (codes ",\"deltas\":") refl))
    (points deltas p2.1)) (written (codes ",\"scores\":") refl)) (points said p3.1))
deed_ends EndHand h = record { body = codes "{\"type\":\"end_kyoku\"}"; plain = refl; is = refl }
deed_ends (EndGame said deposits) h =
    let p = and_parts (are_points said) (is_word deposits) h in
    closed _ (both (both (both (written (codes "{\"type\":\"end_game\",\"scores\":") refl) (points said p.0)) (written (codes ",\"kyotaku\":") refl)) (word deposits p.1))
