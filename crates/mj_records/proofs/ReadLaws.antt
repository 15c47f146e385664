-- The deed that is read of a deed's line has the same line, and tells of the same answers.
use Rattle.std.proofs.Common.{◌≡◌, ℕ, List, [], ◌∷◌, Bool, true, refl, zero, suc, arith}
use Rattle.std.specs.Prelude.{Option, Some, ℤ, ◌==◌, ◌&&◌, nat_lt, nat_le, length}
use Rattle.std.specs.List.{list_all}
use Rattle.std.proofs.lemmas.Bool.{false≢true, ltb-true}
use Rattle.std.proofs.lemmas.Bool.Decides.{Decides-eqb}
use Rattle.mj_ports.specs.Names.{is_name}
use Rattle.mj_deeds.specs.declared.four.Four.{Four}
use Rattle.mj_deeds.specs.declared.reason.Reason.{Reason}
use Rattle.mj_deeds.specs.Shown.{Shown, Tiles, Hidden}
use Rattle.mj_deeds.specs.declared.deed.Deed.{Deed}
use Rattle.mj_deeds.specs.declared.deed.Deed.TheVariants.{StartGame, StartHand, Draw, Discard, Chi, Pon, OpenKan, ClosedKan, AddedKan, Dora, Reach, ReachAccepted, Win, DrawnHand, EndHand, EndGame}
use Rattle.mj_deeds.specs.declared.deed.Viewer.TheVariants.{Record}
use Rattle.mj_forms.specs.Lines.{line, hand_at_draw, drawn_hand_line}
use Rattle.mj_history.specs.Told.{told_of}
use Rattle.mj_history.specs.Records.{is_byte, is_word, is_tile, is_row, is_shown, is_bid, are_points, are_hands, are_shown, is_deed}
use Rattle.mj_records.specs.Deeds.{deed_in}
use Rattle.mj_records.proofs.PointLaws.{and-parts}
use Rattle.mj_records.proofs.ActLaws.{acts_are_read}
use Rattle.mj_records.proofs.CallLaws.{calls_are_read}
use Rattle.mj_records.proofs.HandLaws.{hand_starts_are_read}
use Rattle.mj_records.proofs.ReachLaws.{reaches_are_read}
use Rattle.mj_records.proofs.ShownLaws.{drawn_hands_are_read}
use Rattle.mj_records.proofs.StartLaws.{game_starts_are_read}
use Rattle.mj_records.proofs.WinLaws.{wins_are_read}
use Rattle.mj_records.specs.Laws.{shown_read, as_read, ReadDeedsTellTheSame}

shown_same : (s : Shown) → hand_at_draw (shown_read s) ≡ hand_at_draw s
shown_same (Tiles tiles) = refl
shown_same (Hidden zero) = refl
shown_same (Hidden (suc more)) = refl

lines : (deed : Deed) → line Record (as_read deed) ≡ line Record deed
unfolding drawn_hand_line
lines (StartGame names) = refl
lines (StartHand round number honba deposits dealer indicator hands) = refl
lines (Draw seat tile replacement) = refl
lines (Discard seat tile drawn) = refl
lines (Chi seat target tile a b) = refl
lines (Pon seat target tile a b) = refl
lines (OpenKan seat target tile a b c) = refl
lines (ClosedKan seat a b c d) = refl
lines (AddedKan seat tile a b c) = refl
lines (Dora tile) = refl
lines (Reach seat) = refl
lines (ReachAccepted seat points bid) = refl
lines (Win seat target tile unders hand yaku fu han value deltas points rest) = refl
lines (DrawnHand reason hands ready deltas points) = rw (shown_same hands.first, shown_same hands.second, shown_same hands.third, shown_same hands.fourth)
lines EndHand = refl
lines (EndGame points deposits) = refl

tells : (last : Option Deed) (deed : Deed) (seat : ℕ) → told_of last (as_read deed) seat ≡ told_of last deed seat
tells last (StartGame names) seat = refl
tells last (StartHand round number honba deposits dealer indicator hands) seat = refl
tells last (Draw who tile replacement) seat = refl
tells last (Discard who tile drawn) seat = refl
tells last (Chi who target tile a b) seat = refl
tells last (Pon who target tile a b) seat = refl
tells last (OpenKan who target tile a b c) seat = refl
tells last (ClosedKan who a b c d) seat = refl
tells last (AddedKan who tile a b c) seat = refl
tells last (Dora tile) seat = refl
tells last (Reach who) seat = refl
tells last (ReachAccepted who points bid) seat = refl
tells last (Win who target tile unders hand yaku fu han value deltas points rest) seat = refl
tells last (DrawnHand reason hands ready deltas points) seat = refl
tells last EndHand seat = refl
tells last (EndGame points deposits) seat = refl

drawn_read : (reason : Reason) (hands : Four Shown) (ready : List Bool) (deltas points : List ℤ) → (length ready == 4) ≡ true →
    is_shown hands.first ≡ true → is_shown hands.second ≡ true → is_shown hands.third ≡ true → is_shown hands.fourth ≡ true →
    are_points deltas ≡ true → are_points points ≡ true →
    deed_in (line Record (DrawnHand reason hands ready deltas points)) ≡ Some (as_read (DrawnHand reason hands ready deltas points))
drawn_read reason hands [] deltas points n = absurd (false≢true n)
drawn_read reason hands (a ∷ []) deltas points n = absurd (false≢true n)
drawn_read reason hands (a ∷ b ∷ []) deltas points n = absurd (false≢true n)
drawn_read reason hands (a ∷ b ∷ c ∷ []) deltas points n = absurd (false≢true n)
drawn_read reason hands (a ∷ b ∷ c ∷ d ∷ []) deltas points n =
    drawn_hands_are_read.drawn reason hands.first hands.second hands.third hands.fourth a b c d deltas points
drawn_read reason hands (a ∷ b ∷ c ∷ d ∷ e ∷ others) deltas points n =
    let same : length (a ∷ b ∷ c ∷ d ∷ e ∷ others) ≡ 4 = (Decides-eqb (length (a ∷ b ∷ c ∷ d ∷ e ∷ others)) 4).0 n in
    absurd (omega (arith, same))

read : (deed : Deed) → is_deed deed ≡ true → deed_in (line Record deed) ≡ Some (as_read deed)
read (StartGame names) h =
    let p3 = and-parts (is_name names.first && is_name names.second && is_name names.third) (is_name names.fourth) h in
    let p2 = and-parts (is_name names.first && is_name names.second) (is_name names.third) p3.0 in
    let p1 = and-parts (is_name names.first) (is_name names.second) p2.0 in
    game_starts_are_read.starts names.first names.second names.third names.fourth p1.0 p1.1 p2.1 p3.1
read (StartHand round number honba deposits dealer indicator hands) h =
    let p6 = and-parts (nat_lt round 34 && is_byte number && is_word honba && is_word deposits && is_byte dealer && is_tile indicator) (are_hands hands) h in
    let p5 = and-parts (nat_lt round 34 && is_byte number && is_word honba && is_word deposits && is_byte dealer) (is_tile indicator) p6.0 in
    let p4 = and-parts (nat_lt round 34 && is_byte number && is_word honba && is_word deposits) (is_byte dealer) p5.0 in
    let p3 = and-parts (nat_lt round 34 && is_byte number && is_word honba) (is_word deposits) p4.0 in
    let p2 = and-parts (nat_lt round 34 && is_byte number) (is_word honba) p3.0 in
    let p1 = and-parts (nat_lt round 34) (is_byte number) p2.0 in
    let q3 = and-parts (list_all is_tile hands.first && list_all is_tile hands.second && list_all is_tile hands.third) (list_all is_tile hands.fourth) p6.1 in
    let q2 = and-parts (list_all is_tile hands.first && list_all is_tile hands.second) (list_all is_tile hands.third) q3.0 in
    let q1 = and-parts (list_all is_tile hands.first) (list_all is_tile hands.second) q2.0 in
    hand_starts_are_read.starts round number honba deposits dealer indicator hands.first hands.second hands.third hands.fourth
    (ltb-true round 34 p1.0) (ltb-true number 256 p1.1) (ltb-true honba 4294967296 p2.1) (ltb-true deposits 4294967296 p3.1)
    (ltb-true dealer 256 p4.1) (ltb-true indicator 37 p5.1) q1.0 q1.1 q2.1 q3.1
read (Draw seat tile replacement) h =
    let p1 = and-parts (is_byte seat) (is_tile tile) h in
    acts_are_read.draws seat tile replacement (ltb-true seat 256 p1.0) (ltb-true tile 37 p1.1)
read (Discard seat tile drawn) h =
    let p1 = and-parts (is_byte seat) (is_tile tile) h in
    acts_are_read.discards seat tile drawn (ltb-true seat 256 p1.0) (ltb-true tile 37 p1.1)
read (Chi seat target tile a b) h =
    let p4 = and-parts (is_byte seat && is_byte target && is_tile tile && is_tile a) (is_tile b) h in
    let p3 = and-parts (is_byte seat && is_byte target && is_tile tile) (is_tile a) p4.0 in
    let p2 = and-parts (is_byte seat && is_byte target) (is_tile tile) p3.0 in
    let p1 = and-parts (is_byte seat) (is_byte target) p2.0 in
    calls_are_read.chis seat target tile a b (ltb-true seat 256 p1.0) (ltb-true target 256 p1.1) (ltb-true tile 37 p2.1) (ltb-true a 37 p3.1) (ltb-true b 37 p4.1)
read (Pon seat target tile a b) h =
    let p4 = and-parts (is_byte seat && is_byte target && is_tile tile && is_tile a) (is_tile b) h in
    let p3 = and-parts (is_byte seat && is_byte target && is_tile tile) (is_tile a) p4.0 in
    let p2 = and-parts (is_byte seat && is_byte target) (is_tile tile) p3.0 in
    let p1 = and-parts (is_byte seat) (is_byte target) p2.0 in
    calls_are_read.pons seat target tile a b (ltb-true seat 256 p1.0) (ltb-true target 256 p1.1) (ltb-true tile 37 p2.1) (ltb-true a 37 p3.1) (ltb-true b 37 p4.1)
read (OpenKan seat target tile a b c) h =
    let p5 = and-parts (is_byte seat && is_byte target && is_tile tile && is_tile a && is_tile b) (is_tile c) h in
    let p4 = and-parts (is_byte seat && is_byte target && is_tile tile && is_tile a) (is_tile b) p5.0 in
    let p3 = and-parts (is_byte seat && is_byte target && is_tile tile) (is_tile a) p4.0 in
    let p2 = and-parts (is_byte seat && is_byte target) (is_tile tile) p3.0 in
    let p1 = and-parts (is_byte seat) (is_byte target) p2.0 in
    calls_are_read.open_kans seat target tile a b c (ltb-true seat 256 p1.0) (ltb-true target 256 p1.1) (ltb-true tile 37 p2.1) (ltb-true a 37 p3.1) (ltb-true b 37 p4.1) (ltb-true c 37 p5.1)
read (ClosedKan seat a b c d) h =
    let p4 = and-parts (is_byte seat && is_tile a && is_tile b && is_tile c) (is_tile d) h in
    let p3 = and-parts (is_byte seat && is_tile a && is_tile b) (is_tile c) p4.0 in
    let p2 = and-parts (is_byte seat && is_tile a) (is_tile b) p3.0 in
    let p1 = and-parts (is_byte seat) (is_tile a) p2.0 in
    calls_are_read.closed_kans seat a b c d (ltb-true seat 256 p1.0) (ltb-true a 37 p1.1) (ltb-true b 37 p2.1) (ltb-true c 37 p3.1) (ltb-true d 37 p4.1)
read (AddedKan seat tile a b c) h =
    let p4 = and-parts (is_byte seat && is_tile tile && is_tile a && is_tile b) (is_tile c) h in
    let p3 = and-parts (is_byte seat && is_tile tile && is_tile a) (is_tile b) p4.0 in
    let p2 = and-parts (is_byte seat && is_tile tile) (is_tile a) p3.0 in
    let p1 = and-parts (is_byte seat) (is_tile tile) p2.0 in
    calls_are_read.added_kans seat tile a b c (ltb-true seat 256 p1.0) (ltb-true tile 37 p1.1) (ltb-true a 37 p2.1) (ltb-true b 37 p3.1) (ltb-true c 37 p4.1)
read (Dora tile) h = acts_are_read.doras tile (ltb-true tile 37 h)
read (Reach seat) h = acts_are_read.reaches seat (ltb-true seat 256 h)
read (ReachAccepted seat points bid) h =
    let p2 = and-parts (is_byte seat && are_points points) (is_bid bid) h in
    let p1 = and-parts (is_byte seat) (are_points points) p2.0 in
    reaches_are_read.accepted seat points bid (ltb-true seat 256 p1.0) p1.1 p2.1
read (Win seat target tile unders hand yaku fu han value deltas points rest) h =
    let p12 = and-parts (is_byte seat && is_byte target && is_tile tile && list_all is_tile unders && list_all is_tile hand && list_all is_row yaku &&
    is_byte fu && is_byte han && is_word value && are_points deltas && are_points points && nat_le (length rest) 2) (list_all is_byte rest) h in
    let p11 = and-parts (is_byte seat && is_byte target && is_tile tile && list_all is_tile unders && list_all is_tile hand && list_all is_row yaku &&
    is_byte fu && is_byte han && is_word value && are_points deltas && are_points points) (nat_le (length rest) 2) p12.0 in
    let p10 = and-parts (is_byte seat && is_byte target && is_tile tile && list_all is_tile unders && list_all is_tile hand && list_all is_row yaku &&
    is_byte fu && is_byte han && is_word value && are_points deltas) (are_points points) p11.0 in
    let p9 = and-parts (is_byte seat && is_byte target && is_tile tile && list_all is_tile unders && list_all is_tile hand && list_all is_row yaku &&
    is_byte fu && is_byte han && is_word value) (are_points deltas) p10.0 in
    let p8 = and-parts (is_byte seat && is_byte target && is_tile tile && list_all is_tile unders && list_all is_tile hand && list_all is_row yaku && is_byte fu && is_byte han) (is_word value) p9.0 in
    let p7 = and-parts (is_byte seat && is_byte target && is_tile tile && list_all is_tile unders && list_all is_tile hand && list_all is_row yaku && is_byte fu) (is_byte han) p8.0 in
    let p6 = and-parts (is_byte seat && is_byte target && is_tile tile && list_all is_tile unders && list_all is_tile hand && list_all is_row yaku) (is_byte fu) p7.0 in
    let p5 = and-parts (is_byte seat && is_byte target && is_tile tile && list_all is_tile unders && list_all is_tile hand) (list_all is_row yaku) p6.0 in
    let p4 = and-parts (is_byte seat && is_byte target && is_tile tile && list_all is_tile unders) (list_all is_tile hand) p5.0 in
    let p3 = and-parts (is_byte seat && is_byte target && is_tile tile) (list_all is_tile unders) p4.0 in
    let p2 = and-parts (is_byte seat && is_byte target) (is_tile tile) p3.0 in
    let p1 = and-parts (is_byte seat) (is_byte target) p2.0 in
    wins_are_read.wins seat target tile unders hand yaku fu han value deltas points rest (ltb-true seat 256 p1.0) (ltb-true target 256 p1.1)
    (ltb-true tile 37 p2.1) p3.1 p4.1 p5.1 (ltb-true fu 256 p6.1) (ltb-true han 256 p7.1) (ltb-true value 4294967296 p8.1) p9.1 p10.1 p11.1 p12.1
read (DrawnHand reason hands ready deltas points) h =
    let p3 = and-parts (are_shown hands && length ready == 4 && are_points deltas) (are_points points) h in
    let p2 = and-parts (are_shown hands && length ready == 4) (are_points deltas) p3.0 in
    let p1 = and-parts (are_shown hands) (length ready == 4) p2.0 in
    let q3 = and-parts (is_shown hands.first && is_shown hands.second && is_shown hands.third) (is_shown hands.fourth) p1.0 in
    let q2 = and-parts (is_shown hands.first && is_shown hands.second) (is_shown hands.third) q3.0 in
    let q1 = and-parts (is_shown hands.first) (is_shown hands.second) q2.0 in
    drawn_read reason hands ready deltas points p1.1 q1.0 q1.1 q2.1 q3.1 p2.1 p3.1
read EndHand h = acts_are_read.ends
read (EndGame points deposits) h =
    let p1 = and-parts (are_points points) (is_word deposits) h in
    calls_are_read.end_games points deposits p1.0 (ltb-true deposits 4294967296 p1.1)

pub read_deeds_tell_the_same : ReadDeedsTellTheSame
read_deeds_tell_the_same = record { reads = read; lines = lines; tells = tells }
