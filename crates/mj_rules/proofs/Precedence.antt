-- What decides a discard.
use Rattle.std.proofs.Common.{◌≡◌, ℕ, zero, suc, ◌+◌, ◌*◌, ◌-◌, ◌%◌, ◌<◌, ◌≤◌, ◌==◌, ◌&&◌, not, inl, inr, Bool, true, false, List, [], ◌∷◌, ◌++◌, length, refl, ap, sym, ◌∙◌, subst, arith}
use Rattle.std.specs.Prelude.{if◌then◌else◌, Option, Some, None, option_and_then, option_to_list, unwrap_or, slice_get, filter, nat_lt, count_by, take}
use Rattle.std.specs.Option.{option_map_or}
use Rattle.std.proofs.lemmas.Bool.{and_parts, cases_eq, eqb-true, eq-eqb, ltb-true, not-false}
use Rattle.std.proofs.lemmas.List.Sums.{length-filter, count_by-le-length}
use Rattle.mj_tiles.specs.Faces.{kind_of}
use Rattle.mj_tiles.specs.Counts.{number_of}
use Rattle.mj_deeds.specs.declared.four.Four.{Four}
use Rattle.mj_deeds.specs.declared.bid.Bid.{Bid}
use Rattle.mj_deeds.specs.declared.bid.Bid.TheVariants as bids
use Rattle.mj_deeds.specs.declared.reason.Reason.{Reason}
use Rattle.mj_deeds.specs.declared.answer.Pai.TheVariants.{Known, Hidden}
use Rattle.mj_deeds.specs.declared.answer.Answer.{Answer}
use Rattle.mj_deeds.specs.declared.answer.Answer.TheVariants as answers
use Rattle.mj_deeds.specs.declared.deed.Deed.{Deed}
use Rattle.mj_deeds.specs.declared.deed.Deed.TheVariants.{Discard, Chi, Pon, OpenKan, AddedKan}
use Rattle.mj_deeds.specs.Four.{at_seat, next_seat}
use Rattle.mj_deeds.specs.Bids.{call_of_bid}
use Rattle.mj_deeds.specs.Course.{before_wins}
use Rattle.mj_deeds.specs.Facts.{newest, tiles_gained, tiles_lost}
use Rattle.mj_deeds.specs.Fits.{is_in_hand, has_seats, has_tiles, is_face}
use Rattle.mj_deeds.specs.Hand.{hand}
use Rattle.mj_deeds.proofs.Fitted.{four_of_kind, hand_begun}
use Rattle.mj_window.specs.Decided.{triplet_bid, run_bid, or_bid, bid_by, best_bid, call_or_pass, rons_on, rons_or, decision_by}
use Rattle.mj_window.specs.Decided.{is_win as says_win}
use Rattle.mj_window.specs.declared.decision.Decision.{Decision}
use Rattle.mj_wall.specs.declared.setting.Rules.{Rules}
use Rattle.mj_rules.specs.Broken.{is_win, is_open, is_pass, is_pass_or_call, is_no_tile, is_no_such_tile, misses_discard, is_not_left, questions, broken_by}
use Rattle.mj_rules.specs.Draws.{drawn_hand}
use Rattle.mj_rules.specs.Outcome.{accept, called_or_draw, drawn_or, behind_discard, next_draw, follows, outcome, seat_of, won_tile, wall_now}
use Rattle.mj_rules.specs.Played.{AllLawful}
use Rattle.mj_rules.specs.Precedence.{wins_by, is_pon_or_kan, is_chi, taking, behind, winners_behind, offer_of, AllWinsCome, Answered, OnePonOrKan}
use Rattle.mj_rules.specs.Precedence.{OneChi, ComesOf, IsDecided, NobodyWins, PonOrKanComes, ChiComes, NothingIsCalled, KeptCallComes}
use Rattle.mj_rules.specs.View.{WindowTurn, Discarded, SeatView, view_of}
use Rattle.mj_rules.specs.Wins.{win_deed}
use Rattle.mj_rules.proofs.Questions.{all_no}
use Rattle.mj_rules.proofs.Stages.{newest_behind}
use Rattle.mj_rules.proofs.Kept.{first_seat}
use Rattle.mj_rules.proofs.Answered.{IfAny, Clean, clean_at}
use Rattle.mj_rules.proofs.Given.{small_face}
use Rattle.mj_rules.proofs.Turns.{turn_is}
use Rattle.mj_rules.proofs.BeforeWins.{newest_before}
use Rattle.mj_rules.proofs.Promises.{newest_in}
use Rattle.mj_rules.proofs.Playing.{Sound, played_sound}
use Rattle.mj_rules.proofs.Followed.{hides, hides2, hides3}
use Rattle.mj_rules.proofs.Winners.{WasGiven, holds}
use Rattle.mj_rules.proofs.Shares.{no_two_pairs, two_given, one_given}

-- who wins

same_win : (answer : Answer) → says_win answer ≡ is_win answer
same_win (answers.Win actor target tile) = refl
same_win other = refl

winners_are : (who : ℕ) (given : Four Answer) → rons_on who given ≡ winners_behind who given
winners_are who given = ap (λ (test : ℕ → Bool). filter test (behind who)) (λ i other. same_win (at_seat given other) i)

others_are : (others : List ℕ) → length others ≤ 2 → option_to_list (slice_get others 0) ++ option_to_list (slice_get others 1) ≡ others
others_are [] h = refl
others_are (a ∷ []) h = refl
others_are (a ∷ b ∷ []) h = refl
others_are (a ∷ b ∷ c ∷ others) h = absurd (more (length others) h)
  where
    more : (n : ℕ) → suc (suc (suc n)) ≤ 2 → ⊥
    more n h = omega (arith, h)

few_others : (who : ℕ) (given : Four Answer) (first : ℕ) (others : List ℕ) → winners_behind who given ≡ first ∷ others → length others ≤ 2
few_others who given first others e = few (length others) (count_by (wins_by given) (behind who)) (ap (λ (xs : List ℕ). length xs) (sym e)
    ∙ length-filter (wins_by given) (behind who)) (count_by-le-length (wins_by given) (behind who))
  where
    few : (n m : ℕ) → suc n ≡ m → m ≤ 3 → n ≤ 2
    few n m e h = omega (arith, e, h)

all_follow : (rules : Rules) (walls : List (List ℕ)) (ds : List Deed) (last : Deed) (who : ℕ) (given : Four Answer) (otherwise : Decision) (first : ℕ)
    (others : List ℕ) → winners_behind who given ≡ first ∷ others →
    follows rules walls ds last (rons_or (rons_on who given) otherwise) ≡ Some (win_deed (wall_now walls ds) ds first (seat_of last) (won_tile last) others)
all_follow rules walls ds last who given otherwise first others e =
    ap (λ (seats : List ℕ). follows rules walls ds last (rons_or seats otherwise)) (winners_are who given ∙ e)
    ∙ ap (λ (rest : List ℕ). Some (win_deed (wall_now walls ds) ds first (seat_of last) (won_tile last) rest)) (others_are others (few_others who given first others e))

pub all_wins_come : AllWinsCome
unfolding outcome
all_wins_come rules walls ds given who tile first others offered winners = by_newest (newest ds) offered
  where
    first_is : (a b x y : ℕ) → ◌≡◌ {A = Option (ℕ × ℕ)} (Some (a, b)) (Some (x, y)) → a ≡ x
    first_is a b x y e = ap (λ (o : Option (ℕ × ℕ)). (unwrap_or o (0, 0)).0) e

    second_is : (a b x y : ℕ) → ◌≡◌ {A = Option (ℕ × ℕ)} (Some (a, b)) (Some (x, y)) → b ≡ y
    second_is a b x y e = ap (λ (o : Option (ℕ × ℕ)). (unwrap_or o (0, 0)).1) e

    by_offer : (last : Deed) (seat t : ℕ) (otherwise : Decision) → ◌≡◌ {A = Option (ℕ × ℕ)} (Some (seat, t)) (Some (who, tile)) → seat_of last ≡ seat → won_tile last ≡ t →
        follows rules walls ds last (rons_or (rons_on seat given) otherwise) ≡ Some (win_deed (wall_now walls ds) ds first who tile others)
    by_offer last seat t otherwise e of_seat of_tile =
        all_follow rules walls ds last seat given otherwise first others (ap (λ (s : ℕ). winners_behind s given) (first_is seat t who tile e) ∙ winners)
        ∙ (λ i. Some (win_deed (wall_now walls ds) ds first ((of_seat ∙ first_is seat t who tile e) i) ((of_tile ∙ second_is seat t who tile e) i) others))

    by_newest : (o : Option Deed) → option_and_then offer_of o ≡ Some (who, tile) →
        option_and_then (λ last. follows rules walls ds last (decision_by last given)) o ≡ Some (win_deed (wall_now walls ds) ds first who tile
        others)
    by_newest None e = cc
    by_newest (Some (Discard seat t drawn)) e = by_offer (Discard seat t drawn) seat t _ e refl refl
    by_newest (Some (AddedKan seat t a b c)) e = by_offer (AddedKan seat t a b c) seat t _ e refl refl
    by_newest (Some other) e = cc

-- what is known of an answered discard

sound_of : (rules : Rules) (walls : List (List ℕ)) (ds : List Deed) (given : Four Answer) (who tile : ℕ) → Answered rules walls ds given who tile → Sound rules.red walls ds
sound_of rules walls ds given who tile a = played_sound rules walls ds a.whole a.played

discarder : (rules : Rules) (walls : List (List ℕ)) (ds : List Deed) (given : Four Answer) (who tile : ℕ) → Answered rules walls ds given who tile → who < 4
discarder rules walls ds given who tile a =
    first_seat who _ (subst (λ (o : Option Deed). IfAny (λ d. has_seats d ≡ true) o) a.discarded (sound_of rules walls ds given who tile a).seated)

-- The tile is of a kind.
pub small_kind : (face : ℕ) → face < 37 → kind_of face < 34
small_kind face h = by_test (nat_lt face 34) refl
  where
    by_test : (b : Bool) → nat_lt face 34 ≡ b → (if b then face else 4 + 9 * (face - 34)) < 34
    by_test true e = ltb-true face 34 e
    by_test false e = omega (arith, h)

kind_is : (rules : Rules) (walls : List (List ℕ)) (ds : List Deed) (given : Four Answer) (who tile : ℕ) → Answered rules walls ds given who tile → kind_of tile < 34
kind_is rules walls ds given who tile a =
    let real = subst (λ (o : Option Deed). IfAny (λ d. has_tiles rules.red d ≡ true) o) a.discarded (sound_of rules walls ds given who tile a).known.real in
    small_kind tile (small_face rules.red tile (and_parts (is_face rules.red tile) true real).0)

-- The seat that discards it was given it.
discarder_given : (rules : Rules) (walls : List (List ℕ)) (ds : List Deed) (given : Four Answer) (who tile : ℕ) → Answered rules walls ds given who tile → WasGiven (hand ds) who tile
discarder_given rules walls ds given who tile a =
    let sound = sound_of rules walls ds given who tile a in
    let begun : is_in_hand (newest ds) ≡ true = ap is_in_hand a.discarded in
    let there : newest (hand ds) ≡ Some (Discard who tile a.drawn) = newest_in ds begun (hand_begun rules.red ds sound.fit begun) ∙ a.discarded in
    let before : newest (before_wins (hand ds)) ≡ Some (Discard who tile a.drawn) =
    ap (λ (hs : List Deed). newest (before_wins hs)) (newest_behind (hand ds) (Discard who tile a.drawn) there)
    ∙ newest_before (take (length (hand ds) - 1) (hand ds)) (Discard who tile a.drawn) in
    (holds rules.red ds sound.fit).offered (Discard who tile a.drawn) before refl

-- Who takes the discard isn't who made it.
no_pass : (answer : Answer) → is_pon_or_kan answer ≡ true → is_pass answer ≡ true → ⊥
no_pass (answers.Pass actor) h k = never h
  where
    never : false ≡ true → ⊥
    never e = cc
no_pass other h k = never k
  where
    never : false ≡ true → ⊥
    never e = cc

apart : (rules : Rules) (walls : List (List ℕ)) (ds : List Deed) (given : Four Answer) (who tile seat : ℕ) → Answered rules walls ds given who tile →
    seat < 4 → is_pon_or_kan (at_seat given seat) ≡ true → seat ≡ who → ⊥
apart rules walls ds given who tile seat a small takes same =
    let c = clean_at rules ds given seat small a.lawful in
    no_pass (at_seat given seat) takes
    (ap (λ (b : Bool). if b then is_pass (at_seat given seat) else is_pass_or_call (at_seat given seat)) (sym (eq-eqb who seat (sym same)))
    ∙ ap (λ (turn : WindowTurn). is_open rules seat turn (view_of ds seat).accepted (at_seat given seat)) (sym (turn_is ds seat (Discard who tile a.drawn) a.discarded))
    ∙ not-false (is_open rules seat (view_of ds seat).turn (view_of ds seat).accepted (at_seat given seat)) c.opens)

-- Whoever takes it by a pon or a kan was given two more of its kind.
hit : (ds : List Deed) (seat who tile target t : ℕ) (drawn : Bool) → newest ds ≡ Some (Discard who tile drawn) → misses_discard (view_of ds seat).turn target (Known t) ≡ false → t ≡ tile
hit ds seat who tile target t drawn e h =
    eqb-true t tile (and_parts (target == who) (t == tile)
    (not-false (target == who && t == tile) (ap (λ (turn : WindowTurn). misses_discard turn target (Known t))
    (sym (turn_is ds seat (Discard who tile drawn) e)) ∙ h))).1

alike : (t x : ℕ) (rest : Bool) → not ((kind_of t == kind_of x) && rest) ≡ false → (kind_of t ≡ kind_of x) × (rest ≡ true)
alike t x rest h =
    let parts = and_parts (kind_of t == kind_of x) rest (not-false ((kind_of t == kind_of x) && rest) h) in
    (eqb-true (kind_of t) (kind_of x) parts.0, parts.1)

has_two : (rules : Rules) (ds : List Deed) (seat who tile : ℕ) (drawn : Bool) (answer : Answer) → newest ds ≡ Some (Discard who tile drawn) →
    Clean rules seat (view_of ds seat) answer → is_pon_or_kan answer ≡ true →
    2 ≤ number_of (tiles_gained (hand ds) seat) (kind_of tile)
unfolding view_of
has_two rules ds seat who tile drawn (answers.Pon actor target (Known t) (Known x) (Known y)) e c takes =
    let is : t ≡ tile = hit ds seat who tile target t drawn e c.target in
    let both = alike t x (kind_of t == kind_of y) c.good in
    two_given (tiles_gained (hand ds) seat) (tiles_lost (hand ds) seat) x y (kind_of tile) [] c.held (sym both.0 ∙ ap kind_of is) (sym (eqb-true (kind_of t) (kind_of y) both.1) ∙ ap kind_of is)
has_two rules ds seat who tile drawn (answers.OpenKan actor target (Known t) (Known x) (Known y) (Known z)) e c takes =
    let is : t ≡ tile = hit ds seat who tile target t drawn e c.target in
    let three = and_parts ((kind_of t == kind_of x) && (kind_of t == kind_of y)) (kind_of t == kind_of z)
    (not-false ((kind_of t == kind_of x) && (kind_of t == kind_of y) && (kind_of t == kind_of z)) c.good) in
    let two = and_parts (kind_of t == kind_of x) (kind_of t == kind_of y) three.0 in
    two_given (tiles_gained (hand ds) seat) (tiles_lost (hand ds) seat) x y (kind_of tile) (z ∷ []) c.held
    (sym (eqb-true (kind_of t) (kind_of x) two.0) ∙ ap kind_of is) (sym (eqb-true (kind_of t) (kind_of y) two.1) ∙ ap kind_of is)
has_two rules ds seat who tile drawn (answers.Pon actor target Hidden a b) e c takes = absurd (shown (c.tiles))
  where
    shown : true ≡ false → ⊥
    shown h = cc
has_two rules ds seat who tile drawn (answers.Pon actor target (Known t) Hidden b) e c takes = absurd (hides (is_no_tile rules.red (Known t)) c.tiles)
has_two rules ds seat who tile drawn (answers.Pon actor target (Known t) (Known x) Hidden) e c takes = absurd (hides2 (is_no_tile rules.red (Known t)) (is_no_tile rules.red (Known x)) c.tiles)
has_two rules ds seat who tile drawn (answers.OpenKan actor target Hidden a b d) e c takes = absurd (shown (c.tiles))
  where
    shown : true ≡ false → ⊥
    shown h = cc
has_two rules ds seat who tile drawn (answers.OpenKan actor target (Known t) Hidden b d) e c takes = absurd (hides (is_no_tile rules.red (Known t)) c.tiles)
has_two rules ds seat who tile drawn (answers.OpenKan actor target (Known t) (Known x) Hidden d) e c takes = absurd (hides2 (is_no_tile rules.red (Known t)) (is_no_tile rules.red (Known x)) c.tiles)
has_two rules ds seat who tile drawn (answers.OpenKan actor target (Known t) (Known x) (Known y) Hidden) e c takes =
    absurd (hides3 (is_no_tile rules.red (Known t)) (is_no_tile rules.red (Known x)) (is_no_tile rules.red (Known y)) c.tiles)
has_two rules ds seat who tile drawn other e c takes = absurd (never takes)
  where
    never : false ≡ true → ⊥
    never h = cc

-- So at most one does.
pub one_pon_or_kan : OnePonOrKan
one_pon_or_kan rules walls ds given who tile one other a so st po pt = elim (cases_eq one other) [
  | inl e ↦ e
  | inr ne ↦ absurd (no_two_pairs (hand ds) (kind_of tile) one other who so st (discarder rules walls ds given who tile a) ne
      (apart rules walls ds given who tile one a so po) (apart rules walls ds given who tile other a st pt)
      (has_two rules ds one who tile a.drawn (at_seat given one) a.discarded (clean_at rules ds given one so a.lawful) po)
      (has_two rules ds other who tile a.drawn (at_seat given other) a.discarded (clean_at rules ds given other st a.lawful) pt)
      (one_given (tiles_gained (hand ds) who) tile (discarder_given rules walls ds given who tile a).1)
      (four_of_kind rules.red ds (kind_of tile) (kind_is rules walls ds given who tile a) (sound_of rules walls ds given who tile a).fit))
]

-- A chi is of the next seat.
left_of : (rules : Rules) (seat : ℕ) (view : SeatView) (answer : Answer) → broken_by rules seat view answer ≡ None → is_not_left seat view.turn answer ≡ false
unfolding broken_by
left_of rules seat view answer h = (all_no (questions rules seat view answer) h).1.1.1.1.1.1.1.1.1.1.0

unbroken : (rules : Rules) (ds : List Deed) (given : Four Answer) (seat : ℕ) → seat < 4 → AllLawful rules ds given → broken_by rules seat (view_of ds seat) (at_seat given seat) ≡ None
unbroken rules ds given zero h c = c.first.clean
unbroken rules ds given (suc zero) h c = c.second.clean
unbroken rules ds given (suc (suc zero)) h c = c.third.clean
unbroken rules ds given (suc (suc (suc zero))) h c = c.fourth.clean
unbroken rules ds given (suc (suc (suc (suc n)))) h c = absurd (omega arith)

is_next : (who tile seat : ℕ) (answer : Answer) → is_chi answer ≡ true → is_not_left seat (Discarded who tile) answer ≡ false → next_seat who ≡ seat
is_next who tile seat (answers.Chi actor target t a b) takes h = eqb-true (next_seat who) seat (not-false (next_seat who == seat) h)
is_next who tile seat other takes h = absurd (never takes)
  where
    never : false ≡ true → ⊥
    never h = cc

chi_by : (rules : Rules) (walls : List (List ℕ)) (ds : List Deed) (given : Four Answer) (who tile seat : ℕ) → Answered rules walls ds given who tile →
    seat < 4 → is_chi (at_seat given seat) ≡ true → next_seat who ≡ seat
chi_by rules walls ds given who tile seat a small takes =
    is_next who tile seat (at_seat given seat) takes
    (ap (λ (turn : WindowTurn). is_not_left seat turn (at_seat given seat)) (sym (turn_is ds seat (Discard who tile a.drawn) a.discarded))
    ∙ left_of rules seat (view_of ds seat) (at_seat given seat) (unbroken rules ds given seat small a.lawful))

pub one_chi : OneChi
one_chi rules walls ds given who tile one other a so st co ct = sym (chi_by rules walls ds given who tile one a so co) ∙ chi_by rules walls ds given who tile other a st ct

-- what is bid

record IsBid (bid : Bid) (seat : ℕ) (answer : Answer) : Type 0 where
  call : Deed
  said : taking seat answer ≡ Some call
  bids_it : call_of_bid bid ≡ Some call

triplet_of : (red : Bool) (seat : ℕ) (answer : Answer) → is_pon_or_kan answer ≡ true → is_no_such_tile red answer ≡ false → IsBid (triplet_bid seat answer) seat answer
triplet_of red seat (answers.Pon actor target (Known t) (Known x) (Known y)) takes h = record { call = Pon seat target t x y; said = refl; bids_it = refl }
triplet_of red seat (answers.OpenKan actor target (Known t) (Known x) (Known y) (Known z)) takes h = record { call = OpenKan seat target t x y z; said = refl; bids_it = refl }
triplet_of red seat (answers.Pon actor target Hidden a b) takes h = cc
triplet_of red seat (answers.Pon actor target (Known t) Hidden b) takes h = absurd (hides (is_no_tile red (Known t)) h)
triplet_of red seat (answers.Pon actor target (Known t) (Known x) Hidden) takes h = absurd (hides2 (is_no_tile red (Known t)) (is_no_tile red (Known x)) h)
triplet_of red seat (answers.OpenKan actor target Hidden a b d) takes h = cc
triplet_of red seat (answers.OpenKan actor target (Known t) Hidden b d) takes h = absurd (hides (is_no_tile red (Known t)) h)
triplet_of red seat (answers.OpenKan actor target (Known t) (Known x) Hidden d) takes h = absurd (hides2 (is_no_tile red (Known t)) (is_no_tile red (Known x)) h)
triplet_of red seat (answers.OpenKan actor target (Known t) (Known x) (Known y) Hidden) takes h = absurd (hides3 (is_no_tile red (Known t)) (is_no_tile red (Known x)) (is_no_tile red (Known y)) h)
triplet_of red seat other takes h = cc

run_of : (red : Bool) (seat : ℕ) (answer : Answer) → is_chi answer ≡ true → is_no_such_tile red answer ≡ false → IsBid (run_bid seat answer) seat answer
run_of red seat (answers.Chi actor target (Known t) (Known x) (Known y)) takes h = record { call = Chi seat target t x y; said = refl; bids_it = refl }
run_of red seat (answers.Chi actor target Hidden a b) takes h = cc
run_of red seat (answers.Chi actor target (Known t) Hidden b) takes h = absurd (hides (is_no_tile red (Known t)) h)
run_of red seat (answers.Chi actor target (Known t) (Known x) Hidden) takes h = absurd (hides2 (is_no_tile red (Known t)) (is_no_tile red (Known x)) h)
run_of red seat other takes h = cc

no_triplet : (seat : ℕ) (answer : Answer) → is_pon_or_kan answer ≡ false → triplet_bid seat answer ≡ bids.NoBid
no_triplet seat (answers.Pon actor target tile a b) h = cc
no_triplet seat (answers.OpenKan actor target tile a b c) h = cc
no_triplet seat other h = refl

no_run : (seat : ℕ) (answer : Answer) → is_chi answer ≡ false → run_bid seat answer ≡ bids.NoBid
no_run seat (answers.Chi actor target tile a b) h = cc
no_run seat other h = refl

stands : (bid other : Bid) (call : Deed) → call_of_bid bid ≡ Some call → or_bid bid other ≡ bid
stands bids.NoBid other call e = cc
stands (bids.Chi seat target tile a b) other call e = refl
stands (bids.Pon seat target tile a b) other call e = refl
stands (bids.OpenKan seat target tile a b c) other call e = refl

-- Where only one seat bids so, its bid is the first; and where none does there is none.
only_bid : (bid : ℕ → Answer → Bid) (given : Four Answer) (seat : ℕ) (call : Deed) → seat < 4 → call_of_bid (bid seat (at_seat given seat)) ≡ Some call →
    ((other : ℕ) → other < 4 → (other ≡ seat → ⊥) → bid other (at_seat given other) ≡ bids.NoBid) → bid_by bid given ≡ bid seat (at_seat given seat)
only_bid bid given zero call small e alone = stands (bid 0 given.first) _ call e
only_bid bid given (suc zero) call small e alone =
    (λ i. or_bid (alone 0 (omega arith) (λ h. omega (arith, h)) i) (or_bid (bid 1 given.second) (or_bid (bid 2 given.third) (bid 3 given.fourth))))
    ∙ stands (bid 1 given.second) _ call e
only_bid bid given (suc (suc zero)) call small e alone =
    (λ i. or_bid (alone 0 (omega arith) (λ h. omega (arith, h)) i) (or_bid (alone 1 (omega arith) (λ h. omega (arith, h)) i)
    (or_bid (bid 2 given.third) (bid 3 given.fourth)))) ∙ stands (bid 2 given.third) _ call e
only_bid bid given (suc (suc (suc zero))) call small e alone =
    (λ i. or_bid (alone 0 (omega arith) (λ h. omega (arith, h)) i) (or_bid (alone 1 (omega arith) (λ h. omega (arith, h)) i)
    (or_bid (alone 2 (omega arith) (λ h. omega (arith, h)) i) (bid 3 given.fourth))))
only_bid bid given (suc (suc (suc (suc n)))) call small e alone = absurd (omega arith)

no_bid : (bid : ℕ → Answer → Bid) (given : Four Answer) → ((seat : ℕ) → seat < 4 → bid seat (at_seat given seat) ≡ bids.NoBid) → bid_by bid given ≡ bids.NoBid
no_bid bid given none = (λ i. or_bid (none 0 (omega arith) i) (or_bid (none 1 (omega arith) i) (or_bid (none 2 (omega arith) i) (none 3 (omega arith) i))))

-- how it is decided

no_three : (test : ℕ → Bool) (x y z : ℕ) → test x ≡ false → test y ≡ false → test z ≡ false → filter test (x ∷ y ∷ z ∷ []) ≡ []
no_three test x y z e f g = rw (e, f, g) refl

nobody : (who : ℕ) (given : Four Answer) → NobodyWins given → rons_on who given ≡ []
nobody who given none =
    winners_are who given
    ∙ no_three (wins_by given) ((who + 1) % 4) ((who + 2) % 4) ((who + 3) % 4) (none ((who + 1) % 4) (omega arith)) (none ((who + 2) % 4) (omega arith)) (none ((who + 3) % 4) (omega arith))

discard_is : (rules : Rules) (walls : List (List ℕ)) (ds : List Deed) (given : Four Answer) (who tile : ℕ) (drawn : Bool) → newest ds ≡ Some (Discard who tile drawn) → NobodyWins given →
    outcome rules walls ds given ≡ Some (behind_discard rules (wall_now walls ds) ds who (best_bid given))
unfolding outcome
discard_is rules walls ds given who tile drawn e none =
    ap (option_and_then (λ last. follows rules walls ds last (decision_by last given))) e
    ∙ ap (λ (seats : List ℕ). follows rules walls ds (Discard who tile drawn) (rons_or seats (call_or_pass (best_bid given)))) (nobody who given none)
    ∙ by_bid (best_bid given)
  where
    by_bid : (bid : Bid) → follows rules walls ds (Discard who tile drawn) (call_or_pass bid) ≡ Some (behind_discard rules (wall_now walls ds) ds who bid)
    by_bid bids.NoBid = refl
    by_bid (bids.Chi seat target t a b) = refl
    by_bid (bids.Pon seat target t a b) = refl
    by_bid (bids.OpenKan seat target t a b c) = refl

comes : (rules : Rules) (walls : List (List ℕ)) (ds : List Deed) (given : Four Answer) (who : ℕ) (bid : Bid) (call : Option Deed) → call_of_bid bid ≡ call →
    outcome rules walls ds given ≡ Some (drawn_or rules ds (called_or_draw (wall_now walls ds) ds who bid)) → ComesOf rules walls ds given who call
comes rules walls ds given who bid call is gives = record {
  drawn = λ why w. gives ∙ ap (λ (o : Option Reason). Some (option_map_or (drawn_hand ds) o (called_or_draw (wall_now walls ds) ds who bid))) w;
  called = λ deed w c. gives ∙ ap (λ (o : Option Reason). Some (option_map_or (drawn_hand ds) o (called_or_draw (wall_now walls ds) ds who bid))) w
      ∙ ap (λ (o : Option Deed). Some (unwrap_or o (next_draw (wall_now walls ds) ds (next_seat who)))) (is ∙ c);
  draws = λ w c. gives ∙ ap (λ (o : Option Reason). Some (option_map_or (drawn_hand ds) o (called_or_draw (wall_now walls ds) ds who bid))) w
      ∙ ap (λ (o : Option Deed). Some (unwrap_or o (next_draw (wall_now walls ds) ds (next_seat who)))) (is ∙ c);
}

decided : (rules : Rules) (walls : List (List ℕ)) (ds : List Deed) (given : Four Answer) (who : ℕ) (bid : Bid) (call : Option Deed) → call_of_bid bid ≡ call → best_bid given ≡ bid →
    outcome rules walls ds given ≡ Some (behind_discard rules (wall_now walls ds) ds who (best_bid given)) → IsDecided rules walls ds given who call
decided rules walls ds given who bid call is best gives = record {
  of_reach = λ r. record {
    bid = bid;
    is_call = is;
    accepted = base ∙ ap (λ (b : Bool). Some (if b then accept ds who bid else drawn_or rules ds (called_or_draw (wall_now walls ds) ds who bid))) r;
  };
  otherwise = λ r. comes rules walls ds given who bid call is
      (base ∙ ap (λ (b : Bool). Some (if b then accept ds who bid else drawn_or rules ds (called_or_draw (wall_now walls ds) ds who bid))) r);
}
  where
    base : outcome rules walls ds given ≡ Some (behind_discard rules (wall_now walls ds) ds who bid)
    base = gives ∙ ap (λ (x : Bid). Some (behind_discard rules (wall_now walls ds) ds who x)) best

pub pon_or_kan_comes : PonOrKanComes
unfolding best_bid
pon_or_kan_comes rules walls ds given who tile seat a none small takes =
    let bid = triplet_of rules.red seat (at_seat given seat) takes (clean_at rules ds given seat small a.lawful).tiles in
    let alone : (other : ℕ) → other < 4 → (other ≡ seat → ⊥) → triplet_bid other (at_seat given other) ≡ bids.NoBid =
    λ other so ne. no_triplet other (at_seat given other) (not_so (is_pon_or_kan (at_seat given other)) (λ h. ne (one_pon_or_kan rules walls ds given who tile other seat a so small h takes))) in
    let first : bid_by triplet_bid given ≡ triplet_bid seat (at_seat given seat) = only_bid triplet_bid given seat bid.call small bid.bids_it alone in
    record {
      call = bid.call;
      said = bid.said;
      decided = decided rules walls ds given who (triplet_bid seat (at_seat given seat)) (Some bid.call) bid.bids_it
          (ap (λ (b : Bid). or_bid b (bid_by run_bid given)) first ∙ stands (triplet_bid seat (at_seat given seat)) (bid_by run_bid given) bid.call bid.bids_it)
          (discard_is rules walls ds given who tile a.drawn a.discarded none);
    }
  where
    not_so : (b : Bool) → (b ≡ true → ⊥) → b ≡ false
    not_so true h = absurd (h refl)
    not_so false h = refl

pub chi_comes : ChiComes
unfolding best_bid
chi_comes rules walls ds given who tile seat a none no_kan small takes =
    let bid = run_of rules.red seat (at_seat given seat) takes (clean_at rules ds given seat small a.lawful).tiles in
    let alone : (other : ℕ) → other < 4 → (other ≡ seat → ⊥) → run_bid other (at_seat given other) ≡ bids.NoBid =
    λ other so ne. no_run other (at_seat given other) (not_so (is_chi (at_seat given other)) (λ h. ne (one_chi rules walls ds given who tile other seat a so small h takes))) in
    record {
      call = bid.call;
      said = bid.said;
      decided = decided rules walls ds given who (run_bid seat (at_seat given seat)) (Some bid.call) bid.bids_it
          (ap (λ (b : Bid). or_bid b (bid_by run_bid given)) (no_bid triplet_bid given (λ other so. no_triplet other (at_seat given other) (no_kan other so)))
          ∙ only_bid run_bid given seat bid.call small bid.bids_it alone)
          (discard_is rules walls ds given who tile a.drawn a.discarded none);
    }
  where
    not_so : (b : Bool) → (b ≡ true → ⊥) → b ≡ false
    not_so true h = absurd (h refl)
    not_so false h = refl

pub nothing_is_called : NothingIsCalled
unfolding best_bid
nothing_is_called rules walls ds given who tile a none no_kan no_chi =
    decided rules walls ds given who bids.NoBid None refl
    (ap (λ (b : Bid). or_bid b (bid_by run_bid given)) (no_bid triplet_bid given (λ other so. no_triplet other (at_seat given other) (no_kan other so)))
    ∙ no_bid run_bid given (λ other so. no_run other (at_seat given other) (no_chi other so)))
    (discard_is rules walls ds given who tile a.drawn a.discarded none)

pub kept_call_comes : KeptCallComes
unfolding outcome
kept_call_comes rules walls ds given who said bid e =
    comes rules walls ds given who bid (call_of_bid bid) refl (ap (option_and_then (λ last. follows rules walls ds last (decision_by last given))) e)
