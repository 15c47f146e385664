-- No point is made or lost in played deeds: the points of the four seats and the deposits on the table come to 120,000.
use Rattle.std.proofs.Common.{◌≡◌, ℕ, zero, suc, ◌+◌, ◌*◌, ◌<◌, ◌==◌, ◌&&◌, not, Bool, true, false, cond, List, [], ◌∷◌, ◌++◌, length, refl, ap, sym, ◌∙◌, subst, arith, append-nil, append_assoc}
use Rattle.std.specs.Prelude.{ℤ, pos, neg_ℤ, ◌+ℤ◌, Option, Some, None, IsTrue, nat_lt, option_and_then}
use Rattle.std.specs.List.{list_all, slice_index_or}
use Rattle.std.proofs.lemmas.Int.{ints}
use Rattle.std.proofs.lemmas.Bool.{and_parts, and_from, ltb-true, eq-eqb}
use Rattle.std.proofs.lemmas.List.Concat.{flat_map-append}
use Rattle.mj_deeds.specs.declared.four.Four.{Four}
use Rattle.mj_deeds.specs.declared.answer.Answer.{Answer}
use Rattle.mj_deeds.specs.declared.bid.Bid.{Bid}
use Rattle.mj_deeds.specs.declared.reason.Reason.{Reason}
use Rattle.mj_deeds.specs.declared.reason.Reason.TheVariants.{Fanpai}
use Rattle.mj_deeds.specs.declared.deed.Deed.{Deed}
use Rattle.mj_deeds.specs.declared.deed.Deed.TheVariants.{StartGame, StartHand, Draw, Discard, Chi, Pon, OpenKan, ClosedKan, AddedKan, Dora, Reach, ReachAccepted, Win, DrawnHand, EndHand, EndGame}
use Rattle.mj_deeds.specs.Four.{at_seat, next_seat}
use Rattle.mj_deeds.specs.Bids.{call_of_bid}
use Rattle.mj_deeds.specs.Facts.{newest}
use Rattle.mj_deeds.specs.Fits.{all_fit, is_in_hand, has_seats}
use Rattle.mj_deeds.specs.Hand.{is_hand_start, hand}
use Rattle.mj_deeds.specs.Points.{change_by, points, points_of, deposits, is_deposit, is_win}
use Rattle.mj_deeds.specs.Course.{before_wins, is_offer}
use Rattle.mj_deeds.specs.Shown.{Shown}
use Rattle.mj_deeds.specs.Ends.{winners, winners_by, standing_after}
use Rattle.mj_deeds.specs.Standings.{standing}
use Rattle.mj_deeds.proofs.Newest.{newest_more}
use Rattle.mj_deeds.proofs.HandSteps.{behind, hand_more, hand_is}
use Rattle.mj_deeds.proofs.PointLaws.{points_more, deposits_more}
use Rattle.mj_deeds.proofs.Fitted.{hand_begun}
use Rattle.mj_pay.specs.Payments.{ron_changes, drawn_changes, draw_changes, deposit_changes, total_change}
use Rattle.mj_pay.proofs.Totals.{ron_total, drawn_total, draw_total}
use Rattle.mj_window.specs.Decided.{decision_by, best_bid, call_or_pass, is_win as is_won, seats_after, rons_on}
use Rattle.mj_window.specs.declared.decision.Decision.TheVariants.{Pass}
use Rattle.mj_wall.specs.Places.{is_wall}
use Rattle.mj_wall.specs.declared.setting.Rules.{Rules}
use Rattle.mj_rules.specs.Draws.{hands_at_draw, ready_by, draw_shown, drawn_hand}
use Rattle.mj_rules.specs.Wins.{is_draw, case_of, win_changes, for_first, points_with, win_shown, win_deed}
use Rattle.mj_rules.specs.Outcome.{hand_start, next_draw, next_dora, next_replacement, act_of, own_act, won_tile, seat_of, accept, called_or_draw, next_winner, wall_now, wall_of, follows, outcome}
use Rattle.mj_rules.specs.Broken.{is_discard}
use Rattle.mj_rules.specs.Played.{AllLawful, is_game_start, IsPlayedBehind, AllPlayed, IsPlayed}
use Rattle.mj_rules.specs.Laws.{TotalStays}
use Rattle.mj_rules.proofs.Kept.{first_seat}
use Rattle.mj_rules.proofs.Answered.{IfAny, clean_at}
use Rattle.mj_rules.proofs.Turns.{filter_passes, won_or_acts, discards_only, called_opens, reached_opens, won_each, draw_or, called_or, unless, behind_or, called_or_on, start_or_end}
use Rattle.mj_rules.proofs.BeforeWins.{newest_before, some_before}
use Rattle.mj_rules.proofs.Riches.{is_quiet, quiet, quiet_act, quiet_call}
use Rattle.mj_rules.proofs.Playing.{played_sound, played_more}

-- what a deed moves

-- What all seats gain by a deed, less what they lose.
abbrev gain : Deed → ℤ
gain d = total_change (change_by 0 d ∷ change_by 1 d ∷ change_by 2 d ∷ change_by 3 d ∷ [])

abbrev Stays : List Deed → Type 0
Stays ds = total_change (points ds) +ℤ pos (1000 * deposits ds) ≡ pos 120000

-- What the seats gain is what the deposits lose.
stays_more : (ds : List Deed) (d : Deed) → Stays ds → gain d +ℤ pos (1000 * deposits (ds ++ d ∷ [])) ≡ pos (1000 * deposits ds) → Stays (ds ++ d ∷ [])
stays_more ds d stays moves =
    sum _ _ _ _ (points_of ds 0) (points_of ds 1) (points_of ds 2) (points_of ds 3) (change_by 0 d) (change_by 1 d) (change_by 2 d) (change_by 3 d) _ (1000 * deposits ds)
    (points_more ds d 0) (points_more ds d 1) (points_more ds d 2) (points_more ds d 3) stays moves
  where
    sum : (x y z w a b c e p q r s : ℤ) (m n : ℕ) → x ≡ a +ℤ p → y ≡ b +ℤ q → z ≡ c +ℤ r → w ≡ e +ℤ s → total_change (a ∷ b ∷ c ∷ e ∷ []) +ℤ pos n ≡ pos 120000 →
        total_change (p ∷ q ∷ r ∷ s ∷ []) +ℤ pos m ≡ pos n → total_change (x ∷ y ∷ z ∷ w ∷ []) +ℤ pos m ≡ pos 120000
    sum x y z w a b c e p q r s m n f g h i j k = omega (arith, ints)

-- A deed that moves nothing.
still_stays : (ds : List Deed) (d : Deed) → Stays ds → ((seat : ℕ) → change_by seat d ≡ pos 0) → is_win d ≡ false → is_deposit d ≡ false → Stays (ds ++ d ∷ [])
still_stays ds d stays none lost laid =
    stays_more ds d stays (sum _ _ _ _ _ (deposits ds) (is_win d) (is_deposit d) (none 0) (none 1) (none 2) (none 3) (deposits_more ds d) lost laid)
  where
    sum : (p q r s : ℤ) (m n : ℕ) (a b : Bool) → p ≡ pos 0 → q ≡ pos 0 → r ≡ pos 0 → s ≡ pos 0 → m ≡ cond a 0 (n + cond b 1 0) → a ≡ false → b ≡ false →
        total_change (p ∷ q ∷ r ∷ s ∷ []) +ℤ pos (1000 * m) ≡ pos (1000 * n)
    sum p q r s m n true b f g h i e j k = cc
    sum p q r s m n false true f g h i e j k = cc
    sum p q r s m n false false f g h i e j k = omega (arith, ints)

-- the winners of a hand

-- Nobody has won in the hand, whose newest deed is this one.
record Unwon (ds : List Deed) (d : Deed) : Type 0 where
  none : winners (hand ds) ≡ []
  last : is_in_hand (Some d) ≡ true → newest (before_wins (hand ds)) ≡ Some d

-- A seat is another than the one that gave the tile.
abbrev is_apart : ℕ → ℕ → Bool
is_apart target seat = not (seat == target)

-- The tile that seats win on: of a discard or an added kan, the newest deed before the winners, and of its seat.
pub record Offered (ds : List Deed) (target taken : ℕ) : Type 0 where
  pub deed : Deed
  pub last : newest (before_wins (hand ds)) ≡ Some deed
  pub offer : is_offer deed ≡ true
  pub seat : seat_of deed ≡ target
  pub tile : won_tile deed ≡ taken

-- Where more seats win.
abbrev IfMore : Type 0 → List ℕ → Type 0
IfMore P [] = Unit {0}
IfMore P (seat ∷ seats) = P

-- A win has taken all deposits. The seats that win after it are others than the one that gave the tile, and it was offered to them.
record Won (ds : List Deed) (target tile : ℕ) (rest : List ℕ) : Type 0 where
  none : deposits ds ≡ 0
  others : list_all (is_apart target) rest ≡ true
  offered : IfMore (Offered ds target tile) rest

-- What the newest deed says; before the first win nobody has won in the hand.
abbrev Behind : List Deed → Deed → Type 0
Behind ds (Win who target tile unders own yaku fu han value deltas points rest) = Won ds target tile rest
Behind ds EndHand = Unit {0}
Behind ds (EndGame points deposits) = Unit {0}
Behind ds other = Unwon ds other

record Balanced (ds : List Deed) : Type 0 where
  stays : Stays ds
  last : IfAny (Behind ds) (newest ds)

abbrev BalancedWith : List Deed → Deed → Type 0
BalancedWith ds d = Balanced (ds ++ d ∷ [])

with_last : (ds : List Deed) (d : Deed) → Stays (ds ++ d ∷ []) → Behind (ds ++ d ∷ []) d → BalancedWith ds d
with_last ds d stays h = record { stays = stays; last = subst (IfAny (Behind (ds ++ d ∷ []))) (sym (newest_more ds d)) h }

not_won : (d : Deed) → is_win d ≡ false → winners_by d ≡ []
not_won (Win who target tile unders own yaku fu han value deltas points rest) h = cc
not_won other h = refl

unwon_more : (red : Bool) (ds : List Deed) (d : Deed) → all_fit red [] ds ≡ true → is_in_hand (newest ds) ≡ true → winners (hand ds) ≡ [] →
    is_win d ≡ false → is_hand_start d ≡ false → Unwon (ds ++ d ∷ []) d
unwon_more red ds d fit begun none lost within = record { none = nobody; last = λ _. at_end }
  where
    is : hand (ds ++ d ∷ []) ≡ hand ds ++ d ∷ []
    is = hand_is ds d (λ _ empty. hand_begun red ds fit begun empty) ∙ ap (λ (b : Bool). cond b [] (hand ds) ++ d ∷ []) within

    nobody : winners (hand (ds ++ d ∷ [])) ≡ []
    nobody =
        ap winners is ∙ flat_map-append winners_by (hand ds) (d ∷ [])
        ∙ ap (λ (seats : List ℕ). seats ++ (winners_by d ++ [])) none ∙ ap (λ (seats : List ℕ). seats ++ []) (not_won d lost)

    at_end : newest (before_wins (hand (ds ++ d ∷ []))) ≡ Some d
    at_end =
        ap (λ (hs : List Deed). newest (before_wins hs)) is ∙ newest_before (hand ds) d ∙ ap (λ (b : Bool). cond b (newest (before_wins (hand ds))) (Some d)) lost

-- one deed more

quiet_behind : (ds : List Deed) (d : Deed) → is_quiet d ≡ true → Unwon ds d → Behind ds d
quiet_behind ds (Win who target tile unders own yaku fu han value deltas points rest) h u = cc
quiet_behind ds EndHand h u = cc
quiet_behind ds (EndGame points deposits) h u = cc
quiet_behind ds other h u = u

quiet_balanced : (red : Bool) (ds : List Deed) (d : Deed) → all_fit red [] ds ≡ true → is_in_hand (newest ds) ≡ true → winners (hand ds) ≡ [] → Stays ds → is_quiet d ≡ true → BalancedWith ds d
quiet_balanced red ds d fit begun none stays h =
    let q = quiet d h in
    with_last ds d (still_stays ds d stays q.change q.win q.deposit) (quiet_behind (ds ++ d ∷ []) d h (unwon_more red ds d fit begun none q.win q.start))

quiet_any : (red : Bool) (ds : List Deed) (o : Option Deed) → all_fit red [] ds ≡ true → is_in_hand (newest ds) ≡ true → winners (hand ds) ≡ [] → Stays ds → IfAny (λ d. is_quiet d ≡ true) o →
    IfAny (BalancedWith ds) o
quiet_any red ds None fit begun none stays h = tt
quiet_any red ds (Some d) fit begun none stays h = quiet_balanced red ds d fit begun none stays h

end_balanced : (ds : List Deed) → Stays ds → BalancedWith ds EndHand
end_balanced ds stays = with_last ds EndHand (still_stays ds EndHand stays (λ seat. refl) refl refl) tt

start_balanced : (ds : List Deed) (d : Deed) → Stays ds → is_hand_start d ≡ true → BalancedWith ds d
start_balanced ds (StartHand round number honba lying dealer indicator hands) stays h =
    let d : Deed = StartHand round number honba lying dealer indicator hands in
    with_last ds d (still_stays ds d stays (λ seat. refl) refl refl)
    (record { none = ap winners (hand_more ds d); last = λ _. ap (λ (hs : List Deed). newest (before_wins hs)) (hand_more ds d) })
start_balanced ds other stays h = cc

-- An accepted reach moves 1,000 points to the table.
laid_down : (who : ℕ) (said : List ℤ) (bid : Bid) → who < 4 → gain (ReachAccepted who said bid) ≡ neg_ℤ (pos 1000)
laid_down zero said bid low = refl
laid_down (suc zero) said bid low = refl
laid_down (suc (suc zero)) said bid low = refl
laid_down (suc (suc (suc zero))) said bid low = refl
laid_down (suc (suc (suc (suc n)))) said bid low = absurd (omega (arith, low))

accept_balanced : (red : Bool) (ds : List Deed) (who : ℕ) (bid : Bid) → all_fit red [] ds ≡ true → is_in_hand (newest ds) ≡ true →
    winners (hand ds) ≡ [] → who < 4 → Stays ds → BalancedWith ds (accept ds who bid)
unfolding accept
accept_balanced red ds who bid fit begun none low stays =
    with_last ds (accept ds who bid) (stays_more ds (accept ds who bid) stays
    (sum _ _ (deposits ds) (laid_down who (points_with (points ds) (deposit_changes who)) bid low) (deposits_more ds (accept ds who bid))))
    (unwon_more red ds (accept ds who bid) fit begun none refl refl)
  where
    sum : (g : ℤ) (m n : ℕ) → g ≡ neg_ℤ (pos 1000) → m ≡ n + 1 → g +ℤ pos (1000 * m) ≡ pos (1000 * n)
    sum g m n e h = omega (arith, ints)

-- The end of the game says what there is.
game_end_balanced : (ds : List Deed) → Stays ds → BalancedWith ds (EndGame (points ds) (deposits ds))
game_end_balanced ds stays = with_last ds (EndGame (points ds) (deposits ds)) (still_stays ds (EndGame (points ds) (deposits ds)) stays (λ seat. refl) refl refl) tt

-- At the draw of a hand the ready gain what the unready pay.
shares_total : (ready : List Bool) → length ready ≡ 4 →
    total_change
    (slice_index_or (draw_changes ready) 0 (pos 0) ∷ slice_index_or (draw_changes ready) 1 (pos 0) ∷ slice_index_or (draw_changes ready) 2 (pos 0) ∷ slice_index_or (draw_changes ready) 3 (pos 0) ∷ [])
    ≡ pos 0
unfolding draw_changes
shares_total (a ∷ b ∷ c ∷ d ∷ []) e = draw_total (a ∷ b ∷ c ∷ d ∷ []) e
shares_total [] e = absurd (omega (arith, e))
shares_total (a ∷ []) e = absurd (omega (arith, e))
shares_total (a ∷ b ∷ []) e = absurd (omega (arith, e))
shares_total (a ∷ b ∷ c ∷ []) e = absurd (omega (arith, e))
shares_total (a ∷ b ∷ c ∷ d ∷ x ∷ rest) e = absurd (omega (arith, e))

four_ready : (why : Reason) (hands : Four Shown) → length (ready_by why hands) ≡ 4
four_ready Fanpai hands = refl
four_ready other hands = refl

drawn_balanced : (red : Bool) (ds : List Deed) (why : Reason) → all_fit red [] ds ≡ true → is_in_hand (newest ds) ≡ true → winners (hand ds) ≡ [] → Stays ds → BalancedWith ds (drawn_hand ds why)
unfolding draw_shown
drawn_balanced red ds why fit begun none stays =
    with_last ds (drawn_hand ds why)
    (stays_more ds (drawn_hand ds why) stays
    (sum _ _ (deposits ds) (shares_total (ready_by why (hands_at_draw why (hand ds))) (four_ready why (hands_at_draw why (hand ds)))) (deposits_more ds (drawn_hand ds why))))
    (unwon_more red ds (drawn_hand ds why) fit begun none refl refl)
  where
    sum : (g : ℤ) (m n : ℕ) → g ≡ pos 0 → m ≡ n + 0 → g +ℤ pos (1000 * m) ≡ pos (1000 * n)
    sum g m n e h = omega (arith, ints)

-- A seat draws, or the hand is drawn.
draw_balanced : (red : Bool) (walls : List (List ℕ)) (ds : List Deed) (seat : ℕ) → all_fit red [] ds ≡ true → is_in_hand (newest ds) ≡ true → winners (hand ds) ≡ [] → Stays ds →
    BalancedWith ds (next_draw (wall_now walls ds) ds seat)
draw_balanced red walls ds seat fit begun none stays =
    draw_or (BalancedWith ds) (wall_now walls ds) ds seat (drawn_balanced red ds _ fit begun none stays) (λ _. quiet_balanced red ds _ fit begun none stays refl)

-- A win moves the deposits to its seat, and takes them all.
win_total : (by_draw : Bool) (seat target dealer base honba lying : ℕ) → seat < 4 → target < 4 → (by_draw ≡ false → seat ≡ target → ⊥) →
    total_change
    (slice_index_or (win_changes by_draw seat target dealer base honba lying) 0 (pos 0) ∷ slice_index_or (win_changes by_draw seat target dealer base honba lying) 1 (pos 0)
    ∷ slice_index_or (win_changes by_draw seat target dealer base honba lying) 2 (pos 0) ∷ slice_index_or (win_changes by_draw seat target dealer base honba lying) 3 (pos 0) ∷ [])
    ≡ pos (1000 * lying)
unfolding win_changes ron_changes drawn_changes
win_total true seat target dealer base honba lying low there apart = drawn_total seat dealer base honba lying (omega (arith, low))
win_total false seat target dealer base honba lying low there apart = ron_total seat target dealer base honba lying (apart refl) (omega (arith, low)) (omega (arith, there))

by_draw_is : (ds : List Deed) (seat : ℕ) → (case_of (standing ds) (before_wins (hand ds)) seat).by_draw ≡ is_draw (newest (before_wins (hand ds)))
unfolding case_of
by_draw_is ds seat = refl

-- A win is no deed before the winners.
offered_more : (ds : List Deed) (d : Deed) (target tile : ℕ) → is_win d ≡ true → is_hand_start d ≡ false → Offered ds target tile → Offered (ds ++ d ∷ []) target tile
offered_more ds d target tile won within o = record { deed = o.deed; last = stays ∙ o.last; offer = o.offer; seat = o.seat; tile = o.tile }
  where
    stays : newest (before_wins (hand (ds ++ d ∷ []))) ≡ newest (before_wins (hand ds))
    stays =
        ap (λ (hs : List Deed). newest (before_wins hs)) (hand_is ds d (λ _ empty. some_before ds o.deed o.last empty) ∙ ap (λ (b : Bool). cond b [] (hand ds) ++ d ∷ []) within)
        ∙ newest_before (hand ds) d ∙ ap (λ (b : Bool). cond b (newest (before_wins (hand ds))) (Some d)) won

offered_after : (ds : List Deed) (d : Deed) (target tile : ℕ) (rest : List ℕ) → is_win d ≡ true → is_hand_start d ≡ false →
    IfMore (Offered ds target tile) rest → IfMore (Offered (ds ++ d ∷ []) target tile) rest
offered_after ds d target tile [] won within o = tt
offered_after ds d target tile (seat ∷ seats) won within o = offered_more ds d target tile won within o

win_balanced : (ds : List Deed) (wall : List ℕ) (seat target tile : ℕ) (rest : List ℕ) → seat < 4 → target < 4 → (is_draw (newest (before_wins (hand ds))) ≡ false → seat ≡ target → ⊥) →
    for_first (hand ds) (deposits ds) ≡ deposits ds → list_all (is_apart target) rest ≡ true → IfMore (Offered ds target tile) rest → Stays ds →
    BalancedWith ds (win_deed wall ds seat target tile rest)
unfolding win_shown
win_balanced ds wall seat target tile rest low there apart first others offered stays =
    with_last ds (win_deed wall ds seat target tile rest)
    (stays_more ds (win_deed wall ds seat target tile rest) stays
    (sum _ _ (deposits ds) (for_first (hand ds) (deposits ds)) (win_total (case_of (standing ds) (before_wins (hand ds)) seat).by_draw seat target _ _
    _ _ low there (λ e. apart (sym (by_draw_is ds seat) ∙ e))) first none))
    (record { none = none; others = others; offered = offered_after ds (win_deed wall ds seat target tile rest) target tile rest refl refl offered })
  where
    none : deposits (ds ++ win_deed wall ds seat target tile rest ∷ []) ≡ 0
    none = deposits_more ds (win_deed wall ds seat target tile rest)

    sum : (g : ℤ) (m n l : ℕ) → g ≡ pos (1000 * l) → l ≡ n → m ≡ 0 → g +ℤ pos (1000 * m) ≡ pos (1000 * n)
    sum g m n l e h k = omega (arith, ints)

-- what follows

-- The first winner takes the deposits; when a seat has won there are none.
all_for_first : (hs : List Deed) (n : ℕ) → winners hs ≡ [] → for_first hs n ≡ n
all_for_first hs n e = ap (λ (seats : List ℕ). cond (length seats == 0) n 0) e

none_for_first : (hs : List Deed) (n : ℕ) → n ≡ 0 → for_first hs n ≡ n
none_for_first hs n e = by_test (length (winners hs) == 0) e
  where
    by_test : (b : Bool) → n ≡ 0 → cond b n 0 ≡ n
    by_test true h = refl
    by_test false h = sym h

-- The seats that win on a tile are seats, and others than the one that gave it.
abbrev is_winner_on : ℕ → ℕ → Bool
is_winner_on who seat = nat_lt seat 4 && is_apart who seat

rons_apart : (who : ℕ) (given : Four Answer) → who < 4 → list_all (is_winner_on who) (rons_on who given) ≡ true
rons_apart who given low = filter_passes (λ other. is_won (at_seat given other)) (is_winner_on who) (seats_after who) (at who low)
  where
    at : (who : ℕ) → who < 4 → list_all (is_winner_on who) (seats_after who) ≡ true
    at zero l = refl
    at (suc zero) l = refl
    at (suc (suc zero)) l = refl
    at (suc (suc (suc zero))) l = refl
    at (suc (suc (suc (suc n)))) l = absurd (omega (arith, l))

apart_is : (target seat : ℕ) → is_apart target seat ≡ true → seat ≡ target → ⊥
apart_is target seat h e = both (seat == target) h (eq-eqb seat target e)
  where
    both : (b : Bool) → not b ≡ true → b ≡ true → ⊥
    both b k l = cc

-- Of seats that pass two tests each passes the second.
second_of : (p q : ℕ → Bool) (seats : List ℕ) → list_all (λ seat. p seat && q seat) seats ≡ true → list_all q seats ≡ true
second_of p q [] h = refl
second_of p q (seat ∷ seats) h =
    let parts = and_parts (p seat && q seat) (list_all (λ s. p s && q s) seats) h in
    and_from (q seat) _ (and_parts (p seat) (q seat) parts.0).1 (second_of p q seats parts.1)

if_more : {P : Type 0} (seats : List ℕ) → P → IfMore P seats
if_more [] h = tt
if_more (seat ∷ seats) h = h

-- A winner on a tile of another seat.
ron_balanced : (ds : List Deed) (wall : List ℕ) (target tile : ℕ) → target < 4 → winners (hand ds) ≡ [] → Offered ds target tile → Stays ds →
    (seat : ℕ) (rest : List ℕ) → is_winner_on target seat ≡ true →
    list_all (is_winner_on target) rest ≡ true → BalancedWith ds (win_deed wall ds seat target tile rest)
ron_balanced ds wall target tile there none offered stays seat rest h others =
    let parts = and_parts (nat_lt seat 4) (is_apart target seat) h in
    win_balanced ds wall seat target tile rest (ltb-true seat 4 parts.0) there (λ _. apart_is target seat parts.1) (all_for_first (hand ds) (deposits ds) none)
    (second_of (λ s. nat_lt s 4) (is_apart target) rest others) (if_more rest offered) stays

winner_balanced : (ds : List Deed) (wall : List ℕ) (target tile : ℕ) (rest : List ℕ) → target < 4 → list_all (λ seat. nat_lt seat 4) rest ≡ true → Won ds target tile rest → Stays ds →
    BalancedWith ds (next_winner wall ds target tile rest)
winner_balanced ds wall target tile [] there low w stays = end_balanced ds stays
winner_balanced ds wall target tile (seat ∷ rest) there low w stays =
    let parts = and_parts (is_apart target seat) (list_all (is_apart target) rest) w.others in
    win_balanced ds wall seat target tile rest (first_seat seat _ low) there (λ _. apart_is target seat parts.0) (none_for_first (hand ds) (deposits ds) w.none) parts.1 (if_more rest w.offered) stays

-- Who reached or called discards.
discard_balanced : (rules : Rules) (walls : List (List ℕ)) (ds : List Deed) (n : Deed) (who : ℕ) (answer : Answer) → all_fit rules.red [] ds ≡ true →
    is_in_hand (newest ds) ≡ true → winners (hand ds) ≡ [] → Stays ds →
    is_discard answer ≡ true → IfAny (BalancedWith ds) (own_act (wall_now walls ds) ds n who answer)
discard_balanced rules walls ds n who answer fit begun none stays h =
    discards_only (BalancedWith ds) (wall_now walls ds) ds n who answer h (quiet_any rules.red ds (act_of who answer) fit begun none stays (quiet_act who answer))

follower_balanced : (rules : Rules) (walls : List (List ℕ)) (ds : List Deed) (given : Four Answer) (n : Deed) → newest ds ≡ Some n →
    has_seats n ≡ true → all_fit rules.red [] ds ≡ true → AllLawful rules ds given →
    Stays ds → Behind ds n → IfAny (BalancedWith ds) (follows rules walls ds n (decision_by n given))
unfolding hand_start next_dora next_replacement
follower_balanced rules walls ds given (StartGame names) e seats fit c stays u = start_balanced ds _ stays refl
follower_balanced rules walls ds given (StartHand round number honba lying dealer indicator hands) e seats fit c stays u =
    draw_balanced rules.red walls ds dealer fit (ap is_in_hand e) u.none stays
follower_balanced rules walls ds given (Draw who tile replacement) e seats fit c stays u =
    let low = first_seat who _ seats in
    won_or_acts (BalancedWith ds) (wall_now walls ds) ds (Draw who tile replacement) who (at_seat given who)
    (win_balanced ds (wall_now walls ds) who who tile [] low low (λ no _. both _ (ap is_draw (u.last refl)) no) (all_for_first (hand ds) (deposits ds) u.none) refl tt stays)
    (drawn_balanced rules.red ds _ fit (ap is_in_hand e) u.none stays)
    (quiet_any rules.red ds (act_of who (at_seat given who)) fit (ap is_in_hand e) u.none stays (quiet_act who (at_seat given who)))
  where
    both : (b : Bool) → b ≡ true → b ≡ false → ⊥
    both b k l = cc
follower_balanced rules walls ds given (Discard who tile drawn) e seats fit c stays u =
    let low = first_seat who _ seats in
    let begun = ap is_in_hand e in
    won_each (BalancedWith ds) rules walls ds (Discard who tile drawn) (is_winner_on who) (rons_on who given) (call_or_pass (best_bid given)) (rons_apart who given low)
    (λ seat rest h others few. ron_balanced ds (wall_now walls ds) who tile low u.none (record {
      deed = Discard who tile drawn;
      last = u.last refl;
      offer = refl;
      seat = refl;
      tile = refl;
    }) stays seat rest h others)
    (called_or_on (BalancedWith ds) rules walls ds who tile drawn (best_bid given)
    (behind_or (BalancedWith ds) rules (wall_now walls ds) ds who (best_bid given)
    (λ reached. accept_balanced rules.red ds who (best_bid given) fit begun u.none low stays)
    (λ why. drawn_balanced rules.red ds why fit begun u.none stays)
    (quiet_any rules.red ds (call_of_bid (best_bid given)) fit begun u.none stays (quiet_call (best_bid given)))
    (draw_balanced rules.red walls ds (next_seat who) fit begun u.none stays)))
follower_balanced rules walls ds given (Chi who target tile a b) e seats fit c stays u =
    discard_balanced rules walls ds (Chi who target tile a b) who (at_seat given who) fit (ap is_in_hand e) u.none stays
    (called_opens rules ds (Chi who target tile a b) who _ (at_seat given who) e refl (clean_at rules ds given who (first_seat who _ seats) c))
follower_balanced rules walls ds given (Pon who target tile a b) e seats fit c stays u =
    discard_balanced rules walls ds (Pon who target tile a b) who (at_seat given who) fit (ap is_in_hand e) u.none stays
    (called_opens rules ds (Pon who target tile a b) who _ (at_seat given who) e refl (clean_at rules ds given who (first_seat who _ seats) c))
follower_balanced rules walls ds given (OpenKan who target tile a b d) e seats fit c stays u =
    quiet_balanced rules.red ds (next_dora (wall_now walls ds) (hand ds)) fit (ap is_in_hand e) u.none stays refl
follower_balanced rules walls ds given (ClosedKan who a b d x) e seats fit c stays u =
    quiet_balanced rules.red ds (next_dora (wall_now walls ds) (hand ds)) fit (ap is_in_hand e) u.none stays refl
follower_balanced rules walls ds given (AddedKan who tile a b d) e seats fit c stays u =
    let low = first_seat who _ seats in
    won_each (BalancedWith ds) rules walls ds (AddedKan who tile a b d) (is_winner_on who) (rons_on who given) Pass (rons_apart who given low)
    (λ seat rest h others few. ron_balanced ds (wall_now walls ds) who tile low u.none (record {
      deed = AddedKan who tile a b d;
      last = u.last refl;
      offer = refl;
      seat = refl;
      tile = refl;
    }) stays seat rest h others)
    (quiet_balanced rules.red ds (next_dora (wall_now walls ds) (hand ds)) fit (ap is_in_hand e) u.none stays refl)
follower_balanced rules walls ds given (Dora tile) e seats fit c stays u =
    quiet_balanced rules.red ds (next_replacement (wall_now walls ds) (hand ds)) fit (ap is_in_hand e) u.none stays refl
follower_balanced rules walls ds given (Reach who) e seats fit c stays u =
    discard_balanced rules walls ds (Reach who) who (at_seat given who) fit (ap is_in_hand e) u.none stays
    (reached_opens rules ds (Reach who) who (at_seat given who) e refl (clean_at rules ds given who (first_seat who _ seats) c))
follower_balanced rules walls ds given (ReachAccepted who said bid) e seats fit c stays u =
    let begun = ap is_in_hand e in
    unless (BalancedWith ds) rules ds (called_or_draw (wall_now walls ds) ds who bid)
    (λ why. drawn_balanced rules.red ds why fit begun u.none stays)
    (called_or (BalancedWith ds) (wall_now walls ds) ds who bid (quiet_any rules.red ds (call_of_bid bid) fit begun u.none stays (quiet_call bid))
    (draw_balanced rules.red walls ds (next_seat who) fit begun u.none stays))
follower_balanced rules walls ds given (Win who target tile unders own yaku fu han value deltas said rest) e seats fit c stays u =
    let p = and_parts (nat_lt who 4) (list_all (λ s. nat_lt s 4) (target ∷ rest)) seats in
    winner_balanced ds (wall_now walls ds) target tile rest (first_seat target _ p.1) (and_parts (nat_lt target 4) (list_all (λ s. nat_lt s 4) rest) p.1).1 u stays
follower_balanced rules walls ds given (DrawnHand reason hands ready deltas said) e seats fit c stays u = end_balanced ds stays
follower_balanced rules walls ds given EndHand e seats fit c stays u =
    start_or_end (BalancedWith ds) walls ds (standing_after (standing ds) (hand ds)) (λ next _. start_balanced ds _ stays refl) (game_end_balanced ds stays)
follower_balanced rules walls ds given (EndGame said lying) e seats fit c stays u = tt

-- What follows the newest deed keeps the total.
outcome_balanced : (rules : Rules) (walls : List (List ℕ)) (ds : List Deed) (given : Four Answer) → IfAny (λ d. has_seats d ≡ true) (newest ds) →
    all_fit rules.red [] ds ≡ true → AllLawful rules ds given → Balanced ds →
    IfAny (BalancedWith ds) (outcome rules walls ds given)
unfolding outcome
outcome_balanced rules walls ds given seated fit c b = by_newest (newest ds) refl seated b.last
  where
    by_newest : (o : Option Deed) → newest ds ≡ o → IfAny (λ d. has_seats d ≡ true) o → IfAny (Behind ds) o →
        IfAny (BalancedWith ds) (option_and_then (λ last. follows rules walls ds last (decision_by last given)) o)
    by_newest None e seats u = tt
    by_newest (Some n) e seats u = follower_balanced rules walls ds given n e seats fit c b.stays u

-- Nothing yet, and the start of a game.
nothing_balanced : Balanced []
nothing_balanced = record { stays = refl; last = tt }

start_game : (d : Deed) → IsTrue (is_game_start d) → Balanced (d ∷ [])
unfolding hand
start_game (StartGame names) h = record { stays = refl; last = record { none = refl; last = λ begun. cc } }
start_game other h = cc

behind_balanced : (rules : Rules) (walls : List (List ℕ)) (ds : List Deed) (d : Deed) → ((number : ℕ) → is_wall rules.red (wall_of walls number) ≡ true) → IsPlayed rules walls ds → Balanced ds →
    IsPlayedBehind rules walls ds d → BalancedWith ds d
behind_balanced rules walls [] d h played b behind = start_game d behind
behind_balanced rules walls (first ∷ others) d h played b behind =
    let s = played_sound rules walls (first ∷ others) h played in
    subst (IfAny (BalancedWith (first ∷ others))) behind.gives (outcome_balanced rules walls (first ∷ others) behind.given s.seated s.fit behind.lawful b)

all_balanced : (rules : Rules) (walls : List (List ℕ)) (before ds : List Deed) → ((number : ℕ) → is_wall rules.red (wall_of walls number) ≡ true) → IsPlayed rules walls before → Balanced before →
    AllPlayed rules walls before ds → Balanced (before ++ ds)
all_balanced rules walls before [] h old b played = subst Balanced (sym (append-nil before)) b
all_balanced rules walls before (d ∷ ds) h old b played =
    subst Balanced (append_assoc before (d ∷ []) ds)
    (all_balanced rules walls (before ++ d ∷ []) ds h (played_more rules walls before d old played.0) (behind_balanced rules walls before d h old b played.0) played.1)

played_balanced : (rules : Rules) (walls : List (List ℕ)) (ds : List Deed) → ((number : ℕ) → is_wall rules.red (wall_of walls number) ≡ true) → IsPlayed rules walls ds → Balanced ds
played_balanced rules walls ds h played = all_balanced rules walls [] ds h tt nothing_balanced played

pub total_stays : TotalStays
total_stays rules walls ds h played = (played_balanced rules walls ds h played).stays

-- After a win of played deeds each seat that wins after it is another than the one that gave the tile.
pub winners_apart : (rules : Rules) (walls : List (List ℕ)) (ds : List Deed) (who target tile : ℕ) (unders own : List ℕ) (yaku : List (ℕ × ℕ))
    (fu han value : ℕ) (deltas said : List ℤ) (rest : List ℕ) →
    ((number : ℕ) → is_wall rules.red (wall_of walls number) ≡ true) → IsPlayed rules walls ds → newest ds ≡ Some (Win who target tile unders own yaku fu han value deltas said rest) →
    list_all (λ seat. not (seat == target)) rest ≡ true
winners_apart rules walls ds who target tile unders own yaku fu han value deltas said rest h played e = (subst (IfAny (Behind ds)) e (played_balanced rules walls ds h played).last).others

-- Where a seat is to win after it, the tile was offered to it by the newest deed before the winners.
pub winners_wait : (rules : Rules) (walls : List (List ℕ)) (ds : List Deed) (who target tile : ℕ) (unders own : List ℕ) (yaku : List (ℕ × ℕ))
    (fu han value : ℕ) (deltas said : List ℤ) (next : ℕ) (rest : List ℕ) →
    ((number : ℕ) → is_wall rules.red (wall_of walls number) ≡ true) → IsPlayed rules walls ds → newest ds ≡ Some (Win who target tile unders own yaku fu han value deltas said (next ∷ rest)) →
    Offered ds target tile
winners_wait rules walls ds who target tile unders own yaku fu han value deltas said next rest h played e = (subst (IfAny (Behind ds)) e (played_balanced rules walls ds h played).last).offered

-- Nobody has won in the hand until its first win: a deed is none, nor the end of the hand or of the game.
abbrev pub is_unwon : Deed → Bool
is_unwon (Win who target tile unders own yaku fu han value deltas points rest) = false
is_unwon EndHand = false
is_unwon (EndGame points deposits) = false
is_unwon other = true

pub nobody_yet : (rules : Rules) (walls : List (List ℕ)) (ds : List Deed) (last : Deed) →
    ((number : ℕ) → is_wall rules.red (wall_of walls number) ≡ true) → IsPlayed rules walls ds → newest ds ≡ Some last →
    is_unwon last ≡ true → winners (hand ds) ≡ []
nobody_yet rules walls ds last h played e unwon = by_deed last unwon (subst (IfAny (Behind ds)) e (played_balanced rules walls ds h played).last)
  where
    by_deed : (d : Deed) → is_unwon d ≡ true → Behind ds d → winners (hand ds) ≡ []
    by_deed (Win who target tile unders own yaku fu han value deltas points rest) unwon u = cc
    by_deed EndHand unwon u = cc
    by_deed (EndGame points deposits) unwon u = cc
    by_deed other unwon u = u.none
