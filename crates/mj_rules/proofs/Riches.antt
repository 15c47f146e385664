-- How many points and deposits a played game can have: in each hand a seat's points and the deposits grow by no more than the hand may move.
use Rattle.std.proofs.Common.{◌≡◌, ℕ, zero, suc, ◌+◌, ◌-◌, ◌*◌, ◌<◌, ◌≤◌, Bool, true, false, cond, eqb, List, [], ◌∷◌, ◌++◌, length, refl, ap, sym, ◌∙◌, subst, arith}
use Rattle.std.specs.Prelude.{pos, neg_ℤ, nat_abs, Option, Some, None, IsTrue, option_and_then}
use Rattle.std.specs.List.{slice_index_or}
use Rattle.mj_deeds.specs.declared.four.Four.{Four}
use Rattle.mj_deeds.specs.declared.answer.Pai.{Pai}
use Rattle.mj_deeds.specs.declared.answer.Pai.TheVariants.{Known as Named, Hidden}
use Rattle.mj_deeds.specs.declared.answer.Answer.{Answer}
use Rattle.mj_deeds.specs.declared.answer.Answer.TheVariants as answers
use Rattle.mj_deeds.specs.declared.reason.Reason.{Reason}
use Rattle.mj_deeds.specs.declared.bid.Bid.{Bid}
use Rattle.mj_deeds.specs.declared.bid.Bid.TheVariants as bids
use Rattle.mj_deeds.specs.declared.deed.Deed.{Deed}
use Rattle.mj_deeds.specs.declared.deed.Deed.TheVariants.{StartGame, StartHand, Draw, Discard, Chi, Pon, OpenKan, ClosedKan, AddedKan, Dora, Reach, ReachAccepted, Win, DrawnHand, EndHand, EndGame}
use Rattle.mj_deeds.specs.Four.{at_seat, next_seat}
use Rattle.mj_deeds.specs.Bids.{call_of_bid}
use Rattle.mj_deeds.specs.Facts.{newest}
use Rattle.mj_deeds.specs.Fits.{all_fit, is_in_hand, has_seats}
use Rattle.mj_deeds.specs.Hand.{is_hand_start, hand, starts}
use Rattle.mj_deeds.specs.Points.{change_by, points, points_of, deposits, is_deposit, is_win}
use Rattle.mj_deeds.specs.Riichi.{is_in_riichi}
use Rattle.mj_deeds.specs.Course.{before_wins}
use Rattle.mj_deeds.specs.Standings.{standing}
use Rattle.mj_deeds.specs.Ends.{standing_after}
use Rattle.mj_deeds.proofs.Newest.{newest_more}
use Rattle.mj_deeds.proofs.HandSteps.{behind, hand_more, hand_is, starts_more}
use Rattle.mj_deeds.proofs.PointLaws.{points_more, deposits_more}
use Rattle.mj_deeds.proofs.Deposits.{riichis, riichis_stay, riichis_more, riichis_most}
use Rattle.mj_deeds.proofs.Fitted.{hand_begun}
use Rattle.mj_deeds.proofs.Standings.{few_hands}
use Rattle.mj_window.specs.Decided.{decision_by, best_bid, call_or_pass, rons_on}
use Rattle.mj_window.specs.declared.decision.Decision.TheVariants.{Pass}
use Rattle.mj_wall.specs.declared.setting.Rules.{Rules}
use Rattle.mj_rules.specs.Draws.{hands_at_draw, ready_by, draw_shown, drawn_hand}
use Rattle.mj_rules.specs.Wins.{Shows, own_tiles_of, unders_of, win_deed, win_shown}
use Rattle.mj_rules.specs.Outcome.{hand_start, next_draw, next_dora, next_replacement, of_one, of_four, act_of, own_act, won_tile, accept, called_or_draw, next_winner, wall_now, follows, outcome}
use Rattle.mj_rules.specs.Played.{AllLawful, is_game_start}
use Rattle.mj_rules.proofs.Kept.{first_seat}
use Rattle.mj_rules.proofs.Answered.{IfAny}
use Rattle.mj_rules.proofs.Purses.{sum_size, draw_size}
use Rattle.mj_rules.proofs.Winning.{changes_few}
use Rattle.mj_rules.proofs.Turns.{Known, won_or_acts, won_few, rons_seated, draw_or, called_or, unless, behind_or, called_or_on, start_or_end}

-- What a hand that is under way may still move: three wins of 144,000 points, 1,000 points and a deposit of as much for each seat that
-- isn't in riichi, and the 3,000 points of a drawn hand.
abbrev pub under_way : ℕ → ℕ
under_way riichi = 435000 + 2000 * (4 - riichi)

-- What the rest of a hand may still move, by its newest deed and how many seats are in riichi: after a win the wins that follow,
-- and nothing where no hand is under way.
abbrev pub left_by : Option Deed → ℕ → ℕ
left_by None riichi = 0
left_by (Some (StartGame names)) riichi = 0
left_by (Some (Win who target tile unders own yaku fu han value deltas points rest)) riichi = 144000 * length rest
left_by (Some (DrawnHand reason hands ready deltas points)) riichi = 0
left_by (Some EndHand) riichi = 0
left_by (Some (EndGame points deposits)) riichi = 0
left_by (Some other) riichi = under_way riichi

abbrev pub left : List Deed → ℕ
left ds = left_by (newest ds) (riichis (hand ds))

-- The points of no seat, with the deposits and what may still be moved, are greater than the hands so far allow.
pub record Rich (ds : List Deed) : Type 0 where
  pub few : (seat : ℕ) → nat_abs (slice_index_or (points ds) seat (pos 0)) + 1000 * deposits ds + left ds ≤ 30000 + 443000 * length (starts ds)

abbrev Richer : List Deed → Deed → Type 0
Richer ds d = Rich (ds ++ d ∷ [])

-- one deed more

left_is : (ds : List Deed) (n : Deed) → newest ds ≡ Some n → left ds ≡ left_by (Some n) (riichis (hand ds))
left_is ds n e = ap (λ o. left_by o (riichis (hand ds))) e

left_more : (ds : List Deed) (d : Deed) → left (ds ++ d ∷ []) ≡ left_by (Some d) (riichis (hand (ds ++ d ∷ [])))
left_more ds d = left_is (ds ++ d ∷ []) d (newest_more ds d)

-- A deed moves no more than may still be moved; the start of a hand allows what that hand may move.
pub rich_more : (ds : List Deed) (d : Deed) → Rich ds →
    ((seat : ℕ) → nat_abs (change_by seat d) + 1000 * deposits (ds ++ d ∷ []) + left (ds ++ d ∷ []) ≤ 1000 * deposits ds + left ds + cond (is_hand_start d) 443000 0) → Richer ds d
rich_more ds d rich moves = record { few = few }
  where
    sum : (p' p c e' e l' l s' s : ℕ) (b : Bool) → p' ≤ p + c → p + 1000 * e + l ≤ 30000 + 443000 * s → c + 1000 * e' + l' ≤ 1000 * e + l + cond b 443000 0 → s' ≡ s + cond b 1 0 →
        p' + 1000 * e' + l' ≤ 30000 + 443000 * s'
    sum p' p c e' e l' l s' s true h i j k = omega arith
    sum p' p c e' e l' l s' s false h i j k = omega arith

    of_seat : (seat : ℕ) → nat_abs (points_of ds seat) + 1000 * deposits ds + left ds ≤ 30000 + 443000 * length (starts ds) →
        nat_abs (points_of (ds ++ d ∷ []) seat) + 1000 * deposits (ds ++ d ∷ []) + left (ds ++ d ∷ []) ≤ 30000 + 443000 * length (starts (ds ++ d ∷ []))
    of_seat seat h =
        sum _ (nat_abs (points_of ds seat)) (nat_abs (change_by seat d)) _ (deposits ds) _ (left ds) _ (length (starts ds)) (is_hand_start d)
        (subst (λ x. nat_abs x ≤ nat_abs (points_of ds seat) + nat_abs (change_by seat d)) (sym (points_more ds d seat)) (sum_size (points_of ds seat) (change_by seat d)))
        h (moves seat) (starts_more ds d)

    nobody : (p e l s : ℕ) → p + e + l ≤ s → 0 + e + l ≤ s
    nobody p e l s h = omega arith

    few : (seat : ℕ) → nat_abs (slice_index_or (points (ds ++ d ∷ [])) seat (pos 0)) + 1000 * deposits (ds ++ d ∷ []) + left (ds ++ d ∷ []) ≤ 30000 + 443000 * length (starts (ds ++ d ∷ []))
    few zero = of_seat 0 (rich.few 0)
    few (suc zero) = of_seat 1 (rich.few 1)
    few (suc (suc zero)) = of_seat 2 (rich.few 2)
    few (suc (suc (suc zero))) = of_seat 3 (rich.few 3)
    few (suc (suc (suc (suc n)))) = nobody _ _ _ _ (of_seat 0 (rich.few 0))

-- A deed that moves nothing.
still_more : (ds : List Deed) (d : Deed) → Rich ds → ((seat : ℕ) → change_by seat d ≡ pos 0) → is_win d ≡ false → is_deposit d ≡ false →
    left (ds ++ d ∷ []) ≤ left ds + cond (is_hand_start d) 443000 0 → Richer ds d
still_more ds d rich none lost laid less =
    rich_more ds d rich (λ seat. sum _ _ (deposits ds) _ (left ds) _ (is_win d) (is_deposit d) (ap nat_abs (none seat)) (deposits_more ds d) lost laid less)
  where
    sum : (c e' e l' l s : ℕ) (a b : Bool) → c ≡ 0 → e' ≡ cond a 0 (e + cond b 1 0) → a ≡ false → b ≡ false → l' ≤ l + s → c + 1000 * e' + l' ≤ 1000 * e + l + s
    sum c e' e l' l s true b h i j k m = cc
    sum c e' e l' l s false true h i j k m = cc
    sum c e' e l' l s false false h i j k m = omega arith

-- A deed within a hand that moves nothing.
abbrev pub is_quiet : Deed → Bool
is_quiet (StartGame names) = false
is_quiet (StartHand round number honba deposits dealer indicator hands) = false
is_quiet (ReachAccepted who points bid) = false
is_quiet (Win who target tile unders own yaku fu han value deltas points rest) = false
is_quiet (DrawnHand reason hands ready deltas points) = false
is_quiet EndHand = false
is_quiet (EndGame points deposits) = false
is_quiet other = true

pub record Quiet (d : Deed) : Type 0 where
  pub change : (seat : ℕ) → change_by seat d ≡ pos 0
  pub win : is_win d ≡ false
  pub deposit : is_deposit d ≡ false
  pub start : is_hand_start d ≡ false
  pub left : (riichi : ℕ) → left_by (Some d) riichi ≡ under_way riichi

pub quiet : (d : Deed) → is_quiet d ≡ true → Quiet d
quiet (StartGame names) h = cc
quiet (StartHand round number honba deposits dealer indicator hands) h = cc
quiet (ReachAccepted who points bid) h = cc
quiet (Win who target tile unders own yaku fu han value deltas points rest) h = cc
quiet (DrawnHand reason hands ready deltas points) h = cc
quiet EndHand h = cc
quiet (EndGame points deposits) h = cc
quiet other h = record { change = λ seat. refl; win = refl; deposit = refl; start = refl; left = λ riichi. refl }

riichis_kept : (ds : List Deed) (d : Deed) → is_hand_start d ≡ false → is_deposit d ≡ false → riichis (hand (ds ++ d ∷ [])) ≡ riichis (hand ds)
riichis_kept ds d e h = ap riichis (hand_more ds d ∙ ap (λ (b : Bool). cond b (d ∷ []) (behind (hand ds) d)) e) ∙ still (hand ds)
  where
    still : (xs : List Deed) → riichis (behind xs d) ≡ riichis xs
    still [] = refl
    still (x ∷ xs) = riichis_stay (x ∷ xs) d h

quiet_more : (ds : List Deed) (d : Deed) → left ds ≡ under_way (riichis (hand ds)) → Rich ds → is_quiet d ≡ true → Richer ds d
quiet_more ds d way rich h =
    let q = quiet d h in
    still_more ds d rich q.change q.win q.deposit
    (same _ _ _ (left_more ds d ∙ q.left (riichis (hand (ds ++ d ∷ []))) ∙ ap under_way (riichis_kept ds d q.start q.deposit) ∙ sym way))
  where
    same : (m n k : ℕ) → m ≡ n → m ≤ n + k
    same m n k e = omega arith

quiet_any : (ds : List Deed) (o : Option Deed) → left ds ≡ under_way (riichis (hand ds)) → Rich ds → IfAny (λ d. is_quiet d ≡ true) o → IfAny (Richer ds) o
quiet_any ds None way rich h = tt
quiet_any ds (Some d) way rich h = quiet_more ds d way rich h

-- The start of a hand, and its end.
start_more : (ds : List Deed) (d : Deed) → Rich ds → is_hand_start d ≡ true → Richer ds d
start_more ds (StartHand round number honba lying dealer indicator hands) rich h =
    still_more ds (StartHand round number honba lying dealer indicator hands) rich (λ seat. refl) refl refl
    (room _ (left ds) _ (left_more ds (StartHand round number honba lying dealer indicator hands)))
  where
    room : (m n r : ℕ) → m ≡ under_way r → m ≤ n + 443000
    room m n r e = omega arith
start_more ds other rich h = cc

end_more : (ds : List Deed) → Rich ds → Richer ds EndHand
end_more ds rich = still_more ds EndHand rich (λ seat. refl) refl refl (none _ (left ds) (left_more ds EndHand))
  where
    none : (m n : ℕ) → m ≡ 0 → m ≤ n + 0
    none m n e = omega arith

-- The end of the game says the points that there are.
game_end_more : (ds : List Deed) → Rich ds → Richer ds (EndGame (points ds) (deposits ds))
game_end_more ds rich = still_more ds (EndGame (points ds) (deposits ds)) rich (λ seat. refl) refl refl (none _ (left ds) (left_more ds (EndGame (points ds) (deposits ds))))
  where
    none : (m n : ℕ) → m ≡ 0 → m ≤ n + 0
    none m n e = omega arith

-- A hand that is drawn moves 3,000 points.
drawn_more : (ds : List Deed) (why : Reason) → left ds ≡ under_way (riichis (hand ds)) → Rich ds → Richer ds (drawn_hand ds why)
unfolding draw_shown
drawn_more ds why way rich =
    rich_more ds (drawn_hand ds why) rich
    (λ seat. sum _ _ (deposits ds) _ (left ds) (riichis (hand ds)) (draw_size (ready_by why (hands_at_draw why (hand ds))) seat)
    (deposits_more ds (drawn_hand ds why)) (left_more ds (drawn_hand ds why)) way)
  where
    sum : (c e' e l' l r : ℕ) → c ≤ 3000 → e' ≡ e + 0 → l' ≡ 0 → l ≡ under_way r → c + 1000 * e' + l' ≤ 1000 * e + l + 0
    sum c e' e l' l r h i j k = omega arith

-- A win moves 144,000 points and the deposits.
win_more : (ds : List Deed) (wall : List ℕ) (seat target tile : ℕ) (rest : List ℕ) → (standing ds).honba ≤ 199 → Rich ds →
    144000 * suc (length rest) ≤ left ds → Richer ds (win_deed wall ds seat target tile rest)
unfolding win_shown
win_more ds wall seat target tile rest h rich room =
    rich_more ds (win_deed wall ds seat target tile rest) rich
    (λ other. sum _ _ (deposits ds) _ (left ds) (length rest) (changes_few ds seat target shown h other)
    (deposits_more ds (win_deed wall ds seat target tile rest)) (left_more ds (win_deed wall ds seat target tile rest)) room)
  where
    shown : Shows
    shown = record { own = own_tiles_of (before_wins (hand ds)) seat tile; tile = tile; unders = unders_of wall (before_wins (hand ds)) seat }

    sum : (c e' e l' l n : ℕ) → c ≤ 144000 + 1000 * e → e' ≡ 0 → l' ≡ 144000 * n → 144000 * suc n ≤ l → c + 1000 * e' + l' ≤ 1000 * e + l + 0
    sum c e' e l' l n h i j k = omega arith

-- An accepted reach moves 1,000 points and one deposit more.
accept_more : (red : Bool) (ds : List Deed) (who : ℕ) (bid : Bid) → all_fit red [] ds ≡ true → is_in_hand (newest ds) ≡ true →
    left ds ≡ under_way (riichis (hand ds)) → who < 4 → is_in_riichi (hand ds) who ≡ false →
    Rich ds → Richer ds (accept ds who bid)
unfolding accept
accept_more red ds who bid fit begun way low free rich =
    rich_more ds (accept ds who bid) rich
    (λ seat. sum _ _ (deposits ds) _ (left ds) (riichis (hand ds)) _ (most (eqb who seat)) (deposits_more ds (accept ds who bid))
    (left_more ds (accept ds who bid)) way one (riichis_most (hand (ds ++ accept ds who bid ∷ []))))
  where
    one : riichis (hand (ds ++ accept ds who bid ∷ [])) ≡ riichis (hand ds) + 1
    one = ap riichis (hand_is ds (accept ds who bid) (λ _ empty. hand_begun red ds fit begun empty)) ∙ riichis_more (hand ds) (accept ds who bid) who low (λ seat. refl) free

    most : (b : Bool) → nat_abs (cond b (neg_ℤ (pos 1000)) (pos 0)) ≤ 1000
    most true = omega arith
    most false = omega arith

    sum : (c e' e l' l r r' : ℕ) → c ≤ 1000 → e' ≡ e + 1 → l' ≡ under_way r' → l ≡ under_way r → r' ≡ r + 1 → r' ≤ 4 → c + 1000 * e' + l' ≤ 1000 * e + l + 0
    sum c e' e l' l r r' h i j k m n = omega arith

-- what follows

-- What a seat does, a call and a draw are deeds that move nothing.
pub one_passes : (P : Deed → Type 0) (deed : ℕ → Deed) (tile : Pai) → ((t : ℕ) → P (deed t)) → IfAny P (of_one deed tile)
one_passes P deed (Named t) h = h t
one_passes P deed Hidden h = tt

pub four_pass : (P : Deed → Type 0) (deed : ℕ → ℕ → ℕ → ℕ → Deed) (a b c d : Pai) → ((x y z w : ℕ) → P (deed x y z w)) → IfAny P (of_four deed a b c d)
four_pass P deed (Named x) (Named y) (Named z) d h = one_passes P (deed x y z) d (h x y z)
four_pass P deed Hidden b c d h = tt
four_pass P deed (Named x) Hidden c d h = tt
four_pass P deed (Named x) (Named y) Hidden d h = tt

pub quiet_act : (who : ℕ) (answer : Answer) → IfAny (λ d. is_quiet d ≡ true) (act_of who answer)
quiet_act who (answers.Discard actor tile drawn) = one_passes (λ d. is_quiet d ≡ true) (λ t. Discard who t drawn) tile (λ t. refl)
quiet_act who (answers.ClosedKan actor a b c d) = four_pass (λ d. is_quiet d ≡ true) (λ x y z w. ClosedKan who x y z w) a b c d (λ x y z w. refl)
quiet_act who (answers.AddedKan actor tile a b c) = four_pass (λ d. is_quiet d ≡ true) (λ t x y z. AddedKan who t x y z) tile a b c (λ t x y z. refl)
quiet_act who (answers.Reach actor) = refl
quiet_act who other = tt

pub quiet_call : (bid : Bid) → IfAny (λ d. is_quiet d ≡ true) (call_of_bid bid)
quiet_call bids.NoBid = tt
quiet_call (bids.Chi seat target tile a b) = refl
quiet_call (bids.Pon seat target tile a b) = refl
quiet_call (bids.OpenKan seat target tile a b c) = refl

-- A seat draws, or the hand is drawn.
draw_more : (walls : List (List ℕ)) (ds : List Deed) (seat : ℕ) → left ds ≡ under_way (riichis (hand ds)) → Rich ds → Richer ds (next_draw (wall_now walls ds) ds seat)
draw_more walls ds seat way rich = draw_or (Richer ds) (wall_now walls ds) ds seat (drawn_more ds _ way rich) (λ _. quiet_more ds _ way rich refl)

-- There is room for a win and two more while a hand is under way.
three_wins : (l r n : ℕ) → l ≡ under_way r → n ≤ 2 → 144000 * suc n ≤ l
three_wins l r n e h = omega arith

own_more : (walls : List (List ℕ)) (ds : List Deed) (n : Deed) (who : ℕ) (answer : Answer) → (standing ds).honba ≤ 199 →
    left ds ≡ under_way (riichis (hand ds)) → Rich ds → IfAny (Richer ds) (own_act (wall_now walls ds) ds n who answer)
own_more walls ds n who answer h way rich =
    won_or_acts (Richer ds) (wall_now walls ds) ds n who answer
    (win_more ds (wall_now walls ds) who who (won_tile n) [] h rich (three_wins _ _ 0 way (omega arith)))
    (drawn_more ds _ way rich)
    (quiet_any ds (act_of who answer) way rich (quiet_act who answer))

winner_more : (ds : List Deed) (wall : List ℕ) (target tile : ℕ) (rest : List ℕ) → (standing ds).honba ≤ 199 → Rich ds →
    144000 * length rest ≤ left ds → Richer ds (next_winner wall ds target tile rest)
winner_more ds wall target tile [] h rich room = end_more ds rich
winner_more ds wall target tile (seat ∷ rest) h rich room = win_more ds wall seat target tile rest h rich room

follower_rich : (rules : Rules) (walls : List (List ℕ)) (ds : List Deed) (given : Four Answer) (n : Deed) → Known rules.red walls ds →
    newest ds ≡ Some n → has_seats n ≡ true → Rich ds → all_fit rules.red [] ds ≡ true →
    IfAny (Richer ds) (follows rules walls ds n (decision_by n given))
unfolding hand_start next_dora next_replacement
follower_rich rules walls ds given (StartGame names) k e seats rich fit = start_more ds _ rich refl
follower_rich rules walls ds given (StartHand round number honba lying dealer indicator hands) k e seats rich fit =
    draw_more walls ds dealer (left_is ds _ e) rich
follower_rich rules walls ds given (Draw who tile replacement) k e seats rich fit =
    own_more walls ds (Draw who tile replacement) who (at_seat given who) k.fair.honba (left_is ds _ e) rich
follower_rich rules walls ds given (Discard who tile drawn) k e seats rich fit =
    let way = left_is ds _ e in
    won_few (Richer ds) rules walls ds (Discard who tile drawn) (rons_on who given) (call_or_pass (best_bid given)) (rons_seated who given)
    (λ seat rest low others few. win_more ds (wall_now walls ds) seat who tile rest k.fair.honba rich (three_wins _ _ _ way few))
    (called_or_on (Richer ds) rules walls ds who tile drawn (best_bid given)
    (behind_or (Richer ds) rules (wall_now walls ds) ds who (best_bid given)
    (λ reached. accept_more rules.red ds who (best_bid given) fit (ap is_in_hand e) way (first_seat who _ seats) (k.free who tile drawn e reached) rich)
    (λ why. drawn_more ds why way rich)
    (quiet_any ds (call_of_bid (best_bid given)) way rich (quiet_call (best_bid given)))
    (draw_more walls ds (next_seat who) way rich)))
follower_rich rules walls ds given (Chi who target tile a b) k e seats rich fit =
    own_more walls ds (Chi who target tile a b) who (at_seat given who) k.fair.honba (left_is ds _ e) rich
follower_rich rules walls ds given (Pon who target tile a b) k e seats rich fit =
    own_more walls ds (Pon who target tile a b) who (at_seat given who) k.fair.honba (left_is ds _ e) rich
follower_rich rules walls ds given (OpenKan who target tile a b c) k e seats rich fit = quiet_more ds (next_dora (wall_now walls ds) (hand ds)) (left_is ds _ e) rich refl
follower_rich rules walls ds given (ClosedKan who a b c d) k e seats rich fit = quiet_more ds (next_dora (wall_now walls ds) (hand ds)) (left_is ds _ e) rich refl
follower_rich rules walls ds given (AddedKan who tile a b c) k e seats rich fit =
    let way = left_is ds _ e in
    won_few (Richer ds) rules walls ds (AddedKan who tile a b c) (rons_on who given) Pass (rons_seated who given)
    (λ seat rest low others few. win_more ds (wall_now walls ds) seat who tile rest k.fair.honba rich (three_wins _ _ _ way few))
    (quiet_more ds (next_dora (wall_now walls ds) (hand ds)) way rich refl)
follower_rich rules walls ds given (Dora tile) k e seats rich fit = quiet_more ds (next_replacement (wall_now walls ds) (hand ds)) (left_is ds _ e) rich refl
follower_rich rules walls ds given (Reach who) k e seats rich fit =
    own_more walls ds (Reach who) who (at_seat given who) k.fair.honba (left_is ds _ e) rich
follower_rich rules walls ds given (ReachAccepted who said bid) k e seats rich fit =
    let way = left_is ds _ e in
    unless (Richer ds) rules ds (called_or_draw (wall_now walls ds) ds who bid)
    (λ why. drawn_more ds why way rich)
    (called_or (Richer ds) (wall_now walls ds) ds who bid (quiet_any ds (call_of_bid bid) way rich (quiet_call bid)) (draw_more walls ds (next_seat who) way rich))
follower_rich rules walls ds given (Win who target tile unders own yaku fu han value deltas said rest) k e seats rich fit =
    winner_more ds (wall_now walls ds) target tile rest k.fair.honba rich (same _ _ (left_is ds _ e))
  where
    same : (m n : ℕ) → m ≡ n → n ≤ m
    same m n e = omega arith
follower_rich rules walls ds given (DrawnHand reason hands ready deltas said) k e seats rich fit = end_more ds rich
follower_rich rules walls ds given EndHand k e seats rich fit =
    start_or_end (Richer ds) walls ds (standing_after (standing ds) (hand ds)) (λ next _. start_more ds _ rich refl) (game_end_more ds rich)
follower_rich rules walls ds given (EndGame said lying) k e seats rich fit = tt

-- What follows the newest deed moves no more than a hand may.
pub rich_next : (rules : Rules) (walls : List (List ℕ)) (ds : List Deed) (given : Four Answer) → Known rules.red walls ds → Rich ds → all_fit rules.red [] ds ≡ true → AllLawful rules ds given →
    IfAny (λ d. Rich (ds ++ d ∷ [])) (outcome rules walls ds given)
unfolding outcome
rich_next rules walls ds given k rich fit lawful = by_newest (newest ds) refl k.seated
  where
    by_newest : (o : Option Deed) → newest ds ≡ o → IfAny (λ d. has_seats d ≡ true) o → IfAny (Richer ds) (option_and_then (λ last. follows rules walls ds last (decision_by last given)) o)
    by_newest None e seats = tt
    by_newest (Some n) e seats = follower_rich rules walls ds given n k e seats rich fit

-- Nothing yet, and the start of a game.
pub nothing_rich : Rich []
nothing_rich = record { few = few }
  where
    few : (seat : ℕ) → nat_abs (slice_index_or (points []) seat (pos 0)) + 1000 * deposits [] + left [] ≤ 30000 + 443000 * length (starts [])
    few zero = omega arith
    few (suc zero) = omega arith
    few (suc (suc zero)) = omega arith
    few (suc (suc (suc zero))) = omega arith
    few (suc (suc (suc (suc n)))) = omega arith

pub start_rich : (d : Deed) → IsTrue (is_game_start d) → Rich (d ∷ [])
start_rich (StartGame names) h = still_more [] (StartGame names) nothing_rich (λ seat. refl) refl refl (omega arith)
start_rich other h = cc

-- So no seat has more than 90,000,000 points, below or above zero, even with all deposits.
pub rich_few : (red : Bool) (ds : List Deed) → all_fit red [] ds ≡ true → Rich ds → (seat : ℕ) → nat_abs (slice_index_or (points ds) seat (pos 0)) + 1000 * deposits ds ≤ 90000000
rich_few red ds fit rich seat = sum _ (deposits ds) (left ds) (length (starts ds)) (rich.few seat) (few_hands red ds fit)
  where
    sum : (p e l s : ℕ) → p + 1000 * e + l ≤ 30000 + 443000 * s → s ≤ 200 → p + 1000 * e ≤ 90000000
    sum p e l s h k = omega arith
