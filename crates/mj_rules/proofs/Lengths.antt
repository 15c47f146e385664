-- How many deeds a hand and a game have at most.
use Rattle.std.proofs.Common.{◌≡◌, ℕ, zero, suc, ◌+◌, ◌*◌, ◌<◌, ◌≤◌, ◌==◌, Bool, true, false, cond, List, [], ◌∷◌, ◌++◌, length, refl, ap, sym, ◌∙◌, subst, arith, append-nil, append_assoc}
use Rattle.std.specs.Prelude.{Option, Some, None, IsTrue, count_by, flat_map, option_and_then}
use Rattle.std.proofs.lemmas.Bool.{not-true}
use Rattle.std.proofs.lemmas.List.{length-append, length-map}
use Rattle.std.proofs.lemmas.List.Sums.{sum_by_push}
use Rattle.mj_tiles.specs.declared.meld.Meld.{Meld}
use Rattle.mj_deeds.specs.declared.four.Four.{Four}
use Rattle.mj_deeds.specs.declared.answer.Answer.{Answer}
use Rattle.mj_deeds.specs.declared.answer.Answer.TheVariants as answers
use Rattle.mj_deeds.specs.declared.bid.Bid.{Bid}
use Rattle.mj_deeds.specs.declared.bid.Bid.TheVariants as bids
use Rattle.mj_deeds.specs.declared.reason.Reason.{Reason}
use Rattle.mj_deeds.specs.declared.deed.Deed.{Deed}
use Rattle.mj_deeds.specs.declared.deed.Deed.TheVariants.{StartGame, StartHand, Draw, Discard, Chi, Pon, OpenKan, ClosedKan, AddedKan, Dora, Reach, ReachAccepted, Win, DrawnHand, EndHand, EndGame}
use Rattle.mj_deeds.specs.Four.{at_seat, next_seat}
use Rattle.mj_deeds.specs.Bids.{call_of_bid}
use Rattle.mj_deeds.specs.Facts.{newest, is_kan, kans, is_live_draw, live_draws, makes_by, seat_melds}
use Rattle.mj_deeds.specs.Fits.{fits, all_fit, has_seats}
use Rattle.mj_deeds.specs.Hand.{is_hand_start, hand, starts}
use Rattle.mj_deeds.specs.Points.{is_deposit}
use Rattle.mj_deeds.specs.Riichi.{is_in_riichi}
use Rattle.mj_deeds.specs.Standings.{standing}
use Rattle.mj_deeds.specs.Ends.{standing_after}
use Rattle.mj_deeds.proofs.Newest.{newest_more}
use Rattle.mj_deeds.proofs.HandSteps.{hand_more, hand_is, starts_more}
use Rattle.mj_deeds.proofs.Deposits.{riichis, riichis_stay, riichis_more, riichis_most}
use Rattle.mj_deeds.proofs.Fitted.{Parts, parts_of, kept_in_hand, four_melds, past_of, some_hand}
use Rattle.mj_deeds.proofs.Standings.{few_hands, some_starts}
use Rattle.mj_window.specs.Decided.{decision_by, best_bid, call_or_pass, rons_on}
use Rattle.mj_window.specs.declared.decision.Decision.TheVariants.{Pass}
use Rattle.mj_wall.specs.Places.{is_wall}
use Rattle.mj_wall.specs.declared.setting.Rules.{Rules}
use Rattle.mj_rules.specs.Broken.{is_discard}
use Rattle.mj_rules.specs.Draws.{draw_shown, drawn_hand}
use Rattle.mj_rules.specs.Wins.{win_shown, win_deed}
use Rattle.mj_rules.specs.Outcome.{hand_start, next_draw, next_dora, next_replacement, act_of, accept, called_or_draw, next_winner, wall_now, wall_of, follows, outcome}
use Rattle.mj_rules.specs.Played.{AllLawful, is_game_start, IsPlayedBehind, AllPlayed, IsPlayed}
use Rattle.mj_rules.specs.Laws.{FewDeeds}
use Rattle.mj_rules.proofs.Stages.{Stage, StandsAt, length-more}
use Rattle.mj_rules.proofs.Kept.{first_seat}
use Rattle.mj_rules.proofs.Answered.{IfAny, clean_at}
use Rattle.mj_rules.proofs.Turns.{won_or_acts, discards_only, called_opens, reached_opens, won_few, rons_seated, draw_or, called_or, unless, behind_or, called_or_on, start_or_end}
use Rattle.mj_rules.proofs.Riches.{one_passes, four_pass}
use Rattle.mj_rules.proofs.Playing.{played_sound, played_more, behind_fits}

-- what the deeds of a hand bring with them

-- A chi or a pon.
abbrev is_taken : Deed → Bool
is_taken (Chi who target tile a b) = true
is_taken (Pon who target tile a b) = true
is_taken other = false

-- How many deeds a deed brings with it: a live draw, a reach and a discard; a kan, an indicator, the draw of a replacement, a reach and a
-- discard; a chi or a pon, and a discard; an accepted reach.
abbrev weight : Deed → ℕ
weight d = 3 * cond (is_live_draw d) 1 0 + 5 * cond (is_kan d) 1 0 + 2 * cond (is_taken d) 1 0 + cond (is_deposit d) 1 0

abbrev counted : List Deed → ℕ
counted hs = 3 * live_draws hs + 5 * kans hs + 2 * count_by is_taken hs + count_by is_deposit hs

counted_more : (hs : List Deed) (d : Deed) → counted (hs ++ d ∷ []) ≡ counted hs + weight d
counted_more hs d =
    sum _ _ _ _ (live_draws hs) (kans hs) (count_by is_taken hs) (count_by is_deposit hs) _ _ _ _
    (sum_by_push (λ x. cond (is_live_draw x) 1 0) hs d) (sum_by_push (λ x. cond (is_kan x) 1 0) hs d) (sum_by_push (λ x. cond (is_taken x) 1 0) hs d) (sum_by_push (λ x. cond (is_deposit x) 1 0) hs d)
  where
    sum : (a' b' c' e' a b c e x y z w : ℕ) → a' ≡ a + x → b' ≡ b + y → c' ≡ c + z → e' ≡ e + w →
        3 * a' + 5 * b' + 2 * c' + e' ≡ 3 * a + 5 * b + 2 * c + e + (3 * x + 5 * y + 2 * z + w)
    sum a' b' c' e' a b c e x y z w h i j k = omega (arith, h, i, j, k)

-- How many deeds may still follow the newest one that no other brings with it: at the end of a hand three wins, its end and that of the
-- game; before that what the newest deed brings.
abbrev rest_by : Option Deed → ℕ
rest_by None = 0
rest_by (Some (StartGame names)) = 0
rest_by (Some (StartHand round number honba lying dealer indicator hands)) = 5
rest_by (Some (Draw who tile replacement)) = 7
rest_by (Some (Discard who tile drawn)) = 5
rest_by (Some (Chi who target tile a b)) = 6
rest_by (Some (Pon who target tile a b)) = 6
rest_by (Some (OpenKan who target tile a b c)) = 9
rest_by (Some (ClosedKan who a b c d)) = 9
rest_by (Some (AddedKan who tile a b c)) = 9
rest_by (Some (Dora tile)) = 8
rest_by (Some (Reach who)) = 6
rest_by (Some (ReachAccepted who said bid)) = 5
rest_by (Some (Win who target tile unders own yaku fu han value deltas said rest)) = 2 + length rest
rest_by (Some (DrawnHand reason hands ready deltas said)) = 2
rest_by (Some EndHand) = 1
rest_by (Some (EndGame said lying)) = 0

-- A deed follows another: it starts a hand, or is one of those that may still follow with those after it.
abbrev Leads : Deed → Deed → Type 0
Leads n (StartGame names) = ⊥
Leads n (StartHand round number honba lying dealer indicator hands) = Unit {0}
Leads n other = 1 + rest_by (Some other) ≤ rest_by (Some n) + weight other

-- what follows

win_leads : (n : Deed) (wall : List ℕ) (ds : List Deed) (seat target tile : ℕ) (rest : List ℕ) → 3 + length rest ≤ rest_by (Some n) → Leads n (win_deed wall ds seat target tile rest)
unfolding win_shown
win_leads n wall ds seat target tile rest h = omega arith

drawn_leads : (n : Deed) (ds : List Deed) (why : Reason) → 5 ≤ rest_by (Some n) → Leads n (drawn_hand ds why)
unfolding draw_shown
drawn_leads n ds why h = omega arith

draw_leads : (n : Deed) (walls : List (List ℕ)) (ds : List Deed) (seat : ℕ) → 5 ≤ rest_by (Some n) → Leads n (next_draw (wall_now walls ds) ds seat)
draw_leads n walls ds seat h = draw_or (Leads n) (wall_now walls ds) ds seat (drawn_leads n ds _ h) (λ _. omega arith)

call_leads : (n : Deed) (bid : Bid) → 5 ≤ rest_by (Some n) → IfAny (Leads n) (call_of_bid bid)
call_leads n bids.NoBid h = tt
call_leads n (bids.Chi seat target tile a b) h = omega arith
call_leads n (bids.Pon seat target tile a b) h = omega arith
call_leads n (bids.OpenKan seat target tile a b c) h = omega arith

accept_leads : (n : Deed) (ds : List Deed) (who : ℕ) (bid : Bid) → 5 ≤ rest_by (Some n) → Leads n (accept ds who bid)
unfolding accept
accept_leads n ds who bid h = omega arith

dora_leads : (n : Deed) (wall : List ℕ) (hs : List Deed) → 9 ≤ rest_by (Some n) → Leads n (next_dora wall hs)
unfolding next_dora
dora_leads n wall hs h = omega arith

replacement_leads : (n : Deed) (wall : List ℕ) (hs : List Deed) → 8 ≤ rest_by (Some n) → Leads n (next_replacement wall hs)
unfolding next_replacement
replacement_leads n wall hs h = omega arith

-- Who drew acts, and who reached or called discards.
act_leads : (n : Deed) (who : ℕ) (answer : Answer) → 7 ≤ rest_by (Some n) → IfAny (Leads n) (act_of who answer)
act_leads n who (answers.Discard actor tile drawn) h = one_passes (Leads n) (λ t. Discard who t drawn) tile (λ t. omega arith)
act_leads n who (answers.ClosedKan actor a b c d) h = four_pass (Leads n) (λ x y z w. ClosedKan who x y z w) a b c d (λ x y z w. omega arith)
act_leads n who (answers.AddedKan actor tile a b c) h = four_pass (Leads n) (λ t x y z. AddedKan who t x y z) tile a b c (λ t x y z. omega arith)
act_leads n who (answers.Reach actor) h = omega arith
act_leads n who other h = tt

discard_leads : (n : Deed) (who : ℕ) (answer : Answer) → 6 ≤ rest_by (Some n) → is_discard answer ≡ true → IfAny (Leads n) (act_of who answer)
discard_leads n who (answers.Discard actor tile drawn) h k = one_passes (Leads n) (λ t. Discard who t drawn) tile (λ t. omega arith)
discard_leads n who other h k = cc

winner_leads : (n : Deed) (wall : List ℕ) (ds : List Deed) (target tile : ℕ) (rest : List ℕ) → 2 + length rest ≤ rest_by (Some n) → Leads n (next_winner wall ds target tile rest)
winner_leads n wall ds target tile [] h = omega arith
winner_leads n wall ds target tile (seat ∷ rest) h = win_leads n wall ds seat target tile rest (omega arith)

three : (n : ℕ) → n ≤ 2 → 3 + n ≤ 5
three n h = omega arith

follower_leads : (rules : Rules) (walls : List (List ℕ)) (ds : List Deed) (given : Four Answer) (n : Deed) → newest ds ≡ Some n → has_seats n ≡ true → AllLawful rules ds given →
    IfAny (Leads n) (follows rules walls ds n (decision_by n given))
unfolding hand_start
follower_leads rules walls ds given (StartGame names) e seats c = tt
follower_leads rules walls ds given (StartHand round number honba lying dealer indicator hands) e seats c =
    draw_leads (StartHand round number honba lying dealer indicator hands) walls ds dealer (omega arith)
follower_leads rules walls ds given (Draw who tile replacement) e seats c =
    let n : Deed = Draw who tile replacement in
    won_or_acts (Leads n) (wall_now walls ds) ds n who (at_seat given who) (win_leads n (wall_now walls ds) ds who who tile [] (omega arith)) (drawn_leads n ds _ (omega arith))
    (act_leads n who (at_seat given who) (omega arith))
follower_leads rules walls ds given (Discard who tile drawn) e seats c =
    let n : Deed = Discard who tile drawn in
    won_few (Leads n) rules walls ds n (rons_on who given) (call_or_pass (best_bid given)) (rons_seated who given)
    (λ seat rest low others few. win_leads n (wall_now walls ds) ds seat who tile rest (three (length rest) few))
    (called_or_on (Leads n) rules walls ds who tile drawn (best_bid given)
    (behind_or (Leads n) rules (wall_now walls ds) ds who (best_bid given)
    (λ reached. accept_leads n ds who (best_bid given) (omega arith))
    (λ why. drawn_leads n ds why (omega arith)) (call_leads n (best_bid given) (omega arith)) (draw_leads n walls ds (next_seat who) (omega arith))))
follower_leads rules walls ds given (Chi who target tile a b) e seats c =
    let n : Deed = Chi who target tile a b in
    let opens = called_opens rules ds n who _ (at_seat given who) e refl (clean_at rules ds given who (first_seat who _ seats) c) in
    discards_only (Leads n) (wall_now walls ds) ds n who (at_seat given who) opens (discard_leads n who (at_seat given who) (omega arith) opens)
follower_leads rules walls ds given (Pon who target tile a b) e seats c =
    let n : Deed = Pon who target tile a b in
    let opens = called_opens rules ds n who _ (at_seat given who) e refl (clean_at rules ds given who (first_seat who _ seats) c) in
    discards_only (Leads n) (wall_now walls ds) ds n who (at_seat given who) opens (discard_leads n who (at_seat given who) (omega arith) opens)
follower_leads rules walls ds given (OpenKan who target tile a b d) e seats c = dora_leads (OpenKan who target tile a b d) (wall_now walls ds) (hand ds) (omega arith)
follower_leads rules walls ds given (ClosedKan who a b d x) e seats c = dora_leads (ClosedKan who a b d x) (wall_now walls ds) (hand ds) (omega arith)
follower_leads rules walls ds given (AddedKan who tile a b d) e seats c =
    let n : Deed = AddedKan who tile a b d in
    won_few (Leads n) rules walls ds n (rons_on who given) Pass (rons_seated who given)
    (λ seat rest low others few. win_leads n (wall_now walls ds) ds seat who tile rest (more (length rest) few))
    (dora_leads n (wall_now walls ds) (hand ds) (omega arith))
  where
    more : (n : ℕ) → n ≤ 2 → 3 + n ≤ 9
    more n h = omega arith
follower_leads rules walls ds given (Dora tile) e seats c = replacement_leads (Dora tile) (wall_now walls ds) (hand ds) (omega arith)
follower_leads rules walls ds given (Reach who) e seats c =
    let opens = reached_opens rules ds (Reach who) who (at_seat given who) e refl (clean_at rules ds given who (first_seat who _ seats) c) in
    discards_only (Leads (Reach who)) (wall_now walls ds) ds (Reach who) who (at_seat given who) opens (discard_leads (Reach who) who (at_seat given who) (omega arith) opens)
follower_leads rules walls ds given (ReachAccepted who said bid) e seats c =
    let n : Deed = ReachAccepted who said bid in
    unless (Leads n) rules ds (called_or_draw (wall_now walls ds) ds who bid) (λ why. drawn_leads n ds why (omega arith))
    (called_or (Leads n) (wall_now walls ds) ds who bid (call_leads n bid (omega arith)) (draw_leads n walls ds (next_seat who) (omega arith)))
follower_leads rules walls ds given (Win who target tile unders own yaku fu han value deltas said rest) e seats c =
    winner_leads (Win who target tile unders own yaku fu han value deltas said rest) (wall_now walls ds) ds target tile rest (omega arith)
follower_leads rules walls ds given (DrawnHand reason hands ready deltas said) e seats c = omega arith
follower_leads rules walls ds given EndHand e seats c = start_or_end (Leads EndHand) walls ds (standing_after (standing ds) (hand ds)) (λ next _. tt) (omega arith)
follower_leads rules walls ds given (EndGame said lying) e seats c = tt

-- how much the deeds of a hand can bring

made : List Deed → ℕ → ℕ
made hs seat = length (flat_map (makes_by seat) hs)

-- A chi or a pon is a meld of one of the four seats.
one_of_four : (who : ℕ) (meld : Meld) → who < 4 →
    1 ≤ length (cond (who == 0) (meld ∷ []) []) + length (cond (who == 1) (meld ∷ []) []) + length (cond (who == 2) (meld ∷ []) []) + length (cond (who == 3) (meld ∷ []) [])
one_of_four zero meld low = omega arith
one_of_four (suc zero) meld low = omega arith
one_of_four (suc (suc zero)) meld low = omega arith
one_of_four (suc (suc (suc zero))) meld low = omega arith
one_of_four (suc (suc (suc (suc n)))) meld low = absurd (omega (arith, low))

taken_makes : (d : Deed) → has_seats d ≡ true → cond (is_taken d) 1 0 ≤ length (makes_by 0 d) + length (makes_by 1 d) + length (makes_by 2 d) + length (makes_by 3 d)
taken_makes (Chi who target tile a b) h = one_of_four who _ (first_seat who _ h)
taken_makes (Pon who target tile a b) h = one_of_four who _ (first_seat who _ h)
taken_makes other h = omega arith

abbrev Melded : List Deed → Type 0
Melded hs = count_by is_taken hs ≤ made hs 0 + made hs 1 + made hs 2 + made hs 3

melded_more : (red : Bool) (hs : List Deed) (d : Deed) → Melded hs → Parts red hs d → Melded (hs ++ d ∷ [])
unfolding made
melded_more red hs d h p =
    sum _ _ _ _ _ (count_by is_taken hs) (made hs 0) (made hs 1) (made hs 2) (made hs 3) _ _ _ _ _ (sum_by_push (λ x. cond (is_taken x) 1 0) hs d)
    (length-more (makes_by 0) hs d) (length-more (makes_by 1) hs d) (length-more (makes_by 2) hs d) (length-more (makes_by 3) hs d) (taken_makes d p.seats) h
  where
    sum : (n' a' b' c' e' n a b c e m x y z w : ℕ) → n' ≡ n + m → a' ≡ a + x → b' ≡ b + y → c' ≡ c + z → e' ≡ e + w → m ≤ x + y + z + w → n ≤ a + b + c + e → n' ≤ a' + b' + c' + e'
    sum n' a' b' c' e' n a b c e m x y z w h i j k l o p = omega (arith, h, i, j, k, l, o, p)

taken_few : (red : Bool) (ds : List Deed) → all_fit red [] ds ≡ true → count_by is_taken (hand ds) ≤ 16
unfolding made
taken_few red ds fit =
    few _ _ _ _ _ _ _ _ _ (kept_in_hand Melded red ds (melded_more red) (omega arith) fit) (all_made 0) (all_made 1) (all_made 2) (all_made 3)
    (four_melds red ds 0 fit) (four_melds red ds 1 fit) (four_melds red ds 2 fit) (four_melds red ds 3 fit)
  where
    all_made : (seat : ℕ) → length (seat_melds (hand ds) seat) ≡ made (hand ds) seat
    all_made seat = length-map (flat_map (makes_by seat) (hand ds)) _

    few : (n a b c d x y z w : ℕ) → n ≤ a + b + c + d → x ≡ a → y ≡ b → z ≡ c → w ≡ d → x ≤ 4 → y ≤ 4 → z ≤ 4 → w ≤ 4 → n ≤ 16
    few n a b c d x y z w h e f g i j k l m = omega (arith, h, e, f, g, i, j, k, l, m)

-- A deposit is of a seat that was not in riichi before.
laid_more : (red : Bool) (hs : List Deed) (d : Deed) → count_by is_deposit hs ≤ riichis hs → Parts red hs d → count_by is_deposit (hs ++ d ∷ []) ≤ riichis (hs ++ d ∷ [])
laid_more red hs (ReachAccepted who said bid) h p =
    one _ _ _ _ (sum_by_push (λ x. cond (is_deposit x) 1 0) hs (ReachAccepted who said bid))
    (riichis_more hs (ReachAccepted who said bid) who (first_seat who _ p.seats) (λ seat. refl) (not-true (is_in_riichi hs who) p.once)) h
  where
    one : (n m r s : ℕ) → n ≡ m + 1 → s ≡ r + 1 → m ≤ r → n ≤ s
    one n m r s e f h = omega (arith, e, f, h)
laid_more red hs other h p = same _ _ _ _ (sum_by_push (λ x. cond (is_deposit x) 1 0) hs other) (riichis_stay hs other refl) h
  where
    same : (n m r s : ℕ) → n ≡ m + 0 → s ≡ r → m ≤ r → n ≤ s
    same n m r s e f h = omega (arith, e, f, h)

laid_few : (red : Bool) (ds : List Deed) → all_fit red [] ds ≡ true → count_by is_deposit (hand ds) ≤ 4
laid_few red ds fit = few _ _ (kept_in_hand (λ hs. count_by is_deposit hs ≤ riichis hs) red ds (laid_more red) (omega arith) fit) (riichis_most (hand ds))
  where
    few : (n r : ℕ) → n ≤ r → r ≤ 4 → n ≤ 4
    few n r h k = omega (arith, h, k)

counted_few : (red : Bool) (wall : List ℕ) (ds : List Deed) (stage : Stage) → all_fit red [] ds ≡ true → StandsAt wall (hand ds) stage → counted (hand ds) ≤ 254
counted_few red wall ds stage fit s = few _ _ _ _ s.live s.four (taken_few red ds fit) (laid_few red ds fit)
  where
    few : (a b c d : ℕ) → a + b ≤ 70 → b ≤ 4 → c ≤ 16 → d ≤ 4 → 3 * a + 5 * b + 2 * c + d ≤ 254
    few a b c d h i j k = omega (arith, h, i, j, k)

-- how long a hand and a game are

-- The newest hand has no more deeds than its deeds bring; before the first hand there is at most the start of the game, and the hands
-- before the newest one have at most 300 deeds each.
record Brief (ds : List Deed) : Type 0 where
  short : length (hand ds) + rest_by (newest ds) ≤ 6 + counted (hand ds)
  first : length (starts ds) ≡ 0 → length ds ≤ 1
  whole : 0 < length (starts ds) → length ds + 300 ≤ 1 + 300 * length (starts ds) + length (hand ds)

abbrev BriefWith : List Deed → Deed → Type 0
BriefWith ds d = Brief (ds ++ d ∷ [])

hand_few : (red : Bool) (wall : List ℕ) (ds : List Deed) (stage : Stage) → all_fit red [] ds ≡ true → StandsAt wall (hand ds) stage → Brief ds → length (hand ds) ≤ 300
hand_few red wall ds stage fit s b = few _ _ _ b.short (counted_few red wall ds stage fit s)
  where
    few : (n r c : ℕ) → n + r ≤ 6 + c → c ≤ 254 → n ≤ 300
    few n r c h k = omega (arith, h, k)

-- A hand starts.
start_brief : (ds : List Deed) (d : Deed) → is_hand_start d ≡ true → length (hand ds) ≤ 300 → Brief ds → BriefWith ds d
start_brief ds (StartHand round number honba lying dealer indicator hands) h few b = record {
  short = subst (λ (hs : List Deed). length hs + rest_by (newest (ds ++ d ∷ [])) ≤ 6 + counted hs) (sym (hand_more ds d))
      (subst (λ (o : Option Deed). 1 + rest_by o ≤ 6 + counted (d ∷ [])) (sym (newest_more ds d)) (omega arith));
  first = λ e. absurd (some _ _ (starts_more ds d) e);
  whole = λ _. by_starts (length (starts ds)) _ _ _ (length (hand ds)) _ (starts_more ds d) (length-append ds (d ∷ [])) (ap length (hand_more ds d)) b.first b.whole few;
}
  where
    d : Deed
    d = StartHand round number honba lying dealer indicator hands

    some : (n m : ℕ) → n ≡ m + 1 → n ≡ 0 → ⊥
    some n m e h = omega (arith, e, h)

    by_starts : (s s' n n' k k' : ℕ) → s' ≡ s + 1 → n' ≡ n + 1 → k' ≡ 1 → (s ≡ 0 → n ≤ 1) → (0 < s → n + 300 ≤ 1 + 300 * s + k) → k ≤ 300 → n' + 300 ≤ 1 + 300 * s' + k'
    by_starts zero s' n n' k k' e f g h i j = omega (arith, e, f, g, h refl)
    by_starts (suc s) s' n n' k k' e f g h i j = omega (arith, e, f, g, i (omega arith), j)
start_brief ds other h few b = cc

-- Any other deed comes after those of its hand.
more_brief : (ds : List Deed) (n d : Deed) → newest ds ≡ Some n → is_hand_start d ≡ false → (hand ds ≡ [] → ⊥) → 0 < length (starts ds) →
    1 + rest_by (Some d) ≤ rest_by (Some n) + weight d → Brief ds → BriefWith ds d
more_brief ds n d e within begun some leads b = record {
  short = sum _ _ _ _ (length (hand ds)) (rest_by (newest ds)) (rest_by (Some n)) (counted (hand ds)) (weight d)
      (ap length is ∙ length-append (hand ds) (d ∷ [])) (ap rest_by (newest_more ds d)) (ap rest_by e) (ap counted is ∙ counted_more (hand ds) d) leads b.short;
  first = λ h. absurd (none _ _ same h some);
  whole = λ _. grown _ _ _ _ _ _ same (length-append ds (d ∷ [])) (ap length is ∙ length-append (hand ds) (d ∷ [])) (b.whole some);
}
  where
    is : hand (ds ++ d ∷ []) ≡ hand ds ++ d ∷ []
    is = hand_is ds d (λ _ empty. begun empty) ∙ ap (λ (b : Bool). cond b [] (hand ds) ++ d ∷ []) within

    same : length (starts (ds ++ d ∷ [])) ≡ length (starts ds) + 0
    same = starts_more ds d ∙ ap (λ (b : Bool). length (starts ds) + cond b 1 0) within

    sum : (k' r' q c' k r q' c w : ℕ) → k' ≡ k + 1 → r' ≡ q → r ≡ q' → c' ≡ c + w → 1 + q ≤ q' + w → k + r ≤ 6 + c → k' + r' ≤ 6 + c'
    sum k' r' q c' k r q' c w e f g h i j = omega (arith, e, f, g, h, i, j)

    none : (s' s : ℕ) → s' ≡ s + 0 → s' ≡ 0 → 0 < s → ⊥
    none s' s e f h = omega (arith, e, f, h)

    grown : (s' s n' n k' k : ℕ) → s' ≡ s + 0 → n' ≡ n + 1 → k' ≡ k + 1 → n + 300 ≤ 1 + 300 * s + k → n' + 300 ≤ 1 + 300 * s' + k'
    grown s' s n' n k' k e f g h = omega (arith, e, f, g, h)

leads_brief : (red : Bool) (ds : List Deed) (n d : Deed) → all_fit red [] ds ≡ true → fits red ds d ≡ true → length (hand ds) ≤ 300 → newest ds ≡ Some n → Leads n d → Brief ds → BriefWith ds d
leads_brief red ds n (StartGame names) fit one few e leads b = absurd leads
leads_brief red ds n (StartHand round number honba lying dealer indicator hands) fit one few e leads b = start_brief ds _ refl few b
leads_brief red ds n other fit one few e leads b =
    let past = past_of ds other (parts_of red ds other one).place refl refl in
    more_brief ds n other e refl (some_hand red ds fit past) (some_starts red ds fit past) leads b

outcome_brief : (rules : Rules) (walls : List (List ℕ)) (ds : List Deed) (given : Four Answer) → IfAny (λ d. has_seats d ≡ true) (newest ds) →
    all_fit rules.red [] ds ≡ true → AllLawful rules ds given →
    length (hand ds) ≤ 300 → Brief ds → IfAny (λ d. fits rules.red ds d ≡ true → BriefWith ds d) (outcome rules walls ds given)
unfolding outcome
outcome_brief rules walls ds given seated fit c few b = by_newest (newest ds) refl seated
  where
    each : (n : Deed) (o : Option Deed) → newest ds ≡ Some n → IfAny (Leads n) o → IfAny (λ d. fits rules.red ds d ≡ true → BriefWith ds d) o
    each n None e h = tt
    each n (Some d) e h = λ one. leads_brief rules.red ds n d fit one few e h b

    by_newest : (o : Option Deed) → newest ds ≡ o → IfAny (λ d. has_seats d ≡ true) o →
        IfAny (λ d. fits rules.red ds d ≡ true → BriefWith ds d) (option_and_then (λ last. follows rules walls ds last (decision_by last given)) o)
    by_newest None e seats = tt
    by_newest (Some n) e seats = each n (follows rules walls ds n (decision_by n given)) e (follower_leads rules walls ds given n e seats c)

-- Nothing yet, and the start of a game.
nothing_brief : Brief []
unfolding hand
nothing_brief = record { short = omega arith; first = λ e. omega arith; whole = λ h. absurd (none h) }
  where
    none : 0 < 0 → ⊥
    none h = omega (arith, h)

game_brief : (d : Deed) → IsTrue (is_game_start d) → Brief (d ∷ [])
unfolding hand
game_brief (StartGame names) h = record { short = omega arith; first = λ e. omega arith; whole = λ h. absurd (none h) }
  where
    none : 0 < 0 → ⊥
    none h = omega (arith, h)
game_brief other h = cc

behind_brief : (rules : Rules) (walls : List (List ℕ)) (ds : List Deed) (d : Deed) → ((number : ℕ) → is_wall rules.red (wall_of walls number) ≡ true) → IsPlayed rules walls ds → Brief ds →
    IsPlayedBehind rules walls ds d → BriefWith ds d
behind_brief rules walls [] d h played b behind = game_brief d behind
behind_brief rules walls (first ∷ others) d h played b behind =
    let s = played_sound rules walls (first ∷ others) h played in
    subst (IfAny (λ d. fits rules.red (first ∷ others) d ≡ true → BriefWith (first ∷ others) d)) behind.gives
    (outcome_brief rules walls (first ∷ others) behind.given s.seated s.fit behind.lawful (hand_few rules.red _ (first ∷ others) _ s.fit s.standing b) b)
    (behind_fits rules walls (first ∷ others) d h played behind)

all_brief : (rules : Rules) (walls : List (List ℕ)) (before ds : List Deed) → ((number : ℕ) → is_wall rules.red (wall_of walls number) ≡ true) → IsPlayed rules walls before → Brief before →
    AllPlayed rules walls before ds → Brief (before ++ ds)
all_brief rules walls before [] h old b played = subst Brief (sym (append-nil before)) b
all_brief rules walls before (d ∷ ds) h old b played =
    subst Brief (append_assoc before (d ∷ []) ds)
    (all_brief rules walls (before ++ d ∷ []) ds h (played_more rules walls before d old played.0) (behind_brief rules walls before d h old b played.0) played.1)

-- In played deeds a hand has at most 300 deeds, and a game at most 60,002.
pub few_deeds : FewDeeds
few_deeds rules walls ds h played =
    let s = played_sound rules walls ds h played in
    let b = all_brief rules walls [] ds h tt nothing_brief played in
    let few = hand_few rules.red _ ds _ s.fit s.standing b in
    (few, all_few (length (starts ds)) _ _ b.first b.whole few (few_hands rules.red ds s.fit))
  where
    all_few : (s n k : ℕ) → (s ≡ 0 → n ≤ 1) → (0 < s → n + 300 ≤ 1 + 300 * s + k) → k ≤ 300 → s ≤ 200 → n ≤ 60002
    all_few zero n k h i j l = omega (arith, h refl)
    all_few (suc s) n k h i j l = omega (arith, i (omega arith), j, l)
