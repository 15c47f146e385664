-- A deed that follows, as a seat sees it, is what its token says beside the deeds before it as the seat sees them.
use Rattle.std.proofs.Common.{◌≡◌, ℕ, ◌+◌, ◌==◌, ◌&&◌, not, Bool, true, false, cond, List, [], ◌∷◌, length, refl, ap, sym, ◌∙◌, subst, replicate, eqb-true}
use Rattle.std.specs.Prelude.{Option, Some, None, option_map, option_and_then, unwrap_or}
use Rattle.std.specs.Option.{option_map_or}
use Rattle.mj_rounds.specs.declared.rounds.Standing.{Standing}
use Rattle.mj_rounds.specs.Rounds.{first_standing}
use Rattle.mj_deeds.specs.declared.four.Four.{Four}
use Rattle.mj_deeds.specs.declared.answer.Pai.{Pai}
use Rattle.mj_deeds.specs.declared.answer.Pai.TheVariants as pais
use Rattle.mj_deeds.specs.declared.answer.Answer.{Answer}
use Rattle.mj_deeds.specs.declared.answer.Answer.TheVariants as answers
use Rattle.mj_deeds.specs.declared.bid.Bid.{Bid}
use Rattle.mj_deeds.specs.declared.bid.Bid.TheVariants as bids
use Rattle.mj_deeds.specs.declared.reason.Reason.{Reason}
use Rattle.mj_deeds.specs.declared.reason.Reason.TheVariants as reasons
use Rattle.mj_deeds.specs.declared.deed.Deed.{Deed}
use Rattle.mj_deeds.specs.declared.deed.Deed.TheVariants as deeds
use Rattle.mj_deeds.specs.declared.token.Token.{Token}
use Rattle.mj_deeds.specs.declared.token.Token.TheVariants as tokens
use Rattle.mj_deeds.specs.Four.{at_seat, for_each_seat, next_seat}
use Rattle.mj_deeds.specs.Hand.{hand}
use Rattle.mj_deeds.specs.Facts.{newest, before_newest, live_draws, live_tiles}
use Rattle.mj_deeds.specs.Course.{is_reach}
use Rattle.mj_deeds.specs.Points.{points, deposits}
use Rattle.mj_deeds.specs.Ends.{standing_after}
use Rattle.mj_deeds.specs.Standings.{standing}
use Rattle.mj_deeds.specs.Reasons.{reason}
use Rattle.mj_wall.specs.declared.setting.Rules.{Rules}
use Rattle.mj_wall.specs.Places.{indicator_tile, live_tile}
use Rattle.mj_window.specs.Decided.{decision_by, best_bid, call_or_pass, rons_or, rons_on}
use Rattle.mj_window.specs.declared.decision.Decision.{Decision}
use Rattle.mj_window.specs.declared.decision.Decision.TheVariants.{Pass}
use Rattle.mj_rules.specs.Wins.{Shows, win_shown, win_deed}
use Rattle.mj_rules.specs.Draws.{hands_at_draw, draw_shown, drawn_hand}
use Rattle.mj_rules.specs.Outcome.{outcome, follows, wall_now, hand_start, next_draw, next_dora, next_replacement, act_of, own_act, of_one, of_two, of_three}
use Rattle.mj_rules.specs.Outcome.{of_four, wall_of, hand_dealt, accept, drawn_or, called_or_draw, behind_discard, next_winner, next_start, won_tile}
use Rattle.mj_view.specs.Tokens.{token}
use Rattle.mj_view.specs.Seen.{own_tile}
use Rattle.mj_deeds.proofs.Masked.{masked, all_masked, seen_or_blank, hands_masked, newest-masked, points-masked, deposits-masked}
use Rattle.mj_rules.proofs.MaskedView.{win_shown-masked, accept-masked, draw_shown-masked, next_standing-masked}

-- A new indicator is the newest deed.
abbrev pub after_dora : Option Deed → Bool
after_dora None = false
after_dora (Some (deeds.Dora tile)) = true
after_dora (Some other) = false

-- The own hand, or thirteen blanks.
abbrev pub known_or_blank : Bool → List ℕ → List ℕ
known_or_blank true own = own
known_or_blank false own = replicate 13 0

abbrev pub hands_known : ℕ → List ℕ → Four (List ℕ)
hands_known seat own = record {
  first = known_or_blank (seat == 0) own;
  second = known_or_blank (seat == 1) own;
  third = known_or_blank (seat == 2) own;
  fourth = known_or_blank (not (seat == 0) && not (seat == 1) && not (seat == 2)) own;
}

-- A start of a hand of a standing, as a seat sees it that has this hand.
abbrev pub start_known : ℕ → Standing → ℕ → ℕ → List ℕ → Deed
start_known seat now lying indicator own = deeds.StartHand now.round (now.dealer + 1) now.honba lying now.dealer indicator (hands_known seat own)

-- Right after the start of the game it is the first hand, and later the one that the hand before leads to.
abbrev pub start_rebuilt : ℕ → List Deed → Option Deed → ℕ → List ℕ → Deed
start_rebuilt seat before (Some (deeds.StartGame names)) indicator own = start_known seat first_standing 0 indicator own
start_rebuilt seat before other indicator own = start_known seat (unwrap_or (standing_after (standing before) (hand before)) first_standing) (deposits before) indicator own

-- The deed as a seat sees it, out of its token and the deeds before it as the seat sees them.
abbrev pub rebuilt : ℕ → List Deed → Token → Deed
rebuilt seat before (tokens.StartGame names) = deeds.StartGame names
rebuilt seat before (tokens.StartHand indicator own) = start_rebuilt seat before (newest before) indicator own
rebuilt seat before (tokens.Draw who tile) = deeds.Draw who (unwrap_or tile 0) (after_dora (newest before))
rebuilt seat before (tokens.Discard who tile drawn) = deeds.Discard who tile drawn
rebuilt seat before (tokens.Chi who target tile a b) = deeds.Chi who target tile a b
rebuilt seat before (tokens.Pon who target tile a b) = deeds.Pon who target tile a b
rebuilt seat before (tokens.OpenKan who target tile a b c) = deeds.OpenKan who target tile a b c
rebuilt seat before (tokens.ClosedKan who a b c d) = deeds.ClosedKan who a b c d
rebuilt seat before (tokens.AddedKan who tile a b c) = deeds.AddedKan who tile a b c
rebuilt seat before (tokens.Dora tile) = deeds.Dora tile
rebuilt seat before (tokens.Reach who) = deeds.Reach who
rebuilt seat before (tokens.ReachAccepted who) = accept before who bids.NoBid
rebuilt seat before (tokens.Win who target tile unders own) = win_shown before who target (record { own = own; tile = tile; unders = unders }) []
rebuilt seat before (tokens.DrawnHand reason hands) = draw_shown before reason hands
rebuilt seat before tokens.EndHand = deeds.EndHand
rebuilt seat before tokens.EndGame = deeds.EndGame (points before) (deposits before)

-- A deed is so told after deeds.
abbrev pub IsTold : ℕ → List Deed → Deed → Type 0
IsTold seat ds d = masked seat d ≡ rebuilt seat (all_masked seat ds) (token seat d)

-- each seat is dealt thirteen tiles of each wall, whoever the dealer
unfoldable pub DealsThirteen : List (List ℕ) → Type 0
DealsThirteen walls = (number dealer seat : ℕ) → length (hand_dealt (wall_of walls number) dealer seat) ≡ 13

blank_is_known : (b : Bool) (own other : List ℕ) → (b ≡ true → own ≡ other) → length other ≡ 13 → seen_or_blank b other ≡ known_or_blank b own
blank_is_known true own other same long = sym (same refl)
blank_is_known false own other same long = ap (λ (n : ℕ). replicate n 0) long

its_hand : (seat k : ℕ) (hands : Four (List ℕ)) → (seat == k) ≡ true → at_seat hands seat ≡ at_seat hands k
its_hand seat k hands h = ap (at_seat hands) (eqb-true seat k h)

last_hand : (a b c : Bool) (p q r s : List ℕ) → (not a && not b && not c) ≡ true → cond a p (cond b q (cond c r s)) ≡ s
last_hand true b c p q r s h = cc
last_hand false true c p q r s h = cc
last_hand false false true p q r s h = cc
last_hand false false false p q r s h = refl

-- The hands that a seat sees follow from its own, where each has thirteen tiles.
hands_told : (seat : ℕ) (hands : Four (List ℕ)) → length hands.first ≡ 13 → length hands.second ≡ 13 → length hands.third ≡ 13 → length hands.fourth ≡ 13 →
    hands_masked seat hands ≡ hands_known seat (at_seat hands seat)
hands_told seat hands a b c d =
    let own : List ℕ = at_seat hands seat in
    let p = blank_is_known (seat == 0) own hands.first (its_hand seat 0 hands) a in
    let q = blank_is_known (seat == 1) own hands.second (its_hand seat 1 hands) b in
    let r = blank_is_known (seat == 2) own hands.third (its_hand seat 2 hands) c in
    let s = blank_is_known (not (seat == 0) && not (seat == 1) && not (seat == 2)) own hands.fourth (last_hand (seat == 0) (seat == 1) (seat == 2)
    hands.first hands.second hands.third hands.fourth) d in
    λ i. record { first = p i; second = q i; third = r i; fourth = s i }

-- A start of a hand with a standing and deposits.
start_told : (seat : ℕ) (walls : List (List ℕ)) (number lying : ℕ) (now : Standing) → DealsThirteen walls →
    masked seat (hand_start (wall_of walls number) now lying)
    ≡ start_known seat now lying (indicator_tile (wall_of walls number) 0) (at_seat (for_each_seat (hand_dealt (wall_of walls number) now.dealer)) seat)
unfolding hand_start DealsThirteen
start_told seat walls number lying now h =
    ap (λ (hands : Four (List ℕ)). deeds.StartHand now.round (now.dealer + 1) now.honba lying now.dealer (indicator_tile (wall_of walls number) 0) hands)
    (hands_told seat (for_each_seat (hand_dealt (wall_of walls number) now.dealer)) (h number now.dealer 0) (h number now.dealer 1) (h number now.dealer 2) (h number now.dealer 3))

-- the first hand, right after the start of the game
first_told : (seat : ℕ) (walls : List (List ℕ)) (ds : List Deed) (names : Four (List ℕ)) → DealsThirteen walls → newest (all_masked seat ds) ≡ Some (deeds.StartGame names) →
    IsTold seat ds (hand_start (wall_of walls 0) first_standing 0)
unfolding hand_start
first_told seat walls ds names h e =
    start_told seat walls 0 0 first_standing h
    ∙ ap (λ (o : Option Deed). start_rebuilt seat (all_masked seat ds) o (indicator_tile (wall_of walls 0) 0)
    (at_seat (for_each_seat (hand_dealt (wall_of walls 0) first_standing.dealer)) seat)) (sym e)

-- the next hand, after the end of one, where the standing before it leads to one
next_told : (seat : ℕ) (walls : List (List ℕ)) (ds : List Deed) (next : Standing) → DealsThirteen walls → newest (all_masked seat ds) ≡ Some
    deeds.EndHand → standing_after (standing ds) (hand ds) ≡ Some next →
    IsTold seat ds (hand_start (wall_of walls next.hand) next (deposits ds))
unfolding hand_start
next_told seat walls ds next h e leads =
    let indicator : ℕ = indicator_tile (wall_of walls next.hand) 0 in
    let own : List ℕ = at_seat (for_each_seat (hand_dealt (wall_of walls next.hand) next.dealer)) seat in
    let seen : Some next ≡ standing_after (standing (all_masked seat ds)) (hand (all_masked seat ds)) = sym leads ∙ next_standing-masked seat ds in
    start_told seat walls next.hand (deposits ds) next h
    ∙ (λ i. start_known seat (unwrap_or (seen i) first_standing) (deposits-masked seat ds i) indicator own)
    ∙ ap (λ (o : Option Deed). start_rebuilt seat (all_masked seat ds) o indicator own) (sym e)

-- the end of the game
end_told : (seat : ℕ) (ds : List Deed) → IsTold seat ds (deeds.EndGame (points ds) (deposits ds))
end_told seat ds = λ i. deeds.EndGame (points-masked seat ds i) (deposits-masked seat ds i)

next_start_is_told : (seat : ℕ) (walls : List (List ℕ)) (ds : List Deed) (o : Option Standing) → DealsThirteen walls →
    newest (all_masked seat ds) ≡ Some deeds.EndHand → standing_after (standing ds) (hand ds) ≡ o →
    IsTold seat ds (next_start walls ds o)
next_start_is_told seat walls ds None h e leads = end_told seat ds
next_start_is_told seat walls ds (Some next) h e leads = next_told seat walls ds next h e leads

known_tile : (b : Bool) (tile : ℕ) → cond b tile 0 ≡ unwrap_or (own_tile b tile) 0
known_tile true tile = refl
known_tile false tile = refl

draw_told : (seat : ℕ) (ds : List Deed) (who tile : ℕ) (replacement : Bool) → after_dora (newest (all_masked seat ds)) ≡ replacement → IsTold seat ds (deeds.Draw who tile replacement)
draw_told seat ds who tile replacement e = λ i. deeds.Draw who (known_tile (who == seat) tile i) (sym e i)

accept_told : (seat : ℕ) (ds : List Deed) (who : ℕ) (bid : Bid) → IsTold seat ds (accept ds who bid)
unfolding accept
accept_told seat ds who bid = accept-masked seat who bids.NoBid ds

win_told : (seat : ℕ) (ds : List Deed) (who target : ℕ) (shows : Shows) (rest : List ℕ) → IsTold seat ds (win_shown ds who target shows rest)
unfolding win_shown
win_told seat ds who target shows rest = win_shown-masked seat who target shows [] ds

drawn_told : (seat : ℕ) (ds : List Deed) (reason : Reason) → IsTold seat ds (drawn_hand ds reason)
unfolding draw_shown
drawn_told seat ds reason = draw_shown-masked seat reason (hands_at_draw reason (hand ds)) ds

some_is : {A : Type 0} (a b : A) → Some a ≡ Some b → a ≡ b
some_is a b h = cc

-- what comes is told where all that may come is
unfoldable pub Only : ℕ → List Deed → Option Deed → Type 0
Only seat ds o = (d : Deed) → o ≡ Some d → IsTold seat ds d

pub only_none : (seat : ℕ) (ds : List Deed) → Only seat ds None
unfolding Only
only_none seat ds = λ d h. cc

pub only_some : (seat : ℕ) (ds : List Deed) (a : Deed) → IsTold seat ds a → Only seat ds (Some a)
unfolding Only
only_some seat ds a c = λ d h. subst (IsTold seat ds) (some_is a d h) c

pub by_choice : (seat : ℕ) (ds : List Deed) (b : Bool) (o p : Option Deed) → Only seat ds o → Only seat ds p → Only seat ds (cond b o p)
by_choice seat ds true o p f g = f
by_choice seat ds false o p f g = g

told_by_choice : (seat : ℕ) (ds : List Deed) (b : Bool) (d e : Deed) → IsTold seat ds d → IsTold seat ds e → IsTold seat ds (cond b d e)
told_by_choice seat ds true d e h k = h
told_by_choice seat ds false d e h k = k

next_draw_is_told : (seat : ℕ) (ds : List Deed) (wall : List ℕ) (who : ℕ) → after_dora (newest (all_masked seat ds)) ≡ false → IsTold seat ds (next_draw wall ds who)
unfolding next_draw
next_draw_is_told seat ds wall who h =
    told_by_choice seat ds (live_tiles (hand ds) == 0) (drawn_hand ds reasons.Fanpai) (deeds.Draw who (live_tile wall (live_draws (hand ds))) false)
    (drawn_told seat ds reasons.Fanpai) (draw_told seat ds who _ false h)

-- deeds whose tiles an answer names
one_is_told : (seat : ℕ) (ds : List Deed) (make : ℕ → Deed) (a : Pai) → ((x : ℕ) → IsTold seat ds (make x)) → Only seat ds (of_one make a)
one_is_told seat ds make pais.Hidden c = only_none seat ds
one_is_told seat ds make (pais.Known x) c = only_some seat ds (make x) (c x)

two_are_told : (seat : ℕ) (ds : List Deed) (make : ℕ → ℕ → Deed) (a b : Pai) → ((x y : ℕ) → IsTold seat ds (make x y)) → Only seat ds (of_two make a b)
two_are_told seat ds make pais.Hidden b c = only_none seat ds
two_are_told seat ds make (pais.Known x) b c = one_is_told seat ds (make x) b (c x)

three_are_told : (seat : ℕ) (ds : List Deed) (make : ℕ → ℕ → ℕ → Deed) (a b c : Pai) → ((x y z : ℕ) → IsTold seat ds (make x y z)) → Only seat ds (of_three make a b c)
three_are_told seat ds make pais.Hidden b c k = only_none seat ds
three_are_told seat ds make (pais.Known x) b c k = two_are_told seat ds (make x) b c (k x)

four_are_told : (seat : ℕ) (ds : List Deed) (make : ℕ → ℕ → ℕ → ℕ → Deed) (a b c d : Pai) → ((x y z w : ℕ) → IsTold seat ds (make x y z w)) → Only seat ds (of_four make a b c d)
four_are_told seat ds make pais.Hidden b c d k = only_none seat ds
four_are_told seat ds make (pais.Known x) b c d k = three_are_told seat ds (make x) b c d (k x)

act_is_told : (seat : ℕ) (ds : List Deed) (who : ℕ) (answer : Answer) → Only seat ds (act_of who answer)
act_is_told seat ds who (answers.Discard actor tile drawn) = one_is_told seat ds (λ t. deeds.Discard who t drawn) tile (λ t. refl)
act_is_told seat ds who (answers.ClosedKan actor a b c d) = four_are_told seat ds (λ x y z w. deeds.ClosedKan who x y z w) a b c d (λ x y z w. refl)
act_is_told seat ds who (answers.AddedKan actor tile a b c) = four_are_told seat ds (λ t x y z. deeds.AddedKan who t x y z) tile a b c (λ t x y z. refl)
act_is_told seat ds who (answers.Reach actor) = only_some seat ds (deeds.Reach who) refl
act_is_told seat ds who other = only_none seat ds

own_act_is_told : (seat : ℕ) (ds : List Deed) (wall : List ℕ) (last : Deed) (who : ℕ) (answer : Answer) → Only seat ds (own_act wall ds last who answer)
own_act_is_told seat ds wall last who (answers.Win actor target tile) = only_some seat ds (win_deed wall ds who who (won_tile last) []) (win_told seat ds who who _ [])
own_act_is_told seat ds wall last who (answers.NineKinds actor) = only_some seat ds (drawn_hand ds reasons.Kyushukyuhai) (drawn_told seat ds reasons.Kyushukyuhai)
own_act_is_told seat ds wall last who other = act_is_told seat ds who other

any_bid_is_told : (seat : ℕ) (ds : List Deed) (wall : List ℕ) (who : ℕ) (bid : Bid) → after_dora (newest (all_masked seat ds)) ≡ false → IsTold seat ds (called_or_draw wall ds who bid)
any_bid_is_told seat ds wall who bids.NoBid h = next_draw_is_told seat ds wall (next_seat who) h
any_bid_is_told seat ds wall who (bids.Chi s target tile x y) h = refl
any_bid_is_told seat ds wall who (bids.Pon s target tile x y) h = refl
any_bid_is_told seat ds wall who (bids.OpenKan s target tile x y z) h = refl

drawn_or_is_told : (seat : ℕ) (ds : List Deed) (rules : Rules) (d : Deed) → IsTold seat ds d → IsTold seat ds (drawn_or rules ds d)
drawn_or_is_told seat ds rules d c = by_reason (reason rules.draws (hand ds))
  where
    by_reason : (o : Option Reason) → IsTold seat ds (option_map_or (drawn_hand ds) o d)
    by_reason None = c
    by_reason (Some why) = drawn_told seat ds why

behind_discard_is_told : (seat : ℕ) (ds : List Deed) (rules : Rules) (wall : List ℕ) (who : ℕ) (bid : Bid) → after_dora (newest (all_masked seat ds))
    ≡ false → IsTold seat ds (behind_discard rules wall ds who bid)
behind_discard_is_told seat ds rules wall who bid h =
    told_by_choice seat ds (option_map_or is_reach (before_newest (hand ds)) false) (accept ds who bid) (drawn_or rules ds (called_or_draw wall ds who bid))
    (accept_told seat ds who bid) (drawn_or_is_told seat ds rules (called_or_draw wall ds who bid) (any_bid_is_told seat ds wall who bid h))

rons_are_told : (seat : ℕ) (ds : List Deed) (rules : Rules) (walls : List (List ℕ)) (last : Deed) (winners : List ℕ) (other : Decision) →
    Only seat ds (follows rules walls ds last other) → Only seat ds (follows rules walls ds last (rons_or winners other))
rons_are_told seat ds rules walls last [] other c = c
rons_are_told seat ds rules walls last (w ∷ ws) other c = only_some seat ds _ (win_told seat ds w _ _ _)

call_is_told : (seat : ℕ) (ds : List Deed) (rules : Rules) (walls : List (List ℕ)) (who tile : ℕ) (drawn : Bool) (bid : Bid) → after_dora (newest (all_masked seat ds)) ≡ false →
    Only seat ds (follows rules walls ds (deeds.Discard who tile drawn) (call_or_pass bid))
call_is_told seat ds rules walls who tile drawn bids.NoBid h = only_some seat ds _ (behind_discard_is_told seat ds rules (wall_now walls ds) who bids.NoBid h)
call_is_told seat ds rules walls who tile drawn (bids.Chi s target t x y) h = only_some seat ds _ (behind_discard_is_told seat ds rules (wall_now walls ds) who (bids.Chi s target t x y) h)
call_is_told seat ds rules walls who tile drawn (bids.Pon s target t x y) h = only_some seat ds _ (behind_discard_is_told seat ds rules (wall_now walls ds) who (bids.Pon s target t x y) h)
call_is_told seat ds rules walls who tile drawn (bids.OpenKan s target t x y z) h = only_some seat ds _ (behind_discard_is_told seat ds rules (wall_now walls ds) who (bids.OpenKan s target t x y z) h)

dora_is_told : (seat : ℕ) (ds : List Deed) (wall : List ℕ) (hs : List Deed) → IsTold seat ds (next_dora wall hs)
unfolding next_dora
dora_is_told seat ds wall hs = refl

replacement_is_told : (seat : ℕ) (ds : List Deed) (wall : List ℕ) (hs : List Deed) → after_dora (newest (all_masked seat ds)) ≡ true → IsTold seat ds (next_replacement wall hs)
unfolding next_replacement
replacement_is_told seat ds wall hs h = draw_told seat ds _ _ true h

next_winner_is_told : (seat : ℕ) (ds : List Deed) (wall : List ℕ) (target tile : ℕ) (rest : List ℕ) → IsTold seat ds (next_winner wall ds target tile rest)
next_winner_is_told seat ds wall target tile [] = refl
next_winner_is_told seat ds wall target tile (who ∷ rest) = win_told seat ds who target _ rest

follower_is_told : (seat : ℕ) (rules : Rules) (walls : List (List ℕ)) (ds : List Deed) (given : Four Answer) (n : Deed) → DealsThirteen walls → newest (all_masked seat ds) ≡ Some (masked seat n) →
    Only seat ds (follows rules walls ds n (decision_by n given))
follower_is_told seat rules walls ds given (deeds.StartGame names) t e = only_some seat ds _ (first_told seat walls ds names t e)
follower_is_told seat rules walls ds given (deeds.StartHand round number honba deposits dealer indicator hands) t e =
    only_some seat ds _ (next_draw_is_told seat ds (wall_now walls ds) dealer (ap after_dora e))
follower_is_told seat rules walls ds given (deeds.Draw who tile replacement) t e = own_act_is_told seat ds (wall_now walls ds) (deeds.Draw who tile replacement) who (at_seat given who)
follower_is_told seat rules walls ds given (deeds.Discard who tile drawn) t e =
    rons_are_told seat ds rules walls (deeds.Discard who tile drawn) (rons_on who given) (call_or_pass (best_bid given))
    (call_is_told seat ds rules walls who tile drawn (best_bid given) (ap after_dora e))
follower_is_told seat rules walls ds given (deeds.Chi who target tile a b) t e = own_act_is_told seat ds (wall_now walls ds) (deeds.Chi who target tile a b) who (at_seat given who)
follower_is_told seat rules walls ds given (deeds.Pon who target tile a b) t e = own_act_is_told seat ds (wall_now walls ds) (deeds.Pon who target tile a b) who (at_seat given who)
follower_is_told seat rules walls ds given (deeds.OpenKan who target tile a b c) t e = only_some seat ds _ (dora_is_told seat ds (wall_now walls ds) (hand ds))
follower_is_told seat rules walls ds given (deeds.ClosedKan who a b c d) t e = only_some seat ds _ (dora_is_told seat ds (wall_now walls ds) (hand ds))
follower_is_told seat rules walls ds given (deeds.AddedKan who tile a b c) t e =
    rons_are_told seat ds rules walls (deeds.AddedKan who tile a b c) (rons_on who given) Pass (only_some seat ds _ (dora_is_told seat ds (wall_now walls ds) (hand ds)))
follower_is_told seat rules walls ds given (deeds.Dora tile) t e = only_some seat ds _ (replacement_is_told seat ds (wall_now walls ds) (hand ds) (ap after_dora e))
follower_is_told seat rules walls ds given (deeds.Reach who) t e = own_act_is_told seat ds (wall_now walls ds) (deeds.Reach who) who (at_seat given who)
follower_is_told seat rules walls ds given (deeds.ReachAccepted who points bid) t e =
    only_some seat ds _ (drawn_or_is_told seat ds rules _ (any_bid_is_told seat ds (wall_now walls ds) who bid (ap after_dora e)))
follower_is_told seat rules walls ds given (deeds.Win who target tile unders own yaku fu han value deltas points rest) t e =
    only_some seat ds _ (next_winner_is_told seat ds (wall_now walls ds) target tile rest)
follower_is_told seat rules walls ds given (deeds.DrawnHand reason hands ready deltas points) t e = only_some seat ds deeds.EndHand refl
follower_is_told seat rules walls ds given deeds.EndHand t e = only_some seat ds _ (next_start_is_told seat walls ds (standing_after (standing ds) (hand ds)) t e refl)
follower_is_told seat rules walls ds given (deeds.EndGame points deposits) t e = only_none seat ds

outcome_by : (seat : ℕ) (rules : Rules) (walls : List (List ℕ)) (ds : List Deed) (given : Four Answer) (o : Option Deed) → DealsThirteen walls →
    newest (all_masked seat ds) ≡ option_map (masked seat) o →
    Only seat ds (option_and_then (λ last. follows rules walls ds last (decision_by last given)) o)
outcome_by seat rules walls ds given None t e = only_none seat ds
outcome_by seat rules walls ds given (Some n) t e = follower_is_told seat rules walls ds given n t e

-- Whatever four answers give, it is told so.
pub outcome_is_told : (seat : ℕ) (rules : Rules) (walls : List (List ℕ)) (ds : List Deed) (given : Four Answer) → DealsThirteen walls → Only seat ds (outcome rules walls ds given)
unfolding outcome
outcome_is_told seat rules walls ds given t = outcome_by seat rules walls ds given (newest ds) t (newest-masked seat ds)

-- A deed that follows by four answers, as a seat sees it, comes out of its token and the deeds before it as the seat sees them.
pub masked_is_rebuilt : (seat : ℕ) (rules : Rules) (walls : List (List ℕ)) (ds : List Deed) (given : Four Answer) (d : Deed) → DealsThirteen walls → outcome rules walls ds given ≡ Some d →
    masked seat d ≡ rebuilt seat (all_masked seat ds) (token seat d)
unfolding Only
masked_is_rebuilt seat rules walls ds given d t h = outcome_is_told seat rules walls ds given t d h
