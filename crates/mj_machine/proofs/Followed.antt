-- Whoever wins by what is decided after played deeds has what a win asks for.
use Rattle.std.proofs.Common.{◌≡◌, ℕ, suc, ◌+◌, ◌-◌, ◌%◌, ◌<◌, ◌≤◌, ◌==◌, not, Bool, true, false, cond, List, [], ◌∷◌, length, refl, ap, sym, ◌∙◌, subst, arith}
use Rattle.std.specs.Prelude.{ℤ, Some, nat_lt, filter, slice_get}
use Rattle.std.specs.List.{list_all}
use Rattle.std.proofs.lemmas.Bool.{and_from, and_parts, ne_eqb, eq-eqb}
use Rattle.mj_deeds.specs.declared.four.Four.{Four}
use Rattle.mj_deeds.specs.declared.answer.Answer.{Answer}
use Rattle.mj_deeds.specs.declared.answer.Answer.TheVariants as answers
use Rattle.mj_deeds.specs.declared.bid.Bid.{Bid}
use Rattle.mj_deeds.specs.declared.bid.Bid.TheVariants as bids
use Rattle.mj_deeds.specs.declared.deed.Deed.{Deed}
use Rattle.mj_deeds.specs.declared.deed.Deed.TheVariants.{Draw, Discard, Chi, Pon, AddedKan, Reach, Win}
use Rattle.mj_deeds.specs.Course.{before_wins, is_offer}
use Rattle.mj_deeds.specs.Facts.{newest}
use Rattle.mj_deeds.specs.Fits.{all_fit, is_in_hand, has_seats}
use Rattle.mj_deeds.specs.Four.{at_seat}
use Rattle.mj_deeds.specs.Hand.{hand}
use Rattle.mj_deeds.specs.Points.{is_win}
use Rattle.mj_deeds.proofs.Fitted.{hand_begun}
use Rattle.mj_table.proofs.InHand.{newest_in_hand}
use Rattle.mj_wall.specs.declared.setting.Rules.{Rules}
use Rattle.mj_wall.specs.Places.{is_wall}
use Rattle.mj_window.specs.Decided.{decision_by, best_bid, call_or_pass, seats_after, rons_on, rons_or, is_win as wins}
use Rattle.mj_window.specs.declared.decision.Decision.{Decision}
use Rattle.mj_window.specs.declared.decision.Decision.TheVariants.{Pass}
use Rattle.mj_rules.specs.Broken.{is_discard}
use Rattle.mj_rules.specs.Outcome.{won_tile, seat_of, wall_of}
use Rattle.mj_rules.specs.Played.{AllLawful, IsPlayed}
use Rattle.mj_rules.specs.Wins.{is_draw}
use Rattle.mj_rules.proofs.Answered.{IfAny, clean_at}
use Rattle.mj_rules.proofs.Kept.{first_seat}
use Rattle.mj_rules.proofs.Turns.{called_opens, reached_opens, rons_seated}
use Rattle.mj_machine.specs.Inner.Steps.{CanWin, CanWinBy, CanFollow}
use Rattle.mj_rules.proofs.Balance.{Offered, winners_wait, winners_apart}
use Rattle.mj_rules.proofs.Playing.{played_sound}
use Rattle.mj_machine.proofs.Few.{FewWin, played_few}

-- the deed that gives the tile

some_is : (a b : Deed) → Some a ≡ Some b → a ≡ b
some_is a b e = cc

further : (d x : Deed) (xs : List Deed) → newest (d ∷ x ∷ xs) ≡ newest (x ∷ xs)
further d x xs = ap (slice_get (d ∷ x ∷ xs)) (one_less (suc (length xs))) ∙ sym (ap (slice_get (x ∷ xs)) (one_less (length xs)))
  where
    one_less : (n : ℕ) → suc n - 1 ≡ n
    one_less n = omega arith

-- A newest deed that is no win is the newest one before the winners.
newest_stays : (hs : List Deed) (n : Deed) → newest hs ≡ Some n → is_win n ≡ false → newest (before_wins hs) ≡ Some n
newest_stays [] n e f = cc
newest_stays (x ∷ []) n e f = ap (λ b. newest (cond (not b) (x ∷ []) [])) (ap is_win (some_is x n e) ∙ f) ∙ e
newest_stays (x ∷ y ∷ ys) n e f = by_test (is_win x) (before_wins (y ∷ ys)) (newest_stays (y ∷ ys) n (sym (further x y ys) ∙ e) f)
  where
    by_test : (b : Bool) (bs : List Deed) → newest bs ≡ Some n → newest (cond (not b) (x ∷ bs) bs) ≡ Some n
    by_test true bs h = h
    by_test false [] h = cc
    by_test false (z ∷ zs) h = further x z zs ∙ h

giver_is : (red : Bool) (ds : List Deed) (n : Deed) → all_fit red [] ds ≡ true → newest ds ≡ Some n → is_in_hand (Some n) ≡ true → is_win n ≡ false → newest (before_wins (hand ds)) ≡ Some n
giver_is red ds n fit e begun f = by_hand (hand ds) refl
  where
    by_hand : (hs : List Deed) → hand ds ≡ hs → newest (before_wins (hand ds)) ≡ Some n
    by_hand [] k = absurd (hand_begun red ds fit (ap is_in_hand e ∙ begun) k)
    by_hand (x ∷ xs) k = ap (λ (hs : List Deed). newest (before_wins hs)) k ∙ newest_stays (x ∷ xs) n (newest_in_hand ds x xs k ∙ e) f

-- the winners on a tile

others_only : (p q : ℕ → Bool) (xs : List ℕ) → list_all q xs ≡ true → list_all q (filter p xs) ≡ true
others_only p q [] h = refl
others_only p q (x ∷ xs) h =
    let parts = and_parts (q x) (list_all q xs) h in
    by_test (p x) parts.0 (others_only p q xs parts.1)
  where
    by_test : (b : Bool) → q x ≡ true → list_all q (filter p xs) ≡ true → list_all q (cond b (x ∷ filter p xs) (filter p xs)) ≡ true
    by_test true k l = and_from (q x) _ k l
    by_test false k l = l

-- They are others than the seat that gave it.
rons_of_others : (who : ℕ) (given : Four Answer) → who < 4 → list_all (λ other. not (other == who)) (rons_on who given) ≡ true
rons_of_others who given low =
    others_only (λ other. wins (at_seat given other)) (λ other. not (other == who)) (seats_after who)
    (and_from _ _ (other ((who + 1) % 4) (first who low)) (and_from _ _ (other ((who + 2) % 4) (second who low)) (and_from _ true (other ((who + 3) % 4) (third who low)) refl)))
  where
    other : (seat : ℕ) → (seat ≡ who → ⊥) → not (seat == who) ≡ true
    other seat ne = ap not (ne_eqb seat who ne)

    first : (n : ℕ) → n < 4 → (n + 1) % 4 ≡ n → ⊥
    first n h e = omega arith

    second : (n : ℕ) → n < 4 → (n + 2) % 4 ≡ n → ⊥
    second n h e = omega arith

    third : (n : ℕ) → n < 4 → (n + 3) % 4 ≡ n → ⊥
    third n h e = omega arith

seat_most : (seat : ℕ) → seat < 4 → seat ≤ 3
seat_most seat h = omega arith

offers : (d : Deed) → is_offer d ≡ true → is_draw (Some d) ≡ false
offers (Discard who tile drawn) h = refl
offers (AddedKan who tile a b c) h = refl
offers other h = cc

-- A seat that wins on the tile of another.
can_ron : (ds : List Deed) (giver : Deed) (seat : ℕ) → FewWin (before_wins (hand ds)) → newest (before_wins (hand ds)) ≡ Some giver →
    is_offer giver ≡ true → seat_of giver < 4 → seat < 4 → not (seat == seat_of giver) ≡ true →
    CanWin ds seat (seat_of giver) (won_tile giver)
can_ron ds giver seat few e offer there low other =
    let differ = apart (seat_of giver) seat other in
    record { winner = seat_most seat low; giver = seat_most (seat_of giver) there; others = λ h. differ; few = few.offered giver seat e offer low differ }
  where
    apart : (a b : ℕ) → not (b == a) ≡ true → b ≡ a → ⊥
    apart a b h same = no (sym (ap not (eq-eqb b a same)) ∙ h)
      where
        no : false ≡ true → ⊥
        no h = cc

-- A seat that wins on its own draw.
can_draw : (ds : List Deed) (who tile : ℕ) (replacement : Bool) → FewWin (before_wins (hand ds)) → newest (before_wins (hand ds)) ≡ Some (Draw who tile replacement) → who < 4 → CanWin ds who who tile
can_draw ds who tile replacement few e low =
    record { winner = seat_most who low; giver = seat_most who low; others = λ h. absurd (no (sym (ap is_draw e) ∙ h)); few = few.drawn who tile replacement e }
  where
    no : true ≡ false → ⊥
    no h = cc

-- The first of the winners, where there is one, or what is decided otherwise.
ron_can : (ds : List Deed) (n : Deed) (seats : List ℕ) (other : Decision) → list_all (λ seat. nat_lt seat 4) seats ≡ true → list_all (λ seat. not (seat == seat_of n)) seats ≡ true →
    ((seat : ℕ) → seat < 4 → not (seat == seat_of n) ≡ true → CanWin ds seat (seat_of n) (won_tile n)) → CanFollow ds n other → CanFollow ds n (rons_or seats other)
ron_can ds n [] other low apart f g = g
ron_can ds n (seat ∷ seats) other low apart f g =
    f seat (first_seat seat _ low) (and_parts (not (seat == seat_of n)) (list_all (λ s. not (s == seat_of n)) seats) apart).0

-- A discard that is called, or not.
call_can : (ds : List Deed) (who tile : ℕ) (drawn : Bool) (bid : Bid) → CanFollow ds (Discard who tile drawn) (call_or_pass bid)
call_can ds who tile drawn bids.NoBid = tt
call_can ds who tile drawn (bids.Chi seat target t a b) = tt
call_can ds who tile drawn (bids.Pon seat target t a b) = tt
call_can ds who tile drawn (bids.OpenKan seat target t a b c) = tt

-- Who reached or called only discards.
discard_can : (ds : List Deed) (n : Deed) (who : ℕ) (answer : Answer) → is_discard answer ≡ true → CanWinBy ds n who answer
discard_can ds n who (answers.Win actor target tile) h = cc
discard_can ds n who other h = tt

draw_can : (ds : List Deed) (who tile : ℕ) (replacement : Bool) (answer : Answer) → CanWin ds who who tile → CanWinBy ds (Draw who tile replacement) who answer
draw_can ds who tile replacement (answers.Win actor target won) h = h
draw_can ds who tile replacement other h = tt

next_can : (ds : List Deed) (target tile seat : ℕ) → FewWin (before_wins (hand ds)) → target < 4 → seat < 4 → not (seat == target) ≡ true → Offered ds target tile → CanWin ds seat target tile
next_can ds target tile seat few there low other o =
    subst (λ t. CanWin ds seat target t) o.tile
    (subst (λ t. CanWin ds seat t (won_tile o.deed)) o.seat
    (can_ron ds o.deed seat few o.last o.offer (subst (λ t. t < 4) (sym o.seat) there) low (subst (λ t. not (seat == t) ≡ true) (sym o.seat) other)))

-- What is known of played deeds.
record Passed (ds : List Deed) : Type 0 where
  given : (n : Deed) → newest ds ≡ Some n → is_in_hand (Some n) ≡ true → is_win n ≡ false → newest (before_wins (hand ds)) ≡ Some n
  apart : (who target tile : ℕ) (unders own : List ℕ) (yaku : List (ℕ × ℕ)) (fu han value : ℕ) (deltas said : List ℤ) (rest : List ℕ) →
      newest ds ≡ Some (Win who target tile unders own yaku fu han value deltas said rest) →
      list_all (λ seat. not (seat == target)) rest ≡ true
  offered : (who target tile : ℕ) (unders own : List ℕ) (yaku : List (ℕ × ℕ)) (fu han value : ℕ) (deltas said : List ℤ) (next : ℕ) (rest : List ℕ) →
      newest ds ≡ Some (Win who target tile unders own yaku fu han value deltas said (next ∷ rest)) → Offered ds target tile
  few : FewWin (before_wins (hand ds))

follower_can : (rules : Rules) (ds : List Deed) (given : Four Answer) (n : Deed) → newest ds ≡ Some n → has_seats n ≡ true → Passed ds → AllLawful rules ds given → CanFollow ds n (decision_by n given)
follower_can rules ds given (Draw who tile replacement) e s p c =
    draw_can ds who tile replacement (at_seat given who) (can_draw ds who tile replacement p.few (p.given (Draw who tile replacement) e refl refl) (first_seat who true s))
follower_can rules ds given (Discard who tile drawn) e s p c =
    ron_can ds (Discard who tile drawn) (rons_on who given) (call_or_pass (best_bid given)) (rons_seated who given) (rons_of_others who given (first_seat who true s))
    (λ seat low other. can_ron ds (Discard who tile drawn) seat p.few (p.given (Discard who tile drawn) e refl refl) refl (first_seat who true s) low
    other) (call_can ds who tile drawn (best_bid given))
follower_can rules ds given (AddedKan who tile x y z) e s p c =
    ron_can ds (AddedKan who tile x y z) (rons_on who given) Pass (rons_seated who given) (rons_of_others who given (first_seat who true s))
    (λ seat low other. can_ron ds (AddedKan who tile x y z) seat p.few (p.given (AddedKan who tile x y z) e refl refl) refl (first_seat who true s) low other) tt
follower_can rules ds given (Chi who target tile x y) e s p c =
    discard_can ds (Chi who target tile x y) who (at_seat given who) (called_opens rules ds (Chi who target tile x y) who _ (at_seat given who) e refl
    (clean_at rules ds given who (first_seat who _ s) c))
follower_can rules ds given (Pon who target tile x y) e s p c =
    discard_can ds (Pon who target tile x y) who (at_seat given who) (called_opens rules ds (Pon who target tile x y) who _ (at_seat given who) e refl
    (clean_at rules ds given who (first_seat who _ s) c))
follower_can rules ds given (Reach who) e s p c =
    discard_can ds (Reach who) who (at_seat given who) (reached_opens rules ds (Reach who) who (at_seat given who) e refl (clean_at rules ds given who (first_seat who true s) c))
follower_can rules ds given (Win who target tile unders own yaku fu han value deltas points []) e s p c = tt
follower_can rules ds given (Win who target tile unders own yaku fu han value deltas points (next ∷ rest)) e s p c =
    let q = and_parts (nat_lt who 4) (list_all (λ seat. nat_lt seat 4) (target ∷ next ∷ rest)) s in
    let r = and_parts (nat_lt target 4) (list_all (λ seat. nat_lt seat 4) (next ∷ rest)) q.1 in
    next_can ds target tile next p.few (first_seat target _ q.1) (first_seat next _ r.1)
    (and_parts (not (next == target)) (list_all (λ seat. not (seat == target)) rest) (p.apart who target tile unders own yaku fu han value deltas points (next ∷ rest) e)).0
    (p.offered who target tile unders own yaku fu han value deltas points next rest e)
follower_can rules ds given other e s p c = tt

-- After played deeds whoever wins can.
pub can_follow : (rules : Rules) (walls : List (List ℕ)) (ds : List Deed) (given : Four Answer) (last : Deed) →
    ((number : ℕ) → is_wall rules.red (wall_of walls number) ≡ true) → IsPlayed rules walls ds → AllLawful rules ds given →
    newest ds ≡ Some last → CanFollow ds last (decision_by last given)
can_follow rules walls ds given last h played lawful e =
    let s = played_sound rules walls ds h played in
    let p : Passed ds = record {
      given = λ n f begun k. giver_is rules.red ds n s.fit f begun k;
      apart = λ who target tile unders own yaku fu han value deltas said rest. winners_apart rules walls ds who target tile unders own yaku fu han value deltas said rest h played;
      offered = λ who target tile unders own yaku fu han value deltas said next rest. winners_wait rules walls ds who target tile unders own yaku fu han value deltas said next rest h played;
      few = played_few rules walls ds h played;
    } in
    follower_can rules ds given last e (subst (IfAny (λ d. has_seats d ≡ true)) e s.known.seated) p lawful
