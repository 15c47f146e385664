-- Some deed follows: four lawful answers give one, until the end of the game.
use Rattle.std.proofs.Common.{◌≡◌, ℕ, ◌||◌, Bool, true, false, List, [], ◌∷◌, refl}
use Rattle.std.specs.Prelude.{Option, Some, None, is_some, option_and_then}
use Rattle.mj_deeds.specs.declared.four.Four.{Four}
use Rattle.mj_deeds.specs.declared.bid.Bid.{Bid}
use Rattle.mj_deeds.specs.declared.bid.Bid.TheVariants as bids
use Rattle.mj_deeds.specs.declared.answer.Pai.TheVariants.{Known, Hidden}
use Rattle.mj_deeds.specs.declared.answer.Answer.{Answer}
use Rattle.mj_deeds.specs.declared.answer.Answer.TheVariants as answers
use Rattle.mj_deeds.specs.declared.deed.Deed.{Deed}
use Rattle.mj_deeds.specs.declared.deed.Deed.TheVariants.{StartGame, StartHand, Draw, Discard, Chi, Pon, OpenKan, ClosedKan, AddedKan, Dora, Reach, ReachAccepted, Win, DrawnHand, EndHand, EndGame}
use Rattle.mj_deeds.specs.Four.{at_seat}
use Rattle.mj_deeds.specs.Fits.{has_seats}
use Rattle.mj_deeds.specs.Facts.{newest}
use Rattle.mj_window.specs.Decided.{decision_by, best_bid, call_or_pass, rons_on, rons_or}
use Rattle.mj_window.specs.declared.decision.Decision.{Decision}
use Rattle.mj_window.specs.declared.decision.Decision.TheVariants.{Pass}
use Rattle.mj_rules.proofs.Turns.{called_opens, reached_opens, drew_opens}
use Rattle.mj_wall.specs.declared.setting.Rules.{Rules}
use Rattle.mj_rules.specs.Broken.{is_own_act, is_discard, is_no_tile, is_no_such_tile}
use Rattle.mj_rules.specs.View.{view_of}
use Rattle.mj_rules.specs.Outcome.{own_act, wall_now, follows, outcome, goes_on}
use Rattle.mj_rules.specs.Played.{AllLawful}
use Rattle.mj_rules.specs.Laws.{SomeDeedFollows}
use Rattle.mj_rules.proofs.Kept.{first_seat}
use Rattle.mj_rules.proofs.Answered.{IfAny, clean_at}
use Rattle.mj_rules.proofs.Playing.{played_sound}

-- The act of a seat with known tiles is a deed.
pub hides : (a : Bool) → (a || true) ≡ false → ⊥
hides true h = cc
hides false h = cc

pub hides2 : (a b : Bool) → (a || (b || true)) ≡ false → ⊥
hides2 true b h = cc
hides2 false b h = hides b h

pub hides3 : (a b c : Bool) → (a || (b || (c || true))) ≡ false → ⊥
hides3 true b c h = cc
hides3 false b c h = hides2 b c h

act_is : (rules : Rules) (wall : List ℕ) (ds : List Deed) (who tile : ℕ) (replacement accepted : Bool) (answer : Answer) →
    is_own_act rules accepted answer ≡ true → is_no_such_tile rules.red answer ≡ false →
    is_some (own_act wall ds (Draw who tile replacement) who answer) ≡ true
act_is rules wall ds who tile replacement accepted (answers.Discard actor (Known t) drawn) h k = refl
act_is rules wall ds who tile replacement accepted (answers.ClosedKan actor (Known x) (Known y) (Known z) (Known w)) h k = refl
act_is rules wall ds who tile replacement accepted (answers.AddedKan actor (Known t) (Known x) (Known y) (Known z)) h k = refl
act_is rules wall ds who tile replacement accepted (answers.Discard actor Hidden drawn) h k = cc
act_is rules wall ds who tile replacement accepted (answers.ClosedKan actor Hidden b c d) h k = cc
act_is rules wall ds who tile replacement accepted (answers.ClosedKan actor (Known x) Hidden c d) h k = absurd (hides (is_no_tile rules.red (Known x)) k)
act_is rules wall ds who tile replacement accepted (answers.ClosedKan actor (Known x) (Known y) Hidden d) h k = absurd (hides2 (is_no_tile rules.red (Known x)) (is_no_tile rules.red (Known y)) k)
act_is rules wall ds who tile replacement accepted (answers.ClosedKan actor (Known x) (Known y) (Known z) Hidden) h k =
    absurd (hides3 (is_no_tile rules.red (Known x)) (is_no_tile rules.red (Known y)) (is_no_tile rules.red (Known z)) k)
act_is rules wall ds who tile replacement accepted (answers.AddedKan actor Hidden b c d) h k = cc
act_is rules wall ds who tile replacement accepted (answers.AddedKan actor (Known x) Hidden c d) h k = absurd (hides (is_no_tile rules.red (Known x)) k)
act_is rules wall ds who tile replacement accepted (answers.AddedKan actor (Known x) (Known y) Hidden d) h k = absurd (hides2 (is_no_tile rules.red (Known x)) (is_no_tile rules.red (Known y)) k)
act_is rules wall ds who tile replacement accepted (answers.AddedKan actor (Known x) (Known y) (Known z) Hidden) h k =
    absurd (hides3 (is_no_tile rules.red (Known x)) (is_no_tile rules.red (Known y)) (is_no_tile rules.red (Known z)) k)
act_is rules wall ds who tile replacement accepted (answers.Pass actor) h k = cc
act_is rules wall ds who tile replacement accepted (answers.Chi actor target t x y) h k = cc
act_is rules wall ds who tile replacement accepted (answers.Pon actor target t x y) h k = cc
act_is rules wall ds who tile replacement accepted (answers.OpenKan actor target t x y z) h k = cc
act_is rules wall ds who tile replacement accepted (answers.Reach actor) h k = refl
act_is rules wall ds who tile replacement accepted (answers.Win actor target t) h k = refl
act_is rules wall ds who tile replacement accepted (answers.NineKinds actor) h k = refl
act_is rules wall ds who tile replacement accepted answers.Unread h k = cc

-- So is its discard.
discard_is : (red : Bool) (wall : List ℕ) (ds : List Deed) (n : Deed) (who : ℕ) (answer : Answer) → is_discard answer ≡ true →
    is_no_such_tile red answer ≡ false → is_some (own_act wall ds n who answer) ≡ true
discard_is red wall ds n who (answers.Discard actor (Known t) drawn) h k = refl
discard_is red wall ds n who (answers.Discard actor Hidden drawn) h k = cc
discard_is red wall ds n who other h k = cc

-- So is the first winner, or what is decided otherwise.
rons_are : (rules : Rules) (walls : List (List ℕ)) (ds : List Deed) (n : Deed) (seats : List ℕ) (other : Decision) →
    is_some (follows rules walls ds n other) ≡ true → is_some (follows rules walls ds n (rons_or seats other)) ≡ true
rons_are rules walls ds n [] other h = h
rons_are rules walls ds n (seat ∷ seats) other h = refl

-- So is a call, or what follows a discard that is not called.
calls_are : (rules : Rules) (walls : List (List ℕ)) (ds : List Deed) (who tile : ℕ) (drawn : Bool) (bid : Bid) → is_some (follows rules walls ds (Discard who tile drawn) (call_or_pass bid)) ≡ true
calls_are rules walls ds who tile drawn bids.NoBid = refl
calls_are rules walls ds who tile drawn (bids.Chi seat target t x y) = refl
calls_are rules walls ds who tile drawn (bids.Pon seat target t x y) = refl
calls_are rules walls ds who tile drawn (bids.OpenKan seat target t x y z) = refl

followed : (rules : Rules) (walls : List (List ℕ)) (ds : List Deed) (given : Four Answer) (n : Deed) → newest ds ≡ Some n → has_seats n ≡ true → AllLawful rules ds given → goes_on (Some n) ≡ true →
    is_some (follows rules walls ds n (decision_by n given)) ≡ true
followed rules walls ds given (StartGame names) e seats c on = refl
followed rules walls ds given (StartHand round number honba deposits dealer indicator hands) e seats c on = refl
followed rules walls ds given (Draw who tile replacement) e seats c on =
    let clean = clean_at rules ds given who (first_seat who _ seats) c in
    act_is rules (wall_now walls ds) ds who tile replacement (view_of ds who).accepted (at_seat given who)
    (drew_opens rules ds (Draw who tile replacement) who (at_seat given who) e refl clean) clean.tiles
followed rules walls ds given (Discard who tile drawn) e seats c on =
    rons_are rules walls ds (Discard who tile drawn) (rons_on who given) (call_or_pass (best_bid given)) (calls_are rules walls ds who tile drawn (best_bid given))
followed rules walls ds given (Chi who target tile a b) e seats c on =
    let clean = clean_at rules ds given who (first_seat who _ seats) c in
    discard_is rules.red (wall_now walls ds) ds (Chi who target tile a b) who (at_seat given who) (called_opens rules ds (Chi who target tile a b) who _ (at_seat given who) e refl clean) clean.tiles
followed rules walls ds given (Pon who target tile a b) e seats c on =
    let clean = clean_at rules ds given who (first_seat who _ seats) c in
    discard_is rules.red (wall_now walls ds) ds (Pon who target tile a b) who (at_seat given who) (called_opens rules ds (Pon who target tile a b) who _ (at_seat given who) e refl clean) clean.tiles
followed rules walls ds given (OpenKan who target tile a b d) e seats c on = refl
followed rules walls ds given (ClosedKan who a b d x) e seats c on = refl
followed rules walls ds given (AddedKan who tile a b d) e seats c on = rons_are rules walls ds (AddedKan who tile a b d) (rons_on who given) Pass refl
followed rules walls ds given (Dora tile) e seats c on = refl
followed rules walls ds given (Reach who) e seats c on =
    let clean = clean_at rules ds given who (first_seat who _ seats) c in
    discard_is rules.red (wall_now walls ds) ds (Reach who) who (at_seat given who) (reached_opens rules ds (Reach who) who (at_seat given who) e refl clean) clean.tiles
followed rules walls ds given (ReachAccepted who points bid) e seats c on = refl
followed rules walls ds given (Win who target tile unders own yaku fu han value deltas points rest) e seats c on = refl
followed rules walls ds given (DrawnHand reason hands ready deltas points) e seats c on = refl
followed rules walls ds given EndHand e seats c on = refl
followed rules walls ds given (EndGame points deposits) e seats c on = cc

pub some_deed_follows : SomeDeedFollows
unfolding outcome
some_deed_follows rules walls ds given whole played c on = by_newest (newest ds) refl (played_sound rules walls ds whole played).seated on
  where
    by_newest : (o : Option Deed) → newest ds ≡ o → IfAny (λ d. has_seats d ≡ true) o → goes_on o ≡ true →
        is_some (option_and_then (λ last. follows rules walls ds last (decision_by last given)) o) ≡ true
    by_newest None e seats on = cc
    by_newest (Some n) e seats on = followed rules walls ds given n e seats c on
