-- A lawful win is of a complete hand, and worth the greatest score of its readings.
use Rattle.std.proofs.Common.{◌≡◌, ℕ, ◌<◌, ◌==◌, ◌&&◌, not, Bool, true, false, cond, List, [], ◌∷◌, ◌++◌, length, refl, ap, sym, ◌∙◌, subst}
use Rattle.std.specs.Prelude.{if◌then◌else◌, Option, Some, None, is_some}
use Rattle.std.proofs.lemmas.Bool.{eqb-true, eqb-false}
use Rattle.mj_tiles.specs.Faces.{kind_of}
use Rattle.mj_tiles.specs.Counts.{kind_counts, NoFifth, IsCounts}
use Rattle.mj_tiles.proofs.CountSteps.{length-kind_counts}
use Rattle.mj_tiles.specs.declared.meld.Meld.{Meld}
use Rattle.mj_readings.specs.declared.reading.Case.{Case}
use Rattle.mj_readings.proofs.Laws.{complete-are}
use Rattle.mj_score.specs.declared.score.Extra.{Extra}
use Rattle.mj_score.specs.declared.score.Score.{Score}
use Rattle.mj_score.specs.Worth.{IsGreatest, IsWorth}
use Rattle.mj_deeds.specs.declared.answer.Answer.{Answer}
use Rattle.mj_deeds.specs.declared.answer.Answer.TheVariants as answers
use Rattle.mj_deeds.specs.declared.deed.Deed.{Deed}
use Rattle.mj_deeds.specs.declared.deed.Deed.TheVariants.{Draw, Discard, Chi, Pon, AddedKan, Reach, Win, EndHand, EndGame}
use Rattle.mj_deeds.specs.Course.{before_wins}
use Rattle.mj_deeds.specs.Facts.{newest}
use Rattle.mj_deeds.specs.Fits.{is_in_hand}
use Rattle.mj_deeds.specs.Hand.{hand}
use Rattle.mj_wall.specs.declared.setting.Rules.{Rules}
use Rattle.mj_rules.specs.Broken.{is_win, is_pass, is_open, won_tiles}
use Rattle.mj_rules.specs.Hands.{LawfulWinsAreGreatest}
use Rattle.mj_rules.specs.Outcome.{won_tile, seat_of}
use Rattle.mj_rules.specs.Paid.{worth_by}
use Rattle.mj_rules.specs.View.{WindowTurn, turn_by, view_of}
use Rattle.mj_rules.specs.Wins.{own_tiles_of}
use Rattle.mj_rules.proofs.Balance.{is_unwon, nobody_yet}
use Rattle.mj_rules.proofs.Hands.{worth_is_found}
use Rattle.mj_rules.proofs.Paid.{Offers, Wins, lawful_wins, lawful_wins_are_worth, none_won, ron_counts, drawn_counts, newest_there}
use Rattle.mj_rules.proofs.Playing.{Sound, played_sound}
use Rattle.mj_rules.proofs.Turns.{turn_is}
use Rattle.mj_rules.proofs.Winners.{offered_no_fifth, drawn_no_fifth}

-- A window in which nobody has won in the hand.
record Fresh (red : Bool) (walls : List (List ℕ)) (deeds : List Deed) : Type 0 where
  sound : Sound red walls deeds
  there : is_in_hand (newest deeds) ≡ true → newest (hand deeds) ≡ newest deeds
  before : before_wins (hand deeds) ≡ hand deeds

no_pass : (answer : Answer) → is_win answer ≡ true → is_pass answer ≡ true → ⊥
no_pass (answers.Win actor target tile) win pass = cc
no_pass other win pass = cc

-- Who wins on an offer doesn't make it.
of_another : (who seat : ℕ) (answer : Answer) (rest : Bool) → is_win answer ≡ true → cond (who == seat) (is_pass answer) rest ≡ true → seat ≡ who → ⊥
of_another who seat answer rest win h e = by_test (who == seat) refl h
  where
    by_test : (b : Bool) → (who == seat) ≡ b → cond b (is_pass answer) rest ≡ true → ⊥
    by_test true is h = no_pass answer win h
    by_test false is h = eqb-false who seat is (sym e)

-- The newest deed stands last in the hand before the winners.
last_there : (red : Bool) (walls : List (List ℕ)) (deeds : List Deed) (last : Deed) → Fresh red walls deeds → newest deeds ≡ Some last →
    is_in_hand (Some last) ≡ true → newest (before_wins (hand deeds)) ≡ Some last
last_there red walls deeds last f e begun = ap newest f.before ∙ f.there (ap is_in_hand e ∙ begun) ∙ e

ron_few : (red : Bool) (walls : List (List ℕ)) (deeds : List Deed) (seat : ℕ) → Fresh red walls deeds → (tile : ℕ) (o : Offers deeds seat tile) → seat < 4 → (seat ≡ seat_of o.last → ⊥) →
    NoFifth (kind_counts (won_tiles (view_of deeds seat)))
ron_few red walls deeds seat f tile o low apart =
    subst NoFifth (ron_counts deeds deeds seat seat tile o (f.there (ap is_in_hand o.newest_is ∙ o.goes_on)) f.before)
    (subst (λ (t : ℕ). NoFifth (kind_counts (own_tiles_of (before_wins (hand deeds)) seat t ++ t ∷ []))) o.tile_is
    (offered_no_fifth red deeds o.last seat f.sound.fit (last_there red walls deeds o.last f o.newest_is o.goes_on) o.offers low apart))

drawn_few : (red : Bool) (walls : List (List ℕ)) (deeds : List Deed) (seat tile : ℕ) (replacement : Bool) → Fresh red walls deeds → newest deeds ≡ Some (Draw seat tile replacement) →
    NoFifth (kind_counts (won_tiles (view_of deeds seat)))
drawn_few red walls deeds seat tile replacement f e =
    subst NoFifth (drawn_counts red deeds seat tile replacement f.sound.fit e (f.there (ap is_in_hand e)) f.before)
    (drawn_no_fifth red deeds seat tile replacement f.sound.fit (last_there red walls deeds (Draw seat tile replacement) f e refl))

-- In a window where a win is open to a seat it has no kind five times.
won_few : (rules : Rules) (walls : List (List ℕ)) (deeds : List Deed) (last : Deed) (seat : ℕ) (accepted : Bool) (answer : Answer) → Fresh rules.red walls deeds → newest deeds ≡ Some last → seat < 4 →
    is_win answer ≡ true → is_open rules seat (turn_by last) accepted answer ≡ true → NoFifth (kind_counts (won_tiles (view_of deeds seat)))
won_few rules walls deeds (Draw who tile replacement) seat accepted (answers.Win actor target t) f e low w h = by_test (who == seat) refl h
  where
    by_test : (b : Bool) → (who == seat) ≡ b → (if b then true else false) ≡ true → NoFifth (kind_counts (won_tiles (view_of deeds seat)))
    by_test true is h = drawn_few rules.red walls deeds seat tile replacement f (e ∙ ap (λ (s : ℕ). Some (Draw s tile replacement)) (eqb-true who seat is))
    by_test false is h = cc
won_few rules walls deeds (Discard who tile drawn) seat accepted (answers.Win actor target t) f e low w h =
    ron_few rules.red walls deeds seat f tile (record { last = Discard who tile drawn; newest_is = e; offers = refl; goes_on = refl; tile_is = refl; offered = refl }) low
    (of_another who seat (answers.Win actor target t) true w h)
won_few rules walls deeds (AddedKan who tile a b c) seat accepted (answers.Win actor target t) f e low w h =
    ron_few rules.red walls deeds seat f tile (record { last = AddedKan who tile a b c; newest_is = e; offers = refl; goes_on = refl; tile_is = refl; offered = refl }) low
    (of_another who seat (answers.Win actor target t) true w h)
won_few rules walls deeds (Reach who) seat accepted (answers.Win actor target t) f e low w h = by_test (who == seat) h
  where
    by_test : {A : Type 0} (b : Bool) → (if b then false else false) ≡ true → A
    by_test true h = cc
    by_test false h = cc
won_few rules walls deeds (Chi who from tile a b) seat accepted (answers.Win actor target t) f e low w h = by_test (who == seat) h
  where
    by_test : {A : Type 0} (b : Bool) → (if b then false else false) ≡ true → A
    by_test true h = cc
    by_test false h = cc
won_few rules walls deeds (Pon who from tile a b) seat accepted (answers.Win actor target t) f e low w h = by_test (who == seat) h
  where
    by_test : {A : Type 0} (b : Bool) → (if b then false else false) ≡ true → A
    by_test true h = cc
    by_test false h = cc
won_few rules walls deeds other seat accepted (answers.Win actor target t) f e low w h = cc
won_few rules walls deeds other seat accepted another f e low w h = cc

-- No win is open after a win or the end of a hand.
won_unwon : (rules : Rules) (seat : ℕ) (last : Deed) (accepted : Bool) (answer : Answer) → is_win answer ≡ true → is_open rules seat (turn_by last) accepted answer ≡ true → is_unwon last ≡ true
won_unwon rules seat (Win who target tile unders own yaku fu han value deltas said rest) accepted answer w h = absurd (no_pass answer w h)
won_unwon rules seat EndHand accepted answer w h = absurd (no_pass answer w h)
won_unwon rules seat (EndGame said laid) accepted answer w h = absurd (no_pass answer w h)
won_unwon rules seat other accepted answer w h = refl

-- What a worth is, where there is one, is the greatest.
greatest_is : (counts : List ℕ) (melds : List Meld) (winning : ℕ) (case : Case) (extra : Extra) (o : Option Score) → IsWorth counts melds winning case extra o → is_some o ≡ true →
    (score : Score) × ((o ≡ Some score) × IsGreatest counts melds winning case extra score)
greatest_is counts melds winning case extra None is some = cc
greatest_is counts melds winning case extra (Some score) is some = (score, (refl, is))

both_hold : (a b : Bool) → (a && not b) ≡ false → a ≡ true → b ≡ true
both_hold true true h e = refl
both_hold true false h e = cc
both_hold false b h e = cc

pub lawful_wins_are_greatest : LawfulWinsAreGreatest
lawful_wins_are_greatest rules walls deeds last seat answer whole played e low win lawful =
    let wins : Wins rules deeds seat answer = lawful_wins rules deeds seat answer lawful in
    let opens : is_open rules seat (turn_by last) (view_of deeds seat).accepted answer ≡ true =
    ap (λ (turn : WindowTurn). is_open rules seat turn (view_of deeds seat).accepted answer) (sym (turn_is deeds seat last e)) ∙ wins.opens in
    let f : Fresh rules.red walls deeds = record {
      sound = played_sound rules walls deeds whole played;
      there = newest_there rules walls deeds whole played;
      before = none_won (hand deeds) (nobody_yet rules walls deeds last whole played e (won_unwon rules seat last (view_of deeds seat).accepted answer win opens));
    } in
    let counts : IsCounts (kind_counts (won_tiles (view_of deeds seat))) = record {
      size = length-kind_counts (won_tiles (view_of deeds seat));
      within = won_few rules walls deeds last seat (view_of deeds seat).accepted answer f e low win
          opens;
    } in
    record {
      complete = complete-are (kind_counts (won_tiles (view_of deeds seat))) (length (view_of deeds seat).melds) counts (both_hold (is_win answer) _ wins.complete win);
      greatest = λ extra.
          greatest_is (kind_counts (won_tiles (view_of deeds seat))) (view_of deeds seat).melds (kind_of (won_tile last)) (view_of deeds seat).case
          extra (worth_by (view_of deeds seat) (won_tile last) extra)
          (worth_is_found (kind_counts (won_tiles (view_of deeds seat))) (view_of deeds seat).melds (kind_of (won_tile last)) (view_of deeds seat).case extra counts)
          (lawful_wins_are_worth rules deeds last seat answer extra e win lawful);
    }
