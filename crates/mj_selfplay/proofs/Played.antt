-- The game as it goes.
use Rattle.std.proofs.Common.{◌≡◌, ℕ, zero, suc, ◌+◌, ◌-◌, ◌<◌, ◌≤◌, Bool, true, false, cond, List, [], ◌∷◌, ◌++◌, length}
use Rattle.std.proofs.Common.{Option, Some, None, refl, sym, ap, ◌∙◌, subst, arith, append-nil, append_assoc}
use Rattle.std.specs.Prelude.{slice_get}
use Rattle.std.specs.List.{list_all}
use Rattle.std.proofs.lemmas.List.{length_push}
use Rattle.std.proofs.lemmas.List.Sums.{count_by-le-length, length-filter, sum_by_push}
use Rattle.mj_deeds.specs.declared.deed.Deed.{Deed}
use Rattle.mj_deeds.specs.declared.deed.Deed.TheVariants.{StartGame, StartHand, Draw, Discard, Chi, Pon, OpenKan, ClosedKan, AddedKan, Dora, Reach, ReachAccepted, Win, DrawnHand, EndHand, EndGame}
use Rattle.mj_deeds.specs.Facts.{newest}
use Rattle.mj_deeds.specs.Fits.{fits, fits_behind, fits_in, ground_of}
use Rattle.mj_tiles.specs.Counts.{all_kinds, has_no_fifth}
use Rattle.std.specs.Str.{is_utf8, chars}
use Rattle.mj_ports.specs.Names.{is_name}
use Rattle.mj_deeds.specs.Hand.{hand, is_hand_start, hand_number}
use Rattle.mj_deeds.specs.Points.{is_win}
use Rattle.mj_table.specs.Plays.{Play}
use Rattle.mj_wall.specs.declared.setting.Rules.{Rules}
use Rattle.mj_wall.specs.Places.{is_wall}
use Rattle.mj_rules.specs.Outcome.{AreSame, goes_on}
use Rattle.mj_rules.specs.Played.{IsPlayed, is_game_start}
use Rattle.mj_rules.proofs.Playing.{each_is_wall}
use Rattle.mj_rules.proofs.Lengths.{few_deeds}
use Rattle.mj_selfplay.specs.declared.tally.Tally.{Tally}
use Rattle.mj_selfplay.specs.declared.tally.Summary.{Summary}
use Rattle.mj_selfplay.specs.SelfGame.{IsChosen, IsChosenBehind, AllChosen, IsWholeGame, IsSummary, is_end, is_drawn_hand, self_rules, self_start, summary_of}
use Rattle.mj_selfplay.specs.Inner.Supplies.{game_walls, AreAtHand, AreEnough}
use Rattle.mj_selfplay.specs.Inner.Tallies.{tally_of, with_one}
use Rattle.mj_selfplay.proofs.Walls.{chosen_same}
use Rattle.mj_rules.proofs.SameWalls.{turned, played_same, next_played_same}

-- one deed more

chosen-append : (rules : Rules) (walls : List (List ℕ)) (before deeds : List Deed) (deed : Deed) → AllChosen rules walls before deeds →
    IsChosenBehind rules walls (before ++ deeds) deed → AllChosen rules walls before (deeds ++ deed ∷ [])
chosen-append rules walls before [] deed h k = (subst (λ (xs : List Deed). IsChosenBehind rules walls xs deed) (append-nil before) k, tt)
chosen-append rules walls before (x ∷ deeds) deed h k =
    (h.0, chosen-append rules walls (before ++ x ∷ []) deeds deed h.1 (subst (λ (xs : List Deed). IsChosenBehind rules walls xs deed) (sym (append_assoc before (x ∷ []) deeds)) k))

behind_some : (rules : Rules) (walls : List (List ℕ)) (deeds : List Deed) (deed : Deed) → 0 < length deeds → IsChosen rules walls deeds deed → IsChosenBehind rules walls deeds deed
behind_some rules walls [] deed some h = absurd (omega arith)
behind_some rules walls (first ∷ others) deed some h = h

tally_more : (deeds : List Deed) (deed : Deed) → with_one (tally_of deeds) deed ≡ tally_of (deeds ++ deed ∷ [])
unfolding tally_of with_one
tally_more deeds deed = λ i. record {
  hands = sym (sum_by_push (λ d. cond (is_hand_start d) 1 0) deeds deed) i;
  wins = sym (sum_by_push (λ d. cond (is_win d) 1 0) deeds deed) i;
  draws = sym (sum_by_push (λ d. cond (is_drawn_hand d) 1 0) deeds deed) i;
  deeds = sym (length_push deeds deed) i;
}

-- So far the deeds on the table are those of the game, and counted.
pub record InPlay (walls : List (List ℕ)) (table : Play) (tally : Tally) : Type 0 where
  pub rules_are : table.rules ≡ self_rules
  pub played : IsPlayed table.rules walls table.deeds
  pub chosen : AllChosen table.rules walls [] table.deeds
  pub begun : 0 < length table.deeds
  pub tally_is : tally ≡ tally_of table.deeds

-- A tally counts no more starts, wins and drawn hands than deeds.
pub record IsFew (tally : Tally) : Type 0 where
  pub hands : tally.hands ≤ tally.deeds
  pub wins : tally.wins ≤ tally.deeds
  pub draws : tally.draws ≤ tally.deeds

pub tally_few : (tally : Tally) (deeds : List Deed) → tally ≡ tally_of deeds → IsFew tally
unfolding tally_of
tally_few tally deeds is = subst IsFew (sym is) (record {
  hands = count_by-le-length is_hand_start deeds;
  wins = count_by-le-length is_win deeds;
  draws = count_by-le-length is_drawn_hand deeds;
})

pub tally_deeds : (tally : Tally) (deeds : List Deed) → tally ≡ tally_of deeds → tally.deeds ≡ length deeds
unfolding tally_of
tally_deeds tally deeds is = ap (λ (t : Tally). t.deeds) is

-- The rules have no red fives.
plain_rules : (rules : Rules) → rules ≡ self_rules → rules.red ≡ false
unfolding self_rules
plain_rules rules is = ap (λ (r : Rules). r.red) is

pub whole_walls : (rules : Rules) (walls : List (List ℕ)) → rules ≡ self_rules → list_all (is_wall false) walls ≡ true → list_all (is_wall rules.red) walls ≡ true
whole_walls rules walls is whole = ap (λ (b : Bool). list_all (is_wall b) walls) (plain_rules rules is) ∙ whole

-- how many hands and deeds

hands_of : (tally : Tally) (deeds : List Deed) → tally ≡ tally_of deeds → hand_number deeds ≡ tally.hands - 1
unfolding tally_of
hands_of tally deeds is = ap (λ n. n - 1) (length-filter is_hand_start deeds) ∙ ap (λ (t : Tally). t.hands - 1) (sym is)

-- The walls at hand and those of the game are the same for the newest hand and the next.
enough_for : (seed : List ℕ) (walls : List (List ℕ)) (table : Play) (tally : Tally) → AreEnough seed (tally.hands - 1) walls →
    InPlay (game_walls seed) table tally → AreSame walls (game_walls seed) (hand_number table.deeds + 1)
enough_for seed walls table tally enough play = subst (λ n. AreEnough seed n walls) (sym (hands_of tally table.deeds play.tally_is)) enough

-- The deeds are played for them too.
pub played_at_hand : (seed : List ℕ) (walls : List (List ℕ)) (table : Play) (tally : Tally) → AreEnough seed (tally.hands - 1) walls →
    InPlay (game_walls seed) table tally → IsPlayed table.rules walls table.deeds
played_at_hand seed walls table tally enough play =
    played_same table.rules (game_walls seed) walls table.deeds (turned walls (game_walls seed) (hand_number table.deeds + 1) (enough_for seed walls table tally enough play)) play.played

-- A game has few deeds.
pub in_play_few : (seed : List ℕ) (walls : List (List ℕ)) (table : Play) (tally : Tally) → AreAtHand seed walls →
    AreEnough seed (tally.hands - 1) walls → InPlay (game_walls seed) table tally → length table.deeds ≤ 60002
in_play_few seed walls table tally at enough play =
    (few_deeds table.rules walls table.deeds (each_is_wall table.rules.red walls (one (length walls) at.some)
    (whole_walls table.rules walls play.rules_are at.whole)) (played_at_hand seed walls table tally enough play)).1
  where
    one : (n : ℕ) → 2 ≤ n → 1 ≤ n
    one n h = omega (arith, h)

-- Nor does it count many.
pub tally_within : (seed : List ℕ) (walls : List (List ℕ)) (table : Play) (tally : Tally) → AreAtHand seed walls →
    AreEnough seed (tally.hands - 1) walls → InPlay (game_walls seed) table tally → tally.deeds ≤ 60002
tally_within seed walls table tally at enough play =
    let few = in_play_few seed walls table tally at enough play in
    let is = tally_deeds tally table.deeds play.tally_is in omega arith

-- A tally of no deed counts none.
pub none_within : (tally : Tally) → tally ≡ tally_of [] → tally.deeds ≤ 60002
none_within tally is = let none = tally_deeds tally [] is in omega arith

-- the start

pub start_fits : (red : Bool) → fits red [] self_start ≡ true
unfolding self_start fits_behind fits_in ground_of hand has_no_fifth all_kinds
start_fits true = refl
start_fits false = refl

-- And may be pushed on a table without deeds.
pub start_may : (red : Bool) (rules : Rules) (table : Play) (deed : Deed) → table ≡ record { rules = rules; deeds = [] } → deed ≡ self_start → fits red table.deeds deed ≡ true
start_may red rules table deed is told = (λ i. fits red ((ap (λ (t : Play). t.deeds) is) i) (told i)) ∙ start_fits red

-- Its names are good.
pub start_is_one : is_game_start self_start ≡ true
unfolding self_start is_name is_utf8 chars lib.Utf8.encode
start_is_one = refl

pub begins : (walls : List (List ℕ)) (table : Play) (before tally : Tally) (deed : Deed) → table ≡ record {
  rules = self_rules;
  deeds = self_start ∷ [];
} → before ≡ tally_of [] → deed ≡ self_start → tally ≡ with_one before deed → InPlay walls table tally
unfolding self_start
begins walls table before tally deed is none first told = subst (λ (t : Play). InPlay walls t tally) (sym is) (record {
  rules_are = refl;
  played = (start_is_one, tt);
  chosen = (refl, tt);
  begun = omega arith;
  tally_is = told ∙ ap (with_one before) first ∙ ap (λ t. with_one t self_start) none ∙ tally_more [] self_start;
})

-- a step

-- What is chosen and played for the walls at hand is so for those of the game.
pub goes : (seed : List ℕ) (walls : List (List ℕ)) (table next : Play) (tally more : Tally) (deed : Deed) → AreEnough seed (tally.hands - 1) walls →
    InPlay (game_walls seed) table tally → IsChosen table.rules walls table.deeds deed →
    next ≡ record { rules = table.rules; deeds = table.deeds ++ deed ∷ [] } → IsPlayed table.rules walls next.deeds → more ≡ with_one tally deed → InPlay (game_walls seed) next more
goes seed walls table next tally more deed enough play chosen is played told = subst (λ (t : Play). InPlay (game_walls seed) t more) (sym is) (record {
  rules_are = play.rules_are;
  played = next_played_same table.rules walls (game_walls seed) table.deeds deed same play.played (subst (λ (t : Play). IsPlayed table.rules walls t.deeds) is played);
  chosen = chosen-append table.rules (game_walls seed) [] table.deeds deed play.chosen (behind_some table.rules (game_walls seed) table.deeds deed
      play.begun (chosen_same table.rules walls (game_walls seed) table.deeds deed same chosen));
  begun = (let long = length_push table.deeds deed in omega arith);
  tally_is = told ∙ ap (λ t. with_one t deed) play.tally_is ∙ tally_more table.deeds deed;
})
  where
    same : AreSame walls (game_walls seed) (hand_number table.deeds + 1)
    same = enough_for seed walls table tally enough play

longer : (table next : Play) (deed : Deed) → next ≡ record { rules = table.rules; deeds = table.deeds ++ deed ∷ [] } → length next.deeds ≡ length table.deeds + 1
longer table next deed is = ap (λ (t : Play). length t.deeds) is ∙ length_push table.deeds deed

-- Fewer deeds are left.
pub nearer : (seed : List ℕ) (walls : List (List ℕ)) (table next : Play) (tally : Tally) (deed : Deed) → AreAtHand seed walls →
    AreEnough seed (tally.hands - 1) walls → InPlay (game_walls seed) table tally →
    next ≡ record { rules = table.rules; deeds = table.deeds ++ deed ∷ [] } → 60003 - length next.deeds < 60003 - length table.deeds
nearer seed walls table next tally deed at enough play is =
    let few = in_play_few seed walls table tally at enough play in
    let long = longer table next deed is in omega arith

-- the end

ended : (last : Option Deed) → goes_on last ≡ false → (last ≡ None → ⊥) → is_end last ≡ true
ended (Some (EndGame points lying)) h some = refl
ended (Some (StartGame names)) h some = cc
ended (Some (StartHand round number honba lying dealer indicator hands)) h some = cc
ended (Some (Draw seat tile replacement)) h some = cc
ended (Some (Discard seat tile drawn)) h some = cc
ended (Some (Chi seat target tile a b)) h some = cc
ended (Some (Pon seat target tile a b)) h some = cc
ended (Some (OpenKan seat target tile a b c)) h some = cc
ended (Some (ClosedKan seat a b c d)) h some = cc
ended (Some (AddedKan seat tile a b c)) h some = cc
ended (Some (Dora tile)) h some = cc
ended (Some (Reach seat)) h some = cc
ended (Some (ReachAccepted seat points bid)) h some = cc
ended (Some (Win seat target tile unders own yaku fu han value deltas points rest)) h some = cc
ended (Some (DrawnHand reason hands ready deltas points)) h some = cc
ended (Some EndHand) h some = cc
ended None h some = absurd (some refl)

some_newest : (deeds : List Deed) → 0 < length deeds → newest deeds ≡ None → ⊥
some_newest [] some h = omega arith
some_newest (d ∷ deeds) some h = found d deeds (suc (length deeds) - 1) (omega arith) h
  where
    none_is : (x : Deed) → Some x ≡ None → ⊥
    none_is x e = cc

    found : (x : Deed) (xs : List Deed) (i : ℕ) → i ≤ length xs → slice_get (x ∷ xs) i ≡ None → ⊥
    found x xs zero low e = none_is x e
    found x [] (suc i) low e = omega arith
    found x (y ∷ ys) (suc i) low e = found y ys i (omega arith) e

pub comes_to : (walls : List (List ℕ)) (table : Play) (tally : Tally) (summary : Summary) (on : Bool) → InPlay walls table tally →
    on ≡ goes_on (newest table.deeds) → on ≡ false → summary ≡ summary_of table.deeds → IsSummary self_rules walls summary
comes_to walls table tally summary on play told over is = record {
  deeds = table.deeds;
  whole = subst (λ (r : Rules). IsWholeGame r walls table.deeds) play.rules_are (record {
    chosen = play.chosen;
    over = ended (newest table.deeds) (sym told ∙ over) (some_newest table.deeds play.begun);
  });
  is = is;
}
