-- Played deeds fit, each after those before it.
use Rattle.std.proofs.Common.{◌≡◌, ℕ, zero, suc, ◌+◌, ◌-◌, ◌%◌, ◌<◌, ◌≤◌, Bool, true, false, cond, List, [], ◌∷◌, ◌++◌, length, refl, ap, sym, ◌∙◌, subst, arith, append-nil, append_assoc}
use Rattle.std.specs.Prelude.{Option, Some, None, IsTrue, is_none}
use Rattle.std.specs.List.{list_all, slice_index_or}
use Rattle.std.proofs.lemmas.Bool.{and_parts}
use Rattle.std.proofs.lemmas.Option.{slice_get-get_or}
use Rattle.std.proofs.lemmas.List.Elements.{All-nil}
use Rattle.mj_deeds.specs.declared.four.Four.{Four}
use Rattle.mj_deeds.specs.declared.answer.Answer.{Answer}
use Rattle.mj_deeds.specs.declared.deed.Deed.{Deed}
use Rattle.mj_deeds.specs.declared.deed.Deed.TheVariants.{StartGame, StartHand, Draw, Discard, Chi, Pon, OpenKan, ClosedKan, AddedKan, Dora, Reach, ReachAccepted, Win, DrawnHand, EndHand, EndGame}
use Rattle.mj_deeds.specs.Facts.{newest}
use Rattle.mj_deeds.specs.Fits.{ground_of, fits, all_fit, is_in_place, is_after_start, has_seats, has_tiles}
use Rattle.mj_deeds.proofs.Fitted.{all_fit-append, hand_real}
use Rattle.mj_deeds.proofs.HandSteps.{hand_with, starts_more}
use Rattle.mj_deeds.proofs.Newest.{newest_more}
use Rattle.mj_deeds.proofs.Standings.{may_stand}
use Rattle.mj_wall.specs.Places.{is_wall}
use Rattle.mj_wall.proofs.WallKinds.{up}
use Rattle.mj_deeds.specs.Hand.{is_hand_start, hand, before_in, starts, hand_number}
use Rattle.mj_wall.specs.declared.setting.Rules.{Rules}
use Rattle.mj_rules.specs.Outcome.{wall_of, wall_now, outcome}
use Rattle.mj_rules.specs.Played.{AllLawful, is_game_start, IsPlayedBehind, AllPlayed, IsPlayed}
use Rattle.mj_rules.specs.Laws.{EachIsWall, PlayedWithOneMore, PlayedWithoutTheLast, PlayedDeedsFit, NextOfPlayedFits}
use Rattle.mj_rules.proofs.Stages.{Stage, NoGame, NoHand, Waits, Acts, MadeKan, ShowedDora, stage_before, stage_after, stage_of, stage_more, is_begun, owes_dora, owes_tile, holds_more, StandsAt}
use Rattle.mj_rules.proofs.Kept.{wall_for, stage_for, IsNext, inside, keeps}
use Rattle.mj_rules.proofs.Room.{deals_well, next_fits}
use Rattle.mj_rules.proofs.Answered.{IfAny}
use Rattle.mj_rules.proofs.Winning.{Fair}
use Rattle.mj_rules.proofs.Starting.{next_stands}
use Rattle.mj_rules.proofs.Turns.{Known, outcome_next}
use Rattle.mj_rules.proofs.Promises.{Promise, Unlocked, outcome_owes, game_owes_nothing, unlocked_more, free_more, promised_more}
use Rattle.mj_rules.proofs.Riches.{Rich, nothing_rich, start_rich, rich_next, rich_few}

-- The wall at a place of walls that are all whole.
wall_at : (red : Bool) (walls : List (List ℕ)) (n : ℕ) → n < length walls → list_all (is_wall red) walls ≡ true → is_wall red (slice_index_or walls n []) ≡ true
wall_at red [] n h whole = absurd (omega arith)
wall_at red (wall ∷ walls) zero h whole = (and_parts (is_wall red wall) (list_all (is_wall red) walls) whole).0
wall_at red (wall ∷ walls) (suc n) h whole = wall_at red walls n (omega arith) (and_parts (is_wall red wall) (list_all (is_wall red) walls) whole).1

-- The wall of each hand is whole.
pub each_is_wall : EachIsWall
each_is_wall red walls some whole hand = wall_at red walls (hand % length walls) (within hand (length walls) some) whole
  where
    within : (a n : ℕ) → 1 ≤ n → a % n < n
    within a zero h = absurd (omega arith)
    within a (suc n) h = omega arith

-- What is true of deeds that come each in its turn.
pub record Sound (red : Bool) (walls : List (List ℕ)) (ds : List Deed) : Type 0 where
  pub standing : StandsAt (wall_now walls ds) (hand ds) (stage_of ds)
  pub fit : all_fit red [] ds ≡ true
  pub seated : IfAny (λ d. has_seats d ≡ true) (newest ds)
  pub known : Known red walls ds
  pub unlocked : Unlocked ds
  pub rich : Rich ds

-- What a deed that is played after them adds to it.
pub record Adds (red : Bool) (walls : List (List ℕ)) (ds : List Deed) (d : Deed) : Type 0 where
  pub next : IsNext red walls ds d
  pub promise : Promise red walls ds d
  pub rich : Rich (ds ++ d ∷ [])

-- What follows from that all fit for a win.
fair_of : (red : Bool) (walls : List (List ℕ)) (ds : List Deed) → ((number : ℕ) → is_wall red (wall_of walls number) ≡ true) → all_fit red [] ds ≡ true → Rich ds → Fair red walls ds
fair_of red walls ds h fit rich = record {
  whole = h;
  honba = (may_stand red ds fit).honba;
  rich = rich_few red ds fit rich;
  real = hand_real red ds fit;
}

-- one deed more

-- Before a hand was dealt there is nothing.
nothing_stands : (wall : List ℕ) (stage : Stage) → is_begun stage ≡ false → owes_dora stage ≡ 0 → owes_tile stage ≡ 0 → ((seat : ℕ) → holds_more stage seat ≡ 0) → StandsAt wall [] stage
unfolding up
nothing_stands wall stage begun dora tile more = record {
  kinds = λ kind. rw begun refl;
  hands = λ seat. rw (begun, more seat) refl;
  shown = rw (begun, dora) refl;
  taken = rw tile refl;
  fresh = rw begun refl;
  live = omega arith;
  four = omega arith;
  held = λ seat face. omega arith;
  seats = All-nil (λ s. s < 4);
}

no_hand_stands : (wall : List ℕ) → StandsAt wall [] NoHand
no_hand_stands wall = nothing_stands wall NoHand refl refl refl (λ seat. refl)

-- Where nothing was dealt no hand is under way.
not_dealt : (wall : List ℕ) (stage : Stage) → StandsAt wall [] stage → is_begun stage ≡ false
not_dealt wall NoGame s = refl
not_dealt wall NoHand s = refl
not_dealt wall Waits s = absurd (omega (arith, s.shown))
not_dealt wall (Acts who) s = absurd (omega (arith, s.shown))
not_dealt wall MadeKan s = absurd (omega (arith, s.taken))
not_dealt wall ShowedDora s = absurd (omega (arith, s.taken))

-- The wall of a hand is the one that its deeds belong to.
wall_is : (walls : List (List ℕ)) (ds : List Deed) (d : Deed) → wall_for walls ds d ≡ wall_now walls (ds ++ d ∷ [])
wall_is walls ds d = ap (wall_of walls) (number (is_hand_start d) (length (starts ds)) (length (starts (ds ++ d ∷ []))) (starts_more ds d))
  where
    number : (b : Bool) (n m : ℕ) → m ≡ n + cond b 1 0 → cond b n (n - 1) ≡ m - 1
    number true n m e = omega arith
    number false n m e = omega arith

-- What stands before a deed in its own hand.
before_stands : (red : Bool) (walls : List (List ℕ)) (ds : List Deed) (d : Deed) → Sound red walls ds → stage_for (stage_of ds) d ≡ stage_before (stage_of ds) d →
    StandsAt (wall_for walls ds d) (before_in (hand ds) d) (stage_before (stage_of ds) d)
before_stands red walls ds (StartHand round number honba deposits dealer indicator hands) s e = no_hand_stands (wall_of walls (length (starts ds)))
before_stands red walls ds other s e = subst (StandsAt (wall_now walls ds) (hand ds)) e s.standing

-- A deed after nothing of a hand that doesn't start one starts the game.
no_hand_yet : (wall : List ℕ) (stage : Stage) (d : Deed) → is_hand_start d ≡ false → is_begun (stage_before stage d) ≡ false →
    StandsAt wall [] (stage_before stage d) → StandsAt wall [] (stage_after stage d)
no_hand_yet wall stage (StartGame names) h k s = no_hand_stands wall
no_hand_yet wall stage (StartHand round number honba deposits dealer indicator hands) h k s = cc
no_hand_yet wall stage (Draw who tile true) h k s = cc
no_hand_yet wall stage (Draw who tile false) h k s = cc
no_hand_yet wall stage (Discard who tile drawn) h k s = cc
no_hand_yet wall stage (Chi who target tile a b) h k s = cc
no_hand_yet wall stage (Pon who target tile a b) h k s = cc
no_hand_yet wall stage (OpenKan who target tile a b c) h k s = cc
no_hand_yet wall stage (ClosedKan who a b c x) h k s = cc
no_hand_yet wall stage (AddedKan who tile a b c) h k s = cc
no_hand_yet wall stage (Dora tile) h k s = cc
no_hand_yet wall stage (Reach who) h k s = cc
no_hand_yet wall stage (ReachAccepted who points bid) h k s = cc
no_hand_yet wall stage other h k s = s

deed_fits : (red : Bool) (walls : List (List ℕ)) (ds : List Deed) (d : Deed) → ((number : ℕ) → is_wall red (wall_of walls number) ≡ true) →
    Sound red walls ds → IsNext red walls ds d → fits red ds d ≡ true
deed_fits red walls ds d h s next = next_fits red walls ds d (h _) (before_stands red walls ds d s next.stage) next

after_stands : (red : Bool) (walls : List (List ℕ)) (ds : List Deed) (d : Deed) → ((number : ℕ) → is_wall red (wall_of walls number) ≡ true) → Sound red walls ds → IsNext red walls ds d →
    StandsAt (wall_for walls ds d) (hand (ds ++ d ∷ [])) (stage_after (stage_of ds) d)
after_stands red walls ds d h s next =
    hand_with (λ xs. StandsAt (wall_for walls ds d) xs (stage_after (stage_of ds) d)) ds d
    (λ not_start empty. nothing not_start empty)
    (keeps (stage_of ds) (wall_for walls ds d) (before_in (hand ds) d) d (deals_well red (wall_for walls ds d) (h _)) (before_stands red walls ds d s next.stage) (inside red walls ds d next))
  where
    stays : is_hand_start d ≡ false → stage_of ds ≡ stage_before (stage_of ds) d
    stays not_start = ap (λ b. cond b NoHand (stage_of ds)) (sym not_start) ∙ next.stage

    stands_before : is_hand_start d ≡ false → hand ds ≡ [] → StandsAt (wall_now walls ds) [] (stage_before (stage_of ds) d)
    stands_before not_start empty =
        subst (λ (xs : List Deed). StandsAt (wall_now walls ds) xs (stage_before (stage_of ds) d)) empty (subst (StandsAt (wall_now walls ds) (hand ds)) (stays not_start) s.standing)

    nothing : is_hand_start d ≡ false → hand ds ≡ [] → StandsAt (wall_for walls ds d) [] (stage_after (stage_of ds) d)
    nothing not_start empty =
        let old = stands_before not_start empty in
        let begun : is_begun (stage_before (stage_of ds) d) ≡ false = not_dealt (wall_now walls ds) (stage_before (stage_of ds) d) old in
        no_hand_yet (wall_for walls ds d) (stage_of ds) d not_start begun
        (subst (λ b. StandsAt (wall_of walls (cond b (length (starts ds)) (hand_number ds))) [] (stage_before (stage_of ds) d)) (sym not_start) old)

nothing_before : (ds : List Deed) → is_none (newest ds) ≡ true → ds ≡ []
nothing_before [] h = refl
nothing_before (x ∷ ds) h = absurd (no (sym (ap is_none (slice_get-get_or (x ∷ ds) (length (x ∷ ds) - 1) x (inside (length ds)))) ∙ h))
  where
    no : false ≡ true → ⊥
    no e = cc

    inside : (n : ℕ) → suc n - 1 < suc n
    inside n = omega arith

-- A start of a game is the first deed, so no hand was started.
none_more : (ds : List Deed) (d : Deed) → is_in_place (ground_of ds) d ≡ true → is_after_start (newest (ds ++ d ∷ [])) ≡ true → length (starts (ds ++ d ∷ [])) ≡ 0
unfolding ground_of
none_more ds d place h = by_deed d place (ap is_after_start (sym (newest_more ds d)) ∙ h)
  where
    by_deed : (x : Deed) → is_in_place (ground_of ds) x ≡ true → is_after_start (Some x) ≡ true → length (starts (ds ++ x ∷ [])) ≡ 0
    by_deed (StartGame names) p k = ap (λ (xs : List Deed). length (starts (xs ++ StartGame names ∷ []))) (nothing_before ds p)
    by_deed other p k = cc

sound_more : (red : Bool) (walls : List (List ℕ)) (ds : List Deed) (d : Deed) → ((number : ℕ) → is_wall red (wall_of walls number) ≡ true) →
    Sound red walls ds → Adds red walls ds d → Sound red walls (ds ++ d ∷ [])
sound_more red walls ds d h s adds = record {
  standing = stands;
  fit = fit;
  seated = seated;
  known = record {
    fair = fair_of red walls (ds ++ d ∷ []) h fit adds.rich;
    none = none_more ds d adds.next.place;
    later = next_stands red (ds ++ d ∷ []) fit;
    kans = stands.seats;
    seated = seated;
    real = subst (IfAny (λ d. has_tiles red d ≡ true)) (sym (newest_more ds d)) adds.next.tiles;
    promised = promised_more red walls ds d s.fit adds.next adds.promise;
    free = free_more red walls ds d s.fit s.unlocked adds.next;
  };
  unlocked = unlocked_more red walls ds d s.fit adds.next adds.promise;
  rich = adds.rich;
}
  where
    stands : StandsAt (wall_now walls (ds ++ d ∷ [])) (hand (ds ++ d ∷ [])) (stage_of (ds ++ d ∷ []))
    stands =
        subst (StandsAt (wall_now walls (ds ++ d ∷ [])) (hand (ds ++ d ∷ []))) (sym (stage_more ds d))
        (subst (λ (wall : List ℕ). StandsAt wall (hand (ds ++ d ∷ [])) (stage_after (stage_of ds) d)) (wall_is walls ds d) (after_stands red walls ds d h s adds.next))

    fit : all_fit red [] (ds ++ d ∷ []) ≡ true
    fit = all_fit-append red [] ds d s.fit (deed_fits red walls ds d h s adds.next)

    seated : IfAny (λ d. has_seats d ≡ true) (newest (ds ++ d ∷ []))
    seated = subst (IfAny (λ d. has_seats d ≡ true)) (sym (newest_more ds d)) adds.next.seats

-- a deed that is played

start_next : (red : Bool) (walls : List (List ℕ)) (d : Deed) → IsTrue (is_game_start d) → IsNext red walls [] d
unfolding hand ground_of
start_next red walls (StartGame names) h = record {
  place = refl;
  seats = refl;
  held = λ seat. refl;
  triplet = refl;
  even = refl;
  tiles = refl;
  live = refl;
  once = refl;
  pointed = refl;
  stage = refl;
  brings = tt;
}
start_next red walls (StartHand round number honba deposits dealer indicator hands) h = cc
start_next red walls (Draw who tile replacement) h = cc
start_next red walls (Discard who tile drawn) h = cc
start_next red walls (Chi who target tile a b) h = cc
start_next red walls (Pon who target tile a b) h = cc
start_next red walls (OpenKan who target tile a b c) h = cc
start_next red walls (ClosedKan who a b c d) h = cc
start_next red walls (AddedKan who tile a b c) h = cc
start_next red walls (Dora tile) h = cc
start_next red walls (Reach who) h = cc
start_next red walls (ReachAccepted who points bid) h = cc
start_next red walls (Win who target tile unders own yaku fu han value deltas points rest) h = cc
start_next red walls (DrawnHand reason hands ready deltas points) h = cc
start_next red walls EndHand h = cc
start_next red walls (EndGame points deposits) h = cc

if_some : {A : Type 0} (P : A → Type 0) (o : Option A) (d : A) → IfAny P o → o ≡ Some d → P d
if_some P o d h e = subst (IfAny P) e h

given_adds : (rules : Rules) (walls : List (List ℕ)) (ds : List Deed) (given : Four Answer) (d : Deed) → Sound rules.red walls ds → AllLawful rules ds given → outcome rules walls ds given ≡ Some d →
    Adds rules.red walls ds d
given_adds rules walls ds given d s lawful e = record {
  next = if_some (IsNext rules.red walls ds) (outcome rules walls ds given) d (outcome_next rules walls ds given s.known lawful) e;
  promise = if_some (Promise rules.red walls ds) (outcome rules walls ds given) d (outcome_owes rules walls ds given s.known lawful) e;
  rich = if_some (λ x. Rich (ds ++ x ∷ [])) (outcome rules walls ds given) d (rich_next rules walls ds given s.known s.rich s.fit lawful) e;
}

pub behind_adds : (rules : Rules) (walls : List (List ℕ)) (ds : List Deed) (d : Deed) → Sound rules.red walls ds → IsPlayedBehind rules walls ds d → Adds rules.red walls ds d
behind_adds rules walls [] d s played = record { next = start_next rules.red walls d played; promise = game_owes_nothing rules.red walls d played; rich = start_rich d played }
behind_adds rules walls (first ∷ others) d s played = given_adds rules walls (first ∷ others) played.given d s played.lawful played.gives

-- all of them

nothing_sound : (red : Bool) (walls : List (List ℕ)) → ((number : ℕ) → is_wall red (wall_of walls number) ≡ true) → Sound red walls []
unfolding hand
nothing_sound red walls h = record {
  standing = nothing_stands (wall_of walls 0) NoGame refl refl refl (λ seat. refl);
  fit = refl;
  seated = tt;
  known = record {
    fair = fair_of red walls [] h refl nothing_rich;
    none = λ k. refl;
    later = next_stands red [] refl;
    kans = All-nil (λ s. s < 4);
    seated = tt;
    real = tt;
    promised = tt;
    free = λ who tile drawn e. absurd (no_deed (Discard who tile drawn) e);
  };
  unlocked = λ who e. absurd (no_deed (Reach who) e);
  rich = nothing_rich;
}
  where
    no_deed : (d : Deed) → None ≡ Some d → ⊥
    no_deed d e = cc

all_sound : (rules : Rules) (walls : List (List ℕ)) (before ds : List Deed) → ((number : ℕ) → is_wall rules.red (wall_of walls number) ≡ true) →
    Sound rules.red walls before → AllPlayed rules walls before ds →
    Sound rules.red walls (before ++ ds)
all_sound rules walls before [] h s played = subst (Sound rules.red walls) (sym (append-nil before)) s
all_sound rules walls before (d ∷ ds) h s played =
    subst (Sound rules.red walls) (append_assoc before (d ∷ []) ds)
    (all_sound rules walls (before ++ d ∷ []) ds h (sound_more rules.red walls before d h s (behind_adds rules walls before d s played.0)) played.1)

pub played_sound : (rules : Rules) (walls : List (List ℕ)) (ds : List Deed) → ((number : ℕ) → is_wall rules.red (wall_of walls number) ≡ true) → IsPlayed rules walls ds → Sound rules.red walls ds
played_sound rules walls ds h played = all_sound rules walls [] ds h (nothing_sound rules.red walls h) played

pub played_deeds_fit : PlayedDeedsFit
played_deeds_fit rules walls ds h played = (played_sound rules walls ds h played).fit

-- Deeds that are played, and one more.
all_played-append : (rules : Rules) (walls : List (List ℕ)) (before ds : List Deed) (d : Deed) → AllPlayed rules walls before ds → IsPlayedBehind rules walls (before ++ ds) d →
    AllPlayed rules walls before (ds ++ d ∷ [])
all_played-append rules walls before [] d h k = (subst (λ (xs : List Deed). IsPlayedBehind rules walls xs d) (append-nil before) k, tt)
all_played-append rules walls before (x ∷ ds) d h k =
    (h.0, all_played-append rules walls (before ++ x ∷ []) ds d h.1 (subst (λ (xs : List Deed). IsPlayedBehind rules walls xs d) (sym (append_assoc before (x ∷ []) ds)) k))

pub played_more : PlayedWithOneMore
played_more rules walls ds d h k = all_played-append rules walls [] ds d h k

all_played-less : (rules : Rules) (walls : List (List ℕ)) (before ds : List Deed) (d : Deed) → AllPlayed rules walls before (ds ++ d ∷ []) →
    AllPlayed rules walls before ds × IsPlayedBehind rules walls (before ++ ds) d
all_played-less rules walls before [] d h = (tt, subst (λ (xs : List Deed). IsPlayedBehind rules walls xs d) (sym (append-nil before)) h.0)
all_played-less rules walls before (x ∷ ds) d h =
    let less = all_played-less rules walls (before ++ x ∷ []) ds d h.1 in
    ((h.0, less.0), subst (λ (xs : List Deed). IsPlayedBehind rules walls xs d) (append_assoc before (x ∷ []) ds) less.1)

pub played_less : PlayedWithoutTheLast
played_less rules walls ds d h = all_played-less rules walls [] ds d h

no_first : (rules : Rules) (walls : List (List ℕ)) (given : Four Answer) (d : Deed) → outcome rules walls [] given ≡ Some d → ⊥
unfolding outcome
no_first rules walls given d e = cc

pub given_behind : (rules : Rules) (walls : List (List ℕ)) (ds : List Deed) (given : Four Answer) (d : Deed) → AllLawful rules ds given →
    outcome rules walls ds given ≡ Some d → IsPlayedBehind rules walls ds d
given_behind rules walls [] given d lawful e = absurd (no_first rules walls given d e)
given_behind rules walls (first ∷ others) given d lawful e = record { given = given; lawful = lawful; gives = e }

pub next_of_played_fits : NextOfPlayedFits
next_of_played_fits rules walls ds given d h played lawful e =
    let s = played_sound rules walls ds h played in
    (deed_fits rules.red walls ds d h s (given_adds rules walls ds given d s lawful e).next, played_more rules walls ds d played (given_behind rules walls ds given d lawful e))

-- So does any deed that is played after them.
pub behind_fits : (rules : Rules) (walls : List (List ℕ)) (ds : List Deed) (d : Deed) →
    ((number : ℕ) → is_wall rules.red (wall_of walls number) ≡ true) → IsPlayed rules walls ds → IsPlayedBehind rules walls ds d →
    fits rules.red ds d ≡ true
behind_fits rules walls ds d h played behind =
    let s = played_sound rules walls ds h played in
    deed_fits rules.red walls ds d h s (behind_adds rules walls ds d s behind).next
