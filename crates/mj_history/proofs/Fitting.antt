-- A game as far as its entries have come: its deeds are played, and the answers in its slots lawful.
use Rattle.std.proofs.Common.{◌≡◌, ℕ, zero, suc, ◌+◌, ◌<◌, ◌≤◌, ◌==◌, Bool, true, false, cond, List, [], ◌∷◌, length, refl, sym, subst, arith}
use Rattle.std.specs.Prelude.{Option, Some, None, unwrap_or, slice_get, nat_lt, IsTrue}
use Rattle.std.specs.Option.{option_map_or}
use Rattle.std.proofs.lemmas.Bool.{and_parts}
use Rattle.std.proofs.lemmas.Option.{slice_get_within}
use Rattle.mj_ports.specs.declared.entry.Entry.{Entry}
use Rattle.mj_ports.specs.declared.entry.Entry.TheVariants.{Sat, Back, Said, Gone, Expired}
use Rattle.mj_deeds.specs.declared.four.Four.{Four}
use Rattle.mj_deeds.specs.declared.rule.Rule.{Rule}
use Rattle.mj_deeds.specs.declared.answer.Answer.{Answer}
use Rattle.mj_deeds.specs.Answers.{is_in_form}
use Rattle.mj_deeds.specs.declared.deed.Deed.{Deed}
use Rattle.mj_deeds.specs.declared.deed.Deed.TheVariants.{StartGame}
use Rattle.mj_wall.specs.declared.setting.Rules.{Rules}
use Rattle.mj_wall.specs.declared.setting.Setting.{Setting}
use Rattle.mj_wall.specs.Places.{is_wall}
use Rattle.mj_rules.specs.Broken.{broken_rule}
use Rattle.mj_rules.specs.Default.{default_answer}
use Rattle.mj_rules.specs.Outcome.{outcome, wall_of}
use Rattle.mj_rules.specs.View.{view_of}
use Rattle.mj_rules.specs.Played.{IsLawful, AllLawful, are_listed_names, are_names, IsPlayedBehind, IsPlayed}
use Rattle.mj_rules.proofs.Playing.{each_is_wall, played_deeds_fit, played_more, given_behind, behind_fits}
use Rattle.mj_rules.proofs.Defaults.{fitting_default_is_lawful, played_default_is_lawful}
use Rattle.mj_window.specs.Slots.{put_at}
use Rattle.mj_history.proofs.Places.{no_length}
use Rattle.mj_history.proofs.Seats.{names_in, AreSeats, own_seats, no_seats}
use Rattle.mj_history.specs.After.{After, Chair, Verdict, Taken, Late, Refused, Closing, verdict_by, verdict_on, slots_after, after_said, after_gone, after_back, own_part}
use Rattle.mj_history.specs.After.{names_of, answers_in, is_window_closed, next_deed, with_deed, step, after_from, after, before_all, IsLawfulIn, AreLawfulIn}
use Rattle.mj_history.specs.Legal.{can_say, is_permitted, says_in_form, all_permitted, has_wall, IsLegal}
use Rattle.mj_history.specs.Laws.{LegalGamesArePlayed, TakenAnswersAreLawful, OwnPartCanGoOn, NextDeedIsPlayed, LegalDeedsFit, NextDeedFits}

-- The wall of each hand is whole.
abbrev EachIsWhole : Setting → Type 0
EachIsWhole setting = (number : ℕ) → is_wall setting.rules.red (wall_of setting.walls number) ≡ true

-- What is true of a game as far as its entries have come.
record IsSound (setting : Setting) (now : After) : Type 0 where
  played : IsPlayed setting.rules setting.walls now.deeds
  slots : AreLawfulIn setting.rules now.deeds now.slots
  seats : AreSeats now.chairs

-- what an entry changes of its own seat

refused_or_closing : (b : Bool) (rule : Rule) → cond b (Refused rule) (Closing rule) ≡ Taken → ⊥
refused_or_closing true rule h = cc
refused_or_closing false rule h = cc

taken_clean : (late : Bool) (refused : ℕ) (o : Option Rule) → cond late Late (verdict_by refused o) ≡ Taken → o ≡ None
taken_clean true refused o h = cc
taken_clean false refused None h = refl
taken_clean false refused (Some rule) h = absurd (refused_or_closing (nat_lt refused 15) rule h)

put_kept : (rules : Rules) (ds : List Deed) (slots : Four (Option Answer)) (seat : ℕ) (answer : Answer) → seat < 4 → IsLawful rules ds seat answer →
    AreLawfulIn rules ds slots → AreLawfulIn rules ds (put_at slots seat answer)
put_kept rules ds slots zero answer small h s = record { first = h; second = s.second; third = s.third; fourth = s.fourth }
put_kept rules ds slots (suc zero) answer small h s = record { first = s.first; second = h; third = s.third; fourth = s.fourth }
put_kept rules ds slots (suc (suc zero)) answer small h s = record { first = s.first; second = s.second; third = h; fourth = s.fourth }
put_kept rules ds slots (suc (suc (suc zero))) answer small h s = record { first = s.first; second = s.second; third = s.third; fourth = h }
put_kept rules ds slots (suc (suc (suc (suc n)))) answer small h s = absurd (omega arith)

filled_kept : (rules : Rules) (ds : List Deed) (slots : Four (Option Answer)) (seat : ℕ) (answer : Answer) (v : Verdict) → seat < 4 →
    (v ≡ Taken → IsLawful rules ds seat answer) → AreLawfulIn rules ds slots → AreLawfulIn rules ds (slots_after v slots seat answer)
filled_kept rules ds slots seat answer Taken small h s = put_kept rules ds slots seat answer small (h refl) s
filled_kept rules ds slots seat answer Late small h s = s
filled_kept rules ds slots seat answer (Refused rule) small h s = s
filled_kept rules ds slots seat answer (Closing rule) small h s = s

said_slots : (rules : Rules) (now : After) (seat : ℕ) (answer : Answer) (held : Option Chair) → is_in_form answer ≡ true →
    slice_get now.chairs seat ≡ held → length now.chairs ≤ 4 → AreLawfulIn rules now.deeds now.slots →
    AreLawfulIn rules (option_map_or (after_said rules now seat answer) held now).deeds (option_map_or (after_said rules now seat answer) held now).slots
unfolding after_said
said_slots rules now seat answer None form e few s = s
said_slots rules now seat answer (Some chair) form e few s =
    filled_kept rules now.deeds now.slots seat answer (verdict_on rules now.deeds seat answer chair.progress) (below _ _ (slice_get_within now.chairs seat chair e) few)
    (λ h. record { form = form; clean = taken_clean (nat_lt (chair.progress.due + 1) (length now.deeds)) chair.progress.refused (broken_rule rules now.deeds seat answer) h }) s
  where
    below : (seat n : ℕ) → seat < n → n ≤ 4 → seat < 4
    below seat n h k = omega arith

gone_slots : (rules : Rules) (now : After) (seat : ℕ) (held : Option Chair) → AreLawfulIn rules now.deeds now.slots →
    AreLawfulIn rules (option_map_or (after_gone rules now seat) held now).deeds (option_map_or (after_gone rules now seat) held now).slots
unfolding after_gone
gone_slots rules now seat None s = s
gone_slots rules now seat (Some chair) s = s

back_slots : (rules : Rules) (now : After) (author seat : ℕ) (held : Option Chair) → AreLawfulIn rules now.deeds now.slots →
    AreLawfulIn rules (option_map_or (after_back rules now author seat) held now).deeds (option_map_or (after_back rules now author seat) held now).slots
unfolding after_back
back_slots rules now author seat None s = s
back_slots rules now author seat (Some chair) s = s

own_slots : (setting : Setting) (now : After) (entry : Entry Answer) → says_in_form entry ≡ true → IsSound setting now →
    AreLawfulIn setting.rules (own_part setting now entry).deeds (own_part setting now entry).slots
unfolding own_part
own_slots setting now (Sat author name key) f s = s.slots
own_slots setting now (Said author seat answer) f s = said_slots setting.rules now seat answer (slice_get now.chairs seat) f refl s.seats.few s.slots
own_slots setting now (Back author seat) f s = back_slots setting.rules now author seat (slice_get now.chairs seat) s.slots
own_slots setting now (Gone author seat) f s = gone_slots setting.rules now seat (slice_get now.chairs seat) s.slots
own_slots setting now (Expired author window t1 t2) f s = s.slots

said_deeds : (rules : Rules) (now : After) (seat : ℕ) (answer : Answer) (held : Option Chair) → (option_map_or (after_said rules now seat answer) held now).deeds ≡ now.deeds
unfolding after_said
said_deeds rules now seat answer None = refl
said_deeds rules now seat answer (Some chair) = refl

gone_deeds : (rules : Rules) (now : After) (seat : ℕ) (held : Option Chair) → (option_map_or (after_gone rules now seat) held now).deeds ≡ now.deeds
unfolding after_gone
gone_deeds rules now seat None = refl
gone_deeds rules now seat (Some chair) = refl

back_deeds : (rules : Rules) (now : After) (author seat : ℕ) (held : Option Chair) → (option_map_or (after_back rules now author seat) held now).deeds ≡ now.deeds
unfolding after_back
back_deeds rules now author seat None = refl
back_deeds rules now author seat (Some chair) = refl

pub own_deeds : (setting : Setting) (now : After) (entry : Entry Answer) → (own_part setting now entry).deeds ≡ now.deeds
unfolding own_part
own_deeds setting now (Sat author name key) = refl
own_deeds setting now (Said author seat answer) = said_deeds setting.rules now seat answer (slice_get now.chairs seat)
own_deeds setting now (Back author seat) = back_deeds setting.rules now author seat (slice_get now.chairs seat)
own_deeds setting now (Gone author seat) = gone_deeds setting.rules now seat (slice_get now.chairs seat)
own_deeds setting now (Expired author window t1 t2) = refl

-- What a permitted entry says is in form.
permitted_form : (setting : Setting) (now : After) (entry : Entry Answer) → is_permitted setting now entry ≡ true → says_in_form entry ≡ true
permitted_form setting now (Said author seat answer) p = (and_parts (is_in_form answer) (can_say now author seat) p).0
permitted_form setting now (Sat author name key) p = refl
permitted_form setting now (Back author seat) p = refl
permitted_form setting now (Gone author seat) p = refl
permitted_form setting now (Expired author window t1 t2) p = refl

own_sound : (setting : Setting) (now : After) (entry : Entry Answer) → is_permitted setting now entry ≡ true → IsSound setting now → IsSound setting (own_part setting now entry)
own_sound setting now entry p s = record {
  played = subst (IsPlayed setting.rules setting.walls) (sym (own_deeds setting now entry)) s.played;
  slots = own_slots setting now entry (permitted_form setting now entry p) s;
  seats = own_seats setting now entry p s.seats;
}

-- the deed that it adds

-- The default answer of each seat is lawful.
abbrev AreDefaultsLawful : Rules → List Deed → Type 0
AreDefaultsLawful rules ds = (seat : ℕ) → seat < 4 → IsLawful rules ds seat (default_answer rules ds seat)

slot_lawful : (rules : Rules) (ds : List Deed) (seat : ℕ) (slot : Option Answer) → IsLawful rules ds seat (default_answer rules ds seat) → IsLawfulIn rules ds seat slot →
    IsLawful rules ds seat (unwrap_or slot (default_answer rules ds seat))
slot_lawful rules ds seat None h s = h
slot_lawful rules ds seat (Some answer) h s = s

ready_lawful : (rules : Rules) (ds : List Deed) (slots : Four (Option Answer)) → AreDefaultsLawful rules ds → AreLawfulIn rules ds slots → AllLawful rules ds (answers_in rules ds slots)
ready_lawful rules ds slots h s = record {
  first = slot_lawful rules ds 0 slots.first (h 0 (omega arith)) s.first;
  second = slot_lawful rules ds 1 slots.second (h 1 (omega arith)) s.second;
  third = slot_lawful rules ds 2 slots.third (h 2 (omega arith)) s.third;
  fourth = slot_lawful rules ds 3 slots.fourth (h 3 (omega arith)) s.fourth;
}

played_defaults : (setting : Setting) (ds : List Deed) → EachIsWhole setting → IsPlayed setting.rules setting.walls ds → AreDefaultsLawful setting.rules ds
played_defaults setting ds whole played seat small = played_default_is_lawful setting.rules setting.walls ds seat small whole played

-- Before the first deed each seat passes.
first_defaults : (rules : Rules) → AreDefaultsLawful rules []
unfolding view_of
first_defaults rules seat small = fitting_default_is_lawful rules [] seat small refl refl

four_names : (chairs : List Chair) → (length chairs == 4) ≡ true → are_listed_names (names_in chairs) ≡ true → are_names (names_of chairs) ≡ true
four_names [] e h = cc
four_names (a ∷ []) e h = cc
four_names (a ∷ b ∷ []) e h = cc
four_names (a ∷ b ∷ c ∷ []) e h = cc
four_names (a ∷ b ∷ c ∷ d ∷ []) e h = h
four_names (a ∷ b ∷ c ∷ d ∷ f ∷ chairs) e h = absurd (more (length chairs) e)
  where
    more : (n : ℕ) → ((suc (suc (suc (suc (suc n))))) == 4) ≡ true → ⊥
    more n h = grind (arith, h)

start_behind : (rules : Rules) (walls : List (List ℕ)) (ds : List Deed) (names : Four (List ℕ)) → (length ds == 0) ≡ true → are_names names ≡ true → IsPlayedBehind rules walls ds (StartGame names)
start_behind rules walls [] names e h = h
start_behind rules walls (d ∷ ds) names e h = absurd (no_length d ds e)

next_behind : (setting : Setting) (now : After) (entry : Entry Answer) (d : Deed) → EachIsWhole setting → IsSound setting now →
    next_deed setting now entry ≡ Some d → IsPlayedBehind setting.rules setting.walls now.deeds d
unfolding next_deed
next_behind setting now entry d whole s e = by_length (length now.deeds == 0) refl e
  where
    none_is : (d : Deed) → None ≡ Some d → ⊥
    none_is d e = cc

    started : (b : Bool) → (length now.deeds == 0) ≡ true → (length now.chairs == 4) ≡ b → cond b (Some (StartGame (names_of now.chairs))) None ≡ Some
        d → IsPlayedBehind setting.rules setting.walls now.deeds d
    started true first four e =
        subst (IsPlayedBehind setting.rules setting.walls now.deeds) (some_is _ d e)
        (start_behind setting.rules setting.walls now.deeds (names_of now.chairs) first (four_names now.chairs four s.seats.named))
      where
        some_is : (a b : Deed) → Some a ≡ Some b → a ≡ b
        some_is a b e = cc
    started false first four e = absurd (none_is d e)

    by_ready : (b : Bool) → cond b (outcome setting.rules setting.walls now.deeds (answers_in setting.rules now.deeds now.slots)) None ≡ Some d → IsPlayedBehind setting.rules setting.walls now.deeds d
    by_ready true e =
        given_behind setting.rules setting.walls now.deeds (answers_in setting.rules now.deeds now.slots) d
        (ready_lawful setting.rules now.deeds now.slots (played_defaults setting now.deeds whole s.played) s.slots) e
    by_ready false e = absurd (none_is d e)

    by_length : (b : Bool) → (length now.deeds == 0) ≡ b →
        cond b (cond (length now.chairs == 4) (Some (StartGame (names_of now.chairs))) None)
        (cond (is_window_closed now entry) (outcome setting.rules setting.walls now.deeds (answers_in setting.rules now.deeds now.slots)) None) ≡
        Some d →
        IsPlayedBehind setting.rules setting.walls now.deeds d
    by_length true first e = started (length now.chairs == 4) first refl e
    by_length false later e = by_ready (is_window_closed now entry) e

with_deed_sound : (setting : Setting) (now : After) (entry : Entry Answer) (added : Option Deed) → EachIsWhole setting →
    next_deed setting now entry ≡ added → IsSound setting now → IsSound setting (with_deed now added)
with_deed_sound setting now entry None whole e s = s
with_deed_sound setting now entry (Some d) whole e s = record {
  played = played_more setting.rules setting.walls now.deeds d s.played (next_behind setting now entry d whole s e);
  slots = record { first = tt; second = tt; third = tt; fourth = tt };
  seats = s.seats;
}

-- a whole game

step_sound : (setting : Setting) (now : After) (entry : Entry Answer) → EachIsWhole setting → is_permitted setting now entry ≡ true → IsSound setting now → IsSound setting (step setting now entry)
unfolding step
step_sound setting now entry whole p s =
    let next = with_deed_sound setting (own_part setting now entry) entry (next_deed setting (own_part setting now entry) entry) whole refl (own_sound setting now entry p s) in
    record { played = next.played; slots = next.slots; seats = next.seats }

game_sound : (setting : Setting) (now : After) (entries : List (Entry Answer)) → EachIsWhole setting → all_permitted setting now entries ≡ true →
    IsSound setting now → IsSound setting (after_from setting now entries)
game_sound setting now [] whole p s = s
game_sound setting now (entry ∷ entries) whole p s =
    let parts = and_parts (is_permitted setting now entry) (all_permitted setting (step setting now entry) entries) p in
    game_sound setting (step setting now entry) entries whole parts.1 (step_sound setting now entry whole parts.0 s)

some_walls : (walls : List (List ℕ)) → IsTrue (has_wall walls) → 1 ≤ length walls
some_walls [] h = cc
some_walls (wall ∷ walls) h = omega arith

-- Where there is an entry there is a wall, and so the wall of each hand is whole.
legal_walls : (setting : Setting) (entry : Entry Answer) (entries : List (Entry Answer)) → IsLegal setting (entry ∷ entries) → EachIsWhole setting
legal_walls setting entry entries legal = each_is_wall setting.rules.red setting.walls (some_walls setting.walls legal.ground) legal.whole

nothing_sound : (setting : Setting) → IsSound setting before_all
nothing_sound setting = record { played = tt; slots = record { first = tt; second = tt; third = tt; fourth = tt }; seats = no_seats }

legal_sound : (setting : Setting) (entries : List (Entry Answer)) → IsLegal setting entries → IsSound setting (after setting entries)
legal_sound setting [] legal = nothing_sound setting
legal_sound setting (entry ∷ entries) legal = game_sound setting before_all (entry ∷ entries) (legal_walls setting entry entries legal) legal.permitted (nothing_sound setting)

pub legal_games_are_played : LegalGamesArePlayed
legal_games_are_played setting entries legal = (legal_sound setting entries legal).played

pub taken_answers_are_lawful : TakenAnswersAreLawful
taken_answers_are_lawful setting entries legal = (legal_sound setting entries legal).slots

-- where a deed may be added

own_defaults : (setting : Setting) (entries : List (Entry Answer)) (entry : Entry Answer) → IsLegal setting entries →
    AreDefaultsLawful setting.rules (own_part setting (after setting entries) entry).deeds
own_defaults setting [] entry legal = subst (AreDefaultsLawful setting.rules) (sym (own_deeds setting before_all entry)) (first_defaults setting.rules)
own_defaults setting (first ∷ entries) entry legal =
    let now : After = after setting (first ∷ entries) in
    subst (AreDefaultsLawful setting.rules) (sym (own_deeds setting now entry))
    (played_defaults setting now.deeds (legal_walls setting first entries legal) (legal_sound setting (first ∷ entries) legal).played)

pub own_part_can_go_on : OwnPartCanGoOn
own_part_can_go_on setting entries entry legal form =
    let now : After = after setting entries in
    let own : After = own_part setting now entry in
    let s = legal_sound setting entries legal in
    let taken = own_slots setting now entry form s in
    record {
      played = subst (IsPlayed setting.rules setting.walls) (sym (own_deeds setting now entry)) s.played;
      taken = taken;
      ready = ready_lawful setting.rules own.deeds own.slots (own_defaults setting entries entry legal) taken;
    }

-- The first entry adds no deed.
none_at_first : (setting : Setting) (entry : Entry Answer) → next_deed setting (own_part setting before_all entry) entry ≡ None
unfolding own_part next_deed
none_at_first setting (Sat author name key) = refl
none_at_first setting (Said author seat answer) = refl
none_at_first setting (Back author seat) = refl
none_at_first setting (Gone author seat) = refl
none_at_first setting (Expired author window t1 t2) = refl

no_deed : (o : Option Deed) (d : Deed) → o ≡ None → o ≡ Some d → ⊥
no_deed o d e f = cc

added_behind : (setting : Setting) (entries : List (Entry Answer)) (entry : Entry Answer) (d : Deed) → IsLegal setting entries → is_permitted setting (after setting entries) entry ≡ true →
    next_deed setting (own_part setting (after setting entries) entry) entry ≡ Some d → IsPlayedBehind setting.rules setting.walls (after setting entries).deeds d
added_behind setting [] entry d legal p e = absurd (no_deed _ d (none_at_first setting entry) e)
added_behind setting (first ∷ entries) entry d legal p e =
    let now : After = after setting (first ∷ entries) in
    subst (λ (ds : List Deed). IsPlayedBehind setting.rules setting.walls ds d) (own_deeds setting now entry)
    (next_behind setting (own_part setting now entry) entry d (legal_walls setting first entries legal) (own_sound setting now entry p (legal_sound setting (first ∷ entries) legal)) e)

pub next_deed_is_played : NextDeedIsPlayed
next_deed_is_played setting entries entry d legal p e =
    played_more setting.rules setting.walls (after setting entries).deeds d (legal_sound setting entries legal).played (added_behind setting entries entry d legal p e)

-- what fits

pub legal_deeds_fit : LegalDeedsFit
legal_deeds_fit setting [] legal = refl
legal_deeds_fit setting (entry ∷ entries) legal =
    played_deeds_fit setting.rules setting.walls (after setting (entry ∷ entries)).deeds (legal_walls setting entry entries legal) (legal_games_are_played setting (entry ∷ entries) legal)

pub next_deed_fits : NextDeedFits
next_deed_fits setting [] entry d legal p e = absurd (no_deed _ d (none_at_first setting entry) e)
next_deed_fits setting (first ∷ entries) entry d legal p e =
    behind_fits setting.rules setting.walls (after setting (first ∷ entries)).deeds d
    (legal_walls setting first entries legal) (legal_games_are_played setting (first ∷ entries) legal)
    (added_behind setting (first ∷ entries) entry d legal p e)
