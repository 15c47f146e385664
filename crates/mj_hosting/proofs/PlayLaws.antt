-- What comes of the games of rooms.
use Rattle.std.proofs.Common.{◌≡◌, ◌⊎◌, ℕ, zero, suc, ◌<◌, Bool, true, false, List, [], ◌∷◌, ◌++◌, length, refl, ap, sym, subst, ◌∙◌, inl, inr, arith, reverse}
use Rattle.std.specs.Prelude.{Option, Some, IsPermutation, slice_get, flat_map}
use Rattle.std.specs.Io.KnownBytes.{Appends}
use Rattle.std.proofs.lemmas.Bool.{and_parts, and_from, false≢true}
use Rattle.std.proofs.lemmas.Bool.Decides.{eqb_tells}
use Rattle.std.proofs.lemmas.List.Concat.{flat_map-cons}
use Rattle.std.proofs.lemmas.List.Elements.{All-nil, All-cons, All-head, All-tail}
use Rattle.std.proofs.lemmas.List.Sorted.{IsPermutation-refl, IsPermutation-reverse}
use Rattle.mj_links.specs.Sinks.{WritesPrefix}
use Rattle.mj_words.specs.Asked.{ServedWith}
use Rattle.mj_ports.specs.declared.entry.Entry.{Entry}
use Rattle.mj_deeds.specs.declared.answer.Answer.{Answer}
use Rattle.mj_history.specs.After.{after}
use Rattle.mj_forms.specs.AnswerForms.{answer_of, join_of}
use Rattle.mj_history.specs.Shown.{shown_of, sits_of, hears_of, control_line}
use Rattle.mj_history.specs.Legal.{Game, IsLegal, is_over}
use Rattle.mj_handlers.specs.declared.visit.HandlerEnd.{HandlerEnd}
use Rattle.mj_handlers.specs.declared.visit.HandlerEnd.TheVariants as handled
use Rattle.mj_handlers.specs.declared.visit.Session.{Session}
use Rattle.mj_session.specs.Wires.{at_link}
use Rattle.mj_seats.specs.Workers.{IsPlayedBy}
use Rattle.mj_seats.specs.Tables.{AllEndWith, EndsWith}
use Rattle.mj_handlers.specs.Picks.{sits_at}
use Rattle.mj_served.specs.Served.{has_ended}
use Rattle.mj_served.specs.Plans.{TableGame, PlaysAt}
use Rattle.mj_served.proofs.Serving.{served}
use Rattle.mj_hosting.specs.declared.plays.ServeEnd.{ServeEnd}
use Rattle.mj_hosting.specs.declared.plays.ServeEnd.TheVariants as ends
use Rattle.mj_hosting.specs.declared.rooms.Rooms.{Rooms}
use Rattle.mj_hosting.specs.Plays.{AppendsLinks, Outside, outside, PlaysBy, AreAbandoned, HasLostEach, games_of, have_ended}
use Rattle.mj_hosting.specs.Rooms.{count_of, handlers_for, picked_for, text_for, plan_from}
use Rattle.mj_hosting.specs.Steps.{AreBegun, WritesGames, all_over, links_at, links_in}
use Rattle.mj_hosting.proofs.NewLaws.{in_none, beside}

-- What follows an opening that neither failed nor gave a link back.
pub after_opening : {L : Type 0} (Does : Outside L → Type 0) (ports : Option (List ℕ)) (faults after_faults : ℕ) (returned after_returned : Option (List (L × ℕ))) (readings written : Option (List ℕ))
    → after_faults ≡ faults → after_returned ≡ returned → Does (outside ports after_faults after_returned readings written) → Does (outside ports faults returned readings written)
after_opening Does ports faults after_faults returned after_returned readings written f r does =
    subst (λ (x : ℕ). Does (outside ports x returned readings written)) f
    (subst (λ (x : Option (List (_ × ℕ))). Does (outside ports after_faults x readings written)) r does)

-- the links of tables

module _ {L : Type 0} where
  -- Each game with the links of the sessions at its table.
  pub tables_of : List Game → List (List (Session L)) → List (TableGame L)
  tables_of [] rows = []
  tables_of (game ∷ games) [] = record { game = game; links = [] } ∷ tables_of games []
  tables_of (game ∷ games) (sessions ∷ rows) = record { game = game; links = links_at sessions } ∷ tables_of games rows

  all_links : (games : List Game) (rows : List (List (Session L))) → length rows ≡ length games → flat_map (λ (x : TableGame L). x.links) (tables_of games rows) ≡ links_in rows
  unfolding tables_of
  all_links [] [] size = refl
  all_links [] (sessions ∷ rows) size = absurd (omega (arith, size))
  all_links (game ∷ games) [] size = absurd (omega (arith, size))
  all_links (game ∷ games) (sessions ∷ rows) size =
      flat_map-cons (λ (x : TableGame L). x.links) (record { game = game; links = links_at sessions }) (tables_of games rows)
      ∙ ap (λ (l : List (L × ℕ)). links_at sessions ++ l) (all_links games rows (omega (arith, size)))

  -- The links of all tables are those of all sessions.
  apart : (games : List Game) (rows : List (List (Session L))) → length rows ≡ length games →
      IsPermutation (flat_map (λ (x : TableGame L). x.links) (tables_of games rows)) (reverse (links_in rows))
  apart games rows size =
      subst (λ (l : List (L × ℕ)). IsPermutation l (reverse (links_in rows))) (sym (all_links games rows size)) (IsPermutation-reverse (links_in rows))

  same_games : (games : List Game) (rows : List (List (Session L))) → games_of (tables_of games rows) ≡ games
  unfolding tables_of
  same_games [] rows = refl
  same_games (game ∷ games) [] = ap (λ (gs : List Game). game ∷ gs) (same_games games [])
  same_games (game ∷ games) (sessions ∷ rows) = ap (λ (gs : List Game). game ∷ gs) (same_games games rows)

  same_many : (games : List Game) (rows : List (List (Session L))) → length (tables_of games rows) ≡ length games
  unfolding tables_of
  same_many [] rows = refl
  same_many (game ∷ games) [] = ap (λ n. suc n) (same_many games [])
  same_many (game ∷ games) (sessions ∷ rows) = ap (λ n. suc n) (same_many games rows)

  -- The game of a table and the sessions at it.
  pub record IsAt (games : List Game) (rows : List (List (Session L))) (t : ℕ) (table : TableGame L) : Type 0 where
    pub game : Game
    pub sessions : List (Session L)
    pub in_games : slice_get games t ≡ Some game
    pub in_rows : slice_get rows t ≡ Some sessions
    pub is : record { game = game; links = links_at sessions } ≡ table

  pub table_at : (games : List Game) (rows : List (List (Session L))) (t : ℕ) (table : TableGame L) → length rows ≡ length games → slice_get (tables_of games rows) t ≡ Some table
      → IsAt games rows t table
  unfolding tables_of
  table_at [] rows t table size at = absurd (in_none t table at)
  table_at (game ∷ games) [] t table size at = absurd (omega (arith, size))
  table_at (game ∷ games) (sessions ∷ rows) zero table size at = record { game = game; sessions = sessions; in_games = refl; in_rows = refl; is = inside _ _ at }
    where
      inside : (a b : TableGame L) → Some a ≡ Some b → a ≡ b
      inside a b e = cc
  table_at (game ∷ games) (sessions ∷ rows) (suc t) table size at =
      let rest = table_at games rows t table (omega (arith, size)) at in
      record { game = rest.game; sessions = rest.sessions; in_games = rest.in_games; in_rows = rest.in_rows; is = rest.is }

-- the ends of handlers

module _ {F : Type 0} (over : Type 0) (made : F → Type 0) (number : F → ℕ) where
  lost_by : (by : ℕ) (end : HandlerEnd F) → (over → ⊥) → EndsWith over made number by end → (fault : F) × made fault × (number fault ≡ by)
  lost_by by handled.Over go h = absurd (go h)
  lost_by by (handled.Host fault) go h = (fault, h.0, h.1)
  lost_by by handled.NoMemory go h = absurd h

  -- Where some game goes on, each handler lost its host.
  pub each_lost : (count : ℕ) (ends : List (HandlerEnd F)) → (over → ⊥) → AllEndWith over made number count ends → HasLostEach made number count
  each_lost zero ends go h k low = absurd (omega (arith, low))
  each_lost (suc by) ends go (before, end, e, rest, last) k low = elim (eqb_tells k by) [
    | inl s ↦ subst (λ (n : ℕ). (fault : F) × made fault × (number fault ≡ n)) (sym s.1) (lost_by by end go last)
    | inr s ↦ each_lost by before go rest k (below k by low s.1)
  ]
    where
      below : (a b : ℕ) → a < suc b → (a ≡ b → ⊥) → a < b
      below a b l n = omega (arith, l, n)

pub more_lost : {F : Type 0} (old new : F → Type 0) (number : F → ℕ) (count : ℕ) → ((f : F) → old f → new f) → HasLostEach old number count → HasLostEach new number count
more_lost old new number count more all k low = let h = all k low in (h.0, more h.0 h.1, h.2)

-- whether all games have ended

ended : (games : List Game) → all_over games ≡ true → have_ended games
ended [] all = All-nil has_ended
ended (game ∷ games) all = let parts = and_parts (is_over (after game.setting game.entries).deeds) (all_over games) all in All-cons has_ended game games parts.0 (ended games parts.1)

not_ended : (games : List Game) → all_over games ≡ false → have_ended games → ⊥
not_ended games off all = false≢true (sym off ∙ over games all)
  where
    over : (gs : List Game) → have_ended gs → all_over gs ≡ true
    over [] all = refl
    over (g ∷ gs) all = and_from (is_over (after g.setting g.entries).deeds) (all_over gs) (All-head has_ended g gs all) (over gs (All-tail has_ended g gs all))

-- the command

module _ {L F : Type 0} (read left written : L → Option (List ℕ)) (read_faults write_faults : L → ℕ) (made : F → Type 0) (number : F → ℕ) where
  module _ (rooms : Rooms) (s : ServedWith) (first : ℕ → List (Entry Answer)) (old_readings new_readings : Option (List ℕ)) where
    -- What comes of a game that was played at this table.
    abbrev IsPlayed : ℕ → ℕ → Game → Game → List (Session L) → Type 0
    IsPlayed handlers t was game sessions =
        (game.setting ≡ was.setting) × IsLegal was.setting game.entries
        × IsPlayedBy (shown_of was.setting) answer_of join_of (sits_at (picked_for rooms) t (sits_of was.setting))
        (λ before author seat answer. hears_of was.setting before seat answer) control_line (at_link read left written read_faults write_faults)
        handlers was.entries game.entries sessions old_readings new_readings

    -- The game of each table is served there by the plan.
    pub served_each : (handlers : ℕ) (were games : List Game) (rows : List (List (Session L))) → handlers ≡ handlers_for rooms → AreBegun s first (count_of rooms) were
        → length games ≡ length were → length rows ≡ length were
        → ((t : ℕ) (was game : Game) (sessions : List (Session L)) → slice_get were t ≡ Some was → slice_get games t ≡ Some game → slice_get rows t ≡ Some sessions
        → IsPlayed handlers t was game sessions)
        → (t : ℕ) (table : TableGame L) → slice_get (tables_of games rows) t ≡ Some table
        → PlaysAt read left written read_faults write_faults (plan_from rooms s first) t table old_readings new_readings
    served_each handlers were games rows same new games_many rows_many played t table at =
        let found = table_at games rows t table (rows_many ∙ sym games_many) at in
        let before = beside games were t found.game (sym games_many) found.in_games in
        let is = subst (λ (was : Game). IsPlayed (handlers_for rooms) t was found.game found.sessions) (new.each t before.0 before.1)
        (subst (λ (h : ℕ). IsPlayed h t before.0 found.game found.sessions) same (played t before.0 found.game found.sessions before.1 found.in_games found.in_rows)) in
        subst (λ (x : TableGame L). PlaysAt read left written read_faults write_faults (plan_from rooms s first) t x old_readings new_readings) found.is
        (served read left written read_faults write_faults (plan_from rooms s first) t found.game found.sessions (links_at found.sessions) old_readings new_readings
        is.0 is.1 is.2 (IsPermutation-refl (links_at found.sessions)))

  -- The end of a command, by what was written of the games.
  module _ (rooms : Rooms) (s : ServedWith) (first : ℕ → List (Entry Answer)) (games : List Game) (rows : List (List (Session L))) (old new : Outside L)
      (many : length games ≡ count_of rooms) (rows_many : length rows ≡ length games) (opened : Appends old.ports new.ports (s.port ∷ []))
      (none : new.open_faults ≡ old.open_faults)
      (served_is : (t : ℕ) (table : TableGame L) → slice_get (tables_of games rows) t ≡ Some table
      → PlaysAt read left written read_faults write_faults (plan_from rooms s first) t table old.readings new.readings)
      (back : AppendsLinks old.returned new.returned (reverse (links_in rows)))
      (lost : (have_ended games → ⊥) → HasLostEach made number (handlers_for rooms)) where
    abbrev Abandoned : List Game → Type 0
    Abandoned gs = AreAbandoned read left written read_faults write_faults made number (handlers_for rooms) gs

    pub plays_by : (end : ServeEnd) → WritesGames end (text_for rooms) games old.written new.written
        → PlaysBy read left written read_faults write_faults made number end (plan_from rooms s first) old new
    plays_by ends.Over h = record {
      tables = tables_of games rows;
      links = reverse (links_in rows);
      many = same_many games rows ∙ many;
      opened = opened;
      none_failed = none;
      served = served_is;
      back = back;
      apart = apart games rows rows_many;
      text_is = subst (λ (gs : List Game). Appends old.written new.written (text_for rooms gs)) (sym (same_games games rows)) h.0;
      ends = subst have_ended (sym (same_games games rows)) (ended games h.1);
    }
    plays_by ends.HostLost h = record {
      tables = tables_of games rows;
      links = reverse (links_in rows);
      many = same_many games rows ∙ many;
      opened = opened;
      none_failed = none;
      served = served_is;
      back = back;
      apart = apart games rows rows_many;
      text_is = subst (λ (gs : List Game). Appends old.written new.written (text_for rooms gs)) (sym (same_games games rows)) h.0;
      ends = subst Abandoned (sym (same_games games rows)) (not_ended games h.1, lost (not_ended games h.1));
    }
    plays_by ends.NotOpened h = absurd h
    plays_by ends.WriteFault h = record {
      tables = tables_of games rows;
      links = reverse (links_in rows);
      many = same_many games rows ∙ many;
      opened = opened;
      none_failed = none;
      served = served_is;
      back = back;
      apart = apart games rows rows_many;
      text_is = subst (λ (gs : List Game). WritesPrefix old.written new.written (text_for rooms gs)) (sym (same_games games rows)) h;
      ends = subst (λ (gs : List Game). have_ended gs ⊎ Abandoned gs) (sym (same_games games rows)) (either (all_over games) refl);
    }
      where
        either : (b : Bool) → all_over games ≡ b → have_ended games ⊎ Abandoned games
        either true e = inl (ended games e)
        either false e = inr (not_ended games e, lost (not_ended games e))
    plays_by ends.NoMemory h = h

    -- The tables are those of the games and their sessions.
    abbrev pub HasTables : (end : ServeEnd) → PlaysBy read left written read_faults write_faults made number end (plan_from rooms s first) old new → Type 0
    HasTables ends.Over p = p.tables ≡ tables_of games rows
    HasTables ends.HostLost p = p.tables ≡ tables_of games rows
    HasTables ends.NotOpened p = Unit {0}
    HasTables ends.WriteFault p = p.tables ≡ tables_of games rows
    HasTables ends.NoMemory p = Unit {0}

    pub tables_are : (end : ServeEnd) (h : WritesGames end (text_for rooms) games old.written new.written) → HasTables end (plays_by end h)
    unfolding plays_by
    tables_are ends.Over h = refl
    tables_are ends.HostLost h = refl
    tables_are ends.NotOpened h = absurd h
    tables_are ends.WriteFault h = refl
    tables_are ends.NoMemory h = tt
