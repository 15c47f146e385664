-- What is played by the plan of one table is what the command `serve` does.
use Rattle.std.proofs.Common.{◌≡◌, ◌⊎◌, inl, inr, ℕ, ◌*◌, Bool, true, false, List, [], ◌∷◌, length, refl, ap, ◌∙◌, subst, arith, append-nil}
use Rattle.std.specs.Prelude.{Option, IsPermutation, flat_map, slice_get}
use Rattle.std.specs.Io.KnownBytes.{Appends}
use Rattle.std.proofs.lemmas.List.Concat.{flat_map-cons}
use Rattle.std.proofs.lemmas.List.Elements.{All-nil, All-cons, All-head}
use Rattle.std.proofs.lemmas.List.Sorted.{IsPermutation-trans, IsPermutation-map, All-permutation}
use Rattle.mj_links.specs.Sinks.{WritesPrefix}
use Rattle.mj_words.specs.Asked.{ServedWith}
use Rattle.mj_wall.specs.Shuffle.{shuffled_walls, shuffled_from}
use Rattle.mj_history.specs.After.{after}
use Rattle.mj_history.specs.Legal.{Game, is_over}
use Rattle.mj_served.specs.Served.{IsServed, IsConnection, has_ended}
use Rattle.mj_served.specs.Plans.{TableGame}
use Rattle.mj_hosting.specs.declared.plays.ServeEnd.{ServeEnd}
use Rattle.mj_hosting.specs.declared.plays.ServeEnd.TheVariants as ends
use Rattle.mj_hosting.specs.Plans.{served_setting, table_setting, one_table}
use Rattle.mj_hosting.specs.Plays.{Outside, Plays, PlaysBy, AreAbandoned, games_of, have_ended}
use Rattle.mj_hosting.specs.Serve.{PlaysGame, IsAbandoned, Serves}

-- the first table's walls are the first of the seed
first_walls : (seed : List ℕ) (red : Bool) → shuffled_from seed red (200 * 0) 200 ≡ shuffled_walls seed red 200
unfolding shuffled_from
first_walls seed red = refl

first_setting : (s : ServedWith) → table_setting s 0 ≡ served_setting s
first_setting s = ap (λ (w : List (List ℕ)). record { walls = w; rules = record { limit = s.limit; draws = s.draws; red = s.red } }) (first_walls s.seed s.red)

-- the sole member of a list
sole : {X : Type 0} (xs : List X) → length xs ≡ 1 → (x : X) × (xs ≡ x ∷ [])
sole [] e = absurd (omega (arith, e))
sole (x ∷ []) e = (x, refl)
sole (x ∷ y ∷ xs) e = absurd (omega (arith, e))

module _ {L F : Type 0} (read left written : L → Option (List ℕ)) (read_faults write_faults : L → ℕ) (made : F → Type 0) (number : F → ℕ) where
  abbrev IsServedWith : ServedWith → Game → List (L × ℕ) → Option (List ℕ) → Option (List ℕ) → Type 0
  IsServedWith s game links r0 r1 = IsServed read left written read_faults write_faults (served_setting s) 8 [] game links r0 r1

  -- a game is served with its links in another order too
  served_so : (s : ServedWith) (game : Game) (links others : List (L × ℕ)) (r0 r1 : Option (List ℕ)) → IsPermutation links others
      → IsServed read left written read_faults write_faults (table_setting s 0) 8 [] game links r0 r1 → IsServedWith s game others r0 r1
  served_so s game links others r0 r1 same p = record {
    setting_is = p.setting_is ∙ first_setting s;
    legal = p.legal;
    since = p.since;
    grown = p.grown;
    places = IsPermutation-trans _ _ _ p.places (IsPermutation-map (λ (l : L × ℕ). l.1) _ _ same);
    connections_are = All-permutation (λ (l : L × ℕ). IsConnection read left written read_faults write_faults game l.0 l.1) _ _ same p.connections_are;
    authors = p.authors;
    expiries = p.expiries;
    timed = p.timed;
  }

  abbrev Abandoned : List Game → Type 0
  Abandoned games = AreAbandoned read left written read_faults write_faults made number 8 games

  goes_on : (game : Game) (b : Bool) → is_over (after game.setting game.entries).deeds ≡ b → (have_ended (game ∷ []) → ⊥) → is_over (after game.setting game.entries).deeds ≡ false
  goes_on game true e n = absurd (n (All-cons has_ended game [] e (All-nil has_ended)))
  goes_on game false e n = e

  left_so : (game : Game) → Abandoned (game ∷ []) → IsAbandoned read left written read_faults write_faults made number game
  left_so game h = (goes_on game (is_over (after game.setting game.entries).deeds) refl h.0, h.1)

  ended_so : (game : Game) → have_ended (game ∷ []) → has_ended game
  ended_so game h = All-head has_ended game [] h

  of_one : (IsWritten : List ℕ → Type 0) (Ends : List Game → Type 0) (End : Game → Type 0) → ((game : Game) → Ends (game ∷ []) → End game) → (s : ServedWith) (old new : Outside L)
      → Plays read left written read_faults write_faults made number IsWritten Ends (one_table s) old new → PlaysGame read left written read_faults write_faults made number IsWritten End s old new
  of_one IsWritten Ends End so s old new p =
      let one = sole p.tables p.many in
      let table = one.0 in
      let links : IsPermutation table.links p.links =
      subst (λ (l : List (L × ℕ)). IsPermutation l p.links)
      (ap (flat_map (λ (t : TableGame L). t.links)) one.1 ∙ (flat_map-cons (λ (t : TableGame L). t.links) table [] ∙ append-nil table.links)) p.apart in
      record {
        game = table.game;
        links = p.links;
        opened = p.opened;
        none_failed = p.none_failed;
        served = served_so s table.game table.links p.links old.readings new.readings links (p.served 0 table (ap (λ (l : List (TableGame L)). slice_get l 0) one.1)).served;
        back = p.back;
        record_is = subst (λ (l : List (TableGame L)). IsWritten ((one_table s).text (games_of l))) one.1 p.text_is;
        ends = so table.game (subst (λ (l : List (TableGame L)). Ends (games_of l)) one.1 p.ends);
      }

  pub serve_is_one : (end : ServeEnd) (s : ServedWith) (old new : Outside L) → PlaysBy read left written read_faults write_faults made number end (one_table s) old new
      → Serves read left written read_faults write_faults made number end s old new
  serve_is_one ends.Over s old new p = of_one (Appends old.written new.written) have_ended has_ended ended_so s old new p
  serve_is_one ends.HostLost s old new p = of_one (Appends old.written new.written) Abandoned (IsAbandoned read left written read_faults write_faults made number) left_so s old new p
  serve_is_one ends.WriteFault s old new p =
      of_one (WritesPrefix old.written new.written) (λ games. have_ended games ⊎ Abandoned games)
      (λ game. has_ended game ⊎ IsAbandoned read left written read_faults write_faults made number game)
      (λ game h. elim h [ inl a ↦ inl (ended_so game a) | inr b ↦ inr (left_so game b) ]) s old new p
  serve_is_one ends.NotOpened s old new p = p
  serve_is_one ends.NoMemory s old new p = p
