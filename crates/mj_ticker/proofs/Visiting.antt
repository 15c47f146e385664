-- One visit of a table.
use Rattle.std.proofs.Common.{◌≡◌, ℕ, Bool, List, [], ◌∷◌, ◌++◌, sym, ◌∙◌, subst}
use Rattle.std.specs.Prelude.{Option, Some, None}
use Rattle.std.specs.Io.KnownBytes.{Appends}
use Rattle.turn_lock.specs.Passes.{TurnState, PassState}
use Rattle.turn_lock.specs.Turns.{IsIdle}
use Rattle.mj_ports.specs.declared.entry.Entry.{Entry}
use Rattle.mj_ports.specs.declared.entry.Entry.TheVariants.{Expired}
use Rattle.mj_ports.specs.declared.seated.Seated.{Ghosts}
use Rattle.mj_ticker.specs.declared.ticker.Watch.{Watch}
use Rattle.mj_ticker.specs.declared.ticker.Ticked.{Ticked}
use Rattle.mj_session.specs.Histories.{Enters}
use Rattle.mj_ticker.specs.Ticks.{Ticks, TicksAs}
use Rattle.mj_ticker.proofs.Timing.{ticks_of, tick_start, tick_seen, tick_read, tick_watch, tick_drop, tick_close, enters_still}
use Rattle.mj_ticker.specs.declared.ticker.Sight.{Sight}
use Rattle.mj_ticker.specs.declared.ticker.Sight.TheVariants as sight
use Rattle.mj_ticker.specs.declared.ticker.Closing.TheVariants as closing
use Rattle.mj_ticker.specs.Watches.{Ticking, watch_of, EndsAs, ClosesAt, IsWatched}

module _ {T S A R : Type 0} (g : Ghosts T S A R) (lost : T → ℕ → Bool) (handlers : ℕ) (setting : T → S) where
  -- a table that was not looked at yet
  pub watched_start : (by : ℕ) (r : Option (List ℕ)) (turn : TurnState T) (p : PassState T S (Entry A)) → p.number ≡ by → IsIdle setting turn p
      → IsWatched g lost handlers setting by p.seen r r turn p sight.Nothing
  watched_start by r turn p e idle = record { idle = idle; number_is = e; ticking = tick_start by p.seen r; ended = tt }

  -- all that was entered, whatever is known
  pub watched_ticks : (by : ℕ) (first : List (Entry A)) (start read : Option (List ℕ)) (turn : TurnState T) (p : PassState T S (Entry A)) (s : Sight)
      → IsWatched g lost handlers setting by first start read turn p s → Ticks by first p.seen start read
  watched_ticks by first start read turn p s w = ticks_of by first p.seen start read (watch_of s) w.ticking

  pub watched_end : (by : ℕ) (first : List (Entry A)) (start read : Option (List ℕ)) (turn : TurnState T) (p : PassState T S (Entry A)) (s : Sight) (ticked : Ticked)
      → s ≡ sight.Ended ticked → IsWatched g lost handlers setting by first start read turn p s → TicksAs g lost handlers (setting turn.opening) ticked p.seen p.last
  watched_end by first start read turn p s ticked is w = subst (λ (x : Sight). EndsAs g lost handlers (setting turn.opening) x p.seen p.last) is w.ended

  -- a look, in which no reading was made
  pub watched_looked : (by : ℕ) (first : List (Entry A)) (start read : Option (List ℕ)) (turn : TurnState T) (p q : PassState T S (Entry A)) (k : Sight) → IsIdle setting turn q
      → q.number ≡ p.number → Enters p.number p.seen q.seen [] → watch_of k ≡ None → EndsAs g lost handlers (setting turn.opening) k q.seen q.last
      → IsWatched g lost handlers setting by first start read turn p sight.Nothing → IsWatched g lost handlers setting by first start read turn q k
  watched_looked by first start read turn p q k idle same nothing none ends w = record {
    idle = idle;
    number_is = same ∙ w.number_is;
    ticking = subst (λ (x : Option Watch). Ticking by first q.seen start read x) (sym none)
        (tick_seen by first p.seen start read None q.seen w.ticking (subst (λ (n : ℕ). Enters n p.seen q.seen []) w.number_is nothing));
    ended = ends;
  }

  module _ (by : ℕ) (first : List (Entry A)) (start read next : Option (List ℕ)) (now : ℕ) (more : Appends read next (now ∷ [])) (turn : TurnState T) (p q : PassState T S (Entry A))
      (s : Sight) (w : IsWatched g lost handlers setting by first start read turn p s) where
    -- what is known of it at the reading
    is_known : (k : Sight) → s ≡ k → Ticking by first p.seen start read (watch_of k)
    is_known k is = subst (λ (x : Sight). Ticking by first p.seen start read (watch_of x)) is w.ticking

    pub watched_ended : (ticked : Ticked) → s ≡ sight.Ended ticked → IsWatched g lost handlers setting by first start next turn p (sight.Ended ticked)
    watched_ended ticked is = record {
      idle = w.idle;
      number_is = w.number_is;
      ticking = tick_read by first p.seen start read None next now (is_known (sight.Ended ticked) is) more;
      ended = watched_end by first start read turn p s ticked is w;
    }

    pub watched_open : (window : ℕ) → s ≡ sight.Open window → IsWatched g lost handlers setting by first start next turn p (sight.Since (record { window = window; since = now }))
    watched_open window is = record {
      idle = w.idle;
      number_is = w.number_is;
      ticking = tick_watch by first p.seen start read (record { window = window; since = now }) next (is_known (sight.Open window) is) more;
      ended = tt;
    }

    pub watched_nothing : s ≡ sight.Nothing → IsWatched g lost handlers setting by first start next turn p sight.Nothing
    watched_nothing is = record {
      idle = w.idle;
      number_is = w.number_is;
      ticking = tick_read by first p.seen start read None next now (is_known sight.Nothing is) more;
      ended = tt;
    }

    module _ (idle : IsIdle setting turn q) (same : q.number ≡ p.number) where
      module _ (watch : Watch) (is : s ≡ sight.Since watch) where
        since_seen : (until new : List (Entry A)) → Enters p.number p.seen until [] → new ≡ until → Ticking by first new start next (Some watch)
        since_seen until new nothing e = tick_seen by first p.seen start next (Some watch) new (tick_read by first p.seen start read (Some watch) next now (is_known (sight.Since watch) is) more)
            (enters_still by p.seen until new (subst (λ (n : ℕ). Enters n p.seen until []) w.number_is nothing) e)

        pub watched_early : ClosesAt g lost handlers (setting turn.opening) closing.Early p.number watch now p.seen q.seen q.last
            → IsWatched g lost handlers setting by first start next turn q (sight.Since watch)
        watched_early c = record { idle = idle; number_is = same ∙ w.number_is; ticking = since_seen c.until q.seen c.nothing c.closes; ended = tt }

        pub watched_stale : ClosesAt g lost handlers (setting turn.opening) closing.Stale p.number watch now p.seen q.seen q.last
            → IsWatched g lost handlers setting by first start next turn q sight.Nothing
        watched_stale c = record { idle = idle; number_is = same ∙ w.number_is; ticking = tick_drop by first q.seen start next (Some watch) (since_seen c.until q.seen c.nothing c.closes); ended = tt }

        pub watched_gone : (ticked : Ticked) → ClosesAt g lost handlers (setting turn.opening) (closing.Ends ticked) p.number watch now p.seen q.seen q.last
            → IsWatched g lost handlers setting by first start next turn q (sight.Ended ticked)
        watched_gone ticked c = record {
          idle = idle;
          number_is = same ∙ w.number_is;
          ticking = tick_drop by first q.seen start next (Some watch) (since_seen c.until q.seen c.nothing c.closes.0);
          ended = c.closes.1;
        }

        pub watched_closed : ClosesAt g lost handlers (setting turn.opening) closing.Closed p.number watch now p.seen q.seen q.last
            → IsWatched g lost handlers setting by first start next turn q sight.Nothing
        watched_closed c = record {
          idle = idle;
          number_is = same ∙ w.number_is;
          ticking = tick_close by first p.seen start read watch next now c.until q.seen (is_known (sight.Since watch) is) more (subst (λ (n : ℕ). Enters n p.seen c.until []) w.number_is c.nothing)
              (subst (λ (n : ℕ). q.seen ≡ c.until ++ Expired n watch.window watch.since now ∷ []) w.number_is c.closes);
          ended = tt;
        }
