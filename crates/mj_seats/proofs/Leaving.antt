-- What all tables come to, once their turns have ended.
use Rattle.std.proofs.Common.{◌≡◌, ℕ, zero, suc, ◌+◌, ◌<◌, Bool, true, List, [], ◌∷◌, ◌++◌, length, map, get_or, sym, ap, ◌∙◌, subst, arith, append_assoc}
use Rattle.std.specs.Prelude.{All, flat_map, Option, Some, None, slice_get}
use Rattle.std.proofs.lemmas.List.{length-append, map-append}
use Rattle.std.proofs.lemmas.List.Elements.{All-nil, All-push, All-pop}
use Rattle.std.proofs.lemmas.Option.{slice_get_within, slice_get-get_or}
use Rattle.turn_lock.specs.Passes.{TurnState, PassState}
use Rattle.turn_lock.specs.Turns.{IsIdle, IsSeenIn}
use Rattle.mj_ports.specs.declared.entry.Entry.{Entry}
use Rattle.mj_ports.specs.declared.entry.Entry.TheVariants.{Said, Gone}
use Rattle.mj_ports.specs.declared.picking.Picked.{Picked}
use Rattle.mj_ports.specs.declared.seated.Seated.{Ghosts}
use Rattle.mj_ports.specs.Entries.{author_of, IsAside}
use Rattle.mj_ports.specs.Seats.{Stays, StaysEnded, Unmoved, Answers, Leaves, Adds}
use Rattle.mj_session.specs.Histories.{Enters}
use Rattle.mj_session.specs.Wires.{WireState}
use Rattle.mj_session.proofs.Entering.{enters_seen}
use Rattle.mj_handlers.specs.declared.visit.HandlerEnd.TheVariants as end
use Rattle.mj_ticker.specs.declared.ticker.Sight.{Sight}
use Rattle.mj_ticker.specs.Beside.{Matches}
use Rattle.mj_handlers.specs.declared.visit.HandlerEnd.{HandlerEnd}
use Rattle.mj_handlers.specs.declared.visit.Session.{Session}
use Rattle.mj_handlers.specs.Handlers.{WantsMemory}
use Rattle.mj_ticker.specs.Ticks.{Ticks}
use Rattle.mj_seats.specs.Workers.{IsPlayedBy}
use Rattle.mj_seats.specs.Tables.{IsOver, ComesBack, IsPlayedAt, ArePlayed, EndsWith, AllEndWith}
use Rattle.mj_handlers.specs.Picks.{sits_at}
use Rattle.mj_workers.specs.Columns.{AreRows}
use Rattle.mj_seats.specs.Inner.Ended.{HasEnded}
use Rattle.mj_handlers.specs.Hands.{AreOver, HandEnds}
use Rattle.mj_seats.specs.Inner.Opened.{IsOpened, IsFullRow, IsClosed}
use Rattle.mj_seats.specs.Inner.Joined.{AreJoined}
use Rattle.mj_workers.specs.Staffs.{AllDone}
use Rattle.mj_ticker.specs.Watches.{watch_of, IsWatched, AreWatched}
use Rattle.mj_ticker.proofs.Besides.{found, all_from, all_at}
use Rattle.mj_handlers.proofs.Handling.{handled_excused}
use Rattle.mj_seats.proofs.Opening.{back_closed}
use Rattle.mj_workers.proofs.Snocs.{flat_one, none_mapped, some_snoc}
use Rattle.mj_ticker.proofs.Timing.{ticks_of}
use Rattle.mj_handlers.proofs.Staying.{stays_from}
use Rattle.mj_seats.proofs.Working.{AllLeft, ticks_on, played_is}

module _ {T S A R L F : Type 0} (g : Ghosts T S A R) (setting : T → S) (at : List ℕ → L → WireState) (picks : List ℕ → Picked) (made : F → Type 0) (number : F → ℕ) (turns : List (TurnState T)) where
  abbrev Pass : Type 0
  Pass = PassState T S (Entry A)

  -- the passes of handlers at one table are not busy
  idle_column : (n : ℕ) (cs : List (List Pass)) (ks : List (List (List (Session L)))) (es : List (HandlerEnd F)) → AllDone g setting at picks made number turns n cs ks es →
      (t : ℕ) (turn : TurnState T) → slice_get turns t ≡ Some turn → (ps : List Pass) → map Some ps ≡ map (λ (c : List Pass). slice_get c t) cs →
      All (IsIdle setting turn) ps × (length ps ≡ n)
  idle_column zero cs ks es (a, b, c) t turn eu ps is =
      let none : ps ≡ [] = none_mapped ps (is ∙ ap (map (λ (c : List Pass). slice_get c t)) a) in
      (subst (λ (l : List Pass). All (IsIdle setting turn) l) (sym none) (All-nil (IsIdle setting turn)), ap length none)
  idle_column (suc n) cs ks es (cs', c, ks', k, es', e, a, b, d, rest, one) t turn eu ps is =
      let f = λ (x : List Pass). slice_get x t in
      let cut = some_snoc ps (map f cs') (f c) (is ∙ (ap (map f) a ∙ map-append f cs' (c ∷ []))) in
      let before = idle_column n cs' ks' es' rest t turn eu cut.0 cut.3 in
      let mine = one.idle t turn cut.1 eu (sym cut.4) in
      let long : length ps ≡ length (cut.0 ++ cut.1 ∷ []) = ap length cut.2 in
      let count : length ps ≡ suc n = omega (arith, long, length-append cut.0 (cut.1 ∷ []), before.1) in
      (subst (λ (l : List Pass). All (IsIdle setting turn) l) (sym cut.2) (All-push (IsIdle setting turn) cut.0 cut.1 before.0 mine), count)

  -- a row that came back: the handlers' passes and the ticker's
  row_parts : (columns : List (List Pass)) (passes : List Pass) (rows : List (List Pass)) → AreRows (length turns) (columns ++ passes ∷ []) rows → (t : ℕ) (row : List Pass) →
      slice_get rows t ≡ Some row → (ps : List Pass) × (p : Pass) × (row ≡ ps ++ p ∷ []) × (map Some ps ≡ map (λ (c : List Pass). slice_get c t) columns) × (slice_get passes t ≡ Some p)
  row_parts columns passes rows are t row er =
      let f = λ (c : List Pass). slice_get c t in
      let cut = some_snoc row (map f columns) (f passes) (are.each t row er ∙ map-append f columns (passes ∷ [])) in
      (cut.0, cut.1, cut.2, cut.3, sym cut.4)

  -- all rows are full
  pub full_rows : (lost : T → ℕ → Bool) (n by : ℕ) (columns : List (List Pass)) (ks : List (List (List (Session L)))) (es : List (HandlerEnd F)) (first : TurnState T → List (Entry A))
      (r0 r1 : Option (List ℕ))
      (passes : List Pass) (sights : List Sight) (rows : List (List Pass)) → AllDone g setting at picks made number turns n columns ks es →
      AreWatched g lost n setting by first r0 r1 turns passes sights → AreRows (length turns) (columns ++ passes ∷ []) rows → All (λ (turn : TurnState T). turn.passes ≡ n + 1) turns →
      Matches (IsFullRow setting) turns rows
  full_rows lost n by columns ks es first r0 r1 passes sights rows done watched are many = record {
    many = are.many_are;
    each = λ t turn row eu er. one t turn row eu (slice_get_within turns t turn eu) (row_parts columns passes rows are t row er);
  }
    where
      one : (t : ℕ) (turn : TurnState T) (row : List Pass) → slice_get turns t ≡ Some turn → t < length turns → (ps : List Pass) × (p : Pass) × (row ≡ ps ++ p ∷ []) ×
          (map Some ps ≡ map (λ (c : List Pass). slice_get c t) columns) × (slice_get passes t ≡ Some p) → IsFullRow setting turn row
      one t turn row eu near (ps, p, e, is, ep) =
          let idle = idle_column n columns ks es done t turn eu ps is in
          let s = found sights t (omega (arith, near, watched.third)) in
          let long : length row ≡ length (ps ++ p ∷ []) = ap length e in
          record {
            all = omega (arith, long, length-append ps (p ∷ []), idle.1, all_at (λ (u : TurnState T). u.passes ≡ n + 1) turns t turn many eu);
            idle = subst (λ (l : List Pass). All (IsIdle setting turn) l) (sym e) (All-push (IsIdle setting turn) ps p idle.0 (watched.each t turn p s.0 eu ep s.1).idle);
          }

  -- of one table: what each handler served
  module _ (legal_before : (s : S) (es fs : List (Entry A)) → g.is_legal s (es ++ fs) → g.is_legal s es) (t : ℕ) (turn : TurnState T) (turn_is : slice_get turns t ≡ Some turn)
      (all : List (Entry A)) (legal : g.is_legal (setting turn.opening) all) where
    left_at : (n : ℕ) (cs : List (List Pass)) (ks : List (List (List (Session L)))) (es : List (HandlerEnd F)) → AllDone g setting at picks made number turns n cs ks es →
        All (λ (e : HandlerEnd F). WantsMemory e → ⊥) es → (ps : List Pass) → map Some ps ≡ map (λ (c : List Pass). slice_get c t) cs → All (IsSeenIn author_of all) ps →
        AllLeft (g.after (setting turn.opening)) g.reads g.joins (sits_at picks t (g.sits (setting turn.opening))) (g.hears (setting turn.opening)) g.says at
        (g.history turn.opening) all n (flat_map (λ (k : List (List (Session L))). get_or k t []) ks)
    left_at zero cs ks es (a, b, c) memory ps is seen = ap (flat_map (λ (k : List (List (Session L))). get_or k t [])) b
    left_at (suc n) cs ks es (cs', c, ks', k, es', e, a, b, d, rest, one) memory ps is seen =
        let f = λ (x : List Pass). slice_get x t in
        let h = λ (x : List (List (Session L))). get_or x t [] in
        let cut = some_snoc ps (map f cs') (f c) (is ∙ (ap (map f) a ∙ map-append f cs' (c ∷ []))) in
        let parted = All-pop (λ (x : HandlerEnd F). WantsMemory x → ⊥) es es' (Some e) d memory in
        let saw = All-pop (IsSeenIn author_of all) ps cut.0 (Some cut.1) cut.2 seen in
        let near : t < length turns = slice_get_within turns t turn turn_is in
        let mine = one.hand t turn cut.1 (h k) turn_is (sym cut.4) (slice_get-get_or k t [] (omega (arith, near, one.kept_are))) in
        let before : g.is_legal (setting turn.opening) cut.1.seen =
        legal_before (setting turn.opening) cut.1.seen saw.1.begins.0 (subst (g.is_legal (setting turn.opening)) (sym saw.1.begins.1) legal) in (
          flat_map h ks',
          h k,
          cut.1.seen,
          ap (flat_map h) b ∙ flat_one h ks' k,
          left_at n cs' ks' es' rest parted.0 cut.0 cut.3 saw.0,
          handled_excused (g.after (setting turn.opening)) g.reads g.joins (sits_at picks t (g.sits (setting turn.opening))) (g.hears (setting turn.opening)) g.says at (WantsMemory e) ⊥ parted.1 n
              (g.history turn.opening) cut.1.seen (h k) (mine.handled before),
          subst (λ (m : ℕ). Enters m cut.1.seen all []) mine.number_is (enters_seen all cut.1 saw.1),
        )

module _ {T S A R L F : Type 0} (g : Ghosts T S A R) (lost : T → ℕ → Bool) (setting : T → S) (at : List ℕ → L → WireState) (picks : List ℕ → Picked) (made : F → Type 0) (number : F → ℕ)
    (n : ℕ) (turns : List (TurnState T)) (r0 r1 : Option (List ℕ)) (olds tables : List T) (kept : List (List (List (Session L)))) (ends : List (HandlerEnd F))
    (h : HasEnded g lost setting at picks made number n turns r0 r1 tables kept ends) (opened : Matches (IsOpened (n + 1)) olds turns) (same : (x : T) → setting x ≡ g.setting x) where
  -- what is known of a table that has ended
  record AtEnd (t : ℕ) (table : T) : Type 0 where
    turn : TurnState T
    turn_is : slice_get turns t ≡ Some turn
    row : List (PassState T S (Entry A))
    passes : List (PassState T S (Entry A))
    last : PassState T S (Entry A)
    passes_are : map Some passes ≡ map (λ (c : List (PassState T S (Entry A))). slice_get c t) h.columns
    sight : Sight
    watched : IsWatched g lost n setting n (g.history turn.opening) r0 r1 turn last sight
    closed : IsClosed g setting turn row table
    seen : All (IsSeenIn author_of (g.history table)) passes
    last_seen : IsSeenIn author_of (g.history table) last
    few : All (λ (e : Entry A). author_of e < n + 1) (g.history table)

  at_end : (t : ℕ) (table : T) → slice_get tables t ≡ Some table → AtEnd t table
  at_end t table ex =
      let near = slice_get_within tables t table ex in
      let turn = found turns t (omega (arith, near, h.closed.third)) in
      let row = found h.rows t (omega (arith, near, h.closed.third, h.closed.second)) in
      let parts = row_parts g setting at picks made number turns h.columns h.passes h.rows h.are t row.0 row.1 in
      let s = found h.sights t (omega (arith, near, h.closed.third, h.watched.third)) in
      let one = h.closed.each t turn.0 row.0 table turn.1 row.1 ex in
      let parted = All-pop (IsSeenIn author_of (g.history table)) row.0 parts.0 (Some parts.1) parts.2 one.seen in
      let x = found olds t (omega (arith, near, h.closed.third, opened.many)) in
      record {
        turn = turn.0;
        turn_is = turn.1;
        row = row.0;
        passes = parts.0;
        last = parts.1;
        passes_are = parts.3;
        sight = s.0;
        watched = h.watched.each t turn.0 parts.1 s.0 turn.1 parts.4 s.1;
        closed = one;
        seen = parted.0;
        last_seen = parted.1;
        few = subst (λ (k : ℕ). All (λ (e : Entry A). author_of e < k) (g.history table)) (opened.each t x.0 turn.0 x.1 turn.1).passes_are one.below;
      }

  -- the tables come back
  pub back_ended : Matches (ComesBack g) olds tables
  back_ended = record {
    many = h.closed.third ∙ opened.many;
    each = λ t was table ew et. one t was table ew (at_end t table et);
  }
    where
      one : (t : ℕ) (was table : T) → slice_get olds t ≡ Some was → AtEnd t table → ComesBack g was table
      one t was table ew x =
          let o = opened.each t was x.turn ew x.turn_is in
          let e = x.watched.ticking.entered in
          back_closed g setting same was table x.turn x.row x.last e.since o.opening_is x.closed x.last_seen (e.grown ∙ ap (λ (y : T). g.history y ++ e.since) o.opening_is)

  module _ (legal_before : (s : S) (es fs : List (Entry A)) → g.is_legal s (es ++ fs) → g.is_legal s es)
      (stays : (s : S) (es : List (Entry A)) (e : Entry A) → g.is_legal s (es ++ e ∷ []) → Stays (g.after s es) (g.after s (es ++ e ∷ [])))
      (memory : All (λ (e : HandlerEnd F). WantsMemory e → ⊥) ends) where
    -- all games are over that a handler saw over
    over_all : (c : List (PassState T S (Entry A))) → ((t : ℕ) (table : T) → slice_get tables t ≡ Some table → (turn : TurnState T) × (p : PassState T S (Entry A)) ×
        (slice_get turns t ≡ Some turn) × (slice_get c t ≡ Some p) × IsSeenIn author_of (g.history table) p × (g.setting table ≡ setting turn.opening)
        × g.is_legal (setting turn.opening) (g.history table))
        → AreOver g setting turns (length turns) c → All (IsOver g) tables
    over_all c f over = all_from (IsOver g) tables (λ t x e. one t x (f t x e))
      where
        one : (t : ℕ) (x : T) → (turn : TurnState T) × (p : PassState T S (Entry A)) × (slice_get turns t ≡ Some turn) × (slice_get c t ≡ Some p) ×
            IsSeenIn author_of (g.history x) p × (g.setting x ≡ setting turn.opening) × g.is_legal (setting turn.opening) (g.history x) → IsOver g x
        one t x (turn, p, eu, ep, seen, is, legal) =
            subst (λ (s : S). (g.after s (g.history x)).over ≡ true) (sym is)
            ((stays_from (g.after (setting turn.opening)) (g.is_legal (setting turn.opening)) (legal_before (setting turn.opening))
            (stays (setting turn.opening)) p.seen (g.history x) seen.begins.0 legal (sym seen.begins.1)).over (over t turn p (slice_get_within turns t turn eu) eu ep))

    abbrev Saw : List (List (PassState T S (Entry A))) → Type 0
    Saw cs = (t : ℕ) (table : T) → slice_get tables t ≡ Some table → (ps : List (PassState T S (Entry A))) ×
        (map Some ps ≡ map (λ (c : List (PassState T S (Entry A))). slice_get c t) cs) × All (IsSeenIn author_of (g.history table)) ps

    ends_by : (k : ℕ) (c : List (PassState T S (Entry A))) (e : HandlerEnd F) → (WantsMemory e → ⊥) → (AreOver g setting turns (length turns) c → All (IsOver g) tables) →
        HandEnds g setting turns made number e k c → EndsWith (All (IsOver g) tables) made number k e
    ends_by k c end.Over m f x = f x
    ends_by k c (end.Host fault) m f x = (x.0, x.1)
    ends_by k c end.NoMemory m f x = absurd (m tt)

    all_ends : (k : ℕ) (cs : List (List (PassState T S (Entry A)))) (ks : List (List (List (Session L)))) (es : List (HandlerEnd F)) → AllDone g setting at picks made number turns k cs ks es →
        All (λ (e : HandlerEnd F). WantsMemory e → ⊥) es → Saw cs → AllEndWith (All (IsOver g) tables) made number k es
    all_ends zero cs ks es (a, b, c) m saw = c
    all_ends (suc n) cs ks es (cs', c, ks', k, es', e, a, b, d, rest, one) m saw =
        let parted = All-pop (λ (x : HandlerEnd F). WantsMemory x → ⊥) es es' (Some e) d m in (
          es',
          e,
          d,
          all_ends n cs' ks' es' rest parted.0 (λ t table ex. (cut t table (saw t table ex)).0),
          ends_by n c e parted.1 (over_all c (λ t table ex. last t table (at_end t table ex) (cut t table (saw t table ex)).1)) one.ended,
        )
      where
        cut : (t : ℕ) (table : T) → (ps : List (PassState T S (Entry A))) × (map Some ps ≡ map (λ (x : List (PassState T S (Entry A))). slice_get x t) cs)
            × All (IsSeenIn author_of (g.history table)) ps
            → ((qs : List (PassState T S (Entry A))) × (map Some qs ≡ map (λ (x : List (PassState T S (Entry A))). slice_get x t) cs') × All (IsSeenIn author_of (g.history table)) qs)
            × ((p : PassState T S (Entry A)) × (slice_get c t ≡ Some p) × IsSeenIn author_of (g.history table) p)
        cut t table (ps, is, seen) =
            let f = λ (x : List (PassState T S (Entry A))). slice_get x t in
            let parts = some_snoc ps (map f cs') (f c) (is ∙ (ap (map f) a ∙ map-append f cs' (c ∷ []))) in
            let saw_all = All-pop (IsSeenIn author_of (g.history table)) ps parts.0 (Some parts.1) parts.2 seen in
            ((parts.0, parts.3, saw_all.0), (parts.1, sym parts.4, saw_all.1))

        last : (t : ℕ) (table : T) → AtEnd t table → (p : PassState T S (Entry A)) × (slice_get c t ≡ Some p) × IsSeenIn author_of (g.history table) p
            → (turn : TurnState T) × (p : PassState T S (Entry A)) × (slice_get turns t ≡ Some turn) × (slice_get c t ≡ Some p) × IsSeenIn author_of (g.history table) p
            × (g.setting table ≡ setting turn.opening) × g.is_legal (setting turn.opening) (g.history table)
        last t table x (p, ep, seen) = (x.turn, p, x.turn_is, ep, seen, x.closed.setting_is, x.closed.legal)

    pub ends_are : AllEndWith (All (IsOver g) tables) made number n ends
    ends_are = all_ends n h.columns kept ends h.done memory (λ t table ex. of t table (at_end t table ex))
      where
        of : (t : ℕ) (table : T) → AtEnd t table → (ps : List (PassState T S (Entry A))) × (map Some ps ≡ map (λ (c : List (PassState T S (Entry A))). slice_get c t) h.columns) ×
            All (IsSeenIn author_of (g.history table)) ps
        of t table x = (x.passes, x.passes_are, x.seen)

    module _ (ended_law : (s : S) (es : List (Entry A)) (e : Entry A) (place : ℕ) → g.is_legal s (es ++ e ∷ []) → place < length es →
        (g.after s es).seat_of place ≡ None → StaysEnded place (g.after s es) (g.after s (es ++ e ∷ [])))
        (others : (s : S) (es : List (Entry A)) (e : Entry A) (author seat : ℕ) → g.is_legal s (es ++ e ∷ []) → (g.after s es).present seat ≡ Some
        author → IsAside author seat es e → Unmoved seat (g.after s es) (g.after s (es ++ e ∷ [])))
        (answers : (s : S) (es : List (Entry A)) (author seat : ℕ) (answer : A) → g.is_legal s (es ++ Said author seat answer ∷ []) →
        Answers g.says (g.hears s es author seat answer) seat (g.after s es) (g.after s (es ++ Said author seat answer ∷ [])))
        (leaves : (s : S) (es : List (Entry A)) (author seat : ℕ) → g.is_legal s (es ++ Gone author seat ∷ []) →
        Leaves seat (g.after s es) (g.after s (es ++ Gone author seat ∷ [])) × Adds seat [] (g.after s es)
        (g.after s (es ++ Gone author seat ∷ []))) (sessions : List (List (Session L))) (joined : AreJoined (length turns) kept sessions) where
      played_at : (t : ℕ) (was table : T) (ss : List (Session L)) → slice_get olds t ≡ Some was → slice_get sessions t ≡ Some ss → AtEnd t table → IsPlayedAt g at picks n r0 r1 t was table ss
      played_at t was table ss ew es x =
          let o = opened.each t was x.turn ew x.turn_is in
          let s = setting x.turn.opening in
          let fixed : s ≡ g.setting was = ap setting o.opening_is ∙ same was in
          let all = g.history table in
          let first = g.history x.turn.opening in
          let seen : Ticks n first all r0 r1 = ticks_on n first x.last.seen all r0 r1 (ticks_of n first x.last.seen r0 r1 (watch_of x.sight) x.watched.ticking)
          (subst (λ (k : ℕ). Enters k x.last.seen all []) x.watched.number_is (enters_seen all x.last x.last_seen)) in
          let grown = x.watched.ticking.entered in
          let since = grown.since ++ x.last_seen.begins.0 in
          let all_is : all ≡ first ++ since = sym x.last_seen.begins.1 ∙ (ap (λ (l : List (Entry A)). l ++ x.last_seen.begins.0) grown.grown ∙ append_assoc first grown.since x.last_seen.begins.0) in
          let left = left_at g setting at picks made number turns legal_before t x.turn x.turn_is all x.closed.legal n h.columns kept ends h.done memory x.passes x.passes_are x.seen in
          let played = played_is (g.after s) (g.is_legal s) (legal_before s) (stays s) (ended_law s) (g.hears s) g.says (others s) (answers s) (leaves s) g.reads g.joins
          (sits_at picks t (g.sits s)) at
          first since all all_is x.closed.legal n (flat_map (λ (k : List (List (Session L))). get_or k t []) kept) r0 r1 left x.few seen in
          of s (g.setting was) first (g.history was) fixed (ap g.history o.opening_is) (x.closed.setting_is ∙ fixed) x.closed.legal
          (flat_map (λ (k : List (List (Session L))). get_or k t []) kept) (sym (joined.each t ss es)) played
        where
          of : (s s' : S) (first first' : List (Entry A)) → s ≡ s' → first ≡ first' → g.setting table ≡ s' → g.is_legal s (g.history table) → (all : List (Session L)) → all ≡ ss →
              IsPlayedBy (g.after s) g.reads g.joins (sits_at picks t (g.sits s)) (g.hears s) g.says at n first (g.history table) all r0 r1
              → (g.setting table ≡ s') × g.is_legal s' (g.history table)
              × IsPlayedBy (g.after s') g.reads g.joins (sits_at picks t (g.sits s')) (g.hears s') g.says at n first' (g.history table) ss r0 r1
          of s s' first first' es ef is legal all ea p = (
            is,
            subst (λ (k : S). g.is_legal k (g.history table)) es legal,
            subst (λ (l : List (Session L)). IsPlayedBy (g.after s') g.reads g.joins (sits_at picks t (g.sits s')) (g.hears s') g.says at n first' (g.history table) l r0 r1) ea
                (subst (λ (l : List (Entry A)). IsPlayedBy (g.after s') g.reads g.joins (sits_at picks t (g.sits s')) (g.hears s') g.says at n l (g.history table) all r0 r1) ef
                (subst (λ (k : S). IsPlayedBy (g.after k) g.reads g.joins (sits_at picks t (g.sits k)) (g.hears k) g.says at n first (g.history table) all r0 r1) es p)),
          )

      pub played_all : ArePlayed g at picks n r0 r1 olds tables sessions
      played_all = record {
        second = h.closed.third ∙ opened.many;
        third = joined.many ∙ opened.many;
        each = λ t was table ss ew et es. played_at t was table ss ew es (at_end t table et);
      }
