-- The sessions of a handler, one after another.
use Rattle.std.proofs.Common.{◌≡◌, ℕ, Bool, true, false, List, [], ◌∷◌, ◌++◌, refl, true≢false, sym, ap, ap₂, ◌∙◌, subst, append_assoc}
use Rattle.std.specs.Prelude.{Option, Some, None}
use Rattle.mj_connection.specs.Seating.{Entry, JoinLine, SitAnswer, Heard, Control, Showing}
use Rattle.mj_session.specs.Histories.{Enters}
use Rattle.mj_session.specs.declared.served.Ended.{Ended}
use Rattle.mj_session.specs.Sessions.{SeatedSession, SeatlessSession, SessionAt, IsExcused}
use Rattle.mj_handlers.specs.Handlers.{Session, Noted, Handled, IsNew}
use Rattle.mj_session.specs.Wires.{WireState, at_link, at_wire}
use Rattle.mj_links.specs.Hosts.{IsFresh}
use Rattle.mj_links.specs.LineBuffers.{wire_held, wire_link}
use Rattle.mj_links.specs.Links.{ReadingStays, WritingStays}
use Rattle.mj_links.specs.declared.wire.Wire.{Wire}
use Rattle.mj_connection.proofs.Growing.{enters_chain, enters_nothing}

-- In no beginning of a history is the game over.
abbrev pub IsOn : {A : Type 0} → (List (Entry A) → Showing) → List (Entry A) → Type 0
IsOn {A} after entries = (es since : List (Entry A)) → entries ≡ es ++ since → (after es).over ≡ false

module _ {A R L : Type 0} (after : List (Entry A) → Showing) (reads : List ℕ → A) (joins : List ℕ → Option JoinLine) (sits : List (Entry A) → List ℕ →
    SitAnswer) (hears : List (Entry A) → ℕ → ℕ → A → Heard R) (says : Control R → List ℕ) (at : List ℕ → L → WireState) where
  -- what excuses more excuses as well
  pub kept_excused : (less more : Type 0) → (less → more) → (author : ℕ) (old new : List (Entry A)) (s : Session L) →
      Noted after reads joins sits hears says at less author old new s → Noted after reads joins sits hears says at more author old new s
  kept_excused less more f author old new s k = record { start = k.start; is_new = k.is_new; held = k.held; ended = k.ended; seated = k.seated; excused = λ h. f (k.excused h) }

  pub handled_excused : (less more : Type 0) → (less → more) → (author : ℕ) (old new : List (Entry A)) (ss : List (Session L)) →
      Handled after reads joins sits hears says at less author old new ss → Handled after reads joins sits hears says at more author old new ss
  handled_excused less more f author old new [] h = h
  handled_excused less more f author old new (s ∷ ss) (mid, k, o, h) = (mid, kept_excused less more f author old mid s k, o, handled_excused less more f author mid new ss h)

  -- others' entries after the last session
  pub handled_on : (excuse : Type 0) (author : ℕ) (old mid new : List (Entry A)) (ss : List (Session L)) → Handled after reads joins sits hears says
      at excuse author old mid ss → Enters author mid new [] → Handled after reads joins sits hears says at excuse author old new ss
  handled_on excuse author old mid new [] h e = enters_chain author old mid new [] [] h e
  handled_on excuse author old mid new (s ∷ ss) (next, k, o, h) e = (next, k, o, handled_on excuse author next mid new ss h e)

  kept_from : (excuse : Type 0) (author : ℕ) (old mid new : List (Entry A)) (s : Session L) → Enters author old mid [] →
      Noted after reads joins sits hears says at excuse author mid new s → Noted after reads joins sits hears says at excuse author old new s
  kept_from excuse author old mid new s e k = record {
    start = k.start;
    is_new = k.is_new;
    held = k.held;
    ended = k.ended;
    excused = k.excused;
    seated = record {
      seat = k.seated.seat;
      before = k.seated.before;
      first = k.seated.first;
      line = k.seated.line;
      lines = k.seated.lines;
      left_out = k.seated.left_out;
      rest = k.seated.rest;
      place_is = k.seated.place_is;
      nothing_before = enters_chain author old mid k.seated.before [] [] e k.seated.nothing_before;
      gets_seat = k.seated.gets_seat;
      entered = k.seated.entered;
      took = k.seated.took;
      all_but = k.seated.all_but;
      wrote = k.seated.wrote;
      wire_ends = k.seated.wire_ends;
      history_ends = k.seated.history_ends;
    };
  }

  pub kept_grown : (excuse : Type 0) (author : ℕ) (old new : List (Entry A)) (s : Session L) → Noted after reads joins sits hears says at excuse author
      old new s → (since : List (Entry A)) × (new ≡ old ++ since)
  kept_grown excuse author old new s k =
      let b = k.seated.nothing_before in
      let e = k.seated.entered in (
        b.since ++ (k.seated.first ∷ e.since),
        e.grown
            ∙ (append_assoc k.seated.before (k.seated.first ∷ []) e.since
            ∙ (ap (λ (l : List (Entry A)). l ++ (k.seated.first ∷ e.since)) b.grown ∙ append_assoc old b.since (k.seated.first ∷ e.since))),
      )

  pub handled_grown : (excuse : Type 0) (author : ℕ) (old new : List (Entry A)) (ss : List (Session L)) → Handled after reads joins sits hears says at
      excuse author old new ss → (since : List (Entry A)) × (new ≡ old ++ since)
  handled_grown excuse author old new [] h = (h.since, h.grown)
  handled_grown excuse author old new (s ∷ ss) (mid, k, o, h) =
      let one = kept_grown excuse author old mid s k in
      let rest = handled_grown excuse author mid new ss h in
      (one.0 ++ rest.0, rest.1 ∙ (ap (λ (l : List (Entry A)). l ++ rest.0) one.1 ∙ append_assoc old one.0 rest.0))

  not_over : {B : Type 0} (b : Bool) → b ≡ false → b ≡ true → B
  not_over b f t = absurd (true≢false (sym t ∙ f))

  -- one more session, where the game was not over before it
  pub handled_push : (excuse : Type 0) (author : ℕ) (old mid new : List (Entry A)) (ss : List (Session L)) (s : Session L) → IsOn after mid →
      Handled after reads joins sits hears says at excuse author old mid ss → Noted after reads joins sits hears says at excuse author mid new s
      → Handled after reads joins sits hears says at excuse author old new (ss ++ s ∷ [])
  handled_push excuse author old mid new [] s on h k = (new, kept_from excuse author old mid new s h k, (λ over. refl), enters_nothing author new)
  handled_push excuse author old mid new (t ∷ ss) s on (next, k0, o, h) k =
      let grown = handled_grown excuse author next mid ss h in
      (next, k0, (λ over. not_over (after next).over (on next grown.0 grown.1) over), handled_push excuse author next mid new ss s on h k)

  pub handled_items : (excuse : Type 0) (author : ℕ) (old new : List (Entry A)) (ss all : List (Session L)) → all ≡ ss →
      Handled after reads joins sits hears says at excuse author old new ss → Handled after reads joins sits hears says at excuse author old new all
  handled_items excuse author old new ss all e h = subst (λ (l : List (Session L)). Handled after reads joins sits hears says at excuse author old new l) (sym e) h

  pub handled_pushed : (excuse : Type 0) (author : ℕ) (old mid new : List (Entry A)) (ss all : List (Session L)) (s : Session L) →
      all ≡ ss ++ s ∷ [] → IsOn after mid → Handled after reads joins sits hears says at excuse author old mid ss → Noted after reads joins sits hears
      says at excuse author mid new s
      → Handled after reads joins sits hears says at excuse author old new all
  handled_pushed excuse author old mid new ss all s e on h k = handled_items excuse author old new (ss ++ s ∷ []) all e (handled_push excuse author old mid new ss s on h k)

  -- a link that was shut with the session of its wire
  pub kept_link : (excuse : Type 0) (author : ℕ) (old new : List (Entry A)) (s : Session L) (start : L) (x y : WireState) (ended : Ended) (place : ℕ)
      → SeatedSession after reads joins sits hears says author old new x y ended place → x ≡ at [] start → IsNew x → y ≡ at y.held s.link →
      place ≡ s.place → (IsExcused ended → excuse) → Noted after reads joins sits hears says at excuse author old new s
  kept_link excuse author old new s start x y ended place seated same_x new_x same_y same_place f = record {
    start = start;
    is_new = subst (λ (w : WireState). IsNew w) same_x new_x;
    held = y.held;
    ended = ended;
    excused = f;
    seated = subst (λ (p : ℕ). SeatedSession after reads joins sits hears says author old new (at [] start) (at y.held s.link) ended p) same_place
        (subst (λ (w : WireState). SeatedSession after reads joins sits hears says author old new w (at y.held s.link) ended place) same_x
        (subst (λ (w : WireState). SeatedSession after reads joins sits hears says author old new x w ended place) same_y seated));
  }

module _ {A R : Type 0} (after : List (Entry A) → Showing) (reads : List ℕ → A) (joins : List ℕ → Option JoinLine) (sits : List (Entry A) → List ℕ →
    SitAnswer) (hears : List (Entry A) → ℕ → ℕ → A → Heard R) (says : Control R → List ℕ) where
  pub session_some : (author : ℕ) (old new : List (Entry A)) (x y : WireState) (ended : Ended) (place : Option ℕ) (p : ℕ) → place ≡ Some p →
      SessionAt after reads joins sits hears says author old new x y ended place → SeatedSession after reads joins sits hears says author old new x y
      ended p
  session_some author old new x y ended place p e h = subst (λ (o : Option ℕ). SessionAt after reads joins sits hears says author old new x y ended o) e h

  pub session_none : (author : ℕ) (old new : List (Entry A)) (x y : WireState) (ended : Ended) (place : Option ℕ) → place ≡ None →
      SessionAt after reads joins sits hears says author old new x y ended place → Enters author old new []
  session_none author old new x y ended place e h = nothing_of (subst (λ (o : Option ℕ). SessionAt after reads joins sits hears says author old new x y ended o) e h)
    where
      nothing_of : SeatlessSession sits says author old new x y ended → Enters author old new []
      nothing_of s = s.nothing

abbrev state : Option (List ℕ) → Option (List ℕ) → Option (List ℕ) → ℕ → ℕ → List ℕ → WireState
state r l w rf wf h = record { read = r; left = l; written = w; read_faults = rf; write_faults = wf; held = h }

module _ {L : Type 0} (read left written : L → Option (List ℕ)) (read_faults write_faults : L → ℕ) where
  pub wire_new : (w : Wire L) (l : L) → wire_link w ≡ l → wire_held w ≡ [] → IsFresh (read l) (written l) (read_faults l) (write_faults l) →
      IsNew (at_wire read left written read_faults write_faults w)
  wire_new w l e h f = record { fresh = subst (λ (k : L). IsFresh (read k) (written k) (read_faults k) (write_faults k)) (sym e) f; holds_nothing = h }

  at_same : (h : List ℕ) (k l : L) → read l ≡ read k → left l ≡ left k → written l ≡ written k → read_faults l ≡ read_faults k → write_faults l ≡ write_faults k
      → at_link read left written read_faults write_faults h k ≡ at_link read left written read_faults write_faults h l
  at_same h k l a b c d e =
      ap (λ (v : Option (List ℕ)). state v (left k) (written k) (read_faults k) (write_faults k) h) (sym a)
      ∙ (ap (λ (v : Option (List ℕ)). state (read l) v (written k) (read_faults k) (write_faults k) h) (sym b)
      ∙ (ap (λ (v : Option (List ℕ)). state (read l) (left l) v (read_faults k) (write_faults k) h) (sym c)
      ∙ (ap (λ (v : ℕ). state (read l) (left l) (written l) v (write_faults k) h) (sym d)
      ∙ ap (λ (v : ℕ). state (read l) (left l) (written l) (read_faults l) v h) (sym e))))

  pub wire_shut : (w : Wire L) (k l : L) → k ≡ wire_link w → ReadingStays (read k) (read l) (left k) (left l) (read_faults k) (read_faults l) →
      WritingStays (written k) (written l) (write_faults k) (write_faults l)
      → at_wire read left written read_faults write_faults w ≡ at_link read left written read_faults write_faults (wire_held w) l
  wire_shut w k l e r s = ap (λ (i : L). at_link read left written read_faults write_faults (wire_held w) i) (sym e) ∙ at_same (wire_held w) k l r.read r.left s.written r.faults s.faults

  -- a wire over a link that has just come
  pub wire_start : (w : Wire L) (l : L) → wire_link w ≡ l → wire_held w ≡ [] → at_wire read left written read_faults write_faults w ≡ at_link read left written read_faults write_faults [] l
  wire_start w l e h = ap₂ (at_link read left written read_faults write_faults) h e
