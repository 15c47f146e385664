-- What all workers come to in the whole history.
use Rattle.std.proofs.Common.{◌≡◌, inl, inr, ℕ, zero, suc, ◌+◌, ◌<◌, true, List, [], ◌∷◌, ◌++◌, length, map, refl, sym, ap, ◌∙◌, subst, arith, append-nil}
use Rattle.std.specs.Prelude.{All, IsPermutation, Option, Some, None}
use Rattle.std.proofs.lemmas.Bool.Decides.{eqb_tells}
use Rattle.std.proofs.lemmas.List.{map-append, append_cancel_left}
use Rattle.std.proofs.lemmas.List.Elements.{All-nil, All-cons, All-append}
use Rattle.turn_lock.specs.Notes.{notes_of}
use Rattle.mj_connection.specs.Seating.{Entry, JoinLine, SitAnswer, Heard, Control, Showing}
use Rattle.mj_ports.specs.declared.entry.Entry.TheVariants.{Sat, Back, Said, Gone, Expired}
use Rattle.mj_ports.specs.Entries.{author_of, IsAside}
use Rattle.mj_ports.specs.Seats.{Stays, StaysEnded, Unmoved, Answers, Leaves, Adds}
use Rattle.mj_session.specs.Histories.{Enters, begins_one, places_from, places_of}
use Rattle.mj_session.specs.declared.served.Ended.{Ended}
use Rattle.mj_session.specs.declared.served.Ended.TheVariants.{GameOver, PeerEnded, LinkFault, LineTooLong, TooManyRefusals, NotSeated, NoMemory}
use Rattle.mj_session.specs.Sessions.{said_by, last_entry}
use Rattle.mj_handlers.specs.declared.visit.Session.{Session}
use Rattle.mj_handlers.specs.Handlers.{Handled}
use Rattle.mj_ticker.specs.Ticks.{Ticks, Timed}
use Rattle.mj_seats.specs.Workers.{AllServe, IsPlayedBy, begun_from}
use Rattle.mj_session.specs.Wires.{WireState}
use Rattle.mj_connection.proofs.Growing.{enters_chain, enters_one}
use Rattle.mj_ticker.proofs.Besides.{all_after}
use Rattle.mj_handlers.proofs.Placing.{places_append, places_still, handled_places, begins_by}
use Rattle.mj_seats.proofs.Whole.{serves_all}
use Rattle.mj_seats.proofs.Begun.{parts_from, begun_is, NoExpiry, AnExpiry, all_expiries, all_begin_below}

module _ {A : Type 0} where
  no_expiry : (e : Entry A) → begins_one e ≡ true → NoExpiry e
  no_expiry (Sat author name key) h = refl
  no_expiry (Back author seat) h = refl
  no_expiry (Said author seat answer) h = refl
  no_expiry (Gone author seat) h = refl
  no_expiry (Expired author window t1 t2) h = sym h

  none_said : (reads : List ℕ → A) (author seat : ℕ) (lines : List (List ℕ)) → All NoExpiry (said_by reads author seat lines)
  none_said reads author seat [] = All-nil NoExpiry
  none_said reads author seat (l ∷ ls) = All-cons NoExpiry (Said author seat (reads l)) (said_by reads author seat ls) refl (none_said reads author seat ls)

  -- a ticker enters expiries alone
  all_timed : (author : ℕ) (readings : List ℕ) (mine : List (Entry A)) → Timed author readings mine → All AnExpiry mine
  all_timed author readings [] t = All-nil AnExpiry
  all_timed author readings (e ∷ es) (before, t1, between, t2, rest, window, is, same, t) = All-cons AnExpiry e es (by e same) (all_timed author rest es t)
    where
      by : (x : Entry A) → x ≡ Expired author window t1 t2 → AnExpiry x
      by x s = subst AnExpiry (sym s) refl

  -- of what came since an author has the notes that it entered
  mine_is : (author : ℕ) (first since all mine : List (Entry A)) → all ≡ first ++ since → Enters author first all mine → notes_of author_of author since ≡ mine
  mine_is author first since all mine is e = ap (notes_of author_of author) (append_cancel_left first since e.since (sym is ∙ e.grown)) ∙ e.mine_are

  pub ticks_on : (author : ℕ) (old seen all : List (Entry A)) (r0 r1 : Option (List ℕ)) → Ticks author old seen r0 r1 → Enters author seen all [] → Ticks author old all r0 r1
  ticks_on author old seen all r0 r1 t e = record {
    readings = t.readings;
    mine = t.mine;
    entered = subst (λ (l : List (Entry A)). Enters author old all l) (append-nil t.mine) (enters_chain author old seen all t.mine [] t.entered e);
    timed = t.timed;
    made = t.made;
  }

  ticks_expire : (author : ℕ) (first since all : List (Entry A)) (r0 r1 : Option (List ℕ)) → all ≡ first ++ since → Ticks author first all r0 r1 →
      All AnExpiry (notes_of author_of author since)
  ticks_expire author first since all r0 r1 is t =
      subst (λ (l : List (Entry A)). All AnExpiry l) (sym (mine_is author first since all t.mine is t.entered)) (all_timed author t.readings t.mine t.timed)

none_gone : (A : Type 0) (author seat : ℕ) → All (NoExpiry {A = A}) (Gone author seat ∷ [])
none_gone A author seat = All-cons (NoExpiry {A = A}) (Gone author seat) [] refl (All-nil (NoExpiry {A = A}))

none_last : (A : Type 0) (ended : Ended) (author seat : ℕ) → All (NoExpiry {A = A}) (last_entry {A = A} ended author seat)
none_last A GameOver author seat = All-nil (NoExpiry {A = A})
none_last A PeerEnded author seat = none_gone A author seat
none_last A LinkFault author seat = none_gone A author seat
none_last A LineTooLong author seat = none_gone A author seat
none_last A TooManyRefusals author seat = All-nil (NoExpiry {A = A})
none_last A (NotSeated why) author seat = All-nil (NoExpiry {A = A})
none_last A NoMemory author seat = All-nil (NoExpiry {A = A})

module _ {A R L : Type 0} (after : List (Entry A) → Showing) (reads : List ℕ → A) (joins : List ℕ → Option JoinLine) (sits : List (Entry A) → List ℕ →
    SitAnswer) (hears : List (Entry A) → ℕ → ℕ → A → Heard R) (says : Control R → List ℕ) (at : List ℕ → L → WireState) where
  -- a handler enters no expiry
  handled_notes : (excuse : Type 0) (author : ℕ) (old new : List (Entry A)) (ss : List (Session L)) → Handled after reads joins sits hears says at
      excuse author old new ss → (mine : List (Entry A)) × Enters author old new mine × All NoExpiry mine
  handled_notes excuse author old new [] h = ([], h, All-nil NoExpiry)
  handled_notes excuse author old new (s ∷ ss) (mid, k, o, h) =
      let rest = handled_notes excuse author mid new ss h in
      let q = k.seated in
      let begun = begins_by q.before q.first q.seat author q.gets_seat.answer (sits q.before q.line) (joins q.line) q.gets_seat.given q.gets_seat.is_right in
      let notes : List (Entry A) = said_by reads author q.seat q.lines ++ last_entry k.ended author q.seat in
      let start : Enters author old (q.before ++ q.first ∷ []) (q.first ∷ []) = enters_chain author old q.before (q.before ++ q.first ∷ []) []
      (q.first ∷ []) q.nothing_before (enters_one author q.before (q.before ++ q.first ∷ []) q.first begun.1 refl) in
      let own : Enters author old mid (q.first ∷ notes) = enters_chain author old (q.before ++ q.first ∷ []) mid (q.first ∷ []) notes start q.entered in (
        (q.first ∷ notes) ++ rest.0,
        enters_chain author old mid new (q.first ∷ notes) rest.0 own rest.1,
        All-append NoExpiry (q.first ∷ notes) rest.0
            (All-cons NoExpiry q.first notes (no_expiry q.first begun.0) (All-append NoExpiry (said_by reads author q.seat q.lines)
            (last_entry k.ended author q.seat) (none_said reads author q.seat q.lines) (none_last A k.ended author q.seat)))
            rest.2,
      )

-- Of handlers, numbered from 0, at one table: what each served, up to the history that it has seen, since when others alone
-- entered something.
module _ {A R L : Type 0} (after : List (Entry A) → Showing) (reads : List ℕ → A) (joins : List ℕ → Option JoinLine) (sits : List (Entry A) → List ℕ →
    SitAnswer) (hears : List (Entry A) → ℕ → ℕ → A → Heard R) (says : Control R → List ℕ) (at : List ℕ → L → WireState) (first all : List (Entry A)) where
  abbrev pub AllLeft : ℕ → List (Session L) → Type 0
  AllLeft zero sessions = sessions ≡ []
  AllLeft (suc by) sessions =
      (before : List (Session L)) × (own : List (Session L)) × (seen : List (Entry A)) × (sessions ≡ before ++ own) × AllLeft by before
      × Handled after reads joins sits hears says at ⊥ by first seen own × Enters by seen all []

module _ {A R L : Type 0} (after : List (Entry A) → Showing) (is_legal : List (Entry A) → Type 0)
    (legal_before : (es fs : List (Entry A)) → is_legal (es ++ fs) → is_legal es)
    (stays : (es : List (Entry A)) (e : Entry A) → is_legal (es ++ e ∷ []) → Stays (after es) (after (es ++ e ∷ [])))
    (ended_law : (es : List (Entry A)) (e : Entry A) (place : ℕ) → is_legal (es ++ e ∷ []) → place < length es →
    (after es).seat_of place ≡ None → StaysEnded place (after es) (after (es ++ e ∷ [])))
    (hears : List (Entry A) → ℕ → ℕ → A → Heard R) (says : Control R → List ℕ)
    (others : (es : List (Entry A)) (e : Entry A) (author seat : ℕ) → is_legal (es ++ e ∷ []) → (after es).present seat ≡ Some author →
    IsAside author seat es e → Unmoved seat (after es) (after (es ++ e ∷ [])))
    (answers : (es : List (Entry A)) (author seat : ℕ) (answer : A) → is_legal (es ++ Said author seat answer ∷ []) →
    Answers says (hears es author seat answer) seat (after es) (after (es ++ Said author seat answer ∷ [])))
    (leaves : (es : List (Entry A)) (author seat : ℕ) → is_legal (es ++ Gone author seat ∷ []) →
    Leaves seat (after es) (after (es ++ Gone author seat ∷ [])) × Adds seat [] (after es) (after (es ++ Gone author seat ∷ [])))
    (reads : List ℕ → A) (joins : List ℕ → Option JoinLine) (sits : List (Entry A) → List ℕ → SitAnswer) (at : List ℕ → L → WireState)
    (first since all : List (Entry A)) (all_is : all ≡ first ++ since) (legal : is_legal all) where
  abbrev Left : ℕ → List (Session L) → Type 0
  Left n ss = AllLeft after reads joins sits hears says at first all n ss

  all_serve : (n : ℕ) (ss : List (Session L)) → Left n ss → AllServe after reads joins sits hears says at first n all ss
  all_serve zero ss e = e
  all_serve (suc n) ss (before, own, seen, is, left, handled, later) = (
    before,
    own,
    is,
    all_serve n before left,
    serves_all after is_legal legal_before stays ended_law hears says others answers leaves reads joins sits at n first seen all own legal later handled,
  )

  all_places : (n : ℕ) (ss : List (Session L)) → Left n ss → parts_from (length first) n since ≡ map (λ (s : Session L). s.place) ss
  all_places zero ss e = sym (ap (λ (l : List (Session L)). map (λ (s : Session L). s.place) l) e)
  all_places (suc n) ss (before, own, seen, is, left, handled, later) =
      let own_places : places_of n seen ≡ places_of n first ++ map (λ (s : Session L). s.place) own =
      handled_places after reads joins sits hears says at ⊥ n first seen own handled in
      let from : 0 + length first ≡ length first = omega arith in
      let parted : places_of n all ≡ places_of n first ++ places_from (length first) n since =
      ap (places_of n) all_is ∙ (places_append 0 n first since ∙ ap (λ (k : ℕ). places_of n first ++ places_from k n since) from) in
      let mine : places_from (length first) n since ≡ map (λ (s : Session L). s.place) own =
      append_cancel_left (places_of n first) _ _ (sym parted ∙ (places_still n seen all later ∙ own_places)) in
      (λ i. all_places n before left i ++ mine i)
      ∙ (sym (map-append (λ (s : Session L). s.place) before own)
      ∙ sym (ap (λ (l : List (Session L)). map (λ (s : Session L). s.place) l) is))

  no_expiries : (n : ℕ) (ss : List (Session L)) → Left n ss → (k : ℕ) → k < n → All NoExpiry (notes_of author_of k since)
  no_expiries zero ss e k near = absurd (omega (arith, near))
  no_expiries (suc n) ss (before, own, seen, is, left, handled, later) k near =
      elim (eqb_tells k n) [ inl s ↦ here s.1 | inr s ↦ no_expiries n before left k (less s.1) ]
    where
      here : k ≡ n → All NoExpiry (notes_of author_of k since)
      here e =
          let h = handled_notes after reads joins sits hears says at ⊥ n first seen own handled in
          let whole : Enters n first all h.0 =
          subst (λ (l : List (Entry A)). Enters n first all l) (append-nil h.0) (enters_chain n first seen all h.0 [] h.1 later) in
          subst (λ (j : ℕ). All NoExpiry (notes_of author_of j since)) (sym e)
          (subst (λ (l : List (Entry A)). All NoExpiry l) (sym (mine_is n first since all h.0 all_is whole)) h.2)

      less : (k ≡ n → ⊥) → k < n
      less ne = omega (arith, near, ne)

  -- all of it
  pub played_is : (n : ℕ) (ss : List (Session L)) (r0 r1 : Option (List ℕ)) → Left n ss → All (λ (e : Entry A). author_of e < n + 1) all → Ticks n first all r0 r1 →
      IsPlayedBy after reads joins sits hears says at n first all ss r0 r1
  played_is n ss r0 r1 left few ticks =
      let fewer : All (λ (e : Entry A). author_of e < n + 1) since =
      all_after (λ (e : Entry A). author_of e < n + 1) first since (subst (λ (l : List (Entry A)). All (λ (e : Entry A). author_of e < n + 1) l) all_is few) in
      record {
        since = since;
        grown = all_is;
        authors = few;
        sessions_are = all_serve n ss left;
        places = subst (λ (l : List ℕ). IsPermutation (begun_from (length first) since) l) (all_places n ss left)
            (begun_is (length first) n since (all_begin_below n since fewer (ticks_expire n first since all r0 r1 all_is ticks)));
        ticks = ticks;
        expiries = all_expiries n since fewer (no_expiries n ss left);
      }
