-- At which places the connections of an author begin.
use Rattle.std.proofs.Common.{◌≡◌, ℕ, suc, ◌+◌, Bool, true, false, if◌then◌else◌, List, [], ◌∷◌, ◌++◌, ◌==◌, ◌&&◌, length, map, refl, true≢false, sym, ap, ◌∙◌, subst, arith, append_assoc, append-nil}
use Rattle.std.proofs.lemmas.Bool.Decides.{nat_tests}
use Rattle.std.specs.Prelude.{Option, Some, None}
use Rattle.std.proofs.lemmas.List.{append_cancel_left}
use Rattle.mj_ports.specs.SeatCalls.{AnswersSit}
use mathlib.Core.Bool.{cond}
use Rattle.turn_lock.specs.Notes.{notes_of}
use Rattle.mj_connection.specs.Seating.{Entry, JoinLine, SitAnswer, Heard, Control, Showing}
use Rattle.mj_ports.specs.declared.entry.Entry.TheVariants.{Sat, Back}
use Rattle.mj_ports.specs.declared.answers.SitAnswer.TheVariants as sit
use Rattle.mj_ports.specs.Entries.{author_of}
use Rattle.mj_session.specs.Histories.{Enters, begins_one, places_from, places_of}
use Rattle.mj_session.specs.declared.served.Ended.{Ended}
use Rattle.mj_session.specs.declared.served.Ended.TheVariants.{GameOver, PeerEnded, LinkFault, LineTooLong, TooManyRefusals, NotSeated, NoMemory}
use Rattle.mj_session.specs.Sessions.{SeatedSession, GivesSeat, said_by, last_entry}
use Rattle.mj_handlers.specs.Handlers.{Session, Handled}
use Rattle.mj_session.specs.Wires.{WireState}

module _ {A : Type 0} where
  -- no entry begins a connection
  abbrev NoneBegins : List (Entry A) → Type 0
  NoneBegins [] = Unit {0}
  NoneBegins (e ∷ es) = (begins_one e ≡ false) × NoneBegins es

  none_append : (xs ys : List (Entry A)) → NoneBegins xs → NoneBegins ys → NoneBegins (xs ++ ys)
  none_append [] ys h k = k
  none_append (x ∷ xs) ys (e, h) k = (e, none_append xs ys h k)

  none_said : (reads : List ℕ → A) (author seat : ℕ) (lines : List (List ℕ)) → NoneBegins (said_by reads author seat lines)
  none_said reads author seat [] = tt
  none_said reads author seat (l ∷ ls) = (refl, none_said reads author seat ls)

  pub places_append : (from number : ℕ) (xs ys : List (Entry A)) → places_from from number (xs ++ ys) ≡ places_from from number xs ++ places_from (from + length xs) number ys
  places_append from number [] ys = let e : from ≡ from + 0 = omega arith in ap (λ (k : ℕ). places_from k number ys) e
  places_append from number (x ∷ xs) ys =
      let e : from + 1 + length xs ≡ from + suc (length xs) = omega arith in
      by (begins_one x && author_of x == number) (places_append (from + 1) number xs ys ∙ ap (λ (k : ℕ). places_from (from + 1) number xs ++ places_from k number ys) e)
    where
      by : (b : Bool) → places_from (from + 1) number (xs ++ ys) ≡ places_from (from + 1) number xs ++ places_from (from + suc (length xs)) number ys
          → (if b then from ∷ places_from (from + 1) number (xs ++ ys) else places_from (from + 1) number (xs ++ ys)) ≡
          (if b then from ∷ places_from (from + 1) number xs else places_from (from + 1) number xs) ++ places_from (from + suc (length xs)) number
          ys
      by true h = ap (λ (l : List ℕ). from ∷ l) h
      by false h = h

  -- where none of the author's entries begins a connection, there is no place
  places_none : (from number : ℕ) (xs : List (Entry A)) → NoneBegins (notes_of author_of number xs) → places_from from number xs ≡ []
  places_none from number [] h = refl
  places_none from number (x ∷ xs) h = by (author_of x == number) (begins_one x) refl refl h (λ k. places_none (from + 1) number xs k)
    where
      by : (own begins : Bool) → (author_of x == number) ≡ own → begins_one x ≡ begins →
          NoneBegins (cond own (x ∷ notes_of author_of number xs) (notes_of author_of number xs)) → (NoneBegins (notes_of author_of number xs) →
          places_from (from + 1) number xs ≡ [])
          → (if (begins && own) then from ∷ places_from (from + 1) number xs else places_from (from + 1) number xs) ≡ []
      by true true e f (g, k) ih = absurd (true≢false (sym f ∙ g))
      by true false e f (g, k) ih = ih k
      by false true e f k ih = ih k
      by false false e f k ih = ih k

  places_one : (from number : ℕ) (e : Entry A) → begins_one e ≡ true → author_of e ≡ number → places_from from number (e ∷ []) ≡ from ∷ []
  places_one from number e b own =
      let mine : (author_of e == number) ≡ true = grind (arith, nat_tests, own) in
      ap (λ (x : Bool). if (x && author_of e == number) then from ∷ [] else []) b ∙ ap (λ (x : Bool). if (true && x) then from ∷ [] else []) mine

  abbrev first_or : Entry A → List (Entry A) → Entry A
  first_or e [] = e
  first_or e (x ∷ xs) = x

  is_entry : (before : List (Entry A)) (e f : Entry A) → before ++ e ∷ [] ≡ before ++ f ∷ [] → e ≡ f
  is_entry before e f h = ap (first_or e) (append_cancel_left before (e ∷ []) (f ∷ []) h)

  pub begins_by : (before : List (Entry A)) (first : Entry A) (seat author : ℕ) (answer right : SitAnswer) (join : Option JoinLine) →
      GivesSeat answer seat → AnswersSit before (before ++ first ∷ []) answer right author join →
      (begins_one first ≡ true) × (author_of first ≡ author)
  begins_by before first seat author (sit.Sat k) right None g (e, h) = absurd h
  begins_by before first seat author (sit.Sat k) right (Some join) g (e, (h, is)) =
      let same : first ≡ Sat author join.name join.key = is_entry before first (Sat author join.name join.key) is in
      (ap begins_one same, ap author_of same)
  begins_by before first seat author (sit.Back k) right join g (e, is) =
      let same : first ≡ Back author k = is_entry before first (Back author k) is in
      (ap begins_one same, ap author_of same)
  begins_by before first seat author (sit.Refused why) right join g h = absurd g
  begins_by before first seat author sit.NoMemory right join g h = absurd g

  -- an author that entered nothing has no further place
  pub places_still : (author : ℕ) (old new : List (Entry A)) → Enters author old new [] → places_of author new ≡ places_of author old
  places_still author old new e =
      let none : NoneBegins (notes_of author_of author e.since) = subst NoneBegins (sym e.mine_are) tt in
      ap (places_of author) e.grown ∙ (places_append 0 author old e.since
      ∙ (ap (λ (l : List ℕ). places_of author old ++ l) (places_none (0 + length old) author e.since none) ∙ append-nil (places_of author old)))

none_last : (A : Type 0) (ended : Ended) (author seat : ℕ) → NoneBegins (last_entry {A = A} ended author seat)
none_last A GameOver author seat = tt
none_last A PeerEnded author seat = (refl, tt)
none_last A LinkFault author seat = (refl, tt)
none_last A LineTooLong author seat = (refl, tt)
none_last A TooManyRefusals author seat = tt
none_last A (NotSeated why) author seat = tt
none_last A NoMemory author seat = tt

module _ {A R L : Type 0} (after : List (Entry A) → Showing) (reads : List ℕ → A) (joins : List ℕ → Option JoinLine) (sits : List (Entry A) → List ℕ →
    SitAnswer) (hears : List (Entry A) → ℕ → ℕ → A → Heard R) (says : Control R → List ℕ) (at : List ℕ → L → WireState) where
  seated_place : (author : ℕ) (old new : List (Entry A)) (x y : WireState) (ended : Ended) (place : ℕ) → SeatedSession after reads joins sits hears
      says author old new x y ended place → places_of author new ≡ places_of author old ++ place ∷ []
  seated_place author old new x y ended place s =
      let start = s.before ++ s.first ∷ [] in
      let begun = begins_by s.before s.first s.seat author s.gets_seat.answer (sits s.before s.line) (joins s.line) s.gets_seat.given s.gets_seat.is_right in
      let none : NoneBegins (notes_of author_of author s.entered.since) =
      subst NoneBegins (sym s.entered.mine_are) (none_append (said_by reads author s.seat s.lines) (last_entry ended author s.seat)
      (none_said reads author s.seat s.lines) (none_last A ended author s.seat)) in
      let at_place : 0 + length s.before ≡ place = omega (arith, s.place_is) in
      ap (places_of author) s.entered.grown
      ∙ (places_append 0 author start s.entered.since
      ∙ (ap (λ (l : List ℕ). places_of author start ++ l) (places_none (0 + length start) author s.entered.since none)
      ∙ (append-nil (places_of author start)
      ∙ (places_append 0 author s.before (s.first ∷ [])
      ∙ (ap (λ (l : List ℕ). l ++ places_from (0 + length s.before) author (s.first ∷ [])) (places_still author old s.before s.nothing_before)
      ∙ ap (λ (l : List ℕ). places_of author old ++ l) (places_one (0 + length s.before) author s.first begun.0 begun.1 ∙ ap (λ (k : ℕ). k ∷ []) at_place))))))

  -- the places of the sessions that a handler keeps are those of its author's connections
  pub handled_places : (excuse : Type 0) (author : ℕ) (old new : List (Entry A)) (ss : List (Session L)) → Handled after reads joins sits hears says
      at excuse author old new ss → places_of author new ≡ places_of author old ++ map (λ (s : Session L). s.place) ss
  handled_places excuse author old new [] e = places_still author old new e ∙ sym (append-nil (places_of author old))
  handled_places excuse author old new (s ∷ ss) (mid, k, o, h) =
      handled_places excuse author mid new ss h
      ∙ (ap (λ (l : List ℕ). l ++ map (λ (t : Session L). t.place) ss) (seated_place author old mid (at [] k.start) (at k.held s.link) k.ended s.place k.seated)
      ∙ append_assoc (places_of author old) (s.place ∷ []) (map (λ (t : Session L). t.place) ss))
