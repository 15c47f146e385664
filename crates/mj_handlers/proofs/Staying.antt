-- What was so of a history stays so when more is entered.
use Rattle.std.proofs.Common.{◌≡◌, ℕ, Bool, true, false, List, [], ◌∷◌, ◌++◌, Option, refl, sym, ap, ◌∙◌, subst, append_assoc, append-nil}
use Rattle.mj_connection.specs.Seating.{Entry, JoinLine, SitAnswer, Heard, Control, Showing}
use Rattle.mj_ports.specs.declared.answers.SitAnswer.TheVariants as sit
use Rattle.mj_ports.specs.SeatCalls.{AnswersSit, IsRefused}
use Rattle.mj_ports.specs.Seats.{Stays}
use Rattle.mj_session.specs.declared.served.Ended.{Ended}
use Rattle.mj_session.specs.Sessions.{SeatedSession, GetsSeat, GivesSeat}
use Rattle.mj_session.specs.Wires.{WireState}
use Rattle.mj_connection.proofs.Scripts.{stays_itself, stays_chain}
use Rattle.mj_handlers.proofs.Handling.{IsOn}

-- a line that was given a seat was not refused
gives_seat : {A : Type 0} (old new : List (Entry A)) (author seat : ℕ) (answer right : SitAnswer) (join : Option JoinLine) → GivesSeat answer seat
    → AnswersSit old new answer right author join → IsRefused right → ⊥
gives_seat old new author seat (sit.Sat k) right join given h refused = subst IsRefused h.0 refused
gives_seat old new author seat (sit.Back k) right join given h refused = subst IsRefused h.0 refused
gives_seat old new author seat (sit.Refused why) right join given h refused = given
gives_seat old new author seat sit.NoMemory right join given h refused = given

module _ {A : Type 0} (after : List (Entry A) → Showing) (is_legal : List (Entry A) → Type 0)
    (legal_before : (es fs : List (Entry A)) → is_legal (es ++ fs) → is_legal es)
    (stays : (es : List (Entry A)) (e : Entry A) → is_legal (es ++ e ∷ []) → Stays (after es) (after (es ++ e ∷ []))) where
  pub stays_on : (es gap : List (Entry A)) → is_legal (es ++ gap) → Stays (after es) (after (es ++ gap))
  stays_on es [] legal = subst (λ (fs : List (Entry A)). Stays (after es) (after fs)) (sym (append-nil es)) (stays_itself (after es))
  stays_on es (e ∷ gap) legal =
      let whole : (es ++ e ∷ []) ++ gap ≡ es ++ e ∷ gap = append_assoc es (e ∷ []) gap in
      let legal' : is_legal ((es ++ e ∷ []) ++ gap) = subst is_legal (sym whole) legal in
      subst (λ (fs : List (Entry A)). Stays (after es) (after fs)) whole
      (stays_chain (after es) (after (es ++ e ∷ [])) (after ((es ++ e ∷ []) ++ gap)) (stays es e (legal_before (es ++ e ∷ []) gap legal')) (stays_on (es ++ e ∷ []) gap legal'))

  pub stays_from : (old new since : List (Entry A)) → is_legal new → new ≡ old ++ since → Stays (after old) (after new)
  stays_from old new since legal e = subst (λ (fs : List (Entry A)). Stays (after old) (after fs)) (sym e) (stays_on old since (subst is_legal e legal))

  -- where a line was given a seat, the game was over never before
  module _ (sits : List (Entry A) → List ℕ → SitAnswer) (joins : List ℕ → Option JoinLine)
      (closed : (es : List (Entry A)) (line : List ℕ) → (after es).over ≡ true → IsRefused (sits es line)) where
    on_before : (before : List (Entry A)) (line : List ℕ) (author seat : ℕ) (first : Entry A) → is_legal before → GetsSeat sits joins before line author seat first → IsOn after before
    on_before before line author seat first legal got es since e = by (after es).over refl
      where
        by : (b : Bool) → (after es).over ≡ b → b ≡ false
        by true over = absurd (gives_seat before (before ++ first ∷ []) author seat got.answer (sits before line) (joins line) got.given got.is_right
            (closed before line ((stays_from es before since legal e).over over)))
        by false over = refl

    pub seated_on : {R : Type 0} (reads : List ℕ → A) (hears : List (Entry A) → ℕ → ℕ → A → Heard R) (says : Control R → List ℕ) (author : ℕ) (old new : List (Entry A)) (x y : WireState)
        (ended : Ended) (place : ℕ) → is_legal new → SeatedSession after reads joins sits hears says author old new x y ended place → IsOn after old
    seated_on reads hears says author old new x y ended place legal q es since e =
        let whole : new ≡ q.before ++ (q.first ∷ q.entered.since) = q.entered.grown ∙ append_assoc q.before (q.first ∷ []) q.entered.since in
        on_before q.before q.line author q.seat q.first (legal_before q.before (q.first ∷ q.entered.since) (subst is_legal whole legal)) q.gets_seat es (since ++ q.nothing_before.since)
        (q.nothing_before.grown ∙ (ap (λ (l : List (Entry A)). l ++ q.nothing_before.since) e ∙ append_assoc es since q.nothing_before.since))
