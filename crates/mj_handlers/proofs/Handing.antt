-- What a handler does at tables.
use Rattle.std.proofs.Common.{◌≡◌, ℕ, zero, suc, ◌<◌, ◌==◌, if◌then◌else◌, Bool, true, false, List, [], ◌∷◌, ◌++◌, length, refl, sym, ap, ◌∙◌, subst, arith, set, get_or}
use Rattle.std.specs.Prelude.{Some, slice_get, Vec}
use Rattle.std.specs.declared.alloc.Global.{Global}
use Rattle.std.proofs.lemmas.Option.{slice_get_read, slice_get_within, slice_get-get_or}
use Rattle.turn_lock.specs.Passes.{TurnState, PassState}
use Rattle.mj_ports.specs.declared.entry.Entry.{Entry}
use Rattle.mj_ports.specs.declared.picking.Picked.{Picked}
use Rattle.mj_ports.specs.declared.picking.Picked.TheVariants as picked
use Rattle.mj_ports.specs.declared.sitting.SitRefused.TheVariants.{NoRoom}
use Rattle.mj_ports.specs.declared.answers.SitAnswer.{SitAnswer}
use Rattle.mj_ports.specs.declared.answers.SitAnswer.TheVariants as sit
use Rattle.mj_ports.specs.declared.seated.Seated.{Ghosts}
use Rattle.mj_ports.specs.SeatCalls.{IsRefused}
use Rattle.mj_ports.specs.Seats.{Stays}
use Rattle.mj_session.specs.Histories.{Enters}
use Rattle.mj_session.specs.Wires.{WireState}
use Rattle.mj_handlers.specs.Handlers.{Session, Noted, rows}
use Rattle.mj_handlers.specs.Picks.{sits_by, sits_at}
use Rattle.mj_handlers.specs.Hands.{IsAtTable, IsHand, Handles}
use Rattle.mj_handlers.specs.Inner.Steps.{AllQuiet}
use Rattle.mj_ticker.proofs.Besides.{found, at_set, set_here, set_there}
use Rattle.mj_handlers.proofs.Handling.{IsOn, handled_on, handled_excused, handled_pushed, kept_grown}
use Rattle.mj_handlers.proofs.Staying.{seated_on}

refused_if : (b : Bool) (answer : SitAnswer) → IsRefused answer → IsRefused (if b then answer else sit.Refused NoRoom)
refused_if true answer r = r
refused_if false answer r = tt

-- a line that the game would refuse is refused at a table
refused_by : (p : Picked) (table : ℕ) (answer : SitAnswer) → IsRefused answer → IsRefused (sits_by p table answer)
refused_by (picked.Table t) table answer r = refused_if (t == table) answer r
refused_by picked.BadName table answer r = tt
refused_by picked.NoRoom table answer r = tt

-- one session more is kept in one list
pub rows_pushed : {L : Type 0} (kept : List (Vec (Session L) Global)) (i : ℕ) (d v : Vec (Session L) Global) (s : Session L) → v.items ≡ (get_or kept i d).items ++ s ∷ []
    → rows (set kept i v) ≡ set (rows kept) i ((get_or kept i d).items ++ s ∷ [])
rows_pushed [] i d v s e = refl
rows_pushed (x ∷ xs) zero d v s e = ap (λ (h : List (Session _)). h ∷ rows xs) e
rows_pushed (x ∷ xs) (suc i) d v s e = ap (λ (l : List (List (Session _))). x.items ∷ l) (rows_pushed xs i d v s e)

module _ {T S A R L : Type 0} (g : Ghosts T S A R) (setting : T → S) (at : List ℕ → L → WireState) (picks : List ℕ → Picked) where
  -- what excuses more excuses as well
  pub hand_excused : (less more : Type 0) → (less → more) → (by : ℕ) (first : TurnState T → List (Entry A)) (turns : List (TurnState T)) (passes : List (PassState T S (Entry A)))
      (kept : List (List (Session L))) → IsHand g setting at picks less by first turns passes kept → IsHand g setting at picks more by first turns passes kept
  hand_excused less more f by first turns passes kept is t turn p ss gt gp gk =
      let was = is t turn p ss gt gp gk in
      record {
        number_is = was.number_is;
        handled = λ legal. handled_excused (g.after (setting turn.opening)) g.reads g.joins (sits_at picks t (g.sits (setting turn.opening)))
            (g.hears (setting turn.opening)) g.says at less more f by (first turn) p.seen ss (was.handled legal);
      }

  module _ (legal_before : (s : S) (es fs : List (Entry A)) → g.is_legal s (es ++ fs) → g.is_legal s es) where
    legal_seen : (s : S) (old new since : List (Entry A)) → new ≡ old ++ since → g.is_legal s new → g.is_legal s old
    legal_seen s old new since e legal = legal_before s old since (subst (g.is_legal s) e legal)

    -- nothing was entered
    hand_quiet : (excuse : Type 0) (by : ℕ) (first : TurnState T → List (Entry A)) (turns : List (TurnState T)) (old new : List (PassState T S (Entry A))) (kept : List (List (Session L))) →
        length old ≡ length turns → AllQuiet setting turns old new → IsHand g setting at picks excuse by first turns old kept → IsHand g setting at picks excuse by first turns new kept
    hand_quiet excuse by first turns old new kept many quiet is t turn q ss gt gq gk =
        let p = found old t (omega (arith, many, slice_get_within turns t turn gt)) in
        let was = is t turn p.0 ss gt p.1 gk in
        let now = quiet.each t turn p.0 q gt p.1 gq in
        record {
          number_is = now.number_is ∙ was.number_is;
          handled = λ legal. handled_on (g.after (setting turn.opening)) g.reads g.joins (sits_at picks t (g.sits (setting turn.opening)))
              (g.hears (setting turn.opening)) g.says at excuse by (first turn) p.0.seen q.seen ss
              (was.handled (legal_seen (setting turn.opening) p.0.seen q.seen now.nothing.since now.nothing.grown legal))
              (subst (λ (n : ℕ). Enters n p.0.seen q.seen []) was.number_is now.nothing);
        }

    -- steps one after the other
    pub quiet_handles : (excuse : Type 0) (by : ℕ) (turns : List (TurnState T)) (old new : List (PassState T S (Entry A))) (kept : List (List (Session L))) →
        length old ≡ length turns → AllQuiet setting turns old new → Handles g setting at picks excuse by turns old kept new kept
    quiet_handles excuse by turns old new kept many quiet first is = hand_excused ⊥ excuse (λ b. absurd b) by first turns new kept (hand_quiet ⊥ by first turns old new kept many quiet is)

    pub handles_quiet : (less more : Type 0) → (less → more) → (by : ℕ) (turns : List (TurnState T)) (passes old new : List (PassState T S (Entry A))) (kept kept' : List (List (Session L))) →
        length old ≡ length turns → Handles g setting at picks less by turns passes kept old kept' → AllQuiet setting turns old new → Handles g setting at picks more by turns passes kept new kept'
    handles_quiet less more f by turns passes old new kept kept' many h quiet first is =
        hand_excused less more f by first turns new kept' (hand_quiet less by first turns old new kept' many quiet (h first is))

    pub quiet_then : (excuse : Type 0) (by : ℕ) (turns : List (TurnState T)) (old mid new : List (PassState T S (Entry A))) (kept kept' kept'' : List (List (Session L))) →
        length old ≡ length turns → AllQuiet setting turns old mid → kept' ≡ kept → Handles g setting at picks excuse by turns mid kept' new kept''
        → Handles g setting at picks excuse by turns old kept new kept''
    quiet_then excuse by turns old mid new kept kept' kept'' many quiet same h first is =
        h first (subst (λ (l : List (List (Session L))). IsHand g setting at picks ⊥ by first turns mid l) (sym same) (hand_quiet ⊥ by first turns old mid kept many quiet is))

    -- a session without a seat at one table, in lists that stay as they are
    pub quiet_kept : (excuse : Type 0) (by : ℕ) (turns : List (TurnState T)) (old new : List (PassState T S (Entry A))) (kept kept' : List (List (Session L))) →
        length old ≡ length turns → AllQuiet setting turns old new → kept' ≡ kept → Handles g setting at picks excuse by turns old kept new kept'
    quiet_kept excuse by turns old new kept kept' many quiet same =
        subst (λ (l : List (List (Session L))). Handles g setting at picks excuse by turns old kept new l) (sym same) (quiet_handles excuse by turns old new kept many quiet)

    module _ (stays : (s : S) (es : List (Entry A)) (e : Entry A) → g.is_legal s (es ++ e ∷ []) → Stays (g.after s es) (g.after s (es ++ e ∷ [])))
        (closed : (s : S) (es : List (Entry A)) (line : List ℕ) → (g.after s es).over ≡ true → IsRefused (g.sits s es line)) where
      -- a session with a seat at one table
      pub hand_seated : (excuse : Type 0) (by : ℕ) (turns : List (TurnState T)) (passes : List (PassState T S (Entry A))) (kept kept' : List (List (Session L))) (i : ℕ)
          (turn : TurnState T) (d q : PassState T S (Entry A)) (own : List (Session L)) (s : Session L) → i < length turns → length passes ≡ length turns →
          turn ≡ get_or turns i turn → slice_get kept i ≡ Some own → kept' ≡ set kept i (own ++ s ∷ []) → q.number ≡ (get_or passes i d).number
          → Noted (g.after (setting turn.opening)) g.reads g.joins (sits_at picks i (g.sits (setting turn.opening))) (g.hears (setting turn.opening)) g.says at excuse
          (get_or passes i d).number (get_or passes i d).seen q.seen s
          → Handles g setting at picks excuse by turns passes kept (set passes i q) kept'
      hand_seated excuse by turns passes kept kept' i turn d q own s near many this mine is_kept same noted first is t a b ss ga gb gs =
          at_set Was Is turns passes i turn q near this now stay (λ t a b ga gb ss gs. more t a b ss ga gb gs) t a b ga gb ss gs
        where
          p : PassState T S (Entry A)
          p = get_or passes i d

          Was : ℕ → TurnState T → PassState T S (Entry A) → Type 0
          Was t a b = (ss : List (Session L)) → slice_get kept t ≡ Some ss → IsAtTable g setting at picks excuse by t (first a) a b ss

          Is : ℕ → TurnState T → PassState T S (Entry A) → Type 0
          Is t a b = (ss : List (Session L)) → slice_get kept' t ≡ Some ss → IsAtTable g setting at picks excuse by t (first a) a b ss

          more : IsHand g setting at picks excuse by first turns passes kept
          more = hand_excused ⊥ excuse (λ b. absurd b) by first turns passes kept is

          was : IsAtTable g setting at picks excuse by i (first turn) turn p own
          was = more i turn p own (slice_get_read turns (length turns) i turn refl near this) (slice_get-get_or passes i d (omega (arith, near, many))) mine

          fixed : S
          fixed = setting turn.opening

          sits : List (Entry A) → List ℕ → SitAnswer
          sits = sits_at picks i (g.sits fixed)

          on : g.is_legal fixed q.seen → IsOn (g.after fixed) p.seen
          on legal = seated_on (g.after fixed) (g.is_legal fixed) (legal_before fixed) (stays fixed) sits g.joins
              (λ es line over. refused_by (picks line) i (g.sits fixed es line) (closed fixed es line over))
              g.reads (g.hears fixed) g.says p.number p.seen q.seen (at [] noted.start) (at noted.held s.link) noted.ended s.place legal noted.seated

          before : g.is_legal fixed q.seen → g.is_legal fixed p.seen
          before legal =
              let grown = kept_grown (g.after fixed) g.reads g.joins sits (g.hears fixed) g.says at excuse p.number p.seen q.seen s noted in
              legal_seen fixed p.seen q.seen grown.0 grown.1 legal

          now : Is i turn q
          now ss gs = record {
            number_is = same ∙ was.number_is;
            handled = λ legal. handled_pushed (g.after fixed) g.reads g.joins sits (g.hears fixed) g.says at excuse by (first turn) p.seen q.seen own ss s
                (set_here kept i (own ++ s ∷ []) i ss refl (ap (λ (l : List (List (Session L))). slice_get l i) (sym is_kept) ∙ gs)) (on legal) (was.handled (before legal))
                (subst (λ (n : ℕ). Noted (g.after fixed) g.reads g.joins sits (g.hears fixed) g.says at excuse n p.seen q.seen s) was.number_is noted);
          }

          stay : (t : ℕ) (a : TurnState T) (b : PassState T S (Entry A)) → (t ≡ i → ⊥) → Was t a b → Is t a b
          stay t a b other h ss gs = h ss (set_there kept i (own ++ s ∷ []) t ss other (ap (λ (l : List (List (Session L))). slice_get l t) (sym is_kept) ∙ gs))
