-- How a session goes on, with its wire.
use Rattle.std.proofs.Common.{◌≡◌, ◌⊎◌, inl, inr, ℕ, ◌<◌, ◌≤◌, false, List, [], ◌∷◌, ◌++◌, length, refl, sym, ap, ◌∙◌, subst, arith, append-nil}
use Rattle.std.specs.Prelude.{None}
use Rattle.std.specs.Io.KnownBytes.{Appends}
use Rattle.mj_links.specs.Sinks.{WritesPrefix}
use Rattle.mj_links.specs.Links.{ReadingStays, WritingStays, Sends, CountsFaultOfSending, has_newline}
use Rattle.mj_links.specs.declared.wire.Sent.{Sent}
use Rattle.mj_ports.specs.declared.seated.Seated.{Ghosts}
use Rattle.mj_ports.specs.declared.answers.Control.TheVariants.{Hello}
use Rattle.mj_connection.specs.declared.stage.Connection.TheVariants as connection
use Rattle.mj_connection.specs.Seating.{Entry, Showing, Owes}
use Rattle.mj_connection.specs.declared.stage.End.{End}
use Rattle.mj_connection.specs.declared.stage.End.TheVariants.{Refused, Left, Dry, Cut}
use Rattle.mj_connection.specs.declared.stage.Connection.{Connection}
use Rattle.mj_connection.specs.declared.stage.SeatAt.{SeatAt}
use Rattle.mj_connection.specs.Stages.{Listens, IsOpen}
use Rattle.mj_connection.specs.Spoken.{IsAt, Takes, IsQuiet, IsShort, IsLost}
use Rattle.mj_connection.proofs.Growing.{enters_nothing}
use Rattle.mj_session.specs.declared.talk.Doing.TheVariants as doing
use Rattle.mj_session.specs.Sessions.{Ended, LinkFault, NoMemory, IsExcused, WireEnds}
use Rattle.mj_session.specs.Inner.Talks.{EndsAs, Leaves, Owing, Ends, ended_of}
use Rattle.mj_session.specs.Wires.{WireState, Took, Wrote, ToldInPart}
use Rattle.mj_session.proofs.Wiring.{took_chain, took_nothing, took_itself, took_on, wrote_itself, wrote_still, wrote_sent, told_all, told_more, told_failed, told_sent}

quiet_more : (unless more : Type 0) (c : Connection) (text : List ℕ) → (unless → more) → IsQuiet unless c [] text → IsQuiet more c [] text
quiet_more unless more connection.New text f (inl none) = inl none
quiet_more unless more connection.New text f (inr u) = inr (f u)
quiet_more unless more (connection.Free at) text f (inl none) = inl none
quiet_more unless more (connection.Free at) text f (inr u) = inr (f u)
quiet_more unless more (connection.Ended (Left at)) text f q = absurd q
quiet_more unless more _ text f q = tt

quiet_none : (unless : Type 0) (c : Connection) → IsOpen c → IsQuiet unless c [] []
quiet_none unless connection.New o = inl refl
quiet_none unless (connection.Free at) o = inl refl
quiet_none unless (connection.Ended how) o = absurd o
quiet_none unless _ o = tt

module _ {A : Type 0} (after : List (Entry A) → Showing) (author : ℕ) (es : List (Entry A)) where
  -- the link was lost, unless this excuses it
  pub owed : (unless more : Type 0) (c : Connection) → (unless → more) → IsLost after author unless c es → IsLost after author more c es
  owed unless more connection.Greeted f l = tt
  owed unless more (connection.Ended (Left at)) f e = record { before = e.before; last_is = e.last_is; was_of = e.was_of; right = by e.right }
    where
      by : unless ⊎ Owes (after e.before) at.seat → more ⊎ Owes (after e.before) at.seat
      by (inl u) = inl (f u)
      by (inr owes) = inr owes
  owed unless more _ f l = absurd l

  -- a session whose link is lost ended so, or by running out of memory
  by_loss : (P : Ended → Type 0) (unless : Type 0) (ended : Ended) (c : Connection) → IsLost after author unless c es ⊎ IsShort c →
      (IsLost after author unless c es → P ended) → (IsShort c → P NoMemory) → P (ended_of c ended)
  by_loss P unless ended connection.Greeted (inl l) lost short = lost l
  by_loss P unless ended (connection.Ended (Left at)) (inl l) lost short = lost l
  by_loss P unless ended (connection.Ended Dry) h lost short = short tt
  by_loss P unless ended (connection.Ended (Cut at)) h lost short = short tt
  by_loss P unless ended _ (inl l) lost short = absurd l
  by_loss P unless ended _ (inr s) lost short = absurd s

module _ {G S A R : Type 0} (g : Ghosts G S A R) (s : S) (author : ℕ) (start : List (Entry A)) (x : WireState) where
  abbrev Is : Connection → List (Entry A) → List (List ℕ) → List ℕ → Type 0
  Is c es lines out = IsAt g s author start c es lines out

  abbrev Due : Connection → List (Entry A) → WireState → List ℕ → Type 0
  Due c es y text = Owing g s author start c es x y text

  abbrev Done : Ended → Connection → List (Entry A) → WireState → Type 0
  Done ended c es y = Ends g s author start ended c es x y

  abbrev From : Connection → Connection → List (Entry A) → List (Entry A) → List ℕ → List (List ℕ) → Type 0
  From b c old new text heard = Takes g s author b c old new [] text heard

  done : (ended : Ended) (c : Connection) (es : List (Entry A)) (y : WireState) (lines : List (List ℕ)) (out rest : List ℕ) → Is c es lines out →
      Took x y lines rest → ToldInPart (IsExcused ended) x y [] out → WireEnds ended x y rest → EndsAs (g.after s) author y.left ended c es lines →
      Done ended c es y
  done ended c es y lines out rest at took told wire how = record { lines = lines; out = out; rest = rest; at = at; took = took; told = told; wire_ends = wire; ends_as = how }

  -- a session begins
  pub goes_first : (b : Connection) → b ≡ connection.New → Due b start x []
  goes_first b is = subst (λ (k : Connection). Due k start x []) (sym is) (record {
    lines = [];
    out = [];
    at = record { fits = tt; entered = (refl, enters_nothing author start); tells = refl };
    took = took_itself x;
    told = wrote_itself x;
    quiet = inl refl;
  })

  -- where a turn leaves a connection
  turned : (b c : Connection) (old new : List (Entry A)) (text : List ℕ) (heard lines : List (List ℕ)) (out : List ℕ) → From b c old new text heard →
      Is b old lines (out ++ []) → Is c new (lines ++ heard) (out ++ text)
  turned b c old new text heard lines out t i = record { fits = t.fits; entered = t.hears start lines i.entered; tells = t.tells out i.tells }

  module _ (b c : Connection) (old new : List (Entry A)) (y z : WireState) (text : List ℕ) (o : Due b old y []) where
    due_turn : (heard : List (List ℕ)) → Took y z heard [] → Wrote x z o.out → From b c old new text heard → IsQuiet (length (o.lines ++ heard) ≡ 1) c [] text → Due c new z text
    due_turn heard took told t quiet = record {
      lines = o.lines ++ heard;
      out = o.out;
      at = turned b c old new text heard o.lines o.out t o.at;
      took = took_chain x y z o.lines heard [] o.took took;
      told = told;
      quiet = quiet;
    }

    module _ (writing : WritingStays y.written z.written y.write_faults z.write_faults) where
      -- a line that was read and heard
      pub due_line : (line : List ℕ) → Took y z (line ∷ []) [] → From b c old new text (line ∷ []) → IsQuiet (b ≡ connection.Greeted) c [] text → Due c new z text
      due_line line took t quiet = due_turn (line ∷ []) took (wrote_still x y z o.out o.told writing) t
          (quiet_more (b ≡ connection.Greeted) (length (o.lines ++ line ∷ []) ≡ 1) c text (λ e. ap (λ (l : List (List ℕ)). length (l ++ line ∷ []))
          (subst (λ (k : Connection). Is k old o.lines (o.out ++ [])) e o.at).entered.0) quiet)

      -- memory ran out for the line that was to be read
      pub done_short : Took y z [] [] → From b c old new text [] → IsShort c → Done NoMemory c new z
      done_short took t short = done NoMemory c new z (o.lines ++ []) (o.out ++ text) [] (turned b c old new text [] o.lines o.out t o.at) (took_chain x y z o.lines [] [] o.took took)
          (told_more (Unit {0}) x z [] o.out (o.out ++ text) text (told_all (Unit {0}) x z o.out (wrote_still x y z o.out o.told writing)) (inr tt) refl) refl short

      -- the wire ended, and the connection by it
      pub done_lost : (ended : Ended) (rest : List ℕ) → Took y z [] rest → From b c old new text [] → Listens b → Leaves (g.after s) author doing.Lose
          b c new [] text → has_newline rest ≡ false → WireEnds ended x z rest
          → (IsLost (g.after s) author ⊥ c new → EndsAs (g.after s) author z.left ended c new (o.lines ++ [])) → Done (ended_of c ended) c new z
      done_lost ended rest took t listens leaves unfinished wire how =
          by_loss (g.after s) author new (λ (e : Ended). Done e c new z) (Listens b → ⊥) ended c leaves.0
          (λ l. ends_so ended wire (how (owed (g.after s) author new (Listens b → ⊥) ⊥ c (λ n. n listens) l))) (ends_so NoMemory unfinished)
        where
          ends_so : (e : Ended) → WireEnds e x z rest → EndsAs (g.after s) author z.left e c new (o.lines ++ []) → Done e c new z
          ends_so e wire h = done e c new z (o.lines ++ []) (o.out ++ text) rest (turned b c old new text [] o.lines o.out t o.at) (took_chain x y z o.lines [] rest o.took took)
              (told_all (IsExcused e) x z (o.out ++ text)
              (subst (λ (l : List ℕ). Wrote x z l) (sym (ap (λ (l : List ℕ). o.out ++ l) (leaves.1 listens) ∙ append-nil o.out))
              (wrote_still x y z o.out o.told writing))) wire h

  -- a look
  pub due_look : (b c : Connection) (old new : List (Entry A)) (y : WireState) (text : List ℕ) → Due b old y [] → From b c old new text [] → IsQuiet ⊥ c [] text → Due c new y text
  due_look b c old new y text o t quiet = due_turn b c old new y y text o [] (took_itself y) o.told t (quiet_more ⊥ (length (o.lines ++ []) ≡ 1) c text (λ u. absurd u) quiet)

  -- a session whose first line was read before it is heard
  pub due_joined : (b c : Connection) (new : List (Entry A)) (y : WireState) (line text : List ℕ) → b ≡ connection.Greeted → Took x y (line ∷ []) [] →
      Wrote x y (g.says Hello) → From b c start new text (line ∷ []) → IsQuiet (b ≡ connection.Greeted) c [] text → Due c new y text
  due_joined b c new y line text is took told t quiet = record {
    lines = line ∷ [];
    out = g.says Hello;
    at = turned b c start new text (line ∷ []) [] (g.says Hello) t (subst (λ (k : Connection). Is k start [] (g.says Hello ++ [])) (sym is)
        (record { fits = tt; entered = (refl, enters_nothing author start); tells = append-nil (g.says Hello) }));
    took = took;
    told = told;
    quiet = quiet_more (b ≡ connection.Greeted) (length (line ∷ []) ≡ 1) c text (λ e. refl) quiet;
  }

  -- of a connection for which nothing is still to be written
  module _ (b : Connection) (old : List (Entry A)) (y : WireState) (o : Due b old y []) where
    -- its link was asked whether it has ended
    pub due_asked : (z : WireState) → ReadingStays y.read z.read y.left z.left y.read_faults z.read_faults →
        WritingStays y.written z.written y.write_faults z.write_faults → z.held ≡ y.held → Due b old z []
    due_asked z reading writing held = record {
      lines = o.lines;
      out = o.out;
      at = o.at;
      took = took_on x y z o.lines [] o.took reading held;
      told = wrote_still x y z o.out o.told writing;
      quiet = o.quiet;
    }

    -- it looked, and still waits for a look
    pub due_free : (c : Connection) (new : List (Entry A)) (text : List ℕ) → From b c old new text [] → IsQuiet ⊥ c [] text → (at : SeatAt) → c ≡ connection.Free at → Due c new y []
    due_free c new text t quiet at is =
        let none : text ≡ [] = elim (subst (λ (k : Connection). IsQuiet ⊥ k [] text) is quiet) [ inl e ↦ e | inr u ↦ absurd u ] in
        subst (λ (l : List ℕ). Due c new y l) none (due_look b c old new y text o t quiet)

    -- its link ended that doesn't tell what is left, and what was still to be told was written
    pub left_early : (c : Connection) (new : List (Entry A)) (z u : WireState) (text rest : List ℕ) (ended : Ended) (sent : Sent) → Took y z [] rest →
        WritingStays y.written z.written y.write_faults z.write_faults → From b c old new text [] → Leaves (g.after s) author doing.Lose b c new [] text →
        ReadingStays z.read u.read z.left u.left z.read_faults u.read_faults → u.held ≡ z.held → Sends sent z.written u.written text →
        CountsFaultOfSending sent z.write_faults u.write_faults → has_newline rest ≡ false → WireEnds ended x u rest → u.left ≡ None
        → ((lines : List (List ℕ)) → IsLost (g.after s) author (u.left ≡ None) c new → EndsAs (g.after s) author u.left ended c new lines) → Done (ended_of c ended) c new u
    left_early c new z u text rest ended sent took writing t leaves reading held bytes faults unfinished wire untold how =
        by_loss (g.after s) author new (λ (e : Ended). Done e c new u) (Listens b → ⊥) ended c leaves.0
        (λ l. ends_so ended wire (how (o.lines ++ []) (owed (g.after s) author new (Listens b → ⊥) (u.left ≡ None) c (λ _. untold) l))) (ends_so NoMemory unfinished)
      where
        ends_so : (e : Ended) → WireEnds e x u rest → EndsAs (g.after s) author u.left e c new (o.lines ++ []) → Done e c new u
        ends_so e wire h = done e c new u (o.lines ++ []) (o.out ++ text) rest (turned b c old new text [] o.lines o.out t o.at)
            (took_on x z u (o.lines ++ []) rest (took_chain x y z o.lines [] rest o.took took) reading held)
            (told_sent x z u o.out text (wrote_still x y z o.out o.told writing) (IsExcused e) sent bytes faults) wire h

  -- what the last turn told was written
  module _ (c : Connection) (es : List (Entry A)) (y z : WireState) (text : List ℕ) (o : Due c es y text) (reading : ReadingStays y.read z.read y.left
      z.left y.read_faults z.read_faults) (held : z.held ≡ y.held) where
    took_still : Took x z o.lines []
    took_still = subst (λ (l : List (List ℕ)). Took x z l []) (append-nil o.lines) (took_chain x y z o.lines [] [] o.took (took_nothing y z reading held))

    still : Is c es o.lines ((o.out ++ text) ++ [])
    still = subst (λ (l : List ℕ). Is c es o.lines l) (sym (append-nil (o.out ++ text))) o.at

    -- whole
    pub sent_goes : IsOpen c → Appends y.written z.written text → y.write_faults ≤ z.write_faults → Due c es z []
    sent_goes here sent up = record {
      lines = o.lines;
      out = o.out ++ text;
      at = still;
      took = took_still;
      told = wrote_sent x y z o.out text o.told sent up;
      quiet = quiet_none (length o.lines ≡ 1) c here;
    }

    -- whole or not, to a connection that has ended
    pub sent_last : (how : End) (sent : Sent) → c ≡ connection.Ended how → Sends sent y.written z.written text →
        CountsFaultOfSending sent y.write_faults z.write_faults → Done (ended_of c LinkFault) c es z
    sent_last how sent is bytes faults =
        let last = last_as c o.quiet (subst (λ (k : Connection). IsOpen k → ⊥) (sym is) (λ u. u)) in
        done (ended_of c LinkFault) c es z o.lines (o.out ++ text) [] o.at took_still
        (told_sent x y z o.out text o.told (IsExcused (ended_of c LinkFault)) sent bytes faults) last.0 last.1
      where
        last_as : (d : Connection) → IsQuiet (length o.lines ≡ 1) d [] text → (IsOpen d → ⊥) →
            WireEnds (ended_of d LinkFault) x z [] × EndsAs (g.after s) author z.left (ended_of d LinkFault) d es o.lines
        last_as (connection.Ended (Refused why)) k n = (refl, refl)
        last_as (connection.Ended (Left at)) k n = absurd k
        last_as (connection.Ended how) k n = (refl, tt)
        last_as _ k n = absurd (n tt)

    -- in part, and then the link was lost
    pub sent_failed : (d : Connection) (new : List (Entry A)) (more : List ℕ) → IsOpen c → From c d es new more [] →
        Leaves (g.after s) author doing.Lose c d new [] more → WritesPrefix y.written z.written text → y.write_faults < z.write_faults →
        Done (ended_of d LinkFault) d new z
    sent_failed d new more here t leaves sent up =
        let failed : x.write_faults < z.write_faults = omega (arith, up, o.told.risen) in
        by_loss (g.after s) author new (λ (e : Ended). Done e d new z) (Listens c → ⊥) LinkFault d leaves.0
        (λ l. ends_so LinkFault failed (refl, inl failed) (owed (g.after s) author new (Listens c → ⊥) ((length (o.lines ++ []) ≡ 1) ⊎ (z.left ≡ None)) d
        (λ n. inl (said (first_said c here o.quiet n))) l)) (ends_so NoMemory failed refl)
      where
        said : length o.lines ≡ 1 → length (o.lines ++ []) ≡ 1
        said one = ap length (append-nil o.lines) ∙ one

        first_said : (b : Connection) → IsOpen b → IsQuiet (length o.lines ≡ 1) b [] text → (Listens b → ⊥) → length o.lines ≡ 1
        first_said connection.Greeted going quiet n = absurd (n tt)
        first_said (connection.Asked at) going quiet n = absurd (n tt)
        first_said (connection.Ended how) going quiet n = absurd going
        first_said _ going (inl none) n = let long : length text ≡ 0 = ap length none in let short = sent.short in absurd (omega (arith, long, short))
        first_said _ going (inr one) n = one

        ends_so : (e : Ended) → x.write_faults < z.write_faults → WireEnds e x z [] → EndsAs (g.after s) author z.left e d new (o.lines ++ []) → Done e d new z
        ends_so e failed wire how = done e d new z (o.lines ++ []) ((o.out ++ text) ++ more) [] (turned c d es new more [] o.lines (o.out ++ text) t
            still) (subst (λ (l : List (List ℕ)). Took x z l []) (sym (append-nil o.lines)) took_still)
            (told_more (IsExcused e) x z [] (o.out ++ text) ((o.out ++ text) ++ more) more (told_failed x y z o.out text o.told (IsExcused e) sent up) (inl failed) refl) wire how
