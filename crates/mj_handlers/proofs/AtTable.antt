-- A session whose first line was read before its table was known, as a session at that table from when its link came.
use Rattle.std.proofs.Common.{◌≡◌, ℕ, ◌==◌, Bool, true, false, true≢false, if◌then◌else◌, List, [], ◌∷◌, ◌++◌, refl, sym, ap, ◌∙◌, subst, arith, append_assoc, append-nil}
use Rattle.std.specs.Prelude.{Option, Some, None}
use Rattle.std.proofs.lemmas.List.Elements.{All-head, All-tail}
use Rattle.mj_links.specs.Links.{has_newline}
use Rattle.mj_links.proofs.KnownLaws.{Consumes-nothing, Appends-nothing}
use Rattle.mj_ports.specs.declared.entry.Entry.{Entry}
use Rattle.mj_ports.specs.declared.picking.Picked.{Picked}
use Rattle.mj_ports.specs.declared.picking.Picked.TheVariants as picked
use Rattle.mj_ports.specs.declared.sitting.JoinLine.{JoinLine}
use Rattle.mj_ports.specs.declared.sitting.SitRefused.TheVariants.{NoRoom}
use Rattle.mj_ports.specs.declared.answers.SitAnswer.{SitAnswer}
use Rattle.mj_ports.specs.declared.answers.SitAnswer.TheVariants as sit
use Rattle.mj_ports.specs.declared.answers.Heard.{Heard}
use Rattle.mj_ports.specs.declared.answers.Control.{Control}
use Rattle.mj_ports.specs.declared.answers.Control.TheVariants.{Hello}
use Rattle.mj_ports.specs.Seats.{Showing, script}
use Rattle.mj_ports.specs.SeatCalls.{AnswersSit}
use Rattle.mj_session.specs.declared.served.Ended.{Ended}
use Rattle.mj_session.specs.declared.served.Ended.TheVariants.{GameOver, PeerEnded, LinkFault, LineTooLong, TooManyRefusals, NotSeated, NoMemory}
use Rattle.mj_session.specs.Sessions.{SeatedSession, SessionAt, GetsSeat, IsExcused, WireEnds}
use Rattle.mj_handlers.specs.Handlers.{Noted, IsNew}
use Rattle.mj_session.specs.Wires.{WireState, with_newlines, Took, Wrote, ToldInPart}
use Rattle.mj_session.specs.Histories.{Enters}
use Rattle.mj_session.proofs.Wiring.{took_chain}
use Rattle.mj_handlers.proofs.Handling.{kept_link, session_some, session_none}
use Rattle.mj_handlers.specs.Picks.{sits_by, sits_at}

same_number : (n : ℕ) → (n == n) ≡ true
same_number n = grind arith

-- a line is said the same to at its table as by the game there
sits_here : (p : Picked) (table : ℕ) (answer : SitAnswer) → p ≡ picked.Table table → answer ≡ sits_by p table answer
sits_here p table answer is = subst (λ (q : Picked). answer ≡ sits_by q table answer) (sym is) (ap (λ (b : Bool). if b then answer else sit.Refused NoRoom) (sym (same_number table)))

-- two texts with the same first line
one_more : (b : ℕ) (bs : List ℕ) → has_newline (b ∷ bs) ≡ false → (b ≡ 10 → ⊥) × (has_newline bs ≡ false)
one_more b bs h = by (b == 10) refl
  where
    by : (c : Bool) → (b == 10) ≡ c → (b ≡ 10 → ⊥) × (has_newline bs ≡ false)
    by true e = absurd (true≢false (sym (ap (λ (c : Bool). c) (yes e)) ∙ h))
      where
        yes : (b == 10) ≡ true → has_newline (b ∷ bs) ≡ true
        yes e = grind (arith, e)
    by false e = ((λ is. true≢false (sym (subst (λ (n : ℕ). (n == 10) ≡ true) (sym is) refl) ∙ e)), grind (arith, e, h))

same_head : (x y : ℕ) (xs ys : List ℕ) → x ∷ xs ≡ y ∷ ys → x ≡ y
same_head x y xs ys e = cc

same_tail : (x y : ℕ) (xs ys : List ℕ) → x ∷ xs ≡ y ∷ ys → xs ≡ ys
same_tail x y xs ys e = cc

same_line : (a b s t : List ℕ) → has_newline a ≡ false → has_newline b ≡ false → a ++ 10 ∷ s ≡ b ++ 10 ∷ t → (a ≡ b) × (s ≡ t)
same_line [] [] s t p q e = (refl, same_tail 10 10 s t e)
same_line [] (y ∷ b) s t p q e = absurd ((one_more y b q).0 (sym (same_head 10 y s (b ++ 10 ∷ t) e)))
same_line (x ∷ a) [] s t p q e = absurd ((one_more x a p).0 (same_head x 10 (a ++ 10 ∷ s) t e))
same_line (x ∷ a) (y ∷ b) s t p q e =
    let rest = same_line a b s t (one_more x a p).1 (one_more y b q).1 (same_tail x y (a ++ 10 ∷ s) (b ++ 10 ∷ t) e) in
    ((λ i. same_head x y (a ++ 10 ∷ s) (b ++ 10 ∷ t) e i ∷ rest.0 i), rest.1)

-- the wire of a link before its first line was taken off it, as if that line was held by then
abbrev as_held : WireState → WireState → List ℕ → WireState
as_held x y line = record { read = y.read; left = y.left; written = x.written; read_faults = x.read_faults; write_faults = x.write_faults; held = line ++ 10 ∷ y.held }

abbrev as_before : WireState → WireState → WireState
as_before x y = record { read = y.read; left = y.left; written = y.written; read_faults = x.read_faults; write_faults = y.write_faults; held = y.held }

module _ (x y : WireState) (line : List ℕ) (took : Took x y (line ∷ []) []) where
  plain : has_newline line ≡ false
  plain = All-head (λ (l : List ℕ). has_newline l ≡ false) line [] took.whole

  took_held : Took (as_held x y line) y (line ∷ []) []
  took_held = record {
    passes = record {
      bytes = [];
      taken = Consumes-nothing y.left;
      read = Appends-nothing y.read;
      held = append-nil (line ++ 10 ∷ y.held)
          ∙ (sym (append_assoc line (10 ∷ []) y.held) ∙ ap (λ (l : List ℕ). l ++ y.held) (sym (append-nil ((line ++ 10 ∷ []) ++ []) ∙ append-nil (line ++ 10 ∷ []))));
    };
    whole = took.whole;
    risen = took.risen;
  }

  told_held : (hello : List ℕ) → Wrote x y hello → Wrote (as_held x y line) y hello
  told_held hello t = record { written = t.written; risen = t.risen }

  -- what came since is led by that line
  module _ (z : WireState) (first : List ℕ) (more : List (List ℕ)) (rest : List ℕ) (all : Took (as_held x y line) z (first ∷ more) rest) where
    parted : (line ≡ first) × (y.held ++ all.passes.bytes ≡ (with_newlines more ++ rest) ++ z.held)
    parted = same_line line first (y.held ++ all.passes.bytes) ((with_newlines more ++ rest) ++ z.held) plain (All-head (λ (l : List ℕ). has_newline l ≡ false) first more all.whole)
        (sym (append_assoc line (10 ∷ y.held) all.passes.bytes)
        ∙ (all.passes.held
        ∙ (append_assoc ((first ++ 10 ∷ []) ++ with_newlines more) rest z.held
        ∙ (append_assoc (first ++ 10 ∷ []) (with_newlines more) (rest ++ z.held)
        ∙ (append_assoc first (10 ∷ []) (with_newlines more ++ (rest ++ z.held)) ∙ ap (λ (l : List ℕ). first ++ 10 ∷ l) (sym (append_assoc (with_newlines more) rest z.held)))))))

    took_all : Took x z (first ∷ more) rest
    took_all = subst (λ (l : List ℕ). Took x z (l ∷ more) rest) parted.0
        (took_chain x (as_before x y) z (line ∷ []) more rest
        (record { passes = took.passes; whole = took.whole; risen = omega arith })
        (record {
          passes = record { bytes = all.passes.bytes; taken = all.passes.taken; read = all.passes.read; held = parted.1 };
          whole = All-tail (λ (l : List ℕ). has_newline l ≡ false) first more all.whole;
          risen = all.risen;
        }))

  told_part_held : (excuse : Type 0) (z : WireState) (old new : List ℕ) → ToldInPart excuse (as_held x y line) z old new → ToldInPart excuse x z old new
  told_part_held excuse z old new t = record { piece = t.piece; rest = t.rest; wrote = record { written = t.wrote.written; risen = t.wrote.risen }; is = t.is; whole = t.whole }

  ends_held : (ended : Ended) (z : WireState) (rest : List ℕ) → WireEnds ended (as_held x y line) z rest → WireEnds ended x z rest
  ends_held GameOver z rest h = h
  ends_held PeerEnded z rest h = h
  ends_held LinkFault z rest h = h
  ends_held LineTooLong z rest h = h
  ends_held TooManyRefusals z rest h = h
  ends_held (NotSeated why) z rest h = h
  ends_held NoMemory z rest h = h

module _ {A R : Type 0} (after : List (Entry A) → Showing) (reads : List ℕ → A) (joins : List ℕ → Option JoinLine) (sits : List (Entry A) → List ℕ →
    SitAnswer) (hears : List (Entry A) → ℕ → ℕ → A → Heard R) (says : Control R → List ℕ) (picks : List ℕ → Picked) (table : ℕ) where
  gets_here : (before : List (Entry A)) (line : List ℕ) (author seat : ℕ) (first : Entry A) → picks line ≡ picked.Table table →
      GetsSeat sits joins before line author seat first → GetsSeat (sits_at picks table sits) joins before line author seat first
  gets_here before line author seat first is g = record {
    answer = g.answer;
    given = g.given;
    is_right = subst (λ (a : SitAnswer). AnswersSit before (before ++ first ∷ []) g.answer a author (joins line)) (sits_here (picks line) table (sits before line) is) g.is_right;
  }

  -- the whole session
  pub seated_joined : (author : ℕ) (old new : List (Entry A)) (x y z : WireState) (line : List ℕ) (ended : Ended) (place : ℕ) (took : Took x y (line ∷ []) []) → picks line ≡ picked.Table table
      → SeatedSession after reads joins sits hears says author old new (as_held x y line) z ended place →
      SeatedSession after reads joins (sits_at picks table sits) hears says author old new x z ended place
  seated_joined author old new x y z line ended place took is q =
      let led = (parted x y line took z q.line (q.lines ++ q.left_out) q.rest q.took).0 in
      record {
        seat = q.seat;
        before = q.before;
        first = q.first;
        line = q.line;
        lines = q.lines;
        left_out = q.left_out;
        rest = q.rest;
        place_is = q.place_is;
        nothing_before = q.nothing_before;
        gets_seat = gets_here q.before q.line author q.seat q.first (subst (λ (l : List ℕ). picks l ≡ picked.Table table) led is) q.gets_seat;
        entered = q.entered;
        took = took_all x y line took z q.line (q.lines ++ q.left_out) q.rest q.took;
        all_but = q.all_but;
        wrote = told_part_held x y line took (IsExcused ended) z [] (script (after new) place) q.wrote;
        wire_ends = ends_held x y line took ended z q.rest q.wire_ends;
        history_ends = q.history_ends;
      }

  -- the link of such a session, once it was shut
  module _ {L : Type 0} (at : List ℕ → L → WireState) (excuse : Type 0) (author : ℕ) (old new : List (Entry A)) (start : L) (y z : WireState)
      (line : List ℕ) (ended : Ended) (place : Option ℕ) (took : Took (at [] start) y (line ∷ []) []) (told : Wrote (at [] start) y (says Hello))
      (session : (x : WireState) → Took x y (line ∷ []) [] → Wrote x y (says Hello) → SessionAt after reads joins sits hears says author old new x z ended place) where
    pub joined_kept : (p : ℕ) (link : L) → place ≡ Some p → picks line ≡ picked.Table table → IsNew (at [] start) → z ≡ at z.held link → (IsExcused ended → excuse)
        → Noted after reads joins (sits_at picks table sits) hears says at excuse author old new (record { link = link; place = p })
    joined_kept p link some is fresh shut excused =
        let x = at [] start in
        kept_link after reads joins (sits_at picks table sits) hears says at excuse author old new (record { link = link; place = p }) start x z ended p
        (seated_joined author old new x y z line ended p took is
        (session_some after reads joins sits hears says author old new (as_held x y line) z ended place p some
        (session (as_held x y line) (took_held x y line took) (told_held x y line took (says Hello) told))))
        refl fresh shut refl excused

    pub joined_nothing : place ≡ None → Enters author old new []
    joined_nothing none = session_none after reads joins sits hears says author old new (at [] start) z ended place none (session (at [] start) took told)
