-- The session that comes of a connection which has ended.
use Rattle.std.proofs.Common.{◌≡◌, ◌⊎◌, inl, inr, ℕ, suc, List, [], ◌∷◌, ◌++◌, length, refl, sym, ap, ◌∙◌, subst, arith}
use Rattle.std.specs.Prelude.{Option, Some, None}
use Rattle.mj_ports.specs.declared.entry.Entry.TheVariants.{Gone}
use Rattle.mj_ports.specs.declared.answers.Control.TheVariants as control
use Rattle.mj_ports.specs.declared.sitting.SitRefused.{SitRefused}
use Rattle.mj_ports.specs.declared.answers.SitAnswer.TheVariants as sit
use Rattle.mj_ports.specs.declared.seated.Seated.{Ghosts}
use Rattle.mj_ports.specs.Seats.{script}
use Rattle.mj_connection.specs.declared.stage.End.TheVariants as over
use Rattle.mj_connection.specs.declared.stage.Connection.TheVariants as connection
use Rattle.mj_connection.specs.Seating.{Enters, Entry, EndsBy, Owes}
use Rattle.mj_connection.specs.declared.stage.SeatAt.{SeatAt}
use Rattle.mj_connection.specs.declared.stage.Connection.{Connection}
use Rattle.mj_connection.specs.Stages.{place_of}
use Rattle.mj_connection.specs.Spoken.{Spoke}
use Rattle.mj_session.specs.Sessions.{Ended, GameOver, PeerEnded, LinkFault, LineTooLong, TooManyRefusals, NotSeated, NoMemory, IsExcused}
use Rattle.mj_session.specs.Sessions.{LeavesOut, HistoryEnds, NoSeatFor, last_entry, turned_away, SeatlessSession, SessionAt}
use Rattle.mj_session.specs.Inner.Talks.{EndsAs, Ends}
use Rattle.mj_session.specs.Wires.{WireState, Took, ToldInPart}
use Rattle.mj_session.proofs.Wiring.{told_more}

module _ {G S A R : Type 0} (g : Ghosts G S A R) (s : S) (author : ℕ) (first new : List (Entry A)) (x y : WireState) where
  abbrev Done : Ended → Connection → Type 0
  Done ended c = Ends g s author first ended c new x y

  abbrev Comes : Ended → Option ℕ → Type 0
  Comes ended place = SessionAt (g.after s) g.reads g.joins (g.sits s) (g.hears s) g.says author first new x y ended place

  -- a session without a seat
  seatless : (ended : Ended) (c : Connection) (e : Done ended c) → Enters author first new [] → NoSeatFor (g.sits s) ended e.lines new →
      ToldInPart (IsExcused ended) x y [] (turned_away g.says ended) → SeatlessSession (g.sits s) g.says author first new x y ended
  seatless ended c e nothing no_seat wrote = record {
    lines = e.lines;
    rest = e.rest;
    nothing = nothing;
    took = e.took;
    no_seat = no_seat;
    wrote = wrote;
    wire_ends = e.wire_ends;
  }

  -- a link that was lost before its first line
  unheard : (ended : Ended) (e : Done ended connection.Greeted) → turned_away g.says ended ≡ g.says control.Hello → NoSeatFor (g.sits s) ended [] new → Comes ended (place_of connection.Greeted)
  unheard ended e hello no_seat =
      seatless ended connection.Greeted e e.at.entered.1 (subst (λ (l : List (List ℕ)). NoSeatFor (g.sits s) ended l new) (sym e.at.entered.0) no_seat)
      (subst (λ (l : List ℕ). ToldInPart (IsExcused ended) x y [] l) (e.at.tells ∙ sym hello) e.told)

  -- a session with a seat
  seated : (ended : Ended) (c : Connection) (e : Done ended c) (at : SeatAt) (left_out : List (List ℕ)) (k : Spoke g s author first new at e.lines
      left_out (last_entry ended author at.seat)) → LeavesOut ended left_out
      → ToldInPart (IsExcused ended) x y [] (script (g.after s new) at.place) → HistoryEnds (g.after s) (g.hears s) y.left ended author at.seat at.place k.said new → Comes ended (Some at.place)
  seated ended c e at left_out k all_but wrote history = record {
    seat = at.seat;
    before = k.before;
    first = k.first;
    line = k.line;
    lines = k.said;
    left_out = left_out;
    rest = e.rest;
    place_is = k.place_is;
    nothing_before = k.nothing_before;
    gets_seat = k.gets_seat;
    entered = k.entered;
    took = subst (λ (l : List (List ℕ)). Took x y l e.rest) k.lines_are e.took;
    all_but = all_but;
    wrote = wrote;
    wire_ends = e.wire_ends;
    history_ends = history;
  }

  -- what is written of its script
  whole : (ended : Ended) (c : Connection) (e : Done ended c) (all : List ℕ) → e.out ≡ all → ToldInPart (IsExcused ended) x y [] all
  whole ended c e all is = subst (λ (l : List ℕ). ToldInPart (IsExcused ended) x y [] l) is e.told

  cut : (c : Connection) (e : Done NoMemory c) (all more : List ℕ) → all ≡ e.out ++ more → ToldInPart (IsExcused NoMemory) x y [] all
  cut c e all more is = told_more (IsExcused NoMemory) x y [] e.out all more e.told (inr tt) is

  -- a seat whose link ended the session had a deed to answer
  owed : (at : SeatAt) → EndsBy (g.after s) at.seat at.place new (Gone author at.seat) (λ before. ⊥ ⊎ Owes (g.after s before) at.seat) →
      EndsBy (g.after s) at.seat at.place new (Gone author at.seat) (λ before. Owes (g.after s before) at.seat)
  owed at e = record { before = e.before; last_is = e.last_is; was_of = e.was_of; right = by e.right }
    where
      by : ⊥ ⊎ Owes (g.after s e.before) at.seat → Owes (g.after s e.before) at.seat
      by (inl u) = absurd u
      by (inr o) = o

  -- where one line came, and it was given the seat, nothing was said
  faulty : (at : SeatAt) (said : List (List ℕ)) (line : List ℕ) (lines : List (List ℕ)) (before : List (Entry A)) → lines ≡ line ∷ (said ++ []) →
      ((length lines ≡ 1) ⊎ (y.left ≡ None)) ⊎ Owes (g.after s before) at.seat → (said ≡ []) ⊎ ((y.left ≡ None) ⊎ Owes (g.after s before) at.seat)
  faulty at said line lines before is (inr o) = inr (inr o)
  faulty at said line lines before is (inl (inr none)) = inr (inl none)
  faulty at [] line lines before is (inl (inl one)) = inl refl
  faulty at (l ∷ ls) line lines before is (inl (inl one)) = let long : length lines ≡ suc (suc (length (ls ++ []))) = ap length is in absurd (omega (arith, long, one))

  unsaid : (at : SeatAt) (said : List (List ℕ)) (line : List ℕ) (lines : List (List ℕ)) → lines ≡ line ∷ (said ++ []) →
      EndsBy (g.after s) at.seat at.place new (Gone author at.seat) (λ before. ((length lines ≡ 1) ⊎ (y.left ≡ None)) ⊎ Owes (g.after s before) at.seat) →
      EndsBy (g.after s) at.seat at.place new (Gone author at.seat) (λ before. (said ≡ []) ⊎ ((y.left ≡ None) ⊎ Owes (g.after s before) at.seat))
  unsaid at said line lines is e = record {
    before = e.before;
    last_is = e.last_is;
    was_of = e.was_of;
    right = faulty at said line lines e.before is e.right;
  }

  pub ends_session : (ended : Ended) (c : Connection) (place : Option ℕ) → place ≡ place_of c → Done ended c → Comes ended place
  ends_session ended c place is e = subst (λ (p : Option ℕ). Comes ended p) (sym is) (by ended c e e.ends_as)
    where
      by : (ended : Ended) (c : Connection) (e : Done ended c) → EndsAs (g.after s) author y.left ended c new e.lines → Comes ended (place_of c)
      by GameOver (connection.Ended (over.Over at)) e h = seated GameOver _ e at [] e.at.entered refl (whole GameOver _ e _ e.at.tells) (
        e.at.fits.1,
        e.at.fits.0.present,
        e.at.fits.0.mine,
        e.at.fits.2,
      )
      by PeerEnded connection.Greeted e h = unheard PeerEnded e refl refl
      by PeerEnded (connection.Ended (over.Left at)) e h = seated PeerEnded _ e at [] e.at.entered.0 refl (whole PeerEnded _ e _ e.at.tells) h
      by PeerEnded _ e h = absurd h
      by LinkFault connection.Greeted e h = unheard LinkFault e refl refl
      by LinkFault (connection.Ended (over.Left at)) e h =
          let k = e.at.entered.0 in
          seated LinkFault _ e at [] k refl (whole LinkFault _ e _ e.at.tells) (unsaid at k.said k.line e.lines k.lines_are h)
      by LinkFault _ e h = absurd h
      by LineTooLong connection.Greeted e h = unheard LineTooLong e refl refl
      by LineTooLong (connection.Ended (over.Left at)) e h = seated LineTooLong _ e at [] e.at.entered.0 refl (whole LineTooLong _ e _ e.at.tells) (owed at h)
      by LineTooLong _ e h = absurd h
      by TooManyRefusals (connection.Ended (over.Closed at)) e h = seated TooManyRefusals _ e at [] e.at.entered.0 refl (whole TooManyRefusals _ e _ e.at.tells) e.at.entered.1
      by (NotSeated why) (connection.Ended (over.Refused found)) e h =
          let i = e.at.entered in
          seatless (NotSeated why) _ e i.3 (i.0, i.1, i.2 ∙ ap (λ (r : SitRefused). sit.Refused r) h)
          (whole (NotSeated why) _ e _ (e.at.tells ∙ ap (λ (r : SitRefused). g.says control.Hello ++ g.says (control.SitRefused r)) h))
      by NoMemory (connection.Ended over.Dry) e h = seatless NoMemory _ e e.at.entered.1 e.at.entered.0 (cut _ e (g.says control.Hello) e.at.tells.0 e.at.tells.1)
      by NoMemory (connection.Ended (over.Cut at)) e h = seated NoMemory _ e at e.at.entered.0 e.at.entered.2 e.at.entered.1 (cut _ e (script (g.after s new) at.place) e.at.tells.0 e.at.tells.1) tt
      by _ _ e h = absurd h
