-- What a call makes of a connection: where it stood, and where it then stands.
use Rattle.std.proofs.Common.{◌≡◌, ◌⊎◌, inl, inr, ℕ, ◌≤◌, List, [], ◌∷◌, ◌++◌, length, refl, sym, ap, ◌∙◌, subst, arith, append_assoc, append-nil}
use Rattle.std.specs.Prelude.{Bool, true, false}
use Rattle.mj_ports.specs.declared.entry.Entry.TheVariants.{Gone}
use Rattle.mj_ports.specs.declared.answers.Control.TheVariants as control
use Rattle.mj_ports.specs.declared.seated.Seated.{Ghosts}
use Rattle.mj_ports.specs.Seats.{pending, script}
use Rattle.mj_connection.specs.Seating.{Entry, Showing, Owes}
use Rattle.mj_connection.specs.Stages.{SeatAt, Left, Connection, New, Greeted, Free, Asked, Ended, Stands, Fits, Tells, Listens, IsOpen, cut_off}
use Rattle.mj_connection.specs.Spoken.{Entered, Takes, IsQuiet, IsShort, IsLost, FindsDue}
use Rattle.mj_connection.proofs.Scripts.{script_at, script_due, script_none_due}
use Rattle.mj_connection.proofs.Speaking.{spoke_less}

-- a connection that waits for a line is open
pub is_open : (c : Connection) → Listens c → IsOpen c
is_open (Ended how) o = absurd o
is_open _ o = tt

-- a connection that was open and is cut off
pub quiet_cut : (unless : Type 0) (c : Connection) (before text : List ℕ) → IsOpen c → IsQuiet unless (cut_off c) before text
quiet_cut unless (Ended how) before text o = absurd o
quiet_cut unless _ before text o = tt

pub short_cut : (c : Connection) → IsOpen c → IsShort (cut_off c)
short_cut (Ended how) o = absurd o
short_cut _ o = tt

-- a seat that leaves had a deed to answer, unless this excuses it
module _ {A : Type 0} (after : List (Entry A) → Showing) (author : ℕ) (old new : List (Entry A)) (at : SeatAt) (c : Connection) where
  lost_parted : (unless : Type 0) → Stands (after old) author at → unless ⊎ Owes (after old) at.seat →
      ((c ≡ Ended (Left at)) × (new ≡ old ++ Gone author at.seat ∷ [])) ⊎ IsShort c → IsLost after author unless c new ⊎ IsShort c
  lost_parted unless s right (inl (same, added)) =
      inl (subst (λ (k : Connection). IsLost after author unless k new) (sym same) (record {
        before = old;
        last_is = added;
        was_of = s.mine;
        right = right;
      }))
  lost_parted unless s right (inr short) = inr short

  pub lost_free : Fits (Free at) author (after old) → ((c ≡ Ended (Left at)) × (new ≡ old ++ Gone author at.seat ∷ [])) ⊎ IsShort c → IsLost after author (Listens (Free at) → ⊥) c new ⊎ IsShort c
  lost_free f h = lost_parted (Listens (Free at) → ⊥) f.0 (inl (λ u. u)) h

  pub lost_asked : Fits (Asked at) author (after old) → ((c ≡ Ended (Left at)) × (new ≡ old ++ Gone author at.seat ∷ [])) ⊎ IsShort c → IsLost after author (Listens (Asked at) → ⊥) c new ⊎ IsShort c
  lost_asked f h = lost_parted (Listens (Asked at) → ⊥) f.0 (inr f.1) h

-- the line of the due deed was told, if there is one
pub told_due : (w : Showing) (at : SeatAt) (author : ℕ) (found : Bool) (before old new : List ℕ) → Fits (Free at) author w →
    FindsDue found w at.seat old new → before ++ old ≡ w.told at.place → before ++ new ≡ script w at.place
told_due w at author true before old new f (near, e) t =
    ap (λ (l : List ℕ). before ++ l) e ∙ (sym (append_assoc before old (w.text at.seat (w.due at.seat)))
    ∙ (ap (λ (l : List ℕ). l ++ w.text at.seat (w.due at.seat)) t ∙ sym (script_due w at.place at.seat f.0.mine f.1 near)))
told_due w at author false before old new f (none, e) t = ap (λ (l : List ℕ). before ++ l) e ∙ (t ∙ sym (script_none_due w at.place at.seat f.0.mine f.1 none))

module _ {G S A R : Type 0} (g : Ghosts G S A R) (s : S) (author : ℕ) where
  -- a seat that leaves once it was told all
  pub takes_parted : (at : SeatAt) (c : Connection) (old new : List (Entry A)) (before text : List ℕ) → ((told : List ℕ) → Takes g s author (Asked at) c old new told told [])
      → ((out : List ℕ) → out ++ before ≡ (g.after s old).told at.place → out ++ text ≡ script (g.after s old) at.place) → Takes g s author (Free at) c old new before text []
  takes_parted at c old new before text k h = record { fits = (k []).fits; hears = (k []).hears; tells = λ out t. (k text).tells out (h out t) }

  -- the end of memory
  module _ (w : Showing) where
    fits_cut : (c : Connection) → Fits c author w → Fits (cut_off c) author w
    fits_cut (Ended how) f = f
    fits_cut _ f = tt

    tells_cut : (c : Connection) (out : List ℕ) → Fits c author w → Tells g.says c w out → Tells g.says (cut_off c) w out
    tells_cut New out f t = (g.says control.Hello, ap (λ (l : List ℕ). l ++ g.says control.Hello) (sym t))
    tells_cut (Free at) out f t = (pending w at.seat, script_at w at.place at.seat f.0.mine ∙ ap (λ (l : List ℕ). l ++ pending w at.seat) (sym t))
    tells_cut (Ended how) out f t = t
    tells_cut _ out f t = ([], sym t ∙ sym (append-nil out))

  module _ (start es : List (Entry A)) (lines : List (List ℕ)) where
    entered_cut : (c : Connection) → Entered g s author c start es lines → Entered g s author (cut_off c) start es lines
    entered_cut (Free at) i = ([], omega arith, i)
    entered_cut (Asked at) i = ([], omega arith, i)
    entered_cut (Ended how) i = i
    entered_cut _ (none, nothing) = (subst (λ (l : List (List ℕ)). length l ≤ 1) (sym none) (omega arith), nothing)

    -- a line that was read and not heard
    entered_unheard : (c : Connection) (line : List ℕ) → Listens c → Entered g s author c start es lines → Entered g s author (cut_off c) start es (lines ++ line ∷ [])
    entered_unheard Greeted line o (none, nothing) = (subst (λ (l : List (List ℕ)). length (l ++ line ∷ []) ≤ 1) (sym none) (omega arith), nothing)
    entered_unheard (Asked at) line o i = (line ∷ [], omega arith, spoke_less g s author start es es at line lines refl i)
    entered_unheard _ line o i = absurd o

  module _ (c : Connection) (es : List (Entry A)) (before : List ℕ) (f : Fits c author (g.after s es)) where
    takes_short : (heard : List (List ℕ)) → ((start : List (Entry A)) (lines : List (List ℕ)) → Entered g s author c start es lines →
        Entered g s author (cut_off c) start es (lines ++ heard)) → Takes g s author c (cut_off c) es es before before heard
    takes_short heard h = record { fits = fits_cut (g.after s es) c f; hears = h; tells = λ out t. tells_cut (g.after s es) c (out ++ before) f t }

    pub takes_cut : Takes g s author c (cut_off c) es es before before []
    takes_cut = takes_short [] (λ start lines i. subst (λ (l : List (List ℕ)). Entered g s author (cut_off c) start es l) (sym (append-nil lines)) (entered_cut start es lines c i))

    pub takes_unheard : (line : List ℕ) → Listens c → Takes g s author c (cut_off c) es es before before (line ∷ [])
    takes_unheard line o = takes_short (line ∷ []) (λ start lines i. entered_unheard start es lines c line o i)
