-- What others enter leaves an open connection as it stands.
use Rattle.std.proofs.Common.{◌≡◌, ℕ, List, [], ◌∷◌, ◌++◌, Some, sym, ◌∙◌, subst, arith}
use Rattle.mj_connection.specs.Seating.{Entry, Control, Showing, Enters, LeftAlone}
use Rattle.mj_ports.specs.declared.seated.Seated.{Ghosts}
use Rattle.mj_ports.specs.Entries.{IsAside}
use Rattle.mj_ports.specs.Seats.{Stays, Unmoved}
use Rattle.mj_connection.specs.Stages.{Connection, Free, Asked, Ended, Fits, Tells, IsOpen}
use Rattle.mj_connection.specs.Spoken.{Entered, Takes}
use Rattle.mj_connection.proofs.Growing.{enters_chain}
use Rattle.mj_connection.proofs.Scripts.{between, still_stands, script_kept}
use Rattle.mj_connection.proofs.Speaking.{spoke_on}

-- what others entered left a present seat alone
pub others_entered : {A : Type 0} → (after : List (Entry A) → Showing) (is_legal : List (Entry A) → Type 0)
    → ((es fs : List (Entry A)) → is_legal (es ++ fs) → is_legal es)
    → ((es : List (Entry A)) (e : Entry A) → is_legal (es ++ e ∷ []) → Stays (after es) (after (es ++ e ∷ [])))
    → ((es : List (Entry A)) (e : Entry A) (author seat : ℕ) → is_legal (es ++ e ∷ []) → (after es).present seat ≡ Some author →
    IsAside author seat es e → Unmoved seat (after es) (after (es ++ e ∷ [])))
    → (author : ℕ) (old new : List (Entry A)) → is_legal new → Enters author old new [] → LeftAlone after author old new
others_entered {A} after is_legal legal_before stays others author old new legal nothing = record {
  nothing = nothing;
  alone = λ seat here.
      subst (λ (fs : List (Entry A)). Unmoved seat (after old) (after fs) × Stays (after old) (after fs)) (sym nothing.grown)
      (between after is_legal legal_before stays others author seat old nothing.since (subst is_legal nothing.grown legal) nothing.mine_are here);
}

module _ {A : Type 0} (after : List (Entry A) → Showing) (author : ℕ) (old new : List (Entry A)) (others : LeftAlone after author old new) where
  pub fits_on : (c : Connection) → IsOpen c → Fits c author (after old) → Fits c author (after new)
  fits_on (Free at) o (s, told) = let m = others.alone at.seat s.present in (still_stands (after old) (after new) author at m.0 s, m.0.is_told ∙ told)
  fits_on (Asked at) o (s, owes) =
      let m = others.alone at.seat s.present in
      let due = m.0.due in
      let deeds = m.1.deeds in
      (still_stands (after old) (after new) author at m.0 s, omega (arith, owes, due, deeds))
  fits_on (Ended how) o f = absurd o
  fits_on _ o f = f

  tells_on : {R : Type 0} → (says : Control R → List ℕ) (c : Connection) (out : List ℕ) → IsOpen c → Fits c author (after old) → Tells says c (after old) out → Tells says c (after new) out
  tells_on says (Free at) out o (s, told) t = let m = others.alone at.seat s.present in t ∙ sym (m.0.told at.place s.mine)
  tells_on says (Asked at) out o (s, owes) t = let m = others.alone at.seat s.present in t ∙ sym (script_kept (after old) at.place at.seat s.mine (after new) m.0 m.1 owes)
  tells_on says (Ended how) out o f t = absurd o
  tells_on says _ out o f t = t

module _ {G S A R : Type 0} (g : Ghosts G S A R) (s : S) (author : ℕ) (old until new : List (Entry A)) (others : LeftAlone (g.after s) author old until) where
  entered_on : (c : Connection) (start : List (Entry A)) (lines : List (List ℕ)) → IsOpen c → Entered g s author c start old lines → Entered g s author c start until lines
  entered_on (Free at) start lines o i = spoke_on g s author start old until at lines others.nothing i
  entered_on (Asked at) start lines o i = spoke_on g s author start old until at lines others.nothing i
  entered_on (Ended how) start lines o i = absurd o
  entered_on _ start lines o (none, before) = (none, enters_chain author start old until [] [] before others.nothing)

  -- a call after what others entered
  pub takes_on : (b c : Connection) (before text : List ℕ) (heard : List (List ℕ)) → IsOpen b → Fits b author (g.after s old) →
      Takes g s author b c until new before text heard → Takes g s author b c old new before text heard
  takes_on b c before text heard o f k = record {
    fits = k.fits;
    hears = λ start lines i. k.hears start lines (entered_on b start lines o i);
    tells = λ out t. k.tells out (tells_on (g.after s) author old until others g.says b (out ++ before) o f t);
  }
