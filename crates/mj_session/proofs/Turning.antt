-- What a turn does with a connection.
use Rattle.std.proofs.Common.{◌≡◌, inr, ℕ, List, [], refl, subst}
use Rattle.mj_connection.specs.Seating.{Entry, Showing, LeftAlone}
use Rattle.mj_ports.specs.declared.seated.Seated.{Ghosts}
use Rattle.mj_connection.specs.declared.stage.Connection.{Connection}
use Rattle.mj_connection.specs.declared.stage.Connection.TheVariants.{Greeted}
use Rattle.mj_connection.specs.Stages.{Fits, IsOpen, cut_off}
use Rattle.mj_connection.specs.Spoken.{Takes}
use Rattle.mj_connection.proofs.Taking.{is_open, quiet_cut, short_cut, takes_cut, takes_unheard}
use Rattle.mj_connection.proofs.Others.{fits_on, takes_on}
use Rattle.mj_session.specs.declared.talk.Doing.{Doing}
use Rattle.mj_session.specs.declared.talk.Doing.TheVariants.{Look, Hear, Lose, Cut}
use Rattle.mj_session.specs.Inner.Talks.{CanDo, Leaves, heard_by}

can_open : (what : Doing) (c : Connection) (author : ℕ) (w : Showing) → CanDo what c author w → IsOpen c
can_open Hear c author w h = is_open c h.0
can_open _ c author w h = h.0

-- what others entered leaves to a connection what it may do
pub can_on : {A : Type 0} → (after : List (Entry A) → Showing) (author : ℕ) (old new : List (Entry A)) → LeftAlone after author old new →
    (what : Doing) (c : Connection) → CanDo what c author (after old) → CanDo what c author (after new)
can_on after author old new others Hear c h = (h.0, fits_on after author old new others c (is_open c h.0) h.1)
can_on after author old new others _ c h = (h.0, fits_on after author old new others c h.0 h.1)

-- a connection that is cut off in place of what it was to do
pub leaves_cut : {A : Type 0} → (after : List (Entry A) → Showing) (author : ℕ) (what : Doing) (c : Connection) (es : List (Entry A))
    (before : List ℕ) → CanDo what c author (after es) → Leaves after author what c (cut_off c) es before before
leaves_cut after author Look c es before h = quiet_cut ⊥ c before before h.0
leaves_cut after author Hear c es before h = quiet_cut (c ≡ Greeted) c before before (is_open c h.0)
leaves_cut after author Lose c es before h = (inr (short_cut c h.0), λ u. refl)
leaves_cut after author Cut c es before h = short_cut c h.0

module _ {G S A R : Type 0} (g : Ghosts G S A R) (s : S) (author : ℕ) (what : Doing) where
  pub takes_none : (c : Connection) (es : List (Entry A)) (before line : List ℕ) → CanDo what c author (g.after s es) → Takes g s author c (cut_off c) es es before before (heard_by what line)
  takes_none c es before line h = by what h
    where
      by : (w : Doing) → CanDo w c author (g.after s es) → Takes g s author c (cut_off c) es es before before (heard_by w line)
      by Hear h = takes_unheard g s author c es before h.1 line h.0
      by _ h = takes_cut g s author c es before h.1

  -- a turn, after what others entered
  pub takes_turn : (b c : Connection) (old until new : List (Entry A)) (before text line : List ℕ) → LeftAlone (g.after s) author old until →
      CanDo what b author (g.after s old) → before ≡ [] → Takes g s author b c until new before text (heard_by what line)
      → Takes g s author b c old new [] text (heard_by what line)
  takes_turn b c old until new before text line others h none t =
      subst (λ (l : List ℕ). Takes g s author b c old new l text (heard_by what line)) none (takes_on g s author old until new others b c before text
      (heard_by what line) (can_open what b author (g.after s old) h) (fits what h) t)
    where
      fits : (w : Doing) → CanDo w b author (g.after s old) → Fits b author (g.after s old)
      fits Hear h = h.1
      fits _ h = h.1
