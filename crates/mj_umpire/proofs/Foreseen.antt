-- What is told beforehand of a line that wants a seat, and of a window.
use Rattle.std.proofs.Common.{◌≡◌, ℕ, List, Bool, true, false, refl, ap, ◌∙◌, sym, subst}
use Rattle.std.specs.Prelude.{if◌then◌else◌, Option, Some, None}
use Rattle.mj_ports.specs.declared.sitting.JoinLine.{JoinLine}
use Rattle.mj_ports.specs.declared.sitting.SitRefused.TheVariants.{BadName}
use Rattle.mj_ports.specs.declared.answers.SitAnswer.TheVariants as sits
use Rattle.mj_ports.specs.declared.answers.Expiry.{Expiry}
use Rattle.mj_ports.specs.declared.answers.Expiry.TheVariants as expiry
use Rattle.mj_seating.specs.declared.desk.Placed.{Placed}
use Rattle.mj_seating.specs.declared.desk.Placed.TheVariants as places
use Rattle.mj_forms.specs.AnswerForms.{join_of}
use Rattle.mj_history.specs.After.{After}
use Rattle.mj_history.specs.Legal.{Game, is_open}
use Rattle.mj_history.specs.Sitting.{placing}
use Rattle.mj_history.specs.Shown.{sit_answer, expires_of}
use Rattle.mj_umpire.specs.Calls.{after_of, may_expire, Foresees}
use Rattle.mj_umpire.proofs.Games.{expire-open}
use Rattle.mj_umpire.proofs.Readers.{no-join}

-- A join would be answered as it is placed, and a line that is none would be refused.
pub foreseen-place : (place : Placed) (now : After) (text : List ℕ) (join : JoinLine) → Some join ≡ join_of text → place ≡ placing now (Some join)
    → Foresees (sit_answer place) (sit_answer (placing now (join_of text))) (join_of text)
foreseen-place place now text join e p =
    subst (λ (asked : Option JoinLine). Foresees (sit_answer place) (sit_answer (placing now asked)) asked) e
    (subst (λ (right : Placed). Foresees (sit_answer place) (sit_answer right) (Some join)) p (by place))
  where
    by : (right : Placed) → Foresees (sit_answer right) (sit_answer right) (Some join)
    by (places.Sat seat) = (refl, refl)
    by (places.Back seat) = refl
    by (places.Refused why) = refl

pub foreseen-none : (now : After) (text : List ℕ) → None ≡ join_of text → Foresees (sits.Refused BadName) (sit_answer (placing now (join_of text))) (join_of text)
foreseen-none now text e = ap (λ (right : Placed). sit_answer right) (no-join now text e)

-- What comes of a window, by whether it is open and whether its time has run out.
abbrev comes_of : Bool → Bool → Expiry
comes_of on out = if on then (if out then expiry.Closed else expiry.Early) else expiry.Stale

pub foreseen-stale : (game : Game) (window t1 t2 : ℕ) → is_open (after_of game).deeds window ≡ false → expiry.Stale ≡ expires_of game.setting game.entries window t1 t2
foreseen-stale game window t1 t2 h = sym (ap (λ (on : Bool). comes_of on (may_expire game window t1 t2)) h)

pub foreseen-early : (game : Game) (window t1 t2 : ℕ) → is_open (after_of game).deeds window ≡ true → may_expire game window t1 t2 ≡ false
    → expiry.Early ≡ expires_of game.setting game.entries window t1 t2
foreseen-early game window t1 t2 h short = sym (ap (λ (on : Bool). comes_of on (may_expire game window t1 t2)) h ∙ ap (λ (out : Bool). comes_of true out) short)

pub foreseen-closed : (game : Game) (window t1 t2 : ℕ) → may_expire game window t1 t2 ≡ true → expiry.Closed ≡ expires_of game.setting game.entries window t1 t2
foreseen-closed game window t1 t2 h =
    sym (ap (λ (on : Bool). comes_of on (may_expire game window t1 t2)) (expire-open game.setting.rules.limit (after_of game).deeds window t1 t2 h)
    ∙ ap (λ (out : Bool). comes_of true out) h)

-- And what this says of the window.
pub is-stale : (game : Game) (window t1 t2 : ℕ) → expiry.Stale ≡ expires_of game.setting game.entries window t1 t2 → is_open (after_of game).deeds window ≡ false
is-stale game window t1 t2 e = by (is_open (after_of game).deeds window) (may_expire game window t1 t2) e
  where
    by : (on out : Bool) → expiry.Stale ≡ comes_of on out → on ≡ false
    by true true e = cc
    by true false e = cc
    by false out e = refl

pub is-early : (game : Game) (window t1 t2 : ℕ) → expiry.Early ≡ expires_of game.setting game.entries window t1 t2
    → (is_open (after_of game).deeds window ≡ true) × (may_expire game window t1 t2 ≡ false)
is-early game window t1 t2 e = by (is_open (after_of game).deeds window) (may_expire game window t1 t2) e
  where
    by : (on out : Bool) → expiry.Early ≡ comes_of on out → (on ≡ true) × (out ≡ false)
    by true true e = cc
    by true false e = (refl, refl)
    by false out e = cc

pub is-closed : (game : Game) (window t1 t2 : ℕ) → expiry.Closed ≡ expires_of game.setting game.entries window t1 t2 → may_expire game window t1 t2 ≡ true
is-closed game window t1 t2 e = by (is_open (after_of game).deeds window) (may_expire game window t1 t2) e
  where
    by : (on out : Bool) → expiry.Closed ≡ comes_of on out → out ≡ true
    by true true e = refl
    by true false e = cc
    by false out e = cc
