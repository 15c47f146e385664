-- The first reason, and what it promises.
use Rattle.std.proofs.Common.{◌≡◌, ℕ, ◌≤◌, true, false, List, sym, ap, ◌∙◌, arith}
use Rattle.std.specs.Prelude.{Option, Some, None}
use Rattle.mj_tiles.specs.Kinds.{has_kind}
use Rattle.mj_deeds.specs.declared.deed.Deed.{Deed}
use Rattle.mj_deeds.specs.Hand.{hand}
use Rattle.mj_deeds.specs.Passed.{own_kinds, passed_kinds, passed_in_riichi}
use Rattle.mj_wall.specs.declared.setting.Rules.{Rules}
use Rattle.mj_safety.specs.declared.reason.Reason.{Reason}
use Rattle.mj_safety.specs.declared.reason.Reason.TheVariants.{OwnDiscard, PassedInRiichi, Passed, Blocked}
use Rattle.mj_safety.specs.Safe.{has_to_discard, is_blocked, reason_holds, safe_reason}
use Rattle.mj_safety.proofs.Orders.{first_reason}
use Rattle.mj_safety.proofs.Winless.{safe_tiles_are_safe}
use Rattle.mj_safe.specs.Promise.{IsNeverWonOn}

pub by_own : (ds : List Deed) (seat against kind : ℕ) → has_kind (own_kinds (hand ds) against) kind ≡ true → Some OwnDiscard ≡ safe_reason ds seat against kind
by_own ds seat against kind h = sym ((first_reason ds seat against kind).own h)

pub by_riichi : (ds : List Deed) (seat against kind : ℕ) → has_kind (own_kinds (hand ds) against) kind ≡ false → has_kind (passed_in_riichi (hand ds) against) kind ≡ true
    → Some PassedInRiichi ≡ safe_reason ds seat against kind
by_riichi ds seat against kind a h = sym ((first_reason ds seat against kind).since a h)

pub by_pass : (ds : List Deed) (seat against kind : ℕ) → has_kind (own_kinds (hand ds) against) kind ≡ false → has_kind (passed_in_riichi (hand ds) against) kind ≡ false →
    has_kind (passed_kinds (hand ds) against) kind ≡ true → Some Passed ≡ safe_reason ds seat against kind
by_pass ds seat against kind a b h = sym ((first_reason ds seat against kind).passed a b h)

pub by_block : (ds : List Deed) (seat against kind : ℕ) → has_kind (own_kinds (hand ds) against) kind ≡ false → has_kind (passed_in_riichi (hand ds) against) kind ≡ false →
    has_kind (passed_kinds (hand ds) against) kind ≡ false → is_blocked (hand ds) seat against kind ≡ true → Some Blocked ≡ safe_reason ds seat against kind
by_block ds seat against kind a b c h = sym ((first_reason ds seat against kind).blocked a b c h)

pub by_none : (ds : List Deed) (seat against kind : ℕ) → has_kind (own_kinds (hand ds) against) kind ≡ false → has_kind (passed_in_riichi (hand ds) against) kind ≡ false →
    has_kind (passed_kinds (hand ds) against) kind ≡ false → is_blocked (hand ds) seat against kind ≡ false → None ≡ safe_reason ds seat against kind
by_none ds seat against kind a b c d = sym ((first_reason ds seat against kind).none none)
  where
    none : (reason : Reason) → reason_holds ds seat against kind reason ≡ false
    none OwnDiscard = a
    none PassedInRiichi = b
    none Passed = c
    none Blocked = d

pub never : (rules : Rules) (ds : List Deed) (seat against kind : ℕ) (given : Option Reason) → against ≤ 3 → has_to_discard ds seat ≡ true → given ≡ safe_reason ds seat against kind →
    (reason : Reason) → given ≡ Some reason → IsNeverWonOn rules ds seat against kind
never rules ds seat against kind given low turn is reason some = λ walls tile drawn answer same whole played win lawful.
    safe_tiles_are_safe rules walls ds seat against tile drawn reason answer (omega (arith, low)) whole played turn (ap (safe_reason ds seat against) same ∙ sym is ∙ some) win lawful
