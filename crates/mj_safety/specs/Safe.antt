-- Which kinds are safe for a seat against another, and why.
use Rattle.std.specs.Prelude.{ℕ, ◌+◌, ◌==◌, ◌&&◌, ◌||◌, Bool, false, not, nat_lt, List, [], ◌∷◌, length, filter, find, Option, is_some}
use Rattle.std.specs.List.{list_all, list_any}
use Rattle.std.specs.Option.{option_map_or}
use Rattle.mj_tiles.specs.Counts.{all_kinds, number_of}
use Rattle.mj_tiles.specs.Kinds.{has_kind}
use Rattle.mj_tiles.specs.Terminals.{is_terminal_or_honour}
use Rattle.mj_readings.specs.Sets.{begins_run}
use Rattle.mj_deeds.specs.declared.deed.Deed.{Deed}
use Rattle.mj_deeds.specs.declared.deed.Deed.TheVariants.{Draw, Reach, Chi, Pon}
use Rattle.mj_deeds.specs.Hand.{hand}
use Rattle.mj_deeds.specs.Facts.{newest, concealed_tiles, seat_melds}
use Rattle.mj_deeds.specs.Passed.{own_kinds, passed_kinds, passed_in_riichi}
use Rattle.mj_safety.specs.declared.reason.Reason.{Reason}
use Rattle.mj_safety.specs.declared.reason.Reason.TheVariants.{OwnDiscard, PassedInRiichi, Passed, Blocked}
use Rattle.mj_sights.specs.Seen.{seen_tiles}

-- After its draw, its reach, its chi and its pon a seat has to discard.
abbrev pub wants_discard : ℕ → Deed → Bool
wants_discard seat (Draw who tile replacement) = who == seat
wants_discard seat (Reach who) = who == seat
wants_discard seat (Chi who target tile a b) = who == seat
wants_discard seat (Pon who target tile a b) = who == seat
wants_discard seat other = false

-- The seat has to discard.
abbrev pub has_to_discard : List Deed → ℕ → Bool
has_to_discard deeds seat = option_map_or (wants_discard seat) (newest deeds) false

-- A seat sees all four tiles of a kind.
abbrev pub sees_all : List Deed → ℕ → ℕ → Bool
sees_all deeds seat kind = number_of (seen_tiles deeds seat) kind == 4

-- The kinds of the run that begins at a kind.
abbrev pub run_from : ℕ → List ℕ
run_from low = low ∷ (low + 1) ∷ (low + 2) ∷ []

-- A run begins at this kind and has the other.
abbrev pub is_run_of : ℕ → ℕ → Bool
is_run_of kind low = begins_run low && list_any (λ other. other == kind) (run_from low)

-- Of some of these kinds, other than the one, all four tiles are seen.
abbrev pub sees_all_beside : List Deed → ℕ → ℕ → List ℕ → Bool
sees_all_beside deeds seat kind kinds = list_any (λ other. not (other == kind) && sees_all deeds seat other) kinds

-- No run can be completed by the kind: each that has it wants another kind of which all four are seen.
unfoldable pub are_runs_blocked : List Deed → ℕ → ℕ → Bool
are_runs_blocked deeds seat kind =
    list_all (λ low. not (is_run_of kind low) || sees_all_beside deeds seat kind (run_from low)) all_kinds

-- No thirteen orphans can be completed by the kind: it is none of them, or there is a meld, or of another of them all four are
-- seen.
unfoldable pub are_orphans_blocked : List Deed → ℕ → ℕ → ℕ → Bool
are_orphans_blocked deeds seat against kind =
    not (is_terminal_or_honour kind) || nat_lt 0 (length (seat_melds deeds against))
    || list_any (λ other. is_terminal_or_honour other && (not (other == kind) && sees_all deeds seat other)) all_kinds

-- No hand can be completed by the kind: all four are seen, so no triplet and no pair, and neither a run nor thirteen orphans.
abbrev pub is_blocked : List Deed → ℕ → ℕ → ℕ → Bool
is_blocked deeds seat against kind =
    sees_all deeds seat kind && are_runs_blocked deeds seat kind && are_orphans_blocked deeds seat against kind

-- The reason holds for a seat against another: that one discarded the kind itself, or let it pass since its reach, or since its
-- last discard, or the kind is blocked by what the seat sees.
abbrev pub reason_holds : List Deed → ℕ → ℕ → ℕ → Reason → Bool
reason_holds deeds seat against kind OwnDiscard = has_kind (own_kinds (hand deeds) against) kind
reason_holds deeds seat against kind PassedInRiichi = has_kind (passed_in_riichi (hand deeds) against) kind
reason_holds deeds seat against kind Passed = has_kind (passed_kinds (hand deeds) against) kind
reason_holds deeds seat against kind Blocked = is_blocked (hand deeds) seat against kind

-- All reasons, in the order in which they are asked.
abbrev pub all_reasons : List Reason
all_reasons = OwnDiscard ∷ PassedInRiichi ∷ Passed ∷ Blocked ∷ []

-- Why a kind is safe for a seat against another: the first reason that holds, where one does.
unfoldable pub safe_reason : List Deed → ℕ → ℕ → ℕ → Option Reason
safe_reason deeds seat against kind = find (reason_holds deeds seat against kind) all_reasons

-- The kinds that a seat holds and that are safe against another, in tile order.
abbrev pub safe_kinds : List Deed → ℕ → ℕ → List ℕ
safe_kinds deeds seat against =
    filter (λ kind. nat_lt 0 (number_of (concealed_tiles (hand deeds) seat) kind) && is_some (safe_reason deeds seat against kind))
    all_kinds
