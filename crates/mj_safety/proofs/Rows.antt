-- Small hands in which a kind is safe, and why, or is not.
use Rattle.std.proofs.Common.{◌≡◌, ℕ, true, false, List, [], ◌∷◌, refl}
use Rattle.std.specs.Prelude.{Some, None}
use Rattle.mj_tiles.specs.Counts.{all_kinds}
use Rattle.mj_tiles.specs.Faces.{less, tile_order, in_tile_order}
use Rattle.mj_tiles.specs.Kinds.{has_kind, no_kinds, with_kind, kinds_that}
use Rattle.mj_tiles.specs.Terminals.{is_terminal_or_honour}
use Rattle.mj_readings.specs.Sets.{begins_run}
use Rattle.mj_deeds.specs.declared.deed.Deed.{Deed}
use Rattle.mj_deeds.specs.declared.deed.Deed.TheVariants.{StartHand, Draw, Discard, Chi, Pon, AddedKan, Reach}
use Rattle.mj_deeds.specs.Facts.{meld_of_three}
use Rattle.mj_deeds.specs.Hand.{hand}
use Rattle.mj_deeds.specs.Passed.{kinds_among}
use Rattle.mj_safety.specs.declared.reason.Reason.TheVariants.{OwnDiscard, PassedInRiichi, Passed}
use Rattle.mj_safety.specs.Safe.{sees_all, is_blocked, are_runs_blocked, are_orphans_blocked, has_to_discard, safe_reason}

-- Seat 0 is dealt these tiles, and the indicator is a nine of bamboo.
abbrev dealt : List ℕ → List Deed → List Deed
dealt tiles deeds = StartHand 27 1 0 0 0 26 (record { first = tiles; second = []; third = []; fourth = [] }) ∷ deeds

-- All four of 4m, 5m and 6m are held: no run wants 5m without another of them.
blocked_run : is_blocked (dealt (3 ∷ 3 ∷ 3 ∷ 3 ∷ 4 ∷ 4 ∷ 4 ∷ 34 ∷ 5 ∷ 5 ∷ 5 ∷ 5 ∷ []) []) 0 1 4 ≡ true
unfolding are_runs_blocked are_orphans_blocked less tile_order all_kinds begins_run is_terminal_or_honour
blocked_run = refl

-- Of three of them nothing is known.
three_seen : is_blocked (dealt (3 ∷ 3 ∷ 3 ∷ 3 ∷ 4 ∷ 4 ∷ 4 ∷ 5 ∷ 5 ∷ 5 ∷ 5 ∷ []) []) 0 1 4 ≡ false
unfolding are_runs_blocked are_orphans_blocked less tile_order all_kinds begins_run is_terminal_or_honour
three_seen = refl

-- With 4m and 5m alone the run of 5m, 6m and 7m is open.
open_run : is_blocked (dealt (3 ∷ 3 ∷ 3 ∷ 3 ∷ 4 ∷ 4 ∷ 4 ∷ 4 ∷ 5 ∷ 5 ∷ 5 ∷ []) []) 0 1 4 ≡ false
unfolding are_runs_blocked are_orphans_blocked less tile_order all_kinds begins_run is_terminal_or_honour
open_run = refl

-- Four east winds are held: another seat may yet have thirteen orphans but for them.
orphans_wait : is_blocked (dealt (27 ∷ 27 ∷ 27 ∷ 27 ∷ []) []) 0 1 27 ≡ false
unfolding are_runs_blocked are_orphans_blocked less tile_order all_kinds begins_run is_terminal_or_honour
orphans_wait = refl

-- It has not where it has a meld, or where all of another orphan are seen.
orphans_melded : is_blocked (dealt (27 ∷ 27 ∷ 27 ∷ 27 ∷ []) (Discard 0 4 false ∷ Chi 1 0 4 5 6 ∷ [])) 0 1 27 ≡ true
unfolding are_runs_blocked are_orphans_blocked less tile_order in_tile_order all_kinds begins_run is_terminal_or_honour meld_of_three
orphans_melded = refl

orphans_beside : is_blocked (dealt (27 ∷ 27 ∷ 27 ∷ 27 ∷ 28 ∷ 28 ∷ 28 ∷ 28 ∷ []) []) 0 1 27 ≡ true
unfolding are_runs_blocked are_orphans_blocked less tile_order all_kinds begins_run is_terminal_or_honour
orphans_beside = refl

-- A discard that is called lies open once: with the two of the pon it makes three.
called_once : sees_all (dealt [] (Discard 2 27 false ∷ Pon 3 2 27 27 27 ∷ [])) 0 27 ≡ false
unfolding less tile_order
called_once = refl

-- And with a tile that is added, or with the indicator, it makes four.
added_fourth : sees_all (dealt [] (Discard 2 27 false ∷ Pon 3 2 27 27 27 ∷ AddedKan 3 27 27 27 27 ∷ [])) 0 27 ≡ true
unfolding less tile_order
added_fourth = refl

indicator_fourth : sees_all (dealt [] (Discard 2 26 false ∷ Pon 3 2 26 26 26 ∷ [])) 0 26 ≡ true
unfolding less tile_order
indicator_fourth = refl

-- who let what pass

-- Seat 1 discarded 9m, seat 2 after it 1m; so 9m is the own discard of the one, and 1m passed the other.
own_discard : safe_reason (dealt [] (Discard 1 8 false ∷ Discard 2 0 false ∷ Draw 0 4 false ∷ [])) 0 1 8 ≡ Some OwnDiscard
unfolding safe_reason hand kinds_among kinds_that has_kind with_kind no_kinds all_kinds
own_discard = refl

let_pass : safe_reason (dealt [] (Discard 1 8 false ∷ Discard 2 0 false ∷ Draw 0 4 false ∷ [])) 0 1 0 ≡ Some Passed
unfolding safe_reason hand kinds_among kinds_that has_kind with_kind no_kinds all_kinds
let_pass = refl

-- A kind that passed before its own last discard may be won on again, but not in riichi.
passed_before : safe_reason (dealt [] (Discard 2 0 false ∷ Discard 1 8 false ∷ Draw 0 4 false ∷ [])) 0 1 0 ≡ None
unfolding safe_reason hand kinds_among kinds_that has_kind with_kind no_kinds all_kinds are_runs_blocked are_orphans_blocked less tile_order begins_run is_terminal_or_honour
passed_before = refl

passed_in_riichi : safe_reason (dealt [] (Reach 1 ∷ Discard 1 7 false ∷ Discard 2 0 false ∷ Discard 1 8 true ∷ Draw 0 4 false ∷ [])) 0 1 0 ≡ Some PassedInRiichi
unfolding safe_reason hand kinds_among kinds_that has_kind with_kind no_kinds all_kinds
passed_in_riichi = refl

-- The kind of a kan that might have been robbed passed too.
robbed_kan : safe_reason (dealt [] (Discard 1 8 false ∷ AddedKan 2 0 0 0 0 ∷ Draw 0 4 false ∷ [])) 0 1 0 ≡ Some Passed
unfolding safe_reason hand kinds_among kinds_that has_kind with_kind no_kinds all_kinds
robbed_kan = refl

-- Before the deal nobody has to discard, nor on the discard of another; on its own draw a seat has to.
on_nothing : has_to_discard [] 0 ≡ false
on_nothing = refl

on_its_draw : has_to_discard (dealt [] (Draw 0 4 false ∷ [])) 0 ≡ true
on_its_draw = refl

on_a_discard : has_to_discard (dealt [] (Discard 0 4 false ∷ [])) 0 ≡ false
on_a_discard = refl
