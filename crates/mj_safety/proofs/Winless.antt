-- No win on a safe tile is lawful.
use Rattle.std.proofs.Common.{◌≡◌, ℕ, zero, suc, ◌+◌, ◌*◌, ◌-◌, ◌<◌, ◌≤◌, ◌||◌, Bool, true, false, cond, List, length, get_or, refl, sym, ap, ◌∙◌, arith}
use Rattle.std.specs.Prelude.{flat_map}
use Rattle.std.specs.List.{list_all}
use Rattle.std.proofs.lemmas.Bool.{eq-eqb, true≢false}
use Rattle.std.proofs.lemmas.List.FromFn.{get_or-map-range_with_len}
use Rattle.mj_tiles.specs.Faces.{kind_of}
use Rattle.mj_tiles.specs.Counts.{all_kinds, number_of, kind_counts, room_beside}
use Rattle.mj_tiles.specs.Kinds.{has_kind}
use Rattle.mj_tiles.specs.Melds.{tiles_of_meld}
use Rattle.mj_tiles.proofs.CountSteps.{get_or-kind_counts}
use Rattle.mj_deeds.specs.declared.deed.Deed.{Deed}
use Rattle.mj_deeds.specs.declared.deed.Deed.TheVariants.{Discard}
use Rattle.mj_deeds.specs.Facts.{concealed_tiles, seat_melds}
use Rattle.mj_deeds.specs.Hand.{hand}
use Rattle.mj_deeds.specs.Passed.{own_kinds, passed_kinds, passed_in_riichi}
use Rattle.mj_deeds.proofs.Fitted.{hand_real}
use Rattle.mj_rules.proofs.Playing.{played_less}
use Rattle.mj_safety.specs.declared.reason.Reason.{Reason}
use Rattle.mj_safety.specs.declared.reason.Reason.TheVariants.{OwnDiscard, PassedInRiichi, Passed, Blocked}
use Rattle.mj_safety.specs.Safe.{reason_holds}
use Rattle.mj_safety.specs.Laws.{SafeTilesAreSafe}
use Rattle.mj_safety.proofs.Orders.{given_holds}
use Rattle.mj_safety.proofs.Asked.{Asked, asked}
use Rattle.mj_safety.proofs.Blocking.{four_with, blocked_never}
use Rattle.mj_safety.proofs.Triplets.{is_even, even_in_hand}
use Rattle.mj_safety.proofs.Laid.{laid}
use Rattle.mj_safety.proofs.Melded.{Taken, melds_taken}
use Rattle.mj_safety.proofs.Missing.{missed}

-- A fifth tile of a kind has no room.
room_after : (all made added lies held tile : ℕ) → Taken all made added → made + added ≤ lies → held + (lies + tile) ≤ 4 → tile ≡ 1 → held < 4 - all
room_after all made added lies held tile t h k one = by_pons t.pons t.most t.thrice t.none t.one
  where
    none : (takes : ℕ) → all ≤ made + takes → takes ≡ 0 → held < 4 - all
    none takes most e = omega (arith, most, e, h, k, one)

    some : (takes : ℕ) → all ≤ made + takes → takes ≤ added → held < 4 - all
    some takes most e = omega (arith, most, e, h, k, one)

    many : (pons : ℕ) → 3 * suc (suc pons) ≤ made → ⊥
    many pons e = omega (arith, e, h, k, one)

    by_pons : (pons : ℕ) → all ≤ made + t.takes → 3 * pons ≤ made → (pons ≡ 0 → t.takes ≡ 0) → (pons ≡ 1 → t.takes ≤ added) → held < 4 - all
    by_pons zero most thrice empty once = none t.takes most (empty refl)
    by_pons (suc zero) most thrice empty once = some t.takes most (once refl)
    by_pons (suc (suc pons)) most thrice empty once = absurd (many pons thrice)

room_is : (tiles : List ℕ) (kind : ℕ) → kind < 34 → get_or (room_beside tiles) kind 0 ≡ 4 - number_of tiles kind
unfolding room_beside all_kinds
room_is tiles kind low = get_or-map-range_with_len (λ k. 4 - number_of tiles k) 0 34 kind kind 0 low (omega arith)

-- Whoever would be complete by the discard has room for a tile of its kind, so it is a wait.
room_left : (red : Bool) (ds : List Deed) (seat against tile : ℕ) (drawn : Bool) → Asked red ds seat against tile drawn → against < 4 → list_all is_even (hand ds) ≡ true →
    get_or (kind_counts (concealed_tiles (hand ds) against)) (kind_of tile) 0 < get_or (room_beside (flat_map tiles_of_meld (seat_melds (hand ds) against))) (kind_of tile) 0
room_left red ds seat against tile drawn a low even =
    same _ _ _ _ (get_or-kind_counts (concealed_tiles (hand ds) against) (kind_of tile) a.known) (room_is (flat_map tiles_of_meld (seat_melds (hand ds) against)) (kind_of tile) a.known)
    (room_after _ _ _ _ _ _ (melds_taken red against (kind_of tile) (hand ds) (hand_real red ds a.fit) even)
    (laid red ds against (kind_of tile) a.fit) (four_with red ds seat against tile drawn a low (kind_of tile) a.known)
    (ap {B = ℕ} (λ b. cond b 1 0) (eq-eqb (kind_of tile) (kind_of tile) refl)))
  where
    same : (n m x y : ℕ) → n ≡ x → m ≡ y → x < y → n < m
    same n m x y e f h = omega (arith, e, f, h)

missed_never : (red : Bool) (ds : List Deed) (seat against tile : ℕ) (drawn : Bool) → Asked red ds seat against tile drawn → against < 4 → list_all is_even (hand ds) ≡ true →
    (has_kind (own_kinds (hand ds) against) (kind_of tile) || has_kind (passed_kinds (hand ds) against) (kind_of tile) || has_kind (passed_in_riichi (hand ds) against) (kind_of tile)) ≡ true → ⊥
missed_never red ds seat against tile drawn a low even some =
    true≢false (sym (missed (concealed_tiles (hand ds) against) _ (length (seat_melds (hand ds) against)) tile (own_kinds (hand ds) against)
    (passed_kinds (hand ds) against) (passed_in_riichi (hand ds) against)
    a.known (room_left red ds seat against tile drawn a low even) a.finished some) ∙ a.free)

first_of_three : (a b c : Bool) → a ≡ true → (a || b || c) ≡ true
first_of_three true b c e = refl
first_of_three false b c e = cc

second_of_three : (a b c : Bool) → b ≡ true → (a || b || c) ≡ true
second_of_three true b c e = refl
second_of_three false true c e = refl
second_of_three false false c e = cc

third_of_three : (a b c : Bool) → c ≡ true → (a || b || c) ≡ true
third_of_three true b c e = refl
third_of_three false true c e = refl
third_of_three false false c e = e

by_reason : (red : Bool) (ds : List Deed) (seat against tile : ℕ) (drawn : Bool) (reason : Reason) → Asked red ds seat against tile drawn → against < 4 → list_all is_even (hand ds) ≡ true →
    reason_holds ds seat against (kind_of tile) reason ≡ true → ⊥
by_reason red ds seat against tile drawn OwnDiscard a low even h = missed_never red ds seat against tile drawn a low even
    (first_of_three (has_kind (own_kinds (hand ds) against) (kind_of tile)) (has_kind (passed_kinds (hand ds) against) (kind_of tile))
    (has_kind (passed_in_riichi (hand ds) against) (kind_of tile)) h)
by_reason red ds seat against tile drawn PassedInRiichi a low even h = missed_never red ds seat against tile drawn a low even
    (third_of_three (has_kind (own_kinds (hand ds) against) (kind_of tile)) (has_kind (passed_kinds (hand ds) against) (kind_of tile))
    (has_kind (passed_in_riichi (hand ds) against) (kind_of tile)) h)
by_reason red ds seat against tile drawn Passed a low even h = missed_never red ds seat against tile drawn a low even
    (second_of_three (has_kind (own_kinds (hand ds) against) (kind_of tile)) (has_kind (passed_kinds (hand ds) against) (kind_of tile))
    (has_kind (passed_in_riichi (hand ds) against) (kind_of tile)) h)
by_reason red ds seat against tile drawn Blocked a low even h = blocked_never red ds seat against tile drawn a low h

pub safe_tiles_are_safe : SafeTilesAreSafe
safe_tiles_are_safe rules walls ds seat against tile drawn reason answer low whole played turn why win lawful =
    by_reason rules.red ds seat against tile drawn reason (asked rules walls ds seat against tile drawn answer whole played turn win lawful) low
    (even_in_hand rules walls ds whole (played_less rules walls ds (Discard seat tile drawn) played).0) (given_holds ds seat against (kind_of tile) reason why)
