-- An answer that breaks no rule makes a deed that comes in its turn.
use Rattle.std.proofs.Common.{◌≡◌, ℕ, zero, suc, ◌-◌, ◌<◌, ◌≤◌, ◌==◌, inl, inr, ◌&&◌, not, Bool, true, false, cond, eqb, ltb, leb, List, [], ◌∷◌, refl, ap, sym, ◌∙◌, subst, arith}
use Rattle.std.specs.Prelude.{Option, Some, None, nat_lt, nat_le, option_map}
use Rattle.std.specs.List.{list_all, list_any}
use Rattle.std.proofs.lemmas.Bool.{cases_eq, ne_eqb, eq-eqb, eqb-true, eqb-false, and_parts, and_from, or_parts, ltb-false, lt-ltb, leb-false, leb-true, le-leb, not-false}
use Rattle.mj_tiles.specs.Faces.{kind_of, number_in}
use Rattle.mj_tiles.proofs.Faces.{either_way}
use Rattle.mj_tiles.specs.declared.meld.Meld.{Meld}
use Rattle.mj_deeds.specs.declared.four.Four.{Four}
use Rattle.mj_deeds.specs.declared.answer.Pai.TheVariants.{Known, Hidden}
use Rattle.mj_deeds.specs.declared.answer.Answer.{Answer}
use Rattle.mj_deeds.specs.declared.answer.Answer.TheVariants as answers
use Rattle.mj_deeds.specs.declared.deed.Deed.{Deed}
use Rattle.mj_deeds.specs.declared.deed.Deed.TheVariants.{Discard, Chi, Pon}
use Rattle.mj_deeds.specs.Four.{at_seat}
use Rattle.mj_deeds.specs.Facts.{newest, tiles_gained, tiles_lost, seat_melds, is_pon, kans, live_tiles}
use Rattle.mj_deeds.specs.Fits.{ground_of, is_in_hand, taken_from, is_discard_of, are_held, is_triplet_of, is_face, has_tiles}
use Rattle.mj_deeds.proofs.RealTiles.{member_passes, all_members, gained_real, melds_real, triplet_passes}
use Rattle.mj_calls.specs.Shapes.{are_alike}
use Rattle.mj_rules.specs.Broken.{is_not_now, is_reach_unready, questions, broken_by, is_stuck_call, is_no_such_tile, misses_discard, is_wrong_target}
use Rattle.mj_rules.specs.Broken.{is_last_tile, is_not_held, is_locked, is_own_pon, is_bad_set, is_kan_full, is_kan_dry}
use Rattle.mj_rules.specs.View.{WindowTurn, Discarded, turn_by, turn_in, SeatView, view_of, held_count}
use Rattle.mj_deeds.specs.declared.bid.Bid.{Bid}
use Rattle.mj_deeds.specs.declared.bid.Bid.TheVariants as bids
use Rattle.mj_deeds.specs.Bids.{call_of_bid}
use Rattle.mj_deeds.specs.Hand.{hand}
use Rattle.mj_window.specs.Decided.{triplet_bid, run_bid, or_bid, bid_by, best_bid}
use Rattle.mj_wall.specs.declared.setting.Rules.{Rules}
use Rattle.mj_rules.specs.Outcome.{act_of}
use Rattle.mj_rules.specs.Played.{AllLawful}
use Rattle.mj_rules.proofs.Questions.{all_no}
use Rattle.mj_rules.proofs.Stages.{Waits, Acts, stage_of, stage_is}
use Rattle.mj_rules.proofs.Kept.{IsNext}

-- What holds of a deed, where there is one.
abbrev pub IfAny : {A : Type 0} → (A → Type 0) → Option A → Type 0
IfAny P None = Unit {0}
IfAny P (Some d) = P d

-- What an answer owes.
pub record Clean (rules : Rules) (seat : ℕ) (view : SeatView) (answer : Answer) : Type 0 where
  pub opens : is_not_now rules seat view answer ≡ false
  pub tiles : is_no_such_tile rules.red answer ≡ false
  pub target : is_wrong_target seat view answer ≡ false
  pub early : is_last_tile view answer ≡ false
  pub held : is_not_held view answer ≡ false
  pub unlocked : is_locked view answer ≡ false
  pub good : is_bad_set view answer ≡ false
  pub free : is_stuck_call view answer ≡ false
  pub fifth : is_kan_full view answer ≡ false
  pub dry : is_kan_dry view answer ≡ false
  pub ready : is_reach_unready view answer ≡ false

-- An answer that breaks no rule owes nothing.
pub clean : (rules : Rules) (seat : ℕ) (view : SeatView) (answer : Answer) → broken_by rules seat view answer ≡ None → Clean rules seat view answer
unfolding broken_by
clean rules seat view answer h =
    let u = all_no (questions rules seat view answer) h in
    record {
      opens = u.1.1.0;
      tiles = u.1.1.1.0;
      target = u.1.1.1.1.0;
      early = u.1.1.1.1.1.0;
      held = u.1.1.1.1.1.1.0;
      unlocked = u.1.1.1.1.1.1.1.1.0;
      good = u.1.1.1.1.1.1.1.1.1.0;
      free = u.1.1.1.1.1.1.1.1.1.1.1.1.0;
      fifth = u.1.1.1.1.1.1.1.1.1.1.1.1.1.0;
      dry = u.1.1.1.1.1.1.1.1.1.1.1.1.1.1.0;
      ready = u.1.1.1.1.1.1.1.1.1.1.1.1.1.1.1.1.1.1.1.0;
    }

-- the named tiles are held

none_short : (h g : ℕ → ℕ) (tiles : List ℕ) → list_any (λ face. nat_lt (h face) (g face)) tiles ≡ false → list_all (λ face. nat_le (g face) (h face)) tiles ≡ true
none_short h g [] k = refl
none_short h g (t ∷ ts) k =
    let parts = or_parts (nat_lt (h t) (g t)) _ k in
    and_from (nat_le (g t) (h t)) _ (le-leb (g t) (h t) (ltb-false (h t) (g t) parts.0)) (none_short h g ts parts.1)

own_held : (ds : List Deed) (who seat : ℕ) (tiles : List ℕ) → are_held (tiles_gained ds who) (tiles_lost ds who) tiles ≡ true →
    are_held (tiles_gained ds seat) (tiles_lost ds seat) (cond (who == seat) tiles []) ≡ true
own_held ds who seat tiles h = elim (cases_eq who seat) [
  | inl e ↦ ap (λ b. are_held (tiles_gained ds seat) (tiles_lost ds seat) (cond b tiles [])) (eq-eqb who seat e) ∙ subst (λ x. are_held (tiles_gained ds x) (tiles_lost ds x) tiles ≡ true) e h
  | inr ne ↦ ap (λ b. are_held (tiles_gained ds seat) (tiles_lost ds seat) (cond b tiles [])) (ne_eqb who seat ne)
]

answer_held : (ds : List Deed) (who seat : ℕ) (tiles : List ℕ) →
    list_any (λ face. nat_lt (number_in (tiles_gained ds who) face - number_in (tiles_lost ds who) face) (number_in tiles face)) tiles ≡ false →
    are_held (tiles_gained ds seat) (tiles_lost ds seat) (cond (who == seat) tiles []) ≡ true
answer_held ds who seat tiles h =
    own_held ds who seat tiles (none_short (λ face. number_in (tiles_gained ds who) face - number_in (tiles_lost ds who) face) (λ face. number_in tiles face) tiles h)

-- the named tiles are of the game

-- Tiles that a seat holds are, where all deeds of the hand name no others.
held_real : (red : Bool) (hs : List Deed) (who : ℕ) (tiles : List ℕ) → list_all (has_tiles red) hs ≡ true →
    list_any (λ face. nat_lt (number_in (tiles_gained hs who) face - number_in (tiles_lost hs who) face) (number_in tiles face)) tiles ≡ false → list_all (is_face red) tiles ≡ true
held_real red hs who tiles real h =
    all_members (is_face red) tiles
    (λ x there. member_passes (is_face red) (tiles_gained hs who) x (gained_real red hs who real)
    (some _ _ _ (leb-true _ _ (member_passes (λ face. nat_le (number_in tiles face) (number_in (tiles_gained hs who) face - number_in (tiles_lost hs who) face)) tiles x enough there)) there))
  where
    enough : list_all (λ face. nat_le (number_in tiles face) (number_in (tiles_gained hs who) face - number_in (tiles_lost hs who) face)) tiles ≡ true
    enough = none_short (λ face. number_in (tiles_gained hs who) face - number_in (tiles_lost hs who) face) (λ face. number_in tiles face) tiles h

    some : (n got gone : ℕ) → n ≤ got - gone → 0 < n → 0 < got
    some n got gone h k = omega arith

-- Of an own triplet that a held tile is added to all four are.
added_real : (red : Bool) (hs : List Deed) (who t a b c : ℕ) → list_all (has_tiles red) hs ≡ true → (is_face red t && true) ≡ true → list_any (is_triplet_of t a b c) (seat_melds hs who) ≡ true →
    list_all (is_face red) (t ∷ a ∷ b ∷ c ∷ []) ≡ true
added_real red hs who t a b c real held own =
    let x = and_parts (is_face red a && is_face red b) (is_face red c) (triplet_passes (is_face red) t a b c (seat_melds hs who) (melds_real red hs who real) own) in
    let y = and_parts (is_face red a) (is_face red b) x.0 in
    and_from (is_face red t) _ (and_parts (is_face red t) true held).0 (and_from (is_face red a) _ y.0 (and_from (is_face red b) _ y.1 (and_from (is_face red c) true x.1 refl)))

-- a kan may be made

kan_may : (k l : ℕ) → leb 4 k ≡ false → eqb l 0 ≡ false → (ltb k 4 && ltb 0 l) ≡ true
kan_may k l h i = and_from (ltb k 4) (ltb 0 l) (lt-ltb k 4 (leb-false 4 k h)) (lt-ltb 0 l (some l (eqb-false l 0 i)))
  where
    some : (l : ℕ) → (l ≡ 0 → ⊥) → 0 < l
    some l h = omega arith

-- the triplet that a tile is added to

-- Of known tiles an own pon of them is the triplet of those.
pub shown_pon : (t a b c : ℕ) (melds : List Meld) → list_any (is_own_pon (Known t) (Known a) (Known b) (Known c)) melds ≡ list_any (is_triplet_of t a b c) melds
shown_pon t a b c melds i =
    list_any (λ (meld : Meld). is_pon meld.form && either_way a meld.a i && either_way b meld.b i && either_way c meld.c i && (kind_of t == kind_of a)) melds

own_triplet : (t a b c : ℕ) (melds : List Meld) → not (list_any (is_own_pon (Known t) (Known a) (Known b) (Known c)) melds) ≡ false → list_any (is_triplet_of t a b c) melds ≡ true
own_triplet t a b c melds h =
    sym (shown_pon t a b c melds)
    ∙ not-false (list_any (is_own_pon (Known t) (Known a) (Known b) (Known c)) melds) h

seat_there : (who : ℕ) → who < 4 → (ltb who 4 && true) ≡ true
seat_there who h = and_from (ltb who 4) true (lt-ltb who 4 h) refl

-- What a seat does in its turn.
pub act_next : (rules : Rules) (walls : List (List ℕ)) (ds : List Deed) (n : Deed) (who : ℕ) (answer : Answer) → newest ds ≡ Some n → stage_of ds ≡ Acts who → is_in_hand (Some n) ≡ true → who < 4 →
    list_all (has_tiles rules.red) (hand ds) ≡ true → Clean rules who (view_of ds who) answer → IfAny (IsNext rules.red walls ds) (act_of who answer)
unfolding view_of ground_of
act_next rules walls ds n who (answers.Discard actor (Known t) drawn) e acts begun small real c = record {
  place = ap is_in_hand e ∙ begun;
  seats = seat_there who small;
  held = λ seat. answer_held (hand ds) who seat (t ∷ []) c.held;
  triplet = refl;
  even = refl;
  tiles = held_real rules.red (hand ds) who (t ∷ []) real c.held;
  live = refl;
  once = refl;
  pointed = refl;
  stage = acts;
  brings = tt;
}
act_next rules walls ds n who (answers.ClosedKan actor (Known x) (Known y) (Known z) (Known w)) e acts begun small real c = record {
  place = ap is_in_hand e ∙ begun;
  seats = seat_there who small;
  held = λ seat. answer_held (hand ds) who seat (x ∷ y ∷ z ∷ w ∷ []) c.held;
  triplet = refl;
  even = refl;
  tiles = held_real rules.red (hand ds) who (x ∷ y ∷ z ∷ w ∷ []) real c.held;
  live = kan_may (kans (hand ds)) (live_tiles (hand ds)) c.fifth c.dry;
  once = refl;
  pointed = refl;
  stage = acts;
  brings = tt;
}
act_next rules walls ds n who (answers.AddedKan actor (Known t) (Known x) (Known y) (Known z)) e acts begun small real c = record {
  place = ap is_in_hand e ∙ begun;
  seats = seat_there who small;
  held = λ seat. answer_held (hand ds) who seat (t ∷ []) c.held;
  triplet = own_triplet t x y z (seat_melds (hand ds) who) c.good;
  even = refl;
  tiles = added_real rules.red (hand ds) who t x y z real (held_real rules.red (hand ds) who (t ∷ []) real c.held) (own_triplet t x y z (seat_melds (hand ds) who) c.good);
  live = kan_may (kans (hand ds)) (live_tiles (hand ds)) c.fifth c.dry;
  once = refl;
  pointed = refl;
  stage = acts;
  brings = tt;
}
act_next rules walls ds n who (answers.Reach actor) e acts begun small real c = record {
  place = ap is_in_hand e ∙ begun;
  seats = seat_there who small;
  held = λ seat. refl;
  triplet = refl;
  even = refl;
  tiles = refl;
  live = refl;
  once = refl;
  pointed = refl;
  stage = acts;
  brings = tt;
}
act_next rules walls ds n who (answers.Win actor target tile) e acts begun small real c = tt
act_next rules walls ds n who (answers.NineKinds actor) e acts begun small real c = tt
act_next rules walls ds n who (answers.Discard actor Hidden drawn) e acts begun small real c = tt
act_next rules walls ds n who (answers.ClosedKan actor Hidden b c d) e acts begun small real k = tt
act_next rules walls ds n who (answers.ClosedKan actor (Known x) Hidden c d) e acts begun small real k = tt
act_next rules walls ds n who (answers.ClosedKan actor (Known x) (Known y) Hidden d) e acts begun small real k = tt
act_next rules walls ds n who (answers.ClosedKan actor (Known x) (Known y) (Known z) Hidden) e acts begun small real k = tt
act_next rules walls ds n who (answers.AddedKan actor Hidden b c d) e acts begun small real k = tt
act_next rules walls ds n who (answers.AddedKan actor (Known x) Hidden c d) e acts begun small real k = tt
act_next rules walls ds n who (answers.AddedKan actor (Known x) (Known y) Hidden d) e acts begun small real k = tt
act_next rules walls ds n who (answers.AddedKan actor (Known x) (Known y) (Known z) Hidden) e acts begun small real k = tt
act_next rules walls ds n who (answers.Pass actor) e acts begun small real c = tt
act_next rules walls ds n who (answers.Chi actor target tile a b) e acts begun small real c = tt
act_next rules walls ds n who (answers.Pon actor target tile a b) e acts begun small real c = tt
act_next rules walls ds n who (answers.OpenKan actor target tile a b d) e acts begun small real c = tt
act_next rules walls ds n who answers.Unread e acts begun small real c = tt

-- the call of a discard

turn_is : (ds : List Deed) (seat who tile : ℕ) (drawn : Bool) → newest ds ≡ Some (Discard who tile drawn) → (view_of ds seat).turn ≡ Discarded who tile
unfolding view_of
turn_is ds seat who tile drawn e = ap (λ o. turn_in (option_map turn_by o)) e

hits : (who tile target t : ℕ) → not (target == who && t == tile) ≡ false → (who == target && tile == t) ≡ true
hits who tile target t h = (λ i. either_way who target i && either_way tile t i) ∙ not-false (target == who && t == tile) h

caller_seats : (seat target who t tile : ℕ) → seat < 4 → who < 4 → (who == target && tile == t) ≡ true → (ltb seat 4 && (ltb target 4 && true)) ≡ true
caller_seats seat target who t tile h g e =
    let same = eqb-true who target (and_parts (who == target) (tile == t) e).0 in
    and_from (ltb seat 4) _ (lt-ltb seat 4 h) (seat_there target (subst (λ x. x < 4) same g))

-- What is taken is of the game, and so are the tiles of its caller.
taken_real : (red : Bool) (hs : List Deed) (seat who target tile t : ℕ) (tiles : List ℕ) → list_all (has_tiles red) hs ≡ true → is_face red tile ≡ true → (who == target && tile == t) ≡ true →
    list_any (λ face. nat_lt (number_in (tiles_gained hs seat) face - number_in (tiles_lost hs seat) face) (number_in tiles face)) tiles ≡ false → list_all (is_face red) (t ∷ tiles) ≡ true
taken_real red hs seat who target tile t tiles real offered hit held =
    and_from (is_face red t) _ (subst (λ x. is_face red x ≡ true) (eqb-true tile t (and_parts (who == target) (tile == t) hit).1) offered) (held_real red hs seat tiles real held)

-- A chi of a discard.
chi_next : (rules : Rules) (walls : List (List ℕ)) (ds : List Deed) (who tile : ℕ) (drawn : Bool) (seat target t x y : ℕ) → newest ds ≡ Some (Discard who tile drawn) → who < 4 → seat < 4 →
    misses_discard (view_of ds seat).turn target (Known t) ≡ false →
    list_any (λ face. nat_lt (held_count (view_of ds seat) face) (number_in (x ∷ y ∷ []) face)) (x ∷ y ∷ []) ≡ false →
    list_all (has_tiles rules.red) (hand ds) ≡ true → is_face rules.red tile ≡ true → IsNext rules.red walls ds (Chi seat target t x y)
unfolding view_of ground_of
chi_next rules walls ds who tile drawn seat target t x y e small there takes held real offered =
    let hit = hits who tile target t (ap (λ (turn : WindowTurn). misses_discard turn target (Known t)) (sym (turn_is ds seat who tile drawn e)) ∙ takes) in
    record {
      place = ap (λ o. is_discard_of (taken_from (hand ds) o) target t) e ∙ hit;
      seats = caller_seats seat target who t tile there small hit;
      held = λ other. answer_held (hand ds) seat other (x ∷ y ∷ []) held;
      triplet = refl;
      even = refl;
      tiles = taken_real rules.red (hand ds) seat who target tile t (x ∷ y ∷ []) real offered hit held;
      live = refl;
      once = refl;
      pointed = refl;
      stage = stage_is ds (Discard who tile drawn) Waits e (λ before. refl);
      brings = tt;
    }

-- A pon of one kind owes what a chi of the same tiles owes.
pon_next : (red : Bool) (walls : List (List ℕ)) (ds : List Deed) (seat target t x y : ℕ) → (are_alike t x && are_alike t y) ≡ true →
    IsNext red walls ds (Chi seat target t x y) → IsNext red walls ds (Pon seat target t x y)
unfolding ground_of
pon_next red walls ds seat target t x y alike n = record {
  place = n.place;
  seats = n.seats;
  held = n.held;
  triplet = n.triplet;
  even = alike;
  tiles = n.tiles;
  live = n.live;
  once = n.once;
  pointed = n.pointed;
  stage = n.stage;
  brings = n.brings;
}

-- What is called: the pon or the kan of a seat.
triplet_next : (rules : Rules) (walls : List (List ℕ)) (ds : List Deed) (who tile : ℕ) (drawn : Bool) (seat : ℕ) (answer : Answer) → newest ds ≡ Some (Discard who tile drawn) → who < 4 → seat < 4 →
    list_all (has_tiles rules.red) (hand ds) ≡ true → is_face rules.red tile ≡ true → Clean rules seat (view_of ds seat) answer →
    IfAny (IsNext rules.red walls ds) (call_of_bid (triplet_bid seat answer))
unfolding view_of ground_of
triplet_next rules walls ds who tile drawn seat (answers.Pon actor target (Known t) (Known x) (Known y)) e small there real offered c =
    pon_next rules.red walls ds seat target t x y (not-false (are_alike t x && are_alike t y) c.good) (chi_next rules walls ds who tile drawn seat
    target t x y e small there c.target c.held real offered)
triplet_next rules walls ds who tile drawn seat (answers.OpenKan actor target (Known t) (Known x) (Known y) (Known z)) e small there real offered c =
    let hit = hits who tile target t (ap (λ (turn : WindowTurn). misses_discard turn target (Known t)) (sym (turn_is ds seat who tile drawn e)) ∙ c.target) in
    record {
      place = ap (λ o. is_discard_of (taken_from (hand ds) o) target t) e ∙ hit;
      seats = caller_seats seat target who t tile there small hit;
      held = λ other. answer_held (hand ds) seat other (x ∷ y ∷ z ∷ []) c.held;
      triplet = refl;
      even = refl;
      tiles = taken_real rules.red (hand ds) seat who target tile t (x ∷ y ∷ z ∷ []) real offered hit c.held;
      live = kan_may (kans (hand ds)) (live_tiles (hand ds)) c.fifth c.early;
      once = refl;
      pointed = refl;
      stage = stage_is ds (Discard who tile drawn) Waits e (λ before. refl);
      brings = tt;
    }
triplet_next rules walls ds who tile drawn seat (answers.Pon actor target Hidden b c) e small there real offered k = tt
triplet_next rules walls ds who tile drawn seat (answers.Pon actor target (Known x) Hidden c) e small there real offered k = tt
triplet_next rules walls ds who tile drawn seat (answers.Pon actor target (Known x) (Known y) Hidden) e small there real offered k = tt
triplet_next rules walls ds who tile drawn seat (answers.OpenKan actor target Hidden b c d) e small there real offered k = tt
triplet_next rules walls ds who tile drawn seat (answers.OpenKan actor target (Known x) Hidden c d) e small there real offered k = tt
triplet_next rules walls ds who tile drawn seat (answers.OpenKan actor target (Known x) (Known y) Hidden d) e small there real offered k = tt
triplet_next rules walls ds who tile drawn seat (answers.OpenKan actor target (Known x) (Known y) (Known z) Hidden) e small there real offered k = tt
triplet_next rules walls ds who tile drawn seat (answers.Discard actor t marked) e small there real offered c = tt
triplet_next rules walls ds who tile drawn seat (answers.ClosedKan actor a b c d) e small there real offered k = tt
triplet_next rules walls ds who tile drawn seat (answers.AddedKan actor a b c d) e small there real offered k = tt
triplet_next rules walls ds who tile drawn seat (answers.Pass actor) e small there real offered c = tt
triplet_next rules walls ds who tile drawn seat (answers.Chi actor target t a b) e small there real offered c = tt
triplet_next rules walls ds who tile drawn seat (answers.Reach actor) e small there real offered c = tt
triplet_next rules walls ds who tile drawn seat (answers.Win actor target t) e small there real offered c = tt
triplet_next rules walls ds who tile drawn seat (answers.NineKinds actor) e small there real offered c = tt
triplet_next rules walls ds who tile drawn seat answers.Unread e small there real offered c = tt

-- And the chi.
run_next : (rules : Rules) (walls : List (List ℕ)) (ds : List Deed) (who tile : ℕ) (drawn : Bool) (seat : ℕ) (answer : Answer) → newest ds ≡ Some (Discard who tile drawn) → who < 4 → seat < 4 →
    list_all (has_tiles rules.red) (hand ds) ≡ true → is_face rules.red tile ≡ true → Clean rules seat (view_of ds seat) answer → IfAny (IsNext rules.red walls ds) (call_of_bid (run_bid seat answer))
unfolding view_of
run_next rules walls ds who tile drawn seat (answers.Chi actor target (Known t) (Known x) (Known y)) e small there real offered c =
    chi_next rules walls ds who tile drawn seat target t x y e small there c.target c.held real offered
run_next rules walls ds who tile drawn seat (answers.Chi actor target Hidden b c) e small there real offered k = tt
run_next rules walls ds who tile drawn seat (answers.Chi actor target (Known x) Hidden c) e small there real offered k = tt
run_next rules walls ds who tile drawn seat (answers.Chi actor target (Known x) (Known y) Hidden) e small there real offered k = tt
run_next rules walls ds who tile drawn seat (answers.Discard actor t marked) e small there real offered c = tt
run_next rules walls ds who tile drawn seat (answers.ClosedKan actor a b c d) e small there real offered k = tt
run_next rules walls ds who tile drawn seat (answers.AddedKan actor a b c d) e small there real offered k = tt
run_next rules walls ds who tile drawn seat (answers.Pass actor) e small there real offered c = tt
run_next rules walls ds who tile drawn seat (answers.Pon actor target t a b) e small there real offered c = tt
run_next rules walls ds who tile drawn seat (answers.OpenKan actor target t a b c) e small there real offered k = tt
run_next rules walls ds who tile drawn seat (answers.Reach actor) e small there real offered c = tt
run_next rules walls ds who tile drawn seat (answers.Win actor target t) e small there real offered c = tt
run_next rules walls ds who tile drawn seat (answers.NineKinds actor) e small there real offered c = tt
run_next rules walls ds who tile drawn seat answers.Unread e small there real offered c = tt

pub either : {A : Type 0} (P : A → Type 0) (b : Bool) (o p : Option A) → IfAny P o → IfAny P p → IfAny P (cond b o p)
either P true o p f g = f
either P false o p f g = g

-- The one bid, or else the other.
pub or_other : (P : Deed → Type 0) (a b : Bid) → IfAny P (call_of_bid a) → IfAny P (call_of_bid b) → IfAny P (call_of_bid (or_bid a b))
or_other P bids.NoBid b f g = g
or_other P (bids.Chi seat target tile x y) b f g = f
or_other P (bids.Pon seat target tile x y) b f g = f
or_other P (bids.OpenKan seat target tile x y z) b f g = f

-- Each of four lawful answers owes nothing.
pub clean_at : (rules : Rules) (ds : List Deed) (given : Four Answer) (seat : ℕ) → seat < 4 → AllLawful rules ds given → Clean rules seat (view_of ds seat) (at_seat given seat)
clean_at rules ds given zero h c = clean rules 0 (view_of ds 0) given.first c.first.clean
clean_at rules ds given (suc zero) h c = clean rules 1 (view_of ds 1) given.second c.second.clean
clean_at rules ds given (suc (suc zero)) h c = clean rules 2 (view_of ds 2) given.third c.third.clean
clean_at rules ds given (suc (suc (suc zero))) h c = clean rules 3 (view_of ds 3) given.fourth c.fourth.clean
clean_at rules ds given (suc (suc (suc (suc n)))) h c = absurd (omega arith)

-- Of the bids of four seats the first.
pub bid_next : (P : Deed → Type 0) (bid : ℕ → Answer → Bid) (given : Four Answer) →
    ((seat : ℕ) → seat < 4 → IfAny P (call_of_bid (bid seat (at_seat given seat)))) → IfAny P (call_of_bid (bid_by bid given))
bid_next P bid given h =
    or_other P _ _ (h 0 (omega arith)) (or_other P _ _ (h 1 (omega arith)) (or_other P _ _ (h 2 (omega arith)) (h 3 (omega arith))))

-- The call of a discard, where there is one.
pub call_next : (rules : Rules) (walls : List (List ℕ)) (ds : List Deed) (who tile : ℕ) (drawn : Bool) (given : Four Answer) →
    newest ds ≡ Some (Discard who tile drawn) → who < 4 → list_all (has_tiles rules.red) (hand ds) ≡ true → is_face rules.red tile ≡ true →
    AllLawful rules ds given →
    IfAny (IsNext rules.red walls ds) (call_of_bid (best_bid given))
unfolding best_bid
call_next rules walls ds who tile drawn given e small real offered c =
    or_other (IsNext rules.red walls ds) _ _
    (bid_next (IsNext rules.red walls ds) triplet_bid given (λ seat h. triplet_next rules walls ds who tile drawn seat (at_seat given seat) e small h real offered (clean_at rules ds given seat h c)))
    (bid_next (IsNext rules.red walls ds) run_bid given (λ seat h. run_next rules walls ds who tile drawn seat (at_seat given seat) e small h real offered (clean_at rules ds given seat h c)))
