-- No call of a discard is lawful with no live tile left, in riichi, or of one's own discard.
use Rattle.std.proofs.Common.{◌≡◌, ℕ, ◌==◌, ◌&&◌, Bool, true, false, not, cond, List, [], ◌∷◌, ◌++◌, refl, sym, ap, ◌∙◌}
use Rattle.std.specs.Prelude.{None, map, flat_map}
use Rattle.std.proofs.lemmas.Bool.{false≢true, both_ways, false_from_ne_true, not-false}
use Rattle.mj_tiles.specs.Faces.{kind_of, tile_order}
use Rattle.mj_deeds.specs.declared.answer.Pai.TheVariants.{Known}
use Rattle.mj_deeds.specs.declared.answer.Answer.{Answer}
use Rattle.mj_deeds.specs.declared.answer.Answer.TheVariants.{Pass, Discard, Chi, Pon, OpenKan}
use Rattle.mj_deeds.specs.declared.deed.Deed.{Deed}
use Rattle.mj_wall.specs.declared.setting.Rules.{Rules}
use Rattle.mj_rules.specs.View.{WindowTurn, Drew, Discarded, Added, Reached, Called, Nobodys, SeatView, view_of}
use Rattle.mj_rules.specs.Broken.{is_open, is_pass, is_pass_or_call, is_call_answer, is_locked_answer}
use Rattle.mj_rules.specs.Possible.{is_lawful, faces_of, chis_with, all_chis, pons_of, open_kans_of, all_calls, triplets, possible}
use Rattle.mj_rules.proofs.Listed.{lawful_clear}
use Rattle.mj_rules.proofs.ListedOrder.{all_mapped, all_joined}
use Rattle.mj_judge.specs.Inner.Tried.{lawful_among, may_call, is_own_draw, is_discarding, is_winning}
use Rattle.mj_judge.proofs.Tried.{Fails, none_pass, not_open, lawful-append, no_discards, no_closed_kans, no_added_kans, no_reach, no_wins, no_nine_kinds, pass_lawful, pass_stands, all_tried}

call_locked : (answer : Answer) → is_call_answer answer ≡ true → is_locked_answer answer ≡ true
call_locked (Chi actor target tile a b) h = refl
call_locked (Pon actor target tile a b) h = refl
call_locked (OpenKan actor target tile a b c) h = refl
call_locked (Discard actor tile drawn) h = absurd (false≢true h)
call_locked other h = h

-- Where the seat may not call, a call fails.
call_fails : (rules : Rules) (seat : ℕ) (view : SeatView) (answer : Answer) → may_call view ≡ false → is_call_answer answer ≡ true → Fails rules seat view answer
call_fails rules seat view answer shut call = false_from_ne_true (is_lawful rules seat view answer)
    (λ lawful. let clear = lawful_clear rules seat view answer lawful in
    both_ways (may_call view) shut
    (may (view.live == 0) view.accepted (is_call_answer answer) (is_locked_answer answer) call (call_locked answer call) clear.1.1.1.1.1.0 clear.1.1.1.1.1.1.1.1.0))
  where
    may : (dry accepted call locked : Bool) → call ≡ true → locked ≡ true → (call && dry) ≡ false → (accepted && locked) ≡ false → (not dry && not accepted) ≡ true
    may dry true call locked c l d k = absurd (both_ways locked k l)
    may true false call locked c l d k = absurd (both_ways (call && true) d (ap (λ (b : Bool). b && true) c))
    may false false call locked c l d k = refl

-- No call of a discard is lawful where each fails.
calls_fail : (rules : Rules) (ds : List Deed) (seat who tile : ℕ) → ((answer : Answer) → is_call_answer answer ≡ true → Fails rules seat (view_of ds seat) answer) →
    lawful_among rules ds seat (all_chis seat who tile ++ (pons_of seat who tile (faces_of (kind_of tile)) ++ open_kans_of seat who tile (faces_of (kind_of tile)))) ≡ []
unfolding lawful_among all_chis
calls_fail rules ds seat who tile each =
    lawful-append rules ds seat (all_chis seat who tile) (pons ++ kans)
    ∙ (λ i. chis_fail i ++ (lawful-append rules ds seat pons kans ∙ (λ j. pons_fail j ++ kans_fail j)) i)
  where
    view : SeatView
    view = view_of ds seat

    faces : List ℕ
    faces = faces_of (kind_of tile)

    pons : List Answer
    pons = pons_of seat who tile faces

    kans : List Answer
    kans = open_kans_of seat who tile faces

    chis_fail : lawful_among rules ds seat (all_chis seat who tile) ≡ []
    chis_fail =
        none_pass (is_lawful rules seat view) (flat_map (chis_with seat who tile) tile_order)
        (all_joined (Fails rules seat view) (chis_with seat who tile) tile_order
        (λ a. all_mapped (Fails rules seat view) (λ b. Chi seat who (Known tile) (Known a) (Known b)) tile_order
        (λ b. each (Chi seat who (Known tile) (Known a) (Known b)) refl)))

    pons_fail : lawful_among rules ds seat pons ≡ []
    pons_fail =
        none_pass (is_lawful rules seat view) pons
        (all_joined (Fails rules seat view) (λ a. map (λ b. Pon seat who (Known tile) (Known a) (Known b)) faces) faces
        (λ a. all_mapped (Fails rules seat view) (λ b. Pon seat who (Known tile) (Known a) (Known b)) faces
        (λ b. each (Pon seat who (Known tile) (Known a) (Known b)) refl)))

    kans_fail : lawful_among rules ds seat kans ≡ []
    kans_fail =
        none_pass (is_lawful rules seat view) kans
        (all_joined (Fails rules seat view) (λ a. flat_map (λ b. map (λ c. OpenKan seat who (Known tile) (Known a) (Known b) (Known c)) faces) faces) faces
        (λ a. all_joined (Fails rules seat view) (λ b. map (λ c. OpenKan seat who (Known tile) (Known a) (Known b) (Known c)) faces) faces
        (λ b. all_mapped (Fails rules seat view) (λ c. OpenKan seat who (Known tile) (Known a) (Known b) (Known c)) faces
        (λ c. each (OpenKan seat who (Known tile) (Known a) (Known b) (Known c)) refl))))

pub no_calls : (rules : Rules) (ds : List Deed) (seat who tile : ℕ) → may_call (view_of ds seat) ≡ false →
    lawful_among rules ds seat (all_chis seat who tile ++ (pons_of seat who tile (faces_of (kind_of tile)) ++ open_kans_of seat who tile (faces_of (kind_of tile)))) ≡ []
no_calls rules ds seat who tile shut = calls_fail rules ds seat who tile (λ answer call. call_fails rules seat (view_of ds seat) answer shut call)

-- A call of one's own discard is not open.
own_call : (rules : Rules) (seat who tile : ℕ) (accepted : Bool) (answer : Answer) → not (who == seat) ≡ false → is_call_answer answer ≡ true →
    is_open rules seat (Discarded who tile) accepted answer ≡ false
own_call rules seat who tile accepted answer own call = ap (λ b. cond b (is_pass answer) (is_pass_or_call answer)) (not-false (who == seat) own) ∙ no_pass answer call
  where
    no_pass : (answer : Answer) → is_call_answer answer ≡ true → is_pass answer ≡ false
    no_pass (Pass actor) h = absurd (false≢true h)
    no_pass other h = refl

-- Where the turn offers a seat no win, it has no tile of another to call.
pub no_own_calls : (rules : Rules) (ds : List Deed) (seat : ℕ) → is_winning seat (view_of ds seat).turn ≡ false → lawful_among rules ds seat (all_calls seat (view_of ds seat).turn) ≡ []
unfolding lawful_among
no_own_calls rules ds seat shut = by_turn (view_of ds seat).turn refl shut
  where
    by_turn : (turn : WindowTurn) → (view_of ds seat).turn ≡ turn → is_winning seat turn ≡ false → lawful_among rules ds seat (all_calls seat turn) ≡ []
    by_turn (Discarded who tile) is h =
        calls_fail rules ds seat who tile
        (λ answer call. not_open rules seat (view_of ds seat) answer
        (ap (λ (t : WindowTurn). is_open rules seat t (view_of ds seat).accepted answer) is ∙ own_call rules seat who tile (view_of ds seat).accepted answer h call))
    by_turn (Drew who) is h = refl
    by_turn (Added who tile) is h = refl
    by_turn (Reached who) is h = refl
    by_turn (Called who banned) is h = refl
    by_turn Nobodys is h = refl

-- A seat to which the turn offers neither a discard nor a win may pass alone.
pub passes_alone : (rules : Rules) (ds : List Deed) (seat : ℕ) → is_discarding seat (view_of ds seat).turn ≡ false →
    is_winning seat (view_of ds seat).turn ≡ false → Pass None ∷ [] ≡ possible rules ds seat
passes_alone rules ds seat shut dull =
    let drawn = not_drawn (view_of ds seat).turn shut in
    all_tried rules ds seat [] [] [] [] [] [] [] [] (Pass None ∷ []) refl (sym (no_discards rules ds seat shut)) (sym (no_own_calls rules ds seat dull)) (sym (no_closed_kans rules ds seat drawn))
    (sym (no_added_kans rules ds seat (triplets (view_of ds seat)) drawn)) (sym (no_reach rules ds seat drawn)) (sym (no_wins rules ds seat dull)) (sym (no_nine_kinds rules ds seat drawn))
    (pass_stands rules ds seat [] (pass_lawful rules seat (view_of ds seat) ∙ ap not shut))
  where
    not_drawn : (turn : WindowTurn) → is_discarding seat turn ≡ false → is_own_draw seat turn ≡ false
    not_drawn (Drew who) h = h
    not_drawn other h = refl
