-- What a lawful win on a discard says of the hand of its seat, by the deeds before that discard.
use Rattle.std.proofs.Common.{◌≡◌, ℕ, ◌+◌, ◌-◌, ◌*◌, ◌<◌, ◌&&◌, Bool, true, false, List, [], ◌∷◌, ◌++◌, length, take, refl, sym, ap, ◌∙◌, subst, arith}
use Rattle.std.specs.Prelude.{Option, Some, None, flat_map, nat_lt, if◌then◌else◌}
use Rattle.std.specs.Option.{option_map_or}
use Rattle.std.proofs.lemmas.Bool.{and_parts, eq-eqb, ltb-true, not-false}
use Rattle.mj_tiles.specs.Faces.{kind_of}
use Rattle.mj_tiles.specs.Counts.{kind_counts, room_beside}
use Rattle.mj_tiles.specs.Kinds.{kinds_that}
use Rattle.mj_tiles.specs.Melds.{tiles_of_meld}
use Rattle.mj_readings.specs.Tests.{complete}
use Rattle.mj_waits.specs.Waits.{is_wait}
use Rattle.mj_waits.specs.Furiten.{is_furiten}
use Rattle.mj_deeds.specs.declared.answer.Answer.{Answer}
use Rattle.mj_deeds.specs.declared.answer.Answer.TheVariants as answers
use Rattle.mj_deeds.specs.declared.deed.Deed.{Deed}
use Rattle.mj_deeds.specs.declared.deed.Deed.TheVariants.{Discard}
use Rattle.mj_deeds.specs.Facts.{newest, concealed_tiles, seat_melds}
use Rattle.mj_deeds.specs.Fits.{all_fit, has_seats, has_tiles, is_face, is_in_hand}
use Rattle.mj_deeds.specs.Hand.{hand}
use Rattle.mj_deeds.specs.Passed.{own_kinds, passed_kinds, passed_in_riichi}
use Rattle.mj_deeds.proofs.HandSteps.{hand_is}
use Rattle.mj_deeds.proofs.Newest.{newest_more}
use Rattle.mj_deeds.proofs.Fitted.{hand_begun}
use Rattle.mj_wall.specs.Places.{is_wall}
use Rattle.mj_wall.specs.declared.setting.Rules.{Rules}
use Rattle.mj_rules.specs.Broken.{is_win, is_pass, is_pass_or_call, is_open, is_not_complete, is_furiten_win, offered_in, waits_of, questions, broken_by}
use Rattle.mj_rules.specs.Outcome.{wall_of}
use Rattle.mj_rules.specs.Played.{IsLawful, IsPlayed}
use Rattle.mj_rules.specs.View.{WindowTurn, Discarded, view_of}
use Rattle.mj_rules.proofs.Questions.{all_no}
use Rattle.mj_rules.proofs.Stages.{newest_behind}
use Rattle.mj_rules.proofs.Kept.{first_seat}
use Rattle.mj_rules.proofs.Answered.{IfAny}
use Rattle.mj_rules.proofs.Given.{small_face}
use Rattle.mj_rules.proofs.Turns.{turn_is}
use Rattle.mj_rules.proofs.Promises.{newest_in}
use Rattle.mj_rules.proofs.Playing.{played_sound, played_less}
use Rattle.mj_safety.specs.Safe.{wants_discard, has_to_discard}
use Rattle.mj_safety.proofs.Quiet.{concealed_stay, melds_stay, own_stay, passed_stay, since_stay, in_hand_of}

-- what the rules ask of a win

record Wins (rules : Rules) (deeds : List Deed) (seat : ℕ) (answer : Answer) : Type 0 where
  opens : is_open rules seat (view_of deeds seat).turn (view_of deeds seat).accepted answer ≡ true
  finished : is_not_complete (view_of deeds seat) answer ≡ false
  free : is_furiten_win (view_of deeds seat) answer ≡ false

lawful_wins : (rules : Rules) (deeds : List Deed) (seat : ℕ) (answer : Answer) → IsLawful rules deeds seat answer → Wins rules deeds seat answer
unfolding broken_by
lawful_wins rules deeds seat answer lawful =
    let u = all_no (questions rules seat (view_of deeds seat) answer) lawful.clean in
    record {
      opens = not-false (is_open rules seat (view_of deeds seat).turn (view_of deeds seat).accepted answer) u.1.1.0;
      finished = u.1.1.1.1.1.1.1.1.1.1.1.1.1.1.1.1.1.1.1.1.0;
      free = u.1.1.1.1.1.1.1.1.1.1.1.1.1.1.1.1.1.1.1.1.1.0;
    }

no_pass : (answer : Answer) → is_win answer ≡ true → is_pass answer ≡ true → ⊥
no_pass (answers.Win actor target tile) h k = cc
no_pass other h k = cc

second : (a b : Bool) → a ≡ true → (a && b) ≡ false → b ≡ false
second true b h e = e
second false b h e = cc

-- The kind of a face.
small_kind : (face : ℕ) → face < 37 → kind_of face < 34
small_kind face h = by_test (nat_lt face 34) refl
  where
    by_test : (b : Bool) → nat_lt face 34 ≡ b → kind_of face < 34
    by_test true e = subst (λ (b : Bool). (if b then face else 4 + 9 * (face - 34)) < 34) (sym e) (ltb-true face 34 e)
    by_test false e = subst (λ (b : Bool). (if b then face else 4 + 9 * (face - 34)) < 34) (sym e) (omega (arith, h))

-- Of a lawful win on the discard of a seat that had to discard: the deeds of the hand, those before the discard, and what the
-- winner holds after them.
pub record Asked (red : Bool) (ds : List Deed) (seat against tile : ℕ) (drawn : Bool) : Type 0 where
  pub fit : all_fit red [] ds ≡ true
  pub fit_with : all_fit red [] (ds ++ Discard seat tile drawn ∷ []) ≡ true
  pub inside : hand (ds ++ Discard seat tile drawn ∷ []) ≡ hand ds ++ Discard seat tile drawn ∷ []
  pub small : seat < 4
  pub apart : seat ≡ against → ⊥
  pub known : kind_of tile < 34
  pub finished : complete (kind_counts (concealed_tiles (hand ds) against ++ tile ∷ [])) (length (seat_melds (hand ds) against)) ≡ true
  pub free : is_furiten (record {
    waits = kinds_that (is_wait (kind_counts (concealed_tiles (hand ds) against)) (room_beside (flat_map tiles_of_meld (seat_melds (hand ds) against))) (length (seat_melds (hand ds) against)));
    own = own_kinds (hand ds) against;
    passed = passed_kinds (hand ds) against;
    passed_in_riichi = passed_in_riichi (hand ds) against;
  }) ≡ false

-- The deed that wants the discard.
record Wanted (ds : List Deed) (seat : ℕ) : Type 0 where
  last : Deed
  is : newest ds ≡ Some last
  wants : wants_discard seat last ≡ true

wanted : (ds : List Deed) (seat : ℕ) → has_to_discard ds seat ≡ true → Wanted ds seat
wanted ds seat h = by_newest (newest ds) refl h
  where
    by_newest : (o : Option Deed) → newest ds ≡ o → option_map_or (wants_discard seat) o false ≡ true → Wanted ds seat
    by_newest None e k = cc
    by_newest (Some last) e k = record { last = last; is = e; wants = k }

pub asked : (rules : Rules) (walls : List (List ℕ)) (ds : List Deed) (seat against tile : ℕ) (drawn : Bool) (answer : Answer) → ((number : ℕ) → is_wall rules.red (wall_of walls number) ≡ true) →
    IsPlayed rules walls (ds ++ Discard seat tile drawn ∷ []) → has_to_discard ds seat ≡ true → is_win answer ≡ true → IsLawful rules (ds ++ Discard seat tile drawn ∷ []) against answer →
    Asked rules.red ds seat against tile drawn
unfolding view_of waits_of
asked rules walls ds seat against tile drawn answer whole played turn win lawful =
    let with = ds ++ Discard seat tile drawn ∷ [] in
    let before = played_sound rules walls ds whole (played_less rules walls ds (Discard seat tile drawn) played).0 in
    let after = played_sound rules walls with whole played in
    let last = wanted ds seat turn in
    let begun : is_in_hand (newest ds) ≡ true = ap is_in_hand last.is ∙ in_hand_of seat last.last last.wants in
    let inside : hand with ≡ hand ds ++ Discard seat tile drawn ∷ [] = hand_is ds (Discard seat tile drawn) (λ _ empty. hand_begun rules.red ds before.fit begun empty) in
    let now : newest with ≡ Some (Discard seat tile drawn) = newest_more ds (Discard seat tile drawn) in
    let w = lawful_wins rules with against answer lawful in
    let turns : (view_of with against).turn ≡ Discarded seat tile = turn_is with against (Discard seat tile drawn) now in
    let apart : seat ≡ against → ⊥ = λ same. no_pass answer win
    (ap (λ (b : Bool). if b then is_pass answer else is_pass_or_call answer) (sym (eq-eqb seat against same))
    ∙ ap (λ (t : WindowTurn). is_open rules against t (view_of with against).accepted answer) (sym turns) ∙ w.opens) in
    let ends : hand ds ≡ take (length (hand ds) - 1) (hand ds) ++ last.last ∷ [] =
    newest_behind (hand ds) last.last (newest_in ds begun (λ empty. hand_begun rules.red ds before.fit begun empty) ∙ last.is) in
    let concealed : concealed_tiles (hand with) against ≡ concealed_tiles (hand ds) against =
    ap (λ (hs : List Deed). concealed_tiles hs against) inside ∙ concealed_stay (hand ds) seat tile against drawn apart in
    let melds : seat_melds (hand with) against ≡ seat_melds (hand ds) against = ap (λ (hs : List Deed). seat_melds hs against) inside ∙ melds_stay (hand ds) seat tile against drawn in
    let own : own_kinds (hand with) against ≡ own_kinds (hand ds) against = ap (λ (hs : List Deed). own_kinds hs against) inside ∙ own_stay (hand ds) seat tile against drawn apart in
    let passed : passed_kinds (hand with) against ≡ passed_kinds (hand ds) against =
    ap (λ (hs : List Deed). passed_kinds hs against) inside
    ∙ subst (λ (hs : List Deed). passed_kinds (hs ++ Discard seat tile drawn ∷ []) against ≡ passed_kinds hs against) (sym ends)
    (passed_stay (take (length (hand ds) - 1) (hand ds)) last.last seat tile against drawn last.wants apart) in
    let since : passed_in_riichi (hand with) against ≡ passed_in_riichi (hand ds) against =
    ap (λ (hs : List Deed). passed_in_riichi hs against) inside
    ∙ subst (λ (hs : List Deed). passed_in_riichi (hs ++ Discard seat tile drawn ∷ []) against ≡ passed_in_riichi hs against) (sym ends)
    (since_stay (take (length (hand ds) - 1) (hand ds)) last.last seat tile against drawn last.wants) in
    record {
      fit = before.fit;
      fit_with = after.fit;
      inside = inside;
      small = first_seat seat _ (subst (λ (o : Option Deed). IfAny (λ d. has_seats d ≡ true) o) now after.seated);
      apart = apart;
      known = small_kind tile (small_face rules.red tile (and_parts (is_face rules.red tile) true (subst (λ (o : Option Deed). IfAny (λ d. has_tiles rules.red d ≡ true) o) now after.known.real)).0);
      finished =
          sym (λ i. complete (kind_counts (concealed i ++ offered_in (turns i))) (length (melds i)))
          ∙ not-false _ (second (is_win answer) _ win w.finished);
      free =
          sym (λ i. is_furiten (record {
            waits = kinds_that (is_wait (kind_counts (concealed i)) (room_beside (flat_map tiles_of_meld (melds i))) (length (melds i)));
            own = own i;
            passed = passed i;
            passed_in_riichi = since i;
          }))
          ∙ second _ _ (λ i. win i && nat_lt 0 (length (offered_in (turns i)))) w.free;
    }
