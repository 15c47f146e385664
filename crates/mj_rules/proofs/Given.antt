-- What a seat is given in a hand whose deeds fit: it puts down no more than that, all of it are tiles of the game, and it holds
-- the tile that it drew last.
use Rattle.std.proofs.Common.{◌≡◌, ℕ, ◌+◌, ◌<◌, ◌≤◌, inl, inr, not, Bool, true, false, cond, eqb, List, [], ◌∷◌, ◌++◌, Option, Some, None, refl, sym, ap, ◌∙◌, subst, arith, append-nil, append_assoc}
use Rattle.std.specs.Prelude.{option_and_then}
use Rattle.std.specs.List.{list_all}
use Rattle.std.proofs.lemmas.Bool.{cases_eq, ne_eqb, eq-eqb, and_parts, ltb-true}
use Rattle.mj_tiles.specs.Faces.{number_in}
use Rattle.mj_deeds.specs.declared.deed.Deed.{Deed}
use Rattle.mj_deeds.specs.declared.deed.Deed.TheVariants.{StartGame, StartHand, Draw, Discard, Chi, Pon, OpenKan, ClosedKan, AddedKan, Dora, Reach}
use Rattle.mj_deeds.specs.Facts.{newest, tiles_gained, gains_by, tiles_lost, losses_by, drawn_tile, drawn_by, before_newest, holds_drawn}
use Rattle.mj_deeds.proofs.Totals.{number_more}
use Rattle.mj_deeds.proofs.Newest.{newest_more, before_more}
use Rattle.mj_deeds.proofs.HandSteps.{hand_with, hand_before, hand_is}
use Rattle.mj_deeds.proofs.Fitted.{all_fit-append, hand_begun, hand_real, parts_of, of_four}
use Rattle.mj_deeds.proofs.RealTiles.{member_passes, gained_real}
use Rattle.mj_deeds.specs.Hand.{hand, before_in}
use Rattle.mj_deeds.specs.Fits.{Ground, ground_of, fits, all_fit, is_in_place, is_in_hand, is_after_dora, has_held_by, are_held, is_face}
use Rattle.mj_rules.proofs.Kept.{held_step}

-- What is true of a seat after some deeds.
pub record Owns (red : Bool) (ds : List Deed) (seat : ℕ) : Type 0 where
  pub within : (face : ℕ) → number_in (tiles_lost (hand ds) seat) face ≤ number_in (tiles_gained (hand ds) seat) face
  pub real : list_all (is_face red) (tiles_gained (hand ds) seat) ≡ true
  pub drawn : (tile : ℕ) → drawn_tile ds seat ≡ Some tile → number_in (tiles_lost (hand ds) seat) tile < number_in (tiles_gained (hand ds) seat) tile

-- the drawn tile

drawn_step : (seat tile : ℕ) (d : Deed) (l g : ℕ) → drawn_by seat d ≡ Some tile → l ≤ g → l + number_in (losses_by seat d) tile < g + number_in (gains_by seat d) tile
drawn_step seat tile (Draw who t replacement) l g h k =
    elim (cases_eq who seat) [
      | inl e ↦ mine e
      | inr ne ↦ absurd (not_mine ne)
    ]
  where
    mine : who ≡ seat → l + number_in (losses_by seat (Draw who t replacement)) tile < g + number_in (gains_by seat (Draw who t replacement)) tile
    mine e =
        let is : t ≡ tile = some_is t tile (ap (λ b. cond b (Some t) None) (sym (eq-eqb who seat e)) ∙ h) in
        let one : number_in (cond (eqb who seat) (t ∷ []) []) tile ≡ 1 = ap (λ b. number_in (cond b (t ∷ []) []) tile) (eq-eqb who seat e) ∙ one_of t tile is in
        omega (arith, one)
      where
        some_is : (a b : ℕ) → Some a ≡ Some b → a ≡ b
        some_is a b e = cc

        one_of : (a b : ℕ) → a ≡ b → number_in (a ∷ []) b ≡ 1
        one_of a b e = rw (eq-eqb a b e) refl

    not_mine : (who ≡ seat → ⊥) → ⊥
    not_mine ne = none_is t (ap (λ b. cond b (Some t) None) (sym (ne_eqb who seat ne)) ∙ h)
      where
        none_is : (a : ℕ) → None ≡ Some tile → ⊥
        none_is a e = cc
drawn_step seat tile (StartGame names) l g h k = cc
drawn_step seat tile (StartHand round number honba deposits dealer indicator hands) l g h k = cc
drawn_step seat tile (Discard who t drawn) l g h k = cc
drawn_step seat tile (Chi who target t a b) l g h k = cc
drawn_step seat tile (Pon who target t a b) l g h k = cc
drawn_step seat tile (OpenKan who target t a b c) l g h k = cc
drawn_step seat tile (ClosedKan who a b c d) l g h k = cc
drawn_step seat tile (AddedKan who t a b c) l g h k = cc
drawn_step seat tile (Dora t) l g h k = cc
drawn_step seat tile other l g h k = cc

-- A seat that draws does so in a hand that is under way.
drawn_in_hand : (seat tile : ℕ) (before : Ground) (d : Deed) → drawn_by seat d ≡ Some tile → is_in_place before d ≡ true → is_in_hand before.newest ≡ true
drawn_in_hand seat tile before (Draw who t true) h k = (and_parts (is_in_hand before.newest) (is_after_dora before.newest) k).0
drawn_in_hand seat tile before (Draw who t false) h k = (and_parts (is_in_hand before.newest) (not (is_after_dora before.newest)) k).0
drawn_in_hand seat tile before (StartGame names) h k = cc
drawn_in_hand seat tile before (StartHand round number honba deposits dealer indicator hands) h k = cc
drawn_in_hand seat tile before (Discard who t drawn) h k = cc
drawn_in_hand seat tile before (Chi who target t a b) h k = cc
drawn_in_hand seat tile before (Pon who target t a b) h k = cc
drawn_in_hand seat tile before (OpenKan who target t a b c) h k = cc
drawn_in_hand seat tile before (ClosedKan who a b c d) h k = cc
drawn_in_hand seat tile before (AddedKan who t a b c) h k = cc
drawn_in_hand seat tile before (Dora t) h k = cc
drawn_in_hand seat tile before other h k = cc

-- One deed further in its hand.
pub drawn_more : (h : List Deed) (d : Deed) (seat tile : ℕ) → drawn_by seat d ≡ Some tile → number_in (tiles_lost h seat) tile ≤ number_in (tiles_gained h seat) tile →
    number_in (tiles_lost (h ++ d ∷ []) seat) tile < number_in (tiles_gained (h ++ d ∷ []) seat) tile
drawn_more h d seat tile drawn within =
    further _ _ _ _ _ _ (number_more (losses_by seat) h d tile) (number_more (gains_by seat) h d tile) (drawn_step seat tile d _ _ drawn within)
  where
    further : (l' l x g' g y : ℕ) → l' ≡ l + x → g' ≡ g + y → l + x < g + y → l' < g'
    further l' l x g' g y e f h = omega arith

none_held : (seat face : ℕ) → number_in (tiles_lost [] seat) face ≤ number_in (tiles_gained [] seat) face
none_held seat face = omega arith

in_hand_of : (ds : List Deed) (seat tile : ℕ) (d : Deed) → drawn_by seat d ≡ Some tile → is_in_place (ground_of ds) d ≡ true → is_in_hand (newest ds) ≡ true
unfolding ground_of
in_hand_of ds seat tile d h k = drawn_in_hand seat tile (ground_of ds) d h k

reach_in_hand : (ds : List Deed) (who : ℕ) → is_in_place (ground_of ds) (Reach who) ≡ true → is_in_hand (newest ds) ≡ true
unfolding ground_of
reach_in_hand ds who h = h

-- What a seat holds as drawn with one deed more.
drawn_is : (ds : List Deed) (d : Deed) (seat : ℕ) → drawn_tile (ds ++ d ∷ []) seat ≡ holds_drawn seat (newest ds) d
drawn_is ds d seat =
    ap (option_and_then (holds_drawn seat (before_newest (ds ++ d ∷ [])))) (newest_more ds d)
    ∙ ap (λ (xs : List Deed). holds_drawn seat (newest xs) d) (before_more ds d)

-- After its reach that of the draw before.
held_before : (ds : List Deed) (seat who tile : ℕ) → holds_drawn seat (newest ds) (Reach who) ≡ Some tile → drawn_tile ds seat ≡ Some tile
held_before ds seat who tile h = by_newest (newest ds) (own (eqb who seat) (option_and_then (drawn_by seat) (newest ds)) h)
  where
    own : (b : Bool) (o : Option ℕ) → cond b o None ≡ Some tile → o ≡ Some tile
    own true o e = e
    own false o e = cc

    by_newest : (o : Option Deed) → option_and_then (drawn_by seat) o ≡ Some tile → option_and_then (holds_drawn seat (before_newest ds)) o ≡ Some tile
    by_newest None e = cc
    by_newest (Some (Reach other)) e = cc
    by_newest (Some other) e = e

-- A reach leaves what each seat was given and put down.
reach_keeps : (ds : List Deed) (who seat tile : ℕ) → (hand ds ≡ [] → ⊥) → number_in (tiles_lost (hand ds) seat) tile < number_in (tiles_gained (hand ds) seat) tile →
    number_in (tiles_lost (hand (ds ++ Reach who ∷ [])) seat) tile < number_in (tiles_gained (hand (ds ++ Reach who ∷ [])) seat) tile
reach_keeps ds who seat tile some h =
    subst (λ (xs : List Deed). number_in (tiles_lost xs seat) tile < number_in (tiles_gained xs seat) tile) (sym (hand_is ds (Reach who) (λ _ empty. some empty)))
    (same _ _ _ _ (number_more (losses_by seat) (hand ds) (Reach who) tile) (number_more (gains_by seat) (hand ds) (Reach who) tile) h)
  where
    same : (l' l g' g : ℕ) → l' ≡ l + 0 → g' ≡ g + 0 → l < g → l' < g'
    same l' l g' g e f h = omega arith

-- One deed further.
owns_more : (red : Bool) (ds : List Deed) (d : Deed) (seat : ℕ) → seat < 4 → all_fit red [] ds ≡ true → fits red ds d ≡ true → Owns red ds seat → Owns red (ds ++ d ∷ []) seat
owns_more red ds d seat small old fit owns =
    let parts = parts_of red ds d fit in
    let h : List Deed = before_in (hand ds) d in
    let held : are_held (tiles_gained h seat) (tiles_lost h seat) (losses_by seat d) ≡ true = of_four (has_held_by h d) seat small parts.inside.held in
    let within : (face : ℕ) → number_in (tiles_lost h seat) face ≤ number_in (tiles_gained h seat) face =
    hand_before (λ xs. (face : ℕ) → number_in (tiles_lost xs seat) face ≤ number_in (tiles_gained xs seat) face) (hand ds) d (none_held seat) owns.within in
    record {
      within = hand_with (λ xs. (face : ℕ) → number_in (tiles_lost xs seat) face ≤ number_in (tiles_gained xs seat) face) ds d (λ _ _. none_held seat)
          (λ face. held_step h d seat face held (within face));
      real = gained_real red (hand (ds ++ d ∷ [])) seat (hand_real red (ds ++ d ∷ []) (all_fit-append red [] ds d old fit));
      drawn = λ tile k. holds_now d refl parts.place within tile (sym (drawn_is ds d seat) ∙ k);
    }
  where
    drawn_now : (tile : ℕ) → drawn_by seat d ≡ Some tile → is_in_hand (newest ds) ≡ true → number_in (tiles_lost (before_in (hand ds) d) seat) tile ≤
        number_in (tiles_gained (before_in (hand ds) d) seat) tile →
        number_in (tiles_lost (hand (ds ++ d ∷ [])) seat) tile < number_in (tiles_gained (hand (ds ++ d ∷ [])) seat) tile
    drawn_now tile drew begun within =
        subst (λ (xs : List Deed). number_in (tiles_lost xs seat) tile < number_in (tiles_gained xs seat) tile)
        (sym (hand_is ds d (λ _ empty. hand_begun red ds old begun empty)))
        (drawn_more (before_in (hand ds) d) d seat tile drew within)

    by_draw : (x : Deed) → d ≡ x → is_in_place (ground_of ds) x ≡ true →
        ((face : ℕ) → number_in (tiles_lost (before_in (hand ds) d) seat) face ≤ number_in (tiles_gained (before_in (hand ds) d) seat) face) →
        (tile : ℕ) →
        drawn_by seat x ≡ Some tile → number_in (tiles_lost (hand (ds ++ d ∷ [])) seat) tile < number_in (tiles_gained (hand (ds ++ d ∷ [])) seat) tile
    by_draw x e place within tile drew = drawn_now tile (ap (drawn_by seat) e ∙ drew) (in_hand_of ds seat tile x drew place) (within tile)

    holds_now : (x : Deed) → d ≡ x → is_in_place (ground_of ds) x ≡ true →
        ((face : ℕ) → number_in (tiles_lost (before_in (hand ds) d) seat) face ≤ number_in (tiles_gained (before_in (hand ds) d) seat) face) →
        (tile : ℕ) →
        holds_drawn seat (newest ds) x ≡ Some tile → number_in (tiles_lost (hand (ds ++ d ∷ [])) seat) tile < number_in (tiles_gained (hand (ds ++ d ∷ [])) seat) tile
    holds_now (Reach who) e place within tile holds =
        let before : drawn_tile ds seat ≡ Some tile = held_before ds seat who tile holds in
        subst (λ (x : Deed). number_in (tiles_lost (hand (ds ++ x ∷ [])) seat) tile < number_in (tiles_gained (hand (ds ++ x ∷ [])) seat) tile) (sym e)
        (reach_keeps ds who seat tile (λ empty. hand_begun red ds old (reach_in_hand ds who place) empty) (owns.drawn tile before))
    holds_now other e place within tile holds = by_draw other e place within tile holds

owns_all : (red : Bool) (before ds : List Deed) (seat : ℕ) → seat < 4 → all_fit red [] before ≡ true → all_fit red before ds ≡ true → Owns red before seat → Owns red (before ++ ds) seat
owns_all red before [] seat small old h owns = subst (λ (xs : List Deed). Owns red xs seat) (sym (append-nil before)) owns
owns_all red before (d ∷ ds) seat small old h owns =
    let parts = and_parts (fits red before d) (all_fit red (before ++ d ∷ []) ds) h in
    subst (λ (xs : List Deed). Owns red xs seat) (append_assoc before (d ∷ []) ds)
    (owns_all red (before ++ d ∷ []) ds seat small (all_fit-append red [] before d old parts.0) parts.1 (owns_more red before d seat small old parts.0 owns))

owns_nothing : (red : Bool) (seat : ℕ) → Owns red [] seat
unfolding hand
owns_nothing red seat = record { within = none_held seat; real = refl; drawn = λ tile h. no_draw tile h }
  where
    no_draw : (tile : ℕ) → None ≡ Some tile → 0 < 0
    no_draw tile h = cc

pub owns : (red : Bool) (ds : List Deed) (seat : ℕ) → seat < 4 → all_fit red [] ds ≡ true → Owns red ds seat
owns red ds seat small h = owns_all red [] ds seat small refl h (owns_nothing red seat)

pub small_face : (red : Bool) (tile : ℕ) → is_face red tile ≡ true → tile < 37
small_face true tile h = ltb-true tile 37 h
small_face false tile h = omega (arith, ltb-true tile 34 h)

-- A drawn tile is one of the game.
pub drawn_small : (red : Bool) (ds : List Deed) (seat tile : ℕ) → seat < 4 → all_fit red [] ds ≡ true → drawn_tile ds seat ≡ Some tile → tile < 37
drawn_small red ds seat tile small fit drawn =
    let own = owns red ds seat small fit in
    small_face red tile (member_passes (is_face red) (tiles_gained (hand ds) seat) tile own.real (some _ _ (own.drawn tile drawn)))
  where
    some : (gone got : ℕ) → gone < got → 0 < got
    some gone got h = omega arith
