-- What a discard leaves of what is known of another seat.
use Rattle.std.proofs.Common.{◌≡◌, ℕ, Bool, true, false, cond, eqb, ◌||◌, List, [], ◌∷◌, ◌++◌, refl, sym, ap, ◌∙◌, append-nil}
use Rattle.std.specs.Prelude.{Some, flat_map, map}
use Rattle.std.specs.List.{list_any}
use Rattle.std.proofs.lemmas.Bool.{ne_eqb}
use Rattle.std.proofs.lemmas.List.Concat.{flat_map-append}
use Rattle.std.proofs.lemmas.List.Folds.{list_any-append}
use Rattle.mj_tiles.specs.Faces.{less}
use Rattle.mj_tiles.specs.declared.meld.Meld.{Meld}
use Rattle.mj_deeds.specs.declared.deed.Deed.{Deed}
use Rattle.mj_deeds.specs.declared.deed.Deed.TheVariants.{Draw, Discard, Chi, Pon, Reach}
use Rattle.mj_deeds.specs.Facts.{gains_by, losses_by, tiles_gained, tiles_lost, concealed_tiles, discards_by, is_discard_by, makes_by, adds_by, with_added, seat_melds}
use Rattle.mj_deeds.specs.Fits.{is_in_hand}
use Rattle.mj_deeds.specs.Riichi.{is_reach_by, behind_first}
use Rattle.mj_deeds.specs.Passed.{kinds_among, own_kinds, offers_to, offered_tiles, passed_before, passed_kinds, passed_in_riichi}
use Rattle.mj_deeds.proofs.Newest.{newest_more, before_more}
use Rattle.mj_safety.specs.Safe.{wants_discard}

-- What a deed adds to a fact of deeds.
pub more_of : {A : Type 0} (f : Deed → List A) (ds : List Deed) (d : Deed) → flat_map f (ds ++ d ∷ []) ≡ flat_map f ds ++ f d
more_of {A = A} f ds d = flat_map-append f ds (d ∷ []) ∙ ap (λ (xs : List A). flat_map f ds ++ xs) (append-nil (f d))

-- Nothing is added.
pub none_of : {A : Type 0} (f : Deed → List A) (ds : List Deed) (d : Deed) → f d ≡ [] → flat_map f (ds ++ d ∷ []) ≡ flat_map f ds
none_of {A = A} f ds d e = more_of f ds d ∙ ap (λ (xs : List A). flat_map f ds ++ xs) e ∙ append-nil (flat_map f ds)

-- A discard takes nothing from another seat.
not_own : (who tile seat : ℕ) → (who ≡ seat → ⊥) → cond (eqb who seat) (tile ∷ []) [] ≡ []
not_own who tile seat ne = ap (λ b. cond b (tile ∷ []) []) (ne_eqb who seat ne)

pub concealed_stay : (ds : List Deed) (who tile seat : ℕ) (drawn : Bool) → (who ≡ seat → ⊥) → concealed_tiles (ds ++ Discard who tile drawn ∷ []) seat ≡ concealed_tiles ds seat
concealed_stay ds who tile seat drawn ne =
    let got : tiles_gained (ds ++ Discard who tile drawn ∷ []) seat ≡ tiles_gained ds seat = none_of (gains_by seat) ds (Discard who tile drawn) refl in
    let gone : tiles_lost (ds ++ Discard who tile drawn ∷ []) seat ≡ tiles_lost ds seat = none_of (losses_by seat) ds (Discard who tile drawn) (not_own who tile seat ne) in
    λ i. less (got i) (gone i)

pub melds_stay : (ds : List Deed) (who tile seat : ℕ) (drawn : Bool) → seat_melds (ds ++ Discard who tile drawn ∷ []) seat ≡ seat_melds ds seat
melds_stay ds who tile seat drawn =
    let made : flat_map (makes_by seat) (ds ++ Discard who tile drawn ∷ []) ≡ flat_map (makes_by seat) ds = none_of (makes_by seat) ds (Discard who tile drawn) refl in
    let added : flat_map (adds_by seat) (ds ++ Discard who tile drawn ∷ []) ≡ flat_map (adds_by seat) ds = none_of (adds_by seat) ds (Discard who tile drawn) refl in
    λ i. map (λ (meld : Meld). with_added meld (added i)) (made i)

pub own_stay : (ds : List Deed) (who tile seat : ℕ) (drawn : Bool) → (who ≡ seat → ⊥) → own_kinds (ds ++ Discard who tile drawn ∷ []) seat ≡ own_kinds ds seat
own_stay ds who tile seat drawn ne = ap kinds_among (none_of (discards_by seat) ds (Discard who tile drawn) (not_own who tile seat ne))

-- what was let pass

-- Whoever has to discard has offered nothing by its newest deed.
record Offers (d : Deed) : Type 0 where
  no_discard : (seat : ℕ) → is_discard_by seat d ≡ false
  nothing : (seat : ℕ) → offers_to seat d ≡ []

quiet : (who : ℕ) (d : Deed) → wants_discard who d ≡ true → Offers d
quiet who (Draw seat tile replacement) h = record { no_discard = λ s. refl; nothing = λ s. refl }
quiet who (Reach seat) h = record { no_discard = λ s. refl; nothing = λ s. refl }
quiet who (Chi seat target tile a b) h = record { no_discard = λ s. refl; nothing = λ s. refl }
quiet who (Pon seat target tile a b) h = record { no_discard = λ s. refl; nothing = λ s. refl }
quiet who other h = cc

pub in_hand_of : (who : ℕ) (d : Deed) → wants_discard who d ≡ true → is_in_hand (Some d) ≡ true
in_hand_of who (Draw seat tile replacement) h = refl
in_hand_of who (Reach seat) h = refl
in_hand_of who (Chi seat target tile a b) h = refl
in_hand_of who (Pon seat target tile a b) h = refl
in_hand_of who other h = cc

offered_same : (ds : List Deed) (d : Deed) (seat : ℕ) → Offers d → offered_tiles (ds ++ d ∷ []) seat ≡ offered_tiles ds seat
offered_same [] d seat q = ap (λ (xs : List ℕ). xs ++ []) (q.nothing seat)
offered_same (x ∷ ds) d seat q =
    let later : list_any (is_discard_by seat) (ds ++ d ∷ []) ≡ list_any (is_discard_by seat) ds =
    list_any-append (is_discard_by seat) ds (d ∷ []) ∙ ap (λ b. list_any (is_discard_by seat) ds || (b || false)) (q.no_discard seat) ∙ or_none (list_any (is_discard_by seat) ds) in
    let rest : offered_tiles (ds ++ d ∷ []) seat ≡ offered_tiles ds seat = offered_same ds d seat q in
    λ i. cond (later i) [] (offers_to seat x) ++ rest i
  where
    or_none : (b : Bool) → (b || false) ≡ b
    or_none true = refl
    or_none false = refl

behind_same : (ds : List Deed) (d : Deed) (seat : ℕ) → Offers d → flat_map (offers_to seat) (behind_first (is_reach_by seat) (ds ++ d ∷ [])) ≡
    flat_map (offers_to seat) (behind_first (is_reach_by seat) ds)
behind_same [] d seat q = by_test (is_reach_by seat d)
  where
    by_test : (b : Bool) → flat_map (offers_to seat) (cond b [] []) ≡ []
    by_test true = refl
    by_test false = refl
behind_same (x ∷ ds) d seat q = by_test (is_reach_by seat x) (none_of (offers_to seat) ds d (q.nothing seat)) (behind_same ds d seat q)
  where
    by_test : (b : Bool) → flat_map (offers_to seat) (ds ++ d ∷ []) ≡ flat_map (offers_to seat) ds →
        flat_map (offers_to seat) (behind_first (is_reach_by seat) (ds ++ d ∷ [])) ≡ flat_map (offers_to seat) (behind_first (is_reach_by seat) ds) →
        flat_map (offers_to seat) (cond b (ds ++ d ∷ []) (behind_first (is_reach_by seat) (ds ++ d ∷ []))) ≡ flat_map (offers_to seat) (cond b ds (behind_first (is_reach_by seat) ds))
    by_test true all later = all
    by_test false all later = later

-- With one deed more, what another seat let pass is what was offered to it before.
passed_with : (ds : List Deed) (d : Deed) (seat : ℕ) → is_discard_by seat d ≡ false → passed_kinds (ds ++ d ∷ []) seat ≡ kinds_among (offered_tiles ds seat)
passed_with ds d seat h =
    ap kinds_among
    ((λ i. passed_before (before_more ds d i) seat (newest_more ds d i))
    ∙ ap (λ b. cond b [] (offered_tiles ds seat)) h)

pub passed_stay : (ds : List Deed) (last : Deed) (who tile seat : ℕ) (drawn : Bool) → wants_discard who last ≡ true → (who ≡ seat → ⊥) →
    passed_kinds ((ds ++ last ∷ []) ++ Discard who tile drawn ∷ []) seat ≡ passed_kinds (ds ++ last ∷ []) seat
passed_stay ds last who tile seat drawn h ne =
    let q = quiet who last h in
    passed_with (ds ++ last ∷ []) (Discard who tile drawn) seat (ne_eqb who seat ne) ∙ ap kinds_among (offered_same ds last seat q) ∙ sym (passed_with ds last seat (q.no_discard seat))

since_with : (ds : List Deed) (d : Deed) (seat : ℕ) → passed_in_riichi (ds ++ d ∷ []) seat ≡ kinds_among (flat_map (offers_to seat) (behind_first (is_reach_by seat) ds))
since_with ds d seat = ap (λ (xs : List Deed). kinds_among (flat_map (offers_to seat) (behind_first (is_reach_by seat) xs))) (before_more ds d)

pub since_stay : (ds : List Deed) (last : Deed) (who tile seat : ℕ) (drawn : Bool) → wants_discard who last ≡ true →
    passed_in_riichi ((ds ++ last ∷ []) ++ Discard who tile drawn ∷ []) seat ≡ passed_in_riichi (ds ++ last ∷ []) seat
since_stay ds last who tile seat drawn h =
    since_with (ds ++ last ∷ []) (Discard who tile drawn) seat ∙ ap kinds_among (behind_same ds last seat (quiet who last h)) ∙ sym (since_with ds last seat)
