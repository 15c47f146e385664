-- The riichi of a seat, one deed further.
use Rattle.std.proofs.Common.{◌≡◌, ℕ, ◌-◌, ◌||◌, ◌&&◌, not, Bool, true, false, List, [], ◌∷◌, ◌++◌, length, take, cond, refl, sym, ap, ◌∙◌, append-nil}
use Rattle.std.specs.Prelude.{Some, flat_map}
use Rattle.std.specs.List.{list_any}
use Rattle.std.proofs.lemmas.List.Concat.{flat_map-append}
use Rattle.std.proofs.lemmas.List.Recursion.{or_push}
use Rattle.mj_deeds.specs.declared.deed.Deed.{Deed}
use Rattle.mj_deeds.specs.declared.deed.Deed.TheVariants.{AddedKan}
use Rattle.mj_deeds.specs.Facts.{newest, is_discard_by}
use Rattle.mj_deeds.specs.Firsts.{is_first, ends_first}
use Rattle.mj_deeds.specs.Riichi.{is_reach_by, is_accepted_by, has_reached, is_in_riichi, before_first, behind_first, is_double, behind_reach, without_robbed, is_ippatsu}
use Rattle.mj_deeds.specs.Passed.{kinds_among, offers_to, passed_in_riichi}
use Rattle.mj_deeds.proofs.Newest.{newest_more, before_more}

any_more : (p : Deed → Bool) (xs : List Deed) (d : Deed) → list_any p (xs ++ d ∷ []) ≡ (list_any p xs || p d)
any_more p xs d = or_push (list_any p) p refl (λ x xs. refl) xs d

-- A seat has reached, and is in riichi, with one deed more.
pub reached_more : (ds : List Deed) (d : Deed) (seat : ℕ) → has_reached (ds ++ d ∷ []) seat ≡ (has_reached ds seat || is_reach_by seat d)
reached_more ds d seat = any_more (is_reach_by seat) ds d

pub accepted_more : (ds : List Deed) (d : Deed) (seat : ℕ) → is_in_riichi (ds ++ d ∷ []) seat ≡ (is_in_riichi ds seat || is_accepted_by seat d)
accepted_more ds d seat = any_more (is_accepted_by seat) ds d

-- What stands before the first that passes, and after it, one further.
pub before_first-more : {A : Type 0} (p : A → Bool) (xs : List A) (y : A) → before_first p (xs ++ y ∷ []) ≡ cond (list_any p xs) (before_first p xs) (xs ++ cond (p y) [] (y ∷ []))
before_first-more p [] y = refl
before_first-more {A = A} p (x ∷ xs) y = by_test (p x) (before_first-more p xs y)
  where
    here : (b : Bool) (new : List A) → new ≡ cond b (before_first p xs) (xs ++ cond (p y) [] (y ∷ [])) → x ∷ new ≡ cond b (x ∷ before_first p xs) (x ∷ (xs ++ cond (p y) [] (y ∷ [])))
    here true new e = ap (λ (zs : List A). x ∷ zs) e
    here false new e = ap (λ (zs : List A). x ∷ zs) e

    by_test : (b : Bool) → before_first p (xs ++ y ∷ []) ≡ cond (list_any p xs) (before_first p xs) (xs ++ cond (p y) [] (y ∷ [])) →
        cond b [] (x ∷ before_first p (xs ++ y ∷ [])) ≡ cond (b || list_any p xs) (cond b [] (x ∷ before_first p xs)) (x ∷ (xs ++ cond (p y) [] (y ∷ [])))
    by_test true e = refl
    by_test false e = here (list_any p xs) (before_first p (xs ++ y ∷ [])) e

pub behind_first-more : {A : Type 0} (p : A → Bool) (xs : List A) (y : A) → behind_first p (xs ++ y ∷ []) ≡ cond (list_any p xs) (behind_first p xs ++ y ∷ []) []
behind_first-more {A = A} p [] y = alone (p y)
  where
    alone : (b : Bool) → ◌≡◌ {A = List A} (cond b [] []) []
    alone true = refl
    alone false = refl
behind_first-more {A = A} p (x ∷ xs) y = by_test (p x) (behind_first-more p xs y)
  where
    by_test : (b : Bool) → behind_first p (xs ++ y ∷ []) ≡ cond (list_any p xs) (behind_first p xs ++ y ∷ []) [] →
        cond b (xs ++ y ∷ []) (behind_first p (xs ++ y ∷ [])) ≡ cond (b || list_any p xs) (cond b xs (behind_first p xs) ++ y ∷ []) []
    by_test true e = refl
    by_test false e = e

-- The riichi is a double one, with one deed more: once a seat has reached, that stays as it is.
pub double_more : (ds : List Deed) (d : Deed) (seat : ℕ) → is_double (ds ++ d ∷ []) seat ≡ cond (has_reached ds seat) (is_double ds seat) (is_reach_by seat d && is_first ds seat)
double_more ds d seat =
    ap (λ b. b && is_first (before_first (is_reach_by seat) (ds ++ d ∷ [])) seat) (reached_more ds d seat)
    ∙ ap (λ (xs : List Deed). (has_reached ds seat || is_reach_by seat d) && is_first xs seat) (before_first-more (is_reach_by seat) ds d)
    ∙ by_tests (has_reached ds seat) (is_reach_by seat d) (before_first (is_reach_by seat) ds)
  where
    by_tests : (a b : Bool) (xs : List Deed) → ((a || b) && is_first (cond a xs (ds ++ cond b [] (d ∷ []))) seat) ≡ cond a (a && is_first xs seat) (b && is_first ds seat)
    by_tests true b xs = refl
    by_tests false false xs = refl
    by_tests false true xs = ap (λ (ys : List Deed). is_first ys seat) (append-nil ds)

-- What stands after the discard of a seat's reach, with one deed more.
pub behind_reach-more : (ds : List Deed) (d : Deed) (seat : ℕ) → behind_reach (ds ++ d ∷ []) seat ≡ cond
    (list_any (is_discard_by seat) (behind_first (is_reach_by seat) ds)) (behind_reach ds seat ++ d ∷ []) []
behind_reach-more ds d seat =
    ap (behind_first (is_discard_by seat)) (behind_first-more (is_reach_by seat) ds d)
    ∙ by_test (list_any (is_reach_by seat) ds) refl
  where
    none : (xs : List Deed) → list_any (is_reach_by seat) xs ≡ false → behind_first (is_reach_by seat) xs ≡ []
    none [] h = refl
    none (x ∷ xs) h = either (is_reach_by seat x) h (none xs)
      where
        either : (b : Bool) → (b || list_any (is_reach_by seat) xs) ≡ false → (list_any (is_reach_by seat) xs ≡ false →
            behind_first (is_reach_by seat) xs ≡ []) → cond b xs (behind_first (is_reach_by seat) xs) ≡ []
        either true h k = cc
        either false h k = k h

    by_test : (b : Bool) → list_any (is_reach_by seat) ds ≡ b → behind_first (is_discard_by seat) (cond b (behind_first (is_reach_by seat) ds ++ d ∷ []) [])
        ≡ cond (list_any (is_discard_by seat) (behind_first (is_reach_by seat) ds)) (behind_reach ds seat ++ d ∷ []) []
    by_test true h = behind_first-more (is_discard_by seat) (behind_first (is_reach_by seat) ds) d
    by_test false h = sym (ap (λ (xs : List Deed). cond (list_any (is_discard_by seat) xs) (behind_first (is_discard_by seat) xs ++ d ∷ []) []) (none ds h))

-- The ippatsu of a seat is broken by these deeds.
abbrev pub is_broken : List Deed → ℕ → Bool
is_broken ds seat = list_any (ends_first seat) (behind_reach ds seat)

-- It is broken, with one deed more: by a deed after the discard of the reach.
pub broken_more : (ds : List Deed) (d : Deed) (seat : ℕ) →
    is_broken (ds ++ d ∷ []) seat ≡ (list_any (is_discard_by seat) (behind_first (is_reach_by seat) ds) && (is_broken ds seat || ends_first seat d))
broken_more ds d seat =
    ap (list_any (ends_first seat)) (behind_reach-more ds d seat)
    ∙ by_test (list_any (is_discard_by seat) (behind_first (is_reach_by seat) ds)) (behind_reach ds seat)
  where
    by_test : (b : Bool) (xs : List Deed) → list_any (ends_first seat) (cond b (xs ++ d ∷ []) []) ≡ (b && (list_any (ends_first seat) xs || ends_first seat d))
    by_test true xs = any_more (ends_first seat) xs d
    by_test false xs = refl

abbrev pub is_added : Deed → Bool
is_added (AddedKan who tile a b c) = true
is_added other = false

-- The ippatsu with one deed more: an added kan doesn't break it yet.
pub ippatsu_more : (ds : List Deed) (d : Deed) (seat : ℕ) →
    is_ippatsu (ds ++ d ∷ []) seat ≡ ((is_in_riichi ds seat || is_accepted_by seat d) && not (cond (is_added d) (is_broken ds seat) (is_broken (ds ++ d ∷ []) seat)))
ippatsu_more ds d seat =
    ap (λ b. b && not (is_broken (without_robbed (ds ++ d ∷ []) (newest (ds ++ d ∷ []))) seat)) (accepted_more ds d seat)
    ∙ ap (λ o. (is_in_riichi ds seat || is_accepted_by seat d) && not (is_broken (without_robbed (ds ++ d ∷ []) o) seat)) (newest_more ds d)
    ∙ ap (λ b. (is_in_riichi ds seat || is_accepted_by seat d) && not b) (by_deed (ds ++ d ∷ []) d (before_more ds d))
  where
    by_deed : (all : List Deed) (e : Deed) → take (length all - 1) all ≡ ds → is_broken (without_robbed all (Some e)) seat ≡ cond (is_added e) (is_broken ds seat) (is_broken all seat)
    by_deed all (AddedKan who tile a b c) h = ap (λ (xs : List Deed). is_broken xs seat) h
    by_deed all other h = refl

-- The tiles that were offered to a seat since its reach, with one deed more.
pub offered_since : (ds : List Deed) (d : Deed) (seat : ℕ) →
    flat_map (offers_to seat) (behind_first (is_reach_by seat) (ds ++ d ∷ [])) ≡ cond (has_reached ds seat) (flat_map (offers_to seat) (behind_first (is_reach_by seat) ds) ++ offers_to seat d) []
offered_since ds d seat =
    ap (flat_map (offers_to seat)) (behind_first-more (is_reach_by seat) ds d)
    ∙ by_test (has_reached ds seat) (behind_first (is_reach_by seat) ds)
  where
    by_test : (b : Bool) (xs : List Deed) → flat_map (offers_to seat) (cond b (xs ++ d ∷ []) []) ≡ cond b (flat_map (offers_to seat) xs ++ offers_to seat d) []
    by_test true xs = flat_map-append (offers_to seat) xs (d ∷ []) ∙ ap (λ (ys : List ℕ). flat_map (offers_to seat) xs ++ ys) (append-nil (offers_to seat d))
    by_test false xs = refl

-- The kinds that a seat let pass since its reach, with one deed more: those that were offered before it.
pub passed_in_riichi-more : (ds : List Deed) (d : Deed) (seat : ℕ) →
    passed_in_riichi (ds ++ d ∷ []) seat ≡ kinds_among (flat_map (offers_to seat) (behind_first (is_reach_by seat) ds))
passed_in_riichi-more ds d seat = ap (λ (xs : List Deed). kinds_among (flat_map (offers_to seat) (behind_first (is_reach_by seat) xs))) (before_more ds d)
