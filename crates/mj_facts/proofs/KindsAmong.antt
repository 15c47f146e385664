-- The set of the kinds that stand among tiles, one tile after another.
use Rattle.std.proofs.Common.{◌≡◌, ℕ, ◌+◌, ◌<◌, ◌||◌, Bool, true, false, cond, eqb, ltb, List, [], ◌∷◌, ◌++◌, refl, sym, ap, ◌∙◌, arith, append-nil, append_assoc}
use Rattle.std.specs.Prelude.{Option, Some, option_to_list}
use Rattle.std.specs.List.{list_any}
use Rattle.std.proofs.lemmas.Bool.Decides.{nat_tests}
use Rattle.std.proofs.lemmas.List.Recursion.{or_push}
use Rattle.mj_tiles.specs.Faces.{kind_of}
use Rattle.mj_tiles.specs.Counts.{all_kinds, number_of}
use Rattle.mj_tiles.specs.Kinds.{no_kinds, with_kind, kinds_that}
use Rattle.mj_tiles.proofs.CountSteps.{number_of-push}
use Rattle.mj_tiles.proofs.KindSets.{with_kind-within, has_kind-with, has_kind-kinds_that, kinds_that-within, kinds_that-is}
use Rattle.mj_deeds.specs.declared.deed.Deed.{Deed}
use Rattle.mj_deeds.specs.declared.deed.Deed.TheVariants.{Discard}
use Rattle.mj_deeds.specs.Facts.{is_discard_by}
use Rattle.mj_deeds.specs.Passed.{kinds_among, offers_to, offered_tiles}

-- No tiles have no kinds.
pub none_among : no_kinds ≡ kinds_among []
unfolding kinds_among kinds_that all_kinds no_kinds
none_among = refl

-- One tile more.
pub more_among : (tiles : List ℕ) (tile : ℕ) → kind_of tile < 34 → with_kind (kinds_among tiles) (kind_of tile) ≡ kinds_among (tiles ++ tile ∷ [])
unfolding kinds_among
more_among tiles tile small =
    kinds_that-is (λ kind. ltb 0 (number_of (tiles ++ tile ∷ []) kind)) (with_kind (kinds_that (λ kind. ltb 0 (number_of tiles kind))) (kind_of tile))
    (with_kind-within _ (kind_of tile) (kinds_that-within (λ kind. ltb 0 (number_of tiles kind))) small)
    (λ kind within.
    has_kind-with (kinds_that (λ kind. ltb 0 (number_of tiles kind))) (kind_of tile) kind
    ∙ ap (λ b. eqb (kind_of tile) kind || b) (has_kind-kinds_that (λ kind. ltb 0 (number_of tiles kind)) kind within)
    ∙ either (eqb (kind_of tile) kind) (number_of tiles kind) (number_of (tiles ++ tile ∷ []) kind) (number_of-push tiles tile kind))
  where
    either : (b : Bool) (n m : ℕ) → m ≡ n + cond b 1 0 → (b || ltb 0 n) ≡ ltb 0 m
    either true n m e = grind (arith, nat_tests, e)
    either false n m e = grind (arith, nat_tests, e)

-- one deed further

no_own : (seat : ℕ) (d : Deed) → is_discard_by seat d ≡ true → offers_to seat d ≡ []
no_own seat (Discard who tile drawn) h = rw h refl
no_own seat other h = cc

-- What was offered to a seat since its last discard, with one deed more.
pub offered_more : (xs : List Deed) (d : Deed) (seat : ℕ) → offered_tiles (xs ++ d ∷ []) seat ≡ cond (is_discard_by seat d) [] (offered_tiles xs seat ++ offers_to seat d)
offered_more [] d seat = first (is_discard_by seat d) refl
  where
    first : (b : Bool) → is_discard_by seat d ≡ b → offers_to seat d ++ [] ≡ cond b [] (offers_to seat d)
    first true h = append-nil (offers_to seat d) ∙ no_own seat d h
    first false h = append-nil (offers_to seat d)
offered_more (x ∷ xs) d seat =
    ap (λ b. cond b [] (offers_to seat x) ++ offered_tiles (xs ++ d ∷ []) seat) (or_push (list_any (is_discard_by seat)) (is_discard_by seat) refl (λ x xs. refl) xs d)
    ∙ ap (λ (ys : List ℕ). cond (list_any (is_discard_by seat) xs || is_discard_by seat d) [] (offers_to seat x) ++ ys) (offered_more xs d seat)
    ∙ step (list_any (is_discard_by seat) xs) (is_discard_by seat d) (offers_to seat x) (offered_tiles xs seat) (offers_to seat d)
  where
    step : (a b : Bool) (xs ys zs : List ℕ) → cond (a || b) [] xs ++ cond b [] (ys ++ zs) ≡ cond b [] ((cond a [] xs ++ ys) ++ zs)
    step true true xs ys zs = refl
    step false true xs ys zs = refl
    step true false xs ys zs = refl
    step false false xs ys zs = sym (append_assoc xs ys zs)

pub tile_more : (kinds : ℕ) (tiles : List ℕ) (given : Option ℕ) (tile kind result : ℕ) → given ≡ Some tile → kind ≡ kind_of tile → kind < 34 →
    result ≡ with_kind kinds kind → kinds ≡ kinds_among tiles → result ≡ kinds_among (tiles ++ option_to_list given)
tile_more kinds tiles given tile kind result h is small what was =
    let little : kind_of tile < 34 = omega (arith, is, small) in
    what ∙ ap (λ k. with_kind k kind) was ∙ ap (with_kind (kinds_among tiles)) is ∙ more_among tiles tile little
    ∙ ap (λ (o : Option ℕ). kinds_among (tiles ++ option_to_list o)) (sym h)
