-- The melds of a seat, a deed further.
use Rattle.std.proofs.Common.{◌≡◌, ℕ, ◌+◌, ◌<◌, ◌≤◌, ◌&&◌, Bool, true, false, cond, eqb, List, [], ◌∷◌, ◌++◌, length, Option, Some, None, refl, sym, ap, ◌∙◌, arith, append-nil}
use Rattle.std.specs.Prelude.{flat_map, map, slice_get, option_to_list}
use Rattle.std.proofs.lemmas.List.{length-append}
use Rattle.mj_tiles.specs.Faces.{kind_of}
use Rattle.mj_tiles.specs.declared.meld.Meld.{Meld}
use Rattle.mj_tiles.specs.declared.meld.Form.TheVariants as forms
use Rattle.mj_deeds.specs.declared.deed.Deed.{Deed}
use Rattle.mj_deeds.specs.declared.deed.Deed.TheVariants.{AddedKan}
use Rattle.mj_deeds.specs.Facts.{makes_by, adds_by, is_pon, meld_of_four, with_added, seat_melds}
use Rattle.mj_facts.proofs.CourseKept.{given_more}
use Rattle.mj_facts.specs.declared.few_tiles.FewTiles.{FewTiles}
use Rattle.mj_facts.specs.Few.{Lists}

-- A meld to which a tile was added stays as it is.
full_stays : (w x y z : ℕ) (tiles : List ℕ) → with_added (meld_of_four forms.AddedKan w x y z) tiles ≡ meld_of_four forms.AddedKan w x y z
unfolding with_added meld_of_four
full_stays w x y z [] = refl
full_stays w x y z (t ∷ tiles) = full_stays w x y z tiles

-- Tiles are added in turn.
pub added_in_turn : (meld : Meld) (xs ys : List ℕ) → with_added meld (xs ++ ys) ≡ with_added (with_added meld xs) ys
unfolding with_added
added_in_turn meld [] ys = refl
added_in_turn meld (x ∷ xs) ys = by_test (is_pon meld.form && eqb (kind_of x) (kind_of meld.a)) (added_in_turn meld xs ys)
  where
    by_test : (b : Bool) → with_added meld (xs ++ ys) ≡ with_added (with_added meld xs) ys →
        cond b (meld_of_four forms.AddedKan x meld.a meld.b meld.c) (with_added meld (xs ++ ys)) ≡ with_added (cond b (meld_of_four forms.AddedKan x meld.a meld.b meld.c) (with_added meld xs)) ys
    by_test true later = sym (full_stays x meld.a meld.b meld.c ys)
    by_test false later = later

-- Up to five tiles, one after another.
pub all_added : (few : FewTiles) (tiles : List ℕ) (m a b c d e : Meld) → length tiles ≤ 5 → Lists few tiles →
    a ≡ with_added m (option_to_list few.first) → b ≡ with_added a (option_to_list few.second) →
    c ≡ with_added b (option_to_list few.third) → d ≡ with_added c (option_to_list few.fourth) → e ≡ with_added d (option_to_list few.fifth) → e ≡ with_added m tiles
all_added few tiles m a b c d e small k pa pb pc pd pe =
    chain (option_to_list few.first) (option_to_list few.second) (option_to_list few.third) (option_to_list few.fourth) (option_to_list few.fifth) pa pb pc pd pe
    ∙ ap (with_added m) ((λ i. option_to_list (k.at 0 i) ++ (option_to_list (k.at 1 i) ++ (option_to_list (k.at 2 i) ++ (option_to_list (k.at 3 i) ++ option_to_list (k.at 4 i))))) ∙ each tiles small)
  where
    chain : (p q r s t : List ℕ) → a ≡ with_added m p → b ≡ with_added a q → c ≡ with_added b r → d ≡ with_added c s → e ≡ with_added d t → e ≡ with_added m (p ++ (q ++ (r ++ (s ++ t))))
    chain p q r s t pa pb pc pd pe =
        pe ∙ ap (λ (x : Meld). with_added x t) pd ∙ sym (added_in_turn c s t)
        ∙ ap (λ (x : Meld). with_added x (s ++ t)) pc ∙ sym (added_in_turn b r (s ++ t))
        ∙ ap (λ (x : Meld). with_added x (r ++ (s ++ t))) pb ∙ sym (added_in_turn a q (r ++ (s ++ t)))
        ∙ ap (λ (x : Meld). with_added x (q ++ (r ++ (s ++ t)))) pa ∙ sym (added_in_turn m p (q ++ (r ++ (s ++ t))))

    each : (xs : List ℕ) → length xs ≤ 5 →
        option_to_list (slice_get xs 0) ++ (option_to_list (slice_get xs 1) ++ (option_to_list (slice_get xs 2) ++ (option_to_list (slice_get xs 3) ++ option_to_list (slice_get xs 4)))) ≡ xs
    each [] h = refl
    each (x ∷ []) h = refl
    each (x ∷ y ∷ []) h = refl
    each (x ∷ y ∷ z ∷ []) h = refl
    each (x ∷ y ∷ z ∷ w ∷ []) h = refl
    each (x ∷ y ∷ z ∷ w ∷ v ∷ []) h = refl
    each (x ∷ y ∷ z ∷ w ∷ v ∷ u ∷ xs) h = absurd (omega (arith, h))

-- By a deed a seat makes a meld or adds a tile, and not both.
not_both : (d : Deed) (seat : ℕ) (meld : Meld) → meld ∷ [] ≡ makes_by seat d → adds_by seat d ≡ []
not_both (AddedKan who tile a b c) seat meld e = cc
not_both other seat meld e = refl

melds_are : (ds : List Deed) (d : Deed) (seat : ℕ) (made : Option Meld) (tile : Option ℕ) → option_to_list made ≡ makes_by seat d → option_to_list tile ≡ adds_by seat d →
    seat_melds (ds ++ d ∷ []) seat
    ≡ map (λ meld. with_added meld (flat_map (adds_by seat) ds ++ option_to_list tile)) (flat_map (makes_by seat) ds ++ option_to_list made)
melds_are ds d seat made tile e f = both (given_more (adds_by seat) ds d tile f) (given_more (makes_by seat) ds d made e)
  where
    both : {xs ys : List ℕ} {ms ns : List Meld} → xs ≡ ys → ms ≡ ns → map (λ meld. with_added meld xs) ms ≡ map (λ meld. with_added meld ys) ns
    both a b = λ i. map (λ meld. with_added meld (a i)) (b i)

map_push : (f : Meld → Meld) (ms : List Meld) (m : Meld) → map f (ms ++ m ∷ []) ≡ map f ms ++ f m ∷ []
map_push f [] m = refl
map_push f (x ∷ ms) m = ap (λ (ns : List Meld). f x ∷ ns) (map_push f ms m)

map_twice : (f g h : Meld → Meld) → ((m : Meld) → h m ≡ g (f m)) → (ms : List Meld) → map h ms ≡ map g (map f ms)
map_twice f g h same [] = refl
map_twice f g h same (m ∷ ms) = λ i. same m i ∷ map_twice f g h same ms i

-- With a meld that is made.
pub melds_made : (ds : List Deed) (d : Deed) (seat : ℕ) (made becomes : Meld) (melds result : List Meld) → made ∷ [] ≡ makes_by seat d → becomes ≡ with_added made (flat_map (adds_by seat) ds) →
    melds ≡ seat_melds ds seat → length (seat_melds (ds ++ d ∷ []) seat) ≤ 4 → (length melds < 4 → result ≡ melds ++ becomes ∷ []) → result ≡ seat_melds (ds ++ d ∷ []) seat
melds_made ds d seat made becomes melds result e is was few told = told (room melds becomes (same ∙ sym all)) ∙ same ∙ sym all
  where
    added : List ℕ
    added = flat_map (adds_by seat) ds

    all : seat_melds (ds ++ d ∷ []) seat ≡ map (λ meld. with_added meld added) (flat_map (makes_by seat) ds) ++ with_added made added ∷ []
    all =
        melds_are ds d seat (Some made) None e (sym (not_both d seat made e))
        ∙ ap (λ (xs : List ℕ). map (λ meld. with_added meld xs) (flat_map (makes_by seat) ds ++ made ∷ [])) (append-nil added)
        ∙ map_push (λ meld. with_added meld added) (flat_map (makes_by seat) ds) made

    same : melds ++ becomes ∷ [] ≡ map (λ meld. with_added meld added) (flat_map (makes_by seat) ds) ++ with_added made added ∷ []
    same = λ i. was i ++ is i ∷ []

    plus : (n m : ℕ) → m ≡ n + 1 → m ≤ 4 → n < 4
    plus n m p q = omega (arith, p, q)

    room : (ms : List Meld) (m : Meld) → ms ++ m ∷ [] ≡ seat_melds (ds ++ d ∷ []) seat → length ms < 4
    room ms m p = plus (length ms) _ (ap length (sym p) ∙ length-append ms (m ∷ [])) few

-- With a tile that is added to them, and without either.
pub melds_added : (ds : List Deed) (d : Deed) (seat tile : ℕ) (melds result : List Meld) → [] ≡ makes_by seat d → tile ∷ [] ≡ adds_by seat d → melds ≡ seat_melds ds seat →
    result ≡ map (λ meld. with_added meld (tile ∷ [])) melds → result ≡ seat_melds (ds ++ d ∷ []) seat
melds_added ds d seat tile melds result e f was told =
    told ∙ ap (map (λ meld. with_added meld (tile ∷ []))) was
    ∙ sym (map_twice (λ meld. with_added meld (flat_map (adds_by seat) ds)) (λ meld. with_added meld (tile ∷ [])) (λ meld. with_added meld (flat_map (adds_by seat) ds ++ tile ∷ []))
    (λ meld. added_in_turn meld (flat_map (adds_by seat) ds) (tile ∷ [])) (flat_map (makes_by seat) ds))
    ∙ ap (map (λ meld. with_added meld (flat_map (adds_by seat) ds ++ tile ∷ []))) (sym (append-nil (flat_map (makes_by seat) ds)))
    ∙ sym (melds_are ds d seat None (Some tile) e f)

pub melds_stay : (ds : List Deed) (d : Deed) (seat : ℕ) (melds : List Meld) → [] ≡ makes_by seat d → [] ≡ adds_by seat d → melds ≡ seat_melds ds seat → melds ≡ seat_melds (ds ++ d ∷ []) seat
melds_stay ds d seat melds e f was =
    was
    ∙ ap (λ (xs : List ℕ). map (λ meld. with_added meld xs) (flat_map (makes_by seat) ds)) (sym (append-nil (flat_map (adds_by seat) ds)))
    ∙ ap (map (λ meld. with_added meld (flat_map (adds_by seat) ds ++ []))) (sym (append-nil (flat_map (makes_by seat) ds)))
    ∙ sym (melds_are ds d seat None None e f)
