-- The tiles of deeds that fit are of the game: those that a seat was given, and those of its melds.
use Rattle.std.proofs.Common.{◌≡◌, ℕ, zero, suc, ◌+◌, ◌-◌, ◌<◌, ◌==◌, inl, inr, ◌&&◌, ◌||◌, Bool, true, false, cond, eqb, List, [], ◌∷◌, ◌++◌, map, get_or, replicate, refl, sym, ap, ◌∙◌, subst, arith}
use Rattle.std.specs.Prelude.{flat_map}
use Rattle.std.specs.List.{list_all, list_any}
use Rattle.std.proofs.lemmas.Bool.{cases_eq, ne_eqb, eq-eqb, eqb-true, and_parts, and_from}
use Rattle.std.proofs.lemmas.List.Folds.{list_all-append}
use Rattle.std.proofs.lemmas.List.Sums.{sum_by-cons}
use Rattle.mj_tiles.specs.Faces.{kind_of, number_in, less, in_tile_order, tile_order}
use Rattle.mj_tiles.specs.declared.meld.Meld.{Meld}
use Rattle.mj_tiles.specs.declared.meld.Form.{Form}
use Rattle.mj_tiles.specs.declared.meld.Form.TheVariants as forms
use Rattle.mj_deeds.specs.declared.deed.Deed.{Deed}
use Rattle.mj_deeds.specs.declared.deed.Deed.TheVariants.{StartHand, Draw, Chi, Pon, OpenKan, ClosedKan, AddedKan}
use Rattle.mj_deeds.specs.Facts.{gains_by, tiles_gained, is_pon, makes_by, adds_by, meld_of_three, meld_of_four, with_added, seat_melds}
use Rattle.mj_deeds.specs.Fits.{faces_in, is_face, has_tiles, is_triplet_of}

-- tiles that pass

-- What stands in a list of which all pass does.
pub member_passes : (p : ℕ → Bool) (xs : List ℕ) (face : ℕ) → list_all p xs ≡ true → 0 < number_in xs face → p face ≡ true
member_passes p [] face h k = absurd (none k)
  where
    none : 0 < 0 → ⊥
    none k = omega arith
member_passes p (x ∷ xs) face h k =
    let parts = and_parts (p x) (list_all p xs) h in
    elim (cases_eq x face) [
      | inl e ↦ subst (λ t. p t ≡ true) e parts.0
      | inr ne ↦ member_passes p xs face parts.1 (rest _ _ _ (sum_by-cons (λ y. cond (eqb y face) 1 0) x xs) (ap {B = ℕ} (λ b. cond b 1 0) (ne_eqb x face ne)) k)
    ]
  where
    rest : (n b m : ℕ) → n ≡ b + m → b ≡ 0 → 0 < n → 0 < m
    rest n b m e f h = omega arith

-- All pass where each that stands there does.
pub all_members : (p : ℕ → Bool) (xs : List ℕ) → ((x : ℕ) → 0 < number_in xs x → p x ≡ true) → list_all p xs ≡ true
all_members p [] h = refl
all_members p (x ∷ xs) h =
    and_from (p x) _ (h x (first _ _ _ (sum_by-cons (λ y. cond (eqb y x) 1 0) x xs) (ap {B = ℕ} (λ b. cond b 1 0) (eq-eqb x x refl))))
    (all_members p xs (λ y some. h y (later _ _ _ (sum_by-cons (λ z. cond (eqb z y) 1 0) x xs) some)))
  where
    first : (n b m : ℕ) → n ≡ b + m → b ≡ 1 → 0 < n
    first n b m e f = omega arith

    later : (n b m : ℕ) → n ≡ b + m → 0 < m → 0 < n
    later n b m e f = omega arith

all_of : (p : ℕ → Bool) (face n : ℕ) → (0 < n → p face ≡ true) → list_all p (replicate n face) ≡ true
all_of p face zero h = refl
all_of p face (suc n) h = and_from (p face) _ (h (omega arith)) (all_of p face n (λ some. h (omega arith)))

-- What is left of tiles of which all pass does.
pub less_passes : (p : ℕ → Bool) (xs ys : List ℕ) → list_all p xs ≡ true → list_all p (less xs ys) ≡ true
unfolding less
less_passes p xs ys h = go tile_order
  where
    some : (a b : ℕ) → 0 < a - b → 0 < a
    some a b h = omega arith

    go : (faces : List ℕ) → list_all p (flat_map (λ face. replicate (number_in xs face - number_in ys face) face) faces) ≡ true
    go [] = refl
    go (face ∷ faces) =
        list_all-append p (replicate (number_in xs face - number_in ys face) face) (flat_map (λ face. replicate (number_in xs face - number_in ys face) face) faces)
        ∙ and_from (list_all p (replicate (number_in xs face - number_in ys face) face)) _
        (all_of p face (number_in xs face - number_in ys face) (λ k. member_passes p xs face h (some (number_in xs face) (number_in ys face) k))) (go faces)

-- So do they in tile order.
pub order_passes : (p : ℕ → Bool) (xs : List ℕ) → list_all p xs ≡ true → list_all p (in_tile_order xs) ≡ true
unfolding in_tile_order
order_passes p xs h = less_passes p xs [] h

-- One of them passes, and so does what stands for none.
pub at_passes : (p : ℕ → Bool) (xs : List ℕ) (i : ℕ) → p 0 ≡ true → list_all p xs ≡ true → p (get_or xs i 0) ≡ true
at_passes p [] i none h = none
at_passes p (x ∷ xs) zero none h = (and_parts (p x) (list_all p xs) h).0
at_passes p (x ∷ xs) (suc i) none h = at_passes p xs i none (and_parts (p x) (list_all p xs) h).1

-- Where each of four lists passes.
of_hand : (p : ℕ → Bool) (a b c d : List ℕ) (seat : ℕ) → list_all p (a ++ b ++ c ++ d) ≡ true →
    list_all p (cond (eqb seat 0) a (cond (eqb seat 1) b (cond (eqb seat 2) c d))) ≡ true
of_hand p a b c d seat h =
    let x = and_parts (list_all p (a ++ b ++ c)) (list_all p d) (sym (list_all-append p (a ++ b ++ c) d) ∙ h) in
    let y = and_parts (list_all p (a ++ b)) (list_all p c) (sym (list_all-append p (a ++ b) c) ∙ x.0) in
    let z = and_parts (list_all p a) (list_all p b) (sym (list_all-append p a b) ∙ y.0) in
    pick (eqb seat 0) a _ z.0 (pick (eqb seat 1) b _ z.1 (pick (eqb seat 2) c d y.1 x.1))
  where
    pick : (b : Bool) (xs ys : List ℕ) → list_all p xs ≡ true → list_all p ys ≡ true → list_all p (cond b xs ys) ≡ true
    pick true xs ys h k = h
    pick false xs ys h k = k

pub four_pass : (p : ℕ → Bool) (a b c d : List ℕ) → list_all p a ≡ true → list_all p b ≡ true → list_all p c ≡ true → list_all p d ≡ true → list_all p (a ++ b ++ c ++ d) ≡ true
four_pass p a b c d h k l m =
    list_all-append p (a ++ b ++ c) d
    ∙ and_from (list_all p (a ++ b ++ c)) (list_all p d)
    (list_all-append p (a ++ b) c ∙ and_from (list_all p (a ++ b)) (list_all p c) (list_all-append p a b ∙ and_from (list_all p a) (list_all p b) h k) l) m

at_one : {A : Type 0} (p : A → Bool) (b : Bool) (x : A) → p x ≡ true → list_all p (cond b (x ∷ []) []) ≡ true
at_one p true x h = and_from (p x) true h refl
at_one p false x h = refl

-- what a seat is given

gains_pass : (p : ℕ → Bool) (seat : ℕ) (d : Deed) → list_all p (faces_in d) ≡ true → list_all p (gains_by seat d) ≡ true
gains_pass p seat (StartHand round number honba deposits dealer indicator hands) h =
    of_hand p hands.first hands.second hands.third hands.fourth seat
    (and_parts (p indicator) (list_all p (hands.first ++ hands.second ++ hands.third ++ hands.fourth)) h).1
gains_pass p seat (Draw who tile replacement) h = at_one p (eqb who seat) tile (and_parts (p tile) true h).0
gains_pass p seat other h = refl

-- What deeds give passes where what each of them gives does.
gathered : {A : Type 0} (p : A → Bool) (f : Deed → List A) (red : Bool) (ds : List Deed) →
    ((d : Deed) → has_tiles red d ≡ true → list_all p (f d) ≡ true) → list_all (has_tiles red) ds ≡ true → list_all p (flat_map f ds) ≡ true
gathered p f red [] each h = refl
gathered p f red (d ∷ ds) each h =
    let parts = and_parts (has_tiles red d) (list_all (has_tiles red) ds) h in
    list_all-append p (f d) (flat_map f ds) ∙ and_from (list_all p (f d)) _ (each d parts.0) (gathered p f red ds each parts.1)

-- The tiles that a seat was given are of the game.
pub gained_real : (red : Bool) (ds : List Deed) (seat : ℕ) → list_all (has_tiles red) ds ≡ true → list_all (is_face red) (tiles_gained ds seat) ≡ true
gained_real red ds seat h = gathered (is_face red) (gains_by seat) red ds (λ d k. gains_pass (is_face red) seat d k) h

-- melds

-- The first three tiles of a meld pass.
abbrev pub meld_passes : (ℕ → Bool) → Meld → Bool
meld_passes p meld = p meld.a && p meld.b && p meld.c

first_three : (p : ℕ → Bool) (tiles : List ℕ) → p 0 ≡ true → list_all p tiles ≡ true →
    (p (get_or (in_tile_order tiles) 0 0) && p (get_or (in_tile_order tiles) 1 0) && p (get_or (in_tile_order tiles) 2 0)) ≡ true
first_three p tiles none h =
    let all = order_passes p tiles h in
    and_from (p (get_or (in_tile_order tiles) 0 0) && p (get_or (in_tile_order tiles) 1 0)) (p (get_or (in_tile_order tiles) 2 0))
    (and_from (p (get_or (in_tile_order tiles) 0 0)) (p (get_or (in_tile_order tiles) 1 0)) (at_passes p (in_tile_order tiles) 0 none all) (at_passes p (in_tile_order tiles) 1 none all))
    (at_passes p (in_tile_order tiles) 2 none all)

three_pass : (p : ℕ → Bool) (form : Form) (x y z : ℕ) → p 0 ≡ true → list_all p (x ∷ y ∷ z ∷ []) ≡ true → meld_passes p (meld_of_three form x y z) ≡ true
unfolding meld_of_three
three_pass p form x y z none h = first_three p (x ∷ y ∷ z ∷ []) none h

kan_passes : (p : ℕ → Bool) (form : Form) (w x y z : ℕ) → p 0 ≡ true → list_all p (w ∷ x ∷ y ∷ z ∷ []) ≡ true → meld_passes p (meld_of_four form w x y z) ≡ true
unfolding meld_of_four
kan_passes p form w x y z none h = first_three p (w ∷ x ∷ y ∷ z ∷ []) none h

makes_pass : (p : ℕ → Bool) (seat : ℕ) (d : Deed) → p 0 ≡ true → list_all p (faces_in d) ≡ true → list_all (meld_passes p) (makes_by seat d) ≡ true
makes_pass p seat (Chi who target tile a b) none h = at_one (meld_passes p) (eqb who seat) (meld_of_three forms.Chi tile a b) (three_pass p forms.Chi tile a b none h)
makes_pass p seat (Pon who target tile a b) none h = at_one (meld_passes p) (eqb who seat) (meld_of_three forms.Pon tile a b) (three_pass p forms.Pon tile a b none h)
makes_pass p seat (OpenKan who target tile a b c) none h = at_one (meld_passes p) (eqb who seat) (meld_of_four forms.OpenKan tile a b c) (kan_passes p forms.OpenKan tile a b c none h)
makes_pass p seat (ClosedKan who a b c d) none h = at_one (meld_passes p) (eqb who seat) (meld_of_four forms.ClosedKan a b c d) (kan_passes p forms.ClosedKan a b c d none h)
makes_pass p seat other none h = refl

adds_pass : (p : ℕ → Bool) (seat : ℕ) (d : Deed) → list_all p (faces_in d) ≡ true → list_all p (adds_by seat d) ≡ true
adds_pass p seat (AddedKan who tile a b c) h = at_one p (eqb who seat) tile (and_parts (p tile) (list_all p (a ∷ b ∷ c ∷ [])) h).0
adds_pass p seat other h = refl

added_passes : (p : ℕ → Bool) (meld : Meld) (tiles : List ℕ) → p 0 ≡ true → meld_passes p meld ≡ true → list_all p tiles ≡ true → meld_passes p (with_added meld tiles) ≡ true
unfolding with_added
added_passes p meld [] none h k = h
added_passes p meld (tile ∷ tiles) none h k =
    let parts = and_parts (p tile) (list_all p tiles) k in
    by_test (is_pon meld.form && (kind_of tile == kind_of meld.a)) (added_passes p meld tiles none h parts.1)
    (kan_passes p forms.AddedKan tile meld.a meld.b meld.c none (and_from (p tile) _ parts.0 (listed (p meld.a) (p meld.b) (p meld.c) h)))
  where
    listed : (x y z : Bool) → (x && y && z) ≡ true → (x && (y && (z && true))) ≡ true
    listed true true true h = refl
    listed true true false h = cc
    listed true false z h = cc
    listed false y z h = cc

    by_test : (b : Bool) → meld_passes p (with_added meld tiles) ≡ true → meld_passes p (meld_of_four forms.AddedKan tile meld.a meld.b meld.c) ≡ true →
        meld_passes p (cond b (meld_of_four forms.AddedKan tile meld.a meld.b meld.c) (with_added meld tiles)) ≡ true
    by_test true later now = now
    by_test false later now = later

each_passes : (q : Meld → Bool) (f : Meld → Meld) (melds : List Meld) → ((meld : Meld) → q meld ≡ true → q (f meld) ≡ true) → list_all q melds ≡ true → list_all q (map f melds) ≡ true
each_passes q f [] step h = refl
each_passes q f (meld ∷ melds) step h =
    let parts = and_parts (q meld) (list_all q melds) h in
    and_from (q (f meld)) _ (step meld parts.0) (each_passes q f melds step parts.1)

zero_real : (red : Bool) → is_face red 0 ≡ true
zero_real true = refl
zero_real false = refl

-- The tiles of the melds of a seat are of the game.
pub melds_real : (red : Bool) (ds : List Deed) (seat : ℕ) → list_all (has_tiles red) ds ≡ true → list_all (meld_passes (is_face red)) (seat_melds ds seat) ≡ true
melds_real red ds seat h =
    each_passes (meld_passes (is_face red)) (λ meld. with_added meld (flat_map (adds_by seat) ds)) (flat_map (makes_by seat) ds)
    (λ meld k. added_passes (is_face red) meld (flat_map (adds_by seat) ds) (zero_real red) k (gathered (is_face red) (adds_by seat) red ds (λ d l. adds_pass (is_face red) seat d l) h))
    (gathered (meld_passes (is_face red)) (makes_by seat) red ds (λ d l. makes_pass (is_face red) seat d (zero_real red) l) h)

-- So are those of the triplet that a tile is added to.
pub triplet_passes : (p : ℕ → Bool) (t a b c : ℕ) (melds : List Meld) → list_all (meld_passes p) melds ≡ true → list_any (is_triplet_of t a b c) melds ≡ true → (p a && p b && p c) ≡ true
triplet_passes p t a b c [] h k = cc
triplet_passes p t a b c (meld ∷ melds) h k =
    let parts = and_parts (meld_passes p meld) (list_all (meld_passes p) melds) h in
    by_test (is_triplet_of t a b c meld) refl (triplet_passes p t a b c melds parts.1) parts.0 k
  where
    same : is_triplet_of t a b c meld ≡ true → meld_passes p meld ≡ (p a && p b && p c)
    same e =
        let one = and_parts (is_pon meld.form && meld.a == a && meld.b == b && meld.c == c) (kind_of t == kind_of a) e in
        let two = and_parts (is_pon meld.form && meld.a == a && meld.b == b) (meld.c == c) one.0 in
        let three = and_parts (is_pon meld.form && meld.a == a) (meld.b == b) two.0 in
        let four = and_parts (is_pon meld.form) (meld.a == a) three.0 in
        let x : meld.a ≡ a = eqb-true meld.a a four.1 in
        let y : meld.b ≡ b = eqb-true meld.b b three.1 in
        let z : meld.c ≡ c = eqb-true meld.c c two.1 in
        (λ i. p (x i) && p (y i) && p (z i))

    by_test : (b' : Bool) → is_triplet_of t a b c meld ≡ b' → (list_any (is_triplet_of t a b c) melds ≡ true → (p a && p b && p c) ≡ true) → meld_passes p meld ≡ true →
        (b' || list_any (is_triplet_of t a b c) melds) ≡ true → (p a && p b && p c) ≡ true
    by_test true e later here l = sym (same e) ∙ here
    by_test false e later here l = later l
