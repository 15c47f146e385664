-- How many tiles of a kind the melds of a seat have, of which a tile that is added to a pon is one.
use Rattle.std.proofs.Common.{◌≡◌, ℕ, zero, suc, ◌+◌, ◌*◌, ◌≤◌, ◌&&◌, Bool, true, false, cond, eqb, List, [], ◌∷◌, ◌++◌, length, get_or, map, refl, sym, ap, ◌∙◌, subst, arith, append-nil}
use Rattle.std.specs.Prelude.{flat_map, option_to_list}
use Rattle.std.specs.List.{list_all}
use Rattle.std.proofs.lemmas.Bool.{and_parts, and_from, eqb-true, eq-eqb}
use Rattle.std.proofs.lemmas.List.Concat.{flat_map-cons}
use Rattle.std.proofs.lemmas.List.Folds.{list_all-append}
use Rattle.std.proofs.lemmas.List.Sums.{sum_by-cons}
use Rattle.mj_tiles.specs.Faces.{kind_of, in_tile_order}
use Rattle.mj_tiles.specs.Counts.{number_of}
use Rattle.mj_tiles.specs.Melds.{tiles_of_meld}
use Rattle.mj_tiles.specs.declared.meld.Meld.{Meld}
use Rattle.mj_tiles.specs.declared.meld.Form.{Form}
use Rattle.mj_tiles.specs.declared.meld.Form.TheVariants as forms
use Rattle.mj_tiles.proofs.CountSteps.{number_of-append}
use Rattle.mj_calls.specs.Shapes.{are_alike}
use Rattle.mj_wall.proofs.TileOrder.{count_by-in_tile_order}
use Rattle.mj_deeds.specs.declared.deed.Deed.{Deed}
use Rattle.mj_deeds.specs.declared.deed.Deed.TheVariants.{Chi, Pon, OpenKan, ClosedKan, AddedKan}
use Rattle.mj_deeds.specs.Facts.{meld_of_three, meld_of_four, makes_by, adds_by, is_pon, with_added, seat_melds}
use Rattle.mj_deeds.specs.Fits.{faces_in, has_tiles}
use Rattle.mj_deeds.proofs.RealTiles.{order_passes, at_passes}
use Rattle.mj_rules.proofs.TilesLess.{count_all}
use Rattle.mj_sights.proofs.Known.{is_known, all_known, known}
use Rattle.mj_safety.proofs.Triplets.{is_even}
use Rattle.mj_safety.proofs.Laid.{melded_by}

-- tiles of the game in tile order

order_long : (xs : List ℕ) → list_all is_known xs ≡ true → length (in_tile_order xs) ≡ length xs
order_long xs h = sym (count_all (in_tile_order xs)) ∙ count_by-in_tile_order (λ t. true) xs (all_known xs h) ∙ count_all xs

order_counts : (xs : List ℕ) (kind : ℕ) → list_all is_known xs ≡ true → number_of (in_tile_order xs) kind ≡ number_of xs kind
order_counts xs kind h = count_by-in_tile_order (λ t. eqb (kind_of t) kind) xs (all_known xs h)

three_items : (xs : List ℕ) → length xs ≡ 3 → get_or xs 0 0 ∷ get_or xs 1 0 ∷ get_or xs 2 0 ∷ [] ≡ xs
three_items [] h = absurd (omega (arith, h))
three_items (a ∷ []) h = absurd (omega (arith, h))
three_items (a ∷ b ∷ []) h = absurd (omega (arith, h))
three_items (a ∷ b ∷ c ∷ []) h = refl
three_items (a ∷ b ∷ c ∷ d ∷ xs) h = absurd (many (length xs) h)
  where
    many : (n : ℕ) → suc (suc (suc (suc n))) ≡ 3 → ⊥
    many n h = omega (arith, h)

four_items : (xs : List ℕ) → length xs ≡ 4 → get_or xs 0 0 ∷ get_or xs 1 0 ∷ get_or xs 2 0 ∷ get_or xs 3 0 ∷ [] ≡ xs
four_items [] h = absurd (omega (arith, h))
four_items (a ∷ []) h = absurd (omega (arith, h))
four_items (a ∷ b ∷ []) h = absurd (omega (arith, h))
four_items (a ∷ b ∷ c ∷ []) h = absurd (omega (arith, h))
four_items (a ∷ b ∷ c ∷ d ∷ []) h = refl
four_items (a ∷ b ∷ c ∷ d ∷ e ∷ xs) h = absurd (many (length xs) h)
  where
    many : (n : ℕ) → suc (suc (suc (suc (suc n)))) ≡ 4 → ⊥
    many n h = omega (arith, h)

-- melds by their tiles

three_counts : (form : Form) (x y z kind : ℕ) → list_all is_known (x ∷ y ∷ z ∷ []) ≡ true → number_of (tiles_of_meld (meld_of_three form x y z)) kind ≡ number_of (x ∷ y ∷ z ∷ []) kind
unfolding meld_of_three
three_counts form x y z kind h = ap (λ (xs : List ℕ). number_of xs kind) (three_items (in_tile_order (x ∷ y ∷ z ∷ [])) (order_long (x ∷ y ∷ z ∷ []) h)) ∙ order_counts (x ∷ y ∷ z ∷ []) kind h

four_counts : (form : Form) (w x y z kind : ℕ) → list_all is_known (w ∷ x ∷ y ∷ z ∷ []) ≡ true → number_of (tiles_of_meld (meld_of_four form w x y z)) kind ≡ number_of (w ∷ x ∷ y ∷ z ∷ []) kind
unfolding meld_of_four
four_counts form w x y z kind h = ap (λ (xs : List ℕ). number_of xs kind) (four_items (in_tile_order (w ∷ x ∷ y ∷ z ∷ []))
    (order_long (w ∷ x ∷ y ∷ z ∷ []) h)) ∙ order_counts (w ∷ x ∷ y ∷ z ∷ []) kind h

-- a tile that is added

-- A pon of the kind takes one of the added tiles at most.
abbrev taken_in : Meld → ℕ → ℕ → ℕ
taken_in meld kind number = cond (is_pon meld.form && eqb (kind_of meld.a) kind) number 0

first_three : (meld : Meld) (kind : ℕ) → number_of (meld.a ∷ meld.b ∷ meld.c ∷ []) kind ≤ number_of (tiles_of_meld meld) kind
first_three meld kind = part _ _ _ (number_of-append (meld.a ∷ meld.b ∷ meld.c ∷ []) (option_to_list meld.d) kind)
  where
    part : (n a b : ℕ) → n ≡ a + b → a ≤ n
    part n a b e = omega (arith, e)

with_added_counts : (meld : Meld) (tiles : List ℕ) (kind : ℕ) → list_all is_known (meld.a ∷ meld.b ∷ meld.c ∷ []) ≡ true → list_all is_known tiles ≡ true →
    number_of (tiles_of_meld (with_added meld tiles)) kind ≤ number_of (tiles_of_meld meld) kind + taken_in meld kind (number_of tiles kind)
unfolding with_added
with_added_counts meld [] kind own h = omega arith
with_added_counts meld (t ∷ ts) kind own h =
    let parts = and_parts (is_known t) (list_all is_known ts) h in
    by_test (is_pon meld.form) (eqb (kind_of t) (kind_of meld.a)) refl (with_added_counts meld ts kind own parts.1)
    (four_counts forms.AddedKan t meld.a meld.b meld.c kind (and_from (is_known t) _ parts.0 own))
    (sum_by-cons (λ x. cond (eqb (kind_of x) kind) 1 0) t ts) (sum_by-cons (λ x. cond (eqb (kind_of x) kind) 1 0) t (meld.a ∷ meld.b ∷ meld.c ∷ []))
  where
    later : (b : Bool) (n k m o x : ℕ) → n ≤ k + cond b m 0 → o ≡ x + m → n ≤ k + cond b o 0
    later true n k m o x h e = omega (arith, h, e)
    later false n k m o x h e = h

    now : (b : Bool) (n q x k l o m : ℕ) → n ≡ q → q ≡ x + l → l ≤ k → o ≡ x + m → (b ≡ false → x ≡ 0) → n ≤ k + cond b o 0
    now true n q x k l o m e f h g z = omega (arith, e, f, h, g)
    now false n q x k l o m e f h g z = omega (arith, e, f, h, z refl)

    other : (c : Bool) → eqb (kind_of t) (kind_of meld.a) ≡ true → eqb (kind_of meld.a) kind ≡ c → c ≡ false → ◌≡◌ {A = ℕ} (cond (eqb (kind_of t) kind) 1 0) 0
    other c same is none = ap {B = ℕ} (λ (k : ℕ). cond (eqb k kind) 1 0) (eqb-true (kind_of t) (kind_of meld.a) same) ∙ ap {B = ℕ} (λ b. cond b 1 0) (is ∙ none)

    by_test : (p b : Bool) → eqb (kind_of t) (kind_of meld.a) ≡ b →
        number_of (tiles_of_meld (with_added meld ts)) kind ≤ number_of (tiles_of_meld meld) kind + cond (p && eqb (kind_of meld.a) kind) (number_of ts kind) 0 →
        number_of (tiles_of_meld (meld_of_four forms.AddedKan t meld.a meld.b meld.c)) kind ≡ number_of (t ∷ meld.a ∷ meld.b ∷ meld.c ∷ []) kind →
        number_of (t ∷ ts) kind ≡ cond (eqb (kind_of t) kind) 1 0 + number_of ts kind →
        number_of (t ∷ meld.a ∷ meld.b ∷ meld.c ∷ []) kind ≡ cond (eqb (kind_of t) kind) 1 0 + number_of (meld.a ∷ meld.b ∷ meld.c ∷ []) kind →
        number_of (tiles_of_meld (cond (p && b) (meld_of_four forms.AddedKan t meld.a meld.b meld.c) (with_added meld ts))) kind ≤ number_of
        (tiles_of_meld meld) kind + cond (p && eqb (kind_of meld.a) kind) (number_of (t ∷ ts) kind) 0
    by_test true true e rest kan tiles all = now (eqb (kind_of meld.a) kind) _ _ _ _ _ _ _ kan all (first_three meld kind) tiles (λ none. other _ e refl none)
    by_test true false e rest kan tiles all = later (eqb (kind_of meld.a) kind) _ _ _ _ _ rest tiles
    by_test false b e rest kan tiles all = rest

-- the melds of all deeds

-- Of the tiles of melds with added ones, those that made them, and the added ones: how many pons of the kind there are, and how
-- many of the added tiles they take.
pub record Taken (all made added : ℕ) : Type 0 where
  pub pons : ℕ
  pub takes : ℕ
  pub most : all ≤ made + takes
  pub thrice : 3 * pons ≤ made
  pub none : pons ≡ 0 → takes ≡ 0
  pub one : pons ≡ 1 → takes ≤ added

no_pon : (all made added : ℕ) → all ≤ made → Taken all made added
no_pon all made added h = record { pons = 0; takes = 0; most = plain all made h; thrice = omega arith; none = λ e. refl; one = λ e. omega arith }
  where
    plain : (n m : ℕ) → n ≤ m → n ≤ m + 0
    plain n m h = omega (arith, h)

both : (a b c d added all made : ℕ) → all ≡ a + c → made ≡ b + d → Taken a b added → Taken c d added → Taken all made added
both a b c d added all made e f s t = record {
  pons = s.pons + t.pons;
  takes = s.takes + t.takes;
  most = most _ _ _ _ _ _ _ _ e f s.most t.most;
  thrice = thrice _ _ _ _ _ f s.thrice t.thrice;
  none = λ none. zeros s.takes t.takes (s.none (first s.pons t.pons none)) (t.none (last s.pons t.pons none));
  one = λ one. ones s.pons t.pons one s.none t.none s.one t.one;
}
  where
    most : (all made a b c d x y : ℕ) → all ≡ a + c → made ≡ b + d → a ≤ b + x → c ≤ d + y → all ≤ made + (x + y)
    most all made a b c d x y e f h k = omega (arith, e, f, h, k)

    thrice : (made b d p q : ℕ) → made ≡ b + d → 3 * p ≤ b → 3 * q ≤ d → 3 * (p + q) ≤ made
    thrice made b d p q f h k = omega (arith, f, h, k)

    first : (p q : ℕ) → p + q ≡ 0 → p ≡ 0
    first p q e = omega (arith, e)

    last : (p q : ℕ) → p + q ≡ 0 → q ≡ 0
    last p q e = omega (arith, e)

    zeros : (x y : ℕ) → x ≡ 0 → y ≡ 0 → x + y ≡ 0
    zeros x y e f = omega (arith, e, f)

    left : (x y n : ℕ) → x ≤ n → y ≡ 0 → x + y ≤ n
    left x y n h e = omega (arith, h, e)

    right : (x y n : ℕ) → x ≡ 0 → y ≤ n → x + y ≤ n
    right x y n e h = omega (arith, h, e)

    rest : (q : ℕ) → 0 + q ≡ 1 → q ≡ 1
    rest q e = omega (arith, e)

    none_left : (q : ℕ) → 1 + q ≡ 1 → q ≡ 0
    none_left q e = omega (arith, e)

    many : (p q : ℕ) → suc (suc p) + q ≡ 1 → ⊥
    many p q e = omega (arith, e)

    ones : (p q : ℕ) → p + q ≡ 1 → (p ≡ 0 → s.takes ≡ 0) → (q ≡ 0 → t.takes ≡ 0) → (p ≡ 1 → s.takes ≤ added) → (q ≡ 1 → t.takes ≤ added) → s.takes + t.takes ≤ added
    ones zero q e n m h k = right _ _ _ (n refl) (k (rest q e))
    ones (suc zero) q e n m h k = left _ _ _ (h refl) (m (none_left q e))
    ones (suc (suc p)) q e n m h k = absurd (many p q e)

-- The melds of a seat by one deed, with the tiles that are added.
abbrev with_all : List ℕ → List Meld → List ℕ
with_all tiles melds = flat_map tiles_of_meld (map (λ meld. with_added meld tiles) melds)

first_passes : (p : ℕ → Bool) (xs : List ℕ) → length xs ≡ 3 → list_all p xs ≡ true → p (get_or xs 0 0) ≡ true
first_passes p [] e h = absurd (omega (arith, e))
first_passes p (x ∷ xs) e h = (and_parts (p x) (list_all p xs) h).0

-- Three of a kind.
three_alike : (x y z kind : ℕ) → kind_of x ≡ kind → kind_of y ≡ kind → kind_of z ≡ kind → number_of (x ∷ y ∷ z ∷ []) kind ≡ 3
three_alike x y z kind e f g =
    sum _ _ _ _ _ _ (sum_by-cons test x (y ∷ z ∷ [])) (sum_by-cons test y (z ∷ [])) (sum_by-cons test z []) (one x e) (one y f) (one z g)
  where
    test : ℕ → ℕ
    test t = cond (eqb (kind_of t) kind) 1 0

    one : (t : ℕ) → kind_of t ≡ kind → ◌≡◌ {A = ℕ} (cond (eqb (kind_of t) kind) 1 0) 1
    one t e = ap {B = ℕ} (λ b. cond b 1 0) (eq-eqb (kind_of t) kind e)

    sum : (n a m b k c : ℕ) → n ≡ a + m → m ≡ b + k → k ≡ c + 0 → a ≡ 1 → b ≡ 1 → c ≡ 1 → n ≡ 3
    sum n a m b k c p q r e f g = omega (arith, p, q, r, e, f, g)

-- What one meld takes.
meld_taken : (meld : Meld) (tiles raw : List ℕ) (kind : ℕ) (b : Bool) → list_all is_known (meld.a ∷ meld.b ∷ meld.c ∷ []) ≡ true →
    list_all is_known tiles ≡ true → number_of (tiles_of_meld meld) kind ≡ number_of raw kind →
    (is_pon meld.form ≡ true → eqb (kind_of meld.a) kind ≡ true → number_of raw kind ≡ 3) →
    Taken (number_of (with_all tiles (cond b (meld ∷ []) [])) kind) (number_of (cond b raw []) kind) (number_of tiles kind)
meld_taken meld tiles raw kind false own h same three = no_pon _ _ _ (omega arith)
meld_taken meld tiles raw kind true own h same three =
    subst (λ n. Taken n (number_of raw kind) (number_of tiles kind)) (sym (ap (λ (xs : List ℕ). number_of xs kind) (append-nil (tiles_of_meld (with_added meld tiles)))))
    (by_test (is_pon meld.form) (eqb (kind_of meld.a) kind) same (with_added_counts meld tiles kind own h) three)
  where
    same_most : (n m k a : ℕ) → m ≡ k → n ≤ m + a → n ≤ k + a
    same_most n m k a e h = omega (arith, e, h)

    least : (n m k : ℕ) → m ≡ k → n ≤ m + 0 → n ≤ k
    least n m k e h = omega (arith, e, h)

    thrice : (n : ℕ) → n ≡ 3 → 3 * 1 ≤ n
    thrice n e = omega (arith, e)

    never : ◌≡◌ {A = ℕ} 1 0 → ⊥
    never e = omega (arith, e)

    by_test : (p c : Bool) → number_of (tiles_of_meld meld) kind ≡ number_of raw kind →
        number_of (tiles_of_meld (with_added meld tiles)) kind ≤ number_of (tiles_of_meld meld) kind + cond (p && c) (number_of tiles kind) 0 →
        (p ≡ true → c ≡ true → number_of raw kind ≡ 3) → Taken (number_of (tiles_of_meld (with_added meld tiles)) kind) (number_of raw kind) (number_of tiles kind)
    by_test true true e k three = record {
      pons = 1;
      takes = number_of tiles kind;
      most = same_most _ _ _ _ e k;
      thrice = thrice _ (three refl refl);
      none = λ h. absurd (never h);
      one = λ h. omega arith;
    }
    by_test true false e k three = no_pon _ _ _ (least _ _ _ e k)
    by_test false c e k three = no_pon _ _ _ (least _ _ _ e k)

three_known : (form : Form) (x y z : ℕ) → list_all is_known (x ∷ y ∷ z ∷ []) ≡ true →
    list_all is_known ((meld_of_three form x y z).a ∷ (meld_of_three form x y z).b ∷ (meld_of_three form x y z).c ∷ []) ≡ true
unfolding meld_of_three
three_known form x y z h = and_from _ _ (pass 0) (and_from _ _ (pass 1) (and_from _ true (pass 2) refl))
  where
    pass : (i : ℕ) → is_known (get_or (in_tile_order (x ∷ y ∷ z ∷ [])) i 0) ≡ true
    pass i = at_passes is_known (in_tile_order (x ∷ y ∷ z ∷ [])) i refl (order_passes is_known (x ∷ y ∷ z ∷ []) h)

four_known : (form : Form) (w x y z : ℕ) → list_all is_known (w ∷ x ∷ y ∷ z ∷ []) ≡ true →
    list_all is_known ((meld_of_four form w x y z).a ∷ (meld_of_four form w x y z).b ∷ (meld_of_four form w x y z).c ∷ []) ≡ true
unfolding meld_of_four
four_known form w x y z h = and_from _ _ (pass 0) (and_from _ _ (pass 1) (and_from _ true (pass 2) refl))
  where
    pass : (i : ℕ) → is_known (get_or (in_tile_order (w ∷ x ∷ y ∷ z ∷ [])) i 0) ≡ true
    pass i = at_passes is_known (in_tile_order (w ∷ x ∷ y ∷ z ∷ [])) i refl (order_passes is_known (w ∷ x ∷ y ∷ z ∷ []) h)

-- The first tile of a pon is of the kind of all.
pon_kind : (x y z : ℕ) → list_all is_known (x ∷ y ∷ z ∷ []) ≡ true → (are_alike x y && are_alike x z) ≡ true → kind_of (meld_of_three forms.Pon x y z).a ≡ kind_of x
unfolding meld_of_three
pon_kind x y z h alike =
    let parts = and_parts (are_alike x y) (are_alike x z) alike in
    eqb-true _ (kind_of x)
    (first_passes (λ t. eqb (kind_of t) (kind_of x)) (in_tile_order (x ∷ y ∷ z ∷ [])) (order_long (x ∷ y ∷ z ∷ []) h)
    (order_passes (λ t. eqb (kind_of t) (kind_of x)) (x ∷ y ∷ z ∷ [])
    (and_from (eqb (kind_of x) (kind_of x)) _ (eq-eqb (kind_of x) (kind_of x) refl)
    (and_from (eqb (kind_of y) (kind_of x)) _ (eq-eqb (kind_of y) (kind_of x) (sym (eqb-true (kind_of x) (kind_of y) parts.0)))
    (and_from (eqb (kind_of z) (kind_of x)) true (eq-eqb (kind_of z) (kind_of x) (sym (eqb-true (kind_of x) (kind_of z) parts.1))) refl)))))

pon_three : (x y z kind : ℕ) → list_all is_known (x ∷ y ∷ z ∷ []) ≡ true → (are_alike x y && are_alike x z) ≡ true →
    eqb (kind_of (meld_of_three forms.Pon x y z).a) kind ≡ true → number_of (x ∷ y ∷ z ∷ []) kind ≡ 3
pon_three x y z kind h alike is =
    let parts = and_parts (are_alike x y) (are_alike x z) alike in
    let first : kind_of x ≡ kind = sym (pon_kind x y z h alike) ∙ eqb-true _ kind is in
    three_alike x y z kind first (sym (eqb-true (kind_of x) (kind_of y) parts.0) ∙ first) (sym (eqb-true (kind_of x) (kind_of z) parts.1) ∙ first)

chi_is_no_pon : (x y z : ℕ) → is_pon (meld_of_three forms.Chi x y z).form ≡ true → ⊥
unfolding meld_of_three
chi_is_no_pon x y z h = cc

open_is_no_pon : (w x y z : ℕ) → is_pon (meld_of_four forms.OpenKan w x y z).form ≡ true → ⊥
unfolding meld_of_four
open_is_no_pon w x y z h = cc

closed_is_no_pon : (w x y z : ℕ) → is_pon (meld_of_four forms.ClosedKan w x y z).form ≡ true → ⊥
unfolding meld_of_four
closed_is_no_pon w x y z h = cc

deed_taken : (seat kind : ℕ) (tiles : List ℕ) (d : Deed) → list_all is_known tiles ≡ true → list_all is_known (faces_in d) ≡ true → is_even d ≡ true →
    Taken (number_of (with_all tiles (makes_by seat d)) kind) (number_of (melded_by seat d) kind) (number_of tiles kind)
deed_taken seat kind tiles (Chi who target tile a b) h k even =
    meld_taken (meld_of_three forms.Chi tile a b) tiles (tile ∷ a ∷ b ∷ []) kind (eqb who seat) (three_known forms.Chi tile a b k) h
    (three_counts forms.Chi tile a b kind k) (λ p _. absurd (chi_is_no_pon tile a b p))
deed_taken seat kind tiles (Pon who target tile a b) h k even =
    meld_taken (meld_of_three forms.Pon tile a b) tiles (tile ∷ a ∷ b ∷ []) kind (eqb who seat) (three_known forms.Pon tile a b k) h
    (three_counts forms.Pon tile a b kind k) (λ _ is. pon_three tile a b kind k even is)
deed_taken seat kind tiles (OpenKan who target tile a b c) h k even =
    meld_taken (meld_of_four forms.OpenKan tile a b c) tiles (tile ∷ a ∷ b ∷ c ∷ []) kind (eqb who seat) (four_known forms.OpenKan tile a b c k) h
    (four_counts forms.OpenKan tile a b c kind k) (λ p _. absurd (open_is_no_pon tile a b c p))
deed_taken seat kind tiles (ClosedKan who a b c d) h k even =
    meld_taken (meld_of_four forms.ClosedKan a b c d) tiles (a ∷ b ∷ c ∷ d ∷ []) kind (eqb who seat) (four_known forms.ClosedKan a b c d k) h
    (four_counts forms.ClosedKan a b c d kind k) (λ p _. absurd (closed_is_no_pon a b c d p))
deed_taken seat kind tiles other h k even = no_pon _ _ _ (omega arith)

number_with : (tiles : List ℕ) (xs ys : List Meld) (kind : ℕ) → number_of (with_all tiles (xs ++ ys)) kind ≡ number_of (with_all tiles xs) kind + number_of (with_all tiles ys) kind
number_with tiles [] ys kind = omega arith
number_with tiles (x ∷ xs) ys kind =
    sum _ _ _ _ _ _ (number_of-append (tiles_of_meld (with_added x tiles)) (with_all tiles (xs ++ ys)) kind) (number_with tiles xs ys kind)
    (number_of-append (tiles_of_meld (with_added x tiles)) (with_all tiles xs) kind)
  where
    sum : (n a m x y k : ℕ) → n ≡ a + m → m ≡ x + y → k ≡ a + x → n ≡ k + y
    sum n a m x y k e f g = omega (arith, e, f, g)

deeds_taken : (red : Bool) (seat kind : ℕ) (tiles : List ℕ) (ds : List Deed) → list_all is_known tiles ≡ true → list_all (has_tiles red) ds ≡ true → list_all is_even ds ≡ true →
    Taken (number_of (with_all tiles (flat_map (makes_by seat) ds)) kind) (number_of (flat_map (melded_by seat) ds) kind) (number_of tiles kind)
deeds_taken red seat kind tiles [] h real even = no_pon _ _ _ (omega arith)
deeds_taken red seat kind tiles (d ∷ ds) h real even =
    let reals = and_parts (has_tiles red d) (list_all (has_tiles red) ds) real in
    let evens = and_parts (is_even d) (list_all is_even ds) even in
    both _ _ _ _ _ _ _ (ap (λ (ms : List Meld). number_of (with_all tiles ms) kind) (flat_map-cons (makes_by seat) d ds) ∙ number_with tiles (makes_by seat d) (flat_map (makes_by seat) ds) kind)
    (ap (λ (xs : List ℕ). number_of xs kind) (flat_map-cons (melded_by seat) d ds) ∙ number_of-append (melded_by seat d) (flat_map (melded_by seat) ds) kind)
    (deed_taken seat kind tiles d h (known red (faces_in d) reals.0) evens.0) (deeds_taken red seat kind tiles ds h reals.1 evens.1)

added_known : (red : Bool) (seat : ℕ) (ds : List Deed) → list_all (has_tiles red) ds ≡ true → list_all is_known (flat_map (adds_by seat) ds) ≡ true
added_known red seat [] real = refl
added_known red seat (d ∷ ds) real =
    let reals = and_parts (has_tiles red d) (list_all (has_tiles red) ds) real in
    ap (list_all is_known) (flat_map-cons (adds_by seat) d ds) ∙ list_all-append is_known (adds_by seat d) (flat_map (adds_by seat) ds)
    ∙ and_from (list_all is_known (adds_by seat d)) _ (of_deed d (known red (faces_in d) reals.0)) (added_known red seat ds reals.1)
  where
    one : (b : Bool) (tile : ℕ) → is_known tile ≡ true → list_all is_known (cond b (tile ∷ []) []) ≡ true
    one true tile h = and_from (is_known tile) true h refl
    one false tile h = refl

    of_deed : (d : Deed) → list_all is_known (faces_in d) ≡ true → list_all is_known (adds_by seat d) ≡ true
    of_deed (AddedKan who tile a b c) h = one (eqb who seat) tile (and_parts (is_known tile) _ h).0
    of_deed other h = refl

-- The tiles of the melds of a seat by those that made them and those that were added.
pub melds_taken : (red : Bool) (seat kind : ℕ) (ds : List Deed) → list_all (has_tiles red) ds ≡ true → list_all is_even ds ≡ true →
    Taken (number_of (flat_map tiles_of_meld (seat_melds ds seat)) kind) (number_of (flat_map (melded_by seat) ds) kind) (number_of (flat_map (adds_by seat) ds) kind)
melds_taken red seat kind ds real even = deeds_taken red seat kind (flat_map (adds_by seat) ds) ds (added_known red seat ds real) real even
