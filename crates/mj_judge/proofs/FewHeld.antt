-- Calls and kans for which too few tiles of their kind are held.
use Rattle.std.proofs.Common.{◌≡◌, ℕ, suc, ◌+◌, ◌<◌, ◌≤◌, ◌⊎◌, inl, inr, Bool, true, false, ◌&&◌, cond, eqb, ltb, List, [], ◌∷◌, ◌++◌, length, map, refl, sym, ap, subst, ◌∙◌, arith}
use Rattle.std.specs.Prelude.{Option, Some, None, nat_lt, All, flat_map, option_to_list, min}
use Rattle.std.specs.List.{list_any, list_all}
use Rattle.std.proofs.lemmas.Bool.{false_from_ne_true, and_parts, or_parts, cases_eq, cases_lt, eq-eqb, ne_eqb, ltb-false, ltb-true}
use Rattle.std.proofs.lemmas.List.Elements.{All-head, All-tail, All-nil, All-cons, All-map}
use Rattle.mj_readings.proofs.Members.{All-flat_map}
use Rattle.std.proofs.lemmas.List.Concat.{flat_map-cons}
use Rattle.std.proofs.lemmas.List.Sums.{sum_by-cons}
use Rattle.mj_tiles.specs.Faces.{kind_of, number_in, tile_order}
use Rattle.mj_deeds.specs.declared.answer.Pai.TheVariants.{Known}
use Rattle.mj_deeds.specs.declared.answer.Answer.{Answer}
use Rattle.mj_deeds.specs.declared.answer.Answer.TheVariants.{Pon, OpenKan, ClosedKan}
use Rattle.mj_deeds.specs.declared.deed.Deed.{Deed}
use Rattle.mj_wall.specs.declared.setting.Rules.{Rules}
use Rattle.mj_rules.specs.View.{SeatView, view_of, held_count}
use Rattle.mj_rules.specs.Possible.{is_lawful, faces_of, pons_of, open_kans_of, closed_kans_of, all_closed_kans}
use Rattle.mj_rules.proofs.Listed.{lawful_clear}
use Rattle.mj_judge.specs.Inner.Tried.{lawful_among, red_of, red_held, held_with}
use Rattle.mj_judge.proofs.Tried.{Fails, none_pass, lawful-append, faces_are}

-- A test that none of a list passes fails at each that stands there.
any_none : (p : ℕ → Bool) (xs : List ℕ) → list_any p xs ≡ false → (x : ℕ) → 0 < number_in xs x → p x ≡ false
any_none p [] none x some = absurd (nothing some)
  where
    nothing : 0 < 0 → ⊥
    nothing h = omega (arith, h)
any_none p (y ∷ ys) none x some =
    at (cases_eq y x) (or_parts (p y) (list_any p ys) none).0 (any_none p ys (or_parts (p y) (list_any p ys) none).1 x)
  where
    left : (a b c : ℕ) → a ≡ b + c → b ≡ 0 → 0 < a → 0 < c
    left a b c e f h = omega (arith, e, f, h)

    at : (y ≡ x) ⊎ (y ≡ x → ⊥) → p y ≡ false → (0 < number_in ys x → p x ≡ false) → p x ≡ false
    at (inl same) here others = ap p (sym same) ∙ here
    at (inr differ) here others =
        others (left (number_in (y ∷ ys) x) (cond (eqb y x) 1 0) (number_in ys x) (sum_by-cons (λ (z : ℕ). cond (eqb z x) 1 0) y ys) (ap (λ (b : Bool). cond b 1 0) (ne_eqb y x differ)) some)

-- Where an answer isn't refused as not held, each face is held as often as it is named.
named_held : (view : SeatView) (named : List ℕ) → list_any (λ face. nat_lt (held_count view face) (number_in named face)) named ≡ false →
    (face : ℕ) → number_in named face ≤ held_count view face
named_held view named none face = at (cases_lt 0 (number_in named face))
  where
    at : (0 < number_in named face) ⊎ (number_in named face ≤ 0) → number_in named face ≤ held_count view face
    at (inl some) = ltb-false (held_count view face) (number_in named face) (any_none (λ f. nat_lt (held_count view f) (number_in named f)) named none face some)
    at (inr nothing) = omega (arith, nothing)

-- A tile is the plain one of a kind, or its red five: it counts once.
abbrev red_one : Option ℕ → ℕ → ℕ
red_one None x = 0
red_one (Some red) x = cond (eqb x red) 1 0

abbrev one_in : ℕ → Option ℕ → ℕ → ℕ
one_in kind red x = cond (eqb x kind) 1 0 + red_one red x

abbrev Counts : ℕ → Option ℕ → ℕ → Type 0
Counts kind red x = 1 ≤ one_in kind red x

plain_counts : (kind : ℕ) (red : Option ℕ) → Counts kind red kind
plain_counts kind red = some _ _ (ap (λ (b : Bool). cond b 1 0) (eq-eqb kind kind refl))
  where
    some : (a b : ℕ) → a ≡ 1 → 1 ≤ a + b
    some a b e = omega (arith, e)

red_counts : (kind red : ℕ) → Counts kind (Some red) red
red_counts kind red = some _ _ (ap (λ (b : Bool). cond b 1 0) (eq-eqb red red refl))
  where
    some : (a b : ℕ) → b ≡ 1 → 1 ≤ a + b
    some a b e = omega (arith, e)

all_count : (kind : ℕ) (red : Option ℕ) → All (Counts kind red) (kind ∷ option_to_list red)
all_count kind None = All-cons (Counts kind None) kind [] (plain_counts kind None) (All-nil (Counts kind None))
all_count kind (Some red) =
    All-cons (Counts kind (Some red)) kind (red ∷ []) (plain_counts kind (Some red))
    (All-cons (Counts kind (Some red)) red [] (red_counts kind red) (All-nil (Counts kind (Some red))))

-- How often the tiles of a kind are named.
abbrev red_number : Option ℕ → List ℕ → ℕ
red_number None named = 0
red_number (Some red) named = number_in named red

abbrev number_with : ℕ → Option ℕ → List ℕ → ℕ
number_with kind red named = number_in named kind + red_number red named

number_more : (kind : ℕ) (red : Option ℕ) (x : ℕ) (xs : List ℕ) → number_with kind red (x ∷ xs) ≡ one_in kind red x + number_with kind red xs
number_more kind None x xs = plain _ _ _ (sum_by-cons (λ (z : ℕ). cond (eqb z kind) 1 0) x xs)
  where
    plain : (a b c : ℕ) → a ≡ b + c → a + 0 ≡ (b + 0) + (c + 0)
    plain a b c e = omega (arith, e)
number_more kind (Some red) x xs =
    both _ _ _ _ _ _ (sum_by-cons (λ (z : ℕ). cond (eqb z kind) 1 0) x xs) (sum_by-cons (λ (z : ℕ). cond (eqb z red) 1 0) x xs)
  where
    both : (a b c d e f : ℕ) → a ≡ b + c → d ≡ e + f → a + d ≡ (b + e) + (c + f)
    both a b c d e f p q = omega (arith, p, q)

named_count : (kind : ℕ) (red : Option ℕ) (named : List ℕ) → All (Counts kind red) named → length named ≤ number_with kind red named
named_count kind red [] all = omega arith
named_count kind red (x ∷ xs) all =
    more (number_with kind red (x ∷ xs)) (one_in kind red x) (number_with kind red xs) (length xs) (number_more kind red x xs)
    (All-head (Counts kind red) x xs all) (named_count kind red xs (All-tail (Counts kind red) x xs all))
  where
    more : (a b c n : ℕ) → a ≡ b + c → 1 ≤ b → n ≤ c → suc n ≤ a
    more a b c n e f g = omega (arith, e, f, g)

named_with : (view : SeatView) (named : List ℕ) → list_any (λ face. nat_lt (held_count view face) (number_in named face)) named ≡ false →
    (kind : ℕ) (red : Option ℕ) → number_with kind red named ≤ held_with view kind red
named_with view named none kind None = plain _ _ (named_held view named none kind)
  where
    plain : (a b : ℕ) → a ≤ b → a + 0 ≤ b + 0
    plain a b h = omega (arith, h)
named_with view named none kind (Some red) = both _ _ _ _ (named_held view named none kind) (named_held view named none red)
  where
    both : (a b c d : ℕ) → a ≤ b → c ≤ d → a + c ≤ b + d
    both a b c d h k = omega (arith, h, k)

-- Fewer are held than are named.
too_few : (view : SeatView) (kind : ℕ) (red : Option ℕ) (named : List ℕ) → All (Counts kind red) named → held_with view kind red < length named →
    list_any (λ face. nat_lt (held_count view face) (number_in named face)) named ≡ false → ⊥
too_few view kind red named all few none =
    no (length named) (number_with kind red named) (held_with view kind red) (named_count kind red named all) (named_with view named none kind red) few
  where
    no : (n a b : ℕ) → n ≤ a → a ≤ b → b < n → ⊥
    no n a b h k l = omega (arith, h, k, l)

-- Fewer are held than are named behind a first tile, whatever that is.
too_few_behind : (view : SeatView) (kind : ℕ) (red : Option ℕ) (first : ℕ) (named : List ℕ) → All (Counts kind red) named → held_with view kind red < length named →
    list_any (λ face. nat_lt (held_count view face) (number_in (first ∷ named) face)) (first ∷ named) ≡ false → ⊥
too_few_behind view kind red first named all few none =
    no (length named) (one_in kind red first) (number_with kind red named) (number_with kind red (first ∷ named)) (held_with view kind red)
    (named_count kind red named all) (number_more kind red first named) (named_with view (first ∷ named) none kind red) few
  where
    no : (n o a b h : ℕ) → n ≤ a → b ≡ o + a → b ≤ h → h < n → ⊥
    no n o a b h e f g l = omega (arith, e, f, g, l)

few_pon : (rules : Rules) (seat : ℕ) (view : SeatView) (who tile kind : ℕ) (red : Option ℕ) (a b : ℕ) → held_with view kind red < 2 → Counts kind red a → Counts kind red b →
    Fails rules seat view (Pon seat who (Known tile) (Known a) (Known b))
few_pon rules seat view who tile kind red a b few first second = false_from_ne_true (is_lawful rules seat view (Pon seat who (Known tile) (Known a) (Known b)))
    (λ lawful. too_few view kind red (a ∷ b ∷ []) (All-cons (Counts kind red) a (b ∷ []) first (All-cons (Counts kind red) b [] second (All-nil (Counts kind red)))) few
    (lawful_clear rules seat view (Pon seat who (Known tile) (Known a) (Known b)) lawful).1.1.1.1.1.1.0)

few_open_kan : (rules : Rules) (seat : ℕ) (view : SeatView) (who tile kind : ℕ) (red : Option ℕ) (a b c : ℕ) → held_with view kind red < 3 → Counts kind red a → Counts kind red b → Counts kind red c →
    Fails rules seat view (OpenKan seat who (Known tile) (Known a) (Known b) (Known c))
few_open_kan rules seat view who tile kind red a b c few first second third = false_from_ne_true (is_lawful rules seat view (OpenKan seat who (Known tile) (Known a) (Known b) (Known c)))
    (λ lawful. too_few view kind red (a ∷ b ∷ c ∷ [])
    (All-cons (Counts kind red) a (b ∷ c ∷ []) first (All-cons (Counts kind red) b (c ∷ []) second (All-cons (Counts kind red) c [] third (All-nil (Counts kind red))))) few
    (lawful_clear rules seat view (OpenKan seat who (Known tile) (Known a) (Known b) (Known c)) lawful).1.1.1.1.1.1.0)

few_closed_kan : (rules : Rules) (seat : ℕ) (view : SeatView) (kind : ℕ) (red : Option ℕ) (a b c d : ℕ) → held_with view kind red < 3 → Counts kind red b → Counts kind red c → Counts kind red d →
    Fails rules seat view (ClosedKan seat (Known a) (Known b) (Known c) (Known d))
few_closed_kan rules seat view kind red a b c d few first second third = false_from_ne_true (is_lawful rules seat view (ClosedKan seat (Known a) (Known b) (Known c) (Known d)))
    (λ lawful. too_few_behind view kind red a (b ∷ c ∷ d ∷ [])
    (All-cons (Counts kind red) b (c ∷ d ∷ []) first (All-cons (Counts kind red) c (d ∷ []) second (All-cons (Counts kind red) d [] third (All-nil (Counts kind red))))) few
    (lawful_clear rules seat view (ClosedKan seat (Known a) (Known b) (Known c) (Known d)) lawful).1.1.1.1.1.1.0)

-- Fewer than four, the first tile too.
few_four : (rules : Rules) (seat : ℕ) (view : SeatView) (kind : ℕ) (red : Option ℕ) (a b c d : ℕ) → held_with view kind red < 4 →
    Counts kind red a → Counts kind red b → Counts kind red c → Counts kind red d →
    Fails rules seat view (ClosedKan seat (Known a) (Known b) (Known c) (Known d))
few_four rules seat view kind red a b c d few own first second third = false_from_ne_true (is_lawful rules seat view (ClosedKan seat (Known a) (Known b) (Known c) (Known d)))
    (λ lawful. too_few view kind red (a ∷ b ∷ c ∷ d ∷ [])
    (All-cons (Counts kind red) a (b ∷ c ∷ d ∷ []) own (All-cons (Counts kind red) b (c ∷ d ∷ []) first
    (All-cons (Counts kind red) c (d ∷ []) second (All-cons (Counts kind red) d [] third (All-nil (Counts kind red)))))) few
    (lawful_clear rules seat view (ClosedKan seat (Known a) (Known b) (Known c) (Known d)) lawful).1.1.1.1.1.1.0)

-- Lists over faces that each are so.
all_joined_of : (P : Answer → Type 0) (Q : ℕ → Type 0) (f : ℕ → List Answer) (faces : List ℕ) → All Q faces → ((a : ℕ) → Q a → All P (f a)) → All P (flat_map f faces)
all_joined_of P Q f faces all each = All-flat_map P f faces (λ k d inside. each _ (all k d inside))

all_mapped_of : (P : Answer → Type 0) (Q : ℕ → Type 0) (g : ℕ → Answer) (faces : List ℕ) → All Q faces → ((a : ℕ) → Q a → P (g a)) → All P (map g faces)
all_mapped_of P Q g faces all each = All-map P g faces (λ k d inside. each _ (all k d inside))

no_pons : (rules : Rules) (ds : List Deed) (seat who tile kind : ℕ) (red : Option ℕ) (faces : List ℕ) → All (Counts kind red) faces → held_with (view_of ds seat) kind red < 2 →
    lawful_among rules ds seat (pons_of seat who tile faces) ≡ []
unfolding lawful_among
no_pons rules ds seat who tile kind red faces all few =
    let view = view_of ds seat in
    none_pass (is_lawful rules seat view) (pons_of seat who tile faces)
    (all_joined_of (Fails rules seat view) (Counts kind red) (λ a. map (λ b. Pon seat who (Known tile) (Known a) (Known b)) faces) faces all
    (λ a first. all_mapped_of (Fails rules seat view) (Counts kind red) (λ b. Pon seat who (Known tile) (Known a) (Known b)) faces all
    (λ b second. few_pon rules seat view who tile kind red a b few first second)))

no_open_kans : (rules : Rules) (ds : List Deed) (seat who tile kind : ℕ) (red : Option ℕ) (faces : List ℕ) → All (Counts kind red) faces → held_with (view_of ds seat) kind red < 3 →
    lawful_among rules ds seat (open_kans_of seat who tile faces) ≡ []
unfolding lawful_among
no_open_kans rules ds seat who tile kind red faces all few =
    let view = view_of ds seat in
    none_pass (is_lawful rules seat view) (open_kans_of seat who tile faces)
    (all_joined_of (Fails rules seat view) (Counts kind red) (λ a. flat_map (λ b. map (λ c. OpenKan seat who (Known tile) (Known a) (Known b) (Known c)) faces) faces) faces all
    (λ a first. all_joined_of (Fails rules seat view) (Counts kind red) (λ b. map (λ c. OpenKan seat who (Known tile) (Known a) (Known b) (Known c)) faces) faces all
    (λ b second. all_mapped_of (Fails rules seat view) (Counts kind red) (λ c. OpenKan seat who (Known tile) (Known a) (Known b) (Known c)) faces all
    (λ c third. few_open_kan rules seat view who tile kind red a b c few first second third))))

no_closed_kans_with : (rules : Rules) (ds : List Deed) (seat a kind : ℕ) (red : Option ℕ) (faces : List ℕ) → All (Counts kind red) faces →
    ((b c d : ℕ) → Counts kind red b → Counts kind red c → Counts kind red d → Fails rules seat (view_of ds seat) (ClosedKan seat (Known a) (Known b) (Known c) (Known d))) →
    lawful_among rules ds seat (closed_kans_of seat a faces) ≡ []
unfolding lawful_among
no_closed_kans_with rules ds seat a kind red faces all fails =
    let view = view_of ds seat in
    none_pass (is_lawful rules seat view) (closed_kans_of seat a faces)
    (all_joined_of (Fails rules seat view) (Counts kind red) (λ b. flat_map (λ c. map (λ d. ClosedKan seat (Known a) (Known b) (Known c) (Known d)) faces) faces) faces all
    (λ b first. all_joined_of (Fails rules seat view) (Counts kind red) (λ c. map (λ d. ClosedKan seat (Known a) (Known b) (Known c) (Known d)) faces) faces all
    (λ c second. all_mapped_of (Fails rules seat view) (Counts kind red) (λ d. ClosedKan seat (Known a) (Known b) (Known c) (Known d)) faces all
    (λ d third. fails b c d first second third))))

-- The faces of a kind are its plain tile and its red five.
kind_counts_all : (kind : ℕ) → kind < 34 → All (Counts kind (red_of kind)) (faces_of kind)
kind_counts_all kind low = subst (All (Counts kind (red_of kind))) (sym (faces_are kind low)) (all_count kind (red_of kind))

-- What a table counts of them, each face up to four.
few_of : (plain red counted n : ℕ) → n ≤ 4 → counted ≡ min plain 4 + min red 4 → counted < n → plain + red < n
few_of plain red counted n four is few = omega (arith, four, is, few)

-- Fewer than two of its kind: no pon, and no kan of the discard.
pub no_same : (rules : Rules) (ds : List Deed) (seat who tile kind counted : ℕ) → kind_of tile < 34 → kind ≡ kind_of tile →
    counted ≡ min (held_count (view_of ds seat) kind) 4 + min (red_held (view_of ds seat) (red_of kind)) 4 → counted < 2 →
    lawful_among rules ds seat (pons_of seat who tile (faces_of (kind_of tile)) ++ open_kans_of seat who tile (faces_of (kind_of tile))) ≡ []
no_same rules ds seat who tile kind counted low same is few =
    lawful-append rules ds seat (pons_of seat who tile (faces_of (kind_of tile))) (open_kans_of seat who tile (faces_of (kind_of tile)))
    ∙ ap (λ (xs : List Answer). xs ++ lawful_among rules ds seat (open_kans_of seat who tile (faces_of (kind_of tile))))
    (no_pons rules ds seat who tile (kind_of tile) (red_of (kind_of tile)) (faces_of (kind_of tile)) (kind_counts_all (kind_of tile) low) held)
    ∙ no_open_kans rules ds seat who tile (kind_of tile) (red_of (kind_of tile)) (faces_of (kind_of tile)) (kind_counts_all (kind_of tile) low) (omega (arith, held))
  where
    held : held_with (view_of ds seat) (kind_of tile) (red_of (kind_of tile)) < 2
    held = subst (λ (k : ℕ). held_with (view_of ds seat) k (red_of k) < 2) same
        (few_of (held_count (view_of ds seat) kind) (red_held (view_of ds seat) (red_of kind)) counted 2 (omega arith) is few)

-- Fewer than three of its kind: no kan of four concealed tiles.
pub no_four : (rules : Rules) (ds : List Deed) (seat a kind counted : ℕ) → kind_of a < 34 → kind ≡ kind_of a →
    counted ≡ min (held_count (view_of ds seat) kind) 4 + min (red_held (view_of ds seat) (red_of kind)) 4 → counted < 3 →
    lawful_among rules ds seat (closed_kans_of seat a (faces_of (kind_of a))) ≡ []
no_four rules ds seat a kind counted low same is few =
    no_closed_kans_with rules ds seat a (kind_of a) (red_of (kind_of a)) (faces_of (kind_of a)) (kind_counts_all (kind_of a) low)
    (λ b c d. few_closed_kan rules seat (view_of ds seat) (kind_of a) (red_of (kind_of a)) a b c d held)
  where
    held : held_with (view_of ds seat) (kind_of a) (red_of (kind_of a)) < 3
    held = subst (λ (k : ℕ). held_with (view_of ds seat) k (red_of k) < 3) same
        (few_of (held_count (view_of ds seat) kind) (red_held (view_of ds seat) (red_of kind)) counted 3 (omega arith) is few)

-- A list over faces of each of which nothing is lawful.
none_joined : (rules : Rules) (ds : List Deed) (seat : ℕ) (f : ℕ → List Answer) (p : ℕ → Bool) (faces : List ℕ) → list_all p faces ≡ true →
    ((a : ℕ) → p a ≡ true → lawful_among rules ds seat (f a) ≡ []) →
    lawful_among rules ds seat (flat_map f faces) ≡ []
unfolding lawful_among
none_joined rules ds seat f p [] all each = refl
none_joined rules ds seat f p (a ∷ faces) all each =
    let parts = and_parts (p a) (list_all p faces) all in
    ap (lawful_among rules ds seat) (flat_map-cons f a faces) ∙ lawful-append rules ds seat (f a) (flat_map f faces)
    ∙ ap (λ (xs : List Answer). xs ++ lawful_among rules ds seat (flat_map f faces)) (each a parts.0)
    ∙ none_joined rules ds seat f p faces parts.1 each

-- Each face is of one of the kinds, and counts as one of it.
is_of_kind : ℕ → Bool
is_of_kind face = ltb (kind_of face) 34 && ltb 0 (one_in (kind_of face) (red_of (kind_of face)) face)

all_of_kinds : list_all is_of_kind tile_order ≡ true
unfolding is_of_kind tile_order
all_of_kinds = refl

-- Fewer than four of each kind: no kan of four concealed tiles at all.
pub no_fours : (rules : Rules) (ds : List Deed) (seat : ℕ) → ((kind : ℕ) → kind < 34 → held_with (view_of ds seat) kind (red_of kind) < 4) → lawful_among rules ds seat (all_closed_kans seat) ≡ []
unfolding all_closed_kans is_of_kind
no_fours rules ds seat few = none_joined rules ds seat (λ a. closed_kans_of seat a (faces_of (kind_of a))) is_of_kind tile_order all_of_kinds each
  where
    each : (a : ℕ) → is_of_kind a ≡ true → lawful_among rules ds seat (closed_kans_of seat a (faces_of (kind_of a))) ≡ []
    each a h =
        let parts = and_parts (ltb (kind_of a) 34) (ltb 0 (one_in (kind_of a) (red_of (kind_of a)) a)) h in
        let low : kind_of a < 34 = ltb-true (kind_of a) 34 parts.0 in
        no_closed_kans_with rules ds seat a (kind_of a) (red_of (kind_of a)) (faces_of (kind_of a)) (kind_counts_all (kind_of a) low)
        (λ b c d. few_four rules seat (view_of ds seat) (kind_of a) (red_of (kind_of a)) a b c d (few (kind_of a) low)
        (some _ (ltb-true 0 (one_in (kind_of a) (red_of (kind_of a)) a) parts.1)))
      where
        some : (n : ℕ) → 0 < n → 1 ≤ n
        some n h = omega (arith, h)
