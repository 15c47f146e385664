-- No two triplets of a seat are of one kind: after played deeds a seat has put down two tiles of the kind for each, and another seat, or
-- it itself, has discarded a third.
use Rattle.std.proofs.Common.{◌≡◌, ◌≢◌, ℕ, zero, suc, ◌+◌, ◌-◌, ◌*◌, ◌%◌, ◌<◌, ◌≤◌, ◌==◌, ◌&&◌, ◌⊎◌, inl, inr, Bool, true, false}
use Rattle.std.proofs.Common.{cond, eqb, List, [], ◌∷◌, ◌++◌, length, get_or, take, refl, ap, sym, ◌∙◌, subst, arith}
use Rattle.std.specs.Prelude.{All, AllPairs, Option, Some, None, count_by, sum_by, filter, flat_map, map, nat_lt, slice_get}
use Rattle.std.specs.List.{list_all, list_any}
use Rattle.std.proofs.lemmas.Bool.{cases_eq, cases_lt, eqb-true, eq-eqb, ne_eqb, and_parts, and_from}
use Rattle.std.proofs.lemmas.List.Concat.{flat_map-cons}
use Rattle.std.proofs.lemmas.List.Elements.{All-nil, All-cons}
use Rattle.std.proofs.lemmas.List.Folds.{list_all-append}
use Rattle.std.proofs.lemmas.List.Kept.{AllPairs-cons}
use Rattle.std.proofs.lemmas.List.Sums.{sum_by-cons, sum_by-append, sum_by_push, sum_by-take-le}
use Rattle.mj_tiles.specs.Faces.{kind_of, number_in, in_tile_order}
use Rattle.mj_tiles.specs.Counts.{number_of}
use Rattle.mj_tiles.proofs.CountSteps.{number_of-append}
use Rattle.mj_tiles.specs.declared.meld.Meld.{Meld}
use Rattle.mj_tiles.specs.declared.meld.Form.TheVariants as forms
use Rattle.mj_deeds.specs.declared.deed.Deed.{Deed}
use Rattle.mj_deeds.specs.declared.deed.Deed.TheVariants.{Discard, Chi, Pon, OpenKan, ClosedKan, ReachAccepted}
use Rattle.mj_deeds.specs.Facts.{newest, before_newest, losses_by, tiles_gained, tiles_lost, makes_by, adds_by, seat_melds, is_pon, with_added, meld_of_three, meld_of_four}
use Rattle.mj_deeds.specs.Fits.{brought_by, fits, all_fit, ground_of, is_in_hand, taken_from, is_discard_of, has_seats, has_tiles, is_face}
use Rattle.mj_deeds.specs.Hand.{is_hand_start, from_last, hand, before_in}
use Rattle.mj_deeds.proofs.Fitted.{Parts, Placed, parts_of, kept, kept_in_hand, all_fit-append, hand_begun, hand_real, four_of_kind}
use Rattle.mj_deeds.proofs.Gained.{two_gained}
use Rattle.mj_deeds.proofs.HandSteps.{hand_with, hand_before}
use Rattle.mj_deeds.proofs.RealTiles.{order_passes}
use Rattle.mj_wall.proofs.TileOrder.{number-cons, count_by-in_tile_order}
use Rattle.mj_wall.specs.Places.{is_wall}
use Rattle.mj_wall.specs.declared.setting.Rules.{Rules}
use Rattle.mj_rules.specs.Laws.{PlayedInTurn}
use Rattle.mj_rules.specs.Outcome.{wall_of}
use Rattle.mj_rules.specs.Played.{AllPlayed, IsPlayed}
use Rattle.mj_rules.specs.Possible.{triplets}
use Rattle.mj_rules.specs.View.{view_of}
use Rattle.mj_rules.proofs.Given.{small_face}
use Rattle.mj_rules.proofs.Kept.{first_seat, is_even}
use Rattle.mj_rules.proofs.ListedOrder.{listed_in_turn}
use Rattle.mj_rules.proofs.Precedence.{small_kind}
use Rattle.mj_rules.proofs.Playing.{Sound, played_sound, played_more, behind_adds}
use Rattle.mj_rules.proofs.Promises.{newest_in}
use Rattle.mj_rules.proofs.TilesLess.{without, number_without, count_all, count_without}

-- every pon is of one kind

all_even : (rules : Rules) (walls : List (List ℕ)) (before ds : List Deed) → ((number : ℕ) → is_wall rules.red (wall_of walls number) ≡ true) →
    IsPlayed rules walls before → AllPlayed rules walls before ds →
    list_all is_even ds ≡ true
all_even rules walls before [] whole old played = refl
all_even rules walls before (d ∷ ds) whole old played =
    and_from (is_even d) _ (behind_adds rules walls before d (played_sound rules walls before whole old) played.0).next.even
    (all_even rules walls (before ++ d ∷ []) ds whole (played_more rules walls before d old played.0) played.1)

-- What every deed passes every deed of the newest hand does.
last_pass : (test : Deed → Bool) (ds : List Deed) → list_all test ds ≡ true → list_all test (from_last is_hand_start ds) ≡ true
last_pass test [] h = refl
last_pass test (d ∷ ds) h =
    let parts = and_parts (test d) (list_all test ds) h in
    by_tests (list_any is_hand_start ds) (is_hand_start d) (last_pass test ds parts.1)
  where
    by_tests : (a b : Bool) → list_all test (from_last is_hand_start ds) ≡ true → list_all test (cond a (from_last is_hand_start ds) (cond b (d ∷ ds) [])) ≡ true
    by_tests true b k = k
    by_tests false true k = h
    by_tests false false k = refl

hand_even : (rules : Rules) (walls : List (List ℕ)) (ds : List Deed) → ((number : ℕ) → is_wall rules.red (wall_of walls number) ≡ true) → IsPlayed rules walls ds → list_all is_even (hand ds) ≡ true
unfolding hand
hand_even rules walls ds whole played = last_pass is_even ds (all_even rules walls [] ds whole tt played)

-- what a seat puts down for its pons

-- A deed is the pon of a seat, of a kind; and a discard of it.
abbrev pon_at : ℕ → ℕ → Deed → ℕ
pon_at seat kind (Pon who target tile a b) = cond (eqb who seat && eqb (kind_of tile) kind) 1 0
pon_at seat kind other = 0

abbrev out_at : ℕ → ℕ → Deed → ℕ
out_at seat kind (Discard who tile drawn) = cond (eqb who seat && eqb (kind_of tile) kind) 1 0
out_at seat kind other = 0

one_down : (seat kind : ℕ) (d : Deed) → is_even d ≡ true → 2 * pon_at seat kind d + out_at seat kind d ≤ number_of (losses_by seat d) kind
one_down seat kind (Pon who target tile a b) h = by_seat (eqb who seat)
  where
    parts : ((eqb (kind_of tile) (kind_of a)) ≡ true) × ((eqb (kind_of tile) (kind_of b)) ≡ true)
    parts = and_parts (eqb (kind_of tile) (kind_of a)) (eqb (kind_of tile) (kind_of b)) h

    as_first : kind_of tile ≡ kind_of a
    as_first = eqb-true (kind_of tile) (kind_of a) parts.0

    as_second : kind_of tile ≡ kind_of b
    as_second = eqb-true (kind_of tile) (kind_of b) parts.1

    two : (c : Bool) → 2 * cond c 1 0 + 0 ≤ 0 + cond c 1 0 + cond c 1 0
    two true = omega arith
    two false = omega arith

    same : 2 * cond (eqb (kind_of tile) kind) 1 0 + 0 ≤ 0 + cond (eqb (kind_of a) kind) 1 0 + cond (eqb (kind_of b) kind) 1 0
    same = subst (λ (k : ℕ). 2 * cond (eqb (kind_of tile) kind) 1 0 + 0 ≤ 0 + cond (eqb (kind_of a) kind) 1 0 + cond (eqb k kind) 1 0) as_second
        (subst (λ (k : ℕ). 2 * cond (eqb (kind_of tile) kind) 1 0 + 0 ≤ 0 + cond (eqb k kind) 1 0 + cond (eqb (kind_of tile) kind) 1 0) as_first (two (eqb (kind_of tile) kind)))

    by_seat : (s : Bool) → 2 * cond (s && eqb (kind_of tile) kind) 1 0 + 0 ≤ number_of (cond s (a ∷ b ∷ []) []) kind
    by_seat true = same
    by_seat false = omega arith
one_down seat kind (Discard who tile drawn) h = by_seat (eqb who seat)
  where
    by_kind : (c : Bool) → 2 * 0 + cond c 1 0 ≤ 0 + cond c 1 0
    by_kind true = omega arith
    by_kind false = omega arith

    by_seat : (s : Bool) → 2 * 0 + cond (s && eqb (kind_of tile) kind) 1 0 ≤ number_of (cond s (tile ∷ []) []) kind
    by_seat true = by_kind (eqb (kind_of tile) kind)
    by_seat false = omega arith
one_down seat kind other h = omega arith

put_down : (seat kind : ℕ) (hs : List Deed) → list_all is_even hs ≡ true → 2 * sum_by (pon_at seat kind) hs + sum_by (out_at seat kind) hs ≤ number_of (tiles_lost hs seat) kind
put_down seat kind [] h = omega arith
put_down seat kind (d ∷ hs) h =
    let parts = and_parts (is_even d) (list_all is_even hs) h in
    sum _ _ _ _ _ _ _ _ _
    (sum_by-cons (pon_at seat kind) d hs) (sum_by-cons (out_at seat kind) d hs)
    (ap (λ (xs : List ℕ). number_of xs kind) (flat_map-cons (losses_by seat) d hs) ∙ number_of-append (losses_by seat d) (tiles_lost hs seat) kind)
    (one_down seat kind d parts.0) (put_down seat kind hs parts.1)
  where
    sum : (p o l a b c e f g : ℕ) → p ≡ a + b → o ≡ c + e → l ≡ f + g → 2 * a + c ≤ f → 2 * b + e ≤ g → 2 * p + o ≤ l
    sum p o l a b c e f g h i j k m = omega (arith, h, i, j, k, m)

-- what was discarded before a pon

-- A deed that is in a list adds to its sums.
among : (f : Deed → ℕ) (hs : List Deed) (i : ℕ) (d : Deed) → slice_get hs i ≡ Some d → f d ≤ sum_by f hs
among f [] i d e = absurd (none e)
  where
    none : None ≡ Some d → ⊥
    none e = cc
among f (h ∷ hs) zero d e = first _ _ _ _ (sum_by-cons f h hs) (ap f (is h d e))
  where
    is : (x y : Deed) → Some x ≡ Some y → x ≡ y
    is x y e = cc

    first : (s a b c : ℕ) → s ≡ a + b → a ≡ c → c ≤ s
    first s a b c e g = omega (arith, e, g)
among f (h ∷ hs) (suc i) d e = later _ _ _ _ (sum_by-cons f h hs) (among f hs i d e)
  where
    later : (s a b c : ℕ) → s ≡ a + b → c ≤ b → c ≤ s
    later s a b c e g = omega (arith, e, g)

-- Some seat has discarded a tile of a kind.
abbrev Gone : List Deed → ℕ → Type 0
Gone hs kind = (who : ℕ) × ((who < 4) × (0 < sum_by (out_at who kind) hs))

gone_more : (hs : List Deed) (d : Deed) (kind : ℕ) → Gone hs kind → Gone (hs ++ d ∷ []) kind
gone_more hs d kind g = (g.0, (g.1.0, more _ _ _ (sum_by_push (out_at g.0 kind) hs d) g.1.1))
  where
    more : (s a b : ℕ) → s ≡ a + b → 0 < a → 0 < s
    more s a b e h = omega (arith, e, h)

-- A discard that may be taken is in the hand.
offered : (hs : List Deed) (n : Option Deed) (target tile : ℕ) → (is_in_hand n ≡ true → newest hs ≡ n) → is_discard_of (taken_from hs n) target tile ≡
    true → 0 < sum_by (out_at target (kind_of tile)) hs
offered hs n target tile there h = by_newest n there h
  where
    out : (who t : ℕ) (drawn : Bool) → (eqb who target && eqb t tile) ≡ true → out_at target (kind_of tile) (Discard who t drawn) ≡ 1
    out who t drawn h =
        let parts = and_parts (eqb who target) (eqb t tile) h in
        (λ i. cond (parts.0 i && eqb (kind_of (eqb-true t tile parts.1 i)) (kind_of tile)) 1 0)
        ∙ ap (λ b. cond b 1 0) (eq-eqb (kind_of tile) (kind_of tile) refl)

    some : (s a : ℕ) → a ≡ 1 → a ≤ s → 0 < s
    some s a e h = omega (arith, e, h)

    within : (s t a : ℕ) → a ≡ 1 → a ≤ t → t ≤ s → 0 < s
    within s t a e h k = omega (arith, e, h, k)

    before : List Deed
    before = take (length hs - 1) hs

    by_before : (o : Option Deed) → newest before ≡ o → is_discard_of o target tile ≡ true → 0 < sum_by (out_at target (kind_of tile)) hs
    by_before (Some (Discard who t drawn)) e h =
        within _ _ _ (out who t drawn h) (among (out_at target (kind_of tile)) before (length before - 1) (Discard who t drawn) e) (sum_by-take-le (out_at target (kind_of tile)) hs (length hs - 1))
    by_before None e h = cc
    by_before (Some other) e h = cc

    by_newest : (o : Option Deed) → (is_in_hand o ≡ true → newest hs ≡ o) → is_discard_of (taken_from hs o) target tile ≡ true → 0 < sum_by (out_at target (kind_of tile)) hs
    by_newest (Some (Discard who t drawn)) e h = some _ _ (out who t drawn h) (among (out_at target (kind_of tile)) hs (length hs - 1) (Discard who t drawn) (e refl))
    by_newest (Some (ReachAccepted who said bid)) e h = by_before (before_newest hs) refl h
    by_newest None e h = cc
    by_newest (Some other) e h = cc

-- Where a seat has a pon of a kind some seat has discarded one.
abbrev Taken : List Deed → Type 0
Taken hs = (seat kind : ℕ) → 0 < sum_by (pon_at seat kind) hs → Gone hs kind

taken_step : (red : Bool) (ds : List Deed) (d : Deed) → all_fit red [] ds ≡ true → Placed red ds d → Taken (before_in (hand ds) d) → Taken (before_in (hand ds) d ++ d ∷ [])
unfolding ground_of
taken_step red ds (Pon who target tile a b) fit p old = λ seat kind h. by_test seat kind (eqb who seat && eqb (kind_of tile) kind) refl
    (λ k. old seat kind k) (some _ _ _ (sum_by_push (pon_at seat kind) (hand ds) d) h)
  where
    d : Deed
    d = Pon who target tile a b

    some : (s n m : ℕ) → s ≡ n + m → 0 < s → 0 < n + m
    some s n m e h = omega (arith, e, h)

    given : target < 4
    given = first_seat target true (and_parts (nat_lt who 4) (nat_lt target 4 && true) p.inside.seats).1

    there : is_in_hand (newest ds) ≡ true → newest (hand ds) ≡ newest ds
    there begun = newest_in ds begun (hand_begun red ds fit begun)

    gone : Gone (hand ds) (kind_of tile)
    gone = (target, (given, offered (hand ds) (newest ds) target tile there p.place))

    by_test : (seat kind : ℕ) (t : Bool) → (eqb who seat && eqb (kind_of tile) kind) ≡ t → (0 < sum_by (pon_at seat kind) (hand ds) →
        Gone (hand ds) kind) → 0 < sum_by (pon_at seat kind) (hand ds) + cond t 1 0 →
        Gone (hand ds ++ d ∷ []) kind
    by_test seat kind true is old h = gone_more (hand ds) d kind (subst (Gone (hand ds)) (eqb-true (kind_of tile) kind (and_parts (eqb who seat) (eqb (kind_of tile) kind) is).1) gone)
    by_test seat kind false is old h = gone_more (hand ds) d kind (old (omega (arith, h)))
taken_step red ds other fit p old = λ seat kind h. gone_more (before_in (hand ds) other) other kind (old seat kind (less _ _ (sum_by_push (pon_at seat kind) (before_in (hand ds) other) other) h))
  where
    less : (s n : ℕ) → s ≡ n + 0 → 0 < s → 0 < n
    less s n e h = omega (arith, e, h)

taken_in_hand : (red : Bool) (ds : List Deed) → all_fit red [] ds ≡ true → Taken (hand ds)
unfolding hand
taken_in_hand red ds fit = (kept (λ xs. (all_fit red [] xs ≡ true) × Taken (hand xs)) red [] ds more (refl, none) fit).1
  where
    none : Taken []
    none seat kind h = absurd (omega (arith, h))

    more : (xs : List Deed) (d : Deed) → (all_fit red [] xs ≡ true) × Taken (hand xs) → fits red xs d ≡ true → (all_fit red [] (xs ++ d ∷ []) ≡ true) × Taken (hand (xs ++ d ∷ []))
    more xs d h f = (
      all_fit-append red [] xs d h.0 f,
      hand_with Taken xs d (λ _ _. none) (taken_step red xs d h.0 (parts_of red xs d f) (hand_before Taken (hand xs) d none h.1)),
    )

-- so a seat has one pon of a kind at most

-- Of tiles that are all among others as many pass a test.
count_within : (test : ℕ → Bool) (xs ys : List ℕ) → ((face : ℕ) → number_in ys face ≤ number_in xs face) → count_by test ys ≤ count_by test xs
count_within test xs [] within = omega arith
count_within test xs (y ∷ ys) within =
    sum _ _ _ _ _ (sum_by-cons (λ t. cond (test t) 1 0) y ys) (count_without test xs y (some _ _ _ (number-cons y y ys) (ap {B = ℕ} (λ b. cond b 1 0) (eq-eqb y y refl)) (within y)))
    (count_within test (without xs y) ys each)
  where
    some : (n a l : ℕ) (e : n ≡ a + l) → a ≡ 1 → n ≤ number_in xs y → 0 < number_in xs y
    some n a l e f h = omega (arith, e, f, h)

    sum : (c a m n k : ℕ) → c ≡ a + m → n ≡ k + a → m ≤ k → c ≤ n
    sum c a m n k e f h = omega (arith, e, f, h)

    each : (face : ℕ) → number_in ys face ≤ number_in (without xs y) face
    each face = left _ _ _ _ _ (number-cons y face ys) (number_without xs y face) (within face)
      where
        left : (n a l w x : ℕ) → n ≡ a + l → w ≡ x - a → n ≤ x → l ≤ w
        left n a l w x e f h = omega (arith, e, f, h)

one_pon : (rules : Rules) (walls : List (List ℕ)) (ds : List Deed) (seat kind : ℕ) → ((number : ℕ) → is_wall rules.red (wall_of walls number) ≡ true) → IsPlayed rules walls ds → seat < 4 → kind < 34 →
    sum_by (pon_at seat kind) (hand ds) ≤ 1
one_pon rules walls ds seat kind whole played low small = by_number (cases_lt 1 (sum_by (pon_at seat kind) (hand ds)))
  where
    sound : Sound rules.red walls ds
    sound = played_sound rules walls ds whole played

    even : list_all is_even (hand ds) ≡ true
    even = hand_even rules walls ds whole played

    four : number_of (flat_map brought_by (hand ds)) kind ≤ 4
    four = four_of_kind rules.red ds kind small sound.fit

    held : (who : ℕ) → number_of (tiles_lost (hand ds) who) kind ≤ number_of (tiles_gained (hand ds) who) kind
    held who = count_within (λ t. eqb (kind_of t) kind) (tiles_gained (hand ds) who) (tiles_lost (hand ds) who) (sound.standing.held who)

    another : (who : ℕ) → who < 4 → who ≡ (who + 1) % 4 → ⊥
    another who low e = omega (arith, low, e)

    own : (p o l g x b : ℕ) → 1 < p → 0 < o → 2 * p + o ≤ l → l ≤ g → g + x ≤ b → b ≤ 4 → ⊥
    own p o l g x b h i j k m n = omega (arith, h, i, j, k, m, n)

    others : (p q l g o r m h b : ℕ) → 1 < p → 2 * p + q ≤ l → l ≤ g → 0 < o → r + o ≤ m → m ≤ h → g + h ≤ b → b ≤ 4 → ⊥
    others p q l g o r m h b e f i j k n s t = omega (arith, e, f, i, j, k, n, s, t)

    by_seat : 1 < sum_by (pon_at seat kind) (hand ds) → (g : Gone (hand ds) kind) → (seat ≡ g.0) ⊎ (seat ≡ g.0 → ⊥) → ⊥
    by_seat h g (inl e) =
        own _ _ _ _ _ _ h (subst (λ (s : ℕ). 0 < sum_by (out_at s kind) (hand ds)) (sym e) g.1.1) (put_down seat kind (hand ds) even) (held seat)
        (two_gained (hand ds) seat ((seat + 1) % 4) kind low (omega arith) (another seat low)) four
    by_seat h g (inr ne) =
        others _ _ _ _ _ _ _ _ _ h (put_down seat kind (hand ds) even) (held seat) g.1.1 (put_down g.0 kind (hand ds) even) (held g.0)
        (two_gained (hand ds) seat g.0 kind low g.1.0 ne) four

    some : (n : ℕ) → 1 < n → 0 < n
    some n h = omega (arith, h)

    by_number : (1 < sum_by (pon_at seat kind) (hand ds)) ⊎ (sum_by (pon_at seat kind) (hand ds) ≤ 1) → sum_by (pon_at seat kind) (hand ds) ≤ 1
    by_number (inl h) =
        let g = taken_in_hand rules.red ds sound.fit seat kind (some _ h) in
        absurd (by_seat h g (cases_eq seat g.0))
    by_number (inr h) = h

-- A seat above 3 has none, and nobody has one of no kind.
not_there : (red : Bool) (seat kind : ℕ) (d : Deed) → (4 ≤ seat) ⊎ (34 ≤ kind) → has_seats d ≡ true → has_tiles red d ≡ true → pon_at seat kind d ≡ 0
not_there red seat kind (Pon who target tile a b) (inl high) seats real =
    ap (λ t. cond (t && eqb (kind_of tile) kind) 1 0) (ne_eqb who seat (apart (first_seat who _ seats)))
  where
    apart : who < 4 → who ≡ seat → ⊥
    apart low e = omega (arith, low, e, high)
not_there red seat kind (Pon who target tile a b) (inr high) seats real =
    ap (λ t. cond (eqb who seat && t) 1 0) (ne_eqb (kind_of tile) kind (apart (small_kind tile (small_face red tile (and_parts (is_face red tile) _ real).0)))) ∙ neither (eqb who seat)
  where
    apart : kind_of tile < 34 → kind_of tile ≡ kind → ⊥
    apart low e = omega (arith, low, e, high)

    neither : (t : Bool) → ◌≡◌ {A = ℕ} (cond (t && false) 1 0) 0
    neither true = refl
    neither false = refl
not_there red seat kind other past seats real = refl

none_there : (red : Bool) (seat kind : ℕ) (hs : List Deed) → (4 ≤ seat) ⊎ (34 ≤ kind) → list_all has_seats hs ≡ true → list_all (has_tiles red) hs ≡ true → sum_by (pon_at seat kind) hs ≡ 0
none_there red seat kind [] past seats real = refl
none_there red seat kind (d ∷ hs) past seats real =
    let s = and_parts (has_seats d) (list_all has_seats hs) seats in
    let r = and_parts (has_tiles red d) (list_all (has_tiles red) hs) real in
    sum _ _ _ (sum_by-cons (pon_at seat kind) d hs) (not_there red seat kind d past s.0 r.0) (none_there red seat kind hs past s.1 r.1)
  where
    sum : (n a b : ℕ) → n ≡ a + b → a ≡ 0 → b ≡ 0 → n ≡ 0
    sum n a b e f g = omega (arith, e, f, g)

hand_seated : (red : Bool) (ds : List Deed) → all_fit red [] ds ≡ true → list_all has_seats (hand ds) ≡ true
hand_seated red ds fit = kept_in_hand (λ xs. list_all has_seats xs ≡ true) red ds step refl fit
  where
    step : (xs : List Deed) (d : Deed) → list_all has_seats xs ≡ true → Parts red xs d → list_all has_seats (xs ++ d ∷ []) ≡ true
    step xs d h p = list_all-append has_seats xs (d ∷ []) ∙ and_from (list_all has_seats xs) _ h (and_from (has_seats d) true p.seats refl)

each_pon : (rules : Rules) (walls : List (List ℕ)) (ds : List Deed) (seat kind : ℕ) → ((number : ℕ) → is_wall rules.red (wall_of walls number) ≡ true)
    → IsPlayed rules walls ds → sum_by (pon_at seat kind) (hand ds) ≤ 1
each_pon rules walls ds seat kind whole played = by_numbers (cases_lt seat 4) (cases_lt kind 34)
  where
    fit : all_fit rules.red [] ds ≡ true
    fit = (played_sound rules walls ds whole played).fit

    none : (n : ℕ) → n ≡ 0 → n ≤ 1
    none n e = omega (arith, e)

    by_numbers : (seat < 4) ⊎ (4 ≤ seat) → (kind < 34) ⊎ (34 ≤ kind) → sum_by (pon_at seat kind) (hand ds) ≤ 1
    by_numbers (inl low) (inl small) = one_pon rules walls ds seat kind whole played low small
    by_numbers (inr high) k = none _ (none_there rules.red seat kind (hand ds) (inl high) (hand_seated rules.red ds fit) (hand_real rules.red ds fit))
    by_numbers (inl low) (inr large) = none _ (none_there rules.red seat kind (hand ds) (inr large) (hand_seated rules.red ds fit) (hand_real rules.red ds fit))

-- the triplets of a seat

-- A meld is a taken triplet, of a kind.
abbrev trip_at : ℕ → Meld → ℕ
trip_at kind meld = cond (is_pon meld.form && eqb (kind_of meld.a) kind) 1 0

-- The first tile of three of one kind, in tile order.
first_alike : (kind t a b : ℕ) → t < 37 → a < 37 → b < 37 → kind_of t ≡ kind → kind_of a ≡ kind → kind_of b ≡ kind → kind_of (get_or (in_tile_order (t ∷ a ∷ b ∷ [])) 0 0) ≡ kind
first_alike kind t a b small low few e f g =
    by_order (in_tile_order (t ∷ a ∷ b ∷ [])) (order_passes (λ face. eqb (kind_of face) kind) (t ∷ a ∷ b ∷ []) all)
    (sym (count_all (in_tile_order (t ∷ a ∷ b ∷ []))) ∙ count_by-in_tile_order (λ face. true) (t ∷ a ∷ b ∷ []) known)
  where
    all : list_all (λ face. eqb (kind_of face) kind) (t ∷ a ∷ b ∷ []) ≡ true
    all =
        and_from (eqb (kind_of t) kind) _ (eq-eqb (kind_of t) kind e)
        (and_from (eqb (kind_of a) kind) _ (eq-eqb (kind_of a) kind f) (and_from (eqb (kind_of b) kind) true (eq-eqb (kind_of b) kind g) refl))

    known : All (λ face. face < 37) (t ∷ a ∷ b ∷ [])
    known = All-cons (λ face. face < 37) t (a ∷ b ∷ []) small (All-cons (λ face. face < 37) a (b ∷ []) low (All-cons (λ face. face < 37) b [] few (All-nil (λ face. face < 37))))

    by_order : (xs : List ℕ) → list_all (λ face. eqb (kind_of face) kind) xs ≡ true → length xs ≡ 3 → kind_of (get_or xs 0 0) ≡ kind
    by_order [] h n = absurd (omega (arith, n))
    by_order (x ∷ xs) h n = eqb-true (kind_of x) kind (and_parts (eqb (kind_of x) kind) (list_all (λ face. eqb (kind_of face) kind) xs) h).0

-- What a seat makes by a deed is a triplet of a kind where the deed is a pon of it.
one_made : (red : Bool) (seat kind : ℕ) (d : Deed) → is_even d ≡ true → has_tiles red d ≡ true → sum_by (trip_at kind) (makes_by seat d) ≤ pon_at seat kind d
unfolding meld_of_three meld_of_four
one_made red seat kind (Pon who target tile a b) h real = by_seat (eqb who seat)
  where
    face : (f : ℕ) → is_face red f ≡ true → f < 37
    face f k = small_face red f k

    one : (is_face red tile ≡ true) × (list_all (is_face red) (a ∷ b ∷ []) ≡ true)
    one = and_parts (is_face red tile) (list_all (is_face red) (a ∷ b ∷ [])) real

    two : (is_face red a ≡ true) × (list_all (is_face red) (b ∷ []) ≡ true)
    two = and_parts (is_face red a) (list_all (is_face red) (b ∷ [])) one.1

    alike : ((eqb (kind_of tile) (kind_of a)) ≡ true) × ((eqb (kind_of tile) (kind_of b)) ≡ true)
    alike = and_parts (eqb (kind_of tile) (kind_of a)) (eqb (kind_of tile) (kind_of b)) h

    first_is : kind_of (get_or (in_tile_order (tile ∷ a ∷ b ∷ [])) 0 0) ≡ kind_of tile
    first_is =
        first_alike (kind_of tile) tile a b (face tile one.0) (face a two.0) (face b (and_parts (is_face red b) true two.1).0) refl
        (sym (eqb-true (kind_of tile) (kind_of a) alike.0)) (sym (eqb-true (kind_of tile) (kind_of b) alike.1))

    same : (n m : ℕ) → n ≡ m → 0 + n ≤ m
    same n m e = omega (arith, e)

    by_seat : (s : Bool) → sum_by (trip_at kind) (cond s (meld_of_three forms.Pon tile a b ∷ []) []) ≤ cond (s && eqb (kind_of tile) kind) 1 0
    by_seat true = same _ _ (ap (λ k. cond (eqb k kind) 1 0) first_is)
    by_seat false = omega arith
one_made red seat kind (Chi who target tile a b) h real = by_seat (eqb who seat)
  where
    by_seat : (s : Bool) → sum_by (trip_at kind) (cond s (meld_of_three forms.Chi tile a b ∷ []) []) ≤ 0
    by_seat true = omega arith
    by_seat false = omega arith
one_made red seat kind (OpenKan who target tile a b c) h real = by_seat (eqb who seat)
  where
    by_seat : (s : Bool) → sum_by (trip_at kind) (cond s (meld_of_four forms.OpenKan tile a b c ∷ []) []) ≤ 0
    by_seat true = omega arith
    by_seat false = omega arith
one_made red seat kind (ClosedKan who a b c d) h real = by_seat (eqb who seat)
  where
    by_seat : (s : Bool) → sum_by (trip_at kind) (cond s (meld_of_four forms.ClosedKan a b c d ∷ []) []) ≤ 0
    by_seat true = omega arith
    by_seat false = omega arith
one_made red seat kind other h real = omega arith

all_made : (red : Bool) (seat kind : ℕ) (hs : List Deed) → list_all is_even hs ≡ true → list_all (has_tiles red) hs ≡ true →
    sum_by (trip_at kind) (flat_map (makes_by seat) hs) ≤ sum_by (pon_at seat kind) hs
all_made red seat kind [] h real = omega arith
all_made red seat kind (d ∷ hs) h real =
    let e = and_parts (is_even d) (list_all is_even hs) h in
    let r = and_parts (has_tiles red d) (list_all (has_tiles red) hs) real in
    sum _ _ _ _ _ _ (ap (sum_by (trip_at kind)) (flat_map-cons (makes_by seat) d hs) ∙ sum_by-append (trip_at kind) (makes_by seat d)
    (flat_map (makes_by seat) hs)) (sum_by-cons (pon_at seat kind) d hs)
    (one_made red seat kind d e.0 r.0) (all_made red seat kind hs e.1 r.1)
  where
    sum : (n m a b c f : ℕ) → n ≡ a + b → m ≡ c + f → a ≤ c → b ≤ f → n ≤ m
    sum n m a b c f e g h k = omega (arith, e, g, h, k)

-- A tile that is added leaves no triplet more.
added_less : (kind : ℕ) (meld : Meld) (tiles : List ℕ) → trip_at kind (with_added meld tiles) ≤ trip_at kind meld
unfolding with_added meld_of_four
added_less kind meld [] = same (trip_at kind meld)
  where
    same : (n : ℕ) → n ≤ n
    same n = omega arith
added_less kind meld (tile ∷ tiles) = by_test (is_pon meld.form && (kind_of tile == kind_of meld.a)) (added_less kind meld tiles)
  where
    by_test : (b : Bool) → trip_at kind (with_added meld tiles) ≤ trip_at kind meld →
        trip_at kind (cond b (meld_of_four forms.AddedKan tile meld.a meld.b meld.c) (with_added meld tiles)) ≤ trip_at kind meld
    by_test true h = omega arith
    by_test false h = h

mapped_less : (kind : ℕ) (tiles : List ℕ) (melds : List Meld) → sum_by (trip_at kind) (map (λ meld. with_added meld tiles) melds) ≤ sum_by (trip_at kind) melds
mapped_less kind tiles [] = omega arith
mapped_less kind tiles (meld ∷ melds) =
    sum _ _ _ _ _ _ (sum_by-cons (trip_at kind) (with_added meld tiles) (map (λ m. with_added m tiles) melds)) (sum_by-cons (trip_at kind) meld melds)
    (added_less kind meld tiles) (mapped_less kind tiles melds)
  where
    sum : (n m a b c f : ℕ) → n ≡ a + b → m ≡ c + f → a ≤ c → b ≤ f → n ≤ m
    sum n m a b c f e g h k = omega (arith, e, g, h, k)

abbrev Differ : Meld → Meld → Type 0
Differ one other = kind_of one.a ≢ kind_of other.a

-- Where no triplet is of a kind, each is of another.
none_of : (kind : ℕ) (melds : List Meld) → sum_by (trip_at kind) melds ≡ 0 → All (λ (other : Meld). kind ≢ kind_of other.a) (filter (λ meld. is_pon meld.form) melds)
none_of kind [] h = All-nil (λ (other : Meld). kind ≢ kind_of other.a)
none_of kind (meld ∷ melds) h = by_form (is_pon meld.form) refl (none_of kind melds (rest _ _ _ (sum_by-cons (trip_at kind) meld melds) h))
  where
    rest : (n a b : ℕ) → n ≡ a + b → n ≡ 0 → b ≡ 0
    rest n a b e f = omega (arith, e, f)

    none : (n a b : ℕ) → n ≡ a + b → n ≡ 0 → a ≡ 1 → ⊥
    none n a b e f g = omega (arith, e, f, g)

    by_form : (t : Bool) → is_pon meld.form ≡ t → All (λ (other : Meld). kind ≢ kind_of other.a) (filter (λ m. is_pon m.form) melds) →
        All (λ (other : Meld). kind ≢ kind_of other.a) (cond t (meld ∷ filter (λ m. is_pon m.form) melds) (filter (λ m. is_pon m.form) melds))
    by_form true is others =
        All-cons (λ (other : Meld). kind ≢ kind_of other.a) meld (filter (λ m. is_pon m.form) melds)
        (λ e. none _ _ _ (sum_by-cons (trip_at kind) meld melds) h ((λ i. cond (is i && eqb (sym e i) kind) 1 0) ∙ ap (λ b. cond b 1 0) (eq-eqb kind kind refl))) others
    by_form false is others = others

triplets_differ : (melds : List Meld) → ((kind : ℕ) → sum_by (trip_at kind) melds ≤ 1) → AllPairs Differ (filter (λ meld. is_pon meld.form) melds)
triplets_differ [] h = λ i j d before within. absurd (omega (arith, within))
triplets_differ (meld ∷ melds) h = by_form (is_pon meld.form) refl (triplets_differ melds (λ kind. rest _ _ _ (sum_by-cons (trip_at kind) meld melds) (h kind)))
  where
    rest : (n a b : ℕ) → n ≡ a + b → n ≤ 1 → b ≤ 1
    rest n a b e f = omega (arith, e, f)

    none : (n a b : ℕ) → n ≡ a + b → n ≤ 1 → a ≡ 1 → b ≡ 0
    none n a b e f g = omega (arith, e, f, g)

    by_form : (t : Bool) → is_pon meld.form ≡ t → AllPairs Differ (filter (λ m. is_pon m.form) melds) →
        AllPairs Differ (cond t (meld ∷ filter (λ m. is_pon m.form) melds) (filter (λ m. is_pon m.form) melds))
    by_form true is others =
        AllPairs-cons Differ meld (filter (λ m. is_pon m.form) melds)
        (none_of (kind_of meld.a) melds
        (none _ _ _ (sum_by-cons (trip_at (kind_of meld.a)) meld melds) (h (kind_of meld.a))
        ((λ i. cond (is i && eqb (kind_of meld.a) (kind_of meld.a)) 1 0) ∙ ap (λ b. cond b 1 0) (eq-eqb (kind_of meld.a) (kind_of meld.a) refl))))
        others
    by_form false is others = others

-- No two triplets of a seat are of one kind.
pub triplets_apart : (rules : Rules) (walls : List (List ℕ)) (ds : List Deed) (seat : ℕ) →
    ((number : ℕ) → is_wall rules.red (wall_of walls number) ≡ true) → IsPlayed rules walls ds → AllPairs Differ (triplets (view_of ds seat))
unfolding view_of
triplets_apart rules walls ds seat whole played =
    triplets_differ (seat_melds (hand ds) seat) (λ kind.
    few _ _ _ (mapped_less kind (flat_map (adds_by seat) (hand ds)) (flat_map (makes_by seat) (hand ds)))
    (all_made rules.red seat kind (hand ds) (hand_even rules walls ds whole played) (hand_real rules.red ds (played_sound rules walls ds whole played).fit))
    (each_pon rules walls ds seat kind whole played))
  where
    few : (a b c : ℕ) → a ≤ b → b ≤ c → c ≤ 1 → a ≤ 1
    few a b c h k l = omega (arith, h, k, l)

-- So the answers that are listed stand in turn, and none stands there twice.
pub played_in_turn : PlayedInTurn
played_in_turn rules walls deeds seat whole played = listed_in_turn rules deeds seat (triplets_apart rules walls deeds seat whole played)
