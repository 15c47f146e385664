-- There is room for a deed that comes in its turn: no kind has a fifth tile and no seat a fifth meld.
use Rattle.std.proofs.Common.{◌≡◌, ℕ, zero, suc, ◌+◌, ◌-◌, ◌*◌, ◌%◌, ◌<◌, ◌≤◌, ◌==◌, inl, inr, ◌&&◌, Bool, true, false}
use Rattle.std.proofs.Common.{cond, eqb, List, [], ◌∷◌, ◌++◌, length, get_or, take, drop, refl, ap, ◌∙◌, arith}
use Rattle.std.specs.Prelude.{All, nat_le, count_by, sum_by, flat_map}
use Rattle.std.specs.List.{list_all}
use Rattle.std.proofs.lemmas.Bool.{cases_eq, ne_eqb, eq-eqb, and_from, le-leb}
use Rattle.std.proofs.lemmas.List.{length-map, length-drop, get_or-drop}
use Rattle.std.proofs.lemmas.List.Sums.{sum_by-cons, sum_by-take-le}
use Rattle.std.proofs.lemmas.List.Elements.{All-take, All-drop}
use Rattle.mj_lists.proofs.Ranges.{all_in}
use Rattle.mj_tiles.specs.Faces.{kind_of, number_in}
use Rattle.mj_tiles.specs.Counts.{all_kinds, number_of, has_no_fifth}
use Rattle.mj_deeds.specs.declared.deed.Deed.{Deed}
use Rattle.mj_deeds.specs.Facts.{tiles_gained, tiles_lost, makes_by, indicators, live_draws}
use Rattle.mj_deeds.specs.Fits.{ground_of, fits, fits_in, fits_behind, has_held_by, has_held, brought_by, keeps_kinds, has_room_for, has_room}
use Rattle.mj_wall.specs.Places.{is_wall, dealt_tiles}
use Rattle.mj_wall.proofs.WallFaces.{wall_has_136, wall_faces}
use Rattle.mj_wall.proofs.WallKinds.{up, up-take, up-split, wall_has_four, places_are_apart}
use Rattle.mj_deeds.specs.Hand.{hand, before_in}
use Rattle.mj_rules.specs.Outcome.{hand_dealt}
use Rattle.mj_rules.proofs.Dealing.{hand_has_thirteen}
use Rattle.mj_wall.proofs.TileOrder.{count_by-in_tile_order}
use Rattle.mj_rules.proofs.Stages.{Stage, Acts, stage_of, stage_before, stage_after, is_begun, holds_more, is_replacement, at_place, StandsAt, DealsWell, length-more}
use Rattle.mj_rules.proofs.Kept.{wall_for, IsNext, inside, keeps}

-- what is dealt

dealt_up : (w : ℕ → ℕ) (wall : List ℕ) (n : ℕ) → n + 13 ≤ length wall → sum_by w (take 13 (drop n wall)) ≡ up (λ i. w (get_or wall (n + i) 0)) 13
dealt_up w wall n h =
    up-take w (drop n wall) 13 (enough (length wall) (length (drop n wall)) n (length-drop n wall) h) ∙ (λ j. up (λ i. w (get_or-drop n wall i 0 j)) 13)
  where
    enough : (l k n : ℕ) → k ≡ l - n → n + 13 ≤ l → 13 ≤ k
    enough l k n e h = omega arith

four_hands : (w : ℕ → ℕ) (wall : List ℕ) → length wall ≡ 136 →
    sum_by w (take 13 (drop 0 wall)) + sum_by w (take 13 (drop 13 wall)) + sum_by w (take 13 (drop 26 wall)) + sum_by w (take 13 (drop 39 wall)) ≡ up (λ i. w (get_or wall i 0)) 52
unfolding up
four_hands w wall h =
    let g : ℕ → ℕ = λ i. w (get_or wall i 0) in
    parts _ _ _ _ _ _ _ _ _ _ _
    (dealt_up w wall 0 (long 0 (omega arith))) (dealt_up w wall 13 (long 13 (omega arith))) (dealt_up w wall 26 (long 26 (omega arith))) (dealt_up w wall 39 (long 39 (omega arith)))
    (up-split g 0 13 13 refl) (up-split g 13 13 26 refl) (up-split g 26 13 39 refl) (up-split g 39 13 52 refl)
  where
    long : (n : ℕ) → n ≤ 39 → n + 13 ≤ length wall
    long n k = omega arith

    parts : (a b c d x y z v p q r : ℕ) {t : ℕ} → a ≡ x → b ≡ y → c ≡ z → d ≡ v → p ≡ 0 + x → q ≡ p + y → r ≡ q + z → t ≡ r + v → a + b + c + d ≡ t
    parts a b c d x y z v p q r e f g h i j k l = omega arith

hand_kind : (wall : List ℕ) (dealer k kind : ℕ) → All (λ t. t < 37) wall → number_of (hand_dealt wall dealer k) kind ≡ number_of (dealt_tiles wall ((k + 4 - dealer) % 4)) kind
hand_kind wall dealer k kind faces =
    let n = (k + 4 - dealer) % 4 in
    count_by-in_tile_order (λ t. kind_of t == kind) (dealt_tiles wall n) (All-take (λ t. t < 37) 13 (drop (13 * n) wall) (All-drop (λ t. t < 37) (13 * n) wall faces))

-- The four hands in whatever order, the dealer's first.
turned : (dealer : ℕ) (f : ℕ → ℕ) → dealer < 4 →
    f ((0 + 4 - dealer) % 4) + f ((1 + 4 - dealer) % 4) + f ((2 + 4 - dealer) % 4) + f ((3 + 4 - dealer) % 4) ≡ f 0 + f 1 + f 2 + f 3
turned zero f h = refl
turned (suc zero) f h = swap (f 0) (f 1) (f 2) (f 3)
  where
    swap : (a b c d : ℕ) → d + a + b + c ≡ a + b + c + d
    swap a b c d = omega arith
turned (suc (suc zero)) f h = swap (f 0) (f 1) (f 2) (f 3)
  where
    swap : (a b c d : ℕ) → c + d + a + b ≡ a + b + c + d
    swap a b c d = omega arith
turned (suc (suc (suc zero))) f h = swap (f 0) (f 1) (f 2) (f 3)
  where
    swap : (a b c d : ℕ) → b + c + d + a ≡ a + b + c + d
    swap a b c d = omega arith
turned (suc (suc (suc (suc n)))) f h = absurd (omega arith)

pub deals_well : (red : Bool) (wall : List ℕ) → is_wall red wall ≡ true → DealsWell wall
deals_well red wall h =
    let faces = wall_faces red wall h in
    record {
      thirteen = λ dealer seat. hand_has_thirteen red wall dealer seat h;
      kinds = λ dealer kind small.
          (λ i. hand_kind wall dealer 0 kind faces i + hand_kind wall dealer 1 kind faces i + hand_kind wall dealer 2 kind faces i + hand_kind wall dealer 3 kind faces i)
          ∙ turned dealer (λ k. number_of (dealt_tiles wall k) kind) small
          ∙ four_hands (λ t. cond (eqb (kind_of t) kind) 1 0) wall (wall_has_136 red wall h);
    }

-- no fifth tile of a kind

at_most_four : (red : Bool) (wall : List ℕ) (ds : List Deed) (stage : Stage) (kind : ℕ) → is_wall red wall ≡ true → kind < 34 → StandsAt wall ds stage → number_of (flat_map brought_by ds) kind ≤ 4
at_most_four red wall ds stage kind h small s =
    let w : ℕ → ℕ = λ t. cond (eqb (kind_of t) kind) 1 0 in
    bound _ _ _ _ _ _ _ _ _ (s.kinds kind) (not_more (is_begun stage) (up (at_place wall kind) 52))
    (places_are_apart (at_place wall kind) (live_draws ds) (length (indicators ds)) (count_by is_replacement ds)
    (few_draws _ _ s.live) (few_shown _ _ _ (is_begun stage) s.shown s.four) (few_taken _ _ _ s.taken s.four))
    (up-take w wall 136 (whole _ (wall_has_136 red wall h)))
    (sum_by-take-le w wall 136)
    (wall_has_four red wall kind h small)
  where
    not_more : (b : Bool) (n : ℕ) → cond b n 0 ≤ n
    not_more true n = omega arith
    not_more false n = omega arith

    few_draws : (n k : ℕ) → n + k ≤ 70 → n ≤ 70
    few_draws n k h = omega arith

    few_shown : (i o k : ℕ) (b : Bool) → i + o ≡ k + cond b 1 0 → k ≤ 4 → i ≤ 5
    few_shown i o k true e h = omega arith
    few_shown i o k false e h = omega arith

    few_taken : (r o k : ℕ) → r + o ≡ k → k ≤ 4 → r ≤ 4
    few_taken r o k e h = omega arith

    whole : (n : ℕ) → n ≡ 136 → 136 ≤ n
    whole n e = omega arith

    bound : (n b u i j k t v x : ℕ) → n ≡ b + i + j + k → b ≤ u → u + i + j + k ≤ t → v ≡ t → v ≤ x → x ≤ 4 → n ≤ 4
    bound n b u i j k t v x e f g h l m = omega arith

no_fifth : (red : Bool) (wall : List ℕ) (ds : List Deed) (stage : Stage) → is_wall red wall ≡ true → StandsAt wall ds stage → has_no_fifth (flat_map brought_by ds) ≡ true
unfolding has_no_fifth all_kinds
no_fifth red wall ds stage h s =
    all_in (λ kind. nat_le (number_of (flat_map brought_by ds) kind) 4) 0 34 (λ kind lo hi. le-leb _ _ (at_most_four red wall ds stage kind h hi s))

-- no fifth meld

abbrev without : ℕ → List ℕ → List ℕ
without x [] = []
without x (y ∷ ys) = cond (eqb y x) ys (y ∷ without x ys)

length-without : (x : ℕ) (ys : List ℕ) → 1 ≤ number_in ys x → length ys ≡ suc (length (without x ys))
length-without x [] h = absurd (omega arith)
length-without x (y ∷ ys) h = by_test (eqb y x) refl (λ k. length-without x ys k)
  where
    rest : (b n m : ℕ) → m ≡ b + n → b ≡ 0 → 1 ≤ m → 1 ≤ n
    rest b n m e f g = omega arith

    by_test : (b : Bool) → eqb y x ≡ b → (1 ≤ number_in ys x → length ys ≡ suc (length (without x ys))) → suc (length ys) ≡ suc (length (cond b ys (y ∷ without x ys)))
    by_test true e f = refl
    by_test false e f = ap (λ (n : ℕ). suc n) (f (rest _ _ _ (sum_by-cons (λ z. cond (eqb z x) 1 0) y ys) (ap (λ b. cond b 1 0) e) h))

number-without : (x : ℕ) (ys : List ℕ) (face : ℕ) → number_in ys face ≤ number_in (without x ys) face + cond (eqb x face) 1 0
number-without x [] face = omega arith
number-without x (y ∷ ys) face = elim (cases_eq y x) [
  | inl e ↦ same _ _ _ _ (sum_by-cons (λ z. cond (eqb z face) 1 0) y ys) (ap (λ z. cond (eqb z face) 1 0) e) (ap (λ b. number_in (cond b ys (y ∷ without x ys)) face) (eq-eqb y x e))
  | inr ne ↦ other _ _ _ _ _ _ (sum_by-cons (λ z. cond (eqb z face) 1 0) y ys) (sum_by-cons (λ z. cond (eqb z face) 1 0) y (without x ys))
      (ap (λ b. number_in (cond b ys (y ∷ without x ys)) face) (ne_eqb y x ne)) (number-without x ys face)
]
  where
    same : (n b k c : ℕ) {m : ℕ} → n ≡ b + k → b ≡ c → m ≡ k → n ≤ m + c
    same n b k c e f g = omega arith

    other : (n b k m l c : ℕ) {o : ℕ} → n ≡ b + k → m ≡ b + l → o ≡ m → k ≤ l + c → n ≤ o + c
    other n b k m l c e f g h = omega arith

-- A list of which each face stands at most as often in another is no longer.
length-within : (xs ys : List ℕ) → ((face : ℕ) → number_in xs face ≤ number_in ys face) → length xs ≤ length ys
length-within [] ys h = omega arith
length-within (x ∷ xs) ys h =
    longer _ _ _ (length-without x ys (one _ _ _ _ (sum_by-cons (λ z. cond (eqb z x) 1 0) x xs) (ap (λ b. cond b 1 0) (eq-eqb x x refl)) (h x)))
    (length-within xs (without x ys) (λ face. less _ _ _ _ _ (sum_by-cons (λ z. cond (eqb z face) 1 0) x xs) (h face) (number-without x ys face)))
  where
    one : (n b k m : ℕ) → n ≡ b + k → b ≡ 1 → n ≤ m → 1 ≤ m
    one n b k m e f h = omega arith

    less : (n b k m l : ℕ) → n ≡ b + k → n ≤ m → m ≤ l + b → k ≤ l
    less n b k m l e f h = omega arith

    longer : (l k n : ℕ) → l ≡ suc k → n ≤ k → suc n ≤ l
    longer l k n e h = omega arith

four_pass : (p : ℕ → Bool) → ((seat : ℕ) → p seat ≡ true) → list_all p (0 ∷ 1 ∷ 2 ∷ 3 ∷ []) ≡ true
four_pass p h = and_from (p 0) _ (h 0) (and_from (p 1) _ (h 1) (and_from (p 2) _ (h 2) (and_from (p 3) _ (h 3) refl)))

one_more_at_most : (stage : Stage) (seat : ℕ) → holds_more stage seat ≤ 1
one_more_at_most (Acts who) seat = at_most (who == seat)
  where
    at_most : (b : Bool) → cond b 1 0 ≤ 1
    at_most true = omega arith
    at_most false = omega arith
one_more_at_most other seat = omega arith

room_for_each : (wall : List ℕ) (ds : List Deed) (d : Deed) (stage : Stage) (seat : ℕ) → StandsAt wall (ds ++ d ∷ []) stage → has_room_for ds d seat ≡ true
room_for_each wall ds d stage seat s =
    le-leb _ _ (few _ _ _ _ _ _ _ (is_begun stage) (length-map (flat_map (makes_by seat) ds) _) (length-more (makes_by seat) ds d) (s.hands seat)
    (length-within (tiles_lost (ds ++ d ∷ []) seat) (tiles_gained (ds ++ d ∷ []) seat) (s.held seat)) (one_more_at_most stage seat))
  where
    few : (a m x m' g l h : ℕ) (b : Bool) → a ≡ m → m' ≡ m + x → g + 3 * m' ≡ l + cond b 13 0 + h → l ≤ g → h ≤ 1 → a + x ≤ 4
    few a m x m' g l h true e f i j k = omega arith
    few a m x m' g l h false e f i j k = omega arith

-- A deed that comes in its turn fits.
pub next_fits : (red : Bool) (walls : List (List ℕ)) (ds : List Deed) (d : Deed) → is_wall red (wall_for walls ds d) ≡ true →
    StandsAt (wall_for walls ds d) (before_in (hand ds) d) (stage_before (stage_of ds) d) → IsNext red walls ds d → fits red ds d ≡ true
unfolding fits_behind fits_in ground_of
next_fits red walls ds d h s next =
    let wall : List ℕ = wall_for walls ds d in
    let hs : List Deed = before_in (hand ds) d in
    let after = keeps (stage_of ds) wall hs d (deals_well red wall h) s (inside red walls ds d next) in
    let held : has_held hs d ≡ true = four_pass (has_held_by hs d) next.held in
    let kinds : keeps_kinds hs d ≡ true = no_fifth red wall (hs ++ d ∷ []) (stage_after (stage_of ds) d) h after in
    let room : has_room hs d ≡ true = four_pass (has_room_for hs d) (λ seat. room_for_each wall hs d (stage_after (stage_of ds) d) seat after) in
    all_three _ _ _ next.place (all_eight _ _ _ _ _ _ _ _ next.seats held next.triplet next.tiles kinds room next.live next.once) next.pointed
  where
    all_three : (a b c : Bool) → a ≡ true → b ≡ true → c ≡ true → (a && b && c) ≡ true
    all_three a b c i j k = λ x. i x && j x && k x

    all_eight : (b c d e f g h i : Bool) → b ≡ true → c ≡ true → d ≡ true → e ≡ true → f ≡ true → g ≡ true → h ≡ true → i ≡ true → (b && c && d && e && f && g && h && i) ≡ true
    all_eight b c d e f g h i j k l m n o p q = λ x. j x && k x && l x && m x && n x && o x && p x && q x
