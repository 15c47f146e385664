-- Each tile that was brought in is held by one of the four seats, or lies open.
use Rattle.std.proofs.Common.{◌≡◌, ℕ, zero, suc, ◌+◌, ◌-◌, ◌*◌, ◌<◌, ◌≤◌, Bool, true, false, cond, eqb, List, [], ◌∷◌, refl, ap, ◌∙◌, arith}
use Rattle.std.specs.Prelude.{count_by, flat_map, replicate}
use Rattle.std.specs.List.{list_all}
use Rattle.std.proofs.lemmas.List.Folds.{sum_by-replicate}
use Rattle.std.proofs.lemmas.List.Sums.{sum_by-append}
use Rattle.mj_tiles.specs.Faces.{kind_of, number_in, less, in_tile_order, tile_order}
use Rattle.mj_tiles.specs.Counts.{number_of}
use Rattle.mj_wall.proofs.TileOrder.{count_by-in_tile_order}
use Rattle.mj_deeds.specs.declared.deed.Deed.{Deed}
use Rattle.mj_deeds.specs.Facts.{gains_by, losses_by, tiles_gained, tiles_lost, concealed_tiles, indicators_by}
use Rattle.mj_deeds.specs.Fits.{all_fit, has_held_by, brought_by}
use Rattle.mj_deeds.specs.Hand.{hand}
use Rattle.mj_deeds.proofs.Fitted.{kept_in_hand, of_four, four_of_kind, hand_real}
use Rattle.mj_deeds.proofs.RealTiles.{all_members, gained_real, member_passes}
use Rattle.mj_deeds.proofs.Totals.{held_room, number_more}
use Rattle.mj_sights.specs.Seen.{opened_by, open_tiles}
use Rattle.mj_sights.specs.Laws.{TilesAreHeldOrOpen}
use Rattle.mj_sights.proofs.Holding.{lost_by_four, gained_by_four, summed, seats_known}
use Rattle.mj_sights.proofs.Known.{is_known, all_known, known}

-- Copies of faces, of each some and the others: together as many pass a test as of all.
count_apart : (p : ℕ → Bool) (some all : ℕ → ℕ) → ((face : ℕ) → some face ≤ all face) → (faces : List ℕ) →
    count_by p (flat_map (λ face. replicate (all face - some face) face) faces) + count_by p (flat_map (λ face. replicate (some face) face) faces)
    ≡ count_by p (flat_map (λ face. replicate (all face) face) faces)
count_apart p some all h [] = refl
count_apart p some all h (face ∷ faces) =
    sum _ _ _ _ _ _ _ _ _ (parts (λ f. all f - some f)) (parts some) (parts all) (times (some face) (all face) (p face) (h face)) (count_apart p some all h faces)
  where
    parts : (n : ℕ → ℕ) → count_by p (flat_map (λ f. replicate (n f) f) (face ∷ faces)) ≡ n face * cond (p face) 1 0 + count_by p (flat_map (λ f. replicate (n f) f) faces)
    parts n =
        sum_by-append (λ t. cond (p t) 1 0) (replicate (n face) face) (flat_map (λ f. replicate (n f) f) faces)
        ∙ ap (λ k. k + count_by p (flat_map (λ f. replicate (n f) f) faces)) (sum_by-replicate (λ t. cond (p t) 1 0) (n face) face)

    times : (n m : ℕ) (b : Bool) → n ≤ m → (m - n) * cond b 1 0 + n * cond b 1 0 ≡ m * cond b 1 0
    times n m true k = omega (arith, k)
    times n m false k = omega (arith, k)

    sum : (l n m a b c d e f : ℕ) → l ≡ a + d → n ≡ b + e → m ≡ c + f → a + b ≡ c → d + e ≡ f → l + n ≡ m
    sum l n m a b c d e f g h k o q = omega (arith, g, h, k, o, q)

-- What stands among tiles of the game are tiles of the game.
among_known : (xs ys : List ℕ) → list_all is_known xs ≡ true → ((face : ℕ) → number_in ys face ≤ number_in xs face) → list_all is_known ys ≡ true
among_known xs ys real h = all_members is_known ys (λ face there. member_passes is_known xs face real (more _ _ there (h face)))
  where
    more : (n m : ℕ) → 0 < n → n ≤ m → 0 < m
    more n m k h = omega (arith, k, h)

-- So many copies of each face are the tiles themselves, in their order.
copies_count : (p : ℕ → Bool) (xs : List ℕ) → list_all is_known xs ≡ true → count_by p (flat_map (λ face. replicate (number_in xs face) face) tile_order) ≡ count_by p xs
unfolding less in_tile_order
copies_count p xs real =
    ap {B = ℕ} (λ (f : ℕ → List ℕ). count_by p (flat_map f tile_order)) (λ i face. replicate (all (number_in xs face) i) face) ∙ count_by-in_tile_order p xs (all_known xs real)
  where
    all : (n : ℕ) → n ≡ n - 0
    all n = omega arith

-- Of tiles of the game and of others that stand among them as many pass a test as are left and as the others have.
count_left : (p : ℕ → Bool) (xs ys : List ℕ) → list_all is_known xs ≡ true → ((face : ℕ) → number_in ys face ≤ number_in xs face) → count_by p (less xs ys) + count_by p ys ≡ count_by p xs
unfolding less
count_left p xs ys real h =
    sum _ _ _ _ _ (count_apart p (number_in ys) (number_in xs) h tile_order) (copies_count p ys (among_known xs ys real h)) (copies_count p xs real)
  where
    sum : (l n m a b : ℕ) → l + n ≡ m → n ≡ a → m ≡ b → l + a ≡ b
    sum l n m a b e f g = omega (arith, e, f, g)

-- A seat of deeds that fit puts down only what it was given.
held_within : (red : Bool) (ds : List Deed) (seat : ℕ) → seat < 4 → all_fit red [] ds ≡ true → (face : ℕ) → number_in (tiles_lost (hand ds) seat) face ≤ number_in (tiles_gained (hand ds) seat) face
held_within red ds seat low fit =
    kept_in_hand (λ hs. (face : ℕ) → number_in (tiles_lost hs seat) face ≤ number_in (tiles_gained hs seat) face) red ds
    (λ hs d old p face.
    more _ _ _ _ _ _ (number_more (losses_by seat) hs d face) (number_more (gains_by seat) hs d face)
    (held_room (tiles_gained hs seat) (tiles_lost hs seat) (losses_by seat d) face (of_four (has_held_by hs d) seat low p.held) (old face)))
    (λ face. omega arith) fit
  where
    more : (l' l x g' g y : ℕ) → l' ≡ l + x → g' ≡ g + y → l + x ≤ g → l' ≤ g'
    more l' l x g' g y e f h = omega (arith, e, f, h)

seat_holds : (red : Bool) (ds : List Deed) (seat kind : ℕ) → seat < 4 → all_fit red [] ds ≡ true →
    number_of (concealed_tiles (hand ds) seat) kind + number_of (tiles_lost (hand ds) seat) kind ≡ number_of (tiles_gained (hand ds) seat) kind
seat_holds red ds seat kind low fit =
    count_left (λ t. eqb (kind_of t) kind) (tiles_gained (hand ds) seat) (tiles_lost (hand ds) seat)
    (known red _ (gained_real red (hand ds) seat (hand_real red ds fit))) (held_within red ds seat low fit)

pub tiles_are_held_or_open : TilesAreHeldOrOpen
tiles_are_held_or_open red ds kind fit =
    sum _ _ _ _ _ _ _ _ _ _ _ _ _ _ _ (seat_holds red ds 0 kind (omega arith) fit) (seat_holds red ds 1 kind (omega arith) fit)
    (seat_holds red ds 2 kind (omega arith) fit) (seat_holds red ds 3 kind (omega arith) fit)
    (summed (losses_by 0) (losses_by 1) (losses_by 2) (losses_by 3) indicators_by opened_by kind (lost_by_four kind) (hand ds) (seats_known red ds fit))
    (summed (gains_by 0) (gains_by 1) (gains_by 2) (gains_by 3) indicators_by brought_by kind (gained_by_four kind) (hand ds) (seats_known red ds fit))
  where
    sum : (a b c d l m n k p q r s i o t : ℕ) → a + l ≡ p → b + m ≡ q → c + n ≡ r → d + k ≡ s → l + m + n + k + i ≡ o → p + q + r + s + i ≡ t → a + b + c + d + o ≡ t
    sum a b c d l m n k p q r s i o t e f g h u v = omega (arith, e, f, g, h, u, v)

-- Two of four numbers are no more than all.
two_of_all : (c : ℕ → ℕ) (a b : ℕ) → a < 4 → b < 4 → (a ≡ b → ⊥) → c a + c b ≤ c 0 + c 1 + c 2 + c 3
two_of_all c zero zero low small ne = absurd (ne refl)
two_of_all c zero (suc zero) low small ne = omega arith
two_of_all c zero (suc (suc zero)) low small ne = omega arith
two_of_all c zero (suc (suc (suc zero))) low small ne = omega arith
two_of_all c (suc zero) zero low small ne = omega arith
two_of_all c (suc zero) (suc zero) low small ne = absurd (ne refl)
two_of_all c (suc zero) (suc (suc zero)) low small ne = omega arith
two_of_all c (suc zero) (suc (suc (suc zero))) low small ne = omega arith
two_of_all c (suc (suc zero)) zero low small ne = omega arith
two_of_all c (suc (suc zero)) (suc zero) low small ne = omega arith
two_of_all c (suc (suc zero)) (suc (suc zero)) low small ne = absurd (ne refl)
two_of_all c (suc (suc zero)) (suc (suc (suc zero))) low small ne = omega arith
two_of_all c (suc (suc (suc zero))) zero low small ne = omega arith
two_of_all c (suc (suc (suc zero))) (suc zero) low small ne = omega arith
two_of_all c (suc (suc (suc zero))) (suc (suc zero)) low small ne = omega arith
two_of_all c (suc (suc (suc zero))) (suc (suc (suc zero))) low small ne = absurd (ne refl)
two_of_all c (suc (suc (suc (suc m)))) b low small ne = absurd (omega (arith, low))
two_of_all c a (suc (suc (suc (suc m)))) low small ne = absurd (omega (arith, small))

-- So two seats hold no more than four of a kind, with what lies open of it.
pub four_together : (red : Bool) (ds : List Deed) (a b kind : ℕ) → all_fit red [] ds ≡ true → a < 4 → b < 4 → (a ≡ b → ⊥) → kind < 34 →
    number_of (concealed_tiles (hand ds) a) kind + number_of (concealed_tiles (hand ds) b) kind + number_of (open_tiles (hand ds)) kind ≤ 4
four_together red ds a b kind fit low small ne real =
    chain _ _ _ _ (two_of_all (λ seat. number_of (concealed_tiles (hand ds) seat) kind) a b low small ne) (tiles_are_held_or_open red ds kind fit) (four_of_kind red ds kind real fit)
  where
    chain : (n m o t : ℕ) → n ≤ m → m + o ≡ t → t ≤ 4 → n + o ≤ 4
    chain n m o t h e k = omega (arith, h, e, k)
