-- The listed answers are plain, and stand in turn.
use Rattle.std.proofs.Common.{◌≡◌, ℕ, suc, ◌+◌, ◌<◌, ◌≤◌, ◌==◌, Bool, true, false, List, []}
use Rattle.std.proofs.Common.{◌∷◌, ◌++◌, drop, refl, sym, ap, ◌∙◌, subst, arith, append-nil, append_assoc}
use Rattle.std.specs.Prelude.{None, nat_lt, filter, flat_map, map, Contains, All, AllPairs, ◌≢◌}
use Rattle.std.specs.List.{list_any, list_all}
use Rattle.std.proofs.lemmas.Bool.{and_parts, and_from, or_left, or_right, eq-eqb, eqb-true, lt-ltb, not-false}
use Rattle.std.proofs.lemmas.List.Elements.{All-nil, All-cons, All-append, All-map, All-weaker, All-contains, All-filter, filter-append}
use Rattle.std.proofs.lemmas.List.Folds.{Any-from_list_any}
use Rattle.std.proofs.lemmas.List.Sums.{list_all-from_AllPass}
use Rattle.mj_readings.proofs.Members.{All-flat_map}
use Rattle.mj_tiles.specs.Faces.{kind_of, tile_order}
use Rattle.mj_tiles.specs.declared.meld.Meld.{Meld}
use Rattle.mj_deeds.specs.declared.answer.Pai.TheVariants.{Known}
use Rattle.mj_deeds.specs.declared.answer.Answer.{Answer}
use Rattle.mj_deeds.specs.declared.answer.Answer.TheVariants.{Pass, Discard, Chi, Pon, OpenKan, ClosedKan, AddedKan, Reach, Win, NineKinds}
use Rattle.mj_deeds.specs.declared.deed.Deed.{Deed}
use Rattle.mj_deeds.specs.Answers.{place_of}
use Rattle.mj_wall.specs.declared.setting.Rules.{Rules}
use Rattle.mj_rules.specs.View.{WindowTurn, Drew, Discarded, Added, SeatView, view_of}
use Rattle.mj_rules.specs.Broken.{is_own_pon}
use Rattle.mj_rules.specs.Possible.{is_plain, is_lawful, faces_of, discards_of, all_discards, chis_with, all_chis, pons_of, open_kans_of, all_calls, closed_kans_of}
use Rattle.mj_rules.specs.Possible.{all_closed_kans, added_kans_of, all_added_kans, triplets, all_wins, candidates, possible_by, possible, key_of, comes_before}
use Rattle.mj_rules.proofs.InTurn.{Turned, turned-append, turned-map, turned-flat_map, turned-filter, turned-kept, turned-pairs, turned-from_pairs, turned-by}
use Rattle.mj_rules.proofs.Listed.{lawful_clear}

-- the order of keys

-- Two lists that begin alike.
alike_first : (x : ℕ) (xs ys : List ℕ) → comes_before xs ys ≡ true → comes_before (x ∷ xs) (x ∷ ys) ≡ true
alike_first x xs ys before = or_right (nat_lt x x) _ (and_from (x == x) _ (eq-eqb x x refl) before)

less_first : (x y : ℕ) (xs ys : List ℕ) → nat_lt x y ≡ true → comes_before (x ∷ xs) (y ∷ ys) ≡ true
less_first x y xs ys less = or_left (nat_lt x y) _ less

-- Two lists that begin alike, and then the one is less.
less_behind : (front : List ℕ) (x y : ℕ) (xs ys : List ℕ) → nat_lt x y ≡ true → comes_before (front ++ x ∷ xs) (front ++ y ∷ ys) ≡ true
less_behind [] x y xs ys less = less_first x y xs ys less
less_behind (z ∷ front) x y xs ys less = alike_first z (front ++ x ∷ xs) (front ++ y ∷ ys) (less_behind front x y xs ys less)

-- One answer stands before another.
abbrev Before : Answer → Answer → Type 0
Before one other = comes_before (key_of one) (key_of other) ≡ true

-- One face stands before another.
abbrev is_earlier : ℕ → ℕ → Bool
is_earlier a b = nat_lt (place_of (Known a)) (place_of (Known b))

abbrev Earlier : ℕ → ℕ → Type 0
Earlier a b = is_earlier a b ≡ true

order_turned : Turned Earlier tile_order
unfolding tile_order
order_turned = turned-by is_earlier tile_order refl

kind_turned : (kind : ℕ) → Turned Earlier (faces_of kind)
unfolding faces_of
kind_turned kind = turned-filter Earlier (λ face. kind_of face == kind) tile_order order_turned

-- answers that are listed face by face

-- The key begins so, and then comes a face.
abbrev Begins : List ℕ → ℕ → Answer → Type 0
Begins front face answer = (rest : List ℕ) × (key_of answer ≡ front ++ place_of (Known face) ∷ rest)

begins_before : (front : List ℕ) (a b : ℕ) (u v : Answer) → Earlier a b → Begins front a u → Begins front b v → Before u v
begins_before front a b u v earlier one other =
    (λ i. comes_before (one.1 i) (other.1 i)) ∙ less_behind front (place_of (Known a)) (place_of (Known b)) one.0 other.0 earlier

by_face : (front : List ℕ) (f : ℕ → List Answer) → ((a : ℕ) → All (Begins front a) (f a)) → ((a : ℕ) → Turned Before (f a)) → (faces : List ℕ) → Turned Earlier faces → Turned Before (flat_map f faces)
by_face front f begin each faces turned =
    turned-flat_map Earlier Before f each
    (λ a b u v earlier here there. begins_before front a b u v earlier (All-contains (Begins front a) (f a) u (begin a) here) (All-contains (Begins front b) (f b) v (begin b) there)) faces turned

by_last_face : (front : List ℕ) (g : ℕ → Answer) → ((a : ℕ) → Begins front a (g a)) → (faces : List ℕ) → Turned Earlier faces → Turned Before (map g faces)
by_last_face front g begin faces turned = turned-map Earlier Before g (λ a b earlier. begins_before front a b (g a) (g b) earlier (begin a) (begin b)) faces turned

-- What holds of every value holds of each member.
pub of_all : {A : Type 0} (P : A → Type 0) (xs : List A) → ((x : A) → P x) → All P xs
of_all P xs each = λ k d inside. each _

pub all_mapped : (P : Answer → Type 0) (g : ℕ → Answer) (faces : List ℕ) → ((a : ℕ) → P (g a)) → All P (map g faces)
all_mapped P g faces each = All-map P g faces (of_all (λ a. P (g a)) faces each)

pub all_joined : (P : Answer → Type 0) (f : ℕ → List Answer) (faces : List ℕ) → ((a : ℕ) → All P (f a)) → All P (flat_map f faces)
all_joined P f faces each = All-flat_map P f faces (of_all (λ a. All P (f a)) faces each)

-- each type in turn

discards_turned : (seat : ℕ) → Turned Before (all_discards seat)
unfolding all_discards
discards_turned seat =
    by_face (1 ∷ []) (discards_of seat)
    (λ a. All-cons (Begins (1 ∷ []) a) (Discard seat (Known a) false) (Discard seat (Known a) true ∷ []) (0 ∷ [], refl)
    (All-cons (Begins (1 ∷ []) a) (Discard seat (Known a) true) [] (1 ∷ [], refl) (All-nil (Begins (1 ∷ []) a))))
    (λ a. (
      All-cons (Before (Discard seat (Known a) false)) (Discard seat (Known a) true) []
          (less_behind (1 ∷ place_of (Known a) ∷ []) 0 1 [] [] refl)
          (All-nil (Before (Discard seat (Known a) false))),
      (All-nil (Before (Discard seat (Known a) true)), tt),
    ))
    tile_order order_turned

chis_turned : (seat target tile : ℕ) → Turned Before (all_chis seat target tile)
unfolding all_chis
chis_turned seat target tile =
    by_face (2 ∷ place_of (Known tile) ∷ []) (chis_with seat target tile)
    (λ a. all_mapped (Begins (2 ∷ place_of (Known tile) ∷ []) a) (λ b. Chi seat target (Known tile) (Known a) (Known b)) tile_order (λ b. (place_of (Known b) ∷ [], refl)))
    (λ a. by_last_face (2 ∷ place_of (Known tile) ∷ place_of (Known a) ∷ []) (λ b. Chi seat target (Known tile) (Known a) (Known b)) (λ b. ([], refl)) tile_order order_turned)
    tile_order order_turned

pons_turned : (seat target tile : ℕ) (faces : List ℕ) → Turned Earlier faces → Turned Before (pons_of seat target tile faces)
pons_turned seat target tile faces turned =
    by_face (3 ∷ place_of (Known tile) ∷ []) (λ a. map (λ b. Pon seat target (Known tile) (Known a) (Known b)) faces)
    (λ a. all_mapped (Begins (3 ∷ place_of (Known tile) ∷ []) a) (λ b. Pon seat target (Known tile) (Known a) (Known b)) faces (λ b. (place_of (Known b) ∷ [], refl)))
    (λ a. by_last_face (3 ∷ place_of (Known tile) ∷ place_of (Known a) ∷ []) (λ b. Pon seat target (Known tile) (Known a) (Known b)) (λ b. ([], refl)) faces turned)
    faces turned

open_kans_turned : (seat target tile : ℕ) (faces : List ℕ) → Turned Earlier faces → Turned Before (open_kans_of seat target tile faces)
open_kans_turned seat target tile faces turned =
    by_face (4 ∷ place_of (Known tile) ∷ []) (λ a. flat_map (λ b. map (λ c. OpenKan seat target (Known tile) (Known a) (Known b) (Known c)) faces) faces)
    (λ a. all_joined (Begins (4 ∷ place_of (Known tile) ∷ []) a) (λ b. map (λ c. OpenKan seat target (Known tile) (Known a) (Known b) (Known c)) faces) faces
    (λ b. all_mapped (Begins (4 ∷ place_of (Known tile) ∷ []) a) (λ c. OpenKan seat target (Known tile) (Known a) (Known b) (Known c)) faces
    (λ c. (place_of (Known b) ∷ place_of (Known c) ∷ [], refl))))
    (λ a. by_face (4 ∷ place_of (Known tile) ∷ place_of (Known a) ∷ []) (λ b. map (λ c. OpenKan seat target (Known tile) (Known a) (Known b) (Known c)) faces)
    (λ b. all_mapped (Begins (4 ∷ place_of (Known tile) ∷ place_of (Known a) ∷ []) b) (λ c. OpenKan seat target (Known tile) (Known a) (Known b)
    (Known c)) faces (λ c. (place_of (Known c) ∷ [], refl)))
    (λ b. by_last_face (4 ∷ place_of (Known tile) ∷ place_of (Known a) ∷ place_of (Known b) ∷ []) (λ c. OpenKan seat target (Known tile) (Known a) (Known b) (Known c)) (λ c. ([], refl)) faces turned)
    faces turned)
    faces turned

-- The kans of four concealed tiles that begin with a face.
four_turned : (seat a : ℕ) (faces : List ℕ) → Turned Earlier faces → Turned Before (closed_kans_of seat a faces)
four_turned seat a faces turned =
    by_face (5 ∷ place_of (Known a) ∷ []) (λ b. flat_map (λ c. map (λ d. ClosedKan seat (Known a) (Known b) (Known c) (Known d)) faces) faces)
    (λ b. all_joined (Begins (5 ∷ place_of (Known a) ∷ []) b) (λ c. map (λ d. ClosedKan seat (Known a) (Known b) (Known c) (Known d)) faces) faces
    (λ c. all_mapped (Begins (5 ∷ place_of (Known a) ∷ []) b) (λ d. ClosedKan seat (Known a) (Known b) (Known c) (Known d)) faces (λ d. (place_of (Known c) ∷ place_of (Known d) ∷ [], refl))))
    (λ b. by_face (5 ∷ place_of (Known a) ∷ place_of (Known b) ∷ []) (λ c. map (λ d. ClosedKan seat (Known a) (Known b) (Known c) (Known d)) faces)
    (λ c. all_mapped (Begins (5 ∷ place_of (Known a) ∷ place_of (Known b) ∷ []) c) (λ d. ClosedKan seat (Known a) (Known b) (Known c) (Known d)) faces (λ d. (place_of (Known d) ∷ [], refl)))
    (λ c. by_last_face (5 ∷ place_of (Known a) ∷ place_of (Known b) ∷ place_of (Known c) ∷ []) (λ d. ClosedKan seat (Known a) (Known b) (Known c) (Known d)) (λ d. ([], refl)) faces turned)
    faces turned)
    faces turned

four_begin : (seat a : ℕ) (faces : List ℕ) → All (Begins (5 ∷ []) a) (closed_kans_of seat a faces)
four_begin seat a faces =
    all_joined (Begins (5 ∷ []) a) (λ b. flat_map (λ c. map (λ d. ClosedKan seat (Known a) (Known b) (Known c) (Known d)) faces) faces) faces
    (λ b. all_joined (Begins (5 ∷ []) a) (λ c. map (λ d. ClosedKan seat (Known a) (Known b) (Known c) (Known d)) faces) faces
    (λ c. all_mapped (Begins (5 ∷ []) a) (λ d. ClosedKan seat (Known a) (Known b) (Known c) (Known d)) faces (λ d. (place_of (Known b) ∷ place_of (Known c) ∷ place_of (Known d) ∷ [], refl))))

closed_kans_turned : (seat : ℕ) → Turned Before (all_closed_kans seat)
unfolding all_closed_kans
closed_kans_turned seat =
    by_face (5 ∷ []) (λ a. closed_kans_of seat a (faces_of (kind_of a))) (λ a. four_begin seat a (faces_of (kind_of a))) (λ a. four_turned seat a (faces_of (kind_of a)) (kind_turned (kind_of a)))
    tile_order order_turned

-- the kans by adding a tile

-- Of a lawful one the tile is of the triplet's kind.
added_kind : (rules : Rules) (seat : ℕ) (view : SeatView) (face : ℕ) (meld : Meld) →
    is_lawful rules seat view (AddedKan seat (Known face) (Known meld.a) (Known meld.b) (Known meld.c)) ≡ true → kind_of face ≡ kind_of meld.a
added_kind rules seat view face meld lawful =
    let answer : Answer = AddedKan seat (Known face) (Known meld.a) (Known meld.b) (Known meld.c) in
    let clear = lawful_clear rules seat view answer lawful in
    let own : Meld → Bool = is_own_pon (Known face) (Known meld.a) (Known meld.b) (Known meld.c) in
    let found = Any-from_list_any own view.melds (not-false (list_any own view.melds) clear.1.1.1.1.1.1.1.1.1.0) in
    eqb-true (kind_of face) (kind_of meld.a) (and_parts _ (kind_of face == kind_of meld.a) found.4).1

-- The triplets are of different kinds.
abbrev Apart : Meld → Meld → Type 0
Apart one other = kind_of one.a ≢ kind_of other.a

abbrev added_kan : ℕ → ℕ → Meld → Answer
added_kan seat face meld = AddedKan seat (Known face) (Known meld.a) (Known meld.b) (Known meld.c)

filter-joined : (p : Answer → Bool) (f : ℕ → List Answer) (faces : List ℕ) → filter p (flat_map f faces) ≡ flat_map (λ a. filter p (f a)) faces
filter-joined p f [] = refl
filter-joined p f (a ∷ faces) = filter-append p (f a) (flat_map f faces) ∙ ap (λ xs. filter p (f a) ++ xs) (filter-joined p f faces)

added_kans_turned : (rules : Rules) (seat : ℕ) (view : SeatView) (melds : List Meld) → Turned Apart melds → Turned Before (filter (is_lawful rules seat view) (all_added_kans seat melds))
unfolding all_added_kans
added_kans_turned rules seat view melds apart =
    let lawful : Answer → Bool = is_lawful rules seat view in
    subst (Turned Before) (sym (filter-joined lawful (λ face. added_kans_of seat face melds) tile_order))
    (by_face (6 ∷ []) (λ face. filter lawful (added_kans_of seat face melds))
    (λ face. All-filter lawful (Begins (6 ∷ []) face) (map (added_kan seat face) melds)
    (All-map (Begins (6 ∷ []) face) (added_kan seat face) melds
    (of_all (λ (meld : Meld). Begins (6 ∷ []) face (added_kan seat face meld)) melds (λ meld. (place_of (Known meld.a) ∷ place_of (Known meld.b) ∷ place_of (Known meld.c) ∷ [], refl)))))
    (λ face. turned-kept Apart Before (added_kan seat face) lawful
    (λ one other differ first second. absurd (differ (sym (added_kind rules seat view face one first) ∙ added_kind rules seat view face other second))) melds apart)
    tile_order order_turned)

-- all types

-- A plain answer whose key begins with a number, or with one from a number on.
pub record Ranked (number : ℕ) (answer : Answer) : Type 0 where
  pub begins : key_of answer ≡ number ∷ drop 1 (key_of answer)
  pub plain : is_plain answer ≡ true

pub record RankedFrom (number : ℕ) (answer : Answer) : Type 0 where
  pub first : ℕ
  pub from : number ≤ first
  pub ranked : Ranked first answer

-- What is lawful among answers of one type stands in turn, and before what is lawful among answers of later types.
pub record InTurn (p : Answer → Bool) (number : ℕ) (answers : List Answer) : Type 0 where
  pub turned : Turned Before (filter p answers)
  pub ranked : All (RankedFrom number) answers

none_behind : (p : Answer → Bool) (number : ℕ) → InTurn p number []
none_behind p number = record { turned = tt; ranked = All-nil (RankedFrom number) }

joined : (p : Answer → Bool) (number : ℕ) (answers others : List Answer) → Turned Before (filter p answers) → All (Ranked number) answers →
    InTurn p (suc number) others → InTurn p number (answers ++ others)
joined p number answers others turned ranked behind =
    record {
      turned = subst (Turned Before) (sym (filter-append p answers others)) (turned-append Before (filter p answers) (filter p others) turned behind.turned across);
      ranked = All-append (RankedFrom number) answers others
          (All-weaker (Ranked number) (RankedFrom number) (λ answer is. record { first = number; from = omega arith; ranked = is }) answers ranked)
          (All-weaker (RankedFrom (suc number)) (RankedFrom number) (λ answer is. record { first = is.first; from = weaker number is.first is.from; ranked = is.ranked }) others behind.ranked);
    }
  where
    weaker : (n m : ℕ) → suc n ≤ m → n ≤ m
    weaker n m h = omega (arith, h)

    later : (n m : ℕ) → suc n ≤ m → n < m
    later n m h = omega (arith, h)

    across : (u v : Answer) → Contains (filter p answers) u → Contains (filter p others) v → Before u v
    across u v here there =
        let one = All-contains (Ranked number) (filter p answers) u (All-filter p (Ranked number) answers ranked) here in
        let other = All-contains (RankedFrom (suc number)) (filter p others) v (All-filter p (RankedFrom (suc number)) others behind.ranked) there in
        (λ i. comes_before (one.begins i) (other.ranked.begins i))
        ∙ less_first number other.first (drop 1 (key_of u)) (drop 1 (key_of v)) (lt-ltb number other.first (later number other.first other.from))

is_ranked : (number : ℕ) (answer : Answer) → key_of answer ≡ number ∷ drop 1 (key_of answer) → is_plain answer ≡ true → Ranked number answer
is_ranked number answer begins plain = record { begins = begins; plain = plain }

discards_ranked : (seat : ℕ) → All (Ranked 1) (all_discards seat)
unfolding all_discards
discards_ranked seat =
    all_joined (Ranked 1) (discards_of seat) tile_order
    (λ a. All-cons (Ranked 1) (Discard seat (Known a) false) (Discard seat (Known a) true ∷ []) (is_ranked 1 (Discard seat (Known a) false) refl refl)
    (All-cons (Ranked 1) (Discard seat (Known a) true) [] (is_ranked 1 (Discard seat (Known a) true) refl refl) (All-nil (Ranked 1))))

chis_ranked : (seat target tile : ℕ) → All (Ranked 2) (all_chis seat target tile)
unfolding all_chis
chis_ranked seat target tile =
    all_joined (Ranked 2) (chis_with seat target tile) tile_order
    (λ a. all_mapped (Ranked 2) (λ b. Chi seat target (Known tile) (Known a) (Known b)) tile_order (λ b. is_ranked 2 (Chi seat target (Known tile) (Known a) (Known b)) refl refl))

pons_ranked : (seat target tile : ℕ) (faces : List ℕ) → All (Ranked 3) (pons_of seat target tile faces)
pons_ranked seat target tile faces =
    all_joined (Ranked 3) (λ a. map (λ b. Pon seat target (Known tile) (Known a) (Known b)) faces) faces
    (λ a. all_mapped (Ranked 3) (λ b. Pon seat target (Known tile) (Known a) (Known b)) faces (λ b. is_ranked 3 (Pon seat target (Known tile) (Known a) (Known b)) refl refl))

open_kans_ranked : (seat target tile : ℕ) (faces : List ℕ) → All (Ranked 4) (open_kans_of seat target tile faces)
open_kans_ranked seat target tile faces =
    all_joined (Ranked 4) (λ a. flat_map (λ b. map (λ c. OpenKan seat target (Known tile) (Known a) (Known b) (Known c)) faces) faces) faces
    (λ a. all_joined (Ranked 4) (λ b. map (λ c. OpenKan seat target (Known tile) (Known a) (Known b) (Known c)) faces) faces
    (λ b. all_mapped (Ranked 4) (λ c. OpenKan seat target (Known tile) (Known a) (Known b) (Known c)) faces
    (λ c. is_ranked 4 (OpenKan seat target (Known tile) (Known a) (Known b) (Known c)) refl refl)))

closed_kans_ranked : (seat : ℕ) → All (Ranked 5) (all_closed_kans seat)
unfolding all_closed_kans
closed_kans_ranked seat =
    all_joined (Ranked 5) (λ a. closed_kans_of seat a (faces_of (kind_of a))) tile_order
    (λ a. all_joined (Ranked 5) (λ b. flat_map (λ c. map (λ d. ClosedKan seat (Known a) (Known b) (Known c) (Known d)) (faces_of (kind_of a))) (faces_of (kind_of a))) (faces_of (kind_of a))
    (λ b. all_joined (Ranked 5) (λ c. map (λ d. ClosedKan seat (Known a) (Known b) (Known c) (Known d)) (faces_of (kind_of a))) (faces_of (kind_of a))
    (λ c. all_mapped (Ranked 5) (λ d. ClosedKan seat (Known a) (Known b) (Known c) (Known d)) (faces_of (kind_of a))
    (λ d. is_ranked 5 (ClosedKan seat (Known a) (Known b) (Known c) (Known d)) refl refl))))

added_kans_ranked : (seat : ℕ) (melds : List Meld) → All (Ranked 6) (all_added_kans seat melds)
unfolding all_added_kans
added_kans_ranked seat melds =
    all_joined (Ranked 6) (λ face. added_kans_of seat face melds) tile_order
    (λ face. All-map (Ranked 6) (added_kan seat face) melds (of_all (λ (meld : Meld). Ranked 6 (added_kan seat face meld)) melds (λ meld. is_ranked 6 (added_kan seat face meld) refl refl)))

one_ranked : (number : ℕ) (answer : Answer) → Ranked number answer → All (Ranked number) (answer ∷ [])
one_ranked number answer is = All-cons (Ranked number) answer [] is (All-nil (Ranked number))

one_turned : (p : Answer → Bool) (answer : Answer) → Turned Before (filter p (answer ∷ []))
one_turned p answer = turned-filter Before p (answer ∷ []) (All-nil (Before answer), tt)

wins_ranked : (seat : ℕ) (turn : WindowTurn) → All (Ranked 8) (all_wins seat turn)
wins_ranked seat (Drew who) = one_ranked 8 (Win seat who None) (is_ranked 8 (Win seat who None) refl refl)
wins_ranked seat (Discarded who tile) = one_ranked 8 (Win seat who None) (is_ranked 8 (Win seat who None) refl refl)
wins_ranked seat (Added who tile) = one_ranked 8 (Win seat who None) (is_ranked 8 (Win seat who None) refl refl)
wins_ranked seat other = All-nil (Ranked 8)

wins_turned : (p : Answer → Bool) (seat : ℕ) (turn : WindowTurn) → Turned Before (filter p (all_wins seat turn))
wins_turned p seat (Drew who) = one_turned p (Win seat who None)
wins_turned p seat (Discarded who tile) = one_turned p (Win seat who None)
wins_turned p seat (Added who tile) = one_turned p (Win seat who None)
wins_turned p seat other = tt

-- The calls and what comes after them.
with_calls : (p : Answer → Bool) (seat : ℕ) (turn : WindowTurn) (others : List Answer) → InTurn p 5 others → InTurn p 2 (all_calls seat turn ++ others)
with_calls p seat (Discarded who tile) others behind =
    let faces = faces_of (kind_of tile) in
    subst (InTurn p 2) (together (all_chis seat who tile) (pons_of seat who tile faces) (open_kans_of seat who tile faces) others)
    (joined p 2 (all_chis seat who tile) (pons_of seat who tile faces ++ (open_kans_of seat who tile faces ++ others))
    (turned-filter Before p (all_chis seat who tile) (chis_turned seat who tile)) (chis_ranked seat who tile)
    (joined p 3 (pons_of seat who tile faces) (open_kans_of seat who tile faces ++ others)
    (turned-filter Before p (pons_of seat who tile faces) (pons_turned seat who tile faces (kind_turned (kind_of tile)))) (pons_ranked seat who tile faces)
    (joined p 4 (open_kans_of seat who tile faces) others
    (turned-filter Before p (open_kans_of seat who tile faces) (open_kans_turned seat who tile faces (kind_turned (kind_of tile)))) (open_kans_ranked seat who tile faces) behind)))
  where
    together : (a b c d : List Answer) → a ++ (b ++ (c ++ d)) ≡ (a ++ (b ++ c)) ++ d
    together a b c d = ap (λ xs. a ++ xs) (sym (append_assoc b c d)) ∙ sym (append_assoc a (b ++ c) d)
with_calls p seat other others behind =
    record {
      turned = behind.turned;
      ranked = All-weaker (RankedFrom 5) (RankedFrom 2) (λ answer is. record {
        first = is.first;
        from = weaker is.first is.from;
        ranked = is.ranked;
      }) others behind.ranked;
    }
  where
    weaker : (m : ℕ) → 5 ≤ m → 2 ≤ m
    weaker m h = omega (arith, h)

all_in_turn : (rules : Rules) (seat : ℕ) (view : SeatView) → Turned Before (filter (is_lawful rules seat view) (all_added_kans seat (triplets view)))
    → InTurn (is_lawful rules seat view) 0 (candidates seat view)
all_in_turn rules seat view kans =
    let p : Answer → Bool = is_lawful rules seat view in
    joined p 0 (Pass None ∷ []) _ (one_turned p (Pass None)) (one_ranked 0 (Pass None) (is_ranked 0 (Pass None) refl refl))
    (joined p 1 (all_discards seat) _ (turned-filter Before p (all_discards seat) (discards_turned seat)) (discards_ranked seat)
    (with_calls p seat view.turn _
    (joined p 5 (all_closed_kans seat) _ (turned-filter Before p (all_closed_kans seat) (closed_kans_turned seat)) (closed_kans_ranked seat)
    (joined p 6 (all_added_kans seat (triplets view)) _ kans (added_kans_ranked seat (triplets view))
    (joined p 7 (Reach seat ∷ []) _ (one_turned p (Reach seat)) (one_ranked 7 (Reach seat) (is_ranked 7 (Reach seat) refl refl))
    (joined p 8 (all_wins seat view.turn) _ (wins_turned p seat view.turn) (wins_ranked seat view.turn)
    (subst (InTurn p 9) (append-nil (NineKinds seat ∷ []))
    (joined p 9 (NineKinds seat ∷ []) [] (one_turned p (NineKinds seat)) (one_ranked 9 (NineKinds seat) (is_ranked 9 (NineKinds seat) refl refl)) (none_behind p 10)))))))))

pub listed_in_turn : (rules : Rules) (deeds : List Deed) (seat : ℕ) → AllPairs (λ one other. kind_of one.a ≢ kind_of other.a) (triplets (view_of deeds seat)) →
    AllPairs (λ one other. comes_before (key_of one) (key_of other) ≡ true) (possible rules deeds seat)
unfolding possible_by
listed_in_turn rules deeds seat apart =
    let view = view_of deeds seat in
    turned-pairs Before (filter (is_lawful rules seat view) (candidates seat view))
    (all_in_turn rules seat view (added_kans_turned rules seat view (triplets view) (turned-from_pairs Apart (triplets view) apart))).turned

-- all are plain

abbrev IsPlain : Answer → Type 0
IsPlain answer = is_plain answer ≡ true

plain_of : (number : ℕ) (answers others : List Answer) → All (Ranked number) answers → All IsPlain others → All IsPlain (answers ++ others)
plain_of number answers others ranked rest = All-append IsPlain answers others (All-weaker (Ranked number) IsPlain (λ answer is. is.plain) answers ranked) rest

calls_plain : (seat : ℕ) (turn : WindowTurn) → All IsPlain (all_calls seat turn)
calls_plain seat (Discarded who tile) =
    let faces = faces_of (kind_of tile) in
    plain_of 2 (all_chis seat who tile) _ (chis_ranked seat who tile)
    (plain_of 3 (pons_of seat who tile faces) _ (pons_ranked seat who tile faces)
    (All-weaker (Ranked 4) IsPlain (λ answer is. is.plain) (open_kans_of seat who tile faces) (open_kans_ranked seat who tile faces)))
calls_plain seat other = All-nil IsPlain

all_plain : (seat : ℕ) (view : SeatView) → All IsPlain (candidates seat view)
all_plain seat view =
    plain_of 0 (Pass None ∷ []) _ (one_ranked 0 (Pass None) (is_ranked 0 (Pass None) refl refl))
    (plain_of 1 (all_discards seat) _ (discards_ranked seat)
    (All-append IsPlain (all_calls seat view.turn) _ (calls_plain seat view.turn)
    (plain_of 5 (all_closed_kans seat) _ (closed_kans_ranked seat)
    (plain_of 6 (all_added_kans seat (triplets view)) _ (added_kans_ranked seat (triplets view))
    (plain_of 7 (Reach seat ∷ []) _ (one_ranked 7 (Reach seat) (is_ranked 7 (Reach seat) refl refl))
    (plain_of 8 (all_wins seat view.turn) _ (wins_ranked seat view.turn)
    (All-cons IsPlain (NineKinds seat) [] refl (All-nil IsPlain))))))))

pub listed_is_plain : (rules : Rules) (deeds : List Deed) (seat : ℕ) → list_all is_plain (possible rules deeds seat) ≡ true
unfolding possible_by
listed_is_plain rules deeds seat =
    let view = view_of deeds seat in
    list_all-from_AllPass is_plain (filter (is_lawful rules seat view) (candidates seat view)) (All-filter (is_lawful rules seat view) IsPlain (candidates seat view) (all_plain seat view))
