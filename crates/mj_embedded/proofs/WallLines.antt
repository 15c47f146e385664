-- The walls of a text taken line by line.
use Rattle.std.proofs.Common.{◌≡◌, ℕ, ◌≤◌, ◌<◌, ◌==◌, ◌&&◌, not, Bool, true, false, List, [], ◌∷◌, ◌++◌, length, Option, Some, None, refl, sym, ap, subst, ◌∙◌, arith}
use Rattle.std.proofs.lemmas.Grind.{common_steps}
use Rattle.std.specs.Prelude.{if◌then◌else◌, nat_le, option_and_then, option_map}
use Rattle.std.proofs.lemmas.List.{append_assoc, append-nil, length-append}
use Rattle.mj_bytes.specs.Parts.{whole_lines, unfinished, fields, behind, BeginsWithLine, HasNoLine}
use Rattle.mj_forms.specs.Headers.{tiles_in}
use Rattle.std.specs.Prelude.{codes, is_some, unwrap_or, IsTrue}
use Rattle.std.specs.List.{list_all}
use Rattle.std.proofs.Common.{true≢false}
use Rattle.mj_wall.specs.Places.{is_wall}
use Rattle.mj_embedded.specs.Opens.{walls_in, wall_in, wall_if, some_walls, counted}

abbrev attach : List (List ℕ) → Option (List (List ℕ)) → Option (List (List ℕ))
attach xs o = option_map (λ more. xs ++ more) o

-- What was taken and what is left make all.
pub record TakesWalls (red : Bool) (text : List ℕ) (walls : List (List ℕ)) (rest : List ℕ) : Type 0 where
  pub all : walls_in red (whole_lines text) ≡ option_map (λ more. walls ++ more) (walls_in red (whole_lines rest))
  pub ending : unfinished text ≡ unfinished rest
  pub few : length walls ≤ 200

attach-none : (o : Option (List (List ℕ))) → o ≡ attach [] o
attach-none None = refl
attach-none (Some ws) = refl

attach-more : (xs : List (List ℕ)) (w : List ℕ) (o : Option (List (List ℕ))) → attach xs (option_map (λ ws. w ∷ ws) o) ≡ attach (xs ++ w ∷ []) o
attach-more xs w None = refl
attach-more xs w (Some ws) = ap Some (sym (append_assoc xs (w ∷ []) ws))

-- The walls of a line and of more lines.
abbrev onto : Bool → List (List ℕ) → List ℕ → Option (List (List ℕ))
onto red lines wall = option_map (λ walls. wall ∷ walls) (walls_in red lines)

reads : (red : Bool) (line : List ℕ) (lines : List (List ℕ)) (wall : Option (List ℕ)) → wall_in red line ≡ wall → walls_in red (line ∷ lines) ≡ option_and_then (onto red lines) wall
reads red line lines wall is = ap (option_and_then (onto red lines)) is

-- The walls of all lines, once one more is read.
all_more : (red : Bool) (text : List ℕ) (walls : List (List ℕ)) (rest line others : List ℕ) (w : List ℕ)
    → TakesWalls red text walls rest → BeginsWithLine rest line others → wall_in red line ≡ Some w
    → walls_in red (whole_lines text) ≡ attach (walls ++ w ∷ []) (walls_in red (whole_lines others))
all_more red text walls rest line others w taken begins is =
    taken.all ∙ (ap (attach walls) (ap (walls_in red) begins.lines ∙ reads red line (whole_lines others) (Some w) is) ∙ attach-more walls w (walls_in red (whole_lines others)))

fewer : (walls : List (List ℕ)) (w : List ℕ) → length walls < 200 → length (walls ++ w ∷ []) ≤ 200
fewer walls w less = omega (arith, length-append walls (w ∷ []), less)

pub takes-none : (red : Bool) (text : List ℕ) → TakesWalls red text [] text
takes-none red text = record { all = attach-none (walls_in red (whole_lines text)); ending = refl; few = omega arith }

pub takes-more : (red : Bool) (text : List ℕ) (walls new : List (List ℕ)) (rest line others : List ℕ) (w : List ℕ)
    → TakesWalls red text walls rest → BeginsWithLine rest line others → Some w ≡ wall_in red line → length walls < 200 → new ≡ walls ++ w ∷ []
    → TakesWalls red text new others
takes-more red text walls new rest line others w taken begins is less same = subst (λ ws. TakesWalls red text ws others) (sym same) (record {
  all = all_more red text walls rest line others w taken begins (sym is);
  ending = taken.ending ∙ begins.ending;
  few = fewer walls w less;
})

-- No walls stand in a text.
none_of : (b : Bool) (o : Option (List (List ℕ))) → o ≡ None → (if b then option_and_then counted o else None) ≡ None
none_of true o is = ap (option_and_then counted) is
none_of false o is = refl

pub none-line : (red : Bool) (text : List ℕ) (walls : List (List ℕ)) (rest line others : List ℕ)
    → TakesWalls red text walls rest → BeginsWithLine rest line others → None ≡ wall_in red line → None ≡ some_walls red text
none-line red text walls rest line others taken begins is = sym (none_of (length (unfinished text) == 0) (walls_in red (whole_lines text))
    (taken.all ∙ ap (attach walls) (ap (walls_in red) begins.lines ∙ reads red line (whole_lines others) None (sym is))))

uncounted : (walls : List (List ℕ)) → 200 < length walls → counted walls ≡ None
uncounted walls more = grind (arith, common_steps)

many : (xs : List (List ℕ)) (w : List ℕ) (o : Option (List (List ℕ))) → length xs ≡ 200 → option_and_then counted (attach (xs ++ w ∷ []) o) ≡ None
many xs w None is = refl
many xs w (Some ws) is = uncounted ((xs ++ w ∷ []) ++ ws) (omega (arith, is, length-append xs (w ∷ []), length-append (xs ++ w ∷ []) ws))

if-none : (b : Bool) (o : Option (List (List ℕ))) → o ≡ None → (if b then o else None) ≡ None
if-none true o is = is
if-none false o is = refl

pub none-many : (red : Bool) (text : List ℕ) (walls : List (List ℕ)) (rest line others : List ℕ) (w : List ℕ)
    → TakesWalls red text walls rest → BeginsWithLine rest line others → Some w ≡ wall_in red line → length walls ≡ 200 → None ≡ some_walls red text
none-many red text walls rest line others w taken begins is full = sym (if-none (length (unfinished text) == 0) (option_and_then counted (walls_in red (whole_lines text)))
    (ap (option_and_then counted) (all_more red text walls rest line others w taken begins (sym is)) ∙ many walls w (walls_in red (whole_lines others)) full))

-- All lines are read.
all_read : (red : Bool) (text : List ℕ) (walls : List (List ℕ)) (rest : List ℕ) → TakesWalls red text walls rest → HasNoLine rest → walls_in red (whole_lines text) ≡ Some walls
all_read red text walls rest taken ends = taken.all ∙ (ap (attach walls) (ap (walls_in red) ends.lines) ∙ ap Some (append-nil walls))

pub none-empty : (red : Bool) (text : List ℕ) (walls : List (List ℕ)) (rest : List ℕ) → TakesWalls red text walls rest → HasNoLine rest → (length walls == 0) ≡ true → None ≡ some_walls red text
none-empty red text [] rest taken ends is = sym (if-none (length (unfinished text) == 0) (option_and_then counted (walls_in red (whole_lines text)))
    (ap (option_and_then counted) (all_read red text [] rest taken ends)))
none-empty red text (w ∷ ws) rest taken ends is = absurd (grind arith)

left_over : (text rest : List ℕ) → unfinished text ≡ unfinished rest → HasNoLine rest → (length rest == 0) ≡ (length (unfinished text) == 0)
left_over text rest same ends = ap (λ (xs : List ℕ). length xs == 0) (sym (same ∙ ends.ending))

pub none-left : (red : Bool) (text : List ℕ) (walls : List (List ℕ)) (rest : List ℕ) → TakesWalls red text walls rest → HasNoLine rest → (length rest == 0) ≡ false → None ≡ some_walls red text
none-left red text walls rest taken ends is = sym (ap (λ (b : Bool). if b then option_and_then counted (walls_in red (whole_lines text)) else None)
    (sym (left_over text rest taken.ending ends) ∙ is))

counts : (walls : List (List ℕ)) → (length walls == 0) ≡ false → length walls ≤ 200 → counted walls ≡ Some walls
counts walls some few = grind (arith, common_steps)

pub some-read : (red : Bool) (text : List ℕ) (walls : List (List ℕ)) (rest : List ℕ) → TakesWalls red text walls rest → HasNoLine rest
    → (length walls == 0) ≡ false → (length rest == 0) ≡ true → Some walls ≡ some_walls red text
some-read red text walls rest taken ends some all = sym (ap (λ (b : Bool). if b then option_and_then counted (walls_in red (whole_lines text)) else None)
    (sym (left_over text rest taken.ending ends) ∙ all) ∙ (ap (option_and_then counted) (all_read red text walls rest taken ends) ∙ counts walls some taken.few))

-- Walls that are read are whole.
not-some : {A : Type 0} (x : A) → Some x ≡ None → ⊥
not-some x is = true≢false (ap is_some is)

test_held : {A : Type 0} (b : Bool) (x y : A) → Some y ≡ (if b then Some x else None) → b ≡ true
test_held true x y is = refl
test_held false x y is = absurd (not-some y is)

is_same : {A : Type 0} (b : Bool) (x y : A) → Some y ≡ (if b then Some x else None) → x ≡ y
is_same {A = A} true x y is = sym (ap (λ (o : Option A). unwrap_or o y) is)
is_same {A = A} false x y is = absurd (not-some y is)

tiles_whole : (red : Bool) (tiles : Option (List ℕ)) (w : List ℕ) → Some w ≡ option_and_then (wall_if red) tiles → is_wall red w ≡ true
tiles_whole red None w is = absurd (not-some w is)
tiles_whole red (Some tiles) w is = subst (λ (t : List ℕ). is_wall red t ≡ true) (is_same (is_wall red tiles) tiles w is) (test_held (is_wall red tiles) tiles w is)

both_true : (a b : Bool) → a ≡ true → b ≡ true → (a && b) ≡ true
both_true a b is also = ap (λ (c : Bool). c && b) is ∙ also

put_whole : (red : Bool) (wall : Option (List ℕ)) (more : Option (List (List ℕ))) (ws : List (List ℕ))
    → ((w : List ℕ) → wall ≡ Some w → is_wall red w ≡ true) → ((vs : List (List ℕ)) → more ≡ Some vs → list_all (is_wall red) vs ≡ true)
    → option_and_then (λ (w : List ℕ). option_map (λ vs. w ∷ vs) more) wall ≡ Some ws → list_all (is_wall red) ws ≡ true
put_whole red None more ws one others is = absurd (not-some ws (sym is))
put_whole red (Some w) None ws one others is = absurd (not-some ws (sym is))
put_whole red (Some w) (Some vs) ws one others is = subst (λ (us : List (List ℕ)). list_all (is_wall red) us ≡ true)
    (ap (λ (o : Option (List (List ℕ))). unwrap_or o ws) is) (both_true (is_wall red w) (list_all (is_wall red) vs) (one w refl) (others vs refl))

all_whole : (red : Bool) (lines ws : List (List ℕ)) → walls_in red lines ≡ Some ws → list_all (is_wall red) ws ≡ true
all_whole red [] ws is = subst (λ (us : List (List ℕ)). list_all (is_wall red) us ≡ true) (ap (λ (o : Option (List (List ℕ))). unwrap_or o ws) is) refl
all_whole red (line ∷ lines) ws is = put_whole red (wall_in red line) (walls_in red lines) ws
    (λ w e. tiles_whole red (option_and_then (λ text. tiles_in (fields text)) (behind (codes "wall ") line)) w (sym e)) (all_whole red lines) is

counted_are : (o : Option (List (List ℕ))) (ws : List (List ℕ)) → Some ws ≡ option_and_then counted o → o ≡ Some ws
counted_are None ws is = absurd (not-some ws is)
counted_are (Some vs) ws is = ap Some (is_same (not (length vs == 0) && nat_le (length vs) 200) vs ws is)

read_are : (b : Bool) (o : Option (List (List ℕ))) (ws : List (List ℕ)) → Some ws ≡ (if b then option_and_then counted o else None) → o ≡ Some ws
read_are true o ws is = counted_are o ws is
read_are false o ws is = absurd (not-some ws is)

pub whole_walls : (red : Bool) (text : List ℕ) (ws : List (List ℕ)) → Some ws ≡ some_walls red text → IsTrue (list_all (is_wall red) ws)
whole_walls red text ws is = all_whole red (whole_lines text) ws (read_are (length (unfinished text) == 0) (walls_in red (whole_lines text)) ws is)
