-- Lists in brackets are read again.
use Rattle.std.proofs.Common.{◌≡◌, ℕ, ◌<◌, ◌≤◌, List, [], ◌∷◌, ◌++◌, length, length-append, Bool, true, refl, ap, ◌∙◌, arith, zero, suc, append_assoc}
use Rattle.std.specs.Prelude.{Option, Some, option_map, option_and_then, map, flat_map}
use Rattle.std.specs.List.{list_all}
use Rattle.std.proofs.lemmas.Bool.{ltb-true}
use Rattle.mj_forms.specs.Lines.{bracketed, quoted_tile}
use Rattle.mj_history.specs.Records.{is_tile}
use Rattle.mj_records.specs.Inner.Fields.{tile_at}
use Rattle.mj_records.specs.Inner.Lists.{behind_item, items_from, items_in, list_at, tiles_at, tiles_field}
use Rattle.mj_records.proofs.FieldLaws.{behind_key, tile_read}
use Rattle.mj_records.proofs.PointLaws.{and-parts}
use Rattle.mj_records.proofs.Shapes.{list_shape}

-- the pieces after the first, each after a comma
abbrev pub later : {A : Type 0} → (A → List ℕ) → List A → List ℕ
later w xs = flat_map (λ other. 44 ∷ other) (map w xs)

-- as many bytes as pieces
room : {A : Type 0} (w : A → List ℕ) (xs : List A) → length xs ≤ length (later w xs)
room w [] = omega arith
room w (x ∷ xs) = omega (arith, room w xs, length-append (44 ∷ w x) (later w xs))

pub items_read : {A : Type 0} (item : List ℕ → Option (A × List ℕ)) (w : A → List ℕ) (ok : A → Bool) → ((x : A) (rest : List ℕ) → ok x ≡ true →
    item (w x ++ rest) ≡ Some (x, rest)) → (x : A) (xs : List A) (most : ℕ) (rest : List ℕ) → ok x ≡ true → list_all ok xs ≡ true → length xs < most →
    items_from item most (w x ++ (later w xs ++ (93 ∷ rest))) ≡ Some (x ∷ xs, rest)
items_read item w ok reads x xs zero rest hx hs small = absurd (omega arith)
items_read item w ok reads x [] (suc most) rest hx hs small = ap (option_and_then (λ y. behind_item y.0 (items_from item most) y.1)) (reads x (93 ∷ rest) hx)
items_read item w ok reads x (y ∷ ys) (suc most) rest hx hs small =
    let p = and-parts (ok y) (list_all ok ys) hs in
    ap (λ t. items_from item (suc most) (w x ++ (44 ∷ t))) (append_assoc (w y) (later w ys) (93 ∷ rest))
    ∙ ap (option_and_then (λ z. behind_item z.0 (items_from item most) z.1)) (reads x (44 ∷ (w y ++ (later w ys ++ (93 ∷ rest)))) hx)
    ∙ ap (option_map (λ more. (x ∷ more.0, more.1))) (items_read item w ok reads y ys most rest p.0 p.1 (omega arith))

pub list_read : {A : Type 0} (item : List ℕ → Option (A × List ℕ)) (w : A → List ℕ) (ok : A → Bool) → ((x : A) (rest : List ℕ) → ok x ≡ true →
    item (w x ++ rest) ≡ Some (x, rest)) → ((x : A) (rest : List ℕ) → items_in item (w x ++ rest) ≡ items_from item (length (w x ++ rest))
    (w x ++ rest)) → (xs : List A) (rest : List ℕ) → list_all ok xs ≡ true →
    list_at item (bracketed (map w xs) ++ rest) ≡ Some (xs, rest)
unfolding bracketed
list_read item w ok reads starts [] rest hs = refl
list_read item w ok reads starts (x ∷ xs) rest hs =
    let p = and-parts (ok x) (list_all ok xs) hs in
    let text = later w xs ++ (93 ∷ rest) in
    let enough : length xs < length (w x ++ (later w xs ++ (93 ∷ rest))) =
    omega (arith, room w xs, length-append (w x) (later w xs ++ (93 ∷ rest)), length-append (later w xs) (93 ∷ rest)) in
    ap (list_at item) (list_shape (w x ++ later w xs) rest (w x ++ (later w xs ++ (93 ∷ rest))) (append_assoc (w x) (later w xs) (93 ∷ rest)))
    ∙ starts x (later w xs ++ (93 ∷ rest))
    ∙ items_read item w ok reads x xs (length (w x ++ (later w xs ++ (93 ∷ rest)))) rest p.0 p.1 enough

tile_starts : (tile : ℕ) (rest : List ℕ) → items_in tile_at (quoted_tile tile ++ rest) ≡ items_from tile_at (length (quoted_tile tile ++ rest)) (quoted_tile tile ++ rest)
unfolding quoted_tile
tile_starts tile rest = refl

pub tiles_read : (tiles rest : List ℕ) → list_all is_tile tiles ≡ true → tiles_at (bracketed (map quoted_tile tiles) ++ rest) ≡ Some (tiles, rest)
unfolding tiles_at
tiles_read tiles rest h = list_read tile_at quoted_tile is_tile (λ tile others small. tile_read tile others (ltb-true tile 37 small)) tile_starts tiles rest h

pub tiles_field_read : (key rest tiles : List ℕ) → list_all is_tile tiles ≡ true → tiles_field key (key ++ (bracketed (map quoted_tile tiles) ++ rest)) ≡ Some (tiles, rest)
unfolding tiles_field
tiles_field_read key rest tiles h = ap (option_and_then tiles_at) (behind_key key (bracketed (map quoted_tile tiles) ++ rest)) ∙ tiles_read tiles rest h
