-- The concealed tiles, face by face.
use Rattle.std.proofs.Common.{◌≡◌, ℕ, ◌+◌, ◌*◌, ◌<◌, ◌≤◌, List, [], ◌++◌, length, take, cond, eqb, replicate, get_or, true, false, Bool, refl, sym, ap, ◌∙◌, arith}
use Rattle.std.specs.Prelude.{flat_map}
use Rattle.std.proofs.lemmas.List.{take_more, flat_map_more}
use Rattle.std.proofs.lemmas.List.Folds.{sum_by-replicate}
use Rattle.mj_tiles.specs.Faces.{kind_of, tile_order}
use Rattle.mj_tiles.specs.Counts.{number_of}
use Rattle.mj_tiles.proofs.Faces.{all_faces}

-- So many tiles of each of these faces.
abbrev pub copies_of : (ℕ → ℕ) → List ℕ → List ℕ
copies_of number faces = flat_map (λ face. replicate (number face) face) faces

pub number_of-replicate : (n face kind : ℕ) → number_of (replicate n face) kind ≡ cond (eqb (kind_of face) kind) n 0
number_of-replicate n face kind = sum_by-replicate (λ tile. cond (eqb (kind_of tile) kind) 1 0) n face ∙ times (eqb (kind_of face) kind)
  where
    times : (b : Bool) → n * cond b 1 0 ≡ cond b n 0
    times true = omega arith
    times false = omega arith

copies_more : (number : ℕ → ℕ) (faces : List ℕ) (i face : ℕ) → i < length faces → face ≡ get_or faces i 0 →
    copies_of number (take (i + 1) faces) ≡ copies_of number (take i faces) ++ replicate (number face) face
copies_more number faces i face h is =
    ap (copies_of number) (take_more faces i 0 h)
    ∙ sym (flat_map_more (λ f. replicate (number f) f) [] (take i faces) (get_or faces i 0))
    ∙ ap (λ f. copies_of number (take i faces) ++ replicate (number f) f) (sym is)

all_taken : take 37 tile_order ≡ tile_order
unfolding tile_order
all_taken = refl

-- The tiles themselves, a face further.
pub copies_step : (number : ℕ → ℕ) (tiles now : List ℕ) (i face n : ℕ) → i < 37 → face ≡ get_or tile_order i 0 → n ≡ number face →
    tiles ≡ copies_of number (take i tile_order) → now ≡ tiles ++ replicate n face →
    now ≡ copies_of number (take (i + 1) tile_order)
copies_step number tiles now i face n h is what was added =
    added ∙ (λ k. was k ++ replicate (what k) face) ∙ sym (copies_more number tile_order i face (omega (arith, h, all_faces)) is)

pub copies_whole : (number : ℕ → ℕ) (tiles : List ℕ) (i : ℕ) → 37 ≤ i → i ≤ 37 → tiles ≡ copies_of number (take i tile_order) → tiles ≡ copies_of number tile_order
copies_whole number tiles i h k was =
    let end : i ≡ 37 = omega (arith, h, k) in
    was ∙ ap (λ j. copies_of number (take j tile_order)) end ∙ ap (copies_of number) all_taken
