-- The tiles of a word, read part by part.
use Rattle.std.proofs.Common.{◌≡◌, ℕ, List, ◌∷◌, ◌++◌, [], sym, ◌∙◌}
use Rattle.std.specs.Prelude.{Option, Some, None}
use Rattle.mj_lists.proofs.Onto.{onto, onto-more, onto-nothing}
use Rattle.mj_bytes.specs.Parts.{BeginsWithPart, IsOnePart}
use Rattle.mj_tiles.specs.Faces.{face_of}
use Rattle.mj_hand.specs.Words.{parts, tiles_of}

-- Nothing was read.
pub nothing_read : (o : Option (List ℕ)) → o ≡ onto [] o
nothing_read o = onto-nothing o

-- A tile more was read.
pub tile_read : (whole : Option (List ℕ)) (tiles rest first others : List ℕ) (tile : ℕ) → whole ≡ onto tiles (tiles_of (parts rest)) → BeginsWithPart 43 rest first others
    → Some tile ≡ face_of first → whole ≡ onto (tiles ++ tile ∷ []) (tiles_of (parts others))
tile_read whole tiles rest first others tile h p f =
    let k = rw (p.all, ← f) at h in k ∙ onto-more tiles tile (tiles_of (parts others))

-- The last tile was read.
pub last_read : (whole : Option (List ℕ)) (tiles rest : List ℕ) (tile : ℕ) → whole ≡ onto tiles (tiles_of (parts rest)) → IsOnePart 43 rest → Some tile ≡ face_of rest
    → Some (tiles ++ tile ∷ []) ≡ whole
last_read whole tiles rest tile h p f = let k = rw (p.all, ← f) at h in sym k

-- A part names no tile.
pub none_read : (whole : Option (List ℕ)) (tiles rest first others : List ℕ) → whole ≡ onto tiles (tiles_of (parts rest)) → BeginsWithPart 43 rest first others → None ≡ face_of first → None ≡ whole
none_read whole tiles rest first others h p f = let k = rw (p.all, ← f) at h in sym k

-- The last part names no tile.
pub last_none : (whole : Option (List ℕ)) (tiles rest : List ℕ) → whole ≡ onto tiles (tiles_of (parts rest)) → IsOnePart 43 rest → None ≡ face_of rest → None ≡ whole
last_none whole tiles rest h p f = let k = rw (p.all, ← f) at h in sym k

pub ruleset reading = (nothing_read, tile_read, last_read, none_read, last_none)
