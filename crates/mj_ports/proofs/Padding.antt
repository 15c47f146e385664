-- Bytes that are written over the front of blank places.
use Rattle.std.proofs.Common.{◌≡◌, ℕ, ◌-◌, ◌≤◌, List, ◌++◌, length, drop, ◌∙◌, ap, arith, length-append, replicate}
use Rattle.std.proofs.lemmas.List.{drop-replicate, length-replicate}
use Rattle.std.proofs.Math.Seq.{take-append_seam}
use Rattle.mj_lists.specs.Padded.{padded, IsPadded}

-- A list with zeros after it lies in its places,
padded_by : (xs : List ℕ) → length xs ≤ 64 → IsPadded 64 0 (padded 64 0 xs) (length xs)
padded_by xs h = record {
  size = omega (arith, length-append xs (replicate {A = ℕ} (64 - length xs) 0), length-replicate {A = ℕ} (64 - length xs) 0);
  within = h;
  rest = ap (λ (front : List ℕ). padded 64 0 front) (take-append_seam xs (replicate (64 - length xs) 0));
}

-- and so does one that is written over the front of zeros.
pub padded_front : (xs zeros : List ℕ) → zeros ≡ replicate 64 0 → length xs ≤ 64 → IsPadded 64 0 (xs ++ drop (length xs) zeros) (length xs)
padded_front xs zeros e h =
    let behind : drop (length xs) zeros ≡ replicate (64 - length xs) 0 = ap (drop (length xs)) e ∙ drop-replicate (length xs) 64 0 in
    rw behind (padded_by xs h)
