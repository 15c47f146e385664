-- A reading to the end, read by read.
use Rattle.std.proofs.Common.{◌≡◌, ℕ, ◌+◌, ◌-◌, ◌<◌, ◌≤◌, List, ◌++◌, length, take, ap, arith, length-append, length-take}
use Rattle.std.specs.Prelude.{Option}
use Rattle.std.specs.Io.KnownBytes.{Consumes, Keeps}
use Rattle.mj_links.specs.Sources.{TakesOver}
use Rattle.mj_links.proofs.KnownLaws.{TakesOver-nothing, TakesOver-more, TakesOver-keeps}

-- the text took over what was read so far, there is room for so many bytes more, and the count of faults did not fall
pub record ReadSoFar (first now : Option (List ℕ)) (before text : List ℕ) (limit room faults count : ℕ) : Type 0 where
  pub over : TakesOver first now before text
  pub left : length text + room ≡ length before + limit
  pub risen : faults ≤ count

pub read_so_far-start : (a : Option (List ℕ)) (text : List ℕ) (limit faults : ℕ) → ReadSoFar a a text text limit limit faults faults
read_so_far-start a text limit faults = record { over = TakesOver-nothing a text; left = omega arith; risen = omega arith }

pub read_so_far-more : (a b c : Option (List ℕ)) (before text next buffer : List ℕ) (limit room faults count later n : ℕ)
    → ReadSoFar a b before text limit room faults count → Consumes b c (take n buffer) → n ≤ length buffer → next ≡ text ++ take n buffer → n ≤ room → count ≤ later
    → ReadSoFar a c before next limit (room - n) faults later
read_so_far-more a b c before text next buffer limit room faults count later n s p fits e small more = record {
  over = TakesOver-more a b c before text next (take n buffer) s.over p e;
  left = omega (arith, ap length e, length-append text (take n buffer), length-take n buffer, s.left);
  risen = omega (arith, s.risen);
}

-- the read that goes past the limit
pub past_limit : (a b c : Option (List ℕ)) (before text next buffer : List ℕ) (limit room faults count n : ℕ)
    → ReadSoFar a b before text limit room faults count → Consumes b c (take n buffer) → n ≤ length buffer → next ≡ text ++ take n buffer → room < n
    → TakesOver a c before next × (length before + limit < length next)
past_limit a b c before text next buffer limit room faults count n s p fits e past =
    (TakesOver-more a b c before text next (take n buffer) s.over p e, omega (arith, ap length e, length-append text (take n buffer), length-take n buffer, s.left))

-- the read that moves nothing
pub stopped : (a b c : Option (List ℕ)) (before text : List ℕ) (limit room faults count : ℕ)
    → ReadSoFar a b before text limit room faults count → Keeps b c
    → TakesOver a c before text × (length text ≤ length before + limit)
stopped a b c before text limit room faults count s k = (TakesOver-keeps a b c before text s.over k, omega (arith, s.left))

pub ruleset reading = (read_so_far-start, read_so_far-more, past_limit, stopped)
