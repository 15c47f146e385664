-- Pieces written one after the other.
use Rattle.std.proofs.Common.{ℕ, List, [], ◌++◌, append_assoc}
use Rattle.std.proofs.lemmas.Grind.{common_steps}
use Rattle.mj_bytes.specs.Adds.{Adds}
use native.Mathlib.Omega.{arith}

pub adds_more : (a b c x y : List ℕ) → Adds a b x → Adds b c y → Adds a c (x ++ y)
adds_more a b c x y p q = record { is = grind (arith, common_steps, p.is, q.is, append_assoc a x y) }

pub adds_nothing : (a : List ℕ) → Adds a a []
adds_nothing a = record { is = grind (arith, common_steps) }
