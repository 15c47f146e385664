-- Pieces that are written one after the other, in the order of the code.
use Rattle.std.proofs.Common.{◌≡◌, ℕ, List, ◌++◌, subst}
use Rattle.mj_bytes.specs.Adds.{Adds}
use Rattle.mj_bytes.proofs.AddLaws.{adds_more}

infixl 30 ◌▸◌
-- one piece and then another
pub ◌▸◌ : {a b c x y : List ℕ} → Adds a b x → Adds b c y → Adds a c (x ++ y)
p ▸ q = adds_more _ _ _ _ _ p q

-- a piece by another word for it
pub as_piece : {a b x y : List ℕ} → x ≡ y → Adds a b x → Adds a b y
as_piece {a} {b} e p = subst (Adds a b) e p
