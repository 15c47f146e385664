-- Texts of three pieces, of four and of five.
use Rattle.std.proofs.Common.{◌≡◌, ℕ, List, ◌++◌, append_assoc}
use Rattle.mj_bytes.specs.Adds.{Adds}

pub three_pieces : (a b c x y : List ℕ) → Adds a b x → Adds b c y → c ≡ a ++ (x ++ y)
three_pieces a b c x y p q = rw (q.is, p.is) (simp append_assoc)

pub pieces : (a b c d x y z : List ℕ) → Adds a b x → Adds b c y → Adds c d z → d ≡ a ++ (x ++ (y ++ z))
pieces a b c d x y z p q r = rw (r.is, q.is, p.is) (simp append_assoc)

pub five_pieces : (a b c d e x y z w : List ℕ) → Adds a b x → Adds b c y → Adds c d z → Adds d e w → e ≡ a ++ (x ++ (y ++ (z ++ w)))
five_pieces a b c d e x y z w p q r s = rw (s.is, r.is, q.is, p.is) (simp append_assoc)
