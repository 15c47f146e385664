-- What goes along to a thread: eight facts, one after the other, and what follows them.
use Rattle.std.proofs.Common.{ℕ, List}
use mathlib.Core.List.{Mem}

module _ {A0 A1 A2 A3 A4 A5 A6 A7 X : Type 0} where
  pub eight_and : A0 × (A1 × (A2 × (A3 × (A4 × (A5 × (A6 × A7)))))) → X → A0 × (A1 × (A2 × (A3 × (A4 × (A5 × (A6 × (A7 × X)))))))
  eight_and (a, (b, (c, (d, (e, (f, (g, h))))))) x = (a, (b, (c, (d, (e, (f, (g, (h, x))))))))

  pub each_and : (A0 × A1 × A2 × A3 × A4 × A5 × A6 × A7) → X → A0 × (A1 × (A2 × (A3 × (A4 × (A5 × (A6 × (A7 × X)))))))
  each_and (a, b, c, d, e, f, g, h) x = (a, (b, (c, (d, (e, (f, (g, (h, x))))))))

abbrev Same : List ℕ → Type 0
Same l = (a : ℕ) → Mem a l → Mem a l

pub same_and : {l0 l1 l2 l3 l4 l5 l6 l7 : List ℕ} {X : Type 0} → X → Same l0 × (Same l1 × (Same l2 × (Same l3 × (Same l4 × (Same l5 × (Same l6 × (Same l7 × X)))))))
same_and x =
    let same : (l : List ℕ) → Same l = λ l a m. m in
    (same _, (same _, (same _, (same _, (same _, (same _, (same _, (same _, x))))))))
