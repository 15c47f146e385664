-- Reads and writes one after the other, where what is left or written may be known.
use Rattle.std.proofs.Common.{◌≡◌, ℕ, List, [], ◌++◌, refl, sym, ap, ◌∙◌, append_assoc, arith}
use Rattle.std.specs.Prelude.{Option, None, Some}
use Rattle.std.specs.Io.KnownBytes.{Consumes, Appends, Keeps}
use Rattle.std.proofs.lemmas.Grind.{common_steps}
use Rattle.mj_links.specs.Sources.{TakesOver}

pub Consumes-nothing : (a : Option (List ℕ)) → Consumes a a []
Consumes-nothing None = tt
Consumes-nothing (Some xs) = refl

pub Consumes-more : (a b c : Option (List ℕ)) (x y : List ℕ) → Consumes a b x → Consumes b c y → Consumes a c (x ++ y)
Consumes-more None b c x y p q = tt
Consumes-more (Some xs) None c x y p q = absurd p
Consumes-more (Some xs) (Some ys) None x y p q = absurd q
Consumes-more (Some xs) (Some ys) (Some zs) x y p q = p ∙ (ap (λ l. x ++ l) q ∙ sym (append_assoc x y zs))

pub Consumes-keeps : (a b c : Option (List ℕ)) (x : List ℕ) → Consumes a b x → Keeps b c → Consumes a c x
Consumes-keeps None b c x p q = tt
Consumes-keeps (Some xs) None c x p q = absurd p
Consumes-keeps (Some xs) (Some ys) None x p q = absurd q
Consumes-keeps (Some xs) (Some ys) (Some zs) x p q = p ∙ ap (λ l. x ++ l) (sym q)

pub Appends-nothing : (a : Option (List ℕ)) → Appends a a []
Appends-nothing None = tt
Appends-nothing (Some xs) = grind (arith, common_steps)

pub Appends-more : (a b c : Option (List ℕ)) (x y : List ℕ) → Appends a b x → Appends b c y → Appends a c (x ++ y)
Appends-more None b c x y p q = tt
Appends-more (Some xs) None c x y p q = absurd p
Appends-more (Some xs) (Some ys) None x y p q = absurd q
Appends-more (Some xs) (Some ys) (Some zs) x y p q = q ∙ (ap (λ l. l ++ y) p ∙ append_assoc xs x y)

pub Appends-keeps : (a b c : Option (List ℕ)) (x : List ℕ) → Appends a b x → Keeps b c → Appends a c x
Appends-keeps None b c x p q = tt
Appends-keeps (Some xs) None c x p q = absurd p
Appends-keeps (Some xs) (Some ys) None x p q = absurd q
Appends-keeps (Some xs) (Some ys) (Some zs) x p q = q ∙ p

pub TakesOver-nothing : (a : Option (List ℕ)) (text : List ℕ) → TakesOver a a text text
TakesOver-nothing a text = record { bytes = []; added = grind (arith, common_steps); taken = Consumes-nothing a }

pub TakesOver-more : (a b c : Option (List ℕ)) (first text next x : List ℕ) → TakesOver a b first text → Consumes b c x → next ≡ text ++ x → TakesOver a c first next
TakesOver-more a b c first text next x t p e = record {
  bytes = t.bytes ++ x;
  added = e ∙ (ap (λ l. l ++ x) t.added ∙ append_assoc first t.bytes x);
  taken = Consumes-more a b c t.bytes x t.taken p;
}

pub TakesOver-keeps : (a b c : Option (List ℕ)) (first text : List ℕ) → TakesOver a b first text → Keeps b c → TakesOver a c first text
TakesOver-keeps a b c first text t k = record { bytes = t.bytes; added = t.added; taken = Consumes-keeps a b c t.bytes t.taken k }
