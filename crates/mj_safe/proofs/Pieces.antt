-- The lines one after the other, and the kinds on them.
use Rattle.std.proofs.Common.{◌≡◌, ℕ, ◌==◌, Bool, true, false, cond, List, [], ◌∷◌, ◌++◌, replicate, append-nil, append_assoc, refl, sym, ap, ◌∙◌}
use Rattle.std.specs.Prelude.{codes, flat_map}
use Rattle.mj_bytes.specs.Adds.{Adds}
use Rattle.mj_deeds.specs.declared.deed.Deed.{Deed}
use Rattle.mj_safety.specs.Safe.{has_to_discard}
use Rattle.mj_safe.specs.Text.{against_line, line_on, safe_text}
use mir.Val.{bool_byte}

-- A kind that is put once or not at all.
pub once_or_not : (b : Bool) (kind : ℕ) → replicate (bool_byte b) kind ≡ cond b (kind ∷ []) []
once_or_not true kind = refl
once_or_not false kind = refl

four : (a b c d e p q r s : List ℕ) → a ≡ [] → Adds a b p → Adds b c q → Adds c d r → Adds d e s → e ≡ p ++ (q ++ (r ++ (s ++ [])))
four a b c d e p q r s none x y z w = rw (w.is, z.is, y.is, x.is, none) (simp (append_assoc, append-nil))

-- The four lines, of which one is empty.
pub all_lines : (ds : List Deed) (seat : ℕ) (a b c d e : List ℕ) → has_to_discard ds seat ≡ true → a ≡ [] → Adds a b (line_on ds seat 0) → Adds b c (line_on ds seat 1) →
    Adds c d (line_on ds seat 2) → Adds d e (line_on ds seat 3) → e ≡ safe_text ds seat
all_lines ds seat a b c d e turn none x y z w =
    four a b c d e (line_on ds seat 0) (line_on ds seat 1) (line_on ds seat 2) (line_on ds seat 3) none x y z w
    ∙ ap (λ t. cond t (flat_map (line_on ds seat) (0 ∷ 1 ∷ 2 ∷ 3 ∷ [])) (codes "not to discard\n")) (sym turn)

pub no_lines : (ds : List Deed) (seat : ℕ) (text : List ℕ) → has_to_discard ds seat ≡ false → text ≡ codes "not to discard\n" → text ≡ safe_text ds seat
no_lines ds seat text turn is = is ∙ ap (λ t. cond t (flat_map (line_on ds seat) (0 ∷ 1 ∷ 2 ∷ 3 ∷ [])) (codes "not to discard\n")) (sym turn)

-- The line on a seat.
pub no_line : (ds : List Deed) (seat against : ℕ) (text : List ℕ) → (against == seat) ≡ true → Adds text text (line_on ds seat against)
no_line ds seat against text same = record { is = nothing text ∙ ap (λ t. text ++ cond t [] (against_line ds seat against)) (sym same) }
  where
    nothing : (xs : List ℕ) → xs ≡ xs ++ []
    nothing xs = sym (append-nil xs)

pub one_line : (ds : List Deed) (seat against : ℕ) (old new : List ℕ) → (against == seat) ≡ false → Adds old new (against_line ds seat against) → Adds old new (line_on ds seat against)
one_line ds seat against old new other adds = record { is = adds.is ∙ ap (λ t. old ++ cond t [] (against_line ds seat against)) (sym other) }
