-- The lines of the four seats, side by side.
use Rattle.std.proofs.Common.{◌≡◌, ℕ, List, [], ◌∷◌, ◌++◌, ap, ◌∙◌}
use Rattle.mj_deeds.specs.declared.four.Four.{Four}

abbrev four_of : List (List ℕ) → List (List ℕ) → List (List ℕ) → List (List ℕ) → Four (List (List ℕ))
four_of a b c d = record { first = a; second = b; third = c; fourth = d }

-- They are the same where those of each seat are.
pub four_is : (a b c d a' b' c' d' : List (List ℕ)) → a' ≡ a → b' ≡ b → c' ≡ c → d' ≡ d → four_of a' b' c' d' ≡ four_of a b c d
four_is a b c d a' b' c' d' p q r s = λ i. record { first = p i; second = q i; third = r i; fourth = s i }

-- The lines that a stream held before there was room, with the one that was rendered.
pub one_more : (told told' told'' : List (List ℕ)) (text line : List ℕ) → told' ≡ told → told'' ≡ told' ++ text ∷ [] → text ≡ line → told'' ≡ told ++ line ∷ []
one_more told told' told'' text line same more is = more ∙ ap (λ (ls : List (List ℕ)). ls ++ text ∷ []) same ∙ ap (λ (l : List ℕ). told ++ l ∷ []) is
