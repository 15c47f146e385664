-- Pieces of a text that stand one after the other, and lists in brackets with commas between.
use Rattle.std.proofs.Common.{◌≡◌, ℕ, List, [], ◌∷◌, ◌++◌, ap, ◌∙◌, append_assoc}
use Rattle.mj_forms.specs.Lines.{bracketed}

pub group3 : (a b c : List ℕ) → a ++ b ++ c ≡ a ++ (b ++ c)
group3 a b c = append_assoc a b c

pub group5 : (a b c d e : List ℕ) → a ++ b ++ c ++ d ++ e ≡ a ++ (b ++ (c ++ (d ++ e)))
group5 a b c d e = simp append_assoc

pub group7 : (a b c d e f g : List ℕ) → a ++ b ++ c ++ d ++ e ++ f ++ g ≡ a ++ (b ++ (c ++ (d ++ (e ++ (f ++ g)))))
group7 a b c d e f g = simp append_assoc

pub group9 : (a b c d e f g h i : List ℕ) → a ++ b ++ c ++ d ++ e ++ f ++ g ++ h ++ i ≡ a ++ (b ++ (c ++ (d ++ (e ++ (f ++ (g ++ (h ++ i)))))))
group9 a b c d e f g h i = simp append_assoc

pub group12 : (a b c d e f g h i j k l : List ℕ) → a ++ b ++ c ++ d ++ e ++ f ++ g ++ h ++ i ++ j ++ k ++ l ≡ a ++ (b ++ (c ++ (d ++ (e ++ (f ++ (g ++ (h ++ (i ++ (j ++ (k ++ l))))))))))
group12 a b c d e f g h i j k l = simp append_assoc

pub group8 : (a b c d e f g h : List ℕ) → a ++ b ++ c ++ d ++ e ++ f ++ g ++ h ≡ a ++ (b ++ (c ++ (d ++ (e ++ (f ++ (g ++ h))))))
group8 a b c d e f g h = simp append_assoc

pub group11 : (a b c d e f g h i j k : List ℕ) → a ++ b ++ c ++ d ++ e ++ f ++ g ++ h ++ i ++ j ++ k ≡ a ++ (b ++ (c ++ (d ++ (e ++ (f ++ (g ++ (h ++ (i ++ (j ++ k)))))))))
group11 a b c d e f g h i j k = simp append_assoc

pub group15 : (a b c d e f g h i j k l m n o : List ℕ) → a ++ b ++ c ++ d ++ e ++ f ++ g ++ h ++ i ++ j ++ k ++ l ++ m ++ n ++ o ≡ a ++
    (b ++ (c ++ (d ++ (e ++ (f ++ (g ++ (h ++ (i ++ (j ++ (k ++ (l ++ (m ++ (n ++ o)))))))))))))
group15 a b c d e f g h i j k l m n o = simp append_assoc

pub group24 : (a b c d e f g h i j k l m n o p q r s t u v w x : List ℕ) → a ++ b ++ c ++ d ++ e ++ f ++ g ++ h ++ i ++ j ++ k ++ l ++ m ++ n ++ o ++
    p ++ q ++ r ++ s ++ t ++ u ++ v ++ w ++ x ≡ a ++
    (b ++ (c ++ (d ++ (e ++ (f ++ (g ++ (h ++
    (i ++ (j ++ (k ++ (l ++ (m ++ (n ++ (o ++ (p ++ (q ++ (r ++ (s ++ (t ++ (u ++ (v ++ (w ++ x))))))))))))))))))))))
group24 a b c d e f g h i j k l m n o p q r s t u v w x = simp append_assoc

-- the last piece, and pieces before others
last_piece : (a rest : List ℕ) → (a ++ []) ++ (93 ∷ rest) ≡ a ++ (93 ∷ rest)
last_piece a rest = append_assoc a [] (93 ∷ rest)

piece : (a more rest other : List ℕ) → more ++ (93 ∷ rest) ≡ other → (a ++ (44 ∷ more)) ++ (93 ∷ rest) ≡ a ++ (44 ∷ other)
piece a more rest other e = append_assoc a (44 ∷ more) (93 ∷ rest) ∙ ap (λ t. a ++ (44 ∷ t)) e

pub list_shape : (pieces rest other : List ℕ) → pieces ++ (93 ∷ rest) ≡ other → (91 ∷ pieces ++ 93 ∷ []) ++ rest ≡ 91 ∷ other
list_shape pieces rest other e = ap (λ t. 91 ∷ t) (append_assoc pieces (93 ∷ []) rest ∙ e)

pub one_shape : (a rest : List ℕ) → bracketed (a ∷ []) ++ rest ≡ 91 ∷ a ++ (93 ∷ rest)
unfolding bracketed
one_shape a rest = list_shape (a ++ []) rest (a ++ (93 ∷ rest)) (last_piece a rest)

pub two_shape : (a b rest : List ℕ) → bracketed (a ∷ b ∷ []) ++ rest ≡ 91 ∷ a ++ (44 ∷ b ++ (93 ∷ rest))
unfolding bracketed
two_shape a b rest = list_shape (a ++ (44 ∷ (b ++ []))) rest (a ++ (44 ∷ (b ++ (93 ∷ rest)))) (piece a (b ++ []) rest (b ++ (93 ∷ rest)) (last_piece b rest))

pub three_shape : (a b c rest : List ℕ) → bracketed (a ∷ b ∷ c ∷ []) ++ rest ≡ 91 ∷ a ++ (44 ∷ b ++ (44 ∷ c ++ (93 ∷ rest)))
unfolding bracketed
three_shape a b c rest =
    list_shape (a ++ (44 ∷ (b ++ (44 ∷ (c ++ []))))) rest (a ++ (44 ∷ (b ++ (44 ∷ (c ++ (93 ∷ rest))))))
    (piece a (b ++ (44 ∷ (c ++ []))) rest (b ++ (44 ∷ (c ++ (93 ∷ rest)))) (piece b (c ++ []) rest (c ++ (93 ∷ rest)) (last_piece c rest)))

pub four_shape : (a b c d rest : List ℕ) → bracketed (a ∷ b ∷ c ∷ d ∷ []) ++ rest ≡ 91 ∷ a ++ (44 ∷ b ++ (44 ∷ c ++ (44 ∷ d ++ (93 ∷ rest))))
unfolding bracketed
four_shape a b c d rest =
    list_shape (a ++ (44 ∷ (b ++ (44 ∷ (c ++ (44 ∷ (d ++ []))))))) rest (a ++ (44 ∷ (b ++ (44 ∷ (c ++ (44 ∷ (d ++ (93 ∷ rest))))))))
    (piece a (b ++ (44 ∷ (c ++ (44 ∷ (d ++ []))))) rest (b ++ (44 ∷ (c ++ (44 ∷ (d ++ (93 ∷ rest))))))
    (piece b (c ++ (44 ∷ (d ++ []))) rest (c ++ (44 ∷ (d ++ (93 ∷ rest)))) (piece c (d ++ []) rest (d ++ (93 ∷ rest)) (last_piece d rest))))
