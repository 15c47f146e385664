-- A text is read by its bytes as by the table of texts.
use Rattle.std.proofs.Common.{ℕ, zero, suc, ◌≡◌, ◌<◌, ◌≤◌, ◌+◌, ◌-◌, ◌*◌, ◌/◌, ◌%◌, Bool, true, false, List, [], ◌∷◌, length, get_or, Option, Some, None, refl, sym, ◌∙◌, ap, arith, cond}
use Rattle.std.specs.Prelude.{option_map, nat_le, ◌==◌, ◌&&◌, bytes_eq}
use Rattle.std.proofs.lemmas.Bool.{and_parts, leb-true}
use Rattle.std.proofs.lemmas.Bool.Decides.{Decides-eqb}
use Rattle.std.proofs.lemmas.Slice.Eq.{bytes_eq-Decides}
use Rattle.mj_lists.proofs.Ranges.{passes}
use Rattle.mj_tiles.specs.Faces.{texts, text_of, face_of}
use Rattle.mj_tiles.specs.Inner.Spelled.{suit_of, honour_of, plain_of, red_of, face_spelled}
use Rattle.mj_tiles.proofs.Texts.{is_at, is_at_says, face_of-text_of, face_of-none}

-- Each face is what its text spells.
spelled_text : (face : ℕ) → face < 37 → face_spelled (text_of face) ≡ Some face
unfolding text_of texts is_at
spelled_text face within = is_at_says (face_spelled (text_of face)) face (passes (λ other. is_at (face_spelled (text_of other)) other) 37 face refl within)

-- A text is that of a face.
abbrev IsTextOf : List ℕ → ℕ → Type 0
IsTextOf text face = (face < 37) × (text_of face ≡ text)

-- One step of a choice by a byte.
step : {P : Type 0} (byte code n face : ℕ) (rest : Option ℕ) → (byte ≡ code → n ≡ face → P) → (rest ≡ Some face → P) → cond (byte == code) (Some n) rest ≡ Some face → P
step {P} byte code n face rest here there h = by (byte == code) refl h
  where
    by : (b : Bool) → (byte == code) ≡ b → cond b (Some n) rest ≡ Some face → P
    by true is found = here ((Decides-eqb byte code).0 is) (cc)
    by false is found = there found

none_left : {P : Type 0} (face : ℕ) → None ≡ Some face → P
none_left face h = absurd (cc)

under : {P : Type 0} (f : ℕ → ℕ) (o : Option ℕ) (face : ℕ) → ((n : ℕ) → o ≡ Some n → f n ≡ face → P) → option_map f o ≡ Some face → P
under f None face go h = absurd (cc)
under f (Some n) face go h = go n refl (cc)

-- suits

abbrev letter_of : ℕ → ℕ
letter_of zero = 109
letter_of (suc zero) = 112
letter_of (suc (suc n)) = 115

abbrev IsLetterOf : ℕ → ℕ → Type 0
IsLetterOf letter suit = (suit < 3) × (letter_of suit ≡ letter)

suit_found : (letter suit : ℕ) → suit_of letter ≡ Some suit → IsLetterOf letter suit
suit_found letter suit h =
    step letter 109 0 suit _ (λ is n. (omega arith, ap letter_of (sym n) ∙ sym is))
    (step letter 112 1 suit _ (λ is n. (omega arith, ap letter_of (sym n) ∙ sym is))
    (step letter 115 2 suit None (λ is n. (omega arith, ap letter_of (sym n) ∙ sym is)) (none_left suit))) h

-- honours

honour_found : (letter face : ℕ) → honour_of letter ≡ Some face → IsTextOf (letter ∷ []) face
unfolding text_of texts
honour_found letter face h =
    step letter 69 27 face _ (λ is n. (omega arith, ap text_of (sym n) ∙ ap (λ byte. byte ∷ []) (sym is)))
    (step letter 83 28 face _ (λ is n. (omega arith, ap text_of (sym n) ∙ ap (λ byte. byte ∷ []) (sym is)))
    (step letter 87 29 face _ (λ is n. (omega arith, ap text_of (sym n) ∙ ap (λ byte. byte ∷ []) (sym is)))
    (step letter 78 30 face _ (λ is n. (omega arith, ap text_of (sym n) ∙ ap (λ byte. byte ∷ []) (sym is)))
    (step letter 80 31 face _ (λ is n. (omega arith, ap text_of (sym n) ∙ ap (λ byte. byte ∷ []) (sym is)))
    (step letter 70 32 face _ (λ is n. (omega arith, ap text_of (sym n) ∙ ap (λ byte. byte ∷ []) (sym is)))
    (step letter 67 33 face None (λ is n. (omega arith, ap text_of (sym n) ∙ ap (λ byte. byte ∷ []) (sym is))) (none_left face))))))) h

-- plain tiles

plain_text : (face : ℕ) → face < 27 → text_of face ≡ (49 + face % 9) ∷ letter_of (face / 9) ∷ []
unfolding text_of texts
plain_text face within =
    (bytes_eq-Decides (text_of face) ((49 + face % 9) ∷ letter_of (face / 9) ∷ [])).0
    (passes (λ other. bytes_eq (text_of other) ((49 + other % 9) ∷ letter_of (other / 9) ∷ [])) 27 face refl within)

plain_found : (digit letter suit face : ℕ) → 49 ≤ digit → digit ≤ 57 → IsLetterOf letter suit → 9 * suit + (digit - 49) ≡ face → IsTextOf (digit ∷ letter ∷ []) face
plain_found digit letter suit face above below is valued =
    let within : face < 27 = omega (arith, is.0) in
    let number : 49 + face % 9 ≡ digit = omega (arith, is.0) in
    let row : face / 9 ≡ suit = omega (arith, is.0) in
    (omega arith, plain_text face within ∙ ap (λ byte. byte ∷ letter_of (face / 9) ∷ []) number ∙ ap (λ n. digit ∷ letter_of n ∷ []) row ∙ ap (λ byte. digit ∷ byte ∷ []) is.1)

-- red fives

red_text : (suit : ℕ) → suit < 3 → text_of (34 + suit) ≡ 53 ∷ letter_of suit ∷ 114 ∷ []
unfolding text_of texts
red_text zero within = refl
red_text (suc zero) within = refl
red_text (suc (suc zero)) within = refl
red_text (suc (suc (suc n))) within = absurd (omega arith)

red_found : (letter suit face : ℕ) → IsLetterOf letter suit → 34 + suit ≡ face → IsTextOf (53 ∷ letter ∷ 114 ∷ []) face
red_found letter suit face is valued =
    (omega (arith, is.0), ap text_of (sym valued) ∙ red_text suit is.0 ∙ ap (λ byte. 53 ∷ byte ∷ 114 ∷ []) is.1)

-- all texts

when : {P : Type 0} (b : Bool) (o : Option ℕ) (face : ℕ) → (b ≡ true → o ≡ Some face → P) → cond b o None ≡ Some face → P
when true o face go h = go refl h
when false o face go h = absurd (cc)

found : (text : List ℕ) (face : ℕ) → face_spelled text ≡ Some face → IsTextOf text face
found [] face h = absurd (cc)
found (letter ∷ []) face h = honour_found letter face h
found (digit ∷ letter ∷ []) face h =
    when (nat_le 49 digit && nat_le digit 57) _ face (λ inside some.
    let parts = and_parts (nat_le 49 digit) (nat_le digit 57) inside in
    under (λ suit. 9 * suit + (digit - 49)) (suit_of letter) face (λ suit is valued.
    plain_found digit letter suit face (leb-true 49 digit parts.0) (leb-true digit 57 parts.1) (suit_found letter suit is) valued) some) h
found (digit ∷ letter ∷ mark ∷ []) face h =
    when (digit == 53 && mark == 114) _ face (λ marked some.
    let parts = and_parts (digit == 53) (mark == 114) marked in
    let five = (Decides-eqb digit 53).0 parts.0 in
    let red = (Decides-eqb mark 114).0 parts.1 in
    under (λ suit. 34 + suit) (suit_of letter) face (λ suit is valued.
    let text = red_found letter suit face (suit_found letter suit is) valued in
    (text.0, text.1 ∙ ap (λ byte. byte ∷ letter ∷ 114 ∷ []) (sym five) ∙ ap (λ byte. digit ∷ letter ∷ byte ∷ []) (sym red))) some) h
found (a ∷ b ∷ c ∷ d ∷ rest) face h = absurd (cc)

-- What a text spells is the face that it names.
pub spelled : (text : List ℕ) → face_spelled text ≡ face_of text
spelled text = by (face_spelled text) refl
  where
    by : (o : Option ℕ) → face_spelled text ≡ o → o ≡ face_of text
    by None is = sym (face_of-none text (λ face within same. absurd (cc (is, ap face_spelled same, spelled_text face within))))
    by (Some face) is = let back = found text face is in sym (ap face_of (sym back.1) ∙ face_of-text_of face back.0)

-- the texts of one, two and three bytes

pub one_read : (text : List ℕ) → length text ≡ 1 → honour_of (get_or text 0 0) ≡ face_of text
one_read [] size = absurd (omega arith)
one_read (letter ∷ []) size = spelled (letter ∷ [])
one_read (a ∷ b ∷ rest) size = absurd (omega arith)

pub two_read : (text : List ℕ) → length text ≡ 2 → plain_of (get_or text 0 0) (get_or text 1 0) ≡ face_of text
two_read [] size = absurd (omega arith)
two_read (a ∷ []) size = absurd (omega arith)
two_read (digit ∷ letter ∷ []) size = spelled (digit ∷ letter ∷ [])
two_read (a ∷ b ∷ c ∷ rest) size = absurd (omega arith)

pub three_read : (text : List ℕ) → length text ≡ 3 → red_of (get_or text 0 0) (get_or text 1 0) (get_or text 2 0) ≡ face_of text
three_read [] size = absurd (omega arith)
three_read (a ∷ []) size = absurd (omega arith)
three_read (a ∷ b ∷ []) size = absurd (omega arith)
three_read (digit ∷ letter ∷ mark ∷ []) size = spelled (digit ∷ letter ∷ mark ∷ [])
three_read (a ∷ b ∷ c ∷ d ∷ rest) size = absurd (omega arith)

pub none_read : (text : List ℕ) → (length text ≡ 1 → ⊥) → (length text ≡ 2 → ⊥) → (length text ≡ 3 → ⊥) → face_of text ≡ None
none_read [] one two three = sym (spelled [])
none_read (a ∷ []) one two three = absurd (one refl)
none_read (a ∷ b ∷ []) one two three = absurd (two refl)
none_read (a ∷ b ∷ c ∷ []) one two three = absurd (three refl)
none_read (a ∷ b ∷ c ∷ d ∷ rest) one two three = sym (spelled (a ∷ b ∷ c ∷ d ∷ rest))
