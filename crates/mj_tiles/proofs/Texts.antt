-- The texts of the faces name each face once: reading undoes writing, and writing undoes reading.
use Rattle.std.proofs.Common.{ℕ, ◌≡◌, ◌<◌, Bool, true, false, List, [], Option, Some, None, get_or, refl, sym, ◌∙◌, ap, eqb}
use Rattle.std.proofs.lemmas.Bool.{false≢true}
use Rattle.std.proofs.lemmas.Bool.Decides.{Decides-eqb}
use Rattle.std.specs.Str.{bytes_eq}
use Rattle.std.proofs.lemmas.Slice.Eq.{bytes_eq-Decides}
use Rattle.std.proofs.lemmas.List.Quantifiers.{position-Some}
use Rattle.std.proofs.lemmas.Option.{unwrap_or-slice_get}
use Rattle.mj_lists.proofs.Ranges.{passes}
use Rattle.mj_tiles.specs.Faces.{texts, text_of, face_of}

-- The place that is read is this one.
unfoldable pub is_at : Option ℕ → ℕ → Bool
is_at None face = false
is_at (Some other) face = eqb other face

pub is_at_says : (o : Option ℕ) (face : ℕ) → is_at o face ≡ true → o ≡ Some face
unfolding is_at
is_at_says None face h = absurd (false≢true h)
is_at_says (Some other) face h = ap Some ((Decides-eqb other face).0 h)

-- Each face is what its text names.
pub face_of-text_of : (face : ℕ) → face < 37 → face_of (text_of face) ≡ Some face
unfolding face_of text_of texts is_at
face_of-text_of face within =
    is_at_says (face_of (text_of face)) face (passes (λ other. is_at (face_of (text_of other)) other) 37 face refl within)

-- A text that names a face is that face's.
pub text_of-face_of : (text : List ℕ) (face : ℕ) → face_of text ≡ Some face → (face < 37) × (text ≡ text_of face)
unfolding face_of text_of texts
text_of-face_of text face named =
    let found = position-Some (λ other. bytes_eq other text) texts face [] named in
    (found.0, sym ((bytes_eq-Decides (get_or texts face []) text).0 found.1) ∙ sym (unwrap_or-slice_get texts face []))

-- A text that is no face's names none.
pub face_of-none : (text : List ℕ) → ((face : ℕ) → face < 37 → text_of face ≡ text → ⊥) → face_of text ≡ None
face_of-none text other =
    none_unless (face_of text) (λ face named. let back = text_of-face_of text face named in other face back.0 (sym back.1))
  where
    none_unless : (o : Option ℕ) → ((n : ℕ) → o ≡ Some n → ⊥) → o ≡ None
    none_unless None never = refl
    none_unless (Some n) never = absurd (never n refl)
