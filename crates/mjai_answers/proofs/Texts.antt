-- Texts that are read.
use Rattle.std.proofs.Common.{◌≡◌, ◌≤◌, ◌<◌, ◌+◌, ◌-◌, ℕ, Bool, true, false, List, ◌∷◌, ◌++◌, length, take, drop, Decides, refl, sym, ap, ◌∙◌, arith}
use Rattle.std.specs.Prelude.{None, codes, IsUtf8, bytes_eq, nat_lt, nat_le, not, ◌==◌, ◌&&◌}
use Rattle.std.specs.List.{list_all}
use Rattle.std.specs.Str.Lossy.{utf8_valid_len}
use Rattle.std.proofs.lemmas.Str.{utf8_valid_len-IsUtf8, is_utf8-from_IsUtf8}
use Rattle.std.proofs.lemmas.List.{take-append-drop}
use Rattle.std.proofs.lemmas.Slice.Eq.{bytes_eq-Decides}
use Rattle.serde_json.specs.Read.{read}
use Rattle.mj_ports.specs.Names.{is_name}
use Rattle.mj_forms.specs.AnswerForms.{value_of}
use Rattle.mj_forms.specs.Lines.{truth}
use Rattle.mjai_answers.specs.Inner.Spellings.{mark_text}

-- what is text is read as JSON
pub value_of_text : (bytes : List ℕ) → IsUtf8 bytes → value_of bytes ≡ read bytes
unfolding value_of
value_of_text bytes h = grind (arith, utf8_valid_len-IsUtf8 bytes h)

-- what is no text is no value
pub value_of_no_text : (bytes : List ℕ) → utf8_valid_len bytes < length bytes → value_of bytes ≡ None
unfolding value_of
value_of_no_text bytes h = grind arith

-- a text is a name by its length and its bytes
pub name_of_text : (text : List ℕ) → IsUtf8 text →
    is_name text ≡ (nat_lt 0 (length text) && nat_le (length text) 64 && list_all (λ byte. nat_le 32 byte && not (byte == 34) && not (byte == 92)) text)
unfolding is_name
name_of_text text h = rw (is_utf8-from_IsUtf8 text h) (and_true _)
  where
    and_true : (b : Bool) → (b && true) ≡ b
    and_true true = refl
    and_true false = refl

-- a name has at most 64 bytes
pub name_fits : (text : List ℕ) → is_name text ≡ true → length text ≤ 64
unfolding is_name
name_fits text h = grind arith

untrue : {P : Type 0} → (r : Bool) → Decides r P → (P → ⊥) → r ≡ false
untrue true d h = absurd (h (d.0 refl))
untrue false d h = refl

-- another text is not equal
pub unlike : (a b : List ℕ) → (b ≡ a → ⊥) → bytes_eq a b ≡ false
unlike a b h = untrue (bytes_eq a b) (bytes_eq-Decides a b) (λ e. h (sym e))

-- what is after a beginning that was found, and what is before an end
pub begun : (text front rest : List ℕ) → (bytes_eq (take (length front) text) front ≡ true) × (rest ≡ drop (length front) text) × (length rest + length front ≡ length text) → text ≡ front ++ rest
begun text front rest h =
    let same = (bytes_eq-Decides (take (length front) text) front).0 h.0 in
    sym (take-append-drop (length front) text) ∙ ap (λ t. t ++ drop (length front) text) same ∙ ap (λ t. front ++ t) (sym h.1)

pub ended : (text end rest : List ℕ) → (bytes_eq (drop (length text - length end) text) end ≡ true) × (rest ≡ take (length text - length end) text) ×
    (length rest + length end ≡ length text) → text ≡ rest ++ end
ended text end rest h =
    let same = (bytes_eq-Decides (drop (length text - length end) text) end).0 h.0 in
    sym (take-append-drop (length text - length end) text) ∙ ap (λ t. take (length text - length end) text ++ t) same ∙ ap (λ t. t ++ end) (sym h.1)

-- The mark that a discard ends with, by its key and its value.
pub mark_ends : (text named rest value : List ℕ) (drawn : Bool) → text ≡ named ++ 34 ∷ rest → rest ≡ codes ",\"tsumogiri\":" ++ value →
    value ≡ truth drawn ++ codes "}" → text ≡ named ++ mark_text drawn
mark_ends text named rest value true parts key ends = parts ∙ ap (λ t. named ++ 34 ∷ t) (key ∙ ap (λ t. codes ",\"tsumogiri\":" ++ t) ends)
mark_ends text named rest value false parts key ends = parts ∙ ap (λ t. named ++ 34 ∷ t) (key ∙ ap (λ t. codes ",\"tsumogiri\":" ++ t) ends)

-- A line by its type and what stands behind that.
pub typed_alone : (line text rest name : List ℕ) → line ≡ codes "{\"type\":\"" ++ text → text ≡ name ++ rest → rest ≡ codes "}" → line ≡ codes "{\"type\":\"" ++ (name ++ codes "}")
typed_alone line text rest name key type closing = key ∙ ap (λ t. codes "{\"type\":\"" ++ t) (type ∙ ap (λ t. name ++ t) closing)

pub typed : (line text rest behind name : List ℕ) → line ≡ codes "{\"type\":\"" ++ text → text ≡ name ++ rest → rest ≡ codes ",\"actor\":" ++ behind →
    line ≡ codes "{\"type\":\"" ++ (name ++ (codes ",\"actor\":" ++ behind))
typed line text rest behind name key type actor = key ∙ ap (λ t. codes "{\"type\":\"" ++ t) (type ∙ ap (λ t. name ++ t) actor)
