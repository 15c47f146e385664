-- The words of a text taken line by line.
use Rattle.std.proofs.Common.{◌≡◌, ℕ, ◌==◌, ◌&&◌, not, Bool, true, false, List, [], ◌∷◌, ◌++◌, length, Option, Some, None, refl, sym, ap, subst, ◌∙◌, arith}
use Rattle.std.specs.Prelude.{if◌then◌else◌, option_and_then, unwrap_or}
use Rattle.std.specs.List.{list_all}
use Rattle.std.specs.Str.{IsUtf8, is_utf8}
use Rattle.std.proofs.lemmas.Str.{is_utf8-from_IsUtf8, IsUtf8-from_is_utf8}
use Rattle.std.proofs.lemmas.List.{append_assoc, append-nil}
use Rattle.std.proofs.lemmas.List.Folds.{list_all-append}
use Rattle.mj_bytes.specs.Parts.{whole_lines, unfinished, BeginsWithLine, HasNoLine}
use Rattle.mj_embedded.specs.Runs.{words_of, heard, is_apart}

-- A line is the text that it reads as, or none.
pub said_text : (line text read : List ℕ) → read ≡ text → text ≡ line → IsUtf8 line → Some read ≡ (if is_utf8 line then Some line else None)
said_text line text read same is utf8 = ap Some (same ∙ is) ∙ sym (ap (λ (b : Bool). if b then Some line else None) (is_utf8-from_IsUtf8 line utf8))

not-true : (b : Bool) → (b ≡ true → ⊥) → b ≡ false
not-true false ends = refl
not-true true ends = absurd (ends refl)

pub said_none : (line : List ℕ) → (IsUtf8 line → ⊥) → None ≡ (if is_utf8 line then Some line else None)
said_none line ends = sym (ap (λ (b : Bool). if b then Some line else None) (not-true (is_utf8 line) (λ is. ends (IsUtf8-from_is_utf8 line is))))

-- What was taken and what is left make all.
pub record TakesWords (text : List ℕ) (words : List (List ℕ)) (rest : List ℕ) : Type 0 where
  pub all : whole_lines text ≡ words ++ whole_lines rest
  pub texts : list_all is_utf8 words ≡ true
  pub ending : unfinished text ≡ unfinished rest

pub takes-none : (text : List ℕ) → TakesWords text [] text
takes-none text = record { all = refl; texts = refl; ending = refl }

some-none : (word : List ℕ) → Some word ≡ None → ⊥
some-none word is = grind (arith, is)

is_text : (b : Bool) (line word : List ℕ) → Some word ≡ (if b then Some line else None) → b ≡ true
is_text true line word is = refl
is_text false line word is = absurd (some-none word is)

is_line : (b : Bool) (line word : List ℕ) → Some word ≡ (if b then Some line else None) → line ≡ word
is_line true line word is = sym (ap (λ (o : Option (List ℕ)). unwrap_or o word) is)
is_line false line word is = absurd (some-none word is)

one_more : (words : List (List ℕ)) (line : List ℕ) → list_all is_utf8 words ≡ true → is_utf8 line ≡ true → list_all is_utf8 (words ++ line ∷ []) ≡ true
one_more words line before is = list_all-append is_utf8 words (line ∷ []) ∙ grind (arith, before, is)

pub takes-more : (text : List ℕ) (words new : List (List ℕ)) (rest line others word : List ℕ)
    → TakesWords text words rest → BeginsWithLine rest line others → Some word ≡ (if is_utf8 line then Some line else None) → new ≡ words ++ word ∷ []
    → TakesWords text new others
takes-more text words new rest line others word taken begins is same =
    let e : line ≡ word = is_line (is_utf8 line) line word is in
    subst (λ ws. TakesWords text ws others) (sym (same ∙ ap (λ (w : List ℕ). words ++ w ∷ []) (sym e))) (record {
      all = taken.all ∙ (ap (λ ls. words ++ ls) begins.lines ∙ sym (append_assoc words (line ∷ []) (whole_lines others)));
      texts = one_more words line taken.texts (is_text (is_utf8 line) line word is);
      ending = taken.ending ∙ begins.ending;
    })

and-none : (a b c : Bool) → b ≡ false → (a && (b && c)) ≡ false
and-none true b c is = ap (λ (d : Bool). d && c) is
and-none false b c is = refl

no_texts : (words more : List (List ℕ)) (line : List ℕ) → is_utf8 line ≡ false → list_all is_utf8 (words ++ line ∷ more) ≡ false
no_texts words more line is = list_all-append is_utf8 words (line ∷ more) ∙ and-none (list_all is_utf8 words) (is_utf8 line) (list_all is_utf8 more) is

unheard : (words more : List (List ℕ)) (line : List ℕ) → is_utf8 line ≡ false → heard (words ++ line ∷ more) ≡ None
unheard words more line ends = ap (λ (b : Bool). if b && not (is_apart (words ++ line ∷ more)) then Some (words ++ line ∷ more) else None)
    (no_texts words more line ends)

not_text : (b : Bool) (line : List ℕ) → None ≡ (if b then Some line else None) → b ≡ false
not_text false line is = refl
not_text true line is = absurd (some-none line (sym is))

if-none : (b : Bool) (o : Option (List (List ℕ))) (ws : List (List ℕ)) → heard ws ≡ None → option_and_then heard (if b then Some ws else None) ≡ None
if-none true o ws is = is
if-none false o ws is = refl

pub none-line : (text : List ℕ) (words : List (List ℕ)) (rest line others : List ℕ)
    → TakesWords text words rest → BeginsWithLine rest line others → None ≡ (if is_utf8 line then Some line else None) → None ≡ words_of text
none-line text words rest line others taken begins is = sym (if-none (length (unfinished text) == 0) None (whole_lines text)
    (ap heard (taken.all ∙ ap (λ ls. words ++ ls) begins.lines) ∙ unheard words (whole_lines others) line (not_text (is_utf8 line) line is)))

all_read : (text : List ℕ) (words : List (List ℕ)) (rest : List ℕ) → TakesWords text words rest → HasNoLine rest → whole_lines text ≡ words
all_read text words rest taken ends = taken.all ∙ (ap (λ ls. words ++ ls) ends.lines ∙ append-nil words)

left_over : (text rest : List ℕ) → unfinished text ≡ unfinished rest → HasNoLine rest → (length rest == 0) ≡ (length (unfinished text) == 0)
left_over text rest same ends = ap (λ (xs : List ℕ). length xs == 0) (sym (same ∙ ends.ending))

pub none-left : (text : List ℕ) (words : List (List ℕ)) (rest : List ℕ) → TakesWords text words rest → HasNoLine rest → (length rest == 0) ≡ false → None ≡ words_of text
none-left text words rest taken ends is = sym (ap (λ (b : Bool). option_and_then heard (if b then Some (whole_lines text) else None)) (sym (left_over text rest taken.ending ends) ∙ is))

given : (text : List ℕ) (words : List (List ℕ)) (rest : List ℕ) → TakesWords text words rest → HasNoLine rest → (length rest == 0) ≡ true → words_of text ≡ heard words
given text words rest taken ends is =
    ap (λ (b : Bool). option_and_then heard (if b then Some (whole_lines text) else None)) (sym (left_over text rest taken.ending ends) ∙ is) ∙ ap heard (all_read text words rest taken ends)

hears : (words : List (List ℕ)) (b : Bool) → list_all is_utf8 words ≡ true → is_apart words ≡ b → heard words ≡ (if not b then Some words else None)
hears words b texts is = ap (λ (c : Bool). if c && not (is_apart words) then Some words else None) texts ∙ ap (λ (c : Bool). if not c then Some words else None) is

pub none-apart : (text : List ℕ) (words : List (List ℕ)) (rest : List ℕ) → TakesWords text words rest → HasNoLine rest → (length rest == 0) ≡ true → is_apart words ≡ true → None ≡ words_of text
none-apart text words rest taken ends all is = sym (given text words rest taken ends all ∙ hears words true taken.texts is)

pub some-read : (text : List ℕ) (words : List (List ℕ)) (rest : List ℕ) → TakesWords text words rest → HasNoLine rest → (length rest == 0) ≡ true → is_apart words ≡ false → Some words ≡ words_of text
some-read text words rest taken ends all is = sym (given text words rest taken ends all ∙ hears words false taken.texts is)
