-- Texts of three fields and of other numbers of fields, and tiles read field by field.
use Rattle.std.proofs.Common.{◌≡◌, ℕ, ◌==◌, ◌<◌, ◌≤◌, ◌+◌, ◌-◌, List, [], ◌∷◌, ◌++◌, true, false, Bool, refl, sym, ap, ◌∙◌, cond, length, length-append, take, drop, get_or, subst, arith}
use Rattle.std.specs.Prelude.{Option, Some, None}
use Rattle.std.proofs.lemmas.Bool.{ne_eqb}
use Rattle.std.proofs.Math.Seq.{take-length}
use Rattle.mj_lists.proofs.Onto.{onto, onto-more, onto-nothing}
use Rattle.mj_lists.proofs.Ranges.{passes}
use Rattle.mj_tiles.proofs.Texts.{is_at, is_at_says}
use Rattle.mj_bytes.specs.Parts.{fields, onto_first, BeginsWithField}
use Rattle.mj_tiles.specs.Faces.{face_of, texts}
use Rattle.mj_forms.specs.Headers.{rules_of, tiles_in}
use Rattle.mjai_answers.specs.Settings.{three_of, BeginsWithTile}

-- a text has at least one field
has_first : (text : List ℕ) → fields text ≡ [] → ⊥
has_first [] h = cc h
has_first (b ∷ bs) h = either (b == 32) (fields bs) (has_first bs) h
  where
    either : (t : Bool) (others : List (List ℕ)) → (others ≡ [] → ⊥) → cond t ([] ∷ others) (onto_first b others) ≡ [] → ⊥
    either true others g k = cc k
    either false [] g k = g refl
    either false (x ∷ xs) g k = cc k

more : (a b c : List ℕ) (others : List (List ℕ)) → (others ≡ [] → ⊥) → three_of (a ∷ b ∷ c ∷ others) ≡ None
more a b c [] g = absurd (g refl)
more a b c (x ∷ xs) g = refl

pub one_field : (text a : List ℕ) → fields text ≡ a ∷ [] → None ≡ three_of (fields text)
one_field text a e = rw e

pub two_fields : (text a rest b : List ℕ) → fields text ≡ a ∷ fields rest → fields rest ≡ b ∷ [] → None ≡ three_of (fields text)
two_fields text a rest b e f = rw (e, f)

pub all_three : (text a rest b last c : List ℕ) → fields text ≡ a ∷ fields rest → fields rest ≡ b ∷ fields last → fields last ≡ c ∷ [] → Some (a, b, c) ≡ three_of (fields text)
all_three text a rest b last c e f g = rw (e, f, g)

pub more_fields : (text a rest b last c behind : List ℕ) → fields text ≡ a ∷ fields rest → fields rest ≡ b ∷ fields last → fields last ≡ c ∷ fields behind → None ≡ three_of (fields text)
more_fields text a rest b last c behind e f g = rw (e, f, g, more a b c (fields behind) (has_first behind))

pub ruleset three_fields = (one_field, two_fields, all_three, more_fields)

-- other numbers of fields say no rules
pub rules_of_others : (texts : List (List ℕ)) → three_of texts ≡ None → rules_of texts ≡ None
unfolding rules_of
rules_of_others [] h = refl
rules_of_others (a ∷ []) h = refl
rules_of_others (a ∷ b ∷ []) h = refl
rules_of_others (a ∷ b ∷ c ∷ []) h = cc h
rules_of_others (a ∷ b ∷ c ∷ d ∷ ds) h = refl

-- a tile of one byte, and of two
one_byte : (a : ℕ) (rest : List ℕ) → (a == 32) ≡ false → BeginsWithField (a ∷ 32 ∷ rest) (a ∷ []) rest
one_byte a rest h = record { parts = refl; plain = rw h; all = rw h; shorter = omega arith }

two_bytes : (a b : ℕ) (rest : List ℕ) → (a == 32) ≡ false → (b == 32) ≡ false → BeginsWithField (a ∷ b ∷ 32 ∷ rest) (a ∷ b ∷ []) rest
two_bytes a b rest h k = record { parts = refl; plain = rw (h, k); all = rw (h, k); shorter = omega arith }

no_space : (a : ℕ) → 32 < a → (a == 32) ≡ false
no_space a h = ne_eqb a 32 (λ e. omega (arith, h, e))

pub one_ahead : (a : ℕ) (rest : List ℕ) (tile : Option ℕ) → 65 ≤ a → tile ≡ face_of (a ∷ []) → BeginsWithTile (a ∷ 32 ∷ rest) tile rest
one_ahead a rest tile h e = record { field = a ∷ []; begins = one_byte a rest (no_space a (omega (arith, h))); named = e }

two_ahead : (a b : ℕ) (rest : List ℕ) (tile : Option ℕ) → 49 ≤ a → 109 ≤ b → tile ≡ face_of (a ∷ b ∷ []) → BeginsWithTile (a ∷ b ∷ 32 ∷ rest) tile rest
two_ahead a b rest tile h k e = record { field = a ∷ b ∷ []; begins = two_bytes a b rest (no_space a (omega (arith, h))) (no_space b (omega (arith, k))); named = e }

-- the plain tile of a digit and the letter of a suit
characters : (n : ℕ) → n < 9 → face_of ((49 + n) ∷ 109 ∷ []) ≡ Some (0 + n)
unfolding face_of texts is_at
characters n few = is_at_says (face_of ((49 + n) ∷ 109 ∷ [])) (0 + n) (passes (λ k. is_at (face_of ((49 + k) ∷ 109 ∷ [])) (0 + k)) 9 n refl few)

circles : (n : ℕ) → n < 9 → face_of ((49 + n) ∷ 112 ∷ []) ≡ Some (9 + n)
unfolding face_of texts is_at
circles n few = is_at_says (face_of ((49 + n) ∷ 112 ∷ [])) (9 + n) (passes (λ k. is_at (face_of ((49 + k) ∷ 112 ∷ [])) (9 + k)) 9 n refl few)

bamboo : (n : ℕ) → n < 9 → face_of ((49 + n) ∷ 115 ∷ []) ≡ Some (18 + n)
unfolding face_of texts is_at
bamboo n few = is_at_says (face_of ((49 + n) ∷ 115 ∷ [])) (18 + n) (passes (λ k. is_at (face_of ((49 + k) ∷ 115 ∷ [])) (18 + k)) 9 n refl few)

named : (digit letter base tile : ℕ) → 49 ≤ digit → digit ≤ 57 → tile ≡ base + (digit - 49) →
    ((n : ℕ) → n < 9 → face_of ((49 + n) ∷ letter ∷ []) ≡ Some (base + n)) → Some tile ≡ face_of (digit ∷ letter ∷ [])
named digit letter base tile least most is faces =
    let place : 49 + (digit - 49) ≡ digit = omega arith in
    ap Some is ∙ sym (faces (digit - 49) (omega arith)) ∙ ap (λ d. face_of (d ∷ letter ∷ [])) place

-- what stands behind three bytes
behind_three : (a b c : ℕ) (rest : List ℕ) → take (length (a ∷ b ∷ c ∷ rest) - 3) rest ≡ rest
behind_three a b c rest = let size : length (a ∷ b ∷ c ∷ rest) - 3 ≡ length rest = omega arith in ap (λ n. take n rest) size ∙ take-length rest

three : (a b c : ℕ) (rest : List ℕ) (base tile : ℕ) → 3 ≤ length (a ∷ b ∷ c ∷ rest) → 49 ≤ a → a < 58 → 109 ≤ b → c ≡ 32 → tile ≡ base + (a - 49) →
    ((n : ℕ) → n < 9 → face_of ((49 + n) ∷ b ∷ []) ≡ Some (base + n)) → BeginsWithTile (a ∷ b ∷ c ∷ rest) (Some tile) (take (length (a ∷ b ∷ c ∷ rest) - 3) rest)
three a b c rest base tile long least most letter space is faces =
    subst (λ others. BeginsWithTile (a ∷ b ∷ c ∷ rest) (Some tile) others) (sym (behind_three a b c rest))
    (subst (λ byte. BeginsWithTile (a ∷ b ∷ byte ∷ rest) (Some tile) rest) (sym space)
    (two_ahead a b rest (Some tile) least letter (named a b base tile least (omega arith) is faces)))

pub characters_ahead : (text : List ℕ) (tile : ℕ) → 3 ≤ length text → 49 ≤ get_or text 0 0 → get_or text 0 0 < 58 → get_or text 1 0 ≡ 109 → get_or text 2 0 ≡ 32 →
    tile ≡ 0 + (get_or text 0 0 - 49) → BeginsWithTile text (Some tile) (take (length text - 3) (drop 3 text))
characters_ahead [] tile long least most letter space is = absurd (omega arith)
characters_ahead (a ∷ []) tile long least most letter space is = absurd (omega arith)
characters_ahead (a ∷ b ∷ []) tile long least most letter space is = absurd (omega arith)
characters_ahead (a ∷ b ∷ c ∷ rest) tile long least most letter space is =
    three a b c rest 0 tile (omega arith) least most (omega (arith, letter)) space is (λ n few. ap (λ x. face_of ((49 + n) ∷ x ∷ [])) letter ∙ characters n few)

pub circles_ahead : (text : List ℕ) (tile : ℕ) → 3 ≤ length text → 49 ≤ get_or text 0 0 → get_or text 0 0 < 58 → get_or text 1 0 ≡ 112 → get_or text 2 0 ≡ 32 →
    tile ≡ 9 + (get_or text 0 0 - 49) → BeginsWithTile text (Some tile) (take (length text - 3) (drop 3 text))
circles_ahead [] tile long least most letter space is = absurd (omega arith)
circles_ahead (a ∷ []) tile long least most letter space is = absurd (omega arith)
circles_ahead (a ∷ b ∷ []) tile long least most letter space is = absurd (omega arith)
circles_ahead (a ∷ b ∷ c ∷ rest) tile long least most letter space is =
    three a b c rest 9 tile (omega arith) least most (omega (arith, letter)) space is (λ n few. ap (λ x. face_of ((49 + n) ∷ x ∷ [])) letter ∙ circles n few)

pub bamboo_ahead : (text : List ℕ) (tile : ℕ) → 3 ≤ length text → 49 ≤ get_or text 0 0 → get_or text 0 0 < 58 → get_or text 1 0 ≡ 115 → get_or text 2 0 ≡ 32 →
    tile ≡ 18 + (get_or text 0 0 - 49) → BeginsWithTile text (Some tile) (take (length text - 3) (drop 3 text))
bamboo_ahead [] tile long least most letter space is = absurd (omega arith)
bamboo_ahead (a ∷ []) tile long least most letter space is = absurd (omega arith)
bamboo_ahead (a ∷ b ∷ []) tile long least most letter space is = absurd (omega arith)
bamboo_ahead (a ∷ b ∷ c ∷ rest) tile long least most letter space is =
    three a b c rest 18 tile (omega arith) least most (omega (arith, letter)) space is (λ n few. ap (λ x. face_of ((49 + n) ∷ x ∷ [])) letter ∙ bamboo n few)

pub any_ahead : (text field rest : List ℕ) (tile : Option ℕ) → BeginsWithField text field rest → tile ≡ face_of field → BeginsWithTile text tile rest
any_ahead text field rest tile b e = record { field = field; begins = b; named = e }

pub ruleset ahead = (one_ahead, characters_ahead, circles_ahead, bamboo_ahead, any_ahead)

pub shorter_behind : (text rest : List ℕ) (tile : Option ℕ) → BeginsWithTile text tile rest → length rest < length text
shorter_behind text rest tile b = b.begins.shorter

-- a tile has a text, so with the space behind it two bytes or more are read
pub two_shorter : (text rest : List ℕ) (tile : ℕ) → BeginsWithTile text (Some tile) rest → length rest + 2 ≤ length text
unfolding face_of texts
two_shorter text rest tile b = sized b.field b.begins.parts b.named
  where
    sized : (field : List ℕ) → text ≡ field ++ 32 ∷ rest → Some tile ≡ face_of field → length rest + 2 ≤ length text
    sized [] parts named = cc named
    sized (x ∷ xs) parts named = omega (arith, ap length parts, length-append xs (32 ∷ rest))

-- a tile more was read
pub onto-step : (whole : Option (List ℕ)) (tiles rest others : List ℕ) (tile : ℕ) → whole ≡ onto tiles (tiles_in (fields rest)) →
    BeginsWithTile rest (Some tile) others → whole ≡ onto (tiles ++ tile ∷ []) (tiles_in (fields others))
onto-step whole tiles rest others tile h b =
    let k = rw (b.begins.all, sym b.named) at h in k ∙ onto-more tiles tile (tiles_in (fields others))

-- the next field names no tile
pub onto-stop : (whole : Option (List ℕ)) (tiles rest others : List ℕ) → whole ≡ onto tiles (tiles_in (fields rest)) → BeginsWithTile rest None others → None ≡ whole
onto-stop whole tiles rest others h b = let k = rw (b.begins.all, sym b.named) at h in sym k

-- the last tile was read
pub onto-last : (whole : Option (List ℕ)) (tiles rest : List ℕ) (tile : ℕ) → whole ≡ onto tiles (tiles_in (fields rest)) → fields rest ≡ rest ∷ [] →
    Some tile ≡ face_of rest → Some (tiles ++ tile ∷ []) ≡ whole
onto-last whole tiles rest tile h e f = let k = rw (e, ← f) at h in sym k

-- a field names no tile
pub onto-none : (whole : Option (List ℕ)) (tiles rest field : List ℕ) (others : List (List ℕ)) → whole ≡ onto tiles (tiles_in (fields rest)) →
    fields rest ≡ field ∷ others → None ≡ face_of field → None ≡ whole
onto-none whole tiles rest field others h e f = let k = rw (e, ← f) at h in sym k

pub ruleset reading = (shorter_behind, two_shorter, onto-nothing, onto-step, onto-stop, onto-last, onto-none)
