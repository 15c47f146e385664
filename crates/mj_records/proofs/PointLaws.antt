-- Signed numbers, and points of the four seats, are read again.
use Rattle.std.proofs.Common.{◌≡◌, ℕ, ◌^◌, ◌<◌, List, [], ◌∷◌, ◌++◌, length, Bool, true, false, refl, ap, sym, subst, ◌∙◌, arith, suc}
use Rattle.std.specs.Prelude.{Some, None, ℤ, pos, negsuc, nat_lt, ◌==◌, ◌&&◌, option_map, option_and_then, codes}
use Rattle.std.specs.List.{list_all}
use Rattle.std.specs.Fmt.{decimal, signed_decimal}
use Rattle.std.specs.Char.{is_ascii_digit}
use Rattle.std.proofs.lemmas.Bool.{false≢true, ltb-true}
use Rattle.std.proofs.lemmas.Bool.Decides.{Decides-eqb}
use Rattle.std.proofs.lemmas.Fmt.{digits_decimal, decimal_nonempty}
use Rattle.mj_bytes.specs.Numbers.{all_digits}
use Rattle.mj_bytes.specs.Parts.{behind}
use Rattle.mj_bytes.proofs.DigitLaws.{all_digits-head}
use Rattle.mj_forms.specs.Lines.{points_text}
use Rattle.mj_history.specs.Records.{is_signed_word, are_points}
use Rattle.mj_records.specs.Inner.Fields.{below, and_rest, negative_of, signed_at, signed_field, points_at, points_field}
use Rattle.mj_records.specs.Laws.{is_plain}
use Rattle.mj_records.proofs.FieldLaws.{own, number_read, behind_key}
use Rattle.mj_records.proofs.Shapes.{four_shape}

-- a number begins with a digit, and not with a minus sign
dash : (b : ℕ) → is_ascii_digit b ≡ true → (45 == b) ≡ false
dash b h = either (45 == b) refl
  where
    either : (t : Bool) → (45 == b) ≡ t → (45 == b) ≡ false
    either false e = e
    either true e = absurd (false≢true (subst (λ n. is_ascii_digit n ≡ true) (sym ((Decides-eqb 45 b).0 e)) h))

no_minus : (ds rest : List ℕ) → all_digits ds ≡ true → 0 < length ds → behind (codes "-") (ds ++ rest) ≡ None
no_minus [] rest d some = absurd (omega arith)
no_minus (b ∷ bs) rest d some = let k = all_digits-head (is_ascii_digit b) (all_digits bs) d in rw (dash b k.0)

pub signed_read : (value : ℤ) (rest : List ℕ) → is_signed_word value ≡ true → is_plain rest ≡ true → signed_at (signed_decimal value ++ rest) ≡ Some (value, rest)
unfolding signed_at
signed_read (pos n) rest h plain =
    let small : n < 2147483648 = ltb-true n 2147483648 h in
    let wide : n < 2 ^ 64 = omega arith in
    let none = no_minus (decimal n) rest (digits_decimal own n wide) (decimal_nonempty n wide) in
    let bound : nat_lt n (2 ^ 31) ≡ true = h in
    rw (none, number_read n rest wide plain, bound)
signed_read (negsuc n) rest h plain =
    let small : n < 2147483648 = ltb-true n 2147483648 h in
    let wide : suc n < 2 ^ 64 = omega arith in
    let bound : nat_lt n (2 ^ 31) ≡ true = h in
    ap (option_and_then (and_rest negative_of)) (number_read (suc n) rest wide plain) ∙ ap (λ t. option_map (λ x. (x, rest)) (option_map negsuc t)) (inside n bound)
  where
    inside : (n : ℕ) → nat_lt n (2 ^ 31) ≡ true → below (2 ^ 31) n ≡ Some n
    inside n b = rw b

pub signed_field_read : (key rest : List ℕ) (value : ℤ) → is_signed_word value ≡ true → is_plain rest ≡ true → signed_field key (key ++ (signed_decimal value ++ rest)) ≡ Some (value, rest)
unfolding signed_field
signed_field_read key rest value h plain = ap (option_and_then signed_at) (behind_key key (signed_decimal value ++ rest)) ∙ signed_read value rest h plain

pub and-parts : (s t : Bool) → (s && t) ≡ true → (s ≡ true) × (t ≡ true)
and-parts true t h = (refl, h)
and-parts false t h = absurd (false≢true h)

-- the points of the four seats
pub four_read : (a b c d : ℤ) (rest : List ℕ) → is_signed_word a ≡ true → is_signed_word b ≡ true → is_signed_word c ≡ true →
    is_signed_word d ≡ true → points_at (points_text (a ∷ b ∷ c ∷ d ∷ []) ++ rest) ≡ Some (a ∷ b ∷ c ∷ d ∷ [], rest)
unfolding points_at
four_read a b c d rest ha hb hc hd =
    ap points_at (four_shape (signed_decimal a) (signed_decimal b) (signed_decimal c) (signed_decimal d) rest)
    ∙ inner
  where
    inner : points_at (codes "[" ++ (signed_decimal a ++
        (codes "," ++ (signed_decimal b ++ (codes "," ++ (signed_decimal c ++ (codes "," ++ (signed_decimal d ++ (codes "]" ++ rest))))))))) ≡ Some
        (a ∷ b ∷ c ∷ d ∷ [], rest)
    inner =
        rw (
          signed_field_read (codes "[") (codes "," ++ (signed_decimal b ++ (codes "," ++ (signed_decimal c ++ (codes "," ++ (signed_decimal d ++ (codes "]" ++ rest))))))) a ha refl,
          signed_field_read (codes ",") (codes "," ++ (signed_decimal c ++ (codes "," ++ (signed_decimal d ++ (codes "]" ++ rest))))) b hb refl,
          signed_field_read (codes ",") (codes "," ++ (signed_decimal d ++ (codes "]" ++ rest))) c hc refl,
          signed_field_read (codes ",") (codes "]" ++ rest) d hd refl,
        )

pub points_read : (points : List ℤ) (rest : List ℕ) → are_points points ≡ true → points_at (points_text points ++ rest) ≡ Some (points, rest)
points_read (a ∷ b ∷ c ∷ d ∷ []) rest h =
    let p = and-parts (is_signed_word a) (list_all is_signed_word (b ∷ c ∷ d ∷ [])) h in
    let q = and-parts (is_signed_word b) (list_all is_signed_word (c ∷ d ∷ [])) p.1 in
    let r = and-parts (is_signed_word c) (list_all is_signed_word (d ∷ [])) q.1 in
    let s = and-parts (is_signed_word d) true r.1 in
    four_read a b c d rest p.0 q.0 r.0 s.0
points_read [] rest h = absurd (false≢true h)
points_read (a ∷ []) rest h = absurd (false≢true h)
points_read (a ∷ b ∷ []) rest h = absurd (false≢true h)
points_read (a ∷ b ∷ c ∷ []) rest h = absurd (false≢true h)
points_read (a ∷ b ∷ c ∷ d ∷ e ∷ es) rest h =
    let p = and-parts (length (a ∷ b ∷ c ∷ d ∷ e ∷ es) == 4) (list_all is_signed_word (a ∷ b ∷ c ∷ d ∷ e ∷ es)) h in
    let q : length (a ∷ b ∷ c ∷ d ∷ e ∷ es) ≡ 4 = (Decides-eqb (length (a ∷ b ∷ c ∷ d ∷ e ∷ es)) 4).0 p.0 in
    absurd (omega arith)

pub points_field_read : (key rest : List ℕ) (points : List ℤ) → are_points points ≡ true → points_field key (key ++ (points_text points ++ rest)) ≡ Some (points, rest)
unfolding points_field
points_field_read key rest points h = ap (option_and_then points_at) (behind_key key (points_text points ++ rest)) ∙ points_read points rest h
