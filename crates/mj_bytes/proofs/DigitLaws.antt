-- Decimal digits, read one by one from the front.
use Rattle.std.proofs.Common.{◌≡◌, ℕ, ◌+◌, ◌-◌, ◌*◌, ◌^◌, ◌<◌, ◌≤◌, List, [], ◌∷◌, ◌++◌, length, zero, suc, Bool, true, false, refl, ap, sym, ◌∙◌, arith, length-append, cond, take, drop, get_or}
use Rattle.std.specs.Prelude.{None, Some}
use Rattle.std.specs.Char.{is_ascii_digit}
use Rattle.std.proofs.lemmas.Grind.{pow_more}
use Rattle.std.proofs.lemmas.Nat.{pow-add}
use Rattle.std.proofs.lemmas.List.{take_more, take-append-drop, take_all}
use Rattle.std.proofs.lemmas.Bool.Decides.{nat_tests}
use Rattle.mj_bytes.specs.Numbers.{all_digits, digits_value, bounded_value}

pub all_digits-head : (t v : Bool) → cond t v false ≡ true → (t ≡ true) × (v ≡ true)
all_digits-head true v h = (refl, h)
all_digits-head false v h = (cc, cc)

pub all_digits-push : (ds : List ℕ) (b : ℕ) → all_digits ds ≡ true → is_ascii_digit b ≡ true → all_digits (ds ++ b ∷ []) ≡ true
all_digits-push [] b h d = rw d
all_digits-push (c ∷ cs) b h d = let k = all_digits-head (is_ascii_digit c) (all_digits cs) h in rw (k.0, all_digits-push cs b k.1 d)

pub all_digits-broken : (ds : List ℕ) (i : ℕ) → i < length ds → is_ascii_digit (get_or ds i 0) ≡ false → all_digits ds ≡ false
all_digits-broken [] i h d = absurd (omega arith)
all_digits-broken (c ∷ cs) zero h d = rw d
all_digits-broken (c ∷ cs) (suc i) h d = rw (all_digits-broken cs i (omega arith) d) (both (is_ascii_digit c))
  where
    both : (t : Bool) → cond t false false ≡ false
    both true = refl
    both false = refl

regrouped : (a p q v w : ℕ) → a * (p * q) + (v * q + w) ≡ (a * p + v) * q + w
regrouped a p q v w = omega arith

pub digits_value-append : (xs ys : List ℕ) → digits_value (xs ++ ys) ≡ digits_value xs * 10 ^ length ys + digits_value ys
digits_value-append [] ys = omega arith
digits_value-append (b ∷ bs) ys = rw (length-append bs ys, pow-add, digits_value-append bs ys) (regrouped (b - 48) (10 ^ length bs) (10 ^ length ys) (digits_value bs) (digits_value ys))

pub digits_value-push : (ds : List ℕ) (b : ℕ) → digits_value (ds ++ b ∷ []) ≡ digits_value ds * 10 + (b - 48)
digits_value-push ds b = omega (arith, digits_value-append ds (b ∷ []))

pub digits_value-step : (ds : List ℕ) (i : ℕ) → i < length ds → digits_value (take (i + 1) ds) ≡ digits_value (take i ds) * 10 + (get_or ds i 0 - 48)
digits_value-step ds i h = rw (take_more ds i 0 h) (digits_value-push (take i ds) (get_or ds i 0))

pub all_digits-step : (ds : List ℕ) (i : ℕ) → i < length ds → all_digits (take i ds) ≡ true → is_ascii_digit (get_or ds i 0) ≡ true → all_digits (take (i + 1) ds) ≡ true
all_digits-step ds i h a d = rw (take_more ds i 0 h) (all_digits-push (take i ds) (get_or ds i 0) a d)

tens : (k : ℕ) → 0 < 10 ^ k
tens zero = omega arith
tens (suc k) = let h = tens k in omega (arith, pow_more 10 k)

grown : (n v q w : ℕ) → n ≡ v * q + w → 0 < q → v ≤ n
grown n v zero w e h = absurd (omega arith)
grown n v (suc q) w e h = omega arith

pub digits_value-take : (ds : List ℕ) (i : ℕ) → digits_value (take i ds) ≤ digits_value ds
digits_value-take ds i =
    let e : digits_value ds ≡ digits_value (take i ds) * 10 ^ length (drop i ds) + digits_value (drop i ds) =
    ap digits_value (sym (take-append-drop i ds)) ∙ digits_value-append (take i ds) (drop i ds) in
    grown (digits_value ds) (digits_value (take i ds)) (10 ^ length (drop i ds)) (digits_value (drop i ds)) e (tens (length (drop i ds)))

pub bounded_value-large : (ds : List ℕ) → 2 ^ 64 ≤ digits_value ds → bounded_value ds ≡ None
bounded_value-large ds h = grind (arith, nat_tests)

-- a number grows past its bound at some digit: all of the text then says too much
pub bounded_value-past : (ds : List ℕ) (i : ℕ) → i < length ds → 2 ^ 64 ≤ digits_value (take i ds) * 10 + (get_or ds i 0 - 48) → bounded_value ds ≡ None
bounded_value-past ds i h past = bounded_value-large ds (omega (arith, digits_value-step ds i h, digits_value-take ds (i + 1)))

pub bounded_value-broken : (ds : List ℕ) (i : ℕ) → i < length ds → is_ascii_digit (get_or ds i 0) ≡ false → bounded_value ds ≡ None
bounded_value-broken ds i h d = rw (all_digits-broken ds i h d)

pub bounded_value-whole : (ds : List ℕ) → all_digits ds ≡ true → digits_value ds < 2 ^ 64 → bounded_value ds ≡ Some (digits_value ds)
bounded_value-whole ds a h = grind (arith, nat_tests)

pub bounded_value-read : (ds : List ℕ) (i v : ℕ) → length ds ≤ i → all_digits (take i ds) ≡ true → v ≡ digits_value (take i ds) → v < 2 ^ 64 → Some v ≡ bounded_value ds
bounded_value-read ds i v all a worth h =
    let e : take i ds ≡ ds = take_all i ds all in
    let digits : all_digits ds ≡ true = ap all_digits (sym e) ∙ a in
    let value : digits_value ds ≡ v = ap digits_value (sym e) ∙ sym worth in
    sym (bounded_value-whole ds digits (omega arith) ∙ ap Some value)

pub ruleset digit_steps = (digits_value-step, all_digits-step, bounded_value-past, bounded_value-broken, bounded_value-read)
