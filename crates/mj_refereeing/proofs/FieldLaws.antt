-- The end of a window, said by three fields and by other numbers of fields.
use Rattle.std.proofs.Common.{◌≡◌, ℕ, zero, suc, ◌+◌, ◌^◌, ◌<◌, Bool, List, [], ◌∷◌, ◌++◌, true, refl, ap, sym, ◌∙◌}
use Rattle.std.specs.Prelude.{Option, Some, None, codes, if◌then◌else◌, option_map, option_and_then, nat_lt}
use Rattle.std.proofs.Common.{arith}
use Rattle.std.proofs.lemmas.Bool.Decides.{nat_tests}
use Rattle.mj_bytes.specs.Numbers.{decimal_of}
use Rattle.mj_history.specs.Arrivals.{NoForm, Say, Expire, expire_form, numbers_in, is_short, form_by, form_of}
use Rattle.mjai_answers.specs.Settings.{three_of}

-- other numbers of fields say no end of a window
pub expire_form_of_others : (texts : List (List ℕ)) → three_of texts ≡ None → expire_form (numbers_in texts) ≡ NoForm
expire_form_of_others [] h = refl
expire_form_of_others (a ∷ []) h = one (decimal_of a)
  where
    one : (o : Option ℕ) → expire_form (option_and_then (λ n. option_map (λ ns. n ∷ ns) (Some [])) o) ≡ NoForm
    one None = refl
    one (Some n) = refl
expire_form_of_others (a ∷ b ∷ []) h = two (decimal_of a) (decimal_of b)
  where
    two : (o p : Option ℕ) → expire_form (option_and_then (λ n. option_map (λ ns. n ∷ ns) (option_and_then (λ n. option_map (λ ns. n ∷ ns) (Some [])) p)) o) ≡ NoForm
    two None p = refl
    two (Some n) None = refl
    two (Some n) (Some m) = refl
expire_form_of_others (a ∷ b ∷ c ∷ []) h = cc h
expire_form_of_others (a ∷ b ∷ c ∷ d ∷ ds) h = four (decimal_of a) (decimal_of b) (decimal_of c) (decimal_of d) (numbers_in ds)
  where
    four : (o p q r : Option ℕ) (s : Option (List ℕ)) →
        expire_form (option_and_then (λ n. option_map (λ ns. n ∷ ns)
        (option_and_then (λ n. option_map (λ ns. n ∷ ns)
        (option_and_then (λ n. option_map (λ ns. n ∷ ns) (option_and_then (λ n. option_map (λ ns. n ∷ ns) s) r)) q)) p)) o) ≡ NoForm
    four None p q r s = refl
    four (Some n) None q r s = refl
    four (Some n) (Some m) None r s = refl
    four (Some n) (Some m) (Some k) None s = refl
    four (Some n) (Some m) (Some k) (Some l) None = refl
    four (Some n) (Some m) (Some k) (Some l) (Some ns) = refl

abbrev texts_in : Option (List ℕ × List ℕ × List ℕ) → List (List ℕ)
texts_in None = []
texts_in (Some p) = p.0 ∷ p.1 ∷ p.2 ∷ []

three_texts : (texts : List (List ℕ)) (a b c : List ℕ) → Some (a, b, c) ≡ three_of texts → texts ≡ a ∷ b ∷ c ∷ []
three_texts [] a b c h = cc h
three_texts (x ∷ []) a b c h = cc h
three_texts (x ∷ y ∷ []) a b c h = cc h
three_texts (x ∷ y ∷ z ∷ []) a b c h = sym (ap texts_in h)
three_texts (x ∷ y ∷ z ∷ v ∷ vs) a b c h = cc h

pub expire_form_of_three : (texts : List (List ℕ)) (a b c : List ℕ) (window t1 t2 : ℕ) → Some (a, b, c) ≡ three_of texts →
    Some window ≡ decimal_of a → Some t1 ≡ decimal_of b → Some t2 ≡ decimal_of c → window < 2 ^ 32 →
    Expire window t1 t2 ≡ expire_form (numbers_in texts)
expire_form_of_three texts a b c window t1 t2 h f g k below =
    let small : nat_lt window (2 ^ 32) ≡ true = grind (arith, nat_tests) in
    rw (three_texts texts a b c h, ← f, ← g, ← k, small)

pub ruleset expiries = (expire_form_of_others, expire_form_of_three)

-- A line that a seat says, in its shortest spelling.
pub say_is : (line said : List ℕ) (seat : ℕ) → seat < 4 → line ≡ codes "say " ++ (48 + seat) ∷ 32 ∷ said → is_short said ≡ true → Say seat said ≡ form_of line
unfolding form_of form_by
say_is line said seat few is short = by_seat seat few ∙ ap form_of (sym is)
  where
    kept : (seat : ℕ) → Say seat said ≡ (if is_short said then Say seat said else NoForm)
    kept seat = ap (λ (b : Bool). if b then Say seat said else NoForm) (sym short)

    by_seat : (seat : ℕ) → seat < 4 → Say seat said ≡ form_of (codes "say " ++ (48 + seat) ∷ 32 ∷ said)
    by_seat zero few = kept 0
    by_seat (suc zero) few = kept 1
    by_seat (suc (suc zero)) few = kept 2
    by_seat (suc (suc (suc zero))) few = kept 3
    by_seat (suc (suc (suc (suc n)))) few = absurd (omega (arith, few))
