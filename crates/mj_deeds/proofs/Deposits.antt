-- How many deposits lie on the table of deeds that fit: in each hand a seat lays down one at most.
use Rattle.std.proofs.Common.{◌≡◌, ℕ, zero, suc, ◌+◌, ◌-◌, ◌*◌, ◌<◌, ◌≤◌, ◌||◌, not, Bool, true, false, List, [], ◌∷◌, ◌++◌, length, cond, refl, sym, ap, ◌∙◌, eqb, arith}
use Rattle.std.specs.Prelude.{Some, nat_lt}
use Rattle.std.proofs.lemmas.Bool.{and_parts, ltb-true}
use Rattle.mj_deeds.specs.declared.deed.Deed.{Deed}
use Rattle.mj_deeds.specs.declared.deed.Deed.TheVariants.{StartHand, ReachAccepted}
use Rattle.mj_deeds.specs.Hand.{is_hand_start, hand, starts}
use Rattle.mj_deeds.specs.Points.{deposits, is_deposit, is_win}
use Rattle.mj_deeds.specs.Riichi.{is_accepted_by, is_in_riichi}
use Rattle.mj_deeds.specs.Fits.{fits, all_fit, has_seats, is_first_riichi}
use Rattle.mj_deeds.proofs.HandSteps.{behind, hand_more, starts_more}
use Rattle.mj_deeds.proofs.PointLaws.{deposits_more}
use Rattle.mj_deeds.proofs.RiichiLaws.{accepted_more}
use Rattle.mj_deeds.proofs.Fitted.{all_fit-append, kept, parts_of, past_of, is_past_start, some_hand}
use Rattle.mj_deeds.proofs.Standings.{few_hands}

abbrev pub bit : Bool → ℕ
bit b = cond b 1 0

-- How many seats are in riichi.
abbrev pub riichis : List Deed → ℕ
riichis h = bit (is_in_riichi h 0) + bit (is_in_riichi h 1) + bit (is_in_riichi h 2) + bit (is_in_riichi h 3)

little : (b : Bool) → bit b ≤ 1
little true = omega arith
little false = omega arith

pub riichis_most : (h : List Deed) → riichis h ≤ 4
riichis_most h = most _ _ _ _ (little (is_in_riichi h 0)) (little (is_in_riichi h 1)) (little (is_in_riichi h 2)) (little (is_in_riichi h 3))
  where
    most : (a b c d : ℕ) → a ≤ 1 → b ≤ 1 → c ≤ 1 → d ≤ 1 → a + b + c + d ≤ 4
    most a b c d h i j k = omega (arith, h, i, j, k)

same : (x y b : Bool) → x ≡ (y || b) → b ≡ false → bit x ≡ bit y
same x true b e f = ap bit e
same x false b e f = ap bit (e ∙ f)

taken : (x y b : Bool) → x ≡ (y || b) → b ≡ true → y ≡ false → bit x ≡ bit y + 1
taken x true b e f g = cc
taken x false b e f g = ap bit (e ∙ f)

not_accepted : (d : Deed) (seat : ℕ) → is_deposit d ≡ false → is_accepted_by seat d ≡ false
not_accepted (ReachAccepted who points bid) seat h = cc
not_accepted other seat h = refl

-- With one deed more.
pub riichis_stay : (h : List Deed) (d : Deed) → is_deposit d ≡ false → riichis (h ++ d ∷ []) ≡ riichis h
riichis_stay h d e = sum (each 0) (each 1) (each 2) (each 3)
  where
    each : (seat : ℕ) → bit (is_in_riichi (h ++ d ∷ []) seat) ≡ bit (is_in_riichi h seat)
    each seat = same (is_in_riichi (h ++ d ∷ []) seat) (is_in_riichi h seat) (is_accepted_by seat d) (accepted_more h d seat) (not_accepted d seat e)

    sum : {a b c f k l m n : ℕ} → a ≡ k → b ≡ l → c ≡ m → f ≡ n → a + b + c + f ≡ k + l + m + n
    sum p q r s = λ i. p i + q i + r i + s i

pub riichis_more : (h : List Deed) (d : Deed) (who : ℕ) → who < 4 → ((seat : ℕ) → is_accepted_by seat d ≡ eqb who seat) → is_in_riichi h who ≡ false → riichis (h ++ d ∷ []) ≡ riichis h + 1
riichis_more h d who low is free = at who low is free
  where
    other : (seat : ℕ) → is_accepted_by seat d ≡ false → bit (is_in_riichi (h ++ d ∷ []) seat) ≡ bit (is_in_riichi h seat)
    other seat e = same (is_in_riichi (h ++ d ∷ []) seat) (is_in_riichi h seat) (is_accepted_by seat d) (accepted_more h d seat) e

    own : (seat : ℕ) → is_accepted_by seat d ≡ true → is_in_riichi h seat ≡ false → bit (is_in_riichi (h ++ d ∷ []) seat) ≡ bit (is_in_riichi h seat) + 1
    own seat e f = taken (is_in_riichi (h ++ d ∷ []) seat) (is_in_riichi h seat) (is_accepted_by seat d) (accepted_more h d seat) e f

    first : (a b c f k l m n : ℕ) → a ≡ k + 1 → b ≡ l → c ≡ m → f ≡ n → a + b + c + f ≡ k + l + m + n + 1
    first a b c f k l m n p q r s = omega (arith, p, q, r, s)

    second : (a b c f k l m n : ℕ) → a ≡ k → b ≡ l + 1 → c ≡ m → f ≡ n → a + b + c + f ≡ k + l + m + n + 1
    second a b c f k l m n p q r s = omega (arith, p, q, r, s)

    third : (a b c f k l m n : ℕ) → a ≡ k → b ≡ l → c ≡ m + 1 → f ≡ n → a + b + c + f ≡ k + l + m + n + 1
    third a b c f k l m n p q r s = omega (arith, p, q, r, s)

    fourth : (a b c f k l m n : ℕ) → a ≡ k → b ≡ l → c ≡ m → f ≡ n + 1 → a + b + c + f ≡ k + l + m + n + 1
    fourth a b c f k l m n p q r s = omega (arith, p, q, r, s)

    at : (who : ℕ) → who < 4 → ((seat : ℕ) → is_accepted_by seat d ≡ eqb who seat) → is_in_riichi h who ≡ false → riichis (h ++ d ∷ []) ≡ riichis h + 1
    at zero l e f = first _ _ _ _ _ _ _ _ (own 0 (e 0) f) (other 1 (e 1)) (other 2 (e 2)) (other 3 (e 3))
    at (suc zero) l e f = second _ _ _ _ _ _ _ _ (other 0 (e 0)) (own 1 (e 1) f) (other 2 (e 2)) (other 3 (e 3))
    at (suc (suc zero)) l e f = third _ _ _ _ _ _ _ _ (other 0 (e 0)) (other 1 (e 1)) (own 2 (e 2) f) (other 3 (e 3))
    at (suc (suc (suc zero))) l e f = fourth _ _ _ _ _ _ _ _ (other 0 (e 0)) (other 1 (e 1)) (other 2 (e 2)) (own 3 (e 3) f)
    at (suc (suc (suc (suc n)))) l e f = absurd (omega (arith, l))

record Laid (red : Bool) (ds : List Deed) : Type 0 where
  fit : all_fit red [] ds ≡ true
  few : deposits ds ≤ 4 * (length (starts ds) - 1) + riichis (hand ds)
  none : length (starts ds) ≡ 0 → hand ds ≡ []

start_quiet : (d : Deed) → is_hand_start d ≡ true → (is_win d ≡ false) × (is_deposit d ≡ false)
start_quiet (StartHand round number honba deposits dealer indicator hands) h = (refl, refl)
start_quiet other h = cc

-- What is laid with a deed that is no deposit is no more than before.
no_more : (ds : List Deed) (d : Deed) → is_deposit d ≡ false → deposits (ds ++ d ∷ []) ≤ deposits ds
no_more ds d e = by_tests _ (deposits ds) (is_win d) (is_deposit d) (deposits_more ds d) e
  where
    by_tests : (n m : ℕ) (a b : Bool) → n ≡ cond a 0 (m + cond b 1 0) → b ≡ false → n ≤ m
    by_tests n m true b e f = omega (arith, e)
    by_tests n m false true e f = cc
    by_tests n m false false e f = omega (arith, e)

one_more : (ds : List Deed) (d : Deed) → deposits (ds ++ d ∷ []) ≤ deposits ds + 1
one_more ds d = by_tests _ (deposits ds) (is_win d) (is_deposit d) (deposits_more ds d)
  where
    by_tests : (n m : ℕ) (a b : Bool) → n ≡ cond a 0 (m + cond b 1 0) → n ≤ m + 1
    by_tests n m true b e = omega (arith, e)
    by_tests n m false true e = omega (arith, e)
    by_tests n m false false e = omega (arith, e)

-- An accepted reach is one riichi more.
accept : (h : List Deed) (d : Deed) → is_deposit d ≡ true → has_seats d ≡ true → is_first_riichi h d ≡ true → riichis (h ++ d ∷ []) ≡ riichis h + 1
accept h (ReachAccepted who points bid) e s f =
    riichis_more h (ReachAccepted who points bid) who (ltb-true who 4 (and_parts (nat_lt who 4) _ s).0) (λ seat. refl) (not_true (is_in_riichi h who) f)
  where
    not_true : (b : Bool) → not b ≡ true → b ≡ false
    not_true true k = cc
    not_true false k = refl
accept h other e s f = cc

deposit_past : (d : Deed) → is_deposit d ≡ true → is_past_start (Some d) ≡ true
deposit_past (ReachAccepted who points bid) e = refl
deposit_past other e = cc

abbrev Few : List Deed → List Deed → Type 0
Few ds h = deposits ds ≤ 4 * (length (starts ds) - 1) + riichis h

laid_step : (red : Bool) (ds : List Deed) (d : Deed) → Laid red ds → fits red ds d ≡ true → Laid red (ds ++ d ∷ [])
laid_step red ds d k f = record { fit = all_fit-append red [] ds d k.fit f; few = few (is_hand_start d) refl; none = none (is_hand_start d) refl }
  where
    new : List Deed
    new = ds ++ d ∷ []

    count : (b : Bool) → is_hand_start d ≡ b → length (starts new) ≡ length (starts ds) + cond b 1 0
    count b e = starts_more ds d ∙ ap (λ (c : Bool). length (starts ds) + cond c 1 0) e

    shape : (b : Bool) → is_hand_start d ≡ b → hand new ≡ cond b (d ∷ []) (behind (hand ds) d)
    shape b e = hand_more ds d ∙ ap (λ (c : Bool). cond c (d ∷ []) (behind (hand ds) d)) e

    first : (n m s s' r r' : ℕ) → n ≤ m → m ≤ 4 * (s - 1) + r → r ≤ 4 → (s ≡ 0 → r ≡ 0) → s' ≡ s + 1 → n ≤ 4 * (s' - 1) + r'
    first n m zero s' r r' h i j z e = omega (arith, h, i, z refl, e)
    first n m (suc s) s' r r' h i j z e = omega (arith, h, i, j, e)

    stay : (n m s s' r r' : ℕ) → n ≤ m → m ≤ 4 * (s - 1) + r → s' ≡ s + 0 → r' ≡ r → n ≤ 4 * (s' - 1) + r'
    stay n m s s' r r' h i e g = omega (arith, h, i, e, g)

    grow : (n m s s' r r' : ℕ) → n ≤ m + 1 → m ≤ 4 * (s - 1) + r → s' ≡ s + 0 → r' ≡ r + 1 → n ≤ 4 * (s' - 1) + r'
    grow n m s s' r r' h i e g = omega (arith, h, i, e, g)

    once : is_hand_start d ≡ false → is_first_riichi (hand ds) d ≡ true
    once e = ap (λ (b : Bool). is_first_riichi (cond b [] (hand ds)) d) (sym e) ∙ (parts_of red ds d f).inside.once

    by_hand : (h : List Deed) → hand ds ≡ h → is_hand_start d ≡ false → (b : Bool) → is_deposit d ≡ b → Few new (hand new)
    by_hand h e s false l =
        stay _ (deposits ds) (length (starts ds)) _ (riichis (hand ds)) _ (no_more ds d l) k.few (count false s) (ap riichis (shape false s) ∙ still (hand ds) l)
      where
        still : (xs : List Deed) → is_deposit d ≡ false → riichis (behind xs d) ≡ riichis xs
        still [] m = refl
        still (x ∷ xs) m = riichis_stay (x ∷ xs) d m
    by_hand [] e s true l = absurd (some_hand red ds k.fit (past_of ds d (parts_of red ds d f).place s (deposit_past d l)) e)
    by_hand (x ∷ xs) e s true l =
        grow _ (deposits ds) (length (starts ds)) _ (riichis (hand ds)) _ (one_more ds d) k.few (count false s)
        (ap riichis (shape false s ∙ ap (λ (ys : List Deed). behind ys d) e) ∙ accept (x ∷ xs) d l (parts_of red ds d f).inside.seats (ap (λ (ys : List Deed). is_first_riichi ys d) (sym e) ∙ once s)
        ∙ ap (λ (ys : List Deed). riichis ys + 1) (sym e))

    few : (b : Bool) → is_hand_start d ≡ b → Few new (hand new)
    few true e =
        first _ (deposits ds) (length (starts ds)) _ (riichis (hand ds)) _ (no_more ds d (start_quiet d e).1) k.few (riichis_most (hand ds)) (λ z. ap riichis (k.none z)) (count true e)
    few false e = by_hand (hand ds) refl e (is_deposit d) refl

    some : (n m : ℕ) → n ≡ m + 1 → n ≡ 0 → ⊥
    some n m e h = omega (arith, e, h)

    zero_then : (n m : ℕ) → n ≡ m + 0 → n ≡ 0 → m ≡ 0
    zero_then n m e h = omega (arith, e, h)

    none : (b : Bool) → is_hand_start d ≡ b → length (starts new) ≡ 0 → hand new ≡ []
    none true e h = absurd (some _ (length (starts ds)) (count true e) h)
    none false e h = shape false e ∙ ap (λ (ys : List Deed). behind ys d) (k.none (zero_then _ (length (starts ds)) (count false e) h))

laid_none : (red : Bool) → Laid red []
unfolding hand
laid_none red = record { fit = refl; few = omega arith; none = λ h. refl }

-- At most 800 deposits lie on the table.
pub few_deposits : (red : Bool) (ds : List Deed) → all_fit red [] ds ≡ true → deposits ds ≤ 800
few_deposits red ds fit = few (deposits ds) (length (starts ds)) (riichis (hand ds)) (kept (Laid red) red [] ds (laid_step red) begun fit).few (riichis_most (hand ds)) (few_hands red ds fit)
  where
    begun : Laid red []
    begun = laid_none red

    few : (n s r : ℕ) → n ≤ 4 * (s - 1) + r → r ≤ 4 → s ≤ 200 → n ≤ 800
    few n s r h i j = omega (arith, h, i, j)
