-- What stands at a place of a list that grows or that is written to, and in the slots of a window.
use Rattle.std.proofs.Common.{◌≡◌, ◌≢◌, ℕ, zero, suc, ◌<◌, ◌≤◌, ◌==◌, Bool, true, false, cond, List, [], ◌∷◌, ◌++◌, length, refl, ap, arith}
use Rattle.std.specs.Prelude.{Option, Some, None, slice_get, slice_set}
use Rattle.std.proofs.lemmas.Option.{slice_get_within}
use Rattle.mj_deeds.specs.declared.four.Four.{Four}
use Rattle.mj_deeds.specs.declared.answer.Answer.{Answer}
use Rattle.mj_deeds.specs.Four.{at_seat}
use Rattle.mj_window.specs.Slots.{empty_slots, put_at}

-- every place but the one after a list has what it had when something is put there
pub slice_get-append_other : {A : Type 0} (xs : List A) (x : A) (i : ℕ) → i ≢ length xs → slice_get (xs ++ x ∷ []) i ≡ slice_get xs i
slice_get-append_other [] x zero h = absurd (h refl)
slice_get-append_other [] x (suc i) h = refl
slice_get-append_other (y ∷ ys) x zero h = refl
slice_get-append_other (y ∷ ys) x (suc i) h = slice_get-append_other ys x i (λ e. h (ap (λ (n : ℕ). suc n) e))

-- a place that is written has what was written
pub slice_get-set_at : {A : Type 0} (xs : List A) (i : ℕ) (x y : A) → slice_get xs i ≡ Some y → slice_get (slice_set xs i x) i ≡ Some x
slice_get-set_at [] i x y h = cc
slice_get-set_at (z ∷ zs) zero x y h = refl
slice_get-set_at (z ∷ zs) (suc i) x y h = slice_get-set_at zs i x y h

-- and every other place has what it had
pub slice_get-set_other : {A : Type 0} (xs : List A) (i j : ℕ) (x : A) → i ≢ j → slice_get (slice_set xs i x) j ≡ slice_get xs j
slice_get-set_other [] i j x h = refl
slice_get-set_other (z ∷ zs) zero zero x h = absurd (h refl)
slice_get-set_other (z ∷ zs) zero (suc j) x h = refl
slice_get-set_other (z ∷ zs) (suc i) zero x h = refl
slice_get-set_other (z ∷ zs) (suc i) (suc j) x h = slice_get-set_other zs i j x (λ e. h (ap (λ (n : ℕ). suc n) e))

-- a list with an item is not empty
pub no_length : {A : Type 0} (x : A) (xs : List A) → (length (x ∷ xs) == 0) ≡ true → ⊥
no_length x xs h = longer (length xs) h
  where
    longer : (n : ℕ) → ((suc n) == 0) ≡ true → ⊥
    longer n h = grind (arith, h)

-- a place after a list has nothing
pub none_behind : {A : Type 0} (xs : List A) (i : ℕ) → length xs ≤ i → slice_get xs i ≡ None
none_behind xs i h = by_item (slice_get xs i) refl
  where
    less : (i n : ℕ) → i < n → n ≤ i → ⊥
    less i n h k = omega arith

    by_item : (o : Option _) → slice_get xs i ≡ o → o ≡ None
    by_item None e = refl
    by_item (Some x) e = absurd (less i (length xs) (slice_get_within xs i x e) h)

-- the slot of a seat has the answer that was put there
pub slot-put_at : (slots : Four (Option Answer)) (seat : ℕ) (answer : Answer) → seat < 4 → at_seat (put_at slots seat answer) seat ≡ Some answer
slot-put_at slots zero answer h = refl
slot-put_at slots (suc zero) answer h = refl
slot-put_at slots (suc (suc zero)) answer h = refl
slot-put_at slots (suc (suc (suc zero))) answer h = refl
slot-put_at slots (suc (suc (suc (suc n)))) answer h = absurd (omega arith)

-- and every other slot what it had
pub slot-put_other : (slots : Four (Option Answer)) (who seat : ℕ) (answer : Answer) → who < 4 → seat < 4 → who ≢ seat → at_seat (put_at slots who answer) seat ≡ at_seat slots seat
slot-put_other slots zero zero answer h k ne = absurd (ne refl)
slot-put_other slots zero (suc zero) answer h k ne = refl
slot-put_other slots zero (suc (suc zero)) answer h k ne = refl
slot-put_other slots zero (suc (suc (suc zero))) answer h k ne = refl
slot-put_other slots zero (suc (suc (suc (suc n)))) answer h k ne = absurd (omega arith)
slot-put_other slots (suc zero) zero answer h k ne = refl
slot-put_other slots (suc zero) (suc zero) answer h k ne = absurd (ne refl)
slot-put_other slots (suc zero) (suc (suc zero)) answer h k ne = refl
slot-put_other slots (suc zero) (suc (suc (suc zero))) answer h k ne = refl
slot-put_other slots (suc zero) (suc (suc (suc (suc n)))) answer h k ne = absurd (omega arith)
slot-put_other slots (suc (suc zero)) zero answer h k ne = refl
slot-put_other slots (suc (suc zero)) (suc zero) answer h k ne = refl
slot-put_other slots (suc (suc zero)) (suc (suc zero)) answer h k ne = absurd (ne refl)
slot-put_other slots (suc (suc zero)) (suc (suc (suc zero))) answer h k ne = refl
slot-put_other slots (suc (suc zero)) (suc (suc (suc (suc n)))) answer h k ne = absurd (omega arith)
slot-put_other slots (suc (suc (suc zero))) zero answer h k ne = refl
slot-put_other slots (suc (suc (suc zero))) (suc zero) answer h k ne = refl
slot-put_other slots (suc (suc (suc zero))) (suc (suc zero)) answer h k ne = refl
slot-put_other slots (suc (suc (suc zero))) (suc (suc (suc zero))) answer h k ne = absurd (ne refl)
slot-put_other slots (suc (suc (suc zero))) (suc (suc (suc (suc n)))) answer h k ne = absurd (omega arith)
slot-put_other slots (suc (suc (suc (suc n)))) seat answer h k ne = absurd (omega arith)

-- empty slots have none
pub slot-empty : (seat : ℕ) → at_seat empty_slots seat ≡ None
slot-empty seat = by_tests (seat == 0) (seat == 1) (seat == 2)
  where
    by_tests : (a b c : Bool) → cond a (empty_slots.first) (cond b empty_slots.second (cond c empty_slots.third empty_slots.fourth)) ≡ None
    by_tests true b c = refl
    by_tests false true c = refl
    by_tests false false true = refl
    by_tests false false false = refl
