-- Which seat a join takes: the next one, or one that is held.
use Rattle.std.proofs.Common.{◌≡◌, ℕ, suc, ◌+◌, ◌==◌, ◌≤◌, Bool, true, false, List, [], ◌∷◌, length, map, refl, ap, sym, ◌∙◌, subst, arith}
use Rattle.std.specs.Prelude.{Option, Some, None, slice_get, not, nat_le, if◌then◌else◌}
use Rattle.std.specs.Option.{option_map_or}
use Rattle.mj_ports.specs.declared.sitting.JoinLine.{JoinLine}
use Rattle.mj_ports.specs.declared.sitting.SitRefused.TheVariants.{Full, NameTaken, WrongKey, TooOften, Over}
use Rattle.mj_seating.specs.declared.desk.Placed.{Placed}
use Rattle.mj_seating.specs.declared.desk.Placed.TheVariants as places
use Rattle.mj_seating.specs.Sitting.{Occupant, is_named, is_key, back, at_held, placed_from, placed}
use Rattle.mj_forms.specs.AnswerForms.{join_of}
use Rattle.mj_history.specs.After.{After, Chair}
use Rattle.mj_history.specs.Legal.{is_over, can_return}
use Rattle.mj_history.specs.Sitting.{held_of, placing, entries_of_placing}
use Rattle.mj_wall.specs.declared.setting.Setting.{Setting}
use Rattle.mj_history.proofs.Legality.{MayAdd, placing-may, join_of-named}

-- what a place says of the number of seats after a number: a new seat is the next one, and there are not four yet
abbrev IsNext : ℕ → Placed → Type 0
IsNext n (places.Sat seat) = (seat ≡ n) × ((n == 4) ≡ false)
IsNext n (places.Back seat) = Unit {0}
IsNext n (places.Refused why) = Unit {0}

held-next : (n number : ℕ) (held : Occupant) (said : Option (List ℕ)) → IsNext n (at_held number held said)
held-next n number held said = by_present held.present held.key
  where
    by_tests : (other_key often : Bool) → IsNext n (if other_key then places.Refused WrongKey else (if often then places.Refused TooOften else places.Back number))
    by_tests true often = tt
    by_tests false true = tt
    by_tests false false = tt

    by_present : (b : Bool) (key : Option (List ℕ)) → IsNext n (if b then places.Refused NameTaken else back number held.returns key said)
    by_present true key = tt
    by_present false None = tt
    by_present false (Some key) = by_tests (not (is_key key said)) (nat_le 64 held.returns)

next-from : (number : ℕ) (held : List Occupant) (join : JoinLine) → IsNext (number + length held) (placed_from number held join)
next-from number [] join = by_count (number == 4) refl
  where
    none_more : (n : ℕ) → n ≡ n + 0
    none_more n = omega arith

    by_count : (b : Bool) → (number == 4) ≡ b → IsNext (number + 0) (if b then places.Refused Full else places.Sat number)
    by_count true e = tt
    by_count false e = (none_more number, ap (λ n. n == 4) (sym (none_more number)) ∙ e)
next-from number (one ∷ others) join = by_name (is_named join.name one) (next-from (number + 1) others join)
  where
    longer : (n m : ℕ) → n + 1 + m ≡ n + suc m
    longer n m = omega arith

    by_name : (b : Bool) → IsNext (number + 1 + length others) (placed_from (number + 1) others join) →
        IsNext (number + suc (length others)) (if b then at_held number one join.key else placed_from (number + 1) others join)
    by_name true h = held-next (number + suc (length others)) number one join.key
    by_name false h = subst (λ (n : ℕ). IsNext n (placed_from (number + 1) others join)) (longer number (length others)) h

next-placed : (held : List Occupant) (join : JoinLine) → IsNext (length held) (placed held join)
unfolding placed
next-placed held join = subst (λ (n : ℕ). IsNext n (placed_from 0 held join)) (none_before (length held)) (next-from 0 held join)
  where
    none_before : (n : ℕ) → 0 + n ≡ n
    none_before n = omega arith

length-held : (chairs : List Chair) → length (map held_of chairs) ≡ length chairs
length-held [] = refl
length-held (chair ∷ chairs) = ap suc (length-held chairs)

placing-next : (now : After) (join : Option JoinLine) → IsNext (length now.chairs) (placing now join)
unfolding placing
placing-next now None = tt
placing-next now (Some join) = by_end (is_over now.deeds)
  where
    by_end : (b : Bool) → IsNext (length now.chairs) (if b then places.Refused Over else placed (map held_of now.chairs) join)
    by_end true = tt
    by_end false = subst (λ (n : ℕ). IsNext n (placed (map held_of now.chairs) join)) (length-held now.chairs) (next-placed (map held_of now.chairs) join)

-- a seat that is taken is the next one
pub sat-next : (now : After) (join : Option JoinLine) (seat : ℕ) → placing now join ≡ places.Sat seat → (seat ≡ length now.chairs) × ((length now.chairs == 4) ≡ false)
sat-next now join seat h = subst (IsNext (length now.chairs)) h (placing-next now join)

-- a seat that is taken back is held
held_at : (o : Option Chair) (f : Chair → Bool) → option_map_or f o false ≡ true → (chair : Chair) × (o ≡ Some chair)
held_at None f h = cc h
held_at (Some chair) f h = (chair, refl)

back-by : (setting : Setting) (now : After) (join : Option JoinLine) (seat : ℕ) → placing now join ≡ places.Back seat →
    MayAdd setting now (entries_of_placing 1 join (placing now join)) → (chair : Chair) × (slice_get now.chairs seat ≡ Some chair)
unfolding placing
back-by setting now None seat h may = cc h
back-by setting now (Some join) seat h may =
    held_at (slice_get now.chairs seat) (can_return now) (subst (λ (place : Placed). MayAdd setting now (entries_of_placing 1 (Some join) place)) h may)

pub back-held : (setting : Setting) (now : After) (text : List ℕ) (seat : ℕ) → length now.chairs ≤ 4 → placing now (join_of text) ≡ places.Back seat →
    (chair : Chair) × (slice_get now.chairs seat ≡ Some chair)
back-held setting now text seat few h = back-by setting now (join_of text) seat h (placing-may setting now 1 (join_of text) (join_of-named text) few)
