-- The lines of deeds for a seat, as deeds come: a line stays as it is, and there are as many as deeds.
use Rattle.std.proofs.Common.{◌≡◌, ℕ, zero, suc, ◌<◌, ◌≤◌, List, [], ◌∷◌, ◌++◌, length, refl, ap, ◌∙◌, sym, arith, append-nil, append_assoc}
use Rattle.std.specs.Prelude.{Option, unwrap_or, slice_get}
use Rattle.std.proofs.lemmas.Option.{slice_get_past}
use Rattle.mj_deeds.specs.declared.deed.Deed.{Deed}
use Rattle.mj_wall.specs.declared.setting.Rules.{Rules}
use Rattle.mj_history.specs.SeatLines.{seat_line, lines_from, lines_for}
use Rattle.mj_history.specs.Shown.{line_at}

-- The lines of further deeds come after those of the deeds before.
pub lines_from-append : (rules : Rules) (seat : ℕ) (before deeds more : List Deed) →
    lines_from rules seat before (deeds ++ more) ≡ lines_from rules seat before deeds ++ lines_from rules seat (before ++ deeds) more
lines_from-append rules seat before [] more = ap (λ (ds : List Deed). lines_from rules seat ds more) (sym (append-nil before))
lines_from-append rules seat before (deed ∷ deeds) more =
    ap (λ (ls : List (List ℕ)). seat_line rules (before ++ deed ∷ []) seat deed ∷ ls)
    (lines_from-append rules seat (before ++ deed ∷ []) deeds more
    ∙ ap (λ (ds : List Deed). lines_from rules seat (before ++ deed ∷ []) deeds ++ lines_from rules seat ds more) (append_assoc before (deed ∷ []) deeds))

-- A deed more has one line more, with what the seat may answer to it.
pub lines_for-more : (rules : Rules) (seat : ℕ) (deeds : List Deed) (deed : Deed) →
    lines_for rules seat (deeds ++ deed ∷ []) ≡ lines_for rules seat deeds ++ seat_line rules (deeds ++ deed ∷ []) seat deed ∷ []
lines_for-more rules seat deeds deed = lines_from-append rules seat [] deeds (deed ∷ [])

length-from : (rules : Rules) (seat : ℕ) (before deeds : List Deed) → length (lines_from rules seat before deeds) ≡ length deeds
length-from rules seat before [] = refl
length-from rules seat before (deed ∷ deeds) = ap suc (length-from rules seat (before ++ deed ∷ []) deeds)

pub length-lines : (rules : Rules) (seat : ℕ) (deeds : List Deed) → length (lines_for rules seat deeds) ≡ length deeds
length-lines rules seat deeds = length-from rules seat [] deeds

front : (xs ys : List (List ℕ)) (k : ℕ) → k < length xs → slice_get (xs ++ ys) k ≡ slice_get xs k
front [] ys k h = absurd (omega (arith, h))
front (x ∷ xs) ys zero h = refl
front (x ∷ xs) ys (suc k) h = front xs ys k (omega (arith, h))

-- The line of a deed is that of the deeds up to it, whatever comes after.
pub line_kept : (rules : Rules) (seat k : ℕ) (deeds more : List Deed) → k < length deeds → line_at rules (deeds ++ more) seat k ≡ line_at rules deeds seat k
line_kept rules seat k deeds more h =
    ap (λ (ls : List (List ℕ)). unwrap_or (slice_get ls k) []) (lines_from-append rules seat [] deeds more)
    ∙ ap (λ (o : Option (List ℕ)). unwrap_or o []) (front (lines_for rules seat deeds) (lines_from rules seat deeds more) k
    (within (length (lines_for rules seat deeds)) (length deeds) (length-lines rules seat deeds) h))
  where
    within : (n m : ℕ) → n ≡ m → k < m → k < n
    within n m e h = omega (arith, e, h)

-- After the last deed there is no line.
pub no_line_behind : (rules : Rules) (seat k : ℕ) (deeds : List Deed) → length deeds ≤ k → line_at rules deeds seat k ≡ []
no_line_behind rules seat k deeds h =
    ap (λ (o : Option (List ℕ)). unwrap_or o []) (slice_get_past (lines_for rules seat deeds) k (behind (length (lines_for rules seat deeds)) (length deeds) (length-lines rules seat deeds) h))
  where
    behind : (n m : ℕ) → n ≡ m → m ≤ k → n ≤ k
    behind n m e h = omega (arith, e, h)
