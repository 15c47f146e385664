-- Points and deposits, read off a list of deeds.
use Rattle.std.specs.Prelude.{ℕ, ◌==◌, Bool, true, false, if◌then◌else◌, List, [], ◌∷◌, fold, count_by, ℤ, pos, neg_ℤ, ◌+ℤ◌}
use Rattle.std.specs.List.{list_any, slice_index_or}
use Rattle.mj_deeds.specs.declared.deed.Deed.{Deed}
use Rattle.mj_deeds.specs.declared.deed.Deed.TheVariants.{ReachAccepted, Win, DrawnHand}

-- What a seat gains by a deed, or pays where it is negative: 1,000 points are laid down where a reach is accepted, and a win
-- and a hand that is drawn say what each seat gains.
abbrev pub change_by : ℕ → Deed → ℤ
change_by seat (ReachAccepted who points bid) = if who == seat then neg_ℤ (pos 1000) else pos 0
change_by seat (Win who target tile unders hand yaku fu han value deltas points rest) = slice_index_or deltas seat (pos 0)
change_by seat (DrawnHand reason hands ready deltas points) = slice_index_or deltas seat (pos 0)
change_by seat other = pos 0

-- The points of a seat: all start with 30,000, and each deed changes them.
abbrev pub points_of : List Deed → ℕ → ℤ
points_of deeds seat = fold (λ points deed. points +ℤ change_by seat deed) (pos 30000) deeds

-- The points of the four seats, in order.
abbrev pub points : List Deed → List ℤ
points deeds = points_of deeds 0 ∷ points_of deeds 1 ∷ points_of deeds 2 ∷ points_of deeds 3 ∷ []

-- The points of the four seats after a deed, of those before it.
abbrev pub changed : List ℤ → Deed → List ℤ
changed before deed =
    (slice_index_or before 0 (pos 0) +ℤ change_by 0 deed) ∷ (slice_index_or before 1 (pos 0) +ℤ change_by 1 deed)
    ∷ (slice_index_or before 2 (pos 0) +ℤ change_by 2 deed) ∷ (slice_index_or before 3 (pos 0) +ℤ change_by 3 deed) ∷ []

-- A deed lays a deposit on the table: where a reach is accepted.
abbrev pub is_deposit : Deed → Bool
is_deposit (ReachAccepted who points bid) = true
is_deposit other = false

-- A win takes all deposits.
abbrev pub is_win : Deed → Bool
is_win (Win who target tile unders hand yaku fu han value deltas points rest) = true
is_win other = false

-- Of a list what stands after the last one that passes a test; all of it where none does.
abbrev pub behind_last : {A : Type 0} → (A → Bool) → List A → List A
behind_last test [] = []
behind_last test (x ∷ xs) = if list_any test (x ∷ xs) then behind_last test xs else x ∷ xs

-- How many deposits lie on the table: those that were laid down since the last win.
abbrev pub deposits : List Deed → ℕ
deposits deeds = count_by is_deposit (behind_last is_win deeds)
