-- The window on a deed: one slot for the answer of each seat.
use Rattle.std.specs.Prelude.{ℕ, ◌==◌, ◌&&◌, ◌||◌, Bool, false, not, if◌then◌else◌, List, [], ◌∷◌, Option, Some, None, is_some}
use Rattle.mj_deeds.specs.declared.four.Four.{Four}
use Rattle.mj_deeds.specs.declared.answer.Answer.{Answer}

-- No seat has answered yet.
abbrev pub empty_slots : Four (Option Answer)
empty_slots = record { first = None; second = None; third = None; fourth = None }

-- The slots with the answer of a seat in its slot.
abbrev pub put_at : Four (Option Answer) → ℕ → Answer → Four (Option Answer)
put_at slots seat answer =
    if seat == 0 then record slots { first = Some answer } else
    (if seat == 1 then record slots { second = Some answer } else
    (if seat == 2 then record slots { third = Some answer } else record slots { fourth = Some answer }))

-- The slots with that of a seat empty.
abbrev pub emptied_at : Four (Option Answer) → ℕ → Four (Option Answer)
emptied_at slots seat =
    if seat == 0 then record slots { first = None } else
    (if seat == 1 then record slots { second = None } else
    (if seat == 2 then record slots { third = None } else record slots { fourth = None }))

-- A seat keeps its window open while it is present and has not answered.
abbrev pub is_waited_for : Bool → Option Answer → Bool
is_waited_for present slot = present && not (is_some slot)

-- The window closes once some seat is present and each present seat has answered.
abbrev pub closes : Four (Option Answer) → List Bool → Bool
closes slots (first ∷ second ∷ third ∷ fourth ∷ []) =
    (first || second || third || fourth)
    && not (is_waited_for first slots.first || is_waited_for second slots.second || is_waited_for third slots.third || is_waited_for fourth slots.fourth)
closes slots other = false
