-- The rows of a list of answers, one row more from its end on.
use Rattle.std.proofs.Common.{ℕ, ◌≡◌, ◌<◌, ◌+◌, Bool, true, false, List, ◌∷◌, refl, sym, ◌∙◌, ap, arith, suc, length, drop, get_or}
use Rattle.std.proofs.Math.Seq.{drop-cons, drop-length}
use Rattle.mj_yaku.specs.Rows.{no_rows, with_row, rows_from}

-- From the end of the list on there is no row.
pub rows_from-none : (rows : List Bool) → no_rows ≡ rows_from (length rows) (drop (length rows) rows)
unfolding rows_from
rows_from-none rows = rw (drop-length rows) refl

-- The list from a place on is the item there and those after it.
rest_from : (rows : List Bool) (row before : ℕ) (d holds : Bool) → row ≡ before + 1 → before < length rows →
    get_or rows before d ≡ holds → drop before rows ≡ holds ∷ drop row rows
rest_from rows row before d holds next within is =
    let after : suc before ≡ row = omega arith in
    drop-cons rows before d within ∙ ap (λ n. get_or rows before d ∷ drop n rows) after ∙ ap (λ b. b ∷ drop row rows) is

-- The rows from the one before on, where that one holds.
pub rows_from-has : (rows : List Bool) (set row before : ℕ) (d : Bool) → row ≡ before + 1 → before < length rows →
    set ≡ rows_from row (drop row rows) → get_or rows before d ≡ true → with_row set before ≡ rows_from before (drop before rows)
unfolding rows_from
rows_from-has rows set row before d next within gathered holds =
    ap (λ s. with_row s before) gathered
    ∙ ap (λ n. with_row (rows_from n (drop row rows)) before) next
    ∙ sym (ap (rows_from before) (rest_from rows row before d true next within holds))

-- The rows from the one before on, where that one doesn't hold.
pub rows_from-lacks : (rows : List Bool) (set row before : ℕ) (d : Bool) → row ≡ before + 1 → before < length rows →
    set ≡ rows_from row (drop row rows) → get_or rows before d ≡ false → set ≡ rows_from before (drop before rows)
unfolding rows_from
rows_from-lacks rows set row before d next within gathered lacks =
    gathered
    ∙ ap (λ n. rows_from n (drop row rows)) next
    ∙ sym (ap (rows_from before) (rest_from rows row before d false next within lacks))
