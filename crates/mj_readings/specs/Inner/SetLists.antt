-- Lists of sets that take no memory: four places, of which the first are the sets and the others are blank.
use Rattle.std.specs.Prelude.{ℕ, List, false}
use Rattle.mj_lists.specs.Padded.{padded, IsPadded}
use Rattle.mj_readings.specs.declared.reading.Set.{Set}
use Rattle.mj_readings.specs.declared.reading.SetForm.TheVariants.{Run}

-- What stands in a place without a set.
abbrev pub no_set : Set
no_set = record { form = Run; low = 0; shown = false }

abbrev pub filled : List Set → List Set
filled sets = padded 4 no_set sets

-- Four places of which the first hold so many sets and the others are blank.
abbrev pub HasRoom : List Set → ℕ → Type 0
HasRoom items count = IsPadded 4 no_set items count
