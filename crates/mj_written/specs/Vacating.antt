-- Seats whose players a stop took away.
use Rattle.std.specs.Prelude.{◌≡◌, ℕ, zero, suc, ◌<◌, List, [], ◌∷◌, ◌++◌, Option, Some, None}
use Rattle.mj_ports.specs.declared.entry.Entry.{Entry}
use Rattle.mj_ports.specs.declared.entry.Entry.TheVariants.{Gone}
use Rattle.mj_ports.specs.declared.answers.Left.{Left}
use Rattle.mj_ports.specs.declared.answers.Left.TheVariants as left
use Rattle.mj_ports.specs.Seats.{Showing}

-- A seat that is present by an author leaves by it.
abbrev pub gone_of : {A : Type 0} → Option ℕ → ℕ → List (Entry A)
gone_of None seat = []
gone_of (Some author) seat = Gone author seat ∷ []

-- The entries once each seat below a number, in order, has left where it is present.
abbrev pub vacated : {A : Type 0} → (List (Entry A) → Showing) → List (Entry A) → ℕ → List (Entry A)
vacated after entries zero = entries
vacated after entries (suc n) = vacated after entries n ++ gone_of ((after (vacated after entries n)).present n) n

-- One seat has left, if it was present; where memory was wanting there is no entry.
abbrev pub Leaves : {A : Type 0} → Left → Option ℕ → ℕ → List (Entry A) → List (Entry A) → Type 0
Leaves left.Gone by seat old new = new ≡ old ++ gone_of by seat
Leaves left.NoMemory by seat old new = new ≡ old

-- All four have; where memory was wanting, those below some number.
abbrev pub Vacates : {A : Type 0} → Left → (List (Entry A) → Showing) → List (Entry A) → List (Entry A) → Type 0
Vacates left.Gone after old new = new ≡ vacated after old 4
Vacates left.NoMemory after old new = (n : ℕ) × (n < 4) × (new ≡ vacated after old n)
