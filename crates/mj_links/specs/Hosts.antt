-- What a host does to its ports and to the links that were given back, and what its faults are.
use Rattle.std.specs.Prelude.{◌≡◌, ◌⊎◌, ℕ, ◌+◌, List, [], ◌∷◌, ◌++◌, Option, None, Some}
use Rattle.std.specs.Io.KnownBytes.{Appends, Keeps}
use Rattle.mj_links.specs.declared.host.Opened.{Opened}
use Rattle.mj_links.specs.declared.host.Opened.TheVariants.{Ready, Failed}
use Rattle.mj_links.specs.declared.host.Came.{Came}
use Rattle.mj_links.specs.declared.host.Came.TheVariants.{Link, Nothing}
use Rattle.mj_links.specs.declared.host.Came.TheVariants.{Failed as CameFailed}
use Rattle.mj_links.specs.declared.host.Given.{Given}
use Rattle.mj_links.specs.declared.host.Given.TheVariants.{Kept, NoMemory}

-- an opened port stands after the ports; after a failure it may
abbrev pub OpensPort : {F : Type 0} → Opened F → Option (List ℕ) → Option (List ℕ) → ℕ → Type 0
OpensPort Ready old new port = Appends old new (port ∷ [])
OpensPort (Failed f) old new port = Appends old new (port ∷ []) ⊎ Keeps old new

-- a failed opening makes a fault of the number 255
abbrev pub OpenFault : {F : Type 0} → (F → Type 0) → (F → ℕ) → Opened F → Type 0
OpenFault made number Ready = Unit {0}
OpenFault made number (Failed f) = made f × (number f ≡ 255)

-- a failed opening is one fault of opening more
abbrev pub CountsOpenFault : {F : Type 0} → Opened F → ℕ → ℕ → Type 0
CountsOpenFault Ready old new = new ≡ old
CountsOpenFault (Failed f) old new = new ≡ old + 1

-- where a text is known, it is empty
abbrev pub IsEmpty : Option (List ℕ) → Type 0
IsEmpty None = Unit {0}
IsEmpty (Some xs) = xs ≡ []

-- nothing was read from a link and nothing is written on it, and it met no fault
pub record IsFresh (read written : Option (List ℕ)) (read_faults write_faults : ℕ) : Type 0 where
  pub unread : IsEmpty read
  pub unwritten : IsEmpty written
  pub no_read_fault : read_faults ≡ 0
  pub no_write_fault : write_faults ≡ 0

-- a link that comes is fresh
abbrev pub ComesFresh : {L F : Type 0} → (L → Option (List ℕ)) → (L → Option (List ℕ)) → (L → ℕ) → (L → ℕ) → Came L F → Type 0
ComesFresh read written read_faults write_faults (Link l) = IsFresh (read l) (written l) (read_faults l) (write_faults l)
ComesFresh read written read_faults write_faults Nothing = Unit {0}
ComesFresh read written read_faults write_faults (CameFailed f) = Unit {0}

-- a failed accept makes a fault of the number that it was given
abbrev pub CameFault : {L F : Type 0} → (F → Type 0) → (F → ℕ) → ℕ → Came L F → Type 0
CameFault made number by (Link l) = Unit {0}
CameFault made number by Nothing = Unit {0}
CameFault made number by (CameFailed f) = made f × (number f ≡ by)

-- the link and its place stand after those that were returned; where memory was wanting these are as before
abbrev pub GivesBack : {L : Type 0} → Given → Option (List (L × ℕ)) → Option (List (L × ℕ)) → L × ℕ → Type 0
GivesBack Kept None new back = Unit {0}
GivesBack Kept (Some xs) None back = ⊥
GivesBack Kept (Some xs) (Some ys) back = ys ≡ xs ++ back ∷ []
GivesBack NoMemory old new back = new ≡ old
