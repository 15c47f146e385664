-- What a host in memory tells, and which faults it makes.
use Rattle.std.specs.Prelude.{◌≡◌, ◌⊎◌, ℕ, ◌<◌, Bool, true, false, List, [], ◌∷◌, ◌++◌, ◌==◌}
use Rattle.std.specs.List.{list_any}
use Rattle.mj_links.specs.declared.host.Opened.{Opened}
use Rattle.mj_links.specs.declared.host.Opened.TheVariants.{Ready, Failed}
use Rattle.mj_links.specs.declared.mem_fault.MemFault.{MemFault}
use Rattle.mj_links.specs.declared.mem_fault.FailedCall.{FailedCall}
use Rattle.mj_links.specs.declared.mem_fault.FailedCall.TheVariants.{Open, Accept}
use Rattle.mj_links.specs.declared.mem_link.MemLink.{MemLink}
use Rattle.mj_links.specs.declared.mem_host.MemHost.{MemHost}

-- the ports that were to be opened, oldest first
abbrev pub host_ports : MemHost → List ℕ
host_ports h = h.ports.items

-- the links that were given back, each with its connection's place, oldest first
abbrev pub host_returned : MemHost → List (MemLink × ℕ)
host_returned h = h.returned.items

-- whether its openings fail as planned
abbrev pub host_open_fails : MemHost → Bool
host_open_fails h = h.open_fails

-- the numbers of the accepts that fail
abbrev pub host_accepts : MemHost → List ℕ
host_accepts h = h.accepts.items

-- how many openings failed
abbrev pub failed_openings : MemHost → ℕ
failed_openings h = h.failed.count

-- a failed opening took place, or the failed accept is one of those that are to fail
abbrev pub IsCallThatFails : ℕ → List ℕ → FailedCall → Type 0
IsCallThatFails openings accepts Open = 0 < openings
IsCallThatFails openings accepts (Accept by count) = list_any (λ n. n == count) accepts ≡ true

-- a fault is made by a failed call of the host
abbrev pub IsMadeBy : MemHost → MemFault → Type 0
IsMadeBy h f = IsCallThatFails (failed_openings h) (host_accepts h) f.call

-- an opening puts its port after the ports, also where it fails as planned; one for which memory was wanting fails and leaves the ports as they were
abbrev pub OpensAsPlanned : {F : Type 0} → Opened F → Bool → List ℕ → List ℕ → ℕ → Type 0
OpensAsPlanned Ready fails old new port = (fails ≡ false) × (new ≡ old ++ port ∷ [])
OpensAsPlanned (Failed f) fails old new port = ((fails ≡ true) × (new ≡ old ++ port ∷ [])) ⊎ (new ≡ old)

-- which openings and accepts fail stays the same
pub record KeepsPlan (old new : MemHost) : Type 0 where
  pub openings : new.open_fails ≡ old.open_fails
  pub accepts : new.accepts.items ≡ old.accepts.items
