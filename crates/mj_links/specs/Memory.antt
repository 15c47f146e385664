-- What objects in memory answer, by the numbers of the calls that are to fail.
use Rattle.std.specs.Prelude.{◌≡◌, ℕ, false, ◌+◌, ◌-◌, ◌^◌, List, length, min, Bool, ◌==◌, if◌then◌else◌}
use Rattle.std.specs.List.{list_any}
use Rattle.mj_links.specs.declared.plan.Plan.{Plan}
use Rattle.mj_links.specs.declared.source.Got.{Got}
use Rattle.mj_links.specs.declared.source.Got.TheVariants.{Bytes, End, Failed}
use Rattle.mj_links.specs.declared.sink.Put.{Put}
use Rattle.mj_links.specs.declared.sink.Put.TheVariants.{Took}
use Rattle.mj_links.specs.declared.sink.Put.TheVariants.{Failed as Refused}

-- whether the list has the number of the next call, where so many were made: calls are counted from 1
abbrev pub has_next : List ℕ → ℕ → Bool
has_next numbers made = list_any (λ n. n == made + 1) numbers

-- whether the next call fails as planned
abbrev pub next_fails : Plan → Bool
next_fails plan = has_next plan.failing.items plan.made

-- a plan in which the calls of these numbers fail, and no call was made yet
pub record IsNewPlan (plan : Plan) (numbers : List ℕ) : Type 0 where
  pub failing : plan.failing.items ≡ numbers
  pub made : plan.made ≡ 0

-- one call more was made; the count stops at the highest number that the list can have
pub record CountsCall (old new : Plan) : Type 0 where
  pub failing : new.failing.items ≡ old.failing.items
  pub made : new.made ≡ min (old.made + 1) (2 ^ 64 - 1)

-- a read from memory fails where its number is in the list; else it gives the end where nothing is left, and as many bytes as fit where something is
abbrev pub mem_read : Bool → List ℕ → ℕ → Got
mem_read fails left room = if fails then Failed else (if length left == 0 then End else Bytes (min room (length left)))

-- a write to memory that isn't to fail takes its whole piece, if memory can be had
abbrev pub TakesWhole : Put → Bool → List ℕ → Type 0
TakesWhole (Took n) fails piece = (fails ≡ false) × (n ≡ length piece)
TakesWhole Refused fails piece = Unit {0}
