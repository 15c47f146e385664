-- What a write and a sync come to.
use Rattle.std.proofs.Common.{◌≡◌, ℕ, ◌≤◌, List, Option, ◌∙◌, arith}
use Rattle.mj_journal.specs.Disks.{Puts, Secures, PutsThrough, CountsSyncFault}
use Rattle.mj_journal.specs.declared.disk.Wrote.TheVariants.{Whole}
use Rattle.mj_journal.specs.declared.disk.Synced.{Synced}
use Rattle.mj_journal.specs.declared.disk.Synced.TheVariants.{Done, Failed}

pub through : (synced : Synced) (told0 told1 told2 : Option (List ℕ)) (images : List ℕ → Type 0) (place : ℕ) (piece : List ℕ) → Puts Whole told0 told1 place piece
    → told2 ≡ told1 → Secures synced told2 images → PutsThrough synced told0 told2 images place piece
through Done told0 told1 told2 images place piece written same secures = (written.0, same ∙ written.1, secures)
through Failed told0 told1 told2 images place piece written same secures = record {}

pub counts_on : (synced : Synced) (old mid new : ℕ) → old ≤ mid → CountsSyncFault synced mid new → CountsSyncFault synced old new
counts_on Done old mid new le counts = omega (arith, le, counts)
counts_on Failed old mid new le counts = omega (arith, le, counts)
