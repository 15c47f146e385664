-- What a fault of a host in memory tells.
use Rattle.std.specs.Prelude.{ℕ}
use Rattle.mj_links.specs.declared.mem_fault.MemFault.{MemFault}
use Rattle.mj_links.specs.declared.mem_fault.FailedCall.{FailedCall}
use Rattle.mj_links.specs.declared.mem_fault.FailedCall.TheVariants.{Open, Accept}

-- the number of a failed call: 255 for an opening, and for an accept that which it was given
abbrev pub call_number : FailedCall → ℕ
call_number Open = 255
call_number (Accept by count) = by

-- the number of a fault
abbrev pub fault_number : MemFault → ℕ
fault_number f = call_number f.call
