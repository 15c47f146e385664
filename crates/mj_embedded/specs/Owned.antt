-- What a pointer to a game owns.
use Rattle.std.specs.Prelude.{Option, None, Some}
use base.Fml.{Fml, ftrue}
use denote.RawPtr.{Ptr}
use denote.RattleType.{RattleType}
use Rattle.libc.specs.Heap.{chunk}
use Rattle.std_alloc.specs.Box.Ownership.{box_owns}

-- A value stands on the heap behind the pointer, and its place may be given back.
abbrev pub loose_owns : (R : RattleType) → Ptr → R.Denot → Fml
loose_owns R p x = box_owns chunk R p x

-- Where there is a value, it stands so; where there is none, nothing is owned.
abbrev pub held_owns : (R : RattleType) → Ptr → Option R.Denot → Fml
held_owns R p None = ftrue
held_owns R p (Some x) = loose_owns R p x
