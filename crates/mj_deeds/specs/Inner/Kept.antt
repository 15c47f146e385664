-- Where a list keeps its items.
use Rattle.std.specs.Prelude.{ℕ, ◌<◌, List, length}
use Rattle.mj_deeds.specs.declared.small_list.Kept.{Kept}
use Rattle.mj_deeds.specs.declared.small_list.Kept.TheVariants.{Few, Many}

-- The items of a list, few without memory or many with some.
abbrev pub items_of : {T : Type 0} → {N : ℕ} → Kept T N → List T
items_of (Few items) = items
items_of (Many many) = many.value.items

-- There is room for one item more: fewer than `N` and 255 stand without memory, or all with some.
abbrev pub HasRoom : {T : Type 0} → {N : ℕ} → Kept T N → Type 0
HasRoom {T} {N} (Few items) = (length items < N) × (length items < 255)
HasRoom {T} {N} (Many many) = Unit {0}
