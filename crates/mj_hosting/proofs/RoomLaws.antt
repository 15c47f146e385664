-- For which room a line is.
use Rattle.std.proofs.Common.{◌≡◌, ℕ, ◌<◌, ◌≤◌, Bool, true, false, List, refl, subst, arith}
use Rattle.std.specs.Prelude.{Option, Some, None, codes, nat_lt, if◌then◌else◌, option_and_then}
use Rattle.std.specs.Option.{option_map_or}
use Rattle.std.proofs.lemmas.Bool.{ltb-true}
use Rattle.serde_json.specs.Data.{Data}
use Rattle.serde_json.specs.Find.{get, as_str}
use Rattle.mj_ports.specs.declared.sitting.JoinLine.{JoinLine}
use Rattle.mj_ports.specs.declared.picking.Picked.TheVariants.{BadName}
use Rattle.mj_forms.specs.AnswerForms.{join_of, join_in, value_of, picked_of, picked_in, picked_by, room_by, room_below, room_number}
use Rattle.mj_handlers.specs.Picks.{IsBelow}
use Rattle.mj_hosting.specs.declared.rooms.Rooms.{Rooms}
use Rattle.mj_hosting.specs.declared.rooms.Rooms.TheVariants.{One, Many}
use Rattle.mj_hosting.specs.Plans.{picked_by_join, picked_for_one}
use Rattle.mj_hosting.specs.Rooms.{AreWithin, count_of, handlers_for, picked_for}

below_by : (rooms : ℕ) → 1 ≤ rooms → (room : Option Data) (t : ℕ) → room_by rooms room ≡ Some t → t < rooms
below_by rooms some None t e = omega (arith, some, first t e)
  where
    first : (t : ℕ) → Some 0 ≡ Some t → 0 ≡ t
    first t e = cc
below_by rooms some (Some value) t e = by_number (option_and_then room_number (as_str value)) t e
  where
    by_test : (n : ℕ) (b : Bool) (t : ℕ) → nat_lt n rooms ≡ b → (if b then Some n else None) ≡ Some t → t < rooms
    by_test n true t low e = subst (λ (k : ℕ). k < rooms) (same n t e) (ltb-true n rooms low)
      where
        same : (a b : ℕ) → Some a ≡ Some b → a ≡ b
        same a b e = cc
    by_test n false t low e = absurd (none t e)
      where
        none : (t : ℕ) → ◌≡◌ {A = Option ℕ} None (Some t) → ⊥
        none t e = cc

    by_number : (o : Option ℕ) (t : ℕ) → option_and_then (room_below rooms) o ≡ Some t → t < rooms
    by_number None t e = absurd (none t e)
      where
        none : (t : ℕ) → ◌≡◌ {A = Option ℕ} None (Some t) → ⊥
        none t e = cc
    by_number (Some n) t e = by_test n (nat_lt n rooms) t refl e

picked_below : (rooms : ℕ) (join : Option JoinLine) (room : Option ℕ) → ((t : ℕ) → room ≡ Some t → t < rooms) → IsBelow rooms (picked_by join room)
picked_below rooms None room low = tt
picked_below rooms (Some join) None low = tt
picked_below rooms (Some join) (Some t) low = low t refl

-- It is for one of them or for none.
pub picks_below : (rooms : ℕ) (line : List ℕ) → 1 ≤ rooms → IsBelow rooms (picked_of rooms line)
unfolding picked_of
picks_below rooms line some = by_value (value_of line)
  where
    by_value : (o : Option Data) → IsBelow rooms (option_map_or (picked_in rooms) o BadName)
    by_value None = tt
    by_value (Some value) = picked_below rooms (join_in value) (room_by rooms (get (codes "room") value)) (below_by rooms some (get (codes "room") value))

one_below : (line : List ℕ) → IsBelow 1 (picked_for_one line)
one_below line = by_join (join_of line)
  where
    by_join : (o : Option JoinLine) → IsBelow 1 (picked_by_join o)
    by_join None = tt
    by_join (Some join) = omega arith

pub rooms_below : (rooms : Rooms) (line : List ℕ) → AreWithin rooms → IsBelow (count_of rooms) (picked_for rooms line)
rooms_below One line within = one_below line
rooms_below (Many n) line within = picks_below n line within.0

-- There is one at least, and there are not too many handlers.
pub some_room : (rooms : Rooms) → AreWithin rooms → 1 ≤ count_of rooms
some_room One within = omega arith
some_room (Many n) within = within.0

pub few_handlers : (rooms : Rooms) → AreWithin rooms → handlers_for rooms < 64
few_handlers One within = omega arith
few_handlers (Many n) within = omega (arith, within.1)
