-- The room that the melds of a hand leave for its concealed tiles.
use Rattle.std.specs.Prelude.{ℕ, ◌≡◌, ◌+◌, ◌*◌, ◌<◌, ◌≤◌, ◌==◌, Bool, nat_lt, List, length, slice_index, count_by, flat_map, sum, IsTrue}
use Rattle.std.specs.List.{list_all}
use Rattle.mj_readings.specs.declared.reading.Set.{Set}
use Rattle.mj_readings.specs.declared.reading.SetForm.{SetForm}
use Rattle.mj_readings.specs.declared.reading.SetForm.TheVariants.{Run, Triplet, Kan}
use Rattle.mj_readings.specs.Sets.{begins_run, tiles_of_set}

-- A meld is three neighbouring kinds of one suit, or three or four tiles of one kind.
abbrev pub is_meld_form : SetForm → ℕ → Bool
is_meld_form Run low = begins_run low
is_meld_form Triplet low = nat_lt low 34
is_meld_form Kan low = nat_lt low 34

abbrev pub is_meld : Set → Bool
is_meld set = is_meld_form set.form set.low

-- The room is four of each kind less the tiles of some list of so many melds, in which no kind stands more than four times.
pub record IsRoom (room : List ℕ) (melds : ℕ) : Type 0 where
  pub sets : List Set
  pub so_many : length sets ≡ melds
  pub formed : IsTrue (list_all is_meld sets)
  pub left : (kind : ℕ) → kind < 34 → slice_index room kind + count_by (λ tile. tile == kind) (flat_map tiles_of_set sets) ≡ 4

-- No kind stands more often than its room.
abbrev pub IsWithinRoom : List ℕ → List ℕ → Type 0
IsWithinRoom counts room = (kind : ℕ) → kind < 34 → slice_index counts kind ≤ slice_index room kind

-- A hand to be measured: with three tiles for each meld it has thirteen, and no kind stands more often than the room that its melds leave.
pub record IsHand (counts room : List ℕ) (melds : ℕ) : Type 0 where
  pub thirteen : sum counts + 3 * melds ≡ 13
  pub within : IsWithinRoom counts room
  pub room_is : IsRoom room melds
