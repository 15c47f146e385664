-- The hands that a page says: how many concealed tiles of each kind, and the melds.
use Rattle.std.specs.Prelude.{ℕ, ◌≡◌, ◌+◌, ◌-◌, ◌*◌, ◌==◌, ◌&&◌, Bool, true, nat_le, if◌then◌else◌, List, flat_map, count_by, length, map, slice_index, sum}
use Rattle.std.specs.List.{list_all}
use Rattle.mj_tiles.specs.Counts.{all_kinds}
use Rattle.mj_readings.specs.declared.reading.Set.{Set}
use Rattle.mj_readings.specs.declared.reading.SetForm.{SetForm}
use Rattle.mj_readings.specs.declared.reading.SetForm.TheVariants.{Run, Triplet, Kan}
use Rattle.mj_readings.specs.Sets.{tiles_of_set}
use Rattle.mj_shanten.specs.Room.{is_meld}
use Rattle.mj_page.specs.declared.melds.Meld.{Meld}
use Rattle.mj_page.specs.declared.hand.Hand.{Hand}

-- The form that a number names.
abbrev pub form_of : ℕ → SetForm
form_of number = if number == 0 then Run else (if number == 1 then Triplet else Kan)

abbrev pub set_of : Meld → Set
set_of meld = record { form = form_of meld.form; low = meld.low; shown = true }

-- A meld is a run, a triplet or a kan of the 34 kinds.
abbrev pub is_set : Meld → Bool
is_set meld = is_meld (set_of meld)

-- How often a kind stands in melds.
abbrev pub melded : List Meld → ℕ → ℕ
melded melds kind = count_by (λ tile. tile == kind) (flat_map tiles_of_set (map set_of melds))

-- A kind stands four times at most.
abbrev pub is_few : List ℕ → List Meld → ℕ → Bool
is_few held melds kind = nat_le (slice_index held kind + melded melds kind) 4

abbrev pub is_within : List ℕ → List Meld → Bool
is_within held melds = list_all (is_few held melds) all_kinds

-- There are numbers of the 34 kinds, and at most four melds, each of which is a set, and no kind stands more than four times.
abbrev pub is_hand : List ℕ → List Meld → Bool
is_hand held melds = nat_le (length melds) 4 && ((length held == 34) && (list_all is_set melds && is_within held melds))

-- The room that melds leave: four of each kind less their tiles.
abbrev pub left_by : List Meld → List ℕ
left_by melds = map (λ kind. 4 - melded melds kind) all_kinds

-- A hand is the one that is said.
pub record Says (hand : Hand) (held : List ℕ) (melds : List Meld) : Type 0 where
  pub is : is_hand held melds ≡ true
  pub counts : hand.counts ≡ held
  pub room : hand.room ≡ left_by melds
  pub number : hand.melds ≡ length melds

-- The hand has so many tiles, with three for each meld.
abbrev pub has_tiles : List ℕ → List Meld → ℕ → Bool
has_tiles held melds tiles = is_hand held melds && (sum held + 3 * length melds == tiles)
