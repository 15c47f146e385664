-- A hand that shanten is said of.
use Rattle.std.proofs.Common.{◌≡◌, ℕ, suc, ◌+◌, ◌<◌, ◌≤◌, ◌==◌, ◌&&◌, Bool, true, List, [], ◌∷◌, length, map, get_or, refl, sym, ap, ◌∙◌}
use Rattle.std.specs.Prelude.{count_by, flat_map, nat_le}
use Rattle.std.specs.List.{list_all}
use Rattle.std.proofs.lemmas.Bool.{and_parts, eqb-true, leb-true}
use Rattle.mj_tiles.specs.Counts.{all_kinds}
use Rattle.mj_tiles.specs.declared.meld.Meld.{Meld}
use Rattle.mj_tiles.proofs.EachKind.{each_kind}
use Rattle.mj_readings.specs.declared.reading.Set.{Set}
use Rattle.mj_readings.specs.Sets.{set_of_meld, tiles_of_set}
use Rattle.mj_shanten.specs.Room.{is_meld, IsRoom, IsWithinRoom}
use Rattle.mj_judge.specs.Measured.{is_kind_within, is_measured}

length_of : (melds : List Meld) → length (map set_of_meld melds) ≡ length melds
length_of [] = refl
length_of (meld ∷ melds) = ap (λ n. suc n) (length_of melds)

each_of : (counts room : List ℕ) (sets : List Set) → is_measured counts room sets ≡ true → (kind : ℕ) → kind < 34 →
    (get_or room kind 0 + count_by (λ tile. tile == kind) (flat_map tiles_of_set sets) ≡ 4) × (get_or counts kind 0 ≤ get_or room kind 0)
unfolding is_measured
each_of counts room sets h kind low =
    let both = and_parts (list_all is_meld sets) (list_all (is_kind_within counts room sets) all_kinds) h in
    let parts = and_parts (get_or room kind 0 + count_by (λ tile. tile == kind) (flat_map tiles_of_set sets) == 4) (nat_le (get_or counts kind 0) (get_or room kind 0))
    (each_kind (is_kind_within counts room sets) kind low both.1) in
    (eqb-true _ _ parts.0, leb-true _ _ parts.1)

formed_of : (counts room : List ℕ) (sets : List Set) → is_measured counts room sets ≡ true → list_all is_meld sets ≡ true
unfolding is_measured
formed_of counts room sets h = (and_parts (list_all is_meld sets) (list_all (is_kind_within counts room sets) all_kinds) h).0

-- Its room is that of its melds.
pub room_of : (counts room : List ℕ) (melds : List Meld) (number : ℕ) (measured : Bool) → measured ≡ is_measured counts room (map set_of_meld melds) →
    measured ≡ true → number ≡ length melds → IsRoom room number
room_of counts room melds number measured told so many = record {
  sets = map set_of_meld melds;
  so_many = length_of melds ∙ sym many;
  formed = formed_of counts room (map set_of_meld melds) (sym told ∙ so);
  left = λ kind low. (each_of counts room (map set_of_meld melds) (sym told ∙ so) kind low).0;
}

-- No kind stands more often than its room.
pub within_of : (counts room : List ℕ) (melds : List Meld) (measured : Bool) → measured ≡ is_measured counts room (map set_of_meld melds) → measured ≡ true → IsWithinRoom counts room
within_of counts room melds measured told so = λ kind low. (each_of counts room (map set_of_meld melds) (sym told ∙ so) kind low).1

-- Its melds are sets, one by one.
pub all_sets : (melds : List Meld) → list_all is_meld (map set_of_meld melds) ≡ list_all (λ meld. is_meld (set_of_meld meld)) melds
all_sets [] = refl
all_sets (meld ∷ melds) = ap (λ b. is_meld (set_of_meld meld) && b) (all_sets melds)
