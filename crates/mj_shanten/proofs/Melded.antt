-- Hands with the meld of the first three kinds.
use Rattle.std.proofs.Common.{ℕ, ◌≡◌, ◌+◌, eqb, true, List, [], ◌∷◌, get_or, sum, replicate, refl, ap, arith, ◌∙◌}
use Rattle.std.specs.Prelude.{count_by, flat_map}
use Rattle.std.proofs.lemmas.Bool.{eqb-true, agree_below_at}
use Rattle.mj_readings.specs.declared.reading.Set.{Set}
use Rattle.mj_readings.specs.declared.reading.SetForm.TheVariants.{Run}
use Rattle.mj_readings.specs.Sets.{begins_run, tiles_of_set}
use Rattle.mj_shanten.specs.Room.{IsRoom, IsHand, IsWithinRoom}

-- four of each kind less the tiles of the meld
abbrev pub beside_a_run : List ℕ
beside_a_run = 3 ∷ 3 ∷ 3 ∷ replicate 31 4

abbrev the_run : List Set
the_run = (let set : Set = record { form = Run; low = 0; shown = true } in set ∷ [])

room_beside : (room : List ℕ) → room ≡ beside_a_run → IsRoom room 1
unfolding begins_run
room_beside room is = record {
  sets = the_run;
  so_many = refl;
  formed = refl;
  left = λ kind low. ap (λ r. get_or r kind 0 + count_by (λ tile. eqb tile kind) (flat_map tiles_of_set the_run)) is
      ∙ eqb-true _ _ (agree_below_at (λ k. eqb (get_or beside_a_run k 0 + count_by (λ tile. eqb tile k) (flat_map tiles_of_set the_run)) 4) (λ k. true) 34 kind refl low);
}

-- ten tiles within the room
pub hand_beside : (counts room : List ℕ) (total : ℕ) → total ≡ sum counts → total ≡ 10 → IsWithinRoom counts room → room ≡ beside_a_run → IsHand counts room 1
hand_beside counts room total all ten within is = record {
  thirteen = omega arith;
  within = within;
  room_is = room_beside room is;
}
