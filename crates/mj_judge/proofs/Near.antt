-- The faces that are near a tile stand together in tile order: what is tried of the others is not lawful.
use Rattle.std.proofs.Common.{◌≡◌, ℕ, zero, suc, ◌+◌, ◌-◌, ◌<◌, ◌≤◌, ◌&&◌, Bool, true, false, List, [], ◌∷◌, ◌++◌, map, take, min, refl, subst, arith}
use Rattle.std.specs.Prelude.{nat_le, flat_map, slice_index}
use Rattle.std.proofs.lemmas.Bool.{false_from_ne_true, and_parts, leb-true, agree_below_at}
use Rattle.mj_tiles.specs.Faces.{kind_of, tile_order}
use Rattle.mj_deeds.specs.declared.answer.Pai.TheVariants.{Known}
use Rattle.mj_deeds.specs.declared.answer.Answer.{Answer}
use Rattle.mj_deeds.specs.declared.answer.Answer.TheVariants.{Chi}
use Rattle.mj_deeds.specs.declared.deed.Deed.{Deed}
use Rattle.mj_wall.specs.declared.setting.Rules.{Rules}
use Rattle.mj_rules.specs.Possible.{chis_with}
use Rattle.mj_judge.specs.Inner.Tried.{lawful_among, is_near}
use Rattle.mj_judge.proofs.Tried.{none_added, no_far_chis, no_far_chi, faces_start, face_more, faces_end, mapped_start, mapped_more, mapped_end}

-- A face stands at the place of its kind, or behind by the red fives before it, three at most.
abbrev stands_near : ℕ → Bool
stands_near place = nat_le (kind_of (slice_index tile_order place)) place && nat_le place (kind_of (slice_index tile_order place) + 3)

placed : (place : ℕ) → place < 37 → (kind_of (slice_index tile_order place) ≤ place) × (place ≤ kind_of (slice_index tile_order place) + 3)
unfolding tile_order
placed place low =
    let both = and_parts _ _ (agree_below_at stands_near (λ k. true) 37 place refl low) in
    (leb-true _ _ both.0, leb-true _ _ both.1)

pub far_before : (tile first place : ℕ) → first ≡ kind_of tile - 2 → kind_of tile < 34 → place < first → is_near tile (slice_index tile_order place) ≡ false
far_before tile first place is low before = false_from_ne_true (is_near tile (slice_index tile_order place))
    (λ near. no (kind_of tile) (kind_of (slice_index tile_order place)) first place is low before (placed place (small (kind_of tile) first place is low before)).0
    (leb-true _ _ (and_parts (nat_le (kind_of (slice_index tile_order place)) (kind_of tile + 2)) (nat_le (kind_of tile) (kind_of (slice_index tile_order place) + 2)) near).1))
  where
    small : (kind first place : ℕ) → first ≡ kind - 2 → kind < 34 → place < first → place < 37
    small kind first place e l b = omega (arith, e, l, b)

    no : (kind other first place : ℕ) → first ≡ kind - 2 → kind < 34 → place < first → other ≤ place → kind ≤ other + 2 → ⊥
    no kind other first place e l b s h = omega (arith, e, l, b, s, h)

pub far_after : (tile last place : ℕ) → last ≡ min (kind_of tile + 6) 37 → last ≤ place → place < 37 → is_near tile (slice_index tile_order place) ≡ false
far_after tile last place is behind low = false_from_ne_true (is_near tile (slice_index tile_order place))
    (λ near. no (kind_of tile) (kind_of (slice_index tile_order place)) last place is behind low (placed place low).1
    (leb-true _ _ (and_parts (nat_le (kind_of (slice_index tile_order place)) (kind_of tile + 2)) (nat_le (kind_of tile) (kind_of (slice_index tile_order place) + 2)) near).0))
  where
    no : (kind other last place : ℕ) → last ≡ min (kind + 6) 37 → last ≤ place → place < 37 → place ≤ other + 3 → other ≤ kind + 2 → ⊥
    no kind other last place e b l s h = omega (arith, e, b, l, s, h)

-- From one number on, so many steps.
steps : (P : ℕ → Type 0) (from number : ℕ) → P from → ((i : ℕ) → from ≤ i → i < from + number → P i → P (i + 1)) → P (from + number)
steps P from zero start step = subst P (none from) start
  where
    none : (n : ℕ) → n ≡ n + 0
    none n = omega arith
steps P from (suc number) start step =
    subst P (more from number)
    (step (from + number) (omega arith) (omega arith) (steps P from number start (λ i low high. step i low (omega (arith, high)))))
  where
    more : (n m : ℕ) → n + m + 1 ≡ n + suc m
    more n m = omega arith

-- The first faces, and the last ones, where nothing that is tried of them is lawful.
faces_pass : (rules : Rules) (ds : List Deed) (seat : ℕ) (f : ℕ → List Answer) (from number : ℕ) (old now : List Answer) → from + number ≤ 37 →
    ((i : ℕ) → from ≤ i → i < from + number → lawful_among rules ds seat (f (slice_index tile_order i)) ≡ []) →
    now ≡ old ++ lawful_among rules ds seat (flat_map f (take from tile_order)) → now ≡ old ++ lawful_among rules ds seat (flat_map f (take (from + number) tile_order))
faces_pass rules ds seat f from number old now within none before =
    steps (λ n. now ≡ old ++ lawful_among rules ds seat (flat_map f (take n tile_order))) from number before
    (λ i low high is. face_more rules ds seat f i (slice_index tile_order i) old now now (omega (arith, within, high)) refl is
    (none_added rules ds seat (f (slice_index tile_order i)) now (none i low high)))

mapped_pass : (rules : Rules) (ds : List Deed) (seat : ℕ) (g : ℕ → Answer) (from number : ℕ) (old now : List Answer) → from + number ≤ 37 →
    ((i : ℕ) → from ≤ i → i < from + number → lawful_among rules ds seat (g (slice_index tile_order i) ∷ []) ≡ []) →
    now ≡ old ++ lawful_among rules ds seat (map g (take from tile_order)) → now ≡ old ++ lawful_among rules ds seat (map g (take (from + number) tile_order))
mapped_pass rules ds seat g from number old now within none before =
    steps (λ n. now ≡ old ++ lawful_among rules ds seat (map g (take n tile_order))) from number before
    (λ i low high is. mapped_more rules ds seat g i (slice_index tile_order i) old now now (omega (arith, within, high)) refl is
    (none_added rules ds seat (g (slice_index tile_order i) ∷ []) now (none i low high)))

from_none : (n : ℕ) → 0 + n ≡ n
from_none n = omega arith

to_all : (n : ℕ) → n ≤ 37 → n + (37 - n) ≡ 37
to_all n h = omega (arith, h)

-- The chis, from the first face that may be near the tile.
pub chis_start : (rules : Rules) (ds : List Deed) (seat who tile first : ℕ) (old : List Answer) → first ≤ 37 → ((place : ℕ) → place < first → is_near tile (slice_index tile_order place) ≡ false) →
    old ≡ old ++ lawful_among rules ds seat (flat_map (chis_with seat who tile) (take first tile_order))
chis_start rules ds seat who tile first old within far =
    subst (λ n. old ≡ old ++ lawful_among rules ds seat (flat_map (chis_with seat who tile) (take n tile_order))) (from_none first)
    (faces_pass rules ds seat (chis_with seat who tile) 0 first old old (omega (arith, within))
    (λ i low high. no_far_chis rules ds seat who tile (slice_index tile_order i) (far i (omega (arith, high)))) (faces_start rules ds seat (chis_with seat who tile) old old refl))

-- And up to the last one.
pub chis_end : (rules : Rules) (ds : List Deed) (seat who tile last place : ℕ) (old now : List Answer) → last ≤ place → place ≤ 37 →
    ((i : ℕ) → last ≤ i → i < 37 → is_near tile (slice_index tile_order i) ≡ false) →
    now ≡ old ++ lawful_among rules ds seat (flat_map (chis_with seat who tile) (take place tile_order)) → now ≡ old ++ lawful_among rules ds seat (flat_map (chis_with seat who tile) tile_order)
chis_end rules ds seat who tile last place old now past within far is =
    faces_end rules ds seat (chis_with seat who tile) (place + (37 - place)) old now (omega (arith, within))
    (faces_pass rules ds seat (chis_with seat who tile) place (37 - place) old now (omega (arith, within))
    (λ i low high. no_far_chis rules ds seat who tile (slice_index tile_order i) (far i (omega (arith, past, low)) (omega (arith, high, within)))) is)

-- The chis with one own tile, from the first face on that may be near as the other, and up to the last one.
pub chi_start : (rules : Rules) (ds : List Deed) (seat who tile a first : ℕ) (old : List Answer) → first ≤ 37 → ((place : ℕ) → place < first → is_near tile (slice_index tile_order place) ≡ false) →
    old ≡ old ++ lawful_among rules ds seat (map (λ b. Chi seat who (Known tile) (Known a) (Known b)) (take first tile_order))
chi_start rules ds seat who tile a first old within far =
    let chi : ℕ → Answer = λ b. Chi seat who (Known tile) (Known a) (Known b) in
    subst (λ n. old ≡ old ++ lawful_among rules ds seat (map chi (take n tile_order))) (from_none first)
    (mapped_pass rules ds seat chi 0 first old old (omega (arith, within))
    (λ i low high. no_far_chi rules ds seat who tile a (slice_index tile_order i) (far i (omega (arith, high)))) (mapped_start rules ds seat chi old old refl))

pub chi_end : (rules : Rules) (ds : List Deed) (seat who tile a last place : ℕ) (old now : List Answer) → last ≤ place → place ≤ 37 →
    ((i : ℕ) → last ≤ i → i < 37 → is_near tile (slice_index tile_order i) ≡ false) →
    now ≡ old ++ lawful_among rules ds seat (map (λ b. Chi seat who (Known tile) (Known a) (Known b)) (take place tile_order)) →
    now ≡ old ++ lawful_among rules ds seat (map (λ b. Chi seat who (Known tile) (Known a) (Known b)) tile_order)
chi_end rules ds seat who tile a last place old now past within far is =
    let chi : ℕ → Answer = λ b. Chi seat who (Known tile) (Known a) (Known b) in
    mapped_end rules ds seat chi (place + (37 - place)) old now (omega (arith, within))
    (mapped_pass rules ds seat chi place (37 - place) old now (omega (arith, within))
    (λ i low high. no_far_chi rules ds seat who tile a (slice_index tile_order i) (far i (omega (arith, past, low)) (omega (arith, high, within)))) is)
