-- What holds of the hands that a page says.
use Rattle.std.proofs.Common.{◌≡◌, ℕ, suc, ◌+◌, ◌-◌, ◌<◌, ◌≤◌, ◌==◌, ◌&&◌, true, List, [], ◌∷◌, length, map, get_or, refl, sym, ap, ◌∙◌, arith, inl, inr}
use Rattle.std.specs.Prelude.{nat_le}
use Rattle.std.specs.List.{list_all, range_with_len}
use Rattle.std.proofs.lemmas.Bool.{and_parts, eqb-true, leb-true, cases_lt}
use Rattle.std.proofs.lemmas.List.{get_or_past}
use Rattle.std.proofs.lemmas.List.FromFn.{length-map-range_with_len, get_or-map-range_with_len}
use Rattle.std.proofs.lemmas.Grind.{same_number_lists}
use Rattle.mj_tiles.specs.Counts.{all_kinds, NoFifth}
use Rattle.mj_tiles.proofs.EachKind.{each_kind}
use Rattle.mj_shanten.specs.Room.{is_meld, IsRoom, IsWithinRoom}
use Rattle.mj_page.specs.declared.melds.Meld.{Meld}
use Rattle.mj_page.specs.Hands.{set_of, is_set, melded, is_few, is_within, is_hand, left_by}

pub left_each : (melds : List Meld) (kind : ℕ) → kind < 34 → get_or (left_by melds) kind 0 ≡ 4 - melded melds kind
unfolding all_kinds
left_each melds kind low = get_or-map-range_with_len (λ k. 4 - melded melds k) 0 34 kind kind 0 (omega arith) (omega arith)

pub left_is : (melds : List Meld) (room : List ℕ) (number : ℕ) → length room ≡ 34 → 34 ≤ number → ((k : ℕ) → k < number → get_or room k 0 ≡ 4 - melded melds k) → room ≡ left_by melds
unfolding all_kinds
left_is melds room number size last each =
    let f : ℕ → ℕ = λ k. 4 - melded melds k in
    same_number_lists room (map f (range_with_len 0 34)) (size ∙ sym (length-map-range_with_len f 0 34))
    (λ k inside. each k (omega arith) ∙ sym (get_or-map-range_with_len f 0 34 k k 0 (omega arith) (omega arith)))

-- ---- the parts of the test

module _ (held : List ℕ) (melds : List Meld) (is : is_hand held melds ≡ true) where
  abbrev first : (nat_le (length melds) 4 ≡ true) × (((length held == 34) && (list_all is_set melds && is_within held melds)) ≡ true)
  first = and_parts (nat_le (length melds) 4) ((length held == 34) && (list_all is_set melds && is_within held melds)) is

  abbrev second : ((length held == 34) ≡ true) × ((list_all is_set melds && is_within held melds) ≡ true)
  second = and_parts (length held == 34) (list_all is_set melds && is_within held melds) first.1

  abbrev third : (list_all is_set melds ≡ true) × (is_within held melds ≡ true)
  third = and_parts (list_all is_set melds) (is_within held melds) second.1

  pub four_melds : length melds ≤ 4
  four_melds = leb-true (length melds) 4 first.0

  pub size_of : length held ≡ 34
  size_of = eqb-true (length held) 34 second.0

  pub sets_of : list_all is_set melds ≡ true
  sets_of = third.0

  pub each_few : (kind : ℕ) → kind < 34 → get_or held kind 0 + melded melds kind ≤ 4
  each_few kind low = leb-true (get_or held kind 0 + melded melds kind) 4 (each_kind (is_few held melds) kind low third.1)

  pub few_of : NoFifth held
  few_of kind = elim (cases_lt kind 34) [
    | inl low ↦ (let few = each_few kind low in omega arith)
    | inr high ↦ (let none : get_or held kind 0 ≡ 0 = get_or_past held kind 0 (let size = size_of in omega arith) in omega arith)
  ]

-- ---- the room

length_of : (melds : List Meld) → length (map set_of melds) ≡ length melds
length_of [] = refl
length_of (meld ∷ melds) = ap (λ n. suc n) (length_of melds)

all_sets : (melds : List Meld) → list_all is_meld (map set_of melds) ≡ list_all is_set melds
all_sets [] = refl
all_sets (meld ∷ melds) = ap (λ b. is_set meld && b) (all_sets melds)

pub room_of : (held : List ℕ) (melds : List Meld) → is_hand held melds ≡ true → IsRoom (left_by melds) (length melds)
room_of held melds is = record {
  sets = map set_of melds;
  so_many = length_of melds;
  formed = all_sets melds ∙ sets_of held melds is;
  left = λ kind low. (let left = left_each melds kind low in let few = each_few held melds is kind low in omega arith);
}

pub within_of : (held : List ℕ) (melds : List Meld) → is_hand held melds ≡ true → IsWithinRoom held (left_by melds)
within_of held melds is kind low = (let left = left_each melds kind low in let few = each_few held melds is kind low in omega arith)
