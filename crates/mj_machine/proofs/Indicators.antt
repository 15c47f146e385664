-- The dora by indicators, one further, and the hidden ones.
use Rattle.std.proofs.Common.{◌≡◌, ℕ, ◌+◌, ◌*◌, ◌<◌, ◌≤◌, true, false, cond, List, [], ◌∷◌, ◌++◌, length, take, get_or, ap, sym, ◌∙◌, arith}
use Rattle.std.specs.Prelude.{map, option_to_list, slice_get, sum_by}
use Rattle.std.specs.List.{range_with_len}
use Rattle.std.proofs.lemmas.List.Sums.{sum_by_more, sum_by-cons}
use Rattle.std.proofs.lemmas.List.FromFn.{length-map-range_with_len, map-range_with_len_more}
use Rattle.std.proofs.lemmas.Option.{slice_get-get_or}
use Rattle.mj_tiles.specs.Faces.{kind_of, after_kind}
use Rattle.mj_tiles.specs.Counts.{number_of}
use Rattle.mj_deeds.specs.declared.deed.Deed.{Deed}
use Rattle.mj_deeds.specs.Course.{before_wins}
use Rattle.mj_deeds.specs.Facts.{indicators}
use Rattle.mj_deeds.specs.Riichi.{is_in_riichi}
use Rattle.mj_facts.proofs.WinSteps.{riichi_without, shown_without}
use Rattle.mj_wall.specs.Places.{under_tile}
use Rattle.mj_rules.specs.Wins.{dora_by, unders_of}

-- One indicator further.
pub dora_more : (tiles shown : List ℕ) (place : ℕ) → place < length shown → dora_by (take (place + 1) shown) tiles ≡ dora_by (take place shown) tiles
    + dora_by (option_to_list (slice_get shown place)) tiles
dora_more tiles shown place h =
    sum_by_more by shown place 0 h
    ∙ ap (λ n. sum_by by (take place shown) + n) (one (by (get_or shown place 0)) _ (sum_by-cons by (get_or shown place 0) []))
    ∙ ap (λ o. sum_by by (take place shown) + sum_by by (option_to_list o)) (sym (slice_get-get_or shown place 0 h))
  where
    by : ℕ → ℕ
    by indicator = number_of tiles (after_kind (kind_of indicator))

    one : (n m : ℕ) → m ≡ n + 0 → n ≡ m
    one n m e = omega arith

pub dora_step : (tiles shown : List ℕ) (place dora more : ℕ) → place < length shown → (dora ≡ dora_by (take place shown) tiles) × (dora ≤ 18 * place) →
    more ≡ dora_by (option_to_list (slice_get shown place)) tiles → more ≤ 18 → (dora + more ≡ dora_by (take (place + 1) shown) tiles) × (dora + more ≤ 18 * (place + 1))
dora_step tiles shown place dora more h inv e k = (sum _ _ _ _ _ inv.0 e (dora_more tiles shown place h), most dora more place inv.1 k)
  where
    sum : (a b n m t : ℕ) → a ≡ n → b ≡ m → t ≡ n + m → a + b ≡ t
    sum a b n m t e f g = omega arith

    most : (a b n : ℕ) → a ≤ 18 * n → b ≤ 18 → a + b ≤ 18 * (n + 1)
    most a b n h k = omega arith

-- The hidden indicators of a seat in riichi, and of another.

pub unders_in_riichi : (wall : List ℕ) (hs : List Deed) (seat : ℕ) → is_in_riichi hs seat ≡ true →
    map (under_tile wall) (range_with_len 0 (length (indicators hs))) ≡ unders_of wall (before_wins hs) seat
unders_in_riichi wall hs seat e =
    ap (λ (xs : List ℕ). map (under_tile wall) (range_with_len 0 (length xs))) (sym (shown_without hs))
    ∙ ap (λ b. cond b (map (under_tile wall) (range_with_len 0 (length (indicators (before_wins hs))))) []) (sym (riichi_without hs seat ∙ e))

pub unders_more : (wall : List ℕ) (place x : ℕ) (old new : List ℕ) → old ≡ map (under_tile wall) (range_with_len 0 place) → x ≡ under_tile wall place → new ≡ old ++ x ∷ [] →
    new ≡ map (under_tile wall) (range_with_len 0 (place + 1))
unders_more wall place x old new e f g =
    g ∙ ap (λ (xs : List ℕ). xs ++ x ∷ []) e ∙ ap (λ y. map (under_tile wall) (range_with_len 0 place) ++ y ∷ []) f ∙ sym (map-range_with_len_more (under_tile wall) 0 place place (zero place))
  where
    zero : (n : ℕ) → 0 + n ≡ n
    zero n = omega arith

pub unders_few : (wall : List ℕ) (place all : ℕ) (items : List ℕ) → items ≡ map (under_tile wall) (range_with_len 0 place) → place ≤ all → all ≤ 5 → length items ≤ 5
unders_few wall place all items e h k = few _ place all (ap length e ∙ length-map-range_with_len (under_tile wall) 0 place) h k
  where
    few : (n m a : ℕ) → n ≡ m → m ≤ a → a ≤ 5 → n ≤ 5
    few n m a e h k = omega arith

pub unders_whole : (wall : List ℕ) (hs : List Deed) (seat place all : ℕ) (items : List ℕ) → items ≡ map (under_tile wall) (range_with_len 0 place) →
    place ≤ all → all ≤ place → all ≡ length (indicators hs) →
    is_in_riichi hs seat ≡ true → items ≡ unders_of wall (before_wins hs) seat
unders_whole wall hs seat place all items e h k f r =
    e ∙ ap (λ n. map (under_tile wall) (range_with_len 0 n)) (same place all h k ∙ f) ∙ unders_in_riichi wall hs seat r
  where
    same : (n m : ℕ) → n ≤ m → m ≤ n → n ≡ m
    same n m h k = omega arith

pub unders_of_others : (wall : List ℕ) (hs : List Deed) (seat : ℕ) → is_in_riichi hs seat ≡ false → [] ≡ unders_of wall (before_wins hs) seat
unders_of_others wall hs seat e = ap (λ b. cond b (map (under_tile wall) (range_with_len 0 (length (indicators (before_wins hs))))) []) (sym (riichi_without hs seat ∙ e))
