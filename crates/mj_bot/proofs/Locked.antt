-- A seat in riichi discards the tile that it has drawn, and no other.
use Rattle.std.proofs.Common.{◌≡◌, ℕ, ◌-◌, ◌<◌, ◌≤◌, ◌==◌, ◌&&◌, ◌||◌, not, inr, Bool, true, false, cond, eqb, List, [], ◌∷◌, length, get_or, Option, Some, None, refl, sym, ap, ◌∙◌, subst, arith}
use Rattle.std.specs.Prelude.{filter, map, slice_get, MatchBool}
use Rattle.std.specs.List.{list_all}
use Rattle.std.proofs.lemmas.Bool.{and_parts, and_from, eqb-true, eq-eqb, true≢false, false≢true}
use Rattle.std.proofs.lemmas.List.{length-set}
use Rattle.std.proofs.lemmas.List.FromFn.{length-map-range_with_len}
use Rattle.mj_tiles.specs.Faces.{kind_of, tile_order}
use Rattle.mj_tiles.specs.Counts.{all_kinds, kind_counts, number_of, room_beside}
use Rattle.mj_tiles.specs.Kinds.{set_of}
use Rattle.mj_tiles.proofs.CountSteps.{length-kind_counts}
use Rattle.mj_calls.specs.Bans.{is_banned}
use Rattle.mj_readings.specs.Sets.{set_of_meld}
use Rattle.mj_suits.specs.Tables.{IsLeast}
use Rattle.mj_shanten.specs.Room.{IsWithinRoom}
use Rattle.mj_shanten.specs.Shanten.{IsGoal}
use Rattle.mj_shanten.specs.Exchanges.{one_less}
use Rattle.mj_shanten.specs.Discards.{IsBestDiscard}
use Rattle.mj_shanten.proofs.BestDiscard.{one_least}
use Rattle.mj_shanten.proofs.Fewest.{some_least}
use Rattle.mj_shanten.proofs.Path.{one_less_at}
use Rattle.mj_wall.specs.declared.setting.Rules.{Rules}
use Rattle.mj_wall.proofs.TileOrder.{passes_face}
use Rattle.mj_rules.specs.Broken.{is_that, questions, broken_by}
use Rattle.mj_rules.specs.View.{SeatView, concealed, room}
use Rattle.mj_rules.specs.Default.{discard_of, lawful_faces, last_face}
use Rattle.mj_rules.proofs.Questions.{all_no}
use Rattle.mj_judge.specs.Measured.{is_measured}
use Rattle.mj_judge.proofs.Measured.{room_of, within_of}
use Rattle.mj_judge.proofs.Swaps.{swap_of}
use Rattle.mj_bot.specs.Choice.{lawful_of, IsBestLawful, IsBest}
use Rattle.mj_bot.specs.Inner.Measured.{IsLockedDiscard}
use Rattle.mj_bot.proofs.Lawful.{passes, none_is, all_kept, weaker, picked, some_last, one_among, kind_small, counted_of_lawful}

-- ---- a list of one face

filter_same : (p : ℕ → Bool) (face : ℕ) (xs : List ℕ) → ((x : ℕ) → p x ≡ true → x ≡ face) → list_all (λ x. eqb x face) (filter p xs) ≡ true
filter_same p face [] each = refl
filter_same p face (x ∷ xs) each = by_test (p x) refl (filter_same p face xs each)
  where
    by_test : (b : Bool) → p x ≡ b → list_all (λ y. eqb y face) (filter p xs) ≡ true → list_all (λ y. eqb y face) (cond b (x ∷ filter p xs) (filter p xs)) ≡ true
    by_test true e others = and_from (eqb x face) (list_all (λ y. eqb y face) (filter p xs)) (eq-eqb x face (each x e)) others
    by_test false e others = others

none_passes : (p : ℕ → Bool) (xs : List ℕ) → filter p xs ≡ [] → list_all (λ x. not (p x)) xs ≡ true
none_passes p [] h = refl
none_passes p (x ∷ xs) h = by_test (p x) (none_passes p xs) h
  where
    by_test : (b : Bool) → (filter p xs ≡ [] → list_all (λ y. not (p y)) xs ≡ true) → cond b (x ∷ filter p xs) (filter p xs) ≡ [] → (not b && list_all (λ y. not (p y)) xs) ≡ true
    by_test true f k = cc
    by_test false f k = f k

last_same : (face : ℕ) (xs : List ℕ) → list_all (λ x. eqb x face) xs ≡ true → (xs ≡ [] → ⊥) → last_face xs ≡ Some face
last_same face xs each some = by_last (last_face xs) refl
  where
    by_last : (o : Option ℕ) → last_face xs ≡ o → o ≡ Some face
    by_last None e = absurd (some (some_last xs e))
    by_last (Some tile) e =
        ap Some (eqb-true tile face (picked (λ x. eqb x face) xs (length xs - 1) tile (ap (λ (ys : List ℕ). slice_get ys (length xs - 1)) (all_kept (λ x. eqb x face) xs each) ∙ e)))

-- ---- the discard

-- No other is lawful.
no_other : (rules : Rules) (seat : ℕ) (view : SeatView) (face other : ℕ) → view.accepted ≡ true → view.drawn ≡ Some face → passes rules seat view other ≡ true → other ≡ face
unfolding broken_by
no_other rules seat view face other accepted drawn h =
    let each = all_no (questions rules seat view (discard_of seat view other)) (none_is (broken_by rules seat view (discard_of seat view other)) h) in
    let unlocked : (view.accepted && not (is_that view.drawn other)) ≡ false = each.1.1.1.1.1.1.1.1.0 in
    let that : is_that view.drawn other ≡ true = marked (is_that view.drawn other) (ap (λ a. a && not (is_that view.drawn other)) (sym accepted) ∙ unlocked) in
    sym (eqb-true face other (ap (λ d. is_that d other) (sym drawn) ∙ that))
  where
    marked : (b : Bool) → not b ≡ false → b ≡ true
    marked true k = refl
    marked false k = absurd (true≢false k)

among_same : (face kind : ℕ) (xs : List ℕ) → list_all (λ x. eqb x face) xs ≡ true → is_banned (map kind_of xs) kind ≡ true → kind ≡ kind_of face
among_same face kind [] each h = absurd (false≢true h)
among_same face kind (x ∷ xs) each h = by_test (eqb (kind_of x) kind) refl (among_same face kind xs (and_parts (eqb x face) (list_all (λ y. eqb y face) xs) each).1) h
  where
    by_test : (b : Bool) → eqb (kind_of x) kind ≡ b → (is_banned (map kind_of xs) kind ≡ true → kind ≡ kind_of face) → (b || is_banned (map kind_of xs) kind) ≡ true → kind ≡ kind_of face
    by_test true e others k = sym (eqb-true (kind_of x) kind e) ∙ ap kind_of (eqb-true x face (and_parts (eqb x face) (list_all (λ y. eqb y face) xs) each).0)
    by_test false e others k = others k

room_size : (tiles : List ℕ) → length (room_beside tiles) ≡ 34
unfolding room_beside all_kinds
room_size tiles = length-map-range_with_len (λ kind. 4 - number_of tiles kind) 0 34

-- The drawn tile is the best.
pub locked_best : (rules : Rules) (seat face : ℕ) (view : SeatView) → length view.melds ≤ 4 → IsLockedDiscard rules seat view face → IsBest rules seat view face
unfolding lawful_faces
locked_best rules seat face view few locked = by_test (is_measured (kind_counts (concealed view)) (room view) (map set_of_meld view.melds)) refl
  where
    kind : ℕ
    kind = kind_of face

    counts : List ℕ
    counts = kind_counts (concealed view)

    lawful : List ℕ
    lawful = lawful_faces rules seat view

    each : list_all (λ x. eqb x face) lawful ≡ true
    each = filter_same (passes rules seat view) face tile_order (λ x h. no_other rules seat view face x locked.accepted locked.drawn h)

    some : lawful ≡ [] → ⊥
    some none = true≢false (sym (passes_face (λ x. not (passes rules seat view x)) face (none_passes (passes rules seat view) tile_order none) locked.face) ∙ ap not locked.lawful)

    last : last_face lawful ≡ Some face
    last = last_same face lawful each some

    of_kind : lawful_of rules seat view kind ≡ lawful
    of_kind = all_kept (λ x. kind_of x == kind) lawful (weaker (λ x. eqb x face) (λ x. kind_of x == kind) lawful (λ x h. eq-eqb (kind_of x) kind (ap kind_of (eqb-true x face h))) each)

    size : length counts ≡ 34
    size = length-kind_counts (concealed view)

    small : kind < 34
    small = kind_small face locked.face

    within_less : IsWithinRoom counts (room view) → IsWithinRoom (one_less counts kind) (room view)
    within_less within k low = (let w = within k low in let e = one_less_at counts kind k (omega (arith, small, size)) in omega (arith, w, e))

    fewest : is_measured counts (room view) (map set_of_meld view.melds) ≡ true → (number : ℕ) × IsLeast (one_less counts kind) (IsGoal (room view) (length view.melds)) number
    fewest so =
        some_least (one_less counts kind) (room view) (length view.melds) few (length-set counts kind (get_or counts kind 0 - 1) ∙ size) (room_size _)
        (within_less (within_of counts (room view) view.melds true (sym so) refl)) (room_of counts (room view) view.melds (length view.melds) true (sym so) refl refl)

    best : is_measured counts (room view) (map set_of_meld view.melds) ≡ true → IsBestDiscard counts (room view) (length view.melds) (set_of (map kind_of lawful)) kind
    best so = (let least = fewest so in record {
      is_discard = record {
        kind_is = small;
        among = swap_of (map kind_of lawful) kind ∙ one_among kind lawful (length lawful - 1) face (ap (λ (xs : List ℕ). slice_get xs (length lawful - 1)) of_kind ∙ last);
        held = counted_of_lawful rules seat view face locked.face locked.lawful;
      };
      number = least.0;
      leaves = least.1;
      best = λ other others discard theirs.
          (let same : other ≡ kind = among_same face other lawful each (sym (swap_of (map kind_of lawful) other) ∙ discard.among) in
          inr (
            one_least (one_less counts kind) (IsGoal (room view) (length view.melds)) least.0 others least.1
                (subst (λ k. IsLeast (one_less counts k) (IsGoal (room view) (length view.melds)) others) same theirs),
            omega (arith, same),
          ));
    })

    by_test : (b : Bool) → is_measured counts (room view) (map set_of_meld view.melds) ≡ b → MatchBool b (IsBestLawful rules seat view face) (last_face lawful ≡ Some face)
    by_test true so = record { kind_is = best so; face_is = ap last_face of_kind ∙ last }
    by_test false so = last
