-- The discards of a hand, kind by kind.
use Rattle.std.proofs.Common.{◌≡◌, ℕ, ◌+◌, ◌-◌, ◌<◌, ◌≤◌, inl, inr, ◌&&◌, ◌||◌, Bool, true, false, cond, eqb, ltb, List, [], ◌∷◌, length, get_or, set, min, refl, sym, ap, ◌∙◌, arith}
use Rattle.std.specs.List.{list_any}
use Rattle.std.proofs.Math.Bool.{or-true}
use Rattle.std.proofs.lemmas.Bool.{cases_eq, cases_lt, eq-eqb, ne_eqb, and_parts, ltb-true, lt-ltb}
use Rattle.std.proofs.lemmas.Bool.Decides.{nat_tests}
use Rattle.std.proofs.lemmas.List.Sums.{sum_by-cons}
use Rattle.mj_tiles.specs.Faces.{kind_of, number_in, less}
use Rattle.mj_tiles.specs.Counts.{number_of, kind_counts}
use Rattle.mj_tiles.proofs.CountSteps.{get_or-kind_counts}
use Rattle.mj_waits.specs.Waits.{is_ready}
use Rattle.mj_table.proofs.OneLess.{count_without, none_left, some_left, left_small, counts_less, counts_same}
use Rattle.mj_rules.specs.Broken.{is_ready_without}
use Rattle.mj_rules.specs.View.{SeatView, concealed, room}
use Rattle.mj_judge.specs.Inner.Ready.{leaves_ready}

kind_small : (face : ℕ) → face < 37 → kind_of face < 34
kind_small face h = grind (arith, nat_tests)

-- the counts of what is held less a tile

-- The tile isn't held.
pub left_same : (got gone counts : List ℕ) (tile held : ℕ) → counts ≡ kind_counts (less got gone) → held ≡ min (number_in got tile - number_in gone tile) 4 → held ≡ 0 →
    counts ≡ kind_counts (less (less got gone) (tile ∷ []))
left_same got gone counts tile held is much none = is ∙ counts_same (less got gone) tile (left_small got gone) (none_left got gone tile (zero_of _ _ much none))
  where
    zero_of : (n m : ℕ) → m ≡ min n 4 → m ≡ 0 → n ≡ 0
    zero_of n m e h = omega (arith, e, h)

-- It is held.
pub left_less : (got gone counts result : List ℕ) (tile held kind : ℕ) → counts ≡ kind_counts (less got gone) → held ≡ min (number_in got tile - number_in gone tile) 4 → (held ≡ 0 → ⊥) → tile < 37 →
    kind ≡ kind_of tile → result ≡ set counts kind (get_or counts kind 0 - 1) → result ≡ kind_counts (less (less got gone) (tile ∷ []))
left_less got gone counts result tile held kind is much some small at told =
    told ∙ (λ i. set (is i) (at i) (get_or (is i) (at i) 0 - 1))
    ∙ counts_less (less got gone) tile (left_small got gone) (some_left got gone tile (some_of _ _ much some) small) (kind_small tile small)
  where
    some_of : (n m : ℕ) → m ≡ min n 4 → (m ≡ 0 → ⊥) → 0 < n
    some_of n m e h = by_zero n refl
      where
        by_zero : (k : ℕ) → n ≡ k → 0 < n
        by_zero k f = elim (cases_lt 0 n) [
          | inl l ↦ l
          | inr l ↦ absurd (h (omega (arith, e, l)))
        ]

-- a discard that leaves the hand ready

of_kind : (p : ℕ → Bool) (kind : ℕ) (ts : List ℕ) → ((t : ℕ) → 0 < number_in ts t → kind_of t ≡ kind → p t ≡ true) → 0 < number_of ts kind → list_any p ts ≡ true
of_kind p kind [] each h = absurd (omega arith)
of_kind p kind (t ∷ ts) each h = elim (cases_eq (kind_of t) kind) [
  | inl e ↦ ap (λ b. b || list_any p ts) (each t (first _ _ _ (sum_by-cons (λ x. cond (eqb x t) 1 0) t ts) (ap (λ b. cond b 1 0) (eq-eqb t t refl))) e)
  | inr ne ↦
      ap (λ b. p t || b)
      (of_kind p kind ts (λ x k e. each x (later _ _ _ (sum_by-cons (λ y. cond (eqb y x) 1 0) t ts) k) e)
      (behind _ _ _ (sum_by-cons (λ y. cond (eqb (kind_of y) kind) 1 0) t ts) (ap (λ b. cond b 1 0) (ne_eqb (kind_of t) kind ne)) h))
      ∙ or-true (p t)
]
  where
    first : (a b c : ℕ) → a ≡ b + c → b ≡ 1 → 0 < a
    first a b c e f = omega (arith, e, f)

    later : (a b c : ℕ) → a ≡ b + c → 0 < c → 0 < a
    later a b c e f = omega (arith, e, f)

    behind : (a b c : ℕ) → a ≡ b + c → b ≡ 0 → 0 < a → 0 < c
    behind a b c e f g = omega (arith, e, f, g)

none_of : (p : ℕ → Bool) (ts : List ℕ) → ((t : ℕ) → 0 < number_in ts t → p t ≡ false) → list_any p ts ≡ false
none_of p [] each = refl
none_of p (t ∷ ts) each =
    ap (λ b. b || list_any p ts) (each t (first _ _ _ (sum_by-cons (λ x. cond (eqb x t) 1 0) t ts) (ap (λ b. cond b 1 0) (eq-eqb t t refl))))
    ∙ none_of p ts (λ x k. each x (later _ _ _ (sum_by-cons (λ y. cond (eqb y x) 1 0) t ts) k))
  where
    first : (a b c : ℕ) → a ≡ b + c → b ≡ 1 → 0 < a
    first a b c e f = omega (arith, e, f)

    later : (a b c : ℕ) → a ≡ b + c → 0 < c → 0 < a
    later a b c e f = omega (arith, e, f)

-- Of a tile that is held its kind tells whether its discard leaves the hand ready.
by_its_kind : (view : SeatView) (face : ℕ) → 0 < number_in (concealed view) face →
    is_ready_without view face ≡ leaves_ready (kind_counts (concealed view)) (room view) (length view.melds) (kind_of face)
unfolding is_ready_without
by_its_kind view face some =
    let low = kind_small face (left_small view.tiles_gained view.tiles_lost face some) in
    ap (λ (ns : List ℕ). is_ready ns (room view) (length view.melds)) (sym (counts_less (concealed view) face (left_small view.tiles_gained view.tiles_lost) some low))
    ∙ sym (ap (λ b. b && is_ready (set (kind_counts (concealed view)) (kind_of face) (get_or (kind_counts (concealed view)) (kind_of face) 0 - 1)) (room view) (length view.melds))
    (lt-ltb 0 (get_or (kind_counts (concealed view)) (kind_of face) 0)
    (positive _ _ _ _ (get_or-kind_counts (concealed view) (kind_of face) low) (count_without (λ t. eqb (kind_of t) (kind_of face)) (concealed view) face some)
    (ap (λ b. cond b 1 0) (eq-eqb (kind_of face) (kind_of face) refl)))))
  where
    positive : (a b c d : ℕ) → a ≡ b → b ≡ c + d → d ≡ 1 → 0 < a
    positive a b c d e f g = omega (arith, e, f, g)

-- A kind that leaves the hand ready.
pub some_ready : (view : SeatView) (counts room_left : List ℕ) (melds kind : ℕ) (result : Bool) → counts ≡ kind_counts (concealed view) →
    room_left ≡ room view → melds ≡ length view.melds → kind < 34 →
    result ≡ leaves_ready counts room_left melds kind → result ≡ true → true ≡ list_any (is_ready_without view) (concealed view)
some_ready view counts room_left melds kind result is beside made low told ready =
    sym (of_kind (is_ready_without view) kind (concealed view) (λ t some same. by_its_kind view t some ∙ ap (leaves_ready (kind_counts (concealed view)) (room view) (length view.melds)) same ∙ here)
    (positive _ _ (get_or-kind_counts (concealed view) kind low) (ltb-true 0 _ (and_parts (ltb 0 (get_or (kind_counts (concealed view)) kind 0)) _ here).0)))
  where
    positive : (a b : ℕ) → a ≡ b → 0 < a → 0 < b
    positive a b e f = omega (arith, e, f)

    here : leaves_ready (kind_counts (concealed view)) (room view) (length view.melds) kind ≡ true
    here = sym (λ i. leaves_ready (is i) (beside i) (made i) kind) ∙ sym told ∙ ready

-- None leaves it ready.
pub none_ready : (view : SeatView) (counts room_left : List ℕ) (melds n : ℕ) → counts ≡ kind_counts (concealed view) → room_left ≡ room view → melds ≡ length view.melds → 34 ≤ n →
    ((k : ℕ) → k < n → leaves_ready counts room_left melds k ≡ false) → false ≡ list_any (is_ready_without view) (concealed view)
none_ready view counts room_left melds n is beside made all each =
    sym (none_of (is_ready_without view) (concealed view)
    (λ t some. by_its_kind view t some
    ∙ sym (λ i. leaves_ready (is i) (beside i) (made i) (kind_of t))
    ∙ each (kind_of t) (within _ (kind_small t (left_small view.tiles_gained view.tiles_lost t some)))))
  where
    within : (k : ℕ) → k < 34 → k < n
    within k h = omega (arith, h, all)

-- Whether one does.
pub ready_told : (view : SeatView) (counts room_left : List ℕ) (melds : ℕ) (told : Bool) → counts ≡ kind_counts (concealed view) → room_left ≡ room view → melds ≡ length view.melds →
    (told ≡ false → (k : ℕ) → k < 34 → leaves_ready counts room_left melds k ≡ false) → (told ≡ true → (k : ℕ) × ((k < 34) × (leaves_ready counts room_left melds k ≡ true))) →
    told ≡ list_any (is_ready_without view) (concealed view)
ready_told view counts room_left melds true is beside made none some = (let found = some refl in some_ready view counts room_left melds found.0 true is beside made found.1.0 (sym found.1.1) refl)
ready_told view counts room_left melds false is beside made none some = none_ready view counts room_left melds 34 is beside made (omega arith) (none refl)
