-- Of the kind of a tile that is offered no seat holds more than three.
use Rattle.std.proofs.Common.{◌≡◌, ℕ, ◌+◌, ◌-◌, ◌<◌, ◌≤◌, ◌⊎◌, inl, inr, Bool, true, cond, eqb, leb, ltb, List, [], ◌∷◌, ◌++◌, get_or, refl, sym, ap, ◌∙◌, subst, arith, append-nil}
use Rattle.std.specs.Prelude.{Option, Some, None, flat_map, option_and_then}
use Rattle.std.proofs.lemmas.Bool.{and_parts, leb-true, ltb-true, cases_eq, cases_lt, eq-eqb}
use Rattle.std.proofs.lemmas.List.{get_or_past}
use Rattle.std.proofs.lemmas.List.Sums.{sum_by-cons}
use Rattle.mj_tiles.specs.Faces.{kind_of, number_in, less}
use Rattle.mj_tiles.specs.Counts.{number_of, kind_counts}
use Rattle.mj_tiles.proofs.CountSteps.{length-kind_counts, get_or-kind_counts}
use Rattle.mj_wall.proofs.TileOrder.{count_by-less}
use Rattle.mj_deeds.specs.declared.deed.Deed.{Deed}
use Rattle.mj_deeds.specs.declared.deed.Deed.TheVariants.{Discard, AddedKan}
use Rattle.mj_deeds.specs.Facts.{newest, gains_by, losses_by, tiles_gained, tiles_lost, concealed_tiles}
use Rattle.mj_deeds.specs.Fits.{all_fit, are_held, has_held, has_held_by, is_in_hand, brought_by}
use Rattle.mj_deeds.specs.Hand.{hand}
use Rattle.mj_deeds.proofs.Newest.{newest_more}
use Rattle.mj_deeds.proofs.Gained.{two_gained}
use Rattle.mj_deeds.proofs.Fitted.{Parts, kept_in_hand, four_of_kind, of_four, hand_begun}
use Rattle.mj_facts.proofs.Gathered.{one_more}
use Rattle.mj_table.proofs.InHand.{newest_in_hand}
use Rattle.mj_table.proofs.OneLess.{without, count_without, less_without}
use Rattle.mj_table.proofs.Readers.{gained_within}
use Rattle.mj_table.specs.Offers.{offered_by, offered_tile}

-- a tile that is offered

-- A deed by which a seat puts down one tile, and none is brought in.
record Offers (d : Deed) (who tile : ℕ) : Type 0 where
  gains : (seat : ℕ) → gains_by seat d ≡ []
  brings : brought_by d ≡ []
  loses : (seat : ℕ) → losses_by seat d ≡ cond (eqb who seat) (tile ∷ []) []

-- The tile was held.
was_held : (ds : List Deed) (d : Deed) (who tile : ℕ) → Offers d who tile → who < 4 → has_held ds d ≡ true → 0 < number_in (tiles_gained ds who) tile
was_held ds d who tile o low h =
    let held : are_held (tiles_gained ds who) (tiles_lost ds who) (tile ∷ []) ≡ true =
    sym (ap (are_held (tiles_gained ds who) (tiles_lost ds who)) (o.loses who ∙ ap (λ b. cond b (tile ∷ []) []) (eq-eqb who who refl))) ∙ of_four (has_held_by ds d) who low h in
    some _ _ _ _ (sum_by-cons (λ t. cond (eqb t tile) 1 0) tile []) (ap (λ b. cond b 1 0) (eq-eqb tile tile refl))
    (leb-true _ _ (and_parts (leb (number_in (tile ∷ []) tile) (number_in (tiles_gained ds who) tile - number_in (tiles_lost ds who) tile)) true
    held).0)
  where
    some : (n x a b : ℕ) → n ≡ x + 0 → x ≡ 1 → n ≤ a - b → 0 < a
    some n x a b e f h = omega (arith, e, f, h)

-- So of its kind each seat holds fewer than were brought in.
held_fewer : (ds : List Deed) (d : Deed) (who tile seat : ℕ) → Offers d who tile → who < 4 → seat < 4 → has_held ds d ≡ true →
    number_of (concealed_tiles (ds ++ d ∷ []) seat) (kind_of tile) < number_of (flat_map brought_by (ds ++ d ∷ [])) (kind_of tile)
held_fewer ds d who tile seat o low small h = elim (cases_eq who seat) [
  | inl e ↦
      own _ _ _ _ _ _
      (ap (λ (xs : List ℕ). number_of (less xs (tiles_lost (ds ++ d ∷ []) seat)) (kind_of tile)) (gained seat)
      ∙ ap (λ (xs : List ℕ). number_of (less (tiles_gained ds seat) xs) (kind_of tile)) (one_more (losses_by seat) ds d
      ∙ ap (λ (ys : List ℕ). tiles_lost ds seat ++ ys) (o.loses seat ∙ ap (λ b. cond b (tile ∷ []) []) (eq-eqb who seat e)))
      ∙ ap (λ (xs : List ℕ). number_of xs (kind_of tile)) (less_without (tiles_gained ds seat) (tiles_lost ds seat) tile (there e)))
      (count_by-less (λ t. eqb (kind_of t) (kind_of tile)) (without (tiles_gained ds seat) tile) (tiles_lost ds seat))
      (fewer (tiles_gained ds seat) (there e)) (gained_within ds seat (kind_of tile)) brought
  | inr ne ↦
      others _ _ _ _ _ _ _
      (count_by-less (λ t. eqb (kind_of t) (kind_of tile)) (tiles_gained (ds ++ d ∷ []) seat) (tiles_lost (ds ++ d ∷ []) seat))
      (ap (λ (xs : List ℕ). number_of xs (kind_of tile)) (gained seat)) (fewer (tiles_gained ds who) held) (two_gained ds seat who (kind_of tile) small low (λ e. ne (sym e))) brought
]
  where
    held : 0 < number_in (tiles_gained ds who) tile
    held = was_held ds d who tile o low h

    there : who ≡ seat → 0 < number_in (tiles_gained ds seat) tile
    there e = subst (λ x. 0 < number_in (tiles_gained ds x) tile) e held

    gained : (seat : ℕ) → tiles_gained (ds ++ d ∷ []) seat ≡ tiles_gained ds seat
    gained seat = one_more (gains_by seat) ds d ∙ ap (λ (ys : List ℕ). tiles_gained ds seat ++ ys) (o.gains seat) ∙ append-nil (tiles_gained ds seat)

    brought : number_of (flat_map brought_by (ds ++ d ∷ [])) (kind_of tile) ≡ number_of (flat_map brought_by ds) (kind_of tile)
    brought = ap (λ (xs : List ℕ). number_of xs (kind_of tile)) (one_more brought_by ds d ∙ ap (λ (ys : List ℕ). flat_map brought_by ds ++ ys) o.brings ∙ append-nil (flat_map brought_by ds))

    fewer : (got : List ℕ) → 0 < number_in got tile → number_of got (kind_of tile) ≡ number_of (without got tile) (kind_of tile) + 1
    fewer got some =
        count_without (λ t. eqb (kind_of t) (kind_of tile)) got tile some ∙ ap (λ b. number_of (without got tile) (kind_of tile) + cond b 1 0) (eq-eqb (kind_of tile) (kind_of tile) refl)

    own : (a b c m n k : ℕ) → a ≡ b → b ≤ c → m ≡ c + 1 → m ≤ n → k ≡ n → a < k
    own a b c m n k e f g h l = omega (arith, e, f, g, h, l)

    others : (a b c m x n k : ℕ) → a ≤ b → b ≡ c → m ≡ x + 1 → c + m ≤ n → k ≡ n → a < k
    others a b c m x n k e f g h l = omega (arith, e, f, g, h, l)

-- The newest deed of these deeds offers no tile of which a seat holds as many as were brought in.
abbrev Spares : ℕ → List Deed → Type 0
Spares seat ds = (tile : ℕ) → offered_tile ds ≡ Some tile → number_of (concealed_tiles ds seat) (kind_of tile) < number_of (flat_map brought_by ds) (kind_of tile)

spares : (red : Bool) (ds : List Deed) (seat : ℕ) → seat < 4 → all_fit red [] ds ≡ true → Spares seat (hand ds)
spares red ds seat small fit = kept_in_hand (Spares seat) red ds step (λ tile e. absurd (none tile e)) fit
  where
    none : (tile : ℕ) → ◌≡◌ {A = Option ℕ} None (Some tile) → ⊥
    none tile e = cc

    by_deed : (h : List Deed) (d : Deed) → Parts red h d → (tile : ℕ) → offered_by d ≡ Some tile →
        number_of (concealed_tiles (h ++ d ∷ []) seat) (kind_of tile) < number_of (flat_map brought_by (h ++ d ∷ [])) (kind_of tile)
    by_deed h (Discard who t drawn) p tile e =
        let same : t ≡ tile = cc in
        subst (λ x. number_of (concealed_tiles (h ++ Discard who t drawn ∷ []) seat) (kind_of x) < number_of (flat_map brought_by (h ++ Discard who t drawn ∷ [])) (kind_of x)) same
        (held_fewer h (Discard who t drawn) who t seat (record { gains = λ s. refl; brings = refl; loses = λ s. refl }) (ltb-true who 4 (and_parts (ltb who 4) true p.seats).0) small p.held)
    by_deed h (AddedKan who t a b c) p tile e =
        let same : t ≡ tile = cc in
        subst (λ x. number_of (concealed_tiles (h ++ AddedKan who t a b c ∷ []) seat) (kind_of x) < number_of (flat_map brought_by (h ++ AddedKan who t a b c ∷ [])) (kind_of x)) same
        (held_fewer h (AddedKan who t a b c) who t seat (record { gains = λ s. refl; brings = refl; loses = λ s. refl }) (ltb-true who 4 (and_parts (ltb who 4) true p.seats).0) small p.held)
    by_deed h other p tile e = cc

    step : (h : List Deed) (d : Deed) → Spares seat h → Parts red h d → Spares seat (h ++ d ∷ [])
    step h d old p tile e = by_deed h d p tile (sym (ap (option_and_then offered_by) (newest_more h d)) ∙ e)

offered_in_hand : (newest : Option Deed) (tile : ℕ) → option_and_then offered_by newest ≡ Some tile → is_in_hand newest ≡ true
offered_in_hand None tile e = cc
offered_in_hand (Some (Discard who t drawn)) tile e = refl
offered_in_hand (Some (AddedKan who t a b c)) tile e = refl
offered_in_hand (Some other) tile e = cc

-- Of deeds that fit, of the kind of the tile that the newest one offers a seat holds at most three.
pub few_spare : (red : Bool) (ds : List Deed) (seat tile : ℕ) → seat < 4 → all_fit red [] ds ≡ true → offered_tile ds ≡ Some tile →
    get_or (kind_counts (concealed_tiles (hand ds) seat)) (kind_of tile) 0 < 4
few_spare red ds seat tile small fit e = by_kind (cases_lt (kind_of tile) 34)
  where
    here : (h : List Deed) → hand ds ≡ h → offered_tile (hand ds) ≡ Some tile
    here [] k = absurd (hand_begun red ds fit (offered_in_hand (newest ds) tile e) k)
    here (x ∷ xs) k = ap offered_tile k ∙ ap (option_and_then offered_by) (newest_in_hand ds x xs k) ∙ e

    few : (a b c : ℕ) → a ≡ b → b < c → c ≤ 4 → a < 4
    few a b c h k l = omega (arith, h, k, l)

    past : (a : ℕ) → a ≡ 0 → a < 4
    past a h = omega (arith, h)

    by_kind : (kind_of tile < 34) ⊎ (34 ≤ kind_of tile) → get_or (kind_counts (concealed_tiles (hand ds) seat)) (kind_of tile) 0 < 4
    by_kind (inl low) =
        few _ _ _ (get_or-kind_counts (concealed_tiles (hand ds) seat) (kind_of tile) low) (spares red ds seat small fit tile (here (hand ds) refl)) (four_of_kind red ds (kind_of tile) low fit)
    by_kind (inr high) =
        past _ (get_or_past (kind_counts (concealed_tiles (hand ds) seat)) (kind_of tile) 0 (subst (λ (n : ℕ). n ≤ kind_of tile) (sym (length-kind_counts (concealed_tiles (hand ds) seat))) high))

-- Where deeds fit, the counts of a seat have at most three of the kind of the tile that the newest deed offers.
pub few_held : (red : Bool) (ds kept : List Deed) (seat : ℕ) (counts : List ℕ) → kept ≡ hand ds → all_fit red [] ds ≡ true → counts ≡ kind_counts (concealed_tiles kept seat) →
    seat ≤ 3 → (tile : ℕ) → offered_tile ds ≡ Some tile → get_or counts (kind_of tile) 0 < 4
few_held red ds kept seat counts is fit told low tile e =
    subst (λ (ns : List ℕ). get_or ns (kind_of tile) 0 < 4) (sym (told ∙ ap (λ (xs : List Deed). kind_counts (concealed_tiles xs seat)) is)) (few_spare red ds seat tile (omega (arith, low)) fit e)
