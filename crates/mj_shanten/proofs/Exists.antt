-- Every room has a complete hand: triplets and a pair of honours that no meld has.
use Rattle.std.proofs.Common.{ℕ, ◌≡◌, ◌≢◌, ◌<◌, ◌≤◌, ◌+◌, ◌-◌, ◌*◌, ◌++◌, ◌∷◌, [], Bool, true, false, cond, eqb, List, length, get_or, refl, sym, ◌∙◌, ap, arith, zero, suc, ◌⊎◌, inl, inr}
use Rattle.std.specs.List.{count_by, flat_map, list_all}
use Rattle.std.proofs.lemmas.Bool.{and_parts, and_from, cases_eq, cases_lt, eq-eqb, ne_eqb, lt-ltb}
use Rattle.std.proofs.lemmas.Bool.Decides.{nat_tests}
use Rattle.std.proofs.lemmas.List.{append-nil, get_or_past}
use Rattle.mj_readings.specs.declared.reading.Set.{Set}
use Rattle.mj_readings.specs.declared.reading.SetForm.{SetForm}
use Rattle.mj_readings.specs.declared.reading.SetForm.TheVariants.{Run, Triplet, Kan}
use Rattle.mj_readings.specs.Sets.{tiles_of_set, tiles_of_form, is_concealed, tally}
use Rattle.mj_readings.specs.Inner.Ways.{triplet_at}
use Rattle.mj_readings.proofs.Tiles.{in_set, number_at, count-flat_map, in_triplet}
use Rattle.mj_readings.proofs.Laws.{length-tally, get_or-tally}
use Rattle.mj_shanten.specs.Room.{IsRoom, is_meld, is_meld_form}
use Rattle.mj_shanten.specs.Shanten.{IsGoal}
use Rattle.mj_shanten.proofs.Parting.{run_low}

-- ---- kinds in order from one on

abbrev Rising : ℕ → List ℕ → Type 0
Rising from [] = Unit {0}
Rising from (g ∷ gs) = (from ≤ g) × ((g < 34) × Rising (g + 1) gs)

rising_earlier : (from later : ℕ) (gs : List ℕ) → from ≤ later → Rising later gs → Rising from gs
rising_earlier from later [] le h = tt
rising_earlier from later (g ∷ gs) le h = (let a = h.0 in omega arith, (h.1.0, h.1.1))

-- without one kind
abbrev without : ℕ → List ℕ → List ℕ
without low [] = []
without low (g ∷ gs) = cond (eqb g low) gs (g ∷ without low gs)

without_size : (low : ℕ) (gs : List ℕ) → length gs ≤ suc (length (without low gs))
without_size low [] = omega arith
without_size low (g ∷ gs) = size (eqb g low) (without low gs) (without_size low gs)
  where
    size : (b : Bool) (hs : List ℕ) → length gs ≤ suc (length hs) → suc (length gs) ≤ suc (length (cond b gs (g ∷ hs)))
    size true hs h = omega arith
    size false hs h = omega arith

without_rising : (low from : ℕ) (gs : List ℕ) → Rising from gs → Rising from (without low gs)
without_rising low from [] h = tt
without_rising low from (g ∷ gs) h = rising (eqb g low) (without low gs) (without_rising low (g + 1) gs h.1.1)
  where
    rising : (b : Bool) (hs : List ℕ) → Rising (g + 1) hs → Rising from (cond b gs (g ∷ hs))
    rising true hs r = rising_earlier from (g + 1) gs (let a = h.0 in omega arith) h.1.1
    rising false hs r = (h.0, (h.1.0, r))

-- each of the kinds has the property
abbrev Each : (ℕ → Type 0) → List ℕ → Type 0
Each P [] = Unit {0}
Each P (g ∷ gs) = P g × Each P gs

each_both : (P Q R : ℕ → Type 0) (gs : List ℕ) → ((g : ℕ) → P g → Q g → R g) → Each P gs → Each Q gs → Each R gs
each_both P Q R [] to a b = tt
each_both P Q R (g ∷ gs) to a b = (to g a.0 b.0, each_both P Q R gs to a.1 b.1)

later_apart : (low from : ℕ) (gs : List ℕ) → low < from → Rising from gs → Each (λ g. g ≢ low) gs
later_apart low from [] less h = tt
later_apart low from (g ∷ gs) less h = (let a = h.0 in (λ e. omega arith), later_apart low (g + 1) gs (let a = h.0 in omega arith) h.1.1)

without_apart : (low from : ℕ) (gs : List ℕ) → Rising from gs → Each (λ g. g ≢ low) (without low gs)
without_apart low from [] h = tt
without_apart low from (g ∷ gs) h = elim (cases_eq g low) [
  | inl same ↦ rw (eq-eqb g low same) (later_apart low (g + 1) gs (omega arith) h.1.1)
  | inr apart ↦ rw (ne_eqb g low apart) (apart, without_apart low (g + 1) gs h.1.1)
]

without_each : (P : ℕ → Type 0) (low : ℕ) (gs : List ℕ) → Each P gs → Each P (without low gs)
without_each P low [] h = tt
without_each P low (g ∷ gs) h = each (eqb g low) (without low gs) (without_each P low gs h.1)
  where
    each : (b : Bool) (hs : List ℕ) → Each P hs → Each P (cond b gs (g ∷ hs))
    each true hs r = h.1
    each false hs r = (h.0, r)

rising_each : (from : ℕ) (gs : List ℕ) → Rising from gs → Each (λ g. from ≤ g) gs
rising_each from [] h = tt
rising_each from (g ∷ gs) h = (h.0, rising_each from gs (rising_earlier from (g + 1) gs (let a = h.0 in omega arith) h.1.1))

-- ---- honours that no meld has

record Free (sets : List Set) : Type 0 where
  kinds : List ℕ
  rising : Rising 27 kinds
  many : 7 ≤ length kinds + length sets
  none : Each (λ g. number_at g sets ≡ 0) kinds

form_free : (form : SetForm) (low g : ℕ) → is_meld_form form low ≡ true → 27 ≤ g → g ≢ low → count_by (λ tile. eqb tile g) (tiles_of_form form low) ≡ 0
form_free Run low g formed past apart = (let r = run_low low formed in grind (arith, nat_tests))
form_free Triplet low g formed past apart = (let e : eqb low g ≡ false = ne_eqb low g (λ e. apart (sym e)) in rw e refl)
form_free Kan low g formed past apart = (let e : eqb low g ≡ false = ne_eqb low g (λ e. apart (sym e)) in rw e refl)

honours : List ℕ
honours = 27 ∷ 28 ∷ 29 ∷ 30 ∷ 31 ∷ 32 ∷ 33 ∷ []

free_honours : (sets : List Set) → list_all is_meld sets ≡ true → Free sets
unfolding honours
free_honours [] formed = record {
  kinds = honours;
  rising = (
    omega arith,
    (
      omega arith,
      (omega arith, (omega arith, (omega arith, (omega arith, (omega arith, (omega arith, (omega arith, (omega arith, (omega arith, (omega arith, (omega arith, (omega arith, tt)))))))))))),
    ),
  );
  many = omega arith;
  none = (refl, (refl, (refl, (refl, (refl, (refl, (refl, tt)))))));
}
free_honours (s ∷ ss) formed =
    let f = and_parts (is_meld s) (list_all is_meld ss) formed in
    let h : Free ss = free_honours ss f.1 in
    record {
      kinds = without s.low h.kinds;
      rising = without_rising s.low 27 h.kinds h.rising;
      many = (let a = without_size s.low h.kinds in let b = h.many in omega arith);
      none =
          each_both (λ g. (27 ≤ g) × (g ≢ s.low)) (λ g. number_at g ss ≡ 0) (λ g. number_at g (s ∷ ss) ≡ 0) (without s.low h.kinds)
          (λ g a b. (let c : in_set g s ≡ 0 = form_free s.form s.low g f.0 a.0 a.1 in omega arith))
          (each_both (λ g. 27 ≤ g) (λ g. g ≢ s.low) (λ g. (27 ≤ g) × (g ≢ s.low)) (without s.low h.kinds) (λ g a b. (a, b))
          (rising_each 27 (without s.low h.kinds) (without_rising s.low 27 h.kinds h.rising))
          (without_apart s.low 27 h.kinds h.rising))
          (without_each (λ g. number_at g ss ≡ 0) s.low h.kinds h.none);
    }

-- ---- triplets and a pair of such kinds

abbrev triplets : ℕ → List ℕ → List Set
triplets zero gs = []
triplets (suc n) [] = []
triplets (suc n) (g ∷ gs) = triplet_at g ∷ triplets n gs

abbrev pair_after : ℕ → List ℕ → ℕ
pair_after n [] = 0
pair_after zero (g ∷ gs) = g
pair_after (suc n) (g ∷ gs) = pair_after n gs

triplets_size : (n : ℕ) (gs : List ℕ) → n ≤ length gs → length (triplets n gs) ≡ n
triplets_size zero gs few = refl
triplets_size (suc n) [] few = absurd (omega arith)
triplets_size (suc n) (g ∷ gs) few = ap (λ k. suc k) (triplets_size n gs (omega arith))

triplets_formed : (n from : ℕ) (gs : List ℕ) → Rising from gs → list_all is_concealed (triplets n gs) ≡ true
triplets_formed zero from gs h = refl
triplets_formed (suc n) from [] h = refl
triplets_formed (suc n) from (g ∷ gs) h = and_from (is_concealed (triplet_at g)) (list_all is_concealed (triplets n gs)) (lt-ltb g 34 h.1.0) (triplets_formed n (g + 1) gs h.1.1)

pair_low : (n from : ℕ) (gs : List ℕ) → n < length gs → Rising from gs → (from ≤ pair_after n gs) × (pair_after n gs < 34)
pair_low n from [] few h = absurd (omega arith)
pair_low zero from (g ∷ gs) few h = (h.0, h.1.0)
pair_low (suc n) from (g ∷ gs) few h = (let p = pair_low n (g + 1) gs (omega arith) h.1.1 in let a = h.0 in let b = p.0 in (omega arith, p.1))

abbrev stands : ℕ → ℕ → List ℕ → ℕ
stands kind n gs = number_at kind (triplets n gs) + cond (eqb (pair_after n gs) kind) 2 0

none_before : (kind n from : ℕ) (gs : List ℕ) → n < length gs → kind < from → Rising from gs → stands kind n gs ≡ 0
none_before kind n from [] few less h = absurd (omega arith)
none_before kind zero from (g ∷ gs) few less h = (let a = h.0 in let apart : g ≢ kind = (λ e. omega arith) in rw (ne_eqb g kind apart) refl)
none_before kind (suc n) from (g ∷ gs) few less h =
    let a = h.0 in
    let apart : g ≢ kind = (λ e. omega arith) in
    let r : stands kind n gs ≡ 0 = none_before kind n (g + 1) gs (omega arith) (omega arith) h.1.1 in
    let t : in_set kind (triplet_at g) ≡ 0 = in_triplet g kind ∙ ap (λ b. 3 * cond b 1 0) (ne_eqb g kind apart) in
    omega arith

fits_room : (room : List ℕ) (kind n from : ℕ) (gs : List ℕ) → n < length gs → Rising from gs → Each (λ g. get_or room g 0 ≡ 4) gs → stands kind n gs ≤ get_or room kind 0
fits_room room kind n from [] few h free = absurd (omega arith)
fits_room room kind zero from (g ∷ gs) few h free = elim (cases_eq g kind) [
  | inl same ↦ (let a : get_or room kind 0 ≡ 4 = ap (λ k. get_or room k 0) (sym same) ∙ free.0 in rw (eq-eqb g kind same) (omega arith))
  | inr apart ↦ rw (ne_eqb g kind apart) (omega arith)
]
fits_room room kind (suc n) from (g ∷ gs) few h free = elim (cases_eq g kind) [
  | inl same ↦
      (let a : get_or room kind 0 ≡ 4 = ap (λ k. get_or room k 0) (sym same) ∙ free.0 in
      let r : stands kind n gs ≡ 0 = none_before kind n (g + 1) gs (omega arith) (omega arith) h.1.1 in
      let t : in_set kind (triplet_at g) ≡ 3 = in_triplet g kind ∙ ap (λ b. 3 * cond b 1 0) (eq-eqb g kind same) in
      omega arith)
  | inr apart ↦
      (let r : stands kind n gs ≤ get_or room kind 0 = fits_room room kind n (g + 1) gs (omega arith) h.1.1 free.1 in
      let t : in_set kind (triplet_at g) ≡ 0 = in_triplet g kind ∙ ap (λ b. 3 * cond b 1 0) (ne_eqb g kind apart) in
      omega arith)
]

-- ---- a complete hand

pub record Some (room : List ℕ) (melds : ℕ) : Type 0 where
  pub counts : List ℕ
  pub is : IsGoal room melds counts

room_free : (room : List ℕ) (sets : List Set) (gs : List ℕ) (from : ℕ) → ((kind : ℕ) → kind < 34 → get_or room kind 0 + number_at kind sets ≡ 4) → Rising from gs
    → Each (λ g. number_at g sets ≡ 0) gs → Each (λ g. get_or room g 0 ≡ 4) gs
room_free room sets [] from left h none = tt
room_free room sets (g ∷ gs) from left h none = ((let a = left g h.1.0 in let b = none.0 in omega arith), room_free room sets gs (g + 1) left h.1.1 none.1)

pair_twice : (b : Bool) → 0 + cond b 1 0 + cond b 1 0 ≡ cond b 2 0
pair_twice true = refl
pair_twice false = refl

pub some_goal : (room : List ℕ) (melds : ℕ) → melds ≤ 4 → IsRoom room melds → Some room melds
some_goal room melds few h = made (free_honours h.sets h.formed)
  where
    left : (kind : ℕ) → kind < 34 → get_or room kind 0 + number_at kind h.sets ≡ 4
    left kind low = (let a = h.left kind low in
        let b : count_by (λ tile. eqb tile kind) (flat_map tiles_of_set h.sets) ≡ number_at kind h.sets =
        ap (λ xs. count_by (λ tile. eqb tile kind) xs) (sym (append-nil (flat_map tiles_of_set h.sets))) ∙ count-flat_map kind h.sets []
        ∙ (let e : number_at kind h.sets + 0 ≡ number_at kind h.sets = omega arith in e) in omega arith)

    made : Free h.sets → Some room melds
    made f = record {
      counts = tally (flat_map tiles_of_set (triplets (4 - melds) f.kinds) ++ pair_after (4 - melds) f.kinds ∷ pair_after (4 - melds) f.kinds ∷ []);
      is = record {
        are_counts = record { size = length-tally _; within = λ kind. four kind (cases_lt kind 34) };
        complete = inl (
          few,
          (
            triplets (4 - melds) f.kinds,
            pair_after (4 - melds) f.kinds,
            record {
              so_many = triplets_size (4 - melds) f.kinds (let s = size in omega arith);
              concealed = triplets_formed (4 - melds) 27 f.kinds f.rising;
              pair_kind = (pair_low (4 - melds) 27 f.kinds size f.rising).1;
              tiles = refl;
            },
          ),
        );
        within = λ kind low. within kind low;
      };
    }
      where
        size : 4 - melds < length f.kinds
        size = (let a = f.many in let b = h.so_many in omega arith)

        at : (kind : ℕ) → kind < 34 → get_or
            (tally (flat_map tiles_of_set (triplets (4 - melds) f.kinds) ++ pair_after (4 - melds) f.kinds ∷ pair_after (4 - melds) f.kinds ∷ [])) kind 0 ≡ stands kind (4 - melds) f.kinds
        at kind low =
            get_or-tally (flat_map tiles_of_set (triplets (4 - melds) f.kinds) ++ pair_after (4 - melds) f.kinds ∷ pair_after (4 - melds) f.kinds ∷ []) kind low
            ∙ count-flat_map kind (triplets (4 - melds) f.kinds) (pair_after (4 - melds) f.kinds ∷ pair_after (4 - melds) f.kinds ∷ [])
            ∙ ap (λ n. number_at kind (triplets (4 - melds) f.kinds) + n) (pair_twice (eqb (pair_after (4 - melds) f.kinds) kind))

        within : (kind : ℕ) → kind < 34 → get_or
            (tally (flat_map tiles_of_set (triplets (4 - melds) f.kinds) ++ pair_after (4 - melds) f.kinds ∷ pair_after (4 - melds) f.kinds ∷ [])) kind 0 ≤ get_or room kind 0
        within kind low = (let a = at kind low in let b = fits_room room kind (4 - melds) 27 f.kinds size f.rising (room_free room h.sets f.kinds 27 left f.rising f.none) in omega arith)

        four : (kind : ℕ) → (kind < 34) ⊎ (34 ≤ kind)
            → get_or (tally (flat_map tiles_of_set (triplets (4 - melds) f.kinds) ++ pair_after (4 - melds) f.kinds ∷ pair_after (4 - melds) f.kinds ∷ [])) kind 0 ≤ 4
        four kind (inl low) = (let a = within kind low in let b = left kind low in omega arith)
        four kind (inr past) = (let a : get_or
            (tally (flat_map tiles_of_set (triplets (4 - melds) f.kinds) ++ pair_after (4 - melds) f.kinds ∷ pair_after (4 - melds) f.kinds ∷ [])) kind 0 ≡ 0 =
            get_or_past _ kind 0 (let s = length-tally (flat_map tiles_of_set (triplets (4 - melds) f.kinds) ++ pair_after (4 - melds) f.kinds ∷ pair_after (4 - melds) f.kinds ∷ []) in
            omega arith) in omega arith)
