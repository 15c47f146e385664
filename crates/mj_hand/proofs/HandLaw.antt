-- The hand that words name is a hand to be measured.
use Rattle.std.proofs.Common.{◌≡◌, ℕ, ◌+◌, ◌-◌, ◌*◌, ◌<◌, List, [], ◌∷◌, ◌++◌, length, map, get_or, sum, Bool, true, false, cond, eqb, ltb, ◌&&◌, refl, ap, ap₂, sym, ◌∙◌, arith, subst, inl, inr}
use Rattle.std.specs.Prelude.{Option, Some, None, option_map, option_and_then, flat_map, count_by, bytes_eq, IfSome}
use Rattle.std.specs.List.{list_all, list_any}
use Rattle.std.proofs.lemmas.Bool.{or_cases, and_parts, eqb-true, ltb-true, lt-ltb, false≢true}
use Rattle.std.proofs.lemmas.Bool.Decides.{nat_tests}
use Rattle.std.proofs.lemmas.List.Sums.{sum_by-append, sum_by-cons}
use Rattle.std.proofs.lemmas.List.FromFn.{get_or-map-range_with_len}
use Rattle.std.proofs.lemmas.Slice.Eq.{bytes_eq-Decides}
use Rattle.mj_tiles.specs.Faces.{kind_of, face_of}
use Rattle.mj_tiles.specs.Counts.{all_kinds, number_of, kind_counts, has_no_fifth}
use Rattle.mj_tiles.proofs.Texts.{text_of-face_of}
use Rattle.std.proofs.lemmas.List.{length-map}
use Rattle.mj_tiles.proofs.CountSteps.{get_or-kind_counts}
use Rattle.mj_readings.specs.declared.reading.Set.{Set}
use Rattle.mj_readings.specs.declared.reading.SetForm.{SetForm}
use Rattle.mj_readings.specs.declared.reading.SetForm.TheVariants.{Run, Triplet, Kan}
use Rattle.mj_readings.specs.Sets.{tiles_of_set, tiles_of_form, tally}
use Rattle.mj_shanten.specs.Room.{is_meld_form, IsHand}
use Rattle.mj_shanten.specs.Room as room
use Rattle.mj_shanten.proofs.Parting.{run_low}
use Rattle.mj_shanten.proofs.Sums.{all_low, sum_tally}
use Rattle.mj_hand.specs.declared.hand.Hand.{Hand}
use Rattle.mj_hand.specs.Words.{Word, Tile, Meld, parts, tiles_of, are_tiles_of, make_meld_from, make_meld, word_with, word_of, words_of}
use Rattle.mj_hand.specs.Hands.{is_meld, held_tiles, melded_tiles, meld_count, room_beside, has_each_red_once, hand_with, hand_of}
use Rattle.std.proofs.lemmas.Bool.{and_from}
use Rattle.mj_hand.proofs.KindLists.{same_map}
use Rattle.mj_hand.proofs.HandSteps.{four_at}

-- ---- the tiles of a word are of the 34 kinds

abbrev all_kinded : List ℕ → Bool
all_kinded tiles = all_low (map kind_of tiles)

red-low : (t : ℕ) (b : Bool) → ltb t 34 ≡ b → t < 37 → ltb (cond b t (4 + 9 * (t - 34))) 34 ≡ true
red-low t true e h = e
red-low t false e h = lt-ltb (4 + 9 * (t - 34)) 34 (omega arith)

tile-kinded : (text : List ℕ) (t : ℕ) → face_of text ≡ Some t → ltb (kind_of t) 34 ≡ true
tile-kinded text t h = red-low t (ltb t 34) refl (text_of-face_of text t h).0

tiles-join : (o : Option ℕ) (p : Option (List ℕ)) (ts : List ℕ) → ((t : ℕ) → o ≡ Some t → ltb (kind_of t) 34 ≡ true) → ((us : List ℕ) → p ≡ Some us → all_kinded us ≡ true)
    → option_and_then (λ tile. option_map (λ tiles. tile ∷ tiles) p) o ≡ Some ts → all_kinded ts ≡ true
tiles-join None p ts f g h = cc
tiles-join (Some t) None ts f g h = cc
tiles-join (Some t) (Some us) ts f g h = (let e : ts ≡ t ∷ us = cc in ap all_kinded e ∙ and_from (ltb (kind_of t) 34) (all_kinded us) (f t refl) (g us refl))

tiles-kinded : (texts : List (List ℕ)) (ts : List ℕ) → tiles_of texts ≡ Some ts → all_kinded ts ≡ true
tiles-kinded [] ts h = (let e : ts ≡ [] = cc in ap all_kinded e)
tiles-kinded (text ∷ texts) ts h = tiles-join (face_of text) (tiles_of texts) ts (tile-kinded text) (tiles-kinded texts) h

-- a tile of the 34 kinds, or tiles that make a meld
abbrev Fine : Word → Type 0
Fine (Tile t) = ltb (kind_of t) 34 ≡ true
Fine (Meld ts) = make_meld ts ≡ true

meld-fine : (ts : List ℕ) (w : Word) (b : Bool) → make_meld ts ≡ b → cond b (Some (Meld ts)) None ≡ Some w → Fine w
meld-fine ts w true e h = (let same : w ≡ Meld ts = cc in subst Fine (sym same) e)
meld-fine ts w false e h = absurd (never h)
  where
    never : ◌≡◌ {A = Option Word} None (Some w) → ⊥
    never h = cc

with-fine : (ts : List ℕ) (w : Word) → all_kinded ts ≡ true → word_with ts ≡ Some w → Fine w
with-fine [] w low h = meld-fine [] w (make_meld []) refl h
with-fine (t ∷ []) w low h = (let same : w ≡ Tile t = cc in subst Fine (sym same) (and_parts (ltb (kind_of t) 34) true low).0)
with-fine (t ∷ (u ∷ us)) w low h = meld-fine (t ∷ (u ∷ us)) w (make_meld (t ∷ (u ∷ us))) refl h

word-fine : (o : Option (List ℕ)) (w : Word) → ((ts : List ℕ) → o ≡ Some ts → all_kinded ts ≡ true) → option_and_then word_with o ≡ Some w → Fine w
word-fine None w f h = absurd (never h)
  where
    never : ◌≡◌ {A = Option Word} None (Some w) → ⊥
    never h = cc
word-fine (Some ts) w f h = with-fine ts w (f ts refl) h

abbrev AllFine : List Word → Type 0
AllFine [] = Unit {0}
AllFine (w ∷ ws) = Fine w × AllFine ws

words-join : (o : Option Word) (p : Option (List Word)) (ws : List Word) → ((w : Word) → o ≡ Some w → Fine w) → ((us : List Word) → p ≡ Some us → AllFine us)
    → option_and_then (λ word. option_map (λ words. word ∷ words) p) o ≡ Some ws → AllFine ws
words-join None p ws f g h = absurd (never h)
  where
    never : ◌≡◌ {A = Option (List Word)} None (Some ws) → ⊥
    never h = cc
words-join (Some w) None ws f g h = absurd (never h)
  where
    never : ◌≡◌ {A = Option (List Word)} None (Some ws) → ⊥
    never h = cc
words-join (Some w) (Some us) ws f g h = (let e : w ∷ us ≡ ws = cc in subst AllFine e (f w refl, g us refl))

words-fine : (texts : List (List ℕ)) (ws : List Word) → words_of texts ≡ Some ws → AllFine ws
words-fine [] ws h = (let e : [] ≡ ws = cc in subst AllFine e tt)
words-fine (text ∷ texts) ws h =
    words-join (word_of text) (words_of texts) ws (λ w. word-fine (tiles_of (parts text)) w (tiles-kinded (parts text))) (words-fine texts) h

held-kinded : (ws : List Word) → AllFine ws → all_kinded (held_tiles ws) ≡ true
held-kinded [] fine = refl
held-kinded (Tile t ∷ ws) fine = and_from (ltb (kind_of t) 34) (all_kinded (held_tiles ws)) fine.0 (held-kinded ws fine.1)
held-kinded (Meld ts ∷ ws) fine = held-kinded ws fine.1

-- ---- tiles are counted by their kinds

number-kinds : (tiles : List ℕ) (kind : ℕ) → number_of tiles kind ≡ count_by (λ tile. eqb tile kind) (map kind_of tiles)
number-kinds [] kind = refl
number-kinds (t ∷ ts) kind =
    sum_by-cons (λ tile. cond (eqb (kind_of tile) kind) 1 0) t ts
    ∙ ap (λ n. cond (eqb (kind_of t) kind) 1 0 + n) (number-kinds ts kind)
    ∙ sym (sum_by-cons (λ tile. cond (eqb tile kind) 1 0) (kind_of t) (map kind_of ts))

counts-kinds : (tiles : List ℕ) → kind_counts tiles ≡ tally (map kind_of tiles)
unfolding kind_counts tally
counts-kinds tiles = same_map (number_of tiles) (λ kind. count_by (λ tile. eqb tile kind) (map kind_of tiles)) (λ kind inside. number-kinds tiles kind)

-- ---- plain tiles are their kinds

kind-low : (t kind : ℕ) (b : Bool) → b ≡ true → ◌≡◌ {A = ℕ} (cond (eqb (cond b t (4 + 9 * (t - 34))) kind) 1 0) (cond (eqb t kind) 1 0)
kind-low t kind true h = refl
kind-low t kind false h = absurd (false≢true h)

number-low : (tiles : List ℕ) (kind : ℕ) → all_low tiles ≡ true → number_of tiles kind ≡ count_by (λ tile. eqb tile kind) tiles
number-low [] kind low = refl
number-low (t ∷ ts) kind low =
    let f = and_parts (ltb t 34) (all_low ts) low in
    sum_by-cons (λ tile. cond (eqb (kind_of tile) kind) 1 0) t ts
    ∙ ap₂ (λ a b. a + b) (kind-low t kind (ltb t 34) f.0) (number-low ts kind f.1)
    ∙ sym (sum_by-cons (λ tile. cond (eqb tile kind) 1 0) t ts)

form-low : (form : SetForm) (low : ℕ) → is_meld_form form low ≡ true → all_low (tiles_of_form form low) ≡ true
form-low Run low formed = (let r = run_low low formed in grind (arith, nat_tests))
form-low Triplet low formed = grind (arith, nat_tests, ltb-true low 34 formed)
form-low Kan low formed = grind (arith, nat_tests, ltb-true low 34 formed)

-- ---- the sets of the melds

record SetOf (tiles : List ℕ) : Type 0 where
  set : Set
  formed : room.is_meld set ≡ true
  same : (kind : ℕ) → kind < 34 → number_of tiles kind ≡ count_by (λ tile. eqb tile kind) (tiles_of_set set)

set_at : (form : SetForm) (low : ℕ) (tiles : List ℕ) → are_tiles_of form low tiles ≡ true → SetOf tiles
set_at form low tiles h =
    let p = and_parts (is_meld_form form low) (bytes_eq (kind_counts (tiles_of_form form low)) (kind_counts tiles)) h in
    let e : kind_counts (tiles_of_form form low) ≡ kind_counts tiles = (bytes_eq-Decides (kind_counts (tiles_of_form form low)) (kind_counts tiles)).0 p.1 in
    record {
      set = record { form = form; low = low; shown = true };
      formed = p.0;
      same = λ kind inside.
          sym (get_or-kind_counts tiles kind inside) ∙ ap (λ xs. get_or xs kind 0) (sym e) ∙ get_or-kind_counts (tiles_of_form form low) kind inside
          ∙ number-low (tiles_of_form form low) kind (form-low form low p.0);
    }

any_found : (p : ℕ → Bool) (xs : List ℕ) → list_any p xs ≡ true → (x : ℕ) × (p x ≡ true)
any_found p [] h = absurd (false≢true h)
any_found p (x ∷ xs) h = elim (or_cases (p x) (list_any p xs) h) [ inl a ↦ (x, a) | inr b ↦ any_found p xs b ]

set_of : (tiles : List ℕ) → make_meld tiles ≡ true → SetOf tiles
unfolding make_meld
set_of tiles h =
    let f = any_found (make_meld_from tiles) all_kinds h in
    let low = f.0 in
    elim (or_cases (are_tiles_of Run low tiles) _ f.1) [
      | inl a ↦ set_at Run low tiles a
      | inr b ↦ elim (or_cases (are_tiles_of Triplet low tiles) (are_tiles_of Kan low tiles) b) [ inl c ↦ set_at Triplet low tiles c | inr d ↦ set_at Kan low tiles d ]
    ]

record SetsOf (words : List Word) : Type 0 where
  sets : List Set
  so_many : length sets ≡ meld_count words
  formed : list_all room.is_meld sets ≡ true
  same : (kind : ℕ) → kind < 34 → number_of (melded_tiles words) kind ≡ count_by (λ tile. eqb tile kind) (flat_map tiles_of_set sets)

sets_of : (ws : List Word) → AllFine ws → SetsOf ws
sets_of [] fine = record { sets = []; so_many = refl; formed = refl; same = λ kind inside. refl }
sets_of (Tile t ∷ ws) fine = (let rest = sets_of ws fine.1 in record {
  sets = rest.sets;
  so_many = rest.so_many ∙ sym (sum_by-cons (λ w. cond (is_meld w) 1 0) (Tile t) ws ∙ (let e : 0 + meld_count ws ≡ meld_count ws = omega arith in e));
  formed = rest.formed;
  same = rest.same;
})
sets_of (Meld ts ∷ ws) fine = (let one = set_of ts fine.0 in let rest = sets_of ws fine.1 in record {
  sets = one.set ∷ rest.sets;
  so_many = (let a : meld_count (Meld ts ∷ ws) ≡ 1 + meld_count ws = sum_by-cons (λ w. cond (is_meld w) 1 0) (Meld ts) ws in let b = rest.so_many in omega arith);
  formed = and_from (room.is_meld one.set) (list_all room.is_meld rest.sets) one.formed rest.formed;
  same = λ kind inside.
      sum_by-append (λ tile. cond (eqb (kind_of tile) kind) 1 0) ts (melded_tiles ws)
      ∙ ap₂ (λ a b. a + b) (one.same kind inside) (rest.same kind inside)
      ∙ sym (sum_by-append (λ tile. cond (eqb tile kind) 1 0) (tiles_of_set one.set) (flat_map tiles_of_set rest.sets));
})

-- ---- the hand

room-at : (others : List ℕ) (kind : ℕ) → kind < 34 → get_or (room_beside others) kind 0 ≡ 4 - number_of others kind
unfolding room_beside all_kinds
room-at others kind low = get_or-map-range_with_len (λ k. 4 - number_of others k) 0 34 kind kind 0 low (omega arith)

hand_fine : (ws : List Word) → AllFine ws → length (held_tiles ws) + 3 * meld_count ws ≡ 13 → has_no_fifth (held_tiles ws ++ melded_tiles ws) ≡ true
    → IsHand (kind_counts (held_tiles ws)) (room_beside (melded_tiles ws)) (meld_count ws)
hand_fine ws fine thirteen four = (let s = sets_of ws fine in record {
  thirteen = (let a : sum (kind_counts (held_tiles ws)) ≡ length (held_tiles ws) =
      ap sum (counts-kinds (held_tiles ws)) ∙ sum_tally (map kind_of (held_tiles ws)) (held-kinded ws fine) ∙ length-map (held_tiles ws) kind_of in omega arith);
  within = λ kind low.
      (let a = get_or-kind_counts (held_tiles ws) kind low in let b = room-at (melded_tiles ws) kind low in let c = four_at (held_tiles ws) (melded_tiles ws) kind low four in omega arith);
  room_is = record {
    sets = s.sets;
    so_many = s.so_many;
    formed = s.formed;
    left = λ kind low.
        (let a = room-at (melded_tiles ws) kind low in let b = four_at (held_tiles ws) (melded_tiles ws) kind low four in let c = s.same kind low in omega arith);
  };
})

hand-by : (ws : List Word) (hand : Hand) (a b once : Bool) → AllFine ws → eqb (length (held_tiles ws) + 3 * meld_count ws) 13 ≡ a → has_no_fifth (held_tiles ws ++ melded_tiles ws) ≡ b
    → cond ((a && b) && once) (Some (record { counts = kind_counts (held_tiles ws); room = room_beside (melded_tiles ws); melds = meld_count ws })) None ≡ Some hand
    → IsHand hand.counts hand.room hand.melds
hand-by ws hand true true true fine thirteen four h =
    let made : Hand = record { counts = kind_counts (held_tiles ws); room = room_beside (melded_tiles ws); melds = meld_count ws } in
    let same : made ≡ hand = cc in
    subst (λ (x : Hand). IsHand x.counts x.room x.melds) same (hand_fine ws fine (eqb-true (length (held_tiles ws) + 3 * meld_count ws) 13 thirteen) four)
hand-by ws hand true true false fine thirteen four h = absurd (never h)
  where
    never : ◌≡◌ {A = Option Hand} None (Some hand) → ⊥
    never h = cc
hand-by ws hand true false once fine thirteen four h = absurd (never h)
  where
    never : ◌≡◌ {A = Option Hand} None (Some hand) → ⊥
    never h = cc
hand-by ws hand false b once fine thirteen four h = absurd (never h)
  where
    never : ◌≡◌ {A = Option Hand} None (Some hand) → ⊥
    never h = cc

hand-of : (o : Option (List Word)) (hand : Hand) → ((ws : List Word) → o ≡ Some ws → AllFine ws) → option_and_then hand_with o ≡ Some hand → IsHand hand.counts hand.room hand.melds
hand-of None hand f h = absurd (never h)
  where
    never : ◌≡◌ {A = Option Hand} None (Some hand) → ⊥
    never h = cc
hand-of (Some ws) hand f h = hand-by ws hand (eqb (length (held_tiles ws) + 3 * meld_count ws) 13) (has_no_fifth (held_tiles ws ++ melded_tiles ws))
    (has_each_red_once (held_tiles ws ++ melded_tiles ws)) (f ws refl) refl refl h

-- words that name a hand give one
pub hand_law : (texts : List (List ℕ)) (hand : Hand) → hand_of texts ≡ Some hand → IsHand hand.counts hand.room hand.melds
hand_law texts hand h = hand-of (words_of texts) hand (words-fine texts) h

pub law_of : (texts : List (List ℕ)) (result : Option Hand) → result ≡ hand_of texts → IfSome result (λ hand. IsHand hand.counts hand.room hand.melds)
law_of texts None is = tt
law_of texts (Some hand) is = hand_law texts hand (sym is)
