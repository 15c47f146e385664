-- How many tiles of each face a seat holds, a deed further.
use Rattle.std.proofs.Common.{◌≡◌, ℕ, ◌+◌, ◌-◌, ◌*◌, ◌<◌, ◌≤◌, ◌⊎◌, inl, inr, Bool, true, false, cond, eqb, leb, ltb, min}
use Rattle.std.proofs.Common.{List, [], ◌∷◌, ◌++◌, length, take, set, get_or, replicate, refl, sym, ap, ◌∙◌, subst, arith}
use Rattle.std.specs.Prelude.{flat_map}
use Rattle.std.specs.List.{list_all}
use Rattle.std.proofs.lemmas.Bool.{and_parts, cases_eq, cases_lt, eq-eqb, ne_eqb, leb-true, ltb-true, lt-ltb, le-ltb}
use Rattle.std.proofs.lemmas.List.{take_more}
use Rattle.std.proofs.lemmas.List.Sums.{sum_by-cons}
use Rattle.mj_lists.proofs.Fronts.{zero_at}
use Rattle.mj_tiles.specs.Faces.{kind_of, number_in, less, tile_order}
use Rattle.mj_tiles.specs.Counts.{number_of, has_no_fifth, kind_counts, NoFifth}
use Rattle.mj_tiles.proofs.CountSteps.{number_in-push}
use Rattle.mj_tiles.proofs.EachKind.{each_kind}
use Rattle.mj_wall.proofs.TileOrder.{number-cons, passes_each}
use Rattle.mj_deeds.specs.declared.deed.Deed.{Deed}
use Rattle.mj_deeds.specs.declared.deed.Deed.TheVariants.{StartGame, StartHand}
use Rattle.mj_deeds.specs.declared.four.Four.{Four}
use Rattle.mj_deeds.specs.Facts.{gains_by, losses_by, tiles_gained, tiles_lost, concealed_tiles}
use Rattle.mj_deeds.specs.Fits.{fits, all_fit, has_held, has_held_by, brought_by, keeps_kinds}
use Rattle.mj_deeds.specs.Four.{at_seat}
use Rattle.mj_deeds.specs.Hand.{is_hand_start, hand, before_in}
use Rattle.mj_deeds.proofs.HandSteps.{hand_with}
use Rattle.mj_deeds.proofs.Totals.{number_more}
use Rattle.mj_deeds.proofs.Fitted.{Parts, parts_of, past_of, some_hand, of_four, four_of_kind}
use Rattle.mj_facts.proofs.OneMore.{one_counted}
use Rattle.mj_table.proofs.OneLess.{none_left, some_left}
use Rattle.mj_table.proofs.Readers.{gained_within, holds_few}
use Rattle.mj_table.specs.Plays.{Play}
use Rattle.mj_wall.specs.declared.setting.Rules.{Rules}
use Rattle.mj_facts.specs.Holding.{Holds}
use Rattle.mj_table.specs.Inner.Kept.{Moves, tiles_held, held_before}

-- one tile further

number_next : (tiles : List ℕ) (i tile face : ℕ) → i < length tiles → tile ≡ get_or tiles i tile → number_in (take (i + 1) tiles) face ≡ number_in (take i tiles) face + cond (eqb tile face) 1 0
number_next tiles i tile face h is =
    ap (λ (xs : List ℕ). number_in xs face) (take_more tiles i tile h ∙ ap (λ x. take i tiles ++ x ∷ []) (sym is)) ∙ number_in-push (take i tiles) tile face

pub more_there : (held now tiles : List ℕ) (i tile place v : ℕ) → i < length tiles → tile ≡ get_or tiles i tile → place ≡ tile → place < length now → v ≡ min (get_or now place 0 + 1) 255 →
    ((face : ℕ) → get_or held face 0 + number_in (take i tiles) face ≤ 255 → get_or now face 0 ≡ get_or held face 0 + number_in (take i tiles) face) →
    (face : ℕ) → get_or held face 0 + number_in (take (i + 1) tiles) face ≤ 255 → get_or (set now place v) face 0 ≡ get_or held face 0 + number_in (take (i + 1) tiles) face
more_there held now tiles i tile place v h is at there what was =
    one_counted held now (λ face. number_in (take i tiles) face) (λ face. number_in (take (i + 1) tiles) face) tile place v (λ face. number_next tiles i tile face h is) at there what was

-- Of no tile a seat holds what is dealt to it.
pub dealt_alone : (now tiles : List ℕ) →
    ((face : ℕ) → get_or (replicate 37 0) face 0 + number_in tiles face ≤ 255 → get_or now face 0 ≡ get_or (replicate 37 0) face 0 + number_in tiles face) →
    (face : ℕ) → number_in tiles face ≤ 255 → get_or now face 0 ≡ number_in tiles face
dealt_alone now tiles given face few = plain _ _ _ (zero_at 37 face) few (given face)
  where
    plain : (z a n : ℕ) → z ≡ 0 → a ≤ 255 → (z + a ≤ 255 → n ≡ z + a) → n ≡ a
    plain z a n e few g =
        let told : n ≡ z + a = g (omega (arith, e, few)) in
        omega (arith, e, told)

-- A start of a hand gives a seat what is dealt to it.
pub started : (d : Deed) (round number honba deposits dealer indicator : ℕ) (hands : Four (List ℕ)) (seat : ℕ) (held now tiles : List ℕ) →
    d ≡ StartHand round number honba deposits dealer indicator hands →
    tiles ≡ at_seat hands seat → ((face : ℕ) → number_in tiles face ≤ 255 → get_or now face 0 ≡ number_in tiles face) → Moves d seat held now
started d round number honba deposits dealer indicator hands seat held now tiles is at given =
    subst (λ (x : Deed). Moves x seat held now) (sym is) (λ face few. plain _ _ _ (ap (λ (xs : List ℕ). number_in xs face) at) few (given face))
  where
    plain : (a b n : ℕ) → a ≡ b → 0 + b ≤ 255 → (a ≤ 255 → n ≡ a) → n ≡ 0 + b - 0
    plain a b n f few g =
        let told : n ≡ a = g (omega (arith, f, few)) in
        omega (arith, f, told)

-- at most four of a face

kind_small : (face : ℕ) → face < 37 → kind_of face < 34
kind_small face low = by_test (ltb face 34) refl
  where
    by_test : (b : Bool) → ltb face 34 ≡ b → cond b face (4 + 9 * (face - 34)) < 34
    by_test true e = ltb-true face 34 e
    by_test false e = omega (arith, low)

among_kind : (tiles : List ℕ) (face : ℕ) → number_in tiles face ≤ number_of tiles (kind_of face)
among_kind [] face = omega arith
among_kind (t ∷ ts) face =
    sum _ _ _ _ _ _ (number-cons t face ts) (sum_by-cons (λ x. cond (eqb (kind_of x) (kind_of face)) 1 0) t ts) (here (cases_eq t face)) (among_kind ts face)
  where
    sum : (n m a b c e : ℕ) → n ≡ a + b → m ≡ c + e → a ≤ c → b ≤ e → n ≤ m
    sum n m a b c e h k l o = omega (arith, h, k, l, o)

    same : (a b : ℕ) → b ≡ 1 → a ≤ 1 → a ≤ b
    same a b e h = omega (arith, e, h)

    none : (a b : ℕ) → a ≡ 0 → a ≤ b
    none a b e = omega (arith, e)

    small : (b : Bool) → cond b 1 0 ≤ 1
    small true = omega arith
    small false = omega arith

    here : (t ≡ face) ⊎ (t ≡ face → ⊥) → cond (eqb t face) 1 0 ≤ cond (eqb (kind_of t) (kind_of face)) 1 0
    here (inl e) = same _ _ (ap (λ b. cond b 1 0) (eq-eqb (kind_of t) (kind_of face) (ap kind_of e))) (small (eqb t face))
    here (inr ne) = none _ _ (ap (λ b. cond b 1 0) (ne_eqb t face ne))

given_few : (ds : List Deed) (seat face n : ℕ) → number_of (flat_map brought_by ds) (kind_of face) ≤ n → number_in (tiles_gained ds seat) face ≤ n
given_few ds seat face n few = chain _ _ _ (among_kind (tiles_gained ds seat) face) (gained_within ds seat (kind_of face)) few
  where
    chain : (a b c : ℕ) → a ≤ b → b ≤ c → c ≤ n → a ≤ n
    chain a b c h k l = omega (arith, h, k, l)

kept_few : (hs : List Deed) (d : Deed) (kind : ℕ) → kind < 34 → keeps_kinds hs d ≡ true → number_of (flat_map brought_by (hs ++ d ∷ [])) kind ≤ 4
unfolding has_no_fifth
kept_few hs d kind small h =
    leb-true (number_of (flat_map brought_by (hs ++ d ∷ [])) kind) 4 (each_kind (λ k. leb (number_of (flat_map brought_by (hs ++ d ∷ [])) k) 4) kind small h)

-- one deed further

lost_held : (hs : List Deed) (d : Deed) (seat face : ℕ) → seat ≤ 3 → has_held hs d ≡ true →
    number_in (losses_by seat d) face ≤ number_in (tiles_gained hs seat) face - number_in (tiles_lost hs seat) face
lost_held hs d seat face low h = by_some (cases_lt 0 (number_in (losses_by seat d) face))
  where
    none : (n m : ℕ) → n ≤ 0 → n ≤ m
    none n m e = omega (arith, e)

    by_some : (0 < number_in (losses_by seat d) face) ⊎ (number_in (losses_by seat d) face ≤ 0) →
        number_in (losses_by seat d) face ≤ number_in (tiles_gained hs seat) face - number_in (tiles_lost hs seat) face
    by_some (inl some) =
        leb-true _ _
        (passes_each (λ f. leb (number_in (losses_by seat d) f) (number_in (tiles_gained hs seat) f - number_in (tiles_lost hs seat) f)) (losses_by seat d) face
        (of_four (has_held_by hs d) seat (omega (arith, low)) h) some)
    by_some (inr e) = none _ _ e

holds_step : (red : Bool) (hs : List Deed) (d : Deed) (seat : ℕ) (held new : List ℕ) → seat ≤ 3 → Parts red hs d →
    ((face : ℕ) → face < 37 → held_before d held face + number_in (tiles_lost hs seat) face ≡ number_in (tiles_gained hs seat) face) → Moves d seat held new → Holds (hs ++ d ∷ []) seat new
holds_step red hs d seat held new low p was moves face small =
    sum _ _ _ _ _ _ _ _ (was face small) (number_more (gains_by seat) hs d face) (number_more (losses_by seat) hs d face)
    (given_few (hs ++ d ∷ []) seat face 4 (kept_few hs d (kind_of face) (kind_small face small) p.kinds)) (lost_held hs d seat face low p.held) (moves face)
  where
    sum : (n b l g a x k m : ℕ) → b + l ≡ g → k ≡ g + a → m ≡ l + x → k ≤ 4 → x ≤ g - l → (b + a ≤ 255 → n ≡ b + a - x) → n + m ≡ k
    sum n b l g a x k m e f h few held now =
        let moved : n ≡ b + a - x = now (omega (arith, e, f, few)) in
        omega (arith, e, f, h, held, moved)

-- Where no hand has begun a deed that starts none moves no tile.
none_begun : (red : Bool) (ds : List Deed) (d : Deed) (seat : ℕ) (held new : List ℕ) → all_fit red [] ds ≡ true → fits red ds d ≡ true → is_hand_start d ≡ false → hand ds ≡ [] →
    Holds [] seat held → Moves d seat held new → Holds [] seat new
none_begun red ds (StartGame names) seat held new fit one h none was moves face small = none_moved _ _ (was face small) (moves face)
  where
    none_moved : (n b : ℕ) → b + 0 ≡ 0 → (b + 0 ≤ 255 → n ≡ b + 0 - 0) → n + 0 ≡ 0
    none_moved n b e now =
        let moved : n ≡ b + 0 - 0 = now (omega (arith, e)) in
        omega (arith, e, moved)
none_begun red ds other seat held new fit one h none was moves face small = absurd (some_hand red ds fit (past_of ds other (parts_of red ds other one).place h refl) none)

pub holds_more : (red : Bool) (ds : List Deed) (d : Deed) (seat : ℕ) (held new : List ℕ) → seat ≤ 3 → all_fit red [] ds ≡ true → fits red ds d ≡ true → Holds (hand ds) seat held →
    Moves d seat held new → Holds (hand (ds ++ d ∷ [])) seat new
holds_more red ds d seat held new low fit one was moves =
    hand_with (λ (xs : List Deed). Holds xs seat new) ds d
    (λ h none. none_begun red ds d seat held new fit one h none (subst (λ (xs : List Deed). Holds xs seat held) none was) moves)
    (holds_step red (before_in (hand ds) d) d seat held new low (parts_of red ds d one).inside before moves)
  where
    by_test : (b : Bool) → (face : ℕ) → face < 37 → cond b 0 (get_or held face 0) + number_in (tiles_lost (cond b [] (hand ds)) seat) face ≡ number_in (tiles_gained (cond b [] (hand ds)) seat) face
    by_test true face small = refl
    by_test false face small = was face small

    before : (face : ℕ) → face < 37 → held_before d held face + number_in (tiles_lost (before_in (hand ds) d) seat) face ≡ number_in (tiles_gained (before_in (hand ds) d) seat) face
    before face small = by_test (is_hand_start d) face small

-- A seat that was given nothing holds nothing.
pub holds_nothing : (seat : ℕ) → Holds [] seat (replicate 37 0)
holds_nothing seat face small = ap (λ n. n + 0) (zero_at 37 face)

-- what is read

same_copies : (f g : ℕ → ℕ) (faces : List ℕ) → list_all (λ face. ltb face 37) faces ≡ true → ((face : ℕ) → face < 37 → f face ≡ g face) →
    flat_map (λ face. replicate (f face) face) faces ≡ flat_map (λ face. replicate (g face) face) faces
same_copies f g [] all same = refl
same_copies f g (x ∷ xs) all same =
    let parts = and_parts (ltb x 37) (list_all (λ face. ltb face 37) xs) all in
    ap (λ n. replicate n x ++ flat_map (λ face. replicate (f face) face) xs) (same x (ltb-true x 37 parts.0))
    ∙ ap (λ (ys : List ℕ). replicate (g x) x ++ ys) (same_copies f g xs parts.1 same)

order_small : list_all (λ face. ltb face 37) tile_order ≡ true
unfolding tile_order
order_small = refl

left : (n l g : ℕ) → n + l ≡ g → n ≡ g - l
left n l g e = omega (arith, e)

-- The tiles that a seat holds are its concealed ones.
pub tiles_are : (ds : List Deed) (seat : ℕ) (held : List ℕ) → Holds ds seat held → tiles_held held ≡ concealed_tiles ds seat
unfolding less
tiles_are ds seat held holds =
    same_copies (λ face. get_or held face 0) (λ face. number_in (tiles_gained ds seat) face - number_in (tiles_lost ds seat) face) tile_order order_small
    (λ face small. left _ _ _ (holds face small))

-- A face stands among the concealed tiles of a seat exactly where it holds one of it.
pub has_one : (ds : List Deed) (seat face : ℕ) (held : List ℕ) → Holds ds seat held → face < 37 → ltb 0 (get_or held face 0) ≡ ltb 0 (number_in (concealed_tiles ds seat) face)
has_one ds seat face held holds small = by_held (cases_lt 0 (get_or held face 0))
  where
    is : get_or held face 0 ≡ number_in (tiles_gained ds seat) face - number_in (tiles_lost ds seat) face
    is = left _ _ _ (holds face small)

    nothing : (n m : ℕ) → n ≡ m → n ≤ 0 → m ≡ 0
    nothing n m e h = omega (arith, e, h)

    by_held : (0 < get_or held face 0) ⊎ (get_or held face 0 ≤ 0) → ltb 0 (get_or held face 0) ≡ ltb 0 (number_in (concealed_tiles ds seat) face)
    by_held (inl some) =
        lt-ltb 0 (get_or held face 0) some
        ∙ sym (lt-ltb 0 (number_in (concealed_tiles ds seat) face) (some_left (tiles_gained ds seat) (tiles_lost ds seat) face (subst (λ n. 0 < n) is some) small))
    by_held (inr none) =
        le-ltb 0 (get_or held face 0) none
        ∙ sym (ap (λ n. ltb 0 n) (none_left (tiles_gained ds seat) (tiles_lost ds seat) face (nothing _ _ is none)))

-- So many of a face.
pub held_is : (red : Bool) (ds : List Deed) (seat face n : ℕ) (held : List ℕ) → all_fit red [] ds ≡ true → Holds (hand ds) seat held → face < 37 → n ≡ get_or held face 0 →
    n ≡ min (number_in (tiles_gained (hand ds) seat) face - number_in (tiles_lost (hand ds) seat) face) 4
held_is red ds seat face n held fit holds small is =
    few _ _ _ _ is (holds face small) (given_few (hand ds) seat face 4 (four_of_kind red ds (kind_of face) (kind_small face small) fit))
  where
    few : (n m l g : ℕ) → n ≡ m → m + l ≡ g → g ≤ 4 → n ≡ min (g - l) 4
    few n m l g e f h = omega (arith, e, f, h)

-- What is kept of a seat, of the deeds that a table stands for.
pub told : (rules : Rules) (ds : List Deed) (played : Play) (tiles : Four (List ℕ)) (seat : ℕ) (held : List ℕ) → seat ≤ 3 → all_fit rules.red [] ds ≡ true →
    ((s : ℕ) → s ≤ 3 → Holds (hand ds) s (at_seat tiles s)) → record { rules = rules; deeds = ds } ≡ played → held ≡ at_seat tiles seat →
    (all_fit played.rules.red [] played.deeds ≡ true) × Holds (hand played.deeds) seat held
told rules ds played tiles seat held low fit each is at = (
  subst (λ (p : Play). all_fit p.rules.red [] p.deeds ≡ true) is fit,
  subst (λ (row : List ℕ). Holds (hand played.deeds) seat row) (sym at) (subst (λ (p : Play). Holds (hand p.deeds) seat (at_seat tiles seat)) is (each seat low)),
)

-- Of no kind a seat holds more than four.
pub few_kinds : (red : Bool) (ds : List Deed) (seat : ℕ) (held : List ℕ) → (all_fit red [] ds ≡ true) × Holds (hand ds) seat held → NoFifth (kind_counts (tiles_held held))
few_kinds red ds seat held t = subst (λ (xs : List ℕ). NoFifth (kind_counts xs)) (sym (tiles_are (hand ds) seat held t.1)) (holds_few red ds seat t.0)

pub kinds_are : (red : Bool) (ds : List Deed) (seat : ℕ) (held counts : List ℕ) → (all_fit red [] ds ≡ true) × Holds (hand ds) seat held → counts ≡ kind_counts (tiles_held held) →
    counts ≡ kind_counts (concealed_tiles (hand ds) seat)
kinds_are red ds seat held counts t e = e ∙ ap kind_counts (tiles_are (hand ds) seat held t.1)
