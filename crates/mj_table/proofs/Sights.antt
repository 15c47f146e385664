-- What a seat sees is what was brought in, less what the others hold.
use Rattle.std.proofs.Common.{◌≡◌, ℕ, zero, suc, ◌+◌, ◌-◌, ◌<◌, ◌≤◌, ◌⊎◌, inl, inr, Bool, true, false, cond, eqb, ltb, List}
use Rattle.std.proofs.Common.{[], length, set, get_or, refl, sym, ap, ◌∙◌, subst, arith, get_or-set_same, get_or-set_other}
use Rattle.std.proofs.lemmas.Bool.{cases_eq, cases_lt, eq-eqb, ne_eqb, lt-ltb, le-ltb}
use Rattle.std.proofs.lemmas.Grind.{same_number_lists}
use Rattle.std.proofs.lemmas.List.{get_or_past}
use Rattle.mj_tiles.specs.Counts.{number_of, kind_counts, NoFifth}
use Rattle.mj_tiles.proofs.CountSteps.{length-kind_counts, get_or-kind_counts, number_of-append}
use Rattle.mj_deeds.specs.declared.deed.Deed.{Deed}
use Rattle.mj_deeds.specs.declared.four.Four.{Four}
use Rattle.mj_deeds.specs.Four.{at_seat}
use Rattle.mj_deeds.specs.Facts.{concealed_tiles}
use Rattle.mj_deeds.specs.Fits.{all_fit}
use Rattle.mj_deeds.specs.Hand.{hand}
use Rattle.mj_deeds.proofs.Fitted.{four_of_kind}
use Rattle.mj_wall.specs.declared.setting.Rules.{Rules}
use Rattle.mj_sights.specs.Seen.{open_tiles, seen_tiles}
use Rattle.mj_sights.proofs.Somewhere.{tiles_are_held_or_open}
use Rattle.mj_table.specs.Plays.{Play}
use Rattle.mj_facts.specs.declared.hand_facts.HandFacts.{HandFacts}
use Rattle.mj_facts.specs.Hands.{Brings, Knows}
use Rattle.mj_table.specs.Inner.Kept.{AllHold, tiles_held}
use Rattle.mj_table.specs.Inner.Seeing.{hidden, seen_of}
use Rattle.mj_table.proofs.FacesHeld.{tiles_are}
use Rattle.mj_table.proofs.FaceSums.{kind_sum, past_one}

-- taking away the tiles of a seat

-- So many less of one kind.
pub one_off : (old : List ℕ) (place count v : ℕ) → place < length old → v ≡ get_or old place 0 - count → (other : ℕ) →
    get_or (set old place v) other 0 ≡ get_or old other 0 - cond (eqb place other) count 0
one_off old place count v there is other = by_place (cases_eq other place)
  where
    less : (v b n m : ℕ) → v ≡ b - n → m ≡ n → v ≡ b - m
    less v b n m e f = omega (arith, e, f)

    none : (b m : ℕ) → m ≡ 0 → b ≡ b - m
    none b m e = omega (arith, e)

    by_place : (other ≡ place) ⊎ (other ≡ place → ⊥) → get_or (set old place v) other 0 ≡ get_or old other 0 - cond (eqb place other) count 0
    by_place (inl same) =
        ap (λ q. get_or (set old place v) q 0) same ∙ get_or-set_same old place v 0 there
        ∙ less v _ count _ (is ∙ ap (λ q. get_or old q 0 - count) (sym same)) (ap (λ b. cond b count 0) (eq-eqb place other (sym same)))
    by_place (inr differ) = get_or-set_other old place other v 0 differ ∙ none _ _ (ap (λ b. cond b count 0) (ne_eqb place other (λ e. differ (sym e))))

-- The plain tiles up to a kind are taken away.
abbrev pub IsTaken : List ℕ → List ℕ → List ℕ → ℕ → Type 0
IsTaken held old now i = (kind : ℕ) → get_or now kind 0 ≡ get_or old kind 0 - cond (ltb kind i) (get_or held kind 0) 0

pub none_taken : (held old : List ℕ) → IsTaken held old old 0
none_taken held old kind = nothing (get_or old kind 0) _ (ap (λ t. cond t (get_or held kind 0) 0) (le-ltb kind 0 (omega arith)))
  where
    nothing : (n m : ℕ) → m ≡ 0 → n ≡ n - m
    nothing n m e = omega (arith, e)

pub one_taken : (held old now : List ℕ) (i v : ℕ) → i < length now → v ≡ get_or now i 0 - get_or held i 0 → IsTaken held old now i → IsTaken held old (set now i v) (i + 1)
one_taken held old now i v there is was kind = one_off now i (get_or held i 0) v there is kind ∙ by_place (cases_eq i kind) (cases_lt kind i)
  where
    same : (a b h c d e : ℕ) → a ≡ b - c → c ≡ 0 → d ≡ h → e ≡ h → a - d ≡ b - e
    same a b h c d e p q r s = omega (arith, p, q, r, s)

    below : (a b h c d e : ℕ) → a ≡ b - c → c ≡ h → d ≡ 0 → e ≡ h → a - d ≡ b - e
    below a b h c d e p q r s = omega (arith, p, q, r, s)

    above : (a b c d e : ℕ) → a ≡ b - c → c ≡ 0 → d ≡ 0 → e ≡ 0 → a - d ≡ b - e
    above a b c d e p q r s = omega (arith, p, q, r, s)

    test : (b : Bool) (j n : ℕ) → ltb kind j ≡ b → cond (ltb kind j) n 0 ≡ cond b n 0
    test b j n e = ap (λ t. cond t n 0) e

    by_place : (i ≡ kind) ⊎ (i ≡ kind → ⊥) → (kind < i) ⊎ (i ≤ kind) → get_or now kind 0 - cond (eqb i kind) (get_or held i 0) 0 ≡ get_or old kind 0 - cond (ltb kind (i + 1)) (get_or held kind 0) 0
    by_place (inl e) order =
        same _ _ (get_or held kind 0) _ _ _ (was kind) (test false i _ (le-ltb kind i (omega (arith, e)))) (ap (λ t. cond t (get_or held i 0) 0) (eq-eqb i kind e) ∙ ap (λ q. get_or held q 0) e)
        (test true (i + 1) _ (lt-ltb kind (i + 1) (omega (arith, e))))
    by_place (inr ne) (inl h) =
        below _ _ (get_or held kind 0) _ _ _ (was kind) (test true i _ (lt-ltb kind i h)) (ap (λ t. cond t (get_or held i 0) 0) (ne_eqb i kind ne))
        (test true (i + 1) _ (lt-ltb kind (i + 1) (omega (arith, h))))
    by_place (inr ne) (inr h) =
        above _ _ _ _ _ (was kind) (test false i _ (le-ltb kind i h)) (ap (λ t. cond t (get_or held i 0) 0) (ne_eqb i kind ne)) (test false (i + 1) _ (le-ltb kind (i + 1) (past_one i kind ne h)))

-- After the last one and the three red fives all are.
pub all_hidden : (held old p q r s : List ℕ) (i kind : ℕ) (own : Bool) → own ≡ false → 34 ≤ i → i ≤ 34 → length old ≡ 34 → length s ≡ 34 →
    get_or p kind 0 ≡ get_or old kind 0 - cond (ltb kind i) (get_or held kind 0) 0 → get_or q kind 0 ≡ get_or p kind 0 - cond (eqb 4 kind) (get_or held 34 0) 0 →
    get_or r kind 0 ≡ get_or q kind 0 - cond (eqb 13 kind) (get_or held 35 0) 0 → get_or s kind 0 ≡ get_or r kind 0 - cond (eqb 22 kind) (get_or held 36 0) 0 →
    get_or s kind 0 ≡ get_or old kind 0 - hidden held own kind
all_hidden held old p q r s i kind own e last end long short a b c d = by_kind (cases_lt kind 34) ∙ ap (λ t. get_or old kind 0 - cond t 0 (number_of (tiles_held held) kind)) (sym e)
  where
    four : (o a b c d g h x y z n : ℕ) → a ≡ o - g → g ≡ h → b ≡ a - x → c ≡ b - y → d ≡ c - z → n ≡ h + x + y + z → d ≡ o - n
    four o a b c d g h x y z n p q r s t u = omega (arith, p, q, r, s, t, u)

    past : (o d n : ℕ) → o ≡ 0 → d ≡ 0 → d ≡ o - n
    past o d n e f = omega (arith, e, f)

    by_kind : (kind < 34) ⊎ (34 ≤ kind) → get_or s kind 0 ≡ get_or old kind 0 - number_of (tiles_held held) kind
    by_kind (inl low) = four _ _ _ _ _ _ (get_or held kind 0) _ _ _ _ a (ap (λ t. cond t (get_or held kind 0) 0) (lt-ltb kind i (omega (arith, low, last)))) b c d (kind_sum held kind low)
    by_kind (inr high) = past _ _ _ (get_or_past old kind 0 (subst (λ (n : ℕ). n ≤ kind) (sym long) high)) (get_or_past s kind 0 (subst (λ (n : ℕ). n ≤ kind) (sym short) high))

pub none_hidden : (held were : List ℕ) (kind : ℕ) (own : Bool) → own ≡ true → get_or were kind 0 ≡ get_or were kind 0 - hidden held own kind
none_hidden held were kind own e = nothing _ ∙ ap (λ b. get_or were kind 0 - cond b 0 (number_of (tiles_held held) kind)) (sym e)
  where
    nothing : (n : ℕ) → n ≡ n - 0
    nothing n = omega arith

-- the four seats in turn

pub each_hidden : (brought p q r s : List ℕ) (held : Four (List ℕ)) (seat : ℕ) →
    ((kind : ℕ) → get_or p kind 0 ≡ get_or brought kind 0 - hidden held.first (eqb seat 0) kind) → ((kind : ℕ) → get_or q kind 0 ≡ get_or p kind 0 - hidden held.second (eqb seat 1) kind) →
    ((kind : ℕ) → get_or r kind 0 ≡ get_or q kind 0 - hidden held.third (eqb seat 2) kind) → ((kind : ℕ) → get_or s kind 0 ≡ get_or r kind 0 - hidden held.fourth (eqb seat 3) kind) →
    (kind : ℕ) → get_or s kind 0 ≡ seen_of brought held seat kind
each_hidden brought p q r s held seat a b c d kind =
    d kind ∙ ap (λ n. n - hidden held.fourth (eqb seat 3) kind) (c kind ∙ ap (λ n. n - hidden held.third (eqb seat 2) kind) (b kind ∙ ap (λ n. n - hidden held.second (eqb seat 1) kind) (a kind)))

-- No kind is left more than four times.
pub no_fifth_seen : (brought numbers : List ℕ) (held : Four (List ℕ)) (seat : ℕ) → ((kind : ℕ) → kind < 34 → get_or brought kind 0 ≤ 4) → length numbers ≡ 34 →
    ((kind : ℕ) → get_or numbers kind 0 ≡ seen_of brought held seat kind) → NoFifth numbers
no_fifth_seen brought numbers held seat few long is kind = by_kind (cases_lt kind 34)
  where
    less : (n b h k l m : ℕ) → n ≡ b - h - k - l - m → b ≤ 4 → n ≤ 4
    less n b h k l m e f = omega (arith, e, f)

    past : (n : ℕ) → n ≡ 0 → n ≤ 4
    past n e = omega (arith, e)

    by_kind : (kind < 34) ⊎ (34 ≤ kind) → get_or numbers kind 0 ≤ 4
    by_kind (inl small) = less _ _ _ _ _ _ (is kind) (few kind small)
    by_kind (inr large) = past _ (get_or_past numbers kind 0 (subst (λ (n : ℕ). n ≤ kind) (sym long) large))

-- What is left is what the seat sees.
seen_is : (seat b n h k l m o : ℕ) → seat ≤ 3 → h + k + l + m + o ≡ b →
    n ≡ b - cond (eqb seat 0) 0 h - cond (eqb seat 1) 0 k - cond (eqb seat 2) 0 l - cond (eqb seat 3) 0 m → n ≡ cond (eqb seat 0) h (cond (eqb seat 1) k (cond (eqb seat 2) l m)) + o
seen_is zero b n h k l m o low all e = omega (arith, all, e)
seen_is (suc zero) b n h k l m o low all e = omega (arith, all, e)
seen_is (suc (suc zero)) b n h k l m o low all e = omega (arith, all, e)
seen_is (suc (suc (suc zero))) b n h k l m o low all e = omega (arith, all, e)
seen_is (suc (suc (suc (suc s)))) b n h k l m o low all e = absurd (omega (arith, low))

-- Which of the four, by its seat.
which : (ds : List Deed) (seat kind : ℕ) → seat ≤ 3 →
    cond (eqb seat 0) (number_of (concealed_tiles ds 0) kind)
    (cond (eqb seat 1) (number_of (concealed_tiles ds 1) kind) (cond (eqb seat 2) (number_of (concealed_tiles ds 2) kind)
    (number_of (concealed_tiles ds 3) kind))) ≡ number_of (concealed_tiles ds seat) kind
which ds zero kind low = refl
which ds (suc zero) kind low = refl
which ds (suc (suc zero)) kind low = refl
which ds (suc (suc (suc zero))) kind low = refl
which ds (suc (suc (suc (suc s)))) kind low = absurd (omega (arith, low))

pub sees : (red : Bool) (ds : List Deed) (brought counts : List ℕ) (held : Four (List ℕ)) (seat : ℕ) → seat ≤ 3 → all_fit red [] ds ≡ true → Brings (hand ds) brought → AllHold ds held →
    length counts ≡ 34 → ((kind : ℕ) → get_or counts kind 0 ≡ seen_of brought held seat kind) → counts ≡ kind_counts (seen_tiles (hand ds) seat)
sees red ds brought counts held seat low fit brings holds long is =
    same_number_lists counts (kind_counts (seen_tiles (hand ds) seat)) (long ∙ sym (length-kind_counts (seen_tiles (hand ds) seat)))
    (λ kind inside. let small : kind < 34 = omega (arith, inside, long) in at kind small ∙ sym (get_or-kind_counts (seen_tiles (hand ds) seat) kind small))
  where
    held_by : (s : ℕ) → s ≤ 3 → (kind : ℕ) → number_of (tiles_held (at_seat held s)) kind ≡ number_of (concealed_tiles (hand ds) s) kind
    held_by s small kind = ap (λ (xs : List ℕ). number_of xs kind) (tiles_are (hand ds) s (at_seat held s) (holds s small))

    seen : (kind : ℕ) → get_or counts kind 0 ≡ get_or brought kind 0
        - cond (eqb seat 0) 0 (number_of (concealed_tiles (hand ds) 0) kind) - cond (eqb seat 1) 0 (number_of (concealed_tiles (hand ds) 1) kind)
        - cond (eqb seat 2) 0 (number_of (concealed_tiles (hand ds) 2) kind) - cond (eqb seat 3) 0 (number_of (concealed_tiles (hand ds) 3) kind)
    seen kind =
        is kind
        ∙ (λ i. get_or brought kind 0 - cond (eqb seat 0) 0 (held_by 0 (omega arith) kind i) - cond (eqb seat 1) 0 (held_by 1 (omega arith) kind i)
        - cond (eqb seat 2) 0 (held_by 2 (omega arith) kind i) - cond (eqb seat 3) 0 (held_by 3 (omega arith) kind i))

    at : (kind : ℕ) → kind < 34 → get_or counts kind 0 ≡ number_of (seen_tiles (hand ds) seat) kind
    at kind small =
        seen_is seat (get_or brought kind 0) (get_or counts kind 0) _ _ _ _ (number_of (open_tiles (hand ds)) kind) low (tiles_are_held_or_open red ds kind fit ∙ sym (brings kind small)) (seen kind)
        ∙ ap (λ n. n + number_of (open_tiles (hand ds)) kind) (which (hand ds) seat kind low)
        ∙ sym (number_of-append (concealed_tiles (hand ds) seat) (open_tiles (hand ds)) kind)

-- So of the deeds that a table stands for.
pub table_sees : (rules : Rules) (ds : List Deed) (played : Play) (facts : HandFacts) (counts : List ℕ) (held : Four (List ℕ)) (seat : ℕ) → seat ≤ 3 →
    all_fit rules.red [] ds ≡ true → Knows (hand ds) facts → AllHold ds held →
    record { rules = rules; deeds = ds } ≡ played → length counts ≡ 34 → ((kind : ℕ) → get_or counts kind 0 ≡ seen_of facts.brought held seat kind) →
    counts ≡ kind_counts (seen_tiles (hand played.deeds) seat)
table_sees rules ds played facts counts held seat low fit known holds is long numbers =
    sees rules.red ds facts.brought counts held seat low fit known.brought holds long numbers ∙ ap (λ (p : Play). kind_counts (seen_tiles (hand p.deeds) seat)) is

-- No kind was brought in more than four times.
pub few_brought : (rules : Rules) (ds : List Deed) (facts : HandFacts) → all_fit rules.red [] ds ≡ true → Knows (hand ds) facts → (kind : ℕ) → kind < 34 → get_or facts.brought kind 0 ≤ 4
few_brought rules ds facts fit known kind small = few _ _ (known.brought kind small) (four_of_kind rules.red ds kind small fit)
  where
    few : (n m : ℕ) → n ≡ m → m ≤ 4 → n ≤ 4
    few n m e h = omega (arith, e, h)
