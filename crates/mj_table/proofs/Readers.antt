-- What a table of deeds that fit holds, and what none of the deeds so far changes.
use Rattle.std.proofs.Common.{◌≡◌, ℕ, zero, suc, ◌+◌, ◌<◌, ◌≤◌, ◌-◌, ◌==◌, ◌||◌, ◌⊎◌, inl, inr, not, List, [], ◌∷◌}
use Rattle.std.proofs.Common.{◌++◌, length, cond, eqb, get_or, true, false, Bool, refl, sym, ap, ◌∙◌, subst, arith}
use Rattle.std.specs.Prelude.{flat_map, filter, Option, Some, None, ℤ, pos}
use Rattle.std.specs.List.{list_any}
use Rattle.std.proofs.lemmas.Bool.{cases_lt, ne_eqb}
use Rattle.std.proofs.lemmas.List.{get_or_past}
use Rattle.std.proofs.lemmas.List.Concat.{flat_map-cons}
use Rattle.std.proofs.lemmas.List.Sums.{sum_by-append}
use Rattle.mj_tiles.specs.Faces.{kind_of}
use Rattle.mj_tiles.specs.Counts.{number_of, kind_counts, NoFifth}
use Rattle.mj_tiles.proofs.CountSteps.{length-kind_counts, get_or-kind_counts}
use Rattle.mj_wall.proofs.TileOrder.{count_by-less}
use Rattle.mj_deeds.specs.declared.deed.Deed.{Deed}
use Rattle.mj_deeds.specs.declared.deed.Deed.TheVariants.{StartHand, Draw}
use Rattle.mj_deeds.specs.Facts.{gains_by, tiles_gained, tiles_lost, concealed_tiles}
use Rattle.mj_deeds.specs.Fits.{ground_of, fits, fits_in, is_in_place, all_fit, brought_by, has_points}
use Rattle.mj_deeds.specs.Hand.{is_hand_start, from_last, hand, before_in, starts}
use Rattle.mj_deeds.specs.Facts.{newest}
use Rattle.mj_deeds.specs.Points.{points, deposits, changed, is_win, is_deposit}
use Rattle.mj_deeds.specs.Standings.{standing, standing_by}
use Rattle.mj_rounds.specs.Rounds.{first_standing}
use Rattle.mj_rounds.specs.declared.rounds.Standing.{Standing}
use Rattle.mj_deeds.proofs.HandSteps.{behind, hand_more, standing_stays, standing_starts, standing_hand}
use Rattle.mj_deeds.proofs.Newest.{newest_more}
use Rattle.mj_deeds.proofs.PointLaws.{all_points_more, deposits_more}
use Rattle.mj_deeds.proofs.Deposits.{few_deposits}
use Rattle.mj_deeds.proofs.Standings.{few_hands}
use Rattle.mj_facts.proofs.OneMore.{number_of-cons}
use Rattle.mj_table.proofs.InHand.{has_start}
use Rattle.mj_table.proofs.LatestKept.{previous_is_with}
use Rattle.mj_wall.specs.declared.setting.Rules.{Rules}
use Rattle.mj_table.specs.Plays.{Play}
use Rattle.mj_deeds.specs.declared.four.Four.{Four}
use Rattle.mj_deeds.specs.Four.{at_seat}
use Rattle.mj_facts.specs.declared.hand_facts.HandFacts.{HandFacts}
use Rattle.mj_facts.specs.Hands.{Knows, hand_with}
use Rattle.mj_facts.specs.Holding.{Holds}
use Rattle.mj_table.specs.Inner.Kept.{Stands, beside}
use Rattle.mj_table.specs.Inner.Latest.{previous_with}
use Rattle.mj_deeds.proofs.FitSteps.{number_of_four}
use Rattle.mj_deeds.proofs.Fitted.{all_fit-append, four_of_kind, parts_of}

-- the tiles that are held

dealt_within : (a b c d : List ℕ) (indicator kind : ℕ) (p q r : Bool) →
    number_of (cond p a (cond q b (cond r c d))) kind ≤ number_of (indicator ∷ a ++ b ++ c ++ d) kind
dealt_within a b c d indicator kind p q r =
    part p q r _ (number_of-cons indicator (a ++ b ++ c ++ d) kind) (number_of_four a b c d kind)
  where
    part : (p q r : Bool) (n : ℕ) → number_of (indicator ∷ a ++ b ++ c ++ d) kind ≡ n + number_of (a ++ b ++ c ++ d) kind →
        number_of (a ++ b ++ c ++ d) kind ≡ number_of a kind + number_of b kind + number_of c kind + number_of d kind →
        number_of (cond p a (cond q b (cond r c d))) kind ≤ number_of (indicator ∷ a ++ b ++ c ++ d) kind
    part true q r n e h = omega (arith, e, h)
    part false true r n e h = omega (arith, e, h)
    part false false true n e h = omega (arith, e, h)
    part false false false n e h = omega (arith, e, h)

drawn_within : (tile kind : ℕ) (b : Bool) → number_of (cond b (tile ∷ []) []) kind ≤ number_of (tile ∷ []) kind
drawn_within tile kind true = omega arith
drawn_within tile kind false = omega arith

gains_within : (seat kind : ℕ) (d : Deed) → number_of (gains_by seat d) kind ≤ number_of (brought_by d) kind
gains_within seat kind (StartHand round number honba deposits dealer indicator hands) =
    dealt_within hands.first hands.second hands.third hands.fourth indicator kind (eqb seat 0) (eqb seat 1) (eqb seat 2)
gains_within seat kind (Draw who tile replacement) = drawn_within tile kind (eqb who seat)
gains_within seat kind other = omega arith

-- A seat was given no more tiles than were brought in.
pub gained_within : (ds : List Deed) (seat kind : ℕ) → number_of (tiles_gained ds seat) kind ≤ number_of (flat_map brought_by ds) kind
gained_within [] seat kind = omega arith
gained_within (d ∷ ds) seat kind =
    sum _ _ _ _ _ _
    (ap (λ (xs : List ℕ). number_of xs kind) (flat_map-cons (gains_by seat) d ds) ∙ sum_by-append (λ t. cond (eqb (kind_of t) kind) 1 0) (gains_by seat d) (tiles_gained ds seat))
    (ap (λ (xs : List ℕ). number_of xs kind) (flat_map-cons brought_by d ds) ∙ sum_by-append (λ t. cond (eqb (kind_of t) kind) 1 0) (brought_by d) (flat_map brought_by ds))
    (gains_within seat kind d) (gained_within ds seat kind)
  where
    sum : (n m a b c e : ℕ) → n ≡ a + b → m ≡ c + e → a ≤ c → b ≤ e → n ≤ m
    sum n m a b c e h k l o = omega (arith, h, k, l, o)

-- A seat of deeds that fit holds no kind more than four times.
pub holds_few : (red : Bool) (ds : List Deed) (seat : ℕ) → all_fit red [] ds ≡ true → NoFifth (kind_counts (concealed_tiles (hand ds) seat))
holds_few red ds seat fit kind = by_kind (cases_lt kind 34)
  where
    chain : (a b c d : ℕ) → a ≡ b → b ≤ c → c ≤ d → d ≤ 4 → a ≤ 4
    chain a b c d e h k l = omega (arith, e, h, k, l)

    past : (a : ℕ) → a ≡ 0 → a ≤ 4
    past a e = omega (arith, e)

    by_kind : (kind < 34) ⊎ (34 ≤ kind) → get_or (kind_counts (concealed_tiles (hand ds) seat)) kind 0 ≤ 4
    by_kind (inl small) =
        chain _ _ _ _ (get_or-kind_counts (concealed_tiles (hand ds) seat) kind small) (count_by-less (λ t. eqb (kind_of t) kind) (tiles_gained (hand ds) seat) (tiles_lost (hand ds) seat))
        (gained_within (hand ds) seat kind) (four_of_kind red ds kind small fit)
    by_kind (inr large) =
        past _ (get_or_past (kind_counts (concealed_tiles (hand ds) seat)) kind 0 (subst (λ (n : ℕ). n ≤ kind) (sym (length-kind_counts (concealed_tiles (hand ds) seat))) large))

-- the newest deed

not_empty : (n : ℕ) → (suc n == 0) ≡ false
not_empty n = ne_eqb (suc n) 0 (λ e. omega (arith, e))

-- one deed more

-- The newest hand with a deed more, by what is kept of it.
pub hand_is_with : (ds kept : List Deed) (d : Deed) → kept ≡ hand ds → hand_with kept d ≡ hand (ds ++ d ∷ [])
hand_is_with ds kept d e = ap (λ (h : List Deed). hand_with h d) e ∙ by_hand (is_hand_start d) (hand ds) ∙ sym (hand_more ds d)
  where
    by_hand : (b : Bool) (h : List Deed) → cond b (d ∷ []) (cond (length h == 0) [] (h ++ d ∷ [])) ≡ cond b (d ∷ []) (behind h d)
    by_hand true h = refl
    by_hand false [] = refl
    by_hand false (x ∷ xs) = ap (λ b. cond b [] (x ∷ (xs ++ d ∷ []))) (not_empty (length xs))

standing_is_with : (ds : List Deed) (d : Deed) (number : ℕ) → number ≡ length (starts ds) → cond (is_hand_start d) (standing_by number (Some d)) (standing ds) ≡ standing (ds ++ d ∷ [])
standing_is_with ds d number is = by_start (is_hand_start d) refl
  where
    by_start : (b : Bool) → is_hand_start d ≡ b → cond b (standing_by number (Some d)) (standing ds) ≡ standing (ds ++ d ∷ [])
    by_start true e = sym (standing_starts ds d e ∙ ap (λ (n : ℕ). standing_by n (Some d)) (sym is))
    by_start false e = sym (standing_stays ds d e)

deposits_are_with : (ds : List Deed) (d : Deed) (lying : ℕ) → lying ≡ deposits ds → cond (is_win d) 0 (lying + cond (is_deposit d) 1 0) ≡ deposits (ds ++ d ∷ [])
deposits_are_with ds d lying is = ap (λ (n : ℕ). cond (is_win d) 0 (n + cond (is_deposit d) 1 0)) is ∙ sym (deposits_more ds d)

pub stands_at_first : (rules : Rules) (ds : List Deed) (tiles : Four (List ℕ)) (facts : HandFacts) → ds ≡ [] → ((seat : ℕ) → seat ≤ 3 → Holds [] seat (at_seat tiles seat)) →
    Knows [] facts → Stands rules ds None None first_standing (pos 30000 ∷ pos 30000 ∷ pos 30000 ∷ pos 30000 ∷ []) 0 tiles facts
unfolding hand
stands_at_first rules ds tiles facts e none kept_of =
    subst (λ (xs : List Deed). Stands rules xs None None first_standing (pos 30000 ∷ pos 30000 ∷ pos 30000 ∷ pos 30000 ∷ []) 0 tiles facts) (sym e)
    (record { fit = refl; latest = refl; previous = refl; standing = refl; points = refl; deposits = refl; concealed = none; facts = kept_of })

pub stands_more : (rules : Rules) (ds : List Deed) (last before : Option Deed) (now : Standing) (held : List ℤ) (lying number : ℕ)
    (tiles more : Four (List ℕ)) (facts after : HandFacts) (d : Deed) → Stands rules ds last before now held lying tiles facts →
    fits rules.red ds d ≡ true → number ≡ length (starts ds) → ((seat : ℕ) → seat ≤ 3 → Holds (hand (ds ++ d ∷ [])) seat (at_seat more seat)) → Knows (hand (ds ++ d ∷ [])) after →
    Stands rules (ds ++ d ∷ []) (Some d) (previous_with facts.begun before last d) (cond (is_hand_start d) (standing_by number (Some d)) now) (changed held d)
    (cond (is_win d) 0 (lying + cond (is_deposit d) 1 0)) more after
stands_more rules ds last before now held lying number tiles more facts after d s one is moved seats = record {
  fit = all_fit-append rules.red [] ds d s.fit one;
  latest = sym (newest_more ds d);
  previous = previous_is_with ds before last d facts.begun s.facts.begun s.latest s.previous;
  standing = ap (λ (n : Standing). cond (is_hand_start d) (standing_by number (Some d)) n) s.standing ∙ standing_is_with ds d number is;
  points = ap (λ (p : List ℤ). changed p d) s.points ∙ sym (all_points_more ds d);
  deposits = deposits_are_with ds d lying s.deposits;
  concealed = moved;
  facts = seats;
}

-- What stands for deeds stands for the same ones in other words.
pub stands_for : (rules : Rules) (ds xs : List Deed) (last l before b : Option Deed) (now n : Standing) (held p : List ℤ) (lying m : ℕ)
    (tiles : Four (List ℕ)) (facts : HandFacts) → Stands rules ds last before now held lying tiles facts →
    xs ≡ ds → l ≡ last → b ≡ before → n ≡ now → p ≡ held → m ≡ lying → Stands rules xs l b n p m tiles facts
stands_for rules ds xs last l before b now n held p lying m tiles facts s e h k f g o = record {
  fit = subst (λ (ys : List Deed). all_fit rules.red [] ys ≡ true) (sym e) s.fit;
  latest = h ∙ s.latest ∙ ap newest (sym e);
  previous = k ∙ s.previous ∙ ap beside (sym e);
  standing = f ∙ s.standing ∙ ap standing (sym e);
  points = g ∙ s.points ∙ ap points (sym e);
  deposits = o ∙ s.deposits ∙ ap deposits (sym e);
  concealed = λ seat low. subst (λ (ys : List Deed). Holds (hand ys) seat (at_seat tiles seat)) (sym e) (s.concealed seat low);
  facts = subst (λ (ys : List Deed). Knows (hand ys) facts) (sym e) s.facts;
}

-- the number of the next hand

none_kept : {A : Type 0} (p : A → Bool) (xs : List A) → list_any p xs ≡ false → filter p xs ≡ []
none_kept p [] h = refl
none_kept {A = A} p (x ∷ xs) h = by_test (p x) h (none_kept p xs)
  where
    by_test : (b : Bool) → (b || list_any p xs) ≡ false → (list_any p xs ≡ false → filter p xs ≡ []) → cond b (x ∷ filter p xs) (filter p xs) ≡ []
    by_test true k others = cc
    by_test false k others = others k

some_kept : {A : Type 0} (p : A → Bool) (xs : List A) → list_any p xs ≡ true → 0 < length (filter p xs)
some_kept p [] h = cc
some_kept {A = A} p (x ∷ xs) h = by_test (p x) h (some_kept p xs)
  where
    some : (n : ℕ) → 0 < suc n
    some n = omega arith

    by_test : (b : Bool) → (b || list_any p xs) ≡ true → (list_any p xs ≡ true → 0 < length (filter p xs)) → 0 < length (cond b (x ∷ filter p xs) (filter p xs))
    by_test true k others = some (length (filter p xs))
    by_test false k others = others k

some_from : {A : Type 0} (p : A → Bool) (xs : List A) → list_any p xs ≡ true → from_last p xs ≡ [] → ⊥
some_from p [] h e = cc
some_from {A = A} p (x ∷ xs) h e = by_tests (list_any p xs) (p x) refl h e (some_from p xs)
  where
    by_tests : (a b : Bool) → list_any p xs ≡ a → (b || a) ≡ true → cond a (from_last p xs) (cond b (x ∷ xs) []) ≡ [] → (list_any p xs ≡ true → from_last p xs ≡ [] → ⊥) → ⊥
    by_tests true b t h e others = others t e
    by_tests false true t h e others = cc
    by_tests false false t h e others = cc

-- No hand was started where the newest one is empty, and as many as its number says with it where it is not.
pub none_started : (ds kept : List Deed) → kept ≡ hand ds → length kept ≡ 0 → 0 ≡ length (starts ds)
unfolding hand
none_started ds kept is empty = by_test (list_any is_hand_start ds) refl
  where
    no_items : (xs : List Deed) → length xs ≡ 0 → xs ≡ []
    no_items [] h = refl
    no_items (x ∷ xs) h = cc

    by_test : (b : Bool) → list_any is_hand_start ds ≡ b → 0 ≡ length (starts ds)
    by_test true e = absurd (some_from is_hand_start ds e (sym is ∙ no_items kept empty))
    by_test false e = ap length (sym (none_kept is_hand_start ds e))

pub next_started : (ds kept : List Deed) (now : Standing) → kept ≡ hand ds → now ≡ standing ds → 0 < length kept → now.hand + 1 ≡ length (starts ds)
unfolding hand
next_started ds kept now is at some = by_hand kept is some
  where
    plus : (n m l : ℕ) → n ≡ m → m ≡ l - 1 → 0 < l → n + 1 ≡ l
    plus n m l e h k = omega (arith, e, h, k)

    by_hand : (h : List Deed) → h ≡ hand ds → 0 < length h → now.hand + 1 ≡ length (starts ds)
    by_hand [] e k = absurd (omega (arith, k))
    by_hand (x ∷ xs) e k = plus _ _ _ (ap (λ (n : Standing). n.hand) at) (standing_hand ds) (some_kept is_hand_start ds (has_start ds x xs (sym e)))

-- The newest hand has no deeds where it hasn't begun, and some where it has.
empty_hand : (n : ℕ) → false ≡ not (n == 0) → n ≡ 0
empty_hand zero h = refl
empty_hand (suc n) h = absurd (both (h ∙ ap not (ne_eqb (suc n) 0 (λ e. omega (arith, e)))))
  where
    both : false ≡ true → ⊥
    both p = cc

some_hand_items : (n : ℕ) → true ≡ not (n == 0) → 0 < n
some_hand_items zero h = cc
some_hand_items (suc n) h = omega arith

pub none_numbered : (ds : List Deed) (begun : Bool) → begun ≡ not (length (hand ds) == 0) → begun ≡ false → 0 ≡ length (starts ds)
none_numbered ds begun is h = none_started ds (hand ds) refl (empty_hand (length (hand ds)) (sym h ∙ is))

pub next_numbered : (ds : List Deed) (begun : Bool) (now : Standing) → begun ≡ not (length (hand ds) == 0) → begun ≡ true → now ≡ standing ds → now.hand + 1 ≡ length (starts ds)
next_numbered ds begun now is h at = next_started ds (hand ds) now refl at (some_hand_items (length (hand ds)) (sym h ∙ is))

-- A game has at most 200 hands, and at most 800 deposits lie on its table.
pub few_numbers : (red : Bool) (ds : List Deed) (now : Standing) → all_fit red [] ds ≡ true → now ≡ standing ds → now.hand ≤ 200
few_numbers red ds now fit at = few _ _ _ (ap (λ (n : Standing). n.hand) at) (standing_hand ds) (few_hands red ds fit)
  where
    few : (n m l : ℕ) → n ≡ m → m ≡ l - 1 → l ≤ 200 → n ≤ 200
    few n m l e h k = omega (arith, e, h, k)

pub few_lie : (red : Bool) (ds : List Deed) (lying : ℕ) → all_fit red [] ds ≡ true → lying ≡ deposits ds → lying ≤ 800
few_lie red ds lying fit e = subst (λ (n : ℕ). n ≤ 800) (sym e) (few_deposits red ds fit)

-- A deed that fits says the points that it gives.
pub points_fit : (red : Bool) (ds : List Deed) (held : List ℤ) (d : Deed) → fits red ds d ≡ true → held ≡ points ds → has_points held d ≡ true
points_fit red ds held d one e = ap (λ (p : List ℤ). has_points p d) e ∙ (parts_of red ds d one).pointed

-- What a deed is held against.
pub ground_told : (ds : List Deed) (last : Option Deed) (now : Standing) (held : List ℤ) (lying : ℕ) (d : Deed) (result : Bool) → last ≡ newest ds →
    now ≡ standing ds → held ≡ points ds → lying ≡ deposits ds →
    result ≡ is_in_place (record { newest = last; hand = hand ds; standing = now; points = held; deposits = lying }) d → result ≡ is_in_place (ground_of ds) d
unfolding ground_of
ground_told ds last now held lying d result a b c e is = is ∙ (λ i. is_in_place (record { newest = a i; hand = hand ds; standing = b i; points = c i; deposits = e i }) d)

-- A deed fits in its hand: a start is alone in it.
pub inside_told : (rules : Rules) (ds : List Deed) (played : Play) (d : Deed) (start result : Bool) (h : List Deed) → record {
  rules = rules;
  deeds = ds;
} ≡ played → start ≡ is_hand_start d → h ≡ cond start [] (hand ds) →
    result ≡ fits_in rules.red h d → result ≡ fits_in played.rules.red (before_in (hand played.deeds) d) d
inside_told rules ds played d start result h is at e told =
    told ∙ ap (λ (xs : List Deed). fits_in rules.red xs d) (e ∙ ap (λ b. cond b [] (hand ds)) at) ∙ ap (λ (p : Play). fits_in p.rules.red (before_in (hand p.deeds) d) d) is

-- What a table stands for, by its parts.
pub fit_within : (rules : Rules) (ds : List Deed) (played : Play) (d : Deed) → record { rules = rules; deeds = ds } ≡ played → fits played.rules.red played.deeds d ≡ true →
    fits rules.red ds d ≡ true
fit_within rules ds played d is one = subst (λ (p : Play). fits p.rules.red p.deeds d ≡ true) (sym is) one
