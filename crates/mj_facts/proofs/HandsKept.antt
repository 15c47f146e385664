-- What is kept of the newest hand, a deed further.
use Rattle.std.proofs.Common.{◌≡◌, ℕ, suc, ◌+◌, ◌==◌, ◌<◌, ◌≤◌, not, Bool, true, false, List, [], ◌∷◌, ◌++◌, length, get_or, cond, refl, sym, ap, ◌∙◌, subst, arith}
use Rattle.std.specs.Prelude.{flat_map}
use Rattle.std.proofs.lemmas.Bool.{ne_eqb}
use Rattle.std.proofs.lemmas.Grind.{common_steps}
use Rattle.mj_tiles.specs.Counts.{number_of}
use Rattle.mj_tiles.proofs.CountSteps.{number_of-append}
use Rattle.mj_deeds.specs.declared.deed.Deed.{Deed}
use Rattle.mj_deeds.specs.Facts.{is_kan, kans, is_live_draw, live_draws}
use Rattle.mj_deeds.specs.Fits.{brought_by}
use Rattle.mj_deeds.specs.Hand.{is_hand_start}
use Rattle.mj_deeds.proofs.Fitted.{kept}
use Rattle.mj_facts.proofs.Gathered.{one_more}
use Rattle.mj_facts.specs.declared.hand_facts.HandFacts.{HandFacts}
use Rattle.mj_facts.specs.Hands.{hand_with}
use Rattle.mj_facts.specs.Hands.{Brings, Knows, Few}

-- how many

pub kans_more : (ds : List Deed) (d : Deed) → kans (ds ++ d ∷ []) ≡ kans ds + cond (is_kan d) 1 0
kans_more ds d = grind (arith, common_steps)

pub draws_more : (ds : List Deed) (d : Deed) → live_draws (ds ++ d ∷ []) ≡ live_draws ds + cond (is_live_draw d) 1 0
draws_more ds d = grind (arith, common_steps)

counted_is : (kept n m most result : ℕ) (b more : Bool) → kept ≡ n → m ≡ n + cond b 1 0 → m ≤ most → most ≤ 255 → more ≡ b → (kept + cond more 1 0 ≤ 255 → result ≡ kept + cond more 1 0) → result ≡ m
counted_is kept n m most result b more e f few small is told = by_test b more is f told
  where
    by_test : (b more : Bool) → more ≡ b → m ≡ n + cond b 1 0 → (kept + cond more 1 0 ≤ 255 → result ≡ kept + cond more 1 0) → result ≡ m
    by_test true true h f k =
        let now : result ≡ kept + 1 = k (omega (arith, e, f, few, small)) in
        omega (arith, e, f, now)
    by_test false false h f k =
        let now : result ≡ kept + 0 = k (omega (arith, e, f, few, small)) in
        omega (arith, e, f, now)
    by_test true false h f k = cc
    by_test false true h f k = cc

-- How many live tiles were drawn, and how many kans were made, with one deed more.
pub drawn_with : (ds : List Deed) (d : Deed) (kept result : ℕ) (more : Bool) → live_draws (ds ++ d ∷ []) ≤ 70 → kept ≡ live_draws ds → more ≡ is_live_draw d →
    (kept + cond more 1 0 ≤ 255 → result ≡ kept + cond more 1 0) → result ≡ live_draws (ds ++ d ∷ [])
drawn_with ds d kept result more few was is told = counted_is kept (live_draws ds) (live_draws (ds ++ d ∷ [])) 70 result (is_live_draw d) more was (draws_more ds d) few (omega arith) is told

pub kans_with : (ds : List Deed) (d : Deed) (kept result : ℕ) (more : Bool) → kans (ds ++ d ∷ []) ≤ 4 → kept ≡ kans ds → more ≡ is_kan d →
    (kept + cond more 1 0 ≤ 255 → result ≡ kept + cond more 1 0) → result ≡ kans (ds ++ d ∷ [])
kans_with ds d kept result more few was is told = counted_is kept (kans ds) (kans (ds ++ d ∷ [])) 4 result (is_kan d) more was (kans_more ds d) few (omega arith) is told

-- How many tiles of each kind were brought in.
pub brought_with : (ds : List Deed) (d : Deed) (kept result : List ℕ) → ((kind : ℕ) → kind < 34 → number_of (flat_map brought_by (ds ++ d ∷ [])) kind ≤ 4) → Brings ds kept →
    ((kind : ℕ) → get_or kept kind 0 + number_of (brought_by d) kind ≤ 255 → get_or result kind 0 ≡ get_or kept kind 0 + number_of (brought_by d) kind) → Brings (ds ++ d ∷ []) result
brought_with ds d kept result few was told kind small =
    sum _ _ _ _ _ (was kind small) (number_with kind) (few kind small) (told kind)
  where
    number_with : (kind : ℕ) → number_of (flat_map brought_by (ds ++ d ∷ [])) kind ≡ number_of (flat_map brought_by ds) kind + number_of (brought_by d) kind
    number_with kind = ap (λ (xs : List ℕ). number_of xs kind) (one_more brought_by ds d) ∙ number_of-append (flat_map brought_by ds) (brought_by d) kind

    sum : (n k g m a : ℕ) → k ≡ g → m ≡ g + a → m ≤ 4 → (k + a ≤ 255 → n ≡ k + a) → n ≡ m
    sum n k g m a e f h t =
        let now : n ≡ k + a = t (omega (arith, e, f, h)) in
        omega (arith, e, f, now)

-- the hand

no_items : (xs : List Deed) → false ≡ not (length xs == 0) → xs ≡ []
no_items [] h = refl
no_items (x ∷ xs) h = absurd (both (h ∙ ap not (ne_eqb (suc (length xs)) 0 (λ e. omega (arith, e)))))
  where
    both : false ≡ true → ⊥
    both p = cc

-- Of a hand with a deed more, which it begins with, belongs to, or stands before.
pub at_start : (before : List Deed) (d : Deed) (after : HandFacts) → is_hand_start d ≡ true → Knows ([] ++ d ∷ []) after → Knows (hand_with before d) after
at_start before d after h k = subst (λ (b : Bool). Knows (cond b (d ∷ []) (cond (length before == 0) [] (before ++ d ∷ []))) after) (sym h) k

pub few_at_start : (before : List Deed) (d : Deed) → is_hand_start d ≡ true → Few (hand_with before d) → Few ([] ++ d ∷ [])
few_at_start before d h k = subst (λ (b : Bool). Few (cond b (d ∷ []) (cond (length before == 0) [] (before ++ d ∷ [])))) h k

whole : (before : List Deed) (d : Deed) → is_hand_start d ≡ false → true ≡ not (length before == 0) → hand_with before d ≡ before ++ d ∷ []
whole before d h some =
    ap (λ (b : Bool). cond b (d ∷ []) (cond (length before == 0) [] (before ++ d ∷ []))) h ∙ by_test (length before == 0) some
  where
    by_test : (b : Bool) → true ≡ not b → cond b [] (before ++ d ∷ []) ≡ before ++ d ∷ []
    by_test true e = cc
    by_test false e = refl

pub within_hand : (before : List Deed) (d : Deed) (after : HandFacts) → is_hand_start d ≡ false → true ≡ not (length before == 0) → Knows (before ++ d ∷ []) after → Knows (hand_with before d) after
within_hand before d after h some k = subst (λ (xs : List Deed). Knows xs after) (sym (whole before d h some)) k

pub few_within : (before : List Deed) (d : Deed) → is_hand_start d ≡ false → true ≡ not (length before == 0) → Few (hand_with before d) → Few (before ++ d ∷ [])
few_within before d h some k = subst Few (whole before d h some) k

pub before_hand : (before : List Deed) (d : Deed) (facts : HandFacts) → is_hand_start d ≡ false → false ≡ not (length before == 0) → Knows before facts → Knows (hand_with before d) facts
before_hand before d facts h none k =
    subst (λ (xs : List Deed). Knows (hand_with xs d) facts) (sym empty)
    (subst (λ (b : Bool). Knows (cond b (d ∷ []) []) facts) (sym h) (subst (λ (xs : List Deed). Knows xs facts) empty k))
  where
    empty : before ≡ []
    empty = no_items before none

pub some_deeds : (ds : List Deed) (d : Deed) → true ≡ not (length (ds ++ d ∷ []) == 0)
some_deeds [] d = refl
some_deeds (x ∷ ds) d = sym (ap not (ne_eqb (suc (length (ds ++ d ∷ []))) 0 (λ e. omega (arith, e))))
