-- The deeds before the winners are named: no fact of a hand but its winners changes where wins are left out.
use Rattle.std.proofs.Common.{◌≡◌, ℕ, suc, ◌+◌, ◌-◌, ◌==◌, Bool, true, false, not, cond, ◌||◌, ◌&&◌, List, [], ◌∷◌, ◌++◌, length, refl, sym, ap, ◌∙◌, arith, append-nil}
use Rattle.std.specs.Prelude.{count_by, flat_map, map}
use Rattle.std.specs.List.{list_any}
use Rattle.std.proofs.lemmas.Bool.{ne_eqb}
use Rattle.std.proofs.lemmas.List.Elements.{filter-append}
use Rattle.std.proofs.lemmas.List.Sums.{sum_by-cons}
use Rattle.mj_deeds.specs.declared.deed.Deed.{Deed}
use Rattle.mj_deeds.specs.declared.deed.Deed.TheVariants.{Win}
use Rattle.mj_deeds.specs.Course.{before_wins}
use Rattle.mj_deeds.specs.Ends.{winners, winners_by}
use Rattle.mj_deeds.specs.Facts.{gains_by, tiles_gained, losses_by, tiles_lost, makes_by, adds_by, with_added, seat_melds, indicators_by, indicators, is_discard_by, is_kan, is_live_draw, live_tiles}
use Rattle.mj_deeds.specs.Firsts.{ends_first, is_first}
use Rattle.mj_deeds.specs.Hand.{is_hand_start}
use Rattle.mj_deeds.specs.Points.{is_win}
use Rattle.mj_deeds.specs.Riichi.{is_reach_by, is_accepted_by, is_in_riichi, before_first, behind_first, behind_reach, is_double, is_ippatsu}
use Rattle.mj_tiles.specs.declared.meld.Meld.{Meld}
use Rattle.mj_deeds.proofs.RiichiLaws.{is_broken, is_added, ippatsu_more}

-- A test that no win passes.
abbrev Quiet : (Deed → Bool) → Type 0
Quiet p = (d : Deed) → is_win d ≡ true → p d ≡ false

any_without : (p : Deed → Bool) → Quiet p → (ds : List Deed) → list_any p (before_wins ds) ≡ list_any p ds
any_without p quiet [] = refl
any_without p quiet (d ∷ ds) = by_test (is_win d) refl (any_without p quiet ds)
  where
    by_test : (b : Bool) → is_win d ≡ b → list_any p (before_wins ds) ≡ list_any p ds → list_any p (cond (not b) (d ∷ before_wins ds) (before_wins ds)) ≡ (p d || list_any p ds)
    by_test true e h = h ∙ ap (λ c. c || list_any p ds) (sym (quiet d e))
    by_test false e h = ap (λ c. p d || c) h

behind_without : (p : Deed → Bool) → Quiet p → (ds : List Deed) → behind_first p (before_wins ds) ≡ before_wins (behind_first p ds)
behind_without p quiet [] = refl
behind_without p quiet (d ∷ ds) = by_test (is_win d) refl (behind_without p quiet ds)
  where
    here : (c : Bool) → behind_first p (before_wins ds) ≡ before_wins (behind_first p ds) → cond c (before_wins ds) (behind_first p (before_wins ds)) ≡ before_wins (cond c ds (behind_first p ds))
    here true h = refl
    here false h = h

    by_test : (b : Bool) → is_win d ≡ b → behind_first p (before_wins ds) ≡ before_wins (behind_first p ds) →
        behind_first p (cond (not b) (d ∷ before_wins ds) (before_wins ds)) ≡ before_wins (cond (p d) ds (behind_first p ds))
    by_test true e h = h ∙ ap (λ c. before_wins (cond c ds (behind_first p ds))) (sym (quiet d e))
    by_test false e h = here (p d) h

no_discard : (seat : ℕ) → Quiet (is_discard_by seat)
no_discard seat (Win who target tile unders hand yaku fu han value deltas points rest) h = refl
no_discard seat other h = cc

no_reach : (seat : ℕ) → Quiet (is_reach_by seat)
no_reach seat (Win who target tile unders hand yaku fu han value deltas points rest) h = refl
no_reach seat other h = cc

not_accepted : (seat : ℕ) → Quiet (is_accepted_by seat)
not_accepted seat (Win who target tile unders hand yaku fu han value deltas points rest) h = refl
not_accepted seat other h = cc

no_end : (seat : ℕ) → Quiet (ends_first seat)
no_end seat (Win who target tile unders hand yaku fu han value deltas points rest) h = refl
no_end seat other h = cc

-- No fact of riichi changes.
pub riichi_without : (ds : List Deed) (seat : ℕ) → is_in_riichi (before_wins ds) seat ≡ is_in_riichi ds seat
riichi_without ds seat = any_without (is_accepted_by seat) (not_accepted seat) ds

broken_without : (ds : List Deed) (seat : ℕ) → is_broken (before_wins ds) seat ≡ is_broken ds seat
broken_without ds seat =
    ap (λ (xs : List Deed). list_any (ends_first seat) (behind_first (is_discard_by seat) xs)) (behind_without (is_reach_by seat) (no_reach seat) ds)
    ∙ ap (list_any (ends_first seat)) (behind_without (is_discard_by seat) (no_discard seat) (behind_first (is_reach_by seat) ds))
    ∙ any_without (ends_first seat) (no_end seat) (behind_reach ds seat)

-- What stands before the winners, with one deed more.
pub before_wins-more : (ds : List Deed) (d : Deed) → before_wins (ds ++ d ∷ []) ≡ before_wins ds ++ cond (not (is_win d)) (d ∷ []) []
before_wins-more ds d = filter-append (λ deed. not (is_win deed)) ds (d ∷ [])

-- After a win the deeds before the winners are those before it.
pub behind_win : (all ds : List Deed) (d : Deed) → all ≡ ds ++ d ∷ [] → is_win d ≡ true → before_wins all ≡ before_wins ds
behind_win all ds d is e = ap before_wins is ∙ before_wins-more ds d ∙ ap (λ b. before_wins ds ++ cond (not b) (d ∷ []) []) e ∙ append-nil (before_wins ds)

-- Of deeds whose newest is no win the ippatsu is the same where wins are left out.
pub ippatsu_without : (all ds : List Deed) (d : Deed) (seat : ℕ) → all ≡ ds ++ d ∷ [] → is_win d ≡ false → is_ippatsu all seat ≡ is_ippatsu (before_wins all) seat
ippatsu_without all ds d seat is e =
    ap (λ (xs : List Deed). is_ippatsu xs seat) is
    ∙ ippatsu_more ds d seat
    ∙ same (sym (riichi_without ds seat)) (sym (broken_without ds seat)) (sym (broken_without (ds ++ d ∷ []) seat) ∙ ap (λ (xs : List Deed). is_broken xs seat) with_it)
    ∙ sym (ippatsu_more (before_wins ds) d seat)
    ∙ sym (ap (λ (xs : List Deed). is_ippatsu xs seat) (ap before_wins is ∙ with_it))
  where
    with_it : before_wins (ds ++ d ∷ []) ≡ before_wins ds ++ d ∷ []
    with_it = before_wins-more ds d ∙ ap (λ b. before_wins ds ++ cond (not b) (d ∷ []) []) e

    same : {a b c f g k : Bool} → a ≡ b → c ≡ f → g ≡ k →
        ((a || is_accepted_by seat d) && not (cond (is_added d) c g)) ≡ ((b || is_accepted_by seat d) && not (cond (is_added d) f k))
    same p q r = λ i. (p i || is_accepted_by seat d) && not (cond (is_added d) (q i) (r i))

-- Some deed is a win exactly where there is a winner.
pub some_winner : (ds : List Deed) → list_any is_win ds ≡ not (length (winners ds) == 0)
some_winner [] = refl
some_winner (d ∷ ds) = by_deed d (some_winner ds)
  where
    some : (n : ℕ) → true ≡ not (suc n == 0)
    some n = sym (ap not (ne_eqb (suc n) 0 (λ e. omega (arith, e))))

    by_deed : (d : Deed) → list_any is_win ds ≡ not (length (winners ds) == 0) → (is_win d || list_any is_win ds) ≡ not (length (winners_by d ++ winners ds) == 0)
    by_deed (Win who target tile unders hand yaku fu han value deltas points rest) h = some (length (winners ds))
    by_deed other h = h

-- A start of a hand is no win.
no_start : Quiet is_hand_start
no_start (Win who target tile unders hand yaku fu han value deltas points rest) h = refl
no_start other h = cc

no_kan : Quiet is_kan
no_kan (Win who target tile unders hand yaku fu han value deltas points rest) h = refl
no_kan other h = cc

no_draw : Quiet is_live_draw
no_draw (Win who target tile unders hand yaku fu han value deltas points rest) h = refl
no_draw other h = cc

count_without : (p : Deed → Bool) → Quiet p → (ds : List Deed) → count_by p (before_wins ds) ≡ count_by p ds
count_without p quiet [] = refl
count_without p quiet (d ∷ ds) = by_test (is_win d) refl (count_without p quiet ds)
  where
    none : (n m : ℕ) → n ≡ m → n ≡ 0 + m
    none n m e = omega arith

    by_test : (b : Bool) → is_win d ≡ b → count_by p (before_wins ds) ≡ count_by p ds → count_by p (cond (not b) (d ∷ before_wins ds) (before_wins ds)) ≡ count_by p (d ∷ ds)
    by_test true e h =
        none _ _ h ∙ ap (λ c. cond c 1 0 + count_by p ds) (sym (quiet d e)) ∙ sym (sum_by-cons (λ x. cond (p x) 1 0) d ds)
    by_test false e h = sum_by-cons (λ x. cond (p x) 1 0) d (before_wins ds) ∙ ap (λ n. cond (p d) 1 0 + n) h ∙ sym (sum_by-cons (λ x. cond (p x) 1 0) d ds)

before_without : (p : Deed → Bool) → Quiet p → (ds : List Deed) → before_first p (before_wins ds) ≡ before_wins (before_first p ds)
before_without p quiet [] = refl
before_without p quiet (d ∷ ds) = by_test (is_win d) refl (before_without p quiet ds)
  where
    here : (c : Bool) → is_win d ≡ false → before_first p (before_wins ds) ≡ before_wins (before_first p ds) →
        cond c [] (d ∷ before_first p (before_wins ds)) ≡ before_wins (cond c [] (d ∷ before_first p ds))
    here true e h = refl
    here false e h = ap (λ (xs : List Deed). d ∷ xs) h ∙ ap (λ b. cond (not b) (d ∷ before_wins (before_first p ds)) (before_wins (before_first p ds))) (sym e)

    by_test : (b : Bool) → is_win d ≡ b → before_first p (before_wins ds) ≡ before_wins (before_first p ds) →
        before_first p (cond (not b) (d ∷ before_wins ds) (before_wins ds)) ≡ before_wins (cond (p d) [] (d ∷ before_first p ds))
    by_test true e h =
        h ∙ ap (λ b. cond (not b) (d ∷ before_wins (before_first p ds)) (before_wins (before_first p ds))) (sym e)
        ∙ ap (λ c. before_wins (cond c [] (d ∷ before_first p ds))) (sym (quiet d e))
    by_test false e h = here (p d) e h

-- The first turn, the riichi, the kans and the live tiles are the same.

pub first_without : (ds : List Deed) (seat : ℕ) → is_first (before_wins ds) seat ≡ is_first ds seat
first_without ds seat =
    let begun = any_without is_hand_start no_start ds in
    let ended = any_without (ends_first seat) (no_end seat) ds in
    λ i. begun i && not (ended i)

pub double_without : (ds : List Deed) (seat : ℕ) → is_double (before_wins ds) seat ≡ is_double ds seat
double_without ds seat =
    let reached = any_without (is_reach_by seat) (no_reach seat) ds in
    let before : is_first (before_first (is_reach_by seat) (before_wins ds)) seat ≡ is_first (before_first (is_reach_by seat) ds) seat =
    ap (λ (xs : List Deed). is_first xs seat) (before_without (is_reach_by seat) (no_reach seat) ds) ∙ first_without (before_first (is_reach_by seat) ds) seat in
    λ i. reached i && before i

pub live_without : (ds : List Deed) → live_tiles (before_wins ds) ≡ live_tiles ds
live_without ds =
    let drawn = count_without is_live_draw no_draw ds in
    let made = count_without is_kan no_kan ds in
    λ i. 70 - drawn i - made i

-- So are the tiles, the melds and the indicators.

pub gained_without : (ds : List Deed) (seat : ℕ) → tiles_gained (before_wins ds) seat ≡ tiles_gained ds seat
gained_without [] seat = refl
gained_without (Win who target tile unders hand yaku fu han value deltas points rest ∷ ds) seat = gained_without ds seat
gained_without (other ∷ ds) seat = ap (λ (xs : List ℕ). gains_by seat other ++ xs) (gained_without ds seat)

pub lost_without : (ds : List Deed) (seat : ℕ) → tiles_lost (before_wins ds) seat ≡ tiles_lost ds seat
lost_without [] seat = refl
lost_without (Win who target tile unders hand yaku fu han value deltas points rest ∷ ds) seat = lost_without ds seat
lost_without (other ∷ ds) seat = ap (λ (xs : List ℕ). losses_by seat other ++ xs) (lost_without ds seat)

made_without : (ds : List Deed) (seat : ℕ) → flat_map (makes_by seat) (before_wins ds) ≡ flat_map (makes_by seat) ds
made_without [] seat = refl
made_without (Win who target tile unders hand yaku fu han value deltas points rest ∷ ds) seat = made_without ds seat
made_without (other ∷ ds) seat = ap (λ (xs : List Meld). makes_by seat other ++ xs) (made_without ds seat)

added_without : (ds : List Deed) (seat : ℕ) → flat_map (adds_by seat) (before_wins ds) ≡ flat_map (adds_by seat) ds
added_without [] seat = refl
added_without (Win who target tile unders hand yaku fu han value deltas points rest ∷ ds) seat = added_without ds seat
added_without (other ∷ ds) seat = ap (λ (xs : List ℕ). adds_by seat other ++ xs) (added_without ds seat)

pub melds_without : (ds : List Deed) (seat : ℕ) → seat_melds (before_wins ds) seat ≡ seat_melds ds seat
melds_without ds seat =
    let made = made_without ds seat in
    let added = added_without ds seat in
    λ i. map (λ meld. with_added meld (added i)) (made i)

pub shown_without : (ds : List Deed) → indicators (before_wins ds) ≡ indicators ds
shown_without [] = refl
shown_without (Win who target tile unders hand yaku fu han value deltas points rest ∷ ds) = shown_without ds
shown_without (other ∷ ds) = ap (λ (xs : List ℕ). indicators_by other ++ xs) (shown_without ds)
