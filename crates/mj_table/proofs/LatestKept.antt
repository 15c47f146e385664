-- The newest deed and the one beside it, a deed further, and what is read off them.
use Rattle.std.proofs.Common.{◌≡◌, ℕ, suc, ◌-◌, ◌==◌, ◌||◌, ◌&&◌, ◌⊎◌, inl, inr, not, Bool, true, false, cond, List, [], ◌∷◌, ◌++◌, length, take, refl, sym, ap, ◌∙◌, subst, arith}
use Rattle.std.specs.Prelude.{Option, Some, None, option_and_then, ℤ}
use Rattle.std.proofs.lemmas.Bool.{ne_eqb}
use Rattle.mj_deeds.specs.declared.bid.Bid.{Bid}
use Rattle.mj_deeds.specs.declared.deed.Deed.{Deed}
use Rattle.mj_deeds.specs.declared.deed.Deed.TheVariants.{Discard, Dora, Reach, ReachAccepted, Win, EndHand}
use Rattle.mj_deeds.specs.Course.{comes_of, cause, before_wins}
use Rattle.mj_deeds.specs.Facts.{newest, drawn_tile, holds_drawn, before_newest}
use Rattle.mj_deeds.specs.Fits.{all_fit, taken_from}
use Rattle.mj_deeds.specs.Hand.{is_hand_start, hand}
use Rattle.mj_deeds.specs.Points.{is_win}
use Rattle.mj_deeds.proofs.HandSteps.{behind, hand_more}
use Rattle.mj_deeds.proofs.Newest.{newest_more, before_more}
use Rattle.mj_facts.proofs.Gathered.{last_if_kept}
use Rattle.mj_table.proofs.InHand.{newest_in_hand, cause_in_hand, drawn_in_hand}
use Rattle.mj_facts.proofs.WinSteps.{behind_win}
use Rattle.mj_table.specs.Inner.Latest.{previous_to, previous, previous_with, is_after_win, cause_by, drawn_of, before_wins_of, taken_of}

previous_more : (xs : List Deed) (d : Deed) → previous (xs ++ d ∷ []) ≡ previous_to xs d
previous_more xs d =
    ap (option_and_then (previous_to (take (length (xs ++ d ∷ []) - 1) (xs ++ d ∷ [])))) (newest_more xs d) ∙ ap (λ (ys : List Deed). previous_to ys d) (before_more xs d)

-- A list is empty, or has a last item.
last_split : (xs : List Deed) → (xs ≡ []) ⊎ ((before : List Deed) × (d : Deed) × (xs ≡ before ++ d ∷ []))
last_split [] = inl refl
last_split (x ∷ xs) = by_rest (last_split xs)
  where
    by_rest : (xs ≡ []) ⊎ ((before : List Deed) × (d : Deed) × (xs ≡ before ++ d ∷ [])) → (x ∷ xs ≡ []) ⊎ ((before : List Deed) × (d : Deed) × (x ∷ xs ≡ before ++ d ∷ []))
    by_rest (inl e) = inr ([], x, ap (λ (ys : List Deed). x ∷ ys) e)
    by_rest (inr (before, d, e)) = inr (x ∷ before, d, ap (λ (ys : List Deed). x ∷ ys) e)

-- The newest deed of one hand that is no win.
wins_of_some : (before : List Deed) (d : Deed) →
    newest (before_wins (before ++ d ∷ [])) ≡ cond (is_after_win (newest (before ++ d ∷ []))) (previous (before ++ d ∷ [])) (newest (before ++ d ∷ []))
wins_of_some before d = by_test (is_win d) refl ∙ sym (ap (λ o. cond (is_after_win o) (previous (before ++ d ∷ [])) o) (newest_more before d))
  where
    by_test : (b : Bool) → is_win d ≡ b → newest (before_wins (before ++ d ∷ [])) ≡ cond (is_win d) (previous (before ++ d ∷ [])) (Some d)
    by_test true e =
        ap newest (behind_win (before ++ d ∷ []) before d refl e)
        ∙ sym (ap (λ b. cond b (previous (before ++ d ∷ [])) (Some d)) e ∙ previous_more before d ∙ ap (λ b. cond b (newest (before_wins before)) (newest before)) e)
    by_test false e =
        sym (last_if_kept is_win (before ++ d ∷ []) before d refl e) ∙ sym (ap (λ b. cond b (previous (before ++ d ∷ [])) (Some d)) e)

wins_of : (h : List Deed) → newest (before_wins h) ≡ cond (is_after_win (newest h)) (previous h) (newest h)
wins_of h = by_split (last_split h)
  where
    by_split : (h ≡ []) ⊎ ((before : List Deed) × (d : Deed) × (h ≡ before ++ d ∷ [])) → newest (before_wins h) ≡ cond (is_after_win (newest h)) (previous h) (newest h)
    by_split (inl e) = subst (λ (xs : List Deed). newest (before_wins xs) ≡ cond (is_after_win (newest xs)) (previous xs) (newest xs)) (sym e) refl
    by_split (inr (before, d, e)) = subst (λ (xs : List Deed). newest (before_wins xs) ≡ cond (is_after_win (newest xs)) (previous xs) (newest xs)) (sym e) (wins_of_some before d)

not_empty : (n : ℕ) → not (suc n == 0) ≡ true
not_empty n = ap not (ne_eqb (suc n) 0 (λ e. omega (arith, e)))

-- What stands beside a further deed.
pub previous_is_with : (ds : List Deed) (before last : Option Deed) (d : Deed) (begun : Bool) → begun ≡ not (length (hand ds) == 0) → last ≡ newest ds → before ≡ previous (hand ds) →
    previous_with begun before last d ≡ previous (hand (ds ++ d ∷ []))
previous_is_with ds before last d begun some e f =
    (λ i. previous_with (some i) (f i) (e i) d) ∙ by_hand (hand ds) refl (is_hand_start d) ∙ ap previous (sym (hand_more ds d))
  where
    alone : (w : Bool) → None ≡ cond w (newest (before_wins [])) (newest [])
    alone true = refl
    alone false = refl

    begins : None ≡ previous (d ∷ [])
    begins = alone (is_win d) ∙ sym (previous_more [] d)

    goes_on : (x : Deed) (xs : List Deed) → hand ds ≡ x ∷ xs → (w : Bool) →
        cond (w && is_after_win (newest ds)) (previous (x ∷ xs)) (newest ds) ≡ cond w (newest (before_wins (x ∷ xs))) (newest (x ∷ xs))
    goes_on x xs k true = ap (λ o. cond (is_after_win o) (previous (x ∷ xs)) o) (sym (newest_in_hand ds x xs k)) ∙ sym (wins_of (x ∷ xs))
    goes_on x xs k false = sym (newest_in_hand ds x xs k)

    by_start : (x : Deed) (xs : List Deed) → hand ds ≡ x ∷ xs → (s : Bool) →
        cond s None (cond (is_win d && is_after_win (newest ds)) (previous (x ∷ xs)) (newest ds)) ≡ previous (cond s (d ∷ []) (x ∷ (xs ++ d ∷ [])))
    by_start x xs k true = begins
    by_start x xs k false = goes_on x xs k (is_win d) ∙ sym (previous_more (x ∷ xs) d)

    before_any : (s : Bool) → None ≡ previous (cond s (d ∷ []) [])
    before_any true = begins
    before_any false = refl

    by_hand : (h : List Deed) → hand ds ≡ h → (s : Bool) →
        cond (not (not (length h == 0)) || s) None (cond (is_win d && is_after_win (newest ds)) (previous h) (newest ds)) ≡ previous (cond s (d ∷ []) (behind h d))
    by_hand [] k s = before_any s
    by_hand (x ∷ xs) k s =
        ap (λ b. cond (not b || s) None (cond (is_win d && is_after_win (newest ds)) (previous (x ∷ xs)) (newest ds))) (not_empty (length xs)) ∙ by_start x xs k s

-- What the newest deed comes of.
cause_of : (h : List Deed) → cause h ≡ cause_by (newest h) (previous h)
cause_of h = by_newest (take (length h - 1) h) (newest h)
  where
    by_newest : (before : List Deed) (o : Option Deed) → option_and_then (comes_of before) o ≡ cause_by o (option_and_then (previous_to before) o)
    by_newest before None = refl
    by_newest before (Some (Discard who tile drawn)) = refl
    by_newest before (Some (ReachAccepted who points bid)) = refl
    by_newest before (Some (Win who target tile unders hand yaku fu han value deltas points rest)) = refl
    by_newest before (Some (Dora tile)) = refl
    by_newest before (Some EndHand) = refl
    by_newest before (Some other) = refl

pub cause_kept : (red : Bool) (ds : List Deed) (last before result : Option Deed) → all_fit red [] ds ≡ true → last ≡ newest ds → before ≡ previous (hand ds) → result ≡ cause_by last before →
    result ≡ cause ds
cause_kept red ds last before result fit e f is = is ∙ (λ i. cause_by (e i) (f i)) ∙ by_hand (hand ds) refl ∙ cause_in_hand red ds fit
  where
    nothing : (o : Option Deed) → cause_by o None ≡ None
    nothing None = refl
    nothing (Some (Discard who tile drawn)) = refl
    nothing (Some (ReachAccepted who points bid)) = refl
    nothing (Some (Win who target tile unders hand yaku fu han value deltas points rest)) = refl
    nothing (Some (Dora tile)) = refl
    nothing (Some EndHand) = refl
    nothing (Some other) = refl

    by_hand : (h : List Deed) → hand ds ≡ h → cause_by (newest ds) (previous (hand ds)) ≡ cause (hand ds)
    by_hand [] k = ap (λ (xs : List Deed). cause_by (newest ds) (previous xs)) k ∙ nothing (newest ds) ∙ ap cause (sym k)
    by_hand (x ∷ xs) k =
        ap (λ (ys : List Deed). cause_by (newest ds) (previous ys)) k ∙ ap (λ o. cause_by o (previous (x ∷ xs))) (sym (newest_in_hand ds x xs k)) ∙ sym (cause_of (x ∷ xs)) ∙ ap cause (sym k)

-- The drawn tile.
drawn_in : (h : List Deed) (seat : ℕ) → drawn_tile h seat ≡ drawn_of seat (newest h) (previous h)
drawn_in h seat = by_newest (take (length h - 1) h) (newest h)
  where
    by_newest : (before : List Deed) (o : Option Deed) → option_and_then (holds_drawn seat (newest before)) o ≡ drawn_of seat o (option_and_then (previous_to before) o)
    by_newest before None = refl
    by_newest before (Some (Reach who)) = refl
    by_newest before (Some other) = refl

pub drawn_kept : (red : Bool) (ds : List Deed) (seat : ℕ) (last before : Option Deed) (result : Option ℕ) → all_fit red [] ds ≡ true → last ≡ newest ds → before ≡ previous (hand ds) →
    result ≡ drawn_of seat last before → result ≡ drawn_tile ds seat
drawn_kept red ds seat last before result fit e f is = is ∙ (λ i. drawn_of seat (e i) (f i)) ∙ by_hand (hand ds) refl
  where
    none_or : (b : Bool) → ◌≡◌ {A = Option ℕ} (cond b None None) None
    none_or true = refl
    none_or false = refl

    nothing : (o : Option Deed) → option_and_then (holds_drawn seat (before_newest ds)) o ≡ None → drawn_of seat o None ≡ None
    nothing None h = refl
    nothing (Some (Reach who)) h = none_or (who == seat)
    nothing (Some other) h = h

    by_hand : (h : List Deed) → hand ds ≡ h → drawn_of seat (newest ds) (previous (hand ds)) ≡ drawn_tile ds seat
    by_hand [] k =
        let none : drawn_tile ds seat ≡ None = sym (drawn_in_hand red ds seat fit) ∙ ap (λ (xs : List Deed). drawn_tile xs seat) k in
        ap (λ (xs : List Deed). drawn_of seat (newest ds) (previous xs)) k ∙ nothing (newest ds) none ∙ sym none
    by_hand (x ∷ xs) k =
        ap (λ (ys : List Deed). drawn_of seat (newest ds) (previous ys)) k ∙ ap (λ o. drawn_of seat o (previous (x ∷ xs))) (sym (newest_in_hand ds x xs k)) ∙ sym (drawn_in (x ∷ xs) seat)
        ∙ ap (λ (ys : List Deed). drawn_tile ys seat) (sym k) ∙ drawn_in_hand red ds seat fit

-- The newest deed of the hand that is no win.
pub wins_kept : (ds : List Deed) (begun : Bool) (last before result : Option Deed) → begun ≡ not (length (hand ds) == 0) → last ≡ newest ds → before ≡ previous (hand ds) →
    result ≡ before_wins_of begun last before → result ≡ newest (before_wins (hand ds))
wins_kept ds begun last before result some e f is = is ∙ (λ i. before_wins_of (some i) (e i) (f i)) ∙ by_hand (hand ds) refl
  where
    by_hand : (h : List Deed) → hand ds ≡ h → before_wins_of (not (length (hand ds) == 0)) (newest ds) (previous (hand ds)) ≡ newest (before_wins (hand ds))
    by_hand [] k = ap (λ (xs : List Deed). before_wins_of (not (length xs == 0)) (newest ds) (previous xs)) k ∙ ap (λ (xs : List Deed). newest (before_wins xs)) (sym k)
    by_hand (x ∷ xs) k =
        ap (λ (ys : List Deed). before_wins_of (not (length ys == 0)) (newest ds) (previous ys)) k
        ∙ ap (λ b. before_wins_of b (newest ds) (previous (x ∷ xs))) (not_empty (length xs))
        ∙ ap (λ o. cond (is_after_win o) (previous (x ∷ xs)) o) (sym (newest_in_hand ds x xs k))
        ∙ sym (wins_of (x ∷ xs)) ∙ ap (λ (ys : List Deed). newest (before_wins ys)) (sym k)

-- The discard that may be taken.
pub taken_kept : (ds : List Deed) (last before result : Option Deed) → last ≡ newest ds → before ≡ previous (hand ds) → result ≡ taken_of last before → result ≡ taken_from (hand ds) (newest ds)
taken_kept ds last before result e f is = is ∙ (λ i. taken_of (e i) (f i)) ∙ by_newest (newest ds) refl
  where
    by_hand : (who : ℕ) (points : List ℤ) (bid : Bid) → newest ds ≡ Some (ReachAccepted who points bid) → (h : List Deed) → hand ds ≡ h → previous h ≡ before_newest h
    by_hand who points bid n [] k = refl
    by_hand who points bid n (x ∷ xs) k = ap (option_and_then (previous_to (take (length (x ∷ xs) - 1) (x ∷ xs)))) (newest_in_hand ds x xs k ∙ n)

    by_newest : (o : Option Deed) → newest ds ≡ o → taken_of o (previous (hand ds)) ≡ taken_from (hand ds) o
    by_newest None n = refl
    by_newest (Some (ReachAccepted who points bid)) n = by_hand who points bid n (hand ds) refl
    by_newest (Some other) n = refl
