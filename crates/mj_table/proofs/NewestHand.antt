-- No more stands in the newest hand of deeds that fit than is kept of it, and what is kept of it with a deed more.
use Rattle.std.proofs.Common.{◌≡◌, ℕ, ◌+◌, ◌-◌, ◌<◌, ◌≤◌, ◌||◌, ◌&&◌, not, eqb, ltb, Bool, true, false, List, [], ◌∷◌, ◌++◌, length, cond, refl, sym, ap, ◌∙◌, subst, arith}
use Rattle.std.specs.Prelude.{flat_map, Option, Some}
use Rattle.std.proofs.lemmas.Bool.{ltb-true}
use Rattle.std.proofs.lemmas.List.{length-append}
use Rattle.std.proofs.lemmas.List.Sums.{sum_by-cons}
use Rattle.mj_deeds.specs.declared.deed.Deed.{Deed}
use Rattle.mj_deeds.specs.declared.deed.Deed.TheVariants.{StartHand, Draw, OpenKan, ClosedKan, AddedKan, Dora}
use Rattle.mj_deeds.specs.Facts.{newest, indicators_by, indicators, adds_by, is_kan, kans, is_live_draw, live_draws, live_tiles}
use Rattle.mj_deeds.specs.Firsts.{is_first}
use Rattle.mj_deeds.specs.Fits.{ground_of, is_in_place, is_after_kan, fits, all_fit, has_live}
use Rattle.mj_deeds.specs.Hand.{is_hand_start, hand}
use Rattle.mj_deeds.proofs.Fitted.{Parts, all_fit-append, kept, kept_in_hand, parts_of, four_kans, four_melds, four_of_kind}
use Rattle.mj_deeds.proofs.HandSteps.{behind, hand_more}
use Rattle.mj_deeds.proofs.Newest.{newest_more}
use Rattle.mj_table.proofs.InHand.{hand_none}
use Rattle.mj_table.proofs.Readers.{hand_is_with}
use Rattle.mj_facts.proofs.Gathered.{one_more}
use Rattle.mj_facts.proofs.HandsKept.{kans_more, draws_more}
use Rattle.mj_table.specs.Plays.{Play}
use Rattle.mj_facts.specs.declared.hand_facts.HandFacts.{HandFacts}
use Rattle.mj_facts.specs.declared.mark_facts.MarkFacts.{MarkFacts}
use Rattle.mj_facts.specs.declared.seat_facts.SeatFacts.{SeatFacts}
use Rattle.mj_deeds.specs.Four.{at_seat}
use Rattle.mj_facts.specs.Hands.{hand_with}
use Rattle.mj_facts.specs.Hands.{Knows, Few}
use Rattle.mj_facts.specs.Seats.{Keeps, KeepsMarks}
use Rattle.mj_wall.specs.declared.setting.Rules.{Rules}

-- Of deeds that fit at most 70 draw a live tile.
live_left : (ds : List Deed) (d : Deed) → has_live ds d ≡ true → is_live_draw d ≡ true → live_draws ds < 70
live_left ds (Draw who tile replacement) h k = by_test replacement h k
  where
    few : (n m : ℕ) → 0 < 70 - n - m → n < 70
    few n m e = omega (arith, e)

    by_test : (r : Bool) → (r || ltb 0 (live_tiles ds)) ≡ true → not r ≡ true → live_draws ds < 70
    by_test true h k = cc
    by_test false h k = few (live_draws ds) (kans ds) (ltb-true 0 (live_tiles ds) h)
live_left ds other h k = cc

few_drawn : (red : Bool) (ds : List Deed) → all_fit red [] ds ≡ true → live_draws (hand ds) ≤ 70
few_drawn red ds fit = kept_in_hand (λ xs. live_draws xs ≤ 70) red ds step (omega arith) fit
  where
    one : (n m : ℕ) (b : Bool) → m ≡ n + cond b 1 0 → n ≤ 70 → (b ≡ true → n < 70) → m ≤ 70
    one n m true e h k = omega (arith, e, k refl)
    one n m false e h k = omega (arith, e, h)

    step : (xs : List Deed) (d : Deed) → live_draws xs ≤ 70 → Parts red xs d → live_draws (xs ++ d ∷ []) ≤ 70
    step xs d h p = one (live_draws xs) (live_draws (xs ++ d ∷ [])) (is_live_draw d) (draws_more xs d) h (live_left xs d p.live)

-- At most five indicators are shown: one at the start, and one after each kan.

shows_more : (ds : List Deed) (d : Deed) → length (indicators (ds ++ d ∷ [])) ≡ length (indicators ds) + length (indicators_by d)
shows_more ds d = ap length (one_more indicators_by ds d) ∙ length-append (indicators ds) (indicators_by d)

behind_kan : (xs : List Deed) (tile : ℕ) → is_in_place (ground_of xs) (Dora tile) ≡ true → is_after_kan (newest xs) ≡ true
unfolding ground_of
behind_kan xs tile h = h

few_shown : (red : Bool) (ds : List Deed) → all_fit red [] ds ≡ true → length (indicators (hand ds)) ≤ 5
few_shown red ds fit =
    five _ _ _ (kept (λ (xs : List Deed). length (indicators (hand xs)) + cond (is_after_kan (newest xs)) 1 0 ≤ 1 + kans (hand xs)) red [] ds step (at_first hand_none) fit) (four_kans red ds fit)
  where
    five : (n b k : ℕ) → n + b ≤ 1 + k → k ≤ 4 → n ≤ 5
    five n b k e f = omega (arith, e, f)

    at_first : hand [] ≡ [] → length (indicators (hand [])) + 0 ≤ 1 + kans (hand [])
    at_first e = subst (λ (xs : List Deed). length (indicators xs) + 0 ≤ 1 + kans xs) (sym e) (omega arith)

    placed : (n m k j x y b c : ℕ) → n ≡ m + x → k ≡ j + y → m + b ≤ 1 + j → x + c ≤ y + b → n + c ≤ 1 + k
    placed n m k j x y b c e f g h = omega (arith, e, f, g, h)

    dora : (b : Bool) → b ≡ true → 1 + 0 ≤ 0 + cond b 1 0
    dora true e = omega arith
    dora false e = cc

    little : (b : ℕ) → 0 + 0 ≤ 0 + b
    little b = omega arith

    kan : (b : ℕ) → 0 + 1 ≤ 1 + b
    kan b = omega arith

    by_deed : (xs : List Deed) (d : Deed) → is_hand_start d ≡ false → is_in_place (ground_of xs) d ≡ true →
        length (indicators_by d) + cond (is_after_kan (Some d)) 1 0 ≤ cond (is_kan d) 1 0 + cond (is_after_kan (newest xs)) 1 0
    by_deed xs (StartHand round number honba deposits dealer indicator hands) h place = cc
    by_deed xs (Dora tile) h place = dora (is_after_kan (newest xs)) (behind_kan xs tile place)
    by_deed xs (OpenKan who target tile a b c) h place = kan _
    by_deed xs (ClosedKan who a b c d) h place = kan _
    by_deed xs (AddedKan who tile a b c) h place = kan _
    by_deed xs other h place = little _

    started : (d : Deed) → is_hand_start d ≡ true → length (indicators (d ∷ [])) + cond (is_after_kan (Some d)) 1 0 ≤ 1 + kans (d ∷ [])
    started (StartHand round number honba deposits dealer indicator hands) h = omega arith
    started other h = cc

    alone : (b : Bool) → 0 + cond b 1 0 ≤ 1 + 0
    alone true = omega arith
    alone false = omega arith

    by_hand : (xs : List Deed) (d : Deed) (h : List Deed) → is_hand_start d ≡ false → is_in_place (ground_of xs) d ≡ true → length (indicators h) + cond (is_after_kan (newest xs)) 1 0 ≤ 1 + kans h →
        length (indicators (behind h d)) + cond (is_after_kan (Some d)) 1 0 ≤ 1 + kans (behind h d)
    by_hand xs d [] e place was = alone (is_after_kan (Some d))
    by_hand xs d (x ∷ h) e place was =
        placed _ (length (indicators (x ∷ h))) _ (kans (x ∷ h)) (length (indicators_by d)) (cond (is_kan d) 1 0) (cond (is_after_kan (newest xs)) 1 0) _
        (shows_more (x ∷ h) d) (kans_more (x ∷ h) d) was (by_deed xs d e place)

    step : (xs : List Deed) (d : Deed) → length (indicators (hand xs)) + cond (is_after_kan (newest xs)) 1 0 ≤ 1 + kans (hand xs) → fits red xs d ≡ true →
        length (indicators (hand (xs ++ d ∷ []))) + cond (is_after_kan (newest (xs ++ d ∷ []))) 1 0 ≤ 1 + kans (hand (xs ++ d ∷ []))
    step xs d was one =
        subst (λ (o : Option Deed). length (indicators (hand (xs ++ d ∷ []))) + cond (is_after_kan o) 1 0 ≤ 1 + kans (hand (xs ++ d ∷ []))) (sym (newest_more xs d))
        (subst (λ (h : List Deed). length (indicators h) + cond (is_after_kan (Some d)) 1 0 ≤ 1 + kans h) (sym (hand_more xs d)) (by_start (is_hand_start d) refl))
      where
        by_start : (b : Bool) → is_hand_start d ≡ b →
            length (indicators (cond b (d ∷ []) (behind (hand xs) d))) + cond (is_after_kan (Some d)) 1 0 ≤ 1 + kans (cond b (d ∷ []) (behind (hand xs) d))
        by_start true e = started d e
        by_start false e = by_hand xs d (hand xs) e (parts_of red xs d one).place was

-- A seat adds no more tiles than there are kans.
few_added : (ds : List Deed) (seat : ℕ) → length (flat_map (adds_by seat) ds) ≤ kans ds
few_added [] seat = omega arith
few_added (d ∷ ds) seat =
    sum _ _ _ _ _ _ (length-append (adds_by seat d) (flat_map (adds_by seat) ds)) (sum_by-cons (λ x. cond (is_kan x) 1 0) d ds) (by_deed d) (few_added ds seat)
  where
    sum : (n m a b c e : ℕ) → n ≡ a + b → m ≡ c + e → a ≤ c → b ≤ e → n ≤ m
    sum n m a b c e h k l o = omega (arith, h, k, l, o)

    one : (b : Bool) (tile : ℕ) → length (cond b (tile ∷ []) []) ≤ 1
    one true tile = omega arith
    one false tile = omega arith

    none : (n : ℕ) → 0 ≤ n
    none n = omega arith

    by_deed : (d : Deed) → length (adds_by seat d) ≤ cond (is_kan d) 1 0
    by_deed (AddedKan who tile a b c) = one (eqb who seat) tile
    by_deed other = none _

-- No more stands in the newest hand of deeds that fit than is kept.
pub few_in_hand : (red : Bool) (ds : List Deed) → all_fit red [] ds ≡ true → Few (hand ds)
few_in_hand red ds fit = record {
  drawn = few_drawn red ds fit;
  kans = four_kans red ds fit;
  shown = few_shown red ds fit;
  melds = λ seat. four_melds red ds seat fit;
  added = λ seat. chain _ _ (few_added (hand ds) seat) (four_kans red ds fit);
  brought = λ kind small. four_of_kind red ds kind small fit;
}
  where
    chain : (n m : ℕ) → n ≤ m → m ≤ 4 → n ≤ 5
    chain n m h k = omega (arith, h, k)

-- Of no deeds either.
pub few_none : Few []
few_none = subst Few hand_none (few_in_hand true [] refl)

-- What is kept of a seat, of the deeds that a table stands for.
pub seat_kept : (rules : Rules) (ds : List Deed) (played : Play) (facts : HandFacts) (seat : ℕ) (one : SeatFacts) → seat ≤ 3 → Knows (hand ds) facts → record { rules = rules; deeds = ds } ≡ played →
    one ≡ at_seat facts.seats seat → Keeps (hand played.deeds) seat one
seat_kept rules ds played facts seat one low known is at =
    subst (λ (f : SeatFacts). Keeps (hand played.deeds) seat f) (sym at) (subst (λ (p : Play). Keeps (hand p.deeds) seat (at_seat facts.seats seat)) is (known.seats seat low))

-- What is kept of the newest hand, of the deeds that a table stands for.
pub known_of : (rules : Rules) (ds : List Deed) (played : Play) (facts : HandFacts) → Knows (hand ds) facts → record { rules = rules; deeds = ds } ≡ played → Knows (hand played.deeds) facts
known_of rules ds played facts known is = subst (λ (p : Play). Knows (hand p.deeds) facts) is known

pub live_known : (ds : List Deed) (facts : HandFacts) (live : ℕ) → Knows ds facts → live ≡ 70 - facts.drawn - facts.kans → live ≡ live_tiles ds
live_known ds facts live known e = e ∙ (λ i. 70 - known.drawn i - known.kans i)

pub few_known : (red : Bool) (ds : List Deed) (facts : HandFacts) → all_fit red [] ds ≡ true → Knows (hand ds) facts → facts.kans ≤ 4
few_known red ds facts fit known = subst (λ (n : ℕ). n ≤ 4) (sym known.kans) (four_kans red ds fit)

-- What is kept of the newest hand with a deed more that fits.
pub facts_more : (red : Bool) (ds : List Deed) (d : Deed) (facts after : HandFacts) → all_fit red [] ds ≡ true → fits red ds d ≡ true →
    ((before : List Deed) → Few (hand_with before d) → Knows before facts → Knows (hand_with before d) after) → Knows (hand ds) facts → Knows (hand (ds ++ d ∷ [])) after
facts_more red ds d facts after fit one step was =
    subst (λ (xs : List Deed). Knows xs after) is
    (step (hand ds) (subst Few (sym is) (few_in_hand red (ds ++ d ∷ []) (all_fit-append red [] ds d fit one))) was)
  where
    is : hand_with (hand ds) d ≡ hand (ds ++ d ∷ [])
    is = hand_is_with ds (hand ds) d refl

-- The first turn of a seat, by what is kept.
pub first_told : (ds : List Deed) (seat : ℕ) (m : MarkFacts) (first : Bool) → KeepsMarks ds seat m → first ≡ (m.begun && not m.ended) → first ≡ is_first ds seat
first_told ds seat m first k e = e ∙ (λ i. k.begun i && not (k.ended i))
