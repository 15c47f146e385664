-- What is told after a discard that nobody wins on: a reach that is accepted and a call tell of the call that was bid; a drawn
-- hand and a draw tell nothing.
use Rattle.std.proofs.Common.{◌≡◌, ℕ, zero, suc, ◌<◌, ◌==◌, Bool, true, false, cond, List, [], refl, ap, sym, ◌∙◌, subst, arith}
use Rattle.std.specs.Prelude.{Option, Some, None}
use Rattle.std.specs.Option.{option_map_or}
use Rattle.mj_deeds.specs.declared.four.Four.{Four}
use Rattle.mj_deeds.specs.declared.bid.Bid.{Bid}
use Rattle.mj_deeds.specs.declared.bid.Bid.TheVariants as bids
use Rattle.mj_deeds.specs.declared.reason.Reason.{Reason}
use Rattle.mj_deeds.specs.declared.reason.Reason.TheVariants as reasons
use Rattle.mj_deeds.specs.declared.answer.Pai.TheVariants.{Known}
use Rattle.mj_deeds.specs.declared.answer.Answer.{Answer}
use Rattle.mj_deeds.specs.declared.answer.Answer.TheVariants as answers
use Rattle.mj_deeds.specs.declared.deed.Deed.{Deed}
use Rattle.mj_deeds.specs.declared.deed.Deed.TheVariants.{Discard}
use Rattle.mj_deeds.specs.Four.{at_seat, for_each_seat, next_seat}
use Rattle.mj_deeds.specs.Course.{is_reach}
use Rattle.mj_deeds.specs.Facts.{newest, before_newest}
use Rattle.mj_deeds.specs.Hand.{hand}
use Rattle.mj_deeds.specs.Reasons.{reason, are_four_winds, are_four_riichis, are_four_kans}
use Rattle.mj_window.specs.Decided.{is_win, triplet_bid, run_bid, or_bid, best_bid, call_or_pass, rons_on, rons_or, decision_by}
use Rattle.mj_wall.specs.declared.setting.Rules.{Rules}
use Rattle.mj_rules.specs.Draws.{draw_shown, drawn_hand}
use Rattle.mj_rules.specs.Outcome.{next_draw, accept, called_or_draw, behind_discard, wall_now, follows}
use Rattle.mj_rules.specs.Played.{IsLawful, AllLawful}
use Rattle.mj_rules.proofs.Answered.{IfAny}
use Rattle.mj_rules.proofs.Turns.{draw_or}
use Rattle.mj_history.specs.Told.{bid_told, told_of}
use Rattle.mj_history.proofs.ToldAnswers.{Tells, some_is, lawful_at, pass_is_lawful, only_lawful, as_own}
use Rattle.mj_history.proofs.ToldWins.{no_rons, discard_offers}

-- hands that are drawn

-- Nobody's answer draws a hand for this reason.
abbrev pub IsNobodys : Reason → Type 0
IsNobodys reasons.Kyushukyuhai = ⊥
IsNobodys other = Unit {0}

pub drawn_is_told : (last : Option Deed) (ds : List Deed) (why : Reason) (seat : ℕ) → IsNobodys why → told_of last (drawn_hand ds why) seat ≡ answers.Pass None
unfolding draw_shown
drawn_is_told last ds reasons.Kyushukyuhai seat h = absurd h
drawn_is_told last ds other seat h = refl

-- So it is for each reason that is looked for after a discard.
pub reason_is_nobodys : (draws : Bool) (hs : List Deed) → IfAny IsNobodys (reason draws hs)
reason_is_nobodys false hs = tt
reason_is_nobodys true hs = by_tests (are_four_winds hs) (are_four_riichis hs) (are_four_kans hs)
  where
    by_tests : (a b c : Bool) → IfAny IsNobodys (cond a (Some reasons.Suufonrenta) (cond b (Some reasons.Suuchareach) (cond c (Some reasons.Suukaikan) None)))
    by_tests true b c = tt
    by_tests false true c = tt
    by_tests false false true = tt
    by_tests false false false = tt

-- A draw tells nothing, and neither does the drawn hand where no live tile is left.
pub draw_is_told : (last : Option Deed) (wall : List ℕ) (ds : List Deed) (who seat : ℕ) → told_of last (next_draw wall ds who) seat ≡ answers.Pass None
draw_is_told last wall ds who seat = draw_or (λ d. told_of last d seat ≡ answers.Pass None) wall ds who (drawn_is_told last ds reasons.Fanpai seat tt) (λ some. refl)

-- bids

-- By a bid that is told the answers are lawful, and the same is bid.
record Bids (rules : Rules) (ds : List Deed) (bid : Bid) : Type 0 where
  lawful : (seat : ℕ) → seat < 4 → IsLawful rules ds seat (bid_told bid seat)
  again : best_bid (for_each_seat (bid_told bid)) ≡ bid

-- Nobody wins by it.
no_win : (bid : Bid) (seat : ℕ) → is_win (bid_told bid seat) ≡ false
no_win bids.NoBid seat = refl
no_win (bids.Chi who target t a b) seat = by_test (who == seat)
  where
    by_test : (x : Bool) → is_win (cond x (answers.Chi who target (Known t) (Known a) (Known b)) (answers.Pass None)) ≡ false
    by_test true = refl
    by_test false = refl
no_win (bids.Pon who target t a b) seat = by_test (who == seat)
  where
    by_test : (x : Bool) → is_win (cond x (answers.Pon who target (Known t) (Known a) (Known b)) (answers.Pass None)) ≡ false
    by_test true = refl
    by_test false = refl
no_win (bids.OpenKan who target t a b c) seat = by_test (who == seat)
  where
    by_test : (x : Bool) → is_win (cond x (answers.OpenKan who target (Known t) (Known a) (Known b) (Known c)) (answers.Pass None)) ≡ false
    by_test true = refl
    by_test false = refl

-- Of four answers of which one bids, that bid is the best.
chi_again : (who target t a b : ℕ) → who < 4 → best_bid (for_each_seat (bid_told (bids.Chi who target t a b))) ≡ bids.Chi who target t a b
unfolding best_bid
chi_again zero target t a b h = refl
chi_again (suc zero) target t a b h = refl
chi_again (suc (suc zero)) target t a b h = refl
chi_again (suc (suc (suc zero))) target t a b h = refl
chi_again (suc (suc (suc (suc n)))) target t a b h = absurd (omega (arith, h))

pon_again : (who target t a b : ℕ) → who < 4 → best_bid (for_each_seat (bid_told (bids.Pon who target t a b))) ≡ bids.Pon who target t a b
unfolding best_bid
pon_again zero target t a b h = refl
pon_again (suc zero) target t a b h = refl
pon_again (suc (suc zero)) target t a b h = refl
pon_again (suc (suc (suc zero))) target t a b h = refl
pon_again (suc (suc (suc (suc n)))) target t a b h = absurd (omega (arith, h))

kan_again : (who target t a b c : ℕ) → who < 4 → best_bid (for_each_seat (bid_told (bids.OpenKan who target t a b c))) ≡ bids.OpenKan who target t a b c
unfolding best_bid
kan_again zero target t a b c h = refl
kan_again (suc zero) target t a b c h = refl
kan_again (suc (suc zero)) target t a b c h = refl
kan_again (suc (suc (suc zero))) target t a b c h = refl
kan_again (suc (suc (suc (suc n)))) target t a b c h = absurd (omega (arith, h))

-- In the window on a discard all may pass.
may_pass : (rules : Rules) (ds : List Deed) (who tile : ℕ) (drawn : Bool) (seat : ℕ) → newest ds ≡ Some (Discard who tile drawn) → IsLawful rules ds seat (answers.Pass None)
may_pass rules ds who tile drawn seat e = pass_is_lawful rules ds (Discard who tile drawn) seat e (λ accepted. (discard_offers who tile drawn).passes rules seat accepted)

nothing_bid : (rules : Rules) (ds : List Deed) (who tile : ℕ) (drawn : Bool) → newest ds ≡ Some (Discard who tile drawn) → Bids rules ds bids.NoBid
unfolding best_bid
nothing_bid rules ds who tile drawn e = record { lawful = λ seat there. may_pass rules ds who tile drawn seat e; again = refl }

-- The pon or the kan that a seat bids, and the chi.
triplet_bids : (rules : Rules) (ds : List Deed) (who tile : ℕ) (drawn : Bool) (seat : ℕ) (answer : Answer) → newest ds ≡ Some (Discard who tile drawn) → seat < 4 → IsLawful rules ds seat answer →
    Bids rules ds (triplet_bid seat answer)
triplet_bids rules ds who tile drawn seat (answers.Pon actor target (Known t) (Known a) (Known b)) e small l = record {
  lawful = λ other there. only_lawful rules ds seat (answers.Pon seat target (Known t) (Known a) (Known b)) other
      (as_own rules ds seat (λ x. answers.Pon x target (Known t) (Known a) (Known b)) actor l refl) (λ ne. may_pass rules ds who tile drawn other e);
  again = pon_again seat target t a b small;
}
triplet_bids rules ds who tile drawn seat (answers.OpenKan actor target (Known t) (Known a) (Known b) (Known c)) e small l = record {
  lawful = λ other there. only_lawful rules ds seat (answers.OpenKan seat target (Known t) (Known a) (Known b) (Known c)) other
      (as_own rules ds seat (λ x. answers.OpenKan x target (Known t) (Known a) (Known b) (Known c)) actor l refl) (λ ne. may_pass rules ds who tile drawn other e);
  again = kan_again seat target t a b c small;
}
triplet_bids rules ds who tile drawn seat other e small l = nothing_bid rules ds who tile drawn e

run_bids : (rules : Rules) (ds : List Deed) (who tile : ℕ) (drawn : Bool) (seat : ℕ) (answer : Answer) → newest ds ≡ Some (Discard who tile drawn) → seat < 4 → IsLawful rules ds seat answer →
    Bids rules ds (run_bid seat answer)
run_bids rules ds who tile drawn seat (answers.Chi actor target (Known t) (Known a) (Known b)) e small l = record {
  lawful = λ other there. only_lawful rules ds seat (answers.Chi seat target (Known t) (Known a) (Known b)) other
      (as_own rules ds seat (λ x. answers.Chi x target (Known t) (Known a) (Known b)) actor l refl) (λ ne. may_pass rules ds who tile drawn other e);
  again = chi_again seat target t a b small;
}
run_bids rules ds who tile drawn seat other e small l = nothing_bid rules ds who tile drawn e

either_bids : (rules : Rules) (ds : List Deed) (x y : Bid) → Bids rules ds x → Bids rules ds y → Bids rules ds (or_bid x y)
either_bids rules ds bids.NoBid y f g = g
either_bids rules ds (bids.Chi who target t a b) y f g = f
either_bids rules ds (bids.Pon who target t a b) y f g = f
either_bids rules ds (bids.OpenKan who target t a b c) y f g = f

-- So does the best bid of four lawful answers.
best_bids : (rules : Rules) (ds : List Deed) (who tile : ℕ) (drawn : Bool) (given : Four Answer) → newest ds ≡ Some (Discard who tile drawn) → AllLawful rules ds given → Bids rules ds (best_bid given)
unfolding best_bid
best_bids rules ds who tile drawn given e c =
    either_bids rules ds _ _
    (four triplet_bid (λ seat small. triplet_bids rules ds who tile drawn seat (at_seat given seat) e small (lawful_at rules ds given seat small c)))
    (four run_bid (λ seat small. run_bids rules ds who tile drawn seat (at_seat given seat) e small (lawful_at rules ds given seat small c)))
  where
    four : (bid : ℕ → Answer → Bid) → ((seat : ℕ) → seat < 4 → Bids rules ds (bid seat (at_seat given seat))) →
        Bids rules ds (or_bid (bid 0 given.first) (or_bid (bid 1 given.second) (or_bid (bid 2 given.third) (bid 3 given.fourth))))
    four bid h = either_bids rules ds _ _ (h 0 (omega arith)) (either_bids rules ds _ _ (h 1 (omega arith)) (either_bids rules ds _ _ (h 2 (omega arith)) (h 3 (omega arith))))

-- after the discard

-- What a deed after a discard tells: a bid by which it comes.
record Behind (rules : Rules) (ds : List Deed) (n : Deed) (by : Bid → Deed) (d : Deed) : Type 0 where
  bid : Bid
  fine : Bids rules ds bid
  tells : (seat : ℕ) → told_of (Some n) d seat ≡ bid_told bid seat
  gives : by bid ≡ d

-- A call, or the draw of the next seat.
called_behind : (rules : Rules) (wall : List ℕ) (ds : List Deed) (who tile : ℕ) (drawn : Bool) (bid : Bid) → Bids rules ds bid →
    Behind rules ds (Discard who tile drawn) (called_or_draw wall ds who) (called_or_draw wall ds who bid)
called_behind rules wall ds who tile drawn bids.NoBid f = record { bid = bids.NoBid; fine = f; tells = λ seat. draw_is_told (Some (Discard who tile drawn)) wall ds (next_seat who) seat; gives = refl }
called_behind rules wall ds who tile drawn (bids.Chi seat target t a b) f = record { bid = bids.Chi seat target t a b; fine = f; tells = λ seat. refl; gives = refl }
called_behind rules wall ds who tile drawn (bids.Pon seat target t a b) f = record { bid = bids.Pon seat target t a b; fine = f; tells = λ seat. refl; gives = refl }
called_behind rules wall ds who tile drawn (bids.OpenKan seat target t a b c) f = record { bid = bids.OpenKan seat target t a b c; fine = f; tells = λ seat. refl; gives = refl }

-- The accepted reach, the drawn hand, or one of those.
behind : (rules : Rules) (wall : List ℕ) (ds : List Deed) (who tile : ℕ) (drawn : Bool) (bid : Bid) → newest ds ≡ Some (Discard who tile drawn) → Bids rules ds bid →
    Behind rules ds (Discard who tile drawn) (behind_discard rules wall ds who) (behind_discard rules wall ds who bid)
unfolding accept
behind rules wall ds who tile drawn bid e f = by_tests (option_map_or is_reach (before_newest (hand ds)) false) (reason rules.draws (hand ds)) (reason_is_nobodys rules.draws (hand ds))
  where
    by_tests : (r : Bool) (o : Option Reason) → IfAny IsNobodys o →
        Behind rules ds (Discard who tile drawn) (λ b. cond r (accept ds who b) (option_map_or (drawn_hand ds) o (called_or_draw wall ds who b)))
        (cond r (accept ds who bid) (option_map_or (drawn_hand ds) o (called_or_draw wall ds who bid)))
    by_tests true o h = record { bid = bid; fine = f; tells = λ seat. refl; gives = refl }
    by_tests false (Some why) h = record { bid = bids.NoBid; fine = nothing_bid rules ds who tile drawn e; tells = λ seat. drawn_is_told (Some (Discard who tile drawn)) ds why seat h; gives = refl }
    by_tests false None h = called_behind rules wall ds who tile drawn bid f

decided : (rules : Rules) (walls : List (List ℕ)) (ds : List Deed) (who tile : ℕ) (drawn : Bool) (bid : Bid) →
    follows rules walls ds (Discard who tile drawn) (call_or_pass bid) ≡ Some (behind_discard rules (wall_now walls ds) ds who bid)
decided rules walls ds who tile drawn bids.NoBid = refl
decided rules walls ds who tile drawn (bids.Chi seat target t a b) = refl
decided rules walls ds who tile drawn (bids.Pon seat target t a b) = refl
decided rules walls ds who tile drawn (bids.OpenKan seat target t a b c) = refl

-- By a bid that is told the deed comes.
bid_gives : (rules : Rules) (walls : List (List ℕ)) (ds : List Deed) (who tile : ℕ) (drawn : Bool) (f : ℕ → Answer) (bid : Bid) →
    ((seat : ℕ) → f seat ≡ bid_told bid seat) → best_bid (for_each_seat (bid_told bid)) ≡ bid →
    follows rules walls ds (Discard who tile drawn) (decision_by (Discard who tile drawn) (for_each_seat f)) ≡ Some (behind_discard rules (wall_now walls ds) ds who bid)
bid_gives rules walls ds who tile drawn f bid tells again =
    ap (λ r. follows rules walls ds (Discard who tile drawn) (rons_or r (call_or_pass (best_bid (for_each_seat f))))) (no_rons who f (λ seat. ap is_win (tells seat) ∙ no_win bid seat))
    ∙ (λ i. follows rules walls ds (Discard who tile drawn) (call_or_pass (best_bid (for_each_seat (λ seat. tells seat i)))))
    ∙ ap (λ b. follows rules walls ds (Discard who tile drawn) (call_or_pass b)) again
    ∙ decided rules walls ds who tile drawn bid

-- Where a discard is not won on, what comes after it tells of the call that was bid, if it matters.
pub called_tells : (rules : Rules) (walls : List (List ℕ)) (ds : List Deed) (who tile : ℕ) (drawn : Bool) (given : Four Answer) (d : Deed) →
    newest ds ≡ Some (Discard who tile drawn) → AllLawful rules ds given →
    rons_on who given ≡ [] → follows rules walls ds (Discard who tile drawn) (decision_by (Discard who tile drawn) given) ≡ Some d → Tells rules walls ds (Discard who tile drawn) d
called_tells rules walls ds who tile drawn given d e c none gives =
    subst (Tells rules walls ds (Discard who tile drawn)) (some_is _ d (sym (decided rules walls ds who tile drawn (best_bid given)) ∙ without))
    (record {
      lawful = λ seat there. subst (IsLawful rules ds seat) (sym (told.tells seat)) (told.fine.lawful seat there);
      gives = bid_gives rules walls ds who tile drawn (told_of (Some (Discard who tile drawn)) (behind_discard rules (wall_now walls ds) ds who
          (best_bid given))) told.bid told.tells told.fine.again ∙ ap (λ (x : Deed). Some x) told.gives;
    })
  where
    without : follows rules walls ds (Discard who tile drawn) (call_or_pass (best_bid given)) ≡ Some d
    without = ap (λ r. follows rules walls ds (Discard who tile drawn) (rons_or r (call_or_pass (best_bid given)))) (sym none) ∙ gives

    told : Behind rules ds (Discard who tile drawn) (behind_discard rules (wall_now walls ds) ds who) (behind_discard rules (wall_now walls ds) ds who (best_bid given))
    told = behind rules (wall_now walls ds) ds who tile drawn (best_bid given) e (best_bids rules ds who tile drawn given e c)
