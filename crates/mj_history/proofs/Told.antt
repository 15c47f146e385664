-- The law of what a deed tells: wherever some four lawful answers give a deed, the four that it tells of are lawful and give it.
use Rattle.std.proofs.Common.{◌≡◌, ℕ, Bool, true, cond, List, [], ◌∷◌, refl, ap, sym, ◌∙◌, subst}
use Rattle.std.specs.Prelude.{Option, Some, None, option_and_then}
use Rattle.mj_deeds.specs.declared.four.Four.{Four}
use Rattle.mj_deeds.specs.declared.answer.Answer.{Answer}
use Rattle.mj_deeds.specs.declared.answer.Answer.TheVariants as answers
use Rattle.mj_deeds.specs.declared.deed.Deed.{Deed}
use Rattle.mj_deeds.specs.declared.deed.Deed.TheVariants.{StartGame, StartHand, Draw, Discard, Chi, Pon, OpenKan, ClosedKan, AddedKan, Dora, Reach, ReachAccepted, Win, DrawnHand, EndHand, EndGame}
use Rattle.mj_deeds.specs.Four.{for_each_seat}
use Rattle.mj_deeds.specs.Facts.{newest}
use Rattle.mj_deeds.specs.Fits.{has_seats}
use Rattle.mj_window.specs.Decided.{rons_on, decision_by, best_bid, call_or_pass}
use Rattle.mj_window.specs.declared.decision.Decision.TheVariants.{Pass}
use Rattle.mj_wall.specs.declared.setting.Rules.{Rules}
use Rattle.mj_rules.specs.Outcome.{follows, outcome}
use Rattle.mj_rules.specs.Played.{AllLawful}
use Rattle.mj_rules.proofs.Kept.{first_seat}
use Rattle.mj_rules.proofs.Answered.{IfAny}
use Rattle.mj_rules.proofs.Playing.{played_sound}
use Rattle.mj_history.specs.Told.{wins_told, told_of, ToldGive, ToldAnswersGive, EachWinnerIsTold, NothingPlayed}
use Rattle.mj_history.proofs.ToldAnswers.{Tells, at_each, all_lawful}
use Rattle.mj_history.proofs.ToldActs.{draw_tells, reach_tells, chi_tells, pon_tells}
use Rattle.mj_history.proofs.ToldWins.{won_tells, discard_offers, added_offers}
use Rattle.mj_history.proofs.ToldCalls.{called_tells}
use Rattle.mj_history.proofs.ToldPasses.{game_start_tells, hand_start_tells, open_kan_tells, closed_kan_tells, added_kan_tells}
use Rattle.mj_history.proofs.ToldPasses.{dora_tells, accepted_tells, later_win_tells, drawn_hand_tells, hand_end_tells}

-- After a discard and an added kan, by who wins on the tile.
discard_tells : (rules : Rules) (walls : List (List ℕ)) (ds : List Deed) (who tile : ℕ) (drawn : Bool) (given : Four Answer) (d : Deed)
    (winners : List ℕ) → newest ds ≡ Some (Discard who tile drawn) → AllLawful rules ds given →
    rons_on who given ≡ winners → follows rules walls ds (Discard who tile drawn) (decision_by (Discard who tile drawn) given) ≡ Some d → Tells rules walls ds (Discard who tile drawn) d
discard_tells rules walls ds who tile drawn given d [] e c none gives = called_tells rules walls ds who tile drawn given d e c none gives
discard_tells rules walls ds who tile drawn given d (x ∷ xs) e c won gives =
    won_tells rules walls ds (Discard who tile drawn) who given (λ y. call_or_pass (best_bid y)) x xs d e (discard_offers who tile drawn) (λ y. refl) c won gives

added_tells : (rules : Rules) (walls : List (List ℕ)) (ds : List Deed) (who tile a b c : ℕ) (given : Four Answer) (d : Deed) (winners : List ℕ) →
    newest ds ≡ Some (AddedKan who tile a b c) → AllLawful rules ds given →
    rons_on who given ≡ winners → follows rules walls ds (AddedKan who tile a b c) (decision_by (AddedKan who tile a b c) given) ≡ Some d → Tells rules walls ds (AddedKan who tile a b c) d
added_tells rules walls ds who tile a b c given d [] e all none gives = added_kan_tells rules walls ds who tile a b c given d e none gives
added_tells rules walls ds who tile a b c given d (x ∷ xs) e all won gives =
    won_tells rules walls ds (AddedKan who tile a b c) who given (λ y. Pass) x xs d e (added_offers who tile a b c) (λ y. refl) all won gives

-- The course of a game, line by line.
tells : (rules : Rules) (walls : List (List ℕ)) (ds : List Deed) (given : Four Answer) (d n : Deed) → newest ds ≡ Some n → has_seats n ≡ true → AllLawful rules ds given →
    follows rules walls ds n (decision_by n given) ≡ Some d → Tells rules walls ds n d
tells rules walls ds given d (StartGame names) e seats c gives = game_start_tells rules walls ds names given d e gives
tells rules walls ds given d (StartHand round number honba deposits dealer indicator hands) e seats c gives =
    hand_start_tells rules walls ds (StartHand round number honba deposits dealer indicator hands) dealer given d e refl (λ x. refl) refl gives
tells rules walls ds given d (Draw who tile replacement) e seats c gives = draw_tells rules walls ds who tile replacement given d e (first_seat who _ seats) c gives
tells rules walls ds given d (Discard who tile drawn) e seats c gives = discard_tells rules walls ds who tile drawn given d (rons_on who given) e c refl gives
tells rules walls ds given d (Chi who target tile a b) e seats c gives = chi_tells rules walls ds who target tile a b given d e (first_seat who _ seats) c gives
tells rules walls ds given d (Pon who target tile a b) e seats c gives = pon_tells rules walls ds who target tile a b given d e (first_seat who _ seats) c gives
tells rules walls ds given d (OpenKan who target tile a b x) e seats c gives = open_kan_tells rules walls ds who target tile a b x given d e gives
tells rules walls ds given d (ClosedKan who a b x y) e seats c gives = closed_kan_tells rules walls ds who a b x y given d e gives
tells rules walls ds given d (AddedKan who tile a b x) e seats c gives = added_tells rules walls ds who tile a b x given d (rons_on who given) e c refl gives
tells rules walls ds given d (Dora tile) e seats c gives = dora_tells rules walls ds tile given d e gives
tells rules walls ds given d (Reach who) e seats c gives = reach_tells rules walls ds who given d e (first_seat who _ seats) c gives
tells rules walls ds given d (ReachAccepted who points bid) e seats c gives = accepted_tells rules walls ds who points bid given d e gives
tells rules walls ds given d (Win who target tile unders own yaku fu han value deltas points rest) e seats c gives =
    later_win_tells rules walls ds (Win who target tile unders own yaku fu han value deltas points rest) target tile rest given d e refl refl (λ x. refl) refl gives
tells rules walls ds given d (DrawnHand reason hands ready deltas points) e seats c gives =
    drawn_hand_tells rules walls ds (DrawnHand reason hands ready deltas points) given d e refl (λ x. refl) refl gives
tells rules walls ds given d EndHand e seats c gives = hand_end_tells rules walls ds given d e gives
tells rules walls ds given d (EndGame points deposits) e seats c gives = cc

pub told_answers_give : ToldAnswersGive
unfolding outcome
told_answers_give rules walls ds d whole played g = by_newest (newest ds) refl (played_sound rules walls ds whole played).seated g.gives
  where
    told_by : (o : Option Deed) → newest ds ≡ o → AllLawful rules ds (for_each_seat (told_of o d)) →
        option_and_then (λ last. follows rules walls ds last (decision_by last (for_each_seat (told_of o d)))) o ≡ Some d → ToldGive rules walls ds d
    told_by o e lawful gives = record {
      lawful = subst (λ (x : Option Deed). AllLawful rules ds (for_each_seat (told_of x d))) (sym e) lawful;
      gives = subst (λ (x : Option Deed). option_and_then (λ last. follows rules walls ds last (decision_by last (for_each_seat (told_of x d)))) x ≡ Some d) (sym e) gives;
    }

    by_newest : (o : Option Deed) → newest ds ≡ o → IfAny (λ x. has_seats x ≡ true) o →
        option_and_then (λ last. follows rules walls ds last (decision_by last g.given)) o ≡ Some d → ToldGive rules walls ds d
    by_newest None e seated gives = cc
    by_newest (Some n) e seated gives =
        let t = tells rules walls ds g.given d n e seated g.lawful gives in
        told_by (Some n) e (all_lawful rules ds (told_of (Some n) d) t.lawful) t.gives

pub each_winner_is_told : EachWinnerIsTold
each_winner_is_told ds who target tile unders own yaku fu han value deltas points rest seat there fresh winner =
    at_each (told_of (newest ds) (Win who target tile unders own yaku fu han value deltas points rest)) seat there
    ∙ ap (λ b. cond b (answers.Pass None) (wins_told (who ∷ rest) target seat)) fresh
    ∙ ap (λ b. cond b (answers.Win seat target None) (answers.Pass None)) winner

pub nothing_played : NothingPlayed
nothing_played = refl
