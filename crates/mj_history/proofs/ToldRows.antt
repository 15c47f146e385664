-- Rows of what a deed tells, by computing.
use Rattle.std.proofs.Common.{◌≡◌, ℕ, true, false, List, [], ◌∷◌, refl}
use Rattle.std.specs.Prelude.{None}
use Rattle.mj_deeds.specs.declared.four.Four.{Four}
use Rattle.mj_deeds.specs.declared.bid.Bid.TheVariants as bids
use Rattle.mj_deeds.specs.declared.reason.Reason.{Reason}
use Rattle.mj_deeds.specs.declared.reason.Reason.TheVariants as reasons
use Rattle.mj_deeds.specs.declared.answer.Pai.TheVariants.{Known}
use Rattle.mj_deeds.specs.declared.answer.Answer.{Answer}
use Rattle.mj_deeds.specs.declared.answer.Answer.TheVariants as answers
use Rattle.mj_deeds.specs.declared.deed.Deed.{Deed}
use Rattle.mj_deeds.specs.declared.deed.Deed.TheVariants.{Draw, Discard, Pon, AddedKan, Dora, ReachAccepted, Win, DrawnHand, EndHand}
use Rattle.mj_deeds.specs.Shown.{Hidden}
use Rattle.mj_history.specs.Told.{told}

four : Answer → Answer → Answer → Answer → Four Answer
four a b c d = record { first = a; second = b; third = c; fourth = d }

nobody : Answer
nobody = answers.Pass None

-- A win of a seat on a tile of another, with the winners after it.
win : ℕ → ℕ → List ℕ → Deed
win who target rest = Win who target 4 [] [] [] 30 1 1000 [] [] rest

-- A hand that is drawn.
drawn : Reason → Deed
drawn reason = DrawnHand reason (record { first = Hidden 13; second = Hidden 13; third = Hidden 13; fourth = Hidden 13 }) [] [] []

-- The discard of seat 2 is won on by seats 3 and 1; of the second win nobody is told.
two_winners : told (Draw 2 4 false ∷ Discard 2 4 true ∷ []) (win 3 2 (1 ∷ [])) ≡ four nobody (answers.Win 1 2 None) nobody (answers.Win 3 2 None)
unfolding four nobody win
two_winners = refl

second_winner : told (Discard 2 4 true ∷ win 3 2 (1 ∷ []) ∷ []) (win 1 2 []) ≡ four nobody nobody nobody nobody
unfolding four nobody win
second_winner = refl

-- Seat 0 wins on its own draw, discards it, adds it to a triplet, or shows nine kinds.
own_win : told (Draw 0 4 false ∷ []) (win 0 0 []) ≡ four (answers.Win 0 0 None) nobody nobody nobody
unfolding four nobody win
own_win = refl

own_discard : told (Draw 0 4 false ∷ []) (Discard 0 4 true) ≡ four (answers.Discard 0 (Known 4) true) nobody nobody nobody
unfolding four nobody
own_discard = refl

own_kan : told (Draw 0 4 false ∷ []) (AddedKan 0 4 4 4 34) ≡ four (answers.AddedKan 0 (Known 4) (Known 4) (Known 4) (Known 34)) nobody nobody nobody
unfolding four nobody
own_kan = refl

nine_kinds : told (Draw 0 4 false ∷ []) (drawn reasons.Kyushukyuhai) ≡ four (answers.NineKinds 0) nobody nobody nobody
unfolding four nobody drawn
nine_kinds = refl

-- After a deed that has no seat nobody shows nine kinds, and any other drawn hand is nobody's answer.
nobodys_nine : told (Dora 4 ∷ []) (drawn reasons.Kyushukyuhai) ≡ four nobody nobody nobody nobody
unfolding four nobody drawn
nobodys_nine = refl

four_winds : told (Discard 3 27 true ∷ []) (drawn reasons.Suufonrenta) ≡ four nobody nobody nobody nobody
unfolding four nobody drawn
four_winds = refl

-- Seat 3 calls the discard of seat 1: it has bid so in the window on the discard, also where a reach is accepted before, and
-- after that it answers no more.
call : told (Discard 1 4 false ∷ []) (Pon 3 1 4 4 34) ≡ four nobody nobody nobody (answers.Pon 3 1 (Known 4) (Known 4) (Known 34))
unfolding four nobody
call = refl

kept_call : told (Discard 1 4 false ∷ []) (ReachAccepted 1 [] (bids.Pon 3 1 4 4 34)) ≡ four nobody nobody nobody (answers.Pon 3 1 (Known 4) (Known 4) (Known 34))
unfolding four nobody
kept_call = refl

call_behind : told (Discard 1 4 false ∷ ReachAccepted 1 [] (bids.Pon 3 1 4 4 34) ∷ []) (Pon 3 1 4 4 34) ≡ four nobody nobody nobody nobody
unfolding four nobody
call_behind = refl

-- A draw, an indicator and the end of a hand are nobody's answer.
draw : told (Discard 1 4 false ∷ []) (Draw 2 5 false) ≡ four nobody nobody nobody nobody
unfolding four nobody
draw = refl

end : told (win 1 2 [] ∷ []) EndHand ≡ four nobody nobody nobody nobody
unfolding four nobody win
end = refl
