-- What a deed tells of the answers that gave it: four answers that are read off the deed alone, and the law that they do.
use Rattle.std.specs.Prelude.{◌≡◌, ℕ, ◌==◌, ◌<◌, Bool, true, false, if◌then◌else◌, List, [], ◌∷◌, length, Option, Some, None, option_and_then, ℤ, pos}
use Rattle.std.specs.List.{list_any}
use Rattle.mj_deeds.specs.declared.four.Four.{Four}
use Rattle.mj_deeds.specs.declared.bid.Bid.{Bid}
use Rattle.mj_deeds.specs.declared.bid.Bid.TheVariants as bids
use Rattle.mj_deeds.specs.declared.reason.Reason.{Reason}
use Rattle.mj_deeds.specs.declared.reason.Reason.TheVariants.{Kyushukyuhai}
use Rattle.mj_deeds.specs.declared.answer.Pai.TheVariants.{Known}
use Rattle.mj_deeds.specs.declared.answer.Answer.{Answer}
use Rattle.mj_deeds.specs.declared.answer.Answer.TheVariants as answers
use Rattle.mj_deeds.specs.declared.deed.Deed.{Deed}
use Rattle.mj_deeds.specs.declared.deed.Deed.TheVariants.{Draw, Discard, Chi, Pon, OpenKan, ClosedKan, AddedKan, Reach, ReachAccepted, Win, DrawnHand}
use Rattle.mj_deeds.specs.Four.{for_each_seat, at_seat}
use Rattle.mj_deeds.specs.Facts.{newest}
use Rattle.mj_deeds.specs.Points.{is_deposit, is_win, points, deposits}
use Rattle.mj_wall.specs.declared.setting.Rules.{Rules}
use Rattle.mj_wall.specs.Places.{is_wall}
use Rattle.mj_rules.specs.Outcome.{wall_of, outcome}
use Rattle.mj_rules.specs.Played.{AllLawful, IsGiven, IsPlayed}

-- The seat of a deed, where it has one.
abbrev pub own_seat : Deed → Option ℕ
own_seat (Draw who tile replacement) = Some who
own_seat (Discard who tile drawn) = Some who
own_seat (Chi who target tile a b) = Some who
own_seat (Pon who target tile a b) = Some who
own_seat (OpenKan who target tile a b c) = Some who
own_seat (ClosedKan who a b c d) = Some who
own_seat (AddedKan who tile a b c) = Some who
own_seat (Reach who) = Some who
own_seat (ReachAccepted who points bid) = Some who
own_seat (Win who target tile unders hand yaku fu han value deltas points rest) = Some who
own_seat other = None

-- The newest deed is a reach that was accepted, or a win.
abbrev pub is_after_acceptance : Option Deed → Bool
is_after_acceptance None = false
is_after_acceptance (Some deed) = is_deposit deed

abbrev pub is_after_win : Option Deed → Bool
is_after_win None = false
is_after_win (Some deed) = is_win deed

-- What a seat answers where one seat alone does something: every other passes.
abbrev pub only_of : ℕ → Answer → ℕ → Answer
only_of who answer seat = if who == seat then answer else answers.Pass None

-- What it answers where one seat bids a call.
abbrev pub bid_told : Bid → ℕ → Answer
bid_told bids.NoBid seat = answers.Pass None
bid_told (bids.Chi who target tile a b) seat = only_of who (answers.Chi who target (Known tile) (Known a) (Known b)) seat
bid_told (bids.Pon who target tile a b) seat = only_of who (answers.Pon who target (Known tile) (Known a) (Known b)) seat
bid_told (bids.OpenKan who target tile a b c) seat = only_of who (answers.OpenKan who target (Known tile) (Known a) (Known b) (Known c)) seat

-- A call after an accepted reach was bid before that, and nobody answers by it now.
abbrev pub call_told : Option Deed → Bid → ℕ → Answer
call_told last bid seat = if is_after_acceptance last then answers.Pass None else bid_told bid seat

-- What it answers where these seats win on a tile of the target: each of them wins and names no tile.
abbrev pub wins_told : List ℕ → ℕ → ℕ → Answer
wins_told winners target seat = if list_any (λ winner. winner == seat) winners then answers.Win seat target None else answers.Pass None

-- A win after another was answered before that, and nobody answers by it now.
abbrev pub win_told : Option Deed → List ℕ → ℕ → ℕ → Answer
win_told last winners target seat = if is_after_win last then answers.Pass None else wins_told winners target seat

-- What it answers where a hand is drawn: by nine kinds that the seat of the newest deed shows, where that has one; by another
-- reason nobody's answer draws it.
abbrev pub nine_told : Option ℕ → ℕ → Answer
nine_told None seat = answers.Pass None
nine_told (Some who) seat = only_of who (answers.NineKinds who) seat

abbrev pub drawn_told : Option Deed → Reason → ℕ → Answer
drawn_told last Kyushukyuhai seat = nine_told (option_and_then own_seat last) seat
drawn_told last other seat = answers.Pass None

-- What a deed after the newest one tells of the answer of a seat. Whose deed it is answered with just its fields; the first of
-- several winners tells of all of them; where a reach is accepted the kept call was bid. Every other seat passes, without
-- an actor.
abbrev pub told_of : Option Deed → Deed → ℕ → Answer
told_of last (Discard who tile drawn) seat = only_of who (answers.Discard who (Known tile) drawn) seat
told_of last (Chi who target tile a b) seat = call_told last (bids.Chi who target tile a b) seat
told_of last (Pon who target tile a b) seat = call_told last (bids.Pon who target tile a b) seat
told_of last (OpenKan who target tile a b c) seat = call_told last (bids.OpenKan who target tile a b c) seat
told_of last (ClosedKan who a b c d) seat = only_of who (answers.ClosedKan who (Known a) (Known b) (Known c) (Known d)) seat
told_of last (AddedKan who tile a b c) seat = only_of who (answers.AddedKan who (Known tile) (Known a) (Known b) (Known c)) seat
told_of last (Reach who) seat = only_of who (answers.Reach who) seat
told_of last (ReachAccepted who points bid) seat = bid_told bid seat
told_of last (Win who target tile unders hand yaku fu han value deltas points rest) seat = win_told last (who ∷ rest) target seat
told_of last (DrawnHand reason hands ready deltas points) seat = drawn_told last reason seat
told_of last other seat = answers.Pass None

-- The four answers that the next deed tells of.
abbrev pub told : List Deed → Deed → Four Answer
told deeds deed = for_each_seat (told_of (newest deeds) deed)

-- What a list of deeds comes to: how many they are, the points of the four seats after them, and the deposits on the table.
pub record Summary : Type 0 where
  pub deeds : ℕ
  pub points : List ℤ
  pub deposits : ℕ

abbrev pub summary_of : List Deed → Summary
summary_of deeds = record { deeds = length deeds; points = points deeds; deposits = deposits deeds }

-- The four answers that a deed tells of are lawful and give it.
pub record ToldGive (rules : Rules) (walls : List (List ℕ)) (deeds : List Deed) (deed : Deed) : Type 0 where
  pub lawful : AllLawful rules deeds (told deeds deed)
  pub gives : outcome rules walls deeds (told deeds deed) ≡ Some deed

-- So they are wherever some four lawful answers give the deed after played deeds.
abbrev pub ToldAnswersGive : Type 0
ToldAnswersGive =
    (rules : Rules) (walls : List (List ℕ)) (deeds : List Deed) (deed : Deed) → ((number : ℕ) → is_wall rules.red (wall_of walls number) ≡ true) → IsPlayed rules walls deeds →
    IsGiven rules walls deeds deed → ToldGive rules walls deeds deed

-- A win that isn't after another tells of the winner and of each seat of `rest` that it wins on a tile of the target, and
-- names none.
abbrev pub EachWinnerIsTold : Type 0
EachWinnerIsTold =
    (deeds : List Deed) (who target tile : ℕ) (unders hand : List ℕ) (yaku : List (ℕ × ℕ)) (fu han value : ℕ) (deltas points : List ℤ) (rest : List ℕ) (seat : ℕ) → seat < 4 →
    is_after_win (newest deeds) ≡ false → list_any (λ winner. winner == seat) (who ∷ rest) ≡ true →
    at_seat (told deeds (Win who target tile unders hand yaku fu han value deltas points rest)) seat ≡ answers.Win seat target None

-- The summary of no deeds: no deeds, 30,000 points for each seat, and no deposits.
abbrev pub NothingPlayed : Type 0
NothingPlayed = summary_of [] ≡ record { deeds = 0; points = pos 30000 ∷ pos 30000 ∷ pos 30000 ∷ pos 30000 ∷ []; deposits = 0 }
