-- Which hand follows which in a game: its round, dealer, honba and number.
use Rattle.std.specs.Prelude.{ℕ, ◌+◌, ◌%◌, ◌≤◌, ◌≡◌, ◌==◌, ◌&&◌, ◌||◌, Bool, true, false, not, if◌then◌else◌, Option, Some, None}
use Rattle.mj_rounds.specs.declared.rounds.Standing.{Standing}
use Rattle.mj_rounds.specs.declared.rounds.HandEnd.{HandEnd}
use Rattle.mj_rounds.specs.declared.rounds.HandEnd.TheVariants.{Won, Drawn, Aborted}

-- The wind of a round of the game: east or south.
abbrev pub is_round : ℕ → Bool
is_round kind = kind == 27 || kind == 28

-- How a game may stand in a hand: round east or south, dealer 0 to 3, at most 199 honba, one of 200 hands.
pub record MayStand (now : Standing) : Type 0 where
  pub round : is_round now.round ≡ true
  pub dealer : now.dealer ≤ 3
  pub honba : now.honba ≤ 199
  pub hand : now.hand ≤ 199

-- The standing of the first hand: round east, dealer 0, no honba.
abbrev pub first_standing : Standing
first_standing = record { round = 27; dealer = 0; honba = 0; hand = 0 }

-- The dealer stays where among the winners, where ready at an exhaustive draw, and after an abortive draw.
abbrev pub stays : HandEnd → Bool
stays (Won dealer_among) = dealer_among
stays (Drawn dealer_ready) = dealer_ready
stays Aborted = true

-- The hand was drawn, exhaustively or by an abortive draw.
abbrev pub is_draw : HandEnd → Bool
is_draw (Won dealer_among) = false
is_draw (Drawn dealer_ready) = true
is_draw Aborted = true

-- Honba rises by one after a win in which the dealer is among the winners and after any draw; else it returns to 0.
abbrev pub honba_after : ℕ → HandEnd → ℕ
honba_after honba end = if is_draw end || stays end then honba + 1 else 0

-- The last dealer passes: dealer 3 doesn't stay.
abbrev pub round_is_over : Standing → HandEnd → Bool
round_is_over now end = now.dealer == 3 && not (stays end)

-- The game ends where round south is over, and after hand 199, the two hundredth.
abbrev pub is_last : Standing → HandEnd → Bool
is_last now end = now.hand == 199 || (round_is_over now end && now.round == 28)

-- The next dealer: the same seat where the dealer stays, else the next seat in turn.
abbrev pub dealer_after : ℕ → HandEnd → ℕ
dealer_after dealer end = if stays end then dealer else (dealer + 1) % 4

-- The next hand: round south where the round is over, the next dealer, the honba, and one hand more; none where the game
-- ends.
unfoldable pub next_standing : Standing → HandEnd → Option Standing
next_standing now end =
    if is_last now end then None else Some (record {
      round = if round_is_over now end then 28 else now.round;
      dealer = dealer_after now.dealer end;
      honba = honba_after now.honba end;
      hand = now.hand + 1;
    })

-- What holds of a standing that follows another: round east or south, dealer 0 to 3, at most one honba more, one hand
-- more, and one of 200 hands.
pub record Follows (now next : Standing) : Type 0 where
  pub round : is_round next.round ≡ true
  pub dealer : next.dealer ≤ 3
  pub honba : next.honba ≤ now.honba + 1
  pub hand : next.hand ≡ now.hand + 1
  pub within : next.hand ≤ 199
