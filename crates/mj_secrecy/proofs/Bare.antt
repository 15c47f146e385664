-- The token of a deed is that of the bare deed, by cases.
use Rattle.std.proofs.Common.{◌≡◌, ℕ, Bool, true, false, not, cond, ◌&&◌, List, refl, ap}
use Rattle.std.specs.Prelude.{◌==◌}
use Rattle.mj_deeds.specs.declared.four.Four.{Four}
use Rattle.mj_deeds.specs.declared.deed.Deed.TheVariants.{StartHand, Draw}
use Rattle.mj_deeds.specs.declared.token.Token.TheVariants as tokens
use Rattle.mj_deeds.specs.Four.{at_seat}
use Rattle.mj_view.specs.Seen.{own_tile}
use Rattle.mj_secrecy.specs.Bare.{where_own, own_alone, TokensHoldNoMore}

own_hand : (seat : ℕ) (hands : Four (List ℕ)) → at_seat hands seat ≡ at_seat (own_alone seat hands) seat
own_hand seat hands = by_tests (seat == 0) (seat == 1) (seat == 2) hands.first hands.second hands.third hands.fourth
  where
    by_tests : (a b c : Bool) (p q r s : List ℕ) →
        cond a p (cond b q (cond c r s)) ≡ cond a (where_own a p) (cond b (where_own b q) (cond c (where_own c r) (where_own (not a && not b && not c) s)))
    by_tests true b c p q r s = refl
    by_tests false true c p q r s = refl
    by_tests false false true p q r s = refl
    by_tests false false false p q r s = refl

own_draw : (is_own : Bool) (tile : ℕ) → own_tile is_own tile ≡ own_tile is_own (cond is_own tile 0)
own_draw true tile = refl
own_draw false tile = refl

pub token_of_bare : TokensHoldNoMore
token_of_bare seat (StartHand round number honba deposits dealer indicator hands) = ap (tokens.StartHand indicator) (own_hand seat hands)
token_of_bare seat (Draw who tile replacement) = ap (tokens.Draw who) (own_draw (who == seat) tile)
token_of_bare seat other = refl
