-- A winner in played deeds has few tiles of a kind.
use Rattle.std.proofs.Common.{◌≡◌, ℕ, ◌<◌, Bool, true, List}
use Rattle.std.specs.Prelude.{Some}
use Rattle.mj_deeds.specs.declared.deed.Deed.{Deed}
use Rattle.mj_deeds.specs.declared.deed.Deed.TheVariants.{Draw}
use Rattle.mj_deeds.specs.Course.{before_wins, is_offer}
use Rattle.mj_deeds.specs.Facts.{newest, seat_melds}
use Rattle.mj_deeds.specs.Hand.{hand}
use Rattle.mj_wall.specs.declared.setting.Rules.{Rules}
use Rattle.mj_wall.specs.Places.{is_wall}
use Rattle.mj_rules.specs.Outcome.{won_tile, seat_of, wall_of}
use Rattle.mj_rules.specs.Wins.{own_tiles_of}
use Rattle.mj_rules.specs.Played.{IsPlayed}
use Rattle.mj_machine.specs.Inner.Steps.{AreFew}
use Rattle.mj_rules.proofs.Playing.{played_deeds_fit}
use Rattle.mj_rules.proofs.Winners.{winner_offered, winner_drawn, offered_no_fifth, drawn_no_fifth}

-- Who wins on the tile of another seat, or on its own draw, has few of each kind.
pub record FewWin (hs : List Deed) : Type 0 where
  pub offered : (giver : Deed) (seat : ℕ) → newest hs ≡ Some giver → is_offer giver ≡ true → seat < 4 → (seat ≡ seat_of giver → ⊥) →
      AreFew (own_tiles_of hs seat (won_tile giver)) (won_tile giver) (seat_melds hs seat)
  pub drawn : (who tile : ℕ) (replacement : Bool) → newest hs ≡ Some (Draw who tile replacement) → AreFew (own_tiles_of hs who tile) tile (seat_melds hs who)

pub played_few : (rules : Rules) (walls : List (List ℕ)) (ds : List Deed) → ((number : ℕ) → is_wall rules.red (wall_of walls number) ≡ true) → IsPlayed rules walls ds → FewWin (before_wins (hand ds))
played_few rules walls ds h played =
    let fit = played_deeds_fit rules walls ds h played in
    record {
      offered = λ giver seat e offer low apart. record {
        kinds = offered_no_fifth rules.red ds giver seat fit e offer low apart;
        all = winner_offered rules walls ds giver seat (won_tile giver) h played e offer;
      };
      drawn = λ who tile replacement e. record { kinds = drawn_no_fifth rules.red ds who tile replacement fit e; all = winner_drawn rules walls ds who tile replacement h played e };
    }
