-- The win on the tile in question.
use Rattle.std.proofs.Common.{◌≡◌, ℕ, Bool, List, [], ◌∷◌, Some, sym, ap, ◌∙◌}
use Rattle.std.specs.Prelude.{map, option_to_list}
use Rattle.mj_deeds.specs.declared.answer.Pai.TheVariants.{Known}
use Rattle.mj_deeds.specs.declared.answer.Answer.{Answer}
use Rattle.mj_deeds.specs.declared.answer.Answer.TheVariants.{Win}
use Rattle.mj_deeds.specs.declared.deed.Deed.{Deed}
use Rattle.mj_deeds.specs.declared.deed.Deed.TheVariants as deeds
use Rattle.mj_deeds.specs.Facts.{newest, drawn_tile}
use Rattle.mj_rules.specs.View.{view_of}
use Rattle.mj_rules.proofs.Turns.{turn_is}
use Rattle.mj_bot.specs.Choice.{win_in}

-- On the drawn one.
pub drawn_win : (ds : List Deed) (seat who t tile : ℕ) (replacement : Bool) (d : Deed) (win : Answer) → Some d ≡ newest ds → d ≡ deeds.Draw who t replacement → drawn_tile ds seat ≡ Some tile →
    win ≡ Win seat seat (Some (Known tile)) → win ∷ [] ≡ win_in seat (view_of ds seat) (view_of ds seat).turn
unfolding view_of
drawn_win ds seat who t tile replacement d win last is drawn told =
    ap (λ w. w ∷ []) told
    ∙ sym (ap (win_in seat (view_of ds seat)) (turn_is ds seat (deeds.Draw who t replacement) (sym last ∙ ap Some is))
    ∙ ap (λ o. map (λ tile. Win seat seat (Some (Known tile))) (option_to_list o)) drawn)

-- On a discard.
pub discard_win : (ds : List Deed) (seat who tile : ℕ) (drawn : Bool) (d : Deed) (win : Answer) → Some d ≡ newest ds → d ≡ deeds.Discard who tile drawn → win ≡ Win seat who (Some (Known tile)) →
    win ∷ [] ≡ win_in seat (view_of ds seat) (view_of ds seat).turn
discard_win ds seat who tile drawn d win last is told =
    ap (λ w. w ∷ []) told ∙ sym (ap (win_in seat (view_of ds seat)) (turn_is ds seat (deeds.Discard who tile drawn) (sym last ∙ ap Some is)))

-- On an added tile.
pub added_win : (ds : List Deed) (seat who tile a b c : ℕ) (d : Deed) (win : Answer) → Some d ≡ newest ds → d ≡ deeds.AddedKan who tile a b c → win ≡ Win seat who (Some (Known tile)) →
    win ∷ [] ≡ win_in seat (view_of ds seat) (view_of ds seat).turn
added_win ds seat who tile a b c d win last is told =
    ap (λ w. w ∷ []) told ∙ sym (ap (win_in seat (view_of ds seat)) (turn_is ds seat (deeds.AddedKan who tile a b c) (sym last ∙ ap Some is)))
