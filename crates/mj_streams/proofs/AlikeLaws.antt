-- Seats that are told the same of a deed have the same line of it.
use Rattle.std.proofs.Common.{◌≡◌, ℕ, ◌&&◌, Bool, true, false, eqb, refl, sym, ap, ◌∙◌}
use Rattle.std.specs.Prelude.{not}
use Rattle.std.proofs.lemmas.Bool.{and_parts, false≢true}
use Rattle.mj_deeds.specs.declared.deed.Deed.{Deed}
use Rattle.mj_deeds.specs.declared.deed.Deed.TheVariants.{StartGame, StartHand, Draw, Discard, Chi, Pon, OpenKan, ClosedKan, AddedKan, Dora, Reach, ReachAccepted, Win, DrawnHand, EndHand, EndGame}
use Rattle.mj_deeds.specs.declared.deed.Viewer.TheVariants.{Seat}
use Rattle.mj_forms.specs.Lines.{line, draw_line, tile_seen, reach_accepted_line, win_line}
use Rattle.mj_streams.specs.Inner.Alike.{are_told_alike}

unseen : (b : Bool) → not b ≡ true → b ≡ false
unseen true is = absurd (false≢true is)
unseen false is = refl

-- Neither of two seats sees the draw of a third.
unseen_draw : (seat other who tile : ℕ) → (not (eqb who seat) && not (eqb who other)) ≡ true →
    draw_line who (tile_seen (eqb who seat) tile) ≡ draw_line who (tile_seen (eqb who other) tile)
unseen_draw seat other who tile is =
    let parts = and_parts (not (eqb who seat)) (not (eqb who other)) is in
    ap (λ (seen : Bool). draw_line who (tile_seen seen tile)) (unseen (eqb who seat) parts.0 ∙ sym (unseen (eqb who other) parts.1))

pub alike_lines : (seat other : ℕ) (deed : Deed) → are_told_alike seat other deed ≡ true → line (Seat seat) deed ≡ line (Seat other) deed
unfolding reach_accepted_line win_line
alike_lines seat other (StartGame names) is = absurd (false≢true is)
alike_lines seat other (StartHand round number honba deposits dealer indicator hands) is = absurd (false≢true is)
alike_lines seat other (Draw who tile replacement) is = unseen_draw seat other who tile is
alike_lines seat other (Discard who tile drawn) is = refl
alike_lines seat other (Chi who target tile a b) is = refl
alike_lines seat other (Pon who target tile a b) is = refl
alike_lines seat other (OpenKan who target tile a b c) is = refl
alike_lines seat other (ClosedKan who a b c d) is = refl
alike_lines seat other (AddedKan who tile a b c) is = refl
alike_lines seat other (Dora tile) is = refl
alike_lines seat other (Reach who) is = refl
alike_lines seat other (ReachAccepted who points bid) is = refl
alike_lines seat other (Win who target tile unders hand yaku fu han value deltas points rest) is = refl
alike_lines seat other (DrawnHand reason hands ready deltas points) is = refl
alike_lines seat other EndHand is = refl
alike_lines seat other (EndGame points deposits) is = refl
