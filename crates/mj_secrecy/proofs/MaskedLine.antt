-- The line of a deed for a seat is that of the deed as the seat sees it.
use Rattle.std.proofs.Common.{◌≡◌, ℕ, ◌==◌, ◌&&◌, not, Bool, true, false, cond, List, [], ◌∷◌, ◌++◌, length, map, refl, ap, sym, ◌∙◌, eqb-true}
use Rattle.std.specs.Prelude.{replicate}
use Rattle.std.proofs.lemmas.List.{length-replicate, map-append}
use Rattle.mj_deeds.specs.declared.four.Four.{Four}
use Rattle.mj_deeds.specs.declared.deed.Viewer.TheVariants.{Seat}
use Rattle.mj_deeds.specs.declared.deed.Deed.{Deed}
use Rattle.mj_deeds.specs.declared.deed.Deed.TheVariants as deeds
use Rattle.mj_forms.specs.Lines.{line, hands_seen, shown_tiles, tile_seen, quoted_tile, hidden_tile, start_hand_line, draw_line, reach_accepted_line, win_line}
use Rattle.mj_forms.specs.Choices.{line_with}
use Rattle.mj_wall.specs.declared.setting.Rules.{Rules}
use Rattle.mj_rules.specs.Possible.{possible, possible_by}
use Rattle.mj_rules.proofs.MaskedView.{view-masked}
use Rattle.mj_history.specs.SeatLines.{seat_line, lines_from, lines_for}
use Rattle.mj_deeds.proofs.Masked.{masked, all_masked, seen_or_blank, hands_masked}

-- What is seen is kept, and of what is not seen the number of tiles is.
seen_tiles : (sees kept : Bool) (tiles : List ℕ) → (sees ≡ true → kept ≡ true) → shown_tiles sees tiles ≡ shown_tiles sees (seen_or_blank kept tiles)
seen_tiles true kept tiles h = ap (λ (b : Bool). map quoted_tile (seen_or_blank b tiles)) (sym (h refl))
seen_tiles false true tiles h = refl
seen_tiles false false tiles h = ap (λ (n : ℕ). replicate n hidden_tile) (sym (length-replicate (length tiles) 0))

first_own : (seat : ℕ) → (0 == seat) ≡ true → (seat == 0) ≡ true
first_own seat h = ap (λ (n : ℕ). n == 0) (sym (eqb-true 0 seat h))

second_own : (seat : ℕ) → (1 == seat) ≡ true → (seat == 1) ≡ true
second_own seat h = ap (λ (n : ℕ). n == 1) (sym (eqb-true 1 seat h))

third_own : (seat : ℕ) → (2 == seat) ≡ true → (seat == 2) ≡ true
third_own seat h = ap (λ (n : ℕ). n == 2) (sym (eqb-true 2 seat h))

fourth_own : (seat : ℕ) → (3 == seat) ≡ true → (not (seat == 0) && not (seat == 1) && not (seat == 2)) ≡ true
fourth_own seat h = ap (λ (n : ℕ). not (n == 0) && not (n == 1) && not (n == 2)) (sym (eqb-true 3 seat h))

hands_seen-masked : (seat : ℕ) (hands : Four (List ℕ)) → hands_seen (Seat seat) hands ≡ hands_seen (Seat seat) (hands_masked seat hands)
hands_seen-masked seat hands =
    let p = seen_tiles (0 == seat) (seat == 0) hands.first (first_own seat) in
    let q = seen_tiles (1 == seat) (seat == 1) hands.second (second_own seat) in
    let r = seen_tiles (2 == seat) (seat == 2) hands.third (third_own seat) in
    let s = seen_tiles (3 == seat) (not (seat == 0) && not (seat == 1) && not (seat == 2)) hands.fourth (fourth_own seat) in
    λ i. record { first = p i; second = q i; third = r i; fourth = s i }

tile_seen-masked : (b : Bool) (tile : ℕ) → tile_seen b tile ≡ tile_seen b (cond b tile 0)
tile_seen-masked true tile = refl
tile_seen-masked false tile = refl

pub line-masked : (seat : ℕ) (d : Deed) → line (Seat seat) d ≡ line (Seat seat) (masked seat d)
unfolding reach_accepted_line win_line
line-masked seat (deeds.StartHand round number honba deposits dealer indicator hands) = ap (start_hand_line round number honba deposits dealer indicator) (hands_seen-masked seat hands)
line-masked seat (deeds.Draw who tile replacement) = ap (draw_line who) (tile_seen-masked (who == seat) tile)
line-masked seat (deeds.ReachAccepted who points bid) = refl
line-masked seat (deeds.Win who target tile unders hand yaku fu han value deltas points rest) = refl
line-masked seat other = refl

-- So are the answers that it may give.
possible-masked : (rules : Rules) (seat : ℕ) (ds : List Deed) → possible rules ds seat ≡ possible rules (all_masked seat ds) seat
possible-masked rules seat ds = ap (possible_by rules seat) (view-masked seat ds)

-- So are the lines of deeds, each with the answers that it lists.
lines_from-masked : (rules : Rules) (seat : ℕ) (before ds : List Deed) → lines_from rules seat before ds ≡ lines_from rules seat (all_masked seat before) (all_masked seat ds)
lines_from-masked rules seat before [] = refl
lines_from-masked rules seat before (d ∷ ds) =
    (λ i. line_with (possible-masked rules seat (before ++ d ∷ []) i) (line-masked seat d i) ∷ lines_from-masked rules seat (before ++ d ∷ []) ds i)
    ∙ ap (λ (front : List Deed). seat_line rules front seat (masked seat d) ∷ lines_from rules seat front (all_masked seat ds)) (map-append (masked seat) before (d ∷ []))

pub lines-masked : (rules : Rules) (seat : ℕ) (ds : List Deed) → lines_for rules seat ds ≡ lines_for rules seat (all_masked seat ds)
lines-masked rules seat ds = lines_from-masked rules seat [] ds
