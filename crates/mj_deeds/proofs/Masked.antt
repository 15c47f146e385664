-- A deed as a seat sees it, and that each fact which the seat may know is the same of deeds so seen.
use Rattle.std.proofs.Common.{◌≡◌, ℕ, ◌-◌, Bool, true, false, not, cond, ◌&&◌, List, [], ◌∷◌, ◌++◌, length, map, refl, ap, sym, ◌∙◌}
use Rattle.std.specs.Prelude.{Option, Some, None, option_map, option_and_then, flat_map, count_by, take, slice_get, replicate, unwrap_or, if◌then◌else◌, ◌==◌, ℤ, pos, ◌+ℤ◌}
use Rattle.std.specs.List.{list_any}
use Rattle.std.proofs.lemmas.List.{length-map}
use Rattle.mj_rounds.specs.declared.rounds.Standing.{Standing}
use Rattle.mj_rounds.specs.declared.rounds.HandEnd.TheVariants.{Won}
use Rattle.mj_rounds.specs.Rounds.{next_standing}
use Rattle.mj_deeds.specs.declared.four.Four.{Four}
use Rattle.mj_deeds.specs.declared.bid.Bid.TheVariants.{NoBid}
use Rattle.mj_deeds.specs.declared.deed.Deed.{Deed}
use Rattle.mj_deeds.specs.declared.deed.Deed.TheVariants as deeds
use Rattle.mj_deeds.specs.Four.{at_seat}
use Rattle.mj_deeds.specs.Facts.{newest, before_newest, gains_by, losses_by, tiles_gained, tiles_lost, discards_by, is_discard_by, river_tiles, makes_by, adds_by, with_added}
use Rattle.mj_deeds.specs.Facts.{seat_melds, is_kan, kans, indicators_by, indicators, is_live_draw, live_draws, live_tiles, drawn_by, holds_drawn, drawn_tile}
use Rattle.mj_deeds.specs.Hand.{is_hand_start, hand, starts, hand_number}
use Rattle.mj_deeds.specs.Firsts.{ends_first, is_first}
use Rattle.mj_deeds.specs.Riichi.{is_reach_by, is_accepted_by, has_reached, is_in_riichi, before_first, behind_first, is_double, behind_reach, without_robbed, is_ippatsu}
use Rattle.mj_deeds.specs.Passed.{kinds_among, own_kinds, offers_to, offered_tiles, passed_before, passed_kinds, passed_in_riichi}
use Rattle.mj_deeds.specs.Points.{change_by, points_of, points, is_deposit, is_win, behind_last, deposits}
use Rattle.mj_deeds.specs.Course.{before_wins}
use Rattle.mj_deeds.specs.Ends.{winners_by, winners, draws_by, end_of, standing_after}
use Rattle.mj_deeds.specs.Standings.{standing_by, standing}
use Rattle.mj_deeds.proofs.HandSteps.{from_last-map}
use Rattle.mj_deeds.proofs.Mapped.{flat_map-kept, fold-kept, count-kept, any-kept, option-kept, filter-mapped, before_first-mapped, behind_first-mapped, behind_last-mapped, front-mapped, last-mapped}

-- A hand that is seen, or as many blanks.
abbrev pub seen_or_blank : Bool → List ℕ → List ℕ
seen_or_blank true tiles = tiles
seen_or_blank false tiles = replicate (length tiles) 0

-- Of four hands a seat sees its own.
abbrev pub hands_masked : ℕ → Four (List ℕ) → Four (List ℕ)
hands_masked seat hands = record {
  first = seen_or_blank (seat == 0) hands.first;
  second = seen_or_blank (seat == 1) hands.second;
  third = seen_or_blank (seat == 2) hands.third;
  fourth = seen_or_blank (not (seat == 0) && not (seat == 1) && not (seat == 2)) hands.fourth;
}

-- A deed as a seat sees it: the hands of others and the tile that another draws are blank, the call that is kept at an
-- accepted reach and the winners after one are left out, and all else stands as it is.
abbrev pub masked : ℕ → Deed → Deed
masked seat (deeds.StartHand round number honba deposits dealer indicator hands) = deeds.StartHand round number honba deposits dealer indicator (hands_masked seat hands)
masked seat (deeds.Draw who tile replacement) = deeds.Draw who (if who == seat then tile else 0) replacement
masked seat (deeds.ReachAccepted who points bid) = deeds.ReachAccepted who points NoBid
masked seat (deeds.Win who target tile unders hand yaku fu han value deltas points rest) = deeds.Win who target tile unders hand yaku fu han value deltas points []
masked seat other = other

-- Deeds as a seat sees them.
abbrev pub all_masked : ℕ → List Deed → List Deed
all_masked seat deeds = map (masked seat) deeds

-- What each fact asks of a single deed. In the own hand and the own draw nothing is blank.

own_hand : (seat : ℕ) (hands : Four (List ℕ)) → at_seat hands seat ≡ at_seat (hands_masked seat hands) seat
own_hand seat hands = by_tests (seat == 0) (seat == 1) (seat == 2) hands.first hands.second hands.third hands.fourth
  where
    by_tests : (a b c : Bool) (p q r s : List ℕ) →
        cond a p (cond b q (cond c r s)) ≡ cond a (seen_or_blank a p) (cond b (seen_or_blank b q) (cond c (seen_or_blank c r) (seen_or_blank (not a && not b && not c) s)))
    by_tests true b c p q r s = refl
    by_tests false true c p q r s = refl
    by_tests false false true p q r s = refl
    by_tests false false false p q r s = refl

own_draw : (b : Bool) (tile : ℕ) → cond b (Some tile) None ≡ cond b (Some (cond b tile 0)) None
own_draw true tile = refl
own_draw false tile = refl

own_tile : (b : Bool) (tile : ℕ) → cond b (tile ∷ []) [] ≡ cond b (cond b tile 0 ∷ []) []
own_tile true tile = refl
own_tile false tile = refl

pub gains-masked : (seat : ℕ) (d : Deed) → gains_by seat d ≡ gains_by seat (masked seat d)
gains-masked seat (deeds.StartHand round number honba deposits dealer indicator hands) = own_hand seat hands
gains-masked seat (deeds.Draw who tile replacement) = own_tile (who == seat) tile
gains-masked seat other = refl

pub drawn-masked : (seat : ℕ) (d : Deed) → drawn_by seat d ≡ drawn_by seat (masked seat d)
drawn-masked seat (deeds.Draw who tile replacement) = own_draw (who == seat) tile
drawn-masked seat other = refl

pub losses-masked : (seat who : ℕ) (d : Deed) → losses_by who d ≡ losses_by who (masked seat d)
losses-masked seat who (deeds.Draw w tile replacement) = refl
losses-masked seat who other = refl

pub discards-masked : (seat who : ℕ) (d : Deed) → discards_by who d ≡ discards_by who (masked seat d)
discards-masked seat who (deeds.Draw w tile replacement) = refl
discards-masked seat who other = refl

pub discard-masked : (seat who : ℕ) (d : Deed) → is_discard_by who d ≡ is_discard_by who (masked seat d)
discard-masked seat who (deeds.Draw w tile replacement) = refl
discard-masked seat who other = refl

pub makes-masked : (seat who : ℕ) (d : Deed) → makes_by who d ≡ makes_by who (masked seat d)
makes-masked seat who (deeds.Draw w tile replacement) = refl
makes-masked seat who other = refl

pub adds-masked : (seat who : ℕ) (d : Deed) → adds_by who d ≡ adds_by who (masked seat d)
adds-masked seat who (deeds.Draw w tile replacement) = refl
adds-masked seat who other = refl

pub kan-masked : (seat : ℕ) (d : Deed) → is_kan d ≡ is_kan (masked seat d)
kan-masked seat (deeds.Draw w tile replacement) = refl
kan-masked seat other = refl

pub indicators-masked : (seat : ℕ) (d : Deed) → indicators_by d ≡ indicators_by (masked seat d)
indicators-masked seat (deeds.Draw w tile replacement) = refl
indicators-masked seat other = refl

pub live_draw-masked : (seat : ℕ) (d : Deed) → is_live_draw d ≡ is_live_draw (masked seat d)
live_draw-masked seat (deeds.Draw w tile replacement) = refl
live_draw-masked seat other = refl

pub start-masked : (seat : ℕ) (d : Deed) → is_hand_start d ≡ is_hand_start (masked seat d)
start-masked seat (deeds.Draw w tile replacement) = refl
start-masked seat other = refl

pub ends_first-masked : (seat who : ℕ) (d : Deed) → ends_first who d ≡ ends_first who (masked seat d)
ends_first-masked seat who (deeds.Draw w tile replacement) = refl
ends_first-masked seat who other = refl

pub reach_by-masked : (seat who : ℕ) (d : Deed) → is_reach_by who d ≡ is_reach_by who (masked seat d)
reach_by-masked seat who (deeds.Draw w tile replacement) = refl
reach_by-masked seat who other = refl

pub accepted_by-masked : (seat who : ℕ) (d : Deed) → is_accepted_by who d ≡ is_accepted_by who (masked seat d)
accepted_by-masked seat who (deeds.Draw w tile replacement) = refl
accepted_by-masked seat who other = refl

pub offers-masked : (seat who : ℕ) (d : Deed) → offers_to who d ≡ offers_to who (masked seat d)
offers-masked seat who (deeds.Draw w tile replacement) = refl
offers-masked seat who other = refl

pub change-masked : (seat who : ℕ) (d : Deed) → change_by who d ≡ change_by who (masked seat d)
change-masked seat who (deeds.Draw w tile replacement) = refl
change-masked seat who other = refl

pub deposit-masked : (seat : ℕ) (d : Deed) → is_deposit d ≡ is_deposit (masked seat d)
deposit-masked seat (deeds.Draw w tile replacement) = refl
deposit-masked seat other = refl

pub win-masked : (seat : ℕ) (d : Deed) → is_win d ≡ is_win (masked seat d)
win-masked seat (deeds.Draw w tile replacement) = refl
win-masked seat other = refl

pub winners_by-masked : (seat : ℕ) (d : Deed) → winners_by d ≡ winners_by (masked seat d)
winners_by-masked seat (deeds.Draw w tile replacement) = refl
winners_by-masked seat other = refl

pub draws-masked : (seat dealer : ℕ) (d : Deed) → draws_by dealer d ≡ draws_by dealer (masked seat d)
draws-masked seat dealer (deeds.Draw w tile replacement) = refl
draws-masked seat dealer other = refl

-- The facts of a list. The newest deeds, and the parts of the list that facts are read off.

pub newest-masked : (seat : ℕ) (ds : List Deed) → newest (all_masked seat ds) ≡ option_map (masked seat) (newest ds)
newest-masked seat ds = last-mapped (masked seat) ds

pub before_newest-masked : (seat : ℕ) (ds : List Deed) → before_newest (all_masked seat ds) ≡ option_map (masked seat) (before_newest ds)
before_newest-masked seat ds = ap newest (sym (front-mapped (masked seat) ds)) ∙ newest-masked seat (take (length ds - 1) ds)

pub hand-masked : (seat : ℕ) (ds : List Deed) → all_masked seat (hand ds) ≡ hand (all_masked seat ds)
unfolding hand
hand-masked seat ds = from_last-map is_hand_start is_hand_start (masked seat) (start-masked seat) ds

pub starts-masked : (seat : ℕ) (ds : List Deed) → all_masked seat (starts ds) ≡ starts (all_masked seat ds)
starts-masked seat ds = filter-mapped is_hand_start (masked seat) (start-masked seat) ds

pub before_wins-masked : (seat : ℕ) (ds : List Deed) → all_masked seat (before_wins ds) ≡ before_wins (all_masked seat ds)
before_wins-masked seat ds = filter-mapped (λ deed. not (is_win deed)) (masked seat) (λ d. ap not (win-masked seat d)) ds

-- What a seat has of its own.

pub tiles_gained-masked : (seat : ℕ) (ds : List Deed) → tiles_gained ds seat ≡ tiles_gained (all_masked seat ds) seat
tiles_gained-masked seat ds = flat_map-kept (gains_by seat) (masked seat) (gains-masked seat) ds

holds_drawn-masked : (seat : ℕ) (before : Option Deed) (d : Deed) → holds_drawn seat before d ≡ holds_drawn seat (option_map (masked seat) before) (masked seat d)
holds_drawn-masked seat before (deeds.Reach who) = ap (λ (o : Option ℕ). cond (who == seat) o None) (option-kept (drawn_by seat) (masked seat) (drawn-masked seat) before)
holds_drawn-masked seat before (deeds.Draw who tile replacement) = own_draw (who == seat) tile
holds_drawn-masked seat before other = refl

pub drawn_tile-masked : (seat : ℕ) (ds : List Deed) → drawn_tile ds seat ≡ drawn_tile (all_masked seat ds) seat
drawn_tile-masked seat ds =
    by_newest (before_newest ds) (newest ds)
    ∙ ap (λ (o : Option Deed). option_and_then (holds_drawn seat o) (option_map (masked seat) (newest ds))) (sym (before_newest-masked seat ds))
    ∙ ap (option_and_then (holds_drawn seat (before_newest (all_masked seat ds)))) (sym (newest-masked seat ds))
  where
    by_newest : (before o : Option Deed) → option_and_then (holds_drawn seat before) o ≡ option_and_then (holds_drawn seat (option_map (masked seat) before)) (option_map (masked seat) o)
    by_newest before None = refl
    by_newest before (Some d) = holds_drawn-masked seat before d

-- What is seen of each seat.

pub tiles_lost-masked : (seat who : ℕ) (ds : List Deed) → tiles_lost ds who ≡ tiles_lost (all_masked seat ds) who
tiles_lost-masked seat who ds = flat_map-kept (losses_by who) (masked seat) (losses-masked seat who) ds

pub river-masked : (seat who : ℕ) (ds : List Deed) → river_tiles ds who ≡ river_tiles (all_masked seat ds) who
river-masked seat who ds = flat_map-kept (discards_by who) (masked seat) (discards-masked seat who) ds

pub seat_melds-masked : (seat who : ℕ) (ds : List Deed) → seat_melds ds who ≡ seat_melds (all_masked seat ds) who
seat_melds-masked seat who ds =
    let made : flat_map (makes_by who) ds ≡ flat_map (makes_by who) (all_masked seat ds) = flat_map-kept (makes_by who) (masked seat) (makes-masked seat who) ds in
    let added : flat_map (adds_by who) ds ≡ flat_map (adds_by who) (all_masked seat ds) = flat_map-kept (adds_by who) (masked seat) (adds-masked seat who) ds in
    λ i. map (λ meld. with_added meld (added i)) (made i)

pub has_reached-masked : (seat who : ℕ) (ds : List Deed) → has_reached ds who ≡ has_reached (all_masked seat ds) who
has_reached-masked seat who ds = any-kept (is_reach_by who) (masked seat) (reach_by-masked seat who) ds

pub is_in_riichi-masked : (seat who : ℕ) (ds : List Deed) → is_in_riichi ds who ≡ is_in_riichi (all_masked seat ds) who
is_in_riichi-masked seat who ds = any-kept (is_accepted_by who) (masked seat) (accepted_by-masked seat who) ds

pub is_first-masked : (seat who : ℕ) (ds : List Deed) → is_first ds who ≡ is_first (all_masked seat ds) who
is_first-masked seat who ds =
    let begun : list_any is_hand_start ds ≡ list_any is_hand_start (all_masked seat ds) = any-kept is_hand_start (masked seat) (start-masked seat) ds in
    let ended : list_any (ends_first who) ds ≡ list_any (ends_first who) (all_masked seat ds) = any-kept (ends_first who) (masked seat) (ends_first-masked seat who) ds in
    λ i. begun i && not (ended i)

pub is_double-masked : (seat who : ℕ) (ds : List Deed) → is_double ds who ≡ is_double (all_masked seat ds) who
is_double-masked seat who ds =
    let reached : has_reached ds who ≡ has_reached (all_masked seat ds) who = has_reached-masked seat who ds in
    let first : is_first (before_first (is_reach_by who) ds) who ≡ is_first (before_first (is_reach_by who) (all_masked seat ds)) who =
    is_first-masked seat who (before_first (is_reach_by who) ds)
    ∙ ap (λ (xs : List Deed). is_first xs who) (before_first-mapped (is_reach_by who) (masked seat) (reach_by-masked seat who) ds) in
    λ i. reached i && first i

behind_reach-masked : (seat who : ℕ) (ds : List Deed) → all_masked seat (behind_reach ds who) ≡ behind_reach (all_masked seat ds) who
behind_reach-masked seat who ds =
    behind_first-mapped (is_discard_by who) (masked seat) (discard-masked seat who) (behind_first (is_reach_by who) ds)
    ∙ ap (behind_first (is_discard_by who)) (behind_first-mapped (is_reach_by who) (masked seat) (reach_by-masked seat who) ds)

without_robbed-masked : (seat : ℕ) (ds : List Deed) → all_masked seat (without_robbed ds (newest ds)) ≡ without_robbed (all_masked seat ds) (newest (all_masked seat ds))
without_robbed-masked seat ds = by_newest (newest ds) ∙ ap (without_robbed (all_masked seat ds)) (sym (newest-masked seat ds))
  where
    by_newest : (o : Option Deed) → all_masked seat (without_robbed ds o) ≡ without_robbed (all_masked seat ds) (option_map (masked seat) o)
    by_newest (Some (deeds.AddedKan who tile a b c)) = front-mapped (masked seat) ds
    by_newest (Some (deeds.Draw who tile replacement)) = refl
    by_newest (Some other) = refl
    by_newest None = refl

pub is_ippatsu-masked : (seat who : ℕ) (ds : List Deed) → is_ippatsu ds who ≡ is_ippatsu (all_masked seat ds) who
is_ippatsu-masked seat who ds =
    let accepted : is_in_riichi ds who ≡ is_in_riichi (all_masked seat ds) who = is_in_riichi-masked seat who ds in
    let broken : list_any (ends_first who) (behind_reach (without_robbed ds (newest ds)) who) ≡ list_any (ends_first who)
    (behind_reach (without_robbed (all_masked seat ds) (newest (all_masked seat ds))) who) =
    any-kept (ends_first who) (masked seat) (ends_first-masked seat who) (behind_reach (without_robbed ds (newest ds)) who)
    ∙ ap (list_any (ends_first who)) (behind_reach-masked seat who (without_robbed ds (newest ds)) ∙ ap (λ (xs : List Deed). behind_reach xs who) (without_robbed-masked seat ds)) in
    λ i. accepted i && not (broken i)

pub own_kinds-masked : (seat who : ℕ) (ds : List Deed) → own_kinds ds who ≡ own_kinds (all_masked seat ds) who
own_kinds-masked seat who ds = ap kinds_among (river-masked seat who ds)

offered-masked : (seat who : ℕ) (ds : List Deed) → offered_tiles ds who ≡ offered_tiles (all_masked seat ds) who
offered-masked seat who [] = refl
offered-masked seat who (d ∷ ds) =
    let discarded : list_any (is_discard_by who) ds ≡ list_any (is_discard_by who) (all_masked seat ds) = any-kept (is_discard_by who) (masked seat) (discard-masked seat who) ds in
    let offered : offers_to who d ≡ offers_to who (masked seat d) = offers-masked seat who d in
    let later : offered_tiles ds who ≡ offered_tiles (all_masked seat ds) who = offered-masked seat who ds in
    λ i. cond (discarded i) [] (offered i) ++ later i

passed_before-masked : (seat who : ℕ) (before : List Deed) (o : Option Deed) → passed_before before who o ≡ passed_before (all_masked seat before) who (option_map (masked seat) o)
passed_before-masked seat who before None = refl
passed_before-masked seat who before (Some d) =
    let discarded : is_discard_by who d ≡ is_discard_by who (masked seat d) = discard-masked seat who d in
    let offered : offered_tiles before who ≡ offered_tiles (all_masked seat before) who = offered-masked seat who before in
    λ i. cond (discarded i) [] (offered i)

pub passed_kinds-masked : (seat who : ℕ) (ds : List Deed) → passed_kinds ds who ≡ passed_kinds (all_masked seat ds) who
passed_kinds-masked seat who ds = ap kinds_among (
    passed_before-masked seat who (take (length ds - 1) ds) (newest ds)
    ∙ ap (λ (xs : List Deed). passed_before xs who (option_map (masked seat) (newest ds))) (front-mapped (masked seat) ds)
    ∙ ap (passed_before (take (length (all_masked seat ds) - 1) (all_masked seat ds)) who) (sym (newest-masked seat ds)))

pub passed_in_riichi-masked : (seat who : ℕ) (ds : List Deed) → passed_in_riichi ds who ≡ passed_in_riichi (all_masked seat ds) who
passed_in_riichi-masked seat who ds = ap kinds_among (
    flat_map-kept (offers_to who) (masked seat) (offers-masked seat who) (behind_first (is_reach_by who) (take (length ds - 1) ds))
    ∙ ap (flat_map (offers_to who)) (behind_first-mapped (is_reach_by who) (masked seat) (reach_by-masked seat who) (take (length ds - 1) ds)
    ∙ ap (behind_first (is_reach_by who)) (front-mapped (masked seat) ds)))

-- What is seen of the hand and of the game.

pub kans-masked : (seat : ℕ) (ds : List Deed) → kans ds ≡ kans (all_masked seat ds)
kans-masked seat ds = count-kept is_kan (masked seat) (kan-masked seat) ds

pub indicators_all-masked : (seat : ℕ) (ds : List Deed) → indicators ds ≡ indicators (all_masked seat ds)
indicators_all-masked seat ds = flat_map-kept indicators_by (masked seat) (indicators-masked seat) ds

pub live_draws-masked : (seat : ℕ) (ds : List Deed) → live_draws ds ≡ live_draws (all_masked seat ds)
live_draws-masked seat ds = count-kept is_live_draw (masked seat) (live_draw-masked seat) ds

pub live_tiles-masked : (seat : ℕ) (ds : List Deed) → live_tiles ds ≡ live_tiles (all_masked seat ds)
live_tiles-masked seat ds =
    let drawn : live_draws ds ≡ live_draws (all_masked seat ds) = live_draws-masked seat ds in
    let stood : kans ds ≡ kans (all_masked seat ds) = kans-masked seat ds in
    λ i. 70 - drawn i - stood i

pub winners-masked : (seat : ℕ) (ds : List Deed) → winners ds ≡ winners (all_masked seat ds)
winners-masked seat ds = flat_map-kept winners_by (masked seat) (winners_by-masked seat) ds

pub end_of-masked : (seat dealer : ℕ) (ds : List Deed) → end_of ds dealer ≡ end_of (all_masked seat ds) dealer
end_of-masked seat dealer ds =
    let drawn : flat_map (draws_by dealer) ds ≡ flat_map (draws_by dealer) (all_masked seat ds) = flat_map-kept (draws_by dealer) (masked seat) (draws-masked seat dealer) ds in
    let won : winners ds ≡ winners (all_masked seat ds) = winners-masked seat ds in
    λ i. unwrap_or (slice_get (drawn i) 0) (Won (list_any (λ who. who == dealer) (won i)))

pub standing_after-masked : (seat : ℕ) (now : Standing) (ds : List Deed) → standing_after now ds ≡ standing_after now (all_masked seat ds)
standing_after-masked seat now ds = ap (next_standing now) (end_of-masked seat now.dealer ds)

pub hand_number-masked : (seat : ℕ) (ds : List Deed) → hand_number ds ≡ hand_number (all_masked seat ds)
hand_number-masked seat ds = ap (λ (n : ℕ). n - 1) (sym (length-map (starts ds) (masked seat)) ∙ ap length (starts-masked seat ds))

standing_by-masked : (seat number : ℕ) (o : Option Deed) → standing_by number o ≡ standing_by number (option_map (masked seat) o)
standing_by-masked seat number (Some (deeds.StartHand round n honba deposits dealer indicator hands)) = refl
standing_by-masked seat number (Some (deeds.Draw who tile replacement)) = refl
standing_by-masked seat number (Some other) = refl
standing_by-masked seat number None = refl

pub standing-masked : (seat : ℕ) (ds : List Deed) → standing ds ≡ standing (all_masked seat ds)
standing-masked seat ds =
    standing_by-masked seat (hand_number ds) (newest (starts ds))
    ∙ ap (standing_by (hand_number ds)) (sym (newest-masked seat (starts ds)) ∙ ap newest (starts-masked seat ds))
    ∙ ap (λ (n : ℕ). standing_by n (newest (starts (all_masked seat ds)))) (hand_number-masked seat ds)

pub points_of-masked : (seat who : ℕ) (ds : List Deed) → points_of ds who ≡ points_of (all_masked seat ds) who
points_of-masked seat who ds = fold-kept (λ (points : ℤ) (deed : Deed). points +ℤ change_by who deed) (masked seat) (λ p d. ap (λ (c : ℤ). p +ℤ c) (change-masked seat who d)) (pos 30000) ds

pub points-masked : (seat : ℕ) (ds : List Deed) → points ds ≡ points (all_masked seat ds)
points-masked seat ds =
    let p : (who : ℕ) → points_of ds who ≡ points_of (all_masked seat ds) who = λ who. points_of-masked seat who ds in
    λ i. p 0 i ∷ p 1 i ∷ p 2 i ∷ p 3 i ∷ []

pub deposits-masked : (seat : ℕ) (ds : List Deed) → deposits ds ≡ deposits (all_masked seat ds)
deposits-masked seat ds =
    count-kept is_deposit (masked seat) (deposit-masked seat) (behind_last is_win ds)
    ∙ ap (count_by is_deposit) (behind_last-mapped is_win (masked seat) (win-masked seat) ds)
