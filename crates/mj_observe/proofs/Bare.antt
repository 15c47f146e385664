-- A deed that follows, as everybody sees it, is what its public token says beside the deeds before it as everybody sees them.
use Rattle.std.proofs.Common.{◌≡◌, ℕ, ◌+◌, ◌==◌, Bool, true, false, true≢false, cond, List, [], ◌∷◌, ◌++◌, length, refl, ap, sym, ◌∙◌, replicate, eqb-true}
use Rattle.std.specs.Prelude.{Option, Some, None, option_map, unwrap_or}
use Rattle.std.proofs.lemmas.List.{length-replicate, map-append}
use Rattle.mj_rounds.specs.declared.rounds.Standing.{Standing}
use Rattle.mj_rounds.specs.Rounds.{first_standing}
use Rattle.mj_deeds.specs.declared.four.Four.{Four}
use Rattle.mj_deeds.specs.declared.bid.Bid.TheVariants as bids
use Rattle.mj_deeds.specs.declared.deed.Deed.{Deed}
use Rattle.mj_deeds.specs.declared.deed.Deed.TheVariants as deeds
use Rattle.mj_deeds.specs.declared.token.Token.{Token}
use Rattle.mj_deeds.specs.declared.token.Token.TheVariants as tokens
use Rattle.mj_deeds.specs.Hand.{hand}
use Rattle.mj_deeds.specs.Facts.{newest}
use Rattle.mj_deeds.specs.Ends.{standing_after}
use Rattle.mj_deeds.specs.Standings.{standing}
use Rattle.mj_deeds.specs.Points.{deposits}
use Rattle.mj_deeds.proofs.Masked.{masked, all_masked, seen_or_blank, newest-masked, hand-masked, points-masked, deposits-masked}
use Rattle.mj_wall.specs.declared.setting.Rules.{Rules}
use Rattle.mj_rules.specs.Played.{IsPlayedBehind, is_game_start}
use Rattle.mj_rules.proofs.MaskedView.{win_shown-masked, accept-masked, draw_shown-masked, next_standing-masked}
use Rattle.mj_view.specs.Seen.{own_tile}
use Rattle.mj_view.specs.Tokens.{token}
use Rattle.mj_forms.specs.Lines.{shown_tiles, hidden_tile, start_hand_line, reach_accepted_line, win_line}
use Rattle.mj_secrecy.proofs.Rebuilt.{after_dora, start_known, start_rebuilt, rebuilt, DealsThirteen, masked_is_rebuilt}
use Rattle.mj_observe.specs.Views.{all_hidden, public_line, is_hand_end}
use Rattle.mj_observe.specs.Traces.{public_token}

-- What seats 0 and 1 both see of a deed: no hand that is dealt, and no tile that is drawn.
abbrev pub bare : Deed → Deed
bare d = masked 0 (masked 1 d)

abbrev pub all_bare : List Deed → List Deed
all_bare ds = all_masked 0 (all_masked 1 ds)

pub bare_more : (ds : List Deed) (d : Deed) → all_bare (ds ++ d ∷ []) ≡ all_bare ds ++ bare d ∷ []
bare_more ds d = ap (all_masked 0) (map-append (masked 1) ds (d ∷ [])) ∙ map-append (masked 0) (all_masked 1 ds) (masked 1 d ∷ [])

pub hand-bare : (ds : List Deed) → all_bare (hand ds) ≡ hand (all_bare ds)
hand-bare ds = ap (all_masked 0) (hand-masked 1 ds) ∙ hand-masked 0 (all_masked 1 ds)

-- The public line is that of the deed so seen, and so is whether it ends a hand.
long_alike : (b : Bool) (tiles : List ℕ) → length tiles ≡ length (seen_or_blank b tiles)
long_alike true tiles = refl
long_alike false tiles = sym (length-replicate {A = ℕ} (length tiles) 0)

hidden_alike : (a b : Bool) (tiles : List ℕ) → shown_tiles false tiles ≡ shown_tiles false (seen_or_blank a (seen_or_blank b tiles))
hidden_alike a b tiles = ap (λ (n : ℕ). replicate n hidden_tile) (long_alike b tiles ∙ long_alike a (seen_or_blank b tiles))

hands_alike : (hands : Four (List ℕ)) (a b c d p q r s : Bool) →
    all_hidden hands ≡ all_hidden (record {
      first = seen_or_blank a (seen_or_blank p hands.first);
      second = seen_or_blank b (seen_or_blank q hands.second);
      third = seen_or_blank c (seen_or_blank r hands.third);
      fourth = seen_or_blank d (seen_or_blank s hands.fourth);
    })
hands_alike hands a b c d p q r s =
    let one = hidden_alike a p hands.first in
    let two = hidden_alike b q hands.second in
    let three = hidden_alike c r hands.third in
    let four = hidden_alike d s hands.fourth in
    λ i. record { first = one i; second = two i; third = three i; fourth = four i }

pub line-bare : (d : Deed) → public_line d ≡ public_line (bare d)
unfolding reach_accepted_line win_line
line-bare (deeds.StartHand round number honba deposits dealer indicator hands) =
    ap (start_hand_line round number honba deposits dealer indicator) (hands_alike hands true false false false false true false false)
line-bare (deeds.Draw who tile replacement) = refl
line-bare other = refl

pub end-bare : (d : Deed) → is_hand_end d ≡ is_hand_end (bare d)
end-bare (deeds.Draw who tile replacement) = refl
end-bare other = refl

-- Each hand that is dealt has thirteen tiles.
abbrev second_hand : Deed → List ℕ
second_hand (deeds.StartHand round number honba deposits dealer indicator hands) = hands.second
second_hand other = []

second_rebuilt : (before : List Deed) (o : Option Deed) (indicator : ℕ) (own : List ℕ) → second_hand (start_rebuilt 0 before o indicator own) ≡ replicate 13 0
second_rebuilt before None indicator own = refl
second_rebuilt before (Some (deeds.StartGame names)) indicator own = refl
second_rebuilt before (Some other) indicator own = refl

blanks_long : (n m : ℕ) → replicate {A = ℕ} n 0 ≡ replicate {A = ℕ} m 0 → n ≡ m
blanks_long n m e = sym (length-replicate {A = ℕ} n 0) ∙ ap length e ∙ length-replicate {A = ℕ} m 0

-- A start of a hand is the same whatever the hand of seat 1, as long as it has thirteen tiles.
known_alike : (now : Standing) (lying indicator : ℕ) (own : List ℕ) → length own ≡ 13 → masked 0 (start_known 1 now lying indicator own) ≡ masked 0 (start_known 1 now lying indicator (replicate 13 0))
known_alike now lying indicator own e =
    let same : length own ≡ length (replicate {A = ℕ} 13 0) = e ∙ sym (length-replicate {A = ℕ} 13 0) in
    λ i. deeds.StartHand now.round (now.dealer + 1) now.honba lying now.dealer indicator (record {
      first = replicate 13 0;
      second = replicate (same i) 0;
      third = replicate (length (replicate {A = ℕ} 13 0)) 0;
      fourth = replicate (length (replicate {A = ℕ} 13 0)) 0;
    })

-- the hand that the one before leads to
abbrev leads_to : List Deed → Standing
leads_to before = unwrap_or (standing_after (standing before) (hand before)) first_standing

later_alike : (before : List Deed) (indicator : ℕ) (own : List ℕ) → length own ≡ 13 →
    masked 0 (start_known 1 (leads_to before) (deposits before) indicator own) ≡ masked 0 (start_known 1 (leads_to (all_masked 0 before)) (deposits (all_masked 0 before)) indicator (replicate 13 0))
later_alike before indicator own e =
    let now : leads_to before ≡ leads_to (all_masked 0 before) = ap (λ (o : Option Standing). unwrap_or o first_standing) (next_standing-masked 0 before) in
    known_alike (leads_to before) (deposits before) indicator own e ∙ (λ i. masked 0 (start_known 1 (now i) (deposits-masked 0 before i) indicator (replicate 13 0)))

start_alike : (before : List Deed) (o : Option Deed) (indicator : ℕ) (own : List ℕ) → length own ≡ 13 →
    masked 0 (start_rebuilt 1 before o indicator own) ≡ masked 0 (start_rebuilt 1 (all_masked 0 before) (option_map (masked 0) o) indicator (replicate 13 0))
start_alike before (Some (deeds.StartGame names)) indicator own e = known_alike first_standing 0 indicator own e
start_alike before (Some (deeds.Draw who tile replacement)) indicator own e = later_alike before indicator own e
start_alike before (Some other) indicator own e = later_alike before indicator own e
start_alike before None indicator own e = later_alike before indicator own e

-- A draw names no tile.
no_tile : (a b : Bool) (tile : ℕ) → (a ≡ true → b ≡ false) → cond a (unwrap_or (own_tile b tile) 0) 0 ≡ cond a 0 0
no_tile true true tile h = absurd (true≢false (h refl))
no_tile true false tile h = refl
no_tile false b tile h = refl

one_seat : (who : ℕ) → (who == 0) ≡ true → (who == 1) ≡ false
one_seat who h = ap (λ (n : ℕ). n == 1) (eqb-true who 0 h)

dora-masked : (o : Option Deed) → after_dora o ≡ after_dora (option_map (masked 0) o)
dora-masked None = refl
dora-masked (Some (deeds.Draw who tile replacement)) = refl
dora-masked (Some other) = refl

-- A token with thirteen blanks for the dealt hand.
abbrev blanked : Token → Token
blanked (tokens.StartHand indicator own) = tokens.StartHand indicator (replicate 13 0)
blanked other = other

-- The deed as everybody sees it, out of its public token and the deeds before it as everybody sees them.
abbrev pub public_rebuilt : List Deed → Token → Deed
public_rebuilt before token = masked 0 (rebuilt 1 before (blanked token))

-- The dealt hand of a token, and thirteen tiles where there is none.
abbrev dealt_to : Token → List ℕ
dealt_to (tokens.StartHand indicator own) = own
dealt_to other = replicate 13 0

rebuilt_alike : (before : List Deed) (d : Deed) → length (dealt_to (token 1 d)) ≡ 13 → masked 0 (rebuilt 1 before (token 1 d)) ≡ public_rebuilt (all_masked 0 before) (public_token d)
rebuilt_alike before (deeds.StartHand round number honba lying dealer indicator hands) e =
    start_alike before (newest before) indicator hands.second e
    ∙ ap (λ (o : Option Deed). masked 0 (start_rebuilt 1 (all_masked 0 before) o indicator (replicate 13 0))) (sym (newest-masked 0 before))
rebuilt_alike before (deeds.Draw who tile replacement) e =
    let none = no_tile (who == 0) (who == 1) tile (one_seat who) in
    let again : after_dora (newest before) ≡ after_dora (newest (all_masked 0 before)) = dora-masked (newest before) ∙ ap after_dora (sym (newest-masked 0 before)) in
    λ i. deeds.Draw who (none i) (again i)
rebuilt_alike before (deeds.ReachAccepted who points bid) e = ap (masked 0) (accept-masked 0 who bids.NoBid before)
rebuilt_alike before (deeds.Win who target tile unders own yaku fu han value deltas points rest) e =
    ap (masked 0) (win_shown-masked 0 who target (record { own = own; tile = tile; unders = unders }) [] before)
rebuilt_alike before (deeds.DrawnHand reason hands ready deltas points) e = ap (masked 0) (draw_shown-masked 0 reason hands before)
rebuilt_alike before (deeds.EndGame points lying) e = λ i. deeds.EndGame (points-masked 0 before i) (deposits-masked 0 before i)
rebuilt_alike before other e = refl

-- The hand that is dealt to seat 1 has thirteen tiles, as seat 0 sees them.
dealt_long : (before : List Deed) (d : Deed) → masked 0 d ≡ rebuilt 0 before (token 0 d) → length (dealt_to (token 1 d)) ≡ 13
dealt_long before (deeds.StartHand round number honba lying dealer indicator hands) e =
    blanks_long (length hands.second) 13 (ap second_hand e ∙ second_rebuilt before (newest before) indicator hands.first)
dealt_long before other e = length-replicate {A = ℕ} 13 0

given_alike : (rules : Rules) (walls : List (List ℕ)) (first : Deed) (others : List Deed) (d : Deed) → DealsThirteen walls → IsPlayedBehind rules walls (first ∷ others) d →
    bare d ≡ public_rebuilt (all_bare (first ∷ others)) (public_token d)
given_alike rules walls first others d deals p =
    let ds : List Deed = first ∷ others in
    let one = masked_is_rebuilt 1 rules walls ds p.given d deals p.gives in
    let none = masked_is_rebuilt 0 rules walls ds p.given d deals p.gives in
    ap (masked 0) one ∙ rebuilt_alike (all_masked 1 ds) d (dealt_long (all_masked 0 ds) d none)

begins_alike : (d : Deed) → is_game_start d ≡ true → bare d ≡ public_rebuilt [] (public_token d)
begins_alike (deeds.StartGame names) h = refl
begins_alike other h = cc

-- A played deed comes so of its public token.
pub bare_is_rebuilt : (rules : Rules) (walls : List (List ℕ)) (ds : List Deed) (d : Deed) → DealsThirteen walls → IsPlayedBehind rules walls ds d →
    bare d ≡ public_rebuilt (all_bare ds) (public_token d)
bare_is_rebuilt rules walls [] d deals p = begins_alike d p
bare_is_rebuilt rules walls (first ∷ others) d deals p = given_alike rules walls first others d deals p
