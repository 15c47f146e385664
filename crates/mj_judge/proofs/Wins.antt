-- The tile that is won on, and the circumstances of the win.
use Rattle.std.proofs.Common.{◌≡◌, ℕ, ◌+◌, ◌<◌, ◌==◌, ◌&&◌, ◌||◌, Bool, true, false, not, cond, ltb, List, [], ◌∷◌, ◌++◌, length, get_or, set, refl, sym, ap, ◌∙◌, arith}
use Rattle.std.specs.Prelude.{Option, Some, None, option_map, option_and_then, option_to_list, flat_map}
use Rattle.std.specs.List.{list_any, list_all}
use Rattle.std.specs.Option.{option_map_or}
use Rattle.std.proofs.lemmas.Bool.{eq-eqb}
use Rattle.mj_tiles.specs.Faces.{kind_of}
use Rattle.mj_tiles.specs.Counts.{kind_counts}
use Rattle.mj_tiles.proofs.CountSteps.{kind_counts-push}
use Rattle.mj_rounds.specs.declared.rounds.Standing.{Standing}
use Rattle.mj_readings.specs.AllReadings.{readings_of}
use Rattle.mj_readings.specs.declared.reading.Case.{Case}
use Rattle.mj_readings.specs.declared.reading.Riichi.TheVariants.{No, Single, Double}
use Rattle.mj_deeds.specs.declared.deed.Deed.{Deed}
use Rattle.mj_deeds.specs.declared.deed.Deed.TheVariants.{Draw, Discard, AddedKan, Win}
use Rattle.mj_deeds.specs.Course.{before_wins}
use Rattle.mj_deeds.specs.Facts.{newest, before_newest, drawn_tile, holds_drawn}
use Rattle.mj_deeds.specs.Hand.{hand}
use Rattle.mj_deeds.specs.Points.{is_win}
use Rattle.mj_deeds.specs.Standings.{standing}
use Rattle.mj_rules.specs.Broken.{is_other_tile, misses_winning, offered_in, won_tiles, winning_kinds, has_no_yaku}
use Rattle.mj_rules.specs.View.{SeatView, view_of, turn_by, turn_in}
use Rattle.mj_rules.specs.Wins.{seat_wind, is_draw, is_replacement, is_added, case_of}
use Rattle.mj_yaku.specs.Hands.{are_concealed}
use Rattle.mj_yaku.specs.SomeYaku.{gives_yaku}
use Rattle.mj_tiles.specs.declared.meld.Meld.{Meld}
use Rattle.mj_deeds.specs.declared.answer.Pai.{Pai}
use Rattle.mj_table.proofs.InHand.{newest_in_hand}
use Rattle.mj_facts.proofs.WinSteps.{riichi_without, double_without, first_without, live_without, melds_without, before_wins-more, ippatsu_without}
use Rattle.mj_deeds.proofs.Newest.{newest_more}

-- the circumstances

-- Deeds are none, or some and a last one.
data Ends (ds : List Deed) : Type 0 where
  None_yet : ds ≡ [] → Ends ds
  Ended : (before : List Deed) (d : Deed) → ds ≡ before ++ d ∷ [] → Ends ds

ends : (ds : List Deed) → Ends ds
ends [] = None_yet refl
ends (d ∷ ds) = further (ends ds)
  where
    further : Ends ds → Ends (d ∷ ds)
    further (None_yet e) = Ended [] d (ap (λ (xs : List Deed). d ∷ xs) e)
    further (Ended before x e) = Ended (d ∷ before) x (ap (λ (xs : List Deed). d ∷ xs) e)

-- Where the newest deed is no win, the circumstances are those before the winners.
case_same : (now : Standing) (ds before : List Deed) (d : Deed) (seat : ℕ) → ds ≡ before ++ d ∷ [] → is_win d ≡ false → case_of now (before_wins ds) seat ≡ case_of now ds seat
unfolding case_of
case_same now ds before d seat is none =
    let last : newest (before_wins ds) ≡ newest ds =
    ap (λ (xs : List Deed). newest (before_wins xs)) is
    ∙ ap newest (before_wins-more before d ∙ ap (λ b. before_wins before ++ cond (not b) (d ∷ []) []) none)
    ∙ newest_more (before_wins before) d ∙ sym (ap newest is ∙ newest_more before d) in
    let riichi = riichi_without ds seat in
    let double = double_without ds seat in
    λ i. record {
      seat_wind = seat_wind now.dealer seat;
      round_wind = now.round;
      by_draw = is_draw (last i);
      closed = are_concealed (melds_without ds seat i);
      riichi = cond (riichi i) (cond (double i) Double Single) No;
      ippatsu = sym (ippatsu_without ds before d seat is none) i;
      last = live_without ds i == 0;
      rinshan = is_replacement (last i);
      robbed = is_added (last i);
      first = first_without ds seat i;
    }

-- The kinds of the tiles that are won on, by the newest deed and the one before it.
abbrev kinds_by : ℕ → Option Deed → Option Deed → List ℕ
kinds_by seat before newest = flat_map (λ tile. kind_of tile ∷ []) (option_to_list (option_and_then (holds_drawn seat before) newest) ++ offered_in (turn_in (option_map turn_by newest)))

-- A win gives none.
win_gives : (before : Option Deed) (seat : ℕ) (d : Deed) → is_win d ≡ true → ltb 0 (length (kinds_by seat before (Some d))) ≡ true → ⊥
win_gives before seat (Win who target tile unders hand yaku fu han value deltas points rest) w h = cc
win_gives before seat other w h = cc

gives : (before newest : Option Deed) (seat : ℕ) (d : Deed) → newest ≡ Some d → ltb 0 (length (kinds_by seat before newest)) ≡ true → is_win d ≡ false
gives before newest seat d e h = by_test (is_win d) refl
  where
    by_test : (b : Bool) → is_win d ≡ b → is_win d ≡ false
    by_test true w = absurd (win_gives before seat d w (ap (λ o. ltb 0 (length (kinds_by seat before o))) (sym e) ∙ h))
    by_test false w = w

pub case_now : (ds : List Deed) (seat : ℕ) → ltb 0 (length (winning_kinds (view_of ds seat))) ≡ true → case_of (standing ds) (before_wins (hand ds)) seat ≡ (view_of ds seat).case
unfolding view_of
case_now ds seat h = by_hand (hand ds) refl
  where
    by_hand : (xs : List Deed) → hand ds ≡ xs → case_of (standing ds) (before_wins (hand ds)) seat ≡ case_of (standing ds) (hand ds) seat
    by_hand [] e = ap (λ (xs : List Deed). case_of (standing ds) (before_wins xs) seat) e ∙ sym (ap (λ (xs : List Deed). case_of (standing ds) xs seat) e)
    by_hand (x ∷ xs) e = by_end (ends (hand ds))
      where
        some : x ∷ xs ≡ [] → ⊥
        some k = cc

        by_end : Ends (hand ds) → case_of (standing ds) (before_wins (hand ds)) seat ≡ case_of (standing ds) (hand ds) seat
        by_end (None_yet k) = absurd (some (sym e ∙ k))
        by_end (Ended before d k) =
            case_same (standing ds) (hand ds) before d seat k
            (gives (before_newest ds) (newest ds) seat d (sym (ap newest e ∙ newest_in_hand ds x xs e) ∙ ap newest k ∙ newest_more before d) h)

-- the tile

-- Who holds a drawn tile is offered none.
pub drawn_alone : (ds : List Deed) (seat tile kind : ℕ) → drawn_tile ds seat ≡ Some tile → kind ≡ kind_of tile → kind ∷ [] ≡ winning_kinds (view_of ds seat)
unfolding view_of
drawn_alone ds seat tile kind e at =
    ap (λ k. k ∷ []) at
    ∙ sym (ap (λ o. flat_map (λ tile. kind_of tile ∷ []) (option_to_list o ++ offered_in (turn_in (option_map turn_by (newest ds))))) e
    ∙ ap (λ (ts : List ℕ). kind_of tile ∷ flat_map (λ tile. kind_of tile ∷ []) ts) (none (before_newest ds) (newest ds) e))
  where
    none : (before newest : Option Deed) → option_and_then (holds_drawn seat before) newest ≡ Some tile → offered_in (turn_in (option_map turn_by newest)) ≡ []
    none before None h = refl
    none before (Some (Discard who t drawn)) h = cc
    none before (Some (AddedKan who t a b c)) h = cc
    none before (Some other) h = refl

-- Who holds none may win on the one that is offered.
pub offered_alone : (ds : List Deed) (seat : ℕ) (tiles : List ℕ) → drawn_tile ds seat ≡ None → tiles ≡ offered_in (turn_in (option_map turn_by (newest ds))) →
    flat_map (λ tile. kind_of tile ∷ []) tiles ≡ winning_kinds (view_of ds seat)
unfolding view_of
offered_alone ds seat tiles e is =
    ap (flat_map (λ tile. kind_of tile ∷ [])) is
    ∙ sym (ap (λ o. flat_map (λ tile. kind_of tile ∷ []) (option_to_list o ++ offered_in (turn_in (option_map turn_by (newest ds))))) e)

-- One tile more is won on.
pub won_with : (counts tiles result : List ℕ) (given : Option ℕ) (tile kind : ℕ) → given ≡ Some tile → kind ≡ kind_of tile → kind < 34 →
    result ≡ set counts kind (get_or counts kind 0 + 1) → counts ≡ kind_counts tiles →
    result ≡ kind_counts (tiles ++ option_to_list given)
won_with counts tiles result given tile kind e at low told is =
    told ∙ (λ i. set (is i) (at i) (get_or (is i) (at i) 0 + 1))
    ∙ kind_counts-push tiles tile (small kind (kind_of tile) at low) ∙ ap (λ o. kind_counts (tiles ++ option_to_list o)) (sym e)
  where
    small : (a b : ℕ) → a ≡ b → a < 34 → b < 34
    small a b e h = omega (arith, e, h)

-- a yaku

-- Where none passes, all fail.
none_passes : {A : Type 0} (p : A → Bool) (xs : List A) → not (list_any p xs) ≡ list_all (λ x. not (p x)) xs
none_passes p [] = refl
none_passes p (x ∷ xs) = by_test (p x) (list_any p xs) ∙ ap (λ b. not (p x) && b) (none_passes p xs)
  where
    by_test : (a b : Bool) → not (a || b) ≡ (not a && not b)
    by_test true b = refl
    by_test false b = refl

-- No reading of the hand has one.
pub no_yaku : (view : SeatView) (won : List ℕ) (melds : List Meld) (case : Case) (winning : ℕ) (result : Bool) → won ≡ kind_counts (won_tiles view) → melds ≡ view.melds → case ≡ view.case →
    winning ∷ [] ≡ winning_kinds view → result ≡ list_any (gives_yaku melds case) (readings_of won melds winning) → not result ≡ list_all (has_no_yaku view) (winning_kinds view)
unfolding has_no_yaku
no_yaku view won melds case winning result w m k kinds told =
    ap not (told ∙ (λ i. list_any (gives_yaku (m i) (k i)) (readings_of (w i) (m i) winning)))
    ∙ none_passes (gives_yaku view.melds view.case) (readings_of (kind_counts (won_tiles view)) view.melds winning)
    ∙ alone (list_all (λ reading. not (gives_yaku view.melds view.case reading)) (readings_of (kind_counts (won_tiles view)) view.melds winning))
    ∙ ap (list_all (has_no_yaku view)) kinds
  where
    alone : (b : Bool) → b ≡ (b && true)
    alone true = refl
    alone false = refl

-- The case of a win tells whether the hand is closed.
pub closed_is : (ds : List Deed) (seat : ℕ) (melds : List Meld) (case : Case) → melds ≡ (view_of ds seat).melds → case ≡ (view_of ds seat).case → case.closed ≡ are_concealed melds
unfolding view_of case_of
closed_is ds seat melds case m k = ap (λ (x : Case). x.closed) k ∙ sym (ap are_concealed m)

-- At its own draw a seat wins on the tile that it drew.
pub drawn_missed : (ds : List Deed) (seat target who t : ℕ) (replacement : Bool) (d : Deed) (tile : Option Pai) (result : Bool) → Some d ≡ newest ds → d ≡ Draw who t replacement → target ≡ seat →
    result ≡ option_map_or (λ drawn. is_other_tile drawn tile) (drawn_tile ds seat) true → result ≡ misses_winning seat (view_of ds seat) target tile (turn_in (option_map turn_by (newest ds)))
unfolding view_of
drawn_missed ds seat target who t replacement d tile result last is own told =
    told
    ∙ sym (ap (λ o. misses_winning seat (view_of ds seat) target tile (turn_in (option_map turn_by o))) (sym last ∙ ap Some is)
    ∙ ap (λ b. not b || option_map_or (λ drawn. is_other_tile drawn tile) (drawn_tile ds seat) true) (eq-eqb target seat own))
