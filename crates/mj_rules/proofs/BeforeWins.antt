-- The deeds before the winners are named: a win neither gives, takes, makes nor shows tiles, and leaves the game where it has come to.
use Rattle.std.proofs.Common.{◌≡◌, ℕ, Bool, true, false, cond, not, List, [], ◌∷◌, ◌++◌, refl, sym, ap, ◌∙◌, append-nil}
use Rattle.std.specs.Prelude.{Some, map, flat_map, fold}
use Rattle.std.specs.List.{list_any}
use Rattle.std.proofs.lemmas.List.Elements.{filter-append}
use Rattle.mj_tiles.specs.Faces.{less}
use Rattle.mj_tiles.specs.declared.meld.Meld.{Meld}
use Rattle.mj_deeds.specs.declared.deed.Deed.{Deed}
use Rattle.mj_deeds.specs.declared.deed.Deed.TheVariants.{StartHand, Win}
use Rattle.mj_deeds.specs.Course.{before_wins}
use Rattle.mj_deeds.specs.Facts.{newest, losses_by, tiles_gained, tiles_lost, concealed_tiles, makes_by, adds_by, with_added, seat_melds, indicators_by, indicators}
use Rattle.mj_deeds.specs.Hand.{is_hand_start, from_last, hand}
use Rattle.mj_deeds.specs.Points.{is_win}
use Rattle.mj_deeds.proofs.Newest.{newest_more}
use Rattle.mj_rules.proofs.Stages.{Stage, NoGame, stage_after, stage_of, stage_is}
use Rattle.mj_rules.proofs.Winning.{gained_before_wins}

-- The newest deed before the winners, one deed further.
pub newest_before : (hs : List Deed) (d : Deed) → newest (before_wins (hs ++ d ∷ [])) ≡ cond (is_win d) (newest (before_wins hs)) (Some d)
newest_before hs d = ap newest (filter-append (λ deed. not (is_win deed)) hs (d ∷ [])) ∙ by_test (is_win d)
  where
    by_test : (b : Bool) → newest (before_wins hs ++ cond (not b) (d ∷ []) []) ≡ cond b (newest (before_wins hs)) (Some d)
    by_test true = ap newest (append-nil (before_wins hs))
    by_test false = newest_more (before_wins hs) d

-- Where there is a deed before the winners there is a hand.
pub some_before : (ds : List Deed) (d : Deed) → newest (before_wins (hand ds)) ≡ Some d → hand ds ≡ [] → ⊥
some_before ds d e empty = none (sym (ap (λ (hs : List Deed). newest (before_wins hs)) empty) ∙ e)
  where
    none : newest [] ≡ Some d → ⊥
    none k = cc

-- the tiles of a seat

lost_before_wins : (hs : List Deed) (seat : ℕ) → tiles_lost (before_wins hs) seat ≡ tiles_lost hs seat
lost_before_wins [] seat = refl
lost_before_wins (Win who target tile unders own yaku fu han value deltas said rest ∷ hs) seat = lost_before_wins hs seat
lost_before_wins (other ∷ hs) seat = ap (λ (xs : List ℕ). losses_by seat other ++ xs) (lost_before_wins hs seat)

pub concealed_before_wins : (hs : List Deed) (seat : ℕ) → concealed_tiles (before_wins hs) seat ≡ concealed_tiles hs seat
concealed_before_wins hs seat =
    ap (λ (xs : List ℕ). less xs (tiles_lost (before_wins hs) seat)) (gained_before_wins hs seat)
    ∙ ap (less (tiles_gained hs seat)) (lost_before_wins hs seat)

made_before_wins : (hs : List Deed) (seat : ℕ) → flat_map (makes_by seat) (before_wins hs) ≡ flat_map (makes_by seat) hs
made_before_wins [] seat = refl
made_before_wins (Win who target tile unders own yaku fu han value deltas said rest ∷ hs) seat = made_before_wins hs seat
made_before_wins (other ∷ hs) seat = ap (λ (ms : List Meld). makes_by seat other ++ ms) (made_before_wins hs seat)

added_before_wins : (hs : List Deed) (seat : ℕ) → flat_map (adds_by seat) (before_wins hs) ≡ flat_map (adds_by seat) hs
added_before_wins [] seat = refl
added_before_wins (Win who target tile unders own yaku fu han value deltas said rest ∷ hs) seat = added_before_wins hs seat
added_before_wins (other ∷ hs) seat = ap (λ (xs : List ℕ). adds_by seat other ++ xs) (added_before_wins hs seat)

pub melds_before_wins : (hs : List Deed) (seat : ℕ) → seat_melds (before_wins hs) seat ≡ seat_melds hs seat
melds_before_wins hs seat =
    ap (λ (ms : List Meld). map (λ meld. with_added meld (flat_map (adds_by seat) (before_wins hs))) ms) (made_before_wins hs seat)
    ∙ ap (λ (xs : List ℕ). map (λ meld. with_added meld xs) (flat_map (makes_by seat) hs)) (added_before_wins hs seat)

pub shown_before_wins : (hs : List Deed) → indicators (before_wins hs) ≡ indicators hs
shown_before_wins [] = refl
shown_before_wins (Win who target tile unders own yaku fu han value deltas said rest ∷ hs) = shown_before_wins hs
shown_before_wins (other ∷ hs) = ap (λ (xs : List ℕ). indicators_by other ++ xs) (shown_before_wins hs)

-- how far the game has come

stage_before_wins : (hs : List Deed) (stage : Stage) → fold stage_after stage (before_wins hs) ≡ fold stage_after stage hs
stage_before_wins [] stage = refl
stage_before_wins (Win who target tile unders own yaku fu han value deltas said rest ∷ hs) stage = stage_before_wins hs stage
stage_before_wins (other ∷ hs) stage = stage_before_wins hs (stage_after stage other)

-- A hand starts afresh.
started : (s t : Stage) (d : Deed) → is_hand_start d ≡ true → stage_after s d ≡ stage_after t d
started s t (StartHand round number honba deposits dealer indicator hands) h = refl
started s t other h = cc

-- So what it has come to is told by the deeds of the newest hand.
stage_in_hand : (ds : List Deed) (s t : Stage) → (from_last is_hand_start ds ≡ [] → ⊥) → fold stage_after s ds ≡ fold stage_after t (from_last is_hand_start ds)
stage_in_hand [] s t some = absurd (some refl)
stage_in_hand (d ∷ ds) s t some = by_tests (list_any is_hand_start ds) (is_hand_start d) refl some (λ dealt. stage_in_hand ds (stage_after s d) t dealt)
  where
    by_tests : (a b : Bool) → is_hand_start d ≡ b → (cond a (from_last is_hand_start ds) (cond b (d ∷ ds) []) ≡ [] → ⊥) →
        ((from_last is_hand_start ds ≡ [] → ⊥) → fold stage_after (stage_after s d) ds ≡ fold stage_after t (from_last is_hand_start ds)) →
        fold stage_after (stage_after s d) ds ≡ fold stage_after t (cond a (from_last is_hand_start ds) (cond b (d ∷ ds) []))
    by_tests true b e dealt go = go dealt
    by_tests false true e dealt go = ap (λ (stage : Stage). fold stage_after stage ds) (started s t d e)
    by_tests false false e dealt go = absurd (dealt refl)

-- A game has come to where the newest deed before the winners leads.
pub stage_led : (ds : List Deed) (d : Deed) (stage : Stage) → newest (before_wins (hand ds)) ≡ Some d → ((before : Stage) → stage_after before d ≡ stage) → stage_of ds ≡ stage
unfolding hand
stage_led ds d stage e leads =
    stage_in_hand ds NoGame NoGame (some_before ds d e) ∙ sym (stage_before_wins (hand ds) NoGame) ∙ stage_is (before_wins (hand ds)) d stage e leads
