-- What a win is worth by the deeds before the winners, read off all deeds of the hand.
use Rattle.std.proofs.Common.{◌≡◌, ℕ, Bool, cond, List, [], ◌∷◌, ◌++◌, ap, sym, ◌∙◌}
use Rattle.std.specs.Prelude.{unwrap_or}
use Rattle.mj_tiles.specs.Counts.{kind_counts}
use Rattle.mj_tiles.specs.Faces.{kind_of, less}
use Rattle.mj_tiles.specs.declared.meld.Meld.{Meld}
use Rattle.mj_rounds.specs.declared.rounds.Standing.{Standing}
use Rattle.mj_readings.specs.declared.reading.Case.{Case}
use Rattle.mj_score.specs.declared.score.Score.{Score}
use Rattle.mj_score.specs.Worth.{worth_of}
use Rattle.mj_yaku.specs.Hands.{are_concealed}
use Rattle.mj_deeds.specs.declared.deed.Deed.{Deed}
use Rattle.mj_deeds.specs.Course.{before_wins}
use Rattle.mj_deeds.specs.Facts.{newest, indicators, seat_melds, concealed_tiles}
use Rattle.mj_facts.proofs.WinSteps.{gained_without, lost_without, melds_without, shown_without}
use Rattle.mj_rules.specs.Wins.{case_of, is_draw, own_tiles_of, extra_by, extra_of, no_score, score_of_win, win_shown, unders_of}
use Rattle.mj_machine.specs.Inner.Steps.{all_tiles}

pub closed_is : (now : Standing) (hs : List Deed) (seat : ℕ) (case : Case) (melds : List Meld) → case ≡ case_of now (before_wins hs) seat →
    melds ≡ seat_melds hs seat → case.closed ≡ are_concealed melds
unfolding case_of
closed_is now hs seat case melds e f = ap (λ (k : Case). k.closed) e ∙ ap are_concealed (melds_without hs seat ∙ sym f)

pub drawn_is : (now : Standing) (hs : List Deed) (seat : ℕ) (case : Case) → case ≡ case_of now (before_wins hs) seat → case.by_draw ≡ is_draw (newest (before_wins hs))
unfolding case_of
drawn_is now hs seat case e = ap (λ (k : Case). k.by_draw) e

pub score_is : (now : Standing) (hs : List Deed) (seat tile : ℕ) (own unders : List ℕ) (case : Case) (melds : List Meld) (score : Score) →
    case ≡ case_of now (before_wins hs) seat → melds ≡ seat_melds hs seat →
    score ≡ unwrap_or (worth_of (kind_counts (own ++ tile ∷ [])) melds (kind_of tile) case (extra_by (indicators hs) unders (all_tiles own tile melds))) no_score →
    score ≡ score_of_win now (before_wins hs) seat (record { own = own; tile = tile; unders = unders })
unfolding score_of_win
score_is now hs seat tile own unders case melds score e f g =
    let melds_same = f ∙ sym (melds_without hs seat) in
    let shown_same = sym (shown_without hs) in
    g ∙ (λ i. unwrap_or (worth_of (kind_counts (own ++ tile ∷ [])) (melds_same i) (kind_of tile) (e i) (extra_by (shown_same i) unders (all_tiles own tile (melds_same i)))) no_score)

pub extra_is : (hs : List Deed) (seat tile : ℕ) (own unders : List ℕ) (melds : List Meld) → melds ≡ seat_melds hs seat →
    extra_by (indicators hs) unders (all_tiles own tile melds) ≡ extra_of (before_wins hs) seat (record { own = own; tile = tile; unders = unders })
extra_is hs seat tile own unders melds f =
    let melds_same = f ∙ sym (melds_without hs seat) in
    let shown_same = sym (shown_without hs) in
    λ i. extra_by (shown_same i) unders (all_tiles own tile (melds_same i))

pub own_is : (hs : List Deed) (seat tile : ℕ) (by_draw : Bool) (own : List ℕ) → by_draw ≡ is_draw (newest (before_wins hs)) →
    own ≡ cond by_draw (less (concealed_tiles hs seat) (tile ∷ [])) (concealed_tiles hs seat) → own ≡ own_tiles_of (before_wins hs) seat tile
own_is hs seat tile by_draw own e f =
    let gained = sym (gained_without hs seat) in
    let lost = sym (lost_without hs seat) in
    f ∙ (λ i. cond (e i) (less (less (gained i) (lost i)) (tile ∷ [])) (less (gained i) (lost i)))

pub win_is : (wall : List ℕ) (ds : List Deed) (hs : List Deed) (seat target tile : ℕ) (own unders rest : List ℕ) → own ≡ own_tiles_of (before_wins hs)
    seat tile → unders ≡ unders_of wall (before_wins hs) seat →
    win_shown ds seat target (record { own = own; tile = tile; unders = unders }) rest
    ≡ win_shown ds seat target (record { own = own_tiles_of (before_wins hs) seat tile; tile = tile; unders = unders_of wall (before_wins hs) seat }) rest
win_is wall ds hs seat target tile own unders rest e f = λ i. win_shown ds seat target (record { own = e i; tile = tile; unders = f i }) rest
