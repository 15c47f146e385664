-- Where the tiles aren't complete, no win is lawful.
use Rattle.std.proofs.Common.{◌≡◌, ℕ, ◌<◌, ◌++◌, not, Bool, true, false, cond, List, [], ◌∷◌, length, Option, None, Some, refl, sym, ap, ◌∙◌, subst, arith, append-nil}
use Rattle.std.specs.Prelude.{is_none, option_to_list, map}
use Rattle.std.proofs.lemmas.Bool.{true≢false}
use Rattle.mj_tiles.specs.Faces.{kind_of}
use Rattle.mj_tiles.specs.Counts.{IsCounts, kind_counts}
use Rattle.mj_readings.specs.Tests.{complete, one_more}
use Rattle.mj_suits.specs.Tables.{IsLeast}
use Rattle.mj_shanten.specs.Room.{IsWithinRoom}
use Rattle.mj_shanten.specs.Shanten.{IsGoal}
use Rattle.mj_memory.proofs.Completing.{complete_misses}
use Rattle.mj_deeds.specs.declared.answer.Pai.{Pai}
use Rattle.mj_deeds.specs.declared.answer.Pai.TheVariants.{Known}
use Rattle.mj_deeds.specs.declared.answer.Answer.TheVariants.{Win}
use Rattle.mj_deeds.specs.declared.deed.Deed.{Deed}
use Rattle.mj_deeds.specs.declared.deed.Deed.TheVariants as deeds
use Rattle.mj_deeds.specs.declared.rule.Rule.{Rule}
use Rattle.mj_deeds.specs.Facts.{newest}
use Rattle.mj_wall.specs.declared.setting.Rules.{Rules}
use Rattle.mj_rules.specs.Broken.{offered_in, questions, broken_by}
use Rattle.mj_rules.specs.View.{SeatView, view_of, WindowTurn, Drew, Discarded, Added, Reached, Called, Nobodys, concealed}
use Rattle.mj_rules.proofs.Questions.{all_no}
use Rattle.mj_rules.proofs.Turns.{turn_is}
use Rattle.mj_judge.proofs.Wins.{won_with}
use Rattle.mj_bot.specs.Choice.{win_in, first_lawful}
use Rattle.mj_bot.specs.Inner.Turns.{is_own_turn, IsIncomplete}

refused : (rules : Rules) (seat target : ℕ) (view : SeatView) (tile : Option Pai) → IsIncomplete view → None ≡ first_lawful rules seat view (Win seat target tile ∷ [])
unfolding broken_by
refused rules seat target view tile incomplete = by_rule (broken_by rules seat view (Win seat target tile)) refl
  where
    by_rule : (o : Option Rule) → broken_by rules seat view (Win seat target tile) ≡ o → None ≡ cond (is_none o) (Some (Win seat target tile)) None
    by_rule None e =
        (let each = all_no (questions rules seat view (Win seat target tile)) e in
        absurd (true≢false (ap not (sym incomplete) ∙ each.1.1.1.1.1.1.1.1.1.1.1.1.1.1.1.1.1.1.1.1.0)))
    by_rule (Some rule) e = refl

pub no_win : (rules : Rules) (seat : ℕ) (view : SeatView) (turn : WindowTurn) → IsIncomplete view → None ≡ first_lawful rules seat view (win_in seat view turn)
no_win rules seat view (Drew who) incomplete = by_tile view.drawn
  where
    by_tile : (o : Option ℕ) → None ≡ first_lawful rules seat view (map (λ tile. Win seat seat (Some (Known tile))) (option_to_list o))
    by_tile None = refl
    by_tile (Some tile) = refused rules seat seat view (Some (Known tile)) incomplete
no_win rules seat view (Discarded who tile) incomplete = refused rules seat who view (Some (Known tile)) incomplete
no_win rules seat view (Added who tile) incomplete = refused rules seat who view (Some (Known tile)) incomplete
no_win rules seat view (Reached who) incomplete = refl
no_win rules seat view (Called who banned) incomplete = refl
no_win rules seat view Nobodys incomplete = refl

-- a discard that doesn't complete the hand

pub discard_short : (ds : List Deed) (seat who tile kind melds : ℕ) (drawn : Bool) (d : Deed) (counts : List ℕ) → Some d ≡ newest ds → d ≡ deeds.Discard who tile drawn →
    counts ≡ kind_counts (concealed (view_of ds seat)) → kind ≡ kind_of tile → kind < 34 → melds ≡ length (view_of ds seat).melds → complete (one_more counts kind) melds ≡ false →
    IsIncomplete (view_of ds seat)
unfolding view_of
discard_short ds seat who tile kind melds drawn d counts last is held at low many short =
    ap (λ t. complete (kind_counts (concealed (view_of ds seat) ++ offered_in t)) (length (view_of ds seat).melds)) (turn_is ds seat (deeds.Discard who tile drawn) (sym last ∙ ap Some is))
    ∙ sym (λ i. complete (won_with counts (concealed (view_of ds seat)) (one_more counts kind) (Some tile) tile kind refl at low refl held i) (many i)) ∙ short

-- at the own turn

none_offered : (seat : ℕ) (turn : WindowTurn) → is_own_turn seat turn ≡ true → offered_in turn ≡ []
none_offered seat (Drew who) own = refl
none_offered seat (Discarded who tile) own = absurd (true≢false (sym own))
none_offered seat (Added who tile) own = absurd (true≢false (sym own))
none_offered seat (Reached who) own = refl
none_offered seat (Called who banned) own = refl
none_offered seat Nobodys own = absurd (true≢false (sym own))

pub turn_short : (seat : ℕ) (view : SeatView) (counts left counts_of left_of : List ℕ) (melds number : ℕ) → is_own_turn seat view.turn ≡ true → counts ≡ kind_counts (concealed view) →
    melds ≡ length view.melds → counts_of ≡ counts → left_of ≡ left → IsCounts counts → IsWithinRoom counts left → IsLeast counts_of (IsGoal left_of melds) number → 0 < number → IsIncomplete view
turn_short seat view counts left counts_of left_of melds number own is many same_counts same_room are within least some =
    ap (λ (ts : List ℕ). complete (kind_counts (concealed view ++ ts)) (length view.melds)) (none_offered seat view.turn own)
    ∙ ap (λ (ts : List ℕ). complete (kind_counts ts) (length view.melds)) (append-nil (concealed view))
    ∙ sym (λ i. complete (is i) (many i)) ∙ by_test (complete counts melds) refl
  where
    here : IsLeast counts (IsGoal left melds) number
    here = subst (λ (r : List ℕ). IsLeast counts (IsGoal r melds) number) same_room (subst (λ (ns : List ℕ). IsLeast ns (IsGoal left_of melds) number) same_counts least)

    by_test : (b : Bool) → complete counts melds ≡ b → b ≡ false
    by_test true e = absurd (let z = complete_misses counts left melds are within e number here in omega arith)
    by_test false e = refl
