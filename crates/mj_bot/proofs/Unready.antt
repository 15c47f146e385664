-- Where the hand misses more than one tile, no discard leaves it ready.
use Rattle.std.proofs.Common.{ℕ, not, ◌||◌, Option, None, Some, ◌≡◌, ◌<◌, Bool, true, false, cond, eqb, List, length, refl, sym, ◌∙◌, ap, subst, arith, ◌∷◌, []}
use Rattle.std.specs.Prelude.{is_none}
use Rattle.std.proofs.lemmas.Bool.{true≢false}
use Rattle.mj_tiles.specs.Counts.{kind_counts}
use Rattle.mj_shanten.specs.Room.{IsRoom, IsWithinRoom}
use Rattle.mj_suits.specs.Tables.{IsLeast}
use Rattle.mj_shanten.specs.Shanten.{IsGoal}
use Rattle.mj_deeds.specs.declared.answer.Answer.TheVariants.{Reach}
use Rattle.mj_deeds.specs.declared.rule.Rule.{Rule}
use Rattle.mj_wall.specs.declared.setting.Rules.{Rules}
use Rattle.mj_rules.specs.Broken.{is_open, is_own_act, questions, broken_by}
use Rattle.mj_rules.specs.View.{SeatView, WindowTurn, Drew, Discarded, Added, Reached, Called, Nobodys, concealed, room}
use Rattle.mj_rules.proofs.Questions.{all_no}
use Rattle.mj_judge.proofs.Discards.{none_ready}
use Rattle.mj_judge.proofs.TwoAway.{two_away}
use Rattle.mj_bot.specs.Choice.{first_lawful}
use Rattle.mj_bot.specs.Inner.Turns.{is_own_draw, IsNeverReady}

-- the seat's view

pub never_ready : (view : SeatView) (counts left counts_of left_of : List ℕ) (melds number : ℕ) → counts ≡ kind_counts (concealed view) →
    left ≡ room view → melds ≡ length view.melds → counts_of ≡ counts → left_of ≡ left → length counts ≡ 34 →
    IsRoom left melds → IsWithinRoom counts left → IsLeast counts_of (IsGoal left_of melds) number → 1 < number → IsNeverReady view
never_ready view counts left counts_of left_of melds number is beside many same_counts same_room size is_room within least far =
    let here : IsLeast counts (IsGoal left melds) number =
    subst (λ (r : List ℕ). IsLeast counts (IsGoal r melds) number) same_room (subst (λ (ns : List ℕ). IsLeast ns (IsGoal left_of melds) number) same_counts least) in
    sym (none_ready view counts left melds 34 is beside many (omega arith) (two_away counts left melds number size is_room within here far))

-- A reach is then unlawful.
pub no_reach : (rules : Rules) (seat : ℕ) (view : SeatView) → IsNeverReady view → None ≡ first_lawful rules seat view (Reach seat ∷ [])
unfolding broken_by
no_reach rules seat view never = by_rule (broken_by rules seat view (Reach seat)) refl
  where
    by_rule : (o : Option Rule) → broken_by rules seat view (Reach seat) ≡ o → None ≡ cond (is_none o) (Some (Reach seat)) None
    by_rule None e = (let each = all_no (questions rules seat view (Reach seat)) e in absurd (true≢false (ap not (sym never) ∙ each.1.1.1.1.1.1.1.1.1.1.1.1.1.1.1.1.1.1.1.0)))
    by_rule (Some rule) e = refl

-- Out of its own draw a reach isn't open to a seat.
shut : (rules : Rules) (seat : ℕ) (turn : WindowTurn) (accepted : Bool) → is_own_draw seat turn ≡ false → is_open rules seat turn accepted (Reach seat) ≡ false
shut rules seat (Drew who) accepted h = ap (λ b. cond b (is_own_act rules accepted (Reach seat)) false) h
shut rules seat (Discarded who tile) accepted h = either (eqb who seat)
  where
    either : (b : Bool) → cond b false false ≡ false
    either true = refl
    either false = refl
shut rules seat (Added who tile) accepted h = either (eqb who seat)
  where
    either : (b : Bool) → cond b false (false || false) ≡ false
    either true = refl
    either false = refl
shut rules seat (Reached who) accepted h = either (eqb who seat)
  where
    either : (b : Bool) → cond b false false ≡ false
    either true = refl
    either false = refl
shut rules seat (Called who banned) accepted h = either (eqb who seat)
  where
    either : (b : Bool) → cond b false false ≡ false
    either true = refl
    either false = refl
shut rules seat Nobodys accepted h = refl

pub no_draw : (rules : Rules) (seat : ℕ) (view : SeatView) → is_own_draw seat view.turn ≡ false → None ≡ first_lawful rules seat view (Reach seat ∷ [])
unfolding broken_by
no_draw rules seat view out = by_rule (broken_by rules seat view (Reach seat)) refl
  where
    opened : (b : Bool) → b ≡ false → not b ≡ false → ⊥
    opened true h k = true≢false h
    opened false h k = true≢false k

    by_rule : (o : Option Rule) → broken_by rules seat view (Reach seat) ≡ o → None ≡ cond (is_none o) (Some (Reach seat)) None
    by_rule None e = absurd (opened (is_open rules seat view.turn view.accepted (Reach seat)) (shut rules seat view.turn view.accepted out) (all_no (questions rules seat view (Reach seat)) e).1.1.0)
    by_rule (Some rule) e = refl
