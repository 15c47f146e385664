-- What the deed of a seat tells that drew, reached or called: a discard, a reach, a kan of its own, a win on its own draw, or
-- nine kinds that it shows.
use Rattle.std.proofs.Common.{◌≡◌, ℕ, ◌<◌, ◌==◌, inl, inr, Bool, true, false, cond, List, [], ◌∷◌, refl, ap, sym, ◌∙◌, subst}
use Rattle.std.specs.Prelude.{Some, None}
use Rattle.std.specs.List.{list_any}
use Rattle.std.proofs.lemmas.Bool.{cases_eq, ne_eqb, eq-eqb}
use Rattle.mj_deeds.specs.declared.four.Four.{Four}
use Rattle.mj_deeds.specs.declared.answer.Pai.TheVariants.{Known}
use Rattle.mj_deeds.specs.declared.answer.Answer.{Answer}
use Rattle.mj_deeds.specs.declared.answer.Answer.TheVariants as answers
use Rattle.mj_deeds.specs.declared.reason.Reason.TheVariants.{Kyushukyuhai}
use Rattle.mj_deeds.specs.declared.deed.Deed.{Deed}
use Rattle.mj_deeds.specs.declared.deed.Deed.TheVariants.{Draw, Discard, Chi, Pon, ClosedKan, AddedKan, Reach}
use Rattle.mj_deeds.specs.Four.{at_seat, for_each_seat}
use Rattle.mj_deeds.specs.Facts.{newest}
use Rattle.mj_deeds.specs.Points.{is_win}
use Rattle.mj_window.specs.Decided.{decision_by}
use Rattle.mj_wall.specs.declared.setting.Rules.{Rules}
use Rattle.mj_rules.specs.View.{turn_by}
use Rattle.mj_rules.specs.Broken.{is_open}
use Rattle.mj_rules.specs.Wins.{win_shown, win_deed}
use Rattle.mj_rules.specs.Draws.{draw_shown, drawn_hand}
use Rattle.mj_rules.specs.Outcome.{own_act, won_tile, wall_now, follows}
use Rattle.mj_rules.specs.Played.{IsLawful, AllLawful}
use Rattle.mj_history.specs.Told.{own_seat, only_of, wins_told, nine_told, told_of}
use Rattle.mj_history.proofs.ToldAnswers.{Tells, some_is, at_each, lawful_at, only_own, only_other, pass_is_lawful, as_own, target_in, win_in}

-- What the deed of a seat tells: its answer, by which it does the deed, and nothing of the others.
record Does (rules : Rules) (wall : List ℕ) (ds : List Deed) (n : Deed) (who : ℕ) (d : Deed) : Type 0 where
  own : IsLawful rules ds who (told_of (Some n) d who)
  others : (seat : ℕ) → (who ≡ seat → ⊥) → told_of (Some n) d seat ≡ answers.Pass None
  gives : own_act wall ds n who (told_of (Some n) d who) ≡ Some d

by_only : (rules : Rules) (wall : List ℕ) (ds : List Deed) (n : Deed) (who : ℕ) (d : Deed) (answer : Answer) → ((seat : ℕ) → told_of (Some n) d seat ≡ only_of who answer seat) →
    IsLawful rules ds who answer → own_act wall ds n who answer ≡ Some d → Does rules wall ds n who d
by_only rules wall ds n who d answer tells lawful gives = record {
  own = subst (IsLawful rules ds who) (sym (tells who ∙ only_own who answer)) lawful;
  others = λ seat other. tells seat ∙ only_other who seat answer other;
  gives = ap (own_act wall ds n who) (tells who ∙ only_own who answer) ∙ gives;
}

-- Of one winner on its own draw.
one_winner : (who seat : ℕ) → wins_told (who ∷ []) who seat ≡ only_of who (answers.Win who who None) seat
one_winner who seat = elim (cases_eq who seat) [
  | inl e ↦ subst (λ s. wins_told (who ∷ []) who s ≡ only_of who (answers.Win who who None) s) e
      (ap (λ b. cond b (answers.Win who who None) (answers.Pass None)) (one who) ∙ sym (only_own who (answers.Win who who None)))
  | inr ne ↦ ap (λ b. cond b (answers.Win seat who None) (answers.Pass None)) (none ne) ∙ sym (only_other who seat (answers.Win who who None) ne)
]
  where
    one : (s : ℕ) → list_any (λ winner. winner == s) (s ∷ []) ≡ true
    one s = rw (eq-eqb s s refl) refl

    none : (who ≡ seat → ⊥) → list_any (λ winner. winner == seat) (who ∷ []) ≡ false
    none ne = rw (ne_eqb who seat ne) refl

-- What a seat does by its answer tells of that answer.
does : (rules : Rules) (wall : List ℕ) (ds : List Deed) (n : Deed) (who : ℕ) (answer : Answer) (d : Deed) → newest ds ≡ Some n →
    own_seat n ≡ Some who → is_win n ≡ false → target_in who (turn_by n) ≡ who →
    IsLawful rules ds who answer → own_act wall ds n who answer ≡ Some d → Does rules wall ds n who d
unfolding win_shown draw_shown
does rules wall ds n who (answers.Discard actor (Known t) drawn) d e own fresh target l given =
    subst (Does rules wall ds n who) (some_is (Discard who t drawn) d given)
    (by_only rules wall ds n who (Discard who t drawn) (answers.Discard who (Known t) drawn) (λ seat. refl) (as_own rules ds who (λ a. answers.Discard a (Known t) drawn) actor l refl) refl)
does rules wall ds n who (answers.ClosedKan actor (Known x) (Known y) (Known z) (Known w)) d e own fresh target l given =
    subst (Does rules wall ds n who) (some_is (ClosedKan who x y z w) d given)
    (by_only rules wall ds n who (ClosedKan who x y z w) (answers.ClosedKan who (Known x) (Known y) (Known z) (Known w)) (λ seat. refl)
    (as_own rules ds who (λ a. answers.ClosedKan a (Known x) (Known y) (Known z) (Known w)) actor l refl) refl)
does rules wall ds n who (answers.AddedKan actor (Known t) (Known x) (Known y) (Known z)) d e own fresh target l given =
    subst (Does rules wall ds n who) (some_is (AddedKan who t x y z) d given)
    (by_only rules wall ds n who (AddedKan who t x y z) (answers.AddedKan who (Known t) (Known x) (Known y) (Known z)) (λ seat. refl)
    (as_own rules ds who (λ a. answers.AddedKan a (Known t) (Known x) (Known y) (Known z)) actor l refl) refl)
does rules wall ds n who (answers.Reach actor) d e own fresh target l given =
    subst (Does rules wall ds n who) (some_is (Reach who) d given)
    (by_only rules wall ds n who (Reach who) (answers.Reach who) (λ seat. refl) (as_own rules ds who (λ a. answers.Reach a) actor l refl) refl)
does rules wall ds n who (answers.Win actor t tile) d e own fresh target l given =
    subst (Does rules wall ds n who) (some_is (win_deed wall ds who who (won_tile n) []) d given)
    (by_only rules wall ds n who (win_deed wall ds who who (won_tile n) []) (answers.Win who who None)
    (λ seat. ap (λ b. cond b (answers.Pass None) (wins_told (who ∷ []) who seat)) fresh ∙ one_winner who seat)
    (win_in rules ds n who who (answers.Win actor t tile) e target l refl) refl)
does rules wall ds n who (answers.NineKinds actor) d e own fresh target l given =
    subst (Does rules wall ds n who) (some_is (drawn_hand ds Kyushukyuhai) d given)
    (by_only rules wall ds n who (drawn_hand ds Kyushukyuhai) (answers.NineKinds who) (λ seat. ap (λ o. nine_told o seat) own) (as_own rules ds who (λ a. answers.NineKinds a) actor l refl) refl)
does rules wall ds n who other d e own fresh target l given = cc

-- So it tells where the answer of that seat decides, and every other may pass.
acted : (rules : Rules) (walls : List (List ℕ)) (ds : List Deed) (n : Deed) (who : ℕ) (given : Four Answer) (d : Deed) → newest ds ≡ Some n →
    who < 4 → own_seat n ≡ Some who → is_win n ≡ false → target_in who (turn_by n) ≡ who →
    ((seat : ℕ) (accepted : Bool) → (who ≡ seat → ⊥) → is_open rules seat (turn_by n) accepted (answers.Pass None) ≡ true) →
    ((x : Four Answer) → follows rules walls ds n (decision_by n x) ≡ own_act (wall_now walls ds) ds n who (at_seat x who)) →
    AllLawful rules ds given → follows rules walls ds n (decision_by n given) ≡ Some d → Tells rules walls ds n d
acted rules walls ds n who given d e small own fresh target passes acts c gives = record {
  lawful = λ seat there. elim (cases_eq who seat) [
    | inl same ↦ subst (λ s. IsLawful rules ds s (told_of (Some n) d s)) same done.own
    | inr ne ↦ subst (IsLawful rules ds seat) (sym (done.others seat ne)) (pass_is_lawful rules ds n seat e (λ accepted. passes seat accepted ne))
  ];
  gives = acts (for_each_seat (told_of (Some n) d)) ∙ ap (own_act (wall_now walls ds) ds n who) (at_each (told_of (Some n) d) who small) ∙ done.gives;
}
  where
    done : Does rules (wall_now walls ds) ds n who d
    done = does rules (wall_now walls ds) ds n who (at_seat given who) d e own fresh target (lawful_at rules ds given who small c) (sym (acts given) ∙ gives)

-- In the windows on a draw, a reach, a chi and a pon.
pub draw_tells : (rules : Rules) (walls : List (List ℕ)) (ds : List Deed) (who tile : ℕ) (replacement : Bool) (given : Four Answer) (d : Deed) →
    newest ds ≡ Some (Draw who tile replacement) → who < 4 →
    AllLawful rules ds given → follows rules walls ds (Draw who tile replacement) (decision_by (Draw who tile replacement) given) ≡ Some d → Tells rules walls ds (Draw who tile replacement) d
draw_tells rules walls ds who tile replacement given d e small =
    acted rules walls ds (Draw who tile replacement) who given d e small refl refl refl (λ seat accepted ne. ap (λ b. cond b false true) (ne_eqb who seat ne)) (λ x. refl)

pub reach_tells : (rules : Rules) (walls : List (List ℕ)) (ds : List Deed) (who : ℕ) (given : Four Answer) (d : Deed) → newest ds ≡ Some (Reach who) → who < 4 →
    AllLawful rules ds given → follows rules walls ds (Reach who) (decision_by (Reach who) given) ≡ Some d → Tells rules walls ds (Reach who) d
reach_tells rules walls ds who given d e small = acted rules walls ds (Reach who) who given d e small refl refl refl (λ seat accepted ne. ap (λ b. cond b false true) (ne_eqb who seat ne)) (λ x. refl)

pub chi_tells : (rules : Rules) (walls : List (List ℕ)) (ds : List Deed) (who target tile a b : ℕ) (given : Four Answer) (d : Deed) → newest ds ≡ Some (Chi who target tile a b) → who < 4 →
    AllLawful rules ds given → follows rules walls ds (Chi who target tile a b) (decision_by (Chi who target tile a b) given) ≡ Some d → Tells rules walls ds (Chi who target tile a b) d
chi_tells rules walls ds who target tile a b given d e small =
    acted rules walls ds (Chi who target tile a b) who given d e small refl refl refl (λ seat accepted ne. ap (λ x. cond x false true) (ne_eqb who seat ne)) (λ x. refl)

pub pon_tells : (rules : Rules) (walls : List (List ℕ)) (ds : List Deed) (who target tile a b : ℕ) (given : Four Answer) (d : Deed) → newest ds ≡ Some (Pon who target tile a b) → who < 4 →
    AllLawful rules ds given → follows rules walls ds (Pon who target tile a b) (decision_by (Pon who target tile a b) given) ≡ Some d → Tells rules walls ds (Pon who target tile a b) d
pon_tells rules walls ds who target tile a b given d e small =
    acted rules walls ds (Pon who target tile a b) who given d e small refl refl refl (λ seat accepted ne. ap (λ x. cond x false true) (ne_eqb who seat ne)) (λ x. refl)
