-- What a win tells on the tile of another: the first winner and all seats of `rest` win, and nobody else; a later winner tells
-- nothing.
use Rattle.std.proofs.Common.{◌≡◌, ℕ, suc, ◌+◌, ◌%◌, ◌<◌, ◌≤◌, ◌==◌, ◌&&◌, ◌||◌, Bool, true, false, cond, List, [], ◌∷◌, length, refl, ap, sym, ◌∙◌, subst, arith}
use Rattle.std.specs.Prelude.{Some, None, filter}
use Rattle.std.specs.List.{list_any}
use Rattle.std.proofs.lemmas.Bool.{eq-eqb, eqb-true, and_parts}
use Rattle.std.proofs.lemmas.Map.Views.{any-filter_same}
use Rattle.std.proofs.Math.Bool.{or-true}
use Rattle.mj_deeds.specs.declared.four.Four.{Four}
use Rattle.mj_deeds.specs.declared.answer.Answer.{Answer}
use Rattle.mj_deeds.specs.declared.answer.Answer.TheVariants as answers
use Rattle.mj_deeds.specs.declared.deed.Deed.{Deed}
use Rattle.mj_deeds.specs.declared.deed.Deed.TheVariants.{Discard, AddedKan}
use Rattle.mj_deeds.specs.Four.{at_seat, for_each_seat}
use Rattle.mj_deeds.specs.Facts.{newest}
use Rattle.mj_deeds.specs.Points as deed_facts
use Rattle.mj_window.specs.Decided.{is_win, seats_after, rons_on, rons_or, decision_by}
use Rattle.mj_window.specs.declared.decision.Decision.{Decision}
use Rattle.mj_wall.specs.declared.setting.Rules.{Rules}
use Rattle.mj_rules.specs.View.{turn_by}
use Rattle.mj_rules.specs.Broken.{is_open}
use Rattle.mj_rules.specs.Wins.{win_shown, win_deed}
use Rattle.mj_rules.specs.Outcome.{seat_of, won_tile, wall_now, follows}
use Rattle.mj_rules.specs.Played.{IsLawful, AllLawful}
use Rattle.mj_history.specs.Told.{wins_told, told_of}
use Rattle.mj_history.proofs.ToldAnswers.{Tells, some_is, at_each, lawful_at, pass_is_lawful, target_in, win_in}

-- The seat is among these.
abbrev among : List ℕ → ℕ → Bool
among seats seat = list_any (λ winner. winner == seat) seats

-- who wins

filter_three : (p q : ℕ → Bool) (a b c : ℕ) → p a ≡ q a → p b ≡ q b → p c ≡ q c → filter p (a ∷ b ∷ c ∷ []) ≡ filter q (a ∷ b ∷ c ∷ [])
filter_three p q a b c e f g = by_tests (p a) (q a) (p b) (q b) (p c) (q c) e f g
  where
    kept : Bool → Bool → Bool → List ℕ
    kept x y z = cond x (a ∷ cond y (b ∷ cond z (c ∷ []) []) (cond z (c ∷ []) [])) (cond y (b ∷ cond z (c ∷ []) []) (cond z (c ∷ []) []))

    by_tests : (x x' y y' z z' : Bool) → x ≡ x' → y ≡ y' → z ≡ z' → kept x y z ≡ kept x' y' z'
    by_tests x x' y y' z z' h k l i = kept (h i) (k i) (l i)

-- The winners by four answers are told by who of the seats wins.
pub rons_same : (who : ℕ) (given : Four Answer) (p : ℕ → Bool) → ((seat : ℕ) → seat < 4 → is_win (at_seat given seat) ≡ p seat) → rons_on who given ≡ filter p (seats_after who)
rons_same who given p h =
    filter_three (λ other. is_win (at_seat given other)) p ((who + 1) % 4) ((who + 2) % 4) ((who + 3) % 4)
    (h ((who + 1) % 4) (omega arith)) (h ((who + 2) % 4) (omega arith)) (h ((who + 3) % 4) (omega arith))

-- Nobody wins where no answer is a win.
pub no_rons : (who : ℕ) (f : ℕ → Answer) → ((seat : ℕ) → is_win (f seat) ≡ false) → rons_on who (for_each_seat f) ≡ []
no_rons who f h = rons_same who (for_each_seat f) (λ seat. false) (λ seat there. ap is_win (at_each f seat there) ∙ h seat)

-- A seat is among those of a list that pass a test where it is of the list and passes it.
among_kept : (p : ℕ → Bool) (xs : List ℕ) (seat : ℕ) → among (filter p xs) seat ≡ (p seat && among xs seat)
among_kept p xs seat = any-filter_same (λ winner. winner == seat) p (p seat) (λ k same. ap p (eqb-true k seat same)) xs

-- The seats of three that are among those of them which pass a test are just these.
kept_again : (p : ℕ → Bool) (a b c : ℕ) → filter (among (filter p (a ∷ b ∷ c ∷ []))) (a ∷ b ∷ c ∷ []) ≡ filter p (a ∷ b ∷ c ∷ [])
kept_again p a b c =
    filter_three (among (filter p (a ∷ b ∷ c ∷ []))) p a b c
    (kept a (ap (λ x. x || among (b ∷ c ∷ []) a) (eq-eqb a a refl)))
    (kept b (ap (λ x. (a == b) || (x || among (c ∷ []) b)) (eq-eqb b b refl) ∙ or-true (a == b)))
    (kept c (ap (λ x. (a == c) || ((b == c) || (x || false))) (eq-eqb c c refl) ∙ ap (λ x. (a == c) || x) (or-true (b == c)) ∙ or-true (a == c)))
  where
    kept : (seat : ℕ) → among (a ∷ b ∷ c ∷ []) seat ≡ true → among (filter p (a ∷ b ∷ c ∷ [])) seat ≡ p seat
    kept seat h = among_kept p (a ∷ b ∷ c ∷ []) seat ∙ ap (λ x. p seat && x) h ∙ whole (p seat)
      where
        whole : (x : Bool) → (x && true) ≡ x
        whole true = refl
        whole false = refl

-- Whoever is among the winners has answered by a win.
won_by : (who : ℕ) (given : Four Answer) (seat : ℕ) → among (rons_on who given) seat ≡ true → is_win (at_seat given seat) ≡ true
won_by who given seat h = (and_parts (is_win (at_seat given seat)) _ (sym (among_kept (λ other. is_win (at_seat given other)) (seats_after who) seat) ∙ h)).0

told_wins : (winners : List ℕ) (target seat : ℕ) → is_win (wins_told winners target seat) ≡ among winners seat
told_wins winners target seat = by_test (among winners seat)
  where
    by_test : (b : Bool) → is_win (cond b (answers.Win seat target None) (answers.Pass None)) ≡ b
    by_test true = refl
    by_test false = refl

-- By what is told the same seats win.
rons_again : (who : ℕ) (given : Four Answer) (f : ℕ → Answer) (target : ℕ) → ((seat : ℕ) → f seat ≡ wins_told (rons_on who given) target seat) → rons_on who (for_each_seat f) ≡ rons_on who given
rons_again who given f target h =
    rons_same who (for_each_seat f) (among (rons_on who given)) (λ seat there. ap is_win (at_each f seat there ∙ h seat) ∙ told_wins (rons_on who given) target seat)
    ∙ kept_again (λ other. is_win (at_seat given other)) ((who + 1) % 4) ((who + 2) % 4) ((who + 3) % 4)

-- the deed

-- At most two follow the first.
few : (p : ℕ → Bool) (a b c x : ℕ) (xs : List ℕ) → filter p (a ∷ b ∷ c ∷ []) ≡ x ∷ xs → length xs ≤ 2
few p a b c x xs e = less (length xs) (subst (λ ys. length ys ≤ 3) e (by_tests (p a) (p b) (p c)))
  where
    less : (n : ℕ) → suc n ≤ 3 → n ≤ 2
    less n h = omega (arith, h)

    by_tests : (x y z : Bool) → length (cond x (a ∷ cond y (b ∷ cond z (c ∷ []) []) (cond z (c ∷ []) [])) (cond y (b ∷ cond z (c ∷ []) []) (cond z (c ∷ []) []))) ≤ 3
    by_tests true true true = omega arith
    by_tests true true false = omega arith
    by_tests true false true = omega arith
    by_tests true false false = omega arith
    by_tests false true true = omega arith
    by_tests false true false = omega arith
    by_tests false false true = omega arith
    by_tests false false false = omega arith

first_wins : (rules : Rules) (walls : List (List ℕ)) (ds : List Deed) (n : Deed) (x : ℕ) (xs : List ℕ) (other : Decision) → length xs ≤ 2 →
    follows rules walls ds n (rons_or (x ∷ xs) other) ≡ Some (win_deed (wall_now walls ds) ds x (seat_of n) (won_tile n) xs)
first_wins rules walls ds n x [] other h = refl
first_wins rules walls ds n x (a ∷ []) other h = refl
first_wins rules walls ds n x (a ∷ b ∷ []) other h = refl
first_wins rules walls ds n x (a ∷ b ∷ c ∷ more) other h = absurd (none (length more) h)
  where
    none : (m : ℕ) → suc (suc (suc m)) ≤ 2 → ⊥
    none m k = omega (arith, k)

-- A deed whose tile others may win on.
pub record Offers (n : Deed) (who : ℕ) : Type 0 where
  pub seat : seat_of n ≡ who
  pub fresh : deed_facts.is_win n ≡ false
  pub target : (seat : ℕ) → target_in seat (turn_by n) ≡ who
  pub passes : (rules : Rules) (seat : ℕ) (accepted : Bool) → is_open rules seat (turn_by n) accepted (answers.Pass None) ≡ true

same : (b : Bool) → cond b true true ≡ true
same true = refl
same false = refl

pub discard_offers : (who tile : ℕ) (drawn : Bool) → Offers (Discard who tile drawn) who
discard_offers who tile drawn = record { seat = refl; fresh = refl; target = λ seat. refl; passes = λ rules seat accepted. same (who == seat) }

pub added_offers : (who tile a b c : ℕ) → Offers (AddedKan who tile a b c) who
added_offers who tile a b c = record { seat = refl; fresh = refl; target = λ seat. refl; passes = λ rules seat accepted. same (who == seat) }

-- What the first win tells.
win_is_told : (wall : List ℕ) (ds : List Deed) (n : Deed) (who x : ℕ) (xs : List ℕ) (seat : ℕ) → Offers n who →
    told_of (Some n) (win_deed wall ds x (seat_of n) (won_tile n) xs) seat ≡ wins_told (x ∷ xs) who seat
unfolding win_shown
win_is_told wall ds n who x xs seat o =
    ap (λ b. cond b (answers.Pass None) (wins_told (x ∷ xs) (seat_of n) seat)) o.fresh ∙ ap (λ t. wins_told (x ∷ xs) t seat) o.seat

wins_lawful : (rules : Rules) (ds : List Deed) (n : Deed) (who : ℕ) (given : Four Answer) (seat : ℕ) → newest ds ≡ Some n → Offers n who → AllLawful rules ds given → seat < 4 →
    IsLawful rules ds seat (wins_told (rons_on who given) who seat)
wins_lawful rules ds n who given seat e o c there = by_test (among (rons_on who given) seat) refl
  where
    by_test : (b : Bool) → among (rons_on who given) seat ≡ b → IsLawful rules ds seat (cond b (answers.Win seat who None) (answers.Pass None))
    by_test true h = win_in rules ds n seat who (at_seat given seat) e (o.target seat) (lawful_at rules ds given seat there c) (won_by who given seat h)
    by_test false h = pass_is_lawful rules ds n seat e (λ accepted. o.passes rules seat accepted)

-- Where a tile is won on, the win tells of all winners.
pub won_tells : (rules : Rules) (walls : List (List ℕ)) (ds : List Deed) (n : Deed) (who : ℕ) (given : Four Answer) (other : Four Answer → Decision)
    (x : ℕ) (xs : List ℕ) (d : Deed) → newest ds ≡ Some n → Offers n who →
    ((given : Four Answer) → decision_by n given ≡ rons_or (rons_on who given) (other given)) → AllLawful rules ds given → rons_on who given ≡ x ∷ xs →
    follows rules walls ds n (decision_by n given) ≡ Some d → Tells rules walls ds n d
won_tells rules walls ds n who given other x xs d e o decides c won gives = record {
  lawful = λ seat there. subst (IsLawful rules ds seat) (sym (tells seat)) (wins_lawful rules ds n who given seat e o c there);
  gives = by_winners (for_each_seat (told_of (Some n) d)) (rons_again who given (told_of (Some n) d) who tells ∙ won) ∙ is_this;
}
  where
    by_winners : (y : Four Answer) → rons_on who y ≡ x ∷ xs → follows rules walls ds n (decision_by n y) ≡ Some (win_deed (wall_now walls ds) ds x (seat_of n) (won_tile n) xs)
    by_winners y h =
        ap (follows rules walls ds n) (decides y ∙ ap (λ r. rons_or r (other y)) h)
        ∙ first_wins rules walls ds n x xs (other y) (few (λ seat. is_win (at_seat y seat)) ((who + 1) % 4) ((who + 2) % 4) ((who + 3) % 4) x xs h)

    is_this : Some (win_deed (wall_now walls ds) ds x (seat_of n) (won_tile n) xs) ≡ Some d
    is_this = sym (by_winners given won) ∙ gives

    tells : (seat : ℕ) → told_of (Some n) d seat ≡ wins_told (rons_on who given) who seat
    tells seat =
        ap (λ (y : Deed). told_of (Some n) y seat) (sym (some_is (win_deed (wall_now walls ds) ds x (seat_of n) (won_tile n) xs) d is_this))
        ∙ win_is_told (wall_now walls ds) ds n who x xs seat o
        ∙ ap (λ r. wins_told r who seat) (sym won)
