-- While its disk doesn't fail a kept game stays in play.
use Rattle.std.proofs.Common.{◌≡◌, ℕ, ◌<◌, ◌≤◌, ◌&&◌, Bool, true, false, List, length, refl, ap, sym, ◌∙◌, subst, arith}
use Rattle.std.specs.Prelude.{Option, Some, None, slice_get, nat_lt, if◌then◌else◌, option_map, option_and_then}
use Rattle.std.specs.Option.{option_map_or}
use Rattle.std.proofs.lemmas.Option.{slice_get_within}
use Rattle.std.proofs.lemmas.Bool.Decides.{nat_tests}
use Rattle.mj_history.specs.After.{Chair, is_present}
use Rattle.mj_history.specs.Legal.{Game}
use Rattle.mj_history.specs.Shown.{due_at}
use Rattle.mj_history.specs.Arrivals.{Bad, say_arrives}
use Rattle.mj_core.specs.Calls.{after_of, author_of_seat, may_say_at}
use Rattle.mj_journal.specs.Keeping.{Answers, Goes, IfKept, CountsAnswerFault}
use Rattle.mj_journal.specs.declared.answered.Answered.{Answered}
use Rattle.mj_journal.specs.declared.answered.Answered.TheVariants as answered
use Rattle.mj_refereeing.specs.declared.keeping.Noted.{Noted}
use Rattle.mj_refereeing.specs.declared.watched.Watched.{Watched}
use Rattle.mj_refereeing.specs.Inner.Intake.{intake_of, present_in}
use Rattle.mj_refereeing.specs.Inner.Keeping.{noted_by, if_asked, asked_in, IsPlayed, StaysPlayed, CountsNotedFault}
use Rattle.mj_refereeing.proofs.PlayLaws.{present-is, says-absent, says-unasked}
use Rattle.mj_refereeing.proofs.Telling.{has_chair}

pub kept-played : {G : Type 0} (game : Option G) (Holds : Type 0) → IsPlayed game Holds → IfKept game (λ g. Holds)
kept-played None Holds played = absurd played
kept-played (Some g) Holds played = played

goes-played : {G S E : Type 0} (setting : G → S) (history : G → List E) (P : S → List E → List E → Type 0) (old new : Option G) (Held Holds : Type 0)
    → IsPlayed old Held → Goes setting history P old new → IfKept new (λ g. Holds) → IsPlayed new Holds
goes-played setting history P None new Held Holds played goes kept = absurd played
goes-played setting history P (Some g) None Held Holds played goes kept = absurd goes
goes-played setting history P (Some g) (Some h) Held Holds played goes kept = kept

module _ {G S E T : Type 0} (setting : G → S) (history : G → List E) (P : T → S → List E → List E → Type 0) (old new : Option G) (Held Holds : Type 0) (played : IsPlayed old Held) where
  stays-at : (result : Answered T) → Answers setting history result P old new → IfKept new (λ g. Holds) → StaysPlayed (noted_by result) new Holds
  stays-at (answered.Done answer) answers kept = goes-played setting history (P answer) old new Held Holds played answers kept
  stays-at answered.DiskFault answers kept = record {}
  stays-at answered.Stopped answers kept = record {}
  stays-at answered.NoMemory answers kept = goes-played setting history (λ s es fs. fs ≡ es) old new Held Holds played answers kept

  pub stays-played : (result : Answered T) (noted : Noted) → noted ≡ noted_by result → Answers setting history result P old new → IfKept new (λ g. Holds) → StaysPlayed noted new Holds
  stays-played result noted is answers kept = subst (λ (n : Noted). StaysPlayed n new Holds) (sym is) (stays-at result answers kept)

  not-stopped : (game : Option G) → IsPlayed game Held → game ≡ None → ⊥
  not-stopped None held is = held
  not-stopped (Some g) held is = cc is

  counts-at : (result : Answered T) (before now : ℕ) → Answers setting history result P old new → CountsAnswerFault result before now → CountsNotedFault (noted_by result) before now
  counts-at (answered.Done answer) before now answers counts = counts
  counts-at answered.DiskFault before now answers counts = counts
  counts-at answered.Stopped before now answers counts = absurd (not-stopped old played answers.0)
  counts-at answered.NoMemory before now answers counts = counts

  pub counts-noted : (result : Answered T) (noted : Noted) (before now : ℕ) → noted ≡ noted_by result → Answers setting history result P old new →
      CountsAnswerFault result before now → CountsNotedFault noted before now
  counts-noted result noted before now is answers counts = subst (λ (n : Noted). CountsNotedFault n before now) (sym is) (counts-at result before now answers counts)

-- A seat that is asked, with its author.
abbrev asked_of_author : Game → ℕ → Option ℕ → Option (ℕ × ℕ)
asked_of_author game who o = option_and_then (if_asked game) (option_map (λ (by : ℕ). (who, by)) o)

asked-by : (game : Game) (who speaker author : ℕ) (o : Option ℕ) (may : Bool) → author_of_seat game who ≡ o → may_say_at game who ≡ may →
    ◌≡◌ {A = Option (ℕ × ℕ)} (Some (speaker, author)) (asked_of_author game who o)
    → (speaker ≡ who) × (author_of_seat game who ≡ Some author) × (may_say_at game who ≡ true)
asked-by game who speaker author None may p q h = cc h
asked-by game who speaker author (Some by) false p q h = let none : Some (speaker, author) ≡ None = h ∙ ap (λ (b : Bool). if b then Some (who, by) else None) q in cc none
asked-by game who speaker author (Some by) true p q h =
    let is : Some (speaker, author) ≡ Some (who, by) = h ∙ ap (λ (b : Bool). if b then Some (who, by) else None) q in
    let same : author ≡ by = ap (λ (a : Option (ℕ × ℕ)). option_map_or (λ (x : ℕ × ℕ). x.1) a 0) is in
    (ap (λ (a : Option (ℕ × ℕ)). option_map_or (λ (x : ℕ × ℕ). x.0) a 0) is, p ∙ ap (λ (n : ℕ). Some n) (sym same), q)

due-by : (o : Option Chair) (deeds : ℕ) → option_map_or (λ (chair : Chair). is_present chair && nat_lt chair.progress.due deeds) o false ≡ true →
    option_map_or (λ (chair : Chair). chair.progress.due) o 0 < deeds
due-by None deeds may = absurd (cc may)
due-by (Some chair) deeds may = by (is_present chair) may
  where
    by : (b : Bool) → (b && nat_lt chair.progress.due deeds) ≡ true → chair.progress.due < deeds
    by true h = grind (arith, nat_tests, h)
    by false h = absurd (cc h)

seat-below : (game : Game) (who author : ℕ) → length (after_of game).chairs ≤ 4 → author_of_seat game who ≡ Some author → who < 4
seat-below game who author few here =
    let c = has_chair (slice_get (after_of game).chairs who) author here in
    below who (length (after_of game).chairs) (slice_get_within (after_of game).chairs who c.0 c.1) few
  where
    below : (n m : ℕ) → n < m → m ≤ 4 → n < 4
    below n m h k = omega arith

-- What the calls of a kept game want.
pub record IsAsked (game : Game) (author seat : ℕ) : Type 0 where
  pub within : seat < 4
  pub here : author_of_seat game seat ≡ Some author
  pub due : due_at (after_of game) seat < length (after_of game).deeds

pub is-asked : (game : Game) (who speaker author : ℕ) → length (after_of game).chairs ≤ 4 → ◌≡◌ {A = Option (ℕ × ℕ)} (Some (speaker, author))
    (asked_in game who) → (speaker ≡ who) × IsAsked game author speaker
is-asked game who speaker author few h =
    let a = asked-by game who speaker author (author_of_seat game who) (may_say_at game who) refl refl h in (
      a.0,
      subst (IsAsked game author) (sym a.0) (record {
        within = seat-below game who author few a.1;
        here = a.1;
        due = due-by (slice_get (after_of game).chairs who) (length (after_of game).deeds) a.2;
      }),
    )

-- A line of a seat that isn't present, or isn't asked, is no arrival.
pub asked-not : (game : Game) (who : ℕ) (text : List ℕ) → ◌≡◌ {A = Option (ℕ × ℕ)} None (asked_in game who) → say_arrives (intake_of game) who text ≡ Bad
asked-not game who text h = by (author_of_seat game who) (may_say_at game who) refl refl h
  where
    by : (o : Option ℕ) (may : Bool) → author_of_seat game who ≡ o → may_say_at game who ≡ may →
        ◌≡◌ {A = Option (ℕ × ℕ)} None (asked_of_author game who o) → say_arrives (intake_of game) who text ≡ Bad
    by None may p q k = says-absent game who text (sym (ap (option_map (λ (by : ℕ). (who, by))) p))
    by (Some author) false p q k = says-unasked game author who who text (sym (ap (option_map (λ (by : ℕ). (who, by))) p)) q
    by (Some author) true p q k = let some : None ≡ Some (who, author) = k ∙ ap (λ (b : Bool). if b then Some (who, author) else None) q in absurd (cc some)

-- So of the game of a journal that is in play.
pub if-asked : (o : Option Watched) (Held : Type 0) (who speaker author : ℕ) → IsPlayed o Held →
    ((w : Watched) → o ≡ Some w → ◌≡◌ {A = Option (ℕ × ℕ)} (Some (speaker, author)) (asked_in w.core.game who)) →
    (speaker < 4) × IfKept o (λ w. IsAsked w.core.game author speaker)
if-asked None Held who speaker author played asked = absurd played
if-asked (Some w) Held who speaker author played asked = let a = is-asked w.core.game who speaker author w.few (asked w refl) in (a.1.within, a.1)

pub if-present : (o : Option Watched) (Held : Type 0) (who leaver author : ℕ) → IsPlayed o Held →
    ((w : Watched) → o ≡ Some w → ◌≡◌ {A = Option (ℕ × ℕ)} (Some (leaver, author)) (present_in w.core.game who)) →
    (leaver < 4) × IfKept o (λ w. author_of_seat w.core.game leaver ≡ Some author)
if-present None Held who leaver author played here = absurd played
if-present (Some w) Held who leaver author played here =
    let is = present-is (author_of_seat w.core.game who) leaver author who (here w refl) in
    let by : author_of_seat w.core.game leaver ≡ Some author = subst (λ (n : ℕ). author_of_seat w.core.game n ≡ Some author) (sym is.1) is.0 in
    (seat-below w.core.game leaver author w.few by, by)

pub if-more : {G : Type 0} (o : Option G) (P Q : G → Type 0) → ((g : G) → P g → Q g) → IfKept o P → IfKept o Q
if-more None P Q more held = record {}
if-more (Some g) P Q more held = more g held
