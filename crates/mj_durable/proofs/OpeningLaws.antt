-- How the journals of games are opened one after the other, and closed.
use Rattle.std.proofs.Common.{◌≡◌, ℕ, List, [], ◌∷◌, ◌++◌, length, map, sym, ap, ap₂, ◌∙◌, subst}
use Rattle.std.specs.Prelude.{All, Option, Some, Result, Ok, Err, IfOk, IfErr, slice_get}
use Rattle.std.specs.Option.{option_to_list}
use Rattle.std.proofs.lemmas.List.{length-map, map-append}
use Rattle.mj_wall.specs.declared.setting.Setting.{Setting}
use Rattle.mj_history.specs.Legal.{Game}
use Rattle.mj_journal.specs.declared.not_opened.NotOpened.{NotOpened}
use Rattle.mj_ticker.specs.Beside.{Beside}
use Rattle.mj_ticker.proofs.Besides.{popped, all_at, unmapped, snoc_left, snoc_last, beside_more, beside_snoc}
use Rattle.mj_written.specs.Writing.{Journaled}
use Rattle.mj_durable.specs.Journals.{LosesNothing}
use Rattle.mj_durable.specs.Inner.Steps.{IsKept, IsOpening, AreOpening, IsRight, IsBack, AreBack}
use Rattle.mj_durable.proofs.JournalLaws.{loses_nothing, faults_stay}

-- what is known of an answer
pub of_ok : {A E : Type 0} (P : A → Type 0) (r : Result A E) (a : A) → IfOk r P → r ≡ Ok a → P a
of_ok {A} {E} P r a h is = subst (λ (x : Result A E). IfOk x P) is h

pub of_err : {A E : Type 0} (P : E → Type 0) (r : Result A E) (e : E) → IfErr r P → r ≡ Err e → P e
of_err {A} {E} P r e h is = subst (λ (x : Result A E). IfErr x P) is h

-- one more is put back behind the others
pub put_back : {X Y : Type 0} (f : X → Y) (all rest : List X) (r : Option X) (x : X) (olds news : List Y) (y : Y) → all ≡ rest ++ option_to_list r → r ≡ Some x → olds ≡ map f rest → y ≡ f x
    → news ≡ olds ++ y ∷ [] → news ≡ map f all
put_back {X} {Y} f all rest r x olds news y items this closed is pushed =
    pushed ∙ ap₂ (λ (l : List Y) (z : Y). l ++ z ∷ []) closed is ∙ sym (map-append f rest (x ∷ [])) ∙ sym (ap (λ (l : List X). map f l) (popped all rest r x items this))

module _ {D : Type 0} (told : D → Option (List ℕ)) (may_leave : D → List ℕ → Type 0) (moment : D → ℕ) (left_since secured_since : D → ℕ → List ℕ → Type 0) (disk_faults : D → ℕ) (authors : ℕ) where
  -- one game more is open
  pub opens_more : (others cores : List Game) (were all : List D) (games more : List (Journaled Game D)) (core : Game) (was : D) (w : Journaled Game D) → cores ≡ others ++ core ∷ []
      → all ≡ were ++ was ∷ [] → more ≡ games ++ w ∷ [] → AreOpening told may_leave moment left_since secured_since disk_faults authors others were games
      → IsOpening told may_leave moment left_since secured_since disk_faults authors core.setting was w
      → AreOpening told may_leave moment left_since secured_since disk_faults authors cores all more
  opens_more others cores were all games more core was w a b c opening one =
      beside_more (λ t game disk v. IsOpening told may_leave moment left_since secured_since disk_faults authors game.setting disk v) others cores were all games more core was w a b c opening one

  -- a game that was opened is closed
  back_of : (s : Setting) (was : D) (w : Journaled Game D) → IsOpening told may_leave moment left_since secured_since disk_faults authors s was w
      → IsKept told may_leave moment left_since secured_since disk_faults w → IsBack told may_leave moment left_since secured_since disk_faults s was w.disk
  back_of s was w opening kept = record {
    lost = subst (λ (x : Setting). LosesNothing told may_leave moment left_since x was w.disk) opening.setting
        (loses_nothing told may_leave moment left_since secured_since disk_faults authors was w opening.opened kept);
    faults = faults_stay told may_leave moment left_since secured_since disk_faults authors was w opening.opened kept;
  }

  all_back : (cores : List Game) (were : List D) (games : List (Journaled Game D)) → AreOpening told may_leave moment left_since secured_since disk_faults authors cores were games
      → All (IsKept told may_leave moment left_since secured_since disk_faults) games
      → Beside (λ t core was now. IsBack told may_leave moment left_since secured_since disk_faults core.setting was now) cores were (map (λ (w : Journaled Game D). w.disk) games)
  all_back cores were games opening kept = record {
    second = opening.second;
    third = length-map games (λ (w : Journaled Game D). w.disk) ∙ opening.third;
    each = λ t core was now a b c.
        let w = unmapped (λ (x : Journaled Game D). x.disk) games t now c in
        subst (λ (d : D). IsBack told may_leave moment left_since secured_since disk_faults core.setting was d) w.2
        (back_of core.setting was w.0 (opening.each t core was w.0 a b w.1) (all_at (IsKept told may_leave moment left_since secured_since disk_faults) games t w.0 kept w.1));
  }

  -- the journal of one game more isn't opened
  pub closes : (others : List Game) (were disks news : List D) (games : List (Journaled Game D)) (core : Game) (was now : D) (why : NotOpened)
      → disks ≡ map (λ (w : Journaled Game D). w.disk) games → news ≡ disks ++ now ∷ []
      → AreOpening told may_leave moment left_since secured_since disk_faults authors others were games → All (IsKept told may_leave moment left_since secured_since disk_faults) games
      → IsBack told may_leave moment left_since secured_since disk_faults core.setting was now
      → IsRight told may_leave moment left_since secured_since disk_faults authors why core.setting was now
      → AreBack told may_leave moment left_since secured_since disk_faults authors why (others ++ core ∷ []) (were ++ was ∷ []) news
  closes others were disks news games core was now why closed pushed opening kept back right =
      let is : news ≡ map (λ (w : Journaled Game D). w.disk) games ++ now ∷ [] = pushed ∙ ap (λ (l : List D). l ++ now ∷ []) closed in
      let as_many : length (map (λ (w : Journaled Game D). w.disk) games) ≡ length others = length-map games (λ (w : Journaled Game D). w.disk) ∙ opening.third in
      subst (AreBack told may_leave moment left_since secured_since disk_faults authors why (others ++ core ∷ []) (were ++ was ∷ [])) (sym is) (record {
        all = beside_snoc (λ t game disk later. IsBack told may_leave moment left_since secured_since disk_faults game.setting disk later) others were
            (map (λ (w : Journaled Game D). w.disk) games) core was now (all_back others were games opening kept) back;
        table = length others;
        core = core;
        was = was;
        now = now;
        core_is = snoc_last others core;
        was_is = subst (λ (n : ℕ). slice_get (were ++ was ∷ []) n ≡ Some was) opening.second (snoc_last were was);
        now_is = subst (λ (n : ℕ). slice_get (map (λ (w : Journaled Game D). w.disk) games ++ now ∷ []) n ≡ Some now) as_many
            (snoc_last (map (λ (w : Journaled Game D). w.disk) games) now);
        right = right;
      })

  -- a disk that wasn't touched comes back too
  pub back_more : (others cores : List Game) (were all disks news : List D) (core : Game) (was : D) (why : NotOpened) → cores ≡ others ++ core ∷ [] → all ≡ were ++ was ∷ []
      → news ≡ disks ++ was ∷ [] → AreBack told may_leave moment left_since secured_since disk_faults authors why others were disks
      → IsBack told may_leave moment left_since secured_since disk_faults core.setting was was
      → AreBack told may_leave moment left_since secured_since disk_faults authors why cores all news
  back_more others cores were all disks news core was why a b c back one = record {
    all = beside_more (λ t game disk later. IsBack told may_leave moment left_since secured_since disk_faults game.setting disk later) others cores were all disks news core was was a b c
        back.all one;
    table = back.table;
    core = back.core;
    was = back.was;
    now = back.now;
    core_is = subst (λ (l : List Game). slice_get l back.table ≡ Some back.core) (sym a) (snoc_left others core back.table back.core back.core_is);
    was_is = subst (λ (l : List D). slice_get l back.table ≡ Some back.was) (sym b) (snoc_left were was back.table back.was back.was_is);
    now_is = subst (λ (l : List D). slice_get l back.table ≡ Some back.now) (sym c) (snoc_left disks was back.table back.now back.now_is);
    right = back.right;
  }
