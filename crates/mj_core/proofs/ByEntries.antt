-- What the calls of a core enter, told as what the calls of a seated game enter.
use Rattle.std.proofs.Common.{◌≡◌, ℕ, suc, ◌+◌, ◌<◌, ◌==◌, not, List, [], ◌∷◌, ◌++◌, length, Bool, true, false, refl, ap, ◌∙◌, sym, arith}
use Rattle.std.specs.Prelude.{if◌then◌else◌, Option, Some, None, map, slice_get, nat_le, nat_lt, Result, OnOk, Ok, Err}
use Rattle.std.specs.Option.{option_map_or}
use Rattle.std.specs.declared.alloc.AllocError.{AllocError}
use Rattle.std.proofs.lemmas.Bool.{and_from, eq-eqb, lt-ltb}
use Rattle.std.proofs.lemmas.List.{length-map}
use Rattle.mj_bytes.specs.Adds.{Adds}
use Rattle.mj_ports.specs.declared.entry.Entry.{Entry}
use Rattle.mj_ports.specs.declared.sitting.JoinLine.{JoinLine}
use Rattle.mj_ports.specs.declared.sitting.SitRefused.TheVariants.{Full, NameTaken, WrongKey, TooOften}
use Rattle.mj_ports.specs.declared.answers.SitAnswer.{SitAnswer}
use Rattle.mj_ports.specs.declared.answers.SitAnswer.TheVariants as sits
use Rattle.mj_ports.specs.declared.answers.Heard.{Heard}
use Rattle.mj_ports.specs.declared.answers.Heard.TheVariants as heard
use Rattle.mj_ports.specs.declared.answers.Left.{Left}
use Rattle.mj_ports.specs.declared.answers.Left.TheVariants as left
use Rattle.mj_ports.specs.declared.answers.Expiry.{Expiry}
use Rattle.mj_ports.specs.declared.answers.Expiry.TheVariants as expiry
use Rattle.mj_ports.specs.Entries.{next_seat}
use Rattle.mj_ports.specs.SeatCalls.{AnswersSit, AnswersSaid, AnswersGone, AnswersExpiry}
use Rattle.mj_seating.specs.declared.desk.Placed.{Placed}
use Rattle.mj_seating.specs.declared.desk.Placed.TheVariants as places
use Rattle.mj_seating.specs.Sitting.{Occupant, is_named, is_key, back, at_held, placed_from, placed}
use Rattle.mj_deeds.specs.declared.rule.Rule.{Rule}
use Rattle.mj_deeds.specs.declared.answer.Answer.{Answer}
use Rattle.mj_wall.specs.declared.setting.Setting.{Setting}
use Rattle.mj_history.specs.After.{After, Chair, Verdict, after}
use Rattle.mj_history.specs.Legal.{Game, is_present_by, may_say, can_say}
use Rattle.mj_history.specs.Sitting.{placing, held_of, author_at}
use Rattle.mj_history.specs.Shown.{due_at, sit_answer, sits_of, heard_of, hears_of, expires_of}
use Rattle.mj_forms.specs.AnswerForms.{join_of}
use Rattle.mj_history.proofs.Entered.{seats-are}
use Rattle.mj_umpire.specs.Calls.{after_of, IsSitAnswer, IsHeard, IsLeft, IsExpiry, is_here}
use Rattle.mj_umpire.proofs.Games.{placing-sat}
use Rattle.mj_umpire.proofs.Foreseen.{foreseen-stale, foreseen-early, foreseen-closed}

-- A held seat is never the next one.
not-next : {A : Type 0} (seat : ℕ) (held : Occupant) (said : Option (List ℕ)) (given : ℕ) → at_held seat held said ≡ places.Sat given → A
not-next {A} seat held said given h = by held.present held.key h
  where
    by_key : (wrong often : Bool) → (if wrong then places.Refused WrongKey else (if often then places.Refused TooOften else places.Back seat)) ≡ places.Sat given → A
    by_key true often h = cc
    by_key false true h = cc
    by_key false false h = cc

    by : (present : Bool) (key : Option (List ℕ)) → (if present then places.Refused NameTaken else back seat held.returns key said) ≡ places.Sat given → A
    by true key h = cc
    by false None h = cc
    by false (Some key) h = by_key (not (is_key key said)) (nat_le 64 held.returns) h

next-from : (number : ℕ) (held : List Occupant) (join : JoinLine) (seat : ℕ) → placed_from number held join ≡ places.Sat seat → seat ≡ number + length held
next-from number [] join seat h = by (number == 4) h
  where
    same : (a b : ℕ) → places.Sat a ≡ places.Sat b → b ≡ a + 0
    same a b e = let s : a ≡ b = cc in omega (arith, s)

    by : (full : Bool) → (if full then places.Refused Full else places.Sat number) ≡ places.Sat seat → seat ≡ number + 0
    by true e = cc
    by false e = same number seat e
next-from number (one ∷ held) join seat h = by (λ e. next-from (number + 1) held join seat e) (is_named join.name one) h
  where
    longer : (s n m : ℕ) → s ≡ n + 1 + m → s ≡ n + suc m
    longer s n m e = omega (arith, e)

    by : (placed_from (number + 1) held join ≡ places.Sat seat → seat ≡ number + 1 + length held) → (named : Bool) →
        (if named then at_held number one join.key else placed_from (number + 1) held join) ≡ places.Sat seat → seat ≡ number + suc (length held)
    by rest true e = not-next number one join.key seat e
    by rest false e = longer seat number (length held) (rest e)

-- The seat that is given next is as many as were taken.
next-is : (setting : Setting) (entries : List (Entry Answer)) (join : JoinLine) (seat : ℕ) → placing (after setting entries) (Some join) ≡ places.Sat seat → seat ≡ next_seat entries
unfolding placed
next-is setting entries join seat h =
    let now : After = after setting entries in
    next-from 0 (map held_of now.chairs) join seat (placing-sat now join seat h) ∙ none (length (map held_of now.chairs)) ∙ length-map now.chairs held_of ∙ seats-are setting entries
  where
    none : (n : ℕ) → 0 + n ≡ n
    none n = omega arith

-- A line that wants a seat.
pub sit-setting : (answer : SitAnswer) (old new : Game) (author : ℕ) (join : Option JoinLine) → IsSitAnswer answer old new author join → new.setting ≡ old.setting
sit-setting (sits.Sat seat) old new author None h = absurd h.1
sit-setting (sits.Sat seat) old new author (Some join) h = h.1.setting
sit-setting (sits.Back seat) old new author join h = h.1.setting
sit-setting (sits.Refused why) old new author join h = ap (λ (g : Game). g.setting) h.1
sit-setting sits.NoMemory old new author join h = ap (λ (g : Game). g.setting) h

sit-by : (answer : SitAnswer) (old new : Game) (author : ℕ) (join : Option JoinLine) → IsSitAnswer answer old new author join
    → AnswersSit old.entries new.entries answer (sit_answer (placing (after old.setting old.entries) join)) author join
sit-by (sits.Sat seat) old new author None h = absurd h.1
sit-by (sits.Sat seat) old new author (Some join) h = (ap (λ (p : Placed). sit_answer p) h.0, (next-is old.setting old.entries join seat h.0, h.1.entries))
sit-by (sits.Back seat) old new author join h = (ap (λ (p : Placed). sit_answer p) h.0, h.1.entries)
sit-by (sits.Refused why) old new author join h = (ap (λ (p : Placed). sit_answer p) h.0, ap (λ (g : Game). g.entries) h.1)
sit-by sits.NoMemory old new author join h = ap (λ (g : Game). g.entries) h

pub sit-enters : (answer : SitAnswer) (old new : Game) (author : ℕ) (text : List ℕ) → IsSitAnswer answer old new author (join_of text)
    → AnswersSit old.entries new.entries answer (sits_of old.setting old.entries text) author (join_of text)
sit-enters answer old new author text h = sit-by answer old new author (join_of text) h

-- A line of a seat.
can-by : (now : After) (author : ℕ) (held : Option Chair) → option_map_or (λ (chair : Chair). chair.author) held None ≡ Some author
    → option_map_or (λ (chair : Chair). chair.progress.due) held 0 < length now.deeds → option_map_or (may_say now author) held false ≡ true
unfolding may_say
can-by now author None h d = cc
can-by now author (Some chair) h d =
    and_from (is_present_by author chair) (nat_lt chair.progress.due (length now.deeds))
    (ap (λ (o : Option ℕ). option_map_or (λ by. by == author) o false) h ∙ eq-eqb author author refl) (lt-ltb chair.progress.due (length now.deeds) d)

pub said-can : (game : Game) (author seat : ℕ) → author_at (after_of game) seat ≡ Some author → due_at (after_of game) seat < length (after_of game).deeds → can_say (after_of game) author seat ≡ true
said-can game author seat h d = can-by (after_of game) author (slice_get (after_of game).chairs seat) h d

pub said-setting : (answered : Heard Rule) (old new : Game) (author seat : ℕ) (answer : Answer) → IsHeard answered old new author seat answer → new.setting ≡ old.setting
said-setting heard.Taken old new author seat answer h = h.1.setting
said-setting heard.Late old new author seat answer h = h.1.setting
said-setting (heard.Refused rule) old new author seat answer h = h.1.setting
said-setting (heard.Closing rule) old new author seat answer h = h.1.setting
said-setting heard.NoMemory old new author seat answer h = ap (λ (g : Game). g.setting) h

abbrev right_of : Option Verdict → Heard Rule
right_of verdict = option_map_or heard_of verdict heard.NoMemory

pub said-enters : (answered : Heard Rule) (old new : Game) (author seat : ℕ) (answer : Answer) → IsHeard answered old new author seat answer
    → AnswersSaid old.entries new.entries answered (hears_of old.setting old.entries seat answer) author seat answer
said-enters heard.Taken old new author seat answer h = (ap (λ (v : Option Verdict). right_of v) h.0, h.1.entries)
said-enters heard.Late old new author seat answer h = (ap (λ (v : Option Verdict). right_of v) h.0, h.1.entries)
said-enters (heard.Refused rule) old new author seat answer h = (ap (λ (v : Option Verdict). right_of v) h.0, h.1.entries)
said-enters (heard.Closing rule) old new author seat answer h = (ap (λ (v : Option Verdict). right_of v) h.0, h.1.entries)
said-enters heard.NoMemory old new author seat answer h = ap (λ (g : Game). g.entries) h

-- A seat that leaves.
here-by : (author : ℕ) (held : Option Chair) → option_map_or (λ (chair : Chair). chair.author) held None ≡ Some author → option_map_or (is_present_by author) held false ≡ true
here-by author None h = cc
here-by author (Some chair) h = ap (λ (o : Option ℕ). option_map_or (λ by. by == author) o false) h ∙ eq-eqb author author refl

pub gone-here : (game : Game) (author seat : ℕ) → author_at (after_of game) seat ≡ Some author → is_here game author seat ≡ true
gone-here game author seat h = here-by author (slice_get (after_of game).chairs seat) h

pub gone-setting : (answer : Left) (old new : Game) (author seat : ℕ) → IsLeft answer old new author seat → new.setting ≡ old.setting
gone-setting left.Gone old new author seat h = h.setting
gone-setting left.NoMemory old new author seat h = ap (λ (g : Game). g.setting) h

pub gone-enters : (answer : Left) (old new : Game) (author seat : ℕ) → IsLeft answer old new author seat → AnswersGone old.entries new.entries answer author seat
gone-enters left.Gone old new author seat h = h.entries
gone-enters left.NoMemory old new author seat h = ap (λ (g : Game). g.entries) h

-- A window whose time may have run out.
pub expire-setting : (answer : Expiry) (old new : Game) (author window t1 t2 : ℕ) → IsExpiry answer old new author window t1 t2 → new.setting ≡ old.setting
expire-setting expiry.Closed old new author window t1 t2 h = h.1.setting
expire-setting expiry.Stale old new author window t1 t2 h = ap (λ (g : Game). g.setting) h.1
expire-setting expiry.Early old new author window t1 t2 h = ap (λ (g : Game). g.setting) h.2
expire-setting expiry.NoMemory old new author window t1 t2 h = ap (λ (g : Game). g.setting) h

pub expire-enters : (answer : Expiry) (old new : Game) (author window t1 t2 : ℕ) → IsExpiry answer old new author window t1 t2
    → AnswersExpiry old.entries new.entries answer (expires_of old.setting old.entries window t1 t2) author window t1 t2
expire-enters expiry.Closed old new author window t1 t2 h = (sym (foreseen-closed old window t1 t2 h.0), h.1.entries)
expire-enters expiry.Stale old new author window t1 t2 h = (sym (foreseen-stale old window t1 t2 h.0), ap (λ (g : Game). g.entries) h.1)
expire-enters expiry.Early old new author window t1 t2 h = (sym (foreseen-early old window t1 t2 h.0 h.1), ap (λ (g : Game). g.entries) h.2)
expire-enters expiry.NoMemory old new author window t1 t2 h = ap (λ (g : Game). g.entries) h

-- What was written.
pub adds-equation : (result : Result (Unit {0}) AllocError) (old new piece : List ℕ) → OnOk result (Adds old new piece) → OnOk result (new ≡ old ++ piece)
adds-equation (Ok done) old new piece h = h.is
adds-equation (Err e) old new piece h = h
