-- Words of a command that waits, and of one that doesn't.
use Rattle.std.proofs.Common.{◌≡◌, ℕ, ◌||◌, Bool, true, false, not, List, [], ◌∷◌, refl, sym, subst, ◌∙◌, arith, codes, true≢false}
use Rattle.std.proofs.lemmas.Bool.{false≢true}
use Rattle.std.specs.Prelude.{Option, Some, None, ◌<◌, option_and_then, bytes_eq, if◌then◌else◌}
use Rattle.std.proofs.KnownBytes.{Keeps-refl}
use Rattle.std.proofs.lemmas.Slice.Eq.{bytes_eq-Decides}
use Rattle.mj_words.specs.declared.serving.Hosting.{Hosting}
use Rattle.mj_words.specs.declared.serving.Serving.{Serving}
use Rattle.mj_words.specs.Asked.{Asked, ServedWith, RefereeOf, ServingOf, SummaryOfRecord, HandOf, SelfPlayOf, ViewOfRecord, KeepOf, SafeOf, TablesOf, Nothing}
use Rattle.mj_words.specs.Asked.{asked_by, seat_named, referee_by, referee_asked, keep_by, keep_asked, serve_asked, replay_by, replay_asked, hand_by, hand_asked}
use Rattle.mj_words.specs.Asked.{self_play_by, self_play_asked, observe_by, observe_asked, serving_by, safe_by, safe_asked, tables_by, tables_asked}
use Rattle.mj_words.specs.Lines.{referee_line, safe_line, value_in}
use Rattle.mj_words.specs.Commands.{served_with, asked_by_serving, asked_by_hosting}
use Rattle.mj_hosting.specs.declared.plays.ServeEnd.{ServeEnd}
use Rattle.mj_hosting.specs.declared.plays.ServeEnd.TheVariants as ends
use Rattle.mj_runs.specs.declared.status.Status.{Status}
use Rattle.mj_runs.specs.declared.status.Status.TheVariants as statuses
use Rattle.mj_hosting.specs.Statuses.{serve_status}
use Rattle.mj_runs.specs.Faults.{CountsReadFaults}
use Rattle.mj_front.specs.Run.{Runs, RunsAny, RunsDisk, IsAlone, LeavesAlone, begins_with, is_waiting}

-- The seat that a word names is one of the four.
IsSeat : Option ℕ → Type 0
IsSeat None = Unit {0}
IsSeat (Some seat) = seat < 4

named_within : (word : Option (List ℕ)) → IsSeat (option_and_then seat_named word)
unfolding IsSeat
named_within None = tt
named_within (Some word) = by_word (bytes_eq word (codes "0")) (bytes_eq word (codes "1")) (bytes_eq word (codes "2")) (bytes_eq word (codes "3"))
  where
    by_word : (a b c d : Bool) → IsSeat (if a then Some 0 else (if b then Some 1 else (if c then Some 2 else (if d then Some 3 else None))))
    by_word true b c d = omega arith
    by_word false true c d = omega arith
    by_word false false true d = omega arith
    by_word false false false true = omega arith
    by_word false false false false = tt

referee_alone : (o : Option ℕ) → IsSeat o → IsAlone (referee_by o)
unfolding IsSeat
referee_alone None within = tt
referee_alone (Some seat) within = within

safe_alone : (o : Option ℕ) → IsSeat o → IsAlone (safe_by o)
unfolding IsSeat
safe_alone None within = tt
safe_alone (Some seat) within = within

replay_alone : (b : Bool) → IsAlone (replay_by b)
replay_alone false = tt
replay_alone true = tt

hand_alone : (o : Option (List (List ℕ))) → IsAlone (hand_by o)
hand_alone None = tt
hand_alone (Some words) = tt

self_play_alone : (o : Option ℕ) → IsAlone (self_play_by o)
self_play_alone None = tt
self_play_alone (Some number) = tt

observe_alone : (b : Bool) → IsAlone (observe_by b)
observe_alone false = tt
observe_alone true = tt

keep_alone : (o : Option ℕ) → IsAlone (keep_by o)
keep_alone None = tt
keep_alone (Some seat) = tt

neither : (a b : Bool) → (a || b) ≡ false → (a ≡ false) × (b ≡ false)
neither false b e = (refl, e)
neither true b e = absurd (true≢false e)

one_alone : (r s p h g o k a t : Bool) (words : List (List ℕ)) → s ≡ false → t ≡ false
    → IsAlone (if r then referee_asked words
    else (if s then serve_asked words else (if p then replay_asked words
    else (if h then hand_asked words else (if g then self_play_asked words
    else (if o then observe_asked words else (if k then keep_asked words
    else (if a then safe_asked words else (if t then tables_asked words else Nothing)))))))))
one_alone true s p h g o k a t words isnt none = referee_alone _ (named_within (value_in referee_line (codes "seat") words))
one_alone false true p h g o k a t words isnt none = absurd (true≢false isnt)
one_alone false false true h g o k a t words isnt none = replay_alone _
one_alone false false false true g o k a t words isnt none = hand_alone _
one_alone false false false false true o k a t words isnt none = self_play_alone _
one_alone false false false false false true k a t words isnt none = observe_alone _
one_alone false false false false false false true a t words isnt none = keep_alone _
one_alone false false false false false false false true t words isnt none = safe_alone _ (named_within (value_in safe_line (codes "seat") words))
one_alone false false false false false false false false true words isnt none = absurd (true≢false none)
one_alone false false false false false false false false false words isnt none = tt

-- Words whose first is of no command that waits ask for no game that is served.
pub alone_of : (words : List (List ℕ)) → is_waiting words ≡ false → IsAlone (asked_by words)
alone_of [] isnt = tt
alone_of (first ∷ words) isnt =
    let both = neither (bytes_eq first (codes "serve")) (bytes_eq first (codes "tables")) isnt in
    one_alone (bytes_eq first (codes "referee")) (bytes_eq first (codes "serve")) (bytes_eq first (codes "replay")) (bytes_eq first (codes "hand"))
    (bytes_eq first (codes "selfplay")) (bytes_eq first (codes "observe")) (bytes_eq first (codes "keep")) (bytes_eq first (codes "safe"))
    (bytes_eq first (codes "tables")) (first ∷ words) both.0 both.1

pub alone_as : (asked other : Asked) → asked ≡ other → IsAlone other → IsAlone asked
alone_as asked other e h = subst IsAlone (sym e) h

same_bytes : (xs ys : List ℕ) → bytes_eq xs ys ≡ true → xs ≡ ys
same_bytes xs ys is = (bytes_eq-Decides xs ys).0 is

pub waits_by : (found waits : Bool) → found ≡ waits → not found ≡ false → waits ≡ true
waits_by true waits e h = sym e
waits_by false waits e h = absurd (true≢false h)

-- Words whose first is that of a command that waits ask as the words of that command do.
pub serve_of : (words : List (List ℕ)) → begins_with (codes "serve") words ≡ true → asked_by words ≡ serve_asked words
serve_of [] is = absurd (false≢true is)
serve_of (first ∷ words) is = subst (λ (w : List ℕ). asked_by (w ∷ words) ≡ serve_asked (w ∷ words)) (sym (same_bytes first (codes "serve") is)) refl

pub tables_of : (words : List (List ℕ)) → begins_with (codes "tables") words ≡ true → asked_by words ≡ tables_asked words
tables_of [] is = absurd (false≢true is)
tables_of (first ∷ words) is = subst (λ (w : List ℕ). asked_by (w ∷ words) ≡ tables_asked (w ∷ words)) (sym (same_bytes first (codes "tables") is)) refl

pub asked_serving : (words : List (List ℕ)) (serving : Option Serving) → begins_with (codes "serve") words ≡ true →
    asked_by_serving serving ≡ serve_asked words → asked_by words ≡ asked_by_serving serving
asked_serving words serving is e = serve_of words is ∙ sym e

pub asked_hosting : (words : List (List ℕ)) (hosting : Option Hosting) → begins_with (codes "tables") words ≡ true →
    asked_by_hosting hosting ≡ tables_asked words → asked_by words ≡ asked_by_hosting hosting
asked_hosting words hosting is e = tables_of words is ∙ sym e

-- Of two words that are waited for it is the other where it isn't the one.
pub the_other : (found first one two : Bool) → found ≡ (one || two) → found ≡ true → first ≡ one → first ≡ false → two ≡ true
the_other found first true two e h s n = absurd (true≢false (sym s ∙ n))
the_other found first false two e h s n = sym e ∙ h

-- What a run does without waiting it does as any run.
pub any_of : (Does : ServeEnd → ServedWith → Type 0) (DoesAll : ServeEnd → ℕ → ServedWith → Type 0) (asked : Asked) (status : Status)
    (old_left new_left old_written new_written : Option (List ℕ)) → Runs asked status old_left new_left old_written new_written →
    RunsAny Does DoesAll asked status old_left new_left old_written new_written
any_of Does DoesAll (RefereeOf seat) status ol nl ow nw h = h
any_of Does DoesAll (ServingOf s) status ol nl ow nw h = absurd h
any_of Does DoesAll (TablesOf rooms s) status ol nl ow nw h = absurd h
any_of Does DoesAll SummaryOfRecord status ol nl ow nw h = h
any_of Does DoesAll (HandOf words) status ol nl ow nw h = h
any_of Does DoesAll (SelfPlayOf number) status ol nl ow nw h = h
any_of Does DoesAll ViewOfRecord status ol nl ow nw h = h
any_of Does DoesAll (KeepOf seat) status ol nl ow nw h = h
any_of Does DoesAll (SafeOf seat) status ol nl ow nw h = h
any_of Does DoesAll Nothing status ol nl ow nw h = h

pub left_alone : (asked : Asked) (Same : Type 0) → Same → LeavesAlone asked Same
left_alone (RefereeOf seat) Same h = h
left_alone (ServingOf s) Same h = tt
left_alone (TablesOf rooms s) Same h = tt
left_alone SummaryOfRecord Same h = h
left_alone (HandOf words) Same h = h
left_alone (SelfPlayOf number) Same h = h
left_alone ViewOfRecord Same h = h
left_alone (KeepOf seat) Same h = h
left_alone (SafeOf seat) Same h = h
left_alone Nothing Same h = h

module _ (Does : ServeEnd → ServedWith → Type 0) (DoesAll : ServeEnd → ℕ → ServedWith → Type 0) where
  -- A run that serves a game, or many.
  pub runs_serve : (asked : Asked) (serving : Serving) (status : Status) (end : ServeEnd) (left old_written new_written : Option (List ℕ)) →
      asked ≡ asked_by_serving (Some serving) → status ≡ serve_status end → Does end (served_with serving)
      → RunsAny Does DoesAll asked status left left old_written new_written
  runs_serve asked serving status end left ow nw e gives does = subst (λ (a : Asked). RunsAny Does DoesAll a status left left ow nw) (sym e)
      (record { end = end; gives = gives; unread = Keeps-refl left; does = does })

  pub runs_tables : (asked : Asked) (hosting : Hosting) (status : Status) (end : ServeEnd) (left old_written new_written : Option (List ℕ)) →
      asked ≡ asked_by_hosting (Some hosting) → status ≡ serve_status end → DoesAll end hosting.rooms (served_with hosting.serving)
      → RunsAny Does DoesAll asked status left left old_written new_written
  runs_tables asked hosting status end left ow nw e gives does = subst (λ (a : Asked). RunsAny Does DoesAll a status left left ow nw) (sym e)
      (record { end = end; gives = gives; unread = Keeps-refl left; does = does })

  -- A run whose words are refused.
  pub runs_words : (asked : Asked) (left written : Option (List ℕ)) → asked ≡ Nothing → RunsAny Does DoesAll asked statuses.Words left left written written
  runs_words asked left written e = subst (λ (a : Asked). RunsAny Does DoesAll a statuses.Words left left written written) (sym e)
      (record { words = tt; unread = Keeps-refl left; unwritten = Keeps-refl written })

  -- A run that finds no memory for its words.
  pub runs_none : ((s : ServedWith) → Does ends.NoMemory s) → (words : List (List ℕ)) (left written : Option (List ℕ)) →
      begins_with (codes "serve") words ≡ true → RunsAny Does DoesAll (asked_by words) statuses.NoMemory left left written written
  runs_none none words left written is = subst (λ (a : Asked). RunsAny Does DoesAll a statuses.NoMemory left left written written) (sym (serve_of words is)) (by _ _ _ _ _)
    where
      by : (seed : Option (List ℕ)) (limit port : Option ℕ) (draws red : Bool) → RunsAny Does DoesAll (serving_by seed limit port draws red) statuses.NoMemory left left written written
      by None limit port draws red = record { words = tt; unread = Keeps-refl left; unwritten = Keeps-refl written }
      by (Some seed) None port draws red = record { words = tt; unread = Keeps-refl left; unwritten = Keeps-refl written }
      by (Some seed) (Some limit) None draws red = record { words = tt; unread = Keeps-refl left; unwritten = Keeps-refl written }
      by (Some seed) (Some limit) (Some port) draws red = record { end = ends.NoMemory; gives = refl; unread = Keeps-refl left; does = none _ }

  pub runs_no_tables : ((rooms : ℕ) (s : ServedWith) → DoesAll ends.NoMemory rooms s) → (words : List (List ℕ)) (left written : Option (List ℕ)) →
      begins_with (codes "tables") words ≡ true → RunsAny Does DoesAll (asked_by words) statuses.NoMemory left left written written
  runs_no_tables none words left written is = subst (λ (a : Asked). RunsAny Does DoesAll a statuses.NoMemory left left written written) (sym (tables_of words is)) (by _ _ _ _ _ _)
    where
      by : (rooms : Option ℕ) (seed : Option (List ℕ)) (limit port : Option ℕ) (draws red : Bool) →
          RunsAny Does DoesAll (tables_by rooms seed limit port draws red) statuses.NoMemory left left written written
      by None seed limit port draws red = record { words = tt; unread = Keeps-refl left; unwritten = Keeps-refl written }
      by (Some rooms) None limit port draws red = record { words = tt; unread = Keeps-refl left; unwritten = Keeps-refl written }
      by (Some rooms) (Some seed) None port draws red = record { words = tt; unread = Keeps-refl left; unwritten = Keeps-refl written }
      by (Some rooms) (Some seed) (Some limit) None draws red = record { words = tt; unread = Keeps-refl left; unwritten = Keeps-refl written }
      by (Some rooms) (Some seed) (Some limit) (Some port) draws red = record { end = ends.NoMemory; gives = refl; unread = Keeps-refl left; does = none _ _ }

pub serve_alone : (asked : Asked) (serving : Serving) (Same : Type 0) → asked ≡ asked_by_serving (Some serving) → LeavesAlone asked Same
serve_alone asked serving Same e = subst (λ (a : Asked). LeavesAlone a Same) (sym e) tt

pub tables_alone : (asked : Asked) (hosting : Hosting) (Same : Type 0) → asked ≡ asked_by_hosting (Some hosting) → LeavesAlone asked Same
tables_alone asked hosting Same e = subst (λ (a : Asked). LeavesAlone a Same) (sym e) tt

pub serve_unread : (status : Status) (end : ServeEnd) (count : ℕ) → status ≡ serve_status end → CountsReadFaults status count count
serve_unread status end count e = subst (λ (s : Status). CountsReadFaults s count count) (sym e) (none end)
  where
    none : (e : ServeEnd) → CountsReadFaults (serve_status e) count count
    none ends.Over = omega arith
    none ends.HostLost = refl
    none ends.NotOpened = refl
    none ends.WriteFault = omega arith
    none ends.NoMemory = omega arith

-- A game that is served leaves the disk alone, and so do words that are refused.
pub serve_spares : {D : Type 0} (told : D → Option (List ℕ)) (may_leave : D → List ℕ → Type 0) (moment : D → ℕ) (secured_since : D → ℕ → List ℕ → Type 0) (faults : D → ℕ) (disk : D) (asked : Asked)
    (serving : Option Serving) (status : Status) (ol nl ow nw : Option (List ℕ)) → asked ≡ asked_by_serving serving
    → RunsDisk told may_leave moment secured_since faults asked status ol nl ow nw disk disk
serve_spares told may_leave moment secured_since faults disk asked None status ol nl ow nw e =
    subst (λ (a : Asked). RunsDisk told may_leave moment secured_since faults a status ol nl ow nw disk disk) (sym e) refl
serve_spares told may_leave moment secured_since faults disk asked (Some serving) status ol nl ow nw e =
    subst (λ (a : Asked). RunsDisk told may_leave moment secured_since faults a status ol nl ow nw disk disk) (sym e) refl

pub tables_spare : {D : Type 0} (told : D → Option (List ℕ)) (may_leave : D → List ℕ → Type 0) (moment : D → ℕ) (secured_since : D → ℕ → List ℕ → Type 0) (faults : D → ℕ) (disk : D) (asked : Asked)
    (hosting : Option Hosting) (status : Status) (ol nl ow nw : Option (List ℕ)) → asked ≡ asked_by_hosting hosting
    → RunsDisk told may_leave moment secured_since faults asked status ol nl ow nw disk disk
tables_spare told may_leave moment secured_since faults disk asked None status ol nl ow nw e =
    subst (λ (a : Asked). RunsDisk told may_leave moment secured_since faults a status ol nl ow nw disk disk) (sym e) refl
tables_spare told may_leave moment secured_since faults disk asked (Some hosting) status ol nl ow nw e =
    subst (λ (a : Asked). RunsDisk told may_leave moment secured_since faults a status ol nl ow nw disk disk) (sym e) refl
