-- What an entry changes of the seats and the deeds, and what it leaves.
use Rattle.std.proofs.Common.{◌≡◌, ℕ, suc, ◌+◌, List, [], ◌∷◌, ◌++◌, length, Bool, true, false, refl, ap, ◌∙◌, sym, subst, arith, append-nil}
use Rattle.std.specs.Prelude.{if◌then◌else◌, Option, Some, None, slice_get, slice_set, nat_lt}
use Rattle.std.specs.Option.{option_map_or}
use Rattle.std.proofs.lemmas.List.{length-append, length-set}
use Rattle.std.proofs.lemmas.List.Recursion.{is_count_by}
use Rattle.mj_ports.specs.declared.entry.Entry.{Entry}
use Rattle.mj_ports.specs.declared.entry.Entry.TheVariants.{Sat, Back, Said, Gone, Expired}
use Rattle.mj_ports.specs.Entries.{is_sat, next_seat}
use Rattle.mj_deeds.specs.declared.rule.Rule.{Rule}
use Rattle.mj_deeds.specs.declared.answer.Answer.{Answer}
use Rattle.mj_deeds.specs.declared.deed.Deed.{Deed}
use Rattle.mj_wall.specs.declared.setting.Rules.{Rules}
use Rattle.mj_wall.specs.declared.setting.Setting.{Setting}
use Rattle.mj_history.specs.After.{After, Chair, Connection, Verdict, Taken, Late, verdict, verdict_by, author_after, progress_after, verdict_on, lines_for, after_said, after_gone}
use Rattle.mj_history.specs.After.{after_back, due_on_return, told_again, new_chair, own_part, pending, next_deed, with_deed, step, after_from, after, before_all}
use Rattle.mj_history.proofs.Fitting.{own_deeds}
use Rattle.mj_history.proofs.Connections.{one_if, ArePlaced, placed-idle, placed-kept, placed-new, placed-again}

-- The seats are those that the entry's own part leaves.
pub step-chairs : (setting : Setting) (now : After) (entry : Entry Answer) → (step setting now entry).chairs ≡ (own_part setting now entry).chairs
unfolding step
step-chairs setting now entry = by (next_deed setting (own_part setting now entry) entry)
  where
    by : (o : Option Deed) → (with_deed (own_part setting now entry) o).chairs ≡ (own_part setting now entry).chairs
    by None = refl
    by (Some deed) = refl

-- One deed is added at most.
abbrev pub listed : Option Deed → List Deed
listed None = []
listed (Some deed) = deed ∷ []

pub step-deeds : (setting : Setting) (now : After) (entry : Entry Answer) → (step setting now entry).deeds ≡ now.deeds ++ listed (next_deed setting (own_part setting now entry) entry)
unfolding step
step-deeds setting now entry = by (next_deed setting (own_part setting now entry) entry)
  where
    by : (o : Option Deed) → (with_deed (own_part setting now entry) o).deeds ≡ now.deeds ++ listed o
    by None = own_deeds setting now entry ∙ sym (append-nil now.deeds)
    by (Some deed) = ap (λ (deeds : List Deed). deeds ++ deed ∷ []) (own_deeds setting now entry)

-- Entries are counted.
said_entered : (rules : Rules) (now : After) (seat : ℕ) (answer : Answer) (held : Option Chair) → (option_map_or (after_said rules now seat answer) held now).entered ≡ now.entered
unfolding after_said
said_entered rules now seat answer None = refl
said_entered rules now seat answer (Some chair) = refl

gone_entered : (rules : Rules) (now : After) (seat : ℕ) (held : Option Chair) → (option_map_or (after_gone rules now seat) held now).entered ≡ now.entered
unfolding after_gone
gone_entered rules now seat None = refl
gone_entered rules now seat (Some chair) = refl

back_entered : (rules : Rules) (now : After) (author seat : ℕ) (held : Option Chair) → (option_map_or (after_back rules now author seat) held now).entered ≡ now.entered
unfolding after_back
back_entered rules now author seat None = refl
back_entered rules now author seat (Some chair) = refl

own_entered : (setting : Setting) (now : After) (entry : Entry Answer) → (own_part setting now entry).entered ≡ now.entered
unfolding own_part
own_entered setting now (Sat author name key) = refl
own_entered setting now (Said author seat answer) = said_entered setting.rules now seat answer (slice_get now.chairs seat)
own_entered setting now (Back author seat) = back_entered setting.rules now author seat (slice_get now.chairs seat)
own_entered setting now (Gone author seat) = gone_entered setting.rules now seat (slice_get now.chairs seat)
own_entered setting now (Expired author window t1 t2) = refl

pub step-entered : (setting : Setting) (now : After) (entry : Entry Answer) → (step setting now entry).entered ≡ now.entered + 1
unfolding step
step-entered setting now entry = ap (λ (n : ℕ). n + 1) (by (next_deed setting (own_part setting now entry) entry) ∙ own_entered setting now entry)
  where
    by : (o : Option Deed) → (with_deed (own_part setting now entry) o).entered ≡ (own_part setting now entry).entered
    by None = refl
    by (Some deed) = refl

more_entered : (setting : Setting) (now : After) (entries : List (Entry Answer)) → (after_from setting now entries).entered ≡ now.entered + length entries
more_entered setting now [] = none now.entered
  where
    none : (n : ℕ) → n ≡ n + 0
    none n = omega arith
more_entered setting now (entry ∷ entries) = one _ (step setting now entry).entered now.entered (length entries)
    (more_entered setting (step setting now entry) entries) (step-entered setting now entry)
  where
    one : (a b n m : ℕ) → a ≡ b + m → b ≡ n + 1 → a ≡ n + suc m
    one a b n m e f = omega arith

pub entered-is : (setting : Setting) (entries : List (Entry Answer)) → (after setting entries).entered ≡ length entries
entered-is setting entries = more_entered setting before_all entries ∙ none (length entries)
  where
    none : (n : ℕ) → 0 + n ≡ n
    none n = omega arith

-- Seats are taken in order.
said_seats : (rules : Rules) (now : After) (seat : ℕ) (answer : Answer) (held : Option Chair) → length (option_map_or (after_said rules now seat answer) held now).chairs ≡ length now.chairs
unfolding after_said
said_seats rules now seat answer None = refl
said_seats rules now seat answer (Some chair) = length-set now.chairs seat _

gone_seats : (rules : Rules) (now : After) (seat : ℕ) (held : Option Chair) → length (option_map_or (after_gone rules now seat) held now).chairs ≡ length now.chairs
unfolding after_gone
gone_seats rules now seat None = refl
gone_seats rules now seat (Some chair) = length-set now.chairs seat _

back_seats : (rules : Rules) (now : After) (author seat : ℕ) (held : Option Chair) → length (option_map_or (after_back rules now author seat) held now).chairs ≡ length now.chairs
unfolding after_back
back_seats rules now author seat None = refl
back_seats rules now author seat (Some chair) = length-set now.chairs seat _

and_none : (m n : ℕ) → m ≡ n → m ≡ n + 0
and_none m n e = omega arith

pub own_seats : (setting : Setting) (now : After) (entry : Entry Answer) → length (own_part setting now entry).chairs ≡ length now.chairs + one_if (is_sat entry)
unfolding own_part
own_seats setting now (Sat author name key) = length-append now.chairs _
own_seats setting now (Said author seat answer) = and_none _ _ (said_seats setting.rules now seat answer (slice_get now.chairs seat))
own_seats setting now (Back author seat) = and_none _ _ (back_seats setting.rules now author seat (slice_get now.chairs seat))
own_seats setting now (Gone author seat) = and_none _ _ (gone_seats setting.rules now seat (slice_get now.chairs seat))
own_seats setting now (Expired author window t1 t2) = and_none _ _ refl

abbrev sats : List (Entry Answer) → ℕ
sats [] = 0
sats (entry ∷ entries) = if is_sat entry then 1 + sats entries else sats entries

more_seats : (setting : Setting) (now : After) (entries : List (Entry Answer)) → length (after_from setting now entries).chairs ≡ length now.chairs + sats entries
more_seats setting now [] = and_none _ _ refl
more_seats setting now (entry ∷ entries) =
    one (is_sat entry) (length (after_from setting (step setting now entry) entries).chairs) (length (step setting now entry).chairs) (length now.chairs) (sats entries)
    (more_seats setting (step setting now entry) entries) (ap (λ (cs : List Chair). length cs) (step-chairs setting now entry) ∙ own_seats setting now entry)
  where
    one : (b : Bool) (a m n k : ℕ) → a ≡ m + k → m ≡ n + one_if b → a ≡ n + (if b then 1 + k else k)
    one true a m n k e f = omega arith
    one false a m n k e f = omega arith

pub seats-are : (setting : Setting) (entries : List (Entry Answer)) → length (after setting entries).chairs ≡ next_seat entries
seats-are setting entries = more_seats setting before_all entries ∙ none (sats entries) ∙ is_count_by sats is_sat refl (λ entry others. refl) entries
  where
    none : (n : ℕ) → 0 + n ≡ n
    none n = omega arith

-- The connections of the seats stay placed.
said_placed : (rules : Rules) (now : After) (seat : ℕ) (answer : Answer) (held : Option Chair) → slice_get now.chairs seat ≡ held →
    ArePlaced now.entered now.chairs → ArePlaced (now.entered + 1) (option_map_or (after_said rules now seat answer) held now).chairs
unfolding after_said
said_placed rules now seat answer None e k = placed-idle now.entered now.chairs k
said_placed rules now seat answer (Some chair) e k = placed-kept now.entered now.chairs seat chair _ k e refl refl

gone_placed : (rules : Rules) (now : After) (seat : ℕ) (held : Option Chair) → slice_get now.chairs seat ≡ held → ArePlaced now.entered now.chairs →
    ArePlaced (now.entered + 1) (option_map_or (after_gone rules now seat) held now).chairs
unfolding after_gone
gone_placed rules now seat None e k = placed-idle now.entered now.chairs k
gone_placed rules now seat (Some chair) e k = placed-kept now.entered now.chairs seat chair _ k e refl refl

back_placed : (rules : Rules) (now : After) (author seat : ℕ) (held : Option Chair) → slice_get now.chairs seat ≡ held →
    ArePlaced now.entered now.chairs → ArePlaced (now.entered + 1) (option_map_or (after_back rules now author seat) held now).chairs
unfolding after_back
back_placed rules now author seat None e k = placed-idle now.entered now.chairs k
back_placed rules now author seat (Some chair) e k = placed-again now.entered now.chairs seat chair _ k e refl refl

own_placed : (setting : Setting) (now : After) (entry : Entry Answer) → ArePlaced now.entered now.chairs → ArePlaced (now.entered + 1) (own_part setting now entry).chairs
unfolding own_part
own_placed setting now (Sat author name key) k = placed-new now.entered now.chairs (new_chair now.entered author name key) k refl refl
own_placed setting now (Said author seat answer) k = said_placed setting.rules now seat answer (slice_get now.chairs seat) refl k
own_placed setting now (Back author seat) k = back_placed setting.rules now author seat (slice_get now.chairs seat) refl k
own_placed setting now (Gone author seat) k = gone_placed setting.rules now seat (slice_get now.chairs seat) refl k
own_placed setting now (Expired author window t1 t2) k = placed-idle now.entered now.chairs k

pub step-placed : (setting : Setting) (now : After) (entry : Entry Answer) → ArePlaced now.entered now.chairs → ArePlaced (step setting now entry).entered (step setting now entry).chairs
step-placed setting now entry k =
    subst (λ (n : ℕ). ArePlaced n (step setting now entry).chairs) (sym (step-entered setting now entry))
    (subst (λ (cs : List Chair). ArePlaced (now.entered + 1) cs) (sym (step-chairs setting now entry)) (own_placed setting now entry k))

more_placed : (setting : Setting) (now : After) (entries : List (Entry Answer)) → ArePlaced now.entered now.chairs →
    ArePlaced (after_from setting now entries).entered (after_from setting now entries).chairs
more_placed setting now [] k = k
more_placed setting now (entry ∷ entries) k = more_placed setting (step setting now entry) entries (step-placed setting now entry k)

pub after-placed : (setting : Setting) (entries : List (Entry Answer)) → ArePlaced (after setting entries).entered (after setting entries).chairs
after-placed setting entries = more_placed setting before_all entries (record { once = λ p. omega arith; past = λ p h. refl })

-- A seat once it has come back, and once an answer of it has a verdict.
abbrev pub back_chair : (rules : Rules) → After → ℕ → ℕ → Chair → Chair
back_chair rules now author seat chair = record {
  author = Some author;
  name = chair.name;
  key = chair.key;
  returns = chair.returns + 1;
  place = now.entered;
  progress = record { due = due_on_return now seat; refused = 0; told = told_again (lines_for rules seat now.deeds) (due_on_return now seat) };
  earlier = chair.earlier ++ (let c : Connection = record { place = chair.place; told = chair.progress.told } in c) ∷ [];
}

abbrev pub said_chair : List (List ℕ) → Verdict → Chair → Chair
said_chair lines v chair = record chair { author = author_after v chair.author; progress = progress_after lines v chair.progress }

abbrev pub gone_chair : List (List ℕ) → Chair → Chair
gone_chair lines chair = record chair { author = None; progress = record chair.progress { told = chair.progress.told ++ pending lines chair.progress } }

-- The seats once a held seat has said something, has left, or has come back, and once one is new.
pub said-chairs : (setting : Setting) (now : After) (author seat : ℕ) (answer : Answer) (chair : Chair) → slice_get now.chairs seat ≡ Some chair
    → (step setting now (Said author seat answer)).chairs ≡ slice_set now.chairs seat (said_chair (lines_for setting.rules seat now.deeds)
    (verdict_on setting.rules now.deeds seat answer chair.progress) chair)
unfolding own_part after_said
said-chairs setting now author seat answer chair e =
    step-chairs setting now (Said author seat answer) ∙ ap (λ (o : Option Chair). (option_map_or (after_said setting.rules now seat answer) o now).chairs) e

pub gone-chairs : (setting : Setting) (now : After) (author seat : ℕ) (chair : Chair) → slice_get now.chairs seat ≡ Some chair
    → (step setting now (Gone author seat)).chairs ≡ slice_set now.chairs seat (gone_chair (lines_for setting.rules seat now.deeds) chair)
unfolding own_part after_gone
gone-chairs setting now author seat chair e = step-chairs setting now (Gone author seat) ∙ ap (λ (o : Option Chair). (option_map_or (after_gone setting.rules now seat) o now).chairs) e

pub back-chairs : (setting : Setting) (now : After) (author seat : ℕ) (chair : Chair) → slice_get now.chairs seat ≡ Some chair
    → (step setting now (Back author seat)).chairs ≡ slice_set now.chairs seat (back_chair setting.rules now author seat chair)
unfolding own_part after_back
back-chairs setting now author seat chair e = step-chairs setting now (Back author seat) ∙ ap (λ (o : Option Chair). (option_map_or (after_back setting.rules now author seat) o now).chairs) e

pub sat-chairs : (setting : Setting) (now : After) (author : ℕ) (name : List ℕ) (key : Option (List ℕ)) →
    (step setting now (Sat author name key)).chairs ≡ now.chairs ++ new_chair now.entered author name key ∷ []
unfolding own_part
sat-chairs setting now author name key = step-chairs setting now (Sat author name key)

-- An answer to the newest deed is taken, and one to an earlier deed is late.
pub taken_at : (due refused n : ℕ) (rule : Option Rule) → verdict due refused n rule ≡ Taken → nat_lt (due + 1) n ≡ false
taken_at due refused n rule h = by (nat_lt (due + 1) n) h
  where
    by : (b : Bool) → (if b then Late else verdict_by refused rule) ≡ Taken → b ≡ false
    by true e = cc
    by false e = refl

pub late_at : (due refused n : ℕ) (rule : Option Rule) → verdict due refused n rule ≡ Late → nat_lt (due + 1) n ≡ true
late_at due refused n rule h = by (nat_lt (due + 1) n) h
  where
    never : (o : Option Rule) (b : Bool) → nat_lt refused 15 ≡ b → verdict_by refused o ≡ Late → ⊥
    never None b r e = cc
    never (Some rule) true r e = cc
    never (Some rule) false r e = cc

    by : (b : Bool) → (if b then Late else verdict_by refused rule) ≡ Late → b ≡ true
    by true e = refl
    by false e = absurd (never rule (nat_lt refused 15) refl e)
