-- What one entry more changes of what a seat was told by its own entries.
use Rattle.std.proofs.Common.{◌≡◌, ◌≢◌, ℕ, ◌+◌, ◌<◌, ◌≤◌, true, List, [], ◌∷◌, ◌++◌, length, refl, ap, sym, ◌∙◌, subst, arith, append-nil, append_assoc, inl, inr}
use Rattle.std.specs.Prelude.{Option, Some, None, is_some, slice_get, slice_set, flat_map, if◌then◌else◌}
use Rattle.std.specs.Option.{option_map_or}
use Rattle.std.proofs.lemmas.Bool.Decides.{eqb_tells}
use Rattle.std.proofs.lemmas.List.{length-append, length-set}
use Rattle.mj_lists.proofs.Fronts.{at_end}
use Rattle.mj_ports.specs.declared.entry.Entry.{Entry}
use Rattle.mj_ports.specs.declared.entry.Entry.TheVariants.{Sat, Said, Gone, Expired}
use Rattle.mj_deeds.specs.declared.answer.Answer.{Answer}
use Rattle.mj_deeds.specs.declared.deed.Deed.{Deed}
use Rattle.mj_wall.specs.declared.setting.Rules.{Rules}
use Rattle.mj_wall.specs.declared.setting.Setting.{Setting}
use Rattle.mj_forms.specs.Lines.{error_text}
use Rattle.mj_history.specs.After.{After, Chair, Connection, Progress, Verdict, Taken, Late, Refused, Closing, verdict_on, author_after, progress_after, pending, lines_for}
use Rattle.mj_history.specs.After.{is_present, new_chair, after_said, after_gone, own_part, next_deed, with_deed, step, script_at, scripts_at, scripts}
use Rattle.mj_history.specs.Legal.{Game}
use Rattle.mj_history.proofs.Entries.{after-append}
use Rattle.mj_history.proofs.Places.{slice_get-append_other, slice_get-set_at, slice_get-set_other}
use Rattle.mj_core.specs.Calls.{after_of, Enters, verdict_at, pending_at}
use Rattle.mj_refereeing.specs.Inner.Intake.{told_of, told_in, greeting}

-- what a seat was told, among chairs
abbrev pub told_at : ℕ → List Chair → List ℕ
told_at seat chairs = option_map_or told_of (slice_get chairs seat) []

-- one chair changes
pub set-own : (seat : ℕ) (chairs : List Chair) (chair new : Chair) → slice_get chairs seat ≡ Some chair → told_at seat (slice_set chairs seat new) ≡ told_of new
set-own seat chairs chair new h = ap (λ (o : Option Chair). option_map_or told_of o []) (slice_get-set_at chairs seat new chair h)

pub set-other : (who seat : ℕ) (chairs : List Chair) (new : Chair) → who ≢ seat → told_at seat (slice_set chairs who new) ≡ told_at seat chairs
set-other who seat chairs new apart = ap (λ (o : Option Chair). option_map_or told_of o []) (slice_get-set_other chairs who seat new apart)

pub set-few : (chairs : List Chair) (seat : ℕ) (new : Chair) → length chairs ≤ 4 → length (slice_set chairs seat new) ≤ 4
set-few chairs seat new few = subst (λ (n : ℕ). n ≤ 4) (sym (length-set chairs seat new)) few

-- a game with one entry more stands one step further
pub after_of-enters : (old new : Game) (entry : Entry Answer) → Enters old new entry → after_of new ≡ step old.setting (after_of old) entry
after_of-enters old new entry e = rw (e.setting, e.entries) (after-append old.setting old.entries entry)

-- a deed changes no chair
chairs-with_deed : (now : After) (deed : Option Deed) → (with_deed now deed).chairs ≡ now.chairs
chairs-with_deed now None = refl
chairs-with_deed now (Some deed) = refl

chairs-step : (setting : Setting) (now : After) (entry : Entry Answer) → (step setting now entry).chairs ≡ (own_part setting now entry).chairs
unfolding step
chairs-step setting now entry = chairs-with_deed (own_part setting now entry) (next_deed setting (own_part setting now entry) entry)

pub chairs-enters : (old new : Game) (entry : Entry Answer) → Enters old new entry → (after_of new).chairs ≡ (own_part old.setting (after_of old) entry).chairs
chairs-enters old new entry e = ap (λ (now : After). now.chairs) (after_of-enters old new entry e) ∙ chairs-step old.setting (after_of old) entry

-- a seat is taken

chairs-sat : (setting : Setting) (now : After) (author : ℕ) (name : List ℕ) (key : Option (List ℕ)) →
    (own_part setting now (Sat author name key)).chairs ≡ now.chairs ++ new_chair now.entered author name key ∷ []
unfolding own_part
chairs-sat setting now author name key = refl

nobody_behind : (chairs : List Chair) → slice_get chairs (length chairs) ≡ None
nobody_behind [] = refl
nobody_behind (c ∷ cs) = nobody_behind cs

told-more : (seat place : ℕ) (chairs : List Chair) (author : ℕ) (name : List ℕ) (key : Option (List ℕ)) →
    told_at seat (chairs ++ new_chair place author name key ∷ []) ≡ told_at seat chairs ++ greeting (length chairs) seat
told-more seat place chairs author name key =
    elim (eqb_tells (length chairs) seat) [
      | inl p ↦ rw (p.0, ← p.1, at_end chairs (new_chair place author name key), nobody_behind chairs)
      | inr p ↦ rw (p.0, slice_get-append_other chairs (new_chair place author name key) seat (λ e. p.1 (sym e)), append-nil (told_at seat chairs))
    ]

pub told-sat : (seat author : ℕ) (name : List ℕ) (key : Option (List ℕ)) (old new : Game) → Enters old new (Sat author name key) →
    told_in seat (after_of new) ≡ told_in seat (after_of old) ++ greeting (length (after_of old).chairs) seat
told-sat seat author name key old new e =
    ap (told_at seat) (chairs-enters old new (Sat author name key) e ∙ chairs-sat old.setting (after_of old) author name key)
    ∙ told-more seat (after_of old).entered (after_of old).chairs author name key

pub few-sat : (author : ℕ) (name : List ℕ) (key : Option (List ℕ)) (old new : Game) → Enters old new (Sat author name key) → length (after_of old).chairs < 4 → length (after_of new).chairs ≤ 4
few-sat author name key old new e few =
    below _ _ (ap length (chairs-enters old new (Sat author name key) e ∙ chairs-sat old.setting (after_of old) author name key) ∙ length-append (after_of old).chairs _) few
  where
    below : (n m : ℕ) → n ≡ m + 1 → m < 4 → n ≤ 4
    below n m e h = omega arith

-- a seat says a line

said : (setting : Setting) (now : After) (seat : ℕ) (answer : Answer) (chair : Chair) → Chair
said setting now seat answer chair =
    let v = verdict_on setting.rules now.deeds seat answer chair.progress in
    record chair { author = author_after v chair.author; progress = progress_after (lines_for setting.rules seat now.deeds) v chair.progress }

chairs-said : (setting : Setting) (now : After) (author seat : ℕ) (answer : Answer) (chair : Chair) → slice_get now.chairs seat ≡ Some chair →
    (own_part setting now (Said author seat answer)).chairs ≡ slice_set now.chairs seat (said setting now seat answer chair)
unfolding own_part after_said said
chairs-said setting now author seat answer chair e = rw e

-- what a verdict adds after what was pending
abbrev pub error_of : Verdict → List ℕ
error_of Taken = []
error_of Late = []
error_of (Refused rule) = error_text rule
error_of (Closing rule) = error_text rule

told-progress_after : (lines : List (List ℕ)) (verdict : Verdict) (p : Progress) → (progress_after lines verdict p).told ≡ p.told ++ pending lines p ++ error_of verdict
told-progress_after lines Taken p = sym (append-nil (p.told ++ pending lines p))
told-progress_after lines Late p = sym (append-nil (p.told ++ pending lines p))
told-progress_after lines (Refused rule) p = refl
told-progress_after lines (Closing rule) p = refl

behind-all : (earlier told due more : List ℕ) → earlier ++ (told ++ due ++ more) ≡ earlier ++ told ++ due ++ more
behind-all earlier told due more = simp append_assoc

pending-present : (rules : Rules) (o : Option Chair) (seat : ℕ) (deeds : List Deed) (chair : Chair) → o ≡ Some chair → is_present chair ≡ true →
    option_map_or (λ (c : Chair). if is_present c then pending (lines_for rules seat deeds) c.progress else []) o [] ≡ pending (lines_for rules seat deeds) chair.progress
pending-present rules o seat deeds chair h k = rw (h, k)

told-said : (setting : Setting) (now : After) (seat : ℕ) (answer : Answer) (chair : Chair) (verdict : Verdict) → verdict_on setting.rules now.deeds seat answer chair.progress ≡ verdict →
    told_of (said setting now seat answer chair) ≡ told_of chair ++ pending (lines_for setting.rules seat now.deeds) chair.progress ++ error_of verdict
unfolding said
told-said setting now seat answer chair verdict v =
    let earlier = flat_map (λ (c : Connection). c.told) chair.earlier in
    ap (λ (w : Verdict). earlier ++ (progress_after (lines_for setting.rules seat now.deeds) w chair.progress).told) v
    ∙ ap (λ (bytes : List ℕ). earlier ++ bytes) (told-progress_after (lines_for setting.rules seat now.deeds) verdict chair.progress)
    ∙ behind-all earlier chair.progress.told (pending (lines_for setting.rules seat now.deeds) chair.progress) (error_of verdict)

-- the verdict on an answer, from the verdict that was told
verdict-at : (game : Game) (seat : ℕ) (answer : Answer) (chair : Chair) (verdict : Verdict) → slice_get (after_of game).chairs seat ≡ Some chair → verdict_at game seat answer ≡ Some verdict →
    verdict_on game.setting.rules (after_of game).deeds seat answer chair.progress ≡ verdict
verdict-at game seat answer chair verdict e h = let k = rw e at h in cc k

-- a seat that is present is held
pub has_chair : (o : Option Chair) (author : ℕ) → option_map_or (λ (chair : Chair). chair.author) o None ≡ Some author → (chair : Chair) × (o ≡ Some chair) × (is_present chair ≡ true)
has_chair None author h = cc h
has_chair (Some chair) author h = (chair, refl, ap is_some h)

-- what a seat is told by its own answer
pub told-own : (author seat : ℕ) (answer : Answer) (old new : Game) (chair : Chair) (verdict : Verdict) → Enters old new (Said author seat answer) →
    slice_get (after_of old).chairs seat ≡ Some chair → is_present chair ≡ true → verdict_at old seat answer ≡ Some verdict →
    told_in seat (after_of new) ≡ told_in seat (after_of old) ++ pending_at old seat ++ error_of verdict
told-own author seat answer old new chair verdict e h present v =
    ap (told_at seat) (chairs-enters old new (Said author seat answer) e ∙ chairs-said old.setting (after_of old) author seat answer chair h)
    ∙ set-own seat (after_of old).chairs chair (said old.setting (after_of old) seat answer chair) h
    ∙ told-said old.setting (after_of old) seat answer chair verdict (verdict-at old seat answer chair verdict h v)
    ∙ (λ i. option_map_or told_of (sym h i) [] ++ sym (pending-present old.setting.rules (slice_get (after_of old).chairs seat) seat (after_of old).deeds chair h present) i ++ error_of verdict)

-- another's answer tells a seat nothing
pub told-other : (author who seat : ℕ) (answer : Answer) (old new : Game) (chair : Chair) → who ≢ seat → Enters old new (Said author who answer) → slice_get (after_of old).chairs who ≡ Some chair →
    told_in seat (after_of new) ≡ told_in seat (after_of old)
told-other author who seat answer old new chair apart e h =
    ap (told_at seat) (chairs-enters old new (Said author who answer) e ∙ chairs-said old.setting (after_of old) author who answer chair h)
    ∙ set-other who seat (after_of old).chairs (said old.setting (after_of old) who answer chair) apart

pub few-said : (author who : ℕ) (answer : Answer) (old new : Game) (chair : Chair) → Enters old new (Said author who answer) →
    slice_get (after_of old).chairs who ≡ Some chair → length (after_of old).chairs ≤ 4 → length (after_of new).chairs ≤ 4
few-said author who answer old new chair e h few =
    subst (λ (chairs : List Chair). length chairs ≤ 4) (sym (chairs-enters old new (Said author who answer) e ∙ chairs-said old.setting (after_of old) author who answer chair h))
    (set-few (after_of old).chairs who (said old.setting (after_of old) who answer chair) few)

-- a seat leaves

gone : (rules : Rules) (now : After) (seat : ℕ) (chair : Chair) → Chair
gone rules now seat chair = record chair { author = None; progress = record chair.progress { told = chair.progress.told ++ pending (lines_for rules seat now.deeds) chair.progress } }

chairs-gone : (setting : Setting) (now : After) (author seat : ℕ) (chair : Chair) → slice_get now.chairs seat ≡ Some chair →
    (own_part setting now (Gone author seat)).chairs ≡ slice_set now.chairs seat (gone setting.rules now seat chair)
unfolding own_part after_gone gone
chairs-gone setting now author seat chair e = rw e

told-gone-of : (rules : Rules) (now : After) (seat : ℕ) (chair : Chair) → told_of (gone rules now seat chair) ≡ told_of chair ++ pending (lines_for rules seat now.deeds) chair.progress
unfolding gone
told-gone-of rules now seat chair = sym (append_assoc (flat_map (λ (c : Connection). c.told) chair.earlier) chair.progress.told (pending (lines_for rules seat now.deeds) chair.progress))

pub told-gone : (author seat : ℕ) (old new : Game) (chair : Chair) → Enters old new (Gone author seat) → slice_get (after_of old).chairs seat ≡ Some chair → is_present chair ≡ true →
    told_in seat (after_of new) ≡ told_in seat (after_of old) ++ pending_at old seat
told-gone author seat old new chair e h present =
    ap (told_at seat) (chairs-enters old new (Gone author seat) e ∙ chairs-gone old.setting (after_of old) author seat chair h)
    ∙ set-own seat (after_of old).chairs chair (gone old.setting.rules (after_of old) seat chair) h
    ∙ told-gone-of old.setting.rules (after_of old) seat chair
    ∙ (λ i. option_map_or told_of (sym h i) [] ++ sym (pending-present old.setting.rules (slice_get (after_of old).chairs seat) seat (after_of old).deeds chair h present) i)

pub told-gone_other : (author who seat : ℕ) (old new : Game) (chair : Chair) → who ≢ seat → Enters old new (Gone author who) →
    slice_get (after_of old).chairs who ≡ Some chair → told_in seat (after_of new) ≡ told_in seat (after_of old)
told-gone_other author who seat old new chair apart e h =
    ap (told_at seat) (chairs-enters old new (Gone author who) e ∙ chairs-gone old.setting (after_of old) author who chair h)
    ∙ set-other who seat (after_of old).chairs (gone old.setting.rules (after_of old) who chair) apart

pub few-gone : (author who : ℕ) (old new : Game) (chair : Chair) → Enters old new (Gone author who) → slice_get (after_of old).chairs who ≡ Some chair
    → length (after_of old).chairs ≤ 4 → length (after_of new).chairs ≤ 4
few-gone author who old new chair e h few =
    subst (λ (chairs : List Chair). length chairs ≤ 4) (sym (chairs-enters old new (Gone author who) e ∙ chairs-gone old.setting (after_of old) author who chair h))
    (set-few (after_of old).chairs who (gone old.setting.rules (after_of old) who chair) few)

-- time runs out

chairs-expired : (setting : Setting) (now : After) (author window t1 t2 : ℕ) → (own_part setting now (Expired author window t1 t2)).chairs ≡ now.chairs
unfolding own_part
chairs-expired setting now author window t1 t2 = refl

pub same-expired : (author window t1 t2 : ℕ) (old new : Game) → Enters old new (Expired author window t1 t2) → (after_of new).chairs ≡ (after_of old).chairs
same-expired author window t1 t2 old new e = chairs-enters old new (Expired author window t1 t2) e ∙ chairs-expired old.setting (after_of old) author window t1 t2

-- what the connections of a seat get: what they were told, and what is pending
parts : (rules : Rules) (seat : ℕ) (now : After) (o : Option Chair) →
    option_map_or (scripts_at rules seat now) o [] ≡ option_map_or told_of o [] ++ option_map_or (λ (chair : Chair). if is_present chair then pending
    (lines_for rules seat now.deeds) chair.progress else []) o []
unfolding scripts_at script_at
parts rules seat now None = refl
parts rules seat now (Some chair) =
    sym (append_assoc (flat_map (λ (c : Connection). c.told) chair.earlier) chair.progress.told (if is_present chair then pending (lines_for rules seat now.deeds) chair.progress else []))

pub script-parts : (seat : ℕ) (game : Game) → scripts seat game.setting game.entries ≡ told_in seat (after_of game) ++ pending_at game seat
script-parts seat game = parts game.setting.rules seat (after_of game) (slice_get (after_of game).chairs seat)
