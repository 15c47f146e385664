-- The lines that are kept for the one seat that a game is told to.
use Rattle.std.proofs.Common.{◌≡◌, ℕ, ◌+◌, ◌<◌, inl, inr, List, [], ◌∷◌, ◌++◌, length, ap, sym, ◌∙◌, subst, arith}
use Rattle.std.specs.Prelude.{◌⊎◌, Option, Some, None, unwrap_or, slice_get, Result, Ok, Err, OnOk, OnErr}
use Rattle.std.specs.declared.alloc.AllocError.{AllocError}
use Rattle.std.proofs.lemmas.List.{length-append}
use Rattle.std.proofs.lemmas.Option.{slice_get_within}
use Rattle.mj_ports.specs.declared.entry.Entry.{Entry}
use Rattle.mj_ports.specs.declared.sitting.JoinLine.{JoinLine}
use Rattle.mj_ports.specs.declared.answers.SitAnswer.{SitAnswer}
use Rattle.mj_ports.specs.declared.answers.SitAnswer.TheVariants as sits
use Rattle.mj_ports.specs.declared.answers.Heard.{Heard}
use Rattle.mj_ports.specs.declared.answers.Heard.TheVariants as heard
use Rattle.mj_ports.specs.declared.answers.Left.{Left}
use Rattle.mj_ports.specs.declared.answers.Left.TheVariants as left
use Rattle.mj_ports.specs.declared.answers.Expiry.{Expiry}
use Rattle.mj_ports.specs.declared.answers.Expiry.TheVariants as expiry
use Rattle.mj_deeds.specs.declared.rule.Rule.{Rule}
use Rattle.mj_deeds.specs.declared.answer.Answer.{Answer}
use Rattle.mj_deeds.specs.declared.deed.Deed.{Deed}
use Rattle.mj_deeds.specs.declared.deed.Viewer.TheVariants.{Seat}
use Rattle.mj_deeds.specs.Facts.{newest}
use Rattle.mj_deeds.proofs.Newest.{newest_more}
use Rattle.mj_wall.specs.declared.setting.Rules.{Rules}
use Rattle.mj_rules.specs.Possible.{possible}
use Rattle.mj_forms.specs.Lines.{line}
use Rattle.mj_forms.specs.Choices.{line_with}
use Rattle.mj_history.specs.Arriving.{HasOneMore}
use Rattle.mj_history.specs.Legal.{Game}
use Rattle.mj_history.specs.SeatLines.{lines_for}
use Rattle.mj_history.specs.Shown.{line_at}
use Rattle.mj_history.proofs.Arriving.{one_deed_an_entry}
use Rattle.mj_history.proofs.LinesGrow.{lines_for-more, length-lines, line_kept}
use Rattle.mj_umpire.specs.Calls.{after_of, Enters, TakesSeat, IsSitAnswer, IsHeard, IsLeft, IsExpiry}
use Rattle.mj_core.specs.Inner.Near.{LackNewest, AreWhole, AreNear}

-- An entry more has one deed more at most.
near-more : (seat : ℕ) (old new : Game) (entry : Entry Answer) (lines : List (List ℕ)) → Enters old new entry → AreWhole seat old lines → AreNear seat new lines
near-more seat old new entry lines e whole =
    subst (λ (game : Game). AreNear seat game lines) (sym new_is) (λ h. by (whole h) (one_deed_an_entry old.setting old.entries entry))
  where
    grown : Game
    grown = record { setting = old.setting; entries = old.entries ++ entry ∷ [] }

    new_is : new ≡ grown
    new_is = λ i. record { setting = e.setting i; entries = e.entries i }

    by : lines ≡ lines_for old.setting.rules seat (after_of old).deeds → HasOneMore (after_of old).deeds (after_of grown).deeds
        → (lines ≡ lines_for old.setting.rules seat (after_of grown).deeds) ⊎ LackNewest old.setting.rules seat (after_of grown).deeds lines
    by are (inl same) = inl (are ∙ ap (lines_for old.setting.rules seat) (sym same))
    by are (inr more) = inr (record { others = (after_of old).deeds; newest = more.0; deeds_are = more.1; lines_are = are })

near-same : (seat : ℕ) (old new : Game) (lines : List (List ℕ)) → new ≡ old → AreWhole seat old lines → AreNear seat new lines
near-same seat old new lines e whole = subst (λ (game : Game). AreNear seat game lines) (sym e) (λ h. inl (whole h))

-- So after each call.
near-taken : (seat author : ℕ) (old new : Game) (join : Option JoinLine) (lines : List (List ℕ)) → TakesSeat join old new author → AreWhole seat old lines → AreNear seat new lines
near-taken seat author old new None lines t whole = absurd t
near-taken seat author old new (Some join) lines t whole = near-more seat old new _ lines t whole

pub near-sitting : (answer : SitAnswer) (seat author : ℕ) (old new : Game) (join : Option JoinLine) (lines : List (List ℕ)) →
    IsSitAnswer answer old new author join → AreWhole seat old lines → AreNear seat new lines
near-sitting (sits.Sat taken) seat author old new join lines h whole = near-taken seat author old new join lines h.1 whole
near-sitting (sits.Back taken) seat author old new join lines h whole = near-more seat old new _ lines h.1 whole
near-sitting (sits.Refused why) seat author old new join lines h whole = near-same seat old new lines h.1 whole
near-sitting sits.NoMemory seat author old new join lines h whole = near-same seat old new lines h whole

pub near-hearing : (answer : Heard Rule) (seat author who : ℕ) (old new : Game) (said : Answer) (lines : List (List ℕ)) →
    IsHeard answer old new author who said → AreWhole seat old lines → AreNear seat new lines
near-hearing heard.Taken seat author who old new said lines h whole = near-more seat old new _ lines h.1 whole
near-hearing heard.Late seat author who old new said lines h whole = near-more seat old new _ lines h.1 whole
near-hearing (heard.Refused rule) seat author who old new said lines h whole = near-more seat old new _ lines h.1 whole
near-hearing (heard.Closing rule) seat author who old new said lines h whole = near-more seat old new _ lines h.1 whole
near-hearing heard.NoMemory seat author who old new said lines h whole = near-same seat old new lines h whole

pub near-leaving : (answer : Left) (seat author who : ℕ) (old new : Game) (lines : List (List ℕ)) → IsLeft answer old new author who → AreWhole seat old lines → AreNear seat new lines
near-leaving left.Gone seat author who old new lines h whole = near-more seat old new _ lines h whole
near-leaving left.NoMemory seat author who old new lines h whole = near-same seat old new lines h whole

pub near-expiring : (answer : Expiry) (seat author window t1 t2 : ℕ) (old new : Game) (lines : List (List ℕ)) →
    IsExpiry answer old new author window t1 t2 → AreWhole seat old lines → AreNear seat new lines
near-expiring expiry.Closed seat author window t1 t2 old new lines h whole = near-more seat old new _ lines h.1 whole
near-expiring expiry.Stale seat author window t1 t2 old new lines h whole = near-same seat old new lines h.1 whole
near-expiring expiry.Early seat author window t1 t2 old new lines h whole = near-same seat old new lines h.2 whole
near-expiring expiry.NoMemory seat author window t1 t2 old new lines h whole = near-same seat old new lines h whole

-- Whether memory sufficed for what was missing or not.
pub near-caught : (result : Result (Unit {0}) AllocError) (seat : ℕ) (game : Game) (old new : List (List ℕ)) → OnOk result (AreWhole seat game new) → OnErr result (new ≡ old) →
    AreNear seat game old → AreNear seat game new
near-caught (Ok u) seat game old new whole same near h = inl (whole h)
near-caught (Err e) seat game old new whole same near h = subst (λ (lines : List (List ℕ)). (lines ≡ lines_for game.setting.rules seat (after_of game).deeds)
    ⊎ LackNewest game.setting.rules seat (after_of game).deeds lines) (sym same) (near h)

-- Where the newest deed is missing there is one line fewer than deeds.
lack-length : (rules : Rules) (seat : ℕ) (deeds : List Deed) (lines : List (List ℕ)) → LackNewest rules seat deeds lines → length deeds ≡ length lines + 1
lack-length rules seat deeds lines lack =
    ap (λ (ds : List Deed). length ds) lack.deeds_are ∙ length-append lack.others (lack.newest ∷ [])
    ∙ ap (λ (n : ℕ). n + 1) (sym (ap (λ (ls : List (List ℕ)). length ls) lack.lines_are ∙ length-lines rules seat lack.others))

pub whole-many : (rules : Rules) (seat : ℕ) (deeds : List Deed) (lines : List (List ℕ)) (count many : ℕ) → count ≡ length lines → many ≡ length deeds → count ≡ many →
    (lines ≡ lines_for rules seat deeds) ⊎ LackNewest rules seat deeds lines → lines ≡ lines_for rules seat deeds
whole-many rules seat deeds lines count many c m e (inl whole) = whole
whole-many rules seat deeds lines count many c m e (inr lack) = absurd (apart (length lines) (length deeds) (sym c ∙ e ∙ m) (lack-length rules seat deeds lines lack))
  where
    apart : (n k : ℕ) → n ≡ k → k ≡ n + 1 → ⊥
    apart n k e l = omega (arith, e, l)

-- Without a newest deed there is none.
pub whole-none : (rules : Rules) (seat : ℕ) (deeds : List Deed) (lines : List (List ℕ)) → None ≡ newest deeds →
    (lines ≡ lines_for rules seat deeds) ⊎ LackNewest rules seat deeds lines → lines ≡ lines_for rules seat deeds
whole-none rules seat deeds lines none (inl whole) = whole
whole-none rules seat deeds lines none (inr lack) =
    let some : None ≡ Some lack.newest = none ∙ ap newest lack.deeds_are ∙ newest_more lack.others lack.newest in
    cc

-- What was missing is rendered.
pub whole-caught : (rules : Rules) (seat : ℕ) (deeds : List Deed) (old new : List (List ℕ)) (deed : Deed) (list : List Answer) (count many : ℕ) → count ≡ length old →
    many ≡ length deeds → (count ≡ many → ⊥) → Some deed ≡ newest deeds → list ≡ possible rules deeds seat → new ≡ old ++ line_with list (line (Seat seat) deed) ∷ [] →
    (old ≡ lines_for rules seat deeds) ⊎ LackNewest rules seat deeds old → new ≡ lines_for rules seat deeds
whole-caught rules seat deeds old new deed list count many c m e at listed pushed (inl whole) =
    absurd (e (c ∙ ap (λ (ls : List (List ℕ)). length ls) whole ∙ length-lines rules seat deeds ∙ sym m))
whole-caught rules seat deeds old new deed list count many c m e at listed pushed (inr lack) =
    let is : deed ≡ lack.newest = ap (λ (o : Option Deed). unwrap_or o deed) (at ∙ ap newest lack.deeds_are ∙ newest_more lack.others lack.newest) in
    pushed
    ∙ ap (λ (ls : List (List ℕ)). ls ++ line_with list (line (Seat seat) deed) ∷ []) lack.lines_are
    ∙ ap (λ (d : Deed). lines_for rules seat lack.others ++ line_with list (line (Seat seat) d) ∷ []) is
    ∙ ap (λ (l : List Answer). lines_for rules seat lack.others ++ line_with l (line (Seat seat) lack.newest) ∷ []) (listed ∙ ap (λ (ds : List Deed). possible rules ds seat) lack.deeds_are)
    ∙ sym (lines_for-more rules seat lack.others lack.newest)
    ∙ ap (lines_for rules seat) (sym lack.deeds_are)

-- A line that is kept is that of its deed.
pub near-line : (rules : Rules) (seat k : ℕ) (deeds : List Deed) (lines : List (List ℕ)) (text : List ℕ) → Some text ≡ slice_get lines k →
    (lines ≡ lines_for rules seat deeds) ⊎ LackNewest rules seat deeds lines → text ≡ line_at rules deeds seat k
near-line rules seat k deeds lines text at (inl whole) =
    ap (λ (o : Option (List ℕ)). unwrap_or o []) (at ∙ ap (λ (ls : List (List ℕ)). slice_get ls k) whole)
near-line rules seat k deeds lines text at (inr lack) =
    let within : k < length lines = slice_get_within lines k text (sym at) in
    let many : length lines ≡ length lack.others = ap (λ (ls : List (List ℕ)). length ls) lack.lines_are ∙ length-lines rules seat lack.others in
    ap (λ (o : Option (List ℕ)). unwrap_or o []) (at ∙ ap (λ (ls : List (List ℕ)). slice_get ls k) lack.lines_are)
    ∙ sym (line_kept rules seat k lack.others (lack.newest ∷ []) (subst (λ (n : ℕ). k < n) many within))
    ∙ ap (λ (ds : List Deed). line_at rules ds seat k) (sym lack.deeds_are)
