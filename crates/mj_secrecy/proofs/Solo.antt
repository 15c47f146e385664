-- A machine that has nothing of a game but what one seat learns, and tells that seat its bytes.
use Rattle.std.proofs.Common.{◌≡◌, ℕ, ◌-◌, Bool, true, false, cond, List, [], ◌∷◌, ◌++◌, length, refl}
use Rattle.std.specs.Prelude.{Option, Some, None, is_some}
use Rattle.std.specs.Option.{option_map_or}
use Rattle.mj_deeds.specs.declared.answer.Answer.{Answer}
use Rattle.mj_deeds.specs.declared.deed.Deed.{Deed}
use Rattle.mj_deeds.specs.declared.deed.Viewer.TheVariants.{Seat}
use Rattle.mj_deeds.specs.declared.token.Token.{Token}
use Rattle.mj_wall.specs.declared.setting.Rules.{Rules}
use Rattle.mj_rules.specs.Broken.{broken_by}
use Rattle.mj_rules.specs.View.{SeatView}
use Rattle.mj_rules.specs.Possible.{possible, possible_by, is_lawful}
use Rattle.mj_forms.specs.Lines.{line}
use Rattle.mj_forms.specs.Choices.{line_with}
use Rattle.mj_history.specs.SeatLines.{lines_from}
use Rattle.mj_history.specs.After.{Progress, Verdict, Taken, Closing, verdict_on, progress_after, pending, told_again, first_progress, lines_for}
use Rattle.mj_secrecy.specs.Trace.{Item, OwnSat, OwnBack, OwnSaid, OwnGone, Saw}
use Rattle.mj_secrecy.proofs.Rebuilt.{rebuilt}

-- what decides the bytes of a seat that is held: whether it is present, how far it has come in its newest connection, and
-- what its earlier ones were told
pub record Part : Type 0 where
  pub present : Bool
  pub progress : Progress
  pub earlier : List (List ℕ)

-- the seat's part, the deeds as it sees them, and its slot of the newest window
pub record Solo : Type 0 where
  pub part : Option Part
  pub deeds : List Deed
  pub slot : Option Answer

abbrev pub at_first : Solo
at_first = record { part = None; deeds = []; slot = None }

-- The rules without the limit of a window, of which no verdict tells.
abbrev pub untimed : Rules → Rules
untimed rules = record { limit = 0; draws = rules.draws; red = rules.red }

pub untimed_verdict : (rules : Rules) (seat : ℕ) (view : SeatView) (answer : Answer) → broken_by rules seat view answer ≡ broken_by (untimed rules) seat view answer
unfolding broken_by
untimed_verdict rules seat view answer = refl

-- Nor do the lines: a list of answers is one of verdicts.
possible_untimed : (rules : Rules) (ds : List Deed) (seat : ℕ) → possible rules ds seat ≡ possible (untimed rules) ds seat
unfolding possible_by is_lawful broken_by
possible_untimed rules ds seat = refl

untimed_from : (rules : Rules) (seat : ℕ) (before ds : List Deed) → lines_from rules seat before ds ≡ lines_from (untimed rules) seat before ds
untimed_from rules seat before [] = refl
untimed_from rules seat before (d ∷ ds) =
    λ i. line_with (possible_untimed rules (before ++ d ∷ []) seat i) (line (Seat seat) d) ∷ untimed_from rules seat (before ++ d ∷ []) ds i

pub untimed_lines : (rules : Rules) (seat : ℕ) (ds : List Deed) → lines_for rules seat ds ≡ lines_for (untimed rules) seat ds
untimed_lines rules seat ds = untimed_from rules seat [] ds

-- an answer that is refused for good ends the presence
abbrev pub present_after : Verdict → Bool → Bool
present_after (Closing rule) present = false
present_after other present = present

-- only an answer that is taken fills the slot
abbrev pub slot_after : Verdict → Answer → Option Answer → Option Answer
slot_after Taken answer slot = Some answer
slot_after other answer slot = slot

-- the part of a seat once its answer has a verdict
abbrev pub judged : List (List ℕ) → Verdict → Part → Part
judged lines v p = record { present = present_after v p.present; progress = progress_after lines v p.progress; earlier = p.earlier }

unfoldable pub after_answer : Rules → ℕ → Solo → Answer → Part → Solo
after_answer rules seat s answer p =
    let v = verdict_on rules s.deeds seat answer p.progress in
    record { part = Some (judged (lines_for rules seat s.deeds) v p); deeds = s.deeds; slot = slot_after v answer s.slot }

-- once it has left
abbrev pub left : List (List ℕ) → Part → Part
left lines p = record { present = false; progress = record p.progress { told = p.progress.told ++ pending lines p.progress }; earlier = p.earlier }

unfoldable pub after_leaving : Rules → ℕ → Solo → Part → Solo
after_leaving rules seat s p = record { part = Some (left (lines_for rules seat s.deeds) p); deeds = s.deeds; slot = s.slot }

-- once it is back, due to answer a deed
abbrev pub again : List (List ℕ) → ℕ → Part → Part
again lines due p = record { present = true; progress = record { due = due; refused = 0; told = told_again lines due }; earlier = p.earlier ++ p.progress.told ∷ [] }

abbrev pub next_due : Bool → ℕ → ℕ
next_due filled deeds = cond filled deeds (deeds - 1)

unfoldable pub after_return : Rules → ℕ → Solo → Part → Solo
after_return rules seat s p = record { part = Some (again (lines_for rules seat s.deeds) (next_due (is_some s.slot) (length s.deeds)) p); deeds = s.deeds; slot = s.slot }

abbrev pub saw : ℕ → Solo → Token → Solo
saw seat s t = record { part = s.part; deeds = s.deeds ++ rebuilt seat s.deeds t ∷ []; slot = None }

abbrev pub learns : Rules → ℕ → Solo → Item → Solo
learns rules seat s (OwnSat name key) = record { part = Some (record { present = true; progress = first_progress; earlier = [] }); deeds = s.deeds; slot = s.slot }
learns rules seat s OwnBack = option_map_or (after_return rules seat s) s.part s
learns rules seat s (OwnSaid answer) = option_map_or (after_answer rules seat s answer) s.part s
learns rules seat s OwnGone = option_map_or (after_leaving rules seat s) s.part s
learns rules seat s (Saw t) = saw seat s t

abbrev pub learns_all : Rules → ℕ → Solo → List Item → Solo
learns_all rules seat s [] = s
learns_all rules seat s (item ∷ items) = learns_all rules seat (learns rules seat s item) items

abbrev pub told_by : List (List ℕ) → Part → List (List ℕ)
told_by lines p = p.earlier ++ (p.progress.told ++ cond p.present (pending lines p.progress) []) ∷ []

-- the bytes that the machine tells each connection, the oldest first
abbrev pub solo_connections : Rules → ℕ → Solo → List (List ℕ)
solo_connections rules seat s = option_map_or (told_by (lines_for rules seat s.deeds)) s.part []

pub learns_all-append : (rules : Rules) (seat : ℕ) (s : Solo) (xs ys : List Item) → learns_all rules seat s (xs ++ ys) ≡ learns_all rules seat (learns_all rules seat s xs) ys
learns_all-append rules seat s [] ys = refl
learns_all-append rules seat s (x ∷ xs) ys = learns_all-append rules seat (learns rules seat s x) xs ys
