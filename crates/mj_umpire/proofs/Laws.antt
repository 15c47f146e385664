-- What an umpire needs of the laws of what is told.
use Rattle.std.proofs.Common.{◌≡◌, ℕ, ◌≤◌, List, length, true, sym, subst}
use Rattle.std.specs.Prelude.{Some}
use Rattle.mj_ports.specs.Names.{is_name}
use Rattle.mj_ports.specs.declared.entry.Entry.TheVariants as entries
use Rattle.mj_ports.specs.declared.sitting.JoinLine.{JoinLine}
use Rattle.mj_seating.specs.declared.desk.Placed.{Placed}
use Rattle.mj_seating.specs.declared.desk.Placed.TheVariants as places
use Rattle.mj_wall.specs.declared.setting.Setting.{Setting}
use Rattle.mj_history.specs.After.{After}
use Rattle.mj_history.specs.Legal.{is_permitted}
use Rattle.mj_history.specs.Sitting.{placing, entries_of_placing}
use Rattle.mj_forms.specs.AnswerForms.{join_of}
use Rattle.mj_history.proofs.Legality.{IsNamed, join_of-named, MayAdd, placing-may}

-- The name of a join that is read is good.
pub named-by : (text : List ℕ) (join : JoinLine) → Some join ≡ join_of text → is_name join.name ≡ true
named-by text join e = subst IsNamed (sym e) (join_of-named text)

-- A join that gets a seat is permitted to.
pub sat-permitted : (setting : Setting) (now : After) (author seat : ℕ) (join : JoinLine) → length now.chairs ≤ 4 → is_name join.name ≡ true → placing now (Some join) ≡ places.Sat seat
    → is_permitted setting now (entries.Sat author join.name join.key) ≡ true
sat-permitted setting now author seat join few named h =
    subst (λ (place : Placed). MayAdd setting now (entries_of_placing author (Some join) place)) h (placing-may setting now author (Some join) named few)

pub back-permitted : (setting : Setting) (now : After) (author seat : ℕ) (join : JoinLine) → length now.chairs ≤ 4 → is_name join.name ≡ true → placing now (Some join) ≡ places.Back seat
    → is_permitted setting now (entries.Back author seat) ≡ true
back-permitted setting now author seat join few named h =
    subst (λ (place : Placed). MayAdd setting now (entries_of_placing author (Some join) place)) h (placing-may setting now author (Some join) named few)
