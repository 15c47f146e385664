-- What is written of the deeds of a record.
use Rattle.std.proofs.Common.{◌≡◌, ℕ, zero, suc, ◌+◌, ◌-◌, ◌^◌, ◌≤◌, true, List, [], ◌∷◌, ◌++◌, length, take, refl, ap, sym, ◌∙◌, subst, arith}
use Rattle.std.specs.Prelude.{Option, Some, None, ◌&&◌, nat_le, slice_get}
use Rattle.std.proofs.lemmas.Option.{slice_get_within, get_or_from_slice_get}
use Rattle.std.proofs.lemmas.List.{take_more}
use Rattle.std.specs.List.{list_all}
use Rattle.std.specs.Io.KnownBytes.{Appends}
use Rattle.std.proofs.lemmas.Bool.{and_parts}
use Rattle.std.proofs.lemmas.Bool.Decides.{nat_tests}
use Rattle.mj_links.specs.Sinks.{WritesPrefix}
use Rattle.mj_deeds.specs.declared.deed.Deed.{Deed}
use Rattle.mj_wall.specs.Places.{is_wall}
use Rattle.mj_rules.specs.Played.{IsPlayed}
use Rattle.mj_rules.proofs.Playing.{each_is_wall}
use Rattle.mj_rules.proofs.Lengths.{few_deeds}
use Rattle.mj_observe.specs.Views.{public_view}
use Rattle.mj_observe.specs.Traces.{ArePlayed}
use Rattle.mj_observe.proofs.Watching.{learn_no_more}
use Rattle.mj_replay.specs.Checks.{IsRecordOf}
use Rattle.mj_checking.specs.declared.replay.ReplayEnd.{ReplayEnd}
use Rattle.mj_checking.specs.declared.replay.ReplayEnd.TheVariants as ends
use Rattle.mj_runs.specs.Inputs.{IsRead}
use Rattle.mj_checking.specs.Replay.{TakesInput}
use Rattle.mj_checking.specs.Observe.{IsObserved, Observes}
use Rattle.mj_checking.specs.Inner.Observing.{WritesView}
use Rattle.mj_checking.proofs.ReplayLaws.{taken}

-- The deeds of a record are played.
record_is_played : (input : List ℕ) (deeds : List Deed) → IsRecordOf input deeds → ArePlayed deeds
record_is_played input deeds r =
    let is = r.record_is in
    let fits = and_parts (nat_le 1 (length is.walls) && nat_le (length is.walls) 200) (list_all (is_wall is.rules.red) is.walls) is.walls_fit in
    let least : nat_le 1 (length is.walls) ≡ true = (and_parts (nat_le 1 (length is.walls)) (nat_le (length is.walls) 200) fits.0).0 in
    record {
      rules = is.rules;
      walls = is.walls;
      some = grind (arith, nat_tests);
      whole = fits.1;
      played = subst (λ (ds : List Deed). IsPlayed is.rules is.walls ds) r.deeds_are is.played;
    }

-- A number of 32 bits counts them.
pub few : (input : List ℕ) (deeds : List Deed) → IsRecordOf input deeds → length deeds ≤ 2 ^ 32 - 1
few input deeds r =
    let p = record_is_played input deeds r in
    let all = (few_deeds p.rules p.walls deeds (each_is_wall p.rules.red p.walls p.some p.whole) p.played).1 in
    omega (arith, all)

-- What is written is the public view of all deeds with as much public.
written_of : (IsWritten : List ℕ → Type 0) (input : List ℕ) (deeds : List Deed) → IsRecordOf input deeds → IsWritten (public_view deeds) → IsObserved IsWritten input
written_of IsWritten input deeds r written = record {
  deeds = deeds;
  record_is = r;
  bytes = written;
  same = λ others played alike. subst IsWritten (sym (learn_no_more others deeds played (record_is_played input deeds r) alike)) written;
}

pub observed : (end : ReplayEnd) (input : List ℕ) (deeds : List Deed) (old new : Option (List ℕ)) → IsRecordOf input deeds → WritesView end deeds old new → TakesInput IsObserved end input old new
observed ends.Written input deeds old new r written = written_of (Appends old new) input deeds r written
observed (ends.Bad line cause) input deeds old new r written = absurd written
observed ends.WriteFault input deeds old new r written = written_of (WritesPrefix old new) input deeds r written
observed ends.ReadFault input deeds old new r written = absurd written
observed ends.TooLong input deeds old new r written = absurd written
observed ends.NoMemory input deeds old new r written = written

pub viewed : (end : ReplayEnd) (input : List ℕ) (old_left new_left old new : Option (List ℕ)) → IsRead old_left new_left input →
    TakesInput IsObserved end input old new → Observes end old_left new_left old new
viewed end input old_left new_left old new read written = taken IsObserved end input old_left new_left old new read written

-- The deeds before a number, and the deed with that number.
pub taken_more : (deeds : List Deed) (number : ℕ) (deed : Deed) → slice_get deeds number ≡ Some deed → take (number + 1) deeds ≡ take number deeds ++ deed ∷ []
taken_more deeds number deed h =
    take_more deeds number deed (slice_get_within deeds number deed h) ∙ ap (λ (d : Deed). take number deeds ++ d ∷ []) (get_or_from_slice_get deeds number deed deed h)

-- All are before a number at which there is none.
pub taken_all : (deeds : List Deed) (number : ℕ) → slice_get deeds number ≡ None → take number deeds ≡ deeds
taken_all [] zero h = refl
taken_all [] (suc number) h = refl
taken_all (deed ∷ deeds) zero h = cc
taken_all (deed ∷ deeds) (suc number) h = ap (λ (ds : List Deed). deed ∷ ds) (taken_all deeds number h)
