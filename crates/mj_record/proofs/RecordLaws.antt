-- How the journal of a game opens that its first record founds.
use Rattle.std.proofs.Common.{◌≡◌, ℕ, ◌+◌, Bool, true, false, List, [], ◌∷◌, length, drop, Option, Some, None, if◌then◌else◌, refl, ap, sym, subst, ◌∙◌}
use Rattle.std.specs.Prelude.{bytes_eq, option_and_then, Err}
use Rattle.std.proofs.lemmas.Slice.Eq.{bytes_eq-Decides}
use Rattle.std.specs.Io.KnownBytes.{Appends}
use Rattle.mj_links.specs.Sinks.{WritesPrefix}
use Rattle.mj_ports.specs.declared.entry.Entry.{Entry}
use Rattle.mj_deeds.specs.declared.answer.Answer.{Answer}
use Rattle.mj_wall.specs.declared.setting.Setting.{Setting}
use Rattle.mj_history.specs.Legal.{Game}
use Rattle.mj_core.specs.Calls.{record_of}
use Rattle.mj_journal.specs.Founding.{HasFirst, GivesEntries, EndsAs}
use Rattle.mj_journal.specs.Journals.{first_record, journal as payloads, behind_journal}
use Rattle.mj_journal.specs.Openings.{Opening, Fresh, Other, Bad, Open, begins_open, entries_from}
use Rattle.mj_journal.specs.Playing.{taken}
use Rattle.mj_journal.specs.declared.not_opened.NotOpened.{NotOpened}
use Rattle.mj_journal.specs.declared.not_opened.NotOpened.TheVariants as not_opened
use Rattle.mj_journal.proofs.Firsts.{opens_own}
use Rattle.mj_refereeing.specs.Keep.{Base, base_of, play_of, opens_for}
use Rattle.mj_runs.specs.Inputs.{IsRead}
use Rattle.mj_record.specs.declared.journal.RecordEnd.{RecordEnd}
use Rattle.mj_record.specs.declared.journal.RecordEnd.TheVariants as ends
use Rattle.mj_record.specs.Record.{if_whole, founded, opens_by, TakesJournal, Records}
use Rattle.mj_record.specs.Inner.Recording.{WritesOpened, WritesRecord}

-- It is neither a new journal nor that of another game.
abbrev IsOwn : {E : Type 0} → Opening E → Type 0
IsOwn Fresh = ⊥
IsOwn Other = ⊥
IsOwn (Bad place) = Unit {0}
IsOwn (Open last place) = Unit {0}

module _ {S : Type 0} (taken_by : S → List ℕ → Option S) where
  own_end : (game : S) (place : ℕ) (b : Bool) → IsOwn (if b then Bad place else Open game place)
  own_end game place true = tt
  own_end game place false = tt

  own_step : (place next : ℕ) (more : List (List ℕ)) (behind : List ℕ) (o : Option S) → ((n : S) → IsOwn (entries_from taken_by n next more behind))
      → IsOwn (elim o [ None ↦ Bad place | Some n ↦ entries_from taken_by n next more behind ])
  own_step place next more behind None below = tt
  own_step place next more behind (Some n) below = below n

  own : (game : S) (place : ℕ) (payloads : List (List ℕ)) (behind : List ℕ) → IsOwn (entries_from taken_by game place payloads behind)
  own game place [] behind = own_end game place (begins_open behind)
  own game place (first ∷ more) behind = own_step place (place + 5 + length first) more behind (taken_by game first) (λ n. own n (place + 5 + length first) more behind)

given_open : {E : Type 0} (o : Opening (List E)) (entries : List E) (end : ℕ) → IsOwn o → GivesEntries o entries end → o ≡ Open entries end
given_open Fresh entries end own gives = absurd own
given_open Other entries end own gives = absurd own
given_open (Bad place) entries end own gives = absurd gives
given_open (Open last place) entries end own gives = ap (λ (l : List _). Open l place) (sym gives.0) ∙ ap (λ (n : ℕ). Open entries n) (sym gives.1)

not_other : {E : Type 0} (o : Opening (List E)) → IsOwn o → o ≡ Other → ⊥
not_other Fresh own is = absurd own
not_other Other own is = absurd own
not_other (Bad place) own is = cc
not_other (Open last place) own is = cc

-- A journal without a first record, and one whose first record founds nothing.
pub none_founded : (journal : List ℕ) → first_record journal ≡ None → opens_by (founded journal) journal ≡ Bad 0
none_founded journal none =
    ap (λ (o : Option (List ℕ × List ℕ)). opens_by (option_and_then (λ first. option_and_then (if_whole first.0) (base_of first.0)) o) journal) none

module _ (journal tag : List ℕ) (first : HasFirst tag journal) where
  founded_of : founded journal ≡ option_and_then (if_whole tag) (base_of tag)
  founded_of = ap (λ (o : Option (List ℕ × List ℕ)). option_and_then (λ f. option_and_then (if_whole f.0) (base_of f.0)) o) first.1

  pub nothing_founded : base_of tag ≡ None → opens_by (founded journal) journal ≡ Bad 0
  nothing_founded none = ap (λ (o : Option Base). opens_by o journal) (founded_of ∙ ap (λ (o : Option Base). option_and_then (if_whole tag) o) none)

  module _ (base : Base) (is : base_of tag ≡ Some base) where
    by_whole : (b : Bool) → bytes_eq base.tag tag ≡ b → founded journal ≡ (if b then Some base else None)
    by_whole b same = founded_of ∙ ap (λ (o : Option Base). option_and_then (if_whole tag) o) is ∙ ap (λ (c : Bool). if c then Some base else None) same

    pub more_founded : bytes_eq base.tag tag ≡ false → opens_by (founded journal) journal ≡ Bad 0
    more_founded differs = ap (λ (o : Option Base). opens_by o journal) (by_whole false differs)

    module _ (same : bytes_eq base.tag tag ≡ true) where
      founds : founded journal ≡ Some base
      founds = by_whole true same

      same_tag : tag ≡ base.tag
      same_tag = sym ((bytes_eq-Decides base.tag tag).0 same)

      is_own : IsOwn (opens_for base journal)
      is_own =
          let has = subst (λ (t : List ℕ). HasFirst t journal) same_tag first in
          subst (λ (o : Opening (List (Entry Answer))). IsOwn o)
          (sym (opens_own (play_of base.setting) base.tag journal base.tag has.0 has.1 ((bytes_eq-Decides base.tag base.tag).1 refl)))
          (own (taken (play_of base.setting)) [] (length base.tag + 5) (payloads (drop (length base.tag + 5) journal)) (behind_journal (drop (length base.tag + 5) journal)))

      -- What is written of its journal.
      pub takes : (old new : Option (List ℕ)) (e : RecordEnd) → WritesOpened e base.setting (opens_for base journal) old new → TakesJournal e journal old new
      takes old new ends.Written written = record {
        base = base;
        founds = founds;
        entries = written.entries;
        end = written.end;
        opened = given_open (opens_for base journal) written.entries written.end is_own written.gives;
        record_is = written.record_is;
      }
      takes old new (ends.Bad place) written = record { bad = ap (λ (o : Option Base). opens_by o journal) founds ∙ written.0; unwritten = written.1 }
      takes old new ends.WriteFault written = record {
        base = base;
        founds = founds;
        entries = written.entries;
        end = written.end;
        opened = given_open (opens_for base journal) written.entries written.end is_own written.gives;
        record_is = written.record_is;
      }
      takes old new ends.ReadFault written = absurd written
      takes old new ends.TooLong written = absurd written
      takes old new ends.NoMemory written = written

      pub never_other : opens_for base journal ≡ Other → ⊥
      never_other = not_other (opens_for base journal) is_own

-- What is written of a journal is written of what was read.
pub taken_all : (end : RecordEnd) (journal : List ℕ) (old_left new_left old new : Option (List ℕ)) → IsRead old_left new_left journal → TakesJournal end journal old new
    → Records end old_left new_left old new
taken_all ends.Written journal old_left new_left old new read written = record { journal = journal; read = read; written = written }
taken_all (ends.Bad place) journal old_left new_left old new read written = record { journal = journal; read = read; written = written }
taken_all ends.WriteFault journal old_left new_left old new read written = record { journal = journal; read = read; written = written }
taken_all ends.ReadFault journal old_left new_left old new read written = absurd written
taken_all ends.TooLong journal old_left new_left old new read written = absurd written
taken_all ends.NoMemory journal old_left new_left old new read written = written

-- What is written of a game that was opened.
module _ (s : Setting) (opening : Opening (List (Entry Answer))) (game : Game) (end : ℕ) (set : game.setting ≡ s) (gives : GivesEntries opening game.entries end)
    (old new : Option (List ℕ)) where
  pub writes : (e : RecordEnd) → WritesRecord e (record_of game) old new → WritesOpened e s opening old new
  writes ends.Written is = record {
    entries = game.entries;
    end = end;
    gives = gives;
    record_is = subst (λ (t : Setting). Appends old new (record_of (record { setting = t; entries = game.entries }))) set is;
  }
  writes (ends.Bad place) is = absurd is
  writes ends.WriteFault is = record {
    entries = game.entries;
    end = end;
    gives = gives;
    record_is = subst (λ (t : Setting). WritesPrefix old new (record_of (record { setting = t; entries = game.entries }))) set is;
  }
  writes ends.ReadFault is = absurd is
  writes ends.TooLong is = absurd is
  writes ends.NoMemory is = is

-- Why a journal isn't opened.
module _ (opening : Opening (List (Entry Answer))) (entries : List (Entry Answer)) (why : NotOpened) (so : EndsAs (Err why) opening entries) where
  answered : (other : NotOpened) → why ≡ other → EndsAs (Err other) opening entries
  answered other is = subst (λ (w : NotOpened). EndsAs (Err w) opening entries) is so

  pub bad_as : (place : ℕ) → why ≡ not_opened.BadJournal place → opening ≡ Bad place
  bad_as place is = answered (not_opened.BadJournal place) is

  pub other_as : why ≡ not_opened.OtherGame → opening ≡ Other
  other_as is = answered not_opened.OtherGame is
