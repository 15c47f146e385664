-- What comes of a host's games that weren't played.
use Rattle.std.proofs.Common.{◌≡◌, ℕ, ◌<◌, ◌≤◌, List, length, map, Option, Some, None, refl, sym, ◌∙◌, ap, subst, arith}
use Rattle.std.specs.Prelude.{All, slice_get}
use Rattle.std.specs.Io.KnownBytes.{Keeps}
use Rattle.std.proofs.lemmas.Option.{slice_get_within}
use Rattle.mj_wall.specs.declared.setting.Setting.{Setting}
use Rattle.mj_history.specs.Legal.{Game}
use Rattle.mj_journal.specs.Openings.{Bad}
use Rattle.mj_journal.specs.declared.not_opened.NotOpened.{NotOpened}
use Rattle.mj_journal.specs.declared.not_opened.NotOpened.TheVariants as reasons
use Rattle.mj_ticker.specs.Beside.{Matches}
use Rattle.mj_ticker.proofs.Besides.{same_some, found, all_from, unmapped, mapped}
use Rattle.mj_words.specs.Asked.{ServedWith}
use Rattle.mj_hosting.specs.declared.rooms.Rooms.{Rooms}
use Rattle.mj_hosting.specs.Plans.{table_setting}
use Rattle.mj_hosting.specs.Plays.{Outside, NotOpened as HostNotOpened}
use Rattle.mj_hosting.specs.Rooms.{count_of}
use Rattle.mj_hosting.specs.Steps.{AreNew}
use Rattle.mj_written.specs.Authors.{IsOther}
use Rattle.mj_written.specs.Writing.{Journaled}
use Rattle.mj_durable.specs.Host.{authors_for, SomeTable, HostsNothing, Hosts, LosesNone}
use Rattle.mj_durable.specs.Journals.{opens_game, LosesNothing, IsDurable}
use Rattle.mj_durable.specs.Inner.Steps.{by_reason, IsSamePage, IsKept, IsOpening, AreOpening, AreOpenFor, IsRight, AreBack}
use Rattle.mj_durable.proofs.JournalLaws.{untouched}
use Rattle.mj_durable.proofs.HostLaws.{kept, kept_at, had_kept, durable_at, loses_none}

same_page : {D : Type 0} (v w : Journaled Game D) → v ≡ w → IsSamePage v w
same_page v w e = subst (IsSamePage v) e (record { setting = refl; began = refl; opened = refl; tag = refl })

same_pages : {D : Type 0} (ws : List (Journaled Game D)) → Matches IsSamePage ws ws
same_pages ws = record { many = refl; each = λ t v w a b. same_page v w (same_some v w (sym a ∙ b)) }

pub keeps_same : (o : Option (List ℕ)) → Keeps o o
keeps_same None = tt
keeps_same (Some xs) = refl

module _ {D : Type 0} (told : D → Option (List ℕ)) (may_leave : D → List ℕ → Type 0) (moment : D → ℕ) (left_since secured_since : D → ℕ → List ℕ → Type 0) (disk_faults : D → ℕ)
    (rooms : Rooms) (s : ServedWith) where
  -- no disk was touched
  pub none_touched : (disks : List D) → ((disk : D) (image : List ℕ) → left_since disk (moment disk) image → may_leave disk image)
      → LosesNone told may_leave moment left_since disk_faults s disks disks
  none_touched disks only_now = record {
    many = refl;
    each = λ t was now a b.
        let back = untouched told may_leave moment left_since secured_since disk_faults (table_setting s t) was (only_now was) in
        subst (λ (d : D). LosesNothing told may_leave moment left_since (table_setting s t) was d × (disk_faults was ≤ disk_faults d)) (same_some was now (sym a ∙ b)) (back.lost, back.faults);
  }

  -- games that were opened are those of the rooms
  pub open_for : (authors : ℕ) (cores : List Game) (were : List D) (ws : List (Journaled Game D)) → authors ≡ authors_for rooms → AreNew s (count_of rooms) cores
      → length were ≡ count_of rooms → AreOpening told may_leave moment left_since secured_since disk_faults authors cores were ws
      → AreOpenFor told may_leave moment left_since secured_since disk_faults rooms s were ws
  open_for authors cores were ws same new many opening = record {
    many = opening.third ∙ new.many;
    disks = many;
    each = λ t was w a b.
        let core = found cores t (omega (arith, slice_get_within ws t w b, opening.third)) in
        subst (λ (x : Setting). IsOpening told may_leave moment left_since secured_since disk_faults (authors_for rooms) x was w) (ap (λ (g : Game). g.setting) (new.each t core.0 core.1))
        (subst (λ (n : ℕ). IsOpening told may_leave moment left_since secured_since disk_faults n core.0.setting was w) same (opening.each t core.0 was w core.1 a b));
  }

  -- the host wasn't opened, and the games are closed
  module _ (were : List D) (ws : List (Journaled Game D)) (opened : AreOpenFor told may_leave moment left_since secured_since disk_faults rooms s were ws)
      (kepts : All (IsKept told may_leave moment left_since secured_since disk_faults) ws) where
    all_go : All (λ w. w.stop ≡ None) ws
    all_go = all_from (λ (w : Journaled Game D). w.stop ≡ None) ws (λ t w at.
        let was = found were t (omega (arith, slice_get_within ws t w at, opened.many, opened.disks)) in (opened.each t was.0 w was.1 at).goes)

    closed : (t : ℕ) (was now : D) → slice_get were t ≡ Some was → slice_get (map (λ (w : Journaled Game D). w.disk) ws) t ≡ Some now
        → IsDurable told may_leave moment left_since secured_since (table_setting s t)
        (kept told may_leave moment left_since secured_since disk_faults rooms s were ws ws opened (same_pages ws) kepts t) was now
    closed t was now at_was at_now =
        let w = unmapped (λ (x : Journaled Game D). x.disk) ws t now at_now in
        subst (λ (es : List _). IsDurable told may_leave moment left_since secured_since (table_setting s t) es was now)
        (sym (kept_at told may_leave moment left_since secured_since disk_faults rooms s were ws ws opened (same_pages ws) kepts t w.0 w.1))
        (durable_at told may_leave moment left_since secured_since disk_faults rooms s were ws ws opened (same_pages ws) kepts all_go t w.0.game was now
        (mapped (λ (x : Journaled Game D). x.game) ws t w.0 w.1) at_was at_now)

    pub lost_none : LosesNone told may_leave moment left_since disk_faults s were (map (λ (w : Journaled Game D). w.disk) ws)
    lost_none = loses_none told may_leave moment left_since secured_since disk_faults rooms s were ws ws opened (same_pages ws) kepts

    module _ {L F : Type 0} (read left written : L → Option (List ℕ)) (read_faults write_faults : L → ℕ) (made : F → Type 0) (number : F → ℕ) (old new : Outside L) where
      pub hosts_nothing : HostNotOpened made number s.port old new
          → HostsNothing read left written read_faults write_faults made number told may_leave moment left_since secured_since disk_faults rooms s old new were
          (map (λ (w : Journaled Game D). w.disk) ws)
      hosts_nothing not = record {
        not_opened = not;
        kept = kept told may_leave moment left_since secured_since disk_faults rooms s were ws ws opened (same_pages ws) kepts;
        had = had_kept told may_leave moment left_since secured_since disk_faults rooms s were ws ws opened (same_pages ws) kepts;
        durable = closed;
      }

  -- a journal wasn't opened
  module _ (authors : ℕ) (cores : List Game) (were disks : List D) (why : NotOpened) (same : authors ≡ authors_for rooms) (new : AreNew s (count_of rooms) cores)
      (back : AreBack told may_leave moment left_since secured_since disk_faults authors why cores were disks) where
    setting_is : (t : ℕ) (core : Game) → slice_get cores t ≡ Some core → core.setting ≡ table_setting s t
    setting_is t core at = ap (λ (g : Game). g.setting) (new.each t core at)

    pub loses_back : LosesNone told may_leave moment left_since disk_faults s were disks
    loses_back = record {
      many = back.all.third ∙ sym back.all.second;
      each = λ t was now a b.
          let core = found cores t (omega (arith, slice_get_within were t was a, back.all.second)) in
          let one = back.all.each t core.0 was now core.1 a b in
          (subst (λ (x : Setting). LosesNothing told may_leave moment left_since x was now) (setting_is t core.0 core.1) one.lost, one.faults);
    }

    right : IsRight told may_leave moment left_since secured_since disk_faults (authors_for rooms) why (table_setting s back.table) back.was back.now
    right =
        subst (λ (x : Setting). IsRight told may_leave moment left_since secured_since disk_faults (authors_for rooms) why x back.was back.now) (setting_is back.table back.core back.core_is)
        (subst (λ (n : ℕ). IsRight told may_leave moment left_since secured_since disk_faults n why back.core.setting back.was back.now) same back.right)

    module _ {L F : Type 0} (read left written : L → Option (List ℕ)) (read_faults write_faults : L → ℕ) (made : F → Type 0) (number : F → ℕ) (old : Outside L) where
      some : (P : Setting → D → D → Type 0) → P (table_setting s back.table) back.was back.now → SomeTable P s were disks
      some P so = record { table = back.table; was = back.was; now = back.now; was_is = back.was_is; now_is = back.now_is; so = so }

      by : (r : NotOpened) → IsRight told may_leave moment left_since secured_since disk_faults (authors_for rooms) r (table_setting s back.table) back.was back.now
          → Hosts read left written read_faults write_faults made number told may_leave moment left_since secured_since disk_faults (by_reason r) rooms s old old were disks
      by reasons.DiskFault so = (keeps_same old.written, some (λ setting was now. disk_faults was < disk_faults now) so)
      by reasons.OtherGame so =
          (refl, some (λ setting was now. (bytes : List ℕ) → told was ≡ Some bytes → IsOther (authors_for rooms) (opens_game setting bytes)) so)
      by (reasons.BadJournal place) so = (refl, some (λ setting was now. (bytes : List ℕ) → told was ≡ Some bytes → opens_game setting bytes ≡ Bad place) so)
      by reasons.NoMemory so = keeps_same old.written

      pub not_hosted : Hosts read left written read_faults write_faults made number told may_leave moment left_since secured_since disk_faults (by_reason why) rooms s old old were disks
      not_hosted = by why right
