-- What comes of the games of a host.
use Rattle.std.proofs.Common.{◌≡◌, ◌⊎◌, inl, inr, ℕ, suc, ◌<◌, ◌≤◌, List, [], ◌∷◌, length, map, Option, Some, None, refl, sym, ◌∙◌, ap, ap₂, subst, arith, reverse}
use Rattle.std.specs.Prelude.{All, slice_get}
use Rattle.std.specs.Option.{option_map_or}
use Rattle.std.specs.Io.KnownBytes.{Appends}
use Rattle.std.proofs.lemmas.List.{length-map}
use Rattle.std.proofs.lemmas.Option.{slice_get_within}
use Rattle.std.proofs.lemmas.List.Elements.{All-nil, All-cons, All-map}
use Rattle.mj_ports.specs.declared.entry.Entry.{Entry}
use Rattle.mj_ports.specs.Entries.{author_of}
use Rattle.mj_deeds.specs.declared.answer.Answer.{Answer}
use Rattle.mj_wall.specs.declared.setting.Setting.{Setting}
use Rattle.mj_history.specs.Legal.{Game}
use Rattle.mj_ticker.specs.Beside.{Matches}
use Rattle.mj_ticker.proofs.Besides.{found, all_at, all_from, mapped, unmapped}
use Rattle.mj_handlers.specs.declared.visit.Session.{Session}
use Rattle.mj_served.specs.Served.{has_ended}
use Rattle.mj_served.specs.Plans.{TableGame, PlaysAt}
use Rattle.mj_words.specs.Asked.{ServedWith}
use Rattle.mj_hosting.specs.declared.plays.ServeEnd.{ServeEnd}
use Rattle.mj_hosting.specs.declared.plays.ServeEnd.TheVariants as serving
use Rattle.mj_hosting.specs.declared.rooms.Rooms.{Rooms}
use Rattle.mj_hosting.specs.Plans.{table_setting}
use Rattle.mj_hosting.specs.Plays.{AppendsLinks, Outside, HasLostEach, Plays, have_ended}
use Rattle.mj_hosting.specs.Rooms.{count_of, handlers_for, text_for, plan_from}
use Rattle.mj_hosting.specs.Steps.{AreBegun, WritesGames, links_in}
use Rattle.mj_hosting.proofs.PlayLaws.{tables_of, table_at, served_each, plays_by, tables_are}
use Rattle.mj_written.specs.declared.stop.Stop.{Stop}
use Rattle.mj_written.specs.declared.stop.Stop.TheVariants as stops
use Rattle.mj_written.specs.Writing.{Journaled}
use Rattle.mj_durable.specs.Host.{authors_for, SomeFailed, HostsGames, Hosts, LosesNone}
use Rattle.mj_durable.specs.Journals.{resumed, HasKept, IsDurable, LosesNothing}
use Rattle.mj_durable.specs.Inner.Steps.{resumed_game, worse, stop_in, by_serving, AreOver, AreBelow, IsSamePage, IsPlayedAs, ArePlayedOn, IsKept, IsOpenedOn, AreOpenFor}
use Rattle.mj_durable.proofs.JournalLaws.{same_opened, durable, loses_nothing, faults_stay, faults_rose}

module _ {D : Type 0} where
  -- why some are stopped
  pub none_stopped : (ws : List (Journaled Game D)) → stop_in ws ≡ None → All (λ w. w.stop ≡ None) ws
  none_stopped [] e = All-nil (λ (w : Journaled Game D). w.stop ≡ None)
  none_stopped (w ∷ ws) e = let p = parts w.stop (stop_in ws) e in All-cons (λ (x : Journaled Game D). x.stop ≡ None) w ws p.0 (none_stopped ws p.1)
    where
      parts : (a b : Option Stop) → worse a b ≡ None → (a ≡ None) × (b ≡ None)
      parts None b e = (refl, e)
      parts (Some stops.DiskFault) b e = absurd cc
      parts (Some stops.NoMemory) None e = absurd cc
      parts (Some stops.NoMemory) (Some stops.DiskFault) e = absurd cc
      parts (Some stops.NoMemory) (Some stops.NoMemory) e = absurd cc

  pub one_failed : (ws : List (Journaled Game D)) → stop_in ws ≡ Some stops.DiskFault → (t : ℕ) × (w : Journaled Game D) × (slice_get ws t ≡ Some w) × (w.stop ≡ Some stops.DiskFault)
  one_failed [] e = absurd cc
  one_failed (w ∷ ws) e = elim (parts w.stop (stop_in ws) e) [
    | inl own ↦ (0, w, refl, own)
    | inr other ↦ let f = one_failed ws other in (suc f.0, f.1, f.2, f.3)
  ]
    where
      parts : (a b : Option Stop) → worse a b ≡ Some stops.DiskFault → (a ≡ Some stops.DiskFault) ⊎ (b ≡ Some stops.DiskFault)
      parts None b e = inr e
      parts (Some stops.DiskFault) b e = inl refl
      parts (Some stops.NoMemory) None e = absurd cc
      parts (Some stops.NoMemory) (Some stops.DiskFault) e = inr refl
      parts (Some stops.NoMemory) (Some stops.NoMemory) e = absurd cc

  pub over_all : (ws : List (Journaled Game D)) → AreOver ws → have_ended (map (λ w. w.game) ws)
  over_all ws over = All-map has_ended (λ (w : Journaled Game D). w.game) ws over

-- the authors of the entries of games that were opened
pub opened_below : {D : Type 0} (told : D → Option (List ℕ)) (may_leave : D → List ℕ → Type 0) (moment : D → ℕ) (left_since secured_since : D → ℕ → List ℕ → Type 0) (disk_faults : D → ℕ)
    (rooms : Rooms) (s : ServedWith) (were : List D) (ws : List (Journaled Game D)) → AreOpenFor told may_leave moment left_since secured_since disk_faults rooms s were ws
    → AreBelow (authors_for rooms) ws
opened_below {D} told may_leave moment left_since secured_since disk_faults rooms s were ws opened =
    all_from (λ (w : Journaled Game D). All (λ e. author_of e < authors_for rooms) w.game.entries) ws (λ t w at.
    let was = found were t (omega (arith, slice_get_within ws t w at, opened.many, opened.disks)) in
    let o = opened.each t was.0 w was.1 at in
    subst (λ (g : Game). All (λ e. author_of e < authors_for rooms) g.entries) o.began o.opened.had.few)

-- a table of games that were opened, played and closed
module _ {D : Type 0} (told : D → Option (List ℕ)) (may_leave : D → List ℕ → Type 0) (moment : D → ℕ) (left_since secured_since : D → ℕ → List ℕ → Type 0) (disk_faults : D → ℕ)
    (rooms : Rooms) (s : ServedWith) (were : List D) (ws finals : List (Journaled Game D))
    (opened : AreOpenFor told may_leave moment left_since secured_since disk_faults rooms s were ws) (same : Matches IsSamePage ws finals)
    (kepts : All (IsKept told may_leave moment left_since secured_since disk_faults) finals) where
  abbrev disks : List D
  disks = map (λ (w : Journaled Game D). w.disk) finals

  record IsTable (t : ℕ) (was now : D) : Type 0 where
    w : Journaled Game D
    final : Journaled Game D
    at : slice_get ws t ≡ Some w
    at_end : slice_get finals t ≡ Some final
    disk : final.disk ≡ now
    setting : final.game.setting ≡ table_setting s t
    opened_on : IsOpenedOn told may_leave moment left_since secured_since disk_faults (authors_for rooms) was final
    is_kept : IsKept told may_leave moment left_since secured_since disk_faults final

  table_is : (t : ℕ) (was : D) (final : Journaled Game D) → slice_get were t ≡ Some was → slice_get finals t ≡ Some final → IsTable t was final.disk
  table_is t was final at_was at_final =
      let w = found ws t (omega (arith, slice_get_within finals t final at_final, same.many)) in
      let page = same.each t w.0 final w.1 at_final in
      let o = opened.each t was w.0 at_was w.1 in
      record {
        w = w.0;
        final = final;
        at = w.1;
        at_end = at_final;
        disk = refl;
        setting = page.setting ∙ o.setting;
        opened_on = same_opened told may_leave moment left_since secured_since disk_faults (authors_for rooms) was w.0 final page o.opened;
        is_kept = all_at (IsKept told may_leave moment left_since secured_since disk_faults) finals t final kepts at_final;
      }

  -- each disk lost nothing
  pub loses_none : LosesNone told may_leave moment left_since disk_faults s were disks
  unfolding table_is
  loses_none = record {
    many = length-map finals (λ (w : Journaled Game D). w.disk) ∙ same.many ∙ opened.many ∙ sym opened.disks;
    each = λ t was now at_was at_now.
        let final = unmapped (λ (w : Journaled Game D). w.disk) finals t now at_now in
        let table = table_is t was final.0 at_was final.1 in
        let lost = loses_nothing told may_leave moment left_since secured_since disk_faults (authors_for rooms) was final.0 table.opened_on table.is_kept in
        let stay = faults_stay told may_leave moment left_since secured_since disk_faults (authors_for rooms) was final.0 table.opened_on table.is_kept in (
          subst (λ (d : D). LosesNothing told may_leave moment left_since (table_setting s t) was d) final.2
              (subst (λ (x : Setting). LosesNothing told may_leave moment left_since x was final.0.disk) table.setting lost),
          subst (λ (d : D). disk_faults was ≤ disk_faults d) final.2 stay,
        );
  }

  -- a disk failed
  pub some_failed : stop_in finals ≡ Some stops.DiskFault → SomeFailed told disk_faults s were disks
  unfolding one_failed table_is
  some_failed e =
      let f = one_failed finals e in
      let was = found were f.0 (omega (arith, slice_get_within finals f.0 f.1 f.2, same.many, opened.many, opened.disks)) in
      let table = table_is f.0 was.0 f.1 was.1 f.2 in
      record {
        table = f.0;
        was = was.0;
        now = f.1.disk;
        was_is = was.1;
        now_is = mapped (λ (w : Journaled Game D). w.disk) finals f.0 f.1 f.2;
        so = faults_rose told may_leave moment left_since secured_since disk_faults (authors_for rooms) was.0 f.1 table.opened_on table.is_kept f.3;
      }

  -- what the journals kept
  abbrev pub kept : ℕ → List (Entry Answer)
  kept t = option_map_or (λ (w : Journaled Game D). w.game.entries) (slice_get ws t) []

  pub kept_at : (t : ℕ) (w : Journaled Game D) → slice_get ws t ≡ Some w → kept t ≡ w.game.entries
  kept_at t w at = ap (λ (o : Option (Journaled Game D)). option_map_or (λ (x : Journaled Game D). x.game.entries) o []) at

  pub had_kept : (t : ℕ) (was : D) → slice_get were t ≡ Some was → HasKept told (table_setting s t) (authors_for rooms) (kept t) was
  had_kept t was at =
      let w = found ws t (omega (arith, slice_get_within were t was at, opened.many, opened.disks)) in
      let o = opened.each t was w.0 at w.1 in
      subst (λ (es : List (Entry Answer)). HasKept told (table_setting s t) (authors_for rooms) es was) (ap (λ (g : Game). g.entries) o.began ∙ sym (kept_at t w.0 w.1))
      (subst (λ (x : Setting). HasKept told x (authors_for rooms) w.0.began.entries was) o.setting o.opened.had)

  setting_at : (t : ℕ) (w : Journaled Game D) → slice_get ws t ≡ Some w → w.game.setting ≡ table_setting s t
  setting_at t w at = let was = found were t (omega (arith, slice_get_within ws t w at, opened.many, opened.disks)) in (opened.each t was.0 w was.1 at).setting

  pub begun : AreBegun s (λ t. resumed (table_setting s t) (kept t)) (count_of rooms) (map (λ (w : Journaled Game D). resumed_game w.game) ws)
  begun = record {
    many = length-map ws (λ (w : Journaled Game D). resumed_game w.game) ∙ opened.many;
    each = λ t game at.
        let w = unmapped (λ (x : Journaled Game D). resumed_game x.game) ws t game at in
        sym w.2 ∙ ap₂ (λ (x : Setting) (es : List (Entry Answer)). record { setting = x; entries = resumed x es }) (setting_at t w.0 w.1) (sym (kept_at t w.0 w.1));
  }

  pub durable_at : All (λ w. w.stop ≡ None) finals → (t : ℕ) (game : Game) (was now : D) → slice_get (map (λ (w : Journaled Game D). w.game) finals) t ≡ Some game → slice_get were t ≡ Some was
      → slice_get disks t ≡ Some now → IsDurable told may_leave moment left_since secured_since (table_setting s t) game.entries was now
  unfolding table_is
  durable_at go t game was now at_game at_was at_now =
      let final = unmapped (λ (w : Journaled Game D). w.disk) finals t now at_now in
      let table = table_is t was final.0 at_was final.1 in
      let stands = durable told may_leave moment left_since secured_since disk_faults (authors_for rooms) was final.0 table.opened_on table.is_kept
      (all_at (λ (w : Journaled Game D). w.stop ≡ None) finals t final.0 go final.1) in
      let same_game : final.0.game ≡ game = cc (mapped (λ (w : Journaled Game D). w.game) finals t final.0 final.1, at_game) in
      subst (λ (g : Game). IsDurable told may_leave moment left_since secured_since (table_setting s t) g.entries was now) same_game
      (subst (λ (d : D). IsDurable told may_leave moment left_since secured_since (table_setting s t) final.0.game.entries was d) final.2
      (subst (λ (x : Setting). IsDurable told may_leave moment left_since secured_since x final.0.game.entries was final.0.disk) table.setting stands))

  -- the games were played
  module _ {L F : Type 0} (read left written : L → Option (List ℕ)) (read_faults write_faults : L → ℕ) (made : F → Type 0) (number : F → ℕ)
      (rows : List (List (Session L))) (old new : Outside L) (go : stop_in finals ≡ None)
      (played : ArePlayedOn read left written read_faults write_faults rooms old.readings new.readings ws finals rows)
      (ports : Appends old.ports new.ports (s.port ∷ [])) (none : new.open_faults ≡ old.open_faults)
      (back : AppendsLinks old.returned new.returned (reverse (links_in rows)))
      (lost : (AreOver finals → ⊥) → HasLostEach made number (handlers_for rooms)) where
    abbrev games : List Game
    games = map (λ (w : Journaled Game D). w.game) finals

    games_many : length games ≡ length ws
    games_many = length-map finals (λ (w : Journaled Game D). w.game) ∙ same.many

    served : (t : ℕ) (table : TableGame L) → slice_get (tables_of games rows) t ≡ Some table
        → PlaysAt read left written read_faults write_faults (plan_from rooms s (λ t. resumed (table_setting s t) (kept t))) t table old.readings new.readings
    served = served_each read left written read_faults write_faults made number rooms s (λ t. resumed (table_setting s t) (kept t)) old.readings new.readings (handlers_for rooms)
        (map (λ (w : Journaled Game D). resumed_game w.game) ws) games rows refl begun
        (games_many ∙ sym (length-map ws (λ (w : Journaled Game D). resumed_game w.game))) (played.third ∙ sym (length-map ws (λ (w : Journaled Game D). resumed_game w.game)))
        (λ t was game sessions at_was at_game at_sessions.
        let w = unmapped (λ (x : Journaled Game D). resumed_game x.game) ws t was at_was in
        let final = unmapped (λ (x : Journaled Game D). x.game) finals t game at_game in
        subst (λ (g : Game). IsPlayedAs read left written read_faults write_faults rooms old.readings new.readings t was g sessions) final.2
        (subst (λ (g : Game). IsPlayedAs read left written read_faults write_faults rooms old.readings new.readings t g final.0.game sessions) w.2
        (played.each t w.0 final.0 sessions w.1 final.1 at_sessions)))

    all_go : All (λ w. w.stop ≡ None) finals
    all_go = none_stopped finals go

    lost_each : (have_ended games → ⊥) → HasLostEach made number (handlers_for rooms)
    lost_each open_ended = lost (λ over. open_ended (over_all finals over))

    hosted : (IsWritten : List ℕ → Type 0) (Ends : List Game → Type 0)
        (p : Plays read left written read_faults write_faults made number IsWritten Ends (plan_from rooms s (λ t. resumed (table_setting s t) (kept t))) old new)
        → p.tables ≡ tables_of games rows
        → HostsGames read left written read_faults write_faults made number told may_leave moment left_since secured_since disk_faults IsWritten Ends rooms s old new were disks
    hosted IsWritten Ends p are = record {
      kept = kept;
      plays = p;
      had = had_kept;
      durable = λ t table was now at_table at_was at_now.
          let found_at = table_at games rows t table (played.third ∙ sym games_many) (subst (λ (ts : List (TableGame L)). slice_get ts t ≡ Some table) are at_table) in
          subst (λ (g : Game). IsDurable told may_leave moment left_since secured_since (table_setting s t) g.entries was now) (ap (λ (x : TableGame L). x.game) found_at.is)
          (durable_at all_go t found_at.game was now found_at.in_games at_was at_now);
    }

    pub hosts_by : (end : ServeEnd) → WritesGames end (text_for rooms) games old.written new.written
        → Hosts read left written read_faults write_faults made number told may_leave moment left_since secured_since disk_faults (by_serving end) rooms s old new were disks
    hosts_by serving.Over h = hosted _ _ (plays_by read left written read_faults write_faults made number rooms s (λ t. resumed (table_setting s t) (kept t)) games rows old new
        (games_many ∙ opened.many) (played.third ∙ sym games_many) ports none served back lost_each serving.Over h)
        (tables_are read left written read_faults write_faults made number rooms s (λ t. resumed (table_setting s t) (kept t)) games rows old new
        (games_many ∙ opened.many) (played.third ∙ sym games_many) ports none served back lost_each serving.Over h)
    hosts_by serving.HostLost h = hosted _ _ (plays_by read left written read_faults write_faults made number rooms s (λ t. resumed (table_setting s t) (kept t)) games rows old new
        (games_many ∙ opened.many) (played.third ∙ sym games_many) ports none served back lost_each serving.HostLost h)
        (tables_are read left written read_faults write_faults made number rooms s (λ t. resumed (table_setting s t) (kept t)) games rows old new
        (games_many ∙ opened.many) (played.third ∙ sym games_many) ports none served back lost_each serving.HostLost h)
    hosts_by serving.NotOpened h = absurd h
    hosts_by serving.WriteFault h = hosted _ _ (plays_by read left written read_faults write_faults made number rooms s (λ t. resumed (table_setting s t) (kept t)) games rows old new
        (games_many ∙ opened.many) (played.third ∙ sym games_many) ports none served back lost_each serving.WriteFault h)
        (tables_are read left written read_faults write_faults made number rooms s (λ t. resumed (table_setting s t) (kept t)) games rows old new
        (games_many ∙ opened.many) (played.third ∙ sym games_many) ports none served back lost_each serving.WriteFault h)
    hosts_by serving.NoMemory h = h
