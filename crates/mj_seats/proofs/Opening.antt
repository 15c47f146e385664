-- Turns that are made of tables, and tables whose turns have ended.
use Rattle.std.proofs.Common.{◌≡◌, ℕ, ◌+◌, ◌<◌, ◌≤◌, List, [], ◌++◌, length, refl, sym, ap, ◌∙◌, subst, arith, append_assoc, append-nil}
use Rattle.std.specs.Prelude.{All, Some, slice_get, Vec, vec_len, vec_capacity}
use Rattle.std.specs.declared.alloc.Global.{Global}
use Rattle.std.proofs.lemmas.Option.{slice_get_within}
use Rattle.turn_lock.specs.Passes.{TurnState, PassState}
use Rattle.turn_lock.specs.Turns.{IsIdle, IsSeenIn, passes_from}
use Rattle.mj_ports.specs.declared.entry.Entry.{Entry}
use Rattle.mj_ports.specs.declared.seated.Seated.{Ghosts}
use Rattle.mj_ports.specs.Entries.{author_of}
use Rattle.mj_ticker.specs.Beside.{Matches}
use Rattle.mj_seats.specs.Tables.{ComesBack}
use Rattle.mj_seats.specs.Inner.Opened.{IsOpened, IsFullRow, IsClosed, AllClosed}
use Rattle.mj_workers.specs.Staffs.{IsNewRow}
use Rattle.mj_workers.proofs.Rows.{count_from, each_from}
use Rattle.mj_ticker.proofs.Besides.{same_some, found, all_at, all_from}

-- how many passes so many handlers and a ticker have
pub passes_some : (handlers : ℕ) → 0 < handlers + 1
passes_some handlers = omega arith

pub passes_few : (handlers : ℕ) → handlers < 64 → handlers + 1 ≤ 64
passes_few handlers few = omega (arith, few)

pub no_more : (count handlers : ℕ) → count ≡ handlers → count ≤ handlers + 1
no_more count handlers is = omega (arith, is)

-- what stands for each of some has room where these stood
pub room_back : {X Y : Type 0} (turns : Vec X Global) (tables left : Vec Y Global) → length turns.items ≡ length tables.items → vec_capacity left ≡ vec_capacity tables →
    vec_len turns ≤ vec_capacity left
room_back turns tables left many room =
    let long : turns.len ≡ length turns.items = turns.ok.0 in
    let were : tables.len ≡ length tables.items = tables.ok.0 in
    omega (arith, many, room, long, were, tables.ok.1)

-- one more than so many
pub one_after : {X : Type 0} (many : ℕ) (before after : Vec X Global) → length before.items ≡ many → vec_len after ≡ vec_len before + 1 → vec_len after ≡ many + 1
one_after many before after long more =
    let len : before.len ≡ length before.items = before.ok.0 in
    omega (arith, long, more, len)

module _ {T S N : Type 0} (setting : T → S) (notes : T → List N) where
  -- the row of a turn that was made of this value, whose notes go by two names
  pub new_row : (count : ℕ) (x : T) (named : T → List N) (turn : TurnState T) (row : List (PassState T S N)) → turn.opening ≡ x → named x ≡ notes x →
      row ≡ passes_from turn.id (setting x) (named x) count → IsNewRow setting notes count turn row
  new_row count x named turn row opened same is =
      is ∙ (ap (λ (l : List N). passes_from turn.id (setting x) l count) same ∙ ap (λ (y : T). passes_from turn.id (setting y) (notes y) count) (sym opened))

  -- new rows are full
  pub full_new : (count : ℕ) (turn : TurnState T) (row : List (PassState T S N)) → turn.passes ≡ count → IsNewRow setting notes count turn row → IsFullRow setting turn row
  full_new count turn row passes new = record {
    all = ap length new ∙ (count_from turn (setting turn.opening) (notes turn.opening) count ∙ sym passes);
    idle = subst (λ (l : List (PassState T S N)). All (IsIdle setting turn) l) (sym new)
        (each_from turn (setting turn.opening) (notes turn.opening) (IsIdle setting turn) count (λ k. record { turn_is = refl; setting_is = refl; busy_is = refl }));
  }

  pub full_all : (count : ℕ) (turns : List (TurnState T)) (rows : List (List (PassState T S N))) → All (λ (turn : TurnState T). turn.passes ≡ count) turns →
      Matches (IsNewRow setting notes count) turns rows → Matches (IsFullRow setting) turns rows
  full_all count turns rows many new = record {
    many = new.many;
    each = λ t turn row eu er. full_new count turn row (all_at (λ (u : TurnState T). u.passes ≡ count) turns t turn many eu) (new.each t turn row eu er);
  }

  pub full_opened : (count : ℕ) (tables : List T) (turns : List (TurnState T)) (rows : List (List (PassState T S N))) → Matches (IsOpened count) tables turns →
      Matches (IsNewRow setting notes count) turns rows → Matches (IsFullRow setting) turns rows
  full_opened count tables turns rows opened new = record {
    many = new.many;
    each = λ t turn row eu er.
        let x = found tables t (omega (arith, slice_get_within turns t turn eu, opened.many)) in
        full_new count turn row (opened.each t x.0 turn x.1 eu).passes_are (new.each t turn row eu er);
  }

-- turns that were made with so many passes have so many
pub passes_of_all : {T : Type 0} (count : ℕ) (tables : List T) (turns : List (TurnState T)) → Matches (IsOpened count) tables turns → All (λ (turn : TurnState T). turn.passes ≡ count) turns
passes_of_all {T} count tables turns m = all_from (λ (turn : TurnState T). turn.passes ≡ count) turns (λ t turn e.
    let x = found tables t (omega (arith, slice_get_within turns t turn e, m.many)) in
    (m.each t x.0 turn x.1 e).passes_are)

module _ {T S A R : Type 0} (g : Ghosts T S A R) where
  -- a table comes back as it is
  pub back_one : (x : T) → ComesBack g x x
  back_one x = (refl, ([], append-nil (g.history x)))

  pub back_itself : (tables : List T) → Matches (ComesBack g) tables tables
  back_itself tables = record { many = refl; each = λ t was now a b. subst (λ (x : T). ComesBack g was x) (same_some was now (sym a ∙ b)) (back_one was) }

  module _ (setting : T → S) (same : (x : T) → setting x ≡ g.setting x) where
    -- a table whose turn has ended comes back, where one of its passes began with its history
    pub back_closed : (was table : T) (turn : TurnState T) (row : List (PassState T S (Entry A))) (p : PassState T S (Entry A)) (since : List (Entry A)) → turn.opening ≡ was →
        IsClosed g setting turn row table → IsSeenIn author_of (g.history table) p → p.seen ≡ g.history was ++ since → ComesBack g was table
    back_closed was table turn row p since opened closed seen grown = (
      closed.setting_is ∙ (ap setting opened ∙ same was),
      (since ++ seen.begins.0, longer (g.history was) since seen.begins.0 p.seen (g.history table) grown seen.begins.1),
    )
      where
        longer : (xs ys zs mid all : List (Entry A)) → mid ≡ xs ++ ys → mid ++ zs ≡ all → xs ++ (ys ++ zs) ≡ all
        longer xs ys zs mid all e f = sym (append_assoc xs ys zs) ∙ (ap (λ (l : List (Entry A)). l ++ zs) (sym e) ∙ f)

    -- tables whose turns were made new and have ended come back
    pub back_new : (count : ℕ) (tables olds : List T) (turns : List (TurnState T)) (rows : List (List (PassState T S (Entry A)))) → 0 < count → Matches (IsOpened count) olds turns →
        Matches (IsNewRow setting g.history count) turns rows → AllClosed g setting turns rows tables → Matches (ComesBack g) olds tables
    back_new count tables olds turns rows some opened new closed = record {
      many = closed.third ∙ opened.many;
      each = λ t was table ew et. one t was table ew et (slice_get_within olds t was ew);
    }
      where
        one : (t : ℕ) (was table : T) → slice_get olds t ≡ Some was → slice_get tables t ≡ Some table → t < length olds → ComesBack g was table
        one t was table ew et near =
            let turn = found turns t (omega (arith, near, opened.many)) in
            let row = found rows t (omega (arith, near, opened.many, new.many)) in
            let o = opened.each t was turn.0 ew turn.1 in
            let n = new.each t turn.0 row.0 turn.1 row.1 in
            let c = closed.each t turn.0 row.0 table turn.1 row.1 et in
            let long : length row.0 ≡ count = ap length n ∙ count_from turn.0 (setting turn.0.opening) (g.history turn.0.opening) count in
            let p = found row.0 0 (omega (arith, some, long)) in
            let seen : p.0.seen ≡ g.history was ++ [] = all_at (λ (q : PassState T S (Entry A)). q.seen ≡ g.history was ++ []) row.0 0 p.0
            (subst (λ (l : List (PassState T S (Entry A))). All (λ (q : PassState T S (Entry A)). q.seen ≡ g.history was ++ []) l) (sym n)
            (each_from turn.0 (setting turn.0.opening) (g.history turn.0.opening) (λ (q : PassState T S (Entry A)). q.seen ≡ g.history was ++ []) count
            (λ k. ap g.history o.opening_is ∙ sym (append-nil (g.history was))))) p.1 in
            back_closed was table turn.0 row.0 p.0 [] o.opening_is c (all_at (IsSeenIn author_of (g.history table)) row.0 0 p.0 c.seen p.1) seen
