-- The sessions at each of many tables, one session more at a time, and one table more.
use Rattle.std.proofs.Common.{◌≡◌, inl, inr, ℕ, ◌<◌, ◌==◌, if◌then◌else◌, Bool, true, false, List, [], ◌∷◌, ◌++◌, length, refl, sym, ap, ◌∙◌, subst, arith, append_assoc, append-nil}
use Rattle.std.specs.Prelude.{All, Some, slice_get}
use Rattle.std.proofs.lemmas.List.Elements.{All-head, All-tail}
use Rattle.std.proofs.lemmas.Option.{slice_get_within}
use Rattle.mj_handlers.specs.declared.visit.Session.{Session}
use Rattle.mj_tables.specs.declared.closed.TableSession.{TableSession}
use Rattle.mj_tables.specs.Tables.{sessions_at}
use Rattle.mj_ticker.proofs.Besides.{at_snoc}

same_number : (n : ℕ) → (n == n) ≡ true
same_number n = grind arith

other_number : (n m : ℕ) → m < n → (n == m) ≡ false
other_number n m ne = grind (arith, ne)

less_number : (n m : ℕ) → n < m → (n == m) ≡ false
less_number n m ne = grind (arith, ne)

module _ {L : Type 0} where
  -- one session more
  pub sessions_more : (t table : ℕ) (ss : List (TableSession L)) (s : Session L) → sessions_at t (ss ++ record { table = table; session = s } ∷ []) ≡
      (if table == t then sessions_at t ss ++ s ∷ [] else sessions_at t ss)
  sessions_more t table [] s = refl
  sessions_more t table (x ∷ ss) s = by (x.table == t) (table == t) (sessions_more t table ss s)
    where
      by : (b c : Bool) → sessions_at t (ss ++ record { table = table; session = s } ∷ []) ≡ (if c then sessions_at t ss ++ s ∷ [] else sessions_at t ss)
          → (if b then x.session ∷ sessions_at t (ss ++ record { table = table; session = s } ∷ []) else sessions_at t (ss ++ record {
            table = table;
            session = s;
          } ∷ [])) ≡ (if c then (if b then x.session ∷ sessions_at t ss else sessions_at t ss) ++ s ∷ []
          else (if b then x.session ∷ sessions_at t ss else sessions_at t ss))
      by true true e = ap (λ (l : List (Session L)). x.session ∷ l) e
      by true false e = ap (λ (l : List (Session L)). x.session ∷ l) e
      by false true e = e
      by false false e = e

  -- the last session more after the others of its table
  pub sessions_last : (t table : ℕ) (old mid new : List (TableSession L)) (own : List (Session L)) (s : Session L) (all : List (Session L)) → all ≡ own ++ s ∷ [] →
      new ≡ mid ++ record { table = table; session = s } ∷ [] → sessions_at t mid ≡ (if table == t then sessions_at t old ++ own else sessions_at t old)
      → sessions_at t new ≡ (if table == t then sessions_at t old ++ all else sessions_at t old)
  sessions_last t table old mid new own s all ea en h = ap (sessions_at t) en ∙ (sessions_more t table mid s ∙ by (table == t) h)
    where
      by : (b : Bool) → sessions_at t mid ≡ (if b then sessions_at t old ++ own else sessions_at t old)
          → (if b then sessions_at t mid ++ s ∷ [] else sessions_at t mid) ≡ (if b then sessions_at t old ++ all else sessions_at t old)
      by true e = ap (λ (l : List (Session L)). l ++ s ∷ []) e ∙ (append_assoc (sessions_at t old) own (s ∷ []) ∙ ap (λ (l : List (Session L)). sessions_at t old ++ l) (sym ea))
      by false e = e

  pub none_more : (t table : ℕ) (old : List (TableSession L)) (own : List (Session L)) → own ≡ [] → sessions_at t old ≡ (if table == t then sessions_at t old ++ own else sessions_at t old)
  none_more t table old own e = by (table == t)
    where
      by : (b : Bool) → sessions_at t old ≡ (if b then sessions_at t old ++ own else sessions_at t old)
      by true = sym (append-nil (sessions_at t old)) ∙ ap (λ (l : List (Session L)). sessions_at t old ++ l) (sym e)
      by false = refl

  -- no session is at a table past the others
  past_none : (t : ℕ) (ss : List (TableSession L)) → All (λ (s : TableSession L). s.table < t) ss → sessions_at t ss ≡ []
  past_none t [] h = refl
  past_none t (s ∷ ss) h =
      ap (λ (b : Bool). if b then s.session ∷ sessions_at t ss else sessions_at t ss) (less_number s.table t (All-head (λ (x : TableSession L). x.table < t) s ss h))
      ∙ past_none t ss (All-tail (λ (x : TableSession L). x.table < t) s ss h)

  -- one table more
  pub table_more : (tables all : List (List (Session L))) (own : List (Session L)) (table : ℕ) (old new : List (TableSession L)) → all ≡ tables ++ own ∷ [] → table ≡ length tables →
      ((t : ℕ) (ss : List (Session L)) → slice_get tables t ≡ Some ss → sessions_at t old ≡ ss) → All (λ (s : TableSession L). s.table < length tables) old →
      ((t : ℕ) → sessions_at t new ≡ (if table == t then sessions_at t old ++ own else sessions_at t old)) → (t : ℕ) (ss : List (Session L)) → slice_get all t ≡ Some ss → sessions_at t new ≡ ss
  table_more tables all own table old new ea here before below more t ss e =
      elim (at_snoc tables own t ss (ap (λ (l : List (List (Session L))). slice_get l t) (sym ea) ∙ e)) [
        | inl h ↦ more t ∙ (ap (λ (b : Bool). if b then sessions_at t old ++ own else sessions_at t old) (other_number table t (low h)) ∙ before t ss h)
        | inr h ↦ more t ∙ (ap (λ (b : Bool). if b then sessions_at t old ++ own else sessions_at t old) (is h.0) ∙ (ap (λ (l : List (Session L)). l ++ own) (none h.0) ∙ h.1))
      ]
    where
      low : slice_get tables t ≡ Some ss → t < table
      low h = omega (arith, slice_get_within tables t ss h, here)

      is : t ≡ length tables → (table == t) ≡ true
      is h = ap (λ (n : ℕ). n == t) (here ∙ sym h) ∙ same_number t

      none : t ≡ length tables → sessions_at t old ≡ []
      none h = past_none t old (subst (λ (n : ℕ). All (λ (s : TableSession L). s.table < n) old) (sym h) below)
