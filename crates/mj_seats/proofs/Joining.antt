-- What several handlers leave, put together.
use Rattle.std.proofs.Common.{◌≡◌, ℕ, suc, ◌+◌, ◌<◌, ◌≤◌, List, [], ◌∷◌, ◌++◌, length, get_or, take, take_all, refl, sym, ap, ◌∙◌, subst, arith}
use Rattle.std.specs.Prelude.{All, flat_map, Some, slice_get, Vec, Result, IfOk, Ok, Err}
use Rattle.std.specs.declared.alloc.Global.{Global}
use Rattle.std.proofs.lemmas.List.{length-map}
use Rattle.std.proofs.lemmas.Option.{slice_get_within, get_or_from_slice_get}
use Rattle.std.proofs.lemmas.List.Elements.{All-push}
use Rattle.std.proofs.Math.Seq.{take-suc}
use Rattle.mj_handlers.specs.declared.visit.HandlerEnd.TheVariants as end
use Rattle.mj_handlers.specs.declared.visit.Session.{Session}
use Rattle.mj_ticker.specs.Beside.{Beside}
use Rattle.mj_handlers.specs.declared.visit.HandlerEnd.{HandlerEnd}
use Rattle.mj_handlers.specs.Handlers.{WantsMemory, rows}
use Rattle.mj_seats.specs.Inner.Joined.{AreJoined}
use Rattle.mj_workers.specs.Staffs.{sessions_of}
use Rattle.mj_ticker.proofs.Besides.{found, all_at, unmapped, map_snoc}
use Rattle.mj_workers.proofs.Snocs.{flat_one}

module _ {L : Type 0} where
  abbrev items : Vec (Session L) Global → List (Session L)
  items v = v.items

  abbrev at : ℕ → List (List (Session L)) → List (Session L)
  at t k = get_or k t []

  -- without handlers there are no sessions
  pub joined_none : (tables : ℕ) (kept : List (Vec (Vec (Session L) Global) Global)) (all : List (Vec (Session L) Global)) → kept ≡ [] → length all ≡ tables
      → All (λ (v : Vec (Session L) Global). v.items ≡ []) all →
      AreJoined tables (sessions_of kept) (rows all)
  joined_none tables kept all none many empty = record {
    many = length-map all items ∙ many;
    each = λ t ss e.
        let v = unmapped items all t ss e in
        sym v.2 ∙ (all_at (λ (v : Vec (Session L) Global). v.items ≡ []) all t v.0 empty v.1 ∙
        sym (ap (λ (l : List (Vec (Vec (Session L) Global) Global)). flat_map (at t) (sessions_of l)) none));
  }

  pub joined_new : {E : Type 0} (tables : ℕ) (kept : List (Vec (Vec (Session L) Global) Global)) (r : Result (Vec (Vec (Session L) Global) Global) E) → kept ≡ [] →
      IfOk r (λ rs. length rs.items ≡ tables) → IfOk r (λ rs. All (λ row. row.items ≡ []) rs.items) → IfOk r (λ ss. AreJoined tables (sessions_of kept) (rows ss.items))
  joined_new tables kept (Ok lists) none many empty = joined_none tables kept lists.items none many empty
  joined_new tables kept (Err e) none many empty = tt

  -- one handler more
  pub joined_more : (tables : ℕ) (kept kept' : List (Vec (Vec (Session L) Global) Global)) (own : Vec (Vec (Session L) Global) Global) (olds news : List (Vec (Session L) Global))
      → kept' ≡ kept ++ own ∷ [] →
      AreJoined tables (sessions_of kept) (rows olds) →
      Beside (λ (t : ℕ) (before mine after : List (Session L)). after ≡ before ++ mine) (rows olds) (rows own.items) (rows news) → AreJoined tables (sessions_of kept') (rows news)
  joined_more tables kept kept' own olds news more joined each = record {
    many = each.third ∙ joined.many;
    each = λ t ss e. one t ss e (slice_get_within (rows news) t ss e);
  }
    where
      one : (t : ℕ) (ss : List (Session L)) → slice_get (rows news) t ≡ Some ss → t < length (rows news) → ss ≡ flat_map (at t) (sessions_of kept')
      one t ss e near =
          let old = found (rows olds) t (omega (arith, near, each.third)) in
          let mine = found (rows own.items) t (omega (arith, near, each.third, each.second)) in
          let before : old.0 ≡ flat_map (at t) (sessions_of kept) = joined.each t old.0 old.1 in
          let here : get_or (rows own.items) t [] ≡ mine.0 = get_or_from_slice_get (rows own.items) t mine.0 [] mine.1 in
          let all : sessions_of kept' ≡ sessions_of kept ++ rows own.items ∷ [] = map_snoc (λ (k : Vec (Vec (Session L) Global) Global). rows k.items) kept' kept own more in
          each.each t old.0 mine.0 ss old.1 mine.1 e ∙ (ap (λ (l : List (Session L)). l ++ mine.0) before ∙ (ap (λ (l : List (Session L)). flat_map (at t) (sessions_of kept) ++ l) (sym here) ∙
          sym (ap (flat_map (at t)) all ∙ flat_one (at t) (sessions_of kept) (rows own.items))))

module _ {F : Type 0} where
  abbrev Served : HandlerEnd F → Type 0
  Served e = WantsMemory e → ⊥

  no_want : (e : HandlerEnd F) → (e ≡ end.NoMemory → ⊥) → Served e
  no_want end.Over other w = w
  no_want (end.Host fault) other w = w
  no_want end.NoMemory other w = other refl

  -- the ends of handlers, looked at one after the other
  pub one_more : (ends seen : List (HandlerEnd F)) (i : ℕ) (e : HandlerEnd F) → seen ≡ ends → i < length seen → e ≡ get_or seen i e → (e ≡ end.NoMemory → ⊥) → All Served (take i ends) →
      All Served (take (i + 1) ends)
  one_more ends seen i e same near is other all =
      let near' : i < length ends = subst (λ (l : List (HandlerEnd F)). i < length l) same near in
      let is' : e ≡ get_or ends i e = subst (λ (l : List (HandlerEnd F)). e ≡ get_or l i e) same is in
      let long : i + 1 ≡ suc i = omega arith in
      subst (λ (n : ℕ). All Served (take n ends)) (sym long)
      (subst (λ (l : List (HandlerEnd F)). All Served l) (sym (take-suc ends i e near')) (All-push Served (take i ends) (get_or ends i e) all (subst Served is' (no_want e other))))

  pub all_looked : (ends seen : List (HandlerEnd F)) (i : ℕ) → seen ≡ ends → length seen ≤ i → All Served (take i ends) → All Served ends
  all_looked ends seen i same far all =
      subst (λ (l : List (HandlerEnd F)). All Served l) (take_all i ends (subst (λ (l : List (HandlerEnd F)). length l ≤ i) same far)) all
