-- What comes of games at tables of their own, which began without entries.
use Rattle.std.proofs.Common.{◌≡◌, ℕ, ◌<◌, List, [], length, sym, subst, arith}
use Rattle.std.specs.Prelude.{All, Option, Some, slice_get}
use Rattle.std.proofs.lemmas.Option.{slice_get_within}
use Rattle.mj_ports.specs.declared.entry.Entry.{Entry}
use Rattle.mj_ports.specs.declared.picking.Picked.{Picked}
use Rattle.mj_ports.specs.declared.seated.Seated.{Ghosts}
use Rattle.mj_handlers.specs.declared.visit.Session.{Session}
use Rattle.mj_handlers.specs.Handlers.{WireState}
use Rattle.mj_seats.specs.Tables.{IsPlayedIn, ArePlayed}
use Rattle.mj_handlers.specs.Picks.{at_table}
use Rattle.mj_ticker.proofs.Besides.{found, all_from, all_at}

module _ {G S A R : Type 0} (g : Ghosts G S A R) where
  abbrev pub IsNew : G → Type 0
  IsNew x = g.history x ≡ []

  module _ {L : Type 0} (at : List ℕ → L → WireState) (picks : List ℕ → Picked) (handlers n : ℕ) (r0 r1 : Option (List ℕ)) (were games : List G) (sessions : List (List (Session L)))
      (played : ArePlayed g at picks handlers r0 r1 were games sessions) where
    pub all_legal : All (λ (x : G). g.is_legal (g.setting x) (g.history x)) games
    all_legal = all_from (λ (x : G). g.is_legal (g.setting x) (g.history x)) games (λ t x e. one t x e (slice_get_within games t x e))
      where
        one : (t : ℕ) (x : G) → slice_get games t ≡ Some x → t < length games → g.is_legal (g.setting x) (g.history x)
        one t x e near =
            let was = found were t (omega (arith, near, played.second)) in
            let ss = found sessions t (omega (arith, near, played.second, played.third)) in
            let p = played.each t was.0 x ss.0 was.1 e ss.1 in
            subst (λ (s : S). g.is_legal s (g.history x)) (sym p.0) p.1

    -- the sessions at each table are told by it
    pub played_new : handlers ≡ n → All IsNew were → (mine : ℕ → List (Session L)) → ((t : ℕ) (ss : List (Session L)) → slice_get sessions t ≡ Some ss → mine t ≡ ss) → (t : ℕ) (x : G)
        → slice_get games t ≡ Some x →
        IsPlayedIn (at_table g picks t) (g.setting x) at n [] (g.history x) (mine t) r0 r1
    played_new many new mine same t x e = one (slice_get_within games t x e)
      where
        one : t < length games → IsPlayedIn (at_table g picks t) (g.setting x) at n [] (g.history x) (mine t) r0 r1
        one near =
            let was = found were t (omega (arith, near, played.second)) in
            let ss = found sessions t (omega (arith, near, played.second, played.third)) in
            let p = played.each t was.0 x ss.0 was.1 e ss.1 in
            subst (λ (k : ℕ). IsPlayedIn (at_table g picks t) (g.setting x) at k [] (g.history x) (mine t) r0 r1) many
            (subst (λ (s : S). IsPlayedIn (at_table g picks t) s at handlers [] (g.history x) (mine t) r0 r1) (sym p.0)
            (subst (λ (l : List (Entry A)). IsPlayedIn (at_table g picks t) (g.setting was.0) at handlers l (g.history x) (mine t) r0 r1) (all_at IsNew were t was.0 new was.1)
            (subst (λ (l : List (Session L)). IsPlayedIn (at_table g picks t) (g.setting was.0) at handlers (g.history was.0) (g.history x) l r0 r1) (sym (same t ss.0 ss.1)) p.2)))
