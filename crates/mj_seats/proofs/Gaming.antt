-- What is so of rooms is so of the games in them, and what is so of one table is so of its game.
use Rattle.std.proofs.Common.{◌≡◌, ℕ, zero, suc, ◌+◌, ◌<◌, ◌≤◌, List, [], ◌∷◌, ◌++◌, true, length, map, sym, ap, ◌∙◌, subst, subst₂, arith}
use Rattle.std.specs.Prelude.{All, Option, Some, slice_get, Result, Ok, Err, IfOk, Vec, vec_len}
use Rattle.std.specs.declared.alloc.Global.{Global}
use Rattle.std.specs.Option.{option_to_list}
use Rattle.std.proofs.lemmas.List.{length-map}
use Rattle.std.proofs.lemmas.List.Elements.{All-nil, All-cons, All-head, All-tail}
use Rattle.mj_ports.specs.declared.entry.Entry.{Entry}
use Rattle.mj_ports.specs.declared.picking.Picked.TheVariants.{Table}
use Rattle.mj_ports.specs.declared.seated.Seated.{Ghosts}
use Rattle.mj_session.specs.Wires.{WireState}
use Rattle.mj_handlers.specs.declared.visit.HandlerEnd.TheVariants as end
use Rattle.mj_ticker.specs.Beside.{Matches, Beside}
use Rattle.mj_handlers.specs.declared.visit.HandlerEnd.{HandlerEnd}
use Rattle.mj_handlers.specs.declared.visit.Session.{Session}
use Rattle.mj_seats.specs.Tables.{EndsWith, AllEndWith, IsOver, IsPlayedIn, IsPlayedAt, ArePlayed}
use Rattle.mj_ticker.proofs.Besides.{all_at, unmapped, popped, one_less}

module _ {V G : Type 0} (f : V → G) where
  pub as_many : (rooms : List V) (games : List G) → map f rooms ≡ games → length rooms ≡ length games
  as_many rooms games e = sym (length-map rooms f) ∙ ap length e

  unmap_all : (P : G → Type 0) (rooms : List V) → All P (map f rooms) → All (λ (r : V). P (f r)) rooms
  unmap_all P [] h = All-nil (λ (r : V). P (f r))
  unmap_all P (r ∷ rs) h = All-cons (λ (x : V). P (f x)) r rs (All-head P (f r) (map f rs) h) (unmap_all P rs (All-tail P (f r) (map f rs) h))

  map_all : (P : G → Type 0) (rooms : List V) → All (λ (r : V). P (f r)) rooms → All P (map f rooms)
  map_all P [] h = All-nil P
  map_all P (r ∷ rs) h = All-cons P (f r) (map f rs) (All-head (λ (x : V). P (f x)) r rs h) (map_all P rs (All-tail (λ (x : V). P (f x)) r rs h))

  -- of games to rooms, and back
  pub to_rooms : (P : G → Type 0) (rooms : List V) (games : List G) → map f rooms ≡ games → All P games → All (λ (r : V). P (f r)) rooms
  to_rooms P rooms games e h = unmap_all P rooms (subst (λ (l : List G). All P l) (sym e) h)

  pub to_games : (P : G → Type 0) (rooms : List V) (games : List G) → games ≡ map f rooms → All (λ (r : V). P (f r)) rooms → All P games
  to_games P rooms games e h = subst (λ (l : List G). All P l) (sym e) (map_all P rooms h)

  room_at : (rooms : List V) (games : List G) → games ≡ map f rooms → (t : ℕ) (x : G) → slice_get games t ≡ Some x → (r : V) × (slice_get rooms t ≡ Some r) × (f r ≡ x)
  room_at rooms games e t x at = unmapped f rooms t x (ap (λ (l : List G). slice_get l t) (sym e) ∙ at)

  pub matches_games : (P : G → G → Type 0) (rooms rooms' : List V) (games games' : List G) → map f rooms ≡ games → games' ≡ map f rooms' →
      Matches (λ (was now : V). P (f was) (f now)) rooms rooms' → Matches P games games'
  matches_games P rooms rooms' games games' e e' m = record {
    many = ap length e' ∙ (length-map rooms' f ∙ (m.many ∙ as_many rooms games e));
    each = λ t was now a b.
        let r = room_at rooms games (sym e) t was a in
        let r' = room_at rooms' games' e' t now b in
        subst₂ P r.2 r'.2 (m.each t r.0 r'.0 r.1 r'.1);
  }

  pub beside_games : {Z : Type 0} (P : ℕ → G → G → Z → Type 0) (rooms rooms' : List V) (games games' : List G) (zs : List Z) → map f rooms ≡ games → games' ≡ map f rooms' →
      Beside (λ (t : ℕ) (was now : V) (z : Z). P t (f was) (f now) z) rooms rooms' zs → Beside P games games' zs
  beside_games {Z} P rooms rooms' games games' zs e e' m = record {
    second = ap length e' ∙ (length-map rooms' f ∙ (m.second ∙ as_many rooms games e));
    third = m.third ∙ as_many rooms games e;
    each = λ t was now z a b c.
        let r = room_at rooms games (sym e) t was a in
        let r' = room_at rooms' games' e' t now b in
        subst₂ (λ (x y : G). P t x y z) r.2 r'.2 (m.each t r.0 r'.0 z r.1 r'.1 c);
  }

module _ {F : Type 0} (P Q : Type 0) (more : P → Q) (made : F → Type 0) (number : F → ℕ) where
  end_more : (by : ℕ) (e : HandlerEnd F) → EndsWith P made number by e → EndsWith Q made number by e
  end_more by end.Over h = more h
  end_more by (end.Host fault) h = h
  end_more by end.NoMemory h = h

  pub ends_more : (n : ℕ) (es : List (HandlerEnd F)) → AllEndWith P made number n es → AllEndWith Q made number n es
  ends_more zero es h = h
  ends_more (suc n) es (before, e, is, rest, one) = (before, e, is, ends_more n before rest, end_more n e one)

module _ {X : Type 0} where
  -- the one of one that was popped
  pub sole : (xs rest : List X) (r : Option X) (x : X) → length xs ≡ 1 → xs ≡ rest ++ option_to_list r → r ≡ Some x → xs ≡ x ∷ []
  sole xs rest r x long items this = by rest (popped xs rest r x items this) (one_less xs rest r x items this)
    where
      by : (rest : List X) → xs ≡ rest ++ x ∷ [] → length xs ≡ length rest + 1 → xs ≡ x ∷ []
      by [] e l = e
      by (y ∷ rest) e l = absurd (omega (arith, long, l))

  -- there is one
  pub sole_one : (xs : List X) (x : X) → xs ≡ x ∷ [] → 1 ≤ length xs
  sole_one xs x e = let long : length xs ≡ 1 = ap length e in omega (arith, long)

  pub sole_some : (xs : List X) (x : X) → xs ≡ x ∷ [] → 0 < length xs
  sole_some xs x e = let long : length xs ≡ 1 = ap length e in omega (arith, long)

  pub one_in : (v : Vec X Global) → length v.items ≡ 1 → 0 < vec_len v
  one_in v one = let len : v.len ≡ length v.items = v.ok.0 in omega (arith, one, len)

  pub sole_at : (xs : List X) (x : X) → xs ≡ x ∷ [] → slice_get xs 0 ≡ Some x
  sole_at xs x e = ap (λ (l : List X). slice_get l 0) e

-- two things that are so of a value give a third
pub ok_both : {X E : Type 0} (r : Result X E) (P Q R : X → Type 0) → ((x : X) → P x → Q x → R x) → IfOk r P → IfOk r Q → IfOk r R
ok_both (Ok x) P Q R f a b = f x a b
ok_both (Err y) P Q R f a b = a

module _ {X : Type 0} where
  -- what is so of the one is so of all
  pub all_sole : (P : X → Type 0) (xs : List X) (x : X) → xs ≡ x ∷ [] → P x → All P xs
  all_sole P xs x e p = subst (λ (l : List X). All P l) (sym e) (All-cons P x [] p (All-nil P))

  pub all_none : (P : X → Type 0) (xs : List X) → xs ≡ [] → All P xs
  all_none P xs e = subst (λ (l : List X). All P l) (sym e) (All-nil P)

-- one game at the one table
module _ {G S A R L : Type 0} (g : Ghosts G S A R) (at : List ℕ → L → WireState) (handlers : ℕ) (r0 r1 : Option (List ℕ)) (game x : G) (were games : List G) (sessions : List (List (Session L)))
    (ss : List (Session L)) (first : were ≡ game ∷ []) (last : games ≡ x ∷ []) (own : sessions ≡ ss ∷ []) (all : ArePlayed g at (λ line. Table 0) handlers r0 r1 were games sessions) where
  one_at : IsPlayedAt g at (λ line. Table 0) handlers r0 r1 0 game x ss
  one_at = all.each 0 game x ss (sole_at were game first) (sole_at games x last) (sole_at sessions ss own)

  pub one_setting : g.setting x ≡ g.setting game
  one_setting = one_at.0

  pub one_legal : g.is_legal (g.setting game) (g.history x)
  one_legal = one_at.1

  pub one_played : g.history game ≡ [] → IsPlayedIn g (g.setting game) at handlers [] (g.history x) ss r0 r1
  one_played none = subst (λ (l : List (Entry A)). IsPlayedIn g (g.setting game) at handlers l (g.history x) ss r0 r1) none one_at.2

  pub one_ends : {F : Type 0} (made : F → Type 0) (number : F → ℕ) (ends : List (HandlerEnd F)) → AllEndWith (All (IsOver g) games) made number handlers ends →
      AllEndWith ((g.after (g.setting game) (g.history x)).over ≡ true) made number handlers ends
  one_ends made number ends h = ends_more (All (IsOver g) games) ((g.after (g.setting game) (g.history x)).over ≡ true) over made number handlers ends h
    where
      over : All (IsOver g) games → (g.after (g.setting game) (g.history x)).over ≡ true
      over k = subst (λ (s : S). (g.after s (g.history x)).over ≡ true) one_at.0 (all_at (IsOver g) games 0 x k (sole_at games x last))
