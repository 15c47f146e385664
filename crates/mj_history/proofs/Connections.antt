-- The connections of the seats: each began at a place of its own, before the next entry.
use Rattle.std.proofs.Common.{◌≡◌, ◌≢◌, ℕ, zero, suc, ◌+◌, ◌≤◌, ◌==◌, ◌&&◌, inl, inr, List, [], ◌∷◌, ◌++◌, Bool, true, false, refl, ap, ◌∙◌, sym, subst, arith, append-nil, append_assoc}
use Rattle.std.specs.Prelude.{if◌then◌else◌, Option, Some, None, option_map, slice_get, slice_set, flat_map}
use Rattle.std.proofs.lemmas.Bool.{and_parts, and_from}
use Rattle.std.proofs.lemmas.Bool.Decides.{eqb_tells}
use Rattle.std.proofs.lemmas.Option.{same_Some}
use Rattle.mj_history.specs.After.{Chair, Connection, is_present}
use Rattle.mj_history.proofs.Places.{slice_get-set_at, slice_get-set_other}
use Rattle.mj_history.specs.Shown.{is_connected, seat_at, told_by, told_in, told_at}

-- How many connections began at a place: of the earlier ones of a seat, of all of a seat, and of all seats.
abbrev pub one_if : Bool → ℕ
one_if true = 1
one_if false = 0

abbrev pub earlier_from : ℕ → List Connection → ℕ
earlier_from p [] = 0
earlier_from p (c ∷ cs) = one_if (c.place == p) + earlier_from p cs

abbrev pub begun_in : ℕ → Chair → ℕ
begun_in p chair = earlier_from p chair.earlier + one_if (chair.place == p)

abbrev pub begun_at : ℕ → List Chair → ℕ
begun_at p [] = 0
begun_at p (chair ∷ chairs) = begun_in p chair + begun_at p chairs

earlier-more : (p : ℕ) (cs : List Connection) (c : Connection) → earlier_from p (cs ++ c ∷ []) ≡ earlier_from p cs + one_if (c.place == p)
earlier-more p [] c = omega arith
earlier-more p (d ∷ cs) c = omega (arith, earlier-more p cs c)

pub earlier-append : (p : ℕ) (cs ds : List Connection) → earlier_from p (cs ++ ds) ≡ earlier_from p cs + earlier_from p ds
earlier-append p [] ds = omega arith
earlier-append p (c ∷ cs) ds = omega (arith, earlier-append p cs ds)

begun-append : (p : ℕ) (chairs : List Chair) (chair : Chair) → begun_at p (chairs ++ chair ∷ []) ≡ begun_at p chairs + begun_in p chair
begun-append p [] chair = omega arith
begun-append p (c ∷ chairs) chair = omega (arith, begun-append p chairs chair)

begun-set : (p : ℕ) (chairs : List Chair) (i : ℕ) (old new : Chair) → slice_get chairs i ≡ Some old → begun_at p (slice_set chairs i new) + begun_in p old ≡ begun_at p chairs + begun_in p new
begun-set p [] i old new e = cc
begun-set p (c ∷ cs) zero old new e = let same : begun_in p c ≡ begun_in p old = ap (begun_in p) (same_Some c old e) in omega (arith, same)
begun-set p (c ∷ cs) (suc i) old new e = omega (arith, begun-set p cs i old new e)

-- Those of a seat are among all, and those of two seats together.
pub begun-one : (p : ℕ) (chairs : List Chair) (i : ℕ) (c : Chair) → slice_get chairs i ≡ Some c → begun_in p c ≤ begun_at p chairs
begun-one p [] i c e = cc
begun-one p (d ∷ ds) zero c e = let same : begun_in p d ≡ begun_in p c = ap (begun_in p) (same_Some d c e) in omega (arith, same)
begun-one p (d ∷ ds) (suc i) c e = omega (arith, begun-one p ds i c e)

pub begun-two : (p : ℕ) (chairs : List Chair) (i j : ℕ) (c d : Chair) → i ≢ j → slice_get chairs i ≡ Some c → slice_get chairs j ≡ Some d → begun_in p c + begun_in p d ≤ begun_at p chairs
begun-two p [] i j c d ne e f = cc
begun-two p (x ∷ xs) zero zero c d ne e f = absurd (ne refl)
begun-two p (x ∷ xs) zero (suc j) c d ne e f = let same : begun_in p x ≡ begun_in p c = ap (begun_in p) (same_Some x c e) in omega (arith, same, begun-one p xs j d f)
begun-two p (x ∷ xs) (suc i) zero c d ne e f = let same : begun_in p x ≡ begun_in p d = ap (begun_in p) (same_Some x d f) in omega (arith, same, begun-one p xs i c e)
begun-two p (x ∷ xs) (suc i) (suc j) c d ne e f = omega (arith, begun-two p xs i j c d (λ s. ne (ap (λ (n : ℕ). suc n) s)) e f)

-- The newest connection of a seat is one of them, and those of two seats are two.
one_at : (p : ℕ) (d c : Chair) → Some d ≡ Some c → (c.place == p) ≡ true → one_if (d.place == p) ≡ 1
one_at p d c e h = ap (λ (x : Chair). one_if (x.place == p)) (same_Some d c e) ∙ ap one_if h

counts : (p : ℕ) (chairs : List Chair) (i : ℕ) (c : Chair) → slice_get chairs i ≡ Some c → (c.place == p) ≡ true → 1 ≤ begun_at p chairs
counts p [] i c e h = cc
counts p (d ∷ ds) zero c e h = let one : one_if (d.place == p) ≡ 1 = one_at p d c e h in omega (arith, one)
counts p (d ∷ ds) (suc i) c e h = omega (arith, counts p ds i c e h)

counts_two : (p : ℕ) (chairs : List Chair) (i j : ℕ) (c d : Chair) → i ≢ j → slice_get chairs i ≡ Some c → slice_get chairs j ≡ Some d →
    (c.place == p) ≡ true → (d.place == p) ≡ true → 2 ≤ begun_at p chairs
counts_two p [] i j c d ne e f h k = cc
counts_two p (x ∷ xs) zero zero c d ne e f h k = absurd (ne refl)
counts_two p (x ∷ xs) zero (suc j) c d ne e f h k = let one : one_if (x.place == p) ≡ 1 = one_at p x c e h in omega (arith, one, counts p xs j d f k)
counts_two p (x ∷ xs) (suc i) zero c d ne e f h k = let one : one_if (x.place == p) ≡ 1 = one_at p x d f k in omega (arith, one, counts p xs i c e h)
counts_two p (x ∷ xs) (suc i) (suc j) c d ne e f h k = omega (arith, counts_two p xs i j c d (λ s. ne (ap (λ (n : ℕ). suc n) s)) e f h k)

pub apart-at : (p : ℕ) (chairs : List Chair) (i j : ℕ) (c d : Chair) → begun_at p chairs ≤ 1 → i ≢ j → slice_get chairs i ≡ Some c →
    slice_get chairs j ≡ Some d → (c.place == p) ≡ true → (d.place == p) ≡ false
apart-at p chairs i j c d few ne e f h = by (d.place == p) refl
  where
    more : (n : ℕ) → 2 ≤ n → n ≤ 1 → ⊥
    more n a b = omega arith

    by : (b : Bool) → (d.place == p) ≡ b → (d.place == p) ≡ false
    by true k = absurd (more (begun_at p chairs) (counts_two p chairs i j c d ne e f h k) few)
    by false k = k

-- What the connections of a place were told, where there is none.
pub untold-earlier : (p : ℕ) (cs : List Connection) → earlier_from p cs ≡ 0 → flat_map (told_by p) cs ≡ []
untold-earlier p [] h = refl
untold-earlier p (c ∷ cs) h = by (c.place == p) h (untold-earlier p cs)
  where
    rest : (n : ℕ) → 0 + n ≡ 0 → n ≡ 0
    rest n e = omega arith

    by : (b : Bool) → one_if b + earlier_from p cs ≡ 0 → (earlier_from p cs ≡ 0 → flat_map (told_by p) cs ≡ []) → ((if b then c.told else []) ++ flat_map (told_by p) cs) ≡ []
    by true e f = absurd (omega arith)
    by false e f = f (rest (earlier_from p cs) e)

pub untold-in : (p : ℕ) (c : Chair) → begun_in p c ≡ 0 → told_in p c ≡ []
untold-in p c h = by (c.place == p) h
  where
    rest : (n : ℕ) → n + 0 ≡ 0 → n ≡ 0
    rest n e = omega arith

    by : (b : Bool) → earlier_from p c.earlier + one_if b ≡ 0 → (flat_map (told_by p) c.earlier ++ (if b then c.progress.told else [])) ≡ []
    by true e = absurd (omega arith)
    by false e = ap (λ (l : List ℕ). l ++ []) (untold-earlier p c.earlier (rest (earlier_from p c.earlier) e))

pub untold-at : (p : ℕ) (cs : List Chair) → begun_at p cs ≡ 0 → told_at cs p ≡ []
untold-at p [] h = refl
untold-at p (c ∷ cs) h =
    let own : told_in p c ≡ [] = untold-in p c (omega (arith, h)) in
    let others : told_at cs p ≡ [] = untold-at p cs (omega (arith, h)) in
    λ i. own i ++ others i

-- The connection of a place was told what its seat was told in it.
told-own : (p : ℕ) (c : Chair) → earlier_from p c.earlier ≡ 0 → (c.place == p) ≡ true → told_in p c ≡ c.progress.told
told-own p c n h =
    let none : flat_map (told_by p) c.earlier ≡ [] = untold-earlier p c.earlier n in
    λ i. none i ++ (if h i then c.progress.told else [])

pub told-is : (p : ℕ) (chairs : List Chair) (i : ℕ) (c : Chair) → begun_at p chairs ≤ 1 → slice_get chairs i ≡ Some c → (c.place == p) ≡ true → told_at chairs p ≡ c.progress.told
told-is p [] i c few e h = cc
told-is p (d ∷ ds) zero c few e h =
    let one : one_if (d.place == p) ≡ 1 = one_at p d c e h in
    let early : earlier_from p d.earlier ≡ 0 = omega (arith, one, few) in
    let rest : begun_at p ds ≡ 0 = omega (arith, one, few) in
    let same : d ≡ c = same_Some d c e in
    let own : told_in p d ≡ d.progress.told = told-own p d early (ap (λ (x : Chair). x.place == p) same ∙ h) in
    let others : told_at ds p ≡ [] = untold-at p ds rest in
    let both : (told_in p d ++ told_at ds p) ≡ (d.progress.told ++ []) = λ i. own i ++ others i in
    both ∙ append-nil d.progress.told ∙ ap (λ (x : Chair). x.progress.told) same
told-is p (d ∷ ds) (suc i) c few e h =
    let own : begun_in p d ≡ 0 = omega (arith, few, counts p ds i c e h) in
    let rest : begun_at p ds ≤ 1 = omega (arith, few) in
    ap (λ (l : List ℕ). l ++ told_at ds p) (untold-in p d own) ∙ told-is p ds i c rest e h

-- What the connection of a place was told stays where a seat changes and was told the same in it, or where a seat is new.
pub told-set : (p : ℕ) (chairs : List Chair) (i : ℕ) (old new : Chair) → slice_get chairs i ≡ Some old → told_in p new ≡ told_in p old → told_at (slice_set chairs i new) p ≡ told_at chairs p
told-set p [] i old new e h = cc
told-set p (c ∷ cs) zero old new e h = ap (λ (l : List ℕ). l ++ told_at cs p) (h ∙ ap (told_in p) (sym (same_Some c old e)))
told-set p (c ∷ cs) (suc i) old new e h = ap (λ (l : List ℕ). told_in p c ++ l) (told-set p cs i old new e h)

pub told-append : (p : ℕ) (chairs : List Chair) (c : Chair) → told_in p c ≡ [] → told_at (chairs ++ c ∷ []) p ≡ told_at chairs p
told-append p [] c h = ap (λ (l : List ℕ). l ++ []) h
told-append p (d ∷ ds) c h = ap (λ (l : List ℕ). told_in p d ++ l) (told-append p ds c h)

-- Whose a connection is.
pub record IsConnected (p seat : ℕ) (chairs : List Chair) : Type 0 where
  pub chair : Chair
  pub held : slice_get chairs seat ≡ Some chair
  pub present : is_present chair ≡ true
  pub place : (chair.place == p) ≡ true

pub connected-by : (p : ℕ) (chairs : List Chair) (seat : ℕ) → seat_at chairs p ≡ Some seat → IsConnected p seat chairs
connected-by p [] seat h = cc
connected-by p (c ∷ cs) seat h = by (is_connected p c) refl h (connected-by p cs)
  where
    further : (o : Option ℕ) → ((n : ℕ) → o ≡ Some n → IsConnected p n cs) → option_map (λ (n : ℕ). suc n) o ≡ Some seat → IsConnected p seat (c ∷ cs)
    further None f e = cc
    further (Some n) f e =
        let k : IsConnected p n cs = f n refl in
        subst (λ (m : ℕ). IsConnected p m (c ∷ cs)) (same_Some (suc n) seat e) (record { chair = k.chair; held = k.held; present = k.present; place = k.place })

    by : (b : Bool) → is_connected p c ≡ b → (if b then Some 0 else option_map (λ (n : ℕ). suc n) (seat_at cs p)) ≡ Some seat →
        ((n : ℕ) → seat_at cs p ≡ Some n → IsConnected p n cs) → IsConnected p seat (c ∷ cs)
    by true k e f =
        let parts = and_parts (is_present c) (c.place == p) k in
        subst (λ (m : ℕ). IsConnected p m (c ∷ cs)) (same_Some 0 seat e) (record { chair = c; held = refl; present = parts.0; place = parts.1 })
    by false k e f = further (seat_at cs p) f e

none_of : (o : Option ℕ) → option_map (λ (n : ℕ). suc n) o ≡ None → o ≡ None
none_of None h = refl
none_of (Some n) h = cc

none_here : (b : Bool) (o : Option ℕ) → (if b then Some 0 else option_map (λ (n : ℕ). suc n) o) ≡ None → (b ≡ false) × (o ≡ None)
none_here true o h = cc
none_here false o h = (refl, none_of o h)

pub not-connected : (p : ℕ) (chairs : List Chair) (i : ℕ) (c : Chair) → seat_at chairs p ≡ None → slice_get chairs i ≡ Some c → is_connected p c ≡ false
not-connected p [] i c n e = cc
not-connected p (d ∷ ds) zero c n e = ap (is_connected p) (sym (same_Some d c e)) ∙ (none_here (is_connected p d) (seat_at ds p) n).0
not-connected p (d ∷ ds) (suc i) c n e = not-connected p ds i c (none_here (is_connected p d) (seat_at ds p) n).1 e

pub nobody-at : (p : ℕ) (chairs : List Chair) → ((i : ℕ) (c : Chair) → slice_get chairs i ≡ Some c → is_connected p c ≡ false) → seat_at chairs p ≡ None
nobody-at p [] f = refl
nobody-at p (c ∷ cs) f =
    ap (λ (b : Bool). if b then Some 0 else option_map (λ (n : ℕ). suc n) (seat_at cs p)) (f 0 c refl)
    ∙ ap (option_map (λ (n : ℕ). suc n)) (nobody-at p cs (λ i d e. f (suc i) d e))

pub and_off : (a b : Bool) → b ≡ false → (a && b) ≡ false
and_off true b e = e
and_off false b e = refl

pub seat-is : (p : ℕ) (chairs : List Chair) (i : ℕ) (c : Chair) → begun_at p chairs ≤ 1 → slice_get chairs i ≡ Some c → is_present c ≡ true → (c.place == p) ≡ true → seat_at chairs p ≡ Some i
seat-is p [] i c few e a h = cc
seat-is p (d ∷ ds) zero c few e a h =
    ap (λ (b : Bool). if b then Some 0 else option_map (λ (n : ℕ). suc n) (seat_at ds p)) (ap (is_connected p) (same_Some d c e) ∙ and_from (is_present c) (c.place == p) a h)
seat-is p (d ∷ ds) (suc i) c few e a h =
    ap (λ (b : Bool). if b then Some 0 else option_map (λ (n : ℕ). suc n) (seat_at ds p)) (and_off (is_present d) (d.place == p) (off (d.place == p) few (counts p ds i c e h)))
    ∙ ap (option_map (λ (n : ℕ). suc n)) (seat-is p ds i c (omega (arith, few)) e a h)
  where
    off : (b : Bool) → earlier_from p d.earlier + one_if b + begun_at p ds ≤ 1 → 1 ≤ begun_at p ds → b ≡ false
    off true n m = absurd (omega arith)
    off false n m = refl

-- Each connection began at a place before the next entry, and no two at one.
pub record ArePlaced (entered : ℕ) (chairs : List Chair) : Type 0 where
  pub once : (p : ℕ) → begun_at p chairs ≤ 1
  pub past : (p : ℕ) → entered ≤ p → begun_at p chairs ≡ 0

-- So it is still where an entry begins none, or one at its own place.
placed-same : (n : ℕ) (chairs others : List Chair) → ArePlaced n chairs → ((p : ℕ) → begun_at p others ≡ begun_at p chairs) → ArePlaced (n + 1) others
placed-same n chairs others k e = record {
  once = λ p. subst (λ (m : ℕ). m ≤ 1) (sym (e p)) (k.once p);
  past = λ p h. e p ∙ k.past p (less n p h);
}
  where
    less : (n p : ℕ) → n + 1 ≤ p → n ≤ p
    less n p h = omega arith

placed-more : (n : ℕ) (chairs others : List Chair) → ArePlaced n chairs → ((p : ℕ) → begun_at p others ≡ begun_at p chairs + one_if (n == p)) → ArePlaced (n + 1) others
placed-more n chairs others k e = record {
  once = λ p. elim (eqb_tells n p) [
    | inl s ↦ at_new (begun_at p others) (begun_at p chairs) (n == p) s.0 (k.past p (same n p s.1)) (e p)
    | inr s ↦ at_other (begun_at p others) (begun_at p chairs) (n == p) s.0 (k.once p) (e p)
  ];
  past = λ p h. elim (eqb_tells n p) [
    | inl s ↦ absurd (behind n p h s.1)
    | inr s ↦ none_past (begun_at p others) (begun_at p chairs) (n == p) s.0 (k.past p (less n p h)) (e p)
  ];
}
  where
    same : (n p : ℕ) → n ≡ p → n ≤ p
    same n p s = omega arith

    less : (n p : ℕ) → n + 1 ≤ p → n ≤ p
    less n p h = omega arith

    behind : (n p : ℕ) → n + 1 ≤ p → n ≡ p → ⊥
    behind n p h s = omega arith

    at_new : (m o : ℕ) (b : Bool) → b ≡ true → o ≡ 0 → m ≡ o + one_if b → m ≤ 1
    at_new m o true s z f = omega arith
    at_new m o false s z f = omega arith

    at_other : (m o : ℕ) (b : Bool) → b ≡ false → o ≤ 1 → m ≡ o + one_if b → m ≤ 1
    at_other m o true s z f = cc
    at_other m o false s z f = omega arith

    none_past : (m o : ℕ) (b : Bool) → b ≡ false → o ≡ 0 → m ≡ o + one_if b → m ≡ 0
    none_past m o true s z f = cc
    none_past m o false s z f = omega arith

-- A seat keeps its connections, is new, or has a connection more.
pub placed-kept : (n : ℕ) (chairs : List Chair) (i : ℕ) (old new : Chair) → ArePlaced n chairs → slice_get chairs i ≡ Some old →
    new.place ≡ old.place → new.earlier ≡ old.earlier → ArePlaced (n + 1) (slice_set chairs i new)
placed-kept n chairs i old new k e same early = placed-same n chairs (slice_set chairs i new) k (λ p. same_number p (begun-set p chairs i old new e))
  where
    in_both : (p : ℕ) → begun_in p new ≡ begun_in p old
    in_both p = λ j. earlier_from p (early j) + one_if (same j == p)

    cancel : (m o a b : ℕ) → m + a ≡ o + b → b ≡ a → m ≡ o
    cancel m o a b e f = omega arith

    same_number : (p : ℕ) → begun_at p (slice_set chairs i new) + begun_in p old ≡ begun_at p chairs + begun_in p new → begun_at p (slice_set chairs i new) ≡ begun_at p chairs
    same_number p s = cancel (begun_at p (slice_set chairs i new)) (begun_at p chairs) (begun_in p old) (begun_in p new) s (in_both p)

pub placed-new : (n : ℕ) (chairs : List Chair) (new : Chair) → ArePlaced n chairs → new.place ≡ n → new.earlier ≡ [] → ArePlaced (n + 1) (chairs ++ new ∷ [])
placed-new n chairs new k at early = placed-more n chairs (chairs ++ new ∷ []) k (λ p. begun-append p chairs new ∙ ap (λ (m : ℕ). begun_at p chairs + m) (alone p))
  where
    none_more : (m : ℕ) → 0 + m ≡ m
    none_more m = omega arith

    alone : (p : ℕ) → begun_in p new ≡ one_if (n == p)
    alone p =
        let parts : begun_in p new ≡ 0 + one_if (n == p) = λ j. earlier_from p (early j) + one_if (at j == p) in
        parts ∙ none_more (one_if (n == p))

pub placed-again : (n : ℕ) (chairs : List Chair) (i : ℕ) (old new : Chair) → ArePlaced n chairs → slice_get chairs i ≡ Some old → new.place ≡ n
    → new.earlier ≡ old.earlier ++ (let c : Connection = record { place = old.place; told = old.progress.told } in c) ∷ [] → ArePlaced (n + 1) (slice_set chairs i new)
placed-again n chairs i old new k e at early = placed-more n chairs (slice_set chairs i new) k (λ p. one_more p (begun-set p chairs i old new e))
  where
    last : Connection
    last = record { place = old.place; told = old.progress.told }

    in_both : (p : ℕ) → begun_in p new ≡ begun_in p old + one_if (n == p)
    in_both p =
        let parts : begun_in p new ≡ earlier_from p (old.earlier ++ (let c : Connection = record { place = old.place; told = old.progress.told } in
        c) ∷ []) + one_if (n == p) = λ j. earlier_from p (early j) + one_if (at j == p) in
        parts ∙ ap (λ (m : ℕ). m + one_if (n == p)) (earlier-more p old.earlier (record { place = old.place; told = old.progress.told }))

    cancel : (m o a b c : ℕ) → m + a ≡ o + b → b ≡ a + c → m ≡ o + c
    cancel m o a b c e f = omega arith

    one_more : (p : ℕ) → begun_at p (slice_set chairs i new) + begun_in p old ≡ begun_at p chairs + begun_in p new → begun_at p (slice_set chairs i new) ≡ begun_at p chairs + one_if (n == p)
    one_more p s = cancel (begun_at p (slice_set chairs i new)) (begun_at p chairs) (begun_in p old) (begun_in p new) (one_if (n == p)) s (in_both p)

-- No seat has a connection that began at a place, still where a seat changes or is new.
pub nobody-set : (p : ℕ) (chairs : List Chair) (i : ℕ) (old new : Chair) → seat_at chairs p ≡ None → slice_get chairs i ≡ Some old →
    is_connected p new ≡ false → seat_at (slice_set chairs i new) p ≡ None
nobody-set p chairs i old new n e off = nobody-at p (slice_set chairs i new) (λ j d f. elim (eqb_tells i j) [
  | inl s ↦ ap (is_connected p) (same_Some d new (sym f ∙ ap (slice_get (slice_set chairs i new)) (sym s.1) ∙ slice_get-set_at chairs i new old e)) ∙ off
  | inr s ↦ not-connected p chairs j d n (sym (slice_get-set_other chairs i j new s.1) ∙ f)
])

pub nobody-append : (p : ℕ) (chairs : List Chair) (new : Chair) → seat_at chairs p ≡ None → is_connected p new ≡ false → seat_at (chairs ++ new ∷ []) p ≡ None
nobody-append p [] new n off = ap (λ (b : Bool). if b then Some 0 else None) off
nobody-append p (d ∷ ds) new n off =
    let parts = none_here (is_connected p d) (seat_at ds p) n in
    ap (λ (b : Bool). if b then Some 0 else option_map (λ (m : ℕ). suc m) (seat_at (ds ++ new ∷ []) p)) parts.0
    ∙ ap (option_map (λ (m : ℕ). suc m)) (nobody-append p ds new parts.1 off)

-- What a seat was told in connections that began elsewhere than its newest.
pub told-elsewhere : (p : ℕ) (old new : Chair) → new.earlier ≡ old.earlier → new.place ≡ old.place → (old.place == p) ≡ false → told_in p new ≡ told_in p old
told-elsewhere p old new early at off =
    let mine : told_in p new ≡ flat_map (told_by p) old.earlier ++ [] = λ i. flat_map (told_by p) (early i) ++ (if (ap (λ (n : ℕ). n == p) at ∙ off) i then new.progress.told else []) in
    let theirs : told_in p old ≡ flat_map (told_by p) old.earlier ++ [] = λ i. flat_map (told_by p) old.earlier ++ (if off i then old.progress.told else []) in
    mine ∙ sym theirs

told-last : (p : ℕ) (cs : List Connection) (c : Connection) → flat_map (told_by p) (cs ++ c ∷ []) ≡ flat_map (told_by p) cs ++ told_by p c
told-last p [] c = append-nil (told_by p c)
told-last p (d ∷ cs) c = ap (λ (l : List ℕ). told_by p d ++ l) (told-last p cs c) ∙ sym (append_assoc (told_by p d) (flat_map (told_by p) cs) (told_by p c))

pub told-again-elsewhere : (p : ℕ) (old new : Chair) → new.earlier ≡ old.earlier ++ (let c : Connection = record {
  place = old.place;
  told = old.progress.told;
} in c) ∷ [] → (new.place == p) ≡ false → told_in p new ≡ told_in p old
told-again-elsewhere p old new early off =
    let mine : told_in p new ≡ flat_map (told_by p) (old.earlier ++ (let c : Connection = record { place = old.place; told = old.progress.told } in c) ∷ []) ++ [] =
    λ i. flat_map (told_by p) (early i) ++ (if off i then new.progress.told else []) in
    mine ∙ append-nil _ ∙ told-last p old.earlier (record { place = old.place; told = old.progress.told })

pub placed-idle : (n : ℕ) (chairs : List Chair) → ArePlaced n chairs → ArePlaced (n + 1) chairs
placed-idle n chairs k = placed-same n chairs chairs k (λ p. refl)
