-- The seats of a state: what its desk and its chairs have of them, put together.
use Rattle.std.proofs.Common.{◌≡◌, ℕ, zero, suc, ◌+◌, ◌<◌, List, [], ◌∷◌, ◌++◌, length, map, Bool, refl, ap, ◌∙◌, sym, subst, arith}
use Rattle.std.specs.Prelude.{Option, Some, is_some, option_map, slice_get, slice_set}
use Rattle.std.specs.Option.{option_map_or}
use Rattle.std.proofs.lemmas.List.{length-append, length-set, map-append, map-set}
use Rattle.std.proofs.lemmas.Option.{same_Some, slice_get-map}
use Rattle.mj_seating.specs.Sitting.{Occupant, changed_at, gone, is_present_at}
use Rattle.mj_history.specs.After.{Chair, Verdict, Taken, Late, Refused, Closing, author_after, is_present, name_at}
use Rattle.mj_history.specs.Sitting.{held_of}
use Rattle.mj_umpire.specs.Inner.States.{chair_of, chairs_of, AreSeated, desk_after}
use Rattle.mj_umpire.specs.declared.chair.Chair.{Chair as Player}

same_suc : (a b : ℕ) → suc a ≡ suc b → a ≡ b
same_suc a b e = omega arith

-- What stands at a place within a list.
pub there : {A : Type 0} (xs : List A) (i : ℕ) → i < length xs → (x : A) × (slice_get xs i ≡ Some x)
there [] i h = absurd (omega arith)
there (x ∷ xs) zero h = (x, refl)
there (x ∷ xs) (suc i) h = there xs i (less i (length xs) h)
  where
    less : (i n : ℕ) → suc i < suc n → i < n
    less i n h = omega arith

-- What is put where it stands changes nothing.
set-same : {A : Type 0} (xs : List A) (i : ℕ) (x : A) → slice_get xs i ≡ Some x → slice_set xs i x ≡ xs
set-same [] i x e = refl
set-same (y ∷ ys) zero x e = ap (λ z. z ∷ ys) (sym (same_Some y x e))
set-same (y ∷ ys) (suc i) x e = ap (λ zs. y ∷ zs) (set-same ys i x e)

pub chairs_of-get : (desk : List Occupant) (players : List Player) (seat : ℕ) (h : Occupant) (p : Player) → slice_get desk seat ≡ Some h → slice_get players seat ≡ Some p
    → slice_get (chairs_of desk players) seat ≡ Some (chair_of h p)
chairs_of-get [] players seat h p e f = cc
chairs_of-get (d ∷ desk) [] seat h p e f = cc
chairs_of-get (d ∷ desk) (q ∷ players) zero h p e f = ap (λ (x : Occupant). Some (chair_of x q)) (same_Some d h e) ∙ ap (λ (x : Player). Some (chair_of h x)) (same_Some q p f)
chairs_of-get (d ∷ desk) (q ∷ players) (suc seat) h p e f = chairs_of-get desk players seat h p e f

pub chairs_of-set : (desk : List Occupant) (players : List Player) (seat : ℕ) (h : Occupant) (p : Player) →
    chairs_of (slice_set desk seat h) (slice_set players seat p) ≡ slice_set (chairs_of desk players) seat (chair_of h p)
chairs_of-set [] players seat h p = refl
chairs_of-set (d ∷ desk) [] zero h p = refl
chairs_of-set (d ∷ desk) [] (suc seat) h p = refl
chairs_of-set (d ∷ desk) (q ∷ players) zero h p = refl
chairs_of-set (d ∷ desk) (q ∷ players) (suc seat) h p = ap (λ (cs : List Chair). chair_of d q ∷ cs) (chairs_of-set desk players seat h p)

pub chairs_of-append : (desk : List Occupant) (players : List Player) (h : Occupant) (p : Player) → length players ≡ length desk →
    chairs_of (desk ++ h ∷ []) (players ++ p ∷ []) ≡ chairs_of desk players ++ chair_of h p ∷ []
chairs_of-append [] [] h p e = refl
chairs_of-append [] (q ∷ players) h p e = absurd (omega arith)
chairs_of-append (d ∷ desk) [] h p e = absurd (omega arith)
chairs_of-append (d ∷ desk) (q ∷ players) h p e = ap (λ (cs : List Chair). chair_of d q ∷ cs) (chairs_of-append desk players h p (same_suc (length players) (length desk) e))

pub chairs_of-length : (desk : List Occupant) (players : List Player) → length players ≡ length desk → length (chairs_of desk players) ≡ length desk
chairs_of-length [] players e = refl
chairs_of-length (d ∷ desk) [] e = absurd (omega arith)
chairs_of-length (d ∷ desk) (q ∷ players) e = ap suc (chairs_of-length desk players (same_suc (length players) (length desk) e))

-- A seat that changes, at the desk and in its chair.
held_is : (h : Occupant) (p : Player) → h.present ≡ is_some p.author → held_of (chair_of h p) ≡ h
held_is h p e = ap (λ (b : Bool). let r : Occupant = record { present = b; name = h.name; key = h.key; returns = h.returns } in r) (sym e)

pub seated-set : (desk : List Occupant) (players : List Player) (seat : ℕ) (h : Occupant) (p : Player) → AreSeated desk players →
    h.present ≡ is_some p.author → AreSeated (slice_set desk seat h) (slice_set players seat p)
seated-set desk players seat h p s e = record {
  many = length-set players seat p ∙ s.many ∙ sym (length-set desk seat h);
  held =
      ap (map held_of) (chairs_of-set desk players seat h p) ∙ map-set held_of (chairs_of desk players) seat (chair_of h p)
      ∙ ap (λ (d : List Occupant). slice_set d seat (held_of (chair_of h p))) s.held ∙ ap (slice_set desk seat) (held_is h p e);
}

pub seated-append : (desk : List Occupant) (players : List Player) (h : Occupant) (p : Player) → AreSeated desk players → h.present ≡ is_some p.author → AreSeated (desk ++ h ∷ []) (players ++ p ∷ [])
seated-append desk players h p s e = record {
  many = length-append players (p ∷ []) ∙ ap (λ (n : ℕ). n + 1) s.many ∙ sym (length-append desk (h ∷ []));
  held =
      ap (map held_of) (chairs_of-append desk players h p s.many) ∙ map-append held_of (chairs_of desk players) (chair_of h p ∷ [])
      ∙ ap (λ (d : List Occupant). d ++ held_of (chair_of h p) ∷ []) s.held ∙ ap (λ (x : Occupant). desk ++ x ∷ []) (held_is h p e);
}

-- Who is present at the desk is so by an author.
pub present-is : (desk : List Occupant) (players : List Player) (seat : ℕ) (h : Occupant) (p : Player) → AreSeated desk players →
    slice_get desk seat ≡ Some h → slice_get players seat ≡ Some p → h.present ≡ is_some p.author
present-is desk players seat h p s e f =
    ap (λ (x : Occupant). x.present)
    (same_Some h (held_of (chair_of h p))
    (sym e ∙ ap (λ (d : List Occupant). slice_get d seat) (sym s.held) ∙ slice_get-map held_of (chairs_of desk players) seat
    ∙ ap (option_map held_of) (chairs_of-get desk players seat h p e f)))

-- The two parts of a held seat.
pub record HasParts (desk : List Occupant) (players : List Player) (seat : ℕ) : Type 0 where
  pub h : Occupant
  pub p : Player
  pub at_desk : slice_get desk seat ≡ Some h
  pub at_chair : slice_get players seat ≡ Some p
  pub present : h.present ≡ is_some p.author

pub parts-at : (desk : List Occupant) (players : List Player) (seat : ℕ) → AreSeated desk players → seat < length players → HasParts desk players seat
parts-at desk players seat s k =
    let at_chair = there players seat k in
    let at_desk = there desk seat (subst (λ (n : ℕ). seat < n) s.many k) in
    record { h = at_desk.0; p = at_chair.0; at_desk = at_desk.1; at_chair = at_chair.1; present = present-is desk players seat at_desk.0 at_chair.0 s at_desk.1 at_chair.1 }

-- What becomes of the desk's part of a seat.
pub changed-is : (desk : List Occupant) (seat : ℕ) (change : Occupant → Occupant) (h : Occupant) → slice_get desk seat ≡ Some h → changed_at desk seat change ≡ slice_set desk seat (change h)
changed-is desk seat change h e = ap (λ (o : Option Occupant). option_map_or (λ one. slice_set desk seat (change one)) o desk) e

abbrev pub held_after : Verdict → Occupant → Occupant
held_after (Closing rule) h = gone h
held_after other h = h

pub desk_after-is : (v : Verdict) (desk : List Occupant) (seat : ℕ) (h : Occupant) → slice_get desk seat ≡ Some h → desk_after v desk seat ≡ slice_set desk seat (held_after v h)
desk_after-is Taken desk seat h e = sym (set-same desk seat h e)
desk_after-is Late desk seat h e = sym (set-same desk seat h e)
desk_after-is (Refused rule) desk seat h e = sym (set-same desk seat h e)
desk_after-is (Closing rule) desk seat h e = changed-is desk seat gone h e

pub held_after-present : (v : Verdict) (h : Occupant) (author : Option ℕ) → h.present ≡ is_some author → (held_after v h).present ≡ is_some (author_after v author)
held_after-present Taken h author e = e
held_after-present Late h author e = e
held_after-present (Refused rule) h author e = e
held_after-present (Closing rule) h author e = refl

-- Who is present, of four.
four_present : (cs : List Chair) → length cs ≡ 4
    → (is_present_at (map held_of cs) 0 ∷ is_present_at (map held_of cs) 1 ∷ is_present_at (map held_of cs) 2 ∷ is_present_at (map held_of cs) 3 ∷ []) ≡ map is_present cs
four_present [] n = absurd (omega arith)
four_present (a ∷ []) n = absurd (omega arith)
four_present (a ∷ b ∷ []) n = absurd (omega arith)
four_present (a ∷ b ∷ c ∷ []) n = absurd (omega arith)
four_present (a ∷ b ∷ c ∷ d ∷ []) n = refl
four_present (a ∷ b ∷ c ∷ d ∷ e ∷ cs) n = absurd (omega arith)

pub presence-is : (desk : List Occupant) (players : List Player) → AreSeated desk players → length desk ≡ 4
    → (is_present_at desk 0 ∷ is_present_at desk 1 ∷ is_present_at desk 2 ∷ is_present_at desk 3 ∷ []) ≡ map is_present (chairs_of desk players)
presence-is desk players s n =
    ap (λ (d : List Occupant). is_present_at d 0 ∷ is_present_at d 1 ∷ is_present_at d 2 ∷ is_present_at d 3 ∷ []) (sym s.held)
    ∙ four_present (chairs_of desk players) (chairs_of-length desk players s.many ∙ n)

-- The names at the desk are those of the seats.
pub name-is : (cs : List Chair) (k : ℕ) → option_map_or (λ (h : Occupant). h.name) (slice_get (map held_of cs) k) [] ≡ name_at cs k
name-is [] k = refl
name-is (c ∷ cs) zero = refl
name-is (c ∷ cs) (suc k) = name-is cs k

pub name-at-desk : (desk : List Occupant) (players : List Player) (k : ℕ) → AreSeated desk players → option_map_or (λ (h : Occupant). h.name) (slice_get desk k) [] ≡ name_at (chairs_of desk players) k
name-at-desk desk players k s = ap (λ (d : List Occupant). option_map_or (λ (h : Occupant). h.name) (slice_get d k) []) (sym s.held) ∙ name-is (chairs_of desk players) k
