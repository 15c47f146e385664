-- What others do to a present seat, and what the script of a connection is.
use Rattle.std.proofs.Common.{◌≡◌, ◌≢◌, inl, ℕ, suc, ◌<◌, ◌≤◌, Bool, true, false, nat_lt, if◌then◌else◌, List, [], ◌∷◌, ◌++◌}
use Rattle.std.proofs.Common.{◌==◌, length, Option, Some, None, refl, sym, ap, ◌∙◌, subst, arith, append_assoc, append-nil}
use Rattle.std.specs.Option.{option_map_or}
use Rattle.std.proofs.lemmas.Bool.Decides.{nat_tests}
use mathlib.Core.Bool.{cond}
use Rattle.mj_connection.specs.Seating.{Entry, Showing, own_of}
use Rattle.mj_ports.specs.Entries.{author_of, IsAside}
use Rattle.mj_ports.specs.Seats.{Stays, Unmoved, pending, script}
use Rattle.mj_connection.specs.Stages.{SeatAt, Stands}

pub unmoved_itself : (seat : ℕ) (w : Showing) → Unmoved seat w w
unmoved_itself seat w = record { present = refl; due = refl; is_told = refl; seat_of = λ place s. s; told = λ place s. refl }

pub unmoved_chain : (seat : ℕ) (u v w : Showing) → Unmoved seat u v → Unmoved seat v w → Unmoved seat u w
unmoved_chain seat u v w p q = record {
  present = q.present ∙ p.present;
  due = q.due ∙ p.due;
  is_told = q.is_told ∙ p.is_told;
  seat_of = λ place s. q.seat_of place (p.seat_of place s);
  told = λ place s. q.told place (p.seat_of place s) ∙ p.told place s;
}

pub stays_itself : (w : Showing) → Stays w w
stays_itself w = record { deeds = omega arith; text = λ seat k lt. refl; over = λ h. h; no_deed = λ h. refl }

pub stays_chain : (u v w : Showing) → Stays u v → Stays v w → Stays u w
stays_chain u v w p q = record {
  deeds = omega (arith, p.deeds, q.deeds);
  text = λ seat k lt. q.text seat k (omega (arith, lt, p.deeds)) ∙ p.text seat k lt;
  over = λ h. q.over (p.over h);
  no_deed = λ h. q.no_deed (p.over h) ∙ p.no_deed h;
}

module _ {A : Type 0} where
  head_apart : (b : Bool) (e : Entry A) (l : List (Entry A)) → cond b (e ∷ l) l ≡ [] → b ≡ false
  head_apart true e l h = absurd (let long : suc (length l) ≡ 0 = ap length h in omega (arith, long))
  head_apart false e l h = refl

  rest_apart : (b : Bool) (e : Entry A) (l : List (Entry A)) → cond b (e ∷ l) l ≡ [] → l ≡ []
  rest_apart true e l h = absurd (let long : suc (length l) ≡ 0 = ap length h in omega (arith, long))
  rest_apart false e l h = h

  not_mine : (n : ℕ) (e : Entry A) (gap : List (Entry A)) → own_of n (e ∷ gap) ≡ [] → author_of e ≢ n
  not_mine n e gap h =
      let apart : (author_of e == n) ≡ false = head_apart (author_of e == n) e (own_of n gap) h in
      λ is. grind (arith, nat_tests, apart, is)

  none_mine : (n : ℕ) (e : Entry A) (gap : List (Entry A)) → own_of n (e ∷ gap) ≡ [] → own_of n gap ≡ []
  none_mine n e gap h = rest_apart (author_of e == n) e (own_of n gap) h

  module _ (after : List (Entry A) → Showing) (is_legal : List (Entry A) → Type 0)
      (legal_before : (es fs : List (Entry A)) → is_legal (es ++ fs) → is_legal es)
      (stays : (es : List (Entry A)) (e : Entry A) → is_legal (es ++ e ∷ []) → Stays (after es) (after (es ++ e ∷ [])))
      (others : (es : List (Entry A)) (e : Entry A) (author seat : ℕ) → is_legal (es ++ e ∷ []) → (after es).present seat ≡ Some author →
      IsAside author seat es e → Unmoved seat (after es) (after (es ++ e ∷ []))) where
    -- what others enter leaves a present seat alone
    pub between : (author seat : ℕ) (es gap : List (Entry A)) → is_legal (es ++ gap) → own_of author gap ≡ [] → (after es).present seat ≡ Some author
        → Unmoved seat (after es) (after (es ++ gap)) × Stays (after es) (after (es ++ gap))
    between author seat es [] legal none here =
        subst (λ (fs : List (Entry A)). Unmoved seat (after es) (after fs) × Stays (after es) (after fs)) (sym (append-nil es)) (unmoved_itself seat (after es), stays_itself (after es))
    between author seat es (e ∷ gap) legal none here =
        let whole : (es ++ e ∷ []) ++ gap ≡ es ++ e ∷ gap = append_assoc es (e ∷ []) gap in
        let legal' : is_legal ((es ++ e ∷ []) ++ gap) = subst is_legal (sym whole) legal in
        let one : is_legal (es ++ e ∷ []) = legal_before (es ++ e ∷ []) gap legal' in
        let u : Unmoved seat (after es) (after (es ++ e ∷ [])) = others es e author seat one here (inl (not_mine author e gap none)) in
        let s : Stays (after es) (after (es ++ e ∷ [])) = stays es e one in
        let rest = between author seat (es ++ e ∷ []) gap legal' (none_mine author e gap none) (u.present ∙ here) in
        subst (λ (fs : List (Entry A)). Unmoved seat (after es) (after fs) × Stays (after es) (after fs)) whole
        (unmoved_chain seat (after es) (after (es ++ e ∷ [])) (after ((es ++ e ∷ []) ++ gap)) u rest.0, stays_chain (after es) (after (es ++ e ∷ [])) (after ((es ++ e ∷ []) ++ gap)) s rest.1)

abbrev shown : Bool → Bool → List ℕ → List ℕ
shown told there text = if told then [] else (if there then text else [])

pending_is : (w : Showing) (seat : ℕ) → pending w seat ≡ shown (w.is_told seat) (nat_lt (w.due seat) w.deeds) (w.text seat (w.due seat))
pending_is w seat = refl

pub script_at : (w : Showing) (place seat : ℕ) → w.seat_of place ≡ Some seat → script w place ≡ w.told place ++ pending w seat
script_at w place seat s = ap (λ (o : Option ℕ). w.told place ++ option_map_or (pending w) o []) s

pub script_ended : (w : Showing) (place : ℕ) → w.seat_of place ≡ None → script w place ≡ w.told place
script_ended w place s = ap (λ (o : Option ℕ). w.told place ++ option_map_or (pending w) o []) s ∙ append-nil (w.told place)

there : (k n : ℕ) → k < n → nat_lt k n ≡ true
there k n h = grind (arith, nat_tests)

not_there : (k n : ℕ) → n ≤ k → nat_lt k n ≡ false
not_there k n h = grind (arith, nat_tests)

module _ (w : Showing) (place seat : ℕ) (mine : w.seat_of place ≡ Some seat) where
  pub script_told : w.is_told seat ≡ true → script w place ≡ w.told place
  script_told t = script_at w place seat mine ∙ (ap (λ (b : Bool). w.told place ++ shown b (nat_lt (w.due seat) w.deeds) (w.text seat (w.due seat))) t ∙ append-nil (w.told place))

  pub script_due : w.is_told seat ≡ false → w.due seat < w.deeds → script w place ≡ w.told place ++ w.text seat (w.due seat)
  script_due t lt = script_at w place seat mine ∙ (ap (λ (b : Bool). w.told place ++ shown b (nat_lt (w.due seat) w.deeds) (w.text seat (w.due seat)))
      t ∙ ap (λ (b : Bool). w.told place ++ shown false b (w.text seat (w.due seat))) (there (w.due seat) w.deeds lt))

  pub script_none_due : w.is_told seat ≡ false → w.deeds ≤ w.due seat → script w place ≡ w.told place
  script_none_due t le = script_at w place seat mine
      ∙ (ap (λ (b : Bool). w.told place ++ shown b (nat_lt (w.due seat) w.deeds) (w.text seat (w.due seat))) t
      ∙ (ap (λ (b : Bool). w.told place ++ shown false b (w.text seat (w.due seat))) (not_there (w.due seat) w.deeds le) ∙ append-nil (w.told place)))

  pub script_kept : (w' : Showing) → Unmoved seat w w' → Stays w w' → w.due seat < w.deeds → script w' place ≡ script w place
  script_kept w' u s lt =
      let told : w'.told place ≡ w.told place = u.told place mine in
      let later : w'.due seat < w'.deeds = omega (arith, u.due, s.deeds, lt) in
      let near : nat_lt (w'.due seat) w'.deeds ≡ nat_lt (w.due seat) w.deeds = there (w'.due seat) w'.deeds later ∙ sym (there (w.due seat) w.deeds lt) in
      let text : w'.text seat (w'.due seat) ≡ w.text seat (w.due seat) = ap (λ (k : ℕ). w'.text seat k) u.due ∙ s.text seat (w.due seat) lt in
      script_at w' place seat (u.seat_of place mine)
      ∙ (ap (λ (l : List ℕ). l ++ shown (w'.is_told seat) (nat_lt (w'.due seat) w'.deeds) (w'.text seat (w'.due seat))) told
      ∙ (ap (λ (b : Bool). w.told place ++ shown b (nat_lt (w'.due seat) w'.deeds) (w'.text seat (w'.due seat))) u.is_told
      ∙ (ap (λ (b : Bool). w.told place ++ shown (w.is_told seat) b (w'.text seat (w'.due seat))) near
      ∙ (ap (λ (l : List ℕ). w.told place ++ shown (w.is_told seat) (nat_lt (w.due seat) w.deeds) l) text
      ∙ sym (script_at w place seat mine)))))

pub still_stands : (w w' : Showing) (author : ℕ) (at : SeatAt) → Unmoved at.seat w w' → Stands w author at → Stands w' author at
still_stands w w' author at u s = record { within = s.within; present = u.present ∙ s.present; mine = u.seat_of at.place s.mine }

-- what a connection was told that waits for a look is a beginning of its script
pub told_begins : (w : Showing) (place seat : ℕ) (before old new : List ℕ) → w.seat_of place ≡ Some seat → new ≡ old → before ++ old ≡ w.told place →
    (more : List ℕ) × (script w place ≡ (before ++ new) ++ more)
told_begins w place seat before old new mine same t = (pending w seat, script_at w place seat mine ∙ ap (λ (l : List ℕ). l ++ pending w seat) (sym t ∙ ap (λ (l : List ℕ). before ++ l) (sym same)))

-- what a connection was told that was told all is a beginning of its script
pub told_whole : (w : Showing) (place : ℕ) (out : List ℕ) → out ≡ script w place → (more : List ℕ) × (script w place ≡ out ++ more)
told_whole w place out t = ([], sym t ∙ sym (append-nil out))
