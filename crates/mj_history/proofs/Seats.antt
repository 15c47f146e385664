-- The seats of a game as far as its entries have come: four at most, with different good names.
use Rattle.std.proofs.Common.{◌≡◌, ℕ, zero, suc, ◌+◌, ◌<◌, ◌≤◌, ◌&&◌, ◌||◌, not, Bool, true, false, ltb, List, [], ◌∷◌, ◌++◌, length, map, refl, ap, sym, ◌∙◌, subst, arith}
use Rattle.std.specs.Prelude.{Option, Some, None, slice_get, slice_set, bytes_eq}
use Rattle.std.specs.Option.{option_map_or}
use Rattle.std.specs.List.{list_all, list_any}
use Rattle.std.proofs.lemmas.Bool.{and_parts, and_from, or_parts, ltb-true, not-true}
use Rattle.std.proofs.lemmas.List.{length-append, length-set}
use Rattle.std.proofs.lemmas.Option.{slice_get_within}
use Rattle.std.proofs.lemmas.List.Folds.{list_all-append, list_any-append}
use Rattle.mj_ports.specs.Names.{is_name, are_different}
use Rattle.mj_ports.specs.declared.entry.Entry.{Entry}
use Rattle.mj_ports.specs.declared.entry.Entry.TheVariants.{Sat, Back, Said, Gone, Expired}
use Rattle.mj_deeds.specs.declared.answer.Answer.{Answer}
use Rattle.mj_deeds.specs.declared.deed.Deed.{Deed}
use Rattle.mj_wall.specs.declared.setting.Rules.{Rules}
use Rattle.mj_wall.specs.declared.setting.Setting.{Setting}
use Rattle.mj_rules.specs.Played.{are_listed_names}
use Rattle.mj_history.specs.After.{After, Chair, before_all, after_said, after_gone, after_back, own_part, next_deed, with_deed, step, after_from, after}
use Rattle.mj_history.specs.Legal.{has_name, can_sit, is_permitted, all_permitted, IsLegal}

-- The names of the seats.
abbrev pub names_in : List Chair → List (List ℕ)
names_in chairs = map (λ (chair : Chair). chair.name) chairs

-- What is true of the seats.
pub record AreSeats (chairs : List Chair) : Type 0 where
  pub few : length chairs ≤ 4
  pub named : are_listed_names (names_in chairs) ≡ true

pub held_within : (chairs : List Chair) (seat : ℕ) (chair : Chair) → AreSeats chairs → slice_get chairs seat ≡ Some chair → seat < 4
held_within chairs seat chair s e = below seat (length chairs) (slice_get_within chairs seat chair e) s.few
  where
    below : (n m : ℕ) → n < m → m ≤ 4 → n < 4
    below n m h k = omega arith

-- names

different-append : (names : List (List ℕ)) (name : List ℕ) → are_different names ≡ true → list_any (λ other. bytes_eq other name) names ≡ false → are_different (names ++ name ∷ []) ≡ true
different-append [] name h k = refl
different-append (first ∷ names) name h k =
    let apart = and_parts (not (list_any (λ other. bytes_eq first other) names)) (are_different names) h in
    let new = or_parts (bytes_eq first name) (list_any (λ other. bytes_eq other name) names) k in
    and_from (not (list_any (λ other. bytes_eq first other) (names ++ name ∷ []))) _
    (ap not (list_any-append (λ other. bytes_eq first other) names (name ∷ [])) ∙ ap not (neither _ _ (not-true _ apart.0) new.0))
    (different-append names name apart.1 new.1)
  where
    neither : (a b : Bool) → a ≡ false → b ≡ false → (a || (b || false)) ≡ false
    neither a b e f = rw (e, f) refl

names-append : (names : List (List ℕ)) (name : List ℕ) → are_listed_names names ≡ true → is_name name ≡ true → list_any (λ other. bytes_eq other name)
    names ≡ false → are_listed_names (names ++ name ∷ []) ≡ true
names-append names name h good new =
    let parts = and_parts (list_all is_name names) (are_different names) h in
    and_from (list_all is_name (names ++ name ∷ [])) _
    (list_all-append is_name names (name ∷ []) ∙ and_from (list_all is_name names) _ parts.0 (and_from (is_name name) true good refl))
    (different-append names name parts.1 new)

taken_names : (chairs : List Chair) (name : List ℕ) → list_any (has_name name) chairs ≡ list_any (λ other. bytes_eq other name) (names_in chairs)
taken_names [] name = refl
taken_names (chair ∷ chairs) name = ap (λ b. bytes_eq chair.name name || b) (taken_names chairs name)

pub names_sat : (chairs : List Chair) (chair : Chair) → names_in (chairs ++ chair ∷ []) ≡ names_in chairs ++ chair.name ∷ []
names_sat [] chair = refl
names_sat (first ∷ chairs) chair = ap (λ (names : List (List ℕ)). first.name ∷ names) (names_sat chairs chair)

pub names_said : (chairs : List Chair) (seat : ℕ) (chair new : Chair) → slice_get chairs seat ≡ Some chair → new.name ≡ chair.name → names_in (slice_set chairs seat new) ≡ names_in chairs
names_said [] seat chair new e same = refl
names_said (first ∷ chairs) zero chair new e same = ap (λ (name : List ℕ). name ∷ names_in chairs) (same ∙ ap (λ (c : Chair). c.name) (some_is chair first e))
  where
    some_is : (a b : Chair) → Some b ≡ Some a → a ≡ b
    some_is a b e = cc
names_said (first ∷ chairs) (suc seat) chair new e same = ap (λ (names : List (List ℕ)). first.name ∷ names) (names_said chairs seat chair new e same)

-- what an entry changes of its own seat

sat_few : {A : Type 0} (chairs : List A) (chair : A) → length chairs < 4 → length (chairs ++ chair ∷ []) ≤ 4
sat_few chairs chair h = more _ _ (length-append chairs (chair ∷ [])) h
  where
    more : (n m : ℕ) → n ≡ m + 1 → m < 4 → n ≤ 4
    more n m e h = omega arith

sat_seats : (chairs : List Chair) (chair : Chair) → (is_name chair.name && can_sit chairs chair.name) ≡ true → AreSeats chairs → AreSeats (chairs ++ chair ∷ [])
unfolding can_sit
sat_seats chairs chair p s =
    let parts = and_parts (is_name chair.name) (can_sit chairs chair.name) p in
    let free = and_parts (ltb (length chairs) 4) (not (list_any (has_name chair.name) chairs)) parts.1 in
    record {
      few = sat_few chairs chair (ltb-true (length chairs) 4 free.0);
      named = ap are_listed_names (names_sat chairs chair) ∙ names-append (names_in chairs) chair.name s.named parts.0 (sym (taken_names chairs chair.name) ∙ not-true _ free.1);
    }

-- A seat that keeps its name.
kept_seats : (chairs : List Chair) (seat : ℕ) (chair new : Chair) → slice_get chairs seat ≡ Some chair → new.name ≡ chair.name → AreSeats chairs → AreSeats (slice_set chairs seat new)
kept_seats chairs seat chair new e same s = record {
  few = subst (λ (n : ℕ). n ≤ 4) (sym (length-set chairs seat new)) s.few;
  named = ap are_listed_names (names_said chairs seat chair new e same) ∙ s.named;
}

said_seats : (rules : Rules) (now : After) (seat : ℕ) (answer : Answer) (held : Option Chair) → slice_get now.chairs seat ≡ held →
    AreSeats now.chairs → AreSeats (option_map_or (after_said rules now seat answer) held now).chairs
unfolding after_said
said_seats rules now seat answer None e s = s
said_seats rules now seat answer (Some chair) e s = kept_seats now.chairs seat chair _ e refl s

gone_seats : (rules : Rules) (now : After) (seat : ℕ) (held : Option Chair) → slice_get now.chairs seat ≡ held → AreSeats now.chairs →
    AreSeats (option_map_or (after_gone rules now seat) held now).chairs
unfolding after_gone
gone_seats rules now seat None e s = s
gone_seats rules now seat (Some chair) e s = kept_seats now.chairs seat chair _ e refl s

back_seats : (rules : Rules) (now : After) (author seat : ℕ) (held : Option Chair) → slice_get now.chairs seat ≡ held → AreSeats now.chairs →
    AreSeats (option_map_or (after_back rules now author seat) held now).chairs
unfolding after_back
back_seats rules now author seat None e s = s
back_seats rules now author seat (Some chair) e s = kept_seats now.chairs seat chair _ e refl s

pub own_seats : (setting : Setting) (now : After) (entry : Entry Answer) → is_permitted setting now entry ≡ true → AreSeats now.chairs → AreSeats (own_part setting now entry).chairs
unfolding own_part
own_seats setting now (Sat author name key) p s = sat_seats now.chairs _ p s
own_seats setting now (Said author seat answer) p s = said_seats setting.rules now seat answer (slice_get now.chairs seat) refl s
own_seats setting now (Back author seat) p s = back_seats setting.rules now author seat (slice_get now.chairs seat) refl s
own_seats setting now (Gone author seat) p s = gone_seats setting.rules now seat (slice_get now.chairs seat) refl s
own_seats setting now (Expired author window t1 t2) p s = s

-- a whole game

with_deed_seats : (now : After) (added : Option Deed) → AreSeats now.chairs → AreSeats (with_deed now added).chairs
with_deed_seats now None s = s
with_deed_seats now (Some d) s = s

pub step_seats : (setting : Setting) (now : After) (entry : Entry Answer) → is_permitted setting now entry ≡ true → AreSeats now.chairs → AreSeats (step setting now entry).chairs
unfolding step
step_seats setting now entry p s = with_deed_seats (own_part setting now entry) (next_deed setting (own_part setting now entry) entry) (own_seats setting now entry p s)

pub no_seats : AreSeats []
no_seats = record { few = omega arith; named = refl }

game_seats : (setting : Setting) (now : After) (entries : List (Entry Answer)) → all_permitted setting now entries ≡ true → AreSeats now.chairs → AreSeats (after_from setting now entries).chairs
game_seats setting now [] p s = s
game_seats setting now (entry ∷ entries) p s =
    let parts = and_parts (is_permitted setting now entry) (all_permitted setting (step setting now entry) entries) p in
    game_seats setting (step setting now entry) entries parts.1 (step_seats setting now entry parts.0 s)

pub legal_seats : (setting : Setting) (entries : List (Entry Answer)) → IsLegal setting entries → AreSeats (after setting entries).chairs
legal_seats setting entries legal = game_seats setting before_all entries legal.permitted no_seats
