-- Who is present in a game of riichi, before and after seats have left.
use Rattle.std.proofs.Common.{◌≡◌, ◌⊎◌, ⊎_elim, inl, inr, ℕ, zero, suc, ◌<◌, List, [], ◌∷◌, ◌++◌, Option, Some, None, refl, sym, ◌∙◌, ap, subst, arith, append-nil}
use Rattle.std.specs.Prelude.{All, slice_get, slice_set}
use Rattle.std.specs.Option.{option_map_or}
use Rattle.std.proofs.lemmas.List.Elements.{All-nil, All-cons, All-head, All-tail, All-append}
use Rattle.std.proofs.lemmas.Option.{same_Some}
use Rattle.mj_ports.specs.declared.entry.Entry.{Entry}
use Rattle.mj_ports.specs.declared.entry.Entry.TheVariants.{Sat, Back, Said, Gone, Expired}
use Rattle.mj_ports.specs.Entries.{author_of}
use Rattle.mj_deeds.specs.declared.answer.Answer.{Answer}
use Rattle.mj_wall.specs.declared.setting.Rules.{Rules}
use Rattle.mj_wall.specs.declared.setting.Setting.{Setting}
use Rattle.mj_history.specs.After.{After, Chair, Verdict, Taken, Late, Refused, Closing, verdict_on, author_after, after_said}
use Rattle.mj_history.specs.After.{after_gone, after_back, new_chair, own_part, step, after_from, after, before_all}
use Rattle.mj_history.specs.Shown.{shown_of}
use Rattle.mj_history.proofs.Entered.{step-chairs, gone-chairs}
use Rattle.mj_history.proofs.Entries.{after-append}
use Rattle.mj_written.specs.Vacating.{gone_of, vacated}

-- By whom a seat is present.
abbrev holder : List Chair → ℕ → Option ℕ
holder chairs seat = option_map_or (λ (chair : Chair). chair.author) (slice_get chairs seat) None

-- Who is present in a seat was so before one was added or changed, or is in that one.
in_more : (chairs : List Chair) (chair : Chair) (seat author : ℕ) → holder (chairs ++ chair ∷ []) seat ≡ Some author → (holder chairs seat ≡ Some author) ⊎ (chair.author ≡ Some author)
in_more [] chair zero author h = inr h
in_more [] chair (suc seat) author h = inl h
in_more (c ∷ cs) chair zero author h = inl h
in_more (c ∷ cs) chair (suc seat) author h = in_more cs chair seat author h

in_set : (chairs : List Chair) (i : ℕ) (chair : Chair) (seat author : ℕ) → holder (slice_set chairs i chair) seat ≡ Some author
    → (holder chairs seat ≡ Some author) ⊎ (chair.author ≡ Some author)
in_set [] i chair seat author h = inl h
in_set (c ∷ cs) zero chair zero author h = inr h
in_set (c ∷ cs) zero chair (suc seat) author h = inl h
in_set (c ∷ cs) (suc i) chair zero author h = inl h
in_set (c ∷ cs) (suc i) chair (suc seat) author h = in_set cs i chair seat author h

-- Each author by whom a seat is present is below a number.
abbrev AreBelow : ℕ → List Chair → Type 0
AreBelow n chairs = (seat author : ℕ) → holder chairs seat ≡ Some author → author < n

stays : (v : Verdict) (o : Option ℕ) (author : ℕ) → author_after v o ≡ Some author → o ≡ Some author
stays Taken o author h = h
stays Late o author h = h
stays (Refused rule) o author h = h
stays (Closing rule) o author h = cc

one_below : (n author by : ℕ) → author < n → Some author ≡ Some by → by < n
one_below n author by h e = subst (λ (k : ℕ). k < n) (same_Some author by e) h

said_below : (n : ℕ) (rules : Rules) (now : After) (who : ℕ) (answer : Answer) (held : Option Chair) → slice_get now.chairs who ≡ held → AreBelow n now.chairs
    → AreBelow n (option_map_or (after_said rules now who answer) held now).chairs
unfolding after_said
said_below n rules now who answer None e k = k
said_below n rules now who answer (Some chair) e k = λ seat author h. ⊎_elim (k seat author) (λ own. k who author
    (ap (λ (o : Option Chair). option_map_or (λ (c : Chair). c.author) o None) e ∙ stays (verdict_on rules now.deeds who answer chair.progress) chair.author author own))
    (in_set now.chairs who _ seat author h)

gone_below : (n : ℕ) (rules : Rules) (now : After) (who : ℕ) (held : Option Chair) → AreBelow n now.chairs → AreBelow n (option_map_or (after_gone rules now who) held now).chairs
unfolding after_gone
gone_below n rules now who None k = k
gone_below n rules now who (Some chair) k = λ seat author h. ⊎_elim (k seat author) (λ own. absurd (cc own)) (in_set now.chairs who _ seat author h)

back_below : (n : ℕ) (rules : Rules) (now : After) (by who : ℕ) (held : Option Chair) → by < n → AreBelow n now.chairs
    → AreBelow n (option_map_or (after_back rules now by who) held now).chairs
unfolding after_back
back_below n rules now by who None less k = k
back_below n rules now by who (Some chair) less k = λ seat author h. ⊎_elim (k seat author) (λ own. one_below n by author less own) (in_set now.chairs who _ seat author h)

own_below : (n : ℕ) (setting : Setting) (now : After) (entry : Entry Answer) → author_of entry < n → AreBelow n now.chairs → AreBelow n (own_part setting now entry).chairs
unfolding own_part
own_below n setting now (Sat by name key) less k = λ seat author h. ⊎_elim (k seat author) (λ own. one_below n by author less own)
    (in_more now.chairs (new_chair now.entered by name key) seat author h)
own_below n setting now (Said by who answer) less k = said_below n setting.rules now who answer (slice_get now.chairs who) refl k
own_below n setting now (Back by who) less k = back_below n setting.rules now by who (slice_get now.chairs who) less k
own_below n setting now (Gone by who) less k = gone_below n setting.rules now who (slice_get now.chairs who) k
own_below n setting now (Expired by window t1 t2) less k = k

from_below : (n : ℕ) (setting : Setting) (now : After) (entries : List (Entry Answer)) → All (λ e. author_of e < n) entries → AreBelow n now.chairs
    → AreBelow n (after_from setting now entries).chairs
from_below n setting now [] all k = k
from_below n setting now (entry ∷ entries) all k =
    from_below n setting (step setting now entry) entries (All-tail (λ (e : Entry Answer). author_of e < n) entry entries all)
    (subst (λ (cs : List Chair). AreBelow n cs) (sym (step-chairs setting now entry)) (own_below n setting now entry (All-head (λ (e : Entry Answer). author_of e < n) entry entries all) k))

-- Where the author of each entry is below a number, so is that of each present seat.
pub present_below : (n : ℕ) (setting : Setting) (entries : List (Entry Answer)) → All (λ e. author_of e < n) entries
    → (seat author : ℕ) → (shown_of setting entries).present seat ≡ Some author → author < n
present_below n setting entries all = from_below n setting before_all entries all (λ seat author h. absurd (cc h))

-- And so it stays once seats have left.
gone_by : (n : ℕ) (here : Option ℕ) (seat : ℕ) → ((author : ℕ) → here ≡ Some author → author < n) → All (λ (e : Entry Answer). author_of e < n) (gone_of here seat)
gone_by n None seat less = All-nil (λ (e : Entry Answer). author_of e < n)
gone_by n (Some author) seat less = All-cons (λ (e : Entry Answer). author_of e < n) (Gone author seat) [] (less author refl) (All-nil (λ (e : Entry Answer). author_of e < n))

pub vacated_below : (n : ℕ) (setting : Setting) (entries : List (Entry Answer)) (seats : ℕ) → All (λ e. author_of e < n) entries
    → All (λ e. author_of e < n) (vacated (shown_of setting) entries seats)
vacated_below n setting entries zero all = all
vacated_below n setting entries (suc seats) all =
    let so_far = vacated_below n setting entries seats all in
    All-append (λ (e : Entry Answer). author_of e < n) (vacated (shown_of setting) entries seats) (gone_of ((shown_of setting (vacated (shown_of setting) entries seats)).present seats) seats) so_far
    (gone_by n ((shown_of setting (vacated (shown_of setting) entries seats)).present seats) seats (present_below n setting (vacated (shown_of setting) entries seats) so_far seats))

-- A seat that has left isn't present, nor is one that wasn't.
emptied : (chairs : List Chair) (i : ℕ) (chair : Chair) (seat : ℕ) → chair.author ≡ None → (seat ≡ i) ⊎ (holder chairs seat ≡ None) → holder (slice_set chairs i chair) seat ≡ None
emptied [] i chair seat none at = refl
emptied (c ∷ cs) zero chair zero none at = none
emptied (c ∷ cs) zero chair (suc seat) none (inl same) = absurd (omega (arith, same))
emptied (c ∷ cs) zero chair (suc seat) none (inr empty) = empty
emptied (c ∷ cs) (suc i) chair zero none (inl same) = absurd (omega (arith, same))
emptied (c ∷ cs) (suc i) chair zero none (inr empty) = empty
emptied (c ∷ cs) (suc i) chair (suc seat) none (inl same) = emptied cs i chair seat none (inl (omega (arith, same)))
emptied (c ∷ cs) (suc i) chair (suc seat) none (inr empty) = emptied cs i chair seat none (inr empty)

held_by : (o : Option Chair) (author : ℕ) → option_map_or (λ (c : Chair). c.author) o None ≡ Some author → (chair : Chair) × (o ≡ Some chair)
held_by None author h = cc
held_by (Some chair) author h = (chair, refl)

leaves_none : (setting : Setting) (entries : List (Entry Answer)) (author who seat : ℕ) → (shown_of setting entries).present who ≡ Some author
    → (seat ≡ who) ⊎ ((shown_of setting entries).present seat ≡ None) → (shown_of setting (entries ++ Gone author who ∷ [])).present seat ≡ None
leaves_none setting entries author who seat here at =
    let now : After = after setting entries in
    let held = held_by (slice_get now.chairs who) author here in
    ap (λ (w : After). holder w.chairs seat) (after-append setting entries (Gone author who))
    ∙ ap (λ (cs : List Chair). holder cs seat) (gone-chairs setting now author who held.0 held.1)
    ∙ emptied now.chairs who _ seat refl at

one_vacant : (setting : Setting) (entries : List (Entry Answer)) (who seat : ℕ) (here : Option ℕ) → (shown_of setting entries).present who ≡ here
    → (seat ≡ who) ⊎ ((shown_of setting entries).present seat ≡ None) → (shown_of setting (entries ++ gone_of here who)).present seat ≡ None
one_vacant setting entries who seat None is at =
    ap (λ (es : List (Entry Answer)). (shown_of setting es).present seat) (append-nil entries)
    ∙ ⊎_elim (λ same. ap (λ (n : ℕ). (shown_of setting entries).present n) same ∙ is) (λ empty. empty) at
one_vacant setting entries who seat (Some author) is at = leaves_none setting entries author who seat is at

at_most : (n m : ℕ) → n < suc m → (n ≡ m) ⊎ (n < m)
at_most zero zero h = inl refl
at_most zero (suc m) h = inr (omega arith)
at_most (suc n) zero h = absurd (omega arith)
at_most (suc n) (suc m) h = ⊎_elim (λ same. inl (ap (λ (k : ℕ). suc k) same)) (λ low. inr (omega (arith, low))) (at_most n m (omega arith))

-- Once the seats below a number have left, none of them is present.
pub vacated_are_gone : (setting : Setting) (entries : List (Entry Answer)) (seats seat : ℕ) → seat < seats → (shown_of setting (vacated (shown_of setting) entries seats)).present seat ≡ None
vacated_are_gone setting entries zero seat less = absurd (omega (arith, less))
vacated_are_gone setting entries (suc seats) seat less =
    one_vacant setting (vacated (shown_of setting) entries seats) seats seat ((shown_of setting (vacated (shown_of setting) entries seats)).present seats) refl
    (⊎_elim (λ same. inl same) (λ low. inr (vacated_are_gone setting entries seats seat low)) (at_most seat seats less))
