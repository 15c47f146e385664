-- The laws of arrivals.
use Rattle.std.proofs.Common.{◌≡◌, ℕ, suc, ◌+◌, ◌-◌, ◌<◌, ◌≤◌, ◌==◌, ◌&&◌, not, inl, inr, List, [], ◌∷◌, ◌++◌, length, map, Bool, true, false, refl, ap, ◌∙◌, arith, append-nil}
use Rattle.std.specs.Prelude.{if◌then◌else◌, Option, Some, None, option_map, slice_get, nat_lt, nat_le}
use Rattle.std.specs.Option.{option_map_or}
use Rattle.std.specs.List.{list_any}
use Rattle.std.proofs.lemmas.Bool.{and_parts, and_from, or_parts, not-true, ltb-true}
use Rattle.std.proofs.lemmas.Bool.Decides.{eqb_tells}
use Rattle.mj_ports.specs.declared.sitting.JoinLine.{JoinLine}
use Rattle.mj_ports.specs.declared.sitting.SitRefused.TheVariants.{Full, Over}
use Rattle.mj_ports.specs.declared.answers.Heard.TheVariants as heard
use Rattle.mj_ports.specs.declared.answers.Expiry.TheVariants as expiry
use Rattle.mj_seating.specs.declared.desk.Placed.TheVariants as places
use Rattle.mj_seating.specs.Sitting.{at_held, placed_from, placed}
use Rattle.mj_deeds.specs.declared.rule.Rule.{Rule}
use Rattle.mj_deeds.specs.declared.deed.Deed.{Deed}
use Rattle.mj_history.specs.After.{After, Chair, Taken, Late, verdict, verdict_by, verdict_on, own_part, next_deed, after}
use Rattle.mj_history.specs.Legal.{has_name, is_over, is_open, can_sit, can_expire, may_say}
use Rattle.mj_history.specs.Sitting.{held_of, placing}
use Rattle.mj_history.specs.Shown.{heard_of}
use Rattle.mj_history.specs.Arriving.{HasOneMore, OneDeedAnEntry, LawfulAnswersAreTaken, NewNamesAreSeated, ExpiriesClose}
use Rattle.mj_history.proofs.Entries.{after-append}
use Rattle.mj_history.proofs.Entered.{listed, step-deeds}

-- One deed an entry.
one_more : (deeds others : List Deed) (o : Option Deed) → others ≡ deeds ++ listed o → HasOneMore deeds others
one_more deeds others None e = inl (e ∙ append-nil deeds)
one_more deeds others (Some deed) e = inr (deed, e)

pub one_deed_an_entry : OneDeedAnEntry
one_deed_an_entry setting entries entry =
    let now : After = after setting entries in
    one_more now.deeds (after setting (entries ++ entry ∷ [])).deeds (next_deed setting (own_part setting now entry) entry)
    (ap (λ (n : After). n.deeds) (after-append setting entries entry) ∙ step-deeds setting now entry)

-- A lawful answer.
newest_taken : (due refused n : ℕ) (rule : Option Rule) → due + 1 ≡ n → rule ≡ None → verdict due refused n rule ≡ Taken
newest_taken due refused n rule d r =
    ap (λ (b : Bool). if b then Late else verdict_by refused rule) (last (due + 1) n d) ∙ ap (verdict_by refused) r
  where
    apart : (a b : ℕ) → a ≡ b → a < b → ⊥
    apart a b e h = omega arith

    last : (a b : ℕ) → a ≡ b → nat_lt a b ≡ false
    last a b e = by (nat_lt a b) refl
      where
        by : (t : Bool) → nat_lt a b ≡ t → nat_lt a b ≡ false
        by true h = absurd (apart a b e (ltb-true a b h))
        by false h = h

pub lawful_answers_are_taken : LawfulAnswersAreTaken
lawful_answers_are_taken setting entries author seat answer may due lawful = by (slice_get (after setting entries).chairs seat) may due
  where
    by : (o : Option Chair) → option_map_or (may_say (after setting entries) author) o false ≡ true →
        option_map_or (λ (chair : Chair). chair.progress.due) o 0 + 1 ≡ length (after setting entries).deeds
        → option_map_or heard_of (option_map (λ (chair : Chair). verdict_on setting.rules (after setting entries).deeds seat answer chair.progress) o) heard.NoMemory ≡ heard.Taken
    by None m d = cc
    by (Some chair) m d = ap heard_of (newest_taken chair.progress.due chair.progress.refused (length (after setting entries).deeds) _ d lawful.clean)

-- A join under a new name.
from_new : (n : ℕ) (chairs : List Chair) (join : JoinLine) → list_any (has_name join.name) chairs ≡ false → (n + length chairs == 4) ≡ false →
    placed_from n (map held_of chairs) join ≡ places.Sat (n + length chairs)
from_new n [] join h f = ap (λ (b : Bool). if b then places.Refused Full else places.Sat n) (ap (λ (m : ℕ). m == 4) (none_more n) ∙ f) ∙ ap (λ (m : ℕ). places.Sat m) (none_more n)
  where
    none_more : (n : ℕ) → n ≡ n + 0
    none_more n = omega arith
from_new n (chair ∷ chairs) join h f =
    let parts = or_parts (has_name join.name chair) (list_any (has_name join.name) chairs) h in
    ap (λ (b : Bool). if b then at_held n (held_of chair) join.key else placed_from (n + 1) (map held_of chairs) join) parts.0
    ∙ from_new (n + 1) chairs join parts.1 (ap (λ (m : ℕ). m == 4) (longer n (length chairs)) ∙ f)
    ∙ ap (λ (m : ℕ). places.Sat m) (longer n (length chairs))
  where
    longer : (n m : ℕ) → n + 1 + m ≡ n + suc m
    longer n m = omega arith

new_name : (now : After) (join : JoinLine) → is_over now.deeds ≡ false → can_sit now.chairs join.name ≡ true → placing now (Some join) ≡ places.Sat (length now.chairs)
unfolding placing placed can_sit
new_name now join o h =
    let parts = and_parts (nat_lt (length now.chairs) 4) (not (list_any (has_name join.name) now.chairs)) h in
    ap (λ (b : Bool). if b then places.Refused Over else placed_from 0 (map held_of now.chairs) join) o
    ∙ from_new 0 now.chairs join (not-true _ parts.1) (fewer (0 + length now.chairs) (less (length now.chairs) (ltb-true (length now.chairs) 4 parts.0)))
    ∙ ap (λ (m : ℕ). places.Sat m) (none (length now.chairs))
  where
    none : (n : ℕ) → 0 + n ≡ n
    none n = omega arith

    less : (n : ℕ) → n < 4 → 0 + n < 4
    less n h = omega arith

    apart : (n : ℕ) → n < 4 → n ≡ 4 → ⊥
    apart n h e = omega arith

    fewer : (n : ℕ) → n < 4 → (n == 4) ≡ false
    fewer n h = elim (eqb_tells n 4) [ inl s ↦ absurd (apart n h s.1) | inr s ↦ s.0 ]

pub new_names_are_seated : NewNamesAreSeated
new_names_are_seated setting entries join o h = new_name (after setting entries) join o h

-- An expiry.
may_close : (limit : ℕ) (deeds : List Deed) (window t1 t2 : ℕ) → is_open deeds window ≡ true → t1 ≤ t2 → limit ≤ t2 - t1 → can_expire limit deeds window t1 t2 ≡ true
unfolding can_expire
may_close limit deeds window t1 t2 o h l = and_from (is_open deeds window && nat_le t1 t2) _ (and_from (is_open deeds window) _ o (no_more t1 t2 h)) (no_more limit (t2 - t1) l)
  where
    no_more : (a b : ℕ) → a ≤ b → nat_le a b ≡ true
    no_more a b h = grind (arith, h)

pub expiries_close : ExpiriesClose
expiries_close setting entries window t1 t2 o h l =
    (λ i. if o i then (if may_close setting.rules.limit (after setting entries).deeds window t1 t2 o h l i then expiry.Closed else expiry.Early) else expiry.Stale)
