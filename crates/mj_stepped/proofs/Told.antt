-- The deeds that were told stay the first of a game.
use Rattle.std.proofs.Common.{◌≡◌, ℕ, ◌≤◌, ◌==◌, ◌+◌, inl, inr, List, [], ◌∷◌, ◌++◌, length, Bool, true, refl, ap, sym, ◌∙◌, subst, append-nil, append_assoc, arith}
use Rattle.std.specs.Prelude.{Option, Some, None, unwrap_or, slice_get, nat_lt}
use Rattle.std.proofs.lemmas.Bool.{and_parts, eqb-true}
use Rattle.std.proofs.lemmas.List.{length-append}
use Rattle.mj_ports.specs.declared.entry.Entry.{Entry}
use Rattle.mj_ports.specs.declared.sitting.JoinLine.{JoinLine}
use Rattle.mj_ports.specs.declared.answers.SitAnswer.{SitAnswer}
use Rattle.mj_ports.specs.declared.answers.SitAnswer.TheVariants as sits
use Rattle.mj_ports.specs.declared.answers.Heard.{Heard}
use Rattle.mj_ports.specs.declared.answers.Heard.TheVariants as heard
use Rattle.mj_ports.specs.declared.answers.Left.{Left}
use Rattle.mj_ports.specs.declared.answers.Left.TheVariants as left
use Rattle.mj_ports.specs.declared.answers.Expiry.{Expiry}
use Rattle.mj_ports.specs.declared.answers.Expiry.TheVariants as expiry
use Rattle.mj_deeds.specs.declared.rule.Rule.{Rule}
use Rattle.mj_deeds.specs.declared.answer.Answer.{Answer}
use Rattle.mj_deeds.specs.declared.deed.Deed.{Deed}
use Rattle.mj_deeds.specs.Fits.{fits, all_fit}
use Rattle.mj_table.specs.Plays.{Play}
use Rattle.mj_wall.specs.declared.setting.Rules.{Rules}
use Rattle.mj_history.specs.Arriving.{HasOneMore}
use Rattle.mj_history.specs.Legal.{Game}
use Rattle.mj_history.proofs.Arriving.{one_deed_an_entry}
use Rattle.mj_core.specs.Calls.{after_of, Enters, TakesSeat, IsSitAnswer, IsHeard, IsLeft, IsExpiry}
use Rattle.mj_stepped.specs.declared.stepped.Asked.{Asked}
use Rattle.mj_stepped.specs.Lists.{IsFront}
use Rattle.mj_stepped.specs.Kept.{is_of, IsAskedOf, IsKept}

front-more : (told : List Deed) (number : ℕ) (deeds others : List Deed) → HasOneMore deeds others → IsFront told number deeds → IsFront told number others
front-more told number deeds others (inl same) f = record { rest = f.rest; all = same ∙ f.all; many = f.many }
front-more told number deeds others (inr more) f = record {
  rest = f.rest ++ more.0 ∷ [];
  all = more.1 ∙ (ap (λ (ds : List Deed). ds ++ more.0 ∷ []) f.all ∙ append_assoc told f.rest (more.0 ∷ []));
  many = f.many;
}

-- What was listed last.
asked-more : (rules : Rules) (deeds others : List Deed) (asked : Asked) → HasOneMore deeds others → IsAskedOf rules deeds asked → IsAskedOf rules others asked
asked-more rules deeds others asked (inl same) a = subst (λ (ds : List Deed). IsAskedOf rules ds asked) (sym same) a
asked-more rules deeds others asked (inr more) a = record {
  low = below asked.deeds (length deeds) (length others) a.low longer;
  list = λ seat is. absurd (never asked.deeds (length deeds) (length others) a.low longer (at seat is));
}
  where
    longer : length others ≡ length deeds + 1
    longer = ap (λ (ds : List Deed). length ds) more.1 ∙ length-append deeds (more.0 ∷ [])

    below : (a b c : ℕ) → a ≤ b → c ≡ b + 1 → a ≤ c
    below a b c h e = omega (arith, h, e)

    never : (a b c : ℕ) → a ≤ b → c ≡ b + 1 → a ≡ c → ⊥
    never a b c h e f = omega (arith, h, e, f)

    at : (seat : ℕ) → is_of asked seat (length others) ≡ true → asked.deeds ≡ length others
    at seat is = eqb-true asked.deeds (length others) (and_parts (asked.deeds == length others) (asked.seat == seat) (and_parts (nat_lt 0 asked.deeds) _ is).1).0

-- An entry more.
told-more : (old new : Game) (entry : Entry Answer) (told : Play) (number : ℕ) (asked : Asked) → Enters old new entry → IsKept old told number asked → IsKept new told number asked
told-more old new entry told number asked e t = subst (λ (game : Game). IsKept game told number asked) (sym new_is) (record {
  told_so = record {
    rules = t.told_so.rules;
    front = front-more told.deeds number (after_of old).deeds (after_of grown).deeds (one_deed_an_entry old.setting old.entries entry) t.told_so.front;
  };
  asked_so = asked-more old.setting.rules (after_of old).deeds (after_of grown).deeds asked (one_deed_an_entry old.setting old.entries entry) t.asked_so;
})
  where
    grown : Game
    grown = record { setting = old.setting; entries = old.entries ++ entry ∷ [] }

    new_is : new ≡ grown
    new_is = λ i. record { setting = e.setting i; entries = e.entries i }

told-same : (old new : Game) (told : Play) (number : ℕ) (asked : Asked) → new ≡ old → IsKept old told number asked → IsKept new told number asked
told-same old new told number asked e t = subst (λ (game : Game). IsKept game told number asked) (sym e) t

-- So after each call.
told-taken : (author : ℕ) (old new : Game) (join : Option JoinLine) (told : Play) (number : ℕ) (asked : Asked) → TakesSeat join old new author → IsKept old told number asked
    → IsKept new told number asked
told-taken author old new None told number asked h t = absurd h
told-taken author old new (Some join) told number asked h t = told-more old new _ told number asked h t

pub told-sitting : (answer : SitAnswer) (author : ℕ) (old new : Game) (join : Option JoinLine) (told : Play) (number : ℕ) (asked : Asked) →
    IsSitAnswer answer old new author join → IsKept old told number asked → IsKept new told number asked
told-sitting (sits.Sat taken) author old new join told number asked h t = told-taken author old new join told number asked h.1 t
told-sitting (sits.Back taken) author old new join told number asked h t = told-more old new _ told number asked h.1 t
told-sitting (sits.Refused why) author old new join told number asked h t = told-same old new told number asked h.1 t
told-sitting sits.NoMemory author old new join told number asked h t = told-same old new told number asked h t

pub told-hearing : (answer : Heard Rule) (author seat : ℕ) (old new : Game) (said : Answer) (told : Play) (number : ℕ) (asked : Asked) →
    IsHeard answer old new author seat said → IsKept old told number asked → IsKept new told number asked
told-hearing heard.Taken author seat old new said told number asked h t = told-more old new _ told number asked h.1 t
told-hearing heard.Late author seat old new said told number asked h t = told-more old new _ told number asked h.1 t
told-hearing (heard.Refused rule) author seat old new said told number asked h t = told-more old new _ told number asked h.1 t
told-hearing (heard.Closing rule) author seat old new said told number asked h t = told-more old new _ told number asked h.1 t
told-hearing heard.NoMemory author seat old new said told number asked h t = told-same old new told number asked h t

pub told-leaving : (answer : Left) (author seat : ℕ) (old new : Game) (told : Play) (number : ℕ) (asked : Asked) → IsLeft answer old new author seat → IsKept old told number asked
    → IsKept new told number asked
told-leaving left.Gone author seat old new told number asked h t = told-more old new _ told number asked h t
told-leaving left.NoMemory author seat old new told number asked h t = told-same old new told number asked h t

pub told-expiring : (answer : Expiry) (author window t1 t2 : ℕ) (old new : Game) (told : Play) (number : ℕ) (asked : Asked) →
    IsExpiry answer old new author window t1 t2 → IsKept old told number asked → IsKept new told number asked
told-expiring expiry.Closed author window t1 t2 old new told number asked h t = told-more old new _ told number asked h.1 t
told-expiring expiry.Stale author window t1 t2 old new told number asked h t = told-same old new told number asked h.1 t
told-expiring expiry.Early author window t1 t2 old new told number asked h t = told-same old new told number asked h.2 t
told-expiring expiry.NoMemory author window t1 t2 old new told number asked h t = told-same old new told number asked h t

-- What stands behind the first deeds.
behind-front : (told rest : List Deed) → slice_get (told ++ rest) (length told) ≡ slice_get rest 0
behind-front [] rest = refl
behind-front (d ∷ told) rest = behind-front told rest

at-place : (told : List Deed) (number : ℕ) (deeds : List Deed) (f : IsFront told number deeds) → slice_get deeds number ≡ slice_get f.rest 0
at-place told number deeds f =
    ap (λ (n : ℕ). slice_get deeds n) f.many ∙ (ap (λ (ds : List Deed). slice_get ds (length told)) f.all ∙ behind-front told f.rest)

first-of : (rest : List Deed) (d : Deed) → Some d ≡ slice_get rest 0 → (others : List Deed) × (rest ≡ d ∷ others)
first-of [] d e = absurd (some-none d e)
  where
    some-none : (x : Deed) → Some x ≡ None → ⊥
    some-none x h = grind (arith, h)
first-of (x ∷ others) d e = (others, ap (λ (o : Option Deed). unwrap_or o x ∷ others) (sym e))

-- The deed that is told next fits after those before it.
fits-behind : (red : Bool) (before told : List Deed) (d : Deed) (rest : List Deed) → all_fit red before (told ++ d ∷ rest) ≡ true → fits red (before ++ told) d ≡ true
fits-behind red before [] d rest h = subst (λ (xs : List Deed). fits red xs d ≡ true) (sym (append-nil before)) (and_parts (fits red before d) _ h).0
fits-behind red before (x ∷ told) d rest h =
    subst (λ (xs : List Deed). fits red xs d ≡ true) (append_assoc before (x ∷ []) told)
    (fits-behind red (before ++ x ∷ []) told d rest (and_parts (fits red before x) _ h).1)

pub next-fits : (red : Bool) (told : List Deed) (number : ℕ) (deeds : List Deed) (d : Deed) → IsFront told number deeds → Some d ≡ slice_get deeds number → all_fit red [] deeds ≡ true →
    fits red told d ≡ true
next-fits red told number deeds d f at fit =
    let rest = first-of f.rest d (at ∙ at-place told number deeds f) in
    fits-behind red [] told d rest.0 (subst (λ (ds : List Deed). all_fit red [] ds ≡ true) (f.all ∙ ap (λ (ds : List Deed). told ++ ds) rest.1) fit)

pub fit-by : (rules others : Rules) (deeds : List Deed) → rules ≡ others → all_fit others.red [] deeds ≡ true → all_fit rules.red [] deeds ≡ true
fit-by rules others deeds same fit = subst (λ (r : Rules). all_fit r.red [] deeds ≡ true) (sym same) fit

pub next-front : (told others : List Deed) (number next : ℕ) (deeds : List Deed) (d : Deed) → IsFront told number deeds → Some d ≡ slice_get deeds number → others ≡ told ++ d ∷ [] →
    next ≡ number + 1 → IsFront others next deeds
next-front told others number next deeds d f at more one =
    let rest = first-of f.rest d (at ∙ at-place told number deeds f) in
    record {
      rest = rest.0;
      all = f.all ∙ (ap (λ (ds : List Deed). told ++ ds) rest.1 ∙ (sym (append_assoc told (d ∷ []) rest.0) ∙ ap (λ (ds : List Deed). ds ++ rest.0) (sym more)));
      many = one ∙ (ap (λ (n : ℕ). n + 1) f.many ∙ (sym (length-append told (d ∷ [])) ∙ ap (λ (ds : List Deed). length ds) (sym more)));
    }
