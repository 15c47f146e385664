-- What a seat has learnt of a game up to a deed is all that it learns of the game's first entries.
use Rattle.std.proofs.Common.{◌≡◌, ⊎_elim, ℕ, ◌==◌, inl, inr, Bool, true, false, true≢false, cond, List, [], ◌∷◌, ◌++◌, length, refl, ap, sym, ◌∙◌, subst, append-nil, append_assoc}
use Rattle.std.specs.Prelude.{◌⊎◌, Option, Some, None}
use Rattle.mj_ports.specs.declared.entry.Entry.{Entry}
use Rattle.mj_ports.specs.declared.entry.Entry.TheVariants.{Sat, Back, Said, Gone, Expired}
use Rattle.mj_deeds.specs.declared.answer.Answer.{Answer}
use Rattle.mj_deeds.specs.declared.deed.Deed.{Deed}
use Rattle.mj_deeds.specs.declared.token.Token.{Token}
use Rattle.mj_wall.specs.declared.setting.Setting.{Setting}
use Rattle.mj_view.specs.Tokens.{token}
use Rattle.mj_history.specs.After.{After, before_all, own_part, next_deed, step}
use Rattle.mj_secrecy.specs.Trace.{Item, OwnSat, OwnBack, OwnSaid, OwnGone, Saw, own_items, seen_items, trace_from, trace}
use Rattle.mj_history.specs.Legal.{IsLegal, Game}
use Rattle.mj_secrecy.specs.Follows.{AgreeUpTo, Beginning, BeginAlike}
use Rattle.mj_history.proofs.Seated as seated

-- the items go on after what was given
pub record GoesOn (gave behind items : List Item) (t : Token) (more : List Item) : Type 0 where
  pub rest : List Item
  pub of_gave : items ≡ gave ++ rest
  pub on : behind ≡ rest ++ Saw t ∷ more

-- what was given ends them, or they go on
abbrev pub EndsOrGoesOn : List Item → List Item → List Item → Token → List Item → Type 0
EndsOrGoesOn gave behind items t more = (gave ≡ items ++ Saw t ∷ []) ⊎ GoesOn gave behind items t more

one_gave : (x : Item) (behind items : List Item) (t : Token) (more : List Item) → x ∷ behind ≡ items ++ Saw t ∷ more → ((x ≡ Saw t) × (items ≡ [])) ⊎ GoesOn (x ∷ []) behind items t more
one_gave x behind [] t more e = inl (cc, refl)
one_gave x behind (i ∷ items) t more e = inr (record { rest = items; of_gave = cc; on = cc })

seen_gave : (seat : ℕ) (added : Option Deed) (behind items : List Item) (t : Token) (more : List Item) → seen_items seat added ++ behind ≡ items ++
    Saw t ∷ more → EndsOrGoesOn (seen_items seat added) behind items t more
seen_gave seat None behind items t more e = inr (record { rest = items; of_gave = refl; on = e })
seen_gave seat (Some d) behind items t more e = ⊎_elim
    (λ (p : (Saw (token seat d) ≡ Saw t) × (items ≡ [])). inl (ap (λ (x : Item). x ∷ []) p.0 ∙ sym (ap (λ (is : List Item). is ++ Saw t ∷ []) p.1)))
    (λ (g : GoesOn (Saw (token seat d) ∷ []) behind items t more). inr g)
    (one_gave (Saw (token seat d)) behind items t more e)

abbrev pub is_own : Item → Bool
is_own (Saw t) = false
is_own other = true

own_gave : (x : Item) (seat : ℕ) (added : Option Deed) (behind items : List Item) (t : Token) (more : List Item) → is_own x ≡ true →
    x ∷ (seen_items seat added ++ behind) ≡ items ++ Saw t ∷ more → EndsOrGoesOn (x ∷ seen_items seat added) behind items t more
own_gave x seat added behind items t more own e = ⊎_elim
    (λ (p : (x ≡ Saw t) × (items ≡ [])). absurd (true≢false (sym own ∙ ap is_own p.0)))
    (λ (g : GoesOn (x ∷ []) (seen_items seat added ++ behind) items t more). ⊎_elim
    (λ (r : seen_items seat added ≡ g.rest ++ Saw t ∷ []). inl (ap (λ (is : List Item). x ∷ is) r ∙ sym (ap (λ (is : List Item). is ++ Saw t ∷ []) g.of_gave)))
    (λ (k : GoesOn (seen_items seat added) behind g.rest t more). inr (record { rest = k.rest; of_gave = g.of_gave ∙ ap (λ (is : List Item). x ∷ is) k.of_gave; on = k.on }))
    (seen_gave seat added behind g.rest t more g.on))
    (one_gave x (seen_items seat added ++ behind) items t more e)

by_own : (b : Bool) (x : Item) (seat : ℕ) (added : Option Deed) (behind items : List Item) (t : Token) (more : List Item) → is_own x ≡ true →
    cond b (x ∷ []) [] ++ (seen_items seat added ++ behind) ≡ items ++ Saw t ∷ more →
    EndsOrGoesOn (cond b (x ∷ []) [] ++ seen_items seat added) behind items t more
by_own true x seat added behind items t more own e = own_gave x seat added behind items t more own e
by_own false x seat added behind items t more own e = seen_gave seat added behind items t more e

entry_gave : (seat : ℕ) (now : After) (entry : Entry Answer) (added : Option Deed) (behind items : List Item) (t : Token) (more : List Item) →
    own_items seat now entry ++ (seen_items seat added ++ behind) ≡ items ++ Saw t ∷ more →
    EndsOrGoesOn (own_items seat now entry ++ seen_items seat added) behind items t more
entry_gave seat now (Sat author name key) added behind items t more e = by_own (length now.chairs == seat) (OwnSat name key) seat added behind items t more refl e
entry_gave seat now (Back author who) added behind items t more e = by_own (who == seat) OwnBack seat added behind items t more refl e
entry_gave seat now (Said author who answer) added behind items t more e = by_own (who == seat) (OwnSaid answer) seat added behind items t more refl e
entry_gave seat now (Gone author who) added behind items t more e = by_own (who == seat) OwnGone seat added behind items t more refl e
entry_gave seat now (Expired author window t1 t2) added behind items t more e = seen_gave seat added behind items t more e

-- entries cut where just these items were learnt
pub record Cut (setting : Setting) (seat : ℕ) (now : After) (entries : List (Entry Answer)) (items : List Item) : Type 0 where
  pub first : List (Entry Answer)
  pub later : List (Entry Answer)
  pub are : entries ≡ first ++ later
  pub learnt : trace_from setting seat now first ≡ items

nothing_learnt : (items more : List Item) (t : Token) → [] ≡ items ++ Saw t ∷ more → ⊥
nothing_learnt [] more t e = cc
nothing_learnt (i ∷ items) more t e = cc

cut_from : (setting : Setting) (seat : ℕ) (entries : List (Entry Answer)) (now : After) (items : List Item) (t : Token) (more : List Item) →
    trace_from setting seat now entries ≡ items ++ Saw t ∷ more → Cut setting seat now entries (items ++ Saw t ∷ [])
cut_from setting seat [] now items t more e = absurd (nothing_learnt items more t e)
cut_from setting seat (entry ∷ entries) now items t more e =
    let added : Option Deed = next_deed setting (own_part setting now entry) entry in
    let own : List Item = own_items seat now entry in
    let seen : List Item = seen_items seat added in
    let next : After = step setting now entry in
    let last : List Item = Saw t ∷ [] in
    ⊎_elim
    (λ (r : own ++ seen ≡ items ++ last). record {
      first = entry ∷ [];
      later = entries;
      are = refl;
      learnt = ap (λ (is : List Item). own ++ is) (append-nil seen) ∙ r;
    })
    (λ (g : GoesOn (own ++ seen) (trace_from setting seat next entries) items t more).
    let c = cut_from setting seat entries next g.rest t more g.on in
    record {
      first = entry ∷ c.first;
      later = c.later;
      are = ap (λ (es : List (Entry Answer)). entry ∷ es) c.are;
      learnt =
          ap (λ (is : List Item). own ++ (seen ++ is)) c.learnt
          ∙ sym (append_assoc own seen (g.rest ++ last))
          ∙ sym (append_assoc (own ++ seen) g.rest last)
          ∙ ap (λ (is : List Item). is ++ last) (sym g.of_gave);
    })
    (entry_gave seat now entry added (trace_from setting seat next entries) items t more e)

-- the beginning of a game up to a deed that a seat saw
beginning : (seat : ℕ) (items : List Item) (t : Token) (more : List Item) (game : Game) → trace seat game.setting game.entries ≡ items ++ Saw t ∷ more → Beginning seat (items ++ Saw t ∷ []) game
beginning seat items t more game e =
    let c = cut_from game.setting seat game.entries before_all items t more e in
    record { first = c.first; later = c.later; are = c.are; learnt = c.learnt }

-- a beginning of a legal game is legal
begins_legal : (seat : ℕ) (items : List Item) (game : Game) (b : Beginning seat items game) → IsLegal game.setting game.entries → IsLegal game.setting b.first
begins_legal seat items game b legal = seated.beginnings_are_legal game.setting b.first b.later (subst (λ (es : List (Entry Answer)). IsLegal game.setting es) b.are legal)

-- games of which a seat learns the same up to a deed begin with games that agree
pub beginnings_agree : (seat : ℕ) (items : List Item) (t : Token) (g h : Game) → AgreeUpTo seat items t g h → BeginAlike seat (items ++ Saw t ∷ []) g h
beginnings_agree seat items t g h a =
    let one = beginning seat items t a.later g a.begins in
    let other = beginning seat items t a.other_later h a.other_begins in
    record {
      one = one;
      other = other;
      agree = record {
        legal = begins_legal seat (items ++ Saw t ∷ []) g one a.legal;
        other_legal = begins_legal seat (items ++ Saw t ∷ []) h other a.other_legal;
        draws = a.draws;
        red = a.red;
        same = one.learnt ∙ sym other.learnt;
      };
    }
